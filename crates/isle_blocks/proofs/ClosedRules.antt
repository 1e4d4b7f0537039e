-- What is said of numbers is said of sites.
use Rattle.std.proofs.Common.{◌≡◌, ℕ, List, Contains, subst, sym, ap, ◌∙◌}
use Rattle.isle_types.specs.declared.ids.Sym.{Sym}
use Rattle.isle_meaning.specs.Sites.{Site}
use Rattle.isle_meaning.specs.Demands.{Demand, constrained, Among}
use Rattle.isle_meaning.specs.Demands as meaning
use Rattle.isle_meaning.specs.Derived.{Derived}
use Rattle.isle_meaning.specs.Faults as faults
use Rattle.isle_meaning.specs.Numbered.{Row}
use Rattle.isle_meaning.proofs.Matching.Numbering.{one_site}
use Rattle.isle_blocks.specs.declared.ids.BindingId.{BindingId}
use Rattle.isle_blocks.specs.declared.constraint.Constraint.{Constraint}
use Rattle.isle_blocks.specs.Rows.{IsInjective, test_of}
use Rattle.isle_blocks.specs.Rules.{Tests, AreApart, AreWithin}
use Rattle.isle_blocks.specs.ClosedRules.{StandOnce, AreDerived, NumbersSayDiffer, NumbersSayWithin}
use Rattle.isle_blocks.proofs.Rows.RowsInjective.{test-injective}

pub same_id : (a b : BindingId) → a.0 ≡ b.0 → a ≡ b
same_id a b e i = record { 0 = e i }

module _ (name : Sym → List ℕ) (injective : IsInjective name) (rows : List Row) (once : StandOnce rows) (D E : Demand → Type 0)
    (first second : Tests) (left : AreDerived name rows D first) (right : AreDerived name rows E second) where
  differ_from_apart : AreApart first second → faults.Differ D E
  differ_from_apart a =
      let (s, at, has) = left.derived a.site a.one a.has_one in
      let (u, also, other) = right.derived a.site a.other a.has_other in
      let same : u ≡ s = one_site rows u s a.site.0 also at in
      record {
        site = s;
        one = test_of name a.one;
        other = test_of name a.other;
        has_one = has;
        has_other = subst (λ (w : Site). Derived E (constrained w (test_of name a.other))) same other;
        apart = λ e. a.differ (test-injective name injective a.one a.other e);
      }

  apart_from_differ : faults.Differ D E → AreApart first second
  apart_from_differ d =
      let (k, one, has, at, is) = left.all d.site d.one d.has_one in
      let (l, other, also, there, was) = right.all d.site d.other d.has_other in
      let same : l ≡ k = same_id l k (once d.site l.0 k.0 there at) in
      record {
        site = k;
        one = one;
        other = other;
        has_one = has;
        has_other = subst (λ (id : BindingId). Contains second (id, other)) same also;
        differ = λ e. d.apart (sym is ∙ ap (test_of name) e ∙ was);
      }

  meaning_within : AreWithin first second → faults.IsWithin D E
  meaning_within h s c has =
      let (k, test, stands, at, is) = left.all s c has in
      let (u, also, derived) = right.derived k test (h k test stands) in
      let same : u ≡ s = one_site rows u s k.0 also at in
      subst (λ (d : meaning.Constraint). Derived E (constrained s d)) is
      (subst (λ (w : Site). Derived E (constrained w (test_of name test))) same derived)

  numbers_within : faults.IsWithin D E → AreWithin first second
  numbers_within h k test stands =
      let (s, at, has) = left.derived k test stands in
      let (l, other, also, there, was) = right.all s (test_of name test) (h s (test_of name test) has) in
      let same : l ≡ k = same_id l k (once s l.0 k.0 there at) in
      let alike : other ≡ test = test-injective name injective other test was in
      subst (λ (t : Constraint). Contains second (k, t)) alike (subst (λ (id : BindingId). Contains second (id, other)) same also)

pub numbers_say_differ : NumbersSayDiffer
numbers_say_differ name injective rows once ds es first second left right = (
  differ_from_apart name injective rows once (Among ds) (Among es) first second left right,
  apart_from_differ name injective rows once (Among ds) (Among es) first second left right,
)

pub numbers_say_within : NumbersSayWithin
numbers_say_within name injective rows once ds es first second left right = (
  meaning_within name injective rows once (Among ds) (Among es) first second left right,
  numbers_within name injective rows once
      (Among ds) (Among es) first second left right,
)
