-- Which want makes a site, and where the sites of fields stand.
use Rattle.std.proofs.Common.{◌≡◌, inl, inr, ℕ, zero, suc, ◌<◌, ◌==◌, ◌&&◌, ◌++◌, List, [], ◌∷◌, true, false, Option, Some, None, length, refl, sym, ◌∙◌, ap, subst, arith, map, slice_get, eqb-true}
use Rattle.std.proofs.lemmas.List.{map-append}
use Rattle.std.proofs.lemmas.Option.{same_Some, slice_get_within}
use Rattle.std.specs.Option.{option_map}
use Rattle.isle_types.specs.Names.{AreDistinct}
use Rattle.isle_trees.specs.Rules.{Tests, Want, has, Source, Rules}
use Rattle.isle_trees.specs.Scopes.{Scope, emit, same_want, is_source}
use Rattle.isle_trees.specs.Search.{same_wants, with_made}
use Rattle.isle_trees.proofs.Basics.{SameIs, SameSelf, true_or, want_is, want_same, source_is}
use Rattle.isle_trees.proofs.Building.Lists.{both_ways}
use Rattle.isle_blocks.specs.declared.binding.Binding.{Binding}
use Rattle.isle_blocks.specs.declared.binding.Binding.TheVariants as sites
use Rattle.isle_blocks.specs.declared.constraint.Constraint.{Constraint}
use Rattle.isle_blocks.specs.declared.ids.BindingId.{BindingId}
use Rattle.isle_blocks.specs.declared.rule.Rule.{Rule}
use Rattle.isle_blocks.specs.RuleSets.{RulesOverSites}
use Rattle.isle_blocks.specs.Tables.{IsAbsent, IsFound}
use Rattle.isle_blocks.specs.Inside.Trees.Builder.{AreOpeners, rules_in, source_in}
use Rattle.isle_blocks.specs.Trees.View.{field_of, keep, made_by, place_of, read_or, same_binding}
use Rattle.isle_blocks.specs.Inside.Trees.Work.{options_shown}
use Rattle.isle_blocks.proofs.EqualSites.{binding-decides}
use Rattle.isle_blocks.proofs.EqualTests.{constraint-decides}

-- `==` tells tests apart
pub tests_apart : (set : RulesOverSites) → SameIs (rules_in set).tests
tests_apart set c d e = (constraint-decides c d).0 e

pub tests_self : (set : RulesOverSites) → SameSelf (rules_in set).tests
tests_self set c = (constraint-decides c c).1 refl

want_turned : {C V : Type 0} (T : Tests C V) (w u : Want C) → SameIs T → SameSelf T → same_want T w u ≡ same_want T u w
want_turned {C} T w u k s = both_ways (same_want T w u) (same_want T u w)
    (λ e. let P : Want C → Type 0 = λ z. same_want T z w ≡ true in subst P (sym (want_is T w u k e)) (want_same T w s))
    (λ e. let P : Want C → Type 0 = λ z. same_want T z u ≡ true in subst P (sym (want_is T u w k e)) (want_same T u s))

-- the site whose test makes this one is that of the want
abbrev site_of : Source Constraint → ℕ
site_of m = m.site

made_source : (rules : List Rule) (o : Option Binding) → source_in o ≡ option_map site_of (read_or None (made_by rules) o)
made_source rules None = refl
made_source rules (Some (sites.ConstBool val ty)) = refl
made_source rules (Some (sites.ConstInt val ty)) = refl
made_source rules (Some (sites.ConstPrim val)) = refl
made_source rules (Some (sites.Argument index)) = refl
made_source rules (Some (sites.Extractor term parameter)) = refl
made_source rules (Some (sites.Constructor term parameters instance)) = refl
made_source rules (Some (sites.Iterator source)) = refl
made_source rules (Some (sites.MakeVariant ty variant fields)) = refl
made_source rules (Some (sites.MatchVariant source variant field)) = refl
made_source rules (Some (sites.MakeStruct ty fields)) = refl
made_source rules (Some (sites.ExtractStruct source field)) = refl
made_source rules (Some (sites.MakeSome inner)) = refl
made_source rules (Some (sites.MatchSome source)) = refl
made_source rules (Some (sites.MatchTuple source field)) = refl

some_site : (o : Option (Source Constraint)) (s : ℕ) → option_map site_of o ≡ Some s → (m : Source Constraint) × (o ≡ Some m) × (m.site ≡ s)
some_site None s e = cc
some_site (Some m) s e = (m, refl, same_Some _ _ e)

-- no rule's want makes a site that no rule opens
pub made_unopened : (set : RulesOverSites) (n : ℕ) (openers : ℕ → Option ℕ) (x rule source : ℕ) (w : Want Constraint) → AreOpeners set n openers
    → x < n → openers x ≡ None → (rules_in set).at rule source ≡ Some w
    → is_source (rules_in set).tests source w ((rules_in set).made x) ≡ false
made_unopened set n openers x rule source w h l e f =
    let R = rules_in set in
    elim (true_or (is_source R.tests source w (R.made x))) [
      | inl y ↦ absurd (h.none x rule (record { site = source; want = w }) l (source_is R.tests source w (R.made x) (tests_apart set) y) e f)
      | inr f0 ↦ f0
    ]

-- else a rule's want makes it that is the want of its opener
pub made_opened : (set : RulesOverSites) (n : ℕ) (openers : ℕ → Option ℕ) (x own opener rule source : ℕ) (w : Want Constraint)
    → AreOpeners set n openers
    → source_in (slice_get set.sites x) ≡ Some own → openers x ≡ Some opener → (rules_in set).at rule source ≡ Some w
    → ((own == source) && same_wants (rules_in set).tests ((rules_in set).at opener source) ((rules_in set).at rule source))
    ≡ is_source (rules_in set).tests source w ((rules_in set).made x)
made_opened set n openers x own opener rule source w h s e f =
    let R = rules_in set in
    let has = some_site (R.made x) own (sym (made_source set.rules (slice_get set.sites x)) ∙ s) in
    let m = has.0 in
    let first : R.at opener m.site ≡ Some m.want = h.first x opener m (has.1) e in
    elim (true_or (own == source)) [
      | inl y ↦
          let at : m.site ≡ source = has.2 ∙ eqb-true own source y in
          let P : ℕ → Type 0 = λ z. R.at opener z ≡ Some m.want in
          let here : R.at opener source ≡ Some m.want = subst P at first in
          rw (has.1, has.2, y, here, f) (want_turned R.tests m.want w (tests_apart set) (tests_self set))
      | inr f0 ↦ rw (has.1, has.2, f0) refl
    ]

-- a site's first number, where each stands once
tail_distinct : (y : Binding) (ys : List Binding) → AreDistinct (y ∷ ys) → AreDistinct ys
tail_distinct y ys d x i j p q = let e : suc i ≡ suc j = d x (suc i) (suc j) p q in omega arith

place_first : (b : Binding) (all : List Binding) (i : ℕ) → AreDistinct all → slice_get all i ≡ Some b → place_of b all ≡ Some i
place_first b [] i d e = cc
place_first b (y ∷ ys) zero d e = rw ((binding-decides y b).1 (same_Some _ _ e)) refl
place_first b (y ∷ ys) (suc i) d e = elim (true_or (same_binding y b)) [
  | inl t ↦ let z : 0 ≡ suc i = d b 0 (suc i) (ap Some ((binding-decides y b).0 t)) e in absurd (omega arith)
  | inr f ↦ rw (f, place_first b ys i (tail_distinct y ys d) e) refl
]

place_none : (b : Binding) (all : List Binding) → IsAbsent all b → place_of b all ≡ None
place_none b [] h = refl
place_none b (y ∷ ys) h = elim (true_or (same_binding y b)) [
  | inl t ↦ absurd (h 0 (ap Some ((binding-decides y b).0 t)))
  | inr f ↦ rw (f, place_none b ys (λ k e. h (suc k) e)) refl
]

pub found_place : (all : List Binding) (b : Binding) (o : Option BindingId) → AreDistinct all → IsFound all b o
    → place_of b all ≡ option_map (λ (id : BindingId). id.0) o
found_place all b None d h = place_none b all h
found_place all b (Some id) d h = place_first b all id.0 d h

pub found_below : (all : List Binding) (b : Binding) (o : Option BindingId) → IsFound all b o → (x : BindingId) → o ≡ Some x → x.0 < length all
found_below all b None h x e = cc
found_below all b (Some id) h x e =
    slice_get_within all x.0 b (let P : BindingId → Type 0 = λ z. slice_get all z.0 ≡ Some b in subst P (same_Some _ _ e) h)

abbrev number : BindingId → ℕ
number id = id.0

pub bound_made : {C V : Type 0} (R : Rules C V) (s : ℕ) (w : Want C) (sc new : Scope C) (x : ℕ) → is_source R.tests s w (R.made x) ≡ true
    → new ≡ emit sc x → new ≡ with_made R s w sc x
bound_made R s w sc new x e f = rw e f

-- fields so far, and one more
pub fields_more : (set : RulesOverSites) (s : ℕ) (c : Constraint) (front : List Binding) (b : Binding) (old new : List (Option BindingId))
    (found kept : Option BindingId) → AreDistinct set.sites → IsFound set.sites b found
    → option_map number kept ≡ keep (λ x. is_source (rules_in set).tests s (has c) ((rules_in set).made x)) (option_map number found)
    → new ≡ old ++ kept ∷ []
    → options_shown old ≡ map (field_of (λ s. []) set s c) front → options_shown new ≡ map (field_of (λ s. []) set s c) (front ++ b ∷ [])
fields_more set s c front b old new found kept d f k p h =
    let one : option_map number kept ≡ field_of (λ s. []) set s c b =
    k ∙ ap (keep (λ x. is_source (rules_in set).tests s (has c) ((rules_in set).made x))) (sym (found_place set.sites b found d f)) in
    ap options_shown p ∙ map-append (option_map number) old (kept ∷ []) ∙ ap (λ (l : List (Option ℕ)). l ++ option_map number kept ∷ []) h
    ∙ ap (λ (o : Option ℕ). map (field_of (λ s. []) set s c) front ++ o ∷ []) one ∙ sym (map-append (field_of (λ s. []) set s c) front (b ∷ []))

-- the same site, by its number in a list
pub bound_at : {C V : Type 0} (R : Rules C V) (s : ℕ) (w : Want C) (sc new : Scope C) (x y : ℕ) → y ≡ x → new ≡ with_made R s w sc x
    → new ≡ with_made R s w sc y
bound_at R s w sc new x y e f = f ∙ ap (with_made R s w sc) (sym e)
