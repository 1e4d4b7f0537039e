use Rattle.std.proofs.Common.{◌≡◌, ℕ, Option, Some, None, refl, sym, ◌∙◌, ap, subst}
use Rattle.std.specs.Prelude.{IfSome, IfNone}
use Rattle.std.proofs.lemmas.Option.{same_Some}
use Rattle.isle_blocks.specs.declared.constraint.Constraint.{Constraint}
use Rattle.isle_blocks.specs.Inside.ClosureFields.{Opens, field_binding}
use Rattle.isle_blocks.proofs.close.depth.unmarked_child.Goals as goal

when_none : (o : Option ℕ) (P Q : Type 0) → (P → Q) → IfNone o P → IfNone o Q
when_none None P Q f h = f h
when_none (Some x) P Q f h = h

when_some : (o : Option ℕ) (P Q : ℕ → Type 0) → ((k : ℕ) → P k → Q k) → IfSome o P → IfSome o Q
when_some None P Q f h = h
when_some (Some x) P Q f h = f x h

pub returns-clause-none : goal.returns-clause-none
returns-clause-none c = when_none c.unmarked_field.result _ _ (λ all g k child.
    let same : child.test ≡ c.in-Some.test = same_Some _ _ (sym child.has ∙ c.in-Some.ensures) in
    let at = (c.in-Some-opens.ensures child.kind child.index).0 (subst (λ (t : Constraint). Opens t child.kind child.index) same child.opened) in
    all child.index k at.1 (g, child.field ∙ ap Some (λ j. field_binding (at.0 j) c.args.r child.index), child.leads)) c.unmarked_field.ensures.none

pub returns-clause-some : goal.returns-clause-some
returns-clause-some c = when_some c.unmarked_field.result _ _ (λ k (i, low, (g, at, leads), u). record {
  field = g;
  is_child = record {
    test = c.in-Some.test;
    kind = _;
    index = i;
    has = c.in-Some.ensures;
    opened = (c.in-Some-opens.ensures _ i).1 (refl, low);
    field = at;
    leads = leads;
  };
  unmarked = u;
}) c.unmarked_field.ensures.some
