use Rattle.std.proofs.Common.{List, Option, Some, None, subst}
use Rattle.std.proofs.lemmas.Result.{err_from_is_err_and}
use Rattle.isle_meaning.specs.Demands.{Among}
use Rattle.isle_meaning.specs.Faults.{IsUnreachable}
use Rattle.isle_blocks.specs.declared.ids.BindingId.{BindingId}
use Rattle.isle_blocks.specs.declared.constraint.Constraint.{Constraint}
use Rattle.isle_blocks.specs.declared.placing.PlacedRule.{PlacedRule}
use Rattle.isle_blocks.specs.Inside.Placing.{ForDemandsOf, IsPlaced, HasNoRoomFor}
use Rattle.isle_blocks.proofs.Assembled.{assembled}
use Rattle.isle_blocks.proofs.assembly.add_rule.Goals as goal

pub returns-in_err-placed-clause-full : goal.returns-in_err-placed-clause-full
returns-in_err-placed-clause-full c =
    let e = err_from_is_err_and c.from_residual.result c.from_residual.ensures.1 in
    let own = c.args.built.now.sites in let base = c.args.table.now in
    rw (e.1, e.2) (λ size.
    subst (λ (l : List (BindingId × Constraint)). ForDemandsOf own l c.args.built.now.same.items
    (λ name ds. (IsUnreachable (Among ds) → ⊥) × HasNoRoomFor name ds base own))
    c.deref.ensures.value
    (subst (λ (l : List (BindingId × BindingId)). ForDemandsOf own c.deref.result.now l
    (λ name ds. (IsUnreachable (Among ds) → ⊥) × HasNoRoomFor name ds base own))
    c.deref-2.ensures.value (c.in_err-placed.ensures.full size)))

pub returns-in_default-clause-assembled : goal.returns-in_default-clause-assembled
returns-in_default-clause-assembled c =
    let own = c.args.built.now.sites in let base = c.args.table.now in let grown = c.place_rule.new.own in let table = c.place_rule.new.table in
    let given = subst (λ (q : Option PlacedRule). ForDemandsOf own c.deref.result.now c.deref-2.result.now
    (λ name ds. IsPlaced name ds base own grown table q))
    c.in_default.is c.in_ok-placed.ensures.placed in
    subst (λ (l : List (BindingId × Constraint)). ForDemandsOf own l c.args.built.now.same.items
    (λ name ds. IsPlaced name ds base own grown table None))
    c.deref.ensures.value
    (subst (λ (l : List (BindingId × BindingId)). ForDemandsOf own c.deref.result.now l (λ name ds. IsPlaced name ds base own grown table None))
    c.deref-2.ensures.value given)

pub returns-clause-assembled : goal.returns-clause-assembled
returns-clause-assembled c = λ name injective ds recorded.
    let own = c.args.built.now.sites in let base = c.args.table.now in let grown = c.place_rule.new.own in let table = c.place_rule.new.table in
    let placed = Some c.in-Some.placed in
    let given = subst (λ (q : Option PlacedRule). ForDemandsOf own c.deref.result.now c.deref-2.result.now
    (λ name ds. IsPlaced name ds base own grown table q))
    c.in-Some.is c.in_ok-placed.ensures.placed in
    let all = subst (λ (l : List (BindingId × Constraint)). ForDemandsOf own l c.args.built.now.same.items
    (λ name ds. IsPlaced name ds base own grown table placed))
    c.deref.ensures.value
    (subst (λ (l : List (BindingId × BindingId)). ForDemandsOf own c.deref.result.now l (λ name ds. IsPlaced name ds base own grown table placed))
    c.deref-2.ensures.value given) in
    let m = c.in_ok-made_rule.ensures in
    assembled name injective ds base own grown table c.in-Some.placed (all name injective ds recorded) c.requires.table c.requires.ready.sites
    c.args.built.now.impure.items c.args.built.now.result c.in_ok-made_rule.field-0 m.tests m.ascending m.equalities
    m.disjoint m.iterators m.sorted m.impure m.site
