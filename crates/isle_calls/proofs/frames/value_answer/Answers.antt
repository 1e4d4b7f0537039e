use Rattle.std.proofs.Common.{◌≡◌, ◌∙◌, ℕ, suc, ap, sym, subst}
use Rattle.isle_meaning.specs.GroundValues.{value_of, IsValueOf}
use Rattle.isle_meaning.specs.Outcomes.{given}
use Rattle.isle_meaning.specs.ValueTypes.{IsOfType}
use Rattle.isle_program.specs.declared.program.Program.{Program}
use Rattle.isle_calls.specs.Calls.Ways.{Comes}
use Rattle.isle_program.specs.Meanings.{checked}
use Rattle.isle_calls.specs.Stores.Values.{Stands}
use Rattle.isle_calls.proofs.frames.value_answer.Goals as goal

pub returns : goal.returns
returns g c = λ goal since of named ready comes.
    let way = g.R.Road.way in
    let (v, stands, run) = comes in
    let here = c.program-program.result.now in
    let same_program : goal.program ≡ here = of ∙ sym c.program-program.ensures in
    let ty = c.type_of.result.0 in
    let typed_there = c.laws.ensures.typed goal.program goal.answers (suc goal.depth) goal.term goal.args
    (way.steps_of c.args.top.now) since v ready run in
    let same : (checked goal.program).terms.type_of goal.term ≡ ty =
    ap (λ (q : Program). (checked q).terms.type_of goal.term) same_program ∙ (ap (checked here).terms.type_of named ∙ sym c.type_of.ensures) in
    let typed : IsValueOf (checked here).values v ty =
    subst (λ (q : Program). IsValueOf (checked q).values v ty) same_program (subst (IsValueOf (checked goal.program).values v) same typed_there) in
    let told = c.in_ok-value.ensures v (subst (λ l. Stands l v c.args.number) (sym c.store.ensures) stands) typed in
    let value = c.in_ok-value.value in
    let is : value_of (checked goal.program).values value ≡ v =
    subst (λ (q : Program). value_of (checked q).values value ≡ v) (sym same_program) told.1 in
    let fits : IsOfType (checked goal.program).values value ((checked goal.program).terms.type_of goal.term) =
    subst (IsOfType (checked goal.program).values value) (sym same)
    (subst (λ (q : Program). IsOfType (checked q).values value ty) (sym same_program) told.0) in
    (given v, (ap given (sym is), fits), subst (λ (n : ℕ). Comes way goal n since (given v)) (sym c.steps.ensures) run)
