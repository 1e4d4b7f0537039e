use Rattle.std.proofs.Common.{◌≡◌, ◌∷◌, [], List, length, reverse, refl, sym, ap, subst, ◌∙◌}
use Rattle.std.proofs.lemmas.Result.{IfOk-weaker}
use Rattle.isle_rules.specs.Values.{more_trees, no_trees}
use Rattle.isle_meaning.specs.GroundValues.{value_of}
use Rattle.isle_meaning.specs.ValueTypes.{IsOfType}
use Rattle.isle_program.specs.Programs.{value_facts, types_of}
use Rattle.isle_calls.specs.Inside.Stores.Printing.{Leads, printed}
use Rattle.isle_program.proofs.SoundPrograms.Known.{sound_of}
use Rattle.isle_values.proofs.GroundValues.LaidValues.{reverse_pushed}
use Rattle.isle_calls.proofs.Stores.Printing.{printed_of_type}
use Rattle.isle_calls.proofs.store.Store.print.Goals as goal

nothing : {X : Type 0} (l : List X) → length l ≡ 0 → l ≡ []
nothing [] e = refl
nothing (x ∷ l) e = absurd cc

pub loop-i-init : goal.loop-i-init
loop-i-init c = λ v is.
    let facts = value_facts c.args.program.now in
    let env = types_of c.args.program.now in
    let tree = printed facts env v c.args.ty.0 in
    subst (λ l. Leads facts env c.args.self.now (reverse l) c.new-laid.result (more_trees tree no_trees)) (sym c.in_ok-left.ensures.items)
    (v, is, ap (more_trees tree) c.new-laid.ensures)

pub loop-i-preserved : goal.loop-i-preserved
loop-i-preserved c = λ v is.
    let facts = value_facts c.args.program.now in
    let env = types_of c.args.program.now in
    let made = more_trees (printed facts env v c.args.ty.0) no_trees in
    let steps = ap reverse c.in-Some.ensures.items ∙ reverse_pushed c.pop.new.self.items c.in-Some.step in
    c.in_ok-take_step-in-Some.ensures made
    (subst (λ l. Leads facts env c.args.self.now l c.loop-i.laid made) steps (c.loop-i.invariant v is))

pub returns-in-None : goal.returns-in-None
returns-in-None c =
    let named = (sound_of c.args.program.now).known.printed in
    let facts = value_facts c.args.program.now in
    let env = types_of c.args.program.now in
    IfOk-weaker c.only_value.result _ _ (λ value only v is typed.
    let tree = printed facts env v c.args.ty.0 in
    let none = nothing c.loop-i.left.items (sym c.loop-i.left.ok.0 ∙ c.in-None.ensures.cases.0) in
    let one : c.loop-i.laid ≡ more_trees tree no_trees =
    subst (λ l. Leads facts env c.args.self.now (reverse l) c.loop-i.laid (more_trees tree no_trees)) none (c.loop-i.invariant v is) in
    let same : value ≡ tree = only tree one in
    let of = printed_of_type c.args.program.now named v c.args.ty.0 typed in
    (subst (λ t. IsOfType facts t c.args.ty.0) (sym same) of.0, ap (value_of facts) same ∙ of.1)) c.only_value.ensures
