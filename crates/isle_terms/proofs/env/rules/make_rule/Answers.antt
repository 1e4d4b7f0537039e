use Rattle.std.proofs.Common.{refl, sym, subst, ◌∙◌}
use Rattle.std.specs.List.{AllZip}
use Rattle.isle_types.specs.TypeEnvs.{CountUp}
use Rattle.std.proofs.Common.{rules}
use mir.Syntax.{w64}
use mir.Val.{SFits}
use Rattle.std.proofs.lemmas.Int.{to_z-of_z}
use Rattle.isle_rules.specs.declared.rules.BoundVar.{BoundVar}
use Rattle.isle_rules.specs.Shown.RulesShown.{IsShownVariable}
use Rattle.isle_terms.proofs.Showing.RulesShown.{made_is_shown}
use Rattle.isle_terms.proofs.env.rules.make_rule.Goals as goal

pub returns-clause-shown : goal.returns-clause-shown
returns-clause-shown c =
    let read = c.args.read in
    let mid = c.intern_variables.new.tyenv.names in
    let fits : SFits w64 c.unwrap_or.result = search rules in
    made_is_shown c.args.tyenv.now.names mid c.intern_name.new.tyenv.names c.intern_variables.ensures.same.kept c.intern_name.ensures.same.kept
    c.args.tree.now read.root.0 read.parts read.bindings _ c.requires refl c.new.ensures c.new-2.ensures refl
    (rw c.new-3.ensures (subst (λ variables. AllZip (IsShownVariable mid) variables c.in_ok-vars.vars.items) c.into_vars.ensures
    c.in_ok-vars.ensures.shown))
    (subst (CountUp (λ (variable : BoundVar). variable.id.0) 0) (sym c.new-3.ensures) c.in_ok-vars.ensures.numbers)
    (to_z-of_z w64 c.unwrap_or.result fits ∙ c.unwrap_or.ensures) refl c.in_ok-name.ensures.shown
