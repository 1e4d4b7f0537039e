use Rattle.std.proofs.Common.{List, subst}
use Rattle.std.specs.List.{AllZip}
use Rattle.isle_rules.specs.declared.rules.IfLet.{IfLet}
use Rattle.isle_program.specs.Plain.LaidOut.Rules.{IsConditionLaidOut}
use Rattle.isle_program.proofs.laid.LaidRule.new.Goals as goal

pub returns : goal.returns
returns c = λ tyenv. record {
  iflets = subst (λ (iflets : List IfLet). AllZip (IsConditionLaidOut tyenv c.args.termenv.now) iflets c.in_ok-lay_iflets.field-0.items)
      c.as_slice.ensures (c.in_ok-lay_iflets.ensures tyenv);
  right = c.in_ok-new.ensures tyenv;
}
