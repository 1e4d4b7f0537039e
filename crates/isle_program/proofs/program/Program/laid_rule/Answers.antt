use Rattle.std.proofs.Common.{◌≡◌, List, length, Some, slice_get, refl, sym, ap, ◌∙◌, arith}
use Rattle.std.proofs.lemmas.Option.{slice_get_read}
use Rattle.std.proofs.lemmas.Slice.Zip.{AllZip-long}
use Rattle.isle_rules.specs.declared.rules.Rule.{Rule}
use Rattle.isle_program.specs.Plain.LaidOut.Rules.{IsRuleLaidOut, AreRulesLaidOut}
use Rattle.isle_program.specs.declared.laid.LaidRule.{LaidRule}
use Rattle.isle_program.proofs.Plain.LaidOut.Told.{all_laid_told, zip_at}
use Rattle.isle_program.proofs.Plain.LaidOut.Tried.{laid_rule_at}
use Rattle.isle_program.proofs.program.Program.laid_rule.Goals as goal

pub returns-in_err-laid : goal.returns-in_err-laid
returns-in_err-laid c =
    let program = c.args.self.now in
    let all : AreRulesLaidOut program.tyenv program.termenv program.laid.items =
    all_laid_told program.tyenv program.termenv program.laid.items program.laid_out in
    let long : length program.laid.items ≡ length program.termenv.rules =
    AllZip-long (IsRuleLaidOut program.tyenv program.termenv) program.termenv.rules program.laid.items all in
    let low = c.in_ok-rule.ensures.lookup.3.0 in
    let high = c.in_err-laid.ensures.lookup.3 in
    absurd (omega (arith, long, low, high, ap length c.rules.ensures, ap length c.deref.ensures.value))

pub returns : goal.returns
returns c =
    let program = c.args.self.now in
    let rule : slice_get program.termenv.rules c.args.place ≡ Some c.in_ok-rule.rule.now =
    ap (λ (l : List Rule). slice_get l c.args.place) (sym c.rules.ensures)
    ∙ slice_get_read c.rules.result.now (length c.rules.result.now) c.args.place c.in_ok-rule.rule.now refl
    c.in_ok-rule.ensures.lookup.3.0 c.in_ok-rule.ensures.lookup.1 in
    let laid : slice_get program.laid.items c.args.place ≡ Some c.in_ok-laid.laid.now =
    ap (λ (l : List LaidRule). slice_get l c.args.place) (sym c.deref.ensures.value)
    ∙ slice_get_read c.deref.result.now (length c.deref.result.now) c.args.place c.in_ok-laid.laid.now refl
    c.in_ok-laid.ensures.lookup.3.0 c.in_ok-laid.ensures.lookup.1 in
    laid_rule_at program c.args.place c.in_ok-rule.rule.now c.in_ok-laid.laid.now rule
    (zip_at (IsRuleLaidOut program.tyenv program.termenv) program.termenv.rules program.laid.items
    (all_laid_told program.tyenv program.termenv program.laid.items program.laid_out) c.args.place c.in_ok-rule.rule.now
    c.in_ok-laid.laid.now rule laid)
