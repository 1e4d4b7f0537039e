use Rattle.std.proofs.Common.{List, [], ◌∷◌, ◌++◌, take, sym, subst, arith}
use Rattle.std.specs.List.{AllZip}
use Rattle.std.proofs.lemmas.List.{take_all}
use Rattle.std.proofs.lemmas.Slice.Zip.{all_zipped_more}
use Rattle.isle_types.proofs.DefinitionTurns.{take_here}
use Rattle.isle_rules.specs.declared.rules.IfLet.{IfLet as Condition}
use Rattle.isle_program.specs.Plain.LaidOut.Words.{IsLaidOut}
use Rattle.isle_program.specs.declared.laid.Laid.{Laid as LaidExpr}
use Rattle.isle_program.proofs.laid.lay_iflets.Goals as goal

pub loop-iflet-preserved : goal.loop-iflet-preserved
loop-iflet-preserved c = λ tyenv.
    let R : Condition → LaidExpr → Type 0 = λ iflet laid. IsLaidOut tyenv c.args.termenv.now iflet.rhs laid in
    let i = c.loop-iflet.iflet-index in
    let iflet = c.iflet-item.result in
    let before : List Condition = take i c.args.iflets.now in
    subst (λ (iflets : List Condition). AllZip R iflets c.push.new.self.items)
    (sym (take_here c.args.iflets.now i iflet (omega arith) c.iflet-item.is))
    (subst (λ (all : List LaidExpr). AllZip R (before ++ iflet ∷ []) all) (sym c.in_ok-push.ensures.items)
    (all_zipped_more R before c.loop-iflet.laid.items iflet c.in_ok-new.field-0 (c.loop-iflet.invariant tyenv) (c.in_ok-new.ensures tyenv)))

pub returns : goal.returns
returns c = λ tyenv.
    let R : Condition → LaidExpr → Type 0 = λ iflet laid. IsLaidOut tyenv c.args.termenv.now iflet.rhs laid in
    subst (λ (iflets : List Condition). AllZip R iflets c.loop-iflet.laid.items)
    (take_all c.loop-iflet.iflet-index c.args.iflets.now (omega arith)) (c.loop-iflet.invariant tyenv)
