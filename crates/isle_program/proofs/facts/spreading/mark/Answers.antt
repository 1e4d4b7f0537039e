use Rattle.std.proofs.Common.{◌∷◌, [], List, ℕ, set, true, false, ◌<◌, length, sym, subst, ◌∙◌, arith}
use Rattle.std.proofs.lemmas.List.{get_or_default}
use Rattle.isle_program.specs.Inside.Facts.Spreading.{MarksAndLists}
use Rattle.isle_program.proofs.ProgramFacts.Spreading.{marks_one}
use Rattle.isle_program.proofs.facts.spreading.mark.Goals as goal

pub returns-in_ok-push : goal.returns-in_ok-push
returns-in_ok-push c =
    let n = c.args.number in let marks = c.args.marks.now.items in let old = c.args.left.now.items in
    let free = c.if-not-index.true in
    let within : n < length marks = (let below = c.if-number-len.true in let len = c.len.ensures in let full = c.args.marks.now.ok in
    omega (arith, below, len, full)) in
    subst (λ (l : List ℕ). MarksAndLists (n ∷ []) marks (set marks n true) old l) (sym c.in_ok-push.ensures.items)
    (marks_one n marks old within (get_or_default marks n false c.index.result.now within ∙ sym c.index.ensures ∙ free))
