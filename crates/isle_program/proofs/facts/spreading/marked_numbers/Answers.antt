use Rattle.std.proofs.Common.{ℕ, List, subst, sym, arith, ◌+◌}
use Rattle.isle_blocks.specs.Inside.Building.Contents.{Marked}
use Rattle.isle_blocks.specs.DefinedSets.{ListsNumbers}
use Rattle.isle_blocks.proofs.Sets.ListedNumbers.{Below, numbers_none, numbers_push, numbers_skip, numbers_all}
use Rattle.isle_program.proofs.ProgramFacts.Spreading.{marked_within}
use Rattle.isle_program.proofs.facts.spreading.marked_numbers.Goals as goal
use Rattle.isle_program.proofs.facts.spreading.marked_numbers.Goals.{then-marks-n+in_ok-push, else-marks-n}

pub loop-n-init : goal.loop-n-init
loop-n-init c = subst (λ (l : List ℕ). ListsNumbers (Below (Marked c.args.marks.now) 0) l) (sym c.new-numbers.ensures.items)
    (numbers_none (Marked c.args.marks.now))

pub loop-n-preserved : goal.loop-n-preserved
loop-n-preserved c =
    let marks = c.args.marks.now in let n = c.loop-n.n in let old = c.loop-n.numbers.items in
    elim c.if-marks-n.branch [
      | then-marks-n+in_ok-push w ↦
          subst (λ v. ListsNumbers (Below (Marked marks) (n + 1)) v.items) (sym w.numbers-is)
          (subst (λ (l : List ℕ). ListsNumbers (Below (Marked marks) (n + 1)) l) (sym w.in_ok-push.ensures.items)
          (numbers_push (Marked marks) n old c.loop-n.invariant w.if-marks-n.true))
      | else-marks-n w ↦
          subst (λ v. ListsNumbers (Below (Marked marks) (n + 1)) v.items) (sym w.numbers-is)
          (numbers_skip (Marked marks) n old c.loop-n.invariant (λ h. let g = w.if-marks-n.false in absurd cc))
    ]

pub returns : goal.returns
returns c =
    let marks = c.args.marks.now in
    (numbers_all (Marked marks) c.loop-n.n c.loop-n.numbers.items (λ i h. let past = c.loop-n-test.false in
    let within = marked_within marks i h in omega (arith, past, within)) c.loop-n.invariant).all
