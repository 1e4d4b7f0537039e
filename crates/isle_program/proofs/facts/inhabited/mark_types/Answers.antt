use Rattle.std.proofs.Common.{subst, sym, ◌+◌, Bool, ℕ, ◌≡◌, length, arith}
use Rattle.isle_program.specs.Facts.Inhabited.{MarksBelow}
use Rattle.isle_program.proofs.ProgramFacts.InhabitedMarks.{below_first, below_one, below_none}
use Rattle.isle_program.proofs.facts.inhabited.mark_types.Goals as goal
use Rattle.isle_program.proofs.facts.inhabited.mark_types.Goals.{then-mark_type, else-mark_type}

pub loop-place-init : goal.loop-place-init
loop-place-init c = below_first c.args.types.now c.args.marks.now.items

pub loop-place-preserved : goal.loop-place-preserved
loop-place-preserved c =
    let types = c.args.types.now in let first = c.args.marks.now.items in let place = c.loop-place.place in
    let next = λ (b : Bool). MarksBelow (place + 1) types first c.mark_type.new.marks.items b in
    elim c.if-mark_type.branch [
      | then-mark_type w ↦ subst next (sym w.changed-is)
          (below_one types first place c.loop-place.marks.items c.mark_type.new.marks.items c.loop-place.changed
          c.mark_type.result c.loop-place-test.true
          c.requires c.loop-place.invariant c.mark_type.ensures w.if-mark_type.true)
      | else-mark_type w ↦ subst next (sym w.changed-is)
          (below_none types first place c.loop-place.marks.items c.mark_type.new.marks.items c.loop-place.changed c.mark_type.result
          c.loop-place.invariant c.mark_type.ensures w.if-mark_type.false)
    ]

pub returns : goal.returns
returns c =
    let types = c.args.types.now in
    let done : c.loop-place.place ≡ length types = (let past = c.loop-place-test.false in let end = c.loop-place.auto.place-end in
    omega (arith, past, end)) in
    subst (λ (n : ℕ). MarksBelow n types c.args.marks.now.items c.loop-place.marks.items c.loop-place.changed) done c.loop-place.invariant
