use Rattle.std.proofs.Common.{◌≡◌, ◌+◌, ◌++◌, ◌∷◌, [], ℕ, List, map, subst, sym, ap, ◌∙◌, arith}
use Rattle.std.proofs.lemmas.List.{map-append}
use Rattle.isle_types.specs.declared.ids.TermId.{TermId}
use Rattle.isle_blocks.specs.Inside.Building.Contents.{Marked}
use Rattle.isle_blocks.specs.DefinedSets.{ListsNumbers}
use Rattle.isle_blocks.proofs.Sets.ListedNumbers.{Below, numbers_none, numbers_push, numbers_skip, numbers_all}
use Rattle.isle_program.specs.Facts.Asked.{term_number}
use Rattle.isle_program.proofs.ProgramFacts.Spreading.{marked_within}
use Rattle.isle_program.proofs.facts.marked_terms.Goals as goal
use Rattle.isle_program.proofs.facts.marked_terms.Goals.{then-marks-n+in_ok-push, else-marks-n}

pub loop-n-init : goal.loop-n-init
loop-n-init c = subst (λ (l : List TermId). ListsNumbers (Below (Marked c.args.marks.now) 0) (map term_number l)) (sym c.new-terms.ensures.items)
    (numbers_none (Marked c.args.marks.now))

pub loop-n-preserved : goal.loop-n-preserved
loop-n-preserved c =
    let marks = c.args.marks.now in let n = c.loop-n.n in let old = c.loop-n.terms.items in
    elim c.if-marks-n.branch [
      | then-marks-n+in_ok-push w ↦
          let pushed : map term_number c.if-marks-n.terms.items ≡ map term_number old ++ n ∷ [] =
          ap (λ v. map term_number v.items) w.terms-is ∙ ap (map term_number) w.in_ok-push.ensures.items ∙ map-append term_number old
          (record { 0 = n } ∷ []) in
          subst (λ (l : List ℕ). ListsNumbers (Below (Marked marks) (n + 1)) l) (sym pushed)
          (numbers_push (Marked marks) n (map term_number old) c.loop-n.invariant w.if-marks-n.true)
      | else-marks-n w ↦
          subst (λ v. ListsNumbers (Below (Marked marks) (n + 1)) (map term_number v.items)) (sym w.terms-is)
          (numbers_skip (Marked marks) n (map term_number old) c.loop-n.invariant (λ h. let g = w.if-marks-n.false in absurd cc))
    ]

pub returns : goal.returns
returns c =
    let marks = c.args.marks.now in
    numbers_all (Marked marks) c.loop-n.n (map term_number c.loop-n.terms.items)
    (λ i h. let past = c.loop-n-test.false in let within = marked_within marks i h in omega (arith, past, within)) c.loop-n.invariant
