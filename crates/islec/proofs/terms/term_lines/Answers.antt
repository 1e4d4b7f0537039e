use Rattle.std.proofs.Common.{◌≡◌, ◌+◌, ◌++◌, ℕ, Bool, suc, List, [], ◌∷◌, take, sym, ◌∙◌, ap, subst, arith, append_assoc, get_or}
use Rattle.std.specs.Prelude.{string_bytes}
use Rattle.std.proofs.Math.Seq.{take-suc}
use Rattle.std.proofs.lemmas.List.{append-nil}
use Rattle.isle_types.specs.declared.ids.TermId.{TermId}
use Rattle.isle_program.specs.declared.program.Program.{Program}
use Rattle.islec.specs.Terms.{IsTermLine, AreTermLines, no_lines, more_lines}
use Rattle.islec.proofs.terms.term_lines.Goals as goal

-- one more line
one_more : (asked : Bool) (program : Program) (terms : List TermId) (lines : List ℕ) (term : TermId) (line : List ℕ)
    → AreTermLines asked program terms lines → IsTermLine asked program term line
    → AreTermLines asked program (terms ++ term ∷ []) (lines ++ line)
one_more asked program _ _ term line no_lines is = subst (AreTermLines asked program (term ∷ [])) (append-nil line) (more_lines is no_lines)
one_more asked program (first ∷ terms) _ term line (more_lines {line = l} {lines = ls} one rest) is =
    subst (AreTermLines asked program (first ∷ (terms ++ term ∷ []))) (sym (append_assoc l ls line))
    (more_lines one (one_more asked program terms ls term line rest is))

pub loop-term-init : goal.loop-term-init
loop-term-init c = subst (AreTermLines c.args.explain c.args.program.now []) (sym c.new-lines.ensures.bytes) no_lines

pub loop-term-preserved : goal.loop-term-preserved
loop-term-preserved c =
    let terms = c.args.terms.now in let i = c.loop-term.term-index in let other : TermId = record { 0 = 0 } in
    let next : suc i ≡ i + 1 = omega arith in
    let more = one_more c.args.explain c.args.program.now (take i terms) (string_bytes c.loop-term.lines)
    (get_or terms i other) (string_bytes c.in_ok-line.line) c.loop-term.invariant c.in_ok-line.ensures in
    subst (λ l. AreTermLines c.args.explain c.args.program.now l (string_bytes c.push_str.new.self))
    (sym (take-suc terms i other c.loop-term-test.true) ∙ ap (λ n. take n terms) next)
    (subst (AreTermLines c.args.explain c.args.program.now (take i terms ++ get_or terms i other ∷ []))
    (sym (c.in_ok-push_str.ensures.bytes ∙ ap (λ l. string_bytes c.loop-term.lines ++ l) c.as_str.ensures.value)) more)
