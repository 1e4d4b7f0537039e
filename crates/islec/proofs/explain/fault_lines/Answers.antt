use Rattle.std.proofs.Common.{◌≡◌, ◌<◌, ◌+◌, ◌++◌, ℕ, suc, List, [], ◌∷◌, length, take, sym, ◌∙◌, ap, subst, arith, append_assoc}
use Rattle.std.specs.Prelude.{string_bytes}
use Rattle.std.proofs.Math.Seq.{take-suc}
use Rattle.std.proofs.lemmas.List.{append-nil}
use Rattle.isle_ast.specs.Positions.Files.{SourceFile}
use Rattle.isle_ast.specs.declared.error.Error.{Error}
use Rattle.islec.specs.Reasons.{ExplainEach, ExplainsFault, no_faults, more_faults}
use Rattle.islec.proofs.explain.fault_lines.Goals as goal

-- one more fault
one_more : (files : List SourceFile) (faults : List Error) (lines : List ℕ) (fault : Error) (line : List ℕ) → ExplainEach files faults lines
    → ExplainsFault files fault line → ExplainEach files (faults ++ fault ∷ []) (lines ++ line)
one_more files _ _ fault line no_faults is = subst (ExplainEach files (fault ∷ [])) (append-nil line) (more_faults is no_faults)
one_more files (first ∷ faults) _ fault line (more_faults {line = l} {lines = ls} one rest) is =
    subst (ExplainEach files (first ∷ (faults ++ fault ∷ []))) (sym (append_assoc l ls line))
    (more_faults one (one_more files faults ls fault line rest is))

pub loop-place-init : goal.loop-place-init
loop-place-init c = subst (ExplainEach c.args.files.now.value []) (sym c.new-lines.ensures.bytes) no_faults

pub loop-place-preserved : goal.loop-place-preserved
loop-place-preserved c =
    let files = c.args.files.now.value in let faults = c.args.faults.now in let i = c.loop-place.place in let fault = c.index-faults-place.result in
    let next : suc i ≡ i + 1 = omega arith in
    let low : i < length faults = omega (arith, c.loop-place-test.true) in
    let more = one_more files (take i faults) (string_bytes c.loop-place.lines) fault (string_bytes c.in_ok-line.line)
    c.loop-place.invariant c.in_ok-line.ensures in
    let cut : take i faults ++ fault ∷ [] ≡ take (i + 1) faults =
    ap (λ (one : Error). take i faults ++ one ∷ []) c.index-faults-place.is ∙ sym (take-suc faults i fault low) ∙ ap (λ n. take n faults) next in
    subst (λ (l : List Error). ExplainEach files l (string_bytes c.push_str.new.self)) cut
    (subst (ExplainEach files (take i faults ++ fault ∷ []))
    (sym (c.in_ok-push_str.ensures.bytes ∙ ap (λ l. string_bytes c.loop-place.lines ++ l) c.as_str.ensures.value)) more)
