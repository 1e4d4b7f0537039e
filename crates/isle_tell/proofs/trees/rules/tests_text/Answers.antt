use Rattle.std.proofs.Common.{◌<◌, ◌++◌, ◌∙◌, [], ℕ, List, Bor, ap, sym, length, arith}
use Rattle.std.specs.Prelude.{string_bytes}
use Rattle.isle_blocks.specs.declared.ids.BindingId.{BindingId}
use Rattle.isle_blocks.specs.declared.constraint.Constraint.{Constraint}
use Rattle.isle_tell.proofs.TreeTexts.Entries.{entry_is, flat_step}
use Rattle.isle_tell.specs.TreeTexts.Rules.{test_line}
use Rattle.isle_tell.proofs.trees.rules.tests_text.Goals as goal

pub loop-place-preserved : goal.loop-place-preserved
loop-place-preserved c =
    let f : BindingId × Constraint → List ℕ = test_line c.args.program.now in
    let tests = c.args.tests.now in
    let e : Bor BindingId × Bor Constraint = c.unwrap.result in
    let within : c.loop-place.place < length tests = let t = c.loop-place-test.true in let n = c.len-place-end.ensures.count in omega (arith, t, n) in
    flat_step f tests c.loop-place.place (e.0.now, e.1.now) [] (string_bytes c.loop-place.text)
    (string_bytes c.push_str.new.self) within c.loop-place.invariant
    (c.in_ok-push_str.ensures.bytes ∙ ap (λ (l : List ℕ). string_bytes c.loop-place.text ++ l)
    (c.as_str.ensures.value ∙ c.in_ok-line.ensures ∙ ap f
    (sym (entry_is tests c.loop-place.place _ e c.entry.ensures c.unwrap.ensures (e.0.now, e.1.now)))))
