use Rattle.std.proofs.Common.{◌≡◌, pos, [], ◌∷◌, ◌++◌, ap, ◌∙◌, arith}
use Rattle.isle_blocks.specs.declared.constraint.Constraint.{Constraint}
use Rattle.isle_blocks.specs.declared.constraint.Constraint.TheVariants as tests
use Rattle.isle_coverage.proofs.Gathering.{counted_more, kept_push}
use Rattle.isle_coverage.proofs.complete.add_numbers.Goals as goal

pub loop-number-preserved : goal.loop-number-preserved
loop-number-preserved c =
    let old = c.loop-number.tests.items in
    let new = c.push.new.self.items in
    let c0 : Constraint = c.number_test.result in
    let pushed : new ≡ old ++ c0 ∷ [] = c.in_ok-push.ensures.items in
    let more : new ≡ old ++ tests.ConstInt (pos c.loop-number.number) c.args.ty ∷ [] =
    pushed ∙ ap (λ (d : Constraint). old ++ d ∷ []) c.number_test.ensures in record {
      there = counted_more (λ k. tests.ConstInt (pos k) c.args.ty) old new c.loop-number.number more c.loop-number.invariant.there;
      kept = kept_push c.args.tests.now.items old new c0 pushed c.loop-number.invariant.kept;
    }

pub returns-clause-numbers : goal.returns-clause-numbers
returns-clause-numbers c = λ k low. c.loop-number.invariant.there k (omega (arith, low))
