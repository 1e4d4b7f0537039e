use Rattle.std.proofs.Common.{refl}
use Rattle.isle_ast.specs.Trees.PatternShape.{pattern_of, patterns_of}
use Rattle.isle_layout.specs.Nesting.{pattern_nesting, pattern_nestings}
use Rattle.isle_layout.proofs.Nestings.{rest_fits, first_fits}
use Rattle.isle_layout.proofs.nesting.+pattern_fits.Goals as goal

pub patterns_fit-loop-pattern-preserved : goal.patterns_fit-loop-pattern-preserved
patterns_fit-loop-pattern-preserved t c =
    rest_fits (λ x. pattern_nesting (pattern_of x)) (λ xs. pattern_nestings (patterns_of xs)) c.args.depth_left
    c.args.patterns.now c.loop-pattern.pattern-index c.pattern-item.result
    (λ x xs. refl) c.loop-pattern-test.true c.pattern-item.is (c.if-not-pattern_fits.ensures.0 refl) c.loop-pattern.invariant

pub patterns_fit-returns-then-not-pattern_fits : goal.patterns_fit-returns-then-not-pattern_fits
patterns_fit-returns-then-not-pattern_fits t c = (
  λ never. absurd cc,
  λ all. c.if-not-pattern_fits.ensures.1
      (first_fits (λ x. pattern_nesting (pattern_of x)) (λ xs. pattern_nestings (patterns_of xs)) c.args.depth_left
      c.args.patterns.now c.loop-pattern.pattern-index c.pattern-item.result
      (λ x xs. refl) c.loop-pattern-test.true c.pattern-item.is c.loop-pattern.invariant all),
)
