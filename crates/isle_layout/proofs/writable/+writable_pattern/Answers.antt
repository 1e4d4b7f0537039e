use Rattle.std.proofs.Common.{refl, sym, ◌∙◌}
use Rattle.isle_ast.specs.Trees.PatternShape.{pattern_of, patterns_of}
use Rattle.isle_layout.specs.Writable.{writable_pattern, writable_patterns}
use Rattle.isle_layout.proofs.Nestings.{rest_pass, first_fails}
use Rattle.isle_layout.proofs.writable.+writable_pattern.Goals as goal

pub writable_patterns-loop-pattern-preserved : goal.writable_patterns-loop-pattern-preserved
writable_patterns-loop-pattern-preserved t c =
    rest_pass (λ x. writable_pattern (pattern_of x)) (λ xs. writable_patterns (patterns_of xs))
    (writable_patterns (patterns_of c.args.patterns.now)) c.args.patterns.now c.loop-pattern.pattern-index
    c.pattern-item.result (λ x xs. refl) c.loop-pattern-test.true c.pattern-item.is (sym c.writable_pattern.ensures ∙ c.if-not-writable_pattern.false)
    c.loop-pattern.invariant

pub writable_patterns-returns-then-not-writable_pattern : goal.writable_patterns-returns-then-not-writable_pattern
writable_patterns-returns-then-not-writable_pattern t c =
    first_fails (λ x. writable_pattern (pattern_of x)) (λ xs. writable_patterns (patterns_of xs))
    (writable_patterns (patterns_of c.args.patterns.now)) c.args.patterns.now c.loop-pattern.pattern-index
    c.pattern-item.result (λ x xs. refl) c.loop-pattern-test.true c.pattern-item.is (sym c.writable_pattern.ensures ∙ c.if-not-writable_pattern.true)
    c.loop-pattern.invariant
