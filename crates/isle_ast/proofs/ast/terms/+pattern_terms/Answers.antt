use Rattle.std.proofs.Common.{refl, add-one, arith, rules}
use Rattle.isle_ast.specs.Trees.PatternShape.{pattern_of, patterns_of}
use Rattle.isle_ast.specs.Trees.Terms.{pattern_terms, patterns_terms, CalledAtTerm}
use Rattle.isle_ast.proofs.Trees.Terms.{called_more}
use Rattle.isle_ast.proofs.Trees.Innermost.{args_below, subpats_below}
use Rattle.isle_ast.proofs.ast.terms.+pattern_terms.Goals as goal

pub hand_patterns-loop-pattern-preserved : goal.hand_patterns-loop-pattern-preserved
hand_patterns-loop-pattern-preserved g t c = record {
  callable = c.hand_pattern.ensures.callable;
  called =
      rw add-one (called_more (CalledAtTerm g.F.FnMut) (λ p. pattern_terms (pattern_of p)) (λ ps. patterns_terms (patterns_of ps)) refl (λ p ps. refl)
      c.args.patterns.now c.loop-pattern.pattern-index c.pattern-item.result _ _ _ c.loop-pattern-test.true c.pattern-item.is
      c.loop-pattern.invariant.called c.hand_pattern.ensures.called);
}

pub hand_pattern-hand_patterns-requires : goal.hand_pattern-hand_patterns-requires
hand_pattern-hand_patterns-requires g t c κs within = (
  omega (
    arith,
    args_below c.args.pattern.now c.innermost.result.now _ _ _ c.as_slice.result.now c.innermost.ensures c.in-Term.is
        c.as_slice.ensures,
  ),
  (search rules, c.hand_term.ensures.callable),
)

pub hand_pattern-hand_patterns-requires-in-And : goal.hand_pattern-hand_patterns-requires-in-And
hand_pattern-hand_patterns-requires-in-And g t c κs within = (
  omega (
    arith,
    subpats_below c.args.pattern.now c.innermost.result.now _ _ c.as_slice-in-And.result.now c.innermost.ensures c.in-And.is
        c.as_slice-in-And.ensures,
  ),
  search rules,
)
