use Rattle.std.proofs.Common.{ap, ◌∙◌, arith, rules, ◌≡◌, [], ◌∷◌}
use Rattle.isle_ast.specs.Trees.PatternShape.{pattern_of}
use Rattle.isle_ast.proofs.Trees.Innermost.{bound_size}
use Rattle.isle_layout.specs.SExprTree.{sexpr_atom, sexpr_binding}
use Rattle.isle_layout.specs.Spellings.{listed, bound_sexpr, pattern_sexpr}
use Rattle.isle_layout.proofs.Layouts.Spellings.{bound_sexpr_pushed, pattern_sexprs_taken, mapped_more}
use Rattle.isle_layout.proofs.to_sexpr.patterns.+spell_pattern.Goals as goal

pub spell_pattern-loop-at-preserved : goal.spell_pattern-loop-at-preserved
spell_pattern-loop-at-preserved t c =
    let copied : c.in_ok-clone.field-0 ≡ c.in-BindPattern.var.0 = search rules in
    let below : pattern_sexpr (pattern_of c.get-at.result.now) ≡ pattern_sexpr c.in-BindPattern.subpat = ap pattern_sexpr c.get-at.ensures in
    let whole : pattern_sexpr (pattern_of c.loop-at.at.now) ≡ sexpr_binding c.in-BindPattern.var.0 (pattern_sexpr c.in-BindPattern.subpat) =
    ap (λ p. pattern_sexpr (pattern_of p)) c.in-BindPattern.is in
    let binding : sexpr_binding c.in_ok-clone.field-0 (pattern_sexpr (pattern_of c.get-at.result.now)) ≡ pattern_sexpr (pattern_of c.loop-at.at.now) =
    cc in
    record {
      spelt =
          bound_sexpr_pushed c.loop-at.names.items c.push.new.self.items c.in_ok-clone.field-0 _ c.in_ok-push.ensures.items
          ∙ ap (bound_sexpr c.loop-at.names.items) binding ∙ c.loop-at.invariant.spelt;
      no_larger =
          omega (arith, bound_size c.loop-at.at.now c.get-at.result.now _ _ _ c.in-BindPattern.is c.get-at.ensures);
    }

pub spell_patterns-returns : goal.spell_patterns-returns
spell_patterns-returns t c =
    c.build.ensures ∙ ap listed (c.loop-pattern.invariant
    ∙ ap (λ ts. sexpr_atom c.args.word.now ∷ ts) (pattern_sexprs_taken c.loop-pattern.pattern-index c.args.patterns.now (omega arith)))

pub spell_patterns-loop-pattern-preserved : goal.spell_patterns-loop-pattern-preserved
spell_patterns-loop-pattern-preserved t c =
    mapped_more (sexpr_atom c.args.word.now ∷ []) (λ p. pattern_sexpr (pattern_of p)) c.args.patterns.now c.loop-pattern.pattern-index
    c.pattern-item.result _ _ _ c.loop-pattern-test.true c.pattern-item.is c.loop-pattern.invariant c.in_ok-spell_pattern.ensures
    c.in_ok-list-2.ensures
