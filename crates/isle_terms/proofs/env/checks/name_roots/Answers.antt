use Rattle.std.proofs.Common.{◌≤◌, ◌+◌, ◌++◌, ◌∷◌, [], map, take, length, sym, ap, subst, ◌∙◌, arith}
use Rattle.std.proofs.lemmas.List.{length-append}
use Rattle.isle_ast.specs.declared.ast.Rule.{Rule as RuleTree}
use Rattle.isle_ast.specs.Trees.PatternShape.{pattern_of}
use Rattle.isle_types.proofs.ConstantTurns.{where_none}
use Rattle.isle_rules.specs.Definitions.{roots_of, root_name}
use Rattle.isle_terms.specs.Inside.Collecting.NameTables.{IsTableOf}
use Rattle.isle_terms.proofs.Collections.Checking.{item_at}
use Rattle.isle_terms.proofs.Collections.Listing.{kind_more, kind_same}
use Rattle.isle_terms.proofs.env.checks.name_roots.Goals as goal
use Rattle.isle_terms.proofs.env.checks.name_roots.Goals.{in-Some+in_ok-add, in_default}

pub loop-rule-preserved : goal.loop-rule-preserved
loop-rule-preserved c =
    let rules = map (λ rule. rule.now) c.args.rules.now in
    let i = c.loop-rule.rule-index in
    let root = λ (rule : RuleTree). root_name (pattern_of rule.pattern) in
    let so_far = c.loop-rule.invariant in
    let here = item_at (λ rule. rule.now) c.args.rules.now i c.rule-item.result c.loop-rule-test.true c.rule-item.is in
    elim c.match-root_name.branch [
      | in-Some+in_ok-add w ↦
          let more = kind_more root rules i _ _ here w.in-Some.ensures ∙ ap (λ n. roots_of (take i rules) ++ n ∷ []) (sym w.as_str.ensures) in (
            subst (λ names. IsTableOf names c.match-root_name.roots) (sym more)
                (subst (λ table. IsTableOf (roots_of (take i rules) ++ w.as_str.result.now ∷ []) table) (sym w.roots-is) (w.in_ok-add.ensures.added
                (roots_of (take i rules)) so_far.0 so_far.1)),
            w.count-is ∙ ap (λ n. n + 1) so_far.1 ∙ sym (length-append (roots_of (take i rules)) (w.as_str.result.now ∷ [])) ∙ ap length (sym more),
            subst (λ n. n ≤ i + 1) (sym w.count-is) (omega (arith, so_far.2)),
          )
      | in_default w ↦
          let same = kind_same root rules i _ here (where_none c.root_name.result _ _ c.root_name.ensures w.in_default.not-Some) in (
            subst (λ names. IsTableOf names c.match-root_name.roots) (sym same) (subst (λ table. IsTableOf (roots_of (take i rules)) table) (sym
                w.roots-is) so_far.0),
            w.count-is ∙ so_far.1 ∙ ap length (sym same),
            subst (λ n. n ≤ i + 1) (sym w.count-is) (omega (arith, so_far.2)),
          )
    ]
