use Rattle.std.proofs.Common.{not, is_some, map, take, sym, ap, subst, ◌∙◌, ◌++◌, ◌∷◌, []}
use Rattle.isle_ast.specs.declared.ast.Rule.{Rule as RuleTree}
use Rattle.isle_ast.specs.Trees.PatternShape.{pattern_of}
use Rattle.isle_types.proofs.ConstantTurns.{where_none}
use Rattle.isle_rules.specs.Definitions.{roots_of, root_name}
use Rattle.isle_terms.specs.Inside.Collecting.RuleNames.{MarksLone}
use Rattle.isle_terms.proofs.Collections.Checking.{item_at}
use Rattle.isle_terms.proofs.Collections.Listing.{kind_more, kind_same}
use Rattle.isle_terms.proofs.Collections.RuleNames.{marks_more, copied_some}
use Rattle.isle_terms.proofs.env.rule_names.lone_roots.Goals as goal
use Rattle.isle_terms.proofs.env.rule_names.lone_roots.Goals.{in-Some+in_ok-from_str+in_ok-insert, in_default}

pub loop-rule-preserved : goal.loop-rule-preserved
loop-rule-preserved c =
    let rules = map (λ rule. rule.now) c.args.rules.now in
    let i = c.loop-rule.rule-index in
    let root = λ (rule : RuleTree). root_name (pattern_of rule.pattern) in
    let here = item_at (λ rule. rule.now) c.args.rules.now i c.rule-item.result c.loop-rule-test.true c.rule-item.is in
    elim c.match-root_name.branch [
      | in-Some+in_ok-from_str+in_ok-insert w ↦
          let more = kind_more root rules i _ _ here w.in-Some.ensures ∙ ap (λ n. roots_of (take i rules) ++ n ∷ []) (sym w.as_str-name.ensures) in
          subst (λ names. MarksLone names c.match-root_name.lone) (sym more)
          (subst (λ table. MarksLone (roots_of (take i rules) ++ w.as_str-name.result.now ∷ []) table) (sym w.lone-is)
          (marks_more (roots_of (take i rules)) c.loop-rule.lone w.insert.new.self w.in_ok-from_str.field-0 w.as_str-name.result.now _
          c.loop-rule.invariant w.in_ok-from_str.ensures.ok
          (ap not (w.is_some-again.ensures ∙ copied_some w.get_text.result ∙ ap is_some w.get_text.ensures)) w.in_ok-insert.ensures.values
          w.in_ok-insert.ensures.others))
      | in_default w ↦
          let same = kind_same root rules i _ here (where_none c.root_name.result _ _ c.root_name.ensures w.in_default.not-Some) in
          subst (λ names. MarksLone names c.match-root_name.lone) (sym same)
          (subst (λ table. MarksLone (roots_of (take i rules)) table) (sym w.lone-is) c.loop-rule.invariant)
    ]
