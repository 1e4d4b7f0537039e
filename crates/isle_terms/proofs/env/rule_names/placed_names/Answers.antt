use Rattle.std.proofs.Common.{◌≡◌, Some, length, ap, subst, slice_get, arith, ◌∙◌, refl}
use Rattle.std.proofs.lemmas.Option.{slice_get_read}
use Rattle.isle_rules.specs.Definitions.{rules_in}
use Rattle.isle_terms.specs.Inside.Collecting.NamedItems.{name_shown}
use Rattle.isle_terms.proofs.Collections.Checking.{item_at}
use Rattle.isle_terms.proofs.Collections.RuleNames.{name_there, no_name, same_count, placed_more, placed_same}
use Rattle.isle_terms.proofs.env.rule_names.placed_names.Goals as goal
use Rattle.isle_terms.proofs.env.rule_names.placed_names.Goals.{then-i-names+in-Some+in_ok-push, then-i-names+in_default, else-i-names}

pub loop-i-preserved : goal.loop-i-preserved
loop-i-preserved c = λ defs trees names.
    let i = c.loop-i.i in
    let tree = c.index-rules-i.result.now in
    let before = c.loop-i.invariant defs trees names in
    let there : slice_get (rules_in defs) i ≡ Some tree =
    subst (λ xs. slice_get xs i ≡ Some tree) trees (item_at (λ rule. rule.now) c.args.rules.now i c.index-rules-i.result c.loop-i-test.true
    c.index-rules-i.is) in
    elim c.if-i-names.branch [
      | then-i-names+in-Some+in_ok-push w ↦
          let own = name_there defs (rules_in defs) c.args.names.now i tree w.index-names-i.result names there
          (slice_get_read c.args.names.now (length c.args.names.now) i w.index-names-i.result refl w.if-i-names.true w.index-names-i.is) in
          placed_more defs (rules_in defs) i tree w.in-Some.name.now.0 c.loop-i.placed.items c.if-i-names.placed.items _ there
          (own ∙ ap name_shown w.in-Some.is) (ap (λ n. (n, tree.pos)) w.as_str.ensures) (ap (λ v. v.items) w.placed-is ∙ w.in_ok-push.ensures.items)
          before
      | then-i-names+in_default w ↦
          let own = name_there defs (rules_in defs) c.args.names.now i tree w.index-names-i.result names there
          (slice_get_read c.args.names.now (length c.args.names.now) i w.index-names-i.result refl w.if-i-names.true w.index-names-i.is) in
          placed_same defs (rules_in defs) i tree c.loop-i.placed.items c.if-i-names.placed.items there
          (own ∙ no_name w.index-names-i.result w.in_default.not-Some) (ap (λ v. v.items) w.placed-is) before
      | else-i-names w ↦
          let many : length c.args.rules.now ≡ length c.args.names.now = same_count defs c.args.rules.now c.args.names.now trees names in
          absurd (omega (arith, many))
    ]
