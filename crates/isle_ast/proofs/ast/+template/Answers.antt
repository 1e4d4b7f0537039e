use Rattle.std.proofs.Common.{◌≡◌, ◌∷◌, [], false, map, ap, sym, ◌∙◌, arith, rules}
use Rattle.std.proofs.lemmas.List.{map-append}
use Rattle.isle_ast.specs.Trees.PatternTree.{pattern_bind}
use Rattle.isle_ast.specs.Trees.PatternShape.{pattern_of}
use Rattle.isle_ast.specs.Trees.Chain.{bound}
use Rattle.isle_ast.specs.Trees.TreeCalls.{has_macro_arg}
use Rattle.isle_ast.specs.Trees.Templates.{is_wildcard, template_tree}
use Rattle.isle_ast.proofs.Trees.Templates.{macro_free_rest, templates_more, templates_done}
use Rattle.isle_ast.proofs.Trees.TemplateChains.{template_inside}
use Rattle.isle_ast.proofs.Trees.Innermost.{bound_pushed, bound_size}
use Rattle.isle_ast.proofs.ast.+template.Goals as goal

pub Pattern::make_macro_template-loop-at-preserved :
    goal.Pattern::make_macro_template-loop-at-preserved
Pattern::make_macro_template-loop-at-preserved t c =
    let args = c.args.macro_args.now in
    let names = c.loop-at.names.items in
    let x = c.in_ok-clone.field-0 in
    let pos = c.in-BindPattern.pos in
    let subpat = c.in-BindPattern.subpat in
    let below = pattern_of c.get-at.result.now in
    let same : x ≡ c.in-BindPattern.var = search rules in
    let binding : pattern_of c.loop-at.at.now ≡ pattern_bind x subpat pos =
    ap pattern_of c.in-BindPattern.is ∙ ap (λ y. pattern_bind y subpat pos) (sym same) in
    let other : is_wildcard subpat ≡ false = ap is_wildcard (sym c.get.ensures) ∙ sym c.is_wildcard.ensures ∙ c.if-is_wildcard.false in
    let inside = template_inside args x subpat below pos other c.get-at.ensures ∙ ap (template_tree args) (sym binding) in
    record {
      made = bound_pushed names c.push.new.self.items x pos (template_tree args below) c.in_ok-push.ensures.items ∙ ap (bound names) inside
          ∙ c.loop-at.invariant.made;
      free = ap has_macro_arg c.get-at.ensures ∙ ap has_macro_arg (sym binding) ∙ c.loop-at.invariant.free;
      no_larger = omega (arith, bound_size c.loop-at.at.now c.get-at.result.now _ _ _ c.in-BindPattern.is c.get-at.ensures);
    }

pub macros::make_macro_templates-loop-pattern-preserved :
    goal.macros::make_macro_templates-loop-pattern-preserved
macros::make_macro_templates-loop-pattern-preserved t c =
    let made = c.in_ok-make_macro_template.field-0 in
    let more = templates_more _ _ c.args.patterns.now c.loop-pattern.pattern-index _ c.loop-pattern.invariant.made c.pattern-item.result
    (pattern_of made) c.loop-pattern-test.true c.pattern-item.is c.in_ok-make_macro_template.ensures in
    let items = ap (map pattern_of) c.in_ok-push.ensures.items ∙ map-append pattern_of c.loop-pattern.all.items (made ∷ []) in
    record {
      free = macro_free_rest c.args.patterns.now c.loop-pattern.pattern-index c.pattern-item.result c.loop-pattern-test.true c.pattern-item.is
          c.loop-pattern.invariant.free;
      made = rw items more;
    }

pub macros::make_macro_templates-returns : goal.macros::make_macro_templates-returns
macros::make_macro_templates-returns t c =
    templates_done _ _ c.args.patterns.now c.loop-pattern.pattern-index _ c.loop-pattern.invariant.made (omega arith)
