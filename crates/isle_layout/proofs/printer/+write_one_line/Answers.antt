use Rattle.std.proofs.Common.{◌++◌, string_bytes, ap, sym, ◌∙◌, arith}
use Rattle.std.proofs.lemmas.Result.{IfOk-equal}
use Rattle.isle_layout.specs.SExprTree.{sexpr_list}
use Rattle.isle_layout.specs.SExprShape.{sexpr_of}
use Rattle.isle_layout.specs.Layout.{one_line}
use Rattle.isle_layout.proofs.Layouts.Joined.{pushed}
use Rattle.isle_layout.proofs.Layouts.SExprInnermost.{innermost_is_no_binding, items_below, one_line_written}
use Rattle.isle_layout.proofs.printer.+write_one_line.Goals as goal

pub write_one_line-unreachable-requires : goal.write_one_line-unreachable-requires
write_one_line-unreachable-requires t c =
    innermost_is_no_binding c.args.sexpr.now c.innermost.result.now _ _ c.innermost.ensures c.in-Binding.is

pub write_one_line-write_list_on_one_line-requires :
    goal.write_one_line-write_list_on_one_line-requires
write_one_line-write_list_on_one_line-requires t c = (
  omega (arith, items_below c.args.sexpr.now c.innermost.result.now _ c.as_slice.result.now c.innermost.ensures c.in-List.is c.as_slice.ensures),
  tt,
)

pub write_one_line-returns-in-Atom : goal.write_one_line-returns-in-Atom
write_one_line-returns-in-Atom t c =
    let names = string_bytes c.write_names.new.out in
    let text = c.as_str.ensures ∙ ap one_line (ap sexpr_of (sym c.in-Atom.is)) in
    IfOk-equal c.push_str.result _ _ _ (pushed c.push_str.result _ _ _ c.push_str.ensures.bytes)
    (ap (λ bytes. names ++ bytes) text ∙ one_line_written c.args.sexpr.now c.innermost.result.now _ _ c.innermost.ensures c.in_ok-write_names.ensures)

pub write_one_line-returns-in-List : goal.write_one_line-returns-in-List
write_one_line-returns-in-List t c =
    let names = string_bytes c.write_names.new.out in
    let list = ap sexpr_list c.as_slice.ensures ∙ ap sexpr_of (sym c.in-List.is) in
    IfOk-equal c.write_list_on_one_line.result _ _ _ c.write_list_on_one_line.ensures
    (ap (λ s. names ++ one_line s) list ∙ one_line_written c.args.sexpr.now c.innermost.result.now _ _ c.innermost.ensures
    c.in_ok-write_names.ensures)
