use Rattle.std.proofs.Common.{◌≡◌, ℕ, ◌+◌, ◌++◌, ◌⊎◌, inl, inr, string_bytes, ◌<◌, ◌≤◌, length, drop_of_length-le, ap, sym, ◌∙◌, arith}
use Rattle.std.specs.Char.{encode_utf8}
use Rattle.std.proofs.lemmas.Grind.{common_steps}
use Rattle.std.proofs.lemmas.Result.{IfOk-weaker}
use Rattle.isle_layout.specs.SExprTree.{sexpr_list}
use Rattle.isle_layout.specs.SExprShape.{sexpr_of, sexprs_of}
use Rattle.isle_layout.specs.Layout.{one_line, line, layout, layouts, broken, fits_of, fits_of_all}
use Rattle.isle_layout.proofs.Layouts.Joined.{pushed}
use Rattle.isle_layout.proofs.Layouts.ListLayouts.{on_one_line, on_lines, item_written, item_fits, wider_margin, list_written}
use Rattle.isle_layout.proofs.Layouts.SExprInnermost.{innermost_is_no_binding, items_below, layout_written, fits_innermost}
use Rattle.isle_layout.proofs.printer.+write_at.Goals.{write_broken_list-then-i-gt0+in_ok-write_line, write_broken_list-else-i-gt0}
use Rattle.isle_layout.proofs.printer.+write_at.Goals as goal

pub write_at-unreachable-requires : goal.write_at-unreachable-requires
write_at-unreachable-requires t c =
    innermost_is_no_binding c.args.sexpr.now c.innermost.result.now _ _ c.innermost.ensures c.in-Binding.is

pub write_at-write_broken_list-requires : goal.write_at-write_broken_list-requires
write_at-write_broken_list-requires t c = (
  omega (
    arith,
    items_below c.args.sexpr.now c.innermost.result.now _ c.as_slice-else-next_fit.result.now c.innermost.ensures c.in-List.is
        c.as_slice-else-next_fit.ensures,
  ),
  tt,
)

pub write_at-returns-in-Atom-clause-written : goal.write_at-returns-in-Atom-clause-written
write_at-returns-in-Atom-clause-written t c =
    let names = string_bytes c.write_names.new.out in
    let same = sym c.innermost.ensures ∙ ap sexpr_of c.in-Atom.is in
    let none = λ (width : ℕ). fits_innermost width (sexpr_of c.args.sexpr.now) ∙ ap (fits_of width) same in
    let text = λ (width indentation : ℕ). c.as_str.ensures ∙ ap (layout width indentation) (ap sexpr_of (sym c.in-Atom.is)) in
    IfOk-weaker c.push_str.result _ _ (λ done written width indentation rest margin fits. (
      written ∙ ap (λ bytes. names ++ bytes) (text width indentation)
          ∙ layout_written width indentation c.args.sexpr.now c.innermost.result.now _ _ c.innermost.ensures c.in_ok-write_names.ensures,
      fits
          ∙ ap (λ ms. ms ++ rest) (none width),
    ))
    (pushed c.push_str.result _ _ _ c.push_str.ensures.bytes)

pub write_at-returns-then-next_fit-clause-written :
    goal.write_at-returns-then-next_fit-clause-written
write_at-returns-then-next_fit-clause-written t c =
    let names = string_bytes c.write_names.new.out in
    let sexpr = c.args.sexpr.now in
    let list = ap (λ items. names ++ one_line (sexpr_list items)) c.as_slice.ensures in
    IfOk-weaker c.write_list_on_one_line.result _ _ (λ done written width indentation rest margin fits.
    let here = on_one_line width indentation sexpr c.innermost.result.now _ c.in-List.is c.innermost.ensures _ _ rest _ c.next_fit.ensures fits
    c.if-next_fit.true in (
      written ∙ list ∙ ap (λ bytes. names ++ bytes) (sym here.0)
          ∙ layout_written width indentation sexpr c.innermost.result.now _ _ c.innermost.ensures c.in_ok-write_names.ensures,
      here.1,
    ))
    c.write_list_on_one_line.ensures

pub write_at-returns-else-next_fit-clause-written :
    goal.write_at-returns-else-next_fit-clause-written
write_at-returns-else-next_fit-clause-written t c =
    let names = string_bytes c.write_names.new.out in
    let sexpr = c.args.sexpr.now in
    let same = c.as_slice-else-next_fit.ensures in
    IfOk-weaker c.write_broken_list.result _ _ (λ done written width indentation rest margin fits.
    let here = on_lines width indentation sexpr c.innermost.result.now _ c.in-List.is c.innermost.ensures _ _ rest _ c.next_fit.ensures fits
    c.if-next_fit.false in
    let list = written width indentation rest margin (here.1 ∙ ap (λ items. fits_of_all width items ++ rest) (sym same)) in (
      list.0 ∙ ap (λ items. names ++ broken indentation (layouts width (indentation + 4) items)) same ∙ ap (λ bytes. names ++ bytes) (sym here.0)
          ∙ layout_written width indentation sexpr c.innermost.result.now _ _ c.innermost.ensures c.in_ok-write_names.ensures,
      list.1,
    ))
    c.write_broken_list.ensures.written

pub write_broken_list-loop-i-preserved : goal.write_broken_list-loop-i-preserved
write_broken_list-loop-i-preserved t c =
    let items = c.args.items.now in
    let i = c.loop-i.i in
    let item = c.index-items-i.result in
    let low : i < length items = c.loop-i-test.true in
    let kept = c.loop-i.invariant.kept in
    record {
      kept = c.in_ok-write_at.ensures.margin ∙ kept;
      written = λ width inner rest margin fits.
          let so_far = c.loop-i.invariant.written width inner rest margin fits in
          let here = c.in_ok-write_at.ensures.written width inner _ (kept
          ∙ margin) (item_fits width items i item _ rest low c.index-items-i.is so_far.1) in
          let place : ((i ≡ 0) × (string_bytes c.if-i-gt0.out ≡ string_bytes c.loop-i.out))
          ⊎ ((0 < i) × (string_bytes c.if-i-gt0.out ≡ string_bytes c.loop-i.out ++ line inner)) =
          elim c.if-i-gt0.branch [
            | write_broken_list-then-i-gt0+in_ok-write_line w ↦
                inr (
                  w.if-i-gt0.true,
                  ap string_bytes w.out-is
                      ∙ w.in_ok-write_line.ensures inner (w.as_str.ensures.value ∙ kept ∙ margin),
                )
            | write_broken_list-else-i-gt0 w ↦
                inl (omega arith, ap string_bytes w.out-is)
          ] in
          (item_written width inner items i item _ _ _ _ low c.index-items-i.is so_far.0 place here.0, here.1);
    }

pub write_broken_list-returns-clause-written : goal.write_broken_list-returns-clause-written
unfolding encode_utf8
write_broken_list-returns-clause-written t c =
    let items = c.args.items.now in
    let low : length items ≤ c.loop-i.i = omega arith in
    let back : string_bytes c.truncate.new.self ≡ string_bytes c.args.margin.now = grind (arith, common_steps) in
    IfOk-weaker c.push-2.result _ _ (λ done written width indentation rest margin fits.
    let wider = wider_margin indentation _ _ c.in_ok-push_str.ensures.bytes margin in
    let so_far = c.loop-i.invariant.written width (indentation + 4) rest wider fits in
    let ended = c.in_ok-write_line-2.ensures indentation (c.as_str-2.ensures.value ∙ back ∙ margin) in (
      written ∙ list_written width indentation items c.loop-i.i _ _ _ _ low c.in_ok-push.ensures.bytes so_far.0 ended,
      so_far.1
          ∙ ap (λ left. fits_of_all width (sexprs_of left) ++ rest) (drop_of_length-le items {i = c.loop-i.i} low),
    ))
    (pushed c.push-2.result _ _ _ c.push-2.ensures.bytes)
