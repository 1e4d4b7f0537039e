use Rattle.std.proofs.Common.{◌≡◌, ◌+◌, ◌++◌, ◌∷◌, [], true, false, if◌then◌else◌, max, length, refl, ap, sym, ◌∙◌, arith}
use Rattle.std.proofs.lemmas.List.{append-nil}
use Rattle.std.specs.Fmt.{char_count}
use Rattle.isle_layout.specs.SExprTree.{sexpr_list}
use Rattle.isle_layout.specs.SExprShape.{sexpr_of, sexprs_of}
use Rattle.isle_layout.specs.Inside.SExprInnermost.{innermost}
use Rattle.isle_layout.specs.Layout.{one_line_length, stays_on_one_line, fits_of, fits_of_all, within}
use Rattle.isle_layout.proofs.Layouts.Lengths.{list_length}
use Rattle.isle_layout.proofs.Layouts.Fits.{length_more, all_counted, fits_more, all_marked, truncated}
use Rattle.isle_layout.proofs.Layouts.SExprInnermost.{innermost_is_no_binding, items_below, chain_length, fits_innermost}
use Rattle.isle_layout.proofs.printer.+measure.Goals as goal

pub measure-unreachable-requires : goal.measure-unreachable-requires
measure-unreachable-requires t c =
    innermost_is_no_binding c.args.sexpr.now c.innermost.result.now _ _ c.innermost.ensures c.in-Binding.is

pub measure-measure_list-requires : goal.measure-measure_list-requires
measure-measure_list-requires t c = (
  omega (arith, items_below c.args.sexpr.now c.innermost.result.now _ c.as_slice.result.now c.innermost.ensures c.in-List.is c.as_slice.ensures),
  tt,
)

pub measure_list-loop-item-init : goal.measure_list-loop-item-init
measure_list-loop-item-init t c = record {
  counted = (
    max (length c.args.items.now) 1 + 1,
    c.at_most-length.ensures
        ∙ ap (λ n. within c.args.width (n + 1)) c.max.ensures,
    list_length c.args.items.now,
  );
  marked = refl;
}

pub measure_list-loop-item-preserved : goal.measure_list-loop-item-preserved
measure_list-loop-item-preserved t c =
    let so_far = c.loop-item.invariant.counted in
    record {
      counted = (
        so_far.0 + one_line_length (sexpr_of c.item-item.result),
        c.sum_within-length.ensures.sum _ _ so_far.1 c.in_ok-measure.ensures.length,
        length_more c.args.items.now c.loop-item.item-index c.item-item.result _ _ c.loop-item-test.true c.item-item.is so_far.2,
      );
      marked = fits_more c.args.width c.args.items.now c.loop-item.item-index c.item-item.result _ _ _ c.loop-item-test.true c.item-item.is
          c.loop-item.invariant.marked c.in_ok-measure.ensures.fits;
    }

pub measure-returns-in-Atom-clause-length : goal.measure-returns-in-Atom-clause-length
measure-returns-in-Atom-clause-length t c =
    let width = c.args.width in
    let sexpr = sexpr_of c.args.sexpr.now in
    let same : one_line_length (innermost sexpr) ≡ char_count c.in-Atom.text =
    ap one_line_length (sym c.innermost.ensures ∙ ap sexpr_of c.in-Atom.is) in
    let text = c.text_length-text.ensures ∙ ap (λ bytes. within width (char_count bytes)) c.as_str.ensures ∙ ap (within width) (sym same) in
    c.sum_within.ensures.sum _ _ c.names_length-names.ensures text ∙ ap (within width) (chain_length sexpr)

pub measure-returns-in-Atom-clause-fits : goal.measure-returns-in-Atom-clause-fits
measure-returns-in-Atom-clause-fits t c =
    let width = c.args.width in
    let old = c.args.fits.now.items in
    let none = fits_innermost width (sexpr_of c.args.sexpr.now) ∙ ap (fits_of width) (sym c.innermost.ensures ∙ ap sexpr_of c.in-Atom.is) in
    sym (ap (λ fits. old ++ fits) none ∙ append-nil old)

pub measure-returns-in_ok-list-in-List-clause-length :
    goal.measure-returns-in_ok-list-in-List-clause-length
measure-returns-in_ok-list-in-List-clause-length t c =
    let width = c.args.width in
    let sexpr = sexpr_of c.args.sexpr.now in
    let same = sym c.innermost.ensures ∙ ap sexpr_of c.in-List.is ∙ ap sexpr_list (sym c.as_slice.ensures) in
    let list = c.in_ok-list-in-List.ensures.length ∙ ap (λ s. within width (one_line_length s)) (sym same) in
    c.sum_within-in-List.ensures.sum _ _ c.names_length-names.ensures list ∙ ap (within width) (chain_length sexpr)

pub measure-returns-in_ok-list-in-List-clause-fits :
    goal.measure-returns-in_ok-list-in-List-clause-fits
measure-returns-in_ok-list-in-List-clause-fits t c =
    let width = c.args.width in
    let old = c.args.fits.now.items in
    let same = sym c.innermost.ensures ∙ ap sexpr_of c.in-List.is ∙ ap sexpr_list (sym c.as_slice.ensures) in
    let fits = fits_innermost width (sexpr_of c.args.sexpr.now) ∙ ap (fits_of width) same in
    c.in_ok-list-in-List.ensures.fits ∙ ap (λ pushed. old ++ pushed) (sym fits)

pub measure_list-returns-in_ok-push-2-clause-length : goal.measure_list-returns-in_ok-push-2-clause-length
measure_list-returns-in_ok-push-2-clause-length t c =
    let so_far = c.loop-item.invariant.counted in
    all_counted c.args.width c.loop-item.length c.args.items.now c.loop-item.item-index so_far.0 c.loop-item-test.false so_far.1 so_far.2

pub measure_list-returns-in_ok-push-2-clause-fits : goal.measure_list-returns-in_ok-push-2-clause-fits
measure_list-returns-in_ok-push-2-clause-fits t c =
    let width = c.args.width in
    let items = c.args.items.now in
    let old = c.args.fits.now.items in
    let so_far = c.loop-item.invariant.counted in
    let length = all_counted width c.loop-item.length items c.loop-item.item-index so_far.0 c.loop-item-test.false so_far.1 so_far.2 in
    let stays : stays_on_one_line width (sexprs_of items) ≡ true = sym (c.stays_on_one_line.ensures width length) ∙ c.if-stays_on_one_line.true in
    let marks = all_marked width items c.loop-item.item-index old _ c.loop-item.fits.items c.loop-item-test.false c.in_ok-push.ensures.items
    c.loop-item.invariant.marked in
    c.in_ok-push-2.ensures.items
    ∙ ap (λ ms. ms ++ true ∷ []) (c.truncate.ensures.items ∙ truncated _ old c.loop-item.fits.items _ (c.len-at.ensures ∙ c.args.fits.now.ok.0) marks)
    ∙ ap (λ b. old ++ (if b then true ∷ [] else false ∷ fits_of_all width (sexprs_of items))) (sym stays)

pub measure_list-returns-else-stays_on_one_line-clause-length : goal.measure_list-returns-else-stays_on_one_line-clause-length
measure_list-returns-else-stays_on_one_line-clause-length t c =
    let so_far = c.loop-item.invariant.counted in
    all_counted c.args.width c.loop-item.length c.args.items.now c.loop-item.item-index so_far.0 c.loop-item-test.false so_far.1 so_far.2

pub measure_list-returns-else-stays_on_one_line-clause-fits : goal.measure_list-returns-else-stays_on_one_line-clause-fits
measure_list-returns-else-stays_on_one_line-clause-fits t c =
    let width = c.args.width in
    let items = c.args.items.now in
    let old = c.args.fits.now.items in
    let so_far = c.loop-item.invariant.counted in
    let length = all_counted width c.loop-item.length items c.loop-item.item-index so_far.0 c.loop-item-test.false so_far.1 so_far.2 in
    let stays : stays_on_one_line width (sexprs_of items) ≡ false = sym (c.stays_on_one_line.ensures width length) ∙ c.if-stays_on_one_line.false in
    let marks = all_marked width items c.loop-item.item-index old _ c.loop-item.fits.items c.loop-item-test.false c.in_ok-push.ensures.items
    c.loop-item.invariant.marked in
    marks
    ∙ ap (λ b. old ++ (if b then true ∷ [] else false ∷ fits_of_all width (sexprs_of items))) (sym stays)
