use Rattle.std.proofs.Common.{◌≡◌, ◌++◌, [], ap, sym, ◌∙◌}
use Rattle.std.specs.Slice.Iter.{iter_rest}
use Rattle.std.proofs.lemmas.List.{append-nil}
use Rattle.isle_layout.specs.SExprShape.{sexpr_of}
use Rattle.isle_layout.specs.Layout.{layout, fits_of}
use Rattle.isle_layout.proofs.sexpr.SExpr.print.Goals as goal

pub returns : goal.returns
returns c =
    let width = c.args.width in
    let sexpr = sexpr_of c.args.self.now in
    let fits = c.in_ok-measure.ensures.fits ∙ ap (λ ms. ms ++ fits_of width sexpr) c.new-fits.ensures.items in
    let given : iter_rest c.iter.result ≡ fits_of width sexpr ++ [] =
    c.iter.ensures.rest ∙ c.deref.ensures.value ∙ fits ∙ sym (append-nil (fits_of width sexpr)) in
    (c.in_ok-write_at.ensures.written width 0 [] c.new-margin.ensures.bytes given).0
    ∙ ap (λ bytes. bytes ++ layout width 0 sexpr) c.new-out.ensures.bytes
