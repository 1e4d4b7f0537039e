use Rattle.std.proofs.Common.{◌≡◌, false, ◌||◌, is_some, nat_lt, length, ap, sym, ◌∙◌, rules}
use Rattle.isle_layout.specs.SExprTree.{sexpr_list}
use Rattle.isle_layout.specs.SExprShape.{sexprs_of}
use Rattle.isle_layout.specs.Layout.{one_line_length}
use Rattle.isle_layout.proofs.Layouts.Fits.{stays_by_length}
use Rattle.isle_layout.proofs.printer.stays_on_one_line.Goals as goal

pub returns-else-is_some : goal.returns-else-is_some
returns-else-is_some c = λ width is.
    let items = c.args.items.now in
    let none : is_some c.args.length ≡ false = search rules in
    ap (λ b. b || nat_lt (length items) 2) (sym none) ∙ stays_by_length width c.args.length items (one_line_length (sexpr_list (sexprs_of items))) is
