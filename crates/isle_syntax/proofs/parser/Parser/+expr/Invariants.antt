use Rattle.std.proofs.Common.{◌≡◌, map, ◌+◌, ◌*◌, length}
use Rattle.isle_syntax.specs.Inside.Reading.Bindings.{binding_of}
use Rattle.isle_ast.specs.Trees.ExprShape.{expr_of}
use Rattle.isle_syntax.specs.Inside.Reading.Parsing.{bounds}
use Rattle.isle_syntax.specs.Inside.Reading.Readers.{after_close, rest_of}
use Rattle.isle_syntax.specs.Inside.Reading.TreeReading.{expr, let_binding}
use Rattle.isle_syntax.proofs.Reading.Loops.{Turns}
use Rattle.isle_syntax.proofs.parser.Parser.+expr.Given as goal

abbrev pub decreases-parse_expr : goal.decreases-parse_expr
decreases-parse_expr l = 8 * l.depth_left + 1

abbrev pub decreases-parse_expr_list : goal.decreases-parse_expr_list
decreases-parse_expr_list l = 8 * l.depth_left

abbrev pub decreases-parse_expr_inner : goal.decreases-parse_expr_inner
decreases-parse_expr_inner l = 8 * l.depth_left + 5

abbrev pub decreases-parse_call : goal.decreases-parse_call
decreases-parse_call l = 8 * l.depth_left + 4

abbrev pub decreases-parse_let : goal.decreases-parse_let
decreases-parse_let l = 8 * l.depth_left + 4

abbrev pub decreases-parse_expr_closed : goal.decreases-parse_expr_closed
decreases-parse_expr_closed l = 8 * l.depth_left + 2

abbrev pub decreases-parse_let_defs : goal.decreases-parse_let_defs
decreases-parse_let_defs l = 8 * l.depth_left

abbrev pub decreases-parse_bindings : goal.decreases-parse_bindings
decreases-parse_bindings l = 8 * l.depth_left + 3

abbrev pub decreases-parse_let_def : goal.decreases-parse_let_def
decreases-parse_let_def l = 8 * l.depth_left

abbrev pub decreases-parse_exprs : goal.decreases-parse_exprs
decreases-parse_exprs l = 8 * l.depth_left + 3

abbrev pub invariant-parse_bindings-all : goal.invariant-parse_bindings-all
invariant-parse_bindings-all l = record {
  turns : Turns after_close (let_binding l.depth_left) (rest_of (let_binding l.depth_left) l.initial.self.left) (map binding_of l.defs.items)
      l.self.left;
  same : bounds l.self ≡ bounds l.initial.self;
}

abbrev pub decreases-parse_bindings-all : goal.decreases-parse_bindings-all
decreases-parse_bindings-all l = length l.self.left

abbrev pub invariant-parse_exprs-all : goal.invariant-parse_exprs-all
invariant-parse_exprs-all l = record {
  turns : Turns after_close (expr l.depth_left) (rest_of (expr l.depth_left) l.initial.self.left) (map expr_of l.exprs.items) l.self.left;
  same : bounds l.self ≡ bounds l.initial.self;
}

abbrev pub decreases-parse_exprs-all : goal.decreases-parse_exprs-all
decreases-parse_exprs-all l = length l.self.left
