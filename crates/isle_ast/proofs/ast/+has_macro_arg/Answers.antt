use Rattle.std.proofs.Common.{arith}
use Rattle.isle_ast.proofs.Trees.Innermost.{args_below, subpats_below}
use Rattle.isle_ast.proofs.ast.+has_macro_arg.Goals as goal

pub Pattern::has_macro_arg-has_macro_args-requires :
    goal.Pattern::has_macro_arg-has_macro_args-requires
Pattern::has_macro_arg-has_macro_args-requires t c = (
  omega (arith, args_below c.args.self.now c.innermost.result.now _ _ _ c.as_slice.result.now c.innermost.ensures c.in-Term.is c.as_slice.ensures),
  tt,
)

pub Pattern::has_macro_arg-has_macro_args-requires-in-And :
    goal.Pattern::has_macro_arg-has_macro_args-requires-in-And
Pattern::has_macro_arg-has_macro_args-requires-in-And t c = (
  omega (
    arith,
    subpats_below c.args.self.now c.innermost.result.now _ _ c.as_slice-in-And.result.now c.innermost.ensures c.in-And.is
        c.as_slice-in-And.ensures,
  ),
  tt,
)
