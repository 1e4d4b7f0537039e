-- The variables of a `let` as they are read.
use Rattle.isle_ast.specs.declared.ast.LetDef.{LetDef}
use Rattle.isle_ast.specs.Trees.ExprShape.{expr_of}
use Rattle.isle_syntax.specs.Inside.Reading.TreeReading.{LetBinding}

-- where the binding stands, its variable, its type and its value
abbrev pub binding_of : LetDef → LetBinding
binding_of d = (d.pos, (d.var, (d.ty, (expr_of d.val, tt))))
