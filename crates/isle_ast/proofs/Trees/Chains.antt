-- Bindings around bindings.
use Rattle.std.proofs.Common.{◌≡◌, List, [], ◌∷◌, ◌++◌, refl, ap}
use Rattle.isle_ast.specs.declared.pos.Pos.{Pos}
use Rattle.isle_ast.specs.declared.ast.Ident.{Ident}
use Rattle.isle_ast.specs.Trees.PatternTree.{PatternTree, pattern_bind}
use Rattle.isle_ast.specs.Trees.Chain.{bound}

pub bound-append : (xs ys : List (Ident × Pos)) (t : PatternTree) → bound (xs ++ ys) t ≡ bound xs (bound ys t)
bound-append [] ys t = refl
bound-append (x ∷ xs) ys t = ap (λ k. pattern_bind x.0 k x.1) (bound-append xs ys t)
