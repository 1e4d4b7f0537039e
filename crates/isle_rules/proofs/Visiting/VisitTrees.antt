-- What a typed tree is at each kind of node, where a search does not see it.
use Rattle.std.proofs.Common.{◌≡◌, List, [], ◌∷◌, map, refl, sym, ap, ◌∙◌}
use Rattle.isle_types.specs.declared.ids.TypeId.{TypeId}
use Rattle.isle_types.specs.declared.ids.VarId.{VarId}
use Rattle.isle_rules.specs.declared.rules.Pattern.{Pattern, Pattern-F, fold-roll-Pattern}
use Rattle.isle_rules.specs.declared.rules.Pattern.TheVariants as patterns
use Rattle.isle_rules.specs.declared.rules.Expr.{Expr, Expr-F, fold-roll-Expr}
use Rattle.isle_rules.specs.declared.rules.Expr.TheVariants as exprs
use Rattle.isle_rules.specs.Visits.InternedTrees.{InternedPattern, bind_pattern, pattern_node, pattern_of}
use Rattle.isle_rules.specs.Visits.InternedTrees.{InternedExpr, let_expr, expr_node, expr_of, listed_bindings, bindings_of}

pub pattern-BindPattern : (ty : TypeId) (var : VarId) (sub : Pattern)
    → pattern_of (patterns.BindPattern ty var sub) ≡ bind_pattern ty var (pattern_of sub)
pattern-BindPattern ty var sub =
    ap pattern_of (sym (patterns.rolls-BindPattern ty var sub)) ∙ fold-roll-Pattern InternedPattern pattern_node (Pattern-F.BindPattern ty var sub)

bindings_map : (f : VarId × TypeId × Expr → VarId × TypeId × InternedExpr)
    → ((b : VarId × TypeId × Expr) → ((f b).0 ≡ b.0) × ((f b).1 ≡ b.1) × ((f b).2 ≡ expr_of b.2))
    → (bs : List (VarId × TypeId × Expr)) → listed_bindings (map f bs) ≡ bindings_of bs
bindings_map f k [] = refl
bindings_map f k (b ∷ bs) = let h = k b in let rest = bindings_map f k bs in cc

pub expr-Let : (ty : TypeId) (bs : List (VarId × TypeId × Expr)) (body : Expr)
    → expr_of (exprs.Let ty bs body) ≡ let_expr ty (bindings_of bs) (expr_of body)
expr-Let ty bs body =
    ap expr_of (sym (exprs.rolls-Let ty bs body)) ∙ fold-roll-Expr InternedExpr expr_node (Expr-F.Let ty bs body)
    ∙ ap (λ x. let_expr ty x (expr_of body)) (bindings_map _ (λ b. (refl, refl, refl)) bs)
