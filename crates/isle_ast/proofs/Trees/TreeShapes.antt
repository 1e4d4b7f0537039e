-- A tree is of one pattern, expression or item alone, and as many as the trees are the things.
use Rattle.std.proofs.Common.{◌≡◌, ◌<◌, ℕ, zero, suc, List, [], ◌∷◌, length, get_or, map, refl, ap, arith}
use Rattle.isle_ast.specs.declared.pos.Pos.{Pos}
use Rattle.isle_ast.specs.declared.ast.Ident.{Ident}
use Rattle.isle_ast.specs.declared.ast.Pattern.{Pattern}
use Rattle.isle_ast.specs.declared.ast.Pattern.TheVariants as pattern
use Rattle.isle_ast.specs.declared.ast.Expr.{Expr}
use Rattle.isle_ast.specs.declared.ast.Expr.TheVariants as expr
use Rattle.isle_ast.specs.declared.ast.LetDef.{LetDef}
use Rattle.isle_ast.specs.declared.ast.KeptItem.{KeptItem}
use Rattle.isle_ast.specs.declared.ast.KeptItem.TheVariants as item
use Rattle.isle_ast.specs.Trees.PatternShape.{pattern_of, patterns_of}
use Rattle.isle_ast.specs.Trees.ExprShape.{expr_of, exprs_of, lets_of}
use Rattle.isle_ast.specs.Trees.ItemShape.{item_of, items_of}
use Rattle.isle_ast.specs.Trees.Equality.{let_of}

pub pattern_of-injective : (p q : Pattern) → pattern_of p ≡ pattern_of q → p ≡ q
pattern_of-injective (pattern.Var _ _) (pattern.Var _ _) e = cc
pattern_of-injective (pattern.BindPattern _ _ _) (pattern.BindPattern _ _ _) e = cc
pattern_of-injective (pattern.ConstBool _ _) (pattern.ConstBool _ _) e = cc
pattern_of-injective (pattern.ConstInt _ _ _) (pattern.ConstInt _ _ _) e = cc
pattern_of-injective (pattern.ConstPrim _ _) (pattern.ConstPrim _ _) e = cc
pattern_of-injective (pattern.Term _ _ _) (pattern.Term _ _ _) e = cc
pattern_of-injective (pattern.Wildcard _) (pattern.Wildcard _) e = cc
pattern_of-injective (pattern.And _ _) (pattern.And _ _) e = cc
pattern_of-injective (pattern.MacroArg _ _) (pattern.MacroArg _ _) e = cc
pattern_of-injective _ _ e = cc

pub patterns_differ_at : (ps qs : List Pattern) (i : ℕ) (p q : Pattern) → p ≡ get_or ps i p → q ≡ get_or qs i q → i < length ps → i < length qs
    → patterns_of ps ≡ patterns_of qs → pattern_of p ≡ pattern_of q
patterns_differ_at [] qs i p q e f m n h = absurd (omega arith)
patterns_differ_at (a ∷ ps) [] i p q e f m n h = absurd (omega arith)
patterns_differ_at (a ∷ ps) (b ∷ qs) zero p q e f m n h = cc
patterns_differ_at (a ∷ ps) (b ∷ qs) (suc i) p q e f m n h = patterns_differ_at ps qs i p q e f (omega arith) (omega arith) (cc)

pub patterns_same_length : (ps qs : List Pattern) → patterns_of ps ≡ patterns_of qs → length ps ≡ length qs
patterns_same_length [] [] h = refl
patterns_same_length [] (q ∷ qs) h = cc
patterns_same_length (p ∷ ps) [] h = cc
patterns_same_length (p ∷ ps) (q ∷ qs) h = ap suc (patterns_same_length ps qs (cc))

pub expr_of-injective : (e f : Expr) → expr_of e ≡ expr_of f → e ≡ f
expr_of-injective (expr.Term _ _ _) (expr.Term _ _ _) h = cc
expr_of-injective (expr.Var _ _) (expr.Var _ _) h = cc
expr_of-injective (expr.ConstBool _ _) (expr.ConstBool _ _) h = cc
expr_of-injective (expr.ConstInt _ _ _) (expr.ConstInt _ _ _) h = cc
expr_of-injective (expr.ConstPrim _ _) (expr.ConstPrim _ _) h = cc
expr_of-injective (expr.Let _ _ _) (expr.Let _ _ _) h = cc
expr_of-injective _ _ h = cc

abbrev let_def : (var ty : Ident) (val : Expr) (pos : Pos) → LetDef
let_def var ty val pos = record { var = var; ty = ty; val = val; pos = pos }

let_def-same : (d f : LetDef) → d.var ≡ f.var → d.ty ≡ f.ty → d.val ≡ f.val → d.pos ≡ f.pos → d ≡ f
let_def-same d f var ty val pos =
    let same : let_def d.var d.ty d.val d.pos ≡ let_def f.var f.ty f.val f.pos = cc in same

pub lets_of-injective : (ds fs : List LetDef) → lets_of ds ≡ lets_of fs → ds ≡ fs
lets_of-injective [] [] h = refl
lets_of-injective [] (f ∷ fs) h = cc
lets_of-injective (d ∷ ds) [] h = cc
lets_of-injective (d ∷ ds) (f ∷ fs) h =
    let first = let_def-same d f (cc) (cc) (expr_of-injective d.val f.val (cc)) (cc) in
    let rest = lets_of-injective ds fs cc in
    cc

pub item_of-injective : (p q : KeptItem) → item_of p ≡ item_of q → p ≡ q
item_of-injective (item.Int _ _) (item.Int _ _) e = cc
item_of-injective (item.Big _ _) (item.Big _ _) e = cc
item_of-injective (item.Symbol _) (item.Symbol _) e = cc
item_of-injective (item.At _) (item.At _) e = cc
item_of-injective (item.List _ _) (item.List _ _) e = cc
item_of-injective _ _ e = cc

pub exprs_differ_at : (ps qs : List Expr) (i : ℕ) (p q : Expr) → p ≡ get_or ps i p → q ≡ get_or qs i q → i < length ps → i < length qs
    → exprs_of ps ≡ exprs_of qs → expr_of p ≡ expr_of q
exprs_differ_at [] qs i p q e f m n h = absurd (omega arith)
exprs_differ_at (a ∷ ps) [] i p q e f m n h = absurd (omega arith)
exprs_differ_at (a ∷ ps) (b ∷ qs) zero p q e f m n h = cc
exprs_differ_at (a ∷ ps) (b ∷ qs) (suc i) p q e f m n h = exprs_differ_at ps qs i p q e f (omega arith) (omega arith) (cc)

pub exprs_same_length : (ps qs : List Expr) → exprs_of ps ≡ exprs_of qs → length ps ≡ length qs
exprs_same_length [] [] h = refl
exprs_same_length [] (q ∷ qs) h = cc
exprs_same_length (p ∷ ps) [] h = cc
exprs_same_length (p ∷ ps) (q ∷ qs) h = ap suc (exprs_same_length ps qs (cc))

pub lets_differ_at : (ps qs : List LetDef) (i : ℕ) (p q : LetDef) → p ≡ get_or ps i p → q ≡ get_or qs i q → i < length ps → i < length qs
    → lets_of ps ≡ lets_of qs → let_of p ≡ let_of q
lets_differ_at [] qs i p q e f m n h = absurd (omega arith)
lets_differ_at (a ∷ ps) [] i p q e f m n h = absurd (omega arith)
lets_differ_at (a ∷ ps) (b ∷ qs) zero p q e f m n h = cc
lets_differ_at (a ∷ ps) (b ∷ qs) (suc i) p q e f m n h = lets_differ_at ps qs i p q e f (omega arith) (omega arith) (cc)

pub lets_same_length : (ps qs : List LetDef) → lets_of ps ≡ lets_of qs → length ps ≡ length qs
lets_same_length [] [] h = refl
lets_same_length [] (q ∷ qs) h = cc
lets_same_length (p ∷ ps) [] h = cc
lets_same_length (p ∷ ps) (q ∷ qs) h = ap suc (lets_same_length ps qs (cc))

pub items_differ_at : (ps qs : List KeptItem) (i : ℕ) (p q : KeptItem) → p ≡ get_or ps i p → q ≡ get_or qs i q → i < length ps → i < length qs
    → items_of ps ≡ items_of qs → item_of p ≡ item_of q
items_differ_at [] qs i p q e f m n h = absurd (omega arith)
items_differ_at (a ∷ ps) [] i p q e f m n h = absurd (omega arith)
items_differ_at (a ∷ ps) (b ∷ qs) zero p q e f m n h = cc
items_differ_at (a ∷ ps) (b ∷ qs) (suc i) p q e f m n h = items_differ_at ps qs i p q e f (omega arith) (omega arith) (cc)

pub items_same_length : (ps qs : List KeptItem) → items_of ps ≡ items_of qs → length ps ≡ length qs
items_same_length [] [] h = refl
items_same_length [] (q ∷ qs) h = cc
items_same_length (p ∷ ps) [] h = cc
items_same_length (p ∷ ps) (q ∷ qs) h = ap suc (items_same_length ps qs (cc))

-- the tree of a variable of a `let` has the parts that the variable has
pub let_of_parts : (d f : LetDef) → let_of d ≡ let_of f → (d.var ≡ f.var) × (d.ty ≡ f.ty) × (expr_of d.val ≡ expr_of f.val) × (d.pos ≡ f.pos)
let_of_parts d f h = (cc, cc, cc, cc)

-- the same trees one by one are the same trees together
pub lets_from_map : (ds fs : List LetDef) → map let_of ds ≡ map let_of fs → lets_of ds ≡ lets_of fs
lets_from_map [] [] h = refl
lets_from_map [] (f ∷ fs) h = cc
lets_from_map (d ∷ ds) [] h = cc
lets_from_map (d ∷ ds) (f ∷ fs) h = let rest = lets_from_map ds fs (cc) in cc

-- lists compared place by place
pub ruleset patterns_compared = (patterns_differ_at, patterns_same_length)

pub ruleset exprs_compared = (exprs_differ_at, exprs_same_length)

pub ruleset lets_compared = (lets_from_map, lets_differ_at, lets_same_length)

pub ruleset items_compared = (items_differ_at, items_same_length)
