-- The `==` of typed patterns and expressions holds exactly where the two are the same.
use Rattle.std.proofs.Common.{◌≡◌, ◌&&◌, Bool, true, false, List, [], ◌∷◌, map, refl, sym, ap, ◌∙◌, subst}
use Rattle.std.specs.Bool.{Decides}
use Rattle.std.specs.Cmp.{signed_Decides, booleans_Decides}
use Rattle.std.specs.Cmp.Lexicographic.{pointwise}
use Rattle.std.proofs.lemmas.Bool.Decides.{Decides-eqb}
use Rattle.std.specs.contracts.prelude.BoolPartialEq.TheImpl as bool_of
use Rattle.std.specs.contracts.prelude.I128PartialEq.TheImpl as int_of
use Rattle.isle_types.specs.declared.ids.Sym.{Sym}
use Rattle.isle_types.specs.declared.ids.TermId.{TermId}
use Rattle.isle_types.specs.declared.ids.TypeId.{TypeId}
use Rattle.isle_types.specs.declared.ids.VarId.{VarId}
use Rattle.isle_types.specs.contracts.ids.SymPartialEq.TheImpl as sym_of
use Rattle.isle_types.specs.contracts.ids.TermIdPartialEq.TheImpl as term_of
use Rattle.isle_types.specs.contracts.ids.TypeIdPartialEq.TheImpl as type_of
use Rattle.isle_types.specs.contracts.ids.VarIdPartialEq.TheImpl as var_of
use Rattle.isle_rules.specs.declared.rules.Pattern.{Pattern, Pattern-F, out-Pattern, roll-Pattern, out-roll-Pattern, roll-out-Pattern, map-Pattern, ind-Pattern}
use Rattle.isle_rules.specs.declared.rules.Pattern.TheOpen.{BindPattern, Var as PatternVar, ConstBool as PatternBool, ConstInt as PatternInt}
use Rattle.isle_rules.specs.declared.rules.Pattern.TheOpen.{ConstPrim as PatternPrim, Term as PatternTerm, Wildcard, And}
use Rattle.isle_rules.specs.declared.rules.Expr.{Expr, Expr-F, out-Expr, roll-Expr, out-roll-Expr, roll-out-Expr, map-Expr, ind-Expr}
use Rattle.isle_rules.specs.declared.rules.Expr.TheOpen.{Term, Var, ConstBool, ConstInt, ConstPrim, Let}
use Rattle.isle_rules.specs.declared.rules.BoundVar.{BoundVar}
use Rattle.isle_rules.specs.contracts.rules.BoundVarPartialEq.TheImpl as bound_of
use Rattle.isle_rules.specs.contracts.rules.PatternPartialEq.TheImpl as pattern_of
use Rattle.isle_rules.specs.contracts.rules.PatternPartialEq.TheImpl.Laws as pattern_laws
use Rattle.isle_rules.specs.contracts.rules.ExprPartialEq.TheImpl as expr_of
use Rattle.isle_rules.specs.contracts.rules.ExprPartialEq.TheImpl.Laws as expr_laws

-- two answers that decide two facts decide both
pub both : {P Q : Type 0} (s t : Bool) → Decides s P → Decides t Q → Decides (s && t) (P × Q)
both true true p q = (λ e. (p.0 refl, q.0 refl), λ h. refl)
both true false p q = (λ e. cc, λ h. q.1 h.1)
both false t p q = (λ e. cc, λ h. p.1 h.0)

-- an answer decides whatever its fact comes to
pub through : {P Q : Type 0} {s : Bool} → Decides s P → (P → Q) → (Q → P) → Decides s Q
through d f g = (λ e. f (d.0 e), λ q. d.1 (g q))

pub sym-decides : (a b : Sym) → Decides ((sym_of.ghosts).eq a b) (a ≡ b)
sym-decides a b = through (Decides-eqb a.0 b.0) (λ h i. record { 0 = h i }) (λ e. ap (λ v. v.0) e)

pub term_id-decides : (a b : TermId) → Decides ((term_of.ghosts).eq a b) (a ≡ b)
term_id-decides a b = through (Decides-eqb a.0 b.0) (λ h i. record { 0 = h i }) (λ e. ap (λ v. v.0) e)

pub type_id-decides : (a b : TypeId) → Decides ((type_of.ghosts).eq a b) (a ≡ b)
type_id-decides a b = through (Decides-eqb a.0 b.0) (λ h i. record { 0 = h i }) (λ e. ap (λ v. v.0) e)

var-decides : (a b : VarId) → Decides ((var_of.ghosts).eq a b) (a ≡ b)
var-decides a b = through (Decides-eqb a.0 b.0) (λ h i. record { 0 = h i }) (λ e. ap (λ v. v.0) e)

pub bound-decides : (a b : BoundVar) → Decides ((bound_of.ghosts).eq a b) (a ≡ b)
bound-decides a b =
    through (both _ _ (var-decides a.id b.id) (both _ _ (sym-decides a.name b.name) (type_id-decides a.ty b.ty)))
    (λ h i. record { id = h.0 i; name = h.1.0 i; ty = h.1.1 i }) (λ e. (ap (λ v. v.id) e, (ap (λ v. v.name) e, ap (λ v. v.ty) e)))

-- the `==` of a pattern tells which patterns are the same
abbrev Told : Pattern → Type 0
Told a = (b : Pattern) → Decides ((pattern_of.ghosts).eq a b) (a ≡ b)

abbrev Such : Type 0
Such = (p : Pattern) × Told p

-- the patterns below a node
abbrev below : Pattern-F Such → Pattern-F Pattern
below y = map-Pattern Such Pattern (λ p. p.0) y

patterns_told : (ps : List Such) (qs : List Pattern) → Decides (pointwise (pattern_of.ghosts).eq (map (λ p. p.0) ps) qs) (map (λ p. p.0) ps ≡ qs)
patterns_told [] [] = (λ e. refl, λ e. refl)
patterns_told [] (q ∷ qs) = (λ e. cc, λ e. cc)
patterns_told (p ∷ ps) [] = (λ e. cc, λ e. cc)
patterns_told (p ∷ ps) (q ∷ qs) = through (both _ _ (p.1 q) (patterns_told ps qs)) (λ h i. h.0 i ∷ h.1 i) (λ e. (cc, cc))

-- whether two nodes are of one kind, with equal fields
abbrev same_pattern_node : Pattern-F Pattern → Pattern-F Pattern → Bool
same_pattern_node (BindPattern s v p) (BindPattern t w q) =
    (type_of.ghosts).eq s t && ((var_of.ghosts).eq v w && (pattern_of.ghosts).eq p q)
same_pattern_node (PatternVar s v) (PatternVar t w) = (type_of.ghosts).eq s t && (var_of.ghosts).eq v w
same_pattern_node (PatternBool s a) (PatternBool t b) = (type_of.ghosts).eq s t && (bool_of.ghosts).eq a b
same_pattern_node (PatternInt s a) (PatternInt t b) = (type_of.ghosts).eq s t && (int_of.ghosts).eq a b
same_pattern_node (PatternPrim s a) (PatternPrim t b) = (type_of.ghosts).eq s t && (sym_of.ghosts).eq a b
same_pattern_node (PatternTerm s v ps) (PatternTerm t w qs) =
    (type_of.ghosts).eq s t && ((term_of.ghosts).eq v w && pointwise (pattern_of.ghosts).eq ps qs)
same_pattern_node (Wildcard s) (Wildcard t) = (type_of.ghosts).eq s t
same_pattern_node (And s ps) (And t qs) = (type_of.ghosts).eq s t && pointwise (pattern_of.ghosts).eq ps qs
same_pattern_node _ _ = false

-- the `==` of patterns, at their first nodes
pattern_node_is : (x z : Pattern-F Pattern) → pattern_laws.unfolded (roll-Pattern x) (roll-Pattern z) ≡ same_pattern_node x z
pattern_node_is (BindPattern s v p) (BindPattern t w q) = simp out-roll-Pattern
pattern_node_is (PatternVar s v) (PatternVar t w) = simp out-roll-Pattern
pattern_node_is (PatternBool s a) (PatternBool t b) = simp out-roll-Pattern
pattern_node_is (PatternInt s a) (PatternInt t b) = simp out-roll-Pattern
pattern_node_is (PatternPrim s a) (PatternPrim t b) = simp out-roll-Pattern
pattern_node_is (PatternTerm s v ps) (PatternTerm t w qs) = simp out-roll-Pattern
pattern_node_is (Wildcard s) (Wildcard t) = simp out-roll-Pattern
pattern_node_is (And s ps) (And t qs) = simp out-roll-Pattern
pattern_node_is x z = simp out-roll-Pattern

pattern_node-decides : (y : Pattern-F Such) (z : Pattern-F Pattern) → Decides (same_pattern_node (below y) z) (below y ≡ z)
pattern_node-decides (BindPattern s v p) (BindPattern t w q) =
    through (both _ _ (type_id-decides s t) (both _ _ (var-decides v w) (p.1 q)))
    (λ h i. BindPattern (h.0 i) (h.1.0 i) (h.1.1 i)) (λ e. (cc, (cc, cc)))
pattern_node-decides (PatternVar s v) (PatternVar t w) =
    through (both _ _ (type_id-decides s t) (var-decides v w)) (λ h i. PatternVar (h.0 i) (h.1 i)) (λ e. (cc, cc))
pattern_node-decides (PatternBool s a) (PatternBool t b) =
    through (both _ _ (type_id-decides s t) (booleans_Decides a b)) (λ h i. PatternBool (h.0 i) (h.1 i)) (λ e. (cc, cc))
pattern_node-decides (PatternInt s a) (PatternInt t b) =
    through (both _ _ (type_id-decides s t) (signed_Decides a b)) (λ h i. PatternInt (h.0 i) (h.1 i)) (λ e. (cc, cc))
pattern_node-decides (PatternPrim s a) (PatternPrim t b) =
    through (both _ _ (type_id-decides s t) (sym-decides a b)) (λ h i. PatternPrim (h.0 i) (h.1 i)) (λ e. (cc, cc))
pattern_node-decides (PatternTerm s v ps) (PatternTerm t w qs) =
    through (both _ _ (type_id-decides s t) (both _ _ (term_id-decides v w) (patterns_told ps qs)))
    (λ h i. PatternTerm (h.0 i) (h.1.0 i) (h.1.1 i)) (λ e. (cc, (cc, cc)))
pattern_node-decides (Wildcard s) (Wildcard t) = through (type_id-decides s t) (λ h. ap Wildcard h) (λ e. cc)
pattern_node-decides (And s ps) (And t qs) =
    through (both _ _ (type_id-decides s t) (patterns_told ps qs)) (λ h i. And (h.0 i) (h.1 i)) (λ e. (cc, cc))
pattern_node-decides y z = (λ e. cc, λ e. cc)

pub pattern-decides : (a b : Pattern) → Decides ((pattern_of.ghosts).eq a b) (a ≡ b)
pattern-decides = ind-Pattern Told (λ x y made b.
    let first : (pattern_of.ghosts).eq (roll-Pattern x) b ≡ same_pattern_node x (out-Pattern b) =
    pattern_laws.is (roll-Pattern x) b ∙ ap (pattern_laws.unfolded (roll-Pattern x)) (sym (roll-out-Pattern b)) ∙ pattern_node_is x (out-Pattern b) in
    let told = subst (λ z. Decides (same_pattern_node z (out-Pattern b)) (z ≡ out-Pattern b)) made (pattern_node-decides y (out-Pattern b)) in
    subst (λ t. Decides t (roll-Pattern x ≡ b)) (sym first)
    (through told (λ e. ap roll-Pattern e ∙ roll-out-Pattern b) (λ e. sym (out-roll-Pattern x) ∙ ap out-Pattern e)))

-- the `==` of an expression tells which expressions are the same
abbrev ExprTold : Expr → Type 0
ExprTold a = (b : Expr) → Decides ((expr_of.ghosts).eq a b) (a ≡ b)

abbrev SuchExpr : Type 0
SuchExpr = (e : Expr) × ExprTold e

-- the expressions below a node
abbrev below_expr : Expr-F SuchExpr → Expr-F Expr
below_expr y = map-Expr SuchExpr Expr (λ e. e.0) y

exprs_told : (es : List SuchExpr) (fs : List Expr) → Decides (pointwise (expr_of.ghosts).eq (map (λ e. e.0) es) fs) (map (λ e. e.0) es ≡ fs)
exprs_told [] [] = (λ e. refl, λ e. refl)
exprs_told [] (f ∷ fs) = (λ e. cc, λ e. cc)
exprs_told (e ∷ es) [] = (λ e. cc, λ e. cc)
exprs_told (e ∷ es) (f ∷ fs) = through (both _ _ (e.1 f) (exprs_told es fs)) (λ h i. h.0 i ∷ h.1 i) (λ e. (cc, cc))

-- the variables of a `let`, each with its type and something of its value
abbrev Bindings : Type 0 → Type 0
Bindings X = List (VarId × TypeId × X)

abbrev same_binding : VarId × TypeId × Expr → VarId × TypeId × Expr → Bool
same_binding a b = ((var_of.ghosts).eq a.0 b.0 && (type_of.ghosts).eq a.1 b.1) && (expr_of.ghosts).eq a.2 b.2

abbrev bindings_below : Bindings SuchExpr → Bindings Expr
bindings_below bs = map (λ (b : VarId × TypeId × SuchExpr). (b.0, b.1, b.2.0)) bs

bindings_told : (bs : Bindings SuchExpr) (cs : Bindings Expr) → Decides (pointwise same_binding (bindings_below bs) cs) (bindings_below bs ≡ cs)
bindings_told [] [] = (λ e. refl, λ e. refl)
bindings_told [] (c ∷ cs) = (λ e. cc, λ e. cc)
bindings_told (b ∷ bs) [] = (λ e. cc, λ e. cc)
bindings_told (b ∷ bs) (c ∷ cs) =
    through (both _ _ (both _ _ (both _ _ (var-decides b.0 c.0) (type_id-decides b.1 c.1)) (b.2.1 c.2)) (bindings_told bs cs))
    (λ h i. (h.0.0.0 i, h.0.0.1 i, h.0.1 i) ∷ h.1 i) (λ e. (((cc, cc), cc), cc))

-- whether two nodes are of one kind, with equal fields
abbrev same_expr_node : Expr-F Expr → Expr-F Expr → Bool
same_expr_node (Term s v es) (Term t w fs) =
    (type_of.ghosts).eq s t && ((term_of.ghosts).eq v w && pointwise (expr_of.ghosts).eq es fs)
same_expr_node (Var s v) (Var t w) = (type_of.ghosts).eq s t && (var_of.ghosts).eq v w
same_expr_node (ConstBool s a) (ConstBool t b) = (type_of.ghosts).eq s t && (bool_of.ghosts).eq a b
same_expr_node (ConstInt s a) (ConstInt t b) = (type_of.ghosts).eq s t && (int_of.ghosts).eq a b
same_expr_node (ConstPrim s a) (ConstPrim t b) = (type_of.ghosts).eq s t && (sym_of.ghosts).eq a b
same_expr_node (Let s bs e) (Let t cs f) = (type_of.ghosts).eq s t && (pointwise same_binding bs cs && (expr_of.ghosts).eq e f)
same_expr_node _ _ = false

-- the `==` of expressions, at their first nodes
expr_node_is : (x z : Expr-F Expr) → expr_laws.unfolded (roll-Expr x) (roll-Expr z) ≡ same_expr_node x z
expr_node_is (Term s v es) (Term t w fs) = simp out-roll-Expr
expr_node_is (Var s v) (Var t w) = simp out-roll-Expr
expr_node_is (ConstBool s a) (ConstBool t b) = simp out-roll-Expr
expr_node_is (ConstInt s a) (ConstInt t b) = simp out-roll-Expr
expr_node_is (ConstPrim s a) (ConstPrim t b) = simp out-roll-Expr
expr_node_is (Let s bs e) (Let t cs f) = simp out-roll-Expr
expr_node_is x z = simp out-roll-Expr

expr_node-decides : (y : Expr-F SuchExpr) (z : Expr-F Expr) → Decides (same_expr_node (below_expr y) z) (below_expr y ≡ z)
expr_node-decides (Term s v es) (Term t w fs) =
    through (both _ _ (type_id-decides s t) (both _ _ (term_id-decides v w) (exprs_told es fs)))
    (λ h i. Term (h.0 i) (h.1.0 i) (h.1.1 i)) (λ e. (cc, (cc, cc)))
expr_node-decides (Var s v) (Var t w) =
    through (both _ _ (type_id-decides s t) (var-decides v w)) (λ h i. Var (h.0 i) (h.1 i)) (λ e. (cc, cc))
expr_node-decides (ConstBool s a) (ConstBool t b) =
    through (both _ _ (type_id-decides s t) (booleans_Decides a b)) (λ h i. ConstBool (h.0 i) (h.1 i)) (λ e. (cc, cc))
expr_node-decides (ConstInt s a) (ConstInt t b) =
    through (both _ _ (type_id-decides s t) (signed_Decides a b)) (λ h i. ConstInt (h.0 i) (h.1 i)) (λ e. (cc, cc))
expr_node-decides (ConstPrim s a) (ConstPrim t b) =
    through (both _ _ (type_id-decides s t) (sym-decides a b)) (λ h i. ConstPrim (h.0 i) (h.1 i)) (λ e. (cc, cc))
expr_node-decides (Let s bs e) (Let t cs f) =
    through (both _ _ (type_id-decides s t) (both _ _ (bindings_told bs cs) (e.1 f)))
    (λ h i. Let (h.0 i) (h.1.0 i) (h.1.1 i)) (λ e. (cc, (cc, cc)))
expr_node-decides y z = (λ e. cc, λ e. cc)

pub expr-decides : (a b : Expr) → Decides ((expr_of.ghosts).eq a b) (a ≡ b)
expr-decides = ind-Expr ExprTold (λ x y made b.
    let first : (expr_of.ghosts).eq (roll-Expr x) b ≡ same_expr_node x (out-Expr b) =
    expr_laws.is (roll-Expr x) b ∙ ap (expr_laws.unfolded (roll-Expr x)) (sym (roll-out-Expr b)) ∙ expr_node_is x (out-Expr b) in
    let told = subst (λ z. Decides (same_expr_node z (out-Expr b)) (z ≡ out-Expr b)) made (expr_node-decides y (out-Expr b)) in
    subst (λ t. Decides t (roll-Expr x ≡ b)) (sym first)
    (through told (λ e. ap roll-Expr e ∙ roll-out-Expr b) (λ e. sym (out-roll-Expr x) ∙ ap out-Expr e)))
