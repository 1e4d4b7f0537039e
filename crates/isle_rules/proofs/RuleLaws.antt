-- A rule stands for one typed rule at most.
use Rattle.std.proofs.Common.{◌≡◌, ℕ, ℤ, List, Option, Some, sym, ap, subst, ◌∙◌, slice_get}
use Rattle.std.proofs.lemmas.Option.{same_Some}
use Rattle.isle_ast.specs.declared.pos.Pos.{Pos}
use Rattle.isle_ast.specs.declared.ast.Ident.{Ident}
use Rattle.isle_ast.specs.declared.ast.Rule.{Rule}
use Rattle.isle_ast.specs.Trees.PatternTree.{PatternTree, PatternTrees, pattern_term}
use Rattle.isle_ast.specs.Trees.PatternShape.{pattern_of}
use Rattle.isle_ast.specs.Trees.ExprShape.{expr_of}
use Rattle.isle_rules.specs.TypedRules.{TypedPatterns, TypedExpr, TypedIfLet, TypedRule, Variable}
use Rattle.isle_rules.specs.Signatures.{Flags, Constructor, ExtractorForm, declared_form, TermForm, Signature, Declared, term_named}
use Rattle.isle_rules.specs.Elaboration.{State, start, EachPattern, Elaborates, on_lhs, Builds, Conditions, ElaboratesRule}
use Rattle.isle_rules.proofs.Determined.{each_same, patterns_agree}
use Rattle.isle_rules.proofs.DeterminedExprs.{exprs_agree, conditions_same}

-- one term pattern has one symbol and one list of arguments
pub same_parts : (t : PatternTree) (first second : Ident) (args others : PatternTrees) (at here : Pos)
    → t ≡ pattern_term first args at → t ≡ pattern_term second others here → (first ≡ second) × (args ≡ others)
same_parts t first second args others at here e f = (cc (e, f), cc (e, f))

pub same_flags : (form : TermForm) (first second : Flags) (one other : Option Constructor) (a b : Option ExtractorForm)
    → form ≡ declared_form first one a → form ≡ declared_form second other b → first ≡ second
same_flags form first second one other a b e f = cc (e, f)

abbrev rule_of : ℕ → TypedPatterns → List TypedIfLet → TypedExpr → List Variable → ℤ → Pos → Option (List ℕ) → TypedRule
rule_of root args iflets right variables priority pos name =
    record { root = root; args = args; iflets = iflets; right = right; variables = variables; priority = priority; pos = pos; name = name }

same_rule : (x y : TypedRule) → x.root ≡ y.root → x.args ≡ y.args → x.iflets ≡ y.iflets → x.right ≡ y.right → x.variables ≡ y.variables
    → x.priority ≡ y.priority → x.pos ≡ y.pos → x.name ≡ y.name → x ≡ y
same_rule x y a b c d e f g h =
    ap (λ z. rule_of z x.args x.iflets x.right x.variables x.priority x.pos x.name) a
    ∙ ap (λ z. rule_of y.root z x.iflets x.right x.variables x.priority x.pos x.name) b
    ∙ ap (λ z. rule_of y.root y.args z x.right x.variables x.priority x.pos x.name) c
    ∙ ap (λ z. rule_of y.root y.args y.iflets z x.variables x.priority x.pos x.name) d
    ∙ ap (λ z. rule_of y.root y.args y.iflets y.right z x.priority x.pos x.name) e
    ∙ ap (λ z. rule_of y.root y.args y.iflets y.right y.variables z x.pos x.name) f
    ∙ ap (λ z. rule_of y.root y.args y.iflets y.right y.variables y.priority z x.name) g
    ∙ ap (λ z. rule_of y.root y.args y.iflets y.right y.variables y.priority y.pos z) h

-- a rule stands for one typed rule at most, whatever the sizes
pub one_rule : (declared : Declared) (m n max most : ℕ) (tree : Rule) (x y : TypedRule)
    → ElaboratesRule declared m max tree x → ElaboratesRule declared n most tree y → x ≡ y
one_rule declared m n max most tree x y h k =
    let parts = same_parts (pattern_of tree.pattern) h.sym k.sym h.args k.args h.shape.0 k.shape.0 h.shape.1 k.shape.1 in
    let root : x.root ≡ y.root = same_Some _ _ (sym h.root ∙ ap (λ (z : Ident). term_named declared z.0) parts.0 ∙ k.root) in
    let term : h.term ≡ k.term = same_Some _ _ (sym h.known ∙ ap (slice_get declared.terms) root ∙ k.known) in
    let flags : h.flags ≡ k.flags = same_flags k.term.form h.flags k.flags _ _ _ _
    (ap (λ (z : Signature). z.form) (sym term) ∙ h.ruled.1) k.ruled.1 in
    let moved = subst (λ z. EachPattern (Elaborates declared m) z k.term.args start x.args h.matched) parts.1
    (subst (λ (z : Signature). EachPattern (Elaborates declared m) h.args z.args start x.args h.matched) term h.left) in
    let left = each_same (Elaborates declared m) (Elaborates declared n)
    (patterns_agree declared m n) k.args k.term.args start x.args y.args h.matched k.matched moved k.left in
    let asked = subst (λ z. Conditions declared (on_lhs k.flags) m tree.iflets z x.iflets h.met) left.1
    (subst (λ z. Conditions declared (on_lhs z) m tree.iflets h.matched x.iflets h.met) flags h.conditions) in
    let met = conditions_same declared (on_lhs k.flags) m n tree.iflets k.matched x.iflets y.iflets h.met k.met asked k.conditions in
    let made = subst (λ z. Builds declared k.flags m (expr_of tree.expr) (Some k.term.ret) z x.right h.done) met.1
    (subst (λ (z : Signature). Builds declared k.flags m (expr_of tree.expr) (Some z.ret) h.met x.right h.done) term
    (subst (λ z. Builds declared z m (expr_of tree.expr) (Some h.term.ret) h.met x.right h.done) flags h.right)) in
    let right = (exprs_agree declared k.flags m n).same (expr_of tree.expr) (Some k.term.ret) k.met x.right y.right h.done k.done made k.right in
    same_rule x y root left.0 met.0 right.0 (h.variables ∙ ap (λ (z : State). z.variables) right.1 ∙ sym k.variables)
    (h.priority ∙ sym k.priority) (h.pos ∙ sym k.pos) (h.name ∙ sym k.name)
