-- Positions decide nothing of what a rule stands for but its own.
use Rattle.std.proofs.Common.{◌≡◌, ℕ, List, [], ◌∷◌, map, Option, None, Some, refl, sym, ◌∙◌, ap, subst}
use Rattle.std.specs.Option.{option_map}
use Rattle.isle_ast.specs.declared.pos.Pos.{Pos}
use Rattle.isle_ast.specs.declared.ast.Ident.{Ident}
use Rattle.isle_ast.specs.declared.ast.IfLet.{IfLet}
use Rattle.isle_ast.specs.declared.ast.Rule.{Rule}
use Rattle.isle_ast.specs.Trees.PatternTree.{PatternTree, PatternTrees, pattern_var, pattern_bind, pattern_bool, pattern_int, pattern_prim}
use Rattle.isle_ast.specs.Trees.PatternTree.{pattern_term, pattern_wildcard, pattern_and, pattern_macro_arg}
use Rattle.isle_ast.specs.Trees.PatternShape.{pattern_of}
use Rattle.isle_ast.specs.Trees.ExprTree.{ExprTree}
use Rattle.isle_ast.specs.Trees.ExprShape.{expr_of}
use Rattle.isle_ast.specs.Trees.WithoutPos.{no_pos, ident_without_pos, pattern_tree_without_pos, pattern_trees_without_pos}
use Rattle.isle_ast.specs.Trees.WithoutPos.{expr_without_pos, iflet_without_pos, rule_without_pos}
use Rattle.isle_types.proofs.Zipped.{mapped_at}
use Rattle.isle_rules.specs.TypedRules.{TypedIfLet, TypedRule, built_at}
use Rattle.isle_rules.specs.Signatures.{Flags, Signature, Declared, TermForm, term_named, by_rules, variant_form, struct_form, declared_form}
use Rattle.isle_rules.specs.Elaboration.{State, start, EachPattern, Elaborates, Builds, Conditions, ElaboratesRule}
use Rattle.isle_meaning.specs.Laws.Spelling.{typed_rule_without_pos}
use Rattle.isle_meaning.proofs.Spelling.Bare.{bare, bare_term, bare_form, bare_extractor, pattern_bare, expr_bare, term_named_bare, there_bare}
use Rattle.isle_meaning.proofs.Spelling.Patterns.{pattern_there, pattern_back, all_patterns_there, all_patterns_back}
use Rattle.isle_meaning.proofs.Spelling.Exprs.{expr_there, expr_back}

module _ (declared : Declared) (caller : Flags) (levels : ℕ) where
  conditions_there : (cs : List IfLet) (s : State) (us : List TypedIfLet) (s' : State) → Conditions declared caller levels cs s us s'
      → Conditions (bare declared) caller levels (map iflet_without_pos cs) s us s'
  conditions_there [] s us s' h = h
  conditions_there (c ∷ cs) s us s' h = (
    h.0,
    h.1,
    h.2,
    h.3,
    h.4,
    subst (λ (t : ExprTree). Builds (bare declared) caller levels t None s (h.0) (h.1)) (sym (expr_bare c.expr))
        (expr_there declared caller levels (expr_of c.expr) None s (h.0) (h.1) (h.5)),
    subst (λ (t : PatternTree). Elaborates (bare declared) levels t (built_at (h.0)) (h.1) (h.2) (h.3)) (sym (pattern_bare c.pattern))
        (pattern_there declared levels (pattern_of c.pattern) (built_at (h.0)) (h.1) (h.2) (h.3) (h.6)),
    conditions_there cs (h.3) (h.4) s' (h.7),
    h.8,
  )

  conditions_back : (cs : List IfLet) (s : State) (us : List TypedIfLet) (s' : State)
      → Conditions (bare declared) caller levels (map iflet_without_pos cs) s us s' → Conditions declared caller levels cs s us s'
  conditions_back [] s us s' h = h
  conditions_back (c ∷ cs) s us s' h = (
    h.0,
    h.1,
    h.2,
    h.3,
    h.4,
    expr_back declared caller levels (expr_of c.expr) None s (h.0) (h.1)
        (subst (λ (t : ExprTree). Builds (bare declared) caller levels t None s (h.0) (h.1)) (expr_bare c.expr) (h.5)),
    pattern_back declared levels (pattern_of c.pattern) (built_at (h.0)) (h.1) (h.2) (h.3)
        (subst (λ (t : PatternTree). Elaborates (bare declared) levels t (built_at (h.0)) (h.1) (h.2) (h.3)) (pattern_bare c.pattern) (h.6)),
    conditions_back cs (h.3) (h.4) s' (h.7),
    h.8,
  )

-- a term with rules has them without positions
ruled_there : (form : TermForm) (flags : Flags) → ((e : _) × (form ≡ declared_form flags (Some by_rules) e))
    → (e : _) × (bare_form form ≡ declared_form flags (Some by_rules) e)
ruled_there form flags h = (option_map bare_extractor (h.0), ap bare_form (h.1))

ruled_back : (form : TermForm) (flags : Flags) → ((e : _) × (bare_form form ≡ declared_form flags (Some by_rules) e))
    → (e : _) × (form ≡ declared_form flags (Some by_rules) e)
ruled_back (variant_form place) flags h = absurd (let e = h.1 in cc)
ruled_back struct_form flags h = absurd (let e = h.1 in cc)
ruled_back (declared_form own constructor extractor) flags h = (
  extractor,
  let e = h.1 in let f : own ≡ flags = cc in let c : constructor ≡ Some by_rules = cc in
      (λ i. declared_form (f i) (c i) extractor),
)

-- the pattern of a term
record IsTermPattern (t : PatternTree) (name : List ℕ) (args : PatternTrees) : Type 0 where
  sym : Ident
  own : PatternTrees
  at : Pos
  is : t ≡ pattern_term sym own at
  same_name : sym.0 ≡ name
  same_args : pattern_trees_without_pos own ≡ args

root_back : (t : PatternTree) (name : Ident) (args : PatternTrees) (at : Pos) → pattern_tree_without_pos t ≡ pattern_term name args at
    → IsTermPattern t name.0 args
root_back (pattern_var x p) name args at e = absurd cc
root_back (pattern_bind x below p) name args at e = absurd cc
root_back (pattern_bool val p) name args at e = absurd cc
root_back (pattern_int val big p) name args at e = absurd cc
root_back (pattern_prim x p) name args at e = absurd cc
root_back (pattern_term x below p) name args at e =
    let names : ident_without_pos x ≡ name = cc in
    let parts : pattern_trees_without_pos below ≡ args = cc in
    record { sym = x; own = below; at = p; is = refl; same_name = ap (λ (y : Ident). y.0) names; same_args = parts }
root_back (pattern_wildcard p) name args at e = absurd cc
root_back (pattern_and below p) name args at e = absurd cc
root_back (pattern_macro_arg k p) name args at e = absurd cc

-- the name of a rule
name_bare : (name : Option Ident)
    → option_map (λ (x : Ident). x.0) (option_map ident_without_pos name) ≡ option_map (λ (x : Ident). x.0) name
name_bare None = refl
name_bare (Some name) = refl

-- a rule stands for the same typed rule
pub rule_there : (declared : Declared) (levels max : ℕ) (tree : Rule) (typed : TypedRule) → ElaboratesRule declared levels max tree typed
    → ElaboratesRule (bare declared) levels max (rule_without_pos tree) (typed_rule_without_pos typed)
rule_there declared levels max tree typed h = record {
  sym = ident_without_pos h.sym;
  args = pattern_trees_without_pos h.args;
  term = bare_term h.term;
  flags = h.flags;
  matched = h.matched;
  met = h.met;
  done = h.done;
  shape = (no_pos, pattern_bare tree.pattern ∙ ap pattern_tree_without_pos (h.shape.1));
  root = term_named_bare declared h.sym.0 ∙ h.root;
  known = there_bare bare_term declared.terms typed.root h.term h.known;
  ruled = ruled_there h.term.form h.flags h.ruled;
  unordered = h.unordered;
  left = all_patterns_there declared levels h.args h.term.args _ typed.args h.matched h.left;
  conditions = conditions_there declared _ levels tree.iflets h.matched typed.iflets h.met h.conditions;
  right = subst (λ (t : ExprTree). Builds (bare declared) h.flags levels t (Some h.term.ret) h.met typed.right h.done) (sym (expr_bare tree.expr))
      (expr_there declared h.flags levels (expr_of tree.expr) (Some h.term.ret) h.met typed.right h.done h.right);
  within = h.within;
  variables = h.variables;
  priority = h.priority;
  pos = refl;
  name = h.name ∙ sym (name_bare tree.name);
}

-- and is one where that without its position is
pub rule_back : (declared : Declared) (levels max : ℕ) (tree : Rule) (typed : TypedRule)
    → ElaboratesRule (bare declared) levels max (rule_without_pos tree) typed
    → ElaboratesRule declared levels max tree (record typed { pos = tree.pos })
rule_back declared levels max tree typed h =
    let (term, there, same) = mapped_at bare_term declared.terms typed.root h.term h.known in
    let shape = root_back (pattern_of tree.pattern) h.sym h.args (h.shape.0) (sym (pattern_bare tree.pattern) ∙ h.shape.1) in
    let args = ap (λ (t : Signature). t.args) same in
    let ret = ap (λ (t : Signature). t.ret) same in
    record {
      sym = shape.sym;
      args = shape.own;
      term = term;
      flags = h.flags;
      matched = h.matched;
      met = h.met;
      done = h.done;
      shape = (shape.at, shape.is);
      root = sym (term_named_bare declared shape.sym.0) ∙ ap (term_named (bare declared)) shape.same_name ∙ h.root;
      known = there;
      ruled = ruled_back term.form h.flags (subst (λ (t : Signature). (e : _) × (t.form ≡ declared_form h.flags (Some by_rules) e))
          (sym same) h.ruled);
      unordered = h.unordered;
      left = all_patterns_back declared levels shape.own term.args _ typed.args h.matched
          (subst (λ (ts : PatternTrees). EachPattern (Elaborates (bare declared) levels) ts term.args start typed.args h.matched)
          (sym shape.same_args)
          (subst (λ (tys : List ℕ). EachPattern (Elaborates (bare declared) levels) h.args tys start typed.args h.matched) (sym args) h.left));
      conditions = conditions_back declared _ levels tree.iflets h.matched typed.iflets h.met h.conditions;
      right = expr_back declared h.flags levels (expr_of tree.expr) (Some term.ret) h.met typed.right h.done
          (subst (λ (t : ExprTree). Builds (bare declared) h.flags levels t (Some term.ret) h.met typed.right h.done) (expr_bare tree.expr)
          (subst (λ (ty : ℕ). Builds (bare declared) h.flags levels (expr_of (expr_without_pos tree.expr)) (Some ty) h.met typed.right h.done)
          (sym ret) h.right));
      within = h.within;
      variables = h.variables;
      priority = h.priority;
      pos = refl;
      name = h.name ∙ name_bare tree.name;
    }
