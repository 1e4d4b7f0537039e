-- What reading an expression comes to is what the judgement and the faults say.
use Rattle.std.proofs.Common.{◌≡◌, ◌≢◌, ◌⊎◌, ℕ, zero, suc, ◌≤◌, inl, inr, true, false, ◌==◌, List, [], ◌∷◌, Option, None, Some, true≢false}
use Rattle.std.proofs.Common.{refl, sym, subst, ◌∙◌, arith, length, slice_get, ℤ, Bool}
use Rattle.std.proofs.lemmas.Bool.{false≢true, eqb-true, eqb-false}
use Rattle.isle_ast.specs.declared.ast.Ident.{Ident}
use Rattle.isle_ast.specs.declared.pos.Pos.{Pos}
use Rattle.isle_ast.specs.Trees.ExprTree.{ExprTree, ExprTrees, LetTrees, expr_term, expr_var, expr_bool, expr_int, expr_prim, expr_let}
use Rattle.isle_ast.specs.Trees.ExprTree.{no_exprs, more_exprs, no_lets, more_lets, expr_pos}
use Rattle.isle_types.specs.Environment.{constant_in}
use Rattle.isle_rules.specs.TypedRules.{TypedExpr}
use Rattle.isle_rules.specs.Signatures.{Flags, Signature, Declared, term_named, has_constructor_form, flags_of}
use Rattle.isle_rules.specs.Elaboration.{type_named, State, counted, bound, Visible, visible_in, expr_count, may_call, IsExpected, ExprJudgement}
use Rattle.isle_rules.specs.Elaboration.{EachExpr, Binds, Calls, ConvertsExpr, ExprNode, Builds, bool_number}
use Rattle.isle_terms.specs.Reaching.{ExprFact, SomeExpr, SomeValue, CalledPart, RepairedExpr, BelowExpr, ReachesExpr, IsTooLarge}
use Rattle.isle_terms.specs.IllTyped.{HasNoExprConverter, IsBeyondRepair, IsIllCall, no_constructor, not_allowed, other_number, other_result}
use Rattle.isle_terms.specs.IllTyped.{HasUnknownType, IsIllExpr}
use Rattle.isle_terms.specs.RuleReaching.{IllExprAt}
use Rattle.isle_terms.specs.Inside.Readings.Outcomes.{Outcome, ExprRun, ExprUse, is_expected, each_expr, call, fitting, fitting_wanted, repair_expr}
use Rattle.isle_terms.specs.Inside.Readings.Outcomes.{call_term}
use Rattle.isle_terms.specs.Inside.Readings.Outcomes.{call_number, read_variable, read_integer, read_constant, bind_value, bind_values, expr_node, read_expr}
use Rattle.isle_terms.specs.Inside.Readings.Outcomes.{read_expr_use}
use Rattle.isle_terms.specs.Inside.Readings.KnownBy.{known_by, type_has_number}
use Rattle.isle_terms.specs.Inside.Readings.Telling.{Tells}
use Rattle.isle_terms.proofs.Exact.Parts.{Told, in_words, and_then_told, only_if_told, either_told, within_told}
use Rattle.isle_terms.proofs.Exact.Numbers.{number_there, number_found}
use Rattle.isle_terms.proofs.Exact.Fitting.{term_there, IsFit, fitting_fits}

-- a way to read expressions, and calls of terms at their own types, tells the truth
pub record TellsExprs (declared : Declared) (max : ℕ) (R : ExprJudgement) (P : Pos → ExprFact) (L : ExprFact) (r : ExprRun)
    (u : ExprUse) : Type 0 where
  pub reads : (e : ExprTree) (want : Option ℕ) (s : State) → s.nodes ≤ max
      → Told max (R e want s) (λ at. P at e want s) (L e want s) (r e want s)
  pub uses : (name : List ℕ) (at : Pos) (number : ℕ) (term : Signature) (args : ExprTrees) (s : State) → s.nodes ≤ max
      → term_named declared name ≡ Some number → slice_get declared.terms number ≡ Some term
      → Told max (R (expr_term (name, at) args at) (Some term.ret) s) (λ place. P place (expr_term (name, at) args at) (Some term.ret) s)
      (L (expr_term (name, at) args at) (Some term.ret) s) (u at number term args s)

-- a type that passes the test is the one that is expected
expected : (want : Option ℕ) (ty : ℕ) → is_expected want ty ≡ true → IsExpected want ty
expected None ty is = tt
expected (Some wanted) ty is = eqb-true wanted ty is

-- one that doesn't isn't
unexpected : (want : Option ℕ) (ty : ℕ) → is_expected want ty ≡ false → IsExpected want ty → ⊥
unexpected None ty is h = true≢false is
unexpected (Some wanted) ty is h = eqb-false wanted ty is h

module _ (declared : Declared) (caller : Flags) (max : ℕ) (R : ExprJudgement) (P : Pos → ExprFact) (L : ExprFact) (r : ExprRun) (u : ExprUse)
    (told : TellsExprs declared max R P L r u) where
  -- expressions, as many as there are types
  pub each_expr_told : (at : Pos) (ts : ExprTrees) (tys : List ℕ) (s : State) → s.nodes ≤ max → expr_count ts ≡ length tys
      → Told max (EachExpr R ts tys s) (λ place. SomeExpr R (P place) ts tys s) (SomeExpr R L ts tys s) (each_expr r at ts tys s)
  each_expr_told at no_exprs [] s fits same = record { tells = ((refl, refl), fits) }
  each_expr_told at no_exprs (ty ∷ tys) s fits same = absurd (omega arith)
  each_expr_told at (more_exprs t ts) [] s fits same = absurd (omega arith)
  each_expr_told at (more_exprs t ts) (ty ∷ tys) s fits same =
      and_then_told _ (told.reads t (Some ty) s fits) (λ place h. inl h) (λ h. inl h)
      (λ v m h fits_then. and_then_told _ (each_expr_told at ts tys m fits_then (omega arith)) (λ place k. inr (v, m, h, k)) (λ k. inr (v, m, h, k))
      (λ vs s' k fits_last. record { tells = ((v, m, vs, h, k, refl), fits_last) }))

  -- a call of a term whose type is expected
  pub call_told : (at : Pos) (number : ℕ) (term : Signature) (args : ExprTrees) (want : Option ℕ) (s : State) → s.nodes ≤ max
      → IsExpected want term.ret
      → Told max (Calls caller R term number args want s)
      (λ place. (IsIllCall declared caller term args want × (place ≡ at)) ⊎ CalledPart caller R (P place) term args want s)
      (CalledPart caller R L term args want s) (call caller r at number term args s)
  call_told at number term args want s fits type =
      only_if_told (expr_count args == length term.args) at _
      (λ same. let arity = eqb-true (expr_count args) (length term.args) same in
      only_if_told (has_constructor_form term.form) at _
      (λ usable. only_if_told (may_call caller (flags_of term.form)) at _
      (λ allowed. and_then_told _ (each_expr_told at args term.args s fits arity)
      (λ place h. inr (type, usable, allowed, arity, h)) (λ h. (type, usable, allowed, arity, h))
      (λ us s' h fits_then.
      record { tells = (record { values = us; type = type; usable = usable; allowed = allowed; each = h; made = refl }, fits_then) }))
      (λ not_so. inl (not_allowed type not_so, refl)))
      (λ none. inl (no_constructor type none, refl)))
      (λ other. inl (other_number type (eqb-false (expr_count args) (length term.args) other), refl))

  -- what is put around an expression of another type, where a converter fits
  converted_told : (inner : ℕ) (tree : ExprTree) (ty : ℕ) (s : State) → s.nodes ≤ max → inner ≢ ty → (fit : Option (ℕ × Signature))
      → IsFit declared has_constructor_form inner ty fit
      → Told max (ConvertsExpr declared R tree inner (Some ty) s)
      (λ place. (HasNoExprConverter declared inner ty × (place ≡ expr_pos tree)) ⊎ RepairedExpr declared (P place) tree inner (Some ty) s)
      (RepairedExpr declared L tree inner (Some ty) s) (repair_expr u fit tree s)
  converted_told inner tree ty s fits other None none = record { tells = inl (none, refl) }
  converted_told inner tree ty s fits other (Some fit) (name, named, stands, converts, usable) =
      let at = expr_pos tree in
      let form = expr_term (name, at) (more_exprs tree no_exprs) at in
      in_words (subst
      (λ z. Told max (R form (Some z) s) (λ place. P place form (Some z) s) (L form (Some z) s) (u at fit.0 fit.1 (more_exprs tree no_exprs) s))
      converts.gives (told.uses name at fit.0 fit.1 (more_exprs tree no_exprs) s fits named stands))
      (λ v s' h. record {
        ty = ty;
        name = name;
        converter = fit.1;
        wanted = refl;
        other = other;
        fits = converts;
        usable = usable;
        repaired = h;
      })
      (λ place h. inr (ty, name, fit.1, refl, other, converts, usable, h)) (λ h. (ty, name, fit.1, refl, other, converts, usable, h))

  -- an expression of another type than is expected
  repaired_told : (inner : ℕ) (tree : ExprTree) (want : Option ℕ) (s : State) → s.nodes ≤ max → is_expected want inner ≡ false
      → Told max (ConvertsExpr declared R tree inner want s)
      (λ place. (IsBeyondRepair declared inner want × (place ≡ expr_pos tree)) ⊎ RepairedExpr declared (P place) tree inner want s)
      (RepairedExpr declared L tree inner want s) (repair_expr u (fitting_wanted (known_by declared) inner want) tree s)
  repaired_told inner tree None s fits is = absurd (true≢false is)
  repaired_told inner tree (Some ty) s fits is =
      let other : inner ≢ ty = λ e. eqb-false ty inner is (sym e) in
      in_words (converted_told inner tree ty s fits other (fitting (known_by declared) has_constructor_form inner ty)
      (fitting_fits declared has_constructor_form inner ty)) (λ v s' h. h)
      (λ place h. elim h [ inl none ↦ inl ((other, none.0), none.1) | inr part ↦ inr part ]) (λ h. h)

  -- a call of a known term at a type or at none
  called_told : (name : Ident) (args : ExprTrees) (at : Pos) (want : Option ℕ) (number : ℕ) (term : Signature) (s : State) → s.nodes ≤ max
      → Told max
      (λ v s'. Calls caller R term number args want s v s' ⊎ ConvertsExpr declared R (expr_term name args at) term.ret want s v s')
      (λ place. (IsIllCall declared caller term args want × (place ≡ at))
      ⊎ (CalledPart caller R (P place) term args want s ⊎ RepairedExpr declared (P place) (expr_term name args at) term.ret want s))
      (CalledPart caller R L term args want s ⊎ RepairedExpr declared L (expr_term name args at) term.ret want s)
      (call_term (known_by declared) caller r u at number (Some term) (expr_term name args at) args want s)
  called_told name args at want number term s fits =
      either_told (is_expected want term.ret) _ _
      (λ is. in_words (call_told at number term args want s fits (expected want term.ret is)) (λ v s' h. inl h)
      (λ place h. elim h [ inl ill ↦ inl ill | inr part ↦ inr (inl part) ]) (λ h. inl h))
      (λ is. in_words (repaired_told term.ret (expr_term name args at) want s fits is) (λ v s' h. inr h)
      (λ place h. elim h [ inl beyond ↦ inl (other_result beyond.0, beyond.1) | inr part ↦ inr (inr part) ]) (λ h. inr h))

  -- what a node comes to
  abbrev pub ExprNodeTold : ExprTree → Option ℕ → State → Outcome TypedExpr → Type 0
  ExprNodeTold e want s o = Told max (ExprNode declared caller R e want s)
      (λ place. IsIllExpr declared caller R place e want s ⊎ BelowExpr declared caller R (P place) e want s)
      (BelowExpr declared caller R L e want s) o

  -- a call of a term, by the number of its name
  number_told : (name : Ident) (args : ExprTrees) (at : Pos) (want : Option ℕ) (s : State) → s.nodes ≤ max → (o : Option ℕ)
      → term_named declared name.0 ≡ o
      → ExprNodeTold (expr_term name args at) want s (call_number (known_by declared) caller r u at o (expr_term name args at) args want s)
  number_told name args at want s fits None is = record { tells = inl (inl is, refl) }
  number_told name args at want s fits (Some number) is =
      let there = term_there declared name.0 number is in
      let tree = expr_term name args at in
      subst (λ z. ExprNodeTold tree want s (call_term (known_by declared) caller r u at number z tree args want s))
      (sym there.1)
      (in_words (called_told name args at want number there.0 s fits) (λ v s' h. (number, there.0, is, there.1, h))
      (λ place h. elim h [
        | inl ill ↦ inl (inr (number, there.0, is, there.1, ill.0), ill.1)
        | inr below ↦ inr (number, there.0, is, there.1, below)
      ]) (λ h. (number, there.0, is, there.1, h)))

  -- a variable, by what it is bound to
  variable_told : (name : Ident) (at : Pos) (want : Option ℕ) (s : State) → s.nodes ≤ max → (o : Option Visible) → visible_in s.scope name.0 ≡ o
      → ExprNodeTold (expr_var name at) want s (read_variable (known_by declared) u at o (expr_var name at) want s)
  variable_told name at want s fits None is = record { tells = inl (inl is, refl) }
  variable_told name at want s fits (Some seen) is =
      either_told (is_expected want seen.type) _ _
      (λ same. record { tells = ((seen, is, inl (expected want seen.type same, refl, refl)), fits) })
      (λ other. in_words (repaired_told seen.type (expr_var name at) want s fits other) (λ v s' h. (seen, is, inr h))
      (λ place h. elim h [ inl beyond ↦ inl (inr (seen, is, beyond.0), beyond.1) | inr part ↦ inr (seen, is, part) ]) (λ h. (seen, is, h)))

  -- an integer, by the type that is expected
  integer_told : (val : ℤ) (big : Bool) (at : Pos) (want : Option ℕ) (s : State) → s.nodes ≤ max
      → ExprNodeTold (expr_int val big at) want s (read_integer (known_by declared) at val big want s)
  integer_told val big at None s fits = record { tells = inl (inl refl, refl) }
  integer_told val big at (Some ty) s fits =
      only_if_told (type_has_number declared.types ty val big) at _
      (λ is. record { tells = ((ty, refl, number_there declared.types ty val big is, refl, refl), fits) })
      (λ is. inl (inr (ty, refl, λ h. false≢true (sym is ∙ number_found declared.types ty val big h)), refl))

  -- a constant, by its type
  constant_told : (name : Ident) (at : Pos) (want : Option ℕ) (s : State) → s.nodes ≤ max → (o : Option ℕ)
      → constant_in declared.types.constants name.0 ≡ o → ExprNodeTold (expr_prim name at) want s (read_constant at o name.0 want s)
  constant_told name at want s fits None is = record { tells = inl (inl is, refl) }
  constant_told name at want s fits (Some ty) is =
      only_if_told (is_expected want ty) at _ (λ same. record { tells = ((ty, is, expected want ty same, refl, refl), fits) })
      (λ other. inl (inr (ty, is, unexpected want ty other), refl))

  -- what the variables of a `let` come to
  abbrev pub BindsTold : LetTrees → State → Type 0
  BindsTold defs s = Told max (Binds declared.types R defs s)
      (λ place. HasUnknownType declared.types R place defs s ⊎ SomeValue declared.types R (P place) defs s)
      (SomeValue declared.types R L defs s) (bind_values (known_by declared) r defs s)

  -- a variable of a `let`, by its type, and those behind it
  value_told : (var of_type : Ident) (val : ExprTree) (pos : Pos) (others : LetTrees) (s : State) → s.nodes ≤ max
      → ((m : State) → m.nodes ≤ max → BindsTold others m) → (o : Option ℕ) → type_named declared.types of_type.0 ≡ o
      → Told max (Binds declared.types R (more_lets var of_type val pos others) s)
      (λ place. HasUnknownType declared.types R place (more_lets var of_type val pos others) s
      ⊎ SomeValue declared.types R (P place) (more_lets var of_type val pos others) s)
      (SomeValue declared.types R L (more_lets var of_type val pos others) s)
      (bind_value r of_type.1 o var.0 val (bind_values (known_by declared) r others) s)
  value_told var of_type val pos others s fits rest None is = record { tells = inl (inl (is, refl)) }
  value_told var of_type val pos others s fits rest (Some ty) is =
      and_then_told _ (told.reads val (Some ty) s fits) (λ place h. inr (ty, is, inl h)) (λ h. (ty, is, inl h))
      (λ v m h fits_then. and_then_told _ (rest (bound m var.0 ty) fits_then)
      (λ place k. elim k [ inl unknown ↦ inl (inr (ty, v, m, is, h, unknown)) | inr some ↦ inr (ty, is, inr (v, m, h, some)) ])
      (λ k. (ty, is, inr (v, m, h, k)))
      (λ bs s' k fits_last. record { tells = ((ty, v, m, bs, is, h, k, refl), fits_last) }))

  -- the variables of a `let`
  pub binds_told : (defs : LetTrees) (s : State) → s.nodes ≤ max → BindsTold defs s
  binds_told no_lets s fits = record { tells = ((refl, refl), fits) }
  binds_told (more_lets var of_type val pos others) s fits =
      value_told var of_type val pos others s fits (λ m fits_then. binds_told others m fits_then) (type_named declared.types of_type.0) refl

  -- a node of an expression
  pub expr_node_told : (e : ExprTree) (want : Option ℕ) (s : State) → s.nodes ≤ max
      → ExprNodeTold e want s (expr_node (known_by declared) caller r u e want s)
  expr_node_told (expr_int val big at) want s fits = integer_told val big at want s fits
  expr_node_told (expr_bool val at) want s fits =
      only_if_told (is_expected want bool_number) at _ (λ same. record { tells = ((expected want bool_number same, refl, refl), fits) })
      (λ other. inl (unexpected want bool_number other, refl))
  expr_node_told (expr_prim name at) want s fits = constant_told name at want s fits (constant_in declared.types.constants name.0) refl
  expr_node_told (expr_var name at) want s fits = variable_told name at want s fits (visible_in s.scope name.0) refl
  expr_node_told (expr_term name args at) want s fits = number_told name args at want s fits (term_named declared name.0) refl
  expr_node_told (expr_let defs body at) want s fits =
      and_then_told _ (binds_told defs s fits) (λ place h. elim h [ inl unknown ↦ inl unknown | inr some ↦ inr (inl some) ]) (λ h. inl h)
      (λ bs m h fits_then. and_then_told _ (told.reads body want m fits_then) (λ place k. inr (inr (bs, m, h, k))) (λ k. inr (bs, m, h, k))
      (λ v e k fits_last. record { tells = ((bs, m, v, e, h, k, refl, refl), fits_last) }))

  -- a call of a term at its own type is what its tree comes to there
  pub use_told : (name : List ℕ) (at : Pos) (number : ℕ) (term : Signature) (args : ExprTrees) (s : State) → s.nodes ≤ max
      → term_named declared name ≡ Some number → slice_get declared.terms number ≡ Some term
      → ExprNodeTold (expr_term (name, at) args at) (Some term.ret) s (call caller r at number term args s)
  use_told name at number term args s fits named stands =
      in_words (call_told at number term args (Some term.ret) s fits refl) (λ v s' h. (number, term, named, stands, inl h))
      (λ place h. elim h [
        | inl ill ↦ inl (inr (number, term, named, stands, ill.0), ill.1)
        | inr part ↦ inr (number, term, named, stands, inl part)
      ]) (λ h. (number, term, named, stands, inl h))

-- reading expressions in so many levels tells the truth
pub exprs_told : (declared : Declared) (caller : Flags) (max levels : ℕ)
    → TellsExprs declared max (Builds declared caller levels) (λ at. ReachesExpr declared caller (IllExprAt declared at caller) levels)
    (ReachesExpr declared caller (λ left e want s. IsTooLarge max left s) levels) (read_expr (known_by declared) caller max levels)
    (read_expr_use (known_by declared) caller max levels)
exprs_told declared caller max zero = record {
  reads = λ e want s fits. record { tells = tt };
  uses = λ name at number term args s fits named stands. record { tells = tt };
}
exprs_told declared caller max (suc levels) =
    let below = exprs_told declared caller max levels in
    record {
      reads = λ e want s fits. within_told s.nodes _ (λ full. inl full)
          (λ room. in_words (expr_node_told declared caller max _ _ _ _ _ below e want (counted s) room) (λ v s' h. h) (λ at h. h) (λ h. inr h));
      uses = λ name at number term args s fits named stands. within_told s.nodes _ (λ full. inl full)
          (λ room. in_words (use_told declared caller max _ _ _ _ _ below name at number term args (counted s) room named stands) (λ v s' h. h)
          (λ at h. h) (λ h. inr h));
    }
