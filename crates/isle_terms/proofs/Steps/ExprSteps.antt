-- The steps of a reading of expressions, as the code takes them.
use Rattle.std.proofs.Common.{◌≡◌, ◌≢◌, ℕ, suc, zero, ◌+◌, ◌-◌, ◌<◌, ◌≤◌, Bool, true, false, leb, List, [], ◌∷◌, ◌++◌, length, map, drop, get_or}
use Rattle.std.proofs.Common.{Option, Some, if◌then◌else◌, ◌==◌, ◌&&◌, refl, sym, ap, ◌∙◌, subst, arith, add-one, drop-cons, drop_of_length-le}
use Rattle.std.proofs.lemmas.Bool.Decides.{nat_tests}
use Rattle.std.specs.Prelude.{Result, IfOk, IfErr}
use Rattle.isle_ast.specs.declared.pos.Pos.{Pos}
use Rattle.isle_ast.specs.declared.error.Error.{Error}
use Rattle.isle_ast.specs.declared.refusal.Refusal.{Refusal}
use Rattle.isle_ast.specs.declared.ast.Expr.{Expr as ExprSource}
use Rattle.isle_ast.specs.declared.ast.LetDef.{LetDef}
use Rattle.isle_ast.specs.Trees.ExprTree.{ExprTree, ExprTrees, LetTrees, no_exprs}
use Rattle.isle_ast.specs.Trees.ExprShape.{expr_of, exprs_of, lets_of}
use Rattle.isle_types.specs.declared.ids.TypeId.{TypeId}
use Rattle.isle_types.specs.declared.ids.VarId.{VarId}
use Rattle.isle_rules.specs.declared.rules.Expr.{Expr}
use Rattle.isle_rules.specs.declared.rules.Expr.TheVariants
use Rattle.isle_rules.specs.TypedRules.{TypedExpr, TypedExprs, TypedBindings, no_built, more_built, no_typed_bindings, more_typed_bindings, built_term, built_let, built_at}
use Rattle.isle_rules.specs.TypedTrees.{type_of_expr}
use Rattle.isle_rules.specs.Signatures.{Flags, Signature, has_constructor_form, flags_of}
use Rattle.isle_rules.specs.Elaboration.{State, counted, expr_count, may_call, seen_from}
use Rattle.isle_terms.specs.Inside.Readings.Outcomes.{Outcome, stands_for, ill_at, exceeds, Known, and_then, only_if, ExprRun, each_expr, call}
use Rattle.isle_terms.specs.Inside.Readings.Outcomes.{bind_value, bind_values, expr_node, read_expr, read_expr_use}
use Rattle.isle_rules.specs.Shown.ShownTerms.{numbers_of}
use Rattle.isle_rules.specs.Shown.ShownRules.{built_shown, built_list, binding_list, greatest, greatest_of_values}
use Rattle.isle_terms.specs.Inside.Readings.Failures.{Fails}
use Rattle.isle_terms.specs.Inside.Readings.ExprReadings.{is_call, read_let, binding_shown}
use Rattle.isle_terms.proofs.Steps.BuiltShown.{shown-Let, shown_at}
use Rattle.isle_terms.proofs.Steps.PatternSteps.{fails_along, fails_then}

module _ (known : Known) (caller : Flags) (max : ℕ) where
  -- a node that is counted
  pub expr_counted : (levels : ℕ) (e : ExprTree) (want : Option ℕ) (s : State) → levels ≢ 0 → leb max s.nodes ≡ false
      → read_expr known caller max levels e want s
      ≡ expr_node known caller (read_expr known caller max (levels - 1)) (read_expr_use known caller max (levels - 1)) e want (counted s)
  expr_counted zero e want s some room = absurd (some refl)
  expr_counted (suc levels) e want s some room =
      ap (λ b. if b then exceeds
      else expr_node known caller (read_expr known caller max levels) (read_expr_use known caller max levels) e want (counted s)) room
      ∙ ap (λ n. expr_node known caller (read_expr known caller max n) (read_expr_use known caller max n) e want (counted s))
      (let same : levels ≡ suc levels - 1 = omega arith in same)

  pub use_counted : (levels : ℕ) (at : Pos) (number : ℕ) (term : Signature) (args : ExprTrees) (s : State) → levels ≢ 0 → leb max s.nodes ≡ false
      → read_expr_use known caller max levels at number term args s
      ≡ call caller (read_expr known caller max (levels - 1)) at number term args (counted s)
  use_counted zero at number term args s some room = absurd (some refl)
  use_counted (suc levels) at number term args s some room =
      ap (λ b. if b then exceeds else call caller (read_expr known caller max levels) at number term args (counted s)) room
      ∙ ap (λ n. call caller (read_expr known caller max n) at number term args (counted s))
      (let same : levels ≡ suc levels - 1 = omega arith in same)

-- the expressions that were read, before others
abbrev pub before_exprs : List TypedExpr → TypedExprs → TypedExprs
before_exprs [] others = others
before_exprs (first ∷ done) others = more_built first (before_exprs done others)

-- what was read, before what others come to
abbrev pub after_exprs : List TypedExpr → Outcome TypedExprs → Outcome TypedExprs
after_exprs done o = and_then o (λ others s. stands_for (before_exprs done others) s)

before_pushed : (done : List TypedExpr) (last : TypedExpr) (others : TypedExprs)
    → before_exprs (done ++ last ∷ []) others ≡ before_exprs done (more_built last others)
before_pushed [] last others = refl
before_pushed (first ∷ done) last others = ap (more_built first) (before_pushed done last others)

before_none : (done : List TypedExpr) → before_exprs done no_built ≡ built_list done
before_none [] = refl
before_none (first ∷ done) = ap (more_built first) (before_none done)

pushed_exprs : (done : List TypedExpr) (last : TypedExpr) (o : Outcome TypedExprs)
    → after_exprs done (and_then o (λ others s. stands_for (more_built last others) s)) ≡ after_exprs (done ++ last ∷ []) o
pushed_exprs done last (stands_for others s) = ap (λ v. stands_for v s) (sym (before_pushed done last others))
pushed_exprs done last (ill_at at) = refl
pushed_exprs done last exceeds = refl

module _ (r : ExprRun) (at : Pos) where
  -- the expression at a place, and those behind it
  at_place : (exprs : List ExprSource) (tys : List TypeId) (i : ℕ) (e : ExprSource) (other : TypeId) (s : State) → i < length exprs
      → i < length tys → e ≡ get_or exprs i e
      → each_expr r at (exprs_of (drop i exprs)) (numbers_of (drop i tys)) s
      ≡ and_then (r (expr_of e) (Some (get_or tys i other).0) s) (λ v m. and_then
      (each_expr r at (exprs_of (drop (i + 1) exprs)) (numbers_of (drop (i + 1) tys)) m) (λ vs s'. stands_for (more_built v vs) s'))
  at_place exprs tys i e other s within within_tys is =
      let cut : drop i exprs ≡ e ∷ drop (i + 1) exprs = rw add-one (drop-cons exprs i e within ∙ ap (λ x. x ∷ drop (suc i) exprs) (sym is)) in
      let cut_ty : drop i tys ≡ get_or tys i other ∷ drop (i + 1) tys = rw add-one (drop-cons tys i other within_tys) in
      ap (λ (es : List ExprSource). each_expr r at (exprs_of es) (numbers_of (drop i tys)) s) cut
      ∙ ap (λ (ts : List TypeId). each_expr r at (exprs_of (e ∷ drop (i + 1) exprs)) (numbers_of ts) s) cut_ty

  pub next_read : (whole : Outcome TypedExprs) (done : List TypedExpr) (v : TypedExpr) (exprs : List ExprSource) (tys : List TypeId) (i : ℕ)
      (e : ExprSource) (other : TypeId) (s m : State) → i < length exprs → i < length tys → e ≡ get_or exprs i e
      → r (expr_of e) (Some (get_or tys i other).0) s ≡ stands_for v m
      → whole ≡ after_exprs done (each_expr r at (exprs_of (drop i exprs)) (numbers_of (drop i tys)) s)
      → whole ≡ after_exprs (done ++ v ∷ []) (each_expr r at (exprs_of (drop (i + 1) exprs)) (numbers_of (drop (i + 1) tys)) m)
  next_read whole done v exprs tys i e other s m within within_tys is read so_far =
      so_far ∙ ap (after_exprs done) (at_place exprs tys i e other s within within_tys is
      ∙ ap (λ (o : Outcome TypedExpr). and_then o (λ v m. and_then
      (each_expr r at (exprs_of (drop (i + 1) exprs)) (numbers_of (drop (i + 1) tys)) m) (λ vs s'. stands_for (more_built v vs) s'))) read)
      ∙ pushed_exprs done v _

  pub all_read : (whole : Outcome TypedExprs) (done : List TypedExpr) (exprs : List ExprSource) (tys : List TypeId) (i : ℕ) (s : State)
      → length exprs ≤ i → length tys ≤ i
      → whole ≡ after_exprs done (each_expr r at (exprs_of (drop i exprs)) (numbers_of (drop i tys)) s) → whole ≡ stands_for (built_list done) s
  all_read whole done exprs tys i s past past_tys so_far =
      so_far ∙ ap (after_exprs done)
      (ap (λ (es : List ExprSource). each_expr r at (exprs_of es) (numbers_of (drop i tys)) s) (drop_of_length-le exprs {i = i} past)
      ∙ ap (λ (ts : List TypeId). each_expr r at no_exprs (numbers_of ts) s) (drop_of_length-le tys {i = i} past_tys))
      ∙ ap (λ v. stands_for v s) (before_none done)

  -- where the expression at a place fails, so does the whole
  pub next_fails : (rule : Pos) (whole : Outcome TypedExprs) (done : List TypedExpr) (exprs : List ExprSource) (tys : List TypeId) (i : ℕ)
      (e : ExprSource) (other : TypeId) (s : State) (refusal : Refusal Error) → i < length exprs → i < length tys → e ≡ get_or exprs i e
      → Fails rule (r (expr_of e) (Some (get_or tys i other).0) s) refusal
      → whole ≡ after_exprs done (each_expr r at (exprs_of (drop i exprs)) (numbers_of (drop i tys)) s) → Fails rule whole refusal
  next_fails rule whole done exprs tys i e other s refusal within within_tys is failed so_far =
      fails_along rule whole _ refusal (so_far ∙ ap (after_exprs done) (at_place exprs tys i e other s within within_tys is))
      (fails_then rule _ (λ others m. stands_for (before_exprs done others) m) refusal
      (fails_then rule (r (expr_of e) (Some (get_or tys i other).0) s) _ refusal failed))

-- the variables of a `let` that were read, before others
abbrev pub before_bindings : List (VarId × TypeId × TypedExpr) → TypedBindings → TypedBindings
before_bindings [] others = others
before_bindings (first ∷ done) others = more_typed_bindings first.0.0 first.1.0 first.2 (before_bindings done others)

abbrev pub after_bindings : List (VarId × TypeId × TypedExpr) → Outcome TypedBindings → Outcome TypedBindings
after_bindings done o = and_then o (λ others s. stands_for (before_bindings done others) s)

bindings_pushed : (done : List (VarId × TypeId × TypedExpr)) (last : VarId × TypeId × TypedExpr) (others : TypedBindings)
    → before_bindings (done ++ last ∷ []) others ≡ before_bindings done (more_typed_bindings last.0.0 last.1.0 last.2 others)
bindings_pushed [] last others = refl
bindings_pushed (first ∷ done) last others = ap (more_typed_bindings first.0.0 first.1.0 first.2) (bindings_pushed done last others)

bindings_none : (done : List (VarId × TypeId × TypedExpr)) → before_bindings done no_typed_bindings ≡ binding_list done
bindings_none [] = refl
bindings_none (first ∷ done) = ap (more_typed_bindings first.0.0 first.1.0 first.2) (bindings_none done)

pushed_bindings : (done : List (VarId × TypeId × TypedExpr)) (last : VarId × TypeId × TypedExpr) (o : Outcome TypedBindings)
    → after_bindings done (and_then o (λ others s. stands_for (more_typed_bindings last.0.0 last.1.0 last.2 others) s))
    ≡ after_bindings (done ++ last ∷ []) o
pushed_bindings done last (stands_for others s) = ap (λ v. stands_for v s) (sym (bindings_pushed done last others))
pushed_bindings done last (ill_at at) = refl
pushed_bindings done last exceeds = refl

module _ (known : Known) (r : ExprRun) where
  -- the variable at a place, and those behind it
  def_at : (defs : List LetDef) (i : ℕ) (def : LetDef) (s : State) → i < length defs → def ≡ get_or defs i def
      → bind_values known r (lets_of (drop i defs)) s
      ≡ bind_value r def.ty.1 (known.type_named def.ty.0) def.var.0 (expr_of def.val) (bind_values known r (lets_of (drop (i + 1) defs))) s
  def_at defs i def s within is =
      let cut : drop i defs ≡ def ∷ drop (i + 1) defs = rw add-one (drop-cons defs i def within ∙ ap (λ x. x ∷ drop (suc i) defs) (sym is)) in
      ap (λ (ds : List LetDef). bind_values known r (lets_of ds) s) cut

  pub next_bound : (whole : Outcome TypedBindings) (done : List (VarId × TypeId × TypedExpr)) (last : VarId × TypeId × TypedExpr)
      (defs : List LetDef) (i : ℕ) (def : LetDef) (s m : State) → i < length defs → def ≡ get_or defs i def
      → ((next : State → Outcome TypedBindings) → bind_value r def.ty.1 (known.type_named def.ty.0) def.var.0 (expr_of def.val) next s
      ≡ and_then (next m) (λ others e. stands_for (more_typed_bindings last.0.0 last.1.0 last.2 others) e))
      → whole ≡ after_bindings done (bind_values known r (lets_of (drop i defs)) s)
      → whole ≡ after_bindings (done ++ last ∷ []) (bind_values known r (lets_of (drop (i + 1) defs)) m)
  next_bound whole done last defs i def s m within is read so_far =
      so_far ∙ ap (after_bindings done) (def_at defs i def s within is ∙ read (bind_values known r (lets_of (drop (i + 1) defs))))
      ∙ pushed_bindings done last _

  -- where the variable at a place fails, so does the whole
  pub next_refused : (rule : Pos) (whole : Outcome TypedBindings) (done : List (VarId × TypeId × TypedExpr)) (defs : List LetDef) (i : ℕ)
      (def : LetDef) (s : State) (refusal : Refusal Error) → i < length defs → def ≡ get_or defs i def
      → ((next : State → Outcome TypedBindings)
      → Fails rule (bind_value r def.ty.1 (known.type_named def.ty.0) def.var.0 (expr_of def.val) next s) refusal)
      → whole ≡ after_bindings done (bind_values known r (lets_of (drop i defs)) s) → Fails rule whole refusal
  next_refused rule whole done defs i def s refusal within is failed so_far =
      fails_along rule whole _ refusal (so_far ∙ ap (after_bindings done) (def_at defs i def s within is))
      (fails_then rule _ (λ others m. stands_for (before_bindings done others) m) refusal
      (failed (bind_values known r (lets_of (drop (i + 1) defs)))))

  -- what a `let` stands for
  pub let_stands : (names : List (List ℕ)) (defs : LetTrees) (body : ExprTree) (want : Option ℕ) (s m e left : State) (ty : TypeId)
      (bindings made : List (VarId × TypeId × Expr)) (boxed value : Expr)
      → bind_values known r defs s ≡ stands_for (binding_list (map (binding_shown names) made)) m
      → r body want m ≡ stands_for (built_shown names value) e
      → bindings ≡ made → boxed ≡ value → ty ≡ type_of_expr value → left ≡ seen_from s e
      → read_let known r defs body want s ≡ stands_for (built_shown names (TheVariants.Let ty bindings boxed)) left
  let_stands names defs body want s m e left ty bindings made boxed value bound read same same_boxed type left_is =
      let shown = shown-Let names ty bindings boxed in
      let own : ty.0 ≡ built_at (built_shown names value) = ap (λ (t : TypeId). t.0) type ∙ sym (shown_at names value) in
      ap (λ (o : Outcome TypedBindings). and_then o (λ bs m.
      and_then (r body want m) (λ v e. stands_for (built_let (built_at v) bs v) (seen_from s e)))) bound
      ∙ ap (λ (o : Outcome TypedExpr). and_then o (λ v e. stands_for (built_let (built_at v) (binding_list (map (binding_shown names) made)) v)
      (seen_from s e))) read
      ∙ (let same_let : built_let (built_at (built_shown names value)) (binding_list (map (binding_shown names) made)) (built_shown names value)
      ≡ built_shown names (TheVariants.Let ty bindings boxed) = cc in
      ap (λ v. stands_for v (seen_from s e)) same_let ∙ ap (stands_for (built_shown names (TheVariants.Let ty bindings boxed))) (sym left_is))

  pub all_bound : (whole : Outcome TypedBindings) (done : List (VarId × TypeId × TypedExpr)) (defs : List LetDef) (i : ℕ) (s : State)
      → length defs ≤ i → whole ≡ after_bindings done (bind_values known r (lets_of (drop i defs)) s)
      → whole ≡ stands_for (binding_list done) s
  all_bound whole done defs i s past so_far =
      so_far ∙ ap (after_bindings done)
      (ap (λ (ds : List LetDef). bind_values known r (lets_of ds) s) (drop_of_length-le defs {i = i} past))
      ∙ ap (λ v. stands_for v s) (bindings_none done)

-- how many expressions there are
pub counts : (exprs : List ExprSource) → expr_count (exprs_of exprs) ≡ length exprs
counts [] = refl
counts (e ∷ exprs) = let others = counts exprs in omega arith

-- what can be called with so many arguments takes so many
pub call_counted : (caller : Flags) (term : Signature) (count : ℕ) → is_call caller term count ≡ true → count ≡ length term.args
call_counted caller term count h = grind (arith, nat_tests)

-- the three tests of a call are one
one_test : (a b c : Bool) (at : Pos) (o : Outcome TypedExpr) → only_if a at (only_if b at (only_if c at o)) ≡ only_if (a && (b && c)) at o
one_test true true c at o = refl
one_test true false c at o = refl
one_test false b c at o = refl

module _ (caller : Flags) (r : ExprRun) (at : Pos) (number : ℕ) (term : Signature) (args : List ExprSource) (count : ℕ) (s : State) where
  -- a call by its one test
  call_tested : count ≡ length args → call caller r at number term (exprs_of args) s
      ≡ only_if (is_call caller term count) at
      (and_then (each_expr r at (exprs_of args) term.args s) (λ us e. stands_for (built_term term.ret number us) e))
  call_tested same =
      one_test (expr_count (exprs_of args) == length term.args) (has_constructor_form term.form) (may_call caller (flags_of term.form)) at _
      ∙ ap (λ n. only_if (is_call caller term n) at
      (and_then (each_expr r at (exprs_of args) term.args s) (λ us e. stands_for (built_term term.ret number us) e))) (counts args ∙ sym same)

  pub call_refused : count ≡ length args → is_call caller term count ≡ false → call caller r at number term (exprs_of args) s ≡ ill_at at
  call_refused same refused = call_tested same ∙ ap (λ b. only_if b at
      (and_then (each_expr r at (exprs_of args) term.args s) (λ us e. stands_for (built_term term.ret number us) e))) refused

  pub call_allowed : count ≡ length args → is_call caller term count ≡ true → call caller r at number term (exprs_of args) s
      ≡ and_then (each_expr r at (exprs_of args) term.args s) (λ us e. stands_for (built_term term.ret number us) e)
  call_allowed same allowed = call_tested same ∙ ap (λ b. only_if b at
      (and_then (each_expr r at (exprs_of args) term.args s) (λ us e. stands_for (built_term term.ret number us) e))) allowed

module _ (names : List (List ℕ)) (rule : Pos) (o p : Outcome TypedExpr) (made : Result Expr (Refusal Error)) where
  -- equal outcomes are met alike
  pub ok_along : (s : State) → o ≡ p → IfOk made (λ e. p ≡ stands_for (built_shown names e) s)
      → IfOk made (λ e. o ≡ stands_for (built_shown names e) s)
  ok_along s same h = let P : Outcome TypedExpr → Type 0 = λ q. IfOk made (λ e. q ≡ stands_for (built_shown names e) s) in subst P (sym same) h

  pub err_along : o ≡ p → IfErr made (Fails rule p) → IfErr made (Fails rule o)
  err_along same h = let P : Outcome TypedExpr → Type 0 = λ q. IfErr made (Fails rule q) in subst P (sym same) h

-- the greatest of numbers with one more
pub greatest_pushed : (limits : List ℕ) (last bound : ℕ) → greatest limits ≤ bound → last ≤ bound → greatest (limits ++ last ∷ []) ≤ bound
greatest_pushed [] last bound h k = omega arith
greatest_pushed (first ∷ limits) last bound h k =
    let others : greatest limits ≤ bound = omega arith in let more = greatest_pushed limits last bound others k in omega arith

pub greatest_value_pushed : (limits : List (VarId × TypeId × ℕ)) (last : VarId × TypeId × ℕ) (bound : ℕ) → greatest_of_values limits ≤ bound
    → last.2 ≤ bound → greatest_of_values (limits ++ last ∷ []) ≤ bound
greatest_value_pushed [] last bound h k = omega arith
greatest_value_pushed (first ∷ limits) last bound h k =
    let others : greatest_of_values limits ≤ bound = omega arith in let more = greatest_value_pushed limits last bound others k in omega arith
