-- Expressions laid out, node by node.
use Rattle.std.proofs.Common.{◌≡◌, ◌<◌, ℕ, Bool, true, false, ◌==◌, ℤ, List, [], ◌∷◌, ◌++◌, map, Option, None, Some, length, refl, sym, ap}
use Rattle.std.proofs.Common.{◌∙◌, subst}
use Rattle.std.specs.List.{AllZip}
use Rattle.std.proofs.lemmas.List.Elements.{All-nil}
use Rattle.std.proofs.lemmas.List.{map-append}
use Rattle.isle_types.specs.declared.ids.Sym.{Sym}
use Rattle.isle_types.specs.declared.ids.TermId.{TermId}
use Rattle.isle_types.specs.declared.ids.TypeId.{TypeId}
use Rattle.isle_types.specs.declared.ids.VarId.{VarId}
use Rattle.isle_types.specs.TypeTables.{TypeTables, name_at}
use Rattle.isle_rules.specs.declared.rules.Expr.{Expr}
use Rattle.isle_rules.specs.declared.rules.Expr.TheVariants as exprs
use Rattle.isle_rules.specs.TypedRules.{TypedExpr, TypedExprs, TypedBindings, built_var, built_bool, built_int, built_prim, built_term, built_let}
use Rattle.isle_meaning.specs.Facts.{TermFacts}
use Rattle.isle_meaning.specs.Words.{Word, var_word, bool_word, int_word, prim_word, Words, Step, set, flat, flat_all, flat_lets}
use Rattle.isle_rules.specs.Shown.TermTables.{TermTables}
use Rattle.isle_rules.specs.Shown.ShownRules.{built_shown, built_list, binding_list}
use Rattle.isle_program.specs.Laws.Terms.{term_facts}
use Rattle.isle_program.specs.Plain.LaidOut.Words.{IsLaid, StandBehind, IsLaidStep, IsLaidOut}
use Rattle.isle_program.specs.Inside.Plain.LaidOut.Expressions.{stands_for, StandForTheSame, Binds, Restores, IsBound, Keeps, IsPut, IsLayout, Lays, LaysAll, LaysLet}
use Rattle.isle_program.specs.Inside.Plain.LaidOut.Expressions.{StandOnce, Ascend, LaysExpr, LaysExprs, binding_shown, LaysBindings, LaysTerm}
use Rattle.isle_program.specs.declared.laid.Laid.{Laid}
use Rattle.isle_program.specs.declared.laid.Layout.{Layout}
use Rattle.isle_program.specs.declared.laid.Part.{Part}
use Rattle.isle_program.specs.declared.laid.Part.TheVariants.{Var, Bool as BoolPart, Int, Const}
use Rattle.isle_program.proofs.Plain.LaidOut.Kept.{are_laid_kept, bound_kept, laid_inside, keeps_twice}
use Rattle.isle_program.proofs.Plain.LaidOut.Bound.{undone_same}
use Rattle.isle_program.proofs.Plain.LaidOut.Parts.{put_there, put_lays}
use Rattle.isle_program.proofs.Plain.LaidOut.Words.{shown_var, shown_bool, shown_int, shown_prim, shown_term, shown_let, and_word, flat_all_more}
use Rattle.isle_program.proofs.Plain.LaidOut.Words.{flat_lets_more, are_laid_more}

-- an expression, once it is known what is shown of it
lays_shown : (tyenv : TypeTables) (env : TermTables) (vars : ℕ → Word) (steps : List Step) (expr : Expr) (old new : Layout) (number : ℕ)
    (shown : TypedExpr) → built_shown tyenv.names expr ≡ shown
    → Lays tyenv.names vars (flat (term_facts tyenv env) vars steps shown) old new number
    → Lays tyenv.names vars (flat (term_facts tyenv env) vars steps (built_shown tyenv.names expr)) old new number
lays_shown tyenv env vars steps expr old new number shown e h =
    subst (λ (x : TypedExpr). Lays tyenv.names vars (flat (term_facts tyenv env) vars steps x) old new number) (sym e) h

-- a variable that stands for no part
pub lays_var : (env : TermTables) (ty : TypeId) (var : VarId) (old new : Layout) (number : ℕ) → stands_for old.bound.items var.0 ≡ None
    → IsPut (Var var) old new number → new.bound.items ≡ old.bound.items → LaysExpr env (exprs.Var ty var) old new number
lays_var env ty var old new number free p b = λ tyenv vars steps s.
    let e : vars var.0 ≡ var_word var.0 =
    subst (λ part. IsBound tyenv.names old.parts.items var.0 (vars var.0) part) free (s.bound var.0) in
    lays_shown tyenv env vars steps (exprs.Var ty var) old new number (built_var ty.0 var.0) (shown_var tyenv.names ty var)
    (put_lays tyenv.names vars steps (vars var.0) (Var var) old new number p b (All-nil (λ m. m < length old.parts.items)) (λ t ns j e. cc)
    (subst (λ w. IsLaid tyenv.names new.parts.items w number) (sym e) (var, put_there (Var var) old new number p, refl)) s)

-- a boolean
pub lays_bool : (env : TermTables) (ty : TypeId) (val : Bool) (old new : Layout) (number : ℕ) → IsPut (BoolPart val) old new number
    → new.bound.items ≡ old.bound.items → LaysExpr env (exprs.ConstBool ty val) old new number
lays_bool env ty val old new number p b = λ tyenv vars steps s.
    lays_shown tyenv env vars steps (exprs.ConstBool ty val) old new number (built_bool ty.0 val) (shown_bool tyenv.names ty val)
    (put_lays tyenv.names vars steps (bool_word ty.0 val) (BoolPart val) old new number p b
    (All-nil (λ m. m < length old.parts.items)) (λ t ns j e. cc)
    (put_there (BoolPart val) old new number p) s)

-- an integer
pub lays_int : (env : TermTables) (ty : TypeId) (val : ℤ) (old new : Layout) (number : ℕ) → IsPut (Int val) old new number
    → new.bound.items ≡ old.bound.items → LaysExpr env (exprs.ConstInt ty val) old new number
lays_int env ty val old new number p b = λ tyenv vars steps s.
    lays_shown tyenv env vars steps (exprs.ConstInt ty val) old new number (built_int ty.0 val) (shown_int tyenv.names ty val)
    (put_lays tyenv.names vars steps (int_word ty.0 val) (Int val) old new number p b
    (All-nil (λ m. m < length old.parts.items)) (λ t ns j e. cc)
    (put_there (Int val) old new number p) s)

-- a named constant
pub lays_prim : (env : TermTables) (ty : TypeId) (name : Sym) (old new : Layout) (number : ℕ) → IsPut (Const name) old new number
    → new.bound.items ≡ old.bound.items → LaysExpr env (exprs.ConstPrim ty name) old new number
lays_prim env ty name old new number p b = λ tyenv vars steps s.
    lays_shown tyenv env vars steps (exprs.ConstPrim ty name) old new number (built_prim ty.0 (name_at tyenv.names name))
    (shown_prim tyenv.names ty name)
    (put_lays tyenv.names vars steps (prim_word (name_at tyenv.names name)) (Const name) old new number p b
    (All-nil (λ m. m < length old.parts.items)) (λ t ns j e. cc) (name, put_there (Const name) old new number p, refl) s)

-- a term behind its arguments
pub lays_term : (env : TermTables) (ty : TypeId) (term : TermId) (args : List Expr) (old mid new : Layout) (numbers : List ℕ) (number : ℕ)
    → LaysExprs env args old mid numbers → LaysTerm env ty term numbers mid new number
    → LaysExpr env (exprs.Term ty term args) old new number
lays_term env ty term args old mid new numbers number h g = λ tyenv vars steps s.
    let shown : TypedExprs = built_list (map (built_shown tyenv.names) args) in
    let r : Words × List Step = flat_all (term_facts tyenv env) vars steps shown in
    let a = h tyenv vars steps s in
    let b = g tyenv vars (r.1) (r.0) a.state a.whole in
    lays_shown tyenv env vars steps (exprs.Term ty term args) old new number (built_term ty.0 term.0 shown)
    (shown_term tyenv.names ty term args)
    (record { whole = b.whole; state = b.state; kept = keeps_twice old.parts.items mid.parts.items new.parts.items a.kept b.kept })

-- expressions, and one more behind them
pub lays_more : (env : TermTables) (exprs : List Expr) (expr : Expr) (old mid new : Layout) (numbers : List ℕ) (number : ℕ)
    → LaysExprs env exprs old mid numbers → LaysExpr env expr mid new number
    → LaysExprs env (exprs ++ expr ∷ []) old new (numbers ++ number ∷ [])
lays_more env exprs expr old mid new numbers number h g = λ tyenv vars steps s.
    let facts : TermFacts = term_facts tyenv env in
    let shown : Expr → TypedExpr = built_shown tyenv.names in
    let r : Words × List Step = flat_all facts vars steps (built_list (map shown exprs)) in
    let a = h tyenv vars steps s in
    let b = g tyenv vars (r.1) a.state in
    let e : flat_all facts vars steps (built_list (map shown (exprs ++ expr ∷ [])))
    ≡ (and_word (r.0) ((flat facts vars (r.1) (shown expr)).0), (flat facts vars (r.1) (shown expr)).1) =
    ap (λ es. flat_all facts vars steps (built_list es)) (map-append shown exprs (expr ∷ []))
    ∙ flat_all_more facts vars steps (map shown exprs) (shown expr) in
    subst (λ (written : Words × List Step). LaysAll tyenv.names vars written old new (numbers ++ number ∷ [])) (sym e) (record {
      whole = are_laid_more tyenv.names new.parts.items (r.0) numbers ((flat facts vars (r.1) (shown expr)).0) number
          (are_laid_kept tyenv.names mid.parts.items new.parts.items b.kept (r.0) numbers a.whole) b.whole;
      state = b.state;
      kept = keeps_twice old.parts.items mid.parts.items new.parts.items a.kept b.kept;
    })

-- a variable that is bound to a part stands for the part's word
bound_to : (names : List (List ℕ)) (parts : List Part) (vars : ℕ → Word) (stand : ℕ → Option ℕ) (var : ℕ) (w : Word) (number : ℕ)
    → ((k : ℕ) → IsBound names parts k (vars k) (stand k)) → IsLaid names parts w number → (k : ℕ)
    → IsBound names parts k (set vars var w k) (set stand var (Some number) k)
bound_to names parts vars stand var w number h g k = go (k == var) refl
  where
    go : (b : Bool) → (k == var) ≡ b → IsBound names parts k (set vars var w k) (set stand var (Some number) k)
    go true e = rw e g
    go false e = rw e (h k)

-- what is laid out stays laid out where only the variables change
with_bound : (names : List (List ℕ)) (vars others : ℕ → Word) (steps : List Step) (old new : Layout)
    → new.parts.items ≡ old.parts.items → new.calls.items ≡ old.calls.items
    → ((k : ℕ) → IsBound names old.parts.items k (others k) (stands_for new.bound.items k))
    → IsLayout names vars steps old → IsLayout names others steps new
with_bound names vars others steps old new p c b s = record {
  bound = λ k. subst (λ parts. IsBound names parts k (others k) (stands_for new.bound.items k)) (sym p) (b k);
  called =
      let P : List Part → Type 0 = λ parts. AllZip (IsLaidStep names parts) steps new.calls.items in
      subst P (sym p) (subst (λ ns. AllZip (IsLaidStep names old.parts.items) steps ns) (sym c) s.called);
  behind = subst (λ parts. StandBehind parts) (sym p) s.behind;
  once =
      let P : List Part → Type 0 = λ parts. StandOnce parts new.calls.items in
      subst P (sym p) (subst (λ ns. StandOnce old.parts.items ns) (sym c) s.once);
  ascending = subst (λ ns. Ascend ns) (sym c) s.ascending;
}

-- bindings, and one more behind them
pub lays_binding : (env : TermTables) (bindings : List (VarId × TypeId × Expr)) (binding : VarId × TypeId × Expr)
    (old mid inner new : Layout) (number : ℕ) → LaysBindings env bindings old mid → LaysExpr env binding.2 mid inner number
    → new.parts.items ≡ inner.parts.items → new.calls.items ≡ inner.calls.items → Binds binding.0.0 (Some number) inner new
    → LaysBindings env (bindings ++ binding ∷ []) old new
lays_binding env bindings binding old mid inner new number h g parts calls binds = λ tyenv vars steps s.
    let facts : TermFacts = term_facts tyenv env in
    let shown : VarId × TypeId × Expr → VarId × TypeId × TypedExpr = binding_shown tyenv.names in
    let r : (ℕ → Word) × List Step = flat_lets facts vars steps (binding_list (map shown bindings)) in
    let w : Word × List Step = flat facts (r.0) (r.1) (built_shown tyenv.names binding.2) in
    let a = h tyenv vars steps s in
    let b = g tyenv (r.0) (r.1) a.state in
    let e : flat_lets facts vars steps (binding_list (map shown (bindings ++ binding ∷ []))) ≡ (set (r.0) binding.0.0 (w.0), w.1) =
    ap (λ bs. flat_lets facts vars steps (binding_list bs)) (map-append shown bindings (binding ∷ []))
    ∙ flat_lets_more facts vars steps (map shown bindings) (shown binding) in
    subst (λ (written : (ℕ → Word) × List Step). LaysLet tyenv.names written old new) (sym e) (record {
      state = with_bound tyenv.names (r.0) (set (r.0) binding.0.0 (w.0)) (w.1) inner new parts calls
          (λ k. subst (IsBound tyenv.names inner.parts.items k (set (r.0) binding.0.0 (w.0) k)) (sym (binds.each k))
          (bound_to tyenv.names inner.parts.items (r.0) (stands_for inner.bound.items) binding.0.0 (w.0) number b.state.bound b.whole k))
          b.state;
      kept = subst (λ ps. Keeps old.parts.items ps) (sym parts)
          (keeps_twice old.parts.items mid.parts.items inner.parts.items a.kept b.kept);
    })

-- a `let` whose variables stand again for what they stood for before
pub same_behind : (hidden : List (VarId × Option ℕ)) (old inner mid new : Layout) → Restores hidden inner old → StandForTheSame inner mid
    → Restores hidden mid new → StandForTheSame old new
same_behind hidden old inner mid new before same back = record {
  each = λ k. back.each k ∙ undone_same hidden (stands_for mid.bound.items) (stands_for inner.bound.items) same.each k
      ∙ sym (before.each k);
}

-- a `let` whose values and body are laid out
pub lays_let : (env : TermTables) (ty : TypeId) (bindings : List (VarId × TypeId × Expr)) (body : Expr)
    (old inner mid new : Layout) (number : ℕ)
    → LaysBindings env bindings old inner → LaysExpr env body inner mid number → new.parts.items ≡ mid.parts.items
    → new.calls.items ≡ mid.calls.items → StandForTheSame old new → LaysExpr env (exprs.Let ty bindings body) old new number
lays_let env ty bindings body old inner mid new number h g parts calls same = λ tyenv vars steps s.
    let names : List (List ℕ) = tyenv.names in
    let shown : TypedBindings = binding_list (map (binding_shown names) bindings) in
    let r : (ℕ → Word) × List Step = flat_lets (term_facts tyenv env) vars steps shown in
    let w : Word × List Step = flat (term_facts tyenv env) (r.0) (r.1) (built_shown names body) in
    let a = h tyenv vars steps s in
    let b = g tyenv (r.0) (r.1) a.state in
    let k : Keeps old.parts.items mid.parts.items = keeps_twice old.parts.items inner.parts.items mid.parts.items a.kept b.kept in
    lays_shown tyenv env vars steps (exprs.Let ty bindings body) old new number (built_let ty.0 shown (built_shown names body))
    (shown_let names ty bindings body)
    (record {
      whole = subst (λ ps. IsLaid names ps (w.0) number) (sym parts) b.whole;
      state = with_bound names (r.0) vars (w.1) mid new parts calls
          (λ v. subst (IsBound names mid.parts.items v (vars v)) (sym (same.each v))
          (bound_kept names old.parts.items mid.parts.items k v (vars v) (stands_for old.bound.items v) (s.bound v)))
          b.state;
      kept = subst (λ ps. Keeps old.parts.items ps) (sym parts) k;
    })

-- nothing is laid out yet
nothing_laid : (names : List (List ℕ)) (layout : Layout) → layout.parts.items ≡ [] → layout.calls.items ≡ [] → layout.bound.items ≡ []
    → IsLayout names var_word [] layout
nothing_laid names layout p c b = record {
  bound = λ k. subst (λ bound. IsBound names layout.parts.items k (var_word k) (stands_for bound k)) (sym b) refl;
  called = subst (λ ns. AllZip (IsLaidStep names layout.parts.items) [] ns) (sym c) tt;
  behind = subst (λ parts. StandBehind parts) (sym p) (λ n part e. absurd cc);
  once = subst (λ parts. StandOnce parts layout.calls.items) (sym p) (λ n j t ns e. absurd cc);
  ascending = subst (λ ns. Ascend ns) (sym c) (λ i j m n l e g. absurd cc);
}

-- an expression that is laid out from nothing
pub laid_out : (env : TermTables) (expr : Expr) (old new : Layout) (laid : Laid) → old.parts.items ≡ [] → old.calls.items ≡ []
    → old.bound.items ≡ [] → laid.parts.items ≡ new.parts.items → laid.calls.items ≡ new.calls.items
    → LaysExpr env expr old new laid.result → (tyenv : TypeTables) → IsLaidOut tyenv env expr laid
laid_out env expr old new laid p c b parts calls h tyenv =
    let names : List (List ℕ) = tyenv.names in
    let shown : TypedExpr = built_shown names expr in
    let w : Word × List Step = flat (term_facts tyenv env) var_word [] shown in
    let r : Lays names var_word w old new laid.result = h tyenv var_word [] (nothing_laid names old p c b) in
    record {
      whole = subst (λ ps. IsLaid names ps (w.0) laid.result) (sym parts) r.whole;
      steps =
          let P : List Part → Type 0 = λ ps. AllZip (IsLaidStep names ps) (w.1) laid.calls.items in
          subst P (sym parts) (subst (λ ns. AllZip (IsLaidStep names new.parts.items) (w.1) ns) (sym calls) r.state.called);
      behind = subst (λ ps. StandBehind ps) (sym parts) r.state.behind;
      once =
          let P : List Part → Type 0 = λ ps. StandOnce ps laid.calls.items in
          subst P (sym parts) (subst (λ ns. StandOnce new.parts.items ns) (sym calls) r.state.once);
      ascending = subst (λ ns. Ascend ns) (sym calls) r.state.ascending;
      inside = subst (λ ps. laid.result < length ps) (sym parts) (laid_inside names new.parts.items (w.0) laid.result r.whole);
    }
