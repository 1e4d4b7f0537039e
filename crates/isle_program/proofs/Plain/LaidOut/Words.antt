-- Expressions as they are shown, and lists of them written out one by one.
use Rattle.std.proofs.Common.{◌≡◌, ℕ, ℤ, Bool, List, [], ◌∷◌, ◌++◌, map, refl, sym, ap, ◌∙◌}
use Rattle.isle_types.specs.declared.ids.Sym.{Sym}
use Rattle.isle_types.specs.TypeTables.{name_at}
use Rattle.isle_types.specs.declared.ids.TermId.{TermId}
use Rattle.isle_types.specs.declared.ids.TypeId.{TypeId}
use Rattle.isle_types.specs.declared.ids.VarId.{VarId}
use Rattle.isle_rules.specs.declared.rules.Expr.{Expr, Expr-F, fold-roll-Expr}
use Rattle.isle_rules.specs.declared.rules.Expr.TheVariants as exprs
use Rattle.isle_rules.specs.TypedRules.{TypedExpr, built_var, built_bool, built_int, built_prim, built_term, built_let}
use Rattle.isle_meaning.specs.Facts.{TermFacts}
use Rattle.isle_meaning.specs.Words.{Word, Words, no_words, more_words, Step, set, flat, flat_all, flat_lets}
use Rattle.isle_rules.specs.Shown.ShownRules.{built_step, built_shown, built_list, binding_list}
use Rattle.isle_program.specs.Inside.Plain.LaidOut.Expressions.{binding_shown}
use Rattle.isle_program.specs.Plain.LaidOut.Words.{IsLaid, AreLaid}
use Rattle.isle_program.specs.declared.laid.Part.{Part}

-- the bindings that a fold shows
bindings_shown : (names : List (List ℕ)) (f : VarId × TypeId × Expr → VarId × TypeId × TypedExpr)
    → ((b : VarId × TypeId × Expr) → ((f b).0 ≡ b.0) × ((f b).1 ≡ b.1) × ((f b).2 ≡ built_shown names b.2))
    → (bs : List (VarId × TypeId × Expr)) → binding_list (map f bs) ≡ binding_list (map (binding_shown names) bs)
bindings_shown names f k [] = refl
bindings_shown names f k (b ∷ bs) = let h = k b in let rest = bindings_shown names f k bs in cc

-- a `let` as it is shown
pub shown_let : (names : List (List ℕ)) (ty : TypeId) (bs : List (VarId × TypeId × Expr)) (body : Expr)
    → built_shown names (exprs.Let ty bs body) ≡ built_let ty.0 (binding_list (map (binding_shown names) bs)) (built_shown names body)
shown_let names ty bs body =
    ap (built_shown names) (sym (exprs.rolls-Let ty bs body)) ∙ fold-roll-Expr TypedExpr (built_step names) (Expr-F.Let ty bs body)
    ∙ ap (λ x. built_let ty.0 x (built_shown names body)) (bindings_shown names _ (λ b. (refl, refl, refl)) bs)

-- a term as it is shown
pub shown_term : (names : List (List ℕ)) (ty : TypeId) (term : TermId) (args : List Expr)
    → built_shown names (exprs.Term ty term args) ≡ built_term ty.0 term.0 (built_list (map (built_shown names) args))
shown_term names ty term args =
    ap (built_shown names) (sym (exprs.rolls-Term ty term args)) ∙ fold-roll-Expr TypedExpr (built_step names) (Expr-F.Term ty term args)

-- a variable as it is shown
pub shown_var : (names : List (List ℕ)) (ty : TypeId) (var : VarId) → built_shown names (exprs.Var ty var) ≡ built_var ty.0 var.0
shown_var names ty var =
    ap (built_shown names) (sym (exprs.rolls-Var ty var)) ∙ fold-roll-Expr TypedExpr (built_step names) (Expr-F.Var ty var)

-- a boolean as it is shown
pub shown_bool : (names : List (List ℕ)) (ty : TypeId) (val : Bool) → built_shown names (exprs.ConstBool ty val) ≡ built_bool ty.0 val
shown_bool names ty val =
    ap (built_shown names) (sym (exprs.rolls-ConstBool ty val)) ∙ fold-roll-Expr TypedExpr (built_step names) (Expr-F.ConstBool ty val)

-- an integer as it is shown
pub shown_int : (names : List (List ℕ)) (ty : TypeId) (val : ℤ) → built_shown names (exprs.ConstInt ty val) ≡ built_int ty.0 val
shown_int names ty val =
    ap (built_shown names) (sym (exprs.rolls-ConstInt ty val)) ∙ fold-roll-Expr TypedExpr (built_step names) (Expr-F.ConstInt ty val)

-- a named constant as it is shown
pub shown_prim : (names : List (List ℕ)) (ty : TypeId) (name : Sym)
    → built_shown names (exprs.ConstPrim ty name) ≡ built_prim ty.0 (name_at names name)
shown_prim names ty name =
    ap (built_shown names) (sym (exprs.rolls-ConstPrim ty name)) ∙ fold-roll-Expr TypedExpr (built_step names) (Expr-F.ConstPrim ty name)

-- words with one more behind them
abbrev pub and_word : Words → Word → Words
and_word no_words last = more_words last no_words
and_word (more_words first others) last = more_words first (and_word others last)

-- expressions with one more behind them, written out
pub flat_all_more : (facts : TermFacts) (vars : ℕ → Word) (steps : List Step) (es : List TypedExpr) (e : TypedExpr)
    → flat_all facts vars steps (built_list (es ++ e ∷ []))
    ≡ (
      and_word ((flat_all facts vars steps (built_list es)).0) ((flat facts vars ((flat_all facts vars steps (built_list es)).1) e).0),
      (flat facts vars ((flat_all facts vars steps (built_list es)).1) e).1,
    )
flat_all_more facts vars steps [] e = refl
flat_all_more facts vars steps (first ∷ others) e =
    let rest = flat_all_more facts vars ((flat facts vars steps first).1) others e in
    ap (λ (r : Words × List Step). (more_words ((flat facts vars steps first).0) (r.0), r.1)) rest

-- bindings with one more behind them, written out
pub flat_lets_more : (facts : TermFacts) (vars : ℕ → Word) (steps : List Step) (bs : List (VarId × TypeId × TypedExpr))
    (b : VarId × TypeId × TypedExpr)
    → flat_lets facts vars steps (binding_list (bs ++ b ∷ []))
    ≡ (
      set ((flat_lets facts vars steps (binding_list bs)).0) b.0.0
          ((flat facts ((flat_lets facts vars steps (binding_list bs)).0) ((flat_lets facts vars steps (binding_list bs)).1) b.2).0),
      (flat facts ((flat_lets facts vars steps (binding_list bs)).0) ((flat_lets facts vars steps (binding_list bs)).1) b.2).1,
    )
flat_lets_more facts vars steps [] b = refl
flat_lets_more facts vars steps (first ∷ others) b =
    flat_lets_more facts (set vars first.0.0 ((flat facts vars steps first.2).0)) ((flat facts vars steps first.2).1) others b

-- words that are laid, and one more
pub are_laid_more : (names : List (List ℕ)) (parts : List Part) (ws : Words) (ns : List ℕ) (w : Word) (n : ℕ)
    → AreLaid names parts ws ns → IsLaid names parts w n → AreLaid names parts (and_word ws w) (ns ++ n ∷ [])
are_laid_more names parts no_words [] w n h g = (g, tt)
are_laid_more names parts no_words (first ∷ others) w n h g = absurd h
are_laid_more names parts (more_words v ws) [] w n h g = absurd h
are_laid_more names parts (more_words v ws) (first ∷ others) w n h g = (h.0, are_laid_more names parts ws others w n h.1 g)
