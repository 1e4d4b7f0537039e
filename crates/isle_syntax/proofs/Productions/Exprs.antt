-- Reading an expression follows the grammar.
use Rattle.std.proofs.Common.{◌≡◌, ℕ, zero, suc, ◌<◌, List, [], ◌∷◌, ◌++◌, length, Bool, true, false, refl, sym, ap, subst, ◌∙◌, append_assoc}
use Rattle.std.specs.Prelude.{◌&&◌, not, codes}
use Rattle.std.proofs.lemmas.Bool.{false≢true}
use Rattle.isle_syntax.specs.declared.kind.Kind.{Kind}
use Rattle.isle_syntax.specs.declared.kind.Kind.TheVariants.{True, False, Const, Wildcard, Name, Other}
use Rattle.isle_ast.specs.declared.pos.Pos.{Pos}
use Rattle.isle_ast.specs.declared.ast.Ident.{Ident}
use Rattle.isle_syntax.specs.Tokens.PlacedTokens.{Placed, opening, closing, at_sign, symbol, int}
use Rattle.isle_syntax.specs.Tokens.Names.{is_ident, is_word, is_name}
use Rattle.isle_syntax.specs.Grammar.Phrases.{◌⊙◌, Both, Opens, Closes, Opening, Says, SymbolOf, next_symbol_is, Each, Closed}
use Rattle.isle_syntax.specs.Inside.Reading.KindOf.{symbol_kind}
use Rattle.isle_syntax.specs.Inside.Reading.Readers.{done, fault, seq, rest_of, opened, closed, symbol_of, says}
use Rattle.isle_ast.specs.Trees.ExprTree.{ExprTree, ExprTrees, LetTrees, expr_term, expr_var, expr_bool, expr_int, expr_prim, expr_let, no_exprs}
use Rattle.isle_ast.specs.Trees.ExprTree.{more_exprs, no_lets, more_lets}
use Rattle.isle_syntax.specs.Grammar.TreeGrammar.{bits_of, is_large, is_expr_term, SpellsExpr, SpellsExprs, SpellsLets}
use Rattle.isle_syntax.specs.Inside.Reading.TreeReading.{ident, after_dollar, expr_trees, symbol_expr, LetBinding, let_trees, Inner, call, bound_in}
use Rattle.isle_syntax.specs.Inside.Reading.TreeReading.{inner_expr, inner_on, expr_list, let_list, let_binding, expr, expr_inner}
use Rattle.isle_syntax.proofs.Reading.Follows.{start, SameNext, Begins, FollowsAt, Follows, Any, Starts, follows_refusal, follows_token}
use Rattle.isle_syntax.proofs.Reading.Follows.{follows_image, follows_seq, follows_rest_of, shorter_after}
use Rattle.isle_syntax.proofs.Reading.Cases.{follows_case}
use Rattle.isle_syntax.proofs.Reading.Flags.{names_looks}
use Rattle.isle_syntax.proofs.Reading.Basics.{first_is, follows_opened, follows_shut, follows_close, follows_symbol_of, follows_says, some_both}
use Rattle.isle_syntax.proofs.Reading.Basics.{some_closed, some_opens, some_closes, both_filled, opens_filled, says_filled, symbol_filled}
use Rattle.isle_syntax.proofs.Reading.Words.{underscores_are_ident}
use Rattle.isle_syntax.proofs.Reading.PatternEnds.{NotAt}
use Rattle.isle_syntax.proofs.Reading.SymbolKinds.{and_first, and_second, not_false, Known, symbol_known, true_kind, false_kind, const_kind}
use Rattle.isle_syntax.proofs.Reading.SymbolKinds.{const_from, const_text, const_name, pname_is_name, wildcard_is_name, name_kind}

-- ---- what is spelt

-- a binding of a `let`
abbrev pub SpellsBinding : LetBinding → List Placed → Type 0
SpellsBinding = Both Opens (Both (SymbolOf is_ident) (Both (SymbolOf is_ident) (Both SpellsExpr Closes)))

-- bindings in parentheses
abbrev pub SpellsLetList : Pos × List LetBinding → List Placed → Type 0
SpellsLetList = Both Opens (Closed SpellsBinding)

-- what stands in the parentheses of an expression, with the closing one
abbrev pub SpellsInner : Inner → List Placed → Type 0
SpellsInner (call x args) = SymbolOf is_expr_term x ⊙ Closed SpellsExpr args
SpellsInner (bound_in bindings body) = Says (codes "let") tt ⊙ ((Opening tt ⊙ Closed SpellsBinding bindings) ⊙ (SpellsExpr body ⊙ Closes tt))

pub exprs_from_each : (l : List ExprTree) (ts : List Placed) → Each SpellsExpr l ts → SpellsExprs (expr_trees l) ts
exprs_from_each [] ts e = e
exprs_from_each (i ∷ l) ts e = (e.0, e.1, e.2, e.3, exprs_from_each l e.1 e.4)

pub each_from_exprs : (es : ExprTrees) (ts : List Placed) → SpellsExprs es ts → (l : List ExprTree) × (es ≡ expr_trees l) × Each SpellsExpr l ts
each_from_exprs no_exprs ts e = ([], refl, e)
each_from_exprs (more_exprs i es) ts e = let r = each_from_exprs es e.1 e.4 in (i ∷ r.0, ap (more_exprs i) r.1, (e.0, e.1, e.2, e.3, r.2))

pub lets_from_each : (l : List LetBinding) (ts : List Placed) → Each SpellsBinding l ts → SpellsLets (let_trees l) ts
lets_from_each [] ts e = e
lets_from_each (b ∷ l) ts e = (e.0, e.1, e.2, e.3, lets_from_each l e.1 e.4)

pub each_from_lets : (ds : LetTrees) (ts : List Placed) → SpellsLets ds ts → (l : List LetBinding) × (ds ≡ let_trees l) × Each SpellsBinding l ts
each_from_lets no_lets ts e = ([], refl, e)
each_from_lets (more_lets var ty val p ds) ts e =
    let r = each_from_lets ds e.1 e.4 in
    ((p, (var, (ty, (val, tt)))) ∷ r.0, ap (more_lets var ty val p) r.1, (e.0, e.1, e.2, e.3, r.2))

-- ---- what stands in parentheses

term_is_ident : (s : List ℕ) → is_expr_term s ≡ true → is_ident s ≡ true
term_is_ident s e = and_first (is_ident s) _ e

pub term_no_let : (s : List ℕ) → is_expr_term s ≡ true → is_word (codes "let") s ≡ false
term_no_let s e = not_false _ (and_second (is_ident s) _ e)

-- an expression is spelt by a parenthesis and what stands in it
pub inner_spelt : (p : Pos) (i : Inner) (u : List Placed) → (Opens p ⊙ SpellsInner i) u → SpellsExpr (inner_expr p i) u
inner_spelt p (call x args) u l =
    let h = l.4 in
    let k = h.4 in
    (l.0, l.1, l.2, l.3, (h.0, h.1, h.2, h.3, (k.0, k.1, k.2, exprs_from_each args k.0 k.3, k.4)))
inner_spelt p (bound_in bindings body) u l =
    let h = l.4 in
    let rest = h.4 in
    let list = rest.3 in
    let each = list.4 in
    let split : h.1 ≡ list.0 ++ (each.0 ++ (each.1 ++ rest.1)) =
    rest.2 ∙ ap (λ k. k ++ rest.1) list.2 ∙ append_assoc list.0 list.1 rest.1 ∙ ap (λ k. list.0 ++ (k ++ rest.1)) each.2
    ∙ ap (λ k. list.0 ++ k) (append_assoc each.0 each.1 rest.1) in (
      l.0,
      l.1,
      l.2,
      l.3,
      (
        h.0,
        h.1,
        h.2,
        h.3,
        (
          list.0,
          each.0 ++ (each.1 ++ rest.1),
          split,
          list.3,
          (
            each.0,
            each.1
                ++ rest.1,
            refl,
            lets_from_each bindings each.0 each.3,
            (each.1, rest.1, refl, each.4, rest.4),
          ),
        ),
      ),
    )

abbrev pub Listed : Pos × Inner → List Placed → Type 0
Listed = Both Opens SpellsInner

pub term_back : (x : Ident) (es : ExprTrees) (p : Pos) (v : List Placed) → SpellsExpr (expr_term x es p) v
    → (i : Pos × Inner) × (expr_term x es p ≡ inner_expr i.0 i.1) × Listed i v
term_back x es p v l =
    let h = l.4 in
    let k = h.4 in
    let each = each_from_exprs es k.0 k.3 in
    ((p, call x each.0), ap (λ es. expr_term x es p) each.1, (l.0, l.1, l.2, l.3, (h.0, h.1, h.2, h.3, (k.0, k.1, k.2, each.2, k.4))))

pub let_back : (ds : LetTrees) (body : ExprTree) (p : Pos) (v : List Placed) → SpellsExpr (expr_let ds body p) v
    → (i : Pos × Inner) × (expr_let ds body p ≡ inner_expr i.0 i.1) × Listed i v
let_back ds body p v l =
    let h = l.4 in
    let o = h.4 in
    let e = o.4 in
    let k = e.4 in
    let each = each_from_lets ds e.0 e.3 in
    let split : h.1 ≡ (o.0 ++ (e.0 ++ k.0)) ++ k.1 =
    o.2 ∙ ap (λ j. o.0 ++ j) (e.2 ∙ ap (λ j. e.0 ++ j) k.2 ∙ sym (append_assoc e.0 k.0 k.1)) ∙ sym (append_assoc o.0 (e.0 ++ k.0) k.1) in (
      (p, bound_in each.0 body),
      ap (λ ds. expr_let ds body p) each.1,
      (l.0, l.1, l.2, l.3, (h.0, h.1, h.2, h.3, (o.0 ++ (e.0 ++ k.0), k.1, split, (o.0, e.0 ++ k.0, refl, o.3, (e.0, k.0, refl, each.2, k.3)), k.4))),
    )

-- ---- the first token

-- what an expression is that begins with a symbol of a kind, and one that begins with a token
abbrev SymbolAt : Pos → List ℕ → Kind → ExprTree → List Placed → Type 0
SymbolAt p s True b v = (b ≡ expr_bool true p) × (v ≡ symbol p s ∷ [])
SymbolAt p s False b v = (b ≡ expr_bool false p) × (v ≡ symbol p s ∷ [])
SymbolAt p s Const b v = (b ≡ expr_prim (ident p (after_dollar s)) p) × (v ≡ symbol p s ∷ [])
SymbolAt p s Wildcard b v = (b ≡ expr_var (ident p s) p) × (v ≡ symbol p s ∷ [])
SymbolAt p s Name b v = (b ≡ expr_var (ident p s) p) × (v ≡ symbol p s ∷ [])
SymbolAt p s _ b v = ⊥

abbrev ExprAt : Placed → ExprTree → List Placed → Type 0
ExprAt (opening p) b v = (x : Pos × Inner) × (b ≡ inner_expr x.0 x.1) × Listed x v
ExprAt (closing p) b v = ⊥
ExprAt (at_sign p) b v = ⊥
ExprAt (symbol p s) b v = SymbolAt p s (symbol_kind s) b v
ExprAt (int p n) b v = (b ≡ expr_int (bits_of n) (is_large n) p) × (v ≡ int p n ∷ [])

expr_at_first : (b : ExprTree) (v w y : List Placed) (t : Placed) → SpellsExpr b v → v ++ w ≡ t ∷ y → ExprAt t b v
expr_at_first (expr_term x es p) v w y t l e =
    subst (λ k. ExprAt k (expr_term x es p) v) (first_is t (opening p) l.1 v w y (l.2 ∙ ap (λ k. k ++ l.1) l.3) e) (term_back x es p v l)
expr_at_first (expr_var x p) v w y t l e =
    let here : (expr_var x p ≡ expr_var x x.1) × (v ≡ symbol x.1 x.0 ∷ []) = (ap (expr_var x) l.1, l.0.0) in
    subst (λ k. ExprAt k (expr_var x p) v) (first_is t _ [] v w y l.0.0 e) (name_kind (λ k. SymbolAt x.1 x.0 k (expr_var x p) v) x.0 l.0.1 here here)
expr_at_first (expr_bool true p) v w y t l e =
    subst (λ k. ExprAt k (expr_bool true p) v) (first_is t _ [] v w y l e)
    (subst (λ k. SymbolAt p (codes "true") k (expr_bool true p) v) (sym true_kind) (refl, l))
expr_at_first (expr_bool false p) v w y t l e =
    subst (λ k. ExprAt k (expr_bool false p) v) (first_is t _ [] v w y l e)
    (subst (λ k. SymbolAt p (codes "false") k (expr_bool false p) v) (sym false_kind) (refl, l))
expr_at_first (expr_int val big p) v w y t l e =
    subst (λ k. ExprAt k (expr_int val big p) v) (first_is t _ [] v w y l.1 e) ((λ i. expr_int (l.2 i) (l.3 i) p), l.1)
expr_at_first (expr_prim x p) v w y t l e =
    subst (λ k. ExprAt k (expr_prim x p) v) (first_is t _ [] v w y l.0.0 e)
    (subst (λ k. SymbolAt x.1 (36 ∷ x.0) k (expr_prim x p) v) (sym (const_kind (36 ∷ x.0) (const_from x.0 l.0.1))) (ap (expr_prim x) l.1, l.0.0))
expr_at_first (expr_let ds body p) v w y t l e =
    subst (λ k. ExprAt k (expr_let ds body p) v) (first_is t (opening p) l.1 v w y (l.2 ∙ ap (λ k. k ++ l.1) l.3) e) (let_back ds body p v l)

pub expr_filled : (b : ExprTree) (v : List Placed) → SpellsExpr b v → v ≡ [] → ⊥
expr_filled (expr_term x es p) v l e = let k : [] ≡ opening p ∷ l.1 = sym e ∙ l.2 ∙ ap (λ x. x ++ l.1) l.3 in cc
expr_filled (expr_var x p) v l e = let k : [] ≡ symbol x.1 x.0 ∷ [] = sym e ∙ l.0.0 in cc
expr_filled (expr_bool b p) v l e = cc
expr_filled (expr_int val big p) v l e = let k : [] ≡ int p l.0 ∷ [] = sym e ∙ l.1 in cc
expr_filled (expr_prim x p) v l e = let k : [] ≡ symbol x.1 (36 ∷ x.0) ∷ [] = sym e ∙ l.0.0 in cc
expr_filled (expr_let ds body p) v l e = let k : [] ≡ opening p ∷ l.1 = sym e ∙ l.2 ∙ ap (λ x. x ++ l.1) l.3 in cc

pub expr_starts : Starts SpellsExpr
expr_starts = record { filled = expr_filled; inside = λ b v w y q l e. expr_at_first b v w y (closing q) l e }

pub some_expr : Begins SpellsExpr []
some_expr = (expr_bool true start, symbol start (codes "true") ∷ [], refl)

nothing_at_end : (b : ExprTree) (v w x : List Placed) → SameNext [] x → SpellsExpr b v → v ++ w ≡ x → ⊥
nothing_at_end b [] w x same_next l e = expr_filled b [] l refl
nothing_at_end b (t ∷ v) w x same_next l e = cc (same_next, e)

-- no expression begins with `@`
pub expr_not_at : (b : ExprTree) (v w : List Placed) → SpellsExpr b v → NotAt (v ++ w)
expr_not_at b [] w l = absurd (expr_filled b [] l refl)
expr_not_at b (opening p ∷ v) w l = tt
expr_not_at b (closing p ∷ v) w l = tt
expr_not_at b (at_sign p ∷ v) w l = expr_at_first b (at_sign p ∷ v) w (v ++ w) (at_sign p) l refl
expr_not_at b (symbol p s ∷ v) w l = tt
expr_not_at b (int p z ∷ v) w l = tt

-- ---- bindings

some_ident : Begins (SymbolOf is_ident) []
some_ident = (ident start (codes "__"), symbol start (codes "__") ∷ [], (refl, underscores_are_ident))

-- what follows a type: the value and the closing parenthesis
some_value : Begins (Both SpellsExpr Closes) []
some_value = some_both some_expr some_closes

some_typed : Begins (Both (SymbolOf is_ident) (Both SpellsExpr Closes)) []
some_typed = some_both some_ident some_value

some_named : Begins (Both (SymbolOf is_ident) (Both (SymbolOf is_ident) (Both SpellsExpr Closes))) []
some_named = some_both some_ident some_typed

pub some_binding : Begins SpellsBinding []
some_binding = some_both some_opens some_named

pub binding_starts : Starts SpellsBinding
binding_starts = record {
  filled = both_filled Opens _ opens_filled;
  inside = λ b v w y q l e. (let k : opening b.0 ∷ (l.1 ++ w) ≡ closing q ∷ y = ap (λ x. x ++ w) (sym (l.2 ∙ ap (λ x. x ++ l.1) l.3)) ∙ e in cc);
}

some_let_list : Begins SpellsLetList []
some_let_list = some_both some_opens (some_closed SpellsBinding)

binding_opens : (b : LetBinding) (v : List Placed) → SpellsBinding b v → (p : Pos) × (u : List Placed) × (v ≡ opening p ∷ u)
binding_opens b v l = (b.0, l.1, l.2 ∙ ap (λ k. k ++ l.1) l.3)

let_list_opens : (b : Pos × List LetBinding) (v : List Placed) → SpellsLetList b v → (p : Pos) × (u : List Placed) × (v ≡ opening p ∷ u)
let_list_opens b v l = (b.0, l.1, l.2 ∙ ap (λ k. k ++ l.1) l.3)

follows_binding_shut : Follows SpellsBinding Any 0 0 (let_binding zero)
unfolding let_binding
follows_binding_shut =
    follows_shut SpellsBinding Any some_binding binding_opens
    (λ p. ((p, some_named.0), some_named.1, (opening p ∷ [], some_named.1, refl, refl, some_named.2))) 0

follows_binding_within : (d : ℕ) → Follows SpellsExpr Any d d (expr d) → Follows SpellsBinding Any (suc d) (suc d) (let_binding (suc d))
unfolding let_binding
follows_binding_within d g =
    let value = follows_seq some_closes g (follows_close d) in
    let typed = follows_seq some_value (follows_symbol_of is_ident some_ident d) value in
    follows_seq some_named (follows_opened d) (follows_seq some_typed (follows_symbol_of is_ident some_ident d) typed)

follows_let_list_shut : Follows SpellsLetList Any 0 0 (let_list zero)
unfolding let_list
follows_let_list_shut =
    follows_shut SpellsLetList Any some_let_list let_list_opens
    (λ p. ((p, []), closing start ∷ [], (opening p ∷ [], closing start ∷ [], refl, refl, ([], closing start ∷ [], refl, refl, (start, refl))))) 0

follows_bindings_of : (d : ℕ) → Follows SpellsBinding Any d d (let_binding d) → Follows (Closed SpellsBinding) Any d (suc d) (rest_of (let_binding d))
follows_bindings_of d g = follows_rest_of SpellsBinding Any Any d (let_binding d) g binding_starts (λ b v w l. tt) (λ q w. tt)

follows_let_list_within : (d : ℕ) → Follows SpellsBinding Any d d (let_binding d) → Follows SpellsLetList Any (suc d) (suc d) (let_list (suc d))
unfolding let_list
follows_let_list_within d g = follows_seq (some_closed SpellsBinding) (follows_opened d) (follows_bindings_of d g)

-- ---- terms and `let`

-- a word, as `let` has it, with bindings and the body; and a name with expressions
abbrev LetInner : Unit {0} × ((Pos × List LetBinding) × (ExprTree × Unit {0})) → List Placed → Type 0
LetInner = Both (Says (codes "let")) (Both SpellsLetList (Both SpellsExpr Closes))

abbrev CallInner : Ident × List ExprTree → List Placed → Type 0
CallInner = Both (SymbolOf is_ident) (Closed SpellsExpr)

let_word : (i : Inner) (u : List Placed) → SpellsInner i u → next_symbol_is (is_word (codes "let")) u ≡ true
    → (a : Unit {0} × ((Pos × List LetBinding) × (ExprTree × Unit {0}))) × (i ≡ bound_in a.1.0.1 a.1.1.0) × LetInner a u
let_word (call x args) u l at =
    let no : next_symbol_is (is_word (codes "let")) u ≡ is_word (codes "let") x.0 =
    ap (next_symbol_is (is_word (codes "let"))) (l.2 ∙ ap (λ k. k ++ l.1) l.3.0) in
    absurd (false≢true (sym (term_no_let x.0 l.3.1) ∙ sym no ∙ at))
let_word (bound_in bindings body) u l at =
    let rest = l.4 in
    let list = rest.3 in (
      (tt, ((list.3.0, bindings), (body, tt))),
      refl,
      (l.0, l.1, l.2, l.3, (rest.0, rest.1, rest.2, (list.0, list.1, list.2, list.3.1, list.4), rest.4)),
    )

call_word : (i : Inner) (u : List Placed) → SpellsInner i u → next_symbol_is (is_word (codes "let")) u ≡ false
    → (a : Ident × List ExprTree) × (i ≡ call a.0 a.1) × CallInner a u
call_word (call x args) u l at = ((x, args), refl, (l.0, l.1, l.2, (l.3.0, term_is_ident x.0 l.3.1), l.4))
call_word (bound_in bindings body) u l at =
    let word : next_symbol_is (is_word (codes "let")) u ≡ true = ap (next_symbol_is (is_word (codes "let"))) (l.2 ∙ ap (λ k. k ++ l.1) l.3.1) in
    absurd (false≢true (sym at ∙ word))

let_into : (a : Unit {0} × ((Pos × List LetBinding) × (ExprTree × Unit {0}))) (u : List Placed) → LetInner a u
    → SpellsInner (bound_in a.1.0.1 a.1.1.0) u
let_into a u l =
    let rest = l.4 in
    let list = rest.3 in
    (l.0, l.1, l.2, l.3, (rest.0, rest.1, rest.2, (list.0, list.1, list.2, (a.1.0.0, list.3), list.4), rest.4))

call_into : (a : Ident × List ExprTree) (u : List Placed) → CallInner a u → next_symbol_is (is_word (codes "let")) u ≡ false
    → SpellsInner (call a.0 a.1) u
call_into a u l at =
    let word : next_symbol_is (is_word (codes "let")) u ≡ is_word (codes "let") a.0.0 =
    ap (next_symbol_is (is_word (codes "let"))) (l.2 ∙ ap (λ k. k ++ l.1) l.3.0) in
    let no : is_word (codes "let") a.0.0 ≡ false = sym word ∙ at in
    let term : is_expr_term a.0.0 ≡ true = (λ i. l.3.1 i && not (no i)) in
    (l.0, l.1, l.2, (l.3.0, term), l.4)

pub inner_filled : (i : Inner) (u : List Placed) → SpellsInner i u → u ≡ [] → ⊥
inner_filled (call x args) u l e = both_filled (SymbolOf is_expr_term) (Closed SpellsExpr) (symbol_filled is_expr_term) (x, args) u l e
inner_filled (bound_in bindings body) u l e = let k : [] ≡ symbol l.3.0 (codes "let") ∷ l.1 = sym e ∙ l.2 ∙ ap (λ x. x ++ l.1) l.3.1 in cc

underscores_are_term : is_expr_term (codes "__") ≡ true
underscores_are_term = ap (λ b. b && not (is_word (codes "let") (codes "__"))) underscores_are_ident

pub some_inner : Begins SpellsInner []
some_inner = (
  call (ident start (codes "__")) [],
  symbol start (codes "__") ∷ closing start ∷ [],
  (symbol start (codes "__") ∷ [], closing start ∷ [], refl, (refl, underscores_are_term), ([], closing start ∷ [], refl, refl, (start, refl))),
)

follows_exprs_of : (d : ℕ) → Follows SpellsExpr Any d d (expr d) → Follows (Closed SpellsExpr) Any d (suc d) (rest_of (expr d))
follows_exprs_of d g = follows_rest_of SpellsExpr Any Any d (expr d) g expr_starts (λ b v w l. tt) (λ q w. tt)

module _ (d : ℕ) (g : Follows SpellsExpr Any d d (expr d)) (h : Follows SpellsLetList Any d d (let_list d)) where
  follows_let_inner : Follows LetInner Any d (suc d) (seq (says (codes "let")) (seq (let_list d) (seq (expr d) closed)))
  follows_let_inner = follows_seq (some_both some_let_list some_value) (follows_says (codes "let") d)
      (follows_seq some_value h (follows_seq some_closes g (follows_close d)))

  follows_call_inner : Follows CallInner Any d (suc d) (seq (symbol_of is_ident) (rest_of (expr d)))
  follows_call_inner = follows_seq (some_closed SpellsExpr) (follows_symbol_of is_ident some_ident d) (follows_exprs_of d g)

  follows_inner_at : (ts : List Placed) (b : Bool) → next_symbol_is (is_word (codes "let")) ts ≡ b
      → FollowsAt SpellsInner Any d (suc d) ts (inner_on (expr d) (let_list d) b ts)
  follows_inner_at ts true at =
      follows_case (next_symbol_is (is_word (codes "let"))) (names_looks (is_word (codes "let"))) LetInner SpellsInner Any d (suc d) ts true at
      (λ x. bound_in x.1.0.1 x.1.1.0) (λ a u l w. let_into a u l) let_word
      (both_filled (Says (codes "let")) _ (says_filled (codes "let"))) inner_filled some_inner
      (seq (says (codes "let")) (seq (let_list d) (seq (expr d) closed)) ts) (follows_let_inner.reads ts)
  follows_inner_at ts false at =
      follows_case (next_symbol_is (is_word (codes "let"))) (names_looks (is_word (codes "let"))) CallInner SpellsInner Any d (suc d) ts false at
      (λ x. call x.0 x.1) call_into call_word
      (both_filled (SymbolOf is_ident) _ (symbol_filled is_ident)) inner_filled some_inner
      (seq (symbol_of is_ident) (rest_of (expr d)) ts) (follows_call_inner.reads ts)

  follows_inner_of : Follows SpellsInner Any d (suc d) (expr_inner d)
  follows_inner_of = record { reads = λ ts. follows_inner_at ts (next_symbol_is (is_word (codes "let")) ts) refl }

  follows_list_here : (p : Pos) (ts : List Placed) → FollowsAt SpellsExpr Any (suc d) (suc d) (opening p ∷ ts) (expr_list (suc d) (opening p ∷ ts))
  unfolding expr_list
  follows_list_here p ts =
      follows_image Listed SpellsExpr Any (suc d) (suc d) (opening p ∷ ts) (λ x. inner_expr x.0 x.1)
      (λ a u l. inner_spelt a.0 a.1 u l)
      (λ b v w x same_next l fw e. expr_at_first b v w same_next.0 (opening p) l (e ∙ same_next.1))
      (seq opened (expr_inner d) (opening p ∷ ts))
      ((follows_seq some_inner (follows_opened d) follows_inner_of).reads (opening p ∷ ts))

follows_list_shut : (p : Pos) (ts : List Placed) → FollowsAt SpellsExpr Any 0 0 (opening p ∷ ts) (expr_list zero (opening p ∷ ts))
unfolding expr_list
follows_list_shut p ts =
    let inner = some_inner in record {
      used = [];
      split = refl;
      pos = p;
      rest = ts;
      parenthesis = refl;
      nests = refl;
      begins = (inner_expr p inner.0, inner.1, inner_spelt p inner.0 (opening p ∷ inner.1) (opening p ∷ [], inner.1, refl, refl, inner.2));
    }

-- ---- expressions that begin with a symbol

module _ (d : ℕ) (p : Pos) (s : List ℕ) (ts : List Placed) where
  begun : (k : Kind) → symbol_kind s ≡ k → (b : ExprTree) (v w y : List Placed) → SpellsExpr b v → v ++ w ≡ symbol p s ∷ y → SymbolAt p s k b v
  begun k e b v w y l q = subst (λ k. SymbolAt p s k b v) e (expr_at_first b v w y (symbol p s) l q)

  follows_symbol_kind : (k : Kind) → symbol_kind s ≡ k → Known s k → FollowsAt SpellsExpr Any d d (symbol p s ∷ ts) (symbol_expr p s ts k)
  follows_symbol_kind True e h = follows_token (symbol p s) ts (expr_bool true p) (ap (λ s. symbol p s ∷ []) h) refl
      (λ b v w y l fw q. begun True e b v w y l q)
  follows_symbol_kind False e h = follows_token (symbol p s) ts (expr_bool false p) (ap (λ s. symbol p s ∷ []) h) refl
      (λ b v w y l fw q. begun False e b v w y l q)
  follows_symbol_kind Const e h =
      follows_token (symbol p s) ts (expr_prim (ident p (after_dollar s)) p) ((ap (λ s. symbol p s ∷ []) (const_text s h), const_name s h), refl) refl
      (λ b v w y l fw q. begun Const e b v w y l q)
  follows_symbol_kind Wildcard e h = follows_token (symbol p s) ts (expr_var (ident p s) p) ((refl, ap is_name h ∙ wildcard_is_name), refl) refl
      (λ b v w y l fw q. begun Wildcard e b v w y l q)
  follows_symbol_kind Name e h = follows_token (symbol p s) ts (expr_var (ident p s) p) ((refl, pname_is_name s h), refl) refl
      (λ b v w y l fw q. begun Name e b v w y l q)
  follows_symbol_kind Other e h = follows_refusal d (symbol p s ∷ ts) some_expr (λ b v w y same_next l q. begun Other e b v w same_next.0 l (q
      ∙ same_next.1))
  follows_symbol_kind _ e h = absurd h

-- ---- expressions

module _ (d : ℕ) (lists : (p : Pos) (ts : List Placed) → FollowsAt SpellsExpr Any d d (opening p ∷ ts) (expr_list d (opening p ∷ ts))) where
  refused : (t : Placed) (ts : List Placed) → ((b : ExprTree) (v : List Placed) → ExprAt t b v → ⊥)
      → FollowsAt SpellsExpr Any d d (t ∷ ts) (fault (t ∷ ts))
  refused t ts none = follows_refusal d (t ∷ ts) some_expr (λ b v w x same_next l e. none b v (expr_at_first b v w same_next.0 t l (e ∙ same_next.1)))

  follows_expr_at : (ts : List Placed) → FollowsAt SpellsExpr Any d d ts (expr d ts)
  follows_expr_at [] = follows_refusal d [] some_expr nothing_at_end
  follows_expr_at (opening p ∷ ts) = lists p ts
  follows_expr_at (closing p ∷ ts) = refused (closing p) ts (λ b v h. h)
  follows_expr_at (at_sign p ∷ ts) = refused (at_sign p) ts (λ b v h. h)
  follows_expr_at (symbol p s ∷ ts) = follows_symbol_kind d p s ts (symbol_kind s) refl (symbol_known s)
  follows_expr_at (int p n ∷ ts) = follows_token (int p n) ts (expr_int (bits_of n) (is_large n) p) (n, refl, refl, refl) refl
      (λ b v w y l fw e. expr_at_first b v w y (int p n) l e)

-- all three, which nest in one another
record Three (d : ℕ) : Type 0 where
  exprs : Follows SpellsExpr Any d d (expr d)
  lists : Follows SpellsLetList Any d d (let_list d)
  bindings : Follows SpellsBinding Any d d (let_binding d)

follows_three : (d : ℕ) → Three d
follows_three zero = record {
  exprs = record { reads = follows_expr_at zero follows_list_shut };
  lists = follows_let_list_shut;
  bindings = follows_binding_shut;
}
follows_three (suc d) =
    let less = follows_three d in record {
      exprs = record { reads = follows_expr_at (suc d) (follows_list_here d less.exprs less.lists) };
      lists = follows_let_list_within d less.bindings;
      bindings = follows_binding_within d less.exprs;
    }

pub follows_expr : (d : ℕ) → Follows SpellsExpr Any d d (expr d)
follows_expr d = (follows_three d).exprs

pub follows_let_list : (d : ℕ) → Follows SpellsLetList Any d d (let_list d)
follows_let_list d = (follows_three d).lists

pub follows_let_binding : (d : ℕ) → Follows SpellsBinding Any d d (let_binding d)
follows_let_binding d = (follows_three d).bindings

-- what stands in the parentheses of an expression
pub follows_inner : (d : ℕ) → Follows SpellsInner Any d (suc d) (expr_inner d)
follows_inner d = follows_inner_of d (follows_expr d) (follows_let_list d)

pub expr_shorter : (d : ℕ) (ts r : List Placed) (a : ExprTree) → expr d ts ≡ done a r → length r < length ts
expr_shorter d ts r a h = shorter_after SpellsExpr Any d d ts expr_starts (expr d ts) ((follows_expr d).reads ts) a r h

pub binding_shorter : (d : ℕ) (ts r : List Placed) (a : LetBinding) → let_binding d ts ≡ done a r → length r < length ts
binding_shorter d ts r a h = shorter_after SpellsBinding Any d d ts binding_starts (let_binding d ts) ((follows_let_binding d).reads ts) a r h
