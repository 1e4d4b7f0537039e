-- Reading an expression by the kind of the next token, and what stands in parentheses part by part.
use Rattle.std.proofs.Common.{◌≡◌, ℕ, zero, suc, ◌-◌, ◌<◌, List, [], ◌∷◌, true, false, refl, sym, ap, ◌∙◌, arith}
use Rattle.std.specs.Prelude.{codes}
use Rattle.isle_syntax.specs.declared.kind.Kind.{Kind}
use Rattle.isle_syntax.specs.declared.kind.Kind.TheVariants.{True, False, Const, Wildcard, Name, Other}
use Rattle.isle_ast.specs.declared.pos.Pos.{Pos}
use Rattle.isle_ast.specs.declared.ast.Ident.{Ident}
use Rattle.isle_syntax.specs.Tokens.PlacedTokens.{Placed, opening, closing, at_sign, symbol, int}
use Rattle.isle_syntax.specs.Tokens.Names.{is_ident, is_word}
use Rattle.isle_syntax.specs.Inside.Reading.KindOf.{kind_at, symbol_kind}
use Rattle.isle_syntax.specs.Grammar.Phrases.{next_symbol_is}
use Rattle.isle_syntax.specs.Inside.Reading.Readers.{done, Reader, read_map, seq, rest_of, opened, shut, closed, symbol_of, says}
use Rattle.isle_ast.specs.Trees.ExprTree.{ExprTree}
use Rattle.isle_syntax.specs.Inside.Reading.TreeReading.{symbol_expr, LetBinding, call, bound_in, inner_expr, inner_on, expr_list, let_list, let_binding}
use Rattle.isle_syntax.specs.Inside.Reading.TreeReading.{expr, expr_inner}
use Rattle.isle_syntax.specs.Inside.Reading.KindReading.{expr_on}
use Rattle.isle_syntax.proofs.Reading.SymbolKinds.{Known, symbol_known}
use Rattle.isle_syntax.proofs.Reading.ReadSteps.{seq_done, map_seq_done}

symbol_is : (d : ℕ) (p : Pos) (s : List ℕ) (ts : List Placed) (k : Kind) → Known s k → symbol_expr p s ts k ≡ expr_on d k (symbol p s ∷ ts)
symbol_is d p s ts True h = refl
symbol_is d p s ts False h = refl
symbol_is d p s ts Const h = refl
symbol_is d p s ts Wildcard h = refl
symbol_is d p s ts Name h = refl
symbol_is d p s ts Other h = refl
symbol_is d p s ts _ h = absurd h

expr_by_kind : (d : ℕ) (ts : List Placed) → expr d ts ≡ expr_on d (kind_at ts) ts
expr_by_kind d [] = refl
expr_by_kind d (opening p ∷ ts) = refl
expr_by_kind d (closing p ∷ ts) = refl
expr_by_kind d (at_sign p ∷ ts) = refl
expr_by_kind d (symbol p s ∷ ts) = symbol_is d p s ts (symbol_kind s) (symbol_known s)
expr_by_kind d (int p n ∷ ts) = refl

pub expr_at_kind : (d : ℕ) (ts : List Placed) (k : Kind) → k ≡ kind_at ts → expr d ts ≡ expr_on d k ts
expr_at_kind d ts k e = expr_by_kind d ts ∙ ap (λ k. expr_on d k ts) (sym e)

-- ---- an expression in parentheses

pub expr_list_shut : (ts : List Placed) → expr_list 0 ts ≡ shut ts
unfolding expr_list
expr_list_shut ts = refl

pub expr_list_opens : (d : ℕ) (p : Pos) (ts r : List Placed) → 0 < d → opened ts ≡ done p r
    → expr_list d ts ≡ read_map (inner_expr p) (expr_inner (d - 1) r)
unfolding expr_list
expr_list_opens zero p ts r h e = absurd (omega arith)
expr_list_opens (suc d) p ts r h e =
    let same : d ≡ suc d - 1 = omega arith in map_seq_done opened (expr_inner d) ts r (λ x. inner_expr x.0 x.1) p e
    ∙ ap (λ n. read_map (inner_expr p) (expr_inner n r)) same

-- ---- bindings

pub let_list_shut : (ts : List Placed) → let_list 0 ts ≡ shut ts
unfolding let_list
let_list_shut ts = refl

pub let_list_opens : (d : ℕ) (p : Pos) (ts r : List Placed) → 0 < d → opened ts ≡ done p r
    → let_list d ts ≡ read_map (λ l. (p, l)) (rest_of (let_binding (d - 1)) r)
unfolding let_list
let_list_opens zero p ts r h e = absurd (omega arith)
let_list_opens (suc d) p ts r h e =
    let same : d ≡ suc d - 1 = omega arith in seq_done opened (rest_of (let_binding d)) ts r p e
    ∙ ap (λ n. read_map (λ l. (p, l)) (rest_of (let_binding n) r)) same

pub let_binding_shut : (ts : List Placed) → let_binding 0 ts ≡ shut ts
unfolding let_binding
let_binding_shut ts = refl

abbrev typed : ℕ → Reader (Ident × (ExprTree × Unit {0}))
typed d = seq (symbol_of is_ident) (seq (expr d) closed)

pub let_binding_opens : (d : ℕ) (p : Pos) (ts r : List Placed) → 0 < d → opened ts ≡ done p r
    → let_binding d ts ≡ read_map (λ x. (p, x)) (seq (symbol_of is_ident) (seq (symbol_of is_ident) (seq (expr (d - 1)) closed)) r)
unfolding let_binding
let_binding_opens zero p ts r h e = absurd (omega arith)
let_binding_opens (suc d) p ts r h e =
    let same : d ≡ suc d - 1 = omega arith in
    seq_done opened (seq (symbol_of is_ident) (typed d)) ts r p e ∙ ap (λ n. read_map (λ x. (p, x)) (seq (symbol_of is_ident) (typed n) r)) same

module _ (d : ℕ) (p : Pos) (ts r : List Placed) (h : 0 < d) (e : opened ts ≡ done p r) where
  module _ (x : Ident) (s : List Placed) (f : symbol_of is_ident r ≡ done x s) where
    pub let_binding_named : let_binding d ts ≡ read_map (λ b. (p, (x, b))) (seq (symbol_of is_ident) (seq (expr (d - 1)) closed) s)
    let_binding_named = let_binding_opens d p ts r h e ∙ map_seq_done (symbol_of is_ident) (typed (d - 1)) r s (λ b. (p, b)) x f

    module _ (ty : Ident) (q : List Placed) (g : symbol_of is_ident s ≡ done ty q) where
      pub let_binding_typed : let_binding d ts ≡ read_map (λ b. (p, (x, (ty, b)))) (seq (expr (d - 1)) closed q)
      let_binding_typed = let_binding_named ∙ map_seq_done (symbol_of is_ident) (seq (expr (d - 1)) closed) s q (λ b. (p, (x, b))) ty g

      pub let_binding_closed : (value : ExprTree) (t : List Placed) → expr (d - 1) q ≡ done value t
          → let_binding d ts ≡ read_map (λ b. (p, (x, (ty, (value, b))))) (closed t)
      let_binding_closed value t k = let_binding_typed ∙ map_seq_done (expr (d - 1)) closed q t (λ b. (p, (x, (ty, b)))) value k
