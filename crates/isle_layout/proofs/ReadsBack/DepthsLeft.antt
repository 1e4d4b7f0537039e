-- Tokens of S-expressions leave as much room as there was, where there was room for the parentheses that they open.
use Rattle.std.proofs.Common.{◌≡◌, ℕ, zero, suc, ◌+◌, ◌≤◌, List, [], ◌∷◌, ◌++◌, map, Bool, true, Option, Some, None, refl, ap, ◌∙◌, sym, append_assoc}
use Rattle.std.proofs.Common.{arith}
use Rattle.std.specs.Prelude.{option_and_then}
use Rattle.std.specs.List.{list_all}
use Rattle.std.specs.Str.{IsUtf8}
use Rattle.isle_ast.specs.declared.pos.Pos.{Pos}
use Rattle.isle_syntax.specs.Tokens.PlacedTokens.{Literal, Placed, at_sign, int}
use Rattle.isle_syntax.specs.Tokens.Names.{is_symbol}
use Rattle.isle_syntax.specs.Grammar.Phrases.{◌⊙◌, Closes, Opening, Each, depth_left_after, depth_left}
use Rattle.isle_syntax.proofs.Reading.SymbolKinds.{and_first, and_second}
use Rattle.isle_layout.specs.SExprTree.{SExprTree, sexpr_atom, sexpr_binding}
use Rattle.isle_layout.specs.Spellings.{listed}
use Rattle.isle_layout.proofs.Atoms.AtomReadings.{symbol_reading}
use Rattle.isle_layout.proofs.ReadsBack.Rows.{ReadsAtom, Reads, listed_row, row_split}

-- an S-expression and some of them, of which the tokens open no more than d parentheses at once
pub record Fits (d : ℕ) (t : SExprTree) : Type 0 where
  pub within : (r : ℕ) (ts : List Placed) → d ≤ r → Reads t ts → depth_left r ts ≡ Some r

pub record FitAll (d : ℕ) (xs : List SExprTree) : Type 0 where
  pub within : (r : ℕ) (ts : List Placed) → d ≤ r → Each Reads xs ts → depth_left r ts ≡ Some r

-- ---- tokens one after another

after_some : (o : Option ℕ) (u v : List Placed) (k : ℕ) → ((r : ℕ) → depth_left r u ≡ Some k → depth_left r (u ++ v) ≡ depth_left k v)
    → option_and_then (λ r. depth_left r u) o ≡ Some k
    → option_and_then (λ r. depth_left r (u ++ v)) o ≡ depth_left k v
after_some None u v k ih e = absurd (cc)
after_some (Some r) u v k ih e = ih r e

-- the room behind the first of two
pub depth_left_behind : (r k : ℕ) (u v : List Placed) → depth_left r u ≡ Some k → depth_left r (u ++ v) ≡ depth_left k v
depth_left_behind r k [] v e = let same : r ≡ k = cc in ap (λ m. depth_left m v) same
depth_left_behind r k (t ∷ u) v e = after_some (depth_left_after r t) u v k (λ m h. depth_left_behind m k u v h) e

pub depth_left_split : (r k m : ℕ) (ts u v : List Placed) → ts ≡ u ++ v → depth_left r u ≡ Some k → depth_left k v ≡ Some m → depth_left r ts ≡ Some m
depth_left_split r k m ts u v e f g = ap (depth_left r) e ∙ depth_left_behind r k u v f ∙ g

-- ---- rows

pub fit_none : {d : ℕ} → FitAll d []
fit_none = record { within = λ r ts n l. ap (depth_left r) l }

pub fit_more : {d : ℕ} {t : SExprTree} {xs : List SExprTree} → Fits d t → FitAll d xs → FitAll d (t ∷ xs)
fit_more f g = record {
  within = λ r ts n l. depth_left_split r r r ts l.0 l.1 l.2 (f.within r l.0 n l.3) (g.within r l.1 n l.4);
}

pub fit_append : {d : ℕ} (xs ys : List SExprTree) → FitAll d xs → FitAll d ys → FitAll d (xs ++ ys)
fit_append {d} xs ys f g = record {
  within = λ r ts n l. (let s = split xs ts l in depth_left_split r r r ts s.0 s.1 s.2 (f.within r s.0 n s.3) (g.within r s.1 n s.4));
}
  where
    split : (zs : List SExprTree) (ts : List Placed) → Each Reads (zs ++ ys) ts → (Each Reads zs ⊙ Each Reads ys) ts
    split [] ts l = ([], ts, refl, refl, l)
    split (z ∷ zs) ts l = (
        let s = split zs l.1 l.4 in
        (l.0 ++ s.0, s.1, l.2 ∙ ap (λ x. l.0 ++ x) s.2 ∙ sym (append_assoc l.0 s.0 s.1), (l.0, s.0, refl, l.3, s.3), s.4)
        )

pub fit_map : {A : Type 0} {d : ℕ} (f : A → SExprTree) (w : A → Bool) → ((a : A) → w a ≡ true → Fits d (f a)) → (values : List A)
    → list_all w values ≡ true → FitAll d (map f values)
fit_map f w each [] h = fit_none
fit_map f w each (a ∷ values) h =
    fit_more (each a (and_first (w a) (list_all w values) h)) (fit_map f w each values (and_second (w a) (list_all w values) h))

-- ---- more room

pub fits_deeper : {d e : ℕ} {t : SExprTree} → d ≤ e → Fits d t → Fits e t
fits_deeper le f = record { within = λ r ts n l. f.within r ts (omega (arith, le, n)) l }

pub fit_deeper : {d e : ℕ} {xs : List SExprTree} → d ≤ e → FitAll d xs → FitAll e xs
fit_deeper le f = record { within = λ r ts n l. f.within r ts (omega (arith, le, n)) l }

-- ---- atoms, bindings and lists

pub symbol_fits : {d : ℕ} (s : List ℕ) → (IsUtf8 s → is_symbol s ≡ true) → Fits d (sexpr_atom s)
symbol_fits s h = record { within = λ r ts n l. ap (depth_left r) (symbol_reading s ts (h l.0) l.1).1 }

pub int_fits : {d : ℕ} (s : List ℕ) → ((ts : List Placed) → ReadsAtom s ts → (p : Pos) × (n : Literal) × (ts ≡ int p n ∷ [])) → Fits d (sexpr_atom s)
int_fits s h = record { within = λ r ts n l. ap (depth_left r) (h ts l).2 }

pub at_fits : {d : ℕ} (s : List ℕ) → ((ts : List Placed) → ReadsAtom s ts → (p : Pos) × (ts ≡ at_sign p ∷ [])) → Fits d (sexpr_atom s)
at_fits s h = record { within = λ r ts n l. ap (depth_left r) (h ts l).1 }

pub binding_fits : {d : ℕ} (s : List ℕ) (t : SExprTree) → (IsUtf8 s → is_symbol s ≡ true) → Fits d t → Fits d (sexpr_binding s t)
binding_fits s t h f = record {
  within = λ r ts n l.
      depth_left_split r r r ts l.0 l.1 l.2 (ap (depth_left r) (symbol_reading s l.0 (h l.3.0) l.3.1).1)
      (depth_left_split r r r l.1 l.4.0 l.4.1 l.4.2 (ap (depth_left r) l.4.3.1) (f.within r l.4.1 n l.4.4));
}

-- between parentheses
inside : (d r : ℕ) (xs : List SExprTree) (ts : List Placed) → FitAll d xs → d + 1 ≤ r → (Opening tt ⊙ (Each Reads xs ⊙ Closes tt)) ts
    → depth_left r ts ≡ Some r
inside d zero xs ts f n l = absurd (omega (arith, n))
inside d (suc r) xs ts f n l =
    depth_left_split (suc r) r (suc r) ts l.0 l.1 l.2 (ap (depth_left (suc r)) l.3.1)
    (depth_left_split r r (suc r) l.1 l.4.0 l.4.1 l.4.2 (f.within r l.4.0 (omega (arith, n)) l.4.3) (ap (depth_left r) l.4.4.1))

pub list_fits : {d : ℕ} (xs : List SExprTree) → FitAll d xs → Fits (d + 1) (listed xs)
list_fits {d} xs f = record {
  within = λ r ts n l.
      (let q = listed_row xs ts l in inside d r xs ts f n (q.0, q.1, q.2, q.3, row_split xs (Closes tt) q.1 q.4));
}
