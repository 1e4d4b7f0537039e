-- How many parentheses may be open where tokens are spelt, and how many are then open at once.
use Rattle.std.proofs.Common.{◌≡◌, ℕ, zero, suc, ◌+◌, ◌≤◌, max, List, [], ◌∷◌, ◌++◌, Bool, true, false, Option, Some, None, refl, ap, subst, arith}
use Rattle.std.specs.Prelude.{option_and_then}
use Rattle.isle_ast.specs.declared.pos.Pos.{Pos}
use Rattle.isle_ast.specs.declared.ast.Ident.{Ident}
use Rattle.isle_syntax.specs.Tokens.PlacedTokens.{Literal, Placed, opening, at_sign, symbol, int}
use Rattle.isle_syntax.specs.Grammar.Phrases.{◌⊙◌, Opens, Closes, Opening, AtSign, Word, Says, SymbolOf, Flag, Each, depth_left_after, depth_left}

-- tokens leave as much room as there was, and there was room for d more open parentheses
pub record KeepsDepthLeft (d : ℕ) (L : List Placed → Type 0) : Type 0 where
  pub within : (r m : ℕ) (ts : List Placed) → L ts → depth_left r ts ≡ Some m → (d ≤ r) × (m ≡ r)

-- the same of tokens that close one parenthesis more than they open
pub record Shuts (d : ℕ) (L : List Placed → Type 0) : Type 0 where
  pub within : (r m : ℕ) (ts : List Placed) → L ts → depth_left r ts ≡ Some m → (d ≤ r) × (m ≡ suc r)

-- ---- one and then another

split_some : (o : Option ℕ) (u v : List Placed) (m : ℕ)
    → ((r : ℕ) → depth_left r (u ++ v) ≡ Some m → (k : ℕ) × (depth_left r u ≡ Some k) × (depth_left k v ≡ Some m))
    → option_and_then (λ r. depth_left r (u ++ v)) o ≡ Some m → (k : ℕ) × (option_and_then (λ r. depth_left r u) o ≡ Some k)
    × (depth_left k v ≡ Some m)
split_some None u v m ih e = absurd (cc)
split_some (Some r) u v m ih e = ih r e

-- the room in between
depth_left_between : (r : ℕ) (u v : List Placed) (m : ℕ) → depth_left r (u ++ v) ≡ Some m → (k : ℕ) × (depth_left r u ≡ Some k)
    × (depth_left k v ≡ Some m)
depth_left_between r [] v m e = (r, refl, e)
depth_left_between r (t ∷ u) v m e = split_some (depth_left_after r t) u v m (λ k h. depth_left_between k u v m h) e

pub between : (r : ℕ) (ts u v : List Placed) (m : ℕ) → ts ≡ u ++ v → depth_left r ts ≡ Some m → (k : ℕ) × (depth_left r u ≡ Some k)
    × (depth_left k v ≡ Some m)
between r ts u v m s e = depth_left_between r u v m (subst (λ x. depth_left r x ≡ Some m) s e)

pub keeps_seq : {d e : ℕ} {L M : List Placed → Type 0} → KeepsDepthLeft d L → KeepsDepthLeft e M → KeepsDepthLeft (max d e) (L ⊙ M)
keeps_seq f g = record {
  within = λ r m ts l h.
      let k = between r ts l.0 l.1 m l.2 h in
      let first = f.within r k.0 l.0 l.3 k.1 in
      let second = g.within k.0 m l.1 l.4 k.2 in
      (omega (arith, first.0, first.1, second.0), omega (arith, first.1, second.1));
}

pub shuts_seq : {d e : ℕ} {L M : List Placed → Type 0} → KeepsDepthLeft d L → Shuts e M → Shuts (max d e) (L ⊙ M)
shuts_seq f g = record {
  within = λ r m ts l h.
      let k = between r ts l.0 l.1 m l.2 h in
      let first = f.within r k.0 l.0 l.3 k.1 in
      let second = g.within k.0 m l.1 l.4 k.2 in
      (omega (arith, first.0, first.1, second.0), omega (arith, first.1, second.1));
}

-- there was room for fewer
pub keeps_fewer : {d e : ℕ} {L : List Placed → Type 0} → d ≤ e → KeepsDepthLeft e L → KeepsDepthLeft d L
keeps_fewer le f = record {
  within = λ r m ts l h. (let k = f.within r m ts l h in (omega (arith, le, k.0), k.1));
}

pub shuts_fewer : {d e : ℕ} {L : List Placed → Type 0} → d ≤ e → Shuts e L → Shuts d L
shuts_fewer le f = record {
  within = λ r m ts l h. (let k = f.within r m ts l h in (omega (arith, le, k.0), k.1));
}

-- with a further fact
pub keeps_with : {d : ℕ} {L : List Placed → Type 0} (P : List Placed → Type 0) → KeepsDepthLeft d L → KeepsDepthLeft d (λ ts. L ts × P ts)
keeps_with P f = record { within = λ r m ts l h. f.within r m ts l.0 h }

pub shuts_with : {d : ℕ} {L : List Placed → Type 0} (P : List Placed → Type 0) → Shuts d L → Shuts d (λ ts. L ts × P ts)
shuts_with P f = record { within = λ r m ts l h. f.within r m ts l.0 h }

-- ---- single tokens

same_depth_left : (r m : ℕ) → Some r ≡ Some m → m ≡ r
same_depth_left r m e = cc

symbol_depth_left : (r m : ℕ) (ts : List Placed) (p : Pos) (s : List ℕ) → ts ≡ symbol p s ∷ [] → depth_left r ts ≡ Some m → (0 ≤ r) × (m ≡ r)
symbol_depth_left r m ts p s e h = (omega arith, same_depth_left r m (subst (λ x. depth_left r x ≡ Some m) e h))

pub keeps_word : (w : List ℕ) (p : Pos) → KeepsDepthLeft 0 (Word w p)
keeps_word w p = record { within = λ r m ts l h. symbol_depth_left r m ts p w l h }

pub keeps_says : (w : List ℕ) → KeepsDepthLeft 0 (Says w tt)
keeps_says w = record { within = λ r m ts l h. symbol_depth_left r m ts l.0 w l.1 h }

pub keeps_symbol : (q : List ℕ → Bool) (x : Ident) → KeepsDepthLeft 0 (SymbolOf q x)
keeps_symbol q x = record { within = λ r m ts l h. symbol_depth_left r m ts x.1 x.0 l.0 h }

pub keeps_one_symbol : (p : Pos) (s : List ℕ) → KeepsDepthLeft 0 (λ ts. ts ≡ symbol p s ∷ [])
keeps_one_symbol p s = record { within = λ r m ts l h. symbol_depth_left r m ts p s l h }

pub keeps_one_int : (p : Pos) (n : Literal) → KeepsDepthLeft 0 (λ ts. ts ≡ int p n ∷ [])
keeps_one_int p n = record {
  within = λ r m ts l h. (omega arith, same_depth_left r m (subst (λ x. depth_left r x ≡ Some m) l h));
}

pub keeps_one_at : (p : Pos) → KeepsDepthLeft 0 (λ ts. ts ≡ at_sign p ∷ [])
keeps_one_at p = record {
  within = λ r m ts l h. (omega arith, same_depth_left r m (subst (λ x. depth_left r x ≡ Some m) l h));
}

pub keeps_at : KeepsDepthLeft 0 (AtSign tt)
keeps_at = record { within = λ r m ts l h. (keeps_one_at l.0).within r m ts l.1 h }

pub keeps_none : KeepsDepthLeft 0 (λ ts. ts ≡ [])
keeps_none = record {
  within = λ r m ts l h. (omega arith, same_depth_left r m (subst (λ x. depth_left r x ≡ Some m) l h));
}

pub shuts_close : Shuts 0 (Closes tt)
shuts_close = record {
  within = λ r m ts l h. (omega arith, same_depth_left (suc r) m (subst (λ x. depth_left r x ≡ Some m) l.1 h));
}

open_depth_left : (r m : ℕ) (p : Pos) → depth_left r (opening p ∷ []) ≡ Some m → r ≡ suc m
open_depth_left zero m p h = absurd (cc)
open_depth_left (suc r) m p h = let same : r ≡ m = cc in ap suc same

-- ---- parentheses

opened : {d : ℕ} {M : List Placed → Type 0} (r m : ℕ) (ts u v : List Placed) (p : Pos) → Shuts d M → ts ≡ u ++ v → u ≡ opening p ∷ [] → M v
    → depth_left r ts ≡ Some m → (d + 1 ≤ r) × (m ≡ r)
opened r m ts u v p g s o l h =
    let k = between r ts u v m s h in
    let first = open_depth_left r k.0 p (subst (λ x. depth_left r x ≡ Some k.0) o k.1) in
    let second = g.within k.0 m v l k.2 in
    (omega (arith, first, second.0), omega (arith, first, second.1))

pub keeps_opens : {d : ℕ} {M : List Placed → Type 0} (p : Pos) → Shuts d M → KeepsDepthLeft (d + 1) (Opens p ⊙ M)
keeps_opens p g = record { within = λ r m ts l h. opened r m ts l.0 l.1 p g l.2 l.3 l.4 h }

pub keeps_opening : {d : ℕ} {M : List Placed → Type 0} → Shuts d M → KeepsDepthLeft (d + 1) (Opening tt ⊙ M)
keeps_opening g = record { within = λ r m ts l h. opened r m ts l.0 l.1 l.3.0 g l.2 l.3.1 l.4 h }

-- parentheses, and then tokens that close one more
pub shuts_block : {d e : ℕ} {L M : List Placed → Type 0} → KeepsDepthLeft d L → Shuts e M → Shuts (max (d + 1) e) (Opening tt ⊙ (L ⊙ (Closes tt ⊙ M)))
shuts_block f g = record {
  within = λ r m ts l h.
      let k = between r ts l.0 l.1 m l.2 h in
      let opens = open_depth_left r k.0 l.3.0 (subst (λ x. depth_left r x ≡ Some k.0) l.3.1 k.1) in
      let j = between k.0 l.1 l.4.0 l.4.1 m l.4.2 k.2 in
      let inner = f.within k.0 j.0 l.4.0 l.4.3 j.1 in
      let i = between j.0 l.4.1 l.4.4.0 l.4.4.1 m l.4.4.2 j.2 in
      let closes = shuts_close.within j.0 i.0 l.4.4.0 l.4.4.3 i.1 in
      let last = g.within i.0 m l.4.4.1 l.4.4.4 i.2 in
      (omega (arith, opens, inner.0, inner.1, closes.1, last.0), omega (arith, opens, inner.1, closes.1, last.1));
}

pub shuts_flag : {d : ℕ} {L : List Placed → Type 0} (w : List ℕ) (set : Bool) → Shuts d L → Shuts d (Flag w set L)
shuts_flag w true f = record {
  within = λ r m ts l h. (let k = (shuts_seq (keeps_says w) f).within r m ts l h in (omega (arith, k.0), k.1));
}
shuts_flag w false f = record { within = λ r m ts l h. f.within r m ts l.0 h }

pub keeps_each : {A : Type 0} {L : A → List Placed → Type 0} → ((a : A) → KeepsDepthLeft 0 (L a)) → (xs : List A) → KeepsDepthLeft 0 (Each L xs)
keeps_each each [] = record { within = λ r m ts l h. keeps_none.within r m ts l h }
keeps_each each (x ∷ xs) = record {
  within = λ r m ts l h. (keeps_seq (each x) (keeps_each each xs)).within r m ts l h;
}

-- parentheses of which the closing one is among the tokens, and then tokens that close one more
group : {d e : ℕ} {L M : List Placed → Type 0} (p : Pos) → Shuts d L → Shuts e M → (r m : ℕ) (ts u v : List Placed) → ts ≡ u ++ v → u ≡ opening p ∷ []
    → (L ⊙ M) v
    → depth_left r ts ≡ Some m → (max (d + 1) e ≤ r) × (m ≡ suc r)
group p f g r m ts u v s o l h =
    let k = between r ts u v m s h in
    let opens = open_depth_left r k.0 p (subst (λ x. depth_left r x ≡ Some k.0) o k.1) in
    let j = between k.0 v l.0 l.1 m l.2 k.2 in
    let inner = f.within k.0 j.0 l.0 l.3 j.1 in
    let last = g.within j.0 m l.1 l.4 j.2 in
    (omega (arith, opens, inner.0, inner.1, last.0), omega (arith, opens, inner.1, last.1))

pub shuts_group : {d e : ℕ} {L M : List Placed → Type 0} (p : Pos) → Shuts d L → Shuts e M → Shuts (max (d + 1) e) (Opens p ⊙ (L ⊙ M))
shuts_group p f g = record { within = λ r m ts l h. group p f g r m ts l.0 l.1 l.2 l.3 l.4 h }

pub shuts_list : {d e : ℕ} {L M : List Placed → Type 0} → Shuts d L → Shuts e M → Shuts (max (d + 1) e) (Opening tt ⊙ (L ⊙ M))
shuts_list f g = record { within = λ r m ts l h. group l.3.0 f g r m ts l.0 l.1 l.2 l.3.1 l.4 h }
