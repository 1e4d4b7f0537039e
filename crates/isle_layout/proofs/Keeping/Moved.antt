-- The same tokens at other places: phrases that they spell there too.
use Rattle.std.proofs.Common.{◌≡◌, ℕ, zero, suc, List, [], ◌∷◌, ◌++◌, map, Bool, true, false, Option, None, Some, refl, ap, ◌∙◌, subst}
use Rattle.std.specs.Prelude.{ℤ, option_and_then}
use Rattle.isle_ast.specs.declared.pos.Pos.{Pos}
use Rattle.isle_ast.specs.declared.ast.Ident.{Ident}
use Rattle.isle_syntax.specs.Tokens.PlacedTokens.{Literal, Placed, opening, closing, at_sign, symbol, int}
use Rattle.isle_syntax.specs.Tokens.Names.{is_word}
use Rattle.isle_syntax.specs.Grammar.Phrases.{Both, Opens, Closes, Opening, AtSign, Word, Says, SymbolOf, next_symbol_is, Flag, Each, Closed}
use Rattle.isle_syntax.specs.Grammar.Phrases.{depth_left_after, depth_left}
use Rattle.isle_syntax.specs.Grammar.TreeGrammar.{Constant, SpellsInteger}
use Rattle.isle_ast.specs.Trees.WithoutPos.{ident_without_pos}
use Rattle.isle_layout.proofs.ReadsBack.Trees.{ident_at}

-- this token, at some place
abbrev pub SameToken : Placed → Placed → Type 0
SameToken (opening p) u = (q : Pos) × (u ≡ opening q)
SameToken (closing p) u = (q : Pos) × (u ≡ closing q)
SameToken (at_sign p) u = (q : Pos) × (u ≡ at_sign q)
SameToken (symbol p s) u = (q : Pos) × (u ≡ symbol q s)
SameToken (int p n) u = (q : Pos) × (u ≡ int q n)

-- these tokens, at some places
abbrev pub SameTokens : List Placed → List Placed → Type 0
SameTokens [] us = us ≡ []
SameTokens (t ∷ ts) us = (u : Placed) × (others : List Placed) × (us ≡ u ∷ others) × SameToken t u × SameTokens ts others

same_split : (a b us : List Placed) → SameTokens (a ++ b) us
    → (u : List Placed) × (v : List Placed) × (us ≡ u ++ v) × SameTokens a u × SameTokens b v
same_split [] b us m = ([], us, refl, refl, m)
same_split (t ∷ a) b us m =
    let s = same_split a b m.1 m.4 in
    (m.0 ∷ s.0, s.1, m.2 ∙ ap (λ r. m.0 ∷ r) s.2, (m.0, s.0, refl, m.3, s.3), s.4)

-- the one token of a list
pub same_one : (t : Placed) (ts us : List Placed) → ts ≡ t ∷ [] → SameTokens ts us → (u : Placed) × (us ≡ u ∷ []) × SameToken t u
same_one t ts us e m =
    let n : SameTokens (t ∷ []) us = subst (λ r. SameTokens r us) e m in
    (n.0, n.2 ∙ ap (λ r. n.0 ∷ r) n.4, n.3)

-- what spells a value at some places spells one at others that is the same but for what is forgotten
pub record Moves {A B : Type 0} (spells : A → List Placed → Type 0) (forget : A → B) (a : A) : Type 0 where
  pub move : (ts us : List Placed) → spells a ts → SameTokens ts us → (b : A) × spells b us × (forget b ≡ forget a)

-- what is forgotten of a value is all of it
abbrev pub all_forgotten : {A : Type 0} → A → Unit {0}
all_forgotten a = tt

-- ---- one after another

pub both : {A B C D : Type 0} {L : A → List Placed → Type 0} {M : B → List Placed → Type 0} {f : A → C} {g : B → D} {a : A} {b : B}
    → Moves L f a → Moves M g b → Moves {A = A × B} {B = C × D} (Both L M) (λ x. (f x.0, g x.1)) (a, b)
both x y = record {
  move = λ ts us l m.
      let s = same_split l.0 l.1 us (subst (λ r. SameTokens r us) l.2 m) in
      let p = x.move l.0 s.0 l.3 s.3 in
      let q = y.move l.1 s.1 l.4 s.4 in
      ((p.0, q.0), (s.0, s.1, s.2, p.1, q.1), (λ i. (p.2 i, q.2 i)));
}

pub each : {A B : Type 0} {L : A → List Placed → Type 0} {f : A → B} → ((a : A) → Moves L f a) → (values : List A) → Moves (Each L) (map f) values
each x [] = record { move = λ ts us l m. ([], subst (λ r. SameTokens r us) l m, refl) }
each x (a ∷ values) =
    let two = both (x a) (each x values) in
    record {
      move = λ ts us l m.
          let r = two.move ts us l m in
          (r.0.0 ∷ r.0.1, r.1, (λ i. (r.2 i).0 ∷ (r.2 i).1));
    }

-- ---- tokens

pub opens : (p : Pos) → Moves Opens all_forgotten p
opens p = record { move = λ ts us l m. let n = same_one (opening p) ts us l m in (n.2.0, n.1 ∙ ap (λ u. u ∷ []) n.2.1, refl) }

pub closes : Moves Closes all_forgotten tt
closes = record { move = λ ts us l m. let n = same_one (closing l.0) ts us l.1 m in (tt, (n.2.0, n.1 ∙ ap (λ u. u ∷ []) n.2.1), refl) }

pub opening_sign : Moves Opening all_forgotten tt
opening_sign = record { move = λ ts us l m. let n = same_one (opening l.0) ts us l.1 m in (tt, (n.2.0, n.1 ∙ ap (λ u. u ∷ []) n.2.1), refl) }

pub at_moves : Moves AtSign all_forgotten tt
at_moves = record { move = λ ts us l m. let n = same_one (at_sign l.0) ts us l.1 m in (tt, (n.2.0, n.1 ∙ ap (λ u. u ∷ []) n.2.1), refl) }

pub word : (w : List ℕ) (p : Pos) → Moves (Word w) all_forgotten p
word w p = record { move = λ ts us l m. let n = same_one (symbol p w) ts us l m in (n.2.0, n.1 ∙ ap (λ u. u ∷ []) n.2.1, refl) }

pub says : (w : List ℕ) → Moves (Says w) all_forgotten tt
says w = record { move = λ ts us l m. let n = same_one (symbol l.0 w) ts us l.1 m in (tt, (n.2.0, n.1 ∙ ap (λ u. u ∷ []) n.2.1), refl) }

pub symbol_of : (q : List ℕ → Bool) (x : Ident) → Moves (SymbolOf q) ident_without_pos x
symbol_of q x = record {
  move = λ ts us l m.
      let n = same_one (symbol x.1 x.0) ts us l.0 m in
      (ident_at x n.2.0, (n.1 ∙ ap (λ u. u ∷ []) n.2.1, l.1), refl);
}

pub constant : (x : Ident) → Moves Constant ident_without_pos x
constant x = record {
  move = λ ts us l m.
      let n = same_one (symbol x.1 (36 ∷ x.0)) ts us l.0 m in
      (ident_at x n.2.0, (n.1 ∙ ap (λ u. u ∷ []) n.2.1, l.1), refl);
}

pub integer_at : (val : ℤ) (big : Bool) (p : Pos) → Moves (SpellsInteger val big) all_forgotten p
integer_at val big p = record {
  move = λ ts us l m.
      let n = same_one (int p l.0) ts us l.1 m in
      (n.2.0, (l.0, n.1 ∙ ap (λ u. u ∷ []) n.2.1, l.2, l.3), refl);
}

pub literal_at : (n : Literal) (p : Pos) → Moves (λ q ts. ts ≡ int q n ∷ []) all_forgotten p
literal_at n p = record { move = λ ts us l m. let k = same_one (int p n) ts us l m in (k.2.0, k.1 ∙ ap (λ u. u ∷ []) k.2.1, refl) }

pub closed : {A B : Type 0} {L : A → List Placed → Type 0} {f : A → B} → ((a : A) → Moves L f a) → (values : List A) → Moves (Closed L) (map f) values
closed x values =
    let two = both (each x values) closes in
    record { move = λ ts us l m. let r = two.move ts us l m in (r.0.0, r.1, (λ i. (r.2 i).0)) }

-- ---- flags

same_next : (q : List ℕ → Bool) (ts us : List Placed) → SameTokens ts us → next_symbol_is q us ≡ next_symbol_is q ts
same_next q [] us m = ap (next_symbol_is q) m
same_next q (opening k ∷ ts) us m = ap (next_symbol_is q) (m.2 ∙ ap (λ u. u ∷ m.1) m.3.1)
same_next q (closing k ∷ ts) us m = ap (next_symbol_is q) (m.2 ∙ ap (λ u. u ∷ m.1) m.3.1)
same_next q (at_sign k ∷ ts) us m = ap (next_symbol_is q) (m.2 ∙ ap (λ u. u ∷ m.1) m.3.1)
same_next q (symbol k s ∷ ts) us m = ap (next_symbol_is q) (m.2 ∙ ap (λ u. u ∷ m.1) m.3.1)
same_next q (int k n ∷ ts) us m = ap (next_symbol_is q) (m.2 ∙ ap (λ u. u ∷ m.1) m.3.1)

pub flagged : {A B : Type 0} {L : A → List Placed → Type 0} {f : A → B} {a : A} (w : List ℕ) (set : Bool) → Moves L f a
    → Moves (λ b. Flag w set (L b)) f a
flagged w true x =
    let two = both (says w) x in
    record { move = λ ts us l m. let r = two.move ts us l m in (r.0.1, r.1, (λ i. (r.2 i).1)) }
flagged w false x = record {
  move = λ ts us l m.
      let r = x.move ts us l.0 m in
      (r.0, (r.1, same_next (is_word w) ts us m ∙ l.1), r.2);
}

-- ---- parentheses

same_depth : (n : ℕ) (t u : Placed) → SameToken t u → depth_left_after n u ≡ depth_left_after n t
same_depth zero (opening p) u m = ap (depth_left_after zero) m.1
same_depth zero (closing p) u m = ap (depth_left_after zero) m.1
same_depth zero (at_sign p) u m = ap (depth_left_after zero) m.1
same_depth zero (symbol p s) u m = ap (depth_left_after zero) m.1
same_depth zero (int p k) u m = ap (depth_left_after zero) m.1
same_depth (suc n) (opening p) u m = ap (depth_left_after (suc n)) m.1
same_depth (suc n) (closing p) u m = ap (depth_left_after (suc n)) m.1
same_depth (suc n) (at_sign p) u m = ap (depth_left_after (suc n)) m.1
same_depth (suc n) (symbol p s) u m = ap (depth_left_after (suc n)) m.1
same_depth (suc n) (int p k) u m = ap (depth_left_after (suc n)) m.1

then_same : (f g : ℕ → Option ℕ) → ((n : ℕ) → f n ≡ g n) → (o : Option ℕ) → option_and_then f o ≡ option_and_then g o
then_same f g h None = refl
then_same f g h (Some n) = h n

-- as many parentheses are open
pub same_depth_left : (n : ℕ) (ts us : List Placed) → SameTokens ts us → depth_left n us ≡ depth_left n ts
same_depth_left n [] us m = ap (depth_left n) m
same_depth_left n (t ∷ ts) us m =
    ap (depth_left n) m.2 ∙ ap (option_and_then (λ k. depth_left k m.1)) (same_depth n t m.0 m.3)
    ∙ then_same (λ k. depth_left k m.1) (λ k. depth_left k ts) (λ k. same_depth_left k ts m.1 m.4) (depth_left_after n t)
