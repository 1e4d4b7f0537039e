-- A flag word in its place.
use Rattle.std.proofs.Common.{◌≡◌, ℕ, List, [], ◌∷◌, Bool, true, false, refl, sym, ap, ◌∙◌}
use Rattle.std.proofs.lemmas.Bool.{false≢true}
use Rattle.isle_syntax.specs.Tokens.Names.{is_word}
use Rattle.isle_syntax.specs.Tokens.PlacedTokens.{Placed, opening, closing, at_sign, symbol, int}
use Rattle.isle_syntax.specs.Grammar.Phrases.{Both, Says, next_symbol_is, Flag}
use Rattle.isle_syntax.specs.Inside.Reading.Readers.{Reader, seq, says, optional, optional_on}
use Rattle.isle_syntax.proofs.Reading.Follows.{Begins, FollowsAt, Follows, follows_seq}
use Rattle.isle_syntax.proofs.Reading.Cases.{Looks, follows_case}
use Rattle.isle_syntax.proofs.Reading.Basics.{word_is, follows_says, says_names}

names_same : (p : List ℕ → Bool) (t : Placed) (x y : List Placed) → next_symbol_is p (t ∷ x) ≡ next_symbol_is p (t ∷ y)
names_same p (opening k) x y = refl
names_same p (closing k) x y = refl
names_same p (at_sign k) x y = refl
names_same p (symbol k s) x y = refl
names_same p (int k z) x y = refl

pub names_looks : (p : List ℕ → Bool) → Looks (next_symbol_is p)
names_looks p = record { same = names_same p }

-- what a flag and the rest spell
abbrev pub Flagged : {A : Type 0} → List ℕ → (A → List Placed → Type 0) → Bool × A → List Placed → Type 0
Flagged w L x = Flag w x.0 (L x.1)

module _ {A : Type 0} (w : List ℕ) (L : A → List Placed → Type 0) (filled : (b : A) (v : List Placed) → L b v → v ≡ [] → ⊥) where
  flag_first : (b : A) (v : List Placed) → Flagged w L (true, b) v → next_symbol_is (is_word w) v ≡ true
  flag_first b v o = ap (next_symbol_is (is_word w)) o.2 ∙ says_names (is_word w) w tt o.0 o.1 o.3 ∙ word_is w

  pub flag_filled : (b : Bool × A) (v : List Placed) → Flagged w L b v → v ≡ [] → ⊥
  flag_filled (true, b) v o e = false≢true (ap (next_symbol_is (is_word w)) (sym e) ∙ flag_first b v o)
  flag_filled (false, b) v o e = filled b v o.0 e

  module _ (F : List Placed → Type 0) (d e : ℕ) (q : Reader A) (good : Follows L F d e q) (other : (b : A) × (v : List Placed) × L b v
      × (next_symbol_is (is_word w) v ≡ false)) where
    some_flag : Begins (Flagged w L) []
    some_flag = ((false, other.0), other.1, (other.2, other.3))

    with_flag : (b : Bool × A) (v : List Placed) → Flagged w L b v → next_symbol_is (is_word w) v ≡ true → (a : Unit {0} × A) × (b ≡ (true, a.1))
        × Both (Says w) L a v
    with_flag (true, b) v o h = ((tt, b), refl, o)
    with_flag (false, b) v o h = absurd (false≢true (sym o.1 ∙ h))

    no_flag : (b : Bool × A) (v : List Placed) → Flagged w L b v → next_symbol_is (is_word w) v ≡ false → (a : A) × (b ≡ (false, a)) × L a v
    no_flag (true, b) v o h = absurd (false≢true (sym h ∙ flag_first b v o))
    no_flag (false, b) v o h = (b, refl, o.0)

    seq_filled : (a : Unit {0} × A) (u : List Placed) → Both (Says w) L a u → u ≡ [] → ⊥
    seq_filled a u l h = flag_filled (true, a.1) u l h

    follows_flag_at : (ts : List Placed) (b : Bool) → next_symbol_is (is_word w) ts ≡ b → FollowsAt (Flagged w L) F d e ts (optional_on w q b ts)
    follows_flag_at ts true at =
        follows_case (next_symbol_is (is_word w)) (names_looks (is_word w)) (Both (Says w) L) (Flagged w L) F d e ts true at (λ x. (true, x.1))
        (λ a u l h. l) with_flag seq_filled flag_filled some_flag
        (seq (says w) q ts) ((follows_seq (other.0, other.1, other.2) (follows_says w d) good).reads ts)
    follows_flag_at ts false at =
        follows_case (next_symbol_is (is_word w)) (names_looks (is_word w)) L (Flagged w L) F d e ts false at (λ b. (false, b)) (λ a u l h. (l, h))
        no_flag filled flag_filled some_flag
        (q ts) (good.reads ts)

    pub follows_flag : Follows (Flagged w L) F d e (optional w q)
    follows_flag = record { reads = λ ts. follows_flag_at ts (next_symbol_is (is_word w) ts) refl }
