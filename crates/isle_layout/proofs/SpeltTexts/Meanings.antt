-- What tokens of a text tell where they spell something.
use Rattle.std.proofs.Common.{◌≡◌, ℕ, List, [], ◌∷◌, ◌++◌, Bool, true, false, refl, subst}
use Rattle.std.specs.Prelude.{◌&&◌}
use Rattle.std.specs.List.{list_all}
use Rattle.std.proofs.lemmas.Bool.{and_from}
use Rattle.isle_ast.specs.declared.ast.Ident.{Ident}
use Rattle.isle_syntax.specs.Tokens.PlacedTokens.{Placed}
use Rattle.isle_syntax.specs.Grammar.Phrases.{◌⊙◌, SymbolOf, Flag, Each}
use Rattle.isle_layout.specs.Inside.TextTokens.{AreTextTokens}

-- the test holds where such tokens stand
pub record Means (b : Bool) (L : List Placed → Type 0) : Type 0 where
  pub holds : (ts : List Placed) → AreTextTokens ts → L ts → b ≡ true

text_front : (u v : List Placed) → AreTextTokens (u ++ v) → AreTextTokens u
text_front [] v h = tt
text_front (t ∷ u) v h = (h.0, text_front u v h.1)

text_back : (u v : List Placed) → AreTextTokens (u ++ v) → AreTextTokens v
text_back [] v h = h
text_back (t ∷ u) v h = text_back u v h.1

-- part of a text
pub front_of : (ts u v : List Placed) → ts ≡ u ++ v → AreTextTokens ts → AreTextTokens u
front_of ts u v e h = text_front u v (subst AreTextTokens e h)

pub back_of : (ts u v : List Placed) → ts ≡ u ++ v → AreTextTokens ts → AreTextTokens v
back_of ts u v e h = text_back u v (subst AreTextTokens e h)

pub means_first : {a : Bool} {L M : List Placed → Type 0} → Means a L → Means a (L ⊙ M)
means_first f = record { holds = λ ts text l. f.holds l.0 (front_of ts l.0 l.1 l.2 text) l.3 }

pub means_second : {b : Bool} {L M : List Placed → Type 0} → Means b M → Means b (L ⊙ M)
means_second f = record { holds = λ ts text l. f.holds l.1 (back_of ts l.0 l.1 l.2 text) l.4 }

pub means_both : {a b : Bool} {L M : List Placed → Type 0} → Means a L → Means b M → Means (a && b) (L ⊙ M)
means_both {a} {b} f g = record {
  holds = λ ts text l. and_from a b (f.holds l.0 (front_of ts l.0 l.1 l.2 text) l.3) (g.holds l.1 (back_of ts l.0 l.1 l.2 text) l.4);
}

three : (a b c : Bool) → (a && (b && c)) ≡ true → (a && b && c) ≡ true
three true b c e = e
three false b c e = e

pub means_three : (a b c : Bool) {L : List Placed → Type 0} → Means (a && (b && c)) L → Means (a && b && c) L
means_three a b c f = record { holds = λ ts text l. three a b c (f.holds ts text l) }

pub means_with : {a : Bool} {L : List Placed → Type 0} (P : List Placed → Type 0) → Means a L → Means a (λ ts. L ts × P ts)
means_with P f = record { holds = λ ts text l. f.holds ts text l.0 }

pub means_always : (L : List Placed → Type 0) → Means true L
means_always L = record { holds = λ ts text l. refl }

pub means_symbol : (q : List ℕ → Bool) (x : Ident) → Means (q x.0) (SymbolOf q x)
means_symbol q x = record { holds = λ ts text l. l.1 }

pub means_each : {A : Type 0} (f : A → Bool) (L : A → List Placed → Type 0) → ((a : A) → Means (f a) (L a)) → (xs : List A)
    → Means (list_all f xs) (Each L xs)
means_each f L each [] = record { holds = λ ts text l. refl }
means_each f L each (x ∷ xs) = record {
  holds = λ ts text l. (means_both (each x) (means_each f L each xs)).holds ts text l;
}

pub means_flag : {b : Bool} {L : List Placed → Type 0} (w : List ℕ) (set : Bool) → Means b L → Means b (Flag w set L)
means_flag w true f = record { holds = λ ts text l. f.holds l.1 (back_of ts l.0 l.1 l.2 text) l.4 }
means_flag w false f = record { holds = λ ts text l. f.holds ts text l.0 }
