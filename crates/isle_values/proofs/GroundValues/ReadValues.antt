-- Values that are read one behind the other, up to a closing parenthesis.
use Rattle.std.proofs.Common.{◌≡◌, ◌<◌, ◌+◌, ◌++◌, ℕ, zero, suc, List, [], ◌∷◌, length, take, drop, sym, ◌∙◌, ap, arith, append_assoc}
use Rattle.std.proofs.Math.Seq.{take-add}
use Rattle.std.proofs.lemmas.List.{length-drop, append-nil, take-append-drop}
use Rattle.isle_syntax.specs.declared.lexer.Token.{Token}
use Rattle.isle_syntax.specs.declared.lexer.Token.TheVariants.{RParen}
use Rattle.isle_rules.specs.Values.{ValueTree, ValueTrees, no_trees, more_trees, value_list}
use Rattle.isle_values.specs.Values.Tokens.{tokens_of, tokens_all, IsSpellable, AreSpellable, HaveNoValue}
use Rattle.isle_values.proofs.GroundValues.Reading.{no_end}
use Rattle.isle_values.proofs.GroundValues.OneSpelling.{one_spelling}

-- a value behind others
pub pushed_tokens : (vs : List ValueTree) (v : ValueTree) → tokens_all (value_list (vs ++ v ∷ [])) ≡ tokens_all (value_list vs) ++ tokens_of v
pushed_tokens [] v = append-nil (tokens_of v)
pushed_tokens (w ∷ vs) v = ap (λ l. tokens_of w ++ l) (pushed_tokens vs v) ∙ sym
    (append_assoc (tokens_of w) (tokens_all (value_list vs)) (tokens_of v))

pub pushed_spellable : (vs : List ValueTree) (v : ValueTree) → AreSpellable (value_list vs) → IsSpellable v → AreSpellable (value_list (vs ++ v ∷ []))
pushed_spellable [] v all one = (one, tt)
pushed_spellable (w ∷ vs) v all one = (all.0, pushed_spellable vs v all.1 one)

abbrev pub Left : List Token → Type 0
Left tokens = (others : ValueTrees) × AreSpellable others × (tokens ≡ tokens_all others ++ RParen ∷ [])

-- where more than the parenthesis is left, a value is
pub none_read : (tokens : List Token) → 1 < length tokens → HaveNoValue tokens → Left tokens → ⊥
none_read tokens more never (no_trees, spellable, is) = let one = ap length is in omega (arith, one, more)
none_read tokens more never (more_trees g gs, spellable, is) =
    never g (tokens_all gs ++ RParen ∷ []) spellable.0 (is ∙ append_assoc (tokens_of g) (tokens_all gs) (RParen ∷ []))

-- a value that is read has a token
pub some_count : (tokens : List Token) (count : ℕ) (v : ValueTree) → take count tokens ≡ tokens_of v → 0 < count
some_count tokens zero v is = absurd (no_end v [] (append-nil (tokens_of v) ∙ sym is))
some_count tokens (suc count) v is = omega arith

pub drop_more : {X : Type 0} (n m : ℕ) (xs : List X) → drop (n + m) xs ≡ drop m (drop n xs)
drop_more zero m xs = ap (λ k. drop k xs) (let e : 0 + m ≡ m = omega arith in e)
drop_more (suc n) zero [] = ap (λ k. drop k []) (let e : suc n + 0 ≡ suc n = omega arith in e)
drop_more (suc n) (suc m) [] = ap (λ k. drop k []) (let e : suc n + suc m ≡ suc (suc (n + m)) = omega arith in e)
drop_more (suc n) m (x ∷ xs) = ap (λ k. drop k (x ∷ xs)) (let e : suc n + m ≡ suc (n + m) = omega arith in e) ∙ drop_more n m xs

-- what is left behind the value that is read is left of the whole
pub left_behind : (tokens : List Token) (at count : ℕ) (v : ValueTree) → at + 1 < length tokens → IsSpellable v
    → take count (drop at tokens) ≡ tokens_of v
    → Left (drop at tokens) → Left (drop (at + count) tokens)
left_behind tokens at count v more spellable is (no_trees, others, left) =
    absurd (let one = ap length left in let len = length-drop at tokens in omega (arith, one, len, more))
left_behind tokens at count v more spellable is (more_trees g gs, others, left) =
    let split : tokens_of v ++ drop count (drop at tokens) ≡ tokens_of g ++ (tokens_all gs ++ RParen ∷ []) =
    ap (λ l. l ++ drop count (drop at tokens)) (sym is) ∙ take-append-drop count (drop at tokens) ∙ left
    ∙ append_assoc (tokens_of g) (tokens_all gs) (RParen ∷ []) in
    let (same, rest) = one_spelling v g (drop count (drop at tokens)) (tokens_all gs ++ RParen ∷ []) spellable others.0 split in
    (gs, others.1, drop_more at count tokens ∙ rest)

-- so is what is spelt
pub spelt_behind : (tokens : List Token) (at count : ℕ) (vs : List ValueTree) (v : ValueTree) → take at tokens ≡ tokens_all (value_list vs)
    → take count (drop at tokens) ≡ tokens_of v → take (at + count) tokens ≡ tokens_all (value_list (vs ++ v ∷ []))
spelt_behind tokens at count vs v is one =
    take-add at count tokens ∙ ap (λ l. l ++ take count (drop at tokens)) is ∙ ap (λ l. tokens_all (value_list vs) ++ l) one ∙ sym
    (pushed_tokens vs v)
