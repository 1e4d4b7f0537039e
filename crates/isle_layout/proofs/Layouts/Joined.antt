-- Texts are joined one after another.
use Rattle.std.proofs.Common.{◌≡◌, ◌+◌, ◌<◌, ℕ, zero, suc, List, [], ◌∷◌, ◌++◌, append_assoc, add-one, ◌⊎◌, inl, inr, Result, Ok, Err, is_ok, IfOk}
use Rattle.std.proofs.Common.{if◌then◌else◌, ap, ◌∙◌, arith}
use Rattle.std.proofs.lemmas.List.{append-nil}
use Rattle.std.specs.List.{flat_map}
use Rattle.isle_layout.specs.Layout.{joined}

-- what is still to be written of texts from one place on
abbrev pub rest_joined : (place : ℕ) → (separator : List ℕ) → List (List ℕ) → List ℕ
rest_joined zero separator texts = joined separator texts
rest_joined (suc _) separator texts = flat_map (λ text. separator ++ text) texts

-- nothing is left after the last text
pub all_joined : (place : ℕ) (separator out : List ℕ) → out ++ rest_joined place separator [] ≡ out
all_joined zero separator out = append-nil out
all_joined (suc _) separator out = append-nil out

-- one text more, after a separator where it isn't the first
pub joined_more : (place : ℕ) (separator first : List ℕ) (texts : List (List ℕ)) (out between after : List ℕ)
    → ((place ≡ 0) × (between ≡ out)) ⊎ ((0 < place) × (between ≡ out ++ separator)) → after ≡ between ++ first
    → after ++ rest_joined (place + 1) separator texts ≡ out ++ rest_joined place separator (first ∷ texts)
joined_more zero separator first texts out between after (inl h) e =
    ap (λ bytes. bytes ++ flat_map (λ text. separator ++ text) texts) (e ∙ ap (λ bytes. bytes ++ first) h.1) ∙ append_assoc out first _
joined_more zero separator first texts out between after (inr h) e = absurd (omega arith)
joined_more (suc k) separator first texts out between after (inl h) e = absurd (omega arith)
joined_more (suc k) separator first texts out between after (inr h) e =
    rw add-one (ap (λ bytes. bytes ++ flat_map (λ text. separator ++ text) texts) (e ∙ ap (λ bytes. bytes ++ first) h.1
    ∙ append_assoc out separator first) ∙ append_assoc out (separator ++ first) _)

-- what `push_str` has written where it succeeds
pub pushed : {T E : Type 0} (r : Result T E) (new written old : List ℕ) → new ≡ (if is_ok r then written else old) → IfOk r (λ done. new ≡ written)
pushed (Ok x) new written old e = e
pushed (Err x) new written old e = tt
