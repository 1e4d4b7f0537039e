-- What may follow a pattern.
use Rattle.std.proofs.Common.{ℕ, List, [], ◌∷◌, ◌++◌, sym, ap, subst, ◌∙◌, append_assoc}
use Rattle.isle_syntax.specs.Tokens.PlacedTokens.{Placed, opening, closing, at_sign, symbol, int}
use Rattle.isle_syntax.specs.Grammar.Phrases.{Both, Closes}
use Rattle.isle_syntax.specs.Inside.Reading.Readers.{Reader, seq}
use Rattle.isle_syntax.proofs.Reading.Follows.{SameNext, Begins, Follows, follows_seq_at}

-- the next token is no `@`
abbrev pub NotAt : List Placed → Type 0
NotAt [] = Unit {0}
NotAt (opening p ∷ ts) = Unit {0}
NotAt (closing p ∷ ts) = Unit {0}
NotAt (at_sign p ∷ ts) = ⊥
NotAt (symbol p s ∷ ts) = Unit {0}
NotAt (int p z ∷ ts) = Unit {0}

pub same_next_not_at : (r s : List Placed) → SameNext r s → NotAt r → NotAt s
same_next_not_at [] s same_next n = subst NotAt (sym same_next) tt
same_next_not_at (opening p ∷ r) s same_next n = subst NotAt (sym same_next.1) tt
same_next_not_at (closing p ∷ r) s same_next n = subst NotAt (sym same_next.1) tt
same_next_not_at (at_sign p ∷ r) s same_next n = absurd n
same_next_not_at (symbol p t ∷ r) s same_next n = subst NotAt (sym same_next.1) tt
same_next_not_at (int p z ∷ r) s same_next n = subst NotAt (sym same_next.1) tt

-- one and then another, where more is asked of what follows the first, as of what follows a pattern
pub follows_seq_before : {A B : Type 0} {L : A → List Placed → Type 0} {M : B → List Placed → Type 0} {F1 F : List Placed
    → Type 0} {d e f : ℕ} {p : Reader A} {q : Reader B}
    → ((b : B) (v w : List Placed) → M b v → F w → F1 (v ++ w)) → Begins M [] → Follows L F1 d e p → Follows M F e f q
    → Follows (Both L M) F d f (seq p q)
follows_seq_before {L = L} {M = M} {F1 = F1} {F = F} {d = d} {e = e} {f = f} {p = p} {q = q} follows some gp gq =
    record { reads = λ ts. follows_seq_at L M F1 F d e f ts follows some q (p ts) (gp.reads ts) (λ a r g. gq.reads r) }

-- what begins with a closing parenthesis, and what begins with such a phrase
pub closes_not_at : (x : Unit {0}) (v w : List Placed) → Closes x v → NotAt (v ++ w)
closes_not_at x v w c = subst NotAt (ap (λ k. k ++ w) (sym c.1)) tt

pub both_not_at : {A B : Type 0} (L : A → List Placed → Type 0) (M : B → List Placed → Type 0)
    → ((a : A) (u w : List Placed) → L a u → NotAt (u ++ w)) → (x : A × B) (v w : List Placed) → Both L M x v → NotAt (v ++ w)
both_not_at L M first x v w l = subst NotAt (sym (append_assoc l.0 l.1 w) ∙ ap (λ k. k ++ w) (sym l.2)) (first x.0 l.0 (l.1 ++ w) l.3)
