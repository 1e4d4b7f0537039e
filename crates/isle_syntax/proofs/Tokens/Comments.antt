-- Comments, which nest: a step of the program's loop, and what it finds.
use Rattle.std.proofs.Common.{◌≡◌, ℕ, zero, suc, ◌+◌, ◌-◌, ◌≤◌, List, [], ◌∷◌, length, Option, Some, None, refl, sym, ap, subst, ◌∙◌, arith}
use Rattle.isle_syntax.specs.declared.gap.Mark.{Mark}
use Rattle.isle_syntax.specs.declared.gap.Mark.TheVariants.{Opens, Closes, Neither}
use Rattle.isle_syntax.specs.Tokens.Gaps.{mark_of, Inside, closes, nested, other}
use Rattle.isle_syntax.specs.Tokens.Finding.{after_comment, comment_turn}

pub comment_step : (n b c : ℕ) (rest tail more : List ℕ) (m : Mark) → rest ≡ b ∷ tail → tail ≡ c ∷ more → m ≡ mark_of b c
    → after_comment n rest ≡ comment_turn m n (Some more) (after_comment (n - 1) more) (after_comment (n + 1) more) (after_comment n tail)
unfolding after_comment
comment_step n b c rest tail more m e f g = rw (e, f, g) refl

pub closing_step : (n b c : ℕ) (rest tail more : List ℕ) → rest ≡ b ∷ tail → tail ≡ c ∷ more → Closes ≡ mark_of b c → (n ≡ 0 → ⊥)
    → after_comment n rest ≡ after_comment (n - 1) more
closing_step zero b c rest tail more e f g some = absurd (some refl)
closing_step (suc n) b c rest tail more e f g some = comment_step (suc n) b c rest tail more Closes e f g

-- what follows a comment is no longer than it

abbrev NoLonger : Option (List ℕ) → ℕ → Type 0
NoLonger None n = Unit {0}
NoLonger (Some r) n = length r ≤ n

no_longer_more : (o : Option (List ℕ)) (m n : ℕ) → m ≤ n → NoLonger o m → NoLonger o n
no_longer_more None m n h g = tt
no_longer_more (Some r) m n h g = omega arith

comment_case : (m : Mark) (n k : ℕ) (last less more same : Option (List ℕ)) → NoLonger last k → NoLonger less k → NoLonger more k → NoLonger same k
    → NoLonger (comment_turn m n last less more same) k
comment_case Closes zero k last less more same a b c d = a
comment_case Closes (suc n) k last less more same a b c d = b
comment_case Opens n k last less more same a b c d = c
comment_case Neither n k last less more same a b c d = d

comment_no_longer : (n : ℕ) (ts : List ℕ) → NoLonger (after_comment n ts) (length ts)
unfolding after_comment
comment_no_longer n [] = tt
comment_no_longer n (b ∷ []) = tt
comment_no_longer n (b ∷ c ∷ bs) =
    comment_case (mark_of b c) n (length (b ∷ c ∷ bs)) (Some bs) (after_comment (n - 1) bs) (after_comment (n + 1) bs) (after_comment n (c ∷ bs))
    (omega arith)
    (no_longer_more _ (length bs) _ (omega arith) (comment_no_longer (n - 1) bs))
    (no_longer_more _ (length bs) _ (omega arith) (comment_no_longer (n + 1) bs))
    (no_longer_more _ (length (c ∷ bs)) _ (omega arith) (comment_no_longer n (c ∷ bs)))

pub after_comment-le : (n : ℕ) (ts r : List ℕ) → Some r ≡ after_comment n ts → length r ≤ length ts
after_comment-le n ts r e = subst (λ o. NoLonger o (length ts)) (sym e) (comment_no_longer n ts)

-- ---- what the program finds is what follows the comment

-- the rest behind n + 1 comments, of which each but the first begins where the one before ends
abbrev Insides : ℕ → List ℕ → List ℕ → Type 0
Insides zero text rest = Inside text rest
Insides (suc n) text rest = (behind : List ℕ) × Inside text behind × Insides n behind rest

widened : (n : ℕ) (text more rest : List ℕ) → ((behind : List ℕ) → Inside more behind → Inside text behind) → Insides n more rest
    → Insides n text rest
widened zero text more rest w h = w rest h
widened (suc n) text more rest w h = (h.0, w h.0 h.1, h.2)

opened : (n : ℕ) (b c : ℕ) (more rest : List ℕ) → mark_of b c ≡ Opens → Insides (suc n) more rest → Insides n (b ∷ c ∷ more) rest
opened zero b c more rest e h = nested e h.1 h.2
opened (suc n) b c more rest e h = let inner = h.2 in (inner.0, nested e h.1 inner.1, inner.2)

found_case : (m : Mark) (n b c : ℕ) (bs rest : List ℕ) → mark_of b c ≡ m
    → ((k : ℕ) → after_comment k bs ≡ Some rest → Insides k bs rest) → (after_comment n (c ∷ bs) ≡ Some rest → Insides n (c ∷ bs) rest)
    → comment_turn m n (Some bs) (after_comment (n - 1) bs) (after_comment (n + 1) bs) (after_comment n (c ∷ bs)) ≡ Some rest
    → Insides n (b ∷ c ∷ bs) rest
found_case Closes zero b c bs rest e ih same h = let k : bs ≡ rest = cc in subst (λ r. Inside (b ∷ c ∷ bs) r) k (closes e)
found_case Closes (suc n) b c bs rest e ih same h = let k : suc n - 1 ≡ n = omega arith in
    (bs, closes e, ih n (ap (λ j. after_comment j bs) (sym k) ∙ h))
found_case Opens n b c bs rest e ih same h = let k : n + 1 ≡ suc n = omega arith in
    opened n b c bs rest e (ih (suc n) (ap (λ j. after_comment j bs) (sym k) ∙ h))
found_case Neither n b c bs rest e ih same h = widened n (b ∷ c ∷ bs) (c ∷ bs) rest (λ behind i. other e i) (same h)

insides_found : (n : ℕ) (text rest : List ℕ) → after_comment n text ≡ Some rest → Insides n text rest
unfolding after_comment
insides_found n [] rest h = absurd (cc)
insides_found n (b ∷ []) rest h = absurd (cc)
insides_found n (b ∷ c ∷ bs) rest h = found_case (mark_of b c) n b c bs rest refl (λ k. insides_found k bs rest) (insides_found n (c ∷ bs) rest) h

pub inside_found : (text rest : List ℕ) → after_comment 0 text ≡ Some rest → Inside text rest
inside_found text rest h = insides_found 0 text rest h

-- what is left to find behind one of n + 1 comments
abbrev behind_one : ℕ → List ℕ → Option (List ℕ)
behind_one zero rest = Some rest
behind_one (suc n) rest = after_comment n rest

closed_turn : (n : ℕ) (rest : List ℕ) (more same : Option (List ℕ))
    → comment_turn Closes n (Some rest) (after_comment (n - 1) rest) more same ≡ behind_one n rest
closed_turn zero rest more same = refl
closed_turn (suc n) rest more same = let k : suc n - 1 ≡ n = omega arith in ap (λ j. after_comment j rest) k

insides_complete : (n : ℕ) {text rest : List ℕ} → Inside text rest → after_comment n text ≡ behind_one n rest
insides_complete n (closes {b = b} {c = c} {rest = rest} e) =
    comment_step n b c (b ∷ c ∷ rest) (c ∷ rest) rest Closes refl refl (sym e) ∙ closed_turn n rest _ _
insides_complete n (nested {b = b} {c = c} {inner = inner} {outer = outer} e i o) =
    let k : n + 1 ≡ suc n = omega arith in
    comment_step n b c (b ∷ c ∷ inner) (c ∷ inner) inner Opens refl refl (sym e) ∙ ap (λ j. after_comment j inner) k ∙ insides_complete (suc n) i
    ∙ insides_complete n o
insides_complete n (other {b = b} {c = c} {more = more} e i) = comment_step n b c (b ∷ c ∷ more) (c ∷ more) more Neither refl refl (sym e)
    ∙ insides_complete n i

pub inside_complete : {text rest : List ℕ} → Inside text rest → after_comment 0 text ≡ Some rest
inside_complete i = insides_complete 0 i
