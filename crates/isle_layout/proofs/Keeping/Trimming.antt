-- Bytes without the white space at their end.
use Rattle.std.proofs.Common.{◌≡◌, ℕ, suc, ◌<◌, ◌≤◌, List, [], ◌∷◌, ◌++◌, length, take, get_or, Bool, true, false, cond, refl, ap, sym, subst, ◌∙◌, arith}
use Rattle.std.specs.Prelude.{◌&&◌}
use Rattle.std.proofs.Common.{◌-◌}
use Rattle.std.proofs.Math.Seq.{take-suc, take-length}
use Rattle.std.proofs.Common.{inl, inr, ◌⊎◌}
use Rattle.std.proofs.lemmas.Bool.{cases_lt}
use Rattle.std.specs.Str.{IsCharBoundary}
use Rattle.std.proofs.lemmas.Str.{IsCharBoundary-before_ascii, IsCharBoundary-end}
use Rattle.std.proofs.lemmas.Bool.Decides.{nat_tests}
use Rattle.isle_syntax.specs.Tokens.Names.{is_space}
use Rattle.isle_layout.specs.Keeping.Pieces.{trimmed, is_nothing}

space_alone : (b : ℕ) (t : Bool) → t ≡ true → cond (t && true) [] (b ∷ []) ≡ []
space_alone b true e = refl
space_alone b false e = absurd (cc)

solid_alone : (b : ℕ) (t : Bool) → t ≡ false → cond (t && true) [] (b ∷ []) ≡ b ∷ []
solid_alone b true e = absurd (cc)
solid_alone b false e = refl

-- white space at the end is trimmed
pub trimmed_space : (bs : List ℕ) (b : ℕ) → is_space b ≡ true → trimmed (bs ++ b ∷ []) ≡ trimmed bs
unfolding trimmed
trimmed_space [] b e = space_alone b (is_space b) e
trimmed_space (x ∷ bs) b e = ap (λ t. cond (is_space x && is_nothing t) [] (x ∷ t)) (trimmed_space bs b e)

something : (bs : List ℕ) (b : ℕ) → is_nothing (bs ++ b ∷ []) ≡ false
something [] b = refl
something (x ∷ bs) b = refl

kept : (t n : Bool) (x : ℕ) (bs : List ℕ) → n ≡ false → cond (t && n) [] (x ∷ bs) ≡ x ∷ bs
kept true true x bs e = absurd (cc)
kept true false x bs e = refl
kept false n x bs e = refl

-- and anything else is not
pub trimmed_solid : (bs : List ℕ) (b : ℕ) → is_space b ≡ false → trimmed (bs ++ b ∷ []) ≡ bs ++ b ∷ []
unfolding trimmed
trimmed_solid [] b e = solid_alone b (is_space b) e
trimmed_solid (x ∷ bs) b e =
    ap (λ t. cond (is_space x && is_nothing t) [] (x ∷ t)) (trimmed_solid bs b e)
    ∙ kept (is_space x) (is_nothing (bs ++ b ∷ [])) x (bs ++ b ∷ []) (something bs b)

pub trimmed_nothing : trimmed [] ≡ []
unfolding trimmed
trimmed_nothing = refl

-- a text without its end, which may be cut from it there
pub record IsFront (text front : List ℕ) : Type 0 where
  pub within : length front ≤ length text
  pub same : take (length front) text ≡ front
  pub ascii : length front < length text → get_or text (length front) 0 < 128

space_ascii : (b : ℕ) → is_space b ≡ true → b < 128
space_ascii b e = grind (arith, nat_tests)

front_case : (b : ℕ) (bs t : List ℕ) (s : Bool) → is_space b ≡ s → IsFront bs t → IsFront (b ∷ bs) (cond (s && is_nothing t) [] (b ∷ t))
front_case b bs t false e f = record {
  within = omega (arith, f.within);
  same = ap (λ k. b ∷ k) f.same;
  ascii = λ h. f.ascii (omega arith);
}
front_case b bs [] true e f = record { within = omega arith; same = refl; ascii = λ h. space_ascii b e }
front_case b bs (x ∷ t) true e f = record {
  within = omega (arith, f.within);
  same = ap (λ k. b ∷ k) f.same;
  ascii = λ h. f.ascii (omega arith);
}

pub trimmed_front : (bs : List ℕ) → IsFront bs (trimmed bs)
unfolding trimmed
trimmed_front [] = record { within = omega arith; same = refl; ascii = λ h. absurd (omega arith) }
trimmed_front (b ∷ bs) = front_case b bs (trimmed bs) (is_space b) refl (trimmed_front bs)

twice_case : (b : ℕ) (t : List ℕ) (s : Bool) → s ≡ is_space b → trimmed t ≡ t
    → trimmed (cond (s && is_nothing t) [] (b ∷ t)) ≡ cond (s && is_nothing t) [] (b ∷ t)
unfolding trimmed
twice_case b [] true e h = refl
twice_case b (x ∷ t) true e h = ap (λ k. cond (is_space b && is_nothing k) [] (b ∷ k)) h ∙ kept (is_space b) false b (x ∷ t) refl
twice_case b t false e h = ap (λ k. cond (is_space b && is_nothing k) [] (b ∷ k)) h ∙ ap (λ s. cond (s && is_nothing t) [] (b ∷ t)) (sym e)

-- what is trimmed stays as it is
pub trimmed_twice : (bs : List ℕ) → trimmed (trimmed bs) ≡ trimmed bs
unfolding trimmed
trimmed_twice [] = refl
trimmed_twice (b ∷ bs) = twice_case b (trimmed bs) (is_space b) refl (trimmed_twice bs)

-- ---- by the last byte

split_last : (bs : List ℕ) → 1 ≤ length bs → bs ≡ take (length bs - 1) bs ++ get_or bs (length bs - 1) 0 ∷ []
split_last bs h =
    let k : suc (length bs - 1) ≡ length bs = omega arith in
    sym (take-length bs) ∙ ap (λ n. take n bs) (sym k) ∙ take-suc bs (length bs - 1) 0 (omega arith)

pub trimmed_last : (bs : List ℕ) → 1 ≤ length bs → is_space (get_or bs (length bs - 1) 0) ≡ true → trimmed (take (length bs - 1) bs) ≡ trimmed bs
trimmed_last bs h e = sym (ap trimmed (split_last bs h) ∙ trimmed_space (take (length bs - 1) bs) (get_or bs (length bs - 1) 0) e)

pub trimmed_stays : (bs : List ℕ) → 1 ≤ length bs → is_space (get_or bs (length bs - 1) 0) ≡ false → trimmed bs ≡ bs
trimmed_stays bs h e =
    ap trimmed (split_last bs h) ∙ trimmed_solid (take (length bs - 1) bs) (get_or bs (length bs - 1) 0) e ∙ sym (split_last bs h)

pub trimmed_short : (bs : List ℕ) → length bs < 1 → trimmed bs ≡ bs
trimmed_short [] h = trimmed_nothing
trimmed_short (b ∷ bs) h = absurd (omega arith)

boundary_case : {text front : List ℕ} → IsFront text front → length front < length text ⊎ length text ≤ length front
    → IsCharBoundary text (length front)
boundary_case {text} {front} f (inl l) = IsCharBoundary-before_ascii text (length front) l (f.ascii l)
boundary_case {text} {front} f (inr l) =
    let k : length text ≡ length front = omega (arith, f.within) in subst (IsCharBoundary text) k (IsCharBoundary-end text)

pub front_boundary : {text front : List ℕ} → IsFront text front → IsCharBoundary text (length front)
front_boundary {text} {front} f = boundary_case f (cases_lt (length front) (length text))
