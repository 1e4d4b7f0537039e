-- Lines of bytes as a reader gives them.
use Rattle.std.specs.Io.{StopsAt}
use Rattle.std.specs.Prelude.{All, ◌≢◌, ◌-◌, take}
use Rattle.std.proofs.Common.{◌≡◌, ◌++◌, ℕ, Bool, true, false, List, [], ◌∷◌, Option, Some, None, inl, inr, length, eqb, cond, refl, sym, ap, subst, ◌∙◌, append_assoc, append-nil, arith, ◌<◌, suc}
use Rattle.std.proofs.lemmas.Bool.{eqb-true, eqb-false}
use Rattle.std.specs.Io.BufRead.{take_through, drop_through}
use Rattle.std.specs.Io.KnownBytes.{IsAtEnd, Consumes}
use Rattle.islec.specs.Serving.{lines_of, before_first, AreLinesOf, AreFirstLinesOf, GivesLines, TakesLine, LosesNewline}

-- the bytes before the first newline, or all
abbrev bare_line : List ℕ → List ℕ
bare_line [] = []
bare_line (x ∷ xs) = cond (eqb x 10) [] (x ∷ bare_line xs)

-- a byte before other lines, by whether it is a newline
byte_before : (b : Bool) (x : ℕ) (xs bare rest : List ℕ) → lines_of xs ≡ bare ∷ lines_of rest
    → cond b ([] ∷ lines_of xs) (before_first x (lines_of xs)) ≡ cond b [] (x ∷ bare) ∷ lines_of (cond b xs rest)
byte_before true x xs bare rest more = refl
byte_before false x xs bare rest more = ap (before_first x) more

byte_alone : (b : Bool) (x : ℕ) → cond b ([] ∷ lines_of []) (before_first x (lines_of [])) ≡ cond b [] (x ∷ []) ∷ lines_of (cond b [] [])
byte_alone true x = refl
byte_alone false x = refl

-- the first line and the lines of the rest
first_line_of : (x : ℕ) (xs : List ℕ) → lines_of (x ∷ xs) ≡ bare_line (x ∷ xs) ∷ lines_of (drop_through 10 (x ∷ xs))
first_line_of x [] = byte_alone (eqb x 10) x
first_line_of x (y ∷ ys) = byte_before (eqb x 10) x (y ∷ ys) (bare_line (y ∷ ys)) (drop_through 10 (y ∷ ys)) (first_line_of y ys)

-- the first line where it ends with a newline
ended_step : (x : ℕ) (taken line : List ℕ) → ((bare : List ℕ) → taken ≡ bare ++ 10 ∷ [] → bare ≡ line) → (b : Bool) → eqb x 10 ≡ b → (bare : List ℕ)
    → cond b (x ∷ []) (x ∷ taken) ≡ bare ++ 10 ∷ [] → bare ≡ cond b [] (x ∷ line)
ended_step x taken line more true is [] e = refl
ended_step x taken line more true is (y ∷ []) e = absurd cc
ended_step x taken line more true is (y ∷ z ∷ bare) e = absurd cc
ended_step x taken line more false is [] e = let same : x ≡ 10 = cc in absurd (eqb-false x 10 is same)
ended_step x taken line more false is (y ∷ bare) e =
    let rest : taken ≡ bare ++ 10 ∷ [] = cc in
    let same : bare ≡ line = more bare rest in
    cc

ended : (xs bare : List ℕ) → take_through 10 xs ≡ bare ++ 10 ∷ [] → bare ≡ bare_line xs
ended [] [] e = refl
ended [] (y ∷ bare) e = absurd cc
ended (x ∷ xs) bare e = ended_step x (take_through 10 xs) (bare_line xs) (λ l. ended xs l) (eqb x 10) refl bare e

-- the first line where it doesn't
unended_step : (x : ℕ) (taken line : List ℕ) → (((front : List ℕ) → taken ≡ front ++ 10 ∷ [] → ⊥) → taken ≡ line) → (b : Bool) → eqb x 10 ≡ b
    → ((front : List ℕ) → cond b (x ∷ []) (x ∷ taken) ≡ front ++ 10 ∷ [] → ⊥) → cond b (x ∷ []) (x ∷ taken) ≡ cond b [] (x ∷ line)
unended_step x taken line more true is never = absurd (never [] (ap (λ y. y ∷ []) (eqb-true x 10 is)))
unended_step x taken line more false is never = ap (λ l. x ∷ l) (more (λ front e. never (x ∷ front) (ap (λ l. x ∷ l) e)))

unended : (xs : List ℕ) → ((front : List ℕ) → take_through 10 xs ≡ front ++ 10 ∷ [] → ⊥) → take_through 10 xs ≡ bare_line xs
unended [] never = refl
unended (x ∷ xs) never = unended_step x (take_through 10 xs) (bare_line xs) (λ h. unended xs h) (eqb x 10) refl never

-- what is left of a first line without its newline
bare_is : (xs line bare : List ℕ) → line ≡ take_through 10 xs → LosesNewline line bare → bare ≡ bare_line xs
bare_is xs line bare is (inl e) = ended xs bare (sym is ∙ e)
bare_is xs line bare is (inr (same, never)) = sym same ∙ is ∙ unended xs (λ front e. never front (is ∙ e))

-- a reader gives the line that is taken from it
pub taken : (old new : Option (List ℕ)) (line bare : List ℕ) → TakesLine old new line → LosesNewline line bare → GivesLines old new (bare ∷ [])
taken None new line bare (some, is) loses = tt
taken (Some []) new line bare (some, (is, left)) loses = let none = ap length is in absurd (omega (arith, none, some))
taken (Some (x ∷ xs)) new line bare (some, (is, left)) loses =
    subst (λ o. GivesLines (Some (x ∷ xs)) o (bare ∷ [])) (sym left)
    (first_line_of x xs ∙ ap (λ l. l ∷ lines_of (drop_through 10 (x ∷ xs))) (sym (bare_is (x ∷ xs) line bare is loses)))

pub gives_none : (a : Option (List ℕ)) → GivesLines a a []
gives_none None = tt
gives_none (Some bytes) = refl

pub gives_more : (a b c : Option (List ℕ)) (lines more : List (List ℕ)) → GivesLines a b lines → GivesLines b c more → GivesLines a c (lines ++ more)
gives_more None b c lines more p q = tt
gives_more (Some x) None c lines more p q = absurd p
gives_more (Some x) (Some y) None lines more p q = absurd q
gives_more (Some x) (Some y) (Some z) lines more p q = p ∙ ap (λ l. lines ++ l) q ∙ sym (append_assoc lines more (lines_of z))

-- the lines that are given up to the end are all
pub gives_all : (a b : Option (List ℕ)) (lines : List (List ℕ)) → GivesLines a b lines → IsAtEnd b → AreLinesOf a lines
gives_all None b lines p end = tt
gives_all (Some x) None lines p end = absurd p
gives_all (Some x) (Some y) lines p end = p ∙ ap (λ l. lines ++ lines_of l) end ∙ append-nil lines

-- else the first ones
pub gives_first : (a b : Option (List ℕ)) (lines : List (List ℕ)) → GivesLines a b lines → AreFirstLinesOf a lines
gives_first None b lines p = tt
gives_first (Some x) None lines p = absurd p
gives_first (Some x) (Some y) lines p = (lines_of y, p)

-- where bytes were taken, and then others, both were
pub consumes_none : (a : Option (List ℕ)) → Consumes a a []
consumes_none None = tt
consumes_none (Some bytes) = refl

pub consumes_more : (a b c : Option (List ℕ)) (one other : List ℕ) → Consumes a b one → Consumes b c other → Consumes a c (one ++ other)
consumes_more None b c one other p q = tt
consumes_more (Some x) None c one other p q = absurd p
consumes_more (Some x) (Some y) None one other p q = absurd q
consumes_more (Some x) (Some y) (Some z) one other p q = p ∙ ap (λ l. one ++ l) q ∙ sym (append_assoc one other z)

-- of a line that stops at its newline, so does the rest
rest_stops : (x y : ℕ) (line : List ℕ) → StopsAt (x ∷ y ∷ line) 10 → (x ≢ 10) × StopsAt (y ∷ line) 10
rest_stops x y line stops =
    let one : length (x ∷ y ∷ line) - 1 ≡ suc (length line) = omega arith in
    let other : length (y ∷ line) - 1 ≡ length line = omega arith in
    let all = subst (λ n. All (λ b. b ≢ 10) (take n (x ∷ y ∷ line))) one stops in (
      all 0 0 (omega arith),
      subst (λ n. All (λ b. b ≢ 10) (take n (y ∷ line))) (sym other) (λ k d less. all (suc k) d (omega (arith, less))),
    )

tail_ends : (x z : ℕ) (line front : List ℕ) → x ∷ line ≡ z ∷ front → line ≡ front
tail_ends x z line front e = cc

further : (x : ℕ) (line rest : List ℕ) → x ≢ 10 → (b : Bool) → eqb x 10 ≡ b
    → (take_through 10 (line ++ rest) ≡ line) × (drop_through 10 (line ++ rest) ≡ rest)
    → (take_through 10 ((x ∷ line) ++ rest) ≡ x ∷ line) × (drop_through 10 ((x ∷ line) ++ rest) ≡ rest)
further x line rest other true is more = absurd (other (eqb-true x 10 is))
further x line rest other false is more = rw is (ap (λ l. x ∷ l) more.0, more.1)

-- a line that has ended is the first of what it stands before
ended_taken : (line rest front : List ℕ) → StopsAt line 10 → line ≡ front ++ 10 ∷ []
    → (take_through 10 (line ++ rest) ≡ line) × (drop_through 10 (line ++ rest) ≡ rest)
ended_taken [] rest [] stops ends = absurd cc
ended_taken [] rest (y ∷ front) stops ends = absurd cc
ended_taken (x ∷ []) rest [] stops ends =
    let ten : x ≡ 10 = cc in
    subst (λ n. (take_through 10 (n ∷ rest) ≡ n ∷ []) × (drop_through 10 (n ∷ rest) ≡ rest)) (sym ten) (refl, refl)
ended_taken (x ∷ []) rest (y ∷ []) stops ends = absurd cc
ended_taken (x ∷ []) rest (y ∷ z ∷ front) stops ends = absurd cc
ended_taken (x ∷ y ∷ line) rest [] stops ends = absurd cc
ended_taken (x ∷ y ∷ line) rest (z ∷ front) stops ends =
    let (other, later) = rest_stops x y line stops in
    further x (y ∷ line) rest other (eqb x 10) refl (ended_taken (y ∷ line) rest front later (tail_ends x z (y ∷ line) (front ++ 10 ∷ []) ends))

pub ended_takes : (old new : Option (List ℕ)) (line front : List ℕ) → Consumes old new line → StopsAt line 10 → line ≡ front ++ 10 ∷ []
    → 0 < length line → TakesLine old new line
ended_takes None new line front took stops ends some = (some, tt)
ended_takes (Some bytes) None line front took stops ends some = absurd took
ended_takes (Some bytes) (Some rest) line front took stops ends some =
    let (takes, drops) = ended_taken line rest front stops ends in
    (some, (sym takes ∙ ap (take_through 10) (sym took), ap Some (sym drops ∙ ap (drop_through 10) (sym took))))

-- one that has ended has a byte
pub ended_some : (line front : List ℕ) → line ≡ front ++ 10 ∷ [] → 0 < length line
ended_some line front ends = subst (λ l. 0 < length l) (sym ends) (some front)
  where
    some : (front : List ℕ) → 0 < length (front ++ 10 ∷ [])
    some [] = omega arith
    some (x ∷ front) = omega arith
