-- The tokens of a text stand one behind the other.
use Rattle.std.proofs.Common.{◌≡◌, ◌<◌, ◌≤◌, ℕ, zero, suc, ◌-◌, List, [], ◌∷◌, ◌++◌, length, Bool, sym, ap, subst, arith}
use Rattle.std.specs.List.{All}
use Rattle.std.proofs.lemmas.List.Elements.{All-nil, All-cons, All-tail}
use Rattle.std.proofs.lemmas.List.Kept.{AllPairs-cons}
use Rattle.isle_syntax.specs.declared.lexer.Lookahead.{Lookahead}
use Rattle.isle_syntax.specs.declared.lexer.Token.{Token}
use Rattle.isle_syntax.specs.Tokens.PlacedTokens.{Placed, pos_of, placed_at}
use Rattle.isle_syntax.specs.Tokens.TokensOf.{pos_of_rest, TokensOf, ended, stopped, token}
use Rattle.isle_syntax.specs.Tokens.RemainingTokens.{Source}
use Rattle.isle_syntax.specs.Tokens.LexerCalls.{TokensAscend}
use Rattle.isle_syntax.specs.Tokens.Finding.{gap_of, found, next_of, Reading, reading}
use Rattle.isle_syntax.specs.Tokens.Lookahead.{reading_of}
use Rattle.isle_syntax.proofs.Tokens.Gaps.{gap_found, gap-le}
use Rattle.isle_syntax.proofs.Tokens.Findings.{next_found, token_shorter, reading_sound}
use Rattle.isle_syntax.proofs.Tokens.Remaining.{pos_of_placed}

abbrev pub Before : Placed → Placed → Type 0
Before s t = (pos_of s).offset < (pos_of t).offset

pub none_ascend : TokensAscend []
none_ascend i j d less within = absurd (omega arith)

-- a token isn't empty, and the next one begins at its end or later
tokens_ascend : (source : Source) {text : List ℕ} {left : List Placed} {end : ℕ} {clean : Bool} → TokensOf source text left end clean
    → length text ≤ source.size
    → All (λ t. source.size - length text ≤ (pos_of t).offset) left × TokensAscend left
tokens_ascend source (ended g) fits = (All-nil _, none_ascend)
tokens_ascend source (stopped g some never) fits = (All-nil _, none_ascend)
tokens_ascend source (token {text = text} {rest = rest} {more = more} {t = t} {left = left} g i tail) fits =
    let place = pos_of_rest source rest in
    let at = ap (λ p. p.offset) (pos_of_placed place t) in
    let gap = gap-le g in
    let shorter = token_shorter i in
    let later = tokens_ascend source tail (omega (arith, gap, shorter, fits)) in (
      All-cons (λ t. source.size - length text ≤ (pos_of t).offset) (placed_at place t) left (omega (arith, at, gap))
          (λ k d within. (let h = later.0 k d within in omega (arith, h, gap, shorter))),
      AllPairs-cons Before (placed_at place t) left (λ k d within. (let h = later.0 k d within in omega (arith, h, at, shorter, gap, fits))) later.1,
    )

-- what a lexer has looked at
pub looked_ascend : (source : Source) (lookahead : Lookahead) (start : ℕ) (rest text : List ℕ)
    → reading_of source lookahead start rest ≡ reading source text → length text ≤ source.size
    → TokensAscend (reading_of source lookahead start rest).left
looked_ascend source lookahead start rest text same fits =
    subst (λ (r : Reading). TokensAscend r.left) (sym same) (tokens_ascend source (reading_sound source text) fits).1

-- ---- what is left of a text

-- behind its gap
pub behind-le : (rest text : List ℕ) → text ≡ gap_of rest → length text ≤ length rest
behind-le rest text behind = omega (arith, ap length behind, gap-le (gap_found rest))

-- behind the token there
pub found-le : (rest text : List ℕ) → text ≡ gap_of rest → (t : Token) (more : List ℕ) → next_of text ≡ found t more → length more ≤ length rest
found-le rest text behind t more e = omega (arith, token_shorter (next_found text t more e), behind-le rest text behind)

-- ---- those behind others

all_later : {A : Type 0} (P : A → Type 0) (u v : List A) → All P (u ++ v) → All P v
all_later P [] v h = h
all_later P (t ∷ u) v h = all_later P u v (All-tail P t (u ++ v) h)

first_before : (t : Placed) (ts : List Placed) → TokensAscend (t ∷ ts) → All (Before t) ts
first_before t ts h k d within = h zero (suc k) d (omega arith) (omega arith)

others_ascend : (t : Placed) (ts : List Placed) → TokensAscend (t ∷ ts) → TokensAscend ts
others_ascend t ts h i j d less within = h (suc i) (suc j) d (omega arith) (omega arith)

pub later_ascend : (u v : List Placed) → TokensAscend (u ++ v) → TokensAscend v
later_ascend [] v h = h
later_ascend (t ∷ u) v h = later_ascend u v (others_ascend t (u ++ v) h)

pub all_before : (u v : List Placed) → TokensAscend (u ++ v) → All (λ s. All (Before s) v) u
all_before [] v h = All-nil (λ s. All (Before s) v)
all_before (t ∷ u) v h = All-cons (λ s. All (Before s) v) t u (all_later (Before t) u v (first_before t (u ++ v) h))
    (all_before u v (others_ascend t (u ++ v) h))
