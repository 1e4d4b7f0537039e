-- What follows a gap is an end of the text, where the text may be cut.
use Rattle.std.proofs.Common.{◌≡◌, ℕ, ◌<◌, ◌≤◌, List, [], ◌∷◌, get_or, Bool, true, false, sym, ◌∙◌, arith}
use Rattle.std.specs.Str.{IsUtf8}
use Rattle.std.proofs.Common.{inl, inr}
use Rattle.std.proofs.lemmas.Bool.{cases_lt}
use Rattle.std.proofs.lemmas.Bool.Decides.{nat_tests}
use Rattle.isle_syntax.specs.declared.gap.Lead.{Lead}
use Rattle.isle_syntax.specs.declared.gap.Mark.{Mark}
use Rattle.isle_syntax.specs.Tokens.Gaps.{lead_of, mark_of, after_first, after_run, in_line, Inside, closes, nested, other, IsGap, none, space, line}
use Rattle.isle_syntax.specs.Tokens.Gaps.{comment}
use Rattle.isle_syntax.proofs.Tokens.Leads.{lead_past_ascii}
use Rattle.isle_syntax.proofs.Tokens.Cuts.{EndsAscii, ends_utf8, ends_cons, ends_behind, ends_first, after_first-utf8, stopped-utf8, run-utf8, Ending}
use Rattle.isle_syntax.proofs.Tokens.Cuts.{ending_self, ending_first, ending_run, ending_ends}

-- what begins with anything but a symbol begins with an ASCII byte
pub lead_ascii : (ts : List ℕ) (k : Lead) → lead_of ts ≡ k → ¬ (k ≡ Lead.Word) → get_or ts 0 0 < 128
lead_ascii [] k e h = omega arith
lead_ascii (b ∷ bs) k e h = elim (cases_lt b 128) [ inl l ↦ l | inr l ↦ let w = lead_past_ascii b bs l in absurd (h (sym e ∙ w)) ]

-- the second byte of a comment is ASCII too
second_past_ascii : (b c : ℕ) (bs : List ℕ) → 128 ≤ c → ¬ (lead_of (b ∷ c ∷ bs) ≡ Lead.Comment)
second_past_ascii b c bs h e = grind (arith, nat_tests)

pub comment_ascii : (ts : List ℕ) → lead_of ts ≡ Lead.Comment → get_or (after_first ts) 0 0 < 128
comment_ascii [] e = omega arith
comment_ascii (b ∷ []) e = omega arith
comment_ascii (b ∷ c ∷ bs) e = elim (cases_lt c 128) [ inl l ↦ l | inr l ↦ absurd (second_past_ascii b c bs l e) ]

closing_ascii : (b c : ℕ) → mark_of b c ≡ Mark.Closes → c < 128
closing_ascii b c e = grind (arith, nat_tests)

pub in_line_ascii : (b : ℕ) → in_line b ≡ false → b < 128
in_line_ascii b e = grind (arith, nat_tests)

pub inside_ends : {text rest : List ℕ} → Inside text rest → EndsAscii text rest
inside_ends (closes {b = b} {c = c} {rest = rest} e) = ends_cons b (ends_first c rest (closing_ascii b c e))
inside_ends (nested {b = b} {c = c} e i o) = ends_cons b (ends_cons c (ends_behind (inside_ends i) (inside_ends o)))
inside_ends (other {b = b} e i) = ends_cons b (inside_ends i)

-- a rest of a text at which it may be cut
pub record Cut (text rest : List ℕ) : Type 0 where
  pub ending : Ending text rest
  pub utf8 : IsUtf8 rest

pub cut_self : (text : List ℕ) → IsUtf8 text → Cut text text
cut_self text u = record { ending = ending_self text; utf8 = u }

pub cut_first : {text : List ℕ} (rest : List ℕ) → Cut text rest → get_or rest 0 0 < 128 → Cut text (after_first rest)
cut_first rest c h = record { ending = ending_first rest c.ending; utf8 = after_first-utf8 rest c.utf8 h }

pub cut_stopped : (p : ℕ → Bool) {text : List ℕ} (rest : List ℕ) → ((b : ℕ) → p b ≡ false → b < 128) → Cut text rest → Cut text (after_run p rest)
cut_stopped p rest ascii c = record { ending = ending_run p rest c.ending; utf8 = stopped-utf8 p rest ascii c.utf8 }

pub cut_run : (p : ℕ → Bool) {text : List ℕ} (rest : List ℕ) → ((b : ℕ) → p b ≡ true → b < 128) → Cut text rest → Cut text (after_run p rest)
cut_run p rest ascii c = record { ending = ending_run p rest c.ending; utf8 = run-utf8 p rest ascii c.utf8 }

pub cut_ends : {text middle rest : List ℕ} → Cut text middle → EndsAscii middle rest → Cut text rest
cut_ends c e = record { ending = ending_ends c.ending e; utf8 = ends_utf8 e c.utf8 }

pub cut_gap : {text ts r : List ℕ} → IsGap ts r → Cut text ts → Cut text r
cut_gap (none h) c = c
cut_gap (space {text = ts} e g) c = cut_gap g (cut_first ts c (lead_ascii ts Lead.Space e (λ k. cc k)))
cut_gap (line {text = ts} e g) c =
    cut_gap g (cut_stopped in_line (after_first ts) in_line_ascii (cut_first ts c (lead_ascii ts Lead.Line e (λ k. cc k))))
cut_gap (comment {text = ts} e i g) c =
    cut_gap g (cut_ends (cut_first (after_first ts) (cut_first ts c (lead_ascii ts Lead.Comment e (λ k. cc k))) (comment_ascii ts e)) (inside_ends i))
