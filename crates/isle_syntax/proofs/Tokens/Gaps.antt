-- Gaps between tokens: a step of the program's loop, and what it finds.
use Rattle.std.proofs.Common.{◌≡◌, ℕ, zero, suc, ◌-◌, ◌<◌, ◌≤◌, List, [], ◌∷◌, length, Option, Some, None, refl, sym, ap, subst, ◌∙◌, arith}
use Rattle.isle_syntax.specs.declared.gap.Lead.{Lead}
use Rattle.isle_syntax.specs.Tokens.Gaps.{lead_of, after_first, after_run, in_line, Inside, BeginsNoGap, IsGap, none, space, line, comment}
use Rattle.isle_syntax.specs.Tokens.Finding.{after_comment, after_inside, gap, gap_of, gap_turn}
use Rattle.isle_syntax.proofs.Tokens.Runs.{after_run-le}
use Rattle.isle_syntax.proofs.Tokens.Comments.{after_comment-le, inside_found, inside_complete}

-- ---- the turns shorten the text

pub some_left : (ts : List ℕ) (k : Lead) → k ≡ lead_of ts → ¬ (k ≡ Lead.End) → length (after_first ts) < length ts
some_left [] k e other = absurd (other e)
some_left (b ∷ bs) k e other = omega arith

pub after_first-le : (ts : List ℕ) → length (after_first ts) ≤ length ts
after_first-le [] = omega arith
after_first-le (b ∷ bs) = omega arith

pub line_shorter : (ts : List ℕ) → Lead.Line ≡ lead_of ts → length (after_run in_line (after_first ts)) < length ts
line_shorter ts e = omega (arith, after_run-le in_line (after_first ts), some_left ts Lead.Line e (λ k. cc k))

pub comment_shorter : (ts r : List ℕ) → Lead.Comment ≡ lead_of ts → Some r ≡ after_comment 0 (after_first (after_first ts)) → length r < length ts
comment_shorter ts r e f =
    omega (arith, after_comment-le 0 (after_first (after_first ts)) r f, after_first-le (after_first ts), some_left ts Lead.Comment e (λ k. cc k))

-- ---- the turns of the loop

-- what is left of a gap, against all of it
pub record GapTurns (all left : List ℕ) : Type 0 where
  pub turns : ℕ
  pub enough : length left < turns
  pub same : all ≡ gap turns left

gap_step : (n : ℕ) (ts : List ℕ) → 0 < n → gap n ts ≡ gap_turn (gap (n - 1)) (lead_of ts) ts
unfolding gap
gap_step zero ts h = absurd (omega arith)
gap_step (suc n) ts h = let k : n ≡ suc n - 1 = omega arith in ap (λ m. gap_turn (gap m) (lead_of ts) ts) k

module _ (all : List ℕ) (ts : List ℕ) (g : GapTurns all ts) where
  pub gap_turned : (k : Lead) → k ≡ lead_of ts → all ≡ gap_turn (gap (g.turns - 1)) k ts
  gap_turned k e = g.same ∙ gap_step g.turns ts (omega (arith, g.enough)) ∙ ap (λ m. gap_turn (gap (g.turns - 1)) m ts) (sym e)

  pub gap_next : (r : List ℕ) → all ≡ gap (g.turns - 1) r → length r < length ts → GapTurns all r
  gap_next r e h = record { turns = g.turns - 1; enough = omega (arith, g.enough); same = e }

-- ---- what the program finds is what follows the gap

-- each text of fewer bytes
abbrev Shorter : ℕ → List ℕ → Type 0
Shorter n r = (q : List ℕ) → length q < n → gap n q ≡ r → IsGap q r

stays : (ts r : List ℕ) (k : Lead) → lead_of ts ≡ k → BeginsNoGap k ts → ts ≡ r → IsGap ts r
stays ts r k e h f = subst (IsGap ts) f (none (subst (λ l. BeginsNoGap l ts) (sym e) h))

by_inside : (ts r : List ℕ) (n : ℕ) (o : Option (List ℕ)) → lead_of ts ≡ Lead.Comment → after_comment 0 (after_first (after_first ts)) ≡ o
    → length ts < suc n
    → Shorter n r → after_inside ts (gap n) o ≡ r → IsGap ts r
by_inside ts r n None e f fits ih h = stays ts r Lead.Comment e (λ rest i. let k = inside_complete i in cc) h
by_inside ts r n (Some q) e f fits ih h =
    comment e (inside_found (after_first (after_first ts)) q f) (ih q (omega (arith, comment_shorter ts q (sym e) (sym f))) h)

by_lead : (ts r : List ℕ) (n : ℕ) (k : Lead) → lead_of ts ≡ k → length ts < suc n → Shorter n r → gap_turn (gap n) k ts ≡ r → IsGap ts r
by_lead ts r n Lead.Space e fits ih h = space e (ih (after_first ts) (omega (arith, some_left ts Lead.Space (sym e) (λ k. cc k))) h)
by_lead ts r n Lead.Line e fits ih h = line e (ih (after_run in_line (after_first ts)) (omega (arith, line_shorter ts (sym e))) h)
by_lead ts r n Lead.Comment e fits ih h = by_inside ts r n _ e refl fits ih h
by_lead ts r n Lead.End e fits ih h = stays ts r Lead.End e tt h
by_lead ts r n Lead.Opening e fits ih h = stays ts r Lead.Opening e tt h
by_lead ts r n Lead.Closing e fits ih h = stays ts r Lead.Closing e tt h
by_lead ts r n Lead.AtSign e fits ih h = stays ts r Lead.AtSign e tt h
by_lead ts r n Lead.Number e fits ih h = stays ts r Lead.Number e tt h
by_lead ts r n Lead.Word e fits ih h = stays ts r Lead.Word e tt h

gap_sound : (n : ℕ) (ts r : List ℕ) → length ts < n → gap n ts ≡ r → IsGap ts r
unfolding gap
gap_sound zero ts r fits h = absurd (omega arith)
gap_sound (suc n) ts r fits h = by_lead ts r n (lead_of ts) refl fits (λ q f g. gap_sound n q r f g) h

pub gap_found : (ts : List ℕ) → IsGap ts (gap_of ts)
gap_found ts = gap_sound (suc (length ts)) ts (gap_of ts) (omega arith) refl

-- ---- and there is no other

stay_inside : (ts : List ℕ) (more : List ℕ → List ℕ) (o : Option (List ℕ)) → after_comment 0 (after_first (after_first ts)) ≡ o
    → ((rest : List ℕ) → ¬ (Inside (after_first (after_first ts)) rest)) → after_inside ts more o ≡ ts
stay_inside ts more None e h = refl
stay_inside ts more (Some q) e h = absurd (h q (inside_found (after_first (after_first ts)) q e))

stay : (n : ℕ) (ts : List ℕ) (k : Lead) → BeginsNoGap k ts → gap_turn (gap n) k ts ≡ ts
stay n ts Lead.Space h = absurd h
stay n ts Lead.Line h = absurd h
stay n ts Lead.Comment h = stay_inside ts (gap n) _ refl h
stay n ts Lead.End h = refl
stay n ts Lead.Opening h = refl
stay n ts Lead.Closing h = refl
stay n ts Lead.AtSign h = refl
stay n ts Lead.Number h = refl
stay n ts Lead.Word h = refl

pub gap_complete : (n : ℕ) {ts r : List ℕ} → IsGap ts r → length ts < n → gap n ts ≡ r
unfolding gap
gap_complete zero g fits = absurd (omega arith)
gap_complete (suc n) (none {text = ts} h) fits = stay n ts (lead_of ts) h
gap_complete (suc n) (space {text = ts} e g) fits =
    ap (λ k. gap_turn (gap n) k ts) e ∙ gap_complete n g (omega (arith, some_left ts Lead.Space (sym e) (λ k. cc k)))
gap_complete (suc n) (line {text = ts} e g) fits = ap (λ k. gap_turn (gap n) k ts) e ∙ gap_complete n g (omega (arith, line_shorter ts (sym e)))
gap_complete (suc n) (comment {text = ts} {behind = behind} e i g) fits =
    let f = inside_complete i in
    ap (λ k. gap_turn (gap n) k ts) e ∙ ap (after_inside ts (gap n)) f ∙ gap_complete n g (omega (arith, comment_shorter ts behind (sym e) (sym f)))

pub gap_same : {ts r : List ℕ} → IsGap ts r → gap_of ts ≡ r
gap_same {ts} g = gap_complete (suc (length ts)) g (omega arith)

-- behind a gap no gap begins
pub no_gap_behind : {ts r : List ℕ} → IsGap ts r → BeginsNoGap (lead_of r) r
no_gap_behind (none h) = h
no_gap_behind (space e g) = no_gap_behind g
no_gap_behind (line e g) = no_gap_behind g
no_gap_behind (comment e i g) = no_gap_behind g

-- what follows a gap is no longer than the text
pub gap-le : {ts r : List ℕ} → IsGap ts r → length r ≤ length ts
gap-le (none h) = omega arith
gap-le (space {text = ts} e g) = omega (arith, gap-le g, after_first-le ts)
gap-le (line {text = ts} e g) = omega (arith, gap-le g, line_shorter ts (sym e))
gap-le (comment {text = ts} {behind = behind} e i g) = omega (arith, gap-le g, comment_shorter ts behind (sym e) (sym (inside_complete i)))
