-- A script without changes.
use Rattle.std.proofs.Common.{◌≡◌, ℕ, List, [], ◌∷◌, ◌++◌, Bool, true, false, cond, refl, ap, sym, ◌∙◌, map}
use Rattle.std.specs.List.{list_any, concat}
use Rattle.isle_layout.specs.declared.changes.script.Mark.{Mark}
use Rattle.isle_layout.specs.declared.changes.script.Mark.TheVariants.{Kept, Removed, Added}
use Rattle.isle_layout.specs.Changes.Lines.{lines_of}
use Rattle.isle_layout.specs.Changes.Scripts.{Edit, IsScript, is_ordered, news, olds}
use Rattle.isle_layout.specs.Changes.Hunks.{is_change, file_header, hunks, start}
use Rattle.isle_layout.specs.Changes.Diffs.{IsDiff}
use Rattle.isle_layout.specs.Inside.Changes.{edit_by}
use Rattle.isle_layout.proofs.ChangesLemmas.LinesOf.{concat-lines_of}

-- all lines stay
abbrev all_kept : List (List ℕ) → List Edit
all_kept ls = map (edit_by Kept) ls

olds_kept : (ls : List (List ℕ)) → olds (all_kept ls) ≡ ls
olds_kept [] = refl
olds_kept (l ∷ ls) = ap (λ (m : List (List ℕ)). l ∷ m) (olds_kept ls)

news_kept : (ls : List (List ℕ)) → news (all_kept ls) ≡ ls
news_kept [] = refl
news_kept (l ∷ ls) = ap (λ (m : List (List ℕ)). l ∷ m) (news_kept ls)

kept_ordered : (ls : List (List ℕ)) → is_ordered (all_kept ls) ≡ true
kept_ordered [] = refl
kept_ordered (l ∷ ls) = kept_ordered ls

kept_unchanged : (ls : List (List ℕ)) → list_any is_change (all_kept ls) ≡ false
kept_unchanged [] = refl
kept_unchanged (l ∷ ls) = kept_unchanged ls

-- nothing changes from a text to itself
pub same_diff : (name text : List ℕ) → IsDiff name text text []
same_diff name text = (
  all_kept (lines_of text),
  record { from = olds_kept (lines_of text); to = news_kept (lines_of text); ordered = kept_ordered (lines_of text) },
  ap (λ (b : Bool). cond b (file_header name ++ hunks false start (all_kept (lines_of text))) []) (sym (kept_unchanged (lines_of text))),
)

same_behind : (mark : Mark) (line : List ℕ) (s : List Edit) → list_any is_change (edit_by mark line ∷ s) ≡ false
    → (list_any is_change s ≡ false → olds s ≡ news s) → olds (edit_by mark line ∷ s) ≡ news (edit_by mark line ∷ s)
same_behind Kept line s e same = ap (λ (m : List (List ℕ)). line ∷ m) (same e)
same_behind Removed line s e same = absurd (cc)
same_behind Added line s e same = absurd (cc)

unchanged_lines : (s : List Edit) → list_any is_change s ≡ false → olds s ≡ news s
unchanged_lines [] e = refl
unchanged_lines (step ∷ s) e = same_behind step.mark step.line s e (unchanged_lines s)

-- a script with no change leads from a text to itself
pub unchanged_text : (old new : List ℕ) (s : List Edit) → IsScript old new s → list_any is_change s ≡ false → old ≡ new
unchanged_text old new s leads e =
    sym (concat-lines_of old) ∙ ap concat (sym leads.from ∙ unchanged_lines s e ∙ leads.to) ∙ concat-lines_of new

diff_by : (name : List ℕ) (s : List Edit) (b : Bool) → (b ≡ false → ⊥)
    → cond b (file_header name ++ hunks false start s) [] ≡ file_header name ++ hunks false start s
diff_by name s true some = refl
diff_by name s false some = absurd (some refl)

-- what is written for a script from a text to another is its diff
pub other_diff : (name old new told : List ℕ) (s : List Edit) → (old ≡ new → ⊥) → IsScript old new s
    → told ≡ file_header name ++ hunks false start s → IsDiff name old new told
other_diff name old new told s other leads is =
    (s, leads, is ∙ sym (diff_by name s (list_any is_change s) (λ e. other (unchanged_text old new s leads e))))

-- and it is something
pub told_some : (name told : List ℕ) (s : List Edit) → told ≡ file_header name ++ hunks false start s → told ≡ [] → ⊥
told_some name told s is nothing = cc
