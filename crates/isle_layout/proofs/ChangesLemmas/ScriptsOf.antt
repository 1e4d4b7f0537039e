-- Scripts, block by block.
use Rattle.std.proofs.Common.{◌≡◌, ℕ, List, [], ◌∷◌, ◌++◌, true, refl, ap, sym, ◌∙◌, map, append_assoc}
use Rattle.std.specs.List.{filter}
use Rattle.std.proofs.Common.{◌+◌, ◌<◌, ◌≤◌, add-one, arith, drop, get_or, length, length-drop, subst, take}
use Rattle.std.proofs.lemmas.List.{append-nil, length-map, map-append, take-append-drop}
use Rattle.std.proofs.Math.Seq.{drop-cons, drop-length, take-length}
use Rattle.std.proofs.lemmas.List.Elements.{filter-append}
use Rattle.isle_layout.specs.declared.changes.script.Mark.TheVariants.{Kept, Removed, Added}
use Rattle.isle_layout.specs.declared.changes.lines.Line.{Line}
use Rattle.isle_layout.specs.Changes.Scripts.{Edit, Leads, is_old, is_new, is_ordered, news, olds}
use Rattle.isle_layout.specs.Inside.Changes.{BeginAlike, edit_by, text_of}

-- the lines of the old text of scripts one after another
pub olds-append : (s t : List Edit) → olds (s ++ t) ≡ olds s ++ olds t
olds-append s t =
    ap (map (λ (e : Edit). e.line)) (filter-append (λ (e : Edit). is_old e.mark) s t)
    ∙ map-append (λ (e : Edit). e.line) (filter (λ (e : Edit). is_old e.mark) s) (filter (λ (e : Edit). is_old e.mark) t)

-- the same of the new text
pub news-append : (s t : List Edit) → news (s ++ t) ≡ news s ++ news t
news-append s t =
    ap (map (λ (e : Edit). e.line)) (filter-append (λ (e : Edit). is_new e.mark) s t)
    ∙ map-append (λ (e : Edit). e.line) (filter (λ (e : Edit). is_new e.mark) s) (filter (λ (e : Edit). is_new e.mark) t)

-- lines that are removed, and behind them others that are added
abbrev pub block : (removed added : List (List ℕ)) → List Edit
block removed added = map (edit_by Removed) removed ++ map (edit_by Added) added

olds_added : (added : List (List ℕ)) → olds (map (edit_by Added) added) ≡ []
olds_added [] = refl
olds_added (l ∷ ls) = olds_added ls

news_added : (added : List (List ℕ)) → news (map (edit_by Added) added) ≡ added
news_added [] = refl
news_added (l ∷ ls) = ap (λ (m : List (List ℕ)). l ∷ m) (news_added ls)

olds_block : (removed added : List (List ℕ)) → olds (block removed added) ≡ removed
olds_block [] added = olds_added added
olds_block (l ∷ ls) added = ap (λ (m : List (List ℕ)). l ∷ m) (olds_block ls added)

news_block : (removed added : List (List ℕ)) → news (block removed added) ≡ added
news_block [] added = news_added added
news_block (l ∷ ls) added = news_block ls added

-- nothing more, or a line that stays and what is ordered behind it
pub data IsTail : List Edit → Type 0 where
  ended : IsTail []
  kept : (line : List ℕ) (rest : List Edit) → is_ordered rest ≡ true → IsTail (edit_by Kept line ∷ rest)

added_ordered : (added : List (List ℕ)) (tail : List Edit) → IsTail tail → is_ordered (map (edit_by Added) added ++ tail) ≡ true
added_ordered [] tail ended = refl
added_ordered [] tail (kept line rest e) = e
added_ordered (l ∷ []) tail ended = refl
added_ordered (l ∷ []) tail (kept line rest e) = e
added_ordered (l ∷ m ∷ ms) tail t = added_ordered (m ∷ ms) tail t

-- a block before a line that stays, or at the end, is ordered
pub block_ordered : (removed added : List (List ℕ)) (tail : List Edit) → IsTail tail → is_ordered (block removed added ++ tail) ≡ true
block_ordered [] added tail t = added_ordered added tail t
block_ordered (l ∷ ls) added tail t = block_ordered ls added tail t

-- a script has led up to where these lines are left, and what is ordered is so behind it
pub record LeadsUpTo (old new : List (List ℕ)) (script : List Edit) (old_left new_left : List (List ℕ)) : Type 0 where
  pub from : olds script ++ old_left ≡ old
  pub to : news script ++ new_left ≡ new
  pub ordered : (rest : List Edit) → is_ordered rest ≡ true → is_ordered (script ++ rest) ≡ true

-- a side's lines with those of a block and a tail
with_block : (done block tail left : List (List ℕ)) → (done ++ (block ++ tail)) ++ left ≡ done ++ (block ++ (tail ++ left))
with_block done block tail left = simp append_assoc

-- one block and a line that stays
pub block_kept : (old new : List (List ℕ)) (script : List Edit) (removed added old_left new_left : List (List ℕ)) (line : List ℕ)
    → LeadsUpTo old new script (removed ++ (line ∷ old_left)) (added ++ (line ∷ new_left))
    → LeadsUpTo old new (script ++ (block removed added ++ edit_by Kept line ∷ [])) old_left new_left
block_kept old new script removed added old_left new_left line far = record {
  from =
      ap (λ (ls : List (List ℕ)). ls ++ old_left)
      (olds-append script (block removed added ++ edit_by Kept line ∷ [])
      ∙ ap (λ (ls : List (List ℕ)). olds script ++ ls)
      (olds-append (block removed added) (edit_by Kept line ∷ []) ∙ ap (λ (ls : List (List ℕ)). ls ++ line ∷ []) (olds_block removed added)))
      ∙ with_block (olds script) removed (line ∷ []) old_left ∙ far.from;
  to =
      ap (λ (ls : List (List ℕ)). ls ++ new_left)
      (news-append script (block removed added ++ edit_by Kept line ∷ [])
      ∙ ap (λ (ls : List (List ℕ)). news script ++ ls)
      (news-append (block removed added) (edit_by Kept line ∷ []) ∙ ap (λ (ls : List (List ℕ)). ls ++ line ∷ []) (news_block removed added)))
      ∙ with_block (news script) added (line ∷ []) new_left ∙ far.to;
  ordered = λ rest e.
      ap is_ordered (append_assoc script (block removed added ++ edit_by Kept line ∷ []) rest
      ∙ ap (λ (s : List Edit). script ++ s) (append_assoc (block removed added) (edit_by Kept line ∷ []) rest))
      ∙ far.ordered (block removed added ++ edit_by Kept line ∷ rest) (block_ordered removed added (edit_by Kept line ∷ rest) (kept line rest e));
}

-- the last block
pub block_last : (old new : List (List ℕ)) (script : List Edit) (removed added : List (List ℕ))
    → LeadsUpTo old new script removed added → Leads old new (script ++ block removed added)
block_last old new script removed added far = record {
  from = olds-append script (block removed added) ∙ ap (λ (ls : List (List ℕ)). olds script ++ ls) (olds_block removed added) ∙ far.from;
  to = news-append script (block removed added) ∙ ap (λ (ls : List (List ℕ)). news script ++ ls) (news_block removed added) ∙ far.to;
  ordered =
      far.ordered (block removed added)
      (ap is_ordered (sym (append-nil (block removed added))) ∙ block_ordered removed added [] ended);
}

-- lines from one on
left_here : (lines : List Line) (i : ℕ) (d : Line) → i < length lines
    → map text_of (drop i lines) ≡ text_of (get_or lines i d) ∷ map text_of (drop (i + 1) lines)
left_here lines i d within =
    ap (map text_of) (drop-cons lines i d within) ∙ ap (λ n. text_of (get_or lines i d) ∷ map text_of (drop n lines)) (sym (add-one i))

-- lines up to one, it, and those behind it
split_here : (lines : List Line) (i : ℕ) (d : Line) → i < length lines
    → map text_of lines ≡ map text_of (take i lines) ++ (text_of (get_or lines i d) ∷ map text_of (drop (i + 1) lines))
split_here lines i d within =
    ap (map text_of) (sym (take-append-drop i lines)) ∙ map-append text_of (take i lines) (drop i lines)
    ∙ ap (λ ls. map text_of (take i lines) ++ ls) (left_here lines i d within)

some_alike : (l : List ℕ) (ls ms : List (List ℕ)) → BeginAlike (l ∷ ls) ms → 0 < length ms
some_alike l ls [] alike = absurd alike
some_alike l ls (m ∷ ms) alike = omega arith

none_alike : (ms : List (List ℕ)) → BeginAlike [] ms → length ms ≡ 0
none_alike [] alike = refl
none_alike (m ∷ ms) alike = absurd alike

-- where lines that begin alike have one, the others do, and it is the same
pub same_begin : (old new : List Line) (i j : ℕ) (d : Line) → i < length old → j ≤ length new
    → BeginAlike (map text_of (drop i old)) (map text_of (drop j new)) → (j < length new) × (text_of (get_or old i d) ≡ text_of (get_or new j d))
same_begin old new i j d within most alike =
    let olds = map text_of (drop (i + 1) old) in
    let here = subst (λ ls. BeginAlike ls (map text_of (drop j new))) (left_here old i d within) alike in
    let some = some_alike (text_of (get_or old i d)) olds (map text_of (drop j new)) here in
    let there : j < length new = omega (arith, some, length-map (drop j new) text_of, length-drop j new) in
    (there, subst (BeginAlike (text_of (get_or old i d) ∷ olds)) (left_here new j d there) here)

-- where lines that begin alike have none, nor have the others
pub same_end : (old new : List Line) (i j : ℕ) → i ≡ length old → j ≤ length new
    → BeginAlike (map text_of (drop i old)) (map text_of (drop j new)) → j ≡ length new
same_end old new i j end most alike =
    let nothing : drop i old ≡ [] = ap (λ n. drop n old) end ∙ drop-length old in
    let left = map text_of (drop j new) in
    let none = none_alike left (subst (λ (ls : List Line). BeginAlike (map text_of ls) left) nothing alike) in
    omega (arith, none, length-map (drop j new) text_of, length-drop j new)

-- a block that is pushed, and the line that stays behind it
pub block_pushed : (old new : List (List ℕ)) (script removed added more : List Edit) (here there : List Line) (i j : ℕ) (d : Line)
    → i < length here → j ≤ length there → BeginAlike (map text_of (drop i here)) (map text_of (drop j there))
    → removed ≡ script ++ map (edit_by Removed) (map text_of (take i here)) → added ≡ removed ++ map (edit_by Added) (map text_of (take j there))
    → more ≡ added ++ edit_by Kept (text_of (get_or here i d)) ∷ [] → LeadsUpTo old new script (map text_of here) (map text_of there)
    → LeadsUpTo old new more (map text_of (drop (i + 1) here)) (map text_of (drop (j + 1) there))
block_pushed old new script removed added more here there i j d within most alike removed_is added_is more_is far =
    let same = same_begin here there i j d within most alike in
    let gone = map text_of (take i here) in
    let come = map text_of (take j there) in
    let line = text_of (get_or here i d) in
    let here_left = map text_of (drop (i + 1) here) in
    let there_left = map text_of (drop (j + 1) there) in
    let kept : List Edit = edit_by Kept line ∷ [] in
    let here_split = subst (λ ls. LeadsUpTo old new script ls (map text_of there)) (split_here here i d within) far in
    let both_split = subst (LeadsUpTo old new script (gone ++ (line ∷ here_left))) (split_here there j d same.0) here_split in
    let at_line = subst (λ (l : List ℕ). LeadsUpTo old new script (gone ++ (line ∷ here_left)) (come ++ (l ∷ there_left))) (sym same.1) both_split in
    let is : script ++ (block gone come ++ kept) ≡ more =
    sym (more_is ∙ ap (λ s. s ++ kept) (added_is ∙ ap (λ s. s ++ map (edit_by Added) come) removed_is
    ∙ append_assoc script (map (edit_by Removed) gone) (map (edit_by Added) come)) ∙ append_assoc script (block gone come) kept) in
    subst (λ s. LeadsUpTo old new s here_left there_left) is (block_kept old new script gone come here_left there_left line at_line)

-- the last block that is pushed
pub last_pushed : (old new : List (List ℕ)) (script removed added : List Edit) (here there : List Line) (i j : ℕ)
    → i ≡ length here → j ≤ length there → BeginAlike (map text_of (drop i here)) (map text_of (drop j there))
    → removed ≡ script ++ map (edit_by Removed) (map text_of (take i here)) → added ≡ removed ++ map (edit_by Added) (map text_of (take j there))
    → LeadsUpTo old new script (map text_of here) (map text_of there) → Leads old new added
last_pushed old new script removed added here there i j end most alike removed_is added_is far =
    let gone = map text_of here in
    let come = map text_of there in
    let gone_is : take i here ≡ here = ap (λ n. take n here) end ∙ take-length here in
    let come_is : take j there ≡ there = ap (λ n. take n there) (same_end here there i j end most alike) ∙ take-length there in
    let is : script ++ block gone come ≡ added =
    sym (added_is ∙ ap (λ (ls : List Line). removed ++ map (edit_by Added) (map text_of ls)) come_is
    ∙ ap (λ s. s ++ map (edit_by Added) come) (removed_is ∙ ap (λ (ls : List Line). script ++ map (edit_by Removed) (map text_of ls)) gone_is)
    ∙ append_assoc script (map (edit_by Removed) gone) (map (edit_by Added) come)) in
    subst (Leads old new) is (block_last old new script gone come far)
