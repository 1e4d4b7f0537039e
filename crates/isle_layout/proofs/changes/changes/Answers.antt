use Rattle.std.proofs.Common.{◌≡◌, ◌++◌, ◌∙◌, [], ap, false, map, string_bytes, subst, sym}
use Rattle.std.specs.Str.{bytes_eq}
use Rattle.std.proofs.lemmas.Bool.Decides.{not_from_Decides}
use Rattle.std.proofs.lemmas.Slice.Eq.{bytes_eq-Decides}
use Rattle.isle_layout.specs.Changes.Hunks.{file_header, hunks, start}
use Rattle.isle_layout.specs.Changes.Diffs.{IsDiff}
use Rattle.isle_layout.specs.Inside.Changes.{edit_of}
use Rattle.isle_layout.proofs.ChangesLemmas.Unchanged.{other_diff, same_diff, told_some}
use Rattle.isle_layout.proofs.changes.changes.Goals as goal

texts_same : (c : goal.Then-eq) → c.args.old.now ≡ c.args.new.now
texts_same c = (bytes_eq-Decides c.args.old.now c.args.new.now).0 (sym c.eq.ensures ∙ c.if-eq.true)

pub returns-then-eq-clause-told : goal.returns-then-eq-clause-told
returns-then-eq-clause-told c =
    subst (IsDiff c.args.name.now c.args.old.now c.args.new.now) (sym c.new-told.ensures.bytes)
    (subst (λ text. IsDiff c.args.name.now c.args.old.now text []) (texts_same c) (same_diff c.args.name.now c.args.old.now))

pub returns-then-eq-clause-none : goal.returns-then-eq-clause-none
returns-then-eq-clause-none c = (λ same. c.new-told.ensures.bytes, λ nothing. texts_same c)

texts_differ : (c : goal.After-drop-steps-2) → c.args.old.now ≡ c.args.new.now → ⊥
texts_differ c =
    not_from_Decides (bytes_eq c.args.old.now c.args.new.now) (bytes_eq-Decides c.args.old.now c.args.new.now) (sym c.eq.ensures ∙ c.if-eq.false)

is_told : (c : goal.After-drop-steps-2) → string_bytes c.write_hunks.new.out
    ≡ file_header c.args.name.now ++ hunks false start (map edit_of c.in_ok-steps.steps.items)
is_told c =
    let script = map edit_of c.in_ok-steps.steps.items in
    c.in_ok-write_hunks.ensures
    ∙ ap (λ steps. string_bytes c.write_file_header.new.out ++ hunks false start (map edit_of steps)) c.as_slice.ensures.value
    ∙ ap (λ bytes. bytes ++ hunks false start script)
    (c.in_ok-write_file_header.ensures ∙ ap (λ bytes. bytes ++ file_header c.args.name.now) c.new-told.ensures.bytes)

pub returns-clause-told : goal.returns-clause-told
returns-clause-told c =
    other_diff c.args.name.now c.args.old.now c.args.new.now (string_bytes c.write_hunks.new.out) (map edit_of c.in_ok-steps.steps.items)
    (texts_differ c) c.in_ok-steps.ensures (is_told c)

pub returns-clause-none : goal.returns-clause-none
returns-clause-none c = (
  λ same. absurd (texts_differ c same),
  λ nothing. absurd (told_some c.args.name.now (string_bytes c.write_hunks.new.out) (map edit_of c.in_ok-steps.steps.items) (is_told c) nothing),
)
