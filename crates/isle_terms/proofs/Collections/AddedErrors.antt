-- Errors that checks add, one check after the other.
use Rattle.std.proofs.Common.{◌≡◌, ℕ, ◌+◌, ◌<◌, List, [], ◌∷◌, ◌++◌, Some, length, get_or, take, refl, sym, ◌∙◌, ap, subst, append_assoc, append-nil}
use Rattle.std.specs.Prelude.{All}
use Rattle.std.proofs.lemmas.List.Elements.{All-nil, All-cons, All-append, All-weaker, All-more}
use Rattle.std.proofs.lemmas.Option.{slice_get-get_or}
use Rattle.isle_ast.specs.declared.pos.Pos.{Pos}
use Rattle.isle_ast.specs.declared.error.Error.{Error}
use Rattle.isle_types.specs.TypeFaults.{IsTypeFault}
use Rattle.isle_types.proofs.TypeReadings.{reading_then}
use Rattle.isle_rules.specs.Definitions.{IsAmong}
use Rattle.isle_terms.specs.Inside.Collecting.Checks.{Checks}
use Rattle.isle_terms.specs.Inside.Collecting.ExtractorChecks.{Adds}

-- a fault by one rule is one by a wider rule
fault_by : (Narrow Wide : Pos → Type 0) → ((at : Pos) → Narrow at → Wide at) → (error : Error) → IsTypeFault Narrow error → IsTypeFault Wide error
fault_by Narrow Wide wider error fault = reading_then Narrow (λ _. ⊥) Wide (λ _. ⊥) wider (λ _ no. no) error fault

-- two lists of which the second begins with the first, both empty
both_empty : {X : Type 0} (xs ys : List X) → xs ++ ys ≡ [] → (xs ≡ []) × (ys ≡ [])
both_empty [] ys none = (refl, none)
both_empty (x ∷ xs) ys none = absurd (cc)

-- nothing is added
pub adds_none : (Broken : Pos → Type 0) (Kept : Type 0) (old new : List Error) → new ≡ old → Kept → Adds Broken Kept old new
adds_none Broken Kept old new same kept = record {
  added = [];
  all = same ∙ sym (append-nil old);
  faults = All-nil (IsTypeFault Broken);
  kept = λ _. kept;
}

some_none : (error : Error) → error ∷ [] ≡ [] → ⊥
some_none error is = cc

-- one error is added
pub adds_one : (Broken : Pos → Type 0) (Kept : Type 0) (old new : List Error) (error : Error) → new ≡ old ++ error ∷ [] → IsTypeFault Broken error
    → Adds Broken Kept old new
adds_one Broken Kept old new error all fault = record {
  added = error ∷ [];
  all = all;
  faults = All-cons (IsTypeFault Broken) error [] fault (All-nil (IsTypeFault Broken));
  kept = λ none. absurd (some_none error none);
}

-- what is added by one rule is by a wider one
pub adds_by : (Narrow Wide : Pos → Type 0) (Kept Then : Type 0) (old new : List Error) → ((at : Pos) → Narrow at → Wide at) → (Kept → Then)
    → Adds Narrow Kept old new → Adds Wide Then old new
adds_by Narrow Wide Kept Then old new wider then adds = record {
  added = adds.added;
  all = adds.all;
  faults = All-weaker (IsTypeFault Narrow) (IsTypeFault Wide) (fault_by Narrow Wide wider) adds.added adds.faults;
  kept = λ none. then (adds.kept none);
}

-- one check after another
pub adds_both : (Broken : Pos → Type 0) (First Second : Type 0) (old middle new : List Error) → Adds Broken First old middle
    → Adds Broken Second middle new → Adds Broken (First × Second) old new
adds_both Broken First Second old middle new first second = record {
  added = first.added ++ second.added;
  all = second.all ∙ ap (λ front. front ++ second.added) first.all ∙ append_assoc old first.added second.added;
  faults = All-append (IsTypeFault Broken) first.added second.added first.faults second.faults;
  kept = λ none. let empty = both_empty first.added second.added none in (first.kept empty.0, second.kept empty.1);
}

-- an item of a list breaks its rule
abbrev pub SomeBreaks : {X : Type 0} → (X → Pos → Type 0) → List X → Pos → Type 0
SomeBreaks {X} Broken xs at = (x : X) × IsAmong xs x × Broken x at

-- what is added breaks a rule somewhere
pub adds_checks : (Broken : Pos → Type 0) (Kept : Type 0) (old new : List Error) → Adds Broken Kept old new → Checks Broken Kept old new
adds_checks Broken Kept old new adds = record { added = adds.added; all = adds.all; faults = adds.faults; kept = adds.kept }

-- and the other way round
pub checks_adds : (Broken : Pos → Type 0) (Kept : Type 0) (old new : List Error) → Checks Broken Kept old new → Adds Broken Kept old new
checks_adds Broken Kept old new checks = record { added = checks.added; all = checks.all; faults = checks.faults; kept = checks.kept }

-- the check of one item more
pub adds_more : {X : Type 0} (Broken : X → Pos → Type 0) (Kept : X → Type 0) (xs : List X) (place : ℕ) (x : X) (old middle new : List Error)
    → place < length xs → x ≡ get_or xs place x → Adds (SomeBreaks Broken xs) (All Kept (take place xs)) old middle
    → Adds (Broken x) (Kept x) middle new → Adds (SomeBreaks Broken xs) (All Kept (take (place + 1) xs)) old new
adds_more Broken Kept xs place x old middle new within is first second =
    let here = slice_get-get_or xs place x within in
    let among : IsAmong xs x = (place, here ∙ ap Some (sym is)) in
    let wider : (at : Pos) → Broken x at → SomeBreaks Broken xs at = λ at broken. (x, among, broken) in
    let second' = adds_by (Broken x) (SomeBreaks Broken xs) (Kept x) (Kept (get_or xs place x)) middle new wider (λ kept. subst Kept is kept)
    second in
    adds_by (SomeBreaks Broken xs) (SomeBreaks Broken xs) (All Kept (take place xs) × Kept (get_or xs place x)) (All Kept (take (place + 1) xs))
    old new
    (λ at broken. broken) (λ kept. All-more Kept xs place x within kept.0 kept.1)
    (adds_both (SomeBreaks Broken xs) (All Kept (take place xs)) (Kept (get_or xs place x)) old middle new first second')
