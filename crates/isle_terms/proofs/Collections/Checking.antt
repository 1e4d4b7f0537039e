-- Checks of definitions, one after the other and item by item.
use Rattle.std.proofs.Common.{◌≡◌, ℕ, zero, suc, ◌+◌, ◌<◌, ◌≤◌, Bool, true, false, map, List, [], ◌∷◌, ◌++◌, length, take, get_or, refl, ap, sym}
use Rattle.std.proofs.Common.{subst, slice_get, Some}
use Rattle.std.specs.List.{All}
use Rattle.std.specs.Option.{option_map}
use Rattle.std.proofs.lemmas.Option.{slice_get_read, none-some}
use Rattle.std.proofs.lemmas.List.{take_all, length-map}
use Rattle.std.proofs.lemmas.List.Elements.{All-push}
use Rattle.isle_ast.specs.declared.pos.Pos.{Pos}
use Rattle.isle_ast.specs.declared.error.Error.{Error}
use Rattle.isle_ast.specs.declared.error.Error.TheVariants.{TypeError}
use Rattle.isle_ast.specs.Errors.{span_at}
use Rattle.isle_containers.proofs.Lists.{taken_more}
use Rattle.isle_terms.specs.Inside.Collecting.Checks.{Checks, IsIllAt}
use Rattle.isle_terms.proofs.Collections.AddedErrors.{adds_none, adds_one, adds_by, adds_both, adds_checks, checks_adds}

-- nothing is checked yet
pub check_none : {Broken : Pos → Type 0} {Kept : Type 0} (errors : List Error) → Kept → Checks Broken Kept errors errors
check_none {Broken} {Kept} errors kept = adds_checks Broken Kept errors errors (adds_none Broken Kept errors errors refl kept)

-- nothing more is reported
pub check_same : {Broken : Pos → Type 0} {Kept Also : Type 0} {old mid : List Error} (new : List Error) → new ≡ mid → (Kept → Also)
    → Checks Broken Kept old mid → Checks Broken Also old new
check_same {Broken} {Kept} {Also} {old} {mid} new same more checks = subst (Checks Broken Also old) (sym same) (adds_checks Broken Also old mid
    (adds_by Broken Broken Kept Also old mid (λ _ broken. broken) more (checks_adds Broken Kept old mid checks)))

-- one check after another
pub check_both : {Broken : Pos → Type 0} {Kept Also : Type 0} {old mid new : List Error} → Checks Broken Kept old mid → Checks Broken Also mid new
    → Checks Broken (Kept × Also) old new
check_both {Broken} {Kept} {Also} {old} {mid} {new} first second = adds_checks Broken (Kept × Also) old new
    (adds_both Broken Kept Also old mid new (checks_adds Broken Kept old mid first) (checks_adds Broken Also mid new second))

-- a fault is reported where a rule is broken
pub check_fault : {Broken : Pos → Type 0} {Kept Also : Type 0} {old mid : List Error} (new : List Error) (message : List ℕ) (at : Pos)
    → new ≡ mid ++ TypeError message (span_at at) ∷ [] → Broken at → Checks Broken Kept old mid → Checks Broken Also old new
check_fault {Broken} {Kept} {Also} {old} {mid} new message at is broken checks =
    let one = adds_checks Broken Also mid new (adds_one Broken Also mid new (TypeError message (span_at at)) is broken) in
    check_same new refl (λ both. both.1) (check_both checks one)

-- the item that a loop over references comes to
pub item_at : {X Y : Type 0} (shown : X → Y) (xs : List X) (i : ℕ) (x : X) → i < length xs → x ≡ get_or xs i x
    → slice_get (map shown xs) i ≡ Some (shown x)
item_at shown xs i x low is = mapped_at shown xs i x (slice_get_read xs (length xs) i x refl low is)
  where
    mapped_at : {X Y : Type 0} (shown : X → Y) (xs : List X) (i : ℕ) (x : X) → slice_get xs i ≡ Some x → slice_get (map shown xs) i ≡ Some (shown x)
    mapped_at shown [] i x at = absurd (none-some x at)
    mapped_at shown (first ∷ others) zero x at = ap (option_map shown) at
    mapped_at shown (first ∷ others) (suc i) x at = mapped_at shown others i x at

-- an ill item is reported
pub each_ill : {X : Type 0} (xs : List X) (is_ill : X → Bool) (pos_of : X → Pos) (i : ℕ) (x : X) {old mid : List Error} (new : List Error)
    (message : List ℕ) (at : Pos) → slice_get xs i ≡ Some x → new ≡ mid ++ TypeError message (span_at at) ∷ [] → is_ill x ≡ true → at ≡ pos_of x
    → Checks (IsIllAt xs is_ill pos_of) (All (λ x. is_ill x ≡ false) (take i xs)) old mid
    → Checks (IsIllAt xs is_ill pos_of) (All (λ x. is_ill x ≡ false) (take (i + 1) xs)) old new
each_ill xs is_ill pos_of i x new message at here is ill placed checks =
    check_fault new message at is (x, (i, here), ill, placed) checks

-- a well item is passed over
pub each_well : {X : Type 0} (xs : List X) (is_ill : X → Bool) (pos_of : X → Pos) (i : ℕ) (x : X) {old mid : List Error} (new : List Error)
    → slice_get xs i ≡ Some x → new ≡ mid → is_ill x ≡ false
    → Checks (IsIllAt xs is_ill pos_of) (All (λ x. is_ill x ≡ false) (take i xs)) old mid
    → Checks (IsIllAt xs is_ill pos_of) (All (λ x. is_ill x ≡ false) (take (i + 1) xs)) old new
each_well xs is_ill pos_of i x new here same well checks =
    check_same new same (λ before. subst (All (λ x. is_ill x ≡ false)) (sym (taken_more xs i x here))
    (All-push (λ x. is_ill x ≡ false) (take i xs) x before well)) checks

-- all items were come to
pub each_done : {X : Type 0} (xs : List X) (is_ill : X → Bool) (pos_of : X → Pos) (i : ℕ) {old new : List Error} → length xs ≤ i
    → Checks (IsIllAt xs is_ill pos_of) (All (λ x. is_ill x ≡ false) (take i xs)) old new
    → Checks (IsIllAt xs is_ill pos_of) (All (λ x. is_ill x ≡ false) xs) old new
each_done xs is_ill pos_of i past checks =
    check_same _ refl (λ all. subst (All (λ x. is_ill x ≡ false)) (take_all i xs past) all) checks

-- and those that they stand for
pub past_mapped : {X Y : Type 0} (shown : X → Y) (xs : List X) (i : ℕ) → length xs ≤ i → length (map shown xs) ≤ i
past_mapped shown xs i past = subst (λ n. n ≤ i) (sym (length-map xs shown)) past
