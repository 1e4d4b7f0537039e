-- Numbers that are in order, each once, ascend strictly.
use Rattle.std.proofs.Common.{◌≡◌, ◌≢◌, ◌+◌, ℕ, false, List, Some, get_or, nat_eq, ap, ◌∙◌, arith}
use Rattle.std.specs.List.Sorted.{IsPermutation, IsSorted, IsStrictlySortedBy}
use Rattle.std.specs.Ordering.{nat_cmp, is_lt}
use Rattle.std.specs.declared.cmp.Ordering.TheVariants.{Less}
use Rattle.std.proofs.lemmas.Bool.Decides.{nat_tests}
use Rattle.std.proofs.lemmas.Cmp.{nat_cmp_total, on_total}
use Rattle.std.proofs.lemmas.Map.Keys.{IsDistinct-IsPermutation, sorted_from_all_adjacent}
use Rattle.std.proofs.lemmas.Map.Made.{AllPairs-from_IsDistinct, IsDistinct-from_AllPairs}
use Rattle.std.proofs.lemmas.Option.{slice_get-get_or}
use Rattle.isle_blocks.specs.declared.ids.BindingId.{BindingId}
use Rattle.isle_blocks.specs.ClosedRules.{same_site}
use Rattle.isle_blocks.specs.Rules.{site_cmp}
use Rattle.isle_blocks.proofs.ClosedEqualities.{id_tells}
use Rattle.isle_blocks.proofs.Counting.{Once, pairs_once, once_pairs}

less_if : (m n : ℕ) → is_lt (nat_cmp n m) ≡ false → m ≢ n → nat_cmp m n ≡ Less
less_if m n up apart = grind (arith, nat_tests)

flips : (m n : ℕ) → nat_eq m n ≡ nat_eq n m
flips m n = grind (arith, nat_tests)

-- a number that stands once does so wherever it is moved
pub once_moved : (ids moved : List BindingId) → IsPermutation ids moved → Once ids → Once moved
once_moved ids moved permuted once =
    pairs_once moved (AllPairs-from_IsDistinct id_tells moved
    (IsDistinct-IsPermutation same_site (λ a b. flips a.0 b.0) ids moved permuted (IsDistinct-from_AllPairs id_tells ids (once_pairs ids once))))

pub strictly : (ids : List BindingId) → IsSorted site_cmp ids → Once ids → IsStrictlySortedBy site_cmp ids
strictly ids sorted once =
    let some : BindingId = record { 0 = 0 } in
    sorted_from_all_adjacent (on_total (λ (id : BindingId). id.0) nat_cmp_total) ids some (λ k within.
    let one = get_or ids k some in let next = get_or ids (k + 1) some in
    less_if one.0 next.0 (sorted k some (omega arith) within) (λ same.
    let equal : one ≡ next = λ i. record { 0 = same i } in
    let twice = once k (k + 1) next (slice_get-get_or ids k some (omega arith) ∙ ap Some equal) (slice_get-get_or ids (k + 1) some within) in
    omega (arith, twice)))
