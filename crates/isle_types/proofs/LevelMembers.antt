-- The numbers of members in an order that is level exactly at the same.
use Rattle.std.proofs.Common.{◌≡◌, ◌⊎◌, ◌↔◌, ℕ, ◌≤◌, true, List, [], ◌∷◌, ◌++◌, length, get_or, slice_get, Option, None, Some, MatchOption, refl, sym, ap, ◌∙◌, inl, inr, arith}
use Rattle.std.specs.declared.cmp.Ordering.{Ordering}
use Rattle.std.specs.declared.cmp.Ordering.TheVariants.{Equal}
use Rattle.std.specs.BTreeMap.{is_at}
use Rattle.std.specs.Cmp.{Equal-is}
use Rattle.std.specs.List.{position_or_len}
use Rattle.std.proofs.lemmas.Bool.{false≢true}
use Rattle.std.proofs.lemmas.Grind.{common_steps}
use Rattle.std.proofs.lemmas.List.Quantifiers.{position-Some}
use Rattle.std.proofs.lemmas.List.Sums.{fails_before_first}
use Rattle.std.proofs.lemmas.Option.{slice_get-get_or, slice_get_within, get_or_from_slice_get}
use Rattle.isle_types.specs.Names.{AreDistinct}
use Rattle.isle_containers.specs.SortedSets.{AreUnequal, number_in, with_member}
use Rattle.isle_containers.proofs.Lists.{slice_get-pushed}

module _ {K : Type 0} {cmp : K → K → Ordering} (level : (a b : K) → (cmp a b ≡ Equal) ↔ (a ≡ b)) where
  -- members that are unequal are distinct
  pub unequal_distinct : (members : List K) → AreUnequal cmp members → AreDistinct members
  unequal_distinct members unequal x i j p q = unequal i j x x p q ((level x x).1 refl)

  -- a number that is found is that of the key
  pub number_is : (members : List K) (key : K) (n : ℕ) → number_in cmp members key ≡ Some n → slice_get members n ≡ Some key
  number_is members key n e =
      let (inside, passes, _) = position-Some (is_at (cmp key)) members n key e in
      let same : key ≡ get_or members n key = (level key (get_or members n key)).0 ((Equal-is (cmp key (get_or members n key))).0 passes) in
      slice_get-get_or members n key inside ∙ ap Some (sym same)

  module _ (members : List K) (key : K) where
    -- where no number is found the key stands nowhere
    pub stands_nowhere : number_in cmp members key ≡ None → (k : ℕ) → slice_get members k ≡ Some key → ⊥
    stands_nowhere e k p =
        let inside = slice_get_within members k key p in
        let past : length members ≤ position_or_len (is_at (cmp key)) members = grind (arith, common_steps) in
        let fails = fails_before_first (is_at (cmp key)) members k key (omega arith) in
        let passes : is_at (cmp key) (get_or members k key) ≡ true =
        ap (is_at (cmp key)) (get_or_from_slice_get members k key key p) ∙ (Equal-is (cmp key key)).1 ((level key key).1 refl) in
        false≢true (sym fails ∙ passes)

    -- a key that was put in: it was there, or stands behind the others
    pub put_in : (new : List K) (number : ℕ) → new ≡ with_member cmp members key → number_in cmp new key ≡ Some number
        → ((slice_get members number ≡ Some key) × (new ≡ members))
        ⊎ (((k : ℕ) → slice_get members k ≡ Some key → ⊥) × (number ≡ length members) × (new ≡ members ++ key ∷ []))
    put_in new number is at = elim (number_in cmp members key) as (λ found. number_in cmp members key ≡ found
        → ((slice_get members number ≡ Some key) × (new ≡ members))
        ⊎ (((k : ℕ) → slice_get members k ≡ Some key → ⊥) × (number ≡ length members) × (new ≡ members ++ key ∷ []))) [
          | Some n ↦ λ e.
              let same : new ≡ members = rw e at is in
              inl (number_is members key number (ap (λ all. number_in cmp all key) (sym same) ∙ at), same)
          | None ↦ λ e.
              let more : new ≡ members ++ key ∷ [] = rw e at is in
              inr (
                stands_nowhere e,
                elim (slice_get-pushed members key number key
                    (number_is (members ++ key ∷ []) key number (ap (λ all. number_in cmp all key) (sym more) ∙ at))) [
                      | inl before ↦ absurd (stands_nowhere e number before)
                      | inr last ↦ last.0
                    ],
                more,
              )
        ] refl

  -- what is found is the key's number, or the key stands nowhere
  pub found_is : (members : List K) (key : K) (found : Option ℕ) → found ≡ number_in cmp members key
      → MatchOption found ((k : ℕ) → slice_get members k ≡ Some key → ⊥) (λ n. slice_get members n ≡ Some key)
  found_is members key None e = stands_nowhere members key (sym e)
  found_is members key (Some n) e = number_is members key n (sym e)
