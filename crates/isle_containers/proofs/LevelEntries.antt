-- Entries of a map in an order that is level exactly at the same.
use Rattle.std.proofs.Common.{◌≡◌, ◌↔◌, List, [], ◌∷◌, true, false, cond, Some, None, Ordering, Less, Equal, Greater, refl, sym, ap, ◌∙◌}
use Rattle.std.specs.BTreeMap.{is_at, insert_entry}
use Rattle.std.specs.Map.{lookup}
use Rattle.std.specs.Ordering.{is_eq, match_ordering}

-- what an insertion puts at a key, in an order that is level exactly at the same
module _ {K V : Type 0} (cmp : K → K → Ordering) (level : (a b : K) → (cmp a b ≡ Equal) ↔ (a ≡ b)) (key : K) (value : V) where
  -- a key that is another
  apart : (a b : K) → (a ≡ b → ⊥) → is_eq (cmp a b) ≡ false
  apart a b differ = elim (cmp a b) as (λ o. cmp a b ≡ o → is_eq o ≡ false) [
    | Less ↦ λ e. refl
    | Equal ↦ λ e. absurd (differ ((level a b).0 e))
    | Greater ↦ λ e. refl
  ] refl

  at_itself : (a : K) → is_eq (cmp a a) ≡ true
  at_itself a = ap is_eq ((level a a).1 refl)

  pub lookup-inserted : (es : List (K × V)) → lookup (is_at (cmp key)) (insert_entry cmp es key value) ≡ Some value
  lookup-inserted [] = ap (λ b. cond b (Some value) None) (at_itself key)
  lookup-inserted (e ∷ es) = elim (cmp key e.0) as
      (λ o. cmp key e.0 ≡ o → lookup (is_at (cmp key)) (match_ordering o ((key, value) ∷ e ∷ es) ((e.0, value) ∷ es)
      (e ∷ insert_entry cmp es key value)) ≡ Some value) [
        | Less ↦ λ o. ap (λ b. cond b (Some value) (cond (is_eq (cmp key e.0)) (Some e.1) (lookup (is_at (cmp key)) es))) (at_itself key)
        | Equal ↦ λ o. ap (λ r. cond (is_eq r) (Some value) (lookup (is_at (cmp key)) es)) o
        | Greater ↦ λ o. ap (λ r. cond (is_eq r) (Some e.1) (lookup (is_at (cmp key)) (insert_entry cmp es key value))) o ∙ lookup-inserted es
      ] refl

  pub lookup-kept : (other : K) → (other ≡ key → ⊥) → (es : List (K × V)) → lookup (is_at (cmp other)) (insert_entry cmp es key value) ≡ lookup
      (is_at (cmp other)) es
  lookup-kept other differ [] = ap (λ b. cond b (Some value) None) (apart other key differ)
  lookup-kept other differ (e ∷ es) = elim (cmp key e.0) as
      (λ o. cmp key e.0 ≡ o → lookup (is_at (cmp other)) (match_ordering o ((key, value) ∷ e ∷ es) ((e.0, value) ∷ es)
      (e ∷ insert_entry cmp es key value))
      ≡ lookup (is_at (cmp other)) (e ∷ es)) [
        | Less ↦ λ o. ap (λ b. cond b (Some value) (lookup (is_at (cmp other)) (e ∷ es))) (apart other key differ)
        | Equal ↦ λ o.
            let same : key ≡ e.0 = (level key e.0).0 o in
            let no : is_eq (cmp other e.0) ≡ false = apart other e.0 (λ p. differ (p ∙ sym same)) in
            ap (λ b. cond b (Some value) (lookup (is_at (cmp other)) es)) no ∙ sym (ap (λ b. cond b (Some e.1) (lookup (is_at (cmp other)) es)) no)
        | Greater ↦ λ o. ap (λ l. cond (is_eq (cmp other e.0)) (Some e.1) l) (lookup-kept other differ es)
      ] refl
