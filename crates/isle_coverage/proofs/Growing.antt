-- What is said of a table of tests stays so where more are numbered.
use Rattle.std.proofs.Common.{◌≡◌, ◌+◌, ◌<◌, inl, inr, ℕ, zero, suc, List, [], ◌∷◌, ◌++◌, Option, Some, None, All, length, get_or, slice_get, take, sym, ap, subst, ◌∙◌, append_assoc, arith, Contains}
use Rattle.std.specs.List.{AllZip}
use Rattle.std.specs.Prelude.{IfSome}
use Rattle.std.proofs.lemmas.List.Elements.{Contains-append_cases}
use Rattle.std.proofs.lemmas.Option.{get_or_from_slice_get, same_Some, slice_get-get_or, slice_get_within}
use Rattle.std.proofs.lemmas.Slice.Zip.{all_zipped_more}
use Rattle.isle_types.proofs.DefinitionTurns.{take_here}
use Rattle.isle_types.specs.declared.ids.TypeId.{TypeId}
use Rattle.isle_missing.specs.declared.demand.Demand.{Demand}
use Rattle.isle_missing.specs.declared.ids.TestId.{TestId}
use Rattle.isle_blocks.specs.declared.ids.BindingId.{BindingId}
use Rattle.isle_blocks.specs.declared.constraint.Constraint.{Constraint}
use Rattle.isle_blocks.specs.declared.rule.Rule.{Rule}
use Rattle.isle_program.specs.declared.program.Program.{Program}
use Rattle.isle_coverage.specs.declared.sites.TypeTests.{TypeTests}
use Rattle.isle_coverage.specs.Inside.Types.{IsTypeTests}
use Rattle.isle_coverage.specs.Inside.Rows.{AreTestDemands, IsRow, IsTestDemand}
use Rattle.isle_coverage.specs.Inside.Sites.{AreOfType}
use Rattle.isle_coverage.specs.Inside.Tables.{HasNumber, KeepsNumbers}
use Rattle.isle_coverage.specs.Inside.Tests.{plain_test}

-- what holds place by place of the one holds of the other
zip_kept : {A B : Type 0} (P Q : A → B → Type 0) → ((x : A) (y : B) → P x y → Q x y) → (xs : List A) (ys : List B) → AllZip P xs ys → AllZip Q xs ys
zip_kept P Q keep [] [] z = tt
zip_kept P Q keep [] (y ∷ ys) z = absurd z
zip_kept P Q keep (x ∷ xs) [] z = absurd z
zip_kept P Q keep (x ∷ xs) (y ∷ ys) z = (keep x y (z.0), zip_kept P Q keep xs ys (z.1))

-- one more of both lists
pub zip_more : {A B : Type 0} (P Q : A → B → Type 0) → ((x : A) (y : B) → P x y → Q x y) → (xs : List A) (i : ℕ) (x : A) (ys next : List B) (y : B)
    → slice_get xs i ≡ Some x → AllZip P (take i xs) ys → Q x y → next ≡ ys ++ y ∷ [] → AllZip Q (take (i + 1) xs) next
zip_more P Q keep xs i x ys next y at zip holds is =
    subst (λ l. AllZip Q l next)
    (sym (take_here xs i x (slice_get_within xs i x at) (sym (get_or_from_slice_get xs i x x at))))
    (subst (λ l. AllZip Q (take i xs ++ x ∷ []) l) (sym is)
    (all_zipped_more Q (take i xs) ys x y (zip_kept P Q keep (take i xs) ys zip) holds))

-- an item that is there is read whatever would stand in its place
get_or_same : {A : Type 0} (xs : List A) (i : ℕ) (e d : A) → i < length xs → get_or xs i d ≡ get_or xs i e
get_or_same xs i e d low = same_Some (get_or xs i d) (get_or xs i e) (sym (slice_get-get_or xs i d low) ∙ slice_get-get_or xs i e low)

-- the same of an item that is read
pub zip_next : {A B : Type 0} (P Q : A → B → Type 0) → ((x : A) (y : B) → P x y → Q x y) → (xs : List A) (i : ℕ) (d : A) (ys next : List B) (y : B)
    → i < length xs → AllZip P (take i xs) ys → Q (get_or xs i d) y → next ≡ ys ++ y ∷ [] → AllZip Q (take (i + 1) xs) next
zip_next P Q keep xs i d ys next y low zip holds is = zip_more P Q keep xs i (get_or xs i d) ys next y (slice_get-get_or xs i d low) zip holds is

-- an item that is put behind others of a list is one of it too
pub stays_within : {A : Type 0} (all kept next : List A) (e : A) (i : ℕ) → i < length all → next ≡ kept ++ get_or all i e ∷ []
    → ((d : A) → Contains kept d → Contains all d) → (d : A) → Contains next d → Contains all d
stays_within all kept next e i low is within d m =
    elim (Contains-append_cases kept (get_or all i e ∷ []) d (subst (λ (l : List _). Contains l d) is m)) [
      | inl before ↦ within d before
      | inr (zero, lower, same) ↦ (i, low, get_or_same all i e d low ∙ same)
      | inr (suc k, lower, same) ↦ absurd (omega (arith, lower))
    ]

-- what holds of something, if it is there
if_some_kept : {A : Type 0} (P Q : A → Type 0) → ((x : A) → P x → Q x) → (o : Option A) → IfSome o P → IfSome o Q
if_some_kept P Q keep None is = tt
if_some_kept P Q keep (Some x) is = keep x is

module _ (old new : List Constraint) (kept : KeepsNumbers old new) where
  -- a number is kept
  pub number_kept : (c : Constraint) (t : ℕ) → HasNumber old c t → HasNumber new c t
  number_kept c t e = kept t (plain_test c) e

  -- so is what is demanded of a test
  pub demand_kept : (x : BindingId × Constraint) (d : Demand) → IsTestDemand old x d → IsTestDemand new x d
  demand_kept x d (t, numbered, is) = (t, number_kept x.1 t numbered, is)

  -- one more test is demanded
  pub demands_more : (tests : List (BindingId × Constraint)) (i : ℕ) (x : BindingId × Constraint) (before all next : List Demand) (d : Demand)
      → slice_get tests i ≡ Some x → AreTestDemands old (take i tests) before all → IsTestDemand new x d → next ≡ all ++ d ∷ []
      → AreTestDemands new (take (i + 1) tests) before next
  demands_more tests i x before all next d at (added, zip, is) holds more = (
    added ++ d ∷ [],
    zip_more (IsTestDemand old) (IsTestDemand new) demand_kept tests i x added (added ++ d ∷ []) d at zip holds (λ j. added ++ d ∷ []),
    more ∙ ap (λ l. l ++ d ∷ []) is ∙ append_assoc before added (d ∷ []),
  )

  -- a row stays one of its rule
  pub row_kept : (rule : Rule) (row : List Demand) → IsRow old rule row → IsRow new rule row
  row_kept rule row is = record {
    tested = is.tested;
    tests = zip_kept (IsTestDemand old) (IsTestDemand new) demand_kept rule.constraints is.tested is.tests;
    joined = is.joined;
  }

  pub rows_kept : (rules : List Rule) (rows : List (List Demand)) → AllZip (IsRow old) rules rows → AllZip (IsRow new) rules rows
  rows_kept rules rows zip = zip_kept (IsRow old) (IsRow new) row_kept rules rows zip

  -- the tests of a type stay so
  type_kept : (program : Program) (ty : TypeId) (ids : List TestId) → AreOfType program old ty ids → AreOfType program new ty ids
  type_kept program ty ids (tests, complete, zip) = (
    tests,
    complete,
    zip_kept (λ (c : Constraint) (t : TestId). HasNumber old c t.0) (λ (c : Constraint) (t : TestId). HasNumber new c t.0)
        (λ c t. number_kept c t.0) tests ids zip,
  )

  pub types_kept : (program : Program) (all : List TypeTests) → All (IsTypeTests program old) all → All (IsTypeTests program new) all
  types_kept program all each =
      λ k d low. if_some_kept _ _ (λ ids. type_kept program (get_or all k d).ty ids.items) (get_or all k d).tests (each k d low)
