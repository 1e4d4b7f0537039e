-- What is known of sites by the types that are noted of them.
use Rattle.std.proofs.Common.{◌≡◌, ◌==◌, ◌||◌, inl, inr, ℕ, zero, suc, true, false, List, [], ◌∷◌, Option, Some, None, All, slice_get, refl, ap, subst, ◌∙◌, Contains, eqb-true}
use Rattle.std.specs.List.{AllZip}
use Rattle.std.specs.Prelude.{IfSome, IsSomeAnd}
use Rattle.std.proofs.lemmas.Option.{none-some, same_Some}
use Rattle.isle_types.specs.declared.ids.TypeId.{TypeId}
use Rattle.isle_missing.specs.declared.ids.TestId.{TestId}
use Rattle.isle_missing.specs.Sites.{KnownTests, Sites, all_of, all_tests, is_listed, is_single, numbers, singles_of}
use Rattle.isle_trees.proofs.Basics.{true_or}
use Rattle.isle_blocks.specs.declared.constraint.Constraint.{Constraint}
use Rattle.isle_blocks.specs.declared.rule.Rule.{Rule}
use Rattle.isle_program.specs.declared.program.Program.{Program}
use Rattle.isle_coverage.specs.declared.sites.TypeTests.{TypeTests}
use Rattle.isle_coverage.specs.Inside.Types.{IsSiteOf, IsTypeTests}
use Rattle.isle_coverage.specs.Inside.Sites.{AreKnown, AreNoted, AreOfType, AreSingles, IsTestedAs}
use Rattle.isle_coverage.specs.Inside.Tests.{is_single_test}
use Rattle.isle_coverage.proofs.Lists.{member_head, member_tail}

-- of what place by place is so, what stands at a place
zip_at : {A B : Type 0} (P : A → B → Type 0) (xs : List A) (ys : List B) (k : ℕ) (y : B) → AllZip P xs ys → slice_get ys k ≡ Some y
    → (x : A) × (slice_get xs k ≡ Some x) × P x y
zip_at P xs [] k y z e = absurd (none-some y e)
zip_at P [] (b ∷ ys) k y z e = absurd z
zip_at P (a ∷ xs) (b ∷ ys) zero y z e = (a, refl, subst (P a) (same_Some b y e) (z.0))
zip_at P (a ∷ xs) (b ∷ ys) (suc k) y z e = zip_at P xs ys k y (z.1) e

-- tests that are all of a site are those of one that is there
all_there : (o : Option KnownTests) (ts : List ℕ) → all_of o ≡ Some ts → (known : KnownTests) × (o ≡ Some known) × (known.all ≡ Some ts)
all_there None ts e = absurd (none-some ts e)
all_there (Some known) ts e = (known, refl, e)

-- so is a test that only one value passes
single_there : (o : Option KnownTests) (t : ℕ) → is_listed (singles_of o) t ≡ true
    → (known : KnownTests) × (o ≡ Some known) × (is_listed known.single t ≡ true)
single_there None t e = absurd (let f : false ≡ true = e in cc)
single_there (Some known) t e = (known, refl, e)

-- what is there and what holds if it is
some_both : {A : Type 0} (P Q : A → Type 0) (o : Option A) → IsSomeAnd o P → IfSome o Q → (x : A) × P x × Q x
some_both P Q None there holds = absurd there
some_both P Q (Some x) there holds = (x, there, holds)

-- a listed number is one of the tests
listed_one : (ids : List TestId) (t : ℕ) → is_listed (numbers ids) t ≡ true → (id : TestId) × Contains ids id × (id.0 ≡ t)
listed_one [] t e = absurd (let f : false ≡ true = e in cc)
listed_one (id ∷ ids) t e = elim (true_or (id.0 == t)) [
  | inl here ↦ (id, member_head id ids, eqb-true id.0 t here)
  | inr other ↦
      let rest : is_listed (numbers ids) t ≡ true = subst (λ b. (b || is_listed (numbers ids) t) ≡ true) other e in
      let (own, m, is) = listed_one ids t rest in (own, member_tail id own ids m, is)
]

module _ (program : Program) (rules : List Rule) (table : List Constraint) (types : List TypeTests) (singles : List TestId)
    (noted : List (Option TypeId)) (sites : Sites) (of_types : All (IsTypeTests program table) types) (one : AreSingles table singles)
    (are_noted : AreNoted rules noted) (are_sites : AllZip (IsSiteOf types singles) noted sites) where
  -- all tests of a site
  all_known : (s : ℕ) (ts : List ℕ) → all_tests sites s ≡ Some ts
      → (ty : TypeId) × (ids : List TestId) × IsTestedAs rules s ty × AreOfType program table ty ids × (ts ≡ numbers ids)
  all_known s ts e =
      let (known, at, all) = all_there (slice_get sites s) ts e in
      let (own, there, site) = zip_at (IsSiteOf types singles) noted sites s known are_sites at in
      let (ids, is, same) = site.all ts all in
      let (k, low, listed) = is.listed in
      let type_tests : IsTypeTests program table is.known = subst (IsTypeTests program table) listed (of_types k is.known low) in
      let (tests, are, of_type) = some_both _ _ is.known.tests is.there type_tests in (
        is.known.ty,
        ids,
        are_noted s is.known.ty (there ∙ ap (λ (o : Option TypeId). Some o) is.of_type),
        subst (AreOfType program table is.known.ty) are of_type,
        same,
      )

  -- a test that only one value passes
  single_known : (s t : ℕ) → is_single sites s t ≡ true → (c : Constraint) × (slice_get table t ≡ Some c) × (is_single_test c ≡ true)
  single_known s t e =
      let (known, at, listed) = single_there (slice_get sites s) t e in
      let (own, there, site) = zip_at (IsSiteOf types singles) noted sites s known are_sites at in
      elim site.single [
        | inl same ↦
            let (id, (k, low, is), number) = listed_one singles t (subst (λ (l : List ℕ). is_listed l t ≡ true) same listed) in
            let (c, stands, single) =
            subst (λ (x : TestId). (c : Constraint) × (slice_get table x.0 ≡ Some c) × (is_single_test c ≡ true)) is (one k id low) in
            (c, subst (λ (n : ℕ). slice_get table n ≡ Some c) number stands, single)
        | inr none ↦
            absurd (let f : is_listed [] t ≡ true = subst (λ (l : List ℕ). is_listed l t ≡ true) none listed in
            let g : false ≡ true = f in cc)
      ]

  -- What is known of the sites is so.
  pub sites_known : AreKnown program rules table sites
  sites_known = record { all = all_known; single = single_known }
