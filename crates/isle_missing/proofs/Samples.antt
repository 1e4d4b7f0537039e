-- The worked cases are as they are said to be.
use Rattle.std.proofs.Common.{◌≡◌, ◌≢◌, ◌⊎◌, inl, inr, ℕ, zero, suc, List, [], ◌∷◌, ◌++◌, Bool, true, false, Some, Contains, refl, sym, ap, subst, arith, ◌∙◌, ◌==◌, eqb-true}
use Rattle.isle_trees.specs.Got.{Got}
use Rattle.isle_trees.specs.Rules.{has, one_value, Elem}
use Rattle.isle_trees.specs.Sample.{same_bool, sample, sample_at, with_call}
use Rattle.isle_missing.specs.declared.demand.Demand.{Demand}
use Rattle.isle_missing.specs.declared.demand.Demand.TheVariants.{Passes, Same}
use Rattle.isle_missing.specs.Sites.{is_single}
use Rattle.isle_missing.specs.Demands.{World, AreCompared, passes, equals, SomeMatches, Fits}
use Rattle.isle_missing.specs.Sample.{both_rules, two_tests, twice_listed, any_tests, equal_rules, two_truths, two_kinds, other_rules, other_kinds, truths, sample_rows, sample_sites}
use Rattle.isle_missing.specs.Search.{MatchesAlways}
use Rattle.isle_missing.specs.Trees.{IsNumber, AreApart, AreTyped, AreSingle, IsReady, by_parts, StandsFor, Shows}
use Rattle.isle_missing.proofs.Basics.{clash, member_head, member_tail}

-- of two tests one passes
one_of_two : (w : World) (s t u : ℕ) → (k : ℕ) × Contains (t ∷ u ∷ []) k × (w.holds (passes s k) ≡ true)
    → (w.holds (passes s t) ≡ true) ⊎ (w.holds (passes s u) ≡ true)
one_of_two w s t u (k, (zero, below, same), h) = inl (subst (λ (n : ℕ). w.holds (passes s n) ≡ true) (sym same) h)
one_of_two w s t u (k, (suc zero, below, same), h) = inr (subst (λ (n : ℕ). w.holds (passes s n) ≡ true) (sym same) h)
one_of_two w s t u (k, (suc (suc i), below, same), h) = absurd (omega (arith, below))

-- two tests of which each value passes one are covered
pub both_match : MatchesAlways two_tests both_rules
both_match w fit = let first : Fits w two_tests (passes 0 0 ∷ []) = fit.0 in elim (one_of_two w 0 0 1 (first.0)) [
  | inl h ↦ inl (h, tt)
  | inr h ↦ inr (inl (h, tt))
]

-- and where one is listed twice
pub twice_match : MatchesAlways twice_listed both_rules
twice_match w fit = let first : Fits w twice_listed (passes 0 0 ∷ []) = fit.0 in one (first.0) where
  one : (t : ℕ) × Contains (0 ∷ 0 ∷ 1 ∷ []) t × (w.holds (passes 0 t) ≡ true) → SomeMatches w both_rules
  one (t, (zero, below, same), h) = inl (subst (λ (n : ℕ). w.holds (passes 0 n) ≡ true) (sym same) h, tt)
  one (t, (suc zero, below, same), h) = inl (subst (λ (n : ℕ). w.holds (passes 0 n) ≡ true) (sym same) h, tt)
  one (t, (suc (suc zero), below, same), h) = inr (inl (subst (λ (n : ℕ). w.holds (passes 0 n) ≡ true) (sym same) h, tt))
  one (t, (suc (suc (suc i)), below, same), h) = absurd (omega (arith, below))

-- two sites that list different tests
pub other_match : MatchesAlways other_kinds other_rules
other_match w fit =
    let first : Fits w other_kinds (passes 0 0 ∷ []) = fit.0 in
    let second : Fits w other_kinds (passes 0 1 ∷ passes 1 2 ∷ []) = fit.1.0 in elim (one_of_two w 0 0 1 (first.0)) [
      | inl h ↦ inl (h, tt)
      | inr h ↦
          let after : Fits w other_kinds (passes 1 2 ∷ []) = second.1 h in
          elim (one_of_two w 1 2 3 (after.0)) [
            | inl k ↦ inr (inl (h, (k, tt)))
            | inr k ↦ inr (inr (inl (h, (k, tt))))
          ]
    ]

-- a world where nothing holds
nothing : World
nothing = record { holds = λ d. false; one = λ s t u p q. clash false p refl }

-- and of a site that has other values they aren't
pub not_covered : MatchesAlways any_tests both_rules → ⊥
unfolding nothing
not_covered covers = none (covers nothing ((tt, λ h. tt), ((tt, λ h. tt), tt))) where
  none : SomeMatches nothing both_rules → ⊥
  none (inl h) = clash false (h.0) refl
  none (inr (inl h)) = clash false (h.0) refl
  none (inr (inr h)) = h

-- two truth values are equal, or are true and false
pub equal_match : MatchesAlways two_truths equal_rules
equal_match w fit = let first : Fits w two_truths (equals 0 1 ∷ []) = fit.0 in
    by (first.0) (one_of_two w 0 0 1 (first.0.first)) (one_of_two w 1 0 1 (first.0.second)) where
      by : AreCompared w two_truths 0 1 → (w.holds (passes 0 0) ≡ true) ⊎ (w.holds (passes 0 1) ≡ true)
          → (w.holds (passes 1 0) ≡ true) ⊎ (w.holds (passes 1 1) ≡ true) → SomeMatches w equal_rules
      by compare (inl p) (inl q) = inl (compare.single 0 refl p q, tt)
      by compare (inl p) (inr q) = inr (inr (inl (p, (q, tt))))
      by compare (inr p) (inl q) = inr (inl (p, (q, tt)))
      by compare (inr p) (inr q) = inl (compare.single 1 refl p q, tt)

-- a world where each site passes the first test, and no two are equal
abbrev is_first : Demand → Bool
is_first (Passes s t) = t.0 == 0
is_first (Same a b) = false

abbrev first_kinds : World
first_kinds = record { holds = is_first; one = λ s t u p q. eqb-true t 0 p ∙ sym (eqb-true u 0 q) }

-- two values of one kind need not be equal
pub kinds_not_covered : MatchesAlways two_kinds equal_rules → ⊥
kinds_not_covered covers = none (covers first_kinds ((compared, λ h. tt), (two 1 0, (two 0 1, tt)))) where
  passes_first : (s : ℕ) → (t : ℕ) × Contains (0 ∷ 1 ∷ []) t × (first_kinds.holds (passes s t) ≡ true)
  passes_first s = (0, member_head 0 (1 ∷ []), refl)

  no_single : (t : ℕ) → is_single two_kinds 0 t ≡ true → ⊥
  no_single t e = clash false e refl

  compared : AreCompared first_kinds two_kinds 0 1
  compared = record {
    first = passes_first 0;
    second = passes_first 1;
    carried = λ t h. refl;
    single = λ t s p q. absurd (no_single t s);
  }

  two : (t u : ℕ) → Fits first_kinds two_kinds (passes 0 t ∷ passes 1 u ∷ [])
  two t u = (passes_first 0, λ h. (passes_first 1, λ k. tt))

  none : SomeMatches first_kinds equal_rules → ⊥
  none (inl m) = clash false (m.0) refl
  none (inr (inl m)) = clash false (m.0) refl
  none (inr (inr (inl m))) = clash false (m.1.0) refl
  none (inr (inr (inr m))) = m

-- ---- the sample

truths_apart : AreApart sample truths
truths_apart zero zero c d x e f p q = refl
truths_apart zero (suc zero) c d x e f p q = absurd (mixed c d x e f p q) where
  mixed : (c d x : Bool) → Some false ≡ Some c → Some true ≡ Some d → same_bool c x ≡ true → same_bool d x ≡ true → ⊥
  mixed true d x e f p q = let g : false ≡ true = cc in cc
  mixed false true true e f p q = clash false p refl
  mixed false true false e f p q = clash false q refl
  mixed false false x e f p q = let g : true ≡ false = cc in cc
truths_apart (suc zero) zero c d x e f p q = absurd (mixed c d x e f p q) where
  mixed : (c d x : Bool) → Some true ≡ Some c → Some false ≡ Some d → same_bool c x ≡ true → same_bool d x ≡ true → ⊥
  mixed false d x e f p q = let g : true ≡ false = cc in cc
  mixed true false true e f p q = clash false q refl
  mixed true false false e f p q = clash false p refl
  mixed true true x e f p q = let g : false ≡ true = cc in cc
truths_apart (suc zero) (suc zero) c d x e f p q = refl
truths_apart t (suc (suc u)) c d x e f p q = cc
truths_apart (suc (suc t)) zero c d x e f p q = cc
truths_apart (suc (suc t)) (suc zero) c d x e f p q = cc

alike_truths : (c x y : Bool) → same_bool c x ≡ true → same_bool c y ≡ true → x ≡ y
alike_truths true true true p q = refl
alike_truths true true false p q = clash false q refl
alike_truths true false y p q = clash false p refl
alike_truths false false false p q = refl
alike_truths false false true p q = clash false q refl
alike_truths false true y p q = clash false p refl

no_member : {X : Type 0} (x : X) → Contains [] x → ⊥
no_member x m = omega (arith, m.1)

only_member : {X : Type 0} (x y : X) → Contains (x ∷ []) y → x ≡ y
only_member x y (zero, below, same) = same
only_member x y (suc k, below, same) = absurd (omega (arith, below))

-- the numbers of a demand; those of an equality are 0 here, as of no demand
abbrev site_of : Demand → ℕ
site_of (Passes s t) = s.0
site_of (Same a b) = 0

abbrev test_of : Demand → ℕ
test_of (Passes s t) = t.0
test_of (Same a b) = 0

abbrev first_site : List Demand → ℕ
first_site [] = 0
first_site (d ∷ ds) = site_of d

differ : (a b : ℕ) → passes 1 1 ≡ equals a b → ⊥
differ a b e = let f : 1 ≡ 0 = ap site_of e in omega (arith, f)

call_ready : (front : List Demand) → IsReady sample truths front 1
call_ready front = by_parts 1 refl (λ p e. part p e) where
  part : (p : ℕ) → Elem p (0 ∷ []) → IsReady sample truths front p
  part p (inl e) = subst (λ k. IsReady sample truths front k) (sym e) (by_parts 0 refl (λ q f. absurd f))
  part p (inr e) = absurd e

first_stands : StandsFor sample truths 0 (passes 1 1 ∷ [])
first_stands = record {
  wants = wants;
  wanted = λ s t m.
      let e : passes 1 1 ≡ passes s t = only_member (passes 1 1) (passes s t) m in
      let one : 1 ≡ s = ap site_of e in
      let two : 1 ≡ t = ap test_of e in
      (true, subst (λ k. IsNumber sample truths true k) two (true, refl, λ x. refl), subst (λ k. sample_at 0 k ≡ Some (has true)) one refl);
  joins = λ a b e ne. clash false e refl;
  joined = λ a b m. absurd (differ a b (only_member (passes 1 1) (equals a b) m));
  single = single;
  ready = ready;
  both_ready = both_ready;
} where
  wants : (s : ℕ) (c : Bool) → sample_at 0 s ≡ Some (has c) → (t : ℕ) × IsNumber sample truths c t × Contains (passes 1 1 ∷ []) (passes s t)
  wants zero c e = cc
  wants (suc zero) c e = let same : true ≡ c = cc in (1, (true, refl, λ x. ap (λ b. same_bool b x) same), (0, omega arith, refl))
  wants (suc (suc s)) c e = cc

  single : (s : ℕ) → sample_at 0 s ≢ Some one_value
  single zero e = cc
  single (suc zero) e = cc
  single (suc (suc s)) e = cc

  ready : (s t : ℕ) (front back : List Demand) → passes 1 1 ∷ [] ≡ front ++ passes s t ∷ back → IsReady sample truths front s
  ready s t [] back e = let one : 1 ≡ s = ap (λ (l : List Demand). first_site l) e in subst (λ k. IsReady sample truths [] k) one (call_ready [])
  ready s t (x ∷ []) back e = cc
  ready s t (x ∷ y ∷ front) back e = cc

  both_ready : (a b : ℕ) (front back : List Demand) → passes 1 1 ∷ [] ≡ front ++ equals a b ∷ back
      → IsReady sample truths front a × IsReady sample truths front b
  both_ready a b [] back e = absurd (let f : 1 ≡ 0 = ap (λ (l : List Demand). first_site l) e in omega (arith, f))
  both_ready a b (x ∷ []) back e = cc
  both_ready a b (x ∷ y ∷ front) back e = cc

second_stands : StandsFor sample truths 1 []
second_stands = record {
  wants = λ s c e. cc;
  wanted = λ s t m. absurd (no_member (passes s t) m);
  joins = λ a b e ne. clash false e refl;
  joined = λ a b m. absurd (no_member (equals a b) m);
  single = λ s e. cc;
  ready = ready;
  both_ready = both_ready;
} where
  ready : (s t : ℕ) (front back : List Demand) → [] ≡ front ++ passes s t ∷ back → IsReady sample truths front s
  ready s t [] back e = cc
  ready s t (x ∷ front) back e = cc

  both_ready : (a b : ℕ) (front back : List Demand) → [] ≡ front ++ equals a b ∷ back → IsReady sample truths front a × IsReady sample truths front b
  both_ready a b [] back e = cc
  both_ready a b (x ∷ front) back e = cc

pub sample_shows : Shows sample truths (0 ∷ 1 ∷ []) sample_rows
sample_shows = record { apart = truths_apart; from_rules = from_rules; to_rules = to_rules } where
  from_rules : (row : List Demand) → Contains sample_rows row → (i : ℕ) × Elem i (0 ∷ 1 ∷ []) × StandsFor sample truths i row
  from_rules row (zero, below, same) = (0, inl refl, subst (StandsFor sample truths 0) same first_stands)
  from_rules row (suc zero, below, same) = (1, inr (inl refl), subst (StandsFor sample truths 1) same second_stands)
  from_rules row (suc (suc k), below, same) = absurd (omega (arith, below))

  to_rules : (i : ℕ) → Elem i (0 ∷ 1 ∷ []) → (row : List Demand) × Contains sample_rows row × StandsFor sample truths i row
  to_rules i (inl e) = (passes 1 1 ∷ [], (0, omega arith, refl), subst (λ k. StandsFor sample truths k (passes 1 1 ∷ [])) (sym e) first_stands)
  to_rules i (inr (inl e)) = ([], (1, omega arith, refl), subst (λ k. StandsFor sample truths k []) (sym e) second_stands)
  to_rules i (inr (inr e)) = absurd e

-- the call's answers are truth values
pub sample_typed : (g : Got Bool) → AreTyped sample truths sample_sites (with_call g)
sample_typed g zero ts x e f = cc
sample_typed g (suc zero) ts x e f =
    let both : 0 ∷ 1 ∷ [] ≡ ts = cc in
    subst (λ (l : List ℕ). (t : ℕ) × Contains l t × (c : Bool) × (truths t ≡ Some c) × (same_bool c x ≡ true)) both (of_truth x) where
      of_truth : (x : Bool) → (t : ℕ) × Contains (0 ∷ 1 ∷ []) t × (c : Bool) × (truths t ≡ Some c) × (same_bool c x ≡ true)
      of_truth true = (1, member_tail 0 1 (1 ∷ []) (member_head 1 []), true, refl, refl)
      of_truth false = (0, member_head 0 (1 ∷ []), false, refl, refl)
sample_typed g (suc (suc s)) ts x e f = cc

-- only one truth value passes each test
pub sample_single : AreSingle sample truths sample_sites
sample_single s zero c x y u e p q = alike_truths c x y p q
sample_single s (suc zero) c x y u e p q = alike_truths c x y p q
sample_single s (suc (suc t)) c x y u e p q = cc

-- its second rule always matches
pub sample_covered : MatchesAlways sample_sites sample_rows
sample_covered w fit = inr (inl tt)
