-- Fields and contents in a rule's right side have their tests, contents of constructors' calls aside.
use Rattle.std.proofs.Common.{◌≡◌, ◌⊎◌, ◌<◌, inl, inr, ℕ, List, [], ◌∷◌, map, Bool, true, false, refl, sym, subst}
use Rattle.isle_rules.specs.TypedRules.{TypedRule}
use Rattle.isle_meaning.specs.Facts.{TermFacts}
use Rattle.isle_meaning.specs.Words.{Word, var_word, bool_word, int_word, prim_word, variant_word, struct_word, call_word, Words}
use Rattle.isle_meaning.specs.Words.{no_words, more_words, Step, word_of, steps_of}
use Rattle.isle_meaning.specs.Sites.{Site, bool_site, int_site, prim_site, argument, extractor_call, constructor_call, iterator}
use Rattle.isle_meaning.specs.Sites.{make_variant, match_variant, make_struct, extract_struct, make_some, match_some, match_tuple}
use Rattle.isle_meaning.specs.Sites.{Sites, no_sites, more_sites, answer_site, site_of, sites_of, step_site}
use Rattle.isle_meaning.specs.AboutSites.Parts.{parts_of, IsOneOf}
use Rattle.isle_meaning.specs.Demands.{Demand, constrained, variant_constraint, struct_constraint, some_constraint, vars_of, impure_of}
use Rattle.isle_meaning.specs.Demands.{result_of, some_of}
use Rattle.isle_meaning.specs.Derived.{Derived, demanded}
use Rattle.isle_meaning.specs.Scopes.{Reads, ReadAll, IsWellScopedRule, scope_of}
use Rattle.isle_meaning.specs.Tested.{IsTested, AreTested}
use Rattle.isle_meaning.specs.Demands.{DemandOf}
use Rattle.isle_meaning.proofs.Chains.Subtrees.{whole}
use Rattle.isle_meaning.proofs.Chains.Unique.{EachStep}
use Rattle.isle_meaning.proofs.Matching.Scoping.{word_reads}
use Rattle.isle_meaning.proofs.Matching.Testing.{demands_are_tested}
use Rattle.isle_meaning.proofs.Sites.Parts.{OfSubtrees, of_only, part_of, of_whole, of_one, EachSite}
use Rattle.isle_meaning.proofs.Sites.Steps.{steps_read}

-- the site is a call of a constructor
abbrev pub IsConstructor : Site → Type 0
IsConstructor s = (t : ℕ) × (ss : Sites) × (i : ℕ) × (s ≡ constructor_call t ss i)

-- a field has its test among these demands; a content has, or is one of a constructor's call
abbrev pub HasTest : (Demand → Type 0) → Site → Type 0
HasTest D (bool_site b ty) = Unit {0}
HasTest D (int_site n ty) = Unit {0}
HasTest D (prim_site n) = Unit {0}
HasTest D (argument i) = Unit {0}
HasTest D (extractor_call t s) = Unit {0}
HasTest D (constructor_call t ss i) = Unit {0}
HasTest D (iterator s) = Unit {0}
HasTest D (make_variant ty k ss) = Unit {0}
HasTest D (match_variant s k i) = (ty : ℕ) × (n : ℕ) × D (constrained s (variant_constraint ty k n)) × (i < n)
HasTest D (make_struct ty ss) = Unit {0}
HasTest D (extract_struct s i) = (ty : ℕ) × (n : ℕ) × D (constrained s (struct_constraint ty n)) × (i < n)
HasTest D (make_some s) = Unit {0}
HasTest D (match_some s) = D (constrained s some_constraint) ⊎ IsConstructor s
HasTest D (match_tuple s i) = Unit {0}

-- and so does each subtree
abbrev pub HasTests : (Demand → Type 0) → Site → Type 0
HasTests D s = OfSubtrees (HasTest D) s

-- A site has its own.
pub own_test : (D : Demand → Type 0) (s : Site) → HasTests D s → HasTest D s
own_test D s h = h s (whole s)

-- A part has its own.
pub part_tests : (D : Demand → Type 0) (s u : Site) → HasTests D s → IsOneOf (parts_of s) u → HasTests D u
part_tests D s u h m = part_of (HasTest D) s u h m

module _ (D E : Demand → Type 0) (f : (d : Demand) → D d → E d) where
  -- of one part that has them
  above : (s : Site) → HasTests E s → (u : Site) → IsOneOf (more_sites s no_sites) u → HasTests E u
  above s h u m = of_one (HasTest E) s u h m

  mutual
    -- What is tested has its tests.
    pub tested_has : (s : Site) → IsTested D s → HasTests E s
    tested_has (bool_site b ty) h = of_whole (HasTest E) (bool_site b ty) tt (λ u m. absurd m)
    tested_has (int_site n ty) h = of_whole (HasTest E) (int_site n ty) tt (λ u m. absurd m)
    tested_has (prim_site n) h = of_whole (HasTest E) (prim_site n) tt (λ u m. absurd m)
    tested_has (argument i) h = of_whole (HasTest E) (argument i) tt (λ u m. absurd m)
    tested_has (extractor_call t s) h = of_whole (HasTest E) (extractor_call t s) tt (above s (tested_has s h))
    tested_has (constructor_call t ss i) h = of_whole (HasTest E) (constructor_call t ss i) tt (tested_have ss h)
    tested_has (iterator s) h = of_whole (HasTest E) (iterator s) tt (above s (tested_has s h))
    tested_has (make_variant ty k ss) h = of_whole (HasTest E) (make_variant ty k ss) tt (tested_have ss h)
    tested_has (match_variant s k i) ((ty, n, d, l), h) =
        of_whole (HasTest E) (match_variant s k i) (ty, n, f (constrained s (variant_constraint ty k n)) d, l) (above s (tested_has s h))
    tested_has (make_struct ty ss) h = of_whole (HasTest E) (make_struct ty ss) tt (tested_have ss h)
    tested_has (extract_struct s i) ((ty, n, d, l), h) =
        of_whole (HasTest E) (extract_struct s i) (ty, n, f (constrained s (struct_constraint ty n)) d, l) (above s (tested_has s h))
    tested_has (make_some s) h = of_whole (HasTest E) (make_some s) tt (above s (tested_has s h))
    tested_has (match_some s) (d, h) =
        of_whole (HasTest E) (match_some s) (inl (f (constrained s some_constraint) d)) (above s (tested_has s h))
    tested_has (match_tuple s i) h = of_whole (HasTest E) (match_tuple s i) tt (above s (tested_has s h))

    -- so have sites
    tested_have : (ss : Sites) → AreTested D ss → (u : Site) → IsOneOf ss u → HasTests E u
    tested_have no_sites h u m = absurd m
    tested_have (more_sites s ss) h u (inl e) = subst (HasTests E) (sym e) (tested_has s (h.0))
    tested_have (more_sites s ss) h u (inr m) = tested_have ss (h.1) u m

-- parts of what is tested are tested
tested_all : (D : Demand → Type 0) (ss : Sites) (u : Site) → AreTested D ss → IsOneOf ss u → IsTested D u
tested_all D no_sites u h m = absurd m
tested_all D (more_sites s ss) u h (inl e) = subst (IsTested D) (sym e) (h.0)
tested_all D (more_sites s ss) u h (inr m) = tested_all D ss u (h.1) m

-- What is tested has parts that are.
pub tested_part : (D : Demand → Type 0) (s u : Site) → IsTested D s → IsOneOf (parts_of s) u → IsTested D u
tested_part D (bool_site b ty) u h m = absurd m
tested_part D (int_site n ty) u h m = absurd m
tested_part D (prim_site n) u h m = absurd m
tested_part D (argument i) u h m = absurd m
tested_part D (extractor_call t s) u h m = of_only (IsTested D) s u h m
tested_part D (constructor_call t ss i) u h m = tested_all D ss u h m
tested_part D (iterator s) u h m = of_only (IsTested D) s u h m
tested_part D (make_variant ty k ss) u h m = tested_all D ss u h m
tested_part D (match_variant s k i) u h m = of_only (IsTested D) s u (h.1) m
tested_part D (make_struct ty ss) u h m = tested_all D ss u h m
tested_part D (extract_struct s i) u h m = of_only (IsTested D) s u (h.1) m
tested_part D (make_some s) u h m = of_only (IsTested D) s u h m
tested_part D (match_some s) u h m = of_only (IsTested D) s u (h.1) m
tested_part D (match_tuple s i) u h m = of_only (IsTested D) s u h m

module _ (facts : TermFacts) (D : Demand → Type 0) (S : ℕ → Type 0) (vars : ℕ → Site) (have : (k : ℕ) → S k → HasTests D (vars k)) where
  -- what a constructor's call gives has its tests
  answer_has : (m b : Bool) (t : ℕ) (ss : Sites) (i : ℕ) → ((u : Site) → IsOneOf ss u → HasTests D u)
      → HasTests D (answer_site m b (constructor_call t ss i))
  answer_has m b t ss i h = go m b
    where
      call : HasTests D (constructor_call t ss i)
      call = of_whole (HasTest D) (constructor_call t ss i) tt h

      go : (m b : Bool) → HasTests D (answer_site m b (constructor_call t ss i))
      go true b = of_whole (HasTest D) (iterator (constructor_call t ss i)) tt
          (λ u m. of_one (HasTest D) (constructor_call t ss i) u call m)
      go false true = of_whole (HasTest D) (match_some (constructor_call t ss i)) (inr (t, ss, i, refl))
          (λ u m. of_one (HasTest D) (constructor_call t ss i) u call m)
      go false false = call

  mutual
    -- so does the site of a word
    word_has : (w : Word) → Reads facts w S → HasTests D (site_of facts vars w)
    word_has (var_word k) r = have k r
    word_has (bool_word ty b) r = of_whole (HasTest D) (bool_site b ty) tt (λ u m. absurd m)
    word_has (int_word ty n) r = of_whole (HasTest D) (int_site n ty) tt (λ u m. absurd m)
    word_has (prim_word n) r = of_whole (HasTest D) (prim_site n) tt (λ u m. absurd m)
    word_has (variant_word ty k ws) r = of_whole (HasTest D) (make_variant ty k (sites_of facts vars ws)) tt (words_have ws r)
    word_has (struct_word ty ws) r = of_whole (HasTest D) (make_struct ty (sites_of facts vars ws)) tt (words_have ws r)
    word_has (call_word t ws i) r = answer_has (facts.multi t) (facts.partial t) t (sites_of facts vars ws) i (words_have ws (r.1))

    -- so do those of words
    words_have : (ws : Words) → ReadAll facts ws S → (u : Site) → IsOneOf (sites_of facts vars ws) u → HasTests D u
    words_have no_words r u m = absurd m
    words_have (more_words w ws) r u (inl e) = subst (HasTests D) (sym e) (word_has w (r.0))
    words_have (more_words w ws) r u (inr m) = words_have ws (r.1) u m

  -- so do those of steps
  steps_have : (steps : List Step) → EachStep (λ s. ReadAll facts s.args S) steps → EachSite (HasTests D) (map (step_site facts vars) steps)
  steps_have [] r = tt
  steps_have (s ∷ steps) r = (
    answer_has (facts.multi s.term) (facts.partial s.term) s.term (sites_of facts vars s.args) _ (words_have s.args (r.0)),
    steps_have steps (r.1),
  )

-- a made option has the tests of what it is made of
some_has : (D : Demand → Type 0) (b : Bool) (s : Site) → HasTests D s → HasTests D (some_of b s)
some_has D true s h = of_whole (HasTest D) (make_some s) tt (λ u m. of_one (HasTest D) s u h m)
some_has D false s h = h

-- A rule's result and its impure calls have their tests among what follows from its demands.
pub right_side_has : (facts : TermFacts) (rule : TypedRule) → IsWellScopedRule facts rule
    → ((partial : Bool) → HasTests (Derived (DemandOf facts rule)) (result_of facts partial rule))
    × EachSite (HasTests (Derived (DemandOf facts rule))) (impure_of facts rule)
right_side_has facts rule well =
    let D = DemandOf facts rule in
    let vars = (demands_are_tested facts rule well).1 in
    let have : (k : ℕ) → scope_of rule k → HasTests (Derived D) (vars_of facts rule k) =
    λ k s. tested_has D (Derived D) (λ d x. demanded x) (vars_of facts rule k) (vars k s) in (
      λ partial. some_has (Derived D) partial (site_of facts (vars_of facts rule) (word_of facts rule.right))
          (word_has facts (Derived D) (scope_of rule) (vars_of facts rule) have (word_of facts rule.right)
          (word_reads facts (scope_of rule) rule.right well.right)),
      steps_have facts (Derived D) (scope_of rule) (vars_of facts rule) have (steps_of facts rule.right)
          (steps_read facts (scope_of rule) rule.right well.right),
    )
