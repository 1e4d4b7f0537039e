-- What a machine reads and makes is what a completion says, where that says anything.
use Rattle.std.proofs.Common.{◌≡◌, ◌⊎◌, inl, inr, ℕ, Bool, true, false, not, List, [], ◌∷◌, ◌++◌, Option, Some, None, slice_get, refl, sym, ◌∙◌, ap, subst}
use Rattle.std.proofs.Math.Decide.{ℕ_discrete}
use Rattle.isle_meaning.specs.Words.{set}
use Rattle.isle_meaning.specs.Worlds.{Event}
use Rattle.isle_meaning.proofs.Matching.Basics.{set_at, set_other}
use Rattle.isle_trees.proofs.Basics.{true_or}
use Rattle.isle_trees.specs.Got.{Got, unknown, fails, gives}
use Rattle.isle_meaning.specs.Answers.{Completion}
use Rattle.isle_meaning.specs.Facts.{TermFacts}
use Rattle.isle_meaning.specs.Held.{Held, held_value, held_some, held, plain, outputs_of, extracted, constructed, value, values}
use Rattle.isle_meaning.specs.Machine.Runs.{Env, known, values_at, made_of, is_computed, read_row, read, Comes, holding}
use Rattle.isle_meaning.specs.Machine.Runs.{option_if}
use Rattle.isle_meaning.specs.Machine.Trees.{sites_at, site_of_row, is_call}
use Rattle.isle_meaning.specs.Numbered.{Row, bool_row, int_row, prim_row, argument_row, extractor_row, constructor_row, iterator_row}
use Rattle.isle_meaning.specs.Numbered.{make_variant_row, match_variant_row, make_struct_row, extract_struct_row, make_some_row}
use Rattle.isle_meaning.specs.Numbered.{match_some_row, match_tuple_row}
use Rattle.isle_meaning.specs.Outcomes.{Outcome, given, missing, ended}
use Rattle.isle_meaning.specs.Sites.{Site}
use Rattle.isle_meaning.specs.Values.{Value, Values, more, made, built, ask}
use Rattle.isle_meaning.proofs.Calls.Saying.{SaysOutcome}
use Rattle.isle_meaning.specs.AboutSites.Agreeing.{AgreeIfKnown}
use Rattle.isle_meaning.proofs.Sites.Agreeing.{same_self, same_ask, same_more, same_held, same_plain}

-- values of sites in turn
pub values_there : (facts : TermFacts) (c : Completion) (args : Values) (before : List (Option Value)) (site : ℕ → Site) (js : List ℕ)
    → values facts c args before (sites_at site js) ≡ values_at (λ j. value facts c args before (site j)) js
values_there facts c args before site [] = refl
values_there facts c args before site (j ∷ js) =
    ap (more (plain (value facts c args before (site j)))) (values_there facts c args before site js)

-- a site that calls nothing holds what it is made of
pub made_there : (facts : TermFacts) (c : Completion) (args : Values) (before : List (Option Value)) (site : ℕ → Site) (row : Row)
    → is_call row ≡ false
    → value facts c args before (site_of_row site row) ≡ made_of args (λ j. value facts c args before (site j)) row
made_there facts c args before site (bool_row x ty) n = refl
made_there facts c args before site (int_row x ty) n = refl
made_there facts c args before site (prim_row x) n = refl
made_there facts c args before site (argument_row i) n = refl
made_there facts c args before site (extractor_row t j) n = cc
made_there facts c args before site (constructor_row t js i) n = cc
made_there facts c args before site (iterator_row j) n = cc
made_there facts c args before site (make_variant_row ty k js) n = ap (λ (gs : Got Values). held (made ty k gs))
    (values_there facts c args before site js)
made_there facts c args before site (match_variant_row j k i) n = refl
made_there facts c args before site (make_struct_row ty js) n = ap (λ (gs : Got Values). held (built ty gs))
    (values_there facts c args before site js)
made_there facts c args before site (extract_struct_row j i) n = refl
made_there facts c args before site (make_some_row j) n = refl
made_there facts c args before site (match_some_row j) n = refl
made_there facts c args before site (match_tuple_row j i) n = refl

-- Where parts are the same, their values are.
pub values_same : (at there : ℕ → Got Held) (js : List ℕ) → ((j : ℕ) → AgreeIfKnown (at j) (there j))
    → AgreeIfKnown (values_at at js) (values_at there js)
values_same at there [] s = same_self _
values_same at there (j ∷ js) s = same_more _ _ _ _ (same_plain _ _ (s j)) (values_same at there js s)

-- where parts are the same, what is made of them is
pub made_same : (args : Values) (at there : ℕ → Got Held) (row : Row) → ((j : ℕ) → AgreeIfKnown (at j) (there j))
    → AgreeIfKnown (made_of args at row) (made_of args there row)
made_same args at there (bool_row x ty) s = same_self _
made_same args at there (int_row x ty) s = same_self _
made_same args at there (prim_row x) s = same_self _
made_same args at there (argument_row i) s = same_self _
made_same args at there (extractor_row t j) s = same_self _
made_same args at there (constructor_row t js i) s = same_self _
made_same args at there (iterator_row j) s = same_self _
made_same args at there (make_variant_row ty k js) s = same_held _ _ (same_ask _ _ _ _ (λ x. same_self _) (values_same at there js s))
made_same args at there (match_variant_row j k i) s = same_ask _ _ _ _ (λ x. same_self _) (same_plain _ _ (s j))
made_same args at there (make_struct_row ty js) s = same_held _ _ (same_ask _ _ _ _ (λ x. same_self _) (values_same at there js s))
made_same args at there (extract_struct_row j i) s = same_ask _ _ _ _ (λ x. same_self _) (same_plain _ _ (s j))
made_same args at there (make_some_row j) s = same_ask _ _ _ _ (λ x. same_self _) (s j)
made_same args at there (match_some_row j) s = same_ask _ _ _ _ (λ x. same_self _) (s j)
made_same args at there (match_tuple_row j i) s = same_ask _ _ _ _ (λ x. same_self _) (s j)

-- what is computed calls nothing
computed_calls_nothing : (row : Row) → is_computed row ≡ true → is_call row ≡ false
computed_calls_nothing (bool_row x ty) e = refl
computed_calls_nothing (int_row x ty) e = refl
computed_calls_nothing (prim_row x) e = refl
computed_calls_nothing (argument_row i) e = refl
computed_calls_nothing (extractor_row t j) e = cc
computed_calls_nothing (constructor_row t js i) e = cc
computed_calls_nothing (iterator_row j) e = cc
computed_calls_nothing (make_variant_row ty k js) e = refl
computed_calls_nothing (match_variant_row j k i) e = refl
computed_calls_nothing (make_struct_row ty js) e = refl
computed_calls_nothing (extract_struct_row j i) e = refl
computed_calls_nothing (make_some_row j) e = refl
computed_calls_nothing (match_some_row j) e = refl
computed_calls_nothing (match_tuple_row j i) e = refl

-- A number stands for something or not.
pub row_or : (o : Option Row) → (o ≡ None) ⊎ ((row : Row) × (o ≡ Some row))
row_or None = inl refl
row_or (Some row) = inr (row, refl)

-- Without effects of its own, what comes after makes them all.
pub no_effects : (effects rest trace : List Event) → effects ≡ [] → trace ≡ effects ++ rest → rest ≡ trace
no_effects effects rest trace e s = sym (s ∙ ap (λ (l : List Event). l ++ rest) e)

-- What is bound stays so where a further site is.
pub set_stays : (env : Env) (k : ℕ) (h : Held) (x : ℕ) (g : Held) → env x ≡ Some g → (f : Held) × (set env k (Some h) x ≡ Some f)
set_stays env k h x g e = elim (ℕ_discrete x k) [
  | yes q ↦ (h, ap (set env k (Some h)) q ∙ set_at env k (Some h))
  | no n ↦ (g, set_other env k (Some h) x n ∙ e)
]

-- what a machine reads is what a completion says, where what it has bound is
module _ (facts : TermFacts) (c : Completion) (args : Values) (before : List (Option Value)) (site : ℕ → Site) (sites : List Row)
    (sited : (k : ℕ) (row : Row) → slice_get sites k ≡ Some row → site k ≡ site_of_row site row) where
  abbrev pub IsKept : Env → Type 0
  IsKept env = (k : ℕ) → AgreeIfKnown (known (env k)) (value facts c args before (site k))

  -- What is read is what the completion says.
  pub read_same : (env : Env) (k : ℕ) → IsKept env → AgreeIfKnown (read sites args env k) (value facts c args before (site k))
  read_same env k kept = elim (row_or (slice_get sites k)) [
    | inl e ↦ λ n m. absurd (n (ap (read_row args env k) e))
    | inr (row, e) ↦ elim (true_or (is_computed row)) [
      | inl y ↦
          let here : read sites args env k ≡ made_of args (λ j. known (env j)) row = ap (read_row args env k) e ∙ rw y refl in
          let there : value facts c args before (site k) ≡ made_of args (λ j. value facts c args before (site j)) row =
          ap (value facts c args before) (sited k row e) ∙ made_there facts c args before site row (computed_calls_nothing row y) in
          rw (here, there) (made_same args (λ j. known (env j)) (λ j. value facts c args before (site j)) row (λ j. kept j))
      | inr n ↦
          let here : read sites args env k ≡ known (env k) = ap (read_row args env k) e ∙ rw n refl in
          rw here (kept k)
    ]
  ]

-- an outcome of what is made is said
pub comes_says : (g h : Got Held) (r : Outcome Held) → AgreeIfKnown g h → Comes g r → SaysOutcome h r
comes_says unknown h r s q = absurd q
comes_says fails h r s q = subst (SaysOutcome h) (sym q) (λ n. s (λ e. cc) n)
comes_says (gives x) h r s q = subst (SaysOutcome h) (sym q) (λ n. s (λ e. cc) n)

-- nothing is said of what isn't known
pub unknown_says : {A : Type 0} (r : Outcome A) → SaysOutcome unknown r
unknown_says (given x) = λ n. absurd (n refl)
unknown_says missing = λ n. absurd (n refl)
unknown_says (ended e) = tt

-- what a call holds
pub extracted_says : (infallible : Bool) (g : Got Values) (r : Outcome Values) → SaysOutcome g r
    → SaysOutcome (extracted infallible g) (option_if (not infallible) (holding outputs_of r))
extracted_says b unknown r s = unknown_says _
extracted_says true fails (given x) s = absurd (let q : fails ≡ gives x = s (λ e. cc) in cc)
extracted_says true fails missing s = λ n. refl
extracted_says true fails (ended e) s = tt
extracted_says false fails (given x) s = absurd (let q : fails ≡ gives x = s (λ e. cc) in cc)
extracted_says false fails missing s = λ n. refl
extracted_says false fails (ended e) s = tt
extracted_says true (gives y) (given x) s = let q : gives y ≡ gives x = s (λ e. cc) in let o : y ≡ x = cc in
    λ n. ap (λ (z : Values). gives (outputs_of z)) o
extracted_says true (gives y) missing s = absurd (let q : gives y ≡ fails = s (λ e. cc) in cc)
extracted_says true (gives y) (ended e) s = tt
extracted_says false (gives y) (given x) s = let q : gives y ≡ gives x = s (λ e. cc) in let o : y ≡ x = cc in
    λ n. ap (λ (z : Values). gives (held_some (outputs_of z))) o
extracted_says false (gives y) missing s = absurd (let q : gives y ≡ fails = s (λ e. cc) in cc)
extracted_says false (gives y) (ended e) s = tt

-- So does that of a constructor.
pub constructed_says : (partial : Bool) (g : Got Value) (r : Outcome Value) → SaysOutcome g r
    → SaysOutcome (constructed partial g) (option_if partial (holding held_value r))
constructed_says b unknown r s = unknown_says _
constructed_says true fails (given x) s = absurd (let q : fails ≡ gives x = s (λ e. cc) in cc)
constructed_says true fails missing s = λ n. refl
constructed_says true fails (ended e) s = tt
constructed_says false fails (given x) s = absurd (let q : fails ≡ gives x = s (λ e. cc) in cc)
constructed_says false fails missing s = λ n. refl
constructed_says false fails (ended e) s = tt
constructed_says true (gives y) (given x) s = let q : gives y ≡ gives x = s (λ e. cc) in let o : y ≡ x = cc in
    λ n. ap (λ (z : Value). gives (held_some (held_value z))) o
constructed_says true (gives y) missing s = absurd (let q : gives y ≡ fails = s (λ e. cc) in cc)
constructed_says true (gives y) (ended e) s = tt
constructed_says false (gives y) (given x) s = let q : gives y ≡ gives x = s (λ e. cc) in let o : y ≡ x = cc in
    λ n. ap (λ (z : Value). gives (held_value z)) o
constructed_says false (gives y) missing s = absurd (let q : gives y ≡ fails = s (λ e. cc) in cc)
constructed_says false (gives y) (ended e) s = tt

-- what is asked of a value that is read
pub asked_says : {A : Type 0} (f : A → Got Held) (g h : Got A) (x : A) (r : Outcome Held) → AgreeIfKnown g h
    → g ≡ gives x → SaysOutcome (f x) r → SaysOutcome (ask f h) r
asked_says f g unknown x r s e k = unknown_says r
asked_says f g fails x r s e k = absurd (let q : fails ≡ g = s (λ u. cc) (λ u. cc) in cc)
asked_says f g (gives y) x r s e k = let q : gives y ≡ g = s (λ u. cc) (λ u. cc) in let o : x ≡ y = cc in subst (λ z. SaysOutcome (f z) r) o k
