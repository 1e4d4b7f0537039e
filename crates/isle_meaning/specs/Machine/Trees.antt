-- What the trees of a checked program's terms owe to its rules: what serializing gives, and what typing says of values.
use Rattle.std.specs.Prelude.{◌≡◌, ◌≢◌, ◌↔◌, ℕ, zero, suc, Bool, true, false, not, List, [], ◌∷◌, ◌++◌, map, Option, Some, None, slice_get}
use Rattle.isle_trees.specs.Answers.{Answers}
use Rattle.isle_trees.specs.Builds.{IsTreeOf}
use Rattle.isle_trees.specs.Premises.{Respects, KnowsAsked}
use Rattle.isle_trees.specs.Reads.{IsListed, IsClosed}
use Rattle.isle_trees.specs.Rules.{Rules, Source, Want, has, Elem, rights}
use Rattle.isle_rules.specs.TypedRules.{TypedRule}
use Rattle.isle_meaning.specs.AboutSites.Kinds.{IsKinded}
use Rattle.isle_meaning.specs.Answers.{Completion, IsAllowed}
use Rattle.isle_meaning.specs.Calls.{HasTypedAnswers, IsRuleAt, CoversAll}
use Rattle.isle_meaning.specs.Demands.{Constraint, constrained, equal, vars_of, result_of}
use Rattle.isle_meaning.specs.Derived.{Derived, Closed}
use Rattle.isle_meaning.specs.Facts.{TermFacts}
use Rattle.isle_meaning.specs.Faults.{IsUnreachable}
use Rattle.isle_meaning.specs.Got.{Got, gives}
use Rattle.isle_meaning.specs.GroundValues.{IsValueOf, AreValuesOf}
use Rattle.isle_meaning.specs.Held.{Held, held_value, held_outputs, held_none, held_some, value}
use Rattle.isle_meaning.specs.Held.{Meets}
use Rattle.isle_meaning.specs.Demands.{DemandOf}
use Rattle.isle_meaning.specs.Machine.Runs.{TermTree, made_of, is_computed}
use Rattle.isle_meaning.specs.Numbered.{Row, bool_row, int_row, prim_row, argument_row, extractor_row, constructor_row, iterator_row}
use Rattle.isle_meaning.specs.Numbered.{make_variant_row, match_variant_row, make_struct_row, extract_struct_row, make_some_row}
use Rattle.isle_meaning.specs.Numbered.{match_some_row, match_tuple_row}
use Rattle.isle_meaning.specs.Sites.{Site, bool_site, int_site, prim_site, argument, extractor_call, constructor_call, iterator}
use Rattle.isle_meaning.specs.Sites.{make_variant, match_variant, make_struct, extract_struct, make_some, match_some, match_tuple}
use Rattle.isle_meaning.specs.Sites.{Sites, no_sites, more_sites, sites_of}
use Rattle.isle_meaning.specs.Sorts.{Sort, plain_sort, tuple_sort, option_sort, sort}
use Rattle.isle_meaning.specs.Values.{Value, Values}
use Rattle.isle_meaning.specs.Words.{Step, steps_of}
use Rattle.isle_meaning.specs.Worlds.{CheckedProgram}

-- the site of a row, where numbers stand for these sites
abbrev pub sites_at : (ℕ → Site) → List ℕ → Sites
sites_at at [] = no_sites
sites_at at (j ∷ js) = more_sites (at j) (sites_at at js)

-- of its row
abbrev pub site_of_row : (ℕ → Site) → Row → Site
site_of_row at (bool_row b ty) = bool_site b ty
site_of_row at (int_row n ty) = int_site n ty
site_of_row at (prim_row name) = prim_site name
site_of_row at (argument_row i) = argument i
site_of_row at (extractor_row t j) = extractor_call t (at j)
site_of_row at (constructor_row t js i) = constructor_call t (sites_at at js) i
site_of_row at (iterator_row j) = iterator (at j)
site_of_row at (make_variant_row ty k js) = make_variant ty k (sites_at at js)
site_of_row at (match_variant_row j k i) = match_variant (at j) k i
site_of_row at (make_struct_row ty js) = make_struct ty (sites_at at js)
site_of_row at (extract_struct_row j i) = extract_struct (at j) i
site_of_row at (make_some_row j) = make_some (at j)
site_of_row at (match_some_row j) = match_some (at j)
site_of_row at (match_tuple_row j i) = match_tuple (at j) i

-- what a row is made of
abbrev pub parts_of_row : Row → List ℕ
parts_of_row (bool_row b ty) = []
parts_of_row (int_row n ty) = []
parts_of_row (prim_row name) = []
parts_of_row (argument_row i) = []
parts_of_row (extractor_row t j) = j ∷ []
parts_of_row (constructor_row t js i) = js
parts_of_row (iterator_row j) = j ∷ []
parts_of_row (make_variant_row ty k js) = js
parts_of_row (match_variant_row j k i) = j ∷ []
parts_of_row (make_struct_row ty js) = js
parts_of_row (extract_struct_row j i) = j ∷ []
parts_of_row (make_some_row j) = j ∷ []
parts_of_row (match_some_row j) = j ∷ []
parts_of_row (match_tuple_row j i) = j ∷ []

-- impure calls, and calls at all
abbrev pub is_effect : Row → Bool
is_effect (constructor_row t js (suc i)) = true
is_effect row = false

abbrev pub is_call : Row → Bool
is_call (extractor_row t j) = true
is_call (constructor_row t js i) = true
is_call (iterator_row j) = true
is_call row = false

-- a call of a term that isn't `multi`
abbrev pub IsSingleRow : TermFacts → Row → Type 0
IsSingleRow facts (extractor_row t j) = facts.multi t ≡ false
IsSingleRow facts (constructor_row t js i) = facts.multi t ≡ false
IsSingleRow facts row = Unit {0}

-- what a site of a sort holds
abbrev pub IsHeldOf : CheckedProgram → Sort → Held → Type 0
IsHeldOf p (plain_sort ty) (held_value v) = IsValueOf p.values v ty
IsHeldOf p (tuple_sort types) (held_outputs vs) = AreValuesOf p.values vs types
IsHeldOf p (option_sort k) held_none = Unit {0}
IsHeldOf p (option_sort k) (held_some h) = IsHeldOf p k h
IsHeldOf p k h = ⊥

-- the sites of a right side: each impure call in order, and where it may fail its content
abbrev pub with_content : Bool → Site → List Site
with_content true s = s ∷ match_some s ∷ []
with_content false s = s ∷ []

-- of each step
abbrev pub calls_of : TermFacts → (ℕ → Site) → List Step → List Site
calls_of facts vars [] = []
calls_of facts vars (s ∷ steps) =
    with_content (facts.partial s.term) (constructor_call s.term (sites_of facts vars s.args) (suc s.place)) ++ calls_of facts vars steps

-- an option, where a term may fail
abbrev pub option_sort_if : Bool → Sort → Sort
option_sort_if true k = option_sort k
option_sort_if false k = k

-- what sites hold, by number
abbrev pub held_at : TermFacts → (ℕ → Site) → Completion → Values → List (Option Value) → Answers Held
held_at facts site c args done k = value facts c args done (site k)

-- A tree is that of a term's rules: the rules left are the term's, but for those that match nothing; the tree is built over their tests;
-- the numbers stand for sites.
pub record IsTermTree {C : Type 0} (p : CheckedProgram) (runs : ℕ → Type 0) (t : ℕ) (b : TermTree C) : Type 0 where
  pub set : Rules C Held
  pub left : List ℕ
  pub rule : ℕ → TypedRule
  pub place : ℕ → ℕ
  pub site : ℕ → Site
  -- the tree, and what it asks of the rules over sites
  pub tree : IsTreeOf set left b.tree
  pub fields : IsListed set
  pub tests : (c : C) (h : Held) → (set.tests.passes c h ≡ true) ↔ Meets (b.test c) h
  pub closed : IsClosed set (λ k. false) b.tree
  -- each row says what its number stands for, what it is made of and how it is bound
  pub sited : (k : ℕ) (row : Row) → slice_get b.sites k ≡ Some row → site k ≡ site_of_row site row
  pub parts : (k : ℕ) (row : Row) → slice_get b.sites k ≡ Some row → set.parts k ≡ parts_of_row row
  pub beyond : (k : ℕ) → slice_get b.sites k ≡ None → set.parts k ≡ []
  pub effects : (k : ℕ) (row : Row) → slice_get b.sites k ≡ Some row → set.effect k ≡ is_effect row
  pub bound : (k : ℕ) (row : Row) → slice_get b.sites k ≡ Some row → set.stands k ≡ not (is_computed row)
  pub opens : (k : ℕ) (row : Row) (m : Source C) → slice_get b.sites k ≡ Some row → set.made k ≡ Some m → is_call row ≡ false
  pub opened_there : (k : ℕ) (m : Source C) → set.made k ≡ Some m → (row : Row) × (slice_get b.sites k ≡ Some row)
  pub single : (k : ℕ) (row : Row) → slice_get b.sites k ≡ Some row → IsSingleRow p.terms row
  -- the rules left are those of the term that may match, with their priorities
  pub listed : (i : ℕ) → Elem i left → IsRuleAt p t (place i) (rule i)
  pub all : (j : ℕ) (other : TypedRule) → IsRuleAt p t j other → (IsUnreachable (DemandOf p.terms other) → ⊥)
      → (i : ℕ) × Elem i left × (rule i ≡ other)
  pub priority : (i : ℕ) → Elem i left → set.prio i ≡ (rule i).priority
  -- their tests are what follows from their demands
  pub wants : (i s : ℕ) (c : C) → Elem i left → set.at i s ≡ Some (has c) → Derived (DemandOf p.terms (rule i)) (constrained (site s) (b.test c))
  pub all_wants : (i : ℕ) (u : Site) (k : Constraint) → Elem i left → Derived (DemandOf p.terms (rule i)) (constrained u k)
      → (s : ℕ) × (c : C) × (site s ≡ u) × (set.at i s ≡ Some (has c)) × (b.test c ≡ k)
  pub joins : (i a b : ℕ) → Elem i left → set.joins i a b ≡ true → a ≢ b → Closed (DemandOf p.terms (rule i)) (equal (site a) (site b))
  pub joined : (i a b : ℕ) → Elem i left → set.joins i a b ≡ true → (u : Site) × Derived (DemandOf p.terms (rule i)) (equal (site a) u)
  pub all_joins : (i : ℕ) (u v : Site) → Elem i left → Closed (DemandOf p.terms (rule i)) (equal u v)
      → (a : ℕ) × (b : ℕ) × (site a ≡ u) × (site b ≡ v) × (set.joins i a b ≡ true)
  -- and so are their right sides
  pub calls : (i : ℕ) → Elem i left → map site (set.calls i) ≡ calls_of p.terms (vars_of p.terms (rule i)) (steps_of p.terms (rule i).right)
  pub result : (i : ℕ) → Elem i left → site (set.result i) ≡ result_of p.terms (p.terms.partial t) (rule i)
  pub returned : (i : ℕ) → Elem i left → b.result i ≡ set.result i
  pub whole : (i s : ℕ) → Elem i left → Elem s (rights set i) → (row : Row) × (slice_get b.sites s ≡ Some row)
  -- no site has two numbers, and what a site is made of has one
  pub once : (k j : ℕ) (row other : Row) → slice_get b.sites k ≡ Some row → slice_get b.sites j ≡ Some other → site k ≡ site j → k ≡ j
  pub stand : (k j : ℕ) (row : Row) → slice_get b.sites k ≡ Some row → Elem j (parts_of_row row) → (other : Row) × (slice_get b.sites j ≡ Some other)
  pub tested : (i s : ℕ) (x : Want C) → Elem i left → set.at i s ≡ Some x → (row : Row) × (slice_get b.sites s ≡ Some row)
  pub grouped : (i s u : ℕ) → Elem i left → set.joins i s u ≡ true → (row : Row) × (slice_get b.sites s ≡ Some row)
  -- calls without effects are of pure terms, the others are not
  pub pure : (k u : ℕ) (js : List ℕ) → slice_get b.sites k ≡ Some (constructor_row u js zero) → p.terms.pure u ≡ true
  pub impure : (k u i : ℕ) (js : List ℕ) → slice_get b.sites k ≡ Some (constructor_row u js (suc i)) → p.terms.pure u ≡ false
  -- typing: sites are of their kinds; calls are of terms that are run, on arguments of their types; what is made of values of their sorts
  -- is of its sort
  pub kinded : (k : ℕ) (row : Row) → slice_get b.sites k ≡ Some row → IsKinded p.terms (p.terms.inputs t) (site k)
  pub called : (k u i : ℕ) (js : List ℕ) → slice_get b.sites k ≡ Some (constructor_row u js i) → p.has_rules u ≡ true → runs u
  pub inputs : (k u i : ℕ) (js : List ℕ) → slice_get b.sites k ≡ Some (constructor_row u js i)
      → map (λ j. sort p.terms (p.terms.inputs t) (site j)) js ≡ map plain_sort (p.terms.inputs u)
  pub extracts : (k u j : ℕ) → slice_get b.sites k ≡ Some (extractor_row u j)
      → sort p.terms (p.terms.inputs t) (site j) ≡ plain_sort (p.terms.type_of u)
  pub makes : (args : Values) (k : ℕ) (row : Row) (at : ℕ → Got Held) (h : Held) → AreValuesOf p.values args (p.terms.inputs t)
      → slice_get b.sites k ≡ Some row
      → ((j : ℕ) (g : Held) → Elem j (parts_of_row row) → at j ≡ gives g → IsHeldOf p (sort p.terms (p.terms.inputs t) (site j)) g)
      → made_of args at row ≡ gives h → IsHeldOf p (sort p.terms (p.terms.inputs t) (site k)) h
  pub gives_type : (i : ℕ) → Elem i left
      → sort p.terms (p.terms.inputs t) (site (set.result i)) ≡ option_sort_if (p.terms.partial t) (plain_sort (p.terms.type_of t))
  -- under answers that are allowed, values keep to fields and calls; and what the rules' tests ask is known where the rules are covered
  pub respects : (c : Completion) (args : Values) → IsAllowed p.terms c → HasTypedAnswers p c → AreValuesOf p.values args (p.terms.inputs t)
      → Respects set (held_at p.terms site c args [])
  pub asked : (c : Completion) (args : Values) → IsAllowed p.terms c → HasTypedAnswers p c → AreValuesOf p.values args (p.terms.inputs t)
      → CoversAll p c t args → KnowsAsked set (held_at p.terms site c args [])

-- each term that is run has a tree of its rules
pub record HasTermTrees {C : Type 0} (p : CheckedProgram) (runs : ℕ → Type 0) (trees : ℕ → TermTree C) : Type 0 where
  pub of_term : (t : ℕ) → runs t → IsTermTree p runs t (trees t)
