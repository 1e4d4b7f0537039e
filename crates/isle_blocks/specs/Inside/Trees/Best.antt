-- How the best test is found: site by site, and among equalities class by class.
use Rattle.std.specs.Prelude.{◌≡◌, ℕ, ◌≤ℤ◌, Bool, true, List, Option}
use Rattle.isle_blocks.specs.declared.ids.BindingId.{BindingId}
use Rattle.isle_trees.specs.Ranking.{IsNoBetter, IsRanked, Ranked}
use Rattle.isle_trees.specs.Rules.{Elem, Rules}
use Rattle.isle_trees.specs.Scopes.{Scope, Test, on_match, on_equal, on_loop}
use Rattle.isle_trees.specs.Search.{is_ready, top}

-- a best test is ranked, and what is no better than the one before is no better than it
pub record IsStillRanked {C V : Type 0} (R : Rules C V) (left : List ℕ) (sc : Scope C) (old new : Option Ranked) : Type 0 where
  pub ranked : IsRanked R left sc new
  pub kept : (u : Test) → IsNoBetter R left sc old u → IsNoBetter R left sc new u

-- a test that can be made is no better than the best
abbrev pub IsPassed : {C V : Type 0} → Rules C V → List ℕ → Scope C → List Bool → Option Ranked → Test → Type 0
IsPassed R left sc marks best t = is_ready sc marks t ≡ true → IsNoBetter R left sc best t

-- no test of a site is better, but for equalities
pub record IsSitePassed {C V : Type 0} (R : Rules C V) (left : List ℕ) (sc : Scope C) (marks : List Bool)
    (best : Option Ranked) (x : BindingId) : Type 0 where
  pub by_match : IsPassed R left sc marks best (on_match x.0)
  pub by_loop : IsPassed R left sc marks best (on_loop x.0)

-- no test of these sites is better, but for equalities
abbrev pub AreSitesPassed : {C V : Type 0} → Rules C V → List ℕ → Scope C → List Bool → Option Ranked → List BindingId → Type 0
AreSitesPassed R left sc marks best sites = (x : BindingId) → Elem x sites → IsSitePassed R left sc marks best x

-- no equality of a site with one of a class is better
abbrev pub IsRowPassed : {C V : Type 0} → Rules C V → List ℕ → Scope C → List Bool → List BindingId → Option Ranked → BindingId → Type 0
IsRowPassed R left sc marks class best a = (b : BindingId) → Elem b class → IsPassed R left sc marks best (on_equal a.0 b.0)

-- no equality of a class is better
abbrev pub IsClassPassed : {C V : Type 0} → Rules C V → List ℕ → Scope C → List Bool → Option Ranked → List BindingId → Type 0
IsClassPassed R left sc marks best class = (a : BindingId) → Elem a class → IsRowPassed R left sc marks class best a

-- no equality of these classes is better
abbrev pub AreClassesPassed : {C V : Type 0} → Rules C V → List ℕ → Scope C → List Bool → Option Ranked → List (List BindingId) → Type 0
AreClassesPassed R left sc marks best classes = (class : List BindingId) → Elem class classes → IsClassPassed R left sc marks best class

-- no equality of a rule is better
abbrev pub IsRulePassed : {C V : Type 0} → Rules C V → List ℕ → Scope C → List Bool → Option Ranked → ℕ → Type 0
IsRulePassed R left sc marks best i = (a b : ℕ) → R.joins i a b ≡ true → IsPassed R left sc marks best (on_equal a b)

-- no equality of the top rules is better
abbrev pub AreEqualitiesPassed : {C V : Type 0} → Rules C V → List ℕ → Scope C → List Bool → Option Ranked → Type 0
AreEqualitiesPassed R left sc marks best = (i : ℕ) → Elem i left → top R left ≤ℤ R.prio i → IsRulePassed R left sc marks best i
