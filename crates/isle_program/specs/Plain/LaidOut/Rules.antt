-- Rules laid out, and the order in which a term's rules are tried.
use Rattle.std.specs.Prelude.{◌≡◌, ◌<◌, ◌==◌, ℕ, ℤ, pos, Bool, false, Vec, List, [], ◌∷◌, ◌++◌, Option, None, Some, length, slice_get, Contains}
use Rattle.std.specs.Global.{Global}
use Rattle.std.specs.List.{AllZip, AllPairs, filter, list_any}
use Rattle.std.specs.declared.cmp.Ordering.{Ordering}
use Rattle.std.specs.declared.cmp.Ordering.TheVariants.{Less}
use Rattle.std.specs.Ordering.{nat_cmp, int_cmp, ordering_then}
use Rattle.isle_types.specs.TypeTables.{TypeTables}
use Rattle.isle_rules.specs.declared.rules.IfLet.{IfLet}
use Rattle.isle_rules.specs.declared.rules.Rule.{Rule}
use Rattle.isle_rules.specs.Shown.TermTables.{TermTables}
use Rattle.isle_program.specs.Plain.LaidOut.Words.{IsLaidOut}
use Rattle.isle_program.specs.declared.laid.Laid.{Laid}
use Rattle.isle_program.specs.declared.laid.LaidRule.{LaidRule}

-- a condition's expression is laid out
abbrev pub IsConditionLaidOut : TypeTables → TermTables → IfLet → Laid → Type 0
IsConditionLaidOut tyenv env iflet laid = IsLaidOut tyenv env iflet.rhs laid

-- a rule's expressions are laid out
pub record IsRuleLaidOut (tyenv : TypeTables) (env : TermTables) (rule : Rule) (laid : LaidRule) : Type 0 where
  pub iflets : AllZip (IsConditionLaidOut tyenv env) rule.iflets laid.iflets.items
  pub right : IsLaidOut tyenv env rule.rhs laid.right

-- the expressions of all rules are laid out
abbrev pub AreRulesLaidOut : TypeTables → TermTables → List LaidRule → Type 0
AreRulesLaidOut tyenv env laid = AllZip (IsRuleLaidOut tyenv env) env.rules laid

-- a rule's priority
abbrev pub priority_of : Option Rule → ℤ
priority_of None = pos 0
priority_of (Some rule) = rule.prio

-- which of two places of rules is tried first: that of greater priority, of the same the one that stands before
abbrev pub tried_order : List Rule → ℕ → ℕ → Ordering
tried_order rules i j = ordering_then (int_cmp (priority_of (slice_get rules j)) (priority_of (slice_get rules i))) (nat_cmp i j)

-- a place of rules is tried before another
abbrev pub TriedBefore : List Rule → ℕ → ℕ → Type 0
TriedBefore rules i j = tried_order rules i j ≡ Less

-- the places of all rules, in the order in which they are tried
pub record AreByPriority (rules : List Rule) (places : List ℕ) : Type 0 where
  pub all : (i : ℕ) → i < length rules → Contains places i
  pub order : AllPairs (TriedBefore rules) places

-- whether a rule is of a term
abbrev pub is_of_term : ℕ → Option Rule → Bool
is_of_term t None = false
is_of_term t (Some rule) = rule.root_term.0 == t

-- the places of a term's rules, in the order in which they are tried
pub record AreTried (rules : List Rule) (t : ℕ) (places : List ℕ) : Type 0 where
  pub all : (i : ℕ) → list_any (λ place. i == place) places ≡ is_of_term t (slice_get rules i)
  pub order : AllPairs (TriedBefore rules) places

-- the numbers of a list, where there is one
abbrev pub listed_in : Option (Vec ℕ Global) → List ℕ
listed_in None = []
listed_in (Some list) = list.items

-- the numbers listed at a number
abbrev pub listed_at : List (Vec ℕ Global) → ℕ → List ℕ
listed_at lists t = listed_in (slice_get lists t)

-- at each term's number stand the places of its rules, in the order in which they are tried
abbrev pub AreListedInOrder : List Rule → List (Vec ℕ Global) → Type 0
AreListedInOrder rules lists = (t : ℕ) → AreTried rules t (listed_at lists t)

-- a rule's place is listed behind those of its term
pub record ListsRule (rules : List Rule) (place : ℕ) (old new : List (Vec ℕ Global)) : Type 0 where
  pub fits : length new ≡ length old
  pub lists : (t : ℕ) → t < length old
      → listed_at new t ≡ listed_at old t ++ filter (λ i. is_of_term t (slice_get rules i)) (place ∷ [])
