-- What patterns of a rule come to under its context.
use Rattle.std.specs.Prelude.{◌≡◌, ◌≤◌, ℕ, List, map, length, Option, None, Some}
use Rattle.isle_ast.specs.declared.pos.Pos.{Pos}
use Rattle.isle_ast.specs.Trees.PatternTree.{PatternTree, PatternTrees}
use Rattle.isle_rules.specs.declared.rules.Pattern.{Pattern}
use Rattle.isle_terms.specs.declared.translate.Context.{Context}
use Rattle.isle_rules.specs.TypedRules.{TypedPattern, TypedPatterns, typed_and}
use Rattle.isle_rules.specs.Elaboration.{State, each_at}
use Rattle.isle_terms.specs.Inside.Readings.Outcomes.{Outcome, stands_for, and_then, PatternRun, PatternUse, read_pattern, read_pattern_use, pattern_node}
use Rattle.isle_terms.specs.Inside.Readings.Outcomes.{each_pattern}
use Rattle.isle_rules.specs.Shown.ShownRules.{typed_list, typed_shown, pattern_limit, greatest}
use Rattle.isle_terms.specs.Inside.Readings.Contexts.{known_in}
use Rattle.isle_rules.specs.Readings.Needs.{needed}

-- how a pattern is read in at most so many levels
abbrev pub reads_in : Context → (levels : ℕ) → PatternRun
reads_in context levels = read_pattern (known_in context) context.max_nodes levels

-- how the use of a converter is read in at most so many levels
abbrev pub uses_in : Context → (levels : ℕ) → PatternUse
uses_in context levels = read_pattern_use (known_in context) context.max_nodes levels

-- how one node is read where so many levels may stand below it
abbrev pub node_in : Context → (levels : ℕ) → PatternRun
node_in context levels = pattern_node (known_in context) (reads_in context levels) (uses_in context levels)

-- patterns that all have one type
abbrev pub all_of_type : PatternRun → Pos → PatternTrees → ℕ → State → Outcome TypedPattern
all_of_type r at below ty s = and_then (each_pattern r at below (each_at ty below) s) (λ us s'. stands_for (typed_and ty us) s')

-- reading comes to a typed pattern, with this state after it
abbrev pub IsRead : Context → Outcome TypedPattern → State → Pattern → Type 0
IsRead context outcome after made = outcome ≡ stands_for (typed_shown context.tyenv.now.names made) after

-- reading comes to typed patterns, with this state after them
abbrev pub AreRead : Context → Outcome TypedPatterns → State → List Pattern → Type 0
AreRead context outcome after made = outcome ≡ stands_for (typed_list (map (typed_shown context.tyenv.now.names) made)) after

-- the symbols of a typed pattern are interned
abbrev pub HasKnownSymbols : Context → Pattern → Type 0
HasKnownSymbols context made = pattern_limit made ≤ length context.tyenv.now.names

-- the symbols of typed patterns are interned
abbrev pub HaveKnownSymbols : Context → List Pattern → Type 0
HaveKnownSymbols context made = greatest (map pattern_limit made) ≤ length context.tyenv.now.names

-- what the use of a term with this template needs, if there is one
abbrev pub needed_in : Option PatternTree → ℕ
needed_in None = 0
needed_in (Some template) = needed template
