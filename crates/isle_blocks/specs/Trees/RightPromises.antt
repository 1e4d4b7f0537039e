-- What the tree of a rule set promises of right sides.
use Rattle.std.specs.Prelude.{◌≡◌, ◌<◌, ◌++◌, ℕ, zero, suc, Bool, true, false, List, [], Option, Some, None, length, slice_get}
use Rattle.isle_types.specs.declared.ids.Sym.{Sym}
use Rattle.isle_rules.specs.Shown.TermTables.{TermTables}
use Rattle.isle_rules.specs.TypedRules.{TypedRule}
use Rattle.isle_meaning.specs.Answers.{Completion, IsAllowed}
use Rattle.isle_meaning.specs.Calls.{Makes, Means}
use Rattle.isle_meaning.specs.Facts.{TermFacts}
use Rattle.isle_meaning.specs.Got.{Got, gives}
use Rattle.isle_meaning.specs.Held.{Held, held_some, held_value}
use Rattle.isle_meaning.specs.Matching.{Matches, MatchesWith, word_values}
use Rattle.isle_meaning.specs.RightSides.{RightOf}
use Rattle.isle_meaning.specs.Values.{Value, Values, count}
use Rattle.isle_meaning.specs.Words.{Step, steps_of}
use Rattle.isle_meaning.specs.Worlds.{Answers, CheckedProgram, Event}
use Rattle.isle_trees.specs.Choice.{IsMet, trace}
use Rattle.isle_trees.specs.Rules.{rights}
use Rattle.isle_trees.specs.Walk.{Bound, goes, opens, breaks, Outcome, chooses, ends, waits, stops, walk}
use Rattle.isle_blocks.specs.DefinedSets.{AreDefined, facts_by, name_of, rules_by}
use Rattle.isle_blocks.specs.RuleSets.{RulesOverSites}
use Rattle.isle_blocks.specs.Trees.Choices.{CoversTerm, IsChosen, IsRuleOf}
use Rattle.isle_blocks.specs.Trees.Premises.{IsRunnableSet}
use Rattle.isle_blocks.specs.Trees.Shown.{BlockShown}
use Rattle.isle_blocks.specs.Trees.SiteTrees.{held_by}
use Rattle.isle_blocks.specs.Trees.View.{rules_of}

-- the answers to a rule's impure calls, in order, are allowed: none only of a term that may fail
abbrev pub AreAllowed : TermFacts → TypedRule → List (Option Value) → Type 0
AreAllowed facts rule answers = (k : ℕ) (s : Step) → slice_get (steps_of facts rule.right) k ≡ Some s → slice_get answers k ≡ Some None
    → facts.partial s.term ≡ true

-- what the site of a result holds, where the result is this value: in a term that may fail a made option
abbrev pub result_held : Bool → Value → Held
result_held true v = held_some (held_value v)
result_held false v = held_value v

-- what a return answers that ends so, and whose result's site holds this: the value, or none where binding breaks
abbrev pub AnswersWith : Bool → Got Held → Bound → Option Value → Type 0
AnswersWith partial g goes answer = (v : Value) × (g ≡ gives (result_held partial v)) × (answer ≡ Some v)
AnswersWith partial g (opens s) answer = ⊥
AnswersWith partial g breaks answer = answer ≡ None

-- the effects of so many calls, from one on
abbrev pub effects_from : (ℕ → List Event) → ℕ → ℕ → List Event
effects_from effects k zero = []
effects_from effects k (suc many) = effects k ++ effects_from effects (suc k) many

-- so many of a right side's impure calls, the first ones, make these effects and have these answers
abbrev pub AreMade : Completion → (ℕ → Values → List Event → Option Value → Type 0) → (ℕ → Value) → List Step → List (Option Value) → ℕ
    → (ℕ → List Event) → Type 0
AreMade c makes a steps answers many effects = (k : ℕ) (s : Step) (vs : Values) (b : Option Value) → k < many → slice_get steps k ≡ Some s
    → word_values c a answers s.args ≡ gives vs → slice_get answers k ≡ Some b → makes s.term vs (effects k) b

-- what holds whatever impure calls make: what they mean at a depth, or any effects and answers that a test tells
abbrev pub WhateverIsMade : ((ℕ → Values → List Event → Option Value → Type 0) → Type 0) → Type 0
WhateverIsMade P = ((p : CheckedProgram) (w : Answers) (n : ℕ) → P (Makes p (Means p w n)))
    × ((test : ℕ → Values → List Event → Option Value → Bool) → P (λ t vs effects b. test t vs effects b ≡ true))

-- A return that has made so many impure calls answers so: that is what the rule's right side does, where the calls make their effects and
-- have their answers.
abbrev pub IsRightSide : TermFacts → Completion → Values → List (Option Value) → TypedRule → ℕ → Option Value → Type 0
IsRightSide facts c args answers rule many answer = (a : ℕ → Value) → MatchesWith facts c args rule a → (effects : ℕ → List Event)
    → WhateverIsMade (λ makes. AreMade c makes a (steps_of facts rule.right) answers many effects
    → RightOf facts c makes a rule (effects_from effects 0 many) answer)

-- Where the answers to a rule's impure calls are allowed, and all that its right side meets is answered, a return that ends so and makes these
-- calls answers, the calls are the rule's in order, and that is what its right side does.
abbrev pub ReturnsItsRight : (Sym → List ℕ) → RulesOverSites → TermFacts → Completion → Values → List (Option Value) → TypedRule → ℕ → Bound
    → List ℕ → Type 0
ReturnsItsRight name set facts c args answers rule i b calls = AreAllowed facts rule answers
    → IsMet (rules_of name set) (held_by name set.sites facts c args answers) (rights (rules_of name set) i)
    → (calls ≡ trace (rules_of name set) (held_by name set.sites facts c args answers) ((rules_of name set).calls i))
    × ((answer : Option Value)
    × AnswersWith (facts.partial rule.root) (held_by name set.sites facts c args answers ((rules_of name set).result i)) b answer
    × IsRightSide facts c args answers rule (length calls) answer)

-- What a walk's outcome under these answers says: the rule at this place of the set's rules is chosen, and the return does its right side;
-- or none matches.
abbrev pub DoesAsRules : (Sym → List ℕ) → RulesOverSites → TermFacts → Completion → Values → List (Option Value) → List TypedRule → ℕ
    → List ℕ → Outcome → Type 0
DoesAsRules name set facts c args answers rules term places (chooses i b calls) =
    (place : ℕ) × (rule : TypedRule) × (slice_get places i ≡ Some place) × IsChosen facts c args rules term place rule
    × ReturnsItsRight name set facts c args answers rule i b calls
DoesAsRules name set facts c args answers rules term places ends =
    (place : ℕ) (rule : TypedRule) → IsRuleOf rules term place rule → Matches facts c args rule → ⊥
DoesAsRules name set facts c args answers rules term places (waits s) = ⊥
DoesAsRules name set facts c args answers rules term places stops = ⊥

-- The set of a term that asks no `multi` term: under a completion that covers the term, and any answers to impure calls in order, the walk
-- chooses the matching rule of greatest priority, and does its right side.
abbrev pub AnswersAsRules : RulesOverSites → BlockShown → Type 0
AnswersAsRules set block = (env : TermTables) (d : AreDefined env) (term : ℕ)
    (h : IsRunnableSet (name_of env d) (facts_by env d) env.rules (rules_by env d) term set) (c : Completion) (args : Values)
    → IsAllowed (facts_by env d) c → count args ≡ length h.runnable.types → CoversTerm (facts_by env d) c args (rules_by env d) term
    → (answers : List (Option Value))
    → DoesAsRules (name_of env d) set (facts_by env d) c args answers (rules_by env d) term h.is.places
    (walk (rules_of (name_of env d) set) (held_by (name_of env d) set.sites (facts_by env d) c args answers) block.tree)
