-- The bag of a `multi` term: its rules that match, once for each way to take one item of each multi call that they have; and its walk.
use Rattle.std.specs.Prelude.{◌≡◌, ◌++◌, ℕ, true, List, [], ◌∷◌, Option, Contains, None, Some, length, slice_get}
use Rattle.std.specs.List.{AllPairs, AllZip}
use Rattle.isle_rules.specs.Shown.TermTables.{TermTables}
use Rattle.isle_rules.specs.TypedRules.{TypedRule}
use Rattle.isle_meaning.specs.AboutSites.Functions.{AreFiniteFunctions}
use Rattle.isle_meaning.specs.Answers.{Completion}
use Rattle.isle_meaning.specs.Demands.{Demand, vars_of}
use Rattle.isle_meaning.specs.Elaborated.{OpensItsMultiCalls}
use Rattle.isle_meaning.specs.Facts.{TermFacts}
use Rattle.isle_meaning.specs.Got.{Got, unknown, fails, gives}
use Rattle.isle_meaning.specs.Held.{Held, value, values}
use Rattle.isle_meaning.specs.Holds.{Holds, IsProper}
use Rattle.isle_meaning.specs.Demands.{DemandOf}
use Rattle.isle_meaning.specs.Sites.{Site, sites_of}
use Rattle.isle_meaning.specs.Values.{Value, Values, ask, count}
use Rattle.isle_meaning.specs.Words.{Step, steps_of}
use Rattle.isle_trees.specs.Bag.{IsSameBag, Model, Picks, Round, gave, stopped, walk_all}
use Rattle.isle_trees.specs.Rules.{Rules}
use Rattle.isle_blocks.specs.declared.constraint.Constraint.{Constraint}
use Rattle.isle_blocks.specs.AddedRules.{IsMultiCall}
use Rattle.isle_blocks.specs.DefinedSets.{AreDefined, IsSetOf, facts_by, name_of, rules_by}
use Rattle.isle_blocks.specs.RuleFaults.{own_result}
use Rattle.isle_blocks.specs.RuleSets.{RulesOverSites}
use Rattle.isle_blocks.specs.Trees.Choices.{IsRuleOf}
use Rattle.isle_blocks.specs.Trees.Functions.{HasItem, functions_model}
use Rattle.isle_blocks.specs.Trees.Shown.{BlockShown}
use Rattle.isle_blocks.specs.Trees.View.{rules_of}

-- a way to take items: of each multi call, the place in its list of the item that is taken
abbrev pub Way : Type 0
Way = Site → ℕ

-- a rule's place among the rules, and a way
pub record Match : Type 0 where
  pub rule : ℕ
  pub way : Way

-- these answers to calls, where items are taken so
abbrev pub taking : Completion → Way → Completion
taking c way = record c { place = way }

-- what a function gives, as the answer to an impure call
abbrev pub as_answer : Got Value → Option Value
as_answer unknown = None
as_answer fails = None
as_answer (gives v) = Some v

-- The answers to these impure calls, behind others: each is what the function gives on what the arguments hold after the answers before it.
-- (What stands for one that is `multi` is not read.)
abbrev pub answers_behind : TermFacts → Completion → Values → (ℕ → Site) → List (Option Value) → List Step → List (Option Value)
answers_behind facts c args vars done [] = done
answers_behind facts c args vars done (s ∷ steps) = answers_behind facts c args vars
    (done ++ as_answer (ask (c.construct s.term) (values facts c args done (sites_of facts vars s.args))) ∷ []) steps

-- the answers to a rule's impure calls, in order
abbrev pub impure_answers : TermFacts → Completion → Values → TypedRule → List (Option Value)
impure_answers facts c args rule = answers_behind facts c args (vars_of facts rule) [] (steps_of facts rule.right)

-- what a site of a rule holds, where items are taken so
abbrev pub held_at : TermFacts → Completion → Values → TypedRule → Way → Site → Got Held
held_at facts c args rule way = value facts (taking c way) args (impure_answers facts (taking c way) args rule)

-- a multi call that the rule has
abbrev pub HasMultiCall : TermFacts → TypedRule → Site → Type 0
HasMultiCall facts rule s = IsMultiCall facts (facts.partial rule.root) rule s

-- A rule of the term; of each multi call that it has there is an item at its place; and with these items all that it demands holds.
pub record IsMatch (facts : TermFacts) (c : Completion) (args : Values) (rules : List TypedRule) (term : ℕ) (m : Match) : Type 0 where
  pub rule : TypedRule
  pub is : IsRuleOf rules term m.rule rule
  pub takes : (s : Site) → HasMultiCall facts rule s → (x : Held) × HasItem (held_at facts c args rule m.way s) (m.way s) x
  pub holds : (d : Demand) → DemandOf facts rule d → IsProper d → Holds (held_at facts c args rule m.way) d

-- two matches are one: they are of one rule, and take the same item of each multi call that it has
abbrev pub AreOne : TermFacts → List TypedRule → Match → Match → Type 0
AreOne facts rules m n = (m.rule ≡ n.rule) × ((rule : TypedRule) → slice_get rules m.rule ≡ Some rule → (s : Site) → HasMultiCall facts rule s
    → m.way s ≡ n.way s)

-- The bag: each match of the term's rules, once.
pub record IsBag (facts : TermFacts) (c : Completion) (args : Values) (rules : List TypedRule) (term : ℕ) (bag : List Match) : Type 0 where
  pub sound : (m : Match) → Contains bag m → IsMatch facts c args rules term m
  pub full : (m : Match) → IsMatch facts c args rules term m → (n : Match) × Contains bag n × AreOne facts rules m n
  pub once : AllPairs (λ m n. AreOne facts rules m n → ⊥) bag

-- A return of the walk is that of a match: it is its rule's, by the rule's number in the set, and the result is what the rule gives with these
-- items.
abbrev pub IsReturnAt : TermFacts → Completion → Values → List TypedRule → List ℕ → Rules Constraint Held → Model Held → Round Held → Match → Type 0
IsReturnAt facts c args rules places R M (gave i items) m = (slice_get places i ≡ Some m.rule) × ((rule : TypedRule)
    → slice_get rules m.rule ≡ Some rule → M.values items (R.result i) ≡ held_at facts c args rule m.way (own_result facts rule))
IsReturnAt facts c args rules places R M stopped m = ⊥

-- The set of a `multi` term whose called terms are functions, into finite lists where they are `multi`: the walk that enters a loop's body for
-- each item, and goes on past a return, returns the bag of the term's rules. What the multi calls of their if-lets are made of has its tests.
abbrev pub MakesItsBag : RulesOverSites → BlockShown → Type 0
MakesItsBag set block = (env : TermTables) (d : AreDefined env) (term : ℕ)
    (is : IsSetOf (name_of env d) (facts_by env d) env.rules (rules_by env d) term set) → (facts_by env d).multi term ≡ true
    → ((place : ℕ) (rule : TypedRule) → IsRuleOf (rules_by env d) term place rule → OpensItsMultiCalls (facts_by env d) rule)
    → (c : Completion) (args : Values) → AreFiniteFunctions (facts_by env d) c → count args ≡ length ((facts_by env d).inputs term)
    → (items : Picks Held)
    → (rounds : List (Round Held)) × (bag : List Match)
    × IsSameBag (walk_all (rules_of (name_of env d) set) (functions_model (name_of env d) set (facts_by env d) c args) block.tree items) rounds
    × AllZip (IsReturnAt (facts_by env d) c args (rules_by env d) is.places (rules_of (name_of env d) set)
    (functions_model (name_of env d) set (facts_by env d) c args)) rounds bag
    × IsBag (facts_by env d) c args (rules_by env d) term bag
