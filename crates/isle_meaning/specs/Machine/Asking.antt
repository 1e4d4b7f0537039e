-- Which call a machine's run asks.
use Rattle.std.specs.Prelude.{◌≡◌, ◌⊎◌, ℕ, List}
use Rattle.isle_rules.specs.TypedRules.{TypedRule}
use Rattle.isle_meaning.specs.Answers.{Completion}
use Rattle.isle_meaning.specs.Asking.{Asked, AsksToFinish, IsCallOn, IsNeededCall, Links, EndsAt, asks_value}
use Rattle.isle_meaning.specs.Calls.{Agrees, IsRuleAt, CoversAll, Means}
use Rattle.isle_meaning.specs.Demands.{Demand, constrained, equal}
use Rattle.isle_meaning.specs.Facts.{TermFacts}
use Rattle.isle_meaning.specs.Demands.{DemandOf}
use Rattle.isle_meaning.specs.Outcomes.{Outcome, given, missing, ended}
use Rattle.isle_meaning.specs.Sites.{Site}
use Rattle.isle_meaning.specs.Subtrees.{IsSubtree}
use Rattle.isle_meaning.specs.Values.{Value, Values}
use Rattle.isle_meaning.specs.Worlds.{CheckedProgram, Answers, Event}

-- a demand is of the site
abbrev pub IsOfSite : Demand → Site → Type 0
IsOfSite (constrained s c) u = u ≡ s
IsOfSite (equal a b) u = (u ≡ a) ⊎ (u ≡ b)

-- a rule demands something of the site
abbrev pub IsDemanded : TermFacts → TypedRule → Site → Type 0
IsDemanded facts rule s = (d : Demand) × DemandOf facts rule d × IsOfSite d s

-- Before a rule is chosen: a rule of the term demands something of a site, and the call is that site or a subtree of it, on the same
-- arguments under every completion that agrees and covers the term.
pub record AsksToTest (p : CheckedProgram) (w : Answers) (n t : ℕ) (args : Values) (q : Asked) : Type 0 where
  pub place : ℕ
  pub rule : TypedRule
  pub at : IsRuleAt p t place rule
  pub site : Site
  pub demanded : IsDemanded p.terms rule site
  pub call : Site
  pub within : IsSubtree call site
  pub fixed : (c : Completion) → Agrees p w (Means p w n) c → CoversAll p c t args → IsCallOn p.terms c args call q

-- the links of a machine's run, which makes no call but those that tests ask before a rule is chosen, and then those that its right side
-- needs
abbrev pub machine_links : CheckedProgram → Answers → Links
machine_links p w = record { chooses = AsksToTest p w; finishes = AsksToFinish p w (IsNeededCall p.terms) }

-- what an outcome says of a chain of asking: where the call ends unanswered, one ends so
abbrev pub IsAskedByMachine : CheckedProgram → Answers → ℕ → ℕ → Values → List Event → Outcome Value → Type 0
IsAskedByMachine p w n t args trace (given v) = Unit {0}
IsAskedByMachine p w n t args trace missing = Unit {0}
IsAskedByMachine p w n t args trace (ended e) = EndsAt p w (machine_links p w) n (asks_value t args) trace e
