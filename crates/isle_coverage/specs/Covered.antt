-- Whether some rule of a term matches, whatever calls answer.
use Rattle.std.specs.Prelude.{◌≡◌, ◌⊎◌, ℕ, true}
use Rattle.isle_rules.specs.TypedRules.{TypedRule}
use Rattle.isle_meaning.specs.Answers.{Completion, IsAllowed}
use Rattle.isle_meaning.specs.Calls.{CoversAll, HasTypedAnswers, IsRuleAt}
use Rattle.isle_meaning.specs.GroundValues.{AreValuesOf}
use Rattle.isle_meaning.specs.Matching.{Matches}
use Rattle.isle_meaning.specs.Values.{Values}
use Rattle.isle_meaning.specs.Worlds.{CheckedProgram}

-- a rule of the term matches these arguments, where calls are answered so
pub record SomeRuleMatches (p : CheckedProgram) (c : Completion) (t : ℕ) (args : Values) : Type 0 where
  pub place : ℕ
  pub rule : TypedRule
  pub at : IsRuleAt p t place rule
  pub matches : Matches p.terms c args rule

-- Calls may be answered so: each answer is of its term's type, only a term that may fail answers none, and what the term's rules ask on these
-- arguments is answered.
pub record MayAnswer (p : CheckedProgram) (c : Completion) (t : ℕ) (args : Values) : Type 0 where
  pub allowed : IsAllowed p.terms c
  pub typed : HasTypedAnswers p c
  pub covers : CoversAll p c t args

-- On arguments of the term's types some rule matches, whatever calls answer.
abbrev pub IsCovered : CheckedProgram → ℕ → Type 0
IsCovered p t = (c : Completion) (args : Values) → MayAnswer p c t args → AreValuesOf p.values args (p.terms.inputs t) → SomeRuleMatches p c t args

-- On these arguments no rule matches, whatever calls answer.
abbrev pub IsMissed : CheckedProgram → ℕ → Values → Type 0
IsMissed p t args = (c : Completion) → MayAnswer p c t args → SomeRuleMatches p c t args → ⊥

-- a term is covered, or is answered none where no rule matches
abbrev pub IsNeverStuck : CheckedProgram → ℕ → Type 0
IsNeverStuck p t = (p.terms.partial t ≡ true) ⊎ IsCovered p t
