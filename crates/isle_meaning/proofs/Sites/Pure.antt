-- What a rule demands, what follows from it, and what its variables stand for has no impure call.
use Rattle.std.proofs.Common.{◌≡◌, ℕ, List, [], ◌∷◌, subst}
use Rattle.std.proofs.lemmas.Option.{none-some}
use Rattle.isle_rules.specs.TypedRules.{TypedIfLet, TypedRule}
use Rattle.isle_meaning.specs.Facts.{TermFacts}
use Rattle.isle_meaning.specs.Words.{Step, word_of, steps_of}
use Rattle.isle_meaning.specs.Sites.{Site, argument, extractor_call}
use Rattle.isle_meaning.specs.Demands.{iflet_site, args_bound}
use Rattle.isle_meaning.specs.Scopes.{OfAllCalls, OfIfLets}
use Rattle.isle_meaning.specs.AboutSites.ImpureCalls.{IsImpureCall, IsPure, IfLetsArePure}
use Rattle.isle_meaning.specs.SoundPrograms.{AskNothingImpure}
use Rattle.isle_meaning.specs.Worlds.{CheckedProgram}
use Rattle.isle_meaning.specs.Laws.Sites.{DemandsArePure}
use Rattle.isle_meaning.proofs.Chains.Causing.{Cites, steps_are_causal}
use Rattle.isle_meaning.proofs.Sites.Carried.{IsCarried, subtrees_carry, variables_carry, rule_carries, args_carried, PassOn, lets_carried}
use Rattle.isle_meaning.proofs.Sites.Steps.{word_steps}

-- no impure call
abbrev IsNone : Site → Type 0
IsNone u = IsImpureCall u → ⊥

-- Sites without impure calls pass on.
pub pure_carried : IsCarried IsPure
pure_carried = subtrees_carry IsNone (record {
  argument = λ i z. z;
  nothing = λ k z. z;
  variant = λ s k i z. z;
  struct = λ s i z. z;
  content = λ s z. z;
  item = λ s z. z;
  output = λ s i z. z;
})

-- nor has an extractor's call of its own
opened_pure : (t : ℕ) (s : Site) → IsNone (extractor_call t s)
opened_pure t s z = z

module _ (facts : TermFacts) where
  -- an if-let's expression without steps has none
  iflet_pure : (vars : ℕ → Site) (x : TypedIfLet) → ((k : ℕ) → IsPure (vars k)) → steps_of facts x.value ≡ [] → IsPure (iflet_site facts vars x)
  iflet_pure vars x v e u m i =
      let cites = subst (λ (steps : List Step). Cites steps (word_of facts x.value)) e ((steps_are_causal facts x.value).1) in
      let (j, s, get, same) = word_steps facts vars v [] (word_of facts x.value) cites u m i in
      none-some s get

  -- nor have those of if-lets
  iflets_pure : (xs : List TypedIfLet) → IfLetsArePure facts xs → PassOn facts IsNone pure_carried opened_pure xs
  iflets_pure [] h = tt
  iflets_pure (x ∷ xs) h = (λ vars v. iflet_pure vars x v (h.0), iflets_pure xs (h.1))

  -- nor the calls of a rule's patterns
  args_pure : (rule : TypedRule) → OfAllCalls facts IsPure rule.args argument
  args_pure rule = args_carried facts IsNone pure_carried opened_pure rule

  -- nor those of its if-lets
  lets_pure : (rule : TypedRule) → IfLetsArePure facts rule.iflets → OfIfLets facts IsPure rule.iflets (args_bound facts rule)
  lets_pure rule h = lets_carried facts IsNone pure_carried opened_pure rule (iflets_pure rule.iflets h)

pub demands_are_pure : DemandsArePure
demands_are_pure facts rule h = (
  rule_carries facts IsPure pure_carried rule (args_pure facts rule) (lets_pure facts rule h),
  variables_carry facts IsPure pure_carried rule (args_pure facts rule) (lets_pure facts rule h),
)

-- The if-lets of a sound program's rule make no impure calls.
pub sound_iflets_are_pure : (p : CheckedProgram) (xs : List TypedIfLet) → AskNothingImpure p xs → IfLetsArePure p.terms xs
sound_iflets_are_pure p [] h = tt
sound_iflets_are_pure p (x ∷ xs) h = (h.0, sound_iflets_are_pure p xs (h.1))
