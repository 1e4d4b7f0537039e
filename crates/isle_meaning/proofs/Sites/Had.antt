-- The calls in what a rule demands, and in what its variables stand for, are those of its patterns and if-lets.
use Rattle.std.proofs.Common.{inl, inr, ℕ, suc, List, [], ◌∷◌, refl}
use Rattle.isle_rules.specs.TypedRules.{TypedPattern, typed_bind, typed_var, typed_bool, typed_int, typed_prim, typed_term, typed_wildcard}
use Rattle.isle_rules.specs.TypedRules.{typed_and, TypedPatterns, no_typed, more_typed, TypedIfLet, TypedRule}
use Rattle.isle_meaning.specs.Facts.{TermShape, variant_shape, struct_shape, declared_shape, TermFacts, patterns}
use Rattle.isle_meaning.specs.Sites.{Site, argument, extractor_call}
use Rattle.isle_meaning.specs.AboutSites.Parts.{parts_of, IsOneOf}
use Rattle.isle_meaning.specs.Demands.{parts, bound, iflet_site, args_bound, vars_of}
use Rattle.isle_meaning.specs.Scopes.{OfCall, OfCalls, OfAllCalls, OfIfLets}
use Rattle.isle_meaning.specs.Asking.{IsOpenedAt, IsSiteOfPattern, IsSiteOfPatterns, IsSiteOfIfLets, IsSiteOfRule}
use Rattle.isle_meaning.specs.AboutSites.RuleCalls.{IsCall, IsWithinRule, ItsCallsAreHad}
use Rattle.isle_meaning.specs.Laws.Sites.{DemandedCallsAreHad}
use Rattle.isle_meaning.proofs.Sites.Parts.{part_of}
use Rattle.isle_meaning.proofs.Sites.Carried.{IsCarried, subtrees_carry, rule_carries, variables_carry}

module _ (facts : TermFacts) (rule : TypedRule) where
  -- a call is one that the rule has
  abbrev IsHad : Site → Type 0
  IsHad u = IsCall u → IsWithinRule facts rule u

  -- what other sites have no call of their own passes on
  had_carried : IsCarried (ItsCallsAreHad facts rule)
  had_carried = subtrees_carry IsHad (record {
    argument = λ i z. absurd z;
    nothing = λ k z. absurd z;
    variant = λ s k i z. absurd z;
    struct = λ s i z. absurd z;
    content = λ s z. absurd z;
    item = λ s z. absurd z;
    output = λ s i z. absurd z;
  })

  -- the calls in a site of the rule are had
  own_had : (s : Site) → IsSiteOfRule facts rule s → ItsCallsAreHad facts rule s
  own_had s is u m z = (s, is, m)

  -- of an extractor's call
  opened_had : (shape : TermShape) (t : ℕ) (s : Site) → ((u : Site) → IsOpenedAt shape t s u → IsSiteOfRule facts rule u)
      → OfCall (ItsCallsAreHad facts rule) shape t s
  opened_had (variant_shape k) t s f = tt
  opened_had struct_shape t s f = tt
  opened_had declared_shape t s f = own_had (extractor_call t s) (f (extractor_call t s) refl)

  mutual
    -- of those of a pattern
    pattern_had : (p : TypedPattern) (s : Site) → ((u : Site) → IsSiteOfPattern facts p s u → IsSiteOfRule facts rule u)
        → OfCalls facts (ItsCallsAreHad facts rule) p s
    pattern_had (typed_bind ty k p) s f = pattern_had p s f
    pattern_had (typed_var ty k) s f = tt
    pattern_had (typed_bool ty b) s f = tt
    pattern_had (typed_int ty n) s f = tt
    pattern_had (typed_prim ty n) s f = tt
    pattern_had (typed_term ty t ps) s f = (
      opened_had (facts.shape t) t s (λ u h. f u (inl h)),
      patterns_had ps (parts facts (facts.shape t) t (patterns ps) s) (λ u h. f u (inr h)),
    )
    pattern_had (typed_wildcard ty) s f = tt
    pattern_had (typed_and ty ps) s f = patterns_had ps (λ i. s) f

    -- of patterns
    patterns_had : (ps : TypedPatterns) (at : ℕ → Site) → ((u : Site) → IsSiteOfPatterns facts ps at u → IsSiteOfRule facts rule u)
        → OfAllCalls facts (ItsCallsAreHad facts rule) ps at
    patterns_had no_typed at f = tt
    patterns_had (more_typed p ps) at f =
        (pattern_had p (at 0) (λ u h. f u (inl h)), patterns_had ps (λ i. at (suc i)) (λ u h. f u (inr h)))

  -- of if-lets
  iflets_had : (xs : List TypedIfLet) (vars : ℕ → Site) → ((u : Site) → IsSiteOfIfLets facts xs vars u → IsSiteOfRule facts rule u)
      → OfIfLets facts (ItsCallsAreHad facts rule) xs vars
  iflets_had [] vars f = tt
  iflets_had (x ∷ xs) vars f = (
    own_had (iflet_site facts vars x) (f (iflet_site facts vars x) (inl refl)),
    pattern_had x.pattern (iflet_site facts vars x) (λ u h. f u (inr (inl h))),
    iflets_had xs (bound facts x.pattern (iflet_site facts vars x) vars) (λ u h. f u (inr (inr h))),
  )

  -- of the rule's patterns
  args_had : OfAllCalls facts (ItsCallsAreHad facts rule) rule.args argument
  args_had = patterns_had rule.args argument (λ u h. inl h)

  -- of its if-lets
  lets_had : OfIfLets facts (ItsCallsAreHad facts rule) rule.iflets (args_bound facts rule)
  lets_had = iflets_had rule.iflets (args_bound facts rule) (λ u h. inr h)

pub demanded_calls_are_had : DemandedCallsAreHad
demanded_calls_are_had facts rule d e =
    rule_carries facts (ItsCallsAreHad facts rule) (had_carried facts rule) rule (args_had facts rule) (lets_had facts rule) d e
