-- The laws.
use Rattle.std.proofs.Common.{ℕ, List, [], ◌∷◌, ap, refl}
use Rattle.isle_meaning.specs.Values.{Value, Values}
use Rattle.isle_rules.specs.TypedRules.{TypedRule}
use Rattle.isle_meaning.specs.Facts.{TermFacts}
use Rattle.isle_meaning.specs.Answers.{Completion}
use Rattle.isle_meaning.specs.Matching.{MatchesWith, Matches}
use Rattle.isle_meaning.specs.Sites.{argument}
use Rattle.isle_meaning.specs.Held.{held, value}
use Rattle.isle_meaning.specs.Demands.{Demand, constrained, equal, args_bound, nothing, demands_of, demands_all, vars_of}
use Rattle.isle_meaning.specs.Derived.{Closed}
use Rattle.isle_meaning.specs.Holds.{Holds, Each, AllHold, AllHoldProper}
use Rattle.isle_meaning.specs.Scopes.{none, scope_of, scope_all, IsWellScopedRule}
use Rattle.isle_meaning.specs.Laws.Matching.{Settles, MatchesByDemands, MatchesByProper, MatchesByClosed, MatchesDerived}
use Rattle.isle_meaning.specs.Demands.{DemandOf}
use Rattle.isle_meaning.specs.Laws.Matching.{UnreachableIsDead, NeverBoth, WiderMatches}
use Rattle.isle_meaning.proofs.Matching.Basics.{each_append, each_first, each_rest, value_respects}
use Rattle.isle_meaning.proofs.Matching.Children.{Agree, lets_kept}
use Rattle.isle_meaning.proofs.Matching.Forward.{forward_all, forward_lets}
use Rattle.isle_meaning.proofs.Matching.Backward.{at_last, backward_all, backward_lets, IsLast}
use Rattle.isle_meaning.proofs.Matching.Sorting.{among, each_of, demands_suit}
use Rattle.isle_meaning.proofs.Matching.Closing.{derived_holds, is_reachable, never_both, from_closed}

module _ (facts : TermFacts) (c : Completion) (args : Values) (rule : TypedRule) (well : IsWellScopedRule facts rule) where
  no_variable : (a : ℕ → Value) → Agree (value facts c args []) a none nothing
  no_variable a k h = absurd h

  pub both_forward : (a : ℕ → Value) → MatchesWith facts c args rule a → AllHold (value facts c args []) (demands_of facts rule)
      × Agree (value facts c args []) a (scope_of rule) (vars_of facts rule)
  both_forward a m =
      let r = forward_all facts c args a rule.args none nothing argument args (well.args) (no_variable a) (λ i x e. ap held e) (m.0) in
      let q = forward_lets facts c args a rule.iflets (scope_all rule.args none) (args_bound facts rule) (well.iflets) (r.1) (m.1) in
      (each_append (Holds (value facts c args [])) (demands_all facts rule.args argument nothing) _ (r.0) (q.0), q.1)

  pub both_backward : Settles facts c args rule → AllHoldProper (value facts c args []) (demands_of facts rule) → Matches facts c args rule
  both_backward s h =
      let a = at_last facts c args (s.allowed) (vars_of facts rule) in
      let low : IsLast (vars_of facts rule) (scope_all rule.args none) (args_bound facts rule) =
      λ j i. lets_kept facts rule.iflets (args_bound facts rule) (scope_all rule.args none) j (well.iflets) i in
      let r = backward_all facts c args (s.allowed) (vars_of facts rule) rule.args none nothing argument args (well.args) (no_variable a)
      low (λ i x e. ap held e) (s.takes) (s.covers.0) (each_first _ (demands_all facts rule.args argument nothing) _ h) in
      let q = backward_lets facts c args (s.allowed) (vars_of facts rule) rule.iflets (scope_all rule.args none) (args_bound facts rule)
      (well.iflets) (r.1) (λ j i. refl) (s.covers.1) (each_rest _ (demands_all facts rule.args argument nothing) _ h) in
      (a, (r.0, q.0))

  pub all_hold : Matches facts c args rule → (d : Demand) → DemandOf facts rule d → Holds (value facts c args []) d
  all_hold m = among (Holds (value facts c args [])) (demands_of facts rule) ((both_forward (m.0) (m.1)).0)

each_map : (P Q : Demand → Type 0) (ds : List Demand) → ((d : Demand) → P d → Q d) → Each P ds → Each Q ds
each_map P Q [] f h = tt
each_map P Q (d ∷ ds) f h = (f d (h.0), each_map P Q ds f (h.1))

pub matches_by_proper : MatchesByProper
matches_by_proper facts c args rule well s = (
  λ m. each_map _ _ (demands_of facts rule) (λ d h p. h) ((both_forward facts c args rule well (m.0) (m.1)).0),
  both_backward facts c args rule well s,
)

pub matches_by_demands : MatchesByDemands
matches_by_demands facts c args rule well s = (
  λ m. (both_forward facts c args rule well (m.0) (m.1)).0,
  λ h. both_backward facts c args rule well s (each_map _ _ (demands_of facts rule) (λ d g p. g) h),
)

pub matches_derived : MatchesDerived
matches_derived facts c args rule well m d h =
    derived_holds (value facts c args []) (value_respects facts c args []) (DemandOf facts rule) (all_hold facts c args rule well m) d h

closed_holds : (facts : TermFacts) (c : Completion) (args : Values) (rule : TypedRule) → IsWellScopedRule facts rule
    → Matches facts c args rule → (d : Demand) → Closed (DemandOf facts rule) d → Holds (value facts c args []) d
closed_holds facts c args rule well m (constrained s k) h = matches_derived facts c args rule well m (constrained s k) h
closed_holds facts c args rule well m (equal s u) h = matches_derived facts c args rule well m (equal s u) (h.0)

pub matches_by_closed : MatchesByClosed
matches_by_closed facts tys c args rule is s = (
  closed_holds facts c args rule (is.well),
  λ closed. both_backward facts c args rule (is.well) s (each_of _ (demands_of facts rule)
      (λ d i p. from_closed (value facts c args []) (value_respects facts c args []) facts tys (DemandOf facts rule)
      (demands_suit facts tys rule is) closed d i p)),
)

pub unreachable_is_dead : UnreachableIsDead
unreachable_is_dead facts tys c args rule is u m =
    is_reachable (value facts c args []) (value_respects facts c args []) (DemandOf facts rule) (all_hold facts c args rule (is.well) m)
    facts tys (demands_suit facts tys rule is) u

pub never_match_both : NeverBoth
never_match_both facts tys c args one other is its d m n =
    never_both (value facts c args []) (value_respects facts c args []) facts tys (DemandOf facts one) (DemandOf facts other)
    (demands_suit facts tys one is) (demands_suit facts tys other its)
    (all_hold facts c args one (is.well) m) (all_hold facts c args other (its.well) n) d

pub wider_matches : WiderMatches
wider_matches facts tys c args wide narrow is its s free within m = (matches_by_closed facts tys c args wide is s).1 closed
  where
    closed : (d : Demand) → Closed (DemandOf facts wide) d → Holds (value facts c args []) d
    closed (constrained a k) h = matches_derived facts c args narrow (its.well) m (constrained a k) (within a k h)
    closed (equal a u) h = absurd (free a u h)
