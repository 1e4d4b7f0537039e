-- Runs of visits of the parts of a rule.
use Rattle.std.proofs.Common.{◌≡◌, ◌<◌, ◌+◌, ◌-◌, ℕ, suc, List, [], length, drop, get_or, Result, Ok, Err, inl, inr, refl, arith}
use Rattle.isle_types.specs.declared.ids.TypeId.{TypeId}
use Rattle.isle_rules.specs.declared.rules.IfLet.{IfLet}
use Rattle.isle_rules.specs.declared.rules.Pattern.{Pattern}
use Rattle.isle_rules.specs.declared.terms.Term.{Term}
use Rattle.isle_rules.specs.declared.visit.fault.VisitFault.{VisitFault}
use Rattle.isle_rules.specs.declared.visit.fault.VisitFault.TheVariants.{Undefined}
use Rattle.isle_rules.specs.Visits.Runs.{Run, asks, in_turn}
use Rattle.isle_rules.specs.Visits.VisitScopes.{VisitScope}
use Rattle.isle_rules.specs.Visits.VisitorCalls.{PatternCall, ExprCall}
use Rattle.isle_rules.specs.Visits.RuleSteps.{RuleSteps}
use Rattle.isle_rules.specs.Visits.RuleEvents.{visits_part, visits_args, visits_value, visits_iflets}
use Rattle.isle_rules.proofs.Visiting.VisitRuns.{went, cut, no_type, cut_type}

pub left : (count index : ℕ) → index < count → count - index ≡ suc (count - (index + 1))
left count index h = omega arith

module _ {S P E X I J : Type 0} (steps : RuleSteps S P E X I J) (step : PatternCall I → Run P (List I)) (terms : List Term)
    (ps : List Pattern) (tys : List TypeId) (i : ℕ) (p : Pattern) (scope : VisitScope I) (s : S) (m : i < length ps) (is : p ≡ get_or ps i p) where
  pub args_short : drop i tys ≡ [] → visits_args steps step terms (drop i ps) (drop i tys) i scope s (Err Undefined) s
  args_short past = rw (cut ps i p m is, past) (inl refl, refl)

  module _ (n : i < length tys) where
    pub args_more : (id : I) (after : VisitScope I) (mid last : S) (o : Result (VisitScope I) VisitFault) (s' : S)
        → steps.arg (i, get_or tys i no_type) s (Ok id) mid → visits_part steps step terms p id scope mid (Ok after) last
        → visits_args steps step terms (drop (i + 1) ps) (drop (i + 1) tys) (i + 1) after last o s'
        → visits_args steps step terms (drop i ps) (drop i tys) i scope s o s'
    args_more id after mid last o s' told run rest =
        let others = λ (y : VisitScope I). visits_args steps step terms (drop (i + 1) ps) (drop (i + 1) tys) (i + 1) y in
        rw (cut ps i p m is, cut_type tys i n)
        (went (asks steps.arg (i, get_or tys i no_type)) (λ x. in_turn (visits_part steps step terms p x scope) others) id s mid o s' told
        (went (visits_part steps step terms p id scope) others after mid last o s' run rest))

    pub args_stop_at_arg : (f : VisitFault) (s' : S) → steps.arg (i, get_or tys i no_type) s (Err f) s'
        → visits_args steps step terms (drop i ps) (drop i tys) i scope s (Err f) s'
    args_stop_at_arg f s' told = rw (cut ps i p m is, cut_type tys i n) (inl (inl told))

    pub args_stop : (id : I) (mid : S) (f : VisitFault) (s' : S) → steps.arg (i, get_or tys i no_type) s (Ok id) mid
        → visits_part steps step terms p id scope mid (Err f) s'
        → visits_args steps step terms (drop i ps) (drop i tys) i scope s (Err f) s'
    args_stop id mid f s' told run = rw (cut ps i p m is, cut_type tys i n) (inr (id, mid, told, inl run))

module _ {S P E X I J : Type 0} (steps : RuleSteps S P E X I J) (pattern_step : PatternCall I → Run P (List I)) (expr_step : ExprCall J → Run E J)
    (terms : List Term) (count : ℕ) (ls : List IfLet) (i : ℕ) (l : IfLet) (scope : VisitScope I) (s : S) (m : i < length ls)
    (at : l ≡ get_or ls i l) where
  pub iflets_more : (x : X) (id : I) (after : VisitScope I) (valued sited last : S) (o : Result (VisitScope I) VisitFault) (s' : S)
      → visits_value steps expr_step terms count l.rhs scope s (Ok x) valued → steps.expr_as_pattern x valued (Ok id) sited
      → visits_part steps pattern_step terms l.lhs id scope sited (Ok after) last
      → visits_iflets steps pattern_step expr_step terms count (drop (i + 1) ls) after last o s'
      → visits_iflets steps pattern_step expr_step terms count (drop i ls) scope s o s'
  iflets_more x id after valued sited last o s' v t r rest =
      let others = λ (w : VisitScope I). visits_iflets steps pattern_step expr_step terms count (drop (i + 1) ls) w in
      let part = λ (z : I). visits_part steps pattern_step terms l.lhs z scope in
      rw (cut ls i l m at)
      (went (visits_value steps expr_step terms count l.rhs scope) (λ y. in_turn (asks steps.expr_as_pattern y) (λ z. in_turn
      (part z) others)) x s valued o s' v
      (went (asks steps.expr_as_pattern x) (λ z. in_turn (part z) others) id valued sited o s' t
      (went (part id) others after sited last o s' r rest)))

  pub iflets_stop_at_value : (f : VisitFault) (s' : S) → visits_value steps expr_step terms count l.rhs scope s (Err f) s'
      → visits_iflets steps pattern_step expr_step terms count (drop i ls) scope s (Err f) s'
  iflets_stop_at_value f s' v = rw (cut ls i l m at) (inl v)

  pub iflets_stop_at_input : (x : X) (valued : S) (f : VisitFault) (s' : S)
      → visits_value steps expr_step terms count l.rhs scope s (Ok x) valued → steps.expr_as_pattern x valued (Err f) s'
      → visits_iflets steps pattern_step expr_step terms count (drop i ls) scope s (Err f) s'
  iflets_stop_at_input x valued f s' v t = rw (cut ls i l m at) (inr (x, valued, v, inl (inl t)))

  pub iflets_stop : (x : X) (id : I) (valued sited : S) (f : VisitFault) (s' : S)
      → visits_value steps expr_step terms count l.rhs scope s (Ok x) valued → steps.expr_as_pattern x valued (Ok id) sited
      → visits_part steps pattern_step terms l.lhs id scope sited (Err f) s'
      → visits_iflets steps pattern_step expr_step terms count (drop i ls) scope s (Err f) s'
  iflets_stop x id valued sited f s' v t r = rw (cut ls i l m at) (inr (x, valued, v, inr (id, sited, t, inl r)))
