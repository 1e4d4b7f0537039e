-- Runs that never answer that something isn't defined, and of whose answers something holds.
use Rattle.std.proofs.Common.{◌≡◌, ◌⊎◌, inl, inr, Option, Some, Ok, Err, subst}
use Rattle.isle_types.specs.declared.ids.TypeId.{TypeId}
use Rattle.isle_rules.specs.declared.visit.fault.VisitFault.TheVariants.{Undefined, Memory}
use Rattle.isle_rules.specs.Visits.Runs.{Run, done, asks, in_turn, on_some}
use Rattle.isle_rules.specs.Visits.RuleSteps.{RuleSteps, in_pattern, in_expr}
use Rattle.isle_rules.specs.Visits.OwnFaults.{NeverUndefined}

pub record Sound {S A : Type 0} (run : Run S A) (Q : A → Type 0) : Type 0 where
  pub never : NeverUndefined run
  pub gives : (s s' : S) (a : A) → run s (Ok a) s' → Q a

-- want of memory is another fault
pub not_memory : Undefined ≡ Memory → ⊥
not_memory e = cc

pub sound_done : {S A : Type 0} (a : A) (Q : A → Type 0) → Q a → Sound {S = S} (done a) Q
sound_done a Q q = record { never = λ s s' h. not_memory h.0; gives = λ s s' b h. subst Q h.0 q }

pub sound_asks : {S C A : Type 0} (step : C → Run S A) (call : C) (Q : A → Type 0) → NeverUndefined (step call)
    → ((s s' : S) (a : A) → step call s (Ok a) s' → Q a) → Sound (asks step call) Q
sound_asks {S} {C} step call Q never gives = record { never = λ s s' h. told s s' h; gives = gives }
  where
    told : (s s' : S) → step call s (Err Undefined) s' ⊎ ((Undefined ≡ Memory) × (s ≡ s')) → ⊥
    told s s' (inl h) = never s s' h
    told s s' (inr h) = not_memory h.0

pub sound_turn : {S A B : Type 0} (first : Run S A) (rest : A → Run S B) (P : A → Type 0) (Q : B → Type 0) → Sound first P
    → ((a : A) → P a → Sound (rest a) Q) → Sound (in_turn first rest) Q
sound_turn {S} {A} first rest P Q f r = record {
  never = λ s s' h. told s s' h;
  gives = λ s s' b h. (r h.0 (f.gives s h.1 h.0 h.2)).gives h.1 s' b h.3;
}
  where
    told : (s s' : S) → first s (Err Undefined) s' ⊎ ((a : A) × (mid : S) × first s (Ok a) mid × rest a mid (Err Undefined) s') → ⊥
    told s s' (inl h) = f.never s s' h
    told s s' (inr h) = (r h.0 (f.gives s h.1 h.0 h.2)).never h.1 s' h.3

pub sound_some : {V S B : Type 0} (o : Option V) (v : V) (some : V → Run S B) (none : Run S B) (Q : B → Type 0) → o ≡ Some v
    → Sound (some v) Q → Sound (on_some o some none) Q
sound_some o v some none Q e h = rw e h

module _ {S P E X I J : Type 0} (steps : RuleSteps S P E X I J) (refuses : (s s' : S) → steps.refuses s Undefined s' → ⊥) where
  pub sound_in_pattern : {A : Type 0} (run : Run P A) (Q : A → Type 0) → Sound run Q → Sound (in_pattern steps run) Q
  sound_in_pattern run Q h = record { never = λ s s' k. told s s' k; gives = λ s s' a k. h.gives k.0 k.1 a k.3 }
    where
      told : (s s' : S) → ((p : P) × (q : P) × steps.opens_pattern s p × run p (Err Undefined) q × steps.closes_pattern s q s')
          ⊎ steps.refuses s Undefined s' → ⊥
      told s s' (inl k) = h.never k.0 k.1 k.3
      told s s' (inr k) = refuses s s' k

  pub sound_in_expr : (run : Run E (TypeId × J)) → NeverUndefined run → Sound (in_expr steps run) (λ x. Unit {0})
  sound_in_expr run h = record { never = λ s s' k. told s s' k; gives = λ s s' a k. tt }
    where
      told : (s s' : S) → ((p : E) × (q : E) × steps.opens_expr s p × run p (Err Undefined) q × steps.closes_expr s q s')
          ⊎ steps.refuses s Undefined s' → ⊥
      told s s' (inl k) = h k.0 k.1 k.3
      told s s' (inr k) = refuses s s' k
