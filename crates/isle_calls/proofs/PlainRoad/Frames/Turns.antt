-- What a turn of a frame tells, and turns one after another.
use Rattle.std.proofs.Common.{◌≡◌, ◌++◌, ◌<◌, ◌≤◌, ℕ, zero, suc, List, [], ◌∷◌, Option, Some, length, slice_get, refl, sym, ◌∙◌, ap, subst}
use Rattle.std.proofs.lemmas.List.{append-nil}
use Rattle.std.specs.Prelude.{slice_index_or, unwrap_or}
use Rattle.isle_meaning.specs.Values.{Value}
use Rattle.isle_meaning.specs.Worlds.{Event}
use Rattle.isle_calls.specs.declared.plain.evaluation.Evaluation.{Evaluation}
use Rattle.isle_calls.specs.declared.plain.frame.current.At.{At}
use Rattle.isle_calls.specs.declared.plain.frame.current.At.TheVariants.{IfLet, Right, Left, Missed}
use Rattle.isle_calls.specs.declared.plain.frame.current.Current.{Current}
use Rattle.isle_calls.specs.declared.plain.frame.Ending.{Ending}
use Rattle.isle_program.specs.declared.laid.Laid.{Laid}
use Rattle.isle_program.specs.declared.laid.LaidRule.{LaidRule}
use Rattle.isle_calls.specs.declared.store.Stored.{Stored}
use Rattle.isle_program.specs.Plain.LaidOut.Words.{StandBehind}
use Rattle.isle_meaning.specs.Outcomes.{given}
use Rattle.isle_calls.specs.Stores.Values.{Stands}
use Rattle.isle_calls.specs.Inside.Plain.Underway.{known_at}
use Rattle.isle_program.specs.Plain.Laid.{AllStandBehind}
use Rattle.isle_calls.specs.Calls.Open.{CallOf}
use Rattle.isle_calls.specs.Inside.Plain.Frames.{CallComes, RulesLead, RuleTried, Progress, later, IsTryingRule, rule_tried, RuleEnds, laid_at, root_at}
use Rattle.isle_calls.specs.Inside.Plain.Frames.{ending_missing}
use Rattle.isle_calls.proofs.PlainRoad.Frames.Rules.{rule_left}
use Rattle.isle_calls.proofs.PlainRoad.Frames.Evaluated.{MissesAt}
use Rattle.isle_calls.proofs.PlainRoad.Frames.Next.{right_result, right_next}

-- where an item stands or the default does, what holds of both holds
index_or : {A : Type 0} (P : A → Type 0) (xs : List A) (n : ℕ) (d : A) → ((x : A) → slice_get xs n ≡ Some x → P x) → P d → P
    (slice_index_or xs n d)
index_or P [] n d h b = b
index_or P (x ∷ xs) zero d h b = h x refl
index_or P (x ∷ xs) (suc n) d h b = index_or P xs n d h b

-- in the expression at a place each part stands behind those that it is made of
pub behind_at : (laid : LaidRule) (at : At) → AllStandBehind laid → StandBehind (laid_at laid at).parts.items
behind_at laid (IfLet place) h = index_or (λ (x : Laid). StandBehind x.parts.items) laid.iflets.items place laid.right (h.iflets place)
    h.right
behind_at laid (Right place) h = h.right
behind_at laid Left h = h.right
behind_at laid Missed h = h.right

-- where no value comes the rule is left, or the call is answered none
pub misses_end : (k : CallOf) (stored : List Stored) (current : Current) (others : List ℕ) (tried : ℕ) (since : List Event) (at : At)
    → MissesAt (rule_tried k current others tried) since at → RuleEnds k stored current others tried since (ending_missing at)
misses_end k stored current others tried since (IfLet place) h = h
misses_end k stored current others tried since (Right place) h = h
misses_end k stored current others tried since Left h = absurd h
misses_end k stored current others tried since Missed h = absurd h

-- what a rule ends with, where no effects were made
pub ends_none : (k : CallOf) (stored : List Stored) (current : Current) (others : List ℕ) (tried : ℕ) (since : List Event) (ending : Ending)
    → RuleEnds k stored current others tried since ending → RuleEnds k stored current others tried (since ++ []) ending
ends_none k stored current others tried since ending h =
    subst (λ (s : List Event). RuleEnds k stored current others tried s ending) (sym (append-nil since)) h

-- a rule one of whose conditions was answered none is left
pub left_leads : {t : RuleTried} {s : Progress} {since : List Event} → IsTryingRule t s Left since
    → (since ≡ []) × RulesLead t.call t.others t.tried
left_leads h = (h.at.0, rule_left h.is h.at.1)

module _ {t : RuleTried} {s : Progress} {place : ℕ} {since : List Event} (h : IsTryingRule t s (Right place) since)
    (empty : s.evaluation.todo.items ≡ []) where
  -- past the last impure call the result is the call's
  pub result_told : length t.laid.right.calls.items ≤ place → (number : ℕ)
      → number ≡ unwrap_or (known_at s.evaluation t.laid.right.result) 0
      → (v : Value) × Stands s.stored v number × CallComes t.call t.tried since (given v)
  result_told past number is =
      let (n, found, (v, stands, comes)) = right_result h.at empty past in
      let same : number ≡ n = is ∙ ap (λ (o : Option ℕ). unwrap_or o 0) found in
      (v, subst (Stands s.stored v) (sym same) stands, comes)

  -- before, the next is asked for
  pub next_told : place < length t.laid.right.calls.items → (after : Evaluation) (next : ℕ) → next ≡ suc place
      → after.todo.items ≡ s.evaluation.todo.items ++ root_at t.laid.right next ∷ [] → after.known ≡ s.evaluation.known
      → after.missed ≡ s.evaluation.missed → IsTryingRule t (later s s.stored after) (Right next) since
  next_told less after next is joined same missed =
      subst (λ (n : ℕ). IsTryingRule t (later s s.stored after) (Right n) since) (sym is) (record {
        is = h.is;
        at = right_next h.at empty less after
            (subst (λ (n : ℕ). after.todo.items ≡ s.evaluation.todo.items ++ root_at t.laid.right n ∷ []) is joined) same missed;
      })
