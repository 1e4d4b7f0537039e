-- What a loop over all definitions of a text promises.
use Rattle.std.proofs.Common.{◌≡◌, ◌<◌, List, [], ◌∷◌, length, arith, None, Bool, true, false, refl, sym, ap, ◌∙◌}
use Rattle.isle_ast.specs.declared.ast.Def.{Def}
use Rattle.isle_ast.specs.declared.error.Span.{Span}
use Rattle.isle_ast.specs.declared.error.Error.{Error}
use Rattle.isle_ast.specs.declared.error.Error.TheVariants.{ParseError, SizeError}
use Rattle.isle_ast.specs.declared.refusal.Refusal.{Refusal}
use Rattle.isle_ast.specs.declared.refusal.Refusal.TheVariants.{Fault, Memory}
use Rattle.isle_ast.specs.Errors.{IfFault, span_at}
use Rattle.isle_syntax.specs.Tokens.PlacedTokens.{Placed}
use Rattle.isle_syntax.specs.Tokens.RemainingTokens.{RemainingTokens, next_pos, remaining_pos}
use Rattle.isle_syntax.specs.Tokens.LexerCalls.{HasEnded}
use Rattle.isle_syntax.specs.Inside.Reading.Readers.{Read, done, fault, deep, at_end, all_of}
use Rattle.isle_syntax.specs.Inside.Reading.DefReading.{def}
use Rattle.isle_syntax.specs.Inside.Reading.Parsing.{at_fault, at_deep, stop_of, bounds, TellsStop, RefusesAt}
use Rattle.isle_syntax.specs.Grammar.Verdict.{max_nesting, IsFaultOf, IsSpelt}
use Rattle.isle_syntax.proofs.Reading.Loops.{Turns, turn_refuses, turns_end}
use Rattle.isle_syntax.proofs.Productions.Texts.{spelt_from_reading, fault_from_reading, fault_at_end, deep_from_reading}

fault_of : {A : Type 0} (x : Read A) (r : List Placed) → stop_of x ≡ at_fault r → x ≡ fault r
fault_of (done a q) r e = cc
fault_of (fault q) r e = let same : q ≡ r = cc in ap fault same
fault_of (deep q) r e = cc

deep_of : {A : Type 0} (x : Read A) (r : List Placed) → stop_of x ≡ at_deep r → x ≡ deep r
deep_of (done a q) r e = cc
deep_of (fault q) r e = cc
deep_of (deep q) r e = let same : q ≡ r = cc in ap deep same

-- the place of a refusal, in the text as it was at first
same_place : (old new : RemainingTokens) (span : Span) → span ≡ span_at (remaining_pos new) → bounds new ≡ bounds old
    → span ≡ span_at (next_pos old.source old.end new.left)
same_place old new span e same = e ∙ (λ i. span_at (next_pos (same i).1.1 (same i).0 new.left))

module _ (old begun new : RemainingTokens) (xs : List Def) (t : Turns at_end (def max_nesting) (all_of (def max_nesting) old.left) xs begun.left)
    (same : bounds begun ≡ bounds old) where
  -- a definition that can't be read
  inside : (e : Error) → at_end begun.left ≡ None → TellsStop begun new e (stop_of (def max_nesting begun.left)) → IsFaultOf old e
  inside e going told =
      by_error e (turn_refuses at_end (def max_nesting) (all_of (def max_nesting) old.left) begun begun old new xs (Fault e) t same (going, refl)
      told)
    where
      by_error : (e : Error) → TellsStop old new e (stop_of (all_of (def max_nesting) old.left)) → IsFaultOf old e
      by_error (ParseError m p) k = fault_from_reading old new.left p (fault_of (all_of (def max_nesting) old.left) new.left k.0)
          (same_place old new p k.1 k.2)
      by_error (SizeError m p) k = deep_from_reading old new.left p (deep_of (all_of (def max_nesting) old.left) new.left k.0)
          (same_place old new p k.1 k.2)
      by_error _ k = absurd k

  -- what is no token, behind the last definition
  behind : (e : Error) → begun.left ≡ [] → begun.clean ≡ false → TellsStop begun new e (stop_of (def max_nesting begun.left)) → IsFaultOf old e
  behind (ParseError m p) none unclean told =
      let all = turns_end at_end (def max_nesting) (all_of (def max_nesting) old.left) xs begun.left [] t (ap at_end none) in
      let nothing : at_fault [] ≡ at_fault new.left = ap (λ l. stop_of (def max_nesting l)) (sym none) ∙ told.0 in
      let left : new.left ≡ [] = cc in
      let place = same_place old new p told.1 (told.2 ∙ same) ∙ ap (λ l. span_at (next_pos old.source old.end l)) left in
      fault_at_end old xs p all (sym (ap (λ b. b.1.0) same) ∙ unclean) place
  behind (SizeError m p) none unclean told =
      let nothing : at_fault [] ≡ at_deep new.left = ap (λ l. stop_of (def max_nesting l)) (sym none) ∙ told.0 in absurd (cc)
  behind _ none unclean told = absurd told

  pub refusal_is_fault : (r : Refusal Error) → (HasEnded begun → ⊥) → RefusesAt begun new r (stop_of (def max_nesting begun.left))
      → IfFault r (IsFaultOf old)
  refusal_is_fault (Memory e) going told = tt
  refusal_is_fault (Fault e) going told = by_left begun.left refl
    where
      by_clean : (b : Bool) → begun.clean ≡ b → begun.left ≡ [] → IsFaultOf old e
      by_clean true c none = absurd (going (record { none_left = none; clean = c }))
      by_clean false c none = behind e none c told

      by_left : (l : List Placed) → begun.left ≡ l → IsFaultOf old e
      by_left [] none = by_clean begun.clean refl none
      by_left (k ∷ l) some = inside e (ap at_end some) told

  -- all definitions
  pub all_are_spelt : HasEnded begun → IsSpelt old xs
  all_are_spelt ended =
      spelt_from_reading old xs (turns_end at_end (def max_nesting) (all_of (def max_nesting) old.left) xs begun.left [] t
      (ap at_end ended.none_left)) (sym (ap (λ b. b.1.0) same) ∙ ended.clean)

-- where something was read, the end wasn't reached
pub at_end_none : (ts r : List Placed) → length r < length ts → at_end ts ≡ None
at_end_none [] r less = absurd (omega (arith, less))
at_end_none (t ∷ ts) r less = refl
