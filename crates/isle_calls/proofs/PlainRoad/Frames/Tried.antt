-- A frame whose next rule is tried, or which has none left.
use Rattle.std.proofs.Common.{◌≡◌, ◌+◌, ◌<◌, ◌^◌, ℕ, zero, suc, List, [], ◌∷◌, Option, Some, None, length, slice_get}
use Rattle.std.proofs.Common.{refl, sym, ◌∙◌, ap, subst, arith, Contains}
use Rattle.std.proofs.lemmas.List.Elements.{Contains-append_right}
use Rattle.std.specs.Prelude.{Vec}
use Rattle.std.specs.Global.{Global}
use Rattle.std.specs.List.{AllZip}
use Rattle.isle_types.specs.TypeTables.{TypeTables}
use Rattle.isle_types.specs.declared.ids.TermId.{TermId}
use Rattle.isle_rules.specs.Shown.TermTables.{TermTables}
use Rattle.isle_rules.specs.declared.rules.IfLet.{IfLet as Condition}
use Rattle.isle_rules.specs.declared.rules.Pattern.{Pattern}
use Rattle.isle_rules.specs.declared.rules.Rule.{Rule}
use Rattle.isle_meaning.specs.PlainRuns.{no_variables}
use Rattle.isle_meaning.specs.Worlds.{Answers, Event}
use Rattle.isle_calls.specs.declared.plain.fitting.Fitted.{Fitted}
use Rattle.isle_calls.specs.declared.frames.Advanced.{Advanced}
use Rattle.isle_calls.specs.declared.frames.Advanced.TheVariants.{Is, Missing, Ends, Calls}
use Rattle.isle_calls.specs.declared.plain.frame.Frame.{Frame}
use Rattle.isle_calls.specs.declared.plain.frame.current.Current.{Current}
use Rattle.isle_calls.specs.declared.plain.variables.Variables.{Variables}
use Rattle.isle_program.specs.declared.laid.Laid.{Laid}
use Rattle.isle_program.specs.declared.laid.LaidRule.{LaidRule}
use Rattle.isle_program.specs.declared.program.Program.{Program}
use Rattle.isle_calls.specs.declared.store.Stored.{Stored}
use Rattle.isle_program.specs.Plain.LaidOut.Words.{IsLaidOut, StandBehind}
use Rattle.isle_calls.specs.Stores.Values.{Stands, StandEach, Extends}
use Rattle.isle_program.specs.Plain.Laid.{IsLaidRule, AllStandBehind}
use Rattle.isle_calls.specs.Calls.Open.{CallOf}
use Rattle.isle_calls.specs.Calls.States.{Host, State, IsOpenIn, answers_of}
use Rattle.isle_calls.specs.Inside.Plain.Fitting.{number_of_variable, all_shown_in, FitAllTold}
use Rattle.isle_calls.specs.Inside.Plain.Frames.{CallComes, RulesLead, RuleTried, IsTryingRule, IsTrying, Goes, IsFrameFor, IsFrameOf, AdvancesTo}
use Rattle.isle_calls.specs.Calls.Ways.{UnmatchedIs}
use Rattle.isle_calls.proofs.Stores.Values.{stand_longer, extends_again}
use Rattle.isle_calls.proofs.PlainRoad.Frames.Next.{none_leads}
use Rattle.isle_calls.proofs.PlainRoad.Frames.Told.{of_open, PatternsEnd, patterns_come}

zip_behind : (tyenv : TypeTables) (env : TermTables) (conditions : List Condition) (exprs : List Laid)
    → AllZip (λ (iflet : Condition) (expr : Laid). IsLaidOut tyenv env iflet.rhs expr) conditions exprs → (n : ℕ) (x : Laid)
    → slice_get exprs n ≡ Some x → StandBehind x.parts.items
zip_behind tyenv env [] [] z n x e = absurd cc
zip_behind tyenv env [] (y ∷ ys) z n x e = absurd z
zip_behind tyenv env (c ∷ cs) [] z n x e = absurd z
zip_behind tyenv env (c ∷ cs) (y ∷ ys) z zero x e =
    let same : y ≡ x = cc in subst (λ (l : Laid). StandBehind l.parts.items) same z.0.behind
zip_behind tyenv env (c ∷ cs) (y ∷ ys) z (suc n) x e = zip_behind tyenv env cs ys z.1 n x e

-- in a rule that was laid out each part stands behind those that it is made of
pub laid_behind : (program : Program) (place : ℕ) (known : Rule) (laid : LaidRule) → IsLaidRule program place known laid →
    AllStandBehind laid
laid_behind program place known laid h = record {
  iflets = zip_behind _ _ known.iflets laid.iflets.items h.iflets;
  right = h.right.behind;
}

-- the frame is one for its call when one more rule was tried
pub frame_next : {old new : List Stored} → Extends old new → (k : CallOf) (frame next : Frame) (place : ℕ) → next.depth ≡ frame.depth
    → next.term ≡ frame.term → next.args ≡ frame.args → frame.others.now ≡ place ∷ next.others.now → next.tried ≡ suc frame.tried
    → IsFrameFor k old frame → IsFrameFor k new next
frame_next {old = old} extends k frame next place depth term args others tried h =
    let fewer : length frame.others.now ≡ suc (length next.others.now) = ap length others in
    let few : frame.tried + length frame.others.now < 2 ^ 64 = h.few in
    record {
      depth = depth ∙ h.depth;
      term = ap (λ (t : TermId). t.0) term ∙ h.term;
      stand = stand_longer extends k.args next.args.items (subst (λ (a : Vec ℕ Global). StandEach old k.args a.items) (sym args) h.stand);
      typed = h.typed;
      may = h.may;
      few = omega (arith, fewer, few, tried);
      listed = λ i c. h.listed i (subst (λ (l : List ℕ). Contains l i) (sym others) (Contains-append_right (place ∷ []) next.others.now
          i c));
    }

module _ {W : Type 0} {host : Host W} {k : CallOf} {z : State W} (runs : IsOpenIn host k z) (old : List Stored) (frame : Frame)
    (since : List Event) (of : IsFrameOf k old frame since) (none : frame.current ≡ None) (place : ℕ) (next : Frame)
    (same_depth : next.depth ≡ frame.depth) (same_term : next.term ≡ frame.term) (same_args : next.args ≡ frame.args)
    (first : frame.others.now ≡ place ∷ next.others.now) (counts : next.tried ≡ suc frame.tried) (known : Rule) (laid : LaidRule)
    (laid_out : IsLaidRule z.program place known laid) where
  -- the rule that is tried next
  abbrev pub next_tried : RuleTried
  next_tried = record { call = k; known = known; laid = laid; others = next.others.now; tried = next.tried }

  -- what its patterns come to the frame comes to
  pub patterns_read : {middle new : List Stored} → Extends old middle → Extends middle new → (unbound found : Variables)
      (fitted last : Fitted) → fitted ≡ last → (unset : ℕ) → ((i : ℕ) → number_of_variable unbound i ≡ unset)
      → Stands middle (no_variables 0) unset → (patterns : List Pattern) → patterns ≡ known.args → (numbers : List ℕ)
      → numbers ≡ frame.args.items → FitAllTold z.program (answers_of host z) middle new unbound found numbers fitted
      (all_shown_in z.program patterns)
      → (since ≡ []) × IsFrameFor k new next × PatternsEnd next_tried new found last
  patterns_read {middle = middle} {new = new} kept more unbound found fitted last same unset each stands patterns of_rule numbers of_call told =
      let goes = subst (λ (o : Option Current). Goes k old o frame.others.now frame.tried since) none of.goes in
      let listed = of.for_call.listed place (subst (λ (l : List ℕ). Contains l place) (sym first) (0, omega arith, refl)) in
      let T : List Pattern → List ℕ → Program → Answers → Type 0 = λ ps ns p w.
      FitAllTold p w middle new unbound found ns fitted (all_shown_in p ps) in
      let its = subst (λ (ns : List ℕ). T known.args ns k.program k.answers) of_call
      (subst (λ (ps : List Pattern). T ps numbers k.program k.answers) of_rule (of_open runs (T patterns numbers) told)) in (
        goes.0,
        frame_next (extends_again kept more) k frame next place same_depth same_term same_args first counts of.for_call,
        subst (PatternsEnd next_tried new found) same (patterns_come next_tried of.for_call.may of.for_call.typed place frame.tried counts
            (subst (λ (l : List ℕ). RulesLead k l frame.tried) first goes.1)
            (subst (λ (p : Program). IsLaidRule p place known laid) (sym runs.of_program) laid_out) listed middle new unbound found
            frame.args.items fitted unset each stands (stand_longer kept k.args frame.args.items of.for_call.stand) its),
      )

-- where no rule is left the frame comes to that
pub unmatched_advances : (k : CallOf) (stored : List Stored) (frame : Frame) (advanced : Advanced) → RulesLead k [] frame.tried →
    UnmatchedIs k advanced
    → AdvancesTo k stored frame [] advanced
unmatched_advances k stored frame (Is n) leads h = absurd h
unmatched_advances k stored frame Missing leads h = subst (CallComes k frame.tried []) h (none_leads k frame.tried leads)
unmatched_advances k stored frame (Ends answer) leads (e, end, is) =
    (e, end, subst (CallComes k frame.tried []) is (none_leads k frame.tried leads))
unmatched_advances k stored frame (Calls term numbers) leads h = absurd h

-- a rule that was begun, in its frame
pub began : (k : CallOf) (stored : List Stored) (known : Rule) (laid : LaidRule) (variables : Variables) (current : Current) (others : List ℕ)
    (tried : ℕ) (since : List Event) → since ≡ [] → current.rule.now ≡ known → current.laid.now ≡ laid → current.variables ≡ variables
    → IsTryingRule (record { call = k; known = known; laid = laid; others = others; tried = tried })
    (record { stored = stored; variables = variables; evaluation = current.evaluation }) current.at []
    → IsTrying k stored current others tried since
began k stored known laid variables current others tried since none same_rule same_laid same h =
    let P : Rule → LaidRule → Variables → List Event → Type 0 = λ r l v s.
    IsTryingRule (record { call = k; known = r; laid = l; others = others; tried = tried })
    (record { stored = stored; variables = v; evaluation = current.evaluation }) current.at s in
    subst (P current.rule.now current.laid.now current.variables) (sym none)
    (subst (λ (v : Variables). P current.rule.now current.laid.now v []) (sym same)
    (subst (λ (l : LaidRule). P current.rule.now l variables []) (sym same_laid)
    (subst (λ (r : Rule). P r laid variables []) (sym same_rule) h)))
