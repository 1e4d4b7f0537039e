-- What is begun: an expression, a condition, a right side.
use Rattle.std.proofs.Common.{◌≡◌, ◌<◌, ◌≤◌, inl, inr, ℕ, zero, suc, true, false, List, [], ◌∷◌, Some, None, length, map, slice_get}
use Rattle.std.proofs.Common.{drop, refl, sym, ◌∙◌, subst, arith}
use Rattle.std.specs.Prelude.{All}
use Rattle.std.specs.List.{AllZip}
use Rattle.std.proofs.lemmas.List.Elements.{All-cons, All-nil}
use Rattle.isle_types.specs.TypeTables.{TypeTables}
use Rattle.isle_rules.specs.declared.rules.IfLet.{IfLet as Condition}
use Rattle.isle_rules.specs.Shown.TermTables.{TermTables}
use Rattle.isle_rules.specs.Shown.ShownRules.{iflet_shown}
use Rattle.isle_rules.specs.TypedRules.{TypedIfLet}
use Rattle.isle_meaning.specs.Values.{Value}
use Rattle.isle_meaning.specs.GroundValues.{AreValuesOf}
use Rattle.isle_meaning.specs.Scopes.{scope, scope_all, scope_of, none, IfLetsAreWellScoped, ReadsExpr}
use Rattle.isle_meaning.specs.Typing.{IfLetsTyped, ExprTyped, IsTyped}
use Rattle.isle_meaning.specs.Words.{Word, Step, word_of, steps_of}
use Rattle.isle_meaning.specs.Worlds.{CheckedProgram}
use Rattle.isle_calls.specs.declared.plain.evaluation.Evaluation.{Evaluation}
use Rattle.isle_program.specs.declared.laid.Laid.{Laid}
use Rattle.isle_calls.specs.declared.plain.frame.current.At.TheVariants.{IfLet}
use Rattle.isle_program.specs.declared.laid.Part.TheVariants.{Impure}
use Rattle.isle_types.specs.declared.ids.TermId.{TermId}
use Rattle.isle_program.specs.declared.program.Program.{Program}
use Rattle.isle_calls.specs.declared.store.Stored.{Stored}
use Rattle.isle_program.specs.Plain.LaidOut.Words.{IsLaidOut}
use Rattle.isle_program.specs.Meanings.{checked, may_run}
use Rattle.isle_meaning.specs.Outcomes.{given}
use Rattle.isle_program.specs.Programs.{types_of, terms_of}
use Rattle.isle_meaning.specs.SoundPrograms.{AreSoundIfLets, AskNothingImpure, IsSoundExpr}
use Rattle.isle_calls.specs.Inside.Plain.Fitting.{HoldVariables}
use Rattle.isle_meaning.specs.Inside.TypedWords.{GivesTyped}
use Rattle.isle_calls.specs.Inside.Plain.Underway.{Surroundings, HasTypedValue, IsPart, LeadsToWhole, IsUnderway, known_at}
use Rattle.isle_calls.specs.Inside.Plain.Asked.{IsAskedFor}
use Rattle.isle_calls.specs.Calls.Open.{CallOf}
use Rattle.isle_calls.specs.Inside.Plain.Frames.{below_call, RuleTried, rule_of, RuleComes, ConditionsCome, ConditionsLead, right_steps, right_word}
use Rattle.isle_calls.specs.Inside.Plain.Frames.{IsTried, Progress, around, scope_before, HasTypedBefore, IsAtIfLet, IsAtRight, root_at}
use Rattle.isle_calls.specs.Inside.Plain.Frames.{laid_at, root_there, IsBegun}
use Rattle.isle_meaning.proofs.Calls.Meant.{plain_run_meant}
use Rattle.isle_meaning.proofs.Calls.RuleGiving.{none_answered, rule_gives_typed}
use Rattle.isle_meaning.proofs.Calls.WordTyping.{calls_types, expr_typed}
use Rattle.isle_program.proofs.SoundPrograms.Known.{sound_of}
use Rattle.isle_calls.proofs.PlainRoad.Frames.Words.{typed_wider, steps_wider}
use Rattle.isle_calls.proofs.PlainRoad.Frames.Steps.{root_laid, as_many, index_there}

-- nothing is evaluated, and the whole is asked for
pub begun_underway : (s : Surroundings) (stored : List Stored) (whole : Word) (u root : ℕ) (e : Evaluation) → IsPart s whole u root
    → ((k : ℕ) → known_at e k ≡ None) → length e.known.items ≡ length s.parts → e.todo.items ≡ root ∷ [] → e.missed ≡ false
    → IsUnderway s stored whole e
begun_underway s stored whole u root e part unknown sized asked missed = record {
  right = λ k n is x v h. absurd (let q : None ≡ Some n = sym (unknown k) ∙ is in cc);
  leads = subst (All (LeadsToWhole s whole)) (sym asked)
      (All-cons (LeadsToWhole s whole) root [] (whole, u, part, λ r stops h. h) (All-nil (LeadsToWhole s whole)));
  sized = sized;
  missed = λ is. absurd (let q : false ≡ true = sym missed ∙ is in cc);
}

-- what is asked for alone is asked for
pub begun_asked : (root : ℕ) (e : Evaluation) → e.todo.items ≡ root ∷ [] → IsAskedFor root e
begun_asked root e asked = inr ([], asked, All-nil (λ (k : ℕ). k < root))

-- calls one depth lower give values of their types
pub below_gives_typed : (k : CallOf) → GivesTyped (checked k.program) (may_run k.program) (below_call k)
below_gives_typed k t vs effects v runs typed its =
    let sound = (sound_of k.program).sound in
    (plain_run_meant (checked k.program) k.answers (may_run k.program) sound k.depth t vs its.0 effects (given v) runs typed its.1).1

-- what is known of the condition of a place
record IsCondition (p : CheckedProgram) (R S : ℕ → Type 0) (G : ℕ → ℕ) (xs : List TypedIfLet) (place : ℕ) (y : TypedIfLet) : Type 0 where
  reads : ReadsExpr p.terms y.value (scope_before xs place S)
  type : ℕ
  typed : ExprTyped p.terms G y.value type
  fits : IsTyped p.terms G y.pattern type
  sound : IsSoundExpr p R y.value
  pure : steps_of p.terms y.value ≡ []

module _ (p : CheckedProgram) (R : ℕ → Type 0) (G : ℕ → ℕ) where
  first_condition : (x : TypedIfLet) (xs : List TypedIfLet) (S : ℕ → Type 0) → IfLetsAreWellScoped p.terms (x ∷ xs) S → IfLetsTyped
      p.terms G (x ∷ xs)
      → AreSoundIfLets p R (x ∷ xs) → AskNothingImpure p (x ∷ xs) → IsCondition p R S G (x ∷ xs) zero x
  first_condition x xs S w t s n = record { reads = w.0; type = t.0.0; typed = t.0.1; fits = t.0.2; sound = s.0; pure = n.0 }

  condition_known : (xs : List TypedIfLet) (place : ℕ) (y : TypedIfLet) (ys : List TypedIfLet) (S : ℕ → Type 0) → drop place xs ≡ y ∷ ys
      → IfLetsAreWellScoped p.terms xs S → IfLetsTyped p.terms G xs → AreSoundIfLets p R xs → AskNothingImpure p xs
      → IsCondition p R S G xs place y
  condition_known [] zero y ys S e w t s n = absurd cc
  condition_known [] (suc place) y ys S e w t s n = absurd cc
  condition_known (x ∷ xs) zero y ys S e w t s n =
      let q : x ≡ y = cc in subst (λ (z : TypedIfLet). IsCondition p R S G (x ∷ xs) zero z) q (first_condition x xs S w t s n)
  condition_known (x ∷ xs) (suc place) y ys S e w t s n =
      let h = condition_known xs place y ys (scope x.pattern S) e (w.2) (t.1) (s.1) (n.1) in
      record { reads = h.reads; type = h.type; typed = h.typed; fits = h.fits; sound = h.sound; pure = h.pure }

-- before the first condition what was bound is bound
pub scope_first : (xs : List TypedIfLet) (S : ℕ → Type 0) (k : ℕ) → scope_before xs zero S k → S k
scope_first [] S k h = h
scope_first (x ∷ xs) S k h = h

-- before the next condition what this one binds is bound
pub scope_next : (xs : List TypedIfLet) (place : ℕ) (y : TypedIfLet) (ys : List TypedIfLet) (S : ℕ → Type 0) → drop place xs ≡ y ∷ ys
    → (k : ℕ) → scope_before xs (suc place) S k → scope y.pattern (scope_before xs place S) k
scope_next [] zero y ys S e k h = absurd cc
scope_next [] (suc place) y ys S e k h = absurd cc
scope_next (x ∷ xs) zero y ys S e k h =
    let q : x ≡ y = cc in subst (λ (z : TypedIfLet). scope z.pattern S k) q (scope_first xs (scope x.pattern S) k h)
scope_next (x ∷ xs) (suc place) y ys S e k h = scope_next xs place y ys (scope x.pattern S) e k h

-- the condition of a place, laid out
record IsLaidCondition (tyenv : TypeTables) (env : TermTables) (conditions : List Condition) (exprs : List Laid) (place : ℕ) : Type 0 where
  condition : Condition
  expr : Laid
  there : slice_get exprs place ≡ Some expr
  out : IsLaidOut tyenv env condition.rhs expr
  left : drop place (map (iflet_shown tyenv.names) conditions)
      ≡ iflet_shown tyenv.names condition ∷ drop (suc place) (map (iflet_shown tyenv.names) conditions)

condition_laid : (tyenv : TypeTables) (env : TermTables) (conditions : List Condition) (exprs : List Laid) (place : ℕ)
    → AllZip (λ (iflet : Condition) (expr : Laid). IsLaidOut tyenv env iflet.rhs expr) conditions exprs → place < length exprs
    → IsLaidCondition tyenv env conditions exprs place
condition_laid tyenv env [] [] place z less = absurd (omega (arith, less))
condition_laid tyenv env [] (y ∷ ys) place z less = absurd z
condition_laid tyenv env (x ∷ xs) [] place z less = absurd z
condition_laid tyenv env (x ∷ xs) (y ∷ ys) zero z less = record { condition = x; expr = y; there = refl; out = z.0; left = refl }
condition_laid tyenv env (x ∷ xs) (y ∷ ys) (suc place) z less =
    let h = condition_laid tyenv env xs ys place (z.1) (omega (arith, less)) in
    record { condition = h.condition; expr = h.expr; there = h.there; out = h.out; left = h.left }

-- past the last condition none is left
none_left : (xs : List Condition) (names : List (List ℕ)) (place : ℕ) → length xs ≤ place → drop place (map (iflet_shown names) xs) ≡ []
none_left [] names zero h = refl
none_left [] names (suc place) h = refl
none_left (x ∷ xs) names zero h = absurd (omega (arith, h))
none_left (x ∷ xs) names (suc place) h = none_left xs names place (omega (arith, h))

-- where no impure call is listed, no part is one
none_impure : (program : Program) (condition : Condition) {expr : Laid}
    → IsLaidOut (types_of program) (terms_of program) condition.rhs expr
    → steps_of (checked program).terms (iflet_shown (types_of program).names condition).value ≡ [] → (n j : ℕ) (term : TermId) (ns : List ℕ)
    → slice_get expr.parts.items n ≡ Some (Impure term ns j) → ⊥
none_impure program condition {expr = expr} out pure n j term ns there = unlisted _ expr.calls.items _ pure out.steps j (out.once n j term ns there)
  where
    unlisted : (steps : List Step) (calls : List ℕ) (P : Step → ℕ → Type 0) → steps ≡ [] → AllZip P steps calls → (j : ℕ)
        → slice_get calls j ≡ Some n → ⊥
    unlisted [] [] P e z j q = cc
    unlisted [] (c ∷ calls) P e z j q = z
    unlisted (s ∷ steps) calls P e z j q = absurd cc

module _ {t : RuleTried} (is : IsTried t) (s : Progress) (a : ℕ → Value) (hold : HoldVariables s.stored s.variables a) where
  -- a condition is begun
  pub begin_condition : (place : ℕ) → place < length t.laid.iflets.items → HasTypedBefore is place a → ConditionsLead t a place
      → IsBegun (laid_at t.laid (IfLet place)) (root_there t.laid (IfLet place)) s.evaluation → IsAtIfLet t is s place
  begin_condition place less typed onward begun =
      let p = checked t.call.program in let R = may_run t.call.program in let G = is.sound.var_types in let rule = rule_of t in
      let S = scope_all rule.args none in
      let h = condition_laid (types_of t.call.program) (terms_of t.call.program) t.known.iflets t.laid.iflets.items place
      is.laid_out.iflets less in
      let iflet = iflet_shown (types_of t.call.program).names h.condition in
      let c = condition_known p R G rule.iflets place iflet (drop (suc place) rule.iflets) S h.left is.sound.well.iflets
      is.sound.typed.iflets is.sound.iflets is.sound.pure_iflets in
      let here = index_there t.laid.iflets.items place t.laid.right h.expr h.there in
      let now : IsBegun h.expr h.expr.result s.evaluation = subst (λ (x : Laid). IsBegun x x.result s.evaluation) here begun in
      let D = calls_types p iflet.value in
      let part : IsPart (around is a [] D h.expr) (word_of p.terms iflet.value) c.type h.expr.result = (
        h.out.whole,
        typed_wider p R (scope_before rule.iflets place S) (HasTypedValue (around is a [] D h.expr)) G D typed _ c.type
            ((expr_typed p R (scope_before rule.iflets place S) G iflet.value c.type c.reads c.typed c.sound).0),
      ) in
      record {
        condition = record {
          iflet = iflet;
          others = drop (suc place) rule.iflets;
          left = h.left;
          expr = h.expr;
          there = h.there;
          pure = none_impure t.call.program h.condition h.out c.pure;
          a = a;
          typed = typed;
          answer_types = D;
          type = c.type;
          part = part;
          fits = c.fits;
          onward = λ r run. onward r (subst (λ (xs : List TypedIfLet). ConditionsCome t a xs r) (sym h.left) run);
        };
        hold = hold;
        asked = begun_asked h.expr.result s.evaluation now.asked;
        missed = now.missed;
        underway = begun_underway _ s.stored _ c.type h.expr.result s.evaluation part now.unknown now.sized now.asked now.missed;
      }

  -- the right side is begun
  pub begin_right : (place : ℕ) → length t.laid.iflets.items ≤ place → ConditionsLead t a place
      → IsBegun t.laid.right (root_at t.laid.right 0) s.evaluation → IsAtRight t is s 0 []
  begin_right place past onward begun =
      let p = checked t.call.program in let R = may_run t.call.program in let G = is.sound.var_types in let rule = rule_of t in
      let many : length t.known.iflets ≤ place = omega (arith, past, as_many _ t.known.iflets t.laid.iflets.items is.laid_out.iflets) in
      let left : drop place rule.iflets ≡ [] = none_left t.known.iflets (types_of t.call.program).names place many in
      let chosen : RuleComes t (given a) =
      onward (given a) (subst (λ (xs : List TypedIfLet). ConditionsCome t a xs (given a)) (sym left) refl) in
      let variables_typed = rule_gives_typed p t.call.answers R (sound_of t.call.program).sound.data_sound (below_call t.call)
      (below_gives_typed t.call) rule t.call.args a is.sound
      (subst (λ (n : ℕ). AreValuesOf p.values t.call.args (p.terms.inputs n)) (sym is.root) is.args_typed) chosen in
      let D = calls_types p rule.right in
      let type = p.terms.type_of rule.root in
      let its = expr_typed p R (scope_of rule) G rule.right type is.sound.well.right is.sound.typed.right is.sound.right in
      let steps_typed = steps_wider p R (scope_of rule) (HasTypedValue (around is a [] D t.laid.right)) G D variables_typed 0 _ its.1 in
      let whole : IsPart (around is a [] D t.laid.right) (right_word t) type t.laid.right.result = (
        is.laid_out.right.whole,
        typed_wider p R (scope_of rule) (HasTypedValue (around is a [] D t.laid.right)) G D variables_typed _ _ its.0,
      ) in
      let (u, first_laid, first_typed) = root_laid p R (HasTypedValue (around is a [] D t.laid.right)) G D (types_of t.call.program).names
      t.laid.right.parts.items 0 (right_steps t) t.laid.right.calls.items (right_word t) t.laid.right.result type 0
      is.laid_out.right.steps steps_typed whole.0 whole.1 in
      record {
        right = record {
          a = a;
          chosen = chosen;
          answer_types = D;
          done = [];
          steps_typed = steps_typed;
          type = type;
          result = whole;
          typed = none_answered p D;
          onward = λ rest r run. run;
          begins = λ rest begun. begun;
        };
        hold = hold;
        stage = inl refl;
        known = λ i n less at. absurd (omega (arith, less));
        asked = begun_asked (root_at t.laid.right 0) s.evaluation begun.asked;
        missed = begun.missed;
        underway = begun_underway _ s.stored _ u (root_at t.laid.right 0) s.evaluation (first_laid, first_typed) begun.unknown
            begun.sized begun.asked begun.missed;
      }
