-- Calls that a world answers: what their answers come to, and the effects that were made.
use Rattle.std.proofs.Common.{◌≡◌, ◌↔◌, ℕ, List, [], ◌∷◌, ◌++◌, Bool, true, false, Option, Some, None, Vec, slice_get, length}
use Rattle.std.proofs.Common.{refl, sym, ap, subst, ◌∙◌, map, ◌+◌, ◌<◌, ◌≤◌, drop, get_or, drop_of_length-le, length-drop, arith}
use Rattle.std.proofs.Common.{drop-cons, IsTrue}
use Rattle.std.specs.Global.{Global}
use Rattle.std.proofs.lemmas.Bool.{false≢true}
use Rattle.std.proofs.lemmas.List.{append-nil}
use Rattle.std.proofs.lemmas.Option.{slice_get-map, slice_get_within, get_or_from_slice_get}
use Rattle.isle_types.specs.declared.ids.TermId.{TermId}
use Rattle.isle_types.specs.declared.ids.TypeId.{TypeId}
use Rattle.isle_rules.specs.declared.terms.Term.{Term}
use Rattle.isle_rules.specs.Signatures.{Signature}
use Rattle.isle_rules.specs.Values.{ValueTree, ValueTrees, value_list, bool_tree, no_trees, more_trees}
use Rattle.isle_meaning.specs.Facts.{no_term, shape_of_form, declared_shape}
use Rattle.isle_meaning.specs.Values.{Value, Values, no_values, more_values}
use Rattle.isle_meaning.specs.ValueTypes.{ValueFacts, IsOfType, AreOfTypes}
use Rattle.isle_meaning.specs.Worlds.{Event, AllowsValue, AllowsOutputs, answer_value, answer_values, CheckedProgram}
use Rattle.isle_meaning.specs.Asking.{Asked, asks_value, asks_outputs, ill_typed}
use Rattle.isle_meaning.specs.GroundValues.{value_of, values_of}
use Rattle.isle_rules.specs.Shown.ShownTerms.{term_shown, form_shown}
use Rattle.isle_rules.proofs.Visiting.VisitRuns.{cut}
use Rattle.isle_calls.specs.declared.answer.Effect.{Effect}
use Rattle.isle_calls.specs.declared.host.Told.{Told}
use Rattle.isle_calls.specs.declared.host.Told.TheVariants.{Gives, Missing, IllTyped}
use Rattle.isle_program.specs.declared.program.Program.{Program}
use Rattle.isle_calls.specs.declared.store.Stored.{Stored}
use Rattle.isle_values.specs.Worlds.Entries.{part_shown}
use Rattle.isle_program.specs.Meanings.{checked, signature_at}
use Rattle.isle_meaning.specs.Outcomes.{Outcome, given, missing, ended, Judged, WorldConstructs, WorldExtracts, WorldEffects}
use Rattle.isle_program.specs.Programs.{types_of, terms_of, types_taken, number_of}
use Rattle.isle_calls.specs.Calls.Answers.{name_of_term, answers_in, IsCalledOn, IsEventOf, HasMade}
use Rattle.isle_calls.specs.Calls.Host.{TellsValue, TellsOutputs}

-- what is told of one outcome is told of another that it leads to
pub value_leads : (p : CheckedProgram) (stored : List Stored) (q : Asked) (P Q : Outcome Value → Type 0) (told : Told ℕ)
    → ((r : Outcome Value) → P r → Q r) → TellsValue p stored q P told → TellsValue p stored q Q told
value_leads p stored q P Q (Gives n) to (v, stands, run) = (v, stands, to (given v) run)
value_leads p stored q P Q Missing to run = to missing run
value_leads p stored q P Q (IllTyped term args) to (called, run) = (called, to (ended (ill_typed q)) run)

-- the same of outputs
pub outputs_lead : (p : CheckedProgram) (stored : List Stored) (P Q : Outcome Values → Type 0) (told : Told (Vec ℕ Global))
    → ((r : Outcome Values) → P r → Q r) → TellsOutputs p stored P told → TellsOutputs p stored Q told
outputs_lead p stored P Q (Gives ns) to (vs, stand, run) = (vs, stand, to (given vs) run)
outputs_lead p stored P Q Missing to run = to missing run
outputs_lead p stored P Q (IllTyped term args) to (q, called, run) = (q, called, to (ended (ill_typed q)) run)

-- the signature of a term that there is
pub signature_found : (program : Program) (t : ℕ) (term : Term) → slice_get (terms_of program).terms t ≡ Some term
    → signature_at (types_of program) (terms_of program) t ≡ term_shown (types_of program).names term
signature_found program t term e =
    rw (slice_get-map (term_shown (types_of program).names) (terms_of program).terms t, e) refl

-- that of one that there isn't
pub signature_missing : (program : Program) (t : ℕ) → slice_get (terms_of program).terms t ≡ None
    → signature_at (types_of program) (terms_of program) t ≡ no_term
signature_missing program t e = rw (slice_get-map (term_shown (types_of program).names) (terms_of program).terms t, e) refl

-- what a term of a kind is
pub shape_found : (program : Program) (t : ℕ) (term : Term) → slice_get (terms_of program).terms t ≡ Some term
    → (checked program).terms.shape t ≡ shape_of_form (form_shown (types_of program).names term.kind)
shape_found program t term e = ap (λ (s : Signature). shape_of_form s.form) (signature_found program t term e)

-- what stands for no term is declared
pub shape_missing : (program : Program) (t : ℕ) → slice_get (terms_of program).terms t ≡ None → (checked program).terms.shape t
    ≡ declared_shape
shape_missing program t e = ap (λ (s : Signature). shape_of_form s.form) (signature_missing program t e)

-- a term that there is, or not
inputs_by : (program : Program) (term : TermId) (found : Option Term) → slice_get (terms_of program).terms term.0 ≡ found
    → types_taken program term ≡ (checked program).terms.inputs term.0
inputs_by program term None e = rw (e, signature_missing program term.0 e) refl
inputs_by program term (Some t) e = rw (e, signature_found program term.0 t e) refl

-- the types of a term's arguments are those that the checked program has
pub inputs_taken : (program : Program) (term : TermId) → types_taken program term ≡ (checked program).terms.inputs term.0
inputs_taken program term = inputs_by program term (slice_get (terms_of program).terms term.0) refl

-- one effect was made
pub one_made : {W : Type 0} (step : W → List ℕ → ValueTrees → Option ValueTree → W → Type 0) (program : Program) (before after : W)
    (old new : List Effect) (effect : Effect) (event : Event) → IsEventOf program effect event
    → step before (name_of_term program event.term) event.args event.answer after → new ≡ old ++ effect ∷ []
    → HasMade step program before old after new (event ∷ [])
one_made step program before after old new effect event is steps e =
    record { more = effect ∷ []; joined = e; shown = (is, tt); steps = (after, steps, refl) }

-- there is no value of no type
pub types_short : (facts : ValueFacts) (values : List ValueTree) (types : List TypeId) (i : ℕ) → i < length values → length types ≤ i
    → AreOfTypes facts (value_list (drop i values)) (map number_of (drop i types)) → ⊥
types_short facts values types i m past =
    let one = drop-cons values i (bool_tree false) m in
    let other : drop i types ≡ [] = drop_of_length-le types {i = i} past in
    rw (one, other) (λ h. h)

-- no values are of no types
ended_types : (facts : ValueFacts) (types : List TypeId) → AreOfTypes facts no_trees (map number_of types) ↔ (0 ≡ length types)
ended_types facts [] = (λ h. refl, λ e. tt)
ended_types facts (ty ∷ types) = (λ h. absurd h, λ e. absurd (omega (arith, e)))

-- no value is left where all are read: then they are of the types where there are as many of both
pub types_ended : (facts : ValueFacts) (values : List ValueTree) (types : List TypeId) (i : ℕ) → length values ≤ i → i ≤ length types
    → AreOfTypes facts (value_list (drop i values)) (map number_of (drop i types)) ↔ (length types ≡ i)
types_ended facts values types i past within =
    let one : drop i values ≡ [] = drop_of_length-le values {i = i} past in
    let h = ended_types facts (drop i types) in
    rw one (λ a. (let e = h.0 a in omega (arith, length-drop {A = TypeId}, e)), λ e. h.1 (omega (arith, length-drop {A = TypeId}, e)))

module _ (program : Program) (constructs : List ℕ → ValueTrees → Option ValueTree) (extracts : List ℕ → ValueTree → Option ValueTrees)
    (stored : List Stored) (term : TermId) where
  -- a judged answer of a pure constructor is what the world constructs
  pub construct_told : (vs : Values) (args : ValueTrees) (answer : Option ValueTree) (told : Told ℕ)
      → AreOfTypes (checked program).values args ((checked program).terms.inputs term.0) → values_of (checked program).values args ≡ vs
      → answer ≡ constructs (name_of_term program term.0) args
      → ((q : Asked) → IsCalledOn (checked program) q term args → TellsValue (checked program) stored q
      (Judged (AllowsValue (checked program) term.0 answer) (answer_value (checked program) answer) q) told)
      → TellsValue (checked program) stored (asks_value term.0 vs)
      (WorldConstructs (checked program) (answers_in program constructs extracts) term.0 vs) told
  construct_told vs args answer told typed stand e judge =
      let q = asks_value term.0 vs in
      value_leads (checked program) stored q (Judged (AllowsValue (checked program) term.0 answer)
      (answer_value (checked program) answer) q)
      (WorldConstructs (checked program) (answers_in program constructs extracts) term.0 vs) told
      (λ r judged. record {
        args = args;
        typed = typed;
        stand = stand;
        judged = subst (λ (z : Option ValueTree). Judged (AllowsValue (checked program) term.0 z) (answer_value (checked program) z) q r)
            e judged;
      }) (judge q (refl, record { typed = typed; stand = stand }))

  -- one of an impure constructor is what the effect comes to
  pub effect_told : (vs : Values) (args : ValueTrees) (answer given_answer : Option ValueTree) (told : Told ℕ)
      → AreOfTypes (checked program).values args ((checked program).terms.inputs term.0) → values_of (checked program).values args ≡ vs
      → answer ≡ given_answer
      → ((q : Asked) → IsCalledOn (checked program) q term args → TellsValue (checked program) stored q
      (Judged (AllowsValue (checked program) term.0 answer) (answer_value (checked program) answer) q) told)
      → TellsValue (checked program) stored (asks_value term.0 vs)
      (WorldEffects (checked program) term.0 vs (record { term = term.0; args = args; answer = given_answer } ∷ [])) told
  effect_told vs args answer given_answer told typed stand e judge =
      let q = asks_value term.0 vs in
      value_leads (checked program) stored q (Judged (AllowsValue (checked program) term.0 answer)
      (answer_value (checked program) answer) q)
      (WorldEffects (checked program) term.0 vs (record { term = term.0; args = args; answer = given_answer } ∷ [])) told
      (λ r judged. record {
        args = args;
        typed = typed;
        stand = stand;
        answer = given_answer;
        alone = refl;
        judged = subst (λ (z : Option ValueTree). Judged (AllowsValue (checked program) term.0 z) (answer_value (checked program) z) q r)
            e judged;
      }) (judge q (refl, record { typed = typed; stand = stand }))

  -- one of an extractor is what the world extracts
  pub extract_told : (v : Value) (arg : ValueTree) (answer : Option ValueTrees) (told : Told (Vec ℕ Global))
      → IsOfType (checked program).values arg ((checked program).terms.type_of term.0) → value_of (checked program).values arg ≡ v
      → answer ≡ extracts (name_of_term program term.0) arg
      → ((q : Asked) → IsCalledOn (checked program) q term (more_trees arg no_trees) → TellsOutputs (checked program) stored
      (Judged (AllowsOutputs (checked program) term.0 answer) (answer_values (checked program) answer) q) told)
      → TellsOutputs (checked program) stored
      (WorldExtracts (checked program) (answers_in program constructs extracts) term.0 v) told
  extract_told v arg answer told typed stands e judge =
      let q = asks_outputs term.0 v in
      outputs_lead (checked program) stored (Judged (AllowsOutputs (checked program) term.0 answer)
      (answer_values (checked program) answer) q)
      (WorldExtracts (checked program) (answers_in program constructs extracts) term.0 v) told
      (λ r judged. record {
        arg = arg;
        typed = typed;
        stands = stands;
        judged = subst (λ (z : Option ValueTrees). Judged (AllowsOutputs (checked program) term.0 z) (answer_values (checked program) z)
            q r) e judged;
      }) (judge q (
        refl,
        record { typed = (typed, tt); stand = ap (λ (x : Value). more_values x no_values) stands },
      ))

-- outputs that aren't of their types are not allowed
pub outputs_refused : (program : Program) (term : TermId) (answer : Option (Vec ValueTree Global)) (outputs : Vec ValueTree Global)
    (found : List ValueTree) (types : List TypeId) (b : Bool) → answer ≡ Some outputs → found ≡ outputs.items
    → map number_of types ≡ (checked program).terms.inputs term.0
    → IsTrue b ↔ AreOfTypes (checked program).values (value_list found) (map number_of types) → b ≡ false
    → AllowsOutputs (checked program) term.0 (part_shown answer) → ⊥
outputs_refused program term answer outputs found types b is e inputs decides f allowed =
    let one = subst (λ (z : Option (Vec ValueTree Global)). AllowsOutputs (checked program) term.0 (part_shown z)) is allowed in
    let two = subst (AreOfTypes (checked program).values (value_list outputs.items)) (sym inputs) one in
    let three = subst (λ (l : List ValueTree). AreOfTypes (checked program).values (value_list l) (map number_of types)) (sym e) two in
    false≢true (sym f ∙ decides.1 three)

-- no outputs of an extractor that never fails are not
pub none_refused : (program : Program) (term : TermId) (answer : Option (Vec ValueTree Global)) (b : Bool) → answer ≡ None
    → b ≡ (checked program).terms.infallible term.0 → b ≡ true → AllowsOutputs (checked program) term.0 (part_shown answer) → ⊥
none_refused program term answer b is e t allowed =
    let one : (checked program).terms.infallible term.0 ≡ false =
    subst (λ (z : Option (Vec ValueTree Global)). AllowsOutputs (checked program) term.0 (part_shown z)) is allowed in
    false≢true (sym one ∙ sym e ∙ t)
