-- What the parts of an expression come to, kind by kind.
use Rattle.std.proofs.Common.{◌≡◌, ℕ, zero, suc, ℤ, List, Bool, true, false, Some, slice_get, refl, sym, ◌∙◌, ap, subst}
use Rattle.isle_types.specs.declared.ids.Sym.{Sym}
use Rattle.isle_types.specs.declared.ids.TermId.{TermId}
use Rattle.isle_types.specs.declared.ids.TypeId.{TypeId}
use Rattle.isle_types.specs.declared.ids.VarId.{VarId}
use Rattle.isle_types.specs.declared.ids.VariantId.{VariantId}
use Rattle.isle_types.specs.TypeTables.{name_at}
use Rattle.isle_types.specs.TypeEnvs.{type_at}
use Rattle.isle_rules.specs.Values.{value_list}
use Rattle.isle_meaning.specs.Values.{Value, Values, bool_value, int_value, constant_value, made_variant, made_struct}
use Rattle.isle_meaning.specs.GroundValues.{AreValuesOf}
use Rattle.isle_meaning.specs.Words.{Word, var_word, bool_word, int_word, prim_word, variant_word, struct_word, call_word, Words}
use Rattle.isle_meaning.specs.Worlds.{Answers, CheckedProgram}
use Rattle.isle_meaning.specs.Asking.{Asked, asks_value, ill_typed}
use Rattle.isle_calls.specs.declared.plain.evaluation.Step.{Step}
use Rattle.isle_calls.specs.declared.plain.evaluation.Step.TheVariants.{Is, Missing as Misses, IllTyped as Refused}
use Rattle.isle_program.specs.declared.laid.Part.TheVariants.{Var, Bool as BoolPart, Int as IntPart, Const as ConstPart, Variant as VariantPart}
use Rattle.isle_program.specs.declared.laid.Part.TheVariants.{Struct as StructPart, Call, Impure}
use Rattle.isle_calls.specs.declared.host.Told.{Told}
use Rattle.isle_calls.specs.declared.host.Told.TheVariants.{Gives, Missing, IllTyped}
use Rattle.isle_program.specs.declared.program.Program.{Program}
use Rattle.isle_calls.specs.declared.store.Stored.{Stored}
use Rattle.isle_calls.specs.declared.store.Stored.TheVariants.{Bool as BoolNode, Int as IntNode, Const as ConstNode, Variant, Struct}
use Rattle.isle_calls.specs.declared.plain.variables.Variables.{Variables}
use Rattle.isle_program.specs.Meanings.{checked, may_run}
use Rattle.isle_program.specs.Programs.{types_of}
use Rattle.isle_meaning.specs.Outcomes.{Outcome, given, missing, ended, ConstructsIf, WorldConstructs}
use Rattle.isle_meaning.specs.Inside.TypedWords.{AreTypedWords, GivesTyped}
use Rattle.isle_program.specs.Plain.LaidOut.Words.{AreLaid}
use Rattle.isle_calls.specs.Stores.Values.{Stands, StandEach, Extends}
use Rattle.isle_program.specs.Tables.{variant_at}
use Rattle.isle_calls.specs.Calls.Answers.{IsCalledOn}
use Rattle.isle_calls.specs.Inside.Plain.Fitting.{HoldVariables, number_of_variable}
use Rattle.isle_calls.specs.Calls.Host.{TellsValue}
use Rattle.isle_calls.specs.Inside.Plain.Underway.{Surroundings, runs_below, ComesTo, AllComeTo, HasTypedValue, IsPart, IsTypedAround, HasValueAt}
use Rattle.isle_calls.specs.Inside.Plain.Underway.{AreAround, AreKnown, IsCallOn, IsCallAt, Comes}
use Rattle.isle_program.proofs.SoundPrograms.Known.{sound_of}
use Rattle.isle_calls.proofs.Stores.Values.{stand_longer, stand_one}
use Rattle.isle_meaning.proofs.Calls.Giving.{words_give_typed_all}
use Rattle.isle_meaning.proofs.Calls.Meant.{plain_run_meant}

-- the step that is told
abbrev pub step_told : Told ℕ → Step
step_told (Gives n) = Is n
step_told Missing = Misses
step_told (IllTyped term args) = Refused term args

-- what a world tells of a call on these values
abbrev pub WorldTells : Program → Answers → List Stored → List Stored → TermId → List ℕ → Told ℕ → Type 0
WorldTells program answers old new term numbers told = (vs : Values) → StandEach old vs numbers
    → AreValuesOf (checked program).values vs ((checked program).terms.inputs term.0)
    → TellsValue (checked program) new (asks_value term.0 vs) (WorldConstructs (checked program) answers term.0 vs) told

-- what is told of one outcome is told of what follows from it
pub tells_mapped : (p : CheckedProgram) (stored : List Stored) (q : Asked) (P Q : Outcome Value → Type 0) (told : Told ℕ)
    → ((r : Outcome Value) → P r → Q r) → TellsValue p stored q P told → TellsValue p stored q Q told
tells_mapped p stored q P Q (Gives n) f (v, stands, h) = (v, stands, f (given v) h)
tells_mapped p stored q P Q Missing f h = f missing h
tells_mapped p stored q P Q (IllTyped term args) f (called, h) = (called, f _ h)

module _ (s : Surroundings) where
  -- the calls below give values of their types
  gives_typed : GivesTyped (checked s.program) (may_run s.program) (runs_below (checked s.program) s.answers s.depth)
  gives_typed t vs effects v runs typed run =
      (plain_run_meant (checked s.program) s.answers (may_run s.program) (sound_of s.program).sound s.depth t vs (run.0) effects (given v) runs typed
      (run.1)).1

  -- typed words come to values of their types
  pub args_typed : IsTypedAround s → (xs : Words) (us : List ℕ) (vs : Values)
      → AreTypedWords (checked s.program) (may_run s.program) (HasTypedValue s) s.types s.answer_types xs us → AllComeTo s xs (given vs)
      → AreValuesOf (checked s.program).values vs us
  args_typed around xs us vs typed run =
      words_give_typed_all (checked s.program) s.answers (may_run s.program) (sound_of s.program).sound.data_sound
      (runs_below (checked s.program) s.answers s.depth) gives_typed (HasTypedValue s) s.types s.answer_types s.variables s.done
      (λ k h. h) around xs us vs typed run

module _ (s : Surroundings) (place : ℕ) where
  -- a variable has its value
  pub var_comes : (stored : List Stored) (var : VarId) (variables : Variables) → slice_get s.parts place ≡ Some (Var var)
      → HoldVariables stored variables s.variables → HasValueAt s stored place (number_of_variable variables var.0)
  var_comes stored var variables there hold (var_word k) u ((other, is, of), typed) =
      let same : other ≡ var = cc in
      let e : k ≡ var.0 = sym of ∙ ap (λ (v : VarId). v.0) same in
      (s.variables k, subst (λ j. Stands stored (s.variables k) (number_of_variable variables j)) e (hold k), refl)
  var_comes stored var variables there hold (bool_word ty b) u (is, typed) = absurd cc
  var_comes stored var variables there hold (int_word ty i) u (is, typed) = absurd cc
  var_comes stored var variables there hold (prim_word name) u ((other, is, of), typed) = absurd cc
  var_comes stored var variables there hold (variant_word ty k ws) u ((of, variant, ms, is, p, q, laid), typed) = absurd cc
  var_comes stored var variables there hold (struct_word ty ws) u ((of, ms, is, p, laid), typed) = absurd cc
  var_comes stored var variables there hold (call_word t ws zero) u ((of, ms, is, p, laid), typed) = absurd cc
  var_comes stored var variables there hold (call_word t ws (suc i)) u ((of, ms, is, p, laid), typed) = absurd cc

  -- a literal has its value
  pub bool_comes : (stored : List Stored) (n : ℕ) (b : Bool) → slice_get s.parts place ≡ Some (BoolPart b)
      → slice_get stored n ≡ Some (BoolNode b) → HasValueAt s stored place n
  bool_comes stored n c there here (var_word k) u ((other, is, of), typed) = absurd cc
  bool_comes stored n c there here (bool_word ty b) u (is, typed) =
      let same : c ≡ b = cc in (bool_value b, subst (λ z. slice_get stored n ≡ Some (BoolNode z)) same here, refl)
  bool_comes stored n c there here (int_word ty i) u (is, typed) = absurd cc
  bool_comes stored n c there here (prim_word name) u ((other, is, of), typed) = absurd cc
  bool_comes stored n c there here (variant_word ty k ws) u ((of, variant, ms, is, p, q, laid), typed) = absurd cc
  bool_comes stored n c there here (struct_word ty ws) u ((of, ms, is, p, laid), typed) = absurd cc
  bool_comes stored n c there here (call_word t ws zero) u ((of, ms, is, p, laid), typed) = absurd cc
  bool_comes stored n c there here (call_word t ws (suc i)) u ((of, ms, is, p, laid), typed) = absurd cc

  pub int_comes : (stored : List Stored) (n : ℕ) (j : ℤ) → slice_get s.parts place ≡ Some (IntPart j)
      → slice_get stored n ≡ Some (IntNode j) → HasValueAt s stored place n
  int_comes stored n j there here (var_word k) u ((other, is, of), typed) = absurd cc
  int_comes stored n j there here (bool_word ty b) u (is, typed) = absurd cc
  int_comes stored n j there here (int_word ty i) u (is, typed) =
      let same : j ≡ i = cc in (int_value i, subst (λ z. slice_get stored n ≡ Some (IntNode z)) same here, refl)
  int_comes stored n j there here (prim_word name) u ((other, is, of), typed) = absurd cc
  int_comes stored n j there here (variant_word ty k ws) u ((of, variant, ms, is, p, q, laid), typed) = absurd cc
  int_comes stored n j there here (struct_word ty ws) u ((of, ms, is, p, laid), typed) = absurd cc
  int_comes stored n j there here (call_word t ws zero) u ((of, ms, is, p, laid), typed) = absurd cc
  int_comes stored n j there here (call_word t ws (suc i)) u ((of, ms, is, p, laid), typed) = absurd cc

  pub const_comes : (stored : List Stored) (n : ℕ) (name : Sym) → slice_get s.parts place ≡ Some (ConstPart name)
      → slice_get stored n ≡ Some (ConstNode (name_at (types_of s.program).names name)) → HasValueAt s stored place n
  const_comes stored n symbol there here (var_word k) u ((other, is, of), typed) = absurd cc
  const_comes stored n symbol there here (bool_word ty b) u (is, typed) = absurd cc
  const_comes stored n symbol there here (int_word ty i) u (is, typed) = absurd cc
  const_comes stored n symbol there here (prim_word name) u ((other, is, of), typed) =
      let same : symbol ≡ other = cc in (
        constant_value name,
        subst (λ z. slice_get stored n ≡ Some (ConstNode z)) (ap (name_at (types_of s.program).names) same ∙ of) here,
        refl,
      )
  const_comes stored n symbol there here (variant_word ty k ws) u ((of, variant, ms, is, p, q, laid), typed) = absurd cc
  const_comes stored n symbol there here (struct_word ty ws) u ((of, ms, is, p, laid), typed) = absurd cc
  const_comes stored n symbol there here (call_word t ws zero) u ((of, ms, is, p, laid), typed) = absurd cc
  const_comes stored n symbol there here (call_word t ws (suc i)) u ((of, ms, is, p, laid), typed) = absurd cc

  -- data has the value that is made of its parts' values
  pub variant_comes : (old new : List Stored) (n : ℕ) (ty : TypeId) (variant : VariantId) (ns numbers : List ℕ) → Extends old new
      → slice_get s.parts place ≡ Some (VariantPart ty variant ns) → AreKnown s old ns numbers
      → slice_get new n ≡ Some (Variant ty variant numbers) → HasValueAt s new place n
  variant_comes old new n type number ns numbers extends there known here (var_word k) u ((other, is, of), typed) = absurd cc
  variant_comes old new n type number ns numbers extends there known here (bool_word ty b) u (is, typed) = absurd cc
  variant_comes old new n type number ns numbers extends there known here (int_word ty i) u (is, typed) = absurd cc
  variant_comes old new n type number ns numbers extends there known here (prim_word name) u ((other, is, of), typed) = absurd cc
  variant_comes old new n type number ns numbers extends there known here (variant_word ty k ws) u
      ((of, variant, ms, is, p, q, laid), typed) =
      let fields : ms ≡ ns = cc in
      let types : of ≡ type = cc in
      let variants : variant ≡ number = cc in
      let (vs, stand, ran) = known ws _ (subst (AreLaid (types_of s.program).names s.parts ws) fields laid) (typed.2) in
      let t : type ≡ type_at ty = sym types ∙ ap type_at p in
      let v : number ≡ variant_at k = sym variants ∙ ap variant_at q in (
        made_variant ty k vs,
        (
          numbers,
          subst (λ z. slice_get new n ≡ Some (Variant z (variant_at k) numbers)) t
              (subst (λ z. slice_get new n ≡ Some (Variant type z numbers)) v here),
          stand_longer extends vs numbers stand,
        ),
        (given vs, ran, refl),
      )
  variant_comes old new n type number ns numbers extends there known here (struct_word ty ws) u ((of, ms, is, p, laid), typed) = absurd cc
  variant_comes old new n type number ns numbers extends there known here (call_word t ws zero) u ((of, ms, is, p, laid), typed) = absurd cc
  variant_comes old new n type number ns numbers extends there known here (call_word t ws (suc i)) u ((of, ms, is, p, laid), typed) =
      absurd cc

  pub struct_comes : (old new : List Stored) (n : ℕ) (ty : TypeId) (ns numbers : List ℕ) → Extends old new
      → slice_get s.parts place ≡ Some (StructPart ty ns) → AreKnown s old ns numbers → slice_get new n ≡ Some (Struct ty numbers)
      → HasValueAt s new place n
  struct_comes old new n type ns numbers extends there known here (var_word k) u ((other, is, of), typed) = absurd cc
  struct_comes old new n type ns numbers extends there known here (bool_word ty b) u (is, typed) = absurd cc
  struct_comes old new n type ns numbers extends there known here (int_word ty i) u (is, typed) = absurd cc
  struct_comes old new n type ns numbers extends there known here (prim_word name) u ((other, is, of), typed) = absurd cc
  struct_comes old new n type ns numbers extends there known here (variant_word ty k ws) u ((of, variant, ms, is, p, q, laid), typed) =
      absurd cc
  struct_comes old new n type ns numbers extends there known here (struct_word ty ws) u ((of, ms, is, p, laid), typed) =
      let fields : ms ≡ ns = cc in
      let types : of ≡ type = cc in
      let (vs, stand, ran) = known ws _ (subst (AreLaid (types_of s.program).names s.parts ws) fields laid) (typed.2) in
      let t : type ≡ type_at ty = sym types ∙ ap type_at p in (
        made_struct ty vs,
        (numbers, subst (λ z. slice_get new n ≡ Some (Struct z numbers)) t here, stand_longer extends vs numbers stand),
        (given vs, ran, refl),
      )
  struct_comes old new n type ns numbers extends there known here (call_word t ws zero) u ((of, ms, is, p, laid), typed) = absurd cc
  struct_comes old new n type ns numbers extends there known here (call_word t ws (suc i)) u ((of, ms, is, p, laid), typed) = absurd cc

  -- each call that is laid there is on the same values
  call_alike : (stored : List Stored) (term : TermId) (ns numbers : List ℕ) (vs : Values) → slice_get s.parts place ≡ Some (Call term ns)
      → AreKnown s stored ns numbers → StandEach stored vs numbers → (x : Word) (u : ℕ) → IsPart s x u place → IsCallOn s x term zero vs
  call_alike stored term ns numbers vs there known stand (var_word k) u ((other, is, of), typed) = absurd cc
  call_alike stored term ns numbers vs there known stand (bool_word ty b) u (is, typed) = absurd cc
  call_alike stored term ns numbers vs there known stand (int_word ty i) u (is, typed) = absurd cc
  call_alike stored term ns numbers vs there known stand (prim_word name) u ((other, is, of), typed) = absurd cc
  call_alike stored term ns numbers vs there known stand (variant_word ty k ws) u ((of, variant, ms, is, p, q, laid), typed) = absurd cc
  call_alike stored term ns numbers vs there known stand (struct_word ty ws) u ((of, ms, is, p, laid), typed) = absurd cc
  call_alike stored term ns numbers vs there known stand (call_word t ws zero) u ((of, ms, is, p, laid), typed) =
      let same : of ≡ term = cc in
      let fields : ms ≡ ns = cc in
      let (ws_args, each, ran) = known ws _ (subst (AreLaid (types_of s.program).names s.parts ws) fields laid) (typed.3) in
      let e : t ≡ term.0 = sym p ∙ ap (λ (z : TermId). z.0) same in (
        ws,
        ap (λ z. call_word z ws zero) e,
        subst (λ z. AllComeTo s ws (given z)) (stand_one stored ws_args vs numbers each stand) ran,
      )
  call_alike stored term ns numbers vs there known stand (call_word t ws (suc i)) u ((of, ms, is, p, laid), typed) = absurd cc

  impure_alike : (stored : List Stored) (term : TermId) (ns numbers : List ℕ) (j : ℕ) (vs : Values)
      → slice_get s.parts place ≡ Some (Impure term ns j) → AreKnown s stored ns numbers → StandEach stored vs numbers
      → (x : Word) (u : ℕ) → IsPart s x u place → IsCallOn s x term (suc j) vs
  impure_alike stored term ns numbers j vs there known stand (var_word k) u ((other, is, of), typed) = absurd cc
  impure_alike stored term ns numbers j vs there known stand (bool_word ty b) u (is, typed) = absurd cc
  impure_alike stored term ns numbers j vs there known stand (int_word ty i) u (is, typed) = absurd cc
  impure_alike stored term ns numbers j vs there known stand (prim_word name) u ((other, is, of), typed) = absurd cc
  impure_alike stored term ns numbers j vs there known stand (variant_word ty k ws) u ((of, variant, ms, is, p, q, laid), typed) = absurd cc
  impure_alike stored term ns numbers j vs there known stand (struct_word ty ws) u ((of, ms, is, p, laid), typed) = absurd cc
  impure_alike stored term ns numbers j vs there known stand (call_word t ws zero) u ((of, ms, is, p, laid), typed) = absurd cc
  impure_alike stored term ns numbers j vs there known stand (call_word t ws (suc i)) u ((of, ms, is, p, laid), typed) =
      let same : of ≡ term = cc in
      let fields : ms ≡ ns = cc in
      let (ws_args, each, ran) = known ws _ (subst (AreLaid (types_of s.program).names s.parts ws) fields laid) (typed.4) in
      let e : t ≡ term.0 = sym p ∙ ap (λ (z : TermId). z.0) same in
      let at : i ≡ j = cc in (
        ws,
        ap (λ z. call_word z ws (suc i)) e ∙ ap (λ z. call_word term.0 ws (suc z)) at,
        subst (λ z. AllComeTo s ws (given z)) (stand_one stored ws_args vs numbers each stand) ran,
      )

  -- a call's arguments have their values
  pub call_reached : (stored : List Stored) (term : TermId) (ns numbers : List ℕ) → IsTypedAround s
      → (checked s.program).has_rules term.0 ≡ true → slice_get s.parts place ≡ Some (Call term ns) → AreKnown s stored ns numbers
      → (x : Word) (u : ℕ) → IsPart s x u place → IsCallAt s stored place term numbers
  call_reached stored term ns numbers around ruled there known (var_word k) u ((other, is, of), typed) = absurd cc
  call_reached stored term ns numbers around ruled there known (bool_word ty b) u (is, typed) = absurd cc
  call_reached stored term ns numbers around ruled there known (int_word ty i) u (is, typed) = absurd cc
  call_reached stored term ns numbers around ruled there known (prim_word name) u ((other, is, of), typed) = absurd cc
  call_reached stored term ns numbers around ruled there known (variant_word ty k ws) u ((of, variant, ms, is, p, q, laid), typed) =
      absurd cc
  call_reached stored term ns numbers around ruled there known (struct_word ty ws) u ((of, ms, is, p, laid), typed) = absurd cc
  call_reached stored term ns numbers around ruled there known (call_word t ws zero) u ((of, ms, is, p, laid), typed) =
      let same : of ≡ term = cc in
      let fields : ms ≡ ns = cc in
      let (vs, stand, ran) = known ws _ (subst (AreLaid (types_of s.program).names s.parts ws) fields laid) (typed.3) in
      let e : t ≡ term.0 = sym p ∙ ap (λ (z : TermId). z.0) same in
      record {
        words = ws;
        place = zero;
        type = u;
        call = subst (λ z. IsPart s (call_word z ws zero) u place) e ((of, ms, is, p, laid), typed);
        args = vs;
        ran = ran;
        stand = stand;
        typed = subst (λ z. AreValuesOf (checked s.program).values vs ((checked s.program).terms.inputs z)) e
            (args_typed s around ws _ vs (typed.3) ran);
        ruled = λ e. ruled;
        same = call_alike stored term ns numbers vs there known stand;
      }
  call_reached stored term ns numbers around ruled there known (call_word t ws (suc i)) u ((of, ms, is, p, laid), typed) = absurd cc

  pub impure_reached : (stored : List Stored) (term : TermId) (ns numbers : List ℕ) (j : ℕ) → IsTypedAround s
      → slice_get s.parts place ≡ Some (Impure term ns j) → AreKnown s stored ns numbers → (x : Word) (u : ℕ) → IsPart s x u place
      → IsCallAt s stored place term numbers
  impure_reached stored term ns numbers j around there known (var_word k) u ((other, is, of), typed) = absurd cc
  impure_reached stored term ns numbers j around there known (bool_word ty b) u (is, typed) = absurd cc
  impure_reached stored term ns numbers j around there known (int_word ty i) u (is, typed) = absurd cc
  impure_reached stored term ns numbers j around there known (prim_word name) u ((other, is, of), typed) = absurd cc
  impure_reached stored term ns numbers j around there known (variant_word ty k ws) u ((of, variant, ms, is, p, q, laid), typed) = absurd cc
  impure_reached stored term ns numbers j around there known (struct_word ty ws) u ((of, ms, is, p, laid), typed) = absurd cc
  impure_reached stored term ns numbers j around there known (call_word t ws zero) u ((of, ms, is, p, laid), typed) = absurd cc
  impure_reached stored term ns numbers j around there known (call_word t ws (suc i)) u ((of, ms, is, p, laid), typed) =
      let same : of ≡ term = cc in
      let at : i ≡ j = cc in
      let fields : ms ≡ ns = cc in
      let (vs, stand, ran) = known ws _ (subst (AreLaid (types_of s.program).names s.parts ws) fields laid) (typed.4) in
      let e : t ≡ term.0 = sym p ∙ ap (λ (z : TermId). z.0) same in
      record {
        words = ws;
        place = (suc i);
        type = u;
        call = subst (λ z. IsPart s (call_word z ws (suc i)) u place) e ((of, ms, is, p, laid), typed);
        args = vs;
        ran = ran;
        stand = stand;
        typed = subst (λ z. AreValuesOf (checked s.program).values vs ((checked s.program).terms.inputs z)) e
            (args_typed s around ws _ vs (typed.4) ran);
        ruled = λ e. absurd cc;
        same = λ y w its. subst (λ z. IsCallOn s y term (suc z) vs) (sym at)
            (impure_alike stored term ns numbers j vs there known stand y w its);
      }

  -- a pure call that the world answers comes to its answer
  pub world_answers : (t : ℕ) (ws : Words) (vs : Values) (r : Outcome Value) → (checked s.program).has_rules t ≡ false
      → AllComeTo s ws (given vs) → WorldConstructs (checked s.program) s.answers t vs r → ComesTo s (call_word t ws zero) r
  world_answers t ws vs r outside ran made = (
    given vs,
    ran,
    subst (λ b. ConstructsIf (checked s.program) s.answers (runs_below (checked s.program) s.answers s.depth) b t vs r) (sym outside) made,
  )

  -- a call of the world tells what it comes to
  called_at : (old new : List Stored) (term : TermId) (ns numbers : List ℕ) → IsTypedAround s
      → (checked s.program).has_rules term.0 ≡ false → slice_get s.parts place ≡ Some (Call term ns) → AreKnown s old ns numbers
      → (told : Told ℕ) → WorldTells s.program s.answers old new term numbers told → (x : Word) (u : ℕ) → IsPart s x u place
      → (vs : Values) × TellsValue (checked s.program) new (asks_value term.0 vs) (ComesTo s x) told
  called_at old new term ns numbers around outside there known told tells (var_word k) u ((other, is, of), typed) = absurd cc
  called_at old new term ns numbers around outside there known told tells (bool_word ty b) u (is, typed) = absurd cc
  called_at old new term ns numbers around outside there known told tells (int_word ty i) u (is, typed) = absurd cc
  called_at old new term ns numbers around outside there known told tells (prim_word name) u ((other, is, of), typed) = absurd cc
  called_at old new term ns numbers around outside there known told tells (variant_word ty k ws) u
      ((of, variant, ms, is, p, q, laid), typed) =
      absurd cc
  called_at old new term ns numbers around outside there known told tells (struct_word ty ws) u ((of, ms, is, p, laid), typed) = absurd cc
  called_at old new term ns numbers around outside there known told tells (call_word t ws zero) u ((of, ms, is, p, laid), typed) =
      let same : term ≡ of = cc in
      let fields : ms ≡ ns = cc in
      let (vs, stand, ran) = known ws _ (subst (AreLaid (types_of s.program).names s.parts ws) fields laid) (typed.3) in
      let e : term.0 ≡ t = ap (λ (z : TermId). z.0) same ∙ p in
      let args = subst (λ z. AreValuesOf (checked s.program).values vs ((checked s.program).terms.inputs z)) (sym e)
      (args_typed s around ws _ vs (typed.3) ran) in (
        vs,
        tells_mapped (checked s.program) new (asks_value term.0 vs) (WorldConstructs (checked s.program) s.answers term.0 vs)
            (ComesTo s (call_word t ws zero)) told
            (λ r made. world_answers t ws vs r (subst (λ z. (checked s.program).has_rules z ≡ false) e outside) ran
            (subst (λ z. WorldConstructs (checked s.program) s.answers z vs r) e made)) (tells vs stand args),
      )
  called_at old new term ns numbers around outside there known told tells (call_word t ws (suc i)) u ((of, ms, is, p, laid), typed) =
      absurd cc

  -- so the step is what the world tells
  comes_told : (old new : List Stored) (term : TermId) (ns numbers : List ℕ) → IsTypedAround s
      → (checked s.program).has_rules term.0 ≡ false → slice_get s.parts place ≡ Some (Call term ns) → AreKnown s old ns numbers
      → (told : Told ℕ) → WorldTells s.program s.answers old new term numbers told → Comes s new place (step_told told)
  comes_told old new term ns numbers around outside there known (Gives n) tells = λ x u part.
      (called_at old new term ns numbers around outside there known (Gives n) tells x u part).1
  comes_told old new term ns numbers around outside there known Missing tells = λ x u part.
      (called_at old new term ns numbers around outside there known Missing tells x u part).1
  comes_told old new term ns numbers around outside there known (IllTyped other args) tells = λ x u part.
      let (vs, (called, runs)) = called_at old new term ns numbers around outside there known (IllTyped other args) tells x u part in (
        vs,
        subst (λ z. IsCalledOn (checked s.program) (asks_value z vs) other (value_list args.items)) (sym (called.0)) called,
        subst (λ z. ComesTo s x (ended (ill_typed (asks_value z vs)))) (sym (called.0)) runs,
      )

  -- the same, where the surroundings are those of this program and this world
  pub world_comes : (program : Program) (answers : Answers) (old new : List Stored) (term : TermId) (ns numbers : List ℕ)
      → AreAround program answers s.parts s → (checked program).has_rules term.0 ≡ false → slice_get s.parts place ≡ Some (Call term ns)
      → AreKnown s old ns numbers → (told : Told ℕ) → WorldTells program answers old new term numbers told
      → Comes s new place (step_told told)
  world_comes program answers old new term ns numbers around outside there known told tells =
      comes_told old new term ns numbers around.typed
      (subst (λ z. (checked z).has_rules term.0 ≡ false) (sym around.of_program) outside) there known told
      (subst (λ z. WorldTells s.program z old new term numbers told) (sym around.of_answers)
      (subst (λ z. WorldTells z answers old new term numbers told) (sym around.of_program) tells))
