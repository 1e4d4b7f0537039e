-- How patterns are read on the numbers of values.
use Rattle.std.proofs.Common.{◌≡◌, inl, inr, ◌↔◌, ◌==◌, ℕ, List, [], ◌∷◌, Bool as Truth, true, false, Option, Some, None, Vec, slice_get}
use Rattle.std.proofs.Common.{refl, sym, subst, IsTrue, if◌then◌else◌}
use Rattle.std.specs.Global.{Global}
use Rattle.std.proofs.lemmas.Bool.{false≢true}
use Rattle.isle_types.specs.declared.ids.TypeId.{TypeId}
use Rattle.isle_types.specs.declared.ids.VariantId.{VariantId}
use Rattle.isle_types.specs.TypeEnvs.{type_at}
use Rattle.isle_rules.specs.TypedRules.{TypedPattern, TypedPatterns, no_typed, more_typed, typed_bind}
use Rattle.isle_meaning.specs.Facts.{TermShape, variant_shape, struct_shape, declared_shape}
use Rattle.isle_meaning.specs.Values.{Value, Values, bool_value, int_value, constant_value, opaque_value, made_variant, made_struct}
use Rattle.isle_meaning.specs.Values.{no_values, more_values}
use Rattle.isle_meaning.specs.GroundValues.{IsValueOf, AreValuesOf}
use Rattle.isle_meaning.specs.Typing.{part_types, IsTyped, AllTyped, EachTyped}
use Rattle.isle_meaning.specs.Words.{set}
use Rattle.isle_meaning.specs.Worlds.{CheckedProgram, Answers}
use Rattle.isle_meaning.specs.Asking.{ill_typed}
use Rattle.isle_calls.specs.declared.plain.fitting.Fitted.{Fitted}
use Rattle.isle_calls.specs.declared.plain.fitting.Fitted.TheVariants.{Fits, Leaves, IllTyped as UnfitCall}
use Rattle.isle_calls.specs.declared.host.Told.{Told}
use Rattle.isle_calls.specs.declared.store.Stored.{Stored}
use Rattle.isle_calls.specs.declared.store.Stored.TheVariants.{Variant, Struct}
use Rattle.isle_calls.specs.declared.plain.variables.Variables.{Variables}
use Rattle.isle_calls.specs.Inside.Plain.Fitting.{OpensBy, AreFieldsOf, TellsFields, AllReads, EachReads, number_of_variable, HoldVariables, TellsFit}
use Rattle.isle_meaning.specs.Outcomes.{Outcome, given, missing, ended, After}
use Rattle.isle_meaning.specs.PlainRuns.{Tests, OpenRuns, PatternRuns, PatternsRun, EachRuns}
use Rattle.isle_meaning.specs.SoundPrograms.{HasSoundData}
use Rattle.isle_calls.specs.Stores.Values.{Stands, StandEach, Extends}
use Rattle.isle_program.specs.Tables.{variant_at}
use Rattle.isle_calls.specs.Calls.Host.{TellsOutputs}
use Rattle.isle_meaning.proofs.Calls.Giving.{extract_gives_typed}
use Rattle.isle_meaning.proofs.Calls.TypedValues.{values_parted, variant_opened, struct_opened}
use Rattle.isle_calls.proofs.Stores.Values.{stands_one, stands_longer, stand_longer}

-- variables still hold in a longer store
pub hold_longer : {old new : List Stored} → Extends old new → (variables : Variables) (a : ℕ → Value) → HoldVariables old variables a
    → HoldVariables new variables a
hold_longer extends variables a h = λ k. stands_longer extends (a k) (number_of_variable variables k) (h k)

-- a variable that is given the number of a value holds it
pub hold_set : (stored : List Stored) (old new : Variables) (a : ℕ → Value) (k n : ℕ) (v : Value) → HoldVariables stored old a
    → Stands stored v n
    → ((j : ℕ) → number_of_variable new j ≡ (if j == k then n else number_of_variable old j)) → HoldVariables stored new (set a k v)
hold_set stored old new a k n v h s e = λ j. rw (e j) (go j (j == k))
  where
    go : (j : ℕ) (b : Truth) → Stands stored (if b then v else a j) (if b then n else number_of_variable old j)
    go j true = s
    go j false = h j

-- what is told of one outcome is told of another that it leads to
pub fit_leads : (p : CheckedProgram) (stored : List Stored) (variables : Variables) (P Q : Outcome (ℕ → Value) → Type 0) (fitted : Fitted)
    → ((r : Outcome (ℕ → Value)) → P r → Q r) → TellsFit p stored variables P fitted → TellsFit p stored variables Q fitted
fit_leads p stored variables P Q Fits to (b, hold, run) = (b, hold, to (given b) run)
fit_leads p stored variables P Q Leaves to run = to missing run
fit_leads p stored variables P Q (UnfitCall term args) to (q, called, run) = (q, called, to (ended (ill_typed q)) run)

-- a test is told by whether it is passed
pub test_told : (program : CheckedProgram) (stored : List Stored) (variables : Variables) (a : ℕ → Value) (passes : Type 0) (b : Truth)
    → IsTrue b ↔ passes → HoldVariables stored variables a → TellsFit program stored variables (Tests passes a) (if b then Fits else Leaves)
test_told program stored variables a passes true h hold = (a, hold, inl (h.0 refl, refl))
test_told program stored variables a passes false h hold = inr (λ p. false≢true (h.1 p), refl)

-- a number stands for a value exactly where its node is the value's
pub node_decides : (stored : List Stored) (v w : Value) (n : ℕ) (b : Truth) → Stands stored v n → IsTrue b ↔ Stands stored w n → IsTrue b
    ↔ (v ≡ w)
node_decides stored v w n b s h =
    (λ t. stands_one stored v w n s (h.0 t), λ e. h.1 (subst (λ (z : Value). Stands stored z n) e s))

-- a node of a variant is that of a value of the variant
variant_of_node : (stored : List Stored) (v : Value) (n : ℕ) (ty : TypeId) (k : VariantId) (fields : List ℕ) → Stands stored v n
    → slice_get stored n ≡ Some (Variant ty k fields) → (vs : Values) × (v ≡ made_variant ty.0 k.0 vs) × StandEach stored vs fields
variant_of_node stored (bool_value b) n ty k fields s e = absurd cc
variant_of_node stored (int_value i) n ty k fields s e = absurd cc
variant_of_node stored (constant_value name) n ty k fields s e = absurd cc
variant_of_node stored (opaque_value o) n ty k fields s e = absurd cc
variant_of_node stored (made_variant t i vs) n ty k fields (gs, is, each) e =
    let types : type_at t ≡ ty = cc in
    let variants : variant_at i ≡ k = cc in
    let same : gs ≡ fields = cc in
    (vs, λ x. made_variant ((types x).0) ((variants x).0) vs, subst (StandEach stored vs) same each)
variant_of_node stored (made_struct t vs) n ty k fields (gs, is, each) e = absurd cc

-- the same of structs
struct_of_node : (stored : List Stored) (v : Value) (n : ℕ) (ty : TypeId) (fields : List ℕ) → Stands stored v n
    → slice_get stored n ≡ Some (Struct ty fields) → (vs : Values) × (v ≡ made_struct ty.0 vs) × StandEach stored vs fields
struct_of_node stored (bool_value b) n ty fields s e = absurd cc
struct_of_node stored (int_value i) n ty fields s e = absurd cc
struct_of_node stored (constant_value name) n ty fields s e = absurd cc
struct_of_node stored (opaque_value o) n ty fields s e = absurd cc
struct_of_node stored (made_variant t i vs) n ty fields (gs, is, each) e = absurd cc
struct_of_node stored (made_struct t vs) n ty fields (gs, is, each) e =
    let types : type_at t ≡ ty = cc in
    let same : gs ≡ fields = cc in
    (vs, λ x. made_struct ((types x).0) vs, subst (StandEach stored vs) same each)

module _ (p : CheckedProgram) (w : Answers) where
  -- what a value opens into, and what follows, is what the opening of a pattern comes to
  pub opens_run : (shape : TermShape) (ty t : ℕ) (v : Value) (parts : Values → Outcome (ℕ → Value) → Type 0) (g : Outcome Values)
      (r : Outcome (ℕ → Value)) → OpensBy p w shape ty t v g → After g parts r → OpenRuns p w shape ty t v parts r
  opens_run (variant_shape k) ty t v parts (given vs) r o h = inl (vs, o, h)
  opens_run (variant_shape k) ty t v parts missing r o h = inr (o, h)
  opens_run (variant_shape k) ty t v parts (ended e) r o h = absurd o
  opens_run struct_shape ty t v parts (given vs) r o h = inl (vs, o, h)
  opens_run struct_shape ty t v parts missing r o h = inr (o, h)
  opens_run struct_shape ty t v parts (ended e) r o h = absurd o
  opens_run declared_shape ty t v parts g r o h = (g, o, h)

  -- what a value opens into is of the types of the term's parts
  pub opens_typed : HasSoundData p → (shape : TermShape) (ty t u : ℕ) (v : Value) (vs : Values) → ty ≡ u → IsValueOf p.values v u
      → OpensBy p w shape ty t v (given vs) → AreValuesOf p.values vs (part_types p.terms shape ty t)
  opens_typed data_sound (variant_shape k) ty t u v vs e h o =
      rw e (variant_opened p data_sound ty k vs u (subst (λ (z : Value). IsValueOf p.values z u) o h))
  opens_typed data_sound struct_shape ty t u v vs e h o =
      rw e (struct_opened p data_sound ty vs u (subst (λ (z : Value). IsValueOf p.values z u) o h))
  opens_typed data_sound declared_shape ty t u v vs e h o = extract_gives_typed p w t v vs o

  -- the fields of a node are what a variant's pattern opens the value into
  pub variant_told : (stored : List Stored) (v : Value) (n t : ℕ) (ty : TypeId) (k : VariantId) (fields : Option (List ℕ))
      (told : Told (Vec ℕ Global)) → Stands stored v n → AreFieldsOf (slice_get stored n) (Variant ty k) fields → TellsFields fields told
      → TellsOutputs p stored (OpensBy p w (variant_shape k.0) ty.0 t v) told
  variant_told stored v n t ty k None told s f e =
      subst (TellsOutputs p stored (OpensBy p w (variant_shape k.0) ty.0 t v)) (sym e)
      (λ vs q. let (gs, is, each) = subst (λ (z : Value). Stands stored z n) q s in f gs is)
  variant_told stored v n t ty k (Some fields) told s f (numbers, e, items) =
      let (vs, q, each) = variant_of_node stored v n ty k fields s f in
      subst (TellsOutputs p stored (OpensBy p w (variant_shape k.0) ty.0 t v)) (sym e)
      (vs, subst (StandEach stored vs) (sym items) each, q)

  -- the same of a struct's
  pub struct_told : (stored : List Stored) (v : Value) (n t : ℕ) (ty : TypeId) (fields : Option (List ℕ)) (told : Told (Vec ℕ Global))
      → Stands stored v n → AreFieldsOf (slice_get stored n) (Struct ty) fields → TellsFields fields told
      → TellsOutputs p stored (OpensBy p w struct_shape ty.0 t v) told
  struct_told stored v n t ty None told s f e =
      subst (TellsOutputs p stored (OpensBy p w struct_shape ty.0 t v)) (sym e)
      (λ vs q. let (gs, is, each) = subst (λ (z : Value). Stands stored z n) q s in f gs is)
  struct_told stored v n t ty (Some fields) told s f (numbers, e, items) =
      let (vs, q, each) = struct_of_node stored v n ty fields s f in
      subst (TellsOutputs p stored (OpensBy p w struct_shape ty.0 t v)) (sym e)
      (vs, subst (StandEach stored vs) (sym items) each, q)

  module _ (types : ℕ → ℕ) (P : Outcome (ℕ → Value) → Type 0) where
    -- what is left when the first pattern of some was read: the others, or what all come to
    abbrev pub AllGo : List Stored → Variables → TypedPatterns → List ℕ → Fitted → Type 0
    AllGo stored variables qs numbers Fits = AllReads p w types stored variables qs numbers P
    AllGo stored variables qs numbers Leaves = P missing
    AllGo stored variables qs numbers (UnfitCall term args) = TellsFit p stored variables P (UnfitCall term args)

    -- the same of patterns on one value
    abbrev pub EachGo : List Stored → Variables → TypedPatterns → Value → ℕ → ℕ → Fitted → Type 0
    EachGo stored variables qs v u number Fits = EachReads p w types stored variables qs v u number P
    EachGo stored variables qs v u number Leaves = P missing
    EachGo stored variables qs v u number (UnfitCall term args) = TellsFit p stored variables P (UnfitCall term args)

    module _ (old new : List Stored) (extends : Extends old new) (before after : Variables) (q : TypedPattern) (n : ℕ) (fitted : Fitted)
        (told : (v : Value) (a : ℕ → Value) (u : ℕ) → IsTyped p.terms types q u → IsValueOf p.values v u → Stands old v n
        → HoldVariables old before a → TellsFit p new after (PatternRuns p w a q v) fitted) where
      -- what follows when the pattern was read on the first value
      go_on : (qs : TypedPatterns) (ns : List ℕ) (v : Value) (vs : Values) (u : ℕ) (us : List ℕ) (a : ℕ → Value) → AllTyped p.terms types
          qs us
          → AreValuesOf p.values vs us → StandEach old vs ns → ((r : Outcome (ℕ → Value)) → PatternsRun p w a (more_typed q qs)
          (more_values v vs) r → P r)
          → (f : Fitted) → TellsFit p new after (PatternRuns p w a q v) f → AllGo new after qs ns f
      go_on qs ns v vs u us a t of s runs Fits (b, hold, run) = record {
        values = vs;
        held = b;
        us = us;
        typed = t;
        of = of;
        stand = stand_longer extends vs ns s;
        hold = hold;
        runs = λ r rest. runs r (given b, run, rest);
      }
      go_on qs ns v vs u us a t of s runs Leaves run = runs missing (missing, run, refl)
      go_on qs ns v vs u us a t of s runs (UnfitCall term args) (asked, called, run) =
          (asked, called, runs (ended (ill_typed asked)) (ended (ill_typed asked), run, refl))

      -- the first value is there, since its number is
      go_first : (qs : TypedPatterns) (ns : List ℕ) (vs : Values) (us : List ℕ) (a : ℕ → Value) → AllTyped p.terms types
          (more_typed q qs) us
          → AreValuesOf p.values vs us → StandEach old vs (n ∷ ns) → HoldVariables old before a
          → ((r : Outcome (ℕ → Value)) → PatternsRun p w a (more_typed q qs) vs r → P r) → AllGo new after qs ns fitted
      go_first qs ns no_values us a t of s hold runs = absurd s
      go_first qs ns (more_values v vs) [] a t of s hold runs = absurd t
      go_first qs ns (more_values v vs) (u ∷ us) a t of s hold runs =
          let parted = values_parted p.values v vs u us of in
          go_on qs ns v vs u us a (t.1) (parted.1) (s.1) runs fitted (told v a u (t.0) (parted.0) (s.0) hold)

      -- the first pattern of some is read on the first value
      pub all_go : (qs : TypedPatterns) (ns : List ℕ) → AllReads p w types old before (more_typed q qs) (n ∷ ns) P
          → AllGo new after qs ns fitted
      all_go qs ns reads = go_first qs ns (reads.values) (reads.us) (reads.held) (reads.typed) (reads.of) (reads.stand) (reads.hold)
          (reads.runs)

      -- what follows when it was read on the one value
      each_on : (qs : TypedPatterns) (v : Value) (u : ℕ) (a : ℕ → Value) → EachTyped p.terms types qs u → Stands old v n
          → ((r : Outcome (ℕ → Value)) → EachRuns p w a (more_typed q qs) v r → P r)
          → (f : Fitted) → TellsFit p new after (PatternRuns p w a q v) f → EachGo new after qs v u n f
      each_on qs v u a t s runs Fits (b, hold, run) = record {
        held = b;
        typed = t;
        stands = stands_longer extends v n s;
        hold = hold;
        runs = λ r rest. runs r (given b, run, rest);
      }
      each_on qs v u a t s runs Leaves run = runs missing (missing, run, refl)
      each_on qs v u a t s runs (UnfitCall term args) (asked, called, run) =
          (asked, called, runs (ended (ill_typed asked)) (ended (ill_typed asked), run, refl))

      -- the first pattern of some is read on the one value
      pub each_go : (qs : TypedPatterns) (v : Value) (u : ℕ) → IsValueOf p.values v u
          → EachReads p w types old before (more_typed q qs) v u n P → EachGo new after qs v u n fitted
      each_go qs v u h reads =
          each_on qs v u (reads.held) (reads.typed.1) (reads.stands) (reads.runs) fitted
          (told v (reads.held) u (reads.typed.0) h (reads.stands) (reads.hold))

    module _ (stored : List Stored) (variables : Variables) where
      -- no number stands for no value
      none_left : (qs : TypedPatterns) (q : TypedPattern) (vs : Values) (a : ℕ → Value) → StandEach stored vs []
          → ((r : Outcome (ℕ → Value)) → PatternsRun p w a (more_typed q qs) vs r → P r) → P missing
      none_left qs q no_values a s runs = runs missing refl
      none_left qs q (more_values v vs) a s runs = absurd s

      -- the rule is left where there is a pattern, but no value more
      pub all_missing : (qs : TypedPatterns) (q : TypedPattern) → AllReads p w types stored variables (more_typed q qs) [] P → P missing
      all_missing qs q reads = none_left qs q (reads.values) (reads.held) (reads.stand) (reads.runs)

      -- a number stands for a value
      more_left : (n : ℕ) (ns : List ℕ) (vs : Values) (a : ℕ → Value) → StandEach stored vs (n ∷ ns)
          → ((r : Outcome (ℕ → Value)) → PatternsRun p w a no_typed vs r → P r) → P missing
      more_left n ns no_values a s runs = absurd s
      more_left n ns (more_values v vs) a s runs = runs missing refl

      -- so it is where there is a value, but no pattern more
      pub all_more : (n : ℕ) (ns : List ℕ) → AllReads p w types stored variables no_typed (n ∷ ns) P → P missing
      all_more n ns reads = more_left n ns (reads.values) (reads.held) (reads.stand) (reads.runs)

      -- no pattern is left, and no value
      all_left : (vs : Values) (a : ℕ → Value) → StandEach stored vs [] → ((r : Outcome (ℕ → Value)) → PatternsRun p w a no_typed vs r
          → P r)
          → P (given a)
      all_left no_values a s runs = runs (given a) refl
      all_left (more_values v vs) a s runs = absurd s

      -- where there is neither, the variables have their values
      pub all_done : AllReads p w types stored variables no_typed [] P → TellsFit p stored variables P Fits
      all_done reads = (reads.held, reads.hold, all_left (reads.values) (reads.held) (reads.stand) (reads.runs))

      -- the same of patterns on one value
      pub each_done : (v : Value) (u n : ℕ) → EachReads p w types stored variables no_typed v u n P → TellsFit p stored variables
          P Fits
      each_done v u n reads = (reads.held, reads.hold, reads.runs (given (reads.held)) refl)

  -- a variable that is bound is given the value, where the pattern fits it
  pub bind_told : (stored : List Stored) (old new : Variables) (a : ℕ → Value) (q : TypedPattern) (ty k n : ℕ) (v : Value)
      → Stands stored v n
      → ((j : ℕ) → number_of_variable new j ≡ (if j == k then n else number_of_variable old j))
      → TellsFit p stored old (PatternRuns p w a q v) Fits → TellsFit p stored new (PatternRuns p w a (typed_bind ty k q)
      v) Fits
  bind_told stored old new a q ty k n v s e (b, hold, run) =
      (set b k v, hold_set stored old new b k n v hold s e, (given b, run, refl))

  -- else the variables are as the pattern leaves them
  pub bind_left : (stored : List Stored) (variables : Variables) (a : ℕ → Value) (q : TypedPattern) (ty k : ℕ) (v : Value)
      (fitted : Fitted)
      → (fitted ≡ Fits → ⊥)
      → TellsFit p stored variables (PatternRuns p w a q v) fitted → TellsFit p stored variables
      (PatternRuns p w a (typed_bind ty k q) v) fitted
  bind_left stored variables a q ty k v Fits differs h = absurd (differs refl)
  bind_left stored variables a q ty k v Leaves differs h = (missing, h, refl)
  bind_left stored variables a q ty k v (UnfitCall term args) differs (asked, called, run) =
      (asked, called, (ended (ill_typed asked), run, refl))
