-- What the parts of a site hold that is to be bound, and what making it comes to.
use Rattle.std.proofs.Common.{◌≡◌, ◌⊎◌, ℕ, zero, suc, Bool, true, false, not, List, [], ◌∷◌, Option, Some, None, map, slice_get, inl, inr, refl, sym, ap, subst, ◌∙◌, Result, Ok, Err, IfOk, OnErr}
use Rattle.std.specs.Prelude.{if◌then◌else◌, Vec}
use Rattle.std.specs.Global.{Global}
use Rattle.std.specs.Option.{option_map}
use Rattle.std.proofs.lemmas.Option.{slice_get-map}
use Rattle.isle_trees.specs.Rules.{Elem}
use Rattle.isle_rules.specs.Values.{ValueTree}
use Rattle.isle_meaning.specs.AboutSites.Kinds.{IsKinded}
use Rattle.isle_types.specs.declared.ids.TermId.{TermId}
use Rattle.isle_meaning.specs.Asking.{Asked, asks_value, ill_typed, Ended}
use Rattle.isle_meaning.specs.Got.{Got, gives}
use Rattle.isle_meaning.specs.GroundValues.{IsValueOf, AreValuesOf}
use Rattle.isle_meaning.specs.Held.{Held, held_value, held_none, held_some, plain, outputs_of}
use Rattle.isle_meaning.specs.Held.{output_of}
use Rattle.isle_meaning.specs.Machine.Beginnings.{RowBegins}
use Rattle.isle_meaning.specs.Machine.Runs.{Env, known, values_at, made_of, is_computed, read_row, read, Comes, holding, option_if}
use Rattle.isle_meaning.specs.Machine.Trees.{IsHeldOf, parts_of_row, site_of_row, is_call}
use Rattle.isle_meaning.specs.Machine.Walkable.{CanRead}
use Rattle.isle_meaning.specs.Numbered.{Row, bool_row, int_row, prim_row, argument_row, extractor_row, constructor_row, iterator_row}
use Rattle.isle_meaning.specs.Numbered.{make_variant_row, match_variant_row, make_struct_row, extract_struct_row, make_some_row}
use Rattle.isle_meaning.specs.Numbered.{match_some_row, match_tuple_row}
use Rattle.isle_meaning.specs.Outcomes.{Outcome, given, missing, ended, WorldExtracts, WorldConstructs, WorldEffects, ConstructsIf, EffectsIf}
use Rattle.isle_meaning.specs.PlainBeginnings.{EffectsBegin, IsEffectOn}
use Rattle.isle_meaning.specs.Sorts.{Sort, plain_sort, tuple_sort, sort}
use Rattle.isle_meaning.specs.Values.{Value, Values, no_values, more_values, more, made, ask}
use Rattle.isle_meaning.specs.Worlds.{CheckedProgram, Answers, Event}
use Rattle.isle_meaning.proofs.Machine.Rows.{call_typed}
use Rattle.isle_meaning.proofs.Matching.Basics.{plain_gives}
use Rattle.isle_types.specs.declared.ids.Sym.{Sym}
use Rattle.isle_blocks.specs.declared.binding.Binding.{Binding}
use Rattle.isle_blocks.specs.declared.binding.Binding.TheVariants as sites
use Rattle.isle_blocks.specs.declared.ids.BindingId.{BindingId}
use Rattle.isle_blocks.specs.Building.Naming.{name_by}
use Rattle.isle_blocks.specs.Rows.{row_of}
use Rattle.isle_calls.specs.declared.host.Told.{Told}
use Rattle.isle_calls.specs.declared.host.Told.TheVariants.{Gives, Missing as MissingTold, IllTyped as IllTypedTold}
use Rattle.isle_calls.specs.declared.store.Stored.{Stored}
use Rattle.isle_program.specs.declared.program.Program.{Program}
use Rattle.isle_calls.specs.declared.machine.binding.Made.{Made}
use Rattle.isle_calls.specs.declared.machine.binding.Made.TheVariants as makes
use Rattle.isle_calls.specs.declared.machine.frame.Frame.{Frame}
use Rattle.isle_calls.specs.declared.machine.frame.Reply.{Reply}
use Rattle.isle_calls.specs.declared.machine.frame.Reply.TheVariants.{Awaited, Given, Missing}
use Rattle.isle_calls.specs.declared.machine.holding.Holding.{Holding}
use Rattle.isle_calls.specs.Inside.Blocks.Frames.{IsReplied, HasReply}
use Rattle.isle_calls.specs.Inside.Blocks.Frames.{rows_in, sites_of_call, tree_of_call, runs_below, begins_below}
use Rattle.isle_calls.specs.Inside.Blocks.Holdings.{Holds, TellsHeld, TellsNumber, TellsNumbers}
use Rattle.isle_calls.specs.Inside.Blocks.Reading.{IsAround, IsBinding, SiteComes, TellsAnswer, TellsOutcomeOf, CallHolds, IsMadeOf, AsksNothing, BeginsSite, BeginsMade, TellsMade, held_or_missing}
use Rattle.isle_calls.specs.Calls.Host.{TellsValue, TellsOutputs}
use Rattle.isle_calls.specs.Calls.Open.{CallOf}
use Rattle.isle_program.specs.Meanings.{checked, may_run}
use Rattle.isle_calls.specs.Stores.Values.{Stands, StandEach}
use Rattle.isle_program.specs.Programs.{types_of}
use Rattle.isle_calls.proofs.TreeRoad.Going.{awaited_none}
use Rattle.isle_calls.proofs.TreeRoad.Known.{plain_holds, outputs_bound, below_typed, read_holds, read_of_sort}
use Rattle.isle_calls.proofs.TreeRoad.Said.{IsSaid, made_said, none_fails}
use Rattle.isle_program.proofs.SoundPrograms.Known.{sound_of}

-- what holds of one thing holds of another where there is a result
pub if_ok : {T E : Type 0} (P Q : T → Type 0) (r : Result T E) → IfOk r P → ((x : T) → P x → Q x) → IfOk r Q
if_ok P Q (Ok x) h f = f x h
if_ok P Q (Err e) h f = tt

-- and what holds where there is an error
pub if_err : {T E : Type 0} (P Q : Type 0) (r : Result T E) → OnErr r P → (P → Q) → OnErr r Q
if_err P Q (Ok x) h f = tt
if_err P Q (Err e) h f = f h

-- a call with another number than none is an impure one
pub later_instance : (n : ℕ) → (n ≡ 0 → ⊥) → (i : ℕ) × (n ≡ suc i)
later_instance zero other = absurd (other refl)
later_instance (suc i) other = (i, refl)

-- a site that is neither an extractor nor a constructor asks nothing
pub asks_nothing : (name : Sym → List ℕ) (x : Binding) → ((t : TermId) (p : BindingId) → x ≡ sites.Extractor t p → ⊥)
    → ((t : TermId) (ps : List BindingId) (i : ℕ) → x ≡ sites.Constructor t ps i → ⊥) → AsksNothing (row_of name x)
asks_nothing name (sites.ConstBool val ty) n m = tt
asks_nothing name (sites.ConstInt val ty) n m = tt
asks_nothing name (sites.ConstPrim val) n m = tt
asks_nothing name (sites.Argument index) n m = tt
asks_nothing name (sites.Extractor term parameter) n m = absurd (n term parameter refl)
asks_nothing name (sites.Constructor term parameters instance) n m = absurd (m term parameters instance refl)
asks_nothing name (sites.Iterator source) n m = tt
asks_nothing name (sites.MakeVariant ty variant fields) n m = tt
asks_nothing name (sites.MatchVariant source variant field) n m = tt
asks_nothing name (sites.MakeStruct ty fields) n m = tt
asks_nothing name (sites.ExtractStruct source field) n m = tt
asks_nothing name (sites.MakeSome inner) n m = tt
asks_nothing name (sites.MatchSome source) n m = tt
asks_nothing name (sites.MatchTuple source field) n m = tt

-- a site that asks nothing is made of its parts
plain_runs : (k : CallOf) (env : Env) (row : Row) (r : Outcome Held) → AsksNothing row
    → Comes (made_of k.args (read (sites_of_call k) k.args env) row) r
    → SiteComes k env row [] r
plain_runs k env (bool_row x ty) r n q = (refl, q)
plain_runs k env (int_row x ty) r n q = (refl, q)
plain_runs k env (prim_row x) r n q = (refl, q)
plain_runs k env (argument_row i) r n q = (refl, q)
plain_runs k env (extractor_row u j) r n q = absurd n
plain_runs k env (constructor_row u js i) r n q = absurd n
plain_runs k env (iterator_row j) r n q = absurd q
plain_runs k env (make_variant_row ty v js) r n q = (refl, q)
plain_runs k env (match_variant_row j v i) r n q = (refl, q)
plain_runs k env (make_struct_row ty js) r n q = (refl, q)
plain_runs k env (extract_struct_row j i) r n q = (refl, q)
plain_runs k env (make_some_row j) r n q = (refl, q)
plain_runs k env (match_some_row j) r n q = (refl, q)
plain_runs k env (match_tuple_row j i) r n q = (refl, q)

-- what holds an outcome tells it
pub outcome_tells : (k : CallOf) (stored : List Stored) (env : Env) (row : Row) (made : Made) (effects : List Event) (o : Outcome Held)
    → TellsOutcomeOf stored made o → SiteComes k env row effects o → TellsAnswer k stored env row made effects
outcome_tells k stored env row (makes.Holds holding) effects o (h, holds, e) comes = (h, holds, subst (SiteComes k env row effects) e comes)
outcome_tells k stored env row makes.Missing effects o e comes = subst (SiteComes k env row effects) e comes
outcome_tells k stored env row (makes.IllTyped term args) effects o t comes = absurd t
outcome_tells k stored env row (makes.Waits term numbers) effects o t comes = absurd t

-- a call that ends does so whether it may fail or not
ended_outputs_held : (t : Bool) (e : Ended) → option_if t (holding outputs_of (ended e)) ≡ ended e
ended_outputs_held true e = refl
ended_outputs_held false e = refl

-- so does one of a constructor
pub ended_held : (t : Bool) (e : Ended) → option_if t (holding held_value (ended e)) ≡ ended e
ended_held true e = refl
ended_held false e = refl

-- what is told of reading a number, numbers, and what is made or computed
abbrev pub NumberTold : Program → List Stored → List Stored → Frame → ℕ → Option ℕ → Type 0
NumberTold program old new frame j o = (args : Values) (env : Env) → IsAround old frame args env
    → TellsNumber new o (plain (read (rows_in program frame.sites.now) args env j))

-- of numbers
abbrev pub NumbersTold : Program → List Stored → List Stored → Frame → List ℕ → Option (Vec ℕ Global) → Type 0
NumbersTold program old new frame js o = (args : Values) (env : Env) → IsAround old frame args env
    → TellsNumbers new o (values_at (read (rows_in program frame.sites.now) args env) js)

-- of what is made of the parts
abbrev pub MadeTold : Program → List Stored → List Stored → Frame → Row → Option Holding → Type 0
MadeTold program old new frame row o = (args : Values) (env : Env) → IsAround old frame args env
    → TellsHeld new o (made_of args (read (rows_in program frame.sites.now) args env) row)

-- of what is computed of what is bound
abbrev pub ComputedTold : List Stored → List Stored → Frame → Row → Option Holding → Type 0
ComputedTold old new frame row o = (args : Values) (env : Env) → IsAround old frame args env
    → TellsHeld new o (made_of args (λ j. known (env j)) row)

-- what is told of calls of the world
abbrev pub OutputsTold : Program → Answers → List Stored → List Stored → ℕ → ℕ → Told (Vec ℕ Global) → Type 0
OutputsTold program w old new u n told = (v : Value) → Stands old v n → IsValueOf (checked program).values v ((checked program).terms.type_of u)
    → TellsOutputs (checked program) new (WorldExtracts (checked program) w u v) told

-- of a pure constructor
abbrev pub PureTold : Program → Answers → List Stored → List Stored → ℕ → List ℕ → Told ℕ → Type 0
PureTold program w old new u ns told = (vs : Values) → StandEach old vs ns
    → AreValuesOf (checked program).values vs ((checked program).terms.inputs u)
    → TellsValue (checked program) new (asks_value u vs) (WorldConstructs (checked program) w u vs) told

-- of an impure one, with its effect
abbrev pub EffectTold : (List Event → Type 0) → Program → List Stored → List Stored → ℕ → List ℕ → Told ℕ → Type 0
EffectTold X program old new u ns told = (vs : Values) → StandEach old vs ns
    → AreValuesOf (checked program).values vs ((checked program).terms.inputs u) → (event : Event) × X (event ∷ [])
    × TellsValue (checked program) new (asks_value u vs) (WorldEffects (checked program) u vs (event ∷ [])) told

-- and of one without an answer
abbrev pub EffectLost : (List Event → Type 0) → Program → List Stored → ℕ → List ℕ → Type 0
EffectLost X program old u ns = (vs : Values) → StandEach old vs ns
    → AreValuesOf (checked program).values vs ((checked program).terms.inputs u)
    → (events : List Event) × X events × ((events ≡ []) ⊎ IsEffectOn (checked program) u vs events)

-- what the world answers is what the call comes to
pub answer_told : (k : CallOf) (new : List Stored) (env : Env) (row : Row) (effects : List Event) (partial : Bool)
    (q : Asked) (P : Outcome Value → Type 0)
    (told : Told ℕ) (made : Made) → ((g : Outcome Value) → P g → SiteComes k env row effects (option_if partial (holding held_value g)))
    → IsMadeOf new partial told made → TellsValue (checked k.program) new q P told → TellsAnswer k new env row made effects
answer_told k new env row effects partial q P (Gives n) made comes is (v, stands, holds) =
    outcome_tells k new env row made effects (option_if partial (holding held_value (given v))) (is v stands) (comes (given v) holds)
answer_told k new env row effects partial q P MissingTold made comes is holds =
    outcome_tells k new env row made effects (option_if partial (holding held_value missing)) is (comes missing holds)
answer_told k new env row effects partial q P (IllTypedTold term args) made comes is (called, holds) =
    subst (λ (m : Made). TellsAnswer k new env row m effects) (sym is)
    (q, called, subst (SiteComes k env row effects) (ended_held partial (ill_typed q)) (comes (ended (ill_typed q)) holds))

-- whatever it answers, an effect was made
effect_on : (p : CheckedProgram) (u : ℕ) (vs : Values) (events : List Event) (r : Outcome Value) → WorldEffects p u vs events r
    → IsEffectOn p u vs events
effect_on p u vs events r w = record { args = w.args; typed = w.typed; stand = w.stand; answer = w.answer; alone = w.alone }

-- so it was where one is told
told_effect : (program : Program) (new : List Stored) (u : ℕ) (vs : Values) (event : Event) (told : Told ℕ)
    → TellsValue (checked program) new (asks_value u vs) (WorldEffects (checked program) u vs (event ∷ [])) told
    → IsEffectOn (checked program) u vs (event ∷ [])
told_effect program new u vs event (Gives n) (v, stands, w) = effect_on (checked program) u vs (event ∷ []) (given v) w
told_effect program new u vs event MissingTold w = effect_on (checked program) u vs (event ∷ []) missing w
told_effect program new u vs event (IllTypedTold term args) (called, w) =
    effect_on (checked program) u vs (event ∷ []) (ended (ill_typed (asks_value u vs))) w

-- a site of a frame that is to be bound
module _ {k : CallOf} {stored : List Stored} {frame : Frame} {env : Env} (b : IsBinding k stored frame env) where
  -- the sort of a site
  abbrev sort_there : ℕ → Sort
  sort_there j = sort (checked k.program).terms ((checked k.program).terms.inputs k.term) (b.is.site j)

  -- what a site holds
  abbrev pub held_there : ℕ → Got Held
  held_there = read (sites_of_call k) k.args env

  -- what is around
  pub around : IsAround stored frame k.args env
  around = record { args_stand = b.for_call.stand; bound = b.stand }

  -- the arguments are of their types
  args_typed : AreValuesOf (checked k.program).values k.args ((checked k.program).terms.inputs k.term)
  args_typed = b.for_call.ready.typed

  -- of a kind
  kind_of : (j : ℕ) (row : Row) → slice_get (sites_of_call k) j ≡ Some row
      → IsKinded (checked k.program).terms ((checked k.program).terms.inputs k.term) (site_of_row b.is.site row)
  kind_of j row at = subst (IsKinded (checked k.program).terms ((checked k.program).terms.inputs k.term)) (b.is.sited j row at) (b.is.kinded j row at)

  -- What can be read holds something.
  pub read_given : (j : ℕ) → CanRead (sites_of_call k) b.known j → (h : Held) × (held_there j ≡ gives h)
  read_given j c = read_holds b.is b.for_call.ready b.good b.known b.bound j c

  -- so the parts are known
  part_said : (j : ℕ) → Elem j (parts_of_row b.row) → IsSaid (held_there j)
  part_said j m = let (h, e) = read_given j (b.parts j m) in subst IsSaid (sym e) tt

  -- what is read is of its sort
  sorted : (j : ℕ) (h : Held) → held_there j ≡ gives h → IsHeldOf (checked k.program) (sort_there j) h
  sorted j h e = read_of_sort b.is b.for_call.ready b.good b.known b.bound j h e

  -- the row is there
  there_is : (row : Row) → b.row ≡ row → slice_get (sites_of_call k) b.site ≡ Some row
  there_is row e = b.there ∙ ap Some e

  -- and its parts can be read
  part_can : (row : Row) → b.row ≡ row → (j : ℕ) → Elem j (parts_of_row row) → CanRead (sites_of_call k) b.known j
  part_can row e j m = b.parts j (subst (λ (r : Row). Elem j (parts_of_row r)) (sym e) m)

  -- no site is one of several
  iterator_never : (j : ℕ) → b.row ≡ iterator_row j → ⊥
  iterator_never j e = kind_of b.site (iterator_row j) (there_is (iterator_row j) e)

  -- sites of plain sorts hold values
  values_known : (js us : List ℕ) → map (λ j. sort_there j) js ≡ map plain_sort us → ((j : ℕ) → Elem j js → CanRead (sites_of_call k) b.known j)
      → (vs : Values) × (values_at held_there js ≡ gives vs)
  values_known [] us e can = (no_values, refl)
  values_known (j ∷ js) [] e can = absurd cc
  values_known (j ∷ js) (u ∷ us) e can =
      let (h, q) = read_given j (can j (inl refl)) in
      let su : sort_there j ≡ plain_sort u = cc in
      let rest : map (λ i. sort_there i) js ≡ map plain_sort us = cc in
      let (v, is) = plain_holds (checked k.program) u h (subst (λ (z : Sort). IsHeldOf (checked k.program) z h) su (sorted j h q)) in
      let (vs, others) = values_known js us rest (λ i m. can i (inr m)) in
      (more_values v vs, ap (λ (g : Got Held). more (plain g) (values_at held_there js)) (q ∙ ap gives is) ∙ ap (more (gives v)) others)

  -- The arguments of a call are values of their types.
  pub args_known : (u i : ℕ) (js : List ℕ) → b.row ≡ constructor_row u js i → (vs : Values) × (values_at held_there js ≡ gives vs)
  args_known u i js is = values_known js ((checked k.program).terms.inputs u) (b.is.inputs b.site u i js (there_is (constructor_row u js i) is))
      (part_can (constructor_row u js i) is)

  -- and of their types
  pub args_are : (u i : ℕ) (js : List ℕ) (vs : Values) → b.row ≡ constructor_row u js i → values_at held_there js ≡ gives vs
      → AreValuesOf (checked k.program).values vs ((checked k.program).terms.inputs u)
  args_are u i js vs is e = call_typed (checked k.program) k.answers (may_run k.program) (sound_of k.program).sound (runs_below k)
      (below_typed k b.for_call.ready.holds) k.term k.args args_typed (tree_of_call k) b.is env b.site u i js vs b.good.typed
      (there_is (constructor_row u js i) is) e

  -- So is the value that an extractor opens.
  pub arg_known : (u j : ℕ) → b.row ≡ extractor_row u j → (v : Value) × (held_there j ≡ gives (held_value v))
  arg_known u j is =
      let (h, q) = read_given j (part_can (extractor_row u j) is j (inl refl)) in
      let (v, e) = plain_holds (checked k.program) ((checked k.program).terms.type_of u) h
      (subst (λ (z : Sort). IsHeldOf (checked k.program) z h) (b.is.extracts b.site u j (there_is (extractor_row u j) is)) (sorted j h q)) in
      (v, q ∙ ap gives e)

  -- and of its type
  pub arg_is : (u j : ℕ) (v : Value) → b.row ≡ extractor_row u j → held_there j ≡ gives (held_value v)
      → IsValueOf (checked k.program).values v ((checked k.program).terms.type_of u)
  arg_is u j v is e = subst (λ (z : Sort). IsHeldOf (checked k.program) z (held_value v)) (b.is.extracts b.site u j (there_is (extractor_row u j) is))
      (sorted j (held_value v) e)

  -- ---- what a machine reads

  -- the frame's sites are those of the call
  rows_are : (program : Program) → k.program ≡ program → rows_in program frame.sites.now ≡ sites_of_call k
  rows_are program same = ap (λ (q : Program). rows_in q frame.sites.now) (sym same) ∙ b.for_call.sites

  -- a number that is read
  pub number_there : (program : Program) → k.program ≡ program → (new : List Stored) (j : ℕ) (o : Option ℕ)
      → NumberTold program stored new frame j o → TellsNumber new o (plain (held_there j))
  number_there program same new j o told = subst (λ (rows : List Row). TellsNumber new o (plain (read rows k.args env j))) (rows_are program same)
      (told k.args env around)

  -- numbers that are read
  pub numbers_there : (program : Program) → k.program ≡ program → (new : List Stored) (js : List ℕ) (o : Option (Vec ℕ Global))
      → NumbersTold program stored new frame js o → TellsNumbers new o (values_at held_there js)
  numbers_there program same new js o told = subst (λ (rows : List Row). TellsNumbers new o (values_at (read rows k.args env) js))
      (rows_are program same)
      (told k.args env around)

  -- ---- extractors

  -- what is told of the value that is opened
  abbrev pub ExtractTold : List Stored → ℕ → ℕ → Told (Vec ℕ Global) → Type 0
  ExtractTold new u j told = (v : Value) × (held_there j ≡ gives (held_value v))
      × TellsOutputs (checked k.program) new (WorldExtracts (checked k.program) k.answers u v) told

  -- the value has a number
  pub number_never : (new : List Stored) (u j : ℕ) → b.row ≡ extractor_row u j → TellsNumber new None (plain (held_there j)) → ⊥
  number_never new u j is told = let (v, e) = arg_known u j is in told v (ap plain e)

  -- the world is asked for its outputs
  pub extract_told : (program : Program) (w : Answers) → k.program ≡ program → k.answers ≡ w → (middle new : List Stored) (u j n : ℕ)
      (told : Told (Vec ℕ Global)) → b.row ≡ extractor_row u j → TellsNumber middle (Some n) (plain (held_there j))
      → OutputsTold program w middle new u n told → ExtractTold new u j told
  extract_told program w same world middle new u j n told is (v, e, stands) outputs =
      let there : held_there j ≡ gives (held_value v) = plain_gives (held_there j) v e in
      let f : OutputsTold k.program k.answers middle new u n told = subst (λ (q : Program). OutputsTold q k.answers middle new u n told) (sym same)
      (subst (λ (a : Answers). OutputsTold program a middle new u n told) (sym world) outputs) in
      (v, there, f v stands (arg_is u j v is there))

  -- what it answers is what the site comes to
  extract_comes : (u j : ℕ) (v : Value) (g : Outcome Values) (t : Bool) → b.row ≡ extractor_row u j → (checked k.program).terms.infallible u ≡ t
      → held_there j ≡ gives (held_value v) → WorldExtracts (checked k.program) k.answers u v g
      → SiteComes k env b.row [] (option_if (not t) (holding outputs_of g))
  extract_comes u j v g t is always e world = subst (λ (z : Bool). SiteComes k env b.row [] (option_if (not z) (holding outputs_of g))) always
      (subst (λ (row : Row). SiteComes k env row [] (option_if (not ((checked k.program).terms.infallible u)) (holding outputs_of g))) (sym is)
      (v, g, e, world, refl, refl))

  -- an extractor that never fails gives its outputs
  pub outputs_always : (new : List Stored) (u j : ℕ) (ns : Vec ℕ Global) (x : Holding) → b.row ≡ extractor_row u j
      → (checked k.program).terms.infallible u ≡ true → ExtractTold new u j (Gives ns)
      → ((vs : Values) → StandEach new vs ns.items → Holds new x (outputs_of vs)) → TellsAnswer k new env b.row (makes.Holds x) []
  outputs_always new u j ns x is always (v, e, (vs, stand, world)) holds =
      (outputs_of vs, holds vs stand, extract_comes u j v (given vs) true is always e world)

  -- one that may fail gives them in an option
  pub outputs_maybe : (new : List Stored) (u j : ℕ) (ns : Vec ℕ Global) (x y : Holding) → b.row ≡ extractor_row u j
      → (checked k.program).terms.infallible u ≡ false → ExtractTold new u j (Gives ns)
      → ((vs : Values) → StandEach new vs ns.items → Holds new x (outputs_of vs)) → ((h : Held) → Holds new x h → Holds new y (held_some h))
      → TellsAnswer k new env b.row (makes.Holds y) []
  outputs_maybe new u j ns x y is maybe (v, e, (vs, stand, world)) holds some =
      (held_some (outputs_of vs), some (outputs_of vs) (holds vs stand), extract_comes u j v (given vs) false is maybe e world)

  -- it gives none
  pub missing_always : (new : List Stored) (u j : ℕ) → b.row ≡ extractor_row u j → (checked k.program).terms.infallible u ≡ true
      → ExtractTold new u j MissingTold → TellsAnswer k new env b.row makes.Missing []
  missing_always new u j is always (v, e, world) = extract_comes u j v missing true is always e world

  -- or none in an option
  pub missing_maybe : (new : List Stored) (u j : ℕ) (x : Holding) → b.row ≡ extractor_row u j → (checked k.program).terms.infallible u ≡ false
      → ExtractTold new u j MissingTold → Holds new x held_none → TellsAnswer k new env b.row (makes.Holds x) []
  missing_maybe new u j x is maybe (v, e, world) holds = (held_none, holds, extract_comes u j v missing false is maybe e world)

  -- its answer isn't allowed
  pub outputs_ill_typed : (new : List Stored) (u j : ℕ) (term : TermId) (args : Vec ValueTree Global) → b.row ≡ extractor_row u j
      → ExtractTold new u j (IllTypedTold term args) → TellsAnswer k new env b.row (makes.IllTyped term args) []
  outputs_ill_typed new u j term args is (v, e, (q, called, world)) = (
    q,
    called,
    subst (SiteComes k env b.row []) (ended_outputs_held (not ((checked k.program).terms.infallible u)) (ill_typed q))
        (extract_comes u j v (ended (ill_typed q)) ((checked k.program).terms.infallible u) is refl e world),
  )

  -- ---- constructors

  -- the arguments have numbers
  pub numbers_never : (new : List Stored) (u i : ℕ) (js : List ℕ) → b.row ≡ constructor_row u js i
      → TellsNumbers new None (values_at held_there js) → ⊥
  numbers_never new u i js is told = let (vs, e) = args_known u i js is in told vs e

  -- a call of a term with rules waits
  pub waits_told : (new : List Stored) (term : TermId) (i : ℕ) (js : List ℕ) (ns : Vec ℕ Global) → b.row ≡ constructor_row term.0 js i
      → TellsNumbers new (Some ns) (values_at held_there js) → (checked k.program).has_rules term.0 ≡ true
      → TellsAnswer k new env b.row (makes.Waits term ns) []
  waits_told new term i js ns is (vs, e, stand) ruled = (
    refl,
    record {
      parts = js;
      instance = i;
      is = is;
      vs = vs;
      args = e;
      stand = stand;
      ruled = ruled;
      ready = record {
        holds = b.for_call.ready.holds;
        may = b.is.called b.site term.0 i js (there_is (constructor_row term.0 js i) is) ruled;
        typed = args_are term.0 i js vs is e;
      };
    },
  )

  -- a pure call is answered by the world
  pub pure_told : (program : Program) (w : Answers) → k.program ≡ program → k.answers ≡ w → (middle new : List Stored) (u : ℕ) (js : List ℕ)
      (ns : Vec ℕ Global) (told : Told ℕ) (made : Made) → b.row ≡ constructor_row u js 0 → TellsNumbers middle (Some ns) (values_at held_there js)
      → (checked program).has_rules u ≡ false → PureTold program w middle new u ns.items told
      → IsMadeOf new ((checked program).terms.partial u) told made → TellsAnswer k new env b.row made []
  pure_told program w same world middle new u js ns told made is (vs, e, stand) outside tells made_is =
      let p = checked k.program in
      let f : PureTold k.program k.answers middle new u ns.items told =
      subst (λ (q : Program). PureTold q k.answers middle new u ns.items told) (sym same)
      (subst (λ (a : Answers). PureTold program a middle new u ns.items told) (sym world) tells) in
      let free : (checked k.program).has_rules u ≡ false = subst (λ (q : Program). (checked q).has_rules u ≡ false) (sym same) outside in
      let made_as : IsMadeOf new ((checked k.program).terms.partial u) told made =
      subst (λ (q : Program). IsMadeOf new ((checked q).terms.partial u) told made) (sym same) made_is in
      answer_told k new env b.row [] ((checked k.program).terms.partial u) (asks_value u vs)
      (WorldConstructs (checked k.program) k.answers u vs) told made
      (λ g answers. subst (λ (row : Row). SiteComes k env row [] (option_if ((checked k.program).terms.partial u) (holding held_value g))) (sym is)
      (vs, g, e, subst (λ (t : Bool). ConstructsIf (checked k.program) k.answers (runs_below k) t u vs g) (sym free) answers, refl, refl))
      made_as (f vs stand (args_are u 0 js vs is e))

  -- an impure one makes an effect
  pub effect_told : (program : Program) → k.program ≡ program → (middle new : List Stored) (u i : ℕ) (js : List ℕ)
      (ns : Vec ℕ Global) (told : Told ℕ) (made : Made) (X : List Event → Type 0) → b.row ≡ constructor_row u js (suc i)
      → TellsNumbers middle (Some ns) (values_at held_there js)
      → (checked program).has_rules u ≡ false → EffectTold X program middle new u ns.items told
      → IsMadeOf new ((checked program).terms.partial u) told made → (events : List Event) × X events × TellsAnswer k new env b.row made events
  effect_told program same middle new u i js ns told made X is (vs, e, stand) outside tells made_is =
      let f : EffectTold X k.program middle new u ns.items told = subst (λ (q : Program). EffectTold X q middle new u ns.items told)
      (sym same) tells in
      let free : (checked k.program).has_rules u ≡ false = subst (λ (q : Program). (checked q).has_rules u ≡ false) (sym same) outside in
      let made_as : IsMadeOf new ((checked k.program).terms.partial u) told made =
      subst (λ (q : Program). IsMadeOf new ((checked q).terms.partial u) told made) (sym same) made_is in
      let (event, x, answered) = f vs stand (args_are u (suc i) js vs is e) in (
        event ∷ [],
        x,
        answer_told k new env b.row (event ∷ []) ((checked k.program).terms.partial u) (asks_value u vs)
            (WorldEffects (checked k.program) u vs (event ∷ [])) told made
            (λ g answers. subst (λ (row : Row). SiteComes k env row (event ∷ [])
            (option_if ((checked k.program).terms.partial u) (holding held_value g))) (sym is)
            (vs, g, e, subst (λ (t : Bool). EffectsIf (checked k.program) (runs_below k) t u vs (event ∷ []) g) (sym free) answers, refl))
            made_as answered,
      )

  -- the effect of an impure call begins it
  effect_begins : (u i : ℕ) (js : List ℕ) (vs : Values) (events : List Event) → b.row ≡ constructor_row u js (suc i)
      → values_at held_there js ≡ gives vs
      → (checked k.program).has_rules u ≡ false → IsEffectOn (checked k.program) u vs events → BeginsSite k env b.row events
  effect_begins u i js vs events is e free effect = inr
      (subst (λ (row : Row). RowBegins (checked k.program) (begins_below k) (sites_of_call k) k.args env row events)
      (sym is) (vs, e, subst (λ (t : Bool). EffectsBegin (checked k.program) (begins_below k) t u vs events) (sym free) effect))

  -- so it does where memory is wanted behind it
  pub effect_made_begins : (program : Program) → k.program ≡ program → (middle new : List Stored) (u i : ℕ) (js : List ℕ)
      (ns : Vec ℕ Global) (told : Told ℕ) (X : List Event → Type 0) → b.row ≡ constructor_row u js (suc i)
      → TellsNumbers middle (Some ns) (values_at held_there js)
      → (checked program).has_rules u ≡ false → EffectTold X program middle new u ns.items told
      → (events : List Event) × X events × BeginsSite k env b.row events
  effect_made_begins program same middle new u i js ns told X is (vs, e, stand) outside tells =
      let f : EffectTold X k.program middle new u ns.items told = subst (λ (q : Program). EffectTold X q middle new u ns.items told)
      (sym same) tells in
      let free : (checked k.program).has_rules u ≡ false = subst (λ (q : Program). (checked q).has_rules u ≡ false) (sym same) outside in
      let (event, x, answered) = f vs stand (args_are u (suc i) js vs is e) in
      (event ∷ [], x, effect_begins u i js vs (event ∷ []) is e free (told_effect k.program new u vs event told answered))

  -- or before the world has answered
  pub effect_lost : (program : Program) → k.program ≡ program → (middle : List Stored) (u i : ℕ) (js : List ℕ)
      (ns : Vec ℕ Global) (X : List Event → Type 0) → b.row ≡ constructor_row u js (suc i)
      → TellsNumbers middle (Some ns) (values_at held_there js)
      → (checked program).has_rules u ≡ false → EffectLost X program middle u ns.items
      → (events : List Event) × X events × BeginsSite k env b.row events
  effect_lost program same middle u i js ns X is (vs, e, stand) outside lost =
      let f : EffectLost X k.program middle u ns.items = subst (λ (q : Program). EffectLost X q middle u ns.items) (sym same) lost in
      let free : (checked k.program).has_rules u ≡ false = subst (λ (q : Program). (checked q).has_rules u ≡ false) (sym same) outside in
      let (events, x, effect) = f vs stand (args_are u (suc i) js vs is e) in (
        events,
        x,
        elim effect [
          | inl none ↦ inl none
          | inr is_effect ↦ effect_begins u i js vs events is e free is_effect
        ],
      )

  -- ---- sites that ask nothing

  -- what is computed where it is made is what is computed where it is read
  computed_same : (row : Row) → b.row ≡ row → is_computed row ≡ true → made_of k.args (λ j. known (env j)) row ≡ made_of k.args held_there row
  computed_same (bool_row x ty) is y = refl
  computed_same (int_row x ty) is y = refl
  computed_same (prim_row x) is y = refl
  computed_same (argument_row i) is y = refl
  computed_same (extractor_row u j) is y = refl
  computed_same (constructor_row u js i) is y = refl
  computed_same (iterator_row j) is y = refl
  computed_same (make_variant_row ty v []) is y = refl
  computed_same (make_variant_row ty v (j ∷ js)) is y = absurd (let q : false ≡ true = y in cc)
  computed_same (match_variant_row j v i) is y = absurd (let q : false ≡ true = y in cc)
  computed_same (make_struct_row ty []) is y = refl
  computed_same (make_struct_row ty (j ∷ js)) is y = absurd (let q : false ≡ true = y in cc)
  computed_same (extract_struct_row j i) is y = absurd (let q : false ≡ true = y in cc)
  computed_same (make_some_row j) is y = absurd (let q : false ≡ true = y in cc)
  computed_same (match_some_row j) is y = absurd (let q : false ≡ true = y in cc)
  computed_same (match_tuple_row j i) is y =
      let c = part_can (match_tuple_row j i) is j (inl refl) in
      let kind = kind_of b.site (match_tuple_row j i) (there_is (match_tuple_row j i) is) in
      let sorted_so : sort (checked k.program).terms ((checked k.program).terms.inputs k.term) (site_of_row b.is.site c.row) ≡ tuple_sort (kind.1.0) =
      sym (ap (sort (checked k.program).terms ((checked k.program).terms.inputs k.term)) (b.is.sited j c.row c.there)) ∙ kind.1.1 in
      let n : is_computed c.row ≡ false = outputs_bound (checked k.program).terms ((checked k.program).terms.inputs k.term) b.is.site c.row (kind.1.0)
      (kind_of j c.row c.there) sorted_so in
      let there : held_there j ≡ known (env j) = ap (read_row k.args env j) c.there
      ∙ ap (λ (t : Bool). if t then made_of k.args (λ i. known (env i)) c.row else known (env j)) n in
      ap (ask (output_of i)) (sym there)

  -- no call but of those two
  no_call : (row : Row) → b.row ≡ row → AsksNothing row → is_call row ≡ false
  no_call (bool_row x ty) is n = refl
  no_call (int_row x ty) is n = refl
  no_call (prim_row x) is n = refl
  no_call (argument_row i) is n = refl
  no_call (extractor_row u j) is n = absurd n
  no_call (constructor_row u js i) is n = absurd n
  no_call (iterator_row j) is n = absurd (iterator_never j is)
  no_call (make_variant_row ty v js) is n = refl
  no_call (match_variant_row j v i) is n = refl
  no_call (make_struct_row ty js) is n = refl
  no_call (extract_struct_row j i) is n = refl
  no_call (make_some_row j) is n = refl
  no_call (match_some_row j) is n = refl
  no_call (match_tuple_row j i) is n = refl

  -- What is made of the parts is what the site comes to.
  pub made_held : (new : List Stored) (x : Holding) → AsksNothing b.row → TellsHeld new (Some x) (made_of k.args held_there b.row)
      → TellsAnswer k new env b.row (makes.Holds x) []
  made_held new x n (h, e, holds) = (h, holds, plain_runs k env b.row (given h) n (subst (λ (g : Got Held). Comes g (given h)) (sym e) refl))

  -- or it is missing
  pub made_missing : (new : List Stored) → AsksNothing b.row → TellsHeld new None (made_of k.args held_there b.row)
      → TellsAnswer k new env b.row makes.Missing []
  made_missing new n told = plain_runs k env b.row missing n
      (none_fails (made_of k.args held_there b.row) (made_said k.args held_there b.row (no_call b.row refl n) part_said) told)

  -- so it is told, of what is made and of what is computed
  pub made_there : (program : Program) → k.program ≡ program → (new : List Stored) (row : Row) (o : Option Holding) → b.row ≡ row
      → MadeTold program stored new frame row o → TellsHeld new o (made_of k.args held_there b.row)
  made_there program same new row o is told = subst (λ (r : Row). TellsHeld new o (made_of k.args held_there r)) (sym is)
      (subst (λ (rows : List Row). TellsHeld new o (made_of k.args (read rows k.args env) row)) (rows_are program same) (told k.args env around))

  -- the same of what is computed
  pub computed_there : (new : List Stored) (row : Row) (o : Option Holding) → b.row ≡ row → is_computed row ≡ true
      → ComputedTold stored new frame row o → TellsHeld new o (made_of k.args held_there b.row)
  computed_there new row o is y told = subst (λ (r : Row). TellsHeld new o (made_of k.args held_there r)) (sym is)
      (subst (TellsHeld new o) (computed_same row is y) (told k.args env around))

  -- ---- the site's row, and the reply to it

  -- what is there is the row
  row_is : (row : Row) → slice_get (sites_of_call k) b.site ≡ Some row → b.row ≡ row
  row_is row at = let q : Some b.row ≡ Some row = sym b.there ∙ at in cc

  -- there it is among the rows of the frame
  row_there : (program : Program) → k.program ≡ program → (n : ℕ) → b.site ≡ n
      → slice_get (map (row_of (name_by (types_of program).names)) frame.sites.now) n ≡ Some b.row
  row_there program same n at = ap (λ (rows : List Row). slice_get rows n) (rows_are program same) ∙ ap (slice_get (sites_of_call k))
      (sym at) ∙ b.there

  -- it is that of the binding
  pub row_at : (program : Program) → k.program ≡ program → (n : ℕ) → b.site ≡ n → (x : Binding) → slice_get frame.sites.now n ≡ Some x
      → b.row ≡ row_of (name_by (types_of program).names) x
  row_at program same n at x e =
      let name = name_by (types_of program).names in
      let here : slice_get (map (row_of (name_by (types_of program).names)) frame.sites.now) n ≡ Some (row_of (name_by (types_of program).names) x) =
      slice_get-map (row_of (name_by (types_of program).names)) frame.sites.now n ∙ ap (option_map (row_of (name_by (types_of program).names))) e in
      let q : Some b.row ≡ Some (row_of (name_by (types_of program).names) x) = sym (row_there program same n at) ∙ here in
      cc

  -- and a binding is there
  pub row_never : (program : Program) → k.program ≡ program → (n : ℕ) → b.site ≡ n → slice_get frame.sites.now n ≡ None → ⊥
  row_never program same n at e =
      let here : slice_get (map (row_of (name_by (types_of program).names)) frame.sites.now) n ≡ None =
      slice_get-map (row_of (name_by (types_of program).names)) frame.sites.now n ∙ ap (option_map (row_of (name_by (types_of program).names))) e in
      let q : Some b.row ≡ None = sym (row_there program same n at) ∙ here in
      cc

  -- only constructors are replied to
  pub no_reply : ((u i : ℕ) (js : List ℕ) → b.row ≡ constructor_row u js i → ⊥) → b.replied ≡ None
  no_reply n = go frame.reply b.replied b.reply
    where
      go : (reply : Reply) (replied : Option (Outcome Held)) → HasReply k stored (b.site ∷ []) reply replied → replied ≡ None
      go Awaited replied h = h
      go (Given m) replied (o, e, r) = absurd (n r.callee r.instance r.parts (row_is (constructor_row r.callee r.parts r.instance) r.row))
      go Missing replied (o, e, r) = absurd (n r.callee r.instance r.parts (row_is (constructor_row r.callee r.parts r.instance) r.row))

  -- so no extractor is
  pub extractor_unreplied : (u j : ℕ) → b.row ≡ extractor_row u j → b.replied ≡ None
  extractor_unreplied u j is = no_reply (λ v i js e. let q : extractor_row u j ≡ constructor_row v js i = sym is ∙ e in cc)

  -- nor what asks nothing
  pub asks_unreplied : AsksNothing b.row → b.replied ≡ None
  asks_unreplied n = no_reply (λ v i js e. subst AsksNothing e n)

  -- nor what waits for a reply
  pub awaited_unreplied : frame.reply ≡ Awaited → b.replied ≡ None
  awaited_unreplied e = awaited_none k stored (b.site ∷ []) frame.reply b.replied b.reply e

  -- what is told where none is there
  pub unreplied_made : (new : List Stored) (made : Made) (effects : List Event) → b.replied ≡ None → TellsAnswer k new env b.row made effects
      → TellsMade k new env b.replied b.row made effects
  unreplied_made new made effects e told = subst (λ (o : Option (Outcome Held)). TellsMade k new env o b.row made effects) (sym e) told

  -- and begun
  pub unreplied_begins : (events : List Event) → b.replied ≡ None → BeginsSite k env b.row events → BeginsMade k env b.replied b.row events
  unreplied_begins events e begins = subst (λ (o : Option (Outcome Held)). BeginsMade k env o b.row events) (sym e) begins

  -- without effects it has begun
  pub begins_nothing : BeginsMade k env b.replied b.row []
  begins_nothing = go b.replied
    where
      go : (o : Option (Outcome Held)) → BeginsMade k env o b.row []
      go None = inl refl
      go (Some o) = refl

  -- what is replied
  replied_holds : (u i : ℕ) (js : List ℕ) (reply : Reply) (made : Made) (r : Outcome Value) (o : Outcome Held)
      (at : IsReplied k stored b.site reply o)
      → b.row ≡ constructor_row u js i → at.outcome ≡ r → CallHolds stored ((checked k.program).terms.partial u) r made → TellsOutcomeOf stored made o
  replied_holds u i js reply made r o at is outcome holds =
      let q : constructor_row at.callee at.parts at.instance ≡ constructor_row u js i =
      sym (row_is (constructor_row at.callee at.parts at.instance) at.row) ∙ is in
      let callee : at.callee ≡ u = cc in
      let e : o ≡ option_if ((checked k.program).terms.partial u) (holding held_value r) = at.held
      ∙ ap (λ (t : ℕ). option_if ((checked k.program).terms.partial t) (holding held_value at.outcome)) callee
      ∙ ap (λ (g : Outcome Value). option_if ((checked k.program).terms.partial u) (holding held_value g)) outcome in
      subst (TellsOutcomeOf stored made) (sym e) holds

  -- a value that is replied is held
  pub given_made : (u i n : ℕ) (js : List ℕ) (made : Made) → b.row ≡ constructor_row u js i → frame.reply ≡ Given n
      → ((v : Value) → Stands stored v n → CallHolds stored ((checked k.program).terms.partial u) (given v) made)
      → TellsMade k stored env b.replied b.row made []
  given_made u i n js made is e holds =
      let (o, q, r) = subst (λ (reply : Reply). HasReply k stored (b.site ∷ []) reply b.replied) e b.reply in
      let (v, outcome, stands, typed) = r.told in
      subst (λ (x : Option (Outcome Held)). TellsMade k stored env x b.row made []) (sym q)
      (refl, replied_holds u i js (Given n) made (given v) o r is outcome (holds v stands))

  -- so is none
  pub missing_made : (u i : ℕ) (js : List ℕ) (made : Made) → b.row ≡ constructor_row u js i → frame.reply ≡ Missing
      → CallHolds stored ((checked k.program).terms.partial u) missing made → TellsMade k stored env b.replied b.row made []
  missing_made u i js made is e holds =
      let (o, q, r) = subst (λ (reply : Reply). HasReply k stored (b.site ∷ []) reply b.replied) e b.reply in
      subst (λ (x : Option (Outcome Held)). TellsMade k stored env x b.row made []) (sym q)
      (refl, replied_holds u i js Missing made missing o r is r.told holds)

  -- what a site holds that asks nothing, where there is something or not
  pub put_told : (new : List Stored) (o : Option Holding) → AsksNothing b.row → TellsHeld new o (made_of k.args held_there b.row)
      → TellsAnswer k new env b.row (held_or_missing o) []
  put_told new None n told = made_missing new n told
  put_told new (Some x) n told = made_held new x n told
