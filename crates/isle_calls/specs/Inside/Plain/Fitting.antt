-- How patterns are read on the numbers of values: what a term's pattern opens a value into, and what is left of a list of patterns.
use Rattle.std.specs.Prelude.{◌≡◌, ◌≢◌, ℕ, List, Option, Some, None, Vec, map, slice_index_or}
use Rattle.std.specs.Global.{Global}
use Rattle.isle_rules.specs.declared.rules.Pattern.{Pattern}
use Rattle.isle_rules.specs.Shown.ShownRules.{typed_shown, typed_list}
use Rattle.isle_rules.specs.TypedRules.{TypedPattern, TypedPatterns}
use Rattle.isle_meaning.specs.Facts.{TermShape, variant_shape, struct_shape, declared_shape}
use Rattle.isle_meaning.specs.Values.{Value, Values, made_variant, made_struct}
use Rattle.isle_meaning.specs.GroundValues.{IsValueOf, AreValuesOf}
use Rattle.isle_meaning.specs.Typing.{IsTyped, AllTyped, EachTyped}
use Rattle.isle_meaning.specs.Worlds.{CheckedProgram, Answers}
use Rattle.isle_calls.specs.declared.host.Told.{Told}
use Rattle.isle_calls.specs.declared.host.Told.TheVariants.{Gives, Missing}
use Rattle.isle_calls.specs.declared.store.Stored.{Stored}
use Rattle.isle_program.specs.declared.program.Program.{Program}
use Rattle.isle_calls.specs.Calls.Host.{TellsOutputs}
use Rattle.isle_program.specs.Meanings.{checked}
use Rattle.isle_program.specs.Programs.{types_of}
use Rattle.isle_calls.specs.declared.plain.variables.Variables.{Variables}
use Rattle.isle_meaning.specs.Outcomes.{Outcome, given, missing, ended, WorldExtracts}
use Rattle.isle_meaning.specs.PlainRuns.{PatternRuns, PatternsRun, EachRuns}
use Rattle.isle_calls.specs.Stores.Values.{Stands, StandEach}
use Rattle.isle_rules.specs.Values.{value_list}
use Rattle.isle_meaning.specs.Asking.{Asked, ill_typed}
use Rattle.isle_calls.specs.declared.plain.fitting.Fitted.{Fitted}
use Rattle.isle_calls.specs.declared.plain.fitting.Fitted.TheVariants.{Fits, Leaves, IllTyped as UnfitCall}
use Rattle.isle_calls.specs.Calls.Answers.{IsCalledOn}

-- the number of a variable's value
abbrev pub number_of_variable : Variables → ℕ → ℕ
number_of_variable variables k = slice_index_or variables.numbers.items k variables.unset

-- each variable's number stands for its value
abbrev pub HoldVariables : List Stored → Variables → (ℕ → Value) → Type 0
HoldVariables stored variables a = (k : ℕ) → Stands stored (a k) (number_of_variable variables k)

-- what a pattern comes to: the values of its variables, the rule is left, or a call whose answer isn't allowed
abbrev pub TellsFit : CheckedProgram → List Stored → Variables → (Outcome (ℕ → Value) → Type 0) → Fitted → Type 0
TellsFit p stored variables P Fits = (b : ℕ → Value) × HoldVariables stored variables b × P (given b)
TellsFit p stored variables P Leaves = P missing
TellsFit p stored variables P (UnfitCall term args) = (q : Asked) × IsCalledOn p q term (value_list args.items)
    × P (ended (ill_typed q))

-- a pattern as definitions see it
abbrev pub shown_in : Program → Pattern → TypedPattern
shown_in program pattern = typed_shown (types_of program).names pattern

-- and patterns
abbrev pub all_shown_in : Program → List Pattern → TypedPatterns
all_shown_in program patterns = typed_list (map (typed_shown (types_of program).names) patterns)

-- what a pattern that was read on the number of a value tells
abbrev pub FitTold : Program → Answers → List Stored → List Stored → Variables → Variables → ℕ → Fitted → TypedPattern → Type 0
FitTold program w old new before after n fitted q = (v : Value) (a : ℕ → Value) (types : ℕ → ℕ) (u : ℕ)
    → IsTyped (checked program).terms types q u → IsValueOf (checked program).values v u → Stands old v n → HoldVariables old before a
    → TellsFit (checked program) new after (PatternRuns (checked program) w a q v) fitted

-- what patterns that were read on numbers, one each, tell
abbrev pub FitAllTold : Program → Answers → List Stored → List Stored → Variables → Variables → List ℕ → Fitted → TypedPatterns → Type 0
FitAllTold program w old new before after ns fitted qs = (vs : Values) (a : ℕ → Value) (types : ℕ → ℕ) (us : List ℕ)
    → AllTyped (checked program).terms types qs us → AreValuesOf (checked program).values vs us → StandEach old vs ns
    → HoldVariables old before a → TellsFit (checked program) new after (PatternsRun (checked program) w a qs vs) fitted

-- what patterns that were read on one number tell
abbrev pub FitEachTold : Program → Answers → List Stored → List Stored → Variables → Variables → ℕ → Fitted → TypedPatterns → Type 0
FitEachTold program w old new before after n fitted qs = (v : Value) (a : ℕ → Value) (types : ℕ → ℕ) (u : ℕ)
    → EachTyped (checked program).terms types qs u → IsValueOf (checked program).values v u → Stands old v n → HoldVariables old before a
    → TellsFit (checked program) new after (EachRuns (checked program) w a qs v) fitted

-- what a value opens into: the fields of a variant or struct, or an extractor's outputs
abbrev pub OpensBy : CheckedProgram → Answers → TermShape → ℕ → ℕ → Value → Outcome Values → Type 0
OpensBy p w (variant_shape k) ty t v (given vs) = v ≡ made_variant ty k vs
OpensBy p w (variant_shape k) ty t v missing = (vs : Values) → v ≢ made_variant ty k vs
OpensBy p w (variant_shape k) ty t v (ended e) = ⊥
OpensBy p w struct_shape ty t v (given vs) = v ≡ made_struct ty vs
OpensBy p w struct_shape ty t v missing = (vs : Values) → v ≢ made_struct ty vs
OpensBy p w struct_shape ty t v (ended e) = ⊥
OpensBy p w declared_shape ty t v g = WorldExtracts p w t v g

-- what a term's pattern opens a number into
abbrev pub OpensInto : Program → Answers → List Stored → List Stored → ℕ → ℕ → ℕ → Told (Vec ℕ Global) → Type 0
OpensInto program w old new ty t n told = (v : Value) → Stands old v n
    → IsValueOf (checked program).values v ((checked program).terms.type_of t)
    → TellsOutputs (checked program) new (OpensBy (checked program) w ((checked program).terms.shape t) ty t v) told

-- the fields of a node of a form, where it is of this form
abbrev pub AreFieldsOf : Option Stored → (List ℕ → Stored) → Option (List ℕ) → Type 0
AreFieldsOf stored made None = (fields : List ℕ) → stored ≢ Some (made fields)
AreFieldsOf stored made (Some fields) = stored ≡ Some (made fields)

-- fields are told, or that there are none
abbrev pub TellsFields : Option (List ℕ) → Told (Vec ℕ Global) → Type 0
TellsFields None told = told ≡ Missing
TellsFields (Some fields) told = (numbers : Vec ℕ Global) × (told ≡ Gives numbers) × (numbers.items ≡ fields)

-- patterns that are left are read on the values at their places, and whatever they come to, this comes to it
pub record AllReads (p : CheckedProgram) (w : Answers) (types : ℕ → ℕ) (stored : List Stored) (variables : Variables) (qs : TypedPatterns)
    (numbers : List ℕ) (P : Outcome (ℕ → Value) → Type 0) : Type 0 where
  pub values : Values
  pub held : ℕ → Value
  pub us : List ℕ
  pub typed : AllTyped p.terms types qs us
  pub of : AreValuesOf p.values values us
  pub stand : StandEach stored values numbers
  pub hold : HoldVariables stored variables held
  pub runs : (r : Outcome (ℕ → Value)) → PatternsRun p w held qs values r → P r

-- the same of patterns on one value
pub record EachReads (p : CheckedProgram) (w : Answers) (types : ℕ → ℕ) (stored : List Stored) (variables : Variables)
    (qs : TypedPatterns)
    (v : Value) (u number : ℕ) (P : Outcome (ℕ → Value) → Type 0) : Type 0 where
  pub held : ℕ → Value
  pub typed : EachTyped p.terms types qs u
  pub stands : Stands stored v number
  pub hold : HoldVariables stored variables held
  pub runs : (r : Outcome (ℕ → Value)) → EachRuns p w held qs v r → P r
