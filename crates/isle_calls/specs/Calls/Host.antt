-- What the host comes to: what a constructor and an extractor of the world give, by their numbers in a store.
use Rattle.std.specs.Prelude.{◌≡◌, ℕ, List, [], ◌∷◌, ◌++◌, Option, Vec}
use Rattle.std.specs.Global.{Global}
use Rattle.isle_rules.specs.Values.{ValueTree, value_list}
use Rattle.isle_meaning.specs.Values.{Value, Values}
use Rattle.isle_meaning.specs.Worlds.{CheckedProgram}
use Rattle.isle_meaning.specs.Asking.{Asked, ill_typed}
use Rattle.isle_calls.specs.declared.answer.Effect.{Effect}
use Rattle.isle_calls.specs.declared.host.Told.{Told}
use Rattle.isle_calls.specs.declared.host.Told.TheVariants.{Gives, Missing, IllTyped}
use Rattle.isle_calls.specs.declared.store.Stored.{Stored}
use Rattle.isle_meaning.specs.Outcomes.{Outcome, given, missing, ended}
use Rattle.isle_calls.specs.Stores.Values.{Stands, StandEach}
use Rattle.isle_calls.specs.Calls.Answers.{IsCalledOn}

-- what a constructor of the world comes to: the number of its value, none, or the call, whose answer isn't allowed
abbrev pub TellsValue : CheckedProgram → List Stored → Asked → (Outcome Value → Type 0) → Told ℕ → Type 0
TellsValue p stored q P (Gives n) = (v : Value) × Stands stored v n × P (given v)
TellsValue p stored q P Missing = P missing
TellsValue p stored q P (IllTyped term args) = IsCalledOn p q term (value_list args.items) × P (ended (ill_typed q))

-- the same of an extractor, or of a pattern that opens a value
abbrev pub TellsOutputs : CheckedProgram → List Stored → (Outcome Values → Type 0) → Told (Vec ℕ Global) → Type 0
TellsOutputs p stored P (Gives ns) = (vs : Values) × StandEach stored vs ns.items × P (given vs)
TellsOutputs p stored P Missing = P missing
TellsOutputs p stored P (IllTyped term args) = (q : Asked) × IsCalledOn p q term (value_list args.items) × P (ended (ill_typed q))

-- the last effect's answer
abbrev pub HasLast : List Effect → Option ValueTree → Type 0
HasLast effects answer = (before : List Effect) × (last : Effect) × (effects ≡ before ++ last ∷ []) × (last.answer ≡ answer)
