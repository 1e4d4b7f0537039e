-- What sites hold, by the numbers of values in a store.
use Rattle.std.specs.Prelude.{◌≡◌, ℕ, zero, suc, List, Option, Some, None, Vec}
use Rattle.std.specs.Global.{Global}
use Rattle.isle_meaning.specs.Got.{Got, gives}
use Rattle.isle_meaning.specs.Held.{Held, held_value, held_outputs, held_none, held_some}
use Rattle.isle_meaning.specs.Machine.Runs.{Env}
use Rattle.isle_meaning.specs.Values.{Value, Values}
use Rattle.isle_calls.specs.declared.store.Stored.{Stored}
use Rattle.isle_calls.specs.declared.machine.holding.Content.{Content}
use Rattle.isle_calls.specs.declared.machine.holding.Content.TheVariants.{Value as ValueContent, Outputs, Nothing}
use Rattle.isle_calls.specs.declared.machine.holding.Holding.{Holding}
use Rattle.isle_calls.specs.Inside.Blocks.Bounds.{held_at}
use Rattle.isle_calls.specs.Stores.Values.{Stands, StandEach}

-- what is in the options
abbrev pub HoldsContent : List Stored → Content → Held → Type 0
HoldsContent stored (ValueContent n) h = (v : Value) × (h ≡ held_value v) × Stands stored v n
HoldsContent stored (Outputs ns) h = (vs : Values) × (h ≡ held_outputs vs) × StandEach stored vs ns
HoldsContent stored Nothing h = h ≡ held_none

-- it, in so many options
abbrev pub HoldsIn : List Stored → Content → ℕ → Held → Type 0
HoldsIn stored content zero h = HoldsContent stored content h
HoldsIn stored content (suc options) h = (x : Held) × (h ≡ held_some x) × HoldsIn stored content options x

-- what is held is this
abbrev pub Holds : List Stored → Holding → Held → Type 0
Holds stored holding h = HoldsIn stored holding.content holding.options h

-- what is known of a site is this, if it is something
abbrev pub TellsHeld : List Stored → Option Holding → Got Held → Type 0
TellsHeld stored None g = (h : Held) → g ≡ gives h → ⊥
TellsHeld stored (Some holding) g = (h : Held) × (g ≡ gives h) × Holds stored holding h

-- what is known of sites are the values of these numbers, if they are values
abbrev pub TellsNumbers : List Stored → Option (Vec ℕ Global) → Got Values → Type 0
TellsNumbers stored None g = (vs : Values) → g ≡ gives vs → ⊥
TellsNumbers stored (Some ns) g = (vs : Values) × (g ≡ gives vs) × StandEach stored vs ns.items

-- what is known of a site is the value of this number, if it is a value
abbrev pub TellsNumber : List Stored → Option ℕ → Got Value → Type 0
TellsNumber stored None g = (v : Value) → g ≡ gives v → ⊥
TellsNumber stored (Some n) g = (v : Value) × (g ≡ gives v) × Stands stored v n

-- what is bound is this, if something is
abbrev pub IsHeldBy : List Stored → Option Holding → Option Held → Type 0
IsHeldBy stored None o = o ≡ None
IsHeldBy stored (Some holding) o = (h : Held) × (o ≡ Some h) × Holds stored holding h

-- the bindings are what sites hold
abbrev pub StandFor : List Stored → List (ℕ × Holding) → Env → Type 0
StandFor stored bound env = (k : ℕ) → IsHeldBy stored (held_at k bound) (env k)
