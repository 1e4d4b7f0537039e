-- Where calls are answered: a program in a world, with the effects so far and the values that were met; and what changes as they run.
use Rattle.std.specs.Prelude.{◌≡◌, ℕ, List, Option}
use Rattle.isle_rules.specs.Values.{ValueTree, ValueTrees}
use Rattle.isle_meaning.specs.Worlds.{Answers, Event}
use Rattle.isle_calls.specs.declared.answer.Effect.{Effect}
use Rattle.isle_calls.specs.declared.store.Stored.{Stored}
use Rattle.isle_program.specs.declared.program.Program.{Program}
use Rattle.isle_calls.specs.Calls.Answers.{answers_in, HasMade}
use Rattle.isle_calls.specs.Calls.Open.{CallOf}
use Rattle.isle_calls.specs.Stores.Values.{Extends}

-- what is known of worlds: from which to which an effect leads, and what pure constructors and extractors are answered in each
pub record Host (W : Type 0) : Type 1 where
  pub step : W → List ℕ → ValueTrees → Option ValueTree → W → Type 0
  pub constructs : W → List ℕ → ValueTrees → Option ValueTree
  pub extracts : W → List ℕ → ValueTree → Option ValueTrees

abbrev pub host : {W : Type 0} → (W → List ℕ → ValueTrees → Option ValueTree → W → Type 0) → (W → List ℕ → ValueTrees → Option ValueTree)
    → (W → List ℕ → ValueTree → Option ValueTrees) → Host W
host step constructs extracts = record { step = step; constructs = constructs; extracts = extracts }

-- a program in a world, the effects so far, and the values that were met
pub record State (W : Type 0) : Type 0 where
  pub program : Program
  pub world : W
  pub effects : List Effect
  pub stored : List Stored

abbrev pub state : {W : Type 0} → Program → W → List Effect → List Stored → State W
state program world effects stored = record { program = program; world = world; effects = effects; stored = stored }

-- what the world answers, by the numbers of the program's terms
abbrev pub answers_of : {W : Type 0} → Host W → State W → Answers
answers_of host s = answers_in s.program (host.constructs s.world) (host.extracts s.world)

-- just these effects were made from one state to another
abbrev pub Makes : {W : Type 0} → Host W → State W → State W → List Event → Type 0
Makes host s t made = HasMade host.step s.program s.world s.effects t.world t.effects made

-- a call of the program, in the world
pub record IsOpenIn {W : Type 0} (host : Host W) (k : CallOf) (s : State W) : Type 0 where
  pub of_program : k.program ≡ s.program
  pub in_world : k.answers ≡ answers_of host s

-- what stays and what is added while calls run: the program; the world answers pure calls as it did; effects lead from the one world to the
-- other; and values were put in, of which none was lost or moved
pub record HasGoneOn {W : Type 0} (host : Host W) (s t : State W) : Type 0 where
  pub program : t.program ≡ s.program
  pub same : (host.constructs t.world ≡ host.constructs s.world) × (host.extracts t.world ≡ host.extracts s.world)
  pub made : (made : List Event) × Makes host s t made
  pub kept : Extends s.stored t.stored
