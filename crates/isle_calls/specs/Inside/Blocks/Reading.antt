-- What a machine reads and makes, by the numbers of values.
use Rattle.std.specs.Prelude.{◌≡◌, ◌⊎◌, ℕ, Bool, true, List, [], ◌∷◌, Option, Some, None, slice_get}
use Rattle.isle_types.specs.declared.ids.TermId.{TermId}
use Rattle.isle_rules.specs.Values.{value_list}
use Rattle.isle_meaning.specs.Asking.{Asked, ill_typed}
use Rattle.isle_meaning.specs.Got.{gives}
use Rattle.isle_trees.specs.Rules.{Elem}
use Rattle.isle_meaning.specs.Held.{Held, held_value}
use Rattle.isle_meaning.specs.Machine.Beginnings.{RowBegins}
use Rattle.isle_meaning.specs.Machine.Runs.{Env, values_at, read, RowRuns, option_if, holding}
use Rattle.isle_meaning.specs.Machine.Trees.{IsTermTree, parts_of_row}
use Rattle.isle_meaning.specs.Machine.Walkable.{CanRead}
use Rattle.isle_meaning.specs.Numbered.{Row, constructor_row, extractor_row}
use Rattle.isle_meaning.specs.Outcomes.{Outcome, given, missing, ended}
use Rattle.isle_meaning.specs.Values.{Value, Values}
use Rattle.isle_meaning.specs.Worlds.{Event}
use Rattle.isle_calls.specs.declared.host.Told.{Told}
use Rattle.isle_calls.specs.declared.host.Told.TheVariants.{Gives, Missing as MissingTold, IllTyped as IllTypedTold}
use Rattle.isle_calls.specs.declared.store.Stored.{Stored}
use Rattle.isle_calls.specs.declared.machine.binding.Made.{Made}
use Rattle.isle_calls.specs.declared.machine.binding.Made.TheVariants as makes
use Rattle.isle_calls.specs.declared.machine.frame.Frame.{Frame}
use Rattle.isle_calls.specs.declared.machine.holding.Holding.{Holding}
use Rattle.isle_calls.specs.Inside.Blocks.Frames.{IsGrown, IsFrameFor, IsGoodEnv, AreBound, HasReply, runs_below, begins_below, sites_of_call, tree_of_call}
use Rattle.isle_calls.specs.Inside.Blocks.Holdings.{Holds, StandFor}
use Rattle.isle_calls.specs.Calls.Answers.{IsCalledOn}
use Rattle.isle_calls.specs.Calls.Open.{CallOf}
use Rattle.isle_calls.specs.Calls.Ways.{IsReady}
use Rattle.isle_program.specs.Meanings.{checked, may_run}
use Rattle.isle_calls.specs.Stores.Values.{Stands, StandEach, Extends}

-- a value is that of a node, whose fields are values of a store
abbrev pub IsNodeOf : List Stored → Value → Stored → Type 0
IsNodeOf stored v node = (n : ℕ) (new : List Stored) → Extends stored new → slice_get new n ≡ Some node → Stands new v n

-- the arguments of a frame are these, and what it has bound is this
pub record IsAround (stored : List Stored) (frame : Frame) (args : Values) (env : Env) : Type 0 where
  pub args_stand : StandEach stored args frame.args.items
  pub bound : StandFor stored frame.bound env

-- a site of a call comes to this, with these effects
abbrev pub SiteComes : CallOf → Env → Row → List Event → Outcome Held → Type 0
SiteComes k env row effects r =
    RowRuns (checked k.program) k.answers (runs_below k) (sites_of_call k) k.args env row effects r

-- it waits for a call of a term with rules
pub record SiteWaits (k : CallOf) (stored : List Stored) (env : Env) (row : Row) (term : TermId) (numbers : List ℕ) : Type 0 where
  pub parts : List ℕ
  pub instance : ℕ
  pub is : row ≡ constructor_row term.0 parts instance
  pub vs : Values
  pub args : values_at (read (sites_of_call k) k.args env) parts ≡ gives vs
  pub stand : StandEach stored vs numbers
  pub ruled : (checked k.program).has_rules term.0 ≡ true
  pub ready : IsReady IsGrown k.program term.0 vs

-- what making a site comes to, with these effects
abbrev pub TellsAnswer : CallOf → List Stored → Env → Row → Made → List Event → Type 0
TellsAnswer k stored env row (makes.Holds holding) effects = (h : Held) × Holds stored holding h × SiteComes k env row effects (given h)
TellsAnswer k stored env row makes.Missing effects = SiteComes k env row effects missing
TellsAnswer k stored env row (makes.IllTyped term args) effects =
    (q : Asked) × IsCalledOn (checked k.program) q term (value_list args.items) × SiteComes k env row effects (ended (ill_typed q))
TellsAnswer k stored env row (makes.Waits term numbers) effects = (effects ≡ []) × SiteWaits k stored env row term numbers.items

-- what a site holds is this
abbrev pub TellsOutcomeOf : List Stored → Made → Outcome Held → Type 0
TellsOutcomeOf stored (makes.Holds holding) o = (h : Held) × Holds stored holding h × (o ≡ given h)
TellsOutcomeOf stored makes.Missing o = o ≡ missing
TellsOutcomeOf stored (makes.IllTyped term args) o = ⊥
TellsOutcomeOf stored (makes.Waits term numbers) o = ⊥

-- what a call holds that comes to this, and may fail or not
abbrev pub CallHolds : List Stored → Bool → Outcome Value → Made → Type 0
CallHolds stored partial r made = TellsOutcomeOf stored made (option_if partial (holding held_value r))

-- what making a site comes to, where a call that it is may have been replied to
abbrev pub TellsMade : CallOf → List Stored → Env → Option (Outcome Held) → Row → Made → List Event → Type 0
TellsMade k stored env None row made effects = TellsAnswer k stored env row made effects
TellsMade k stored env (Some o) row made effects = (effects ≡ []) × TellsOutcomeOf stored made o

-- with these effects a site that is an impure call begins, or with none
abbrev pub BeginsSite : CallOf → Env → Row → List Event → Type 0
BeginsSite k env row made = (made ≡ []) ⊎ RowBegins (checked k.program) (begins_below k) (sites_of_call k) k.args env row made

-- so where a call that the site is may have been replied to, which then makes none
abbrev pub BeginsMade : CallOf → Env → Option (Outcome Held) → Row → List Event → Type 0
BeginsMade k env None row made = BeginsSite k env row made
BeginsMade k env (Some o) row made = made ≡ []

-- what the world's answer to a call comes to, where the call may fail or not
abbrev pub IsMadeOf : List Stored → Bool → Told ℕ → Made → Type 0
IsMadeOf stored partial (Gives n) made = (v : Value) → Stands stored v n → CallHolds stored partial (given v) made
IsMadeOf stored partial MissingTold made = CallHolds stored partial missing made
IsMadeOf stored partial (IllTypedTold term args) made = made ≡ makes.IllTyped term args

-- a site that holds something, or is missing
abbrev pub held_or_missing : Option Holding → Made
held_or_missing None = makes.Missing
held_or_missing (Some x) = makes.Holds x

-- a site that isn't the call of an extractor or of a constructor
abbrev pub AsksNothing : Row → Type 0
AsksNothing (extractor_row t j) = ⊥
AsksNothing (constructor_row t js i) = ⊥
AsksNothing row = Unit {0}

-- a site of a frame is to be bound
pub record IsBinding (k : CallOf) (stored : List Stored) (frame : Frame) (env : Env) : Type 0 where
  pub is : IsTermTree (checked k.program) (may_run k.program) k.term (tree_of_call k)
  pub for_call : IsFrameFor k stored frame
  pub stand : StandFor stored frame.bound env
  pub good : IsGoodEnv k is env
  pub known : ℕ → Bool
  pub bound : AreBound known env
  pub site : ℕ
  pub row : Row
  pub there : slice_get (sites_of_call k) site ≡ Some row
  pub parts : (j : ℕ) → Elem j (parts_of_row row) → CanRead (sites_of_call k) known j
  pub replied : Option (Outcome Held)
  pub reply : HasReply k stored (site ∷ []) frame.reply replied
