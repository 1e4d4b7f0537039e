-- Of errors that tell the same the first.
use Rattle.std.specs.Prelude.{◌≡◌, ◌⊎◌, ◌<◌, ℕ, Bool, true, not, ◌||◌, ◌&&◌, eqb, Option, Some, None, List, slice_get, bytes_eq, All}
use Rattle.std.specs.List.{before_first}
use Rattle.isle_ast.specs.declared.pos.Pos.{Pos}
use Rattle.isle_ast.specs.declared.error.Error.{Error}
use Rattle.isle_ast.specs.declared.error.Error.TheVariants.{ParseError, TypeError, UnreachableError, OverlapError, ShadowedError, SizeError}
use Rattle.isle_ast.specs.contracts.pos.PosPartialEq.TheImpl as pos_of
use Rattle.isle_containers.specs.StableMaps.{has}
use Rattle.isle_rules.specs.Definitions.{IsAmong}

-- where a type error stands, and the first line of its message
abbrev pub fault_key : Error → Option (Pos × List ℕ)
fault_key (ParseError _ _) = None
fault_key (TypeError message span) = Some (span.from, before_first (λ b. eqb b 10) message)
fault_key (UnreachableError _ _) = None
fault_key (OverlapError _ _) = None
fault_key (ShadowedError _ _) = None
fault_key (SizeError _ _) = None

-- whether two places and lines are the same
abbrev pub same_key : (Pos × List ℕ) → (Pos × List ℕ) → Bool
same_key a b = (pos_of.ghosts).eq a.0 b.0 && bytes_eq a.1 b.1

-- a place and a line, if there are, are put among those that were met, and it is told whether they are new; what has none is new
abbrev pub MeetsKey : Option (Pos × List ℕ) → (old : List (Pos × List ℕ)) → Bool → (new : List (Pos × List ℕ)) → Type 0
MeetsKey None old is_new new = (is_new ≡ true) × (new ≡ old)
MeetsKey (Some key) old is_new new = (is_new ≡ not (has same_key old key))
    × ((other : Pos × List ℕ) → has same_key new other ≡ (same_key key other || has same_key old other))

-- two type errors stand at one place, and their messages begin with the same line
abbrev pub TellAlike : Error → Error → Type 0
TellAlike one other = (key : Pos × List ℕ) × (fault_key one ≡ Some key) × (fault_key other ≡ Some key)

-- some errors have an error among them, or one that tells the same
abbrev pub Tell : List Error → Error → Type 0
Tell told error = (first : Error) × IsAmong told first × ((first ≡ error) ⊎ TellAlike first error)

-- of errors those that are told: each is one of them, they tell all of them, and no two tell the same
pub record AreToldOf (errors told : List Error) : Type 0 where
  pub among : All (IsAmong errors) told
  pub all : All (Tell told) errors
  pub once : (i j : ℕ) (first second : Error) → i < j → slice_get told i ≡ Some first → slice_get told j ≡ Some second
      → TellAlike first second → ⊥
