-- What a table world answers.
use Rattle.std.specs.Prelude.{◌≡◌, ◌⊎◌, ◌&&◌, ◌==◌, ℕ, Bool, List, [], ◌∷◌, Option, Some, None, IfSome, cond, slice_get}
use Rattle.std.specs.Option.{option_map, option_and_then}
use Rattle.std.specs.Str.{bytes_eq}
use Rattle.std.specs.Global.{Vec}
use Rattle.std.specs.Coded.{coded_option}
use Rattle.isle_ast.specs.Trees.Equality.{same_coded}
use Rattle.isle_rules.specs.Values.{ValueTree, ValueTrees, no_trees, more_trees}
use Rattle.isle_values.specs.declared.worlds.entry.Side.{Side}
use Rattle.isle_values.specs.declared.worlds.entry.Side.TheVariants.{Constructor, Extractor}
use Rattle.isle_values.specs.declared.worlds.table.Key.{Key}
use Rattle.isle_values.specs.Values.Code.{value_trees_code}
use Rattle.isle_values.specs.Worlds.EntryCode.{side_number}
use Rattle.isle_values.specs.Worlds.Entries.{EntryTree, IsSameCall, part_shown}
use Rattle.isle_values.specs.Values.Nodes.{nodes_all, values_in}

-- whether an entry is of a call of a side of a term, or of all calls that have no entry of their own
abbrev pub is_call : Side → List ℕ → Option ValueTrees → EntryTree → Bool
is_call side term call e = (side_number side == side_number e.side) &&
    (bytes_eq term e.term && same_coded (coded_option value_trees_code) call e.call)

-- what entries have at such a call
abbrev pub entry_at : List EntryTree → Side → List ℕ → Option ValueTrees → Option (Option ValueTrees)
entry_at [] side term call = None
entry_at (e ∷ es) side term call = cond (is_call side term call e) (Some e.answer) (entry_at es side term call)

-- an answer, or the one in its place
abbrev pub or_else : Option (Option ValueTrees) → Option ValueTrees → Option ValueTrees
or_else None other = other
or_else (Some answer) other = answer

-- a call is answered by its entry, else by the term's `else`, else by none
abbrev pub answered : List EntryTree → Side → List ℕ → ValueTrees → Option ValueTrees
answered entries side term vs = or_else (entry_at entries side term (Some vs)) (or_else (entry_at entries side term None) None)

-- the value of a constructor's answer
abbrev pub first_of : ValueTrees → Option ValueTree
first_of no_trees = None
first_of (more_trees v vs) = Some v

abbrev pub constructed : List EntryTree → List ℕ → ValueTrees → Option ValueTree
constructed entries term vs = option_and_then first_of (answered entries Constructor term vs)

abbrev pub extracted : List EntryTree → List ℕ → ValueTree → Option ValueTrees
extracted entries term v = answered entries Extractor term (more_trees v no_trees)

-- the key of a call
abbrev pub key_of : Side → List ℕ → Option ValueTrees → Key
key_of side term call = record { side = side; term = term; call = option_map nodes_all call }

-- an entry by its key and its answer
abbrev pub row_shown : Key × Option (Vec ValueTree) → EntryTree
row_shown row = record { side = row.0.side; term = row.0.term; call = option_map values_in row.0.call; answer = part_shown row.1 }

-- a key is that of a call
abbrev pub IsKey : Key × Option (Vec ValueTree) → Type 0
IsKey row = IfSome row.0.call (λ nodes. nodes ≡ nodes_all (values_in nodes))

-- what entries have at the call of one
abbrev pub entry_of : List EntryTree → EntryTree → Option (Option ValueTrees)
entry_of entries e = entry_at entries e.side e.term e.call

-- a table has exactly these entries
pub record HasEntries (table entries : List EntryTree) : Type 0 where
  pub all : (i : ℕ) (e : EntryTree) → slice_get entries i ≡ Some e → entry_of table e ≡ Some e.answer
  pub only : (e : EntryTree) → entry_of table e ≡ Some e.answer → (i : ℕ) × (slice_get entries i ≡ Some e)

-- a table has one more entry, of a call that had none
pub record IsAdded (old : List EntryTree) (e : EntryTree) (new : List EntryTree) : Type 0 where
  pub absent : entry_of old e ≡ None
  pub there : entry_of new e ≡ Some e.answer
  pub kept : (d : EntryTree) → IsSameCall d e ⊎ (entry_of new d ≡ entry_of old d)
