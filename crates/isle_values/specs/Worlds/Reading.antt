-- The steps in which a table world's text is read.
use Rattle.std.specs.Prelude.{◌≡◌, ◌≤◌, ◌++◌, ℕ, false, List, [], Some, None, IsSome, length, take, drop, slice_get}
use Rattle.isle_syntax.specs.declared.lexer.Token.{Token}
use Rattle.isle_syntax.specs.Tokens.RemainingTokens.{RemainingTokens}
use Rattle.isle_types.specs.declared.ids.TermId.{TermId}
use Rattle.isle_program.specs.declared.program.Program.{Program}
use Rattle.isle_values.specs.declared.worlds.entry.Side.{Side}
use Rattle.isle_values.specs.declared.worlds.reading.WorldFault.{WorldFault}
use Rattle.isle_values.specs.declared.worlds.reading.WorldFault.TheVariants.{X1, X2, X3, X4, X5, X6, Memory}
use Rattle.isle_program.specs.Programs.{term_name, value_facts}
use Rattle.isle_values.specs.Worlds.Entries.{EntryTree, entry_tokens, IsSpellableEntry, HaveNoEntry}
use Rattle.isle_values.specs.Worlds.Externals.{ExternalTypes, asked_by, asked_named, settled_entry, IsTypedEntry}
use Rattle.isle_values.specs.Worlds.Tables.{HasEntries, IsAdded, entry_at, entry_of}
use Rattle.isle_values.specs.Worlds.Texts.{IsRead, SpellEntries}

-- no token begins where the tokens of a lexer end, or memory ran out
abbrev pub IsTokenFault : RemainingTokens → WorldFault → Type 0
IsTokenFault old (X1 offset) = (old.left ≡ []) × (old.clean ≡ false) × (old.end ≡ offset)
IsTokenFault old (X2 offset) = ⊥
IsTokenFault old (X3 offset) = ⊥
IsTokenFault old (X4 offset) = ⊥
IsTokenFault old (X5 offset) = ⊥
IsTokenFault old (X6 term) = ⊥
IsTokenFault old (Memory e) = Unit {0}

-- an entry stands at the front of tokens
pub record BeginsWithEntry (tokens : List Token) (spelt : EntryTree) : Type 0 where
  pub more : List Token
  pub front : tokens ≡ entry_tokens spelt ++ more
  pub spellable : IsSpellableEntry spelt

-- the entry at the front of tokens, of which there are so many, is put into a table
pub record AddsEntry (program : Program) (tokens : List Token) (count : ℕ) (old new : List EntryTree) : Type 0 where
  pub spelt : EntryTree
  pub e : EntryTree
  pub within : count ≤ length tokens
  pub front : take count tokens ≡ entry_tokens spelt
  pub spellable : IsSpellableEntry spelt
  pub read : IsRead program spelt e
  pub added : IsAdded old e new

-- why what begins at an offset is not put into a table
abbrev pub RefusesEntry : Program → List Token → ℕ → List EntryTree → WorldFault → Type 0
RefusesEntry program tokens offset table (X1 at) = ⊥
RefusesEntry program tokens offset table (X2 at) = (at ≡ offset) × HaveNoEntry tokens
RefusesEntry program tokens offset table (X3 at) = (at ≡ offset) × ((spelt : EntryTree) × BeginsWithEntry tokens spelt
    × (asked_named program spelt.side spelt.term ≡ None))
RefusesEntry program tokens offset table (X4 at) = (at ≡ offset) × ((spelt : EntryTree) × (types : ExternalTypes) × BeginsWithEntry tokens spelt
    × (asked_named program spelt.side spelt.term ≡ Some types)
    × (IsTypedEntry (value_facts program) types (settled_entry (value_facts program) types spelt) → ⊥))
RefusesEntry program tokens offset table (X5 at) = (at ≡ offset) × ((spelt e : EntryTree) × BeginsWithEntry tokens spelt × IsRead program spelt e
    × IsSome (entry_of table e))
RefusesEntry program tokens offset table (X6 term) = ⊥
RefusesEntry program tokens offset table (Memory e) = Unit {0}

-- behind entries of a program, what begins at an offset is refused
pub record RefusedBehind (program : Program) (tokens : List Token) (offsets : List ℕ) (fault : WorldFault) : Type 0 where
  pub at : ℕ
  pub offset : ℕ
  pub entries : List EntryTree
  pub table : List EntryTree
  pub good : SpellEntries program (take at tokens) entries
  pub has : HasEntries table entries
  pub stands : slice_get offsets at ≡ Some offset
  pub refuses : RefusesEntry program (drop at tokens) offset table fault

-- a term must always be answered on a side, and a table has nothing for its other calls
pub record LacksElseOn (program : Program) (table : List EntryTree) (term : TermId) (side : Side) : Type 0 where
  pub types : ExternalTypes
  pub asked : asked_by program side term ≡ Some types
  pub always : types.may_fail ≡ false
  pub missing : entry_at table side (term_name program term) None ≡ None

abbrev pub MissesElse : Program → List EntryTree → TermId → Type 0
MissesElse program table term = (side : Side) × LacksElseOn program table term side
