-- The texts of table worlds, and what is wrong with others.
use Rattle.std.specs.Prelude.{◌≡◌, ◌<◌, ◌++◌, ℕ, true, false, List, [], ◌∷◌, map, All, Option, Some, None, length, slice_get}
use Rattle.std.specs.List.{AllZip}
use Rattle.isle_syntax.specs.declared.lexer.Token.{Token}
use Rattle.isle_syntax.specs.Tokens.PlacedTokens.{Placed, pos_of}
use Rattle.isle_syntax.specs.Tokens.TokensOf.{TokensOf}
use Rattle.isle_types.specs.declared.ids.TermId.{TermId}
use Rattle.isle_rules.specs.Values.{ValueTrees}
use Rattle.isle_program.specs.declared.program.Program.{Program}
use Rattle.isle_values.specs.declared.worlds.entry.Side.{Side}
use Rattle.isle_values.specs.declared.worlds.reading.WorldFault.{WorldFault}
use Rattle.isle_values.specs.declared.worlds.reading.WorldFault.TheVariants.{X1, X2, X3, X4, X5, X6, Memory}
use Rattle.isle_program.specs.Programs.{term_name, value_facts}
use Rattle.isle_values.specs.Values.TextTokens.{alone, bare, AreTokensOf}
use Rattle.isle_values.specs.Worlds.Entries.{EntryTree, entry_tokens, IsSpellableEntry, IsSameCall, HaveNoEntry}
use Rattle.isle_values.specs.Worlds.Externals.{ExternalTypes, asked_by, asked_named, settled_entry, IsTypedEntry}

-- the tokens of entries, one behind the other
abbrev pub entries_tokens : List EntryTree → List Token
entries_tokens [] = []
entries_tokens (e ∷ es) = entry_tokens e ++ entries_tokens es

-- an entry, as it is spelt, is this one: it is read at the types of its term, and is of these types
pub record IsRead (program : Program) (spelt e : EntryTree) : Type 0 where
  pub types : ExternalTypes
  pub asked : asked_named program spelt.side spelt.term ≡ Some types
  pub settled : e ≡ settled_entry (value_facts program) types spelt
  pub typed : IsTypedEntry (value_facts program) types e

-- each call has one entry
abbrev pub AreOfDistinctCalls : List EntryTree → Type 0
AreOfDistinctCalls entries = (i j : ℕ) (d e : EntryTree) → slice_get entries i ≡ Some d → slice_get entries j ≡ Some e → IsSameCall d e → i ≡ j

-- tokens spell entries of a program
pub record SpellEntries (program : Program) (tokens : List Token) (entries : List EntryTree) : Type 0 where
  pub spelt : List EntryTree
  pub spellable : All IsSpellableEntry spelt
  pub tokens_are : tokens ≡ entries_tokens spelt
  pub read : AllZip (IsRead program) spelt entries
  pub once : AreOfDistinctCalls entries

-- a term must always be answered on some side, and no entry stands for its other calls
pub record LacksElse (program : Program) (entries : List EntryTree) (term : TermId) : Type 0 where
  pub side : Side
  pub types : ExternalTypes
  pub asked : asked_by program side term ≡ Some types
  pub always : types.may_fail ≡ false
  pub missing : (i : ℕ) (answer : Option ValueTrees)
      → slice_get entries i ≡ Some (record { side = side; term = term_name program term; call = None; answer = answer }) → ⊥

-- a text spells a world: its tokens are entries, and what must always be answered has an `else`
pub record SpellsWorld (program : Program) (text : List ℕ) (entries : List EntryTree) : Type 0 where
  pub tokens : List Token
  pub tokens_of : AreTokensOf text tokens
  pub spelt : SpellEntries program tokens entries
  pub always : (term : TermId) → LacksElse program entries term → ⊥

-- behind entries of a program, tokens of a text are left, of which the first stands at an offset
pub record ReachesEntry (program : Program) (text : List ℕ) (offset : ℕ) (entries : List EntryTree) (left : List Token) : Type 0 where
  pub placed : List Placed
  pub end : ℕ
  pub are : TokensOf (alone text) text placed end true
  pub before : List Token
  pub split : map bare placed ≡ before ++ left
  pub good : SpellEntries program before entries
  pub first : Placed
  pub stands : slice_get placed (length before) ≡ Some first
  pub at : (pos_of first).offset ≡ offset

-- behind entries of a program an entry begins at an offset
pub record ReachesSpelt (program : Program) (text : List ℕ) (offset : ℕ) (entries : List EntryTree) (spelt : EntryTree) : Type 0 where
  pub more : List Token
  pub reaches : ReachesEntry program text offset entries (entry_tokens spelt ++ more)
  pub spellable : IsSpellableEntry spelt

-- what is wrong with a text, the first of the causes that holds, entry by entry: a token fault anywhere; no entry; no term that a
-- world may be asked of in this way; not of its types; another entry of the same call; at last the first term that lacks an `else`
abbrev pub RefusesWorld : Program → List ℕ → WorldFault → Type 0
RefusesWorld program text (X1 offset) = (placed : List Placed) × TokensOf (alone text) text placed offset false
RefusesWorld program text (X2 offset) = (entries : List EntryTree) × (left : List Token) × ReachesEntry program text offset entries left
    × HaveNoEntry left
RefusesWorld program text (X3 offset) = (entries : List EntryTree) × (spelt : EntryTree) × ReachesSpelt program text offset entries spelt
    × (asked_named program spelt.side spelt.term ≡ None)
RefusesWorld program text (X4 offset) = (entries : List EntryTree) × (spelt : EntryTree) × (types : ExternalTypes)
    × ReachesSpelt program text offset entries spelt × (asked_named program spelt.side spelt.term ≡ Some types)
    × (IsTypedEntry (value_facts program) types (settled_entry (value_facts program) types spelt) → ⊥)
RefusesWorld program text (X5 offset) = (entries : List EntryTree) × (spelt e d : EntryTree) × (i : ℕ)
    × ReachesSpelt program text offset entries spelt × IsRead program spelt e × (slice_get entries i ≡ Some d) × IsSameCall d e
RefusesWorld program text (X6 term) = (entries : List EntryTree) × (tokens : List Token) × AreTokensOf text tokens
    × SpellEntries program tokens entries
    × LacksElse program entries term × ((other : TermId) → other.0 < term.0 → LacksElse program entries other → ⊥)
RefusesWorld program text (Memory e) = Unit {0}

-- the tokens of a text, and the offset of each
abbrev pub offset_of : Placed → ℕ
offset_of token = (pos_of token).offset

pub record ArePlaced (text : List ℕ) (tokens : List Token) (offsets : List ℕ) : Type 0 where
  pub placed : List Placed
  pub end : ℕ
  pub are : TokensOf (alone text) text placed end true
  pub tokens_are : tokens ≡ map bare placed
  pub offsets_are : offsets ≡ map offset_of placed
