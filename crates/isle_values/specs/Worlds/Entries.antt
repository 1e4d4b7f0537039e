-- Entries of a table world's text, and the tokens that spell them.
use Rattle.std.specs.Prelude.{◌≡◌, ◌++◌, ℕ, Bool, true, false, List, [], ◌∷◌, Option, Some, None, IsTrue, codes, Vec}
use Rattle.std.specs.Global.{Global}
use Rattle.std.specs.Option.{option_map}
use Rattle.isle_syntax.specs.Tokens.Names.{is_ident}
use Rattle.isle_syntax.specs.declared.lexer.Token.{Token}
use Rattle.isle_syntax.specs.declared.lexer.Token.TheVariants.{LParen, RParen, Symbol}
use Rattle.isle_rules.specs.Values.{ValueTree, ValueTrees, value_list}
use Rattle.isle_values.specs.declared.worlds.entry.Side.{Side}
use Rattle.isle_values.specs.declared.worlds.entry.Side.TheVariants.{Constructor, Extractor}
use Rattle.isle_values.specs.declared.worlds.entry.Entry.{Entry}
use Rattle.isle_values.specs.Values.Nodes.{count_of}
use Rattle.isle_values.specs.Values.Tokens.{tokens_all, AreSpellable}

-- what a world answers: of a side of a term, one call, or all that have no entry of their own; the answer's values, or none
pub record EntryTree : Type 0 where
  pub side : Side
  pub term : List ℕ
  pub call : Option ValueTrees
  pub answer : Option ValueTrees

-- two entries are of one call
pub record IsSameCall (d e : EntryTree) : Type 0 where
  pub side : d.side ≡ e.side
  pub term : d.term ≡ e.term
  pub call : d.call ≡ e.call

-- a call of a constructor and an answer of an extractor are lists; the others are one value
abbrev pub lists_calls : Side → Bool
lists_calls Constructor = true
lists_calls Extractor = false

abbrev pub lists_answers : Side → Bool
lists_answers Constructor = false
lists_answers Extractor = true

-- the words of the sides
abbrev pub side_word : Side → List ℕ
side_word Constructor = codes "constructor"
side_word Extractor = codes "extractor"

-- the tokens of a list of values, or of one value
abbrev pub values_tokens : (listed : Bool) → ValueTrees → List Token
values_tokens true vs = LParen ∷ (tokens_all vs ++ RParen ∷ [])
values_tokens false vs = tokens_all vs

-- values that are spelt so: what isn't listed is one value
abbrev pub AreSpeltAs : (listed : Bool) → ValueTrees → Type 0
AreSpeltAs true vs = AreSpellable vs
AreSpeltAs false vs = AreSpellable vs × (count_of vs ≡ 1)

-- the tokens of a call or an answer; a word stands for none
abbrev pub part_tokens : (listed : Bool) → (word : List ℕ) → Option ValueTrees → List Token
part_tokens listed word None = Symbol word ∷ []
part_tokens listed word (Some vs) = values_tokens listed vs

abbrev pub IsSpeltPart : (listed : Bool) → Option ValueTrees → Type 0
IsSpeltPart listed None = Unit {0}
IsSpeltPart listed (Some vs) = AreSpeltAs listed vs

-- `(constructor IDENT (value*) ANSWER)`, `(constructor IDENT else ANSWER)`, and so with `extractor`
abbrev pub entry_tokens : EntryTree → List Token
entry_tokens e = LParen ∷ Symbol (side_word e.side) ∷ Symbol e.term
    ∷ (part_tokens (lists_calls e.side) (codes "else") e.call ++ (part_tokens (lists_answers e.side) (codes "none") e.answer ++ RParen ∷ []))

-- an entry that can be spelt
pub record IsSpellableEntry (e : EntryTree) : Type 0 where
  pub named : IsTrue (is_ident e.term)
  pub call : IsSpeltPart (lists_calls e.side) e.call
  pub answer : IsSpeltPart (lists_answers e.side) e.answer

-- no entry stands at the front of tokens
abbrev pub HaveNoEntry : List Token → Type 0
HaveNoEntry tokens = (e : EntryTree) (rest : List Token) → IsSpellableEntry e → tokens ≡ entry_tokens e ++ rest → ⊥

-- values, as the code has them
abbrev pub part_shown : Option (Vec ValueTree Global) → Option ValueTrees
part_shown part = option_map (λ values. value_list values.items) part

abbrev pub entry_shown : Entry → EntryTree
entry_shown entry = record { side = entry.side; term = entry.term; call = part_shown entry.call; answer = part_shown entry.answer }
