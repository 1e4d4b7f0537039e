-- A value that is read token by token.
use Rattle.std.specs.Prelude.{◌≡◌, ◌<◌, ◌⊎◌, ℕ, suc, List, [], ◌∷◌, ◌++◌, length, take, drop, IsTrue}
use Rattle.isle_syntax.specs.Tokens.Names.{is_ident}
use Rattle.isle_syntax.specs.declared.lexer.Token.{Token}
use Rattle.isle_syntax.specs.declared.lexer.Token.TheVariants.{LParen, RParen, Symbol}
use Rattle.isle_rules.specs.Values.{ValueTree, ValueTrees, data_tree, no_trees, more_trees}
use Rattle.isle_values.specs.declared.values.Node.{Node}
use Rattle.isle_values.specs.declared.values.Node.TheVariants.{Data}
use Rattle.isle_values.specs.declared.values.reading.Open.{Open}
use Rattle.isle_values.specs.Values.Nodes.{count_of, joined, nodes_of, nodes_all}
use Rattle.isle_values.specs.Values.Tokens.{tokens_of, tokens_all, IsSpellable, AreSpellable}

-- one more field of the innermost data that is open
abbrev pub counted : List Open → List Open
counted [] = []
counted (place ∷ []) = record { node = place.node; fields = suc place.fields } ∷ []
counted (place ∷ next ∷ inner) = place ∷ counted (next ∷ inner)

-- open data whose node is one of so many, and that has fewer fields
abbrev pub IsWithin : ℕ → Open → Type 0
IsWithin count place = (place.node < count) × (place.fields < count)

-- data that is open: its name, and the fields that are read
abbrev pub Level : Type 0
Level = List ℕ × ValueTrees

-- the tokens that are read, the innermost data first
abbrev pub tokens_read : List Level → List Token
tokens_read [] = []
tokens_read (level ∷ outer) = tokens_read outer ++ (LParen ∷ Symbol level.0 ∷ tokens_all level.1)

-- the nodes that are laid out: those of open data don't yet say how many fields they have
abbrev pub nodes_read : List Level → List Node
nodes_read [] = []
nodes_read (level ∷ outer) = nodes_read outer ++ (Data level.0 0 0 ∷ nodes_all level.1)

-- where each is, the innermost last
abbrev pub places_of : List Level → List Open
places_of [] = []
places_of (level ∷ outer) = places_of outer ++ record { node = length (nodes_read outer); fields = count_of level.1 } ∷ []

abbrev pub LevelsSpellable : List Level → Type 0
LevelsSpellable [] = Unit {0}
LevelsSpellable (level ∷ outer) = (IsTrue (is_ident level.0) × AreSpellable level.1) × LevelsSpellable outer

-- A value is the next field of the innermost data, and the tokens that are left complete the levels to a whole, before some rest.
abbrev pub Ends : List Level → ValueTree → ValueTree → List Token → List Token → Type 0
Ends [] v whole rest left = (v ≡ whole) × (left ≡ rest)
Ends (level ∷ outer) v whole rest left = (gs : ValueTrees) × (more : List Token) × AreSpellable gs × (left ≡ tokens_all gs ++ (RParen ∷ more))
    × Ends outer (data_tree level.0 (joined (joined level.1 (more_trees v no_trees)) gs)) whole rest more

-- the tokens that are left complete the levels to a whole, before some rest
abbrev pub Completes : List Level → ValueTree → List Token → List Token → Type 0
Completes [] whole rest left = left ≡ tokens_of whole ++ rest
Completes (level ∷ outer) whole rest left = (gs : ValueTrees) × (more : List Token) × AreSpellable gs × (left ≡ tokens_all gs ++ (RParen ∷ more))
    × Ends outer (data_tree level.0 (joined level.1 gs)) whole rest more

-- a value whose data is still open, or that isn't begun
pub record IsReading (tokens : List Token) (at : ℕ) (levels : List Level) (nodes : List Node) (opened : List Open) : Type 0 where
  pub spelt : take at tokens ≡ tokens_read levels
  pub laid : nodes ≡ nodes_read levels
  pub places : opened ≡ places_of levels
  pub spellable : LevelsSpellable levels
  pub completes : (whole : ValueTree) (rest : List Token) → IsSpellable whole → tokens ≡ tokens_of whole ++ rest
      → Completes levels whole rest (drop at tokens)

-- a value that is read
pub record IsRead (tokens : List Token) (at : ℕ) (nodes : List Node) (v : ValueTree) : Type 0 where
  pub spelt : take at tokens ≡ tokens_of v
  pub laid : nodes ≡ nodes_of v
  pub spellable : IsSpellable v

-- data is open, or the value is read
abbrev pub GoesOn : List Token → ℕ → List Node → List Open → Type 0
GoesOn tokens at nodes opened = ((level : Level) × (outer : List Level) × IsReading tokens at (level ∷ outer) nodes opened)
    ⊎ ((opened ≡ []) × ((v : ValueTree) × IsRead tokens at nodes v))
