-- The tokens that spell values.
use Rattle.std.specs.Prelude.{◌≡◌, ◌<◌, List, [], ◌∷◌, ◌++◌, if◌then◌else◌, codes, IsTrue}
use Rattle.std.specs.Fmt.{decimal}
use Rattle.isle_syntax.specs.Tokens.Names.{is_ident, is_const_name}
use Rattle.isle_syntax.specs.declared.lexer.Token.{Token}
use Rattle.isle_syntax.specs.declared.lexer.Token.TheVariants.{LParen, RParen, Symbol, Int, Big}
use Rattle.isle_rules.specs.Values.{ValueTree, ValueTrees, bool_tree, int_tree, big_tree, const_tree, opaque_tree, data_tree, no_trees, more_trees}

-- `true` and `false`, an integer, `$NAME`, `v7`, `( IDENT value* )`
abbrev mutual
  pub tokens_of : ValueTree → List Token
  tokens_of (bool_tree b) = Symbol (if b then codes "true" else codes "false") ∷ []
  tokens_of (int_tree n) = Int n ∷ []
  tokens_of (big_tree n) = Big n ∷ []
  tokens_of (const_tree name) = Symbol (codes "$" ++ name) ∷ []
  tokens_of (opaque_tree n) = Symbol (codes "v" ++ decimal n) ∷ []
  tokens_of (data_tree name fields) = LParen ∷ Symbol name ∷ (tokens_all fields ++ RParen ∷ [])

  pub tokens_all : ValueTrees → List Token
  tokens_all no_trees = []
  tokens_all (more_trees v vs) = tokens_of v ++ tokens_all vs

-- names are spelt as such, and an opaque value has 64 bits
abbrev mutual
  pub IsSpellable : ValueTree → Type 0
  IsSpellable (bool_tree b) = Unit {0}
  IsSpellable (int_tree n) = Unit {0}
  IsSpellable (big_tree n) = Unit {0}
  IsSpellable (const_tree name) = IsTrue (is_const_name name)
  IsSpellable (opaque_tree n) = n < 18446744073709551616
  IsSpellable (data_tree name fields) = IsTrue (is_ident name) × AreSpellable fields

  pub AreSpellable : ValueTrees → Type 0
  AreSpellable no_trees = Unit {0}
  AreSpellable (more_trees v vs) = IsSpellable v × AreSpellable vs

-- these tokens spell the value
abbrev pub SpellValue : List Token → ValueTree → Type 0
SpellValue tokens v = IsSpellable v × (tokens ≡ tokens_of v)

-- no value stands at the front of tokens
abbrev pub HaveNoValue : List Token → Type 0
HaveNoValue tokens = (v : ValueTree) (rest : List Token) → IsSpellable v → tokens ≡ tokens_of v ++ rest → ⊥

-- these tokens spell the values one behind the other, up to a closing parenthesis
abbrev pub SpellArguments : List Token → ValueTrees → Type 0
SpellArguments tokens vs = AreSpellable vs × (tokens ≡ tokens_all vs ++ RParen ∷ [])
