-- Lists of tokens whose parentheses match.
use Rattle.std.specs.Prelude.{◌≡◌, ◌+◌, ◌-◌, ℕ, zero, suc, List, [], ◌∷◌, ◌++◌}
use Rattle.isle_syntax.specs.declared.lexer.Token.{Token}
use Rattle.isle_syntax.specs.declared.lexer.Token.TheVariants.{LParen, RParen, At, Symbol, Int, Big}

-- a token that is no parenthesis
abbrev pub IsWord : Token → Type 0
IsWord LParen = ⊥
IsWord RParen = ⊥
IsWord At = Unit {0}
IsWord (Symbol s) = Unit {0}
IsWord (Int n) = Unit {0}
IsWord (Big n) = Unit {0}

-- words and lists
pub data AreItems : List Token → Type 0 where
  no_items : AreItems []
  a_word : {items : List Token} (word : Token) → IsWord word → AreItems items → AreItems (word ∷ items)
  a_list : {inner items : List Token} → AreItems inner → AreItems items → AreItems (LParen ∷ (inner ++ (RParen ∷ items)))

-- items up to the end of so many lists that are open, and nothing behind that
abbrev pub Closes : ℕ → List Token → Type 0
Closes zero tokens = tokens ≡ []
Closes (suc open_lists) tokens = (items : List Token) × (rest : List Token) × AreItems items × (tokens ≡ items ++ (RParen ∷ rest))
    × Closes open_lists rest

-- the tokens are one list that begins with a symbol, and what stands behind that
pub record IsListOf (tokens : List Token) (name : List ℕ) (rest : List Token) : Type 0 where
  pub begins : tokens ≡ LParen ∷ Symbol name ∷ rest
  pub closes : Closes 1 rest

-- how many lists are open behind a token
abbrev pub opened_after : Token → ℕ → ℕ
opened_after LParen opened = opened + 1
opened_after RParen opened = opened - 1
opened_after At opened = opened
opened_after (Symbol s) opened = opened
opened_after (Int n) opened = opened
opened_after (Big n) opened = opened
