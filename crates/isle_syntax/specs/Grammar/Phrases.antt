-- Words for what tokens spell.
use Rattle.std.specs.Prelude.{◌≡◌, ℕ, zero, suc, List, [], ◌∷◌, ◌++◌, Bool, true, false, Option, Some, None, option_and_then}
use Rattle.isle_ast.specs.declared.pos.Pos.{Pos}
use Rattle.isle_ast.specs.declared.ast.Ident.{Ident}
use Rattle.isle_syntax.specs.Tokens.Names.{is_word}
use Rattle.isle_syntax.specs.Tokens.PlacedTokens.{Placed, opening, closing, at_sign, symbol, int, pos_of}

-- tokens of the one and then tokens of the other
infixr 20 ◌⊙◌
abbrev pub ◌⊙◌ : (List Placed → Type 0) → (List Placed → Type 0) → List Placed → Type 0
◌⊙◌ L M ts = (u : List Placed) × (v : List Placed) × (ts ≡ u ++ v) × L u × M v

-- the same for pairs of values
abbrev pub Both : {A B : Type 0} → (A → List Placed → Type 0) → (B → List Placed → Type 0) → A × B → List Placed → Type 0
Both L M x = L x.0 ⊙ M x.1

-- an opening parenthesis at this place
abbrev pub Opens : Pos → List Placed → Type 0
Opens p ts = ts ≡ opening p ∷ []

-- a closing parenthesis
abbrev pub Closes : Unit {0} → List Placed → Type 0
Closes x ts = (p : Pos) × (ts ≡ closing p ∷ [])

-- an opening parenthesis, and the sign `@`, wherever they stand
abbrev pub Opening : Unit {0} → List Placed → Type 0
Opening x ts = (p : Pos) × (ts ≡ opening p ∷ [])

abbrev pub AtSign : Unit {0} → List Placed → Type 0
AtSign x ts = (p : Pos) × (ts ≡ at_sign p ∷ [])

-- a word of the language, at this place
abbrev pub Word : List ℕ → Pos → List Placed → Type 0
Word w p ts = ts ≡ symbol p w ∷ []

-- the word, wherever it stands
abbrev pub Says : List ℕ → Unit {0} → List Placed → Type 0
Says w x ts = (p : Pos) × Word w p ts

-- a symbol of which p holds
abbrev pub SymbolOf : (List ℕ → Bool) → Ident → List Placed → Type 0
SymbolOf p x ts = (ts ≡ symbol x.1 x.0 ∷ []) × (p x.0 ≡ true)

-- whether the next token is a symbol of which p holds
abbrev pub next_symbol_is : (List ℕ → Bool) → List Placed → Bool
next_symbol_is p [] = false
next_symbol_is p (opening k ∷ ts) = false
next_symbol_is p (closing k ∷ ts) = false
next_symbol_is p (at_sign k ∷ ts) = false
next_symbol_is p (symbol k s ∷ ts) = p s
next_symbol_is p (int k z ∷ ts) = false

-- a flag's word and what follows it, or what doesn't begin with this word: in its place it is always the flag
abbrev pub Flag : List ℕ → Bool → (List Placed → Type 0) → List Placed → Type 0
Flag w true L = Says w tt ⊙ L
Flag w false L = λ ts. L ts × (next_symbol_is (is_word w) ts ≡ false)

-- one after another
abbrev pub Each : {A : Type 0} → (A → List Placed → Type 0) → List A → List Placed → Type 0
Each L [] ts = ts ≡ []
Each L (a ∷ rest) ts = (L a ⊙ Each L rest) ts

-- the same, and then a closing parenthesis
abbrev pub Closed : {A : Type 0} → (A → List Placed → Type 0) → List A → List Placed → Type 0
Closed L items = Each L items ⊙ Closes tt

-- where the first token stands
abbrev pub first_pos : List Placed → Pos
first_pos [] = record { file = 0; offset = 0 }
first_pos (t ∷ ts) = pos_of t

-- tokens of which the first stands at this place
abbrev pub From : {A : Type 0} → (A → List Placed → Type 0) → Pos × A → List Placed → Type 0
From L x ts = L x.1 ts × (first_pos ts ≡ x.0)

-- how many more parentheses may be open after a token, and after some tokens
abbrev pub depth_left_after : ℕ → Placed → Option ℕ
depth_left_after zero (opening p) = None
depth_left_after (suc n) (opening p) = Some n
depth_left_after n (closing p) = Some (suc n)
depth_left_after n (at_sign p) = Some n
depth_left_after n (symbol p s) = Some n
depth_left_after n (int p z) = Some n

abbrev pub depth_left : ℕ → List Placed → Option ℕ
depth_left n [] = Some n
depth_left n (t ∷ ts) = option_and_then (λ m. depth_left m ts) (depth_left_after n t)
