-- Where lists that are open close.
use Rattle.std.proofs.Common.{◌≡◌, ◌<◌, ◌≤◌, ◌+◌, ◌-◌, ◌++◌, ◌↔◌, ℕ, suc, List, [], ◌∷◌, length, drop, get_or, refl, sym, ◌∙◌, ap, subst, arith, append_assoc}
use Rattle.std.proofs.Math.Seq.{drop-cons, drop-length}
use Rattle.std.proofs.lemmas.List.{length-drop}
use Rattle.isle_syntax.specs.declared.lexer.Token.{Token}
use Rattle.isle_syntax.specs.declared.lexer.Token.TheVariants.{LParen, RParen, At, Symbol, Int, Big}
use Rattle.isle_values.specs.Values.Lists.{IsWord, AreItems, no_items, a_word, a_list, Closes, opened_after}

-- a parenthesis is no word
no_opening : (word : Token) → IsWord word → word ≡ LParen → ⊥
no_opening At w e = absurd cc
no_opening (Symbol s) w e = absurd cc
no_opening (Int n) w e = absurd cc
no_opening (Big n) w e = absurd cc
no_opening LParen w e = w
no_opening RParen w e = w

no_closing : (word : Token) → IsWord word → word ≡ RParen → ⊥
no_closing At w e = absurd cc
no_closing (Symbol s) w e = absurd cc
no_closing (Int n) w e = absurd cc
no_closing (Big n) w e = absurd cc
no_closing LParen w e = w
no_closing RParen w e = w

-- items that begin with a word, and with a list
word_first : {items : List Token} (d : ℕ) (word : Token) (tokens rest : List Token) → IsWord word → AreItems items
    → word ∷ tokens ≡ items ++ (RParen ∷ rest)
    → Closes d rest → Closes (suc d) tokens
word_first d word tokens rest w no_items e closes = absurd (no_closing word w (let same : word ≡ RParen = cc in same))
word_first d word tokens rest w (a_word {items = items} other o are) e closes =
    (items, rest, are, (let same : tokens ≡ items ++ (RParen ∷ rest) = cc in same), closes)
word_first d word tokens rest w (a_list inner are) e closes = absurd (no_opening word w (let same : word ≡ LParen = cc in same))

list_first : {items : List Token} (d : ℕ) (tokens rest : List Token) → AreItems items → LParen ∷ tokens ≡ items ++ (RParen ∷ rest)
    → Closes d rest → Closes (suc (suc d)) tokens
list_first d tokens rest no_items e closes = let never : LParen ≡ RParen = cc in absurd cc
list_first d tokens rest (a_word other o are) e closes = absurd (no_opening other o (let same : other ≡ LParen = cc in same))
list_first d tokens rest (a_list {inner = inner} {items = items} in_list are) e closes =
    let same : tokens ≡ (inner ++ (RParen ∷ items)) ++ (RParen ∷ rest) = cc in
    (inner, items ++ (RParen ∷ rest), in_list, same ∙ append_assoc inner (RParen ∷ items) (RParen ∷ rest), (items, rest, are, refl, closes))

close_first : {items : List Token} (d : ℕ) (tokens rest : List Token) → AreItems items → RParen ∷ tokens ≡ items ++ (RParen ∷ rest)
    → tokens ≡ rest
close_first d tokens rest no_items e = let same : tokens ≡ rest = cc in same
close_first d tokens rest (a_word other o are) e = absurd (no_closing other o (let same : other ≡ RParen = cc in same))
close_first d tokens rest (a_list inner are) e = let never : RParen ≡ LParen = cc in absurd cc

-- what a first token does to the lists that are open
pub at_word : (d : ℕ) (word : Token) (tokens : List Token) → IsWord word → Closes (suc d) (word ∷ tokens) ↔ Closes (suc d) tokens
at_word d word tokens w = (
  λ (items, rest, are, e, closes). word_first d word tokens rest w are e closes,
  λ (items, rest, are, e, closes). (word ∷ items, rest, a_word word w are, ap (λ l. word ∷ l) e, closes),
)

pub at_opening : (d : ℕ) (tokens : List Token) → Closes (suc d) (LParen ∷ tokens) ↔ Closes (suc (suc d)) tokens
at_opening d tokens = (
  λ (items, rest, are, e, closes). list_first d tokens rest are e closes,
  λ (inner, more, in_list, e, (items, rest, are, f, closes)). (
    LParen ∷ (inner ++ (RParen ∷ items)),
    rest,
    a_list in_list are,
    ap (λ l. LParen ∷ l) (e ∙ ap (λ l. inner ++ (RParen ∷ l)) f ∙ sym (append_assoc inner (RParen ∷ items) (RParen ∷ rest))),
    closes,
  ),
)

pub at_closing : (d : ℕ) (tokens : List Token) → Closes (suc d) (RParen ∷ tokens) ↔ Closes d tokens
at_closing d tokens = (
  λ (items, rest, are, e, closes). subst (Closes d) (sym (close_first d tokens rest are e)) closes,
  λ closes. ([], tokens, no_items, refl, closes),
)

-- with nothing left no list closes
pub at_end : (d : ℕ) → Closes (suc d) [] → ⊥
at_end d ([], rest, are, e, closes) = let never : [] ≡ RParen ∷ rest = e in absurd cc
at_end d (item ∷ items, rest, are, e, closes) = let never : [] ≡ item ∷ (items ++ (RParen ∷ rest)) = e in absurd cc

both : {A B C : Type 0} → A ↔ B → B ↔ C → A ↔ C
both p q = (λ a. q.0 (p.0 a), λ c. p.1 (q.1 c))

same_closes : (a b : ℕ) (tokens : List Token) → a ≡ b → Closes a tokens ↔ Closes b tokens
same_closes a b tokens e = (subst (λ n. Closes n tokens) e, subst (λ n. Closes n tokens) (sym e))

-- what each token does
pub next_closes : (token : Token) (tokens : List Token) (d : ℕ) → Closes (suc d) (token ∷ tokens) ↔ Closes (opened_after token (suc d)) tokens
next_closes LParen tokens d = both (at_opening d tokens) (same_closes (suc (suc d)) (suc d + 1) tokens (omega arith))
next_closes RParen tokens d = both (at_closing d tokens) (same_closes d (suc d - 1) tokens (omega arith))
next_closes At tokens d = at_word d At tokens tt
next_closes (Symbol s) tokens d = at_word d (Symbol s) tokens tt
next_closes (Int n) tokens d = at_word d (Int n) tokens tt
next_closes (Big n) tokens d = at_word d (Big n) tokens tt

-- the lists that are open behind one more token
pub next_step : (tokens : List Token) (i d : ℕ) (token : Token) → i < length tokens → token ≡ get_or tokens i token
    → Closes 1 tokens ↔ Closes (suc d) (drop i tokens) → Closes 1 tokens ↔ Closes (opened_after token (suc d)) (drop (i + 1) tokens)
next_step tokens i d token low is so_far =
    let next : suc i ≡ i + 1 = omega arith in
    let split : drop i tokens ≡ token ∷ drop (i + 1) tokens =
    drop-cons tokens i token low ∙ ap (λ t. t ∷ drop (suc i) tokens) (sym is) ∙ ap (λ k. token ∷ drop k tokens) next in
    both so_far (both (subst (Closes (suc d)) split, subst (Closes (suc d)) (sym split)) (next_closes token (drop (i + 1) tokens) d))

-- no more are open than tokens were read
pub few_opened : (token : Token) (opened bound : ℕ) → opened ≤ bound → opened_after token opened ≤ bound + 1
few_opened LParen opened bound le = omega (arith, le)
few_opened RParen opened bound le = omega (arith, le)
few_opened At opened bound le = omega (arith, le)
few_opened (Symbol s) opened bound le = omega (arith, le)
few_opened (Int n) opened bound le = omega (arith, le)
few_opened (Big n) opened bound le = omega (arith, le)

-- where no list is open, nothing is left
pub none_open : (tokens : List Token) (i : ℕ) → i < length tokens → Closes 0 (drop (i + 1) tokens) ↔ (i + 1 ≡ length tokens)
none_open tokens i low = (
  λ empty. let len = length-drop (i + 1) tokens in let none = ap length empty in omega (arith, len, none, low),
  λ last. ap (λ k. drop k tokens) last ∙ drop-length tokens,
)
