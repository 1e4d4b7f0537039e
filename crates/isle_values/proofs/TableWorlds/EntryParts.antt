-- Tokens spell one entry.
use Rattle.std.proofs.Common.{drop-cons, get_or, ◌<◌, length-append, ◌≡◌, ◌≤◌, ◌+◌, ◌++◌, ℕ, suc, List, [], ◌∷◌, length, take, drop, true, false, Bool, Option, Some, None, refl, sym, ◌∙◌, ap, arith, append_assoc}
use Rattle.std.specs.Prelude.{codes}
use Rattle.std.proofs.Math.Seq.{take-add}
use Rattle.std.proofs.lemmas.List.{length-drop, append-nil, take-append-drop}
use Rattle.isle_syntax.specs.declared.lexer.Token.{Token}
use Rattle.isle_syntax.specs.declared.lexer.Token.TheVariants.{LParen, RParen, Symbol, At, Int, Big}
use Rattle.isle_rules.specs.Values.{ValueTree, ValueTrees, bool_tree, int_tree, big_tree, const_tree, opaque_tree, data_tree, no_trees, more_trees}
use Rattle.isle_values.specs.Values.Tokens.{tokens_of, tokens_all, IsSpellable, AreSpellable, HaveNoValue}
use Rattle.isle_values.specs.Worlds.Entries.{values_tokens, AreSpeltAs, part_tokens, IsSpeltPart}
use Rattle.isle_values.proofs.GroundValues.Reading.{no_close, front_of}
use Rattle.isle_values.proofs.GroundValues.OneSpelling.{one_spelling, all_spelling}
use Rattle.isle_values.proofs.GroundValues.ReadValues.{drop_more}

-- a word that spells no value
abbrev pub NoValue : List ℕ → Type 0
NoValue word = (v : ValueTree) (r s : List Token) → tokens_of v ++ r ≡ Symbol word ∷ s → ⊥

-- the first byte of the symbol at the front of tokens
abbrev first_byte : List Token → ℕ
first_byte [] = 0
first_byte (LParen ∷ tokens) = 0
first_byte (RParen ∷ tokens) = 0
first_byte (At ∷ tokens) = 0
first_byte (Int i ∷ tokens) = 0
first_byte (Big i ∷ tokens) = 0
first_byte (Symbol symbol ∷ tokens) = front_of symbol

-- a word that begins with another byte than values do
pub no_value : (word : List ℕ) → (front_of word ≡ 116 → ⊥) → (front_of word ≡ 102 → ⊥) → (front_of word ≡ 36 → ⊥)
    → (front_of word ≡ 118 → ⊥) → (front_of word ≡ 0 → ⊥)
    → NoValue word
no_value word t f c o z (bool_tree true) r s e = t (sym (ap first_byte e))
no_value word t f c o z (bool_tree false) r s e = f (sym (ap first_byte e))
no_value word t f c o z (int_tree i) r s e = z (sym (ap first_byte e))
no_value word t f c o z (big_tree i) r s e = z (sym (ap first_byte e))
no_value word t f c o z (const_tree name) r s e = c (sym (ap first_byte e))
no_value word t f c o z (opaque_tree n) r s e = o (sym (ap first_byte e))
no_value word t f c o z (data_tree name fs) r s e = z (sym (ap first_byte e))

pub no_else : NoValue (codes "else")
no_else = no_value (codes "else") (λ e. omega (arith, e)) (λ e. omega (arith, e)) (λ e. omega (arith, e))
    (λ e. omega (arith, e)) (λ e. omega (arith, e))

pub no_none : NoValue (codes "none")
no_none = no_value (codes "none") (λ e. omega (arith, e)) (λ e. omega (arith, e)) (λ e. omega (arith, e))
    (λ e. omega (arith, e)) (λ e. omega (arith, e))

-- of two spellings of values at the front of the same tokens each is the other
pub one_values : (listed : Bool) (vs ws : ValueTrees) (r s : List Token) → AreSpeltAs listed vs → AreSpeltAs listed ws
    → values_tokens listed vs ++ r ≡ values_tokens listed ws ++ s → (vs ≡ ws) × (r ≡ s)
one_values true vs ws r s p q e =
    let inner : (tokens_all vs ++ RParen ∷ []) ++ r ≡ (tokens_all ws ++ RParen ∷ []) ++ s = cc in
    all_spelling vs ws r s p q (sym (append_assoc (tokens_all vs) (RParen ∷ []) r) ∙ inner ∙ append_assoc (tokens_all ws) (RParen ∷ []) s)
one_values false no_trees ws r s p q e = absurd (let n = p.1 in omega (arith, n))
one_values false (more_trees v vs) no_trees r s p q e = absurd (let n = q.1 in omega (arith, n))
one_values false (more_trees v (more_trees w vs)) ws r s p q e = absurd (let n = p.1 in omega (arith, n))
one_values false (more_trees v no_trees) (more_trees w (more_trees x ws)) r s p q e = absurd (let n = q.1 in omega (arith, n))
one_values false (more_trees v no_trees) (more_trees w no_trees) r s p q e =
    let (same, rest) = one_spelling v w r s p.0.0 q.0.0 (ap (λ l. l ++ r) (sym (append-nil (tokens_of v))) ∙ e ∙ ap
    (λ l. l ++ s) (append-nil (tokens_of w))) in
    ((λ i. more_trees (same i) no_trees), rest)

-- values aren't a word
pub no_word : (listed : Bool) (word : List ℕ) → NoValue word → (vs : ValueTrees) (r s : List Token) → AreSpeltAs listed vs
    → values_tokens listed vs ++ r ≡ Symbol word ∷ s → ⊥
no_word true word never vs r s p e = cc
no_word false word never no_trees r s p e = let n = p.1 in omega (arith, n)
no_word false word never (more_trees v vs) r s p e = never v (tokens_all vs ++ r) s (sym (append_assoc (tokens_of v) (tokens_all vs) r) ∙ e)

pub one_part : (listed : Bool) (word : List ℕ) → NoValue word → (p q : Option ValueTrees) (r s : List Token)
    → IsSpeltPart listed p → IsSpeltPart listed q
    → part_tokens listed word p ++ r ≡ part_tokens listed word q ++ s → (p ≡ q) × (r ≡ s)
one_part listed word never None None r s p q e = (refl, let same : r ≡ s = cc in same)
one_part listed word never None (Some ws) r s p q e = absurd (no_word listed word never ws s r q (sym e))
one_part listed word never (Some vs) None r s p q e = absurd (no_word listed word never vs r s p e)
one_part listed word never (Some vs) (Some ws) r s p q e = let (same, rest) = one_values listed vs ws r s p q e in (ap Some same, rest)

-- values up to a closing parenthesis, with some tokens behind it
abbrev pub LeftTo : List Token → List Token → Type 0
LeftTo rest tokens = (others : ValueTrees) × AreSpellable others × (tokens ≡ tokens_all others ++ (RParen ∷ rest))

-- what is left behind a value that is read
pub left_past : (tokens : List Token) (at count : ℕ) (v : ValueTree) (rest : List Token) → IsSpellable v → take count (drop at tokens) ≡ tokens_of v
    → LeftTo rest (drop at tokens) → LeftTo rest (drop (at + count) tokens)
left_past tokens at count v rest spellable is (no_trees, others, left) =
    absurd (no_close v (drop count (drop at tokens)) rest (ap (λ l. l ++ drop count (drop at tokens)) (sym is) ∙ take-append-drop count
    (drop at tokens) ∙ left))
left_past tokens at count v rest spellable is (more_trees g gs, others, left) =
    let split : tokens_of v ++ drop count (drop at tokens) ≡ tokens_of g ++ (tokens_all gs ++ (RParen ∷ rest)) =
    ap (λ l. l ++ drop count (drop at tokens)) (sym is) ∙ take-append-drop count (drop at tokens) ∙ left
    ∙ append_assoc (tokens_of g) (tokens_all gs) (RParen ∷ rest) in
    let (same, behind) = one_spelling v g (drop count (drop at tokens)) (tokens_all gs ++ (RParen ∷ rest)) spellable others.0 split in
    (gs, others.1, drop_more at count tokens ∙ behind)

-- none are left where neither a value nor a closing parenthesis stands
pub none_left : (tokens rest : List Token) → ((more : List Token) → tokens ≡ RParen ∷ more → ⊥) → HaveNoValue tokens → LeftTo rest tokens → ⊥
none_left tokens rest no_closing never (no_trees, others, left) = no_closing rest left
none_left tokens rest no_closing never (more_trees g gs, others, left) =
    never g (tokens_all gs ++ (RParen ∷ rest)) others.0 (left ∙ append_assoc (tokens_of g) (tokens_all gs) (RParen ∷ rest))

-- nothing is left at the end
pub none_at_end : (tokens rest : List Token) (at : ℕ) → length tokens ≤ at → LeftTo rest (drop at tokens) → ⊥
none_at_end tokens rest at ended (others, spellable, left) =
    let behind = ap length left in let len = length-drop at tokens in let two = length-append (tokens_all others) (RParen ∷ rest) in
    omega (arith, behind, len, two, ended)

-- the token at a place is the first that is left
pub closing_at : (tokens : List Token) (at : ℕ) (other : Token) (more : List Token) → at < length tokens → drop at tokens ≡ RParen ∷ more
    → get_or tokens at other ≡ RParen
closing_at tokens at other more within e =
    let split : get_or tokens at other ∷ drop (suc at) tokens ≡ RParen ∷ more = sym (drop-cons tokens at other within) ∙ e in cc

-- what stands behind a part is one thing, however it is split off
pub behind_part : (listed : Bool) (word : List ℕ) → NoValue word → (tokens : List Token) (count : ℕ) (p q : Option ValueTrees) (rest : List Token)
    → IsSpeltPart listed p → IsSpeltPart listed q → take count tokens ≡ part_tokens listed word p → tokens ≡ part_tokens listed word q ++ rest
    → (p ≡ q) × (drop count tokens ≡ rest)
behind_part listed word never tokens count p q rest fine also is split =
    one_part listed word never p q (drop count tokens) rest fine also
    (ap (λ l. l ++ drop count tokens) (sym is) ∙ take-append-drop count tokens ∙ split)

-- two parts, one behind the other
pub joined_takes : (tokens front behind : List Token) (n m : ℕ) → take n tokens ≡ front → take m (drop n tokens) ≡ behind
    → take (n + m) tokens ≡ front ++ behind
joined_takes tokens front behind n m p q = take-add n m tokens ∙ (λ i. p i ++ q i)

-- the first token
pub take_first : (tokens : List Token) (token : Token) (rest : List Token) → tokens ≡ token ∷ rest → take 1 tokens ≡ token ∷ []
take_first tokens token rest e = ap (λ l. take 1 l) e
