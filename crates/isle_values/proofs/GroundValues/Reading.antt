-- Reading a value from tokens.
use Rattle.std.proofs.Common.{◌≡◌, ◌<◌, ◌≤◌, ◌+◌, ◌++◌, ◌⊎◌, inl, inr, ℕ, zero, suc, Bool, true, false, List, [], ◌∷◌, length, take, drop, set, get_or, All, refl, sym, ◌∙◌, ap, subst, arith, append_assoc, if◌then◌else◌}
use Rattle.std.specs.Prelude.{codes, IsTrue}
use Rattle.std.specs.Fmt.{decimal}
use Rattle.std.proofs.lemmas.Fmt.{decimal_injective}
use Rattle.std.proofs.lemmas.List.{append-nil, length-append}
use Rattle.std.proofs.lemmas.List.Elements.{All-nil, All-append}
use Rattle.isle_syntax.specs.Tokens.Names.{is_ident, is_const_name}
use Rattle.isle_syntax.specs.declared.lexer.Token.{Token}
use Rattle.isle_syntax.specs.declared.lexer.Token.TheVariants.{LParen, RParen, At, Symbol, Int, Big}
use Rattle.isle_rules.specs.Values.{ValueTree, ValueTrees, bool_tree, int_tree, big_tree, const_tree, opaque_tree, data_tree, no_trees, more_trees}
use Rattle.isle_values.specs.declared.values.Node.{Node}
use Rattle.isle_values.specs.declared.values.Node.TheVariants.{Data}
use Rattle.isle_values.specs.declared.values.reading.Open.{Open}
use Rattle.isle_values.specs.Values.Nodes.{count_of, joined, nodes_of, nodes_all}
use Rattle.isle_values.specs.Values.Tokens.{tokens_of, tokens_all, IsSpellable, AreSpellable, HaveNoValue}
use Rattle.isle_values.specs.Inside.Values.Reading.{counted, IsWithin, Level, tokens_read, nodes_read, places_of, LevelsSpellable, Ends, Completes, IsReading, IsRead, GoesOn}
use Rattle.isle_values.proofs.GroundValues.Printing.{no_last, some_size, sized, sized_all}

abbrev alone : ValueTree → ValueTrees
alone v = more_trees v no_trees

-- what is joined
pub joined_tokens : (vs ws : ValueTrees) → tokens_all (joined vs ws) ≡ tokens_all vs ++ tokens_all ws
joined_tokens no_trees ws = refl
joined_tokens (more_trees v vs) ws = ap (λ l. tokens_of v ++ l) (joined_tokens vs ws) ∙ sym
    (append_assoc (tokens_of v) (tokens_all vs) (tokens_all ws))

joined_nodes : (vs ws : ValueTrees) → nodes_all (joined vs ws) ≡ nodes_all vs ++ nodes_all ws
joined_nodes no_trees ws = refl
joined_nodes (more_trees v vs) ws = ap (λ l. nodes_of v ++ l) (joined_nodes vs ws) ∙ sym (append_assoc (nodes_of v) (nodes_all vs) (nodes_all ws))

pub joined_spellable : (vs ws : ValueTrees) → AreSpellable vs → AreSpellable ws → AreSpellable (joined vs ws)
joined_spellable no_trees ws a b = b
joined_spellable (more_trees v vs) ws a b = (a.0, joined_spellable vs ws a.1 b)

joined_count : (vs : ValueTrees) (v : ValueTree) → count_of (joined vs (alone v)) ≡ suc (count_of vs)
joined_count no_trees v = refl
joined_count (more_trees w vs) v = ap suc (joined_count vs v)

pub joined_assoc : (us vs ws : ValueTrees) → joined (joined us vs) ws ≡ joined us (joined vs ws)
joined_assoc no_trees vs ws = refl
joined_assoc (more_trees u us) vs ws = ap (more_trees u) (joined_assoc us vs ws)

joined_none : (vs : ValueTrees) → joined vs no_trees ≡ vs
joined_none no_trees = refl
joined_none (more_trees v vs) = ap (more_trees v) (joined_none vs)

-- a value's first token is no closing parenthesis
pub no_close : (v : ValueTree) (rest more : List Token) → tokens_of v ++ rest ≡ RParen ∷ more → ⊥
no_close (bool_tree b) rest more e = absurd cc
no_close (int_tree n) rest more e = absurd cc
no_close (big_tree n) rest more e = absurd cc
no_close (const_tree name) rest more e = absurd cc
no_close (opaque_tree n) rest more e = absurd cc
no_close (data_tree name fs) rest more e = absurd cc

-- it has a token
pub no_end : (v : ValueTree) (rest : List Token) → tokens_of v ++ rest ≡ [] → ⊥
no_end (bool_tree b) rest e = absurd cc
no_end (int_tree n) rest e = absurd cc
no_end (big_tree n) rest e = absurd cc
no_end (const_tree name) rest e = absurd cc
no_end (opaque_tree n) rest e = absurd cc
no_end (data_tree name fs) rest e = absurd cc

-- data behind an opening parenthesis
pub record IsDataOf (v : ValueTree) (rest more : List Token) : Type 0 where
  pub name : List ℕ
  pub fields : ValueTrees
  pub is : v ≡ data_tree name fields
  pub left : more ≡ Symbol name ∷ (tokens_all fields ++ (RParen ∷ rest))

pub opened : (v : ValueTree) (rest more : List Token) → tokens_of v ++ rest ≡ LParen ∷ more → IsDataOf v rest more
opened (bool_tree b) rest more e = absurd cc
opened (int_tree n) rest more e = absurd cc
opened (big_tree n) rest more e = absurd cc
opened (const_tree name) rest more e = absurd cc
opened (opaque_tree n) rest more e = absurd cc
opened (data_tree name fs) rest more e = record {
  name = name;
  fields = fs;
  is = refl;
  left = sym (let same : Symbol name ∷ ((tokens_all fs ++ RParen ∷ []) ++ rest) ≡ more = cc in same) ∙ ap
      (λ l. Symbol name ∷ l) (append_assoc (tokens_all fs) (RParen ∷ []) rest);
}

-- a token that spells a value alone spells no other
bool_symbol : (a b : Bool) → (if a then codes "true" else codes "false") ≡ (if b then codes "true" else codes "false") → a ≡ b
bool_symbol true true e = refl
bool_symbol true false e = absurd cc
bool_symbol false true e = absurd cc
bool_symbol false false e = refl

-- the first byte of a symbol
abbrev symbol_in : List Token → List ℕ
symbol_in [] = []
symbol_in (LParen ∷ tokens) = []
symbol_in (RParen ∷ tokens) = []
symbol_in (At ∷ tokens) = []
symbol_in (Int i ∷ tokens) = []
symbol_in (Big i ∷ tokens) = []
symbol_in (Symbol symbol ∷ tokens) = symbol

abbrev pub front_of : List ℕ → ℕ
front_of [] = 0
front_of (b ∷ bs) = b

abbrev first_byte : List Token → ℕ
first_byte tokens = front_of (symbol_in tokens)

same_leaf : (v w : ValueTree) (token : Token) → IsSpellable v → IsSpellable w → tokens_of v ≡ token ∷ [] → tokens_of w ≡ token ∷ [] → v ≡ w
same_leaf (bool_tree b) (bool_tree b') token p q d e = ap bool_tree
    (bool_symbol b b' (let both : tokens_of (bool_tree b) ≡ tokens_of (bool_tree b') = d ∙ sym e in
    let same : (if b then codes "true" else codes "false") ≡ (if b' then codes "true" else codes "false") = cc in same))
same_leaf (bool_tree b) (int_tree j) token p q d e = absurd cc
same_leaf (bool_tree b) (big_tree j) token p q d e = absurd cc
same_leaf (bool_tree true) (const_tree name') token p q d e = let same : 116 ≡ 36 = ap first_byte (d ∙ sym e) in absurd (omega (arith, same))
same_leaf (bool_tree false) (const_tree name') token p q d e = let same : 102 ≡ 36 = ap first_byte (d ∙ sym e) in absurd (omega (arith, same))
same_leaf (bool_tree true) (opaque_tree m) token p q d e = let same : 116 ≡ 118 = ap first_byte (d ∙ sym e) in absurd (omega (arith, same))
same_leaf (bool_tree false) (opaque_tree m) token p q d e = let same : 102 ≡ 118 = ap first_byte (d ∙ sym e) in absurd (omega (arith, same))
same_leaf (bool_tree b) (data_tree name' gs) token p q d e = absurd cc
same_leaf (int_tree i) (bool_tree b') token p q d e = absurd cc
same_leaf (int_tree i) (int_tree j) token p q d e = ap int_tree (let same : i ≡ j = cc in same)
same_leaf (int_tree i) (big_tree j) token p q d e = absurd cc
same_leaf (int_tree i) (const_tree name') token p q d e = absurd cc
same_leaf (int_tree i) (opaque_tree m) token p q d e = absurd cc
same_leaf (int_tree i) (data_tree name' gs) token p q d e = absurd cc
same_leaf (big_tree i) (bool_tree b') token p q d e = absurd cc
same_leaf (big_tree i) (int_tree j) token p q d e = absurd cc
same_leaf (big_tree i) (big_tree j) token p q d e = ap big_tree (let same : i ≡ j = cc in same)
same_leaf (big_tree i) (const_tree name') token p q d e = absurd cc
same_leaf (big_tree i) (opaque_tree m) token p q d e = absurd cc
same_leaf (big_tree i) (data_tree name' gs) token p q d e = absurd cc
same_leaf (const_tree name) (bool_tree true) token p q d e = let same : 36 ≡ 116 = ap first_byte (d ∙ sym e) in absurd (omega (arith, same))
same_leaf (const_tree name) (bool_tree false) token p q d e = let same : 36 ≡ 102 = ap first_byte (d ∙ sym e) in absurd (omega (arith, same))
same_leaf (const_tree name) (int_tree j) token p q d e = absurd cc
same_leaf (const_tree name) (big_tree j) token p q d e = absurd cc
same_leaf (const_tree name) (const_tree name') token p q d e = ap const_tree (let same : name ≡ name' = cc in same)
same_leaf (const_tree name) (opaque_tree m) token p q d e = let same : 36 ≡ 118 = ap first_byte (d ∙ sym e) in absurd (omega (arith, same))
same_leaf (const_tree name) (data_tree name' gs) token p q d e = absurd cc
same_leaf (opaque_tree n) (bool_tree true) token p q d e = let same : 118 ≡ 116 = ap first_byte (d ∙ sym e) in absurd (omega (arith, same))
same_leaf (opaque_tree n) (bool_tree false) token p q d e = let same : 118 ≡ 102 = ap first_byte (d ∙ sym e) in absurd (omega (arith, same))
same_leaf (opaque_tree n) (int_tree j) token p q d e = absurd cc
same_leaf (opaque_tree n) (big_tree j) token p q d e = absurd cc
same_leaf (opaque_tree n) (const_tree name') token p q d e = let same : 118 ≡ 36 = ap first_byte (d ∙ sym e) in absurd (omega (arith, same))
same_leaf (opaque_tree n) (opaque_tree m) token p q d e = ap opaque_tree (decimal_injective n m p q (let same : decimal n ≡ decimal m = cc in same))
same_leaf (opaque_tree n) (data_tree name' gs) token p q d e = absurd cc
same_leaf (data_tree name fs) w token p q d e = absurd cc

-- what is no symbol and no number spells no value alone
pub parens_alone : (v : ValueTree) → (tokens_of v ≡ LParen ∷ [] → ⊥) × (tokens_of v ≡ RParen ∷ [] → ⊥) × (tokens_of v ≡ At ∷ [] → ⊥)
parens_alone (bool_tree b) = (λ e. absurd cc, λ e. absurd cc, λ e. absurd cc)
parens_alone (int_tree i) = (λ e. absurd cc, λ e. absurd cc, λ e. absurd cc)
parens_alone (big_tree i) = (λ e. absurd cc, λ e. absurd cc, λ e. absurd cc)
parens_alone (const_tree name) = (λ e. absurd cc, λ e. absurd cc, λ e. absurd cc)
parens_alone (opaque_tree n) = (λ e. absurd cc, λ e. absurd cc, λ e. absurd cc)
parens_alone (data_tree name gs) = (λ e. absurd cc, λ e. absurd cc, λ e. absurd cc)

-- what begins with a token that spells a value alone is that value
pub leaf_first : (v g : ValueTree) (token : Token) (rest more : List Token) → IsSpellable v → IsSpellable g
    → tokens_of v ≡ token ∷ [] → tokens_of g ++ rest ≡ token ∷ more
    → (g ≡ v) × (rest ≡ more)
leaf_first v (bool_tree b) token rest more p q d e = (
  same_leaf (bool_tree b) v token q p (let same : Symbol (if b then codes "true" else codes "false") ≡ token = cc in ap (λ t. t ∷ []) same) d,
  let same : rest ≡ more = cc in same,
)
leaf_first v (int_tree i) token rest more p q d e =
    (same_leaf (int_tree i) v token q p (let same : Int i ≡ token = cc in ap (λ t. t ∷ []) same) d, let same : rest ≡ more = cc in same)
leaf_first v (big_tree i) token rest more p q d e =
    (same_leaf (big_tree i) v token q p (let same : Big i ≡ token = cc in ap (λ t. t ∷ []) same) d, let same : rest ≡ more = cc in same)
leaf_first v (const_tree name) token rest more p q d e = (
  same_leaf (const_tree name) v token q p (let same : Symbol (codes "$" ++ name) ≡ token = cc in ap (λ t. t ∷ []) same) d,
  let same : rest ≡ more = cc in same,
)
leaf_first v (opaque_tree n) token rest more p q d e = (
  same_leaf (opaque_tree n) v token q p (let same : Symbol (codes "v" ++ decimal n) ≡ token = cc in ap (λ t. t ∷ []) same) d,
  let same : rest ≡ more = cc in same,
)
leaf_first v (data_tree name gs) token rest more p q d e =
    let same : LParen ≡ token = cc in absurd ((parens_alone v).0 (d ∙ ap (λ t. t ∷ []) (sym same)))

-- a symbol that is none of those that spell a value
pub unknown_symbol : (symbol : List ℕ) → (symbol ≡ codes "true" → ⊥) → (symbol ≡ codes "false" → ⊥)
    → ((name : List ℕ) → IsTrue (is_const_name name) → symbol ≡ 36 ∷ name → ⊥)
    → ((n : ℕ) → n < 18446744073709551616 → symbol ≡ 118 ∷ decimal n → ⊥)
    → (v : ValueTree) → IsSpellable v → tokens_of v ≡ Symbol symbol ∷ [] → ⊥
unknown_symbol symbol no_true no_false no_const no_opaque (bool_tree true) p e = no_true (let same : symbol ≡ codes "true" = cc in same)
unknown_symbol symbol no_true no_false no_const no_opaque (bool_tree false) p e = no_false (let same : symbol ≡ codes "false" = cc in same)
unknown_symbol symbol no_true no_false no_const no_opaque (int_tree i) p e = absurd cc
unknown_symbol symbol no_true no_false no_const no_opaque (big_tree i) p e = absurd cc
unknown_symbol symbol no_true no_false no_const no_opaque (const_tree name) p e = no_const name p (let same : symbol ≡ 36 ∷ name = cc in same)
unknown_symbol symbol no_true no_false no_const no_opaque (opaque_tree n) p e = no_opaque n p (let same : symbol ≡ 118 ∷ decimal n = cc in same)
unknown_symbol symbol no_true no_false no_const no_opaque (data_tree name gs) p e = absurd cc

-- the next element of a list
pub take_next : {X : Type 0} (xs : List X) (n : ℕ) (x : X) (rest : List X) → drop n xs ≡ x ∷ rest → (take (suc n) xs ≡ take n xs ++ x ∷ [])
    × (drop (suc n) xs ≡ rest)
take_next [] zero x rest e = absurd cc
take_next [] (suc n) x rest e = absurd cc
take_next (y ∷ ys) zero x rest e = let first : y ≡ x = cc in (ap (λ z. z ∷ []) first, let same : ys ≡ rest = cc in same)
take_next (y ∷ ys) (suc n) x rest e = let (taken, left) = take_next ys n x rest e in (ap (λ l. y ∷ l) taken, left)

-- a field more of the innermost data
pub counted_last : (outer : List Open) (last : Open) → counted (outer ++ last ∷ []) ≡ outer ++ record
    { node = last.node; fields = suc last.fields } ∷ []
counted_last [] last = refl
counted_last (place ∷ []) last = refl
counted_last (place ∷ next ∷ inner) last = ap (λ l. place ∷ l) (counted_last (next ∷ inner) last)

pub counted_set : (places : List Open) (i : ℕ) (d : Open) → suc i ≡ length places
    → set places i (record { node = (get_or places i d).node; fields = (get_or places i d).fields + 1 }) ≡ counted places
counted_set [] i d e = absurd (omega (arith, e))
counted_set (place ∷ []) zero d e = ap (λ n. record { node = place.node; fields = n } ∷ [])
    (let same : place.fields + 1 ≡ suc place.fields = omega arith in same)
counted_set (place ∷ []) (suc i) d e = absurd (omega (arith, e))
counted_set (place ∷ next ∷ inner) zero d e = absurd (omega (arith, e))
counted_set (place ∷ next ∷ inner) (suc i) d e = ap (λ l. place ∷ l) (counted_set (next ∷ inner) i d (omega (arith, e)))

-- where a value stands at the front, or a closing parenthesis
abbrev Begins : List Token → Type 0
Begins left = (g : ValueTree) × (more : List Token) × IsSpellable g × (left ≡ tokens_of g ++ more)

abbrev Closes : List Token → Type 0
Closes left = (more : List Token) × (left ≡ RParen ∷ more)

next_is : (levels : List Level) (whole : ValueTree) (rest left : List Token) → IsSpellable whole → Completes levels whole rest left
    → Begins left ⊎ ((levels ≡ [] → ⊥) × Closes left)
next_is [] whole rest left p e = inl (whole, rest, p, e)
next_is (level ∷ outer) whole rest left p (no_trees, more, q, e, ends) = inr (λ z. absurd cc, (more, e))
next_is (level ∷ outer) whole rest left p (more_trees g gs, more, q, e, ends) =
    inl (g, tokens_all gs ++ (RParen ∷ more), q.0, e ∙ append_assoc (tokens_of g) (tokens_all gs) (RParen ∷ more))

-- no value stands at the front of the tokens, where none goes on with what is read
pub refused : (tokens : List Token) (at : ℕ) (levels : List Level) (nodes : List Node) (places : List Open) → IsReading tokens at levels nodes places
    → (Begins (drop at tokens) → ⊥) → ((levels ≡ [] → ⊥) → Closes (drop at tokens) → ⊥) → HaveNoValue tokens
refused tokens at levels nodes places r no_value no_closing = λ v rest p e. elim (next_is levels v rest (drop at tokens) p (r.completes v rest p e)) [
  | inl begins ↦ no_value begins
  | inr closes ↦ no_closing closes.0 closes.1
]

-- there are no tokens left
pub refused_end : (tokens : List Token) (at : ℕ) (levels : List Level) (nodes : List Node) (places : List Open)
    → IsReading tokens at levels nodes places
    → drop at tokens ≡ [] → HaveNoValue tokens
refused_end tokens at levels nodes places r none = refused tokens at levels nodes places r
    (λ begins. let (g, more, p, e) = begins in no_end g more (sym e ∙ none))
    (λ some closes. let (more, e) = closes in let same : RParen ∷ more ≡ [] = sym e ∙ none in absurd cc)

-- an opening parenthesis that no name follows
pub refused_open : (tokens : List Token) (at : ℕ) (levels : List Level) (nodes : List Node) (places : List Open)
    → IsReading tokens at levels nodes places
    → (left : List Token) → drop at tokens ≡ LParen ∷ left → ((name : List ℕ) (more : List Token) → IsTrue (is_ident name)
    → left ≡ Symbol name ∷ more → ⊥)
    → HaveNoValue tokens
refused_open tokens at levels nodes places r left is unnamed = refused tokens at levels nodes places r
    (λ begins. let (g, more, p, e) = begins in let d = opened g more left (sym e ∙ is) in
    unnamed d.name (tokens_all d.fields ++ (RParen ∷ more)) (subst IsSpellable d.is p).0 d.left)
    (λ some closes. let (more, e) = closes in let same : RParen ∷ more ≡ LParen ∷ left = sym e ∙ is in absurd cc)

-- a closing parenthesis where no data is open
pub refused_close : (tokens : List Token) (at : ℕ) (nodes : List Node) (places : List Open) → IsReading tokens at [] nodes places
    → (left : List Token) → drop at tokens ≡ RParen ∷ left → HaveNoValue tokens
refused_close tokens at nodes places r left is = refused tokens at [] nodes places r
    (λ begins. let (g, more, p, e) = begins in no_close g more left (sym e ∙ is))
    (λ some closes. some refl)

-- a value that begins with a token that is no parenthesis has no other
one_token : (g : ValueTree) (more left : List Token) (token : Token) → tokens_of g ++ more ≡ token ∷ left
    → (token ≡ LParen → ⊥) → tokens_of g ≡ token ∷ []
one_token (bool_tree b) more left token e other = let same : Symbol (if b then codes "true" else codes "false") ≡ token = cc in ap (λ t. t ∷ []) same
one_token (int_tree i) more left token e other = let same : Int i ≡ token = cc in ap (λ t. t ∷ []) same
one_token (big_tree i) more left token e other = let same : Big i ≡ token = cc in ap (λ t. t ∷ []) same
one_token (const_tree name) more left token e other = let same : Symbol (codes "$" ++ name) ≡ token = cc in ap (λ t. t ∷ []) same
one_token (opaque_tree n) more left token e other = let same : Symbol (codes "v" ++ decimal n) ≡ token = cc in ap (λ t. t ∷ []) same
one_token (data_tree name gs) more left token e other = absurd (other (sym (let same : LParen ≡ token = cc in same)))

-- another token that spells no value alone
pub refused_leaf : (tokens : List Token) (at : ℕ) (levels : List Level) (nodes : List Node) (places : List Open)
    → IsReading tokens at levels nodes places
    → (token : Token) (left : List Token) → drop at tokens ≡ token ∷ left → (token ≡ LParen → ⊥) → (token ≡ RParen → ⊥)
    → ((v : ValueTree) → IsSpellable v → tokens_of v ≡ token ∷ [] → ⊥) → HaveNoValue tokens
refused_leaf tokens at levels nodes places r token left is no_open no_closing none = refused tokens at levels nodes places r
    (λ begins. let (g, more, p, e) = begins in none g p (one_token g more left token (sym e ∙ is) no_open))
    (λ some closes. let (more, e) = closes in no_closing (let both : RParen ∷ more ≡ token ∷ left = sym e ∙ is in
    let same : token ≡ RParen = cc in same))

-- each place is within the nodes
count_small : (vs : ValueTrees) → count_of vs ≤ length (nodes_all vs)
count_small no_trees = omega arith
count_small (more_trees v vs) =
    let some = some_size v in let size = sized v in let others = count_small vs in let len = length-append (nodes_of v) (nodes_all vs) in
    omega (arith, some, size, others, len)

one_within : (count : ℕ) (place : Open) → IsWithin count place → All (IsWithin count) (place ∷ [])
one_within count place p zero d l = p
one_within count place p (suc k) d l = absurd (omega (arith, l))

pub all_within : (levels : List Level) (count : ℕ) → length (nodes_read levels) ≤ count → All (IsWithin count) (places_of levels)
all_within [] count le = All-nil (IsWithin count)
all_within (level ∷ outer) count le =
    let len = length-append (nodes_read outer) (Data level.0 0 0 ∷ nodes_all level.1) in let small = count_small level.1 in
    All-append (IsWithin count) (places_of outer) (record { node = length (nodes_read outer); fields = count_of level.1 } ∷ [])
    (all_within outer count (omega (arith, le, len)))
    (one_within count (record { node = length (nodes_read outer); fields = count_of level.1 })
    (omega (arith, le, len), omega (arith, le, len, small)))

-- a value behind others
joined_last_tokens : (vs : ValueTrees) (v : ValueTree) → tokens_all (joined vs (alone v)) ≡ tokens_all vs ++ tokens_of v
joined_last_tokens vs v = joined_tokens vs (alone v) ∙ ap (λ l. tokens_all vs ++ l) (append-nil (tokens_of v))

joined_last_nodes : (vs : ValueTrees) (v : ValueTree) → nodes_all (joined vs (alone v)) ≡ nodes_all vs ++ nodes_of v
joined_last_nodes vs v = joined_nodes vs (alone v) ∙ ap (λ l. nodes_all vs ++ l) (append-nil (nodes_of v))

-- a value that is read is the next field of the innermost data, or the whole
value_read : (tokens : List Token) (at : ℕ) (levels : List Level) (nodes : List Node) (places : List Open) (v : ValueTree)
    → take at tokens ≡ tokens_read levels ++ tokens_of v → nodes ≡ nodes_read levels ++ nodes_of v → places ≡ places_of levels
    → LevelsSpellable levels → IsSpellable v
    → ((whole : ValueTree) (rest : List Token) → IsSpellable whole → tokens ≡ tokens_of whole ++ rest → Ends levels v whole rest (drop at tokens))
    → GoesOn tokens at nodes (counted places)
value_read tokens at [] nodes places v spelt laid placed spells p ends =
    inr (ap counted placed, (v, record { spelt = spelt; laid = laid; spellable = p }))
value_read tokens at (level ∷ outer) nodes places v spelt laid placed spells p ends = inl (
  (level.0, joined level.1 (alone v)),
  outer,
  record {
    spelt = spelt ∙ append_assoc (tokens_read outer) (LParen ∷ Symbol level.0 ∷ tokens_all level.1) (tokens_of v)
        ∙ ap (λ l. tokens_read outer ++ (LParen ∷ Symbol level.0 ∷ l)) (sym (joined_last_tokens level.1 v));
    laid = laid ∙ append_assoc (nodes_read outer) (Data level.0 0 0 ∷ nodes_all level.1) (nodes_of v)
        ∙ ap (λ l. nodes_read outer ++ (Data level.0 0 0 ∷ l)) (sym (joined_last_nodes level.1 v));
    places = ap counted placed ∙ counted_last (places_of outer) (record { node = length (nodes_read outer); fields = count_of level.1 })
        ∙ ap (λ n. places_of outer ++ record { node = length (nodes_read outer); fields = n } ∷ []) (sym (joined_count level.1 v));
    spellable = ((spells.0.0, joined_spellable level.1 (alone v) spells.0.1 (p, tt)), spells.1);
    completes = ends;
  },
)

-- a value before other fields
joined_next : (vs gs : ValueTrees) (g v : ValueTree) → g ≡ v → joined vs (more_trees g gs) ≡ joined (joined vs (alone v)) gs
joined_next vs gs g v same = ap (λ x. joined vs (more_trees x gs)) same ∙ sym (joined_assoc vs (alone v) gs)

-- what goes on with a token that spells a value alone goes on behind that value
leaf_ends : (levels : List Level) (v : ValueTree) (token : Token) (whole : ValueTree) (rest left : List Token)
    → IsSpellable v → tokens_of v ≡ token ∷ [] → IsSpellable whole
    → Completes levels whole rest (token ∷ left) → Ends levels v whole rest left
leaf_ends [] v token whole rest left p d q e = let (same, others) = leaf_first v whole token rest left p q d (sym e) in (sym same, sym others)
leaf_ends (level ∷ outer) v token whole rest left p d q (no_trees, more, s, e, ends) =
    absurd ((parens_alone v).1 (d ∙ ap (λ t. t ∷ []) (let same : token ≡ RParen = cc in same)))
leaf_ends (level ∷ outer) v token whole rest left p d q (more_trees g gs, more, s, e, ends) =
    let (same, others) = leaf_first v g token (tokens_all gs ++ (RParen ∷ more)) left p s.0 d
    (sym (append_assoc (tokens_of g) (tokens_all gs) (RParen ∷ more)) ∙ sym e) in
    (gs, more, s.1, sym others, subst (λ vs. Ends outer (data_tree level.0 vs) whole rest more) (joined_next level.1 gs g v same) ends)

-- a value of one token is read
pub leaf_read : (tokens : List Token) (at : ℕ) (levels : List Level) (nodes : List Node) (places : List Open)
    → IsReading tokens at levels nodes places
    → (token : Token) (left : List Token) → drop at tokens ≡ token ∷ left → (v : ValueTree) → IsSpellable v → tokens_of v ≡ token ∷ []
    → GoesOn tokens (suc at) (nodes ++ nodes_of v) (counted places)
leaf_read tokens at levels nodes places r token left e v p d =
    let (taken, dropped) = take_next tokens at token left e in
    value_read tokens (suc at) levels (nodes ++ nodes_of v) places v
    (taken ∙ ap (λ l. l ++ token ∷ []) r.spelt ∙ ap (λ l. tokens_read levels ++ l) (sym d))
    (ap (λ l. l ++ nodes_of v) r.laid) r.places r.spellable p (λ whole rest q s. subst (λ l. Ends levels v whole rest l) (sym dropped)
    (leaf_ends levels v token whole rest left p d q (subst (λ l. Completes levels whole rest l) e (r.completes whole rest q s))))

-- what goes on with data that opens completes its fields
opens : (levels : List Level) (name : List ℕ) (whole : ValueTree) (rest left : List Token) → IsSpellable whole
    → Completes levels whole rest (LParen ∷ Symbol name ∷ left)
    → Completes ((name, no_trees) ∷ levels) whole rest left
opens [] name whole rest left q e =
    let d = opened whole rest (Symbol name ∷ left) (sym e) in let both = d.left in
    let same : name ≡ d.name = cc in let fields : left ≡ tokens_all d.fields ++ (RParen ∷ rest) = cc in
    (d.fields, rest, (subst IsSpellable d.is q).1, fields, (ap (λ n. data_tree n d.fields) same ∙ sym d.is, refl))
opens (level ∷ outer) name whole rest left q (no_trees, more, s, e, ends) = absurd cc
opens (level ∷ outer) name whole rest left q (more_trees g gs, more, s, e, ends) =
    let d = opened g (tokens_all gs ++ (RParen ∷ more)) (Symbol name ∷ left)
    (sym (append_assoc (tokens_of g) (tokens_all gs) (RParen ∷ more)) ∙ sym e) in let both = d.left in
    let same : name ≡ d.name = cc in let fields : left ≡ tokens_all d.fields ++ (RParen ∷ (tokens_all gs ++ (RParen ∷ more))) = cc in (
      d.fields,
      tokens_all gs ++ (RParen ∷ more),
      (subst IsSpellable d.is s.0).1,
      fields,
      (
        gs,
        more,
        s.1,
        refl,
        subst (λ vs. Ends outer (data_tree level.0 vs) whole rest more)
            (joined_next level.1 gs g (data_tree name d.fields) (d.is ∙ ap (λ n. data_tree n d.fields) (sym same))) ends,
      ),
    )

-- data is opened
pub data_opened : (tokens : List Token) (at : ℕ) (levels : List Level) (nodes : List Node) (places : List Open)
    → IsReading tokens at levels nodes places
    → (name : List ℕ) (left : List Token) → IsTrue (is_ident name) → drop at tokens ≡ LParen ∷ Symbol name ∷ left
    → IsReading tokens (suc (suc at)) ((name, no_trees) ∷ levels) (nodes ++ Data name 0 0 ∷ [])
    (places ++ record { node = length nodes; fields = 0 } ∷ [])
data_opened tokens at levels nodes places r name left ident e =
    let (taken, dropped) = take_next tokens at LParen (Symbol name ∷ left) e in
    let (taken', dropped') = take_next tokens (suc at) (Symbol name) left dropped in
    record {
      spelt = taken' ∙ ap (λ l. l ++ Symbol name ∷ []) (taken ∙ ap (λ l. l ++ LParen ∷ []) r.spelt) ∙ append_assoc
          (tokens_read levels) (LParen ∷ []) (Symbol name ∷ []);
      laid = ap (λ l. l ++ Data name 0 0 ∷ []) r.laid;
      places = ap (λ l. l ++ record { node = length nodes; fields = 0 } ∷ []) r.places
          ∙ ap (λ l. places_of levels ++ record { node = length l; fields = 0 } ∷ []) r.laid;
      spellable = ((ident, tt), r.spellable);
      completes = λ whole rest q s. subst (λ l. Completes ((name, no_trees) ∷ levels) whole rest l) (sym dropped')
          (opens levels name whole rest left q (subst (λ l. Completes levels whole rest l) e (r.completes whole rest q s)));
    }

-- what goes on with a closing parenthesis ends the innermost data
closing : (level : Level) (outer : List Level) (whole : ValueTree) (rest left : List Token) → Completes (level ∷ outer) whole rest (RParen ∷ left)
    → Ends outer (data_tree level.0 level.1) whole rest left
closing level outer whole rest left (no_trees, more, s, e, ends) =
    let same : more ≡ left = cc in
    subst (λ l. Ends outer (data_tree level.0 level.1) whole rest l) same
    (subst (λ vs. Ends outer (data_tree level.0 vs) whole rest more) (joined_none level.1) ends)
closing level outer whole rest left (more_trees g gs, more, s, e, ends) =
    absurd (no_close g (tokens_all gs ++ (RParen ∷ more)) left (sym (append_assoc (tokens_of g) (tokens_all gs) (RParen ∷ more)) ∙ sym e))

-- the innermost data is closed
pub data_closed : (tokens : List Token) (at : ℕ) (level : Level) (outer : List Level) (nodes : List Node) (places : List Open)
    → IsReading tokens at (level ∷ outer) nodes places
    → (left : List Token) → drop at tokens ≡ RParen ∷ left
    → GoesOn tokens (suc at) (nodes_read outer ++ (Data level.0 (count_of level.1) (length (nodes_all level.1)) ∷ nodes_all level.1))
    (counted (places_of outer))
data_closed tokens at level outer nodes places r left e =
    let (taken, dropped) = take_next tokens at RParen left e in
    value_read tokens (suc at) outer (nodes_read outer ++ (Data level.0 (count_of level.1) (length (nodes_all level.1)) ∷ nodes_all level.1))
    (places_of outer)
    (data_tree level.0 level.1)
    (taken ∙ ap (λ l. l ++ RParen ∷ []) r.spelt ∙ append_assoc (tokens_read outer) (LParen ∷ Symbol level.0 ∷ tokens_all level.1) (RParen ∷ []))
    (ap (λ n. nodes_read outer ++ (Data level.0 (count_of level.1) n ∷ nodes_all level.1)) (sized_all level.1)) refl r.spellable.1 r.spellable.0
    (λ whole rest q s. subst (λ l. Ends outer (data_tree level.0 level.1) whole rest l) (sym dropped)
    (closing level outer whole rest left (subst (λ l. Completes (level ∷ outer) whole rest l) e (r.completes whole rest q s))))

-- no data is open: the value is read
pub read_whole : (tokens : List Token) (at : ℕ) (nodes : List Node) (places : List Open) → GoesOn tokens at nodes places → places ≡ []
    → (v : ValueTree) × IsRead tokens at nodes v
read_whole tokens at nodes places (inl (level, outer, r)) none =
    absurd (no_last (places_of outer) (record { node = length (nodes_read outer); fields = count_of level.1 }) (sym r.places ∙ none))
read_whole tokens at nodes places (inr (_, read)) none = read
