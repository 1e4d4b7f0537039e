-- Reading tokens from left to right, up to the first fault that is met.
use Rattle.std.specs.Prelude.{ℕ, zero, suc, ◌-◌, List, [], ◌∷◌, length, Bool, true, false, Option, Some, None, cond}
use Rattle.isle_ast.specs.declared.pos.Pos.{Pos}
use Rattle.isle_ast.specs.declared.ast.Ident.{Ident}
use Rattle.isle_syntax.specs.Tokens.Names.{is_word}
use Rattle.isle_syntax.specs.Tokens.PlacedTokens.{Placed, opening, closing, at_sign, symbol, int, Literal}
use Rattle.isle_syntax.specs.Grammar.Phrases.{first_pos, next_symbol_is}

-- What reading gives: a value and the tokens after it, or the tokens from the one on at which it stopped,
-- since no text goes on so, or since a parenthesis nests too deep.
pub data Read (A : Type 0) : Type 0 where
  done : A → List Placed → Read A
  fault : List Placed → Read A
  deep : List Placed → Read A

abbrev pub Reader : Type 0 → Type 0
Reader A = List Placed → Read A

abbrev pub after : {A B : Type 0} → Read A → (A → List Placed → Read B) → Read B
after (done a r) f = f a r
after (fault r) f = fault r
after (deep r) f = deep r

abbrev pub read_map : {A B : Type 0} → (A → B) → Read A → Read B
read_map f (done a r) = done (f a) r
read_map f (fault r) = fault r
read_map f (deep r) = deep r

-- one after the other
abbrev pub seq : {A B : Type 0} → Reader A → Reader B → Reader (A × B)
seq p q ts = after (p ts) (λ a r. read_map (λ b. (a, b)) (q r))

-- with the place of the first token
abbrev pub from : {A : Type 0} → Reader A → Reader (Pos × A)
from p ts = read_map (λ a. (first_pos ts, a)) (p ts)

-- what follows the closing parenthesis, where one stands
abbrev pub after_close : List Placed → Option (List Placed)
after_close [] = None
after_close (opening p ∷ r) = None
after_close (closing p ∷ r) = Some r
after_close (at_sign p ∷ r) = None
after_close (symbol p s ∷ r) = None
after_close (int p z ∷ r) = None

-- what follows the `@`, where one stands
abbrev pub after_at : List Placed → Option (List Placed)
after_at [] = None
after_at (opening p ∷ r) = None
after_at (closing p ∷ r) = None
after_at (at_sign p ∷ r) = Some r
after_at (symbol p s ∷ r) = None
after_at (int p z ∷ r) = None

-- where nothing is left
abbrev pub at_end : List Placed → Option (List Placed)
at_end [] = Some []
at_end (t ∷ r) = None

abbrev pub many_turn : {A : Type 0} → Reader A → Reader (List A) → Option (List Placed) → Reader (List A)
many_turn p more (Some r) ts = done [] r
many_turn p more None ts = read_map (λ x. x.0 ∷ x.1) (seq p more ts)

-- one after another until stop gives what follows; the number bounds the turns, and one more than the tokens is always enough
unfoldable pub many : {A : Type 0} → (List Placed → Option (List Placed)) → Reader A → ℕ → Reader (List A)
many stop p zero ts = fault ts
many stop p (suc n) ts = many_turn p (many stop p n) (stop ts) ts

-- up to a closing parenthesis, and up to the end
abbrev pub rest_of : {A : Type 0} → Reader A → Reader (List A)
rest_of p ts = many after_close p (suc (length ts)) ts

abbrev pub all_of : {A : Type 0} → Reader A → Reader (List A)
all_of p ts = many at_end p (suc (length ts)) ts

-- the place of an opening parenthesis
abbrev pub opened : Reader Pos
opened [] = fault []
opened (opening p ∷ ts) = done p ts
opened (closing p ∷ ts) = fault (closing p ∷ ts)
opened (at_sign p ∷ ts) = fault (at_sign p ∷ ts)
opened (symbol p s ∷ ts) = fault (symbol p s ∷ ts)
opened (int p z ∷ ts) = fault (int p z ∷ ts)

-- where no more parentheses may be open
abbrev pub shut : {A : Type 0} → Reader A
shut [] = fault []
shut (opening p ∷ ts) = deep (opening p ∷ ts)
shut (closing p ∷ ts) = fault (closing p ∷ ts)
shut (at_sign p ∷ ts) = fault (at_sign p ∷ ts)
shut (symbol p s ∷ ts) = fault (symbol p s ∷ ts)
shut (int p z ∷ ts) = fault (int p z ∷ ts)

-- an opening parenthesis, where so many more may be open
abbrev pub opened_within : ℕ → Reader Pos
opened_within zero = shut
opened_within (suc d) = opened

-- what stands in parentheses
abbrev pub parens : {A : Type 0} → ℕ → (ℕ → Reader A) → Reader (Pos × A)
parens d p = seq (opened_within d) (p (d - 1))

-- a closing parenthesis
abbrev pub closed : Reader (Unit {0})
closed [] = fault []
closed (opening p ∷ ts) = fault (opening p ∷ ts)
closed (closing p ∷ ts) = done tt ts
closed (at_sign p ∷ ts) = fault (at_sign p ∷ ts)
closed (symbol p s ∷ ts) = fault (symbol p s ∷ ts)
closed (int p z ∷ ts) = fault (int p z ∷ ts)

-- an integer and its place
abbrev pub integer : Reader (Pos × Literal)
integer [] = fault []
integer (opening p ∷ ts) = fault (opening p ∷ ts)
integer (closing p ∷ ts) = fault (closing p ∷ ts)
integer (at_sign p ∷ ts) = fault (at_sign p ∷ ts)
integer (symbol p s ∷ ts) = fault (symbol p s ∷ ts)
integer (int p z ∷ ts) = done (p, z) ts

-- whether an integer comes next
abbrev pub is_int_next : List Placed → Bool
is_int_next [] = false
is_int_next (opening p ∷ ts) = false
is_int_next (closing p ∷ ts) = false
is_int_next (at_sign p ∷ ts) = false
is_int_next (symbol p s ∷ ts) = false
is_int_next (int p z ∷ ts) = true

-- the place of an `@`
abbrev pub at_pos : Reader Pos
at_pos [] = fault []
at_pos (opening p ∷ ts) = fault (opening p ∷ ts)
at_pos (closing p ∷ ts) = fault (closing p ∷ ts)
at_pos (at_sign p ∷ ts) = done p ts
at_pos (symbol p s ∷ ts) = fault (symbol p s ∷ ts)
at_pos (int p z ∷ ts) = fault (int p z ∷ ts)

-- any symbol, and one of which p holds
abbrev pub any_symbol : Reader Ident
any_symbol [] = fault []
any_symbol (opening p ∷ ts) = fault (opening p ∷ ts)
any_symbol (closing p ∷ ts) = fault (closing p ∷ ts)
any_symbol (at_sign p ∷ ts) = fault (at_sign p ∷ ts)
any_symbol (symbol p s ∷ ts) = done (record { 0 = s; 1 = p }) ts
any_symbol (int p z ∷ ts) = fault (int p z ∷ ts)

abbrev pub symbol_of : (List ℕ → Bool) → Reader Ident
symbol_of p ts = cond (next_symbol_is p ts) (any_symbol ts) (fault ts)

-- this word, with its place and without
abbrev pub word : List ℕ → Reader Pos
word w ts = read_map (λ x. x.1) (symbol_of (is_word w) ts)

abbrev pub says : List ℕ → Reader (Unit {0})
says w ts = read_map (λ x. tt) (symbol_of (is_word w) ts)

-- a flag word in its place is always the flag
abbrev pub optional_on : {A : Type 0} → List ℕ → Reader A → Bool → Reader (Bool × A)
optional_on w q true ts = read_map (λ x. (true, x.1)) (seq (says w) q ts)
optional_on w q false ts = read_map (λ b. (false, b)) (q ts)

abbrev pub optional : {A : Type 0} → List ℕ → Reader A → Reader (Bool × A)
optional w q ts = optional_on w q (next_symbol_is (is_word w) ts) ts
