-- Reading a pattern by the kind of the next token, and a list of patterns part by part.
use Rattle.std.proofs.Common.{◌≡◌, ℕ, zero, suc, ◌-◌, ◌<◌, List, [], ◌∷◌, Bool, cond, Some, None, refl, sym, ap, ◌∙◌, arith}
use Rattle.std.specs.Prelude.{codes}
use Rattle.isle_syntax.specs.declared.kind.Kind.{Kind}
use Rattle.isle_syntax.specs.declared.kind.Kind.TheVariants.{True, False, Const, Wildcard, Name, Other}
use Rattle.isle_ast.specs.declared.pos.Pos.{Pos}
use Rattle.isle_ast.specs.declared.ast.Ident.{Ident}
use Rattle.isle_syntax.specs.Tokens.PlacedTokens.{Placed, opening, closing, at_sign, symbol, int}
use Rattle.isle_syntax.specs.Tokens.Names.{is_word}
use Rattle.isle_syntax.specs.Inside.Reading.KindOf.{kind_at, symbol_kind}
use Rattle.isle_syntax.specs.Inside.Reading.Readers.{Read, done, fault, deep, Reader, after, read_map, seq, rest_of, opened, shut, after_at, any_symbol}
use Rattle.isle_syntax.specs.Inside.Reading.Readers.{symbol_of}
use Rattle.isle_ast.specs.Trees.PatternTree.{PatternTree, pattern_var, pattern_bind, pattern_term, pattern_and}
use Rattle.isle_syntax.specs.Inside.Reading.TreeReading.{ident, pattern_trees, is_head, listed, named, symbol_pattern, pattern_with, bound, pattern_list}
use Rattle.isle_syntax.specs.Inside.Reading.TreeReading.{pattern}
use Rattle.isle_syntax.specs.Inside.Reading.KindReading.{bound_by, named_by, pattern_on}
use Rattle.isle_syntax.proofs.Reading.SymbolKinds.{Known, symbol_known}
use Rattle.isle_syntax.proofs.Reading.ReadSteps.{map_seq_done}

bound_is : (list : Reader PatternTree) (ts : List Placed) → bound list ts ≡ bound_by (pattern_with list) (after_at ts) ts
unfolding bound
bound_is list [] = refl
bound_is list (opening p ∷ ts) = refl
bound_is list (closing p ∷ ts) = refl
bound_is list (at_sign p ∷ ts) = refl
bound_is list (symbol p s ∷ ts) = refl
bound_is list (int p n ∷ ts) = refl

symbol_is : (d : ℕ) (p : Pos) (s : List ℕ) (ts : List Placed) (k : Kind) → Known s k
    → symbol_pattern p s ts (bound (pattern_list d) ts) k ≡ pattern_on d k (symbol p s ∷ ts)
symbol_is d p s ts True h = refl
symbol_is d p s ts False h = refl
symbol_is d p s ts Const h = refl
symbol_is d p s ts Wildcard h = refl
symbol_is d p s ts Name h = ap (read_map (named (ident p s))) (bound_is (pattern_list d) ts)
symbol_is d p s ts Other h = refl
symbol_is d p s ts _ h = absurd h

pattern_by_kind : (d : ℕ) (ts : List Placed) → pattern d ts ≡ pattern_on d (kind_at ts) ts
unfolding pattern_with
pattern_by_kind d [] = refl
pattern_by_kind d (opening p ∷ ts) = refl
pattern_by_kind d (closing p ∷ ts) = refl
pattern_by_kind d (at_sign p ∷ ts) = refl
pattern_by_kind d (symbol p s ∷ ts) = symbol_is d p s ts (symbol_kind s) (symbol_known s)
pattern_by_kind d (int p n ∷ ts) = refl

pub pattern_at_kind : (d : ℕ) (ts : List Placed) (k : Kind) → k ≡ kind_at ts → pattern d ts ≡ pattern_on d k ts
pattern_at_kind d ts k e = pattern_by_kind d ts ∙ ap (λ k. pattern_on d k ts) (sym e)

-- ---- a name and what follows it

pub pattern_named : (d : ℕ) (ts r : List Placed) (x : Ident) → Name ≡ kind_at ts → any_symbol ts ≡ done x r → pattern d ts ≡ named_by (pattern d) x r
pattern_named d ts r x e f = pattern_at_kind d ts Name e ∙ ap (λ k. after k (named_by (pattern d))) f

pub named_alone : (p : Reader PatternTree) (x : Ident) (r : List Placed) → after_at r ≡ None → named_by p x r ≡ done (pattern_var x x.1) r
named_alone p x r e = ap (λ o. read_map (named x) (bound_by p o r)) e

named_sub : (x : Ident) (y : Read PatternTree) → read_map (named x) (read_map Some y) ≡ read_map (λ sub. pattern_bind x sub x.1) y
named_sub x (done a r) = refl
named_sub x (fault r) = refl
named_sub x (deep r) = refl

pub named_bound : (p : Reader PatternTree) (x : Ident) (r q : List Placed) → after_at r ≡ Some q
    → named_by p x r ≡ read_map (λ sub. pattern_bind x sub x.1) (p q)
named_bound p x r q e = ap (λ o. read_map (named x) (bound_by p o r)) e ∙ named_sub x (p q)

-- ---- a list

pub listed_as : (p : Pos) (x : Ident) (l : List PatternTree) (b : Bool) → b ≡ is_word (codes "and") x.0
    → listed (p, (x, l)) ≡ cond b (pattern_and (pattern_trees l) p) (pattern_term x (pattern_trees l) p)
listed_as p x l b e = ap (λ b. cond b (pattern_and (pattern_trees l) p) (pattern_term x (pattern_trees l) p)) (sym e)

pub pattern_list_shut : (ts : List Placed) → pattern_list 0 ts ≡ shut ts
unfolding pattern_list
pattern_list_shut ts = refl

-- what follows the opening parenthesis: a word, and patterns up to the closing one
abbrev pub after_opening : ℕ → Reader (Ident × List PatternTree)
after_opening d = seq (symbol_of is_head) (rest_of (pattern d))

pub pattern_list_opens : (d : ℕ) (p : Pos) (ts r : List Placed) → 0 < d → opened ts ≡ done p r
    → pattern_list d ts ≡ read_map (λ x. listed (p, x)) (after_opening (d - 1) r)
unfolding pattern_list
pattern_list_opens zero p ts r h e = absurd (omega arith)
pattern_list_opens (suc d) p ts r h e =
    let same : d ≡ suc d - 1 = omega arith in map_seq_done opened (after_opening d) ts r listed p e
    ∙ ap (λ n. read_map (λ x. listed (p, x)) (after_opening n r)) same

pub pattern_list_reads : (d : ℕ) (p : Pos) (x : Ident) (ts r s : List Placed) → 0 < d → opened ts ≡ done p r → symbol_of is_head r ≡ done x s
    → pattern_list d ts ≡ read_map (λ l. listed (p, (x, l))) (rest_of (pattern (d - 1)) s)
pattern_list_reads d p x ts r s h e f = pattern_list_opens d p ts r h e
    ∙ map_seq_done (symbol_of is_head) (rest_of (pattern (d - 1))) r s (λ x. listed (p, x)) x f
