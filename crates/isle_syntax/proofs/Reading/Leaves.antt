-- Reading a constant where one stands next, where reading stops, and how much shorter one token leaves what is to read.
use Rattle.std.proofs.Common.{◌≡◌, ℕ, ◌<◌, List, [], ◌∷◌, length, Bool, true, false, cond, Some, refl, sym, ap, subst, ◌∙◌, arith}
use Rattle.isle_syntax.specs.declared.kind.Kind.TheVariants.{Const}
use Rattle.isle_ast.specs.declared.pos.Pos.{Pos}
use Rattle.isle_ast.specs.declared.ast.Ident.{Ident}
use Rattle.isle_syntax.specs.Tokens.PlacedTokens.{Placed, opening, closing, at_sign, symbol, int}
use Rattle.isle_syntax.specs.Tokens.Names.{is_const}
use Rattle.isle_syntax.specs.Inside.Reading.KindOf.{kind_at}
use Rattle.isle_syntax.specs.Grammar.Phrases.{next_symbol_is}
use Rattle.isle_syntax.specs.Inside.Reading.Readers.{Reader, done, fault, read_map, seq, opened, opened_within, after_at, any_symbol, symbol_of}
use Rattle.isle_ast.specs.declared.error.Error.{Error}
use Rattle.isle_ast.specs.declared.refusal.Refusal.{Refusal}
use Rattle.isle_syntax.specs.Tokens.RemainingTokens.{RemainingTokens}
use Rattle.isle_syntax.specs.Inside.Reading.Parsing.{bounds, RefusesAt, at_fault, stop_of}
use Rattle.isle_syntax.specs.Inside.Reading.DefReading.{constant}
use Rattle.isle_ast.specs.Trees.PatternTree.{pattern_prim}
use Rattle.isle_ast.specs.Trees.ExprTree.{expr_prim}
use Rattle.isle_syntax.specs.Inside.Reading.TreeReading.{ident, after_dollar, pattern_with, pattern, expr}
use Rattle.isle_syntax.proofs.Reading.PatternKinds.{pattern_at_kind}
use Rattle.isle_syntax.proofs.Reading.ExprKinds.{expr_at_kind}
use Rattle.isle_syntax.proofs.Reading.ReadSteps.{fuse}
use Rattle.isle_syntax.proofs.Reading.Loops.{stop_map, stop_after, refuses_later}
use Rattle.isle_syntax.proofs.Reading.Opening.{refuses_with}
use Rattle.isle_syntax.proofs.Reading.Opening.{opened_plain}
use Rattle.isle_syntax.proofs.Reading.SymbolKinds.{Known, symbol_known}

-- a token of this kind is a constant
const_named : (ts : List Placed) → Const ≡ kind_at ts → next_symbol_is is_const ts ≡ true
const_named [] k = cc
const_named (opening p ∷ ts) k = cc
const_named (closing p ∷ ts) k = cc
const_named (at_sign p ∷ ts) k = cc
const_named (symbol p s ∷ ts) k = subst (Known s) (sym k) (symbol_known s)
const_named (int p n ∷ ts) k = cc

pub const_symbol : (ts : List Placed) → Const ≡ kind_at ts → symbol_of is_const ts ≡ any_symbol ts
const_symbol ts k = ap (λ b. cond b (any_symbol ts) (fault ts)) (const_named ts k)

pub const_pattern : (d : ℕ) (ts : List Placed) → Const ≡ kind_at ts → pattern d ts ≡ read_map (λ x. pattern_prim x x.1) (constant ts)
const_pattern d ts k =
    pattern_at_kind d ts Const k ∙ ap (read_map (λ x. pattern_prim (ident x.1 (after_dollar x.0)) x.1)) (sym (const_symbol ts k))
    ∙ sym (fuse (λ x. pattern_prim x x.1) (λ x. ident x.1 (after_dollar x.0)) (symbol_of is_const ts))

pub const_expr : (d : ℕ) (ts : List Placed) → Const ≡ kind_at ts → expr d ts ≡ read_map (λ x. expr_prim x x.1) (constant ts)
const_expr d ts k =
    expr_at_kind d ts Const k ∙ ap (read_map (λ x. expr_prim (ident x.1 (after_dollar x.0)) x.1)) (sym (const_symbol ts k))
    ∙ sym (fuse (λ x. expr_prim x x.1) (λ x. ident x.1 (after_dollar x.0)) (symbol_of is_const ts))

-- ---- where reading stops

pub pattern_nothing : (d : ℕ) (ts : List Placed) → ts ≡ [] → at_fault [] ≡ stop_of (pattern d ts)
unfolding pattern_with
pattern_nothing d ts e = ap (λ ts. stop_of (pattern d ts)) (sym e)

pub pattern_none : (d : ℕ) → pattern d [] ≡ fault []
unfolding pattern_with
pattern_none d = refl

-- what refuses first, with what stands before it
pub refuses_first : {A B C : Type 0} (f : A × B
    → C) (p : Reader A) (q : Reader B) (ts : List Placed) (old mid new : RemainingTokens) (r : Refusal Error) → bounds mid ≡ bounds old
    → RefusesAt mid new r (stop_of (p ts)) → RefusesAt old new r (stop_of (read_map f (seq p q ts)))
refuses_first f p q ts old mid new r same h =
    refuses_later old mid new r _ same (refuses_with (p ts) (read_map f (seq p q ts)) mid new r (λ s e some. stop_map f (seq p q ts)
    ∙ stop_after (p ts) _ s e some) h)

-- ---- what one token leaves

pub symbol_shorter : (ts r : List Placed) (x : Ident) → any_symbol ts ≡ done x r → length r < length ts
symbol_shorter [] r x e = cc
symbol_shorter (opening p ∷ ts) r x e = cc
symbol_shorter (closing p ∷ ts) r x e = cc
symbol_shorter (at_sign p ∷ ts) r x e = cc
symbol_shorter (symbol p s ∷ ts) r x e = let same : ts ≡ r = cc in omega (arith, ap length same)
symbol_shorter (int p n ∷ ts) r x e = cc

pub at_shorter : (ts r : List Placed) → after_at ts ≡ Some r → length r < length ts
at_shorter [] r e = cc
at_shorter (opening p ∷ ts) r e = cc
at_shorter (closing p ∷ ts) r e = cc
at_shorter (at_sign p ∷ ts) r e = let same : ts ≡ r = cc in omega (arith, ap length same)
at_shorter (symbol p s ∷ ts) r e = cc
at_shorter (int p n ∷ ts) r e = cc

plain_shorter : (p : Pos) (ts r : List Placed) → opened ts ≡ done p r → length r < length ts
plain_shorter p [] r e = cc
plain_shorter p (opening q ∷ ts) r e = let same : ts ≡ r = cc in omega (arith, ap length same)
plain_shorter p (closing q ∷ ts) r e = cc
plain_shorter p (at_sign q ∷ ts) r e = cc
plain_shorter p (symbol q s ∷ ts) r e = cc
plain_shorter p (int q n ∷ ts) r e = cc

pub opened_shorter : (d : ℕ) (p : Pos) (ts r : List Placed) → opened_within d ts ≡ done p r → length r < length ts
opened_shorter d p ts r e = plain_shorter p ts r (opened_plain d p ts r e)
