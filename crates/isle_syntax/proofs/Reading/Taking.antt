-- Taking a token whose kind is known.
use Rattle.std.proofs.Common.{◌≡◌, ℕ, zero, suc, ◌<◌, List, [], ◌∷◌, Bool, true, false, cond, Some, refl, sym, ap, subst, ◌∙◌, arith}
use Rattle.isle_ast.specs.declared.pos.Pos.{Pos}
use Rattle.isle_syntax.specs.declared.kind.Kind.{Kind}
use Rattle.isle_syntax.specs.declared.kind.Kind.TheVariants.{End, Open, Close, At, Int, True, False, Const, Wildcard, Name, Other}
use Rattle.isle_syntax.specs.Tokens.PlacedTokens.{Placed, opening, closing, at_sign, symbol, int, pos_of}
use Rattle.isle_syntax.specs.declared.lexer.Token.{Token}
use Rattle.std.specs.Prelude.{Ok}
use Rattle.isle_syntax.specs.declared.lexer.Token.TheVariants.{LParen, RParen, Symbol, Int as TokenInt, Big, At as TokenAt}
use Rattle.isle_ast.specs.declared.error.Error.{Error}
use Rattle.isle_ast.specs.declared.refusal.Refusal.{Refusal}
use Rattle.isle_syntax.specs.Tokens.PlacedTokens.{placed, placed_at}
use Rattle.isle_syntax.specs.Tokens.RemainingTokens.{RemainingTokens}
use Rattle.isle_syntax.specs.Tokens.LexerCalls.{GivesToken}
use Rattle.isle_syntax.specs.Inside.Reading.Parsing.{bounds, Gives, RefusesAt, TakesOr, IsKnown, at_deep, stop_of}
use Rattle.isle_syntax.specs.Inside.Reading.KindOf.{symbol_kind, kind_at}
use Rattle.isle_syntax.specs.Inside.Reading.Readers.{done, deep, opened, opened_within, closed, after_close, after_at, at_pos, any_symbol}
use Rattle.isle_syntax.proofs.Reading.SymbolKinds.{const_text}
use Rattle.isle_syntax.specs.Tokens.Names.{is_const}
use Rattle.isle_syntax.specs.Grammar.Phrases.{next_symbol_is}
use Rattle.isle_ast.specs.declared.ast.Ident.{Ident}
use Rattle.std.specs.Prelude.{slice_index}

by_cond : (P : Kind → Type 0) (a b : Kind) (t : Bool) → P a → P b → P (cond t a b)
by_cond P a b true x y = x
by_cond P a b false x y = y

-- the kinds of symbols
pub symbol_kinds : (P : Kind → Type 0) (s : List ℕ) → P True → P False → P Const → P Wildcard → P Name → P Other → P (symbol_kind s)
unfolding symbol_kind
symbol_kinds P s a b c d e f = by_cond P _ _ _ a (by_cond P _ _ _ b (by_cond P _ _ _ c (by_cond P _ _ _ d (by_cond P _ _ _ e f))))

abbrev IsSymbolKind : Kind → Type 0
IsSymbolKind End = ⊥
IsSymbolKind Open = ⊥
IsSymbolKind Close = ⊥
IsSymbolKind At = ⊥
IsSymbolKind Int = ⊥
IsSymbolKind True = Unit {0}
IsSymbolKind False = Unit {0}
IsSymbolKind Const = Unit {0}
IsSymbolKind Wildcard = Unit {0}
IsSymbolKind Name = Unit {0}
IsSymbolKind Other = Unit {0}

pub symbol_is : (k : Kind) (s : List ℕ) → k ≡ symbol_kind s → IsSymbolKind k
symbol_is k s e = subst IsSymbolKind (sym e) (symbol_kinds IsSymbolKind s tt tt tt tt tt tt)

pub takes_close : (ts r : List Placed) (t : Placed) → Close ≡ kind_at ts → ts ≡ t ∷ r → closed ts ≡ done tt r
takes_close ts r (opening p) k e = let h : Close ≡ Open = k ∙ ap kind_at e in cc
takes_close ts r (closing p) k e = rw e refl
takes_close ts r (at_sign p) k e = let h : Close ≡ At = k ∙ ap kind_at e in cc
takes_close ts r (symbol p s) k e = absurd (symbol_is Close s (k ∙ ap kind_at e))
takes_close ts r (int p n) k e = let h : Close ≡ Int = k ∙ ap kind_at e in cc

pub closes_then : (ts r : List Placed) (t : Placed) → Close ≡ kind_at ts → ts ≡ t ∷ r → after_close ts ≡ Some r
closes_then ts r (opening p) k e = let h : Close ≡ Open = k ∙ ap kind_at e in cc
closes_then ts r (closing p) k e = rw e refl
closes_then ts r (at_sign p) k e = let h : Close ≡ At = k ∙ ap kind_at e in cc
closes_then ts r (symbol p s) k e = absurd (symbol_is Close s (k ∙ ap kind_at e))
closes_then ts r (int p n) k e = let h : Close ≡ Int = k ∙ ap kind_at e in cc

pub at_then : (ts r : List Placed) (t : Placed) → At ≡ kind_at ts → ts ≡ t ∷ r → after_at ts ≡ Some r
at_then ts r (opening p) k e = let h : At ≡ Open = k ∙ ap kind_at e in cc
at_then ts r (closing p) k e = let h : At ≡ Close = k ∙ ap kind_at e in cc
at_then ts r (at_sign p) k e = rw e refl
at_then ts r (symbol p s) k e = absurd (symbol_is At s (k ∙ ap kind_at e))
at_then ts r (int p n) k e = let h : At ≡ Int = k ∙ ap kind_at e in cc

takes_open : (ts r : List Placed) (t : Placed) → Open ≡ kind_at ts → ts ≡ t ∷ r → opened ts ≡ done (pos_of t) r
takes_open ts r (opening p) k e = rw e refl
takes_open ts r (closing p) k e = let h : Open ≡ Close = k ∙ ap kind_at e in cc
takes_open ts r (at_sign p) k e = let h : Open ≡ At = k ∙ ap kind_at e in cc
takes_open ts r (symbol p s) k e = absurd (symbol_is Open s (k ∙ ap kind_at e))
takes_open ts r (int p n) k e = let h : Open ≡ Int = k ∙ ap kind_at e in cc

pub opens_within : (d : ℕ) (ts r : List Placed) (t : Placed) → 0 < d → Open ≡ kind_at ts → ts ≡ t ∷ r → opened_within d ts ≡ done (pos_of t) r
opens_within zero ts r t some k e = absurd (omega arith)
opens_within (suc d) ts r t some k e = takes_open ts r t k e

pub opens_deep : (ts : List Placed) → Open ≡ kind_at ts → opened_within 0 ts ≡ deep ts
opens_deep [] k = cc
opens_deep (opening p ∷ ts) k = refl
opens_deep (closing p ∷ ts) k = cc
opens_deep (at_sign p ∷ ts) k = cc
opens_deep (symbol p s ∷ ts) k = absurd (symbol_is Open s k)
opens_deep (int p n ∷ ts) k = cc

-- ---- the same of a lexer

pub given_bounds : (old new : RemainingTokens) (t : Pos × Token) → GivesToken old new t → bounds new ≡ bounds old
given_bounds old new t g = λ i. (g.same_end i, (g.same_clean i, g.same_source i))

module _ (old mid new : RemainingTokens) (t : Pos × Token) (known : IsKnown old mid) (g : GivesToken mid new t) where
  pub known_first : old.left ≡ placed t ∷ new.left
  known_first = sym (ap (λ u. u.left) known.same) ∙ g.first

  pub known_bounds : bounds new ≡ bounds old
  known_bounds = given_bounds mid new t g ∙ ap bounds known.same

  pub close_gives : Close ≡ kind_at old.left → Gives {Y = Unit {0}} (λ x. x) old new (Ok tt) (closed old.left)
  close_gives k = (takes_close old.left new.left (placed t) k known_first, known_bounds)

  pub take_close_gives : Close ≡ kind_at old.left → TakesOr old new (after_close old.left) true
  take_close_gives k = (closes_then old.left new.left (placed t) k known_first, known_bounds)

  pub open_gives : (d : ℕ) → 0 < d → Open ≡ kind_at old.left → Gives (λ p. p) old new (Ok (pos_of (placed t))) (opened_within d old.left)
  open_gives d some k = (opens_within d old.left new.left (placed t) some k known_first, known_bounds)

pub placed_place : (p : Pos) (t : Token) → pos_of (placed_at p t) ≡ p
placed_place p LParen = refl
placed_place p RParen = refl
placed_place p TokenAt = refl
placed_place p (Symbol s) = refl
placed_place p (TokenInt n) = refl
placed_place p (Big n) = refl

pub deep_refuses : (old mid : RemainingTokens) (r : Refusal Error) → IsKnown old mid → Open ≡ kind_at old.left
    → RefusesAt mid mid r (at_deep mid.left) → RefusesAt old mid r (stop_of (opened_within 0 old.left))
deep_refuses old mid r known k h =
    subst (λ s. RefusesAt old mid r (stop_of s)) (sym (opens_deep old.left k)) (subst (λ u. RefusesAt u mid r (at_deep u.left)) known.same h)

-- ---- other tokens

pub takes_at : (ts r : List Placed) (t : Placed) → At ≡ kind_at ts → ts ≡ t ∷ r → at_pos ts ≡ done (pos_of t) r
takes_at ts r (opening p) k e = let h : At ≡ Open = k ∙ ap kind_at e in cc
takes_at ts r (closing p) k e = let h : At ≡ Close = k ∙ ap kind_at e in cc
takes_at ts r (at_sign p) k e = rw e refl
takes_at ts r (symbol p s) k e = absurd (symbol_is At s (k ∙ ap kind_at e))
takes_at ts r (int p n) k e = let h : At ≡ Int = k ∙ ap kind_at e in cc

module _ (old mid new : RemainingTokens) (t : Pos × Token) (known : IsKnown old mid) (g : GivesToken mid new t) where
  pub at_gives : At ≡ kind_at old.left → Gives (λ p. p) old new (Ok t.0) (at_pos old.left)
  at_gives k = (
    takes_at old.left new.left (placed t) k (known_first old mid new t known g) ∙ ap (λ p. done p new.left) (placed_place t.0 t.1),
    known_bounds old mid new t known g,
  )

-- ---- constants

pub const_ascii : (s : List ℕ) → is_const s ≡ true → slice_index s 0 < 128
const_ascii s h = rw (const_text s h) (omega arith)

-- a symbol of which p holds is one that was seen
pub symbol_passes : (p : List ℕ → Bool) (ts r : List Placed) (x : Ident) → next_symbol_is p ts ≡ true → any_symbol ts ≡ done x r → p x.0 ≡ true
symbol_passes p [] r x n e = cc
symbol_passes p (opening q ∷ ts) r x n e = cc
symbol_passes p (closing q ∷ ts) r x n e = cc
symbol_passes p (at_sign q ∷ ts) r x n e = cc
symbol_passes p (symbol q s ∷ ts) r x n e = let k : s ≡ x.0 = cc in ap p (sym k) ∙ n
symbol_passes p (int q m ∷ ts) r x n e = cc
