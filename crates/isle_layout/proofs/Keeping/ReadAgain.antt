-- A text that has the tokens of another is read as it, but for positions.
use Rattle.std.proofs.Common.{◌≡◌, ℕ, List, [], ◌∷◌, map, Bool, true, refl, ◌∙◌, sym, subst}
use Rattle.isle_ast.specs.declared.pos.Pos.{Pos}
use Rattle.isle_ast.specs.declared.ast.Def.{Def}
use Rattle.isle_ast.specs.Trees.WithoutPos.{def_without_pos}
use Rattle.isle_syntax.specs.declared.lexer.Token.{Token}
use Rattle.isle_syntax.specs.declared.lexer.Token.TheVariants.{LParen, RParen, At, Symbol, Int, Big}
use Rattle.isle_syntax.specs.Tokens.PlacedTokens.{Placed, placed_at}
use Rattle.isle_syntax.specs.Tokens.RemainingTokens.{Source, RemainingTokens}
use Rattle.isle_syntax.specs.Tokens.TokensOf.{pos_of_rest, TokensOf, ended as all_ended, stopped, token as and_token}
use Rattle.isle_syntax.specs.Grammar.Verdict.{max_nesting, NestsWithin, IsSpelt, Spells}
use Rattle.isle_syntax.proofs.Productions.OneReading.{one_text, whole_reading, spells_of, tokens_alone, reading_of, spelt_has_no_fault}
use Rattle.isle_layout.specs.Formats.{IsFaultless}
use Rattle.isle_layout.specs.ReadsBack.{IsReadAs}
use Rattle.isle_layout.specs.Keeping.TokenValues.{HasTokens, ended, token}
use Rattle.isle_layout.specs.Keeping.LaidOut.{laid_out}
use Rattle.isle_layout.specs.Keeping.Keeps.{IsKept}
use Rattle.isle_layout.proofs.Keeping.Moved.{SameToken, SameTokens, each, same_depth_left}
use Rattle.isle_layout.proofs.Keeping.MovedDefs.{def_moves}

-- these tokens at some places
abbrev ArePlaced : List Token → List Placed → Type 0
ArePlaced [] left = left ≡ []
ArePlaced (t ∷ ts) left = (p : Pos) × (others : List Placed) × (left ≡ placed_at p t ∷ others) × ArePlaced ts others

tokens_had : {source : Source} {text : List ℕ} {left : List Placed} {end : ℕ} {clean : Bool} → TokensOf source text left end clean → clean ≡ true
    → (ts : List Token) × HasTokens text ts × ArePlaced ts left
tokens_had (all_ended g) e = ([], ended g, refl)
tokens_had (stopped g some none) e = absurd (cc)
tokens_had {source} (and_token {rest = rest} {t = t} {left = left} g i more) e =
    let r = tokens_had more e in
    (t ∷ r.0, token g i r.1, (pos_of_rest source rest, left, refl, r.2))

tokens_placed : (source : Source) {text : List ℕ} {ts : List Token} → HasTokens text ts
    → (left : List Placed) × TokensOf source text left source.size true × ArePlaced ts left
tokens_placed source (ended g) = ([], all_ended g, refl)
tokens_placed source (token {rest = rest} {t = t} g i more) =
    let r = tokens_placed source more in
    (placed_at (pos_of_rest source rest) t ∷ r.0, and_token g i r.1, (pos_of_rest source rest, r.0, refl, r.2))

same_anywhere : (t : Token) (p q : Pos) → SameToken (placed_at p t) (placed_at q t)
same_anywhere LParen p q = (q, refl)
same_anywhere RParen p q = (q, refl)
same_anywhere At p q = (q, refl)
same_anywhere (Symbol s) p q = (q, refl)
same_anywhere (Int n) p q = (q, refl)
same_anywhere (Big n) p q = (q, refl)

same_placed : (ts : List Token) (left other : List Placed) → ArePlaced ts left → ArePlaced ts other → SameTokens left other
same_placed [] left other a b = subst (λ l. SameTokens l other) (sym a) b
same_placed (t ∷ ts) left other a b =
    subst (λ l. SameTokens l other) (sym a.2) (placed_at b.0 t, b.1, b.2, same_anywhere t a.0 b.0, same_placed ts a.1 b.1 a.3 b.3)

spelt_again : (one other : RemainingTokens) (defs : List Def) → IsSpelt one defs → other.clean ≡ true → SameTokens one.left other.left
    → (read : List Def) × IsSpelt other read × (map def_without_pos read ≡ map def_without_pos defs)
spelt_again one other defs spelt clean same =
    let r = (each def_moves defs).move one.left other.left spelt.spelt same in
    let nests : NestsWithin other.left = (spelt.nests.0, same_depth_left max_nesting one.left other.left same ∙ spelt.nests.1) in (
      r.0,
      record { clean = clean; spelt = r.1; nests = nests; only = λ others l. one_text other.left r.0 others r.1 nests l },
      r.2,
    )

-- what has the tokens of a text is read as it
pub read_again : (file : ℕ) (text out : List ℕ) (defs : List Def) → ((tokens : List Token) → HasTokens text tokens → HasTokens out tokens)
    → Spells file text defs → IsReadAs out defs
read_again file text out defs keeps spells remaining whole =
    let read = reading_of file text defs spells in
    let had = tokens_had read.1.tokens read.2.clean in
    let placed = tokens_placed remaining.source (keeps had.0 had.1) in
    let alone = tokens_alone remaining.source out remaining.left placed.0 remaining.end remaining.source.size remaining.clean true
    whole.tokens placed.1 in
    let same = same_placed had.0 read.0.left remaining.left had.2 (subst (ArePlaced had.0) (sym alone.0) placed.2) in
    spelt_again read.0 remaining defs read.2 alone.2 same

-- what is read as definitions has no fault
pub read_is_faultless : (text : List ℕ) (defs : List Def) → IsReadAs text defs → IsFaultless text
read_is_faultless text defs back file error fault =
    let whole = whole_reading file text in
    let read = back whole.0 whole.1 in
    spelt_has_no_fault whole.0 read.0 error read.1 (fault whole.0 whole.1 whole.2)

-- and is kept as it is, where it is laid out as itself
pub kept_again : (width : ℕ) (text : List ℕ) (defs : List Def) → laid_out width text ≡ text → IsReadAs text defs → IsKept width text
kept_again width text defs same back = record {
  keeps = λ file.
      let whole = whole_reading file text in
      let read = back whole.0 whole.1 in
      (read.0, spells_of file text whole.0 read.0 whole.1 whole.2 read.1, sym same);
  only = λ file out k. k.2 ∙ same;
}
