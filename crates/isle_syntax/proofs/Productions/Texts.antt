-- Reading a whole text: the promises of the grammar from what reading gives.
use Rattle.std.proofs.Common.{◌≡◌, ℕ, List, [], ◌∷◌, ◌++◌, Bool, true, false, Some, append_assoc, append-nil, refl, sym, ap, subst, ◌∙◌}
use Rattle.isle_ast.specs.declared.error.Span.{Span}
use Rattle.isle_ast.specs.declared.ast.Def.{Def}
use Rattle.isle_ast.specs.Errors.{span_at}
use Rattle.isle_syntax.specs.Tokens.PlacedTokens.{Placed}
use Rattle.isle_syntax.specs.Tokens.RemainingTokens.{RemainingTokens, next_pos}
use Rattle.isle_syntax.specs.Grammar.Phrases.{depth_left}
use Rattle.isle_syntax.specs.Inside.Reading.Readers.{Read, done, fault, deep, all_of}
use Rattle.isle_syntax.specs.Grammar.DefGrammar.{SpellsDef, SpellsText}
use Rattle.isle_syntax.specs.Inside.Reading.DefReading.{def}
use Rattle.isle_syntax.specs.Grammar.Verdict.{max_nesting, IsDead, FaultAt, DeepAt, IsSpelt}
use Rattle.isle_syntax.proofs.Reading.Follows.{SameNext, Impossible, FollowsAt, Any, AtEnd, follows_all_of}
use Rattle.isle_syntax.proofs.Productions.Defs.{follows_def, def_starts}

pub reads : (ts : List Placed) → FollowsAt SpellsText AtEnd max_nesting max_nesting ts (all_of (def max_nesting) ts)
reads ts = (follows_all_of SpellsDef Any max_nesting (def max_nesting) (follows_def max_nesting) def_starts (λ b v w l. tt) tt).reads ts

dead_from : (u r : List Placed) (clean : Bool) → Impossible SpellsText AtEnd u r → IsDead u r clean
dead_from u [] true n = λ defs l. n.holds [] refl defs u [] l refl refl
dead_from u [] false n = tt
dead_from u (t ∷ r) clean n = λ g. n.holds (t ∷ g.1) (g.1, refl) g.0 ((u ++ t ∷ []) ++ g.1) [] g.2 refl (append-nil _ ∙ append_assoc u (t ∷ []) g.1)

fault_by : (u : RemainingTokens) (r : List Placed) (span : Span) (x : Read (List Def)) → FollowsAt SpellsText AtEnd max_nesting max_nesting u.left x
    → x ≡ fault r → span ≡ span_at (next_pos u.source u.end r) → FaultAt u span
fault_by u r span (done a q) g e f = absurd (cc)
fault_by u r span (deep q) g e f = absurd (cc)
fault_by u r span (fault q) g e f = let same : q ≡ r = cc in record {
  before = g.used;
  from = q;
  split = g.split;
  place = f ∙ ap (λ k. span_at (next_pos u.source u.end k)) (sym same);
  goes_on = g.begins;
  dead = dead_from g.used q u.clean g.never;
  nests = (g.left, g.nests);
}

-- a text that is refused at a token, or at its end
pub fault_from_reading : (u : RemainingTokens) (r : List Placed) (span : Span) → all_of (def max_nesting) u.left ≡ fault r
    → span ≡ span_at (next_pos u.source u.end r) → FaultAt u span
fault_from_reading u r span e f = fault_by u r span (all_of (def max_nesting) u.left) (reads u.left) e f

deep_by : (u : RemainingTokens) (r : List Placed) (span : Span) (x : Read (List Def)) → FollowsAt SpellsText AtEnd max_nesting max_nesting u.left x
    → x ≡ deep r → span ≡ span_at (next_pos u.source u.end r) → DeepAt u span
deep_by u r span (done a q) g e f = absurd (cc)
deep_by u r span (fault q) g e f = absurd (cc)
deep_by u r span (deep q) g e f = let same : q ≡ r = cc in record {
  before = g.used;
  place = g.pos;
  rest = g.rest;
  split = g.split ∙ ap (λ k. g.used ++ k) g.parenthesis;
  at = f ∙ ap (λ k. span_at (next_pos u.source u.end k)) (sym same ∙ g.parenthesis);
  goes_on = g.begins;
  full = g.nests;
}

-- a text with a parenthesis that nests too deep
pub deep_from_reading : (u : RemainingTokens) (r : List Placed) (span : Span) → all_of (def max_nesting) u.left ≡ deep r
    → span ≡ span_at (next_pos u.source u.end r) → DeepAt u span
deep_from_reading u r span e f = deep_by u r span (all_of (def max_nesting) u.left) (reads u.left) e f

same_next_refl : (r : List Placed) → SameNext r r
same_next_refl [] = refl
same_next_refl (t ∷ r) = (r, refl)

-- what is read to its end
pub record ReadWhole (ts : List Placed) (defs : List Def) : Type 0 where
  pub spelt : SpellsText defs ts
  pub left : ℕ
  pub nests : depth_left max_nesting ts ≡ Some left
  pub only : (others : List Def) → SpellsText others ts → others ≡ defs

whole_by : (ts : List Placed) (defs : List Def) (x : Read (List Def)) → FollowsAt SpellsText AtEnd max_nesting max_nesting ts x → x ≡ done defs []
    → ReadWhole ts defs
whole_by ts defs (fault q) g e = absurd (cc)
whole_by ts defs (deep q) g e = absurd (cc)
whole_by ts defs (done a q) g e =
    let same : a ≡ defs = cc in
    let rest : q ≡ [] = cc in
    let whole : ts ≡ g.used = g.split ∙ ap (λ k. g.used ++ k) rest ∙ append-nil g.used in record {
      spelt = subst (SpellsText defs) (sym whole) (subst (λ k. SpellsText k g.used) same g.spelt);
      left = max_nesting;
      nests = ap (depth_left max_nesting) whole ∙ g.nests;
      only = λ others l. (g.only.holds q (same_next_refl q) others ts [] l refl (append-nil ts ∙ g.split)).0 ∙ same;
    }

pub whole_from_reading : (ts : List Placed) (defs : List Def) → all_of (def max_nesting) ts ≡ done defs [] → ReadWhole ts defs
whole_from_reading ts defs e = whole_by ts defs (all_of (def max_nesting) ts) (reads ts) e

-- a text that is accepted
pub spelt_from_reading : (u : RemainingTokens) (defs : List Def) → all_of (def max_nesting) u.left ≡ done defs [] → u.clean ≡ true → IsSpelt u defs
spelt_from_reading u defs e clean = let w = whole_from_reading u.left defs e in
    record { clean = clean; spelt = w.spelt; nests = (w.left, w.nests); only = w.only }

-- a text whose tokens are all read, where what stands behind them is no token
pub fault_at_end : (u : RemainingTokens) (defs : List Def) (span : Span) → all_of (def max_nesting) u.left ≡ done defs [] → u.clean ≡ false
    → span ≡ span_at (next_pos u.source u.end []) → FaultAt u span
fault_at_end u defs span e clean f =
    let w = whole_from_reading u.left defs e in record {
      before = u.left;
      from = [];
      split = sym (append-nil u.left);
      place = f;
      goes_on = (defs, [], subst (SpellsText defs) (sym (append-nil u.left)) w.spelt);
      dead = subst (IsDead u.left []) (sym clean) tt;
      nests = (w.left, w.nests);
    }
