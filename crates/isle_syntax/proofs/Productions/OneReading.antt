-- Tokens that spell definitions and nest within the bound spell no others, and a text has one reading.
use Rattle.std.proofs.Common.{◌≡◌, ℕ, List, [], ◌∷◌, ◌++◌, length, append-nil, append_assoc, Bool, true, false, Some, None, refl, sym, ap, subst, ◌∙◌}
use Rattle.isle_ast.specs.declared.ast.Def.{Def}
use Rattle.isle_ast.specs.declared.error.Span.{Span}
use Rattle.isle_ast.specs.declared.error.Error.{Error}
use Rattle.isle_ast.specs.declared.error.Error.TheVariants.{ParseError, SizeError}
use Rattle.isle_ast.specs.declared.refusal.Refusal.{Refusal}
use Rattle.isle_ast.specs.declared.refusal.Refusal.TheVariants.{Fault, Memory}
use Rattle.isle_ast.specs.Errors.{parse_error, size_error, IfFault, IfKind, IsOfKinds, span_at}
use Rattle.isle_syntax.specs.Tokens.PlacedTokens.{Placed, opening}
use Rattle.isle_syntax.specs.Tokens.RemainingTokens.{RemainingTokens, Source, ready, next_pos}
use Rattle.isle_syntax.specs.Grammar.Phrases.{depth_left}
use Rattle.isle_syntax.specs.Inside.Reading.Readers.{Read, done, fault, deep, all_of}
use Rattle.isle_syntax.specs.Tokens.Finding.{reading}
use Rattle.isle_syntax.specs.Tokens.TokensOf.{TokensOf}
use Rattle.isle_syntax.specs.Grammar.DefGrammar.{SpellsText}
use Rattle.isle_syntax.specs.Inside.Reading.DefReading.{def}
use Rattle.isle_syntax.specs.Grammar.Verdict.{max_nesting, NestsWithin, IsDead, FaultAt, DeepAt, IsSpelt, IsFaultOf}
use Rattle.isle_syntax.specs.Grammar.Verdict.{IsWhole, Spells, IsFaultIn}
use Rattle.isle_syntax.proofs.ErrorKinds.{parse_or_size, from_kinds}
use Rattle.isle_syntax.proofs.Reading.Follows.{SameNext, FollowsAt, AtEnd, depth_left-append}
use Rattle.isle_syntax.proofs.Tokens.Findings.{reading_sound, tokens_same}
use Rattle.isle_syntax.proofs.Productions.Texts.{reads}

same_next_itself : (r : List Placed) → SameNext r r
same_next_itself [] = refl
same_next_itself (t ∷ r) = (r, refl)

only_by : (ts : List Placed) (defs others : List Def) (x : Read (List Def)) → FollowsAt SpellsText AtEnd max_nesting max_nesting ts x
    → SpellsText defs ts → NestsWithin ts → SpellsText others ts → others ≡ defs
only_by ts defs others (done a q) g l nests k =
    let one = (g.only.holds q (same_next_itself q) others ts [] k refl (append-nil ts ∙ g.split)).0 in
    one ∙ sym ((g.only.holds q (same_next_itself q) defs ts [] l refl (append-nil ts ∙ g.split)).0)
only_by ts defs others (fault q) g l nests k =
    absurd (g.never.holds q (same_next_itself q) defs ts [] l refl (append-nil ts ∙ g.split))
only_by ts defs others (deep q) g l nests k =
    let whole : ts ≡ g.used ++ (opening g.pos ∷ g.rest) = g.split ∙ ap (λ r. g.used ++ r) g.parenthesis in
    let full : depth_left max_nesting ts ≡ None =
    ap (depth_left max_nesting) whole ∙ depth_left-append max_nesting g.used (opening g.pos ∷ g.rest) 0 g.nests in
    let none : Some nests.0 ≡ None = sym nests.1 ∙ full in
    absurd (cc)

-- tokens that nest within the bound spell the definitions of one text
pub one_text : (ts : List Placed) (defs others : List Def) → SpellsText defs ts → NestsWithin ts → SpellsText others ts → others ≡ defs
one_text ts defs others = only_by ts defs others (all_of (def max_nesting) ts) (reads ts)

-- as a file of each number a text can be read
pub whole_reading : (file : ℕ) (text : List ℕ) → (remaining : RemainingTokens) × IsWhole text remaining × (remaining.source.file ≡ file)
whole_reading file text =
    let source : Source = record { file = file; size = length text } in
    let r = reading source text in (
      record { left = r.left; end = r.end; clean = r.clean; state = ready; source = source },
      record { size = refl; tokens = reading_sound source text },
      refl,
    )

-- a text has these tokens alone
pub tokens_alone : (source : Source) (text : List ℕ) (left other : List Placed) (end stop : ℕ) (clean whole : Bool)
    → TokensOf source text left end clean → TokensOf source text other stop whole
    → (left ≡ other) × (end ≡ stop) × (clean ≡ whole)
tokens_alone source text left other end stop clean whole t u =
    let same = sym (tokens_same source t) ∙ tokens_same source u in
    (ap (λ r. r.left) same, ap (λ r. r.end) same, ap (λ r. r.clean) same)

-- ---- a text has one reading

-- two lexers have the same before them
record IsSameText (a b : RemainingTokens) : Type 0 where
  source : a.source ≡ b.source
  left : a.left ≡ b.left
  end : a.end ≡ b.end
  clean : a.clean ≡ b.clean

-- as those of one text do that have given nothing yet
same_text : (text : List ℕ) (a b : RemainingTokens) → IsWhole text a → IsWhole text b → a.source.file ≡ b.source.file → IsSameText a b
same_text text a b whole other numbers =
    let sizes : a.source.size ≡ b.source.size = whole.size ∙ sym other.size in
    let sources : a.source ≡ b.source = (λ i. record { file = numbers i; size = sizes i }) in
    let tokens = subst (λ s. TokensOf s text a.left a.end a.clean) sources whole.tokens in
    let same = tokens_alone b.source text a.left b.left a.end b.end a.clean b.clean tokens other.tokens in
    record { source = sources; left = same.0; end = same.1; clean = same.2 }

spelt_same : (a b : RemainingTokens) (defs : List Def) → IsSameText a b → IsSpelt a defs → IsSpelt b defs
spelt_same a b defs same spelt = record {
  clean = sym same.clean ∙ spelt.clean;
  spelt = subst (SpellsText defs) same.left spelt.spelt;
  nests = subst NestsWithin same.left spelt.nests;
  only = λ others l. spelt.only others (subst (SpellsText others) (sym same.left) l);
}

fault_same : (a b : RemainingTokens) → IsSameText a b → (span : Span) → FaultAt a span → FaultAt b span
fault_same a b same span f = record {
  before = f.before;
  from = f.from;
  split = sym same.left ∙ f.split;
  place = subst (λ (s : Source). span ≡ span_at (next_pos s b.end f.from)) same.source
      (subst (λ (n : ℕ). span ≡ span_at (next_pos a.source n f.from)) same.end f.place);
  goes_on = f.goes_on;
  dead = subst (λ (clean : Bool). IsDead f.before f.from clean) same.clean f.dead;
  nests = f.nests;
}

deep_same : (a b : RemainingTokens) → IsSameText a b → (span : Span) → DeepAt a span → DeepAt b span
deep_same a b same span f = record {
  before = f.before;
  place = f.place;
  rest = f.rest;
  split = sym same.left ∙ f.split;
  at = f.at;
  goes_on = f.goes_on;
  full = f.full;
}

-- what one reading of a whole text spells, the text spells
pub spells_of : (file : ℕ) (text : List ℕ) (remaining : RemainingTokens) (defs : List Def) → IsWhole text remaining → remaining.source.file ≡ file
    → IsSpelt remaining defs → Spells file text defs
spells_of file text remaining defs whole is spelt other again also =
    spelt_same remaining other defs (same_text text remaining other whole again (is ∙ sym also)) spelt

-- the fault that one reading of a whole text has is the text's
pub fault_in : (file : ℕ) (text : List ℕ) (remaining : RemainingTokens) (error : Error) → IsWhole text remaining → remaining.source.file ≡ file
    → IsFaultOf remaining error → IsFaultIn file text error
fault_in file text remaining error whole is wrong other again also =
    let same = same_text text remaining other whole again (is ∙ sym also) in
    parse_or_size (FaultAt remaining) (DeepAt remaining) (FaultAt other) (DeepAt other) (fault_same remaining other same)
    (deep_same remaining other same) error wrong

-- and so is that of a refusal, of whose kinds each is told
pub refusal_in : (file : ℕ) (text : List ℕ) (remaining : RemainingTokens) (refusal : Refusal Error) → IsWhole text remaining
    → remaining.source.file ≡ file
    → IfKind parse_error (FaultAt remaining) refusal → IfKind size_error (DeepAt remaining) refusal → IsOfKinds parse_error size_error refusal
    → IfFault refusal (IsFaultIn file text)
refusal_in file text remaining (Fault error) whole is wrong low kinds =
    fault_in file text remaining error whole is (from_kinds (FaultAt remaining) (DeepAt remaining) (Fault error) wrong low kinds)
refusal_in file text remaining (Memory e) whole is wrong low kinds = tt

-- a text that spells definitions has a whole reading that spells them
pub reading_of : (file : ℕ) (text : List ℕ) (defs : List Def) → Spells file text defs → (remaining : RemainingTokens) × IsWhole text remaining
    × IsSpelt remaining defs
reading_of file text defs spells =
    let whole = whole_reading file text in (
      whole.0,
      whole.1,
      spells whole.0 whole.1 whole.2,
    )

-- ---- what is spelt has no fault

not_dead : (defs : List Def) (ts before from : List Placed) (clean : Bool) → clean ≡ true → ts ≡ before ++ from → SpellsText defs ts
    → IsDead before from clean → ⊥
not_dead defs ts before [] true e split l dead =
    dead defs (subst (SpellsText defs) (split ∙ append-nil before) l)
not_dead defs ts before [] false e split l dead = cc
not_dead defs ts before (t ∷ r) clean e split l dead =
    dead (defs, r, subst (SpellsText defs) (split ∙ sym (append_assoc before (t ∷ []) r)) l)

-- where tokens spell definitions within the bound, no error is the fault of the text
pub spelt_has_no_fault : (remaining : RemainingTokens) (defs : List Def) (error : Error) → IsSpelt remaining defs → IsFaultOf remaining error → ⊥
spelt_has_no_fault remaining defs (ParseError message span) s f =
    not_dead defs remaining.left f.before f.from remaining.clean s.clean f.split s.spelt f.dead
spelt_has_no_fault remaining defs (SizeError message span) s f =
    let full : depth_left max_nesting remaining.left ≡ None =
    ap (depth_left max_nesting) f.split ∙ depth_left-append max_nesting f.before (opening f.place ∷ f.rest) 0 f.full in
    let none : Some s.nests.0 ≡ None = sym s.nests.1 ∙ full in
    cc
spelt_has_no_fault remaining defs _ s f = f
