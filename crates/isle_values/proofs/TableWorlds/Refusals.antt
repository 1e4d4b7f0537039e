-- How a table world's text is refused.
use Rattle.std.proofs.Common.{rules, ◌≡◌, ◌≤◌, ◌<◌, ◌+◌, ◌++◌, ◌⊎◌, inl, inr, ℕ, zero, suc, Bool, true, false, List, [], ◌∷◌, length, take, drop, map, Some, None, refl, sym, ◌∙◌, ap, subst, arith, slice_get, get_or}
use Rattle.std.specs.Prelude.{IsSome, IsTrue, not}
use Rattle.std.specs.Option.{option_map, option_and_then}
use Rattle.std.proofs.Math.Seq.{take-add}
use Rattle.std.proofs.lemmas.List.{length-map, length-drop, length-take-le, take-append-drop, append-nil}
use Rattle.std.proofs.lemmas.List.Elements.{All-nil}
use Rattle.std.proofs.lemmas.Option.{same_Some, none-some, slice_get-map, slice_get_past}
use Rattle.isle_syntax.specs.declared.lexer.Token.{Token}
use Rattle.isle_syntax.specs.Tokens.PlacedTokens.{Placed}
use Rattle.isle_syntax.specs.Tokens.RemainingTokens.{RemainingTokens}
use Rattle.isle_syntax.specs.Tokens.TokensOf.{TokensOf}
use Rattle.isle_types.specs.declared.ids.TermId.{TermId}
use Rattle.isle_program.specs.declared.program.Program.{Program}
use Rattle.isle_values.specs.declared.worlds.entry.Side.{Side}
use Rattle.isle_values.specs.declared.worlds.reading.WorldFault.{WorldFault}
use Rattle.isle_values.specs.declared.worlds.reading.WorldFault.TheVariants.{X1, X2, X3, X4, X5, X6, Memory}
use Rattle.isle_program.specs.Programs.{term_name}
use Rattle.isle_values.specs.Values.TextTokens.{alone, bare, AreTokensOf}
use Rattle.isle_values.specs.Worlds.Entries.{EntryTree, IsSameCall, IsSpellableEntry, entry_tokens}
use Rattle.isle_values.specs.Worlds.Externals.{ExternalTypes, asked_by, asked_of}
use Rattle.isle_values.specs.Worlds.Tables.{HasEntries, entry_at, entry_of}
use Rattle.isle_values.specs.Worlds.Texts.{SpellEntries, ReachesEntry, ReachesSpelt, RefusesWorld, ArePlaced, offset_of, LacksElse}
use Rattle.isle_values.specs.Worlds.Reading.{IsTokenFault, BeginsWithEntry, AddsEntry, RefusedBehind, LacksElseOn, MissesElse}
use Rattle.isle_values.proofs.TableWorlds.Tables.{has_more, spell_more}

-- where no token begins, a text is no world
pub token_refused : (text : List ℕ) (placed : List Placed) (lexer : RemainingTokens)
    → TokensOf (alone text) text (placed ++ lexer.left) lexer.end lexer.clean
    → (program : Program) (fault : WorldFault) → IsTokenFault lexer fault → RefusesWorld program text fault
token_refused text placed lexer are program (X1 offset) (left, unclean, end) = (
  placed,
  subst (λ n. TokensOf (alone text) text placed n false) end
      (subst (λ b. TokensOf (alone text) text placed lexer.end b) unclean
      (subst (λ l. TokensOf (alone text) text l lexer.end lexer.clean) (append-nil placed)
      (subst (λ l. TokensOf (alone text) text (placed ++ l) lexer.end lexer.clean) left are))),
)
token_refused text placed lexer are program (X2 offset) never = absurd never
token_refused text placed lexer are program (X3 offset) never = absurd never
token_refused text placed lexer are program (X4 offset) never = absurd never
token_refused text placed lexer are program (X5 offset) never = absurd never
token_refused text placed lexer are program (X6 term) never = absurd never
token_refused text placed lexer are program (Memory e) _ = tt

-- the token of an offset
placed_of : (placed : List Placed) (at offset : ℕ) → slice_get (map offset_of placed) at ≡ Some offset → (first : Placed)
    × (slice_get placed at ≡ Some first) × (offset_of first ≡ offset)
placed_of placed at offset is = elim (slice_get placed at) as (λ o. slice_get placed at ≡ o → (first : Placed)
    × (slice_get placed at ≡ Some first) × (offset_of first ≡ offset)) [
      | None ↦ λ e. absurd (none-some offset (sym (ap (option_map offset_of) e) ∙ sym (slice_get-map offset_of placed at) ∙ is))
      | Some first ↦ λ e. (first, e, same_Some _ _ (sym (ap (option_map offset_of) e) ∙ sym (slice_get-map offset_of placed at) ∙ is))
    ] refl

-- what is there stands before the end
pub within_list : {X : Type 0} (xs : List X) (at : ℕ) (x : X) → slice_get xs at ≡ Some x → at < length xs
within_list [] at x is = absurd (none-some x is)
within_list (y ∷ ys) zero x is = omega arith
within_list (y ∷ ys) (suc at) x is = let rest = within_list ys at x is in omega (arith, rest)

-- a place behind entries is reached in the text
reached : (program : Program) (text : List ℕ) (tokens : List Token) (offsets : List ℕ) (at offset : ℕ) (entries : List EntryTree)
    → ArePlaced text tokens offsets
    → SpellEntries program (take at tokens) entries → slice_get offsets at ≡ Some offset → ReachesEntry program text offset entries (drop at tokens)
reached program text tokens offsets at offset entries are good stands =
    let (first, there, place) = placed_of are.placed at offset (ap (λ l. slice_get l at) (sym are.offsets_are) ∙ stands) in
    let inside = within_list are.placed at first there in
    let long : length tokens ≡ length are.placed = ap length are.tokens_are ∙ length-map are.placed bare in
    let size : length (take at tokens) ≡ at = length-take-le at tokens (omega (arith, inside, long)) in
    record {
      placed = are.placed;
      end = are.end;
      are = are.are;
      before = take at tokens;
      split = sym are.tokens_are ∙ sym (take-append-drop at tokens);
      good = good;
      first = first;
      stands = ap (slice_get are.placed) size ∙ there;
      at = place;
    }

reached_entry : (program : Program) (text : List ℕ) (tokens : List Token) (offsets : List ℕ) (at offset : ℕ)
    (entries : List EntryTree) (spelt : EntryTree)
    → ArePlaced text tokens offsets → SpellEntries program (take at tokens) entries → slice_get offsets at ≡ Some offset
    → BeginsWithEntry (drop at tokens) spelt
    → ReachesSpelt program text offset entries spelt
reached_entry program text tokens offsets at offset entries spelt are good stands begins = record {
  more = begins.more;
  reaches = subst (λ l. ReachesEntry program text offset entries l) begins.front
      (reached program text tokens offsets at offset entries are good stands);
  spellable = begins.spellable;
}

-- a table has the call of an entry, so one of its entries is of it
had : (table entries : List EntryTree) (e : EntryTree) → HasEntries table entries → IsSome (entry_of table e)
    → (i : ℕ) × ((d : EntryTree) × (slice_get entries i ≡ Some d) × IsSameCall d e)
had table entries e has some = elim (entry_of table e) as (λ o. entry_of table e ≡ o → IsSome o → (i : ℕ)
    × ((d : EntryTree) × (slice_get entries i ≡ Some d) × IsSameCall d e)) [
      | None ↦ λ is never. let no : ⊥ = search rules in absurd no
      | Some answer ↦ λ is _.
          let d : EntryTree = record { side = e.side; term = e.term; call = e.call; answer = answer } in
          let (i, there) = has.only d is in (i, (d, there, record { side = refl; term = refl; call = refl }))
    ] refl some

-- what is refused behind entries refuses the text
pub behind_refused : (program : Program) (text : List ℕ) (tokens : List Token) (offsets : List ℕ) (fault : WorldFault) → ArePlaced text tokens offsets
    → RefusedBehind program tokens offsets fault → RefusesWorld program text fault
behind_refused program text tokens offsets (X1 at) are r = absurd r.refuses
behind_refused program text tokens offsets (X2 at) are r =
    subst (λ n. RefusesWorld program text (X2 n)) (sym r.refuses.0)
    (r.entries, drop r.at tokens, reached program text tokens offsets r.at r.offset r.entries are r.good r.stands, r.refuses.1)
behind_refused program text tokens offsets (X3 at) are r =
    let (same, rest) = r.refuses in let (spelt, begins, unknown) = rest in
    subst (λ n. RefusesWorld program text (X3 n)) (sym same)
    (r.entries, spelt, reached_entry program text tokens offsets r.at r.offset r.entries spelt are r.good r.stands begins, unknown)
behind_refused program text tokens offsets (X4 at) are r =
    let (same, rest) = r.refuses in let (spelt, types, begins, asked, untyped) = rest in
    subst (λ n. RefusesWorld program text (X4 n)) (sym same)
    (r.entries, spelt, types, reached_entry program text tokens offsets r.at r.offset r.entries spelt are r.good r.stands begins, asked, untyped)
behind_refused program text tokens offsets (X5 at) are r =
    let (same, rest) = r.refuses in let (spelt, e, begins, read, some) = rest in
    let (i, found) = had r.table r.entries e r.has some in let (d, there, call) = found in
    subst (λ n. RefusesWorld program text (X5 n)) (sym same)
    (r.entries, spelt, e, d, i, reached_entry program text tokens offsets r.at r.offset r.entries spelt are r.good r.stands begins, read, there, call)
behind_refused program text tokens offsets (X6 term) are r = absurd r.refuses
behind_refused program text tokens offsets (Memory e) are r = tt

-- no entries
pub spell_none : (program : Program) → SpellEntries program [] []
spell_none program = record {
  spelt = [];
  spellable = All-nil IsSpellableEntry;
  tokens_are = refl;
  read =
      tt;
  once = λ i j d e p q same. absurd (none-some d p);
}

pub has_none : HasEntries [] []
has_none = record { all = λ i e at. absurd (none-some e at); only = λ e at. absurd (none-some e.answer at) }

-- an entry has tokens
pub some_tokens : (tokens : List Token) (count : ℕ) (e : EntryTree) → take count tokens ≡ entry_tokens e → 0 < count
some_tokens tokens zero e is = absurd (let none : [] ≡ entry_tokens e = is in cc)
some_tokens tokens (suc count) e is = omega arith

-- one more entry is read
pub reads_more : (program : Program) (tokens : List Token) (at count : ℕ) (entries old new : List EntryTree)
    → at ≤ length tokens → SpellEntries program (take at tokens) entries
    → HasEntries old entries → AddsEntry program (drop at tokens) count old new
    → (at + count ≤ length tokens) × ((more : List EntryTree) × SpellEntries program (take (at + count) tokens) more × HasEntries new more)
reads_more program tokens at count entries old new fits good has adds =
    let len = length-drop at tokens in let within = adds.within in (
      omega (arith, len, within, fits),
      (
        entries ++ adds.e ∷ [],
        subst (λ l. SpellEntries program l (entries ++ adds.e ∷ [])) (sym (take-add at count tokens))
            (spell_more program old (take at tokens) (take count (drop at tokens)) entries adds.spelt adds.e
            good has adds.added.absent adds.spellable adds.front adds.read),
        has_more old new entries adds.e has adds.added,
      ),
    )

-- what lacks an `else` in entries misses it in their table, and the other way round
pub lacking : (program : Program) (table entries : List EntryTree) (term : TermId) → HasEntries table entries
    → LacksElse program entries term → MissesElse program table term
lacking program table entries term has lacks = (
  lacks.side,
  record {
    types = lacks.types;
    asked = lacks.asked;
    always = lacks.always;
    missing = elim (entry_at table lacks.side (term_name program term) None) as
        (λ o. entry_at table lacks.side (term_name program term) None ≡ o → entry_at table lacks.side (term_name program term) None ≡ None) [
          | None ↦ λ e. e
          | Some answer ↦ λ e.
              let (i, there) = has.only (record { side = lacks.side; term = term_name program term; call = None; answer = answer }) e in
              absurd (lacks.missing i answer there)
        ] refl;
  },
)

pub missing : (program : Program) (table entries : List EntryTree) (term : TermId) → HasEntries table entries
    → MissesElse program table term → LacksElse program entries term
missing program table entries term has (side, misses) = record {
  side = side;
  types = misses.types;
  asked = misses.asked;
  always = misses.always;
  missing = λ i answer there. none-some answer (sym misses.missing ∙ has.all i _ there);
}

-- a number that is no term's misses nothing
pub beyond : (program : Program) (table : List EntryTree) (term : TermId) → length program.termenv.terms ≤ term.0 → MissesElse program table term → ⊥
beyond program table term out (side, misses) =
    none-some misses.types (sym (ap (option_and_then (asked_of side)) (slice_get_past program.termenv.terms term.0 out)) ∙ misses.asked)

-- what stands at a place
pub there_at : {X : Type 0} (xs : List X) (at : ℕ) (other : X) → at < length xs → slice_get xs at ≡ Some (get_or xs at other)
there_at [] at other low = absurd (omega (arith, low))
there_at (x ∷ xs) zero other low = refl
there_at (x ∷ xs) (suc at) other low = there_at xs at other (omega (arith, low))

-- all of a list
pub take_whole : {X : Type 0} (xs : List X) (n : ℕ) → length xs ≤ n → take n xs ≡ xs
take_whole [] zero long = refl
take_whole [] (suc n) long = refl
take_whole (x ∷ xs) zero long = absurd (omega (arith, long))
take_whole (x ∷ xs) (suc n) long = ap (λ l. x ∷ l) (take_whole xs n (omega (arith, long)))

-- a number is below another one or not
pub below_or_not : (n i : ℕ) → (n < i) ⊎ (i ≤ n)
below_or_not n zero = inr (omega arith)
below_or_not zero (suc i) = inl (omega arith)
below_or_not (suc n) (suc i) = elim (below_or_not n i) [
  | inl low ↦ inl (omega (arith, low))
  | inr high ↦ inr (omega (arith, high))
]

-- whether a term misses an `else` on a side
pub misses_iff : (program : Program) (table : List EntryTree) (term : TermId) (side : Side) (types : ExternalTypes) (found : Bool)
    → asked_by program side term ≡ Some types
    → types.may_fail ≡ false → (IsTrue found → IsSome (entry_at table side (term_name program term) None))
    × (IsSome (entry_at table side (term_name program term) None) → IsTrue found)
    → (IsTrue (not found) → LacksElseOn program table term side) × (LacksElseOn program table term side → IsTrue (not found))
misses_iff program table term side types true asked always is =
    (λ no. absurd cc, λ lacks. absurd (let some = is.0 refl in let gone = subst IsSome lacks.missing some in let no : ⊥ = search rules in no))
misses_iff program table term side types false asked always is = (
  λ _. record {
    types = types;
    asked = asked;
    always = always;
    missing = elim (entry_at table side (term_name program term) None) as (λ o. (IsSome o → IsTrue false) → o ≡ None) [
      | None ↦ λ none. refl
      | Some answer ↦ λ none. absurd (let never = none (search rules) in cc)
    ] is.1;
  },
  λ lacks. refl,
)

-- an entry at the front of tokens, by how many it has
pub begins_entry : (tokens : List Token) (count : ℕ) (e : EntryTree) → IsSpellableEntry e → take count tokens ≡ entry_tokens e
    → BeginsWithEntry tokens e
begins_entry tokens count e spellable is = record {
  more = drop count tokens;
  front = sym (take-append-drop count tokens) ∙ ap (λ l. l ++ drop count tokens) is;
  spellable = spellable;
}

-- the tokens of a text, wherever they are placed
pub tokens_placed : (text : List ℕ) (tokens : List Token) (offsets : List ℕ) → ArePlaced text tokens offsets → AreTokensOf text tokens
tokens_placed text tokens offsets are = (are.placed, are.end, are.are, are.tokens_are)
