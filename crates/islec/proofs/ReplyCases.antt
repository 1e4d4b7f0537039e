-- Worked cases: where effects lead, and which world replies leave.
use Rattle.std.proofs.Common.{arith, ◌≡◌, ◌⊎◌, ◌≤◌, ◌+◌, ◌++◌, ◌||◌, append-nil, ap₂, ℕ, Bool, true, false, true≢false, List, [], ◌∷◌, Option, Some, inl, inr, map, refl, sym, ap, subst}
use Rattle.std.proofs.Common.{◌∙◌, codes}
use Rattle.std.specs.Char.{encode_utf8}
use Rattle.std.specs.Str.{IsUtf8, is_utf8, chars}
use Rattle.std.proofs.lemmas.Fmt.{decimal_digit}
use Rattle.std.proofs.lemmas.Option.{same_Some}
use Rattle.std.proofs.lemmas.Str.{IsUtf8-nil, IsUtf8-from_is_utf8, is_utf8-from_IsUtf8}
use Rattle.isle_syntax.specs.declared.lexer.Token.{Token}
use Rattle.isle_syntax.specs.declared.lexer.Token.TheVariants.{Symbol}
use Rattle.isle_syntax.specs.Tokens.Gaps.{run_of, after_run}
use Rattle.isle_syntax.specs.Tokens.Gaps as gap
use Rattle.isle_syntax.specs.Tokens.Finding.{Reading}
use Rattle.isle_syntax.specs.Tokens.PlacedTokens.{Placed, placed_at}
use Rattle.isle_syntax.specs.Tokens.TokensOf.{TokensOf, ended, token, word, pos_of_rest}
use Rattle.isle_syntax.proofs.Tokens.Findings.{tokens_same}
use Rattle.isle_rules.specs.Values.{ValueTree, ValueTrees}
use Rattle.isle_meaning.specs.Worlds.{Answers, Event}
use Rattle.isle_program.specs.declared.program.Program.{Program}
use Rattle.isle_values.specs.declared.queries.QueryFault.TheVariants.{Q1, Q2, Q3, Q4, Memory}
use Rattle.isle_calls.specs.Calls.Answers.{name_of_term}
use Rattle.isle_values.specs.Values.Lists.{IsListOf}
use Rattle.isle_values.specs.Values.TextTokens.{AreTokensOf, alone, bare}
use Rattle.islec.specs.declared.answer.Manner.{Manner}
use Rattle.islec.specs.Reasons.{IsReason}
use Rattle.islec.proofs.ReasonCases.{no_is_a_line}
use Rattle.islec.specs.Replies.{Setting, Leads, IsReply, LosesReply, TellsRefused, no_text, blank, no_call, call, refused_line}
use Rattle.islec.specs.Serving.{AreReplies, BreaksOff, LosesNext}
use Rattle.islec.specs.declared.serve.ServeFault.TheVariants.{Read, Write}
use Rattle.islec.specs.declared.serve.ServeFault.TheVariants.{Memory as OutOf}
use Rattle.std.specs.List.{slice_index_or}

-- a world that counts effects
abbrev counts : ℕ → List ℕ → ValueTrees → Option ValueTree → ℕ → Type 0
counts world name args answer next = next ≡ world + 1

-- a world that keeps their terms' names, in order
abbrev lists : List (List ℕ) → List ℕ → ValueTrees → Option ValueTree → List (List ℕ) → Type 0
lists world name args answer next = next ≡ world ++ name ∷ []

-- the plain road, on which one call may be open
abbrev by_rules : Manner
by_rules = record { depth = 1; plain = true; steps = false; trace = false; coverage = false; unanswered = false; explain = false }

abbrev counting : Program → Answers → Setting ℕ
counting program answers = record { program = program; files = []; answers = answers; step = counts; manner = by_rules }

abbrev listing : Program → Answers → Setting (List (List ℕ))
listing program answers = record { program = program; files = []; answers = answers; step = lists; manner = by_rules }

-- ---- effects

no_effect_stays : (p : Program) (a : Answers) → Leads (counting p a) 3 [] 3
no_effect_stays p a = refl

no_effect_goes_nowhere : (p : Program) (a : Answers) → Leads (counting p a) 3 [] 4 → ⊥
no_effect_goes_nowhere p a leads = omega (arith, leads)

two_effects_count_two : (p : Program) (a : Answers) (one two : Event) → Leads (counting p a) 3 (one ∷ two ∷ []) 5
two_effects_count_two p a one two = (4, refl, (5, refl, refl))

two_effects_count_no_more : (p : Program) (a : Answers) (one two : Event) (after : ℕ) → Leads (counting p a) 3 (one ∷ two ∷ []) after → after ≡ 5
two_effects_count_no_more p a one two after leads = omega (arith, leads.1, (leads.2).1, (leads.2).2)

effects_go_in_order : (p : Program) (a : Answers) (one two : Event) (after : List (List ℕ)) → Leads (listing p a) [] (one ∷ two ∷ []) after
    → after ≡ name_of_term p one.term ∷ name_of_term p two.term ∷ []
effects_go_in_order p a one two after leads =
    (leads.2).2 ∙ ((leads.2).1 ∙ ap (λ (w : List (List ℕ)). w ++ name_of_term p two.term ∷ []) leads.1)

-- some effects lead to a later count, and none to an earlier one
later_is_reached : (p : Program) (a : Answers) (one two : Event) → (made : List Event) × Leads (counting p a) 3 made 5
later_is_reached p a one two = (one ∷ two ∷ [], two_effects_count_two p a one two)

earlier_is_not_reached : (p : Program) (a : Answers) (made : List Event) → Leads (counting p a) 5 made 3 → ⊥
earlier_is_not_reached p a made leads = omega (arith, never_less made 5 3 leads)
  where
    never_less : (made : List Event) (before after : ℕ) → Leads (counting p a) before made after → before ≤ after
    never_less [] before after leads = omega (arith, leads)
    never_less (e ∷ es) before after leads = omega (arith, leads.1, never_less es (leads.0) after (leads.2))

-- ---- replies

no_line_leaves_all : (p : Program) (a : Answers) (out : List ℕ) (refused : Bool) (after : ℕ) → AreReplies (counting p a) 3 [] out refused after
    → (out ≡ []) × (refused ≡ false) × (after ≡ 3)
no_line_leaves_all p a out refused after replies = replies

-- a line whose reply is always this, and makes one effect
record Counts (p : Program) (a : Answers) (line reply : List ℕ) : Type 0 where
  given : (n : ℕ) → IsReply (counting p a) n line reply false (n + 1)
  only : (n after : ℕ) (out : List ℕ) (refused : Bool) → IsReply (counting p a) n line out refused after → (out ≡ reply)
      × (refused ≡ false) × (after ≡ n + 1)

-- replied to twice it makes two effects, in the worlds that they leave
twice_is_two : (p : Program) (a : Answers) (line reply : List ℕ) → Counts p a line reply
    → AreReplies (counting p a) 0 (line ∷ line ∷ []) (reply ++ reply) false 2
twice_is_two p a line reply c =
    (reply, reply, false, false, 1, c.given 0, (reply, [], false, false, 2, c.given 1, (refl, refl, refl), sym (append-nil reply), refl), refl, refl)

-- and no more, and no less
twice_is_no_other : (p : Program) (a : Answers) (line reply out : List ℕ) (refused : Bool) (after : ℕ) → Counts p a line reply
    → AreReplies (counting p a) 0 (line ∷ line ∷ []) out refused after → (out ≡ reply ++ reply) × (refused ≡ false) × (after ≡ 2)
twice_is_no_other p a line reply out refused after c (
  one,
  rest,
  first,
  others,
  middle,
  is,
  (last, none, second, no_other, left, also, (no_out, well, stays), rests, counted),
  joined,
  told,
) =
    let this = c.only 0 middle one first is in
    let that = c.only middle left last second also in
    (cc (append-nil last), told ∙ ap₂ (λ x y. x || y) this.1 (counted ∙ ap₂ (λ x y. x || y) that.1 well), omega (arith, stays, this.2, that.2))

-- ---- replies to literal lines, in any program

-- an empty line has no tokens, and the line `x` one
no_tokens : AreTokensOf [] []
no_tokens = ([], 0, ended (gap.none tt), refl)

abbrev x : List ℕ
x = codes "x"

abbrev x_placed : List Placed
x_placed = placed_at (pos_of_rest (alone x) x) (Symbol x) ∷ []

x_tokens : TokensOf (alone x) x x_placed 1 true
unfolding run_of after_run
x_tokens = token (gap.none tt) (word refl) (ended (gap.none tt))

only_x : (tokens : List Token) → AreTokensOf x tokens → tokens ≡ Symbol x ∷ []
only_x tokens (placed, end, are, is) = is ∙ ap (λ (r : Reading). map bare r.left) (sym (tokens_same (alone x) are) ∙ tokens_same (alone x) x_tokens)

only_none : (tokens : List Token) → AreTokensOf [] tokens → tokens ≡ []
only_none tokens (placed, end, are, is) =
    is ∙ ap (λ (r : Reading). map bare r.left) (sym (tokens_same (alone []) are) ∙ tokens_same (alone []) (ended (gap.none tt)))

x_is_no_list : (tokens : List Token) (name : List ℕ) (rest : List Token) → AreTokensOf x tokens → IsListOf tokens name rest → ⊥
x_is_no_list tokens name rest are list = let wrong = sym list.begins ∙ only_x tokens are in absurd cc

x_is_text : IsUtf8 x
unfolding is_utf8 chars encode_utf8
x_is_text = IsUtf8-from_is_utf8 x refl

abbrev byte : List ℕ
byte = 255 ∷ []

byte_is_no_text : ¬ IsUtf8 byte
unfolding is_utf8 chars
byte_is_no_text text = absurd (true≢false (sym (is_utf8-from_IsUtf8 byte text) ∙ refl))

fourth_cause : refused_line 4 ≡ codes "refused 4\n"
fourth_cause = ap (λ (digits : List ℕ). codes "refused " ++ (digits ++ codes "\n")) (decimal_digit 4 (omega arith))

-- where no reasons are asked for the line stands alone, and it always may
unreasoned : (told : List ℕ) → IsReason false told → told ≡ []
unreasoned told (inl none) = none
unreasoned told (inr (asked, (words, one, is))) = absurd (true≢false (sym asked))

stands_alone : (lines : List ℕ) → TellsRefused false 4 lines → lines ≡ codes "refused 4\n"
stands_alone lines (told, reason, is) = is ∙ ap (λ l. refused_line 4 ++ l) (unreasoned told reason) ∙ append-nil (refused_line 4) ∙ fourth_cause

may_stand_alone : (asked : Bool) → TellsRefused asked 4 (codes "refused 4\n")
may_stand_alone asked = ([], inl refl, sym (append-nil (refused_line 4) ∙ fourth_cause))

-- where they are asked for it may have words below it, on one line
with_words : TellsRefused true 4 (refused_line 4 ++ codes "  no\n")
with_words = (codes "  no\n", inr (refl, (codes "no", no_is_a_line, refl)), refl)

empty_is_passed_over : (p : Program) (a : Answers) (n : ℕ) → IsReply (counting p a) n [] [] false n
empty_is_passed_over p a n = blank IsUtf8-nil no_tokens refl refl refl

x_is_refused : (p : Program) (a : Answers) (n : ℕ) → IsReply (counting p a) n x (codes "refused 4\n") true n
x_is_refused p a n =
    no_call x_is_text (λ none. let wrong = only_x [] none in absurd cc) Q4 4
    (inr (Symbol x ∷ [], (x_placed, 1, x_tokens, refl), λ name rest list. x_is_no_list (Symbol x ∷ []) name rest (x_placed, 1, x_tokens, refl) list))
    refl (may_stand_alone false) refl refl

byte_is_refused : (p : Program) (a : Answers) (n : ℕ) → IsReply (counting p a) n byte (codes "refused 4\n") true n
byte_is_refused p a n = no_text byte_is_no_text (may_stand_alone false) refl refl

-- these replies, and no others
empty_only : (p : Program) (a : Answers) (n after : ℕ) (out : List ℕ) (refused : Bool) → IsReply (counting p a) n [] out refused after
    → (out ≡ []) × (refused ≡ false) × (after ≡ n)
empty_only p a n after out refused (no_text text o r s) = absurd (text IsUtf8-nil)
empty_only p a n after out refused (blank text none o r s) = (o, r, s)
empty_only p a n after out refused (no_call text some fault cause why number o r s) = absurd (some no_tokens)
empty_only p a n after out refused (call text term args is answers) = let wrong = only_none _ is.spelt.1 in absurd cc

x_only : (p : Program) (a : Answers) (n after : ℕ) (out : List ℕ) (refused : Bool) → IsReply (counting p a) n x out refused after
    → (out ≡ codes "refused 4\n") × (refused ≡ true) × (after ≡ n)
x_only p a n after out refused (no_text text o r s) = absurd (text x_is_text)
x_only p a n after out refused (blank text none o r s) = let wrong = only_x [] none in absurd cc
x_only p a n after out refused (no_call text some Q1 cause (name, rest, (tokens, are, list), why) number o r s) =
    absurd (x_is_no_list tokens name rest are list)
x_only p a n after out refused (no_call text some Q2 cause (name, rest, term, (tokens, are, list), named, why) number o r s) =
    absurd (x_is_no_list tokens name rest are list)
x_only p a n after out refused (no_call text some Q3 cause (name, rest, term, (tokens, are, list), named, runs, why) number o r s) =
    absurd (x_is_no_list tokens name rest are list)
x_only p a n after out refused (no_call text some Q4 cause why number o r s) =
    (stands_alone out (subst (λ c. TellsRefused false c out) (sym (same_Some 4 cause number)) o), r, s)
x_only p a n after out refused (no_call text some (Memory e) cause why number o r s) = absurd cc
x_only p a n after out refused (call text term args is answers) = let wrong = only_x _ is.spelt.1 in absurd cc

byte_only : (p : Program) (a : Answers) (n after : ℕ) (out : List ℕ) (refused : Bool) → IsReply (counting p a) n byte out refused after
    → (out ≡ codes "refused 4\n") × (refused ≡ true) × (after ≡ n)
byte_only p a n after out refused (no_text text o r s) = (stands_alone out o, r, s)
byte_only p a n after out refused (blank text none o r s) = absurd (byte_is_no_text text)
byte_only p a n after out refused (no_call text some fault cause why number o r s) = absurd (byte_is_no_text text)
byte_only p a n after out refused (call text term args is answers) = absurd (byte_is_no_text text)

-- an empty line, `x` and bytes that are no text: two are refused, and no effect is made
literal_lines : (p : Program) (a : Answers) → AreReplies (counting p a) 7 ([] ∷ x ∷ byte ∷ []) (codes "refused 4\nrefused 4\n") true 7
literal_lines p a = (
  [],
  codes "refused 4\nrefused 4\n",
  false,
  true,
  7,
  empty_is_passed_over p a 7,
  (
    codes "refused 4\n",
    codes "refused 4\n",
    true,
    true,
    7,
    x_is_refused p a 7,
    (codes "refused 4\n", [], true, false, 7, byte_is_refused p a 7, (refl, refl, refl), refl, refl),
    refl,
    refl,
  ),
  refl,
  refl,
)

literal_lines_only : (p : Program) (a : Answers) (out : List ℕ) (refused : Bool) (after : ℕ)
    → AreReplies (counting p a) 7 ([] ∷ x ∷ byte ∷ []) out refused after → (out ≡ codes "refused 4\nrefused 4\n") × (refused ≡ true) × (after ≡ 7)
literal_lines_only p a out refused after (
  one,
  rest,
  first,
  others,
  middle,
  is,
  (
    two,
    behind,
    second,
    more,
    left,
    also,
    (three, none, third, no_other, end, last, (no_out, well, stays), outs, tells),
    joined,
    told,
  ),
  all,
  counted,
) =
    let this = empty_only p a 7 middle one first is in
    let that = x_only p a middle left two second also in
    let those = byte_only p a left end three third last in (
      cc (append-nil three),
      counted ∙ ap₂ (λ x y. x || y) this.1 (told ∙ ap₂ (λ x y. x || y) that.1 (tells ∙ ap₂ (λ x y. x || y) those.1 well)),
      omega (arith, stays, this.2, that.2, those.2),
    )

-- ---- where answering breaks off: of two lines one is answered, and the second is the next one

-- the second of some lines
abbrev second : List (List ℕ) → List ℕ
second lines = slice_index_or lines 1 []

nothing_may_be_lost : (p : Program) (a : Answers) → LosesNext (counting p a) (Some (codes "a\nb\n")) (codes "a" ∷ []) 3 3
nothing_may_be_lost p a = inl refl

only_the_next_reply_may_be_lost : (p : Program) (a : Answers) (after : ℕ) → LosesNext (counting p a) (Some (codes "a\nb\n")) (codes "a" ∷ []) 3 after
    → (after ≡ 3) ⊎ LosesReply (counting p a) 3 (codes "b") after
only_the_next_reply_may_be_lost p a after (inl same) = inl same
only_the_next_reply_may_be_lost p a after (inr (line, (later, is), lost)) =
    let next : line ≡ codes "b" = sym (ap second is) in inr (subst (λ (l : List ℕ). LosesReply (counting p a) 3 l after) next lost)

failed_read_does_nothing : (p : Program) (a : Answers) (behind left : Option (List ℕ)) (part : List ℕ) (after : ℕ)
    → BreaksOff (counting p a) Read behind left part 3 after → after ≡ 3
failed_read_does_nothing p a behind left part after breaks = breaks.1

no_line_that_ended_is_lost_to_a_failed_read : (p : Program) (a : Answers) (behind left : Option (List ℕ)) (after : ℕ)
    → BreaksOff (counting p a) Read behind left (codes "b\n") 3 after → ⊥
no_line_that_ended_is_lost_to_a_failed_read p a behind left after breaks = breaks.0.1 (codes "b") refl

failed_write_breaks_off_elsewhere : (p : Program) (a : Answers) (behind left : Option (List ℕ)) (part : List ℕ) (after : ℕ)
    → BreaksOff (counting p a) Write behind left part 3 after → ⊥
failed_write_breaks_off_elsewhere p a behind left part after breaks = breaks

memory_may_lose_the_next_reply : (p : Program) (a : Answers) (after : ℕ)
    → BreaksOff (counting p a) OutOf (Some (codes "b\nc")) (Some (codes "c")) (codes "b\n") 3 after
    → (after ≡ 3) ⊎ LosesReply (counting p a) 3 (codes "b") after
memory_may_lose_the_next_reply p a after (cut, inl same) = inl same
memory_may_lose_the_next_reply p a after (cut, inr (line, bare, gives, lost)) =
    let next : line ≡ codes "b" = sym (ap (λ (lines : List (List ℕ)). slice_index_or lines 0 []) gives) in
    inr (subst (λ (l : List ℕ). LosesReply (counting p a) 3 l after) next lost)
