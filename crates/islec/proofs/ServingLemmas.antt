-- Replies to lines one after another.
use Rattle.std.specs.Io.{StopsAt}
use Rattle.std.specs.Result.{IsErrAnd}
use Rattle.std.proofs.Common.{arith, ◌≡◌, ◌≢◌, ◌++◌, ◌||◌, ℕ, Bool, true, false, List, [], ◌∷◌, Option, Some, None, Result, Ok, Err, IfErr, length, take, refl, sym, ap, subst, ◌∙◌, append_assoc, append-nil, ◌+◌, IfOk, cond, eqb, codes, inl, inr}
use Rattle.std.specs.Io.Buffered.{reader_remaining, reader_inner, reader_buffer, reader_capacity}
use Rattle.std.specs.declared.io.buffered.BufReader.{BufReader}
use Rattle.std.specs.Io.KnownBytes.{Appends, prepend_known, Consumes, Keeps, IsAtEnd}
use Rattle.std.proofs.Math.Seq.{take-append-add}
use Rattle.std.proofs.KnownBytes.{Appends-nil, Appends-trans, Consumes-kept, prepend_known-nil}
use Rattle.islec.specs.declared.answer.Manner.{Manner}
use Rattle.islec.specs.declared.serve.ServeFault.{ServeFault}
use Rattle.islec.specs.declared.serve.Served.{Served}
use Rattle.islec.specs.declared.serve.ServeFault.TheVariants.{Read, Write, Memory}
use Rattle.isle_rules.specs.Values.{ValueTree, ValueTrees}
use Rattle.isle_program.specs.declared.program.Program.{Program}
use Rattle.isle_ast.specs.Positions.Files.{SourceFile}
use Rattle.islec.specs.Replies.{Setting, setting_in, IsReply, LosesReply}
use Rattle.islec.specs.Serving.{AreReplies, AreLinesOf, AreFirstLinesOf, WritesReplies, AnswersAll, AnswersFirst, AnswersCut, KeepsBack, KeepsFirst, GivesLines, some_refused, BreaksOff, IsCutShort, LosesNewline, LosesNext, WritesFirst}
use Rattle.islec.specs.Writing.{AppendsBeginning, ContinuesBy}
use Rattle.islec.proofs.WritingLemmas.{whole_begins}
use Rattle.islec.specs.Serving.{lines_of}
use Rattle.islec.proofs.LineLemmas.{gives_all, gives_none, gives_more, gives_first, consumes_none, consumes_more}

or_false : (b : Bool) → (b || false) ≡ b
or_false true = refl
or_false false = refl

or_assoc : (a b c : Bool) → ((a || b) || c) ≡ (a || (b || c))
or_assoc true b c = refl
or_assoc false b c = refl

-- one line more
pub replies_more : {V : Type 0} (setting : Setting V) (before middle after : V) (lines : List (List ℕ)) (line out one : List ℕ) (refused first : Bool)
    → AreReplies setting before lines out refused middle → IsReply setting middle line one first after
    → AreReplies setting before (lines ++ line ∷ []) (out ++ one) (refused || first) after
replies_more setting before middle after [] line out one refused first (none, well, same) reply = (
  one,
  [],
  first,
  false,
  after,
  subst (λ w. IsReply setting w line one first after) same reply,
  (refl, refl, refl),
  ap (λ l. l ++ one) none ∙ sym (append-nil one),
  ap (λ b. b || first) well ∙ sym (or_false first),
)
replies_more setting before middle after (next ∷ lines) line out one refused first (own, rest, now, others, between, is, more, all, any) reply = (
  own,
  rest ++ one,
  now,
  others || first,
  between,
  is,
  replies_more setting between middle after lines line rest one others first more reply,
  ap (λ l. l ++ one) all ∙ append_assoc own rest one,
  ap (λ b. b || first) any ∙ or_assoc now others first,
)

-- bytes, and then a beginning of others
pub cut_behind : (a b c : Option (List ℕ)) (out kept : List ℕ) (count : ℕ) → Appends a b out → Appends b c (take count kept)
    → AppendsBeginning a c (out ++ kept)
cut_behind a b c out kept count wrote more =
    (length out + count, subst (Appends a c) (sym (take-append-add out kept count)) (Appends-trans a b c out (take count kept) wrote more))

-- replies to lines that a reader gave, of which an end is kept back
pub record IsServing {V : Type 0} (setting : Setting V) (before : V) (input left old new : Option (List ℕ))
    (kept : List ℕ) (refused : Bool) (after : V) : Type 0 where
  pub lines : List (List ℕ)
  pub whole : List ℕ
  pub read : Consumes input left whole
  pub gives : GivesLines input left lines
  pub keeps : KeepsBack setting before lines refused old new kept after

pub begins : {V : Type 0} (setting : Setting V) (world : V) (input old : Option (List ℕ)) (kept : List ℕ) → kept ≡ []
    → IsServing setting world input input old old kept false world
begins setting world input old kept none = record {
  lines = [];
  whole = [];
  read = consumes_none input;
  gives = gives_none input;
  keeps = record { out = []; replies = (none, refl, refl); written = Appends-nil old };
}

-- the reply to one line more
pub answers_more : {V : Type 0} (setting : Setting V) (before middle after : V) (input a b old new : Option (List ℕ)) (kept line one grown : List ℕ)
    (refused first : Bool) → IsServing setting before input a old new kept refused middle → IsReply setting middle line one first after
    → grown ≡ kept ++ one → GivesLines a b (line ∷ []) → (took : List ℕ) × Consumes a b took
    → IsServing setting before input b old new grown (refused || first) after
answers_more setting before middle after input a b old new kept line one grown refused first serving reply is gives (took, takes) = record {
  lines = serving.lines ++ line ∷ [];
  whole = serving.whole ++ took;
  read = consumes_more input a b serving.whole took serving.read takes;
  gives = gives_more input a b serving.lines (line ∷ []) serving.gives gives;
  keeps = record {
    out = serving.keeps.out;
    replies = subst (λ l. AreReplies setting before (serving.lines ++ line ∷ []) l (refused || first) after)
        (append_assoc serving.keeps.out kept one ∙ ap (λ l. serving.keeps.out ++ l) (sym is))
        (replies_more setting before middle after serving.lines line (serving.keeps.out ++ kept) one refused first serving.keeps.replies reply);
    written = serving.keeps.written;
  };
}

-- some of what was kept back is written
pub writes_some : {V : Type 0} (setting : Setting V) (before after : V) (lines : List (List ℕ)) (old mid new : Option (List ℕ))
    (kept some rest : List ℕ)
    (refused : Bool) → KeepsBack setting before lines refused old mid kept after → Appends mid new some → kept ≡ some ++ rest
    → KeepsBack setting before lines refused old new rest after
writes_some setting before after lines old mid new kept some rest refused keeps wrote is = record {
  out = keeps.out ++ some;
  replies = subst (λ l. AreReplies setting before lines l refused after)
      (ap (λ l. keeps.out ++ l) is ∙ sym (append_assoc keeps.out some rest)) keeps.replies;
  written = Appends-trans old mid new keeps.out some keeps.written wrote;
}

-- all of it
pub writes_all : {V : Type 0} (setting : Setting V) (before after : V) (lines : List (List ℕ)) (old mid new : Option (List ℕ))
    (kept : List ℕ) (refused : Bool)
    → KeepsBack setting before lines refused old mid kept after → Appends mid new kept → WritesReplies setting before lines refused old new after
writes_all setting before after lines old mid new kept refused keeps wrote =
    (keeps.out ++ kept, keeps.replies, Appends-trans old mid new keeps.out kept keeps.written wrote)

-- what holds at any fault
pub at_fault : {T E : Type 0} (r : Result T E) (Q : E → Type 0) (P : Type 0) → P → IfErr r (λ e. Q e → P)
at_fault (Ok x) Q P p = tt
at_fault (Err e) Q P p = λ _. p

-- some of what is kept back is written
pub writes_more : {V : Type 0} (setting : Setting V) (before after : V) (input left old mid new : Option (List ℕ))
    (kept some rest : List ℕ) (refused : Bool)
    → IsServing setting before input left old mid kept refused after → Appends mid new some → kept ≡ some ++ rest
    → IsServing setting before input left old new rest refused after
writes_more setting before after input left old mid new kept some rest refused serving wrote is = record {
  lines = serving.lines;
  whole = serving.whole;
  read = serving.read;
  gives = serving.gives;
  keeps = writes_some setting before after serving.lines old mid new kept some rest refused serving.keeps wrote is;
}

-- a reader that keeps its bytes gives the same lines
keeps_gives : (a b c : Option (List ℕ)) (lines : List (List ℕ)) → GivesLines a b lines → Keeps b c → GivesLines a c lines
keeps_gives None b c lines gives keeps = tt
keeps_gives (Some x) None c lines gives keeps = absurd gives
keeps_gives (Some x) (Some y) None lines gives keeps = absurd keeps
keeps_gives (Some x) (Some y) (Some z) lines gives keeps = gives ∙ ap (λ l. lines ++ lines_of l) (sym keeps)

-- before a reader is waited for, what is kept back is written
pub awaits : {V : Type 0} (setting : Setting V) (before after : V) (input left next old mid new : Option (List ℕ))
    (kept rest : List ℕ) (refused : Bool)
    → IsServing setting before input left old mid kept refused after → Keeps left next → WritesFirst kept rest mid new
    → IsServing setting before input next old new rest refused after
awaits setting before after input left next old mid new kept rest refused serving keeps (some, wrote, is) = record {
  lines = serving.lines;
  whole = serving.whole;
  read = Consumes-kept input left next serving.whole serving.read keeps;
  gives = keeps_gives input left next serving.lines serving.gives keeps;
  keeps = writes_some setting before after serving.lines old mid new kept some rest refused serving.keeps wrote is;
}

-- where a reader has come to its end, all its lines are answered
pub ends_there : {V : Type 0} (setting : Setting V) (before after : V) (input left next old mid new : Option (List ℕ))
    (kept rest : List ℕ) (refused : Bool)
    → IsServing setting before input left old mid kept refused after → IsAtEnd left → WritesFirst kept rest mid new
    → (lines : List (List ℕ)) × AreLinesOf input lines × KeepsBack setting before lines refused old new rest after
ends_there setting before after input left next old mid new kept rest refused serving end (some, wrote, is) = (
  serving.lines,
  gives_all input left serving.lines serving.gives end,
  writes_some setting before after serving.lines old mid new kept some rest refused serving.keeps wrote is,
)

-- a beginning of it
pub cuts : {V : Type 0} (setting : Setting V) (before after : V) (input left old mid new : Option (List ℕ)) (kept : List ℕ) (refused : Bool)
    → IsServing setting before input left old mid kept refused after → AppendsBeginning mid new kept → AnswersCut setting before input old new after
cuts setting before after input left old mid new kept refused serving (count, wrote) = (
  serving.lines,
  refused,
  serving.keeps.out ++ kept,
  after,
  gives_first input left serving.lines serving.gives,
  serving.keeps.replies,
  cut_behind old mid new serving.keeps.out kept count serving.keeps.written wrote,
  inl refl,
)

-- what is kept back where the reading of lines breaks off
pub stops : {V : Type 0} (setting : Setting V) (fault : ServeFault) (before reached after : V) (input middle left old new : Option (List ℕ))
    (kept part : List ℕ) (refused : Bool) → IsServing setting before input middle old new kept refused reached → Consumes middle left part
    → BreaksOff setting fault middle left part reached after → KeepsFirst setting fault before input left old new kept after
stops setting fault before reached after input middle left old new kept part refused serving rest breaks = (
  serving.lines,
  part,
  refused,
  reached,
  record { whole = serving.whole; behind = middle; read = serving.read; gives = serving.gives; rest = rest },
  serving.keeps,
  breaks,
)

-- where answering breaks off at most the reply to the next line is lost
break_loses : {V : Type 0} (setting : Setting V) (fault : ServeFault) (input behind left : Option (List ℕ)) (lines : List (List ℕ)) (part : List ℕ)
    (reached after : V) → GivesLines input behind lines → BreaksOff setting fault behind left part reached after
    → LosesNext setting input lines reached after
break_loses setting Read input behind left lines part reached after gives (cut, same) = inl same
break_loses setting Write input behind left lines part reached after gives breaks = absurd breaks
break_loses setting Memory input behind left lines part reached after gives (cut, inl same) = inl same
break_loses setting Memory input behind left lines part reached after gives (cut, inr (line, loses, next, lost)) =
    inr (line, gives_first input left (lines ++ line ∷ []) (gives_more input behind left lines (line ∷ []) gives next), lost)

-- replies to first lines of an input, of which an end is kept back and the others are written, and then at most a reply is lost
abbrev pub KeepsSome : {V : Type 0} → Setting V → V → (input old new : Option (List ℕ)) → List ℕ → V → Type 0
KeepsSome {V} setting before input old new kept after = (lines : List (List ℕ)) × (refused : Bool) × (reached : V) × AreFirstLinesOf input lines
    × KeepsBack setting before lines refused old new kept reached × LosesNext setting input lines reached after

keeps_some : {V : Type 0} (setting : Setting V) (fault : ServeFault) (before after : V) (input left old new : Option (List ℕ)) (kept : List ℕ)
    → KeepsFirst setting fault before input left old new kept after → KeepsSome setting before input old new kept after
keeps_some setting fault before after input left old new kept (lines, part, refused, reached, reads, keeps, breaks) = (
  lines,
  refused,
  reached,
  gives_first input reads.behind lines reads.gives,
  keeps,
  break_loses setting fault input reads.behind left lines part reached after reads.gives breaks,
)

all_first : (input : Option (List ℕ)) (lines : List (List ℕ)) → AreLinesOf input lines → AreFirstLinesOf input lines
all_first None lines all = tt
all_first (Some bytes) lines all = ([], all ∙ sym (append-nil lines))

-- what serving lines says where no write failed
pub holds : {V : Type 0} (setting : Setting V) (before after : V) (input left old new : Option (List ℕ)) (kept : List ℕ)
    (r : Result Served ServeFault)
    → (r ≡ Err Write → ⊥)
    → IfOk r (λ served. (lines : List (List ℕ)) × AreLinesOf input lines × KeepsBack setting before lines (some_refused served) old new kept after)
    → IfErr r (λ fault. fault ≢ Write → KeepsFirst setting fault before input left old new kept after)
    → KeepsSome setting before input old new kept after
holds setting before after input left old new kept (Ok served) never (lines, all, keeps) stopped =
    (lines, some_refused served, after, all_first input lines all, keeps, inl refl)
holds setting before after input left old new kept (Err e) never answered stopped =
    keeps_some setting e before after input left old new kept (stopped (λ is. never (ap Err is)))

-- all of it is written
pub writes_first : {V : Type 0} (setting : Setting V) (before after : V) (input left old mid new : Option (List ℕ)) (kept : List ℕ)
    (r : Result Served ServeFault) → Appends mid new kept
    → IfErr r (λ fault. fault ≢ Write → KeepsFirst setting fault before input left old mid kept after)
    → IfErr r (λ fault. fault ≢ Write → AnswersFirst setting fault before input left old new after)
writes_first setting before after input left old mid new kept (Ok served) wrote stopped = tt
writes_first setting before after input left old mid new kept (Err e) wrote stopped = λ other.
    let (lines, part, refused, reached, reads, keeps, breaks) = stopped other in
    (lines, part, refused, reached, reads, writes_all setting before reached lines old mid new kept refused keeps wrote, breaks)

-- a beginning of it is written
pub cuts_first : {V : Type 0} (setting : Setting V) (before after : V) (input old mid new : Option (List ℕ)) (kept : List ℕ)
    → KeepsSome setting before input old mid kept after → AppendsBeginning mid new kept → AnswersCut setting before input old new after
cuts_first setting before after input old mid new kept (lines, refused, reached, first, keeps, more) (count, wrote) = (
  lines,
  refused,
  keeps.out ++ kept,
  reached,
  first,
  keeps.replies,
  cut_behind old mid new keeps.out kept count keeps.written wrote,
  more,
)

-- what is kept back at the end of an input is written
pub writes_last : {V : Type 0} (setting : Setting V) (before after : V) (input old mid new : Option (List ℕ))
    (kept : List ℕ) (r : Result Served ServeFault)
    → Appends mid new kept
    → IfOk r (λ served. (lines : List (List ℕ)) × AreLinesOf input lines × KeepsBack setting before lines (some_refused served) old mid kept after)
    → IfOk r (λ served. AnswersAll setting before input (some_refused served) old new after)
writes_last setting before after input old mid new kept (Err e) wrote answered = tt
writes_last setting before after input old mid new kept (Ok served) wrote (lines, all, keeps) =
    (lines, all, writes_all setting before after lines old mid new kept (some_refused served) keeps wrote)

pub cut_continues : {V : Type 0} (setting : Setting V) (before after : V) (input old new : Option (List ℕ))
    → AnswersCut setting before input old new after
    → ContinuesBy old new
cut_continues setting before after input old new (lines, refused, out, reached, first, replies, (count, wrote), more) = (take count out, wrote)

first_cut : {V : Type 0} (setting : Setting V) (fault : ServeFault) (before after : V) (input left old new : Option (List ℕ))
    → AnswersFirst setting fault before input left old new after → AnswersCut setting before input old new after
first_cut setting fault before after input left old new (lines, part, refused, reached, reads, (out, replies, wrote), breaks) = (
  lines,
  refused,
  out,
  reached,
  gives_first input reads.behind lines reads.gives,
  replies,
  whole_begins old new out wrote,
  break_loses setting fault input reads.behind left lines part reached after reads.gives breaks,
)

-- where a fault comes, a beginning of the replies is written, or all of them
pub cuts_at : {V : Type 0} (setting : Setting V) (before after : V) (input left old new : Option (List ℕ)) (fault : ServeFault)
    → (fault ≢ Write → AnswersFirst setting fault before input left old new after) → (fault ≡ Write → AnswersCut setting before input old new after)
    → AnswersCut setting before input old new after
cuts_at setting before after input left old new Write first cut = cut refl
cuts_at setting before after input left old new Read first cut = first_cut setting Read before after input left old new (first (λ is. absurd cc))
cuts_at setting before after input left old new Memory first cut = first_cut setting Memory before after input left old new (first (λ is. absurd cc))

-- a reply in a world is one for another that answers pure terms alike, of the same files
pub same_setting : {V : Type 0} (step : V → List ℕ → ValueTrees → Option ValueTree → V → Type 0)
    (program : Program) (files all : List SourceFile) (one other : List ℕ → ValueTrees → Option ValueTree)
    (some others : List ℕ → ValueTree → Option ValueTrees) (manner : Manner) (P : Setting V → Type 0) → files ≡ all → one ≡ other → some ≡ others
    → P (setting_in step program files one some manner) → P (setting_in step program all other others manner)
same_setting step program files all one other some others manner P same e f h =
    subst (λ (l : List SourceFile). P (setting_in step program l other others manner)) same
    (subst (λ (c : List ℕ → ValueTrees → Option ValueTree). P (setting_in step program files c others manner)) e
    (subst (λ (x : List ℕ → ValueTree → Option ValueTrees). P (setting_in step program files one x manner)) f h))

-- where a line isn't read to its end, nothing is done for it
pub breaks_unread : {V : Type 0} (setting : Setting V) (world : V) (fault : ServeFault) (behind left : Option (List ℕ)) (part : List ℕ)
    → IsCutShort fault part → BreaksOff setting fault behind left part world world
breaks_unread setting world Read behind left part cut = (cut, refl)
breaks_unread setting world Write behind left part cut = absurd cut
breaks_unread setting world Memory behind left part cut = (cut, inl refl)

-- what breaks off there breaks off in a world that answers pure terms alike
pub breaks_in : {V : Type 0} (step : V → List ℕ → ValueTrees → Option ValueTree → V → Type 0)
    (program : Program) (files all : List SourceFile) (one other : List ℕ → ValueTrees → Option ValueTree)
    (some others : List ℕ → ValueTree → Option ValueTrees) (manner : Manner) (fault : ServeFault) (behind left : Option (List ℕ)) (part : List ℕ)
    (reached after : V)
    → files ≡ all → one ≡ other → some ≡ others → BreaksOff (setting_in step program files one some manner) fault behind left part reached after
    → BreaksOff (setting_in step program all other others manner) fault behind left part reached after
breaks_in step program files all one other some others manner fault behind left part reached after same e f h =
    same_setting step program files all one other some others manner (λ s. BreaksOff s fault behind left part reached after) same e f h

-- where nothing is read behind lines, reading has failed there
pub breaks_at_once : {V : Type 0} (setting : Setting V) (behind left : Option (List ℕ)) (world : V)
    → BreaksOff setting Read behind left [] world world
breaks_at_once setting behind left world = ((λ k d less. absurd (omega (arith, less)), λ front ended. never front ended), refl)
  where
    never : (front : List ℕ) → [] ≡ front ++ codes "\n" → ⊥
    never [] ended = absurd cc
    never (x ∷ front) ended = absurd cc

-- where nothing is read behind lines, nothing is done
pub breaks_idle : {V : Type 0} (setting : Setting V) (behind left : Option (List ℕ)) (world : V) (fault : ServeFault) → fault ≢ Write
    → BreaksOff setting fault behind left [] world world
breaks_idle setting behind left world Read other = breaks_at_once setting behind left world
breaks_idle setting behind left world Write other = absurd (other refl)
breaks_idle setting behind left world Memory other = ((λ k d less. absurd (omega (arith, less))), inl refl)

-- what follows of an error holds of it
pub err_and : {T E : Type 0} (r : Result T E) (P Q : E → Type 0) → IsErrAnd r P → ((e : E) → P e → Q e) → IfErr r Q
err_and (Ok x) P Q is f = tt
err_and (Err e) P Q is f = f e is

-- where memory runs out behind a line, its reply is lost
pub breaks_reply : {V : Type 0} (setting : Setting V) (before after : V) (fault : ServeFault) (behind left : Option (List ℕ)) (part line : List ℕ)
    → fault ≡ Memory → StopsAt part 10 → LosesNewline part line → GivesLines behind left (line ∷ []) → LosesReply setting before line after
    → BreaksOff setting fault behind left part before after
breaks_reply setting before after fault behind left part line is stops loses next lost =
    subst (λ f. BreaksOff setting f behind left part before after) (sym is) (stops, inr (line, loses, next, lost))
