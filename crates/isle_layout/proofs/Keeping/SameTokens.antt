-- What is laid out has the same tokens.
use Rattle.std.proofs.Common.{◌≡◌, ℕ, zero, suc, List, [], ◌∷◌, ◌++◌, length, Option, Some, None, Bool, true, false, refl, sym, ap, subst, ◌∙◌, append_assoc}
use Rattle.std.proofs.Common.{arith}
use Rattle.std.proofs.lemmas.Bool.Decides.{nat_tests}
use Rattle.isle_syntax.specs.declared.gap.Lead.{Lead}
use Rattle.isle_layout.specs.declared.pieces.Kind.{Kind}
use Rattle.isle_layout.specs.declared.pieces.Break.{Break}
use Rattle.isle_layout.specs.declared.layout.Gap.{Gap}
use Rattle.isle_layout.specs.declared.layout.Spot.{Spot}
use Rattle.isle_syntax.specs.Tokens.Names.{is_space}
use Rattle.isle_syntax.specs.Tokens.Gaps.{lead_of, after_first, after_run, run_of, in_line, Inside, BeginsNoGap, IsGap, none, space, line, comment}
use Rattle.isle_syntax.specs.Tokens.Integers.{after_integer, integer_of}
use Rattle.isle_syntax.specs.declared.lexer.Token.{Token}
use Rattle.isle_syntax.specs.declared.lexer.Token.TheVariants.{LParen, RParen, Symbol, At}
use Rattle.isle_syntax.specs.Tokens.TokensOf.{continues_symbol, IsToken, opening, closing, at_sign, integer, word}
use Rattle.isle_layout.specs.Keeping.TokenValues.{HasTokens, ended, token}
use Rattle.isle_layout.specs.Keeping.Pieces.{Fragment, Cut, cut_of, piece_cut, break_with, pieces_in, trimmed, trimmed_lines, before_rest, kind_of_comment, behind_comment}
use Rattle.isle_layout.specs.Keeping.Rows.{rows_of, stays}
use Rattle.isle_layout.specs.Keeping.LaidOut.{margin, gap_text, gap_at, levels_at, next_spot, written, start, laid_out, ending}
use Rattle.isle_syntax.proofs.Tokens.Runs.{run_whole, after_run-step}
use Rattle.isle_syntax.proofs.Tokens.Comments.{inside_complete}
use Rattle.isle_layout.proofs.Keeping.Cutting.{pieces_none, pieces_space, pieces_solid}
use Rattle.isle_layout.proofs.Keeping.Wholes.{may_follow, front_taken, cut_as, opening_lead, run_ended, run_same, run_begun, symbol_ends, word_first, word_lead}
use Rattle.isle_layout.proofs.Keeping.BlockLines.{block_begun}
use Rattle.isle_layout.proofs.Keeping.Wholes.{inside_any, closed_block, cut_shown, number_again, line_again, line_begun}
use Rattle.isle_layout.proofs.Keeping.Settling.{AreWhole, are_whole, follows_by, prev_known, opening_byte, closing_byte, at_sign_byte, line_byte, comment_byte}
use Rattle.isle_layout.proofs.Keeping.Settling.{comment_second, lone_parenthesis}

-- a piece that is skipped wherever it stands
abbrev IsSkipped : Kind → List ℕ → Type 0
IsSkipped kind text = (rest behind : List ℕ) → may_follow kind rest ≡ true → IsGap rest behind → IsGap (text ++ rest) behind

-- a piece that is this token wherever it stands
abbrev IsLexed : Kind → List ℕ → Token → Type 0
IsLexed kind text t = (rest : List ℕ) → may_follow kind rest ≡ true → IsToken (text ++ rest) t rest

-- the tokens of pieces
data PieceTokens : List Fragment → List Token → Type 0 where
  nothing : PieceTokens [] []
  skipped : {p : Fragment} {ps : List Fragment} {ts : List Token} → IsSkipped p.kind p.text → PieceTokens ps ts → PieceTokens (p ∷ ps) ts
  lexed : {p : Fragment} {ps : List Fragment} {t : Token} {ts : List Token} → IsLexed p.kind p.text t → PieceTokens ps ts
      → PieceTokens (p ∷ ps) (t ∷ ts)

-- ---- of what is laid out

token_gapless : {text more : List ℕ} {t : Token} → IsToken text t more → IsGap text text
token_gapless (opening {text = text} e) = none (subst (λ l. BeginsNoGap l text) (sym e) tt)
token_gapless (closing {text = text} e) = none (subst (λ l. BeginsNoGap l text) (sym e) tt)
token_gapless (at_sign {text = text} e) = none (subst (λ l. BeginsNoGap l text) (sym e) tt)
token_gapless (integer {text = text} e f) = none (subst (λ l. BeginsNoGap l text) (sym e) tt)
token_gapless (word {text = text} e) = none (subst (λ l. BeginsNoGap l text) (sym e) tt)

behind_more : {text rest : List ℕ} {ts : List Token} → ((behind : List ℕ) → IsGap rest behind → IsGap text behind) → HasTokens rest ts
    → HasTokens text ts
behind_more f (ended g) = ended (f [] g)
behind_more f (token {rest = r} g t m) = token (f r g) t m

margin_gap : (levels : ℕ) {text behind : List ℕ} → IsGap text behind → IsGap (margin levels ++ text) behind
margin_gap zero g = g
margin_gap (suc n) g = space refl (space refl (space refl (space refl (margin_gap n g))))

gap_gap : (gap : Gap) (levels : ℕ) {text behind : List ℕ} → IsGap text behind → IsGap (gap_text gap levels ++ text) behind
gap_gap Gap.Nothing levels g = g
gap_gap Gap.Space levels g = space refl g
gap_gap Gap.Line levels g = space refl (margin_gap levels g)
gap_gap Gap.Blank levels g = space refl (space refl (margin_gap levels g))

ending_gap : (prev : Option Kind) → IsGap (ending prev) []
ending_gap None = none tt
ending_gap (Some k) = space refl (none tt)

tokens_written : (width : ℕ) (spot : Spot) {ps : List Fragment} {ts : List Token} → PieceTokens ps ts → AreWhole ps
    → HasTokens (written width spot ps) ts
tokens_written width spot nothing w = ended (ending_gap spot.prev)
tokens_written width spot (skipped {p = p} {ps = ps} {ts = ts} s more) w =
    let next = next_spot width spot p ps in
    let rest = written width next ps in
    let gap = gap_at spot p.kind p.before in
    let follows = follows_by width next p.kind ps (prev_known spot p.kind (stays width (rows_of width ps).here)) w.1 in
    subst (λ text. HasTokens text ts) (sym (append_assoc (gap_text gap (levels_at spot p.kind)) p.text rest))
    (behind_more (λ behind g. gap_gap gap (levels_at spot p.kind) (s rest behind follows g)) (tokens_written width next more w.1))
tokens_written width spot (lexed {p = p} {ps = ps} {t = t} {ts = ts} s more) w =
    let next = next_spot width spot p ps in
    let rest = written width next ps in
    let gap = gap_at spot p.kind p.before in
    let here = s rest (follows_by width next p.kind ps (prev_known spot p.kind (stays width (rows_of width ps).here)) w.1) in
    subst (λ text. HasTokens text (t ∷ ts)) (sym (append_assoc (gap_text gap (levels_at spot p.kind)) p.text rest))
    (token (gap_gap gap (levels_at spot p.kind) (token_gapless here)) here (tokens_written width next more w.1))

-- ---- of a text's pieces

-- whatever newlines were before
abbrev PiecesHave : List ℕ → List Token → Type 0
PiecesHave text ts = (before : Break) → PieceTokens (pieces_in before text) ts

pieces_front : (before : Break) (b : ℕ) (bs : List ℕ) (kind : Kind) (text rest : List ℕ) → is_space b ≡ false
    → cut_of (b ∷ bs) ≡ record { kind = kind; text = text; rest = rest }
    → pieces_in before (b ∷ bs) ≡ record { kind = kind; text = text; before = before } ∷ pieces_in Break.Same rest
pieces_front before b bs kind text rest s e =
    pieces_solid before b bs s ∙ ap (λ (c : Cut). piece_cut before c ∷ pieces_in Break.Same c.rest) e

space_byte : (b : ℕ) (bs : List ℕ) → lead_of (b ∷ bs) ≡ Lead.Space → is_space b ≡ true
space_byte b bs e = grind (arith, nat_tests)

solid_byte : (b : ℕ) (bs : List ℕ) (k : Lead) → lead_of (b ∷ bs) ≡ k → ¬ (k ≡ Lead.Space) → is_space b ≡ false
solid_byte b bs k e h = solid_case (is_space b) refl
  where
    solid_case : (t : Bool) → is_space b ≡ t → is_space b ≡ false
    solid_case false f = f
    solid_case true f = let g : lead_of (b ∷ bs) ≡ Lead.Space = grind (arith, nat_tests) in absurd (h (sym e ∙ g))

have_space : (text : List ℕ) (ts : List Token) → lead_of text ≡ Lead.Space → PiecesHave (after_first text) ts → PiecesHave text ts
have_space [] ts e h before = absurd (cc)
have_space (b ∷ bs) ts e h before = subst (λ ps. PieceTokens ps ts) (sym (pieces_space before b bs (space_byte b bs e))) (h (break_with before b))

line_skipped : (bs : List ℕ) → IsSkipped Kind.Line (trimmed (run_of in_line (59 ∷ bs)))
line_skipped bs rest behind h g =
    let inner = trimmed (run_of in_line bs) in
    let after : after_run in_line (inner ++ rest) ≡ rest =
    sym (after_run-step in_line 59 (inner ++ rest) refl) ∙ ap (λ t. after_run in_line (t ++ rest)) (sym (line_begun bs)) ∙ line_again bs rest h in
    subst (λ t. IsGap (t ++ rest) behind) (sym (line_begun bs)) (line refl (subst (λ r. IsGap r behind) (sym after) g))

have_line_comment : (bs : List ℕ) (ts : List Token) → PiecesHave (after_run in_line bs) ts → PiecesHave (59 ∷ bs) ts
have_line_comment bs ts h before =
    let rest = after_run in_line (59 ∷ bs) in
    let taken : before_rest (59 ∷ bs) rest ≡ run_of in_line (59 ∷ bs) =
    front_taken (59 ∷ bs) (run_of in_line (59 ∷ bs)) rest (run_whole in_line (59 ∷ bs)) in
    let cut : cut_of (59 ∷ bs) ≡ record { kind = Kind.Line; text = trimmed (run_of in_line (59 ∷ bs)); rest = after_run in_line bs } =
    (λ i. record { kind = Kind.Line; text = trimmed (taken i); rest = after_run-step in_line 59 bs refl i }) in
    subst (λ ps. PieceTokens ps ts) (sym (pieces_front before 59 bs Kind.Line _ _ refl cut)) (skipped (line_skipped bs) (h Break.Same))

have_line : (text : List ℕ) (ts : List Token) → lead_of text ≡ Lead.Line → PiecesHave (after_run in_line (after_first text)) ts → PiecesHave text ts
have_line [] ts e h = absurd (cc)
have_line (b ∷ bs) ts e h = subst (λ c. PiecesHave (c ∷ bs) ts) (sym (line_byte b bs e)) (have_line_comment bs ts h)

have_block : (bs behind : List ℕ) (ts : List Token) → Inside bs behind → PiecesHave behind ts → PiecesHave (40 ∷ 59 ∷ bs) ts
have_block bs behind ts i h before =
    let found = inside_complete i in
    let b = closed_block i in
    let text = trimmed_lines b.inner in
    let cut : cut_of (40 ∷ 59 ∷ bs) ≡ record { kind = Kind.Block; text = 40 ∷ 59 ∷ text; rest = behind } =
    cut_shown Lead.Comment Kind.Block (40 ∷ 59 ∷ bs) (40 ∷ 59 ∷ b.inner) (40 ∷ 59 ∷ text) behind refl (ap kind_of_comment found)
    (ap (behind_comment (40 ∷ 59 ∷ bs)) found) (ap (λ t. 40 ∷ 59 ∷ t) b.whole) (block_begun b.inner) in
    subst (λ ps. PieceTokens ps ts) (sym (pieces_front before 40 (59 ∷ bs) Kind.Block (40 ∷ 59 ∷ text) behind refl cut))
    (skipped (λ rest next m g. comment refl (inside_any b.clean.inside rest) g) (h Break.Same))

have_comment : (text behind : List ℕ) (ts : List Token) → lead_of text ≡ Lead.Comment → Inside (after_first (after_first text)) behind
    → PiecesHave behind ts → PiecesHave text ts
have_comment [] behind ts e i h = absurd (cc)
have_comment (b ∷ []) behind ts e i h = absurd (lone_parenthesis b e)
have_comment (b ∷ c ∷ bs) behind ts e i h =
    subst (λ text. PiecesHave text ts) (λ j. sym (comment_byte b (c ∷ bs) e) j ∷ sym (comment_second b c bs e) j ∷ bs) (have_block bs behind ts i h)

have_gap : {text rest : List ℕ} (ts : List Token) → IsGap text rest → PiecesHave rest ts → PiecesHave text ts
have_gap ts (none e) h = h
have_gap ts (space {text = text} e g) h = have_space text ts e (have_gap ts g h)
have_gap ts (line {text = text} e g) h = have_line text ts e (have_gap ts g h)
have_gap ts (comment {text = text} {behind = behind} e i g) h = have_comment text behind ts e i (have_gap ts g h)

have_first : (text front rest : List ℕ) (k : Lead) (kind : Kind) (t : Token) (ts : List Token) → lead_of text ≡ k → ¬ (k ≡ Lead.Space)
    → ¬ (k ≡ Lead.End) → cut_of text ≡ record { kind = kind; text = front; rest = rest } → IsLexed kind front t
    → PiecesHave rest ts → PiecesHave text (t ∷ ts)
have_first [] front rest k kind t ts e s n c l h before = absurd (n (sym e))
have_first (b ∷ bs) front rest k kind t ts e s n c l h before =
    subst (λ ps. PieceTokens ps (t ∷ ts)) (sym (pieces_front before b bs kind front rest (solid_byte b bs k e s) c)) (lexed l (h Break.Same))

opening_front : (text : List ℕ) → lead_of text ≡ Lead.Opening → text ≡ 40 ∷ after_first text
opening_front [] e = absurd (cc)
opening_front (b ∷ bs) e = ap (λ c. c ∷ bs) (opening_byte b bs e)

closing_front : (text : List ℕ) → lead_of text ≡ Lead.Closing → text ≡ 41 ∷ after_first text
closing_front [] e = absurd (cc)
closing_front (b ∷ bs) e = ap (λ c. c ∷ bs) (closing_byte b bs e)

at_sign_front : (text : List ℕ) → lead_of text ≡ Lead.AtSign → text ≡ 64 ∷ after_first text
at_sign_front [] e = absurd (cc)
at_sign_front (b ∷ bs) e = ap (λ c. c ∷ bs) (at_sign_byte b bs e)

integer_lexed : (text : List ℕ) (t : Token) (front : List ℕ) → ((rest : List ℕ) → lead_of (front ++ rest) ≡ Lead.Number)
    → ((rest : List ℕ) → may_follow Kind.Atom rest ≡ true → integer_of (front ++ rest) ≡ Some t)
    → ((rest : List ℕ) → may_follow Kind.Atom rest ≡ true → after_integer (front ++ rest) ≡ rest) → IsLexed Kind.Atom front t
integer_lexed text t front lead is after rest h = subst (λ r. IsToken (front ++ rest) t r) (after rest h) (integer (lead rest) (is rest h))

have_integer : (text : List ℕ) (t : Token) (ts : List Token) → lead_of text ≡ Lead.Number → integer_of text ≡ Some t
    → PiecesHave (after_integer text) ts → PiecesHave text (t ∷ ts)
have_integer [] t ts e f h = absurd (cc)
have_integer (b ∷ bs) t ts e f h =
    let n = number_again b bs e in
    have_first (b ∷ bs) n.front (after_integer (b ∷ bs)) Lead.Number Kind.Atom t ts e (λ k. cc k) (λ k. cc k)
    (cut_as Lead.Number Kind.Atom (b ∷ bs) n.front (after_integer (b ∷ bs)) e refl refl n.whole refl)
    (integer_lexed (b ∷ bs) t n.front n.lead (λ rest m. n.same rest m ∙ f) n.after) h

word_lexed : (b : ℕ) (bs : List ℕ) → lead_of (b ∷ bs) ≡ Lead.Word
    → IsLexed Kind.Atom (run_of continues_symbol (b ∷ bs)) (Symbol (run_of continues_symbol (b ∷ bs)))
word_lexed b bs e rest m =
    let text = run_of continues_symbol (b ∷ bs) in
    let ends = symbol_ends rest m in
    let lead : lead_of (text ++ rest) ≡ Lead.Word =
    ap (λ t. lead_of (t ++ rest)) (run_begun continues_symbol b bs (word_first b bs e)) ∙ word_lead b bs (run_of continues_symbol bs ++ rest) e in
    let here : IsToken (text ++ rest) (Symbol (run_of continues_symbol (text ++ rest))) (after_run continues_symbol (text ++ rest)) = word lead in
    subst (λ (t : Token). IsToken (text ++ rest) t rest) (ap Symbol (run_same continues_symbol (b ∷ bs) rest ends))
    (subst (λ r. IsToken (text ++ rest) (Symbol (run_of continues_symbol (text ++ rest))) r) (run_ended continues_symbol (b ∷ bs) rest ends) here)

have_word : (text : List ℕ) (ts : List Token) → lead_of text ≡ Lead.Word → PiecesHave (after_run continues_symbol text) ts
    → PiecesHave text (Symbol (run_of continues_symbol text) ∷ ts)
have_word [] ts e h = absurd (cc)
have_word (b ∷ bs) ts e h =
    have_first (b ∷ bs) (run_of continues_symbol (b ∷ bs)) (after_run continues_symbol (b ∷ bs)) Lead.Word Kind.Atom _ ts e (λ k. cc k) (λ k. cc k)
    (cut_as Lead.Word Kind.Atom (b ∷ bs) (run_of continues_symbol (b ∷ bs)) (after_run continues_symbol (b ∷ bs)) e refl refl
    (run_whole continues_symbol (b ∷ bs)) refl) (word_lexed b bs e) h

have_token : {text more : List ℕ} {t : Token} (ts : List Token) → IsToken text t more → PiecesHave more ts → PiecesHave text (t ∷ ts)
have_token ts (opening {text = text} e) h =
    have_first text (40 ∷ []) (after_first text) Lead.Opening Kind.Opening LParen ts e (λ k. cc k) (λ k. cc k)
    (cut_as Lead.Opening Kind.Opening text (40 ∷ []) (after_first text) e refl refl (opening_front text e) refl)
    (λ rest m. opening (opening_lead rest m)) h
have_token ts (closing {text = text} e) h =
    have_first text (41 ∷ []) (after_first text) Lead.Closing Kind.Closing RParen ts e (λ k. cc k) (λ k. cc k)
    (cut_as Lead.Closing Kind.Closing text (41 ∷ []) (after_first text) e refl refl (closing_front text e) refl)
    (λ rest m. closing refl) h
have_token ts (at_sign {text = text} e) h =
    have_first text (64 ∷ []) (after_first text) Lead.AtSign Kind.AtSign At ts e (λ k. cc k) (λ k. cc k)
    (cut_as Lead.AtSign Kind.AtSign text (64 ∷ []) (after_first text) e refl refl (at_sign_front text e) refl)
    (λ rest m. at_sign refl) h
have_token ts (integer {text = text} {token = t} e f) h = have_integer text t ts e f h
have_token ts (word {text = text} e) h = have_word text ts e h

have_none : PiecesHave [] []
have_none before = subst (λ ps. PieceTokens ps []) (sym (pieces_none before)) nothing

have_tokens : {text : List ℕ} {ts : List Token} → HasTokens text ts → PiecesHave text ts
have_tokens (ended g) = have_gap [] g have_none
have_tokens (token {t = t} {left = ts} g k m) = have_gap (t ∷ ts) g (have_token ts k (have_tokens m))

-- ---- together

pub same_tokens : (width : ℕ) {text : List ℕ} (ts : List Token) → HasTokens text ts → HasTokens (laid_out width text) ts
same_tokens width {text} ts h = tokens_written width start (have_tokens h Break.Same) (are_whole (length text) Break.Same text)
