-- What is laid out has the same pieces, and is laid out again as it is.
use Rattle.std.proofs.Common.{◌≡◌, ℕ, zero, suc, List, [], ◌∷◌, ◌++◌, map, Option, Some, None, Bool, true, false, cond, not, refl, sym, ap, subst, ◌∙◌, append_assoc}
use Rattle.std.proofs.Common.{length, arith}
use Rattle.std.specs.Prelude.{◌==◌, ◌||◌, All}
use Rattle.std.proofs.lemmas.Bool.Decides.{nat_tests}
use Rattle.isle_syntax.specs.declared.gap.Lead.{Lead}
use Rattle.isle_layout.specs.declared.pieces.Kind.{Kind}
use Rattle.isle_layout.specs.declared.pieces.Break.{Break}
use Rattle.isle_layout.specs.declared.layout.Habit.{Habit}
use Rattle.isle_layout.specs.declared.layout.Gap.{Gap}
use Rattle.isle_layout.specs.declared.layout.Spot.{Spot}
use Rattle.isle_syntax.specs.Tokens.Names.{is_space}
use Rattle.isle_syntax.specs.Tokens.Gaps.{lead_of, after_run, run_of, in_line, begins_semicolon}
use Rattle.isle_syntax.specs.Tokens.Integers.{after_integer}
use Rattle.isle_syntax.specs.Tokens.TokensOf.{continues_symbol}
use Rattle.isle_syntax.specs.Tokens.Finding.{after_comment}
use Rattle.isle_layout.specs.Keeping.Pieces.{Fragment, Cut, cut_of, piece_cut, break_with, pieces_from, pieces_in, pieces_of, kind_by, after_by, text_by, before_rest, trimmed}
use Rattle.isle_layout.specs.Keeping.Pieces.{kind_of_comment, behind_comment}
use Rattle.std.proofs.Common.{◌+◌, ◌-◌, IfOk, Result, Ok, Err}
use Rattle.isle_layout.specs.Keeping.Rows.{rows_of, rows_with, stays, Rows}
use Rattle.isle_layout.specs.Keeping.LaidOut.{habit_behind, habit_of, gap_by, break_of, margin, gap_text, is_flat, gap_at, levels_at, text_before, next_spot}
use Rattle.isle_layout.specs.Keeping.LaidOut.{spot_behind, ending, written, start, laid_out, text_of, texts_of}
use Rattle.isle_layout.specs.Keeping.OneLine.{HasItsText}
use Rattle.std.proofs.lemmas.List.Elements.{All-nil, All-cons}
use Rattle.isle_syntax.proofs.Tokens.Runs.{run_whole}
use Rattle.isle_syntax.proofs.Tokens.Comments.{inside_found}
use Rattle.isle_layout.proofs.Keeping.Cutting.{pieces_none, pieces_space, pieces_solid}
use Rattle.isle_layout.proofs.Keeping.Wholes.{is_line, is_closing, may_follow, ends_atom, IsWhole, front_taken, whole_opening, whole_closing, whole_at_sign}
use Rattle.isle_layout.proofs.Keeping.Wholes.{whole_word, whole_line, closed_block, whole_block, number_again}

-- ---- each piece of a text is cut again as it is

whole_at : (k : Lead) (kind : Kind) (text front rest : List ℕ) → lead_of text ≡ k → kind_by k text ≡ kind → after_by k text ≡ rest
    → text ≡ front ++ rest → IsWhole kind (text_by kind front) → IsWhole (cut_of text).kind (cut_of text).text
whole_at k kind text front rest e f g w h =
    let taken : before_rest text (after_by k text) ≡ front = ap (before_rest text) g ∙ front_taken text front rest w in
    let one : IsWhole (kind_by k text) (text_by (kind_by k text) (before_rest text (after_by k text))) =
    subst (λ (p : Kind). IsWhole p (text_by p (before_rest text (after_by k text)))) (sym f)
    (subst (λ (t : List ℕ). IsWhole kind (text_by kind t)) (sym taken) h) in
    subst (λ (l : Lead). IsWhole (kind_by l text) (text_by (kind_by l text) (before_rest text (after_by l text)))) (sym e) one

comment_whole : (bs : List ℕ) (o : Option (List ℕ)) → after_comment 0 bs ≡ o → IsWhole (cut_of (40 ∷ 59 ∷ bs)).kind (cut_of (40 ∷ 59 ∷ bs)).text
comment_whole bs None e =
    whole_at Lead.Comment Kind.Opening (40 ∷ 59 ∷ bs) (40 ∷ []) (59 ∷ bs) refl (ap kind_of_comment e) (ap (behind_comment (40 ∷ 59 ∷ bs)) e) refl
    whole_opening
comment_whole bs (Some rest) e =
    let b = closed_block (inside_found bs rest e) in
    whole_at Lead.Comment Kind.Block (40 ∷ 59 ∷ bs) (40 ∷ 59 ∷ b.inner) rest refl (ap kind_of_comment e) (ap (behind_comment (40 ∷ 59 ∷ bs)) e)
    (ap (λ t. 40 ∷ 59 ∷ t) b.whole) (whole_block b.inner b.clean)

pub opening_byte : (b : ℕ) (bs : List ℕ) → lead_of (b ∷ bs) ≡ Lead.Opening → b ≡ 40
opening_byte b bs e = grind (arith, nat_tests)

pub closing_byte : (b : ℕ) (bs : List ℕ) → lead_of (b ∷ bs) ≡ Lead.Closing → b ≡ 41
closing_byte b bs e = grind (arith, nat_tests)

pub at_sign_byte : (b : ℕ) (bs : List ℕ) → lead_of (b ∷ bs) ≡ Lead.AtSign → b ≡ 64
at_sign_byte b bs e = grind (arith, nat_tests)

pub line_byte : (b : ℕ) (bs : List ℕ) → lead_of (b ∷ bs) ≡ Lead.Line → b ≡ 59
line_byte b bs e = grind (arith, nat_tests)

pub comment_byte : (b : ℕ) (bs : List ℕ) → lead_of (b ∷ bs) ≡ Lead.Comment → b ≡ 40
comment_byte b bs e = grind (arith, nat_tests)

pub comment_second : (b c : ℕ) (bs : List ℕ) → lead_of (b ∷ c ∷ bs) ≡ Lead.Comment → c ≡ 59
comment_second b c bs e = grind (arith, nat_tests)

pub lone_parenthesis : (b : ℕ) → ¬ (lead_of (b ∷ []) ≡ Lead.Comment)
lone_parenthesis b e = grind (arith, nat_tests)

not_space : (b : ℕ) (bs : List ℕ) → is_space b ≡ false → ¬ (lead_of (b ∷ bs) ≡ Lead.Space)
not_space b bs s e = grind (arith, nat_tests)

pub not_end : (b : ℕ) (bs : List ℕ) → ¬ (lead_of (b ∷ bs) ≡ Lead.End)
not_end b bs e = grind (arith, nat_tests)

abbrev IsCutWhole : List ℕ → Type 0
IsCutWhole text = IsWhole (cut_of text).kind (cut_of text).text

comment_parts : (b : ℕ) (bs : List ℕ) → lead_of (b ∷ bs) ≡ Lead.Comment → IsCutWhole (b ∷ bs)
comment_parts b [] e = absurd (lone_parenthesis b e)
comment_parts b (c ∷ bs) e =
    subst IsCutWhole (λ i. sym (comment_byte b (c ∷ bs) e) i ∷ sym (comment_second b c bs e) i ∷ bs) (comment_whole bs (after_comment 0 bs) refl)

whole_by : (b : ℕ) (bs : List ℕ) (k : Lead) → lead_of (b ∷ bs) ≡ k → is_space b ≡ false → IsCutWhole (b ∷ bs)
whole_by b bs Lead.Opening e s =
    whole_at Lead.Opening Kind.Opening (b ∷ bs) (40 ∷ []) bs e refl refl (ap (λ c. c ∷ bs) (opening_byte b bs e)) whole_opening
whole_by b bs Lead.Closing e s =
    whole_at Lead.Closing Kind.Closing (b ∷ bs) (41 ∷ []) bs e refl refl (ap (λ c. c ∷ bs) (closing_byte b bs e)) whole_closing
whole_by b bs Lead.AtSign e s =
    whole_at Lead.AtSign Kind.AtSign (b ∷ bs) (64 ∷ []) bs e refl refl (ap (λ c. c ∷ bs) (at_sign_byte b bs e)) whole_at_sign
whole_by b bs Lead.Number e s =
    let n = number_again b bs e in
    whole_at Lead.Number Kind.Atom (b ∷ bs) n.front (after_integer (b ∷ bs)) e refl refl n.whole n.is_whole
whole_by b bs Lead.Word e s =
    whole_at Lead.Word Kind.Atom (b ∷ bs) (run_of continues_symbol (b ∷ bs)) (after_run continues_symbol (b ∷ bs)) e refl refl
    (run_whole continues_symbol (b ∷ bs)) (whole_word b bs e)
whole_by b bs Lead.Line e s =
    whole_at Lead.Line Kind.Line (b ∷ bs) (run_of in_line (b ∷ bs)) (after_run in_line (b ∷ bs)) e refl refl (run_whole in_line (b ∷ bs))
    (subst (λ (c : ℕ). IsWhole Kind.Line (trimmed (run_of in_line (c ∷ bs)))) (sym (line_byte b bs e)) (whole_line bs))
whole_by b bs Lead.Comment e s = comment_parts b bs e
whole_by b bs Lead.Space e s = absurd (not_space b bs s e)
whole_by b bs Lead.End e s = absurd (not_end b bs e)

-- each of some pieces is cut again as it is
abbrev pub AreWhole : List Fragment → Type 0
AreWhole [] = Unit {0}
AreWhole (p ∷ ps) = IsWhole p.kind p.text × AreWhole ps

whole_case : (before : Break) (b : ℕ) (bs : List ℕ) (ps qs : List Fragment) (s : Bool) → is_space b ≡ s → AreWhole ps → AreWhole qs
    → AreWhole (cond s ps (piece_cut before (cut_of (b ∷ bs)) ∷ qs))
whole_case before b bs ps qs true e h k = h
whole_case before b bs ps qs false e h k = (whole_by b bs (lead_of (b ∷ bs)) refl e, k)

pub are_whole : (n : ℕ) (before : Break) (text : List ℕ) → AreWhole (pieces_from n before text)
unfolding pieces_from
are_whole zero before text = tt
are_whole (suc n) before [] = tt
are_whole (suc n) before (b ∷ bs) =
    whole_case before b bs (pieces_from n (break_with before b) bs) (pieces_from n Break.Same (cut_of (b ∷ bs)).rest) (is_space b) refl
    (are_whole n (break_with before b) bs) (are_whole n Break.Same (cut_of (b ∷ bs)).rest)

own_each : (ps : List Fragment) → AreWhole ps → All (λ p. HasItsText p.kind p.text) ps
own_each [] w = All-nil (λ p. HasItsText p.kind p.text)
own_each (p ∷ ps) w = All-cons (λ q. HasItsText q.kind q.text) p ps w.0.own (own_each ps w.1)

-- the parentheses of a text are so written
pub own_texts : (text : List ℕ) → All (λ p. HasItsText p.kind p.text) (pieces_of text)
own_texts text = own_each (pieces_of text) (are_whole (length text) Break.Same text)

-- ---- the gaps keep pieces apart

-- whether these may stand with nothing between
abbrev fit_close : Kind → Kind → Bool
fit_close Kind.Opening q = not (is_line q)
fit_close Kind.Closing q = true
fit_close Kind.AtSign q = true
fit_close Kind.Atom q = is_closing q
fit_close Kind.Line q = false
fit_close Kind.Block q = true

-- whether these are kept apart by a gap
abbrev parts : Kind → Kind → Gap → Bool
parts k q Gap.Nothing = fit_close k q
parts k q Gap.Space = not (is_line k)
parts k q Gap.Line = true
parts k q Gap.Blank = true

-- whether these are kept apart by a piece's habit
abbrev habit_apart : Kind → Kind → Habit → Bool
habit_apart k q Habit.Close = fit_close k q
habit_apart k q Habit.Apart = not (is_line k)
habit_apart k q Habit.Under = true
habit_apart k q Habit.Item = true
habit_apart k q Habit.Behind = not (is_line k)
habit_apart k q Habit.FirstLine = not (is_line k)
habit_apart k q Habit.FirstBlock = fit_close k q

apart_parts : (k q : Kind) (h : Habit) (before : Break) → habit_apart k q h ≡ true → parts k q (gap_by h before) ≡ true
apart_parts k q Habit.Close before e = e
apart_parts k q Habit.Apart before e = e
apart_parts k q Habit.Under before e = refl
apart_parts k q Habit.Item Break.Same e = refl
apart_parts k q Habit.Item Break.Line e = refl
apart_parts k q Habit.Item Break.Blank e = refl
apart_parts k q Habit.Behind Break.Same e = e
apart_parts k q Habit.Behind Break.Line e = refl
apart_parts k q Habit.Behind Break.Blank e = refl
apart_parts k q Habit.FirstLine Break.Same e = e
apart_parts k q Habit.FirstLine Break.Line e = refl
apart_parts k q Habit.FirstLine Break.Blank e = refl
apart_parts k q Habit.FirstBlock Break.Same e = e
apart_parts k q Habit.FirstBlock Break.Line e = refl
apart_parts k q Habit.FirstBlock Break.Blank e = refl

habit_parts : (flat : Bool) (k q : Kind) → habit_apart k q (habit_behind flat k q) ≡ true
habit_parts true Kind.Opening Kind.Opening = refl
habit_parts true Kind.Opening Kind.Closing = refl
habit_parts true Kind.Opening Kind.AtSign = refl
habit_parts true Kind.Opening Kind.Atom = refl
habit_parts true Kind.Opening Kind.Line = refl
habit_parts true Kind.Opening Kind.Block = refl
habit_parts true Kind.Closing Kind.Opening = refl
habit_parts true Kind.Closing Kind.Closing = refl
habit_parts true Kind.Closing Kind.AtSign = refl
habit_parts true Kind.Closing Kind.Atom = refl
habit_parts true Kind.Closing Kind.Line = refl
habit_parts true Kind.Closing Kind.Block = refl
habit_parts true Kind.AtSign Kind.Opening = refl
habit_parts true Kind.AtSign Kind.Closing = refl
habit_parts true Kind.AtSign Kind.AtSign = refl
habit_parts true Kind.AtSign Kind.Atom = refl
habit_parts true Kind.AtSign Kind.Line = refl
habit_parts true Kind.AtSign Kind.Block = refl
habit_parts true Kind.Atom Kind.Opening = refl
habit_parts true Kind.Atom Kind.Closing = refl
habit_parts true Kind.Atom Kind.AtSign = refl
habit_parts true Kind.Atom Kind.Atom = refl
habit_parts true Kind.Atom Kind.Line = refl
habit_parts true Kind.Atom Kind.Block = refl
habit_parts true Kind.Line Kind.Opening = refl
habit_parts true Kind.Line Kind.Closing = refl
habit_parts true Kind.Line Kind.AtSign = refl
habit_parts true Kind.Line Kind.Atom = refl
habit_parts true Kind.Line Kind.Line = refl
habit_parts true Kind.Line Kind.Block = refl
habit_parts true Kind.Block Kind.Opening = refl
habit_parts true Kind.Block Kind.Closing = refl
habit_parts true Kind.Block Kind.AtSign = refl
habit_parts true Kind.Block Kind.Atom = refl
habit_parts true Kind.Block Kind.Line = refl
habit_parts true Kind.Block Kind.Block = refl
habit_parts false Kind.Opening Kind.Opening = refl
habit_parts false Kind.Opening Kind.Closing = refl
habit_parts false Kind.Opening Kind.AtSign = refl
habit_parts false Kind.Opening Kind.Atom = refl
habit_parts false Kind.Opening Kind.Line = refl
habit_parts false Kind.Opening Kind.Block = refl
habit_parts false Kind.Closing Kind.Opening = refl
habit_parts false Kind.Closing Kind.Closing = refl
habit_parts false Kind.Closing Kind.AtSign = refl
habit_parts false Kind.Closing Kind.Atom = refl
habit_parts false Kind.Closing Kind.Line = refl
habit_parts false Kind.Closing Kind.Block = refl
habit_parts false Kind.AtSign Kind.Opening = refl
habit_parts false Kind.AtSign Kind.Closing = refl
habit_parts false Kind.AtSign Kind.AtSign = refl
habit_parts false Kind.AtSign Kind.Atom = refl
habit_parts false Kind.AtSign Kind.Line = refl
habit_parts false Kind.AtSign Kind.Block = refl
habit_parts false Kind.Atom Kind.Opening = refl
habit_parts false Kind.Atom Kind.Closing = refl
habit_parts false Kind.Atom Kind.AtSign = refl
habit_parts false Kind.Atom Kind.Atom = refl
habit_parts false Kind.Atom Kind.Line = refl
habit_parts false Kind.Atom Kind.Block = refl
habit_parts false Kind.Line Kind.Opening = refl
habit_parts false Kind.Line Kind.Closing = refl
habit_parts false Kind.Line Kind.AtSign = refl
habit_parts false Kind.Line Kind.Atom = refl
habit_parts false Kind.Line Kind.Line = refl
habit_parts false Kind.Line Kind.Block = refl
habit_parts false Kind.Block Kind.Opening = refl
habit_parts false Kind.Block Kind.Closing = refl
habit_parts false Kind.Block Kind.AtSign = refl
habit_parts false Kind.Block Kind.Atom = refl
habit_parts false Kind.Block Kind.Line = refl
habit_parts false Kind.Block Kind.Block = refl

no_semicolon_first : (t : Bool) → t ≡ false → not t ≡ true
no_semicolon_first true e = absurd (cc)
no_semicolon_first false e = refl

line_known : (q : Kind) → not (is_line q) ≡ true → is_line q ≡ false
line_known Kind.Line e = absurd (cc)
line_known Kind.Opening e = refl
line_known Kind.Closing e = refl
line_known Kind.AtSign e = refl
line_known Kind.Atom e = refl
line_known Kind.Block e = refl

-- a whole piece may follow directly
close_follows : (k q : Kind) (text rest : List ℕ) → IsWhole q text → fit_close k q ≡ true → may_follow k (text ++ rest) ≡ true
close_follows Kind.Opening q text rest w e =
    ap (λ t. not (begins_semicolon (t ++ rest))) w.is ∙ no_semicolon_first (w.first == 59) (w.no_semicolon (line_known q e))
close_follows Kind.Closing q text rest w e = refl
close_follows Kind.AtSign q text rest w e = refl
close_follows Kind.Atom q text rest w e = ap (λ t. ends_atom (t ++ rest)) w.is ∙ ap (λ b. ends_atom (b ∷ (w.others ++ rest))) (w.closing e)
close_follows Kind.Line q text rest w e = absurd (cc)
close_follows Kind.Block q text rest w e = refl

space_follows : (k : Kind) (rest : List ℕ) → not (is_line k) ≡ true → may_follow k (32 ∷ rest) ≡ true
space_follows Kind.Opening rest e = refl
space_follows Kind.Closing rest e = refl
space_follows Kind.AtSign rest e = refl
space_follows Kind.Atom rest e = refl
space_follows Kind.Line rest e = absurd (cc)
space_follows Kind.Block rest e = refl

newline_follows : (k : Kind) (rest : List ℕ) → may_follow k (10 ∷ rest) ≡ true
newline_follows Kind.Opening rest = refl
newline_follows Kind.Closing rest = refl
newline_follows Kind.AtSign rest = refl
newline_follows Kind.Atom rest = refl
newline_follows Kind.Line rest = refl
newline_follows Kind.Block rest = refl

gap_follows : (k q : Kind) (gap : Gap) (levels : ℕ) (text rest : List ℕ) → IsWhole q text → parts k q gap ≡ true
    → may_follow k ((gap_text gap levels ++ text) ++ rest) ≡ true
gap_follows k q Gap.Nothing levels text rest w e = close_follows k q text rest w e
gap_follows k q Gap.Space levels text rest w e = space_follows k (text ++ rest) e
gap_follows k q Gap.Line levels text rest w e = newline_follows k ((margin levels ++ text) ++ rest)
gap_follows k q Gap.Blank levels text rest w e = newline_follows k (10 ∷ ((margin levels ++ text) ++ rest))

pub follows_by : (width : ℕ) (spot : Spot) (k : Kind) (ps : List Fragment) → spot.prev ≡ Some k → AreWhole ps
    → may_follow k (written width spot ps) ≡ true
follows_by width spot k [] e w = ap (λ p. may_follow k (ending p)) e ∙ newline_follows k []
follows_by width spot k (q ∷ qs) e w =
    let gap_is : gap_at spot q.kind q.before ≡ gap_by (habit_behind (is_flat spot) k q.kind) q.before =
    ap (λ p. gap_by (habit_of (is_flat spot) p q.kind) q.before) e in
    let apart : parts k q.kind (gap_at spot q.kind q.before) ≡ true =
    ap (parts k q.kind) gap_is ∙ apart_parts k q.kind (habit_behind (is_flat spot) k q.kind) q.before (habit_parts (is_flat spot) k q.kind) in
    gap_follows k q.kind (gap_at spot q.kind q.before) (levels_at spot q.kind) q.text (written width (next_spot width spot q qs) qs) w.0 apart

pub prev_known : (spot : Spot) (kind : Kind) (stays : Bool) → (spot_behind spot kind stays).prev ≡ Some kind
prev_known spot Kind.Opening fit = opened (is_flat spot || fit)
  where
    opened : (t : Bool) → (cond {A = Spot} t (record { broken = spot.broken; flat = spot.flat + 1; prev = Some Kind.Opening })
        (record { broken = spot.broken + 1; flat = spot.flat; prev = Some Kind.Opening })).prev ≡ Some Kind.Opening
    opened true = refl
    opened false = refl
prev_known spot Kind.Closing fit = closed (is_flat spot)
  where
    closed : (t : Bool) → (cond {A = Spot} t (record { broken = spot.broken; flat = spot.flat - 1; prev = Some Kind.Closing })
        (record { broken = spot.broken - 1; flat = spot.flat; prev = Some Kind.Closing })).prev ≡ Some Kind.Closing
    closed true = refl
    closed false = refl
prev_known spot Kind.AtSign fit = refl
prev_known spot Kind.Atom fit = refl
prev_known spot Kind.Line fit = refl
prev_known spot Kind.Block fit = refl

-- ---- the pieces of what is laid out

-- pieces as they stand in what is laid out: with the newlines of their gaps
abbrev pub again : ℕ → Spot → List Fragment → List Fragment
again width spot [] = []
again width spot (p ∷ ps) = record p { before = break_of (gap_at spot p.kind p.before) } ∷ again width (next_spot width spot p ps) ps

margin_skipped : (levels : ℕ) (before : Break) (rest : List ℕ) → pieces_in before (margin levels ++ rest) ≡ pieces_in before rest
margin_skipped zero before rest = refl
margin_skipped (suc n) before rest =
    let m = margin n ++ rest in
    pieces_space before 32 (32 ∷ 32 ∷ 32 ∷ m) refl ∙ pieces_space before 32 (32 ∷ 32 ∷ m) refl ∙ pieces_space before 32 (32 ∷ m) refl
    ∙ pieces_space before 32 m refl ∙ margin_skipped n before rest

gap_skipped : (gap : Gap) (levels : ℕ) (text : List ℕ) → pieces_in Break.Same (gap_text gap levels ++ text) ≡ pieces_in (break_of gap) text
gap_skipped Gap.Nothing levels text = refl
gap_skipped Gap.Space levels text = pieces_space Break.Same 32 text refl
gap_skipped Gap.Line levels text = pieces_space Break.Same 10 (margin levels ++ text) refl ∙ margin_skipped levels Break.Line text
gap_skipped Gap.Blank levels text =
    pieces_space Break.Same 10 (10 ∷ (margin levels ++ text)) refl ∙ pieces_space Break.Line 10 (margin levels ++ text) refl
    ∙ margin_skipped levels Break.Blank text

piece_first : (before : Break) (kind : Kind) (text rest : List ℕ) → IsWhole kind text → may_follow kind rest ≡ true
    → pieces_in before (text ++ rest) ≡ record { kind = kind; text = text; before = before } ∷ pieces_in Break.Same rest
piece_first before kind text rest w e =
    let cut : cut_of (w.first ∷ (w.others ++ rest)) ≡ record { kind = kind; text = text; rest = rest } =
    ap (λ t. cut_of (t ++ rest)) (sym w.is) ∙ w.cut rest e in
    ap (λ t. pieces_in before (t ++ rest)) w.is ∙ pieces_solid before w.first (w.others ++ rest) w.solid
    ∙ ap (λ (c : Cut). piece_cut before c ∷ pieces_in Break.Same c.rest) cut

none_at_end : (prev : Option Kind) → pieces_in Break.Same (ending prev) ≡ []
none_at_end None = pieces_none Break.Same
none_at_end (Some k) = pieces_space Break.Same 10 [] refl ∙ pieces_none Break.Line

pieces_again : (width : ℕ) (spot : Spot) (ps : List Fragment) → AreWhole ps → pieces_in Break.Same (written width spot ps) ≡ again width spot ps
pieces_again width spot [] w = none_at_end spot.prev
pieces_again width spot (p ∷ ps) w =
    let gap = gap_at spot p.kind p.before in
    let next = next_spot width spot p ps in
    let rest = written width next ps in
    ap (pieces_in Break.Same) (append_assoc (text_before spot p.kind p.before) p.text rest) ∙ gap_skipped gap (levels_at spot p.kind) (p.text ++ rest)
    ∙ piece_first (break_of gap) p.kind p.text rest w.0
    (follows_by width next p.kind ps (prev_known spot p.kind (stays width (rows_of width ps).here)) w.1)
    ∙ ap (λ qs. record { kind = p.kind; text = p.text; before = break_of gap } ∷ qs) (pieces_again width next ps w.1)

texts_same : (width : ℕ) (spot : Spot) (ps : List Fragment) → map text_of (again width spot ps) ≡ map text_of ps
texts_same width spot [] = refl
texts_same width spot (p ∷ ps) = ap (λ ts. p.text ∷ ts) (texts_same width (next_spot width spot p ps) ps)

rows_same : (width : ℕ) (spot : Spot) (ps : List Fragment) → rows_of width (again width spot ps) ≡ rows_of width ps
rows_same width spot [] = refl
rows_same width spot (p ∷ ps) = ap (rows_with width p.kind p.text) (rows_same width (next_spot width spot p ps) ps)

gap_settled : (h : Habit) (before : Break) → gap_by h (break_of (gap_by h before)) ≡ gap_by h before
gap_settled Habit.Close before = refl
gap_settled Habit.Apart before = refl
gap_settled Habit.Under before = refl
gap_settled Habit.Item Break.Same = refl
gap_settled Habit.Item Break.Line = refl
gap_settled Habit.Item Break.Blank = refl
gap_settled Habit.Behind Break.Same = refl
gap_settled Habit.Behind Break.Line = refl
gap_settled Habit.Behind Break.Blank = refl
gap_settled Habit.FirstLine Break.Same = refl
gap_settled Habit.FirstLine Break.Line = refl
gap_settled Habit.FirstLine Break.Blank = refl
gap_settled Habit.FirstBlock Break.Same = refl
gap_settled Habit.FirstBlock Break.Line = refl
gap_settled Habit.FirstBlock Break.Blank = refl

written_again : (width : ℕ) (spot : Spot) (ps : List Fragment) → written width spot (again width spot ps) ≡ written width spot ps
written_again width spot [] = refl
written_again width spot (p ∷ ps) =
    let next = next_spot width spot p ps in
    let gap = gap_settled (habit_of (is_flat spot) spot.prev p.kind) p.before in
    let same : next_spot width spot p (again width next ps) ≡ next =
    ap (λ (r : Rows). spot_behind spot p.kind (stays width r.here)) (rows_same width next ps) in
    (λ i. (gap_text (gap i) (levels_at spot p.kind) ++ p.text) ++ written width (same i) (again width next ps))
    ∙ ap (λ t. (text_before spot p.kind p.before ++ p.text) ++ t) (written_again width next ps)

-- ---- the two laws

pieces_laid_out : (width : ℕ) (text : List ℕ) → pieces_of (laid_out width text) ≡ again width start (pieces_of text)
pieces_laid_out width text = pieces_again width start (pieces_of text) (are_whole (length text) Break.Same text)

-- what is laid out has the same tokens and comments
pub same_texts : (width : ℕ) (text : List ℕ) → texts_of (laid_out width text) ≡ texts_of text
same_texts width text = ap (map text_of) (pieces_laid_out width text) ∙ texts_same width start (pieces_of text)

-- and is laid out again as it is
pub laid_out_twice : (width : ℕ) (text : List ℕ) → laid_out width (laid_out width text) ≡ laid_out width text
laid_out_twice width text = ap (written width start) (pieces_laid_out width text) ∙ written_again width start (pieces_of text)

pub ok_then : {A E : Type 0} (r : Result A E) (P Q : A → Type 0) → IfOk r P → ((a : A) → P a → Q a) → IfOk r Q
ok_then (Ok a) P Q h f = f a h
ok_then (Err e) P Q h f = tt
