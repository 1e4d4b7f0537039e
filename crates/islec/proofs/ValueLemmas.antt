-- The values that each command's rows hold.
use Rattle.std.proofs.Common.{◌≡◌, ◌∙◌, ◌<◌, ◌≤◌, ◌||◌, ◌⊎◌, inl, inr, ℕ, Bool, true, false, refl, sym, ap, List, [], ◌∷◌, Option, Some, None}
use Rattle.std.proofs.Common.{Result, Ok, Err, is_some, true≢false, length, map, arith, slice_get, pos, cond, subst}
use Rattle.std.specs.Global.{Global}
use Rattle.std.specs.Prelude.{String, Vec, string_bytes, vec_items, vec_len, codes, unwrap_or, option_map, option_and_then}
use Rattle.std.specs.Borrow.{Bor}
use Rattle.std.specs.List.{find, list_all, slice_index_or}
use Rattle.std.specs.Option.{option_map_or}
use Rattle.std.specs.Str.{bytes_eq}
use Rattle.std.specs.Str.Parse.{ParsesUnsigned, digits_value, without_leading_plus}
use Rattle.std.proofs.lemmas.List.{length-map}
use Rattle.std.proofs.lemmas.Slice.Eq.{bytes_eq-Decides}
use Rattle.clap.specs.Lexer.{without_minus}
use Rattle.clap.specs.Facts.{parser_of_value}
use Rattle.clap.specs.Matches.{ReadsOne, matched_of, one_text, raw_values}
use Rattle.clap.specs.Values.{Accepts, IsSignedIn, IsUnsignedIn, read_as}
use Rattle.clap.specs.ValueTests.{accepts}
use Rattle.clap.specs.Walk.{Row, Rule, Text, action_of, all_of, arg_by_id, has_row, most_values, one_of, reading_by, row_text, rows_of}
use Rattle.clap.specs.Simple.{help_rule}
use Rattle.clap.specs.declared.builder.ArgAction.TheVariants as action
use Rattle.clap.specs.declared.parser.matches.Found.{Found}
use Rattle.clap.proofs.CallerReads.{signed_reads}
use Rattle.clap.proofs.ValueTestLemmas.{accepts-Accepts}
use Rattle.clap.proofs.WalkLemmas.{both, one_text-rows, raw_values-rows}
use Rattle.islec.specs.Lines.{each_of, names_of, number_of}
use Rattle.islec.specs.Commands.{blocks_rules, check_rules, fmt_rules, run_rules}
use Rattle.islec.specs.Inside.Rows.{Each, FillsRules, FitsRow, FitsRule}
use Rattle.islec.proofs.FilledRows.{row_of_rule}

first_of_row : (a : Rule) (r : Row) → FitsRule a r
    → (v : Text) × (row_text r ≡ Some (read_as (reading_by a) v)) × Accepts a.ignore_case (parser_of_value a.parser) v
first_of_row a r fits = go r.values fits.filled fits.passes
  where
    go : (vs : List Text) → 0 < length vs → list_all (accepts a.ignore_case (parser_of_value a.parser)) vs ≡ true
        → (v : Text) × (option_map (read_as r.reading) (slice_get vs 0) ≡ Some (read_as (reading_by a) v)) × Accepts a.ignore_case
        (parser_of_value a.parser) v
    go [] some pass = absurd (omega arith)
    go (v ∷ vs) some pass =
        (v, ap (λ how. Some (read_as how v)) fits.reads, accepts-Accepts a.ignore_case (parser_of_value a.parser) v (both _ _ pass).0)

-- the first value of an argument that has a row
one_reads : (c : List Rule) (a : Rule) (rows : List Row) → arg_by_id c a.id ≡ Some a → Each (FitsRow c) rows → has_row a.id rows ≡ true
    → (v : Text) × (one_of a.id rows ≡ Some (read_as (reading_by a) v)) × Accepts a.ignore_case (parser_of_value a.parser) v
one_reads c a rows own fits has =
    let r = row_of_rule c a rows own fits has in
    let v = first_of_row a r.0 r.2 in
    (v.0, ap (option_and_then row_text) r.1 ∙ v.1, v.2)

-- the values of such an argument
all_reads : (c : List Rule) (a : Rule) (rows : List Row) → arg_by_id c a.id ≡ Some a → Each (FitsRow c) rows → has_row a.id rows ≡ true
    → (vs : List Text) × (all_of a.id rows ≡ Some vs) × (0 < length vs) × (action_of a ≡ action.Set → length vs ≤ most_values a)
all_reads c a rows own fits has =
    let r = row_of_rule c a rows own fits has in
    (r.0.values, ap (option_map (λ (x : Row). x.values)) r.1, r.2.filled, r.2.most)

-- an argument that has a first value has a row
one_has_row : (id : Text) (rows : List Row) (t : Text) → one_of id rows ≡ Some t → has_row id rows ≡ true
one_has_row id [] t is = absurd (true≢false (sym (ap is_some is)))
one_has_row id (r ∷ rs) t is = go (bytes_eq r.id id) is (one_has_row id rs t)
  where
    go : (b : Bool) → option_and_then row_text (cond b (Some r) (find (λ x. bytes_eq x.id id) rs)) ≡ Some t
        → (one_of id rs ≡ Some t → has_row id rs ≡ true) → (b || has_row id rs) ≡ true
    go true is rest = refl
    go false is rest = rest is

-- a word for a truth value is `true` or `false`
bool_word : (o : Option Text) (v : Text) → o ≡ Some v → (bytes_eq v (codes "true") || bytes_eq v (codes "false")) ≡ true
    → (o ≡ Some (codes "true")) ⊎ (o ≡ Some (codes "false"))
bool_word o v is e = go (bytes_eq v (codes "true")) refl e
  where
    go : (b : Bool) → bytes_eq v (codes "true") ≡ b → (b || bytes_eq v (codes "false")) ≡ true
        → (o ≡ Some (codes "true")) ⊎ (o ≡ Some (codes "false"))
    go true t e = inl (is ∙ ap Some ((bytes_eq-Decides v (codes "true")).0 t))
    go false t e = inr (is ∙ ap Some ((bytes_eq-Decides v (codes "false")).0 e))

-- an argument by its place
abbrev rule : List Rule → ℕ → Rule
rule c k = slice_index_or c k help_rule

-- ---- run

pub run_depth : (rows : List Row) → FillsRules run_rules rows
    → (v : Text) × (one_of (codes "depth") rows ≡ Some (without_minus v)) × IsSignedIn (pos 0) (pos 4294967295) v
run_depth rows f = one_reads run_rules (rule run_rules 1) rows refl f.fits (f.whole.1.0 (inr (omega arith)))

pub run_plain : (rows : List Row) → FillsRules run_rules rows
    → (one_of (codes "plain") rows ≡ Some (codes "true")) ⊎ (one_of (codes "plain") rows ≡ Some (codes "false"))
run_plain rows f = let v = one_reads run_rules (rule run_rules 2) rows refl f.fits (f.whole.1.1.0 (inr (omega arith))) in bool_word _ v.0 v.1 v.2

pub run_steps : (rows : List Row) → FillsRules run_rules rows
    → (one_of (codes "steps") rows ≡ Some (codes "true")) ⊎ (one_of (codes "steps") rows ≡ Some (codes "false"))
run_steps rows f = let v = one_reads run_rules (rule run_rules 3) rows refl f.fits (f.whole.1.1.1.0 (inr (omega arith))) in bool_word _ v.0 v.1 v.2

pub run_trace : (rows : List Row) → FillsRules run_rules rows
    → (one_of (codes "trace") rows ≡ Some (codes "true")) ⊎ (one_of (codes "trace") rows ≡ Some (codes "false"))
run_trace rows f = let v = one_reads run_rules (rule run_rules 4) rows refl f.fits (f.whole.1.1.1.1.0 (inr (omega arith))) in bool_word _ v.0 v.1 v.2

pub run_coverage : (rows : List Row) → FillsRules run_rules rows
    → (one_of (codes "coverage") rows ≡ Some (codes "true")) ⊎ (one_of (codes "coverage") rows ≡ Some (codes "false"))
run_coverage rows f = let v = one_reads run_rules (rule run_rules 5) rows refl f.fits (f.whole.1.1.1.1.1.0 (inr (omega arith))) in
    bool_word _ v.0 v.1 v.2

pub run_unanswered : (rows : List Row) → FillsRules run_rules rows
    → (one_of (codes "unanswered") rows ≡ Some (codes "true")) ⊎ (one_of (codes "unanswered") rows ≡ Some (codes "false"))
run_unanswered rows f = let v = one_reads run_rules (rule run_rules 6) rows refl f.fits (f.whole.1.1.1.1.1.1.0 (inr (omega arith))) in
    bool_word _ v.0 v.1 v.2

pub run_explain : (rows : List Row) → FillsRules run_rules rows
    → (one_of (codes "explain") rows ≡ Some (codes "true")) ⊎ (one_of (codes "explain") rows ≡ Some (codes "false"))
run_explain rows f = let v = one_reads run_rules (rule run_rules 7) rows refl f.fits (f.whole.1.1.1.1.1.1.1.0 (inr (omega arith))) in
    bool_word _ v.0 v.1 v.2

pub run_files : (rows : List Row) → FillsRules run_rules rows → (vs : List Text) × (all_of (codes "file") rows ≡ Some vs) × (0 < length vs)
run_files rows f = let v = all_reads run_rules (rule run_rules 8) rows refl f.fits (f.whole.1.1.1.1.1.1.1.1.0 (inl refl)) in (v.0, v.1, v.2)

-- ---- check

pub check_terms : (rows : List Row) → FillsRules check_rules rows
    → (one_of (codes "terms") rows ≡ Some (codes "true")) ⊎ (one_of (codes "terms") rows ≡ Some (codes "false"))
check_terms rows f = let v = one_reads check_rules (rule check_rules 0) rows refl f.fits (f.whole.0 (inr (omega arith))) in bool_word _ v.0 v.1 v.2

pub check_warn : (rows : List Row) → FillsRules check_rules rows
    → (one_of (codes "warn") rows ≡ Some (codes "true")) ⊎ (one_of (codes "warn") rows ≡ Some (codes "false"))
check_warn rows f = let v = one_reads check_rules (rule check_rules 1) rows refl f.fits (f.whole.1.0 (inr (omega arith))) in bool_word _ v.0 v.1 v.2

pub check_explain : (rows : List Row) → FillsRules check_rules rows
    → (one_of (codes "explain") rows ≡ Some (codes "true")) ⊎ (one_of (codes "explain") rows ≡ Some (codes "false"))
check_explain rows f = let v = one_reads check_rules (rule check_rules 2) rows refl f.fits (f.whole.1.1.0 (inr (omega arith))) in
    bool_word _ v.0 v.1 v.2

pub check_missing : (rows : List Row) → FillsRules check_rules rows
    → (one_of (codes "missing") rows ≡ Some (codes "true")) ⊎ (one_of (codes "missing") rows ≡ Some (codes "false"))
check_missing rows f = let v = one_reads check_rules (rule check_rules 3) rows refl f.fits (f.whole.1.1.1.0 (inr (omega arith))) in
    bool_word _ v.0 v.1 v.2

pub check_partial : (rows : List Row) → FillsRules check_rules rows
    → (one_of (codes "partial") rows ≡ Some (codes "true")) ⊎ (one_of (codes "partial") rows ≡ Some (codes "false"))
check_partial rows f = let v = one_reads check_rules (rule check_rules 4) rows refl f.fits (f.whole.1.1.1.1.0 (inr (omega arith))) in
    bool_word _ v.0 v.1 v.2

-- a number of steps that was given
check_steps : (rows : List Row) (t : Text) → FillsRules check_rules rows → one_of (codes "steps-at-most") rows ≡ Some t
    → IsUnsignedIn 0 18446744073709551615 t
check_steps rows t f is =
    let v = one_reads check_rules (rule check_rules 5) rows refl f.fits (one_has_row (codes "steps-at-most") rows t is) in
    let same : v.0 ≡ t = ap (λ (o : Option Text). unwrap_or o t) (sym v.1 ∙ is) in
    subst (IsUnsignedIn 0 18446744073709551615) same v.2

pub check_files : (rows : List Row) → FillsRules check_rules rows → (vs : List Text) × (all_of (codes "file") rows ≡ Some vs) × (0 < length vs)
check_files rows f = let v = all_reads check_rules (rule check_rules 6) rows refl f.fits (f.whole.1.1.1.1.1.1.0 (inl refl)) in (v.0, v.1, v.2)

-- ---- blocks

pub blocks_dot : (rows : List Row) → FillsRules blocks_rules rows
    → (one_of (codes "dot") rows ≡ Some (codes "true")) ⊎ (one_of (codes "dot") rows ≡ Some (codes "false"))
blocks_dot rows f = let v = one_reads blocks_rules (rule blocks_rules 1) rows refl f.fits (f.whole.1.0 (inr (omega arith))) in bool_word _ v.0 v.1 v.2

pub blocks_files : (rows : List Row) → FillsRules blocks_rules rows → (vs : List Text) × (all_of (codes "file") rows ≡ Some vs) × (0 < length vs)
blocks_files rows f = let v = all_reads blocks_rules (rule blocks_rules 2) rows refl f.fits (f.whole.1.1.0 (inl refl)) in (v.0, v.1, v.2)

-- ---- fmt

pub fmt_width : (rows : List Row) → FillsRules fmt_rules rows
    → (v : Text) × (one_of (codes "width") rows ≡ Some v) × IsUnsignedIn 0 1000000 v
fmt_width rows f = one_reads fmt_rules (rule fmt_rules 0) rows refl f.fits (f.whole.0 (inr (omega arith)))

pub fmt_keep : (rows : List Row) → FillsRules fmt_rules rows
    → (one_of (codes "keep") rows ≡ Some (codes "true")) ⊎ (one_of (codes "keep") rows ≡ Some (codes "false"))
fmt_keep rows f = let v = one_reads fmt_rules (rule fmt_rules 1) rows refl f.fits (f.whole.1.0 (inr (omega arith))) in bool_word _ v.0 v.1 v.2

pub fmt_check : (rows : List Row) → FillsRules fmt_rules rows
    → (one_of (codes "check") rows ≡ Some (codes "true")) ⊎ (one_of (codes "check") rows ≡ Some (codes "false"))
fmt_check rows f = let v = one_reads fmt_rules (rule fmt_rules 2) rows refl f.fits (f.whole.1.1.0 (inr (omega arith))) in bool_word _ v.0 v.1 v.2

pub fmt_diff : (rows : List Row) → FillsRules fmt_rules rows
    → (one_of (codes "diff") rows ≡ Some (codes "true")) ⊎ (one_of (codes "diff") rows ≡ Some (codes "false"))
fmt_diff rows f = let v = one_reads fmt_rules (rule fmt_rules 3) rows refl f.fits (f.whole.1.1.1.0 (inr (omega arith))) in bool_word _ v.0 v.1 v.2

pub fmt_write : (rows : List Row) → FillsRules fmt_rules rows
    → (one_of (codes "write") rows ≡ Some (codes "true")) ⊎ (one_of (codes "write") rows ≡ Some (codes "false"))
fmt_write rows f = let v = one_reads fmt_rules (rule fmt_rules 4) rows refl f.fits (f.whole.1.1.1.1.0 (inr (omega arith))) in bool_word _ v.0 v.1 v.2

pub fmt_files : (rows : List Row) → FillsRules fmt_rules rows → (vs : List Text) × (all_of (codes "file") rows ≡ Some vs) × (0 < length vs)
fmt_files rows f = let v = all_reads fmt_rules (rule fmt_rules 5) rows refl f.fits (f.whole.1.1.1.1.1.0 (inl refl)) in (v.0, v.1, v.2)

-- ---- numbers

abbrev Parses : {E : Type 0} → (List ℕ → Result ℕ E → Type 0) → Type 0
Parses {E} G = (u : List ℕ) (x : Result ℕ E) → G u x → ParsesUnsigned 32 10 u x

is_number : {E : Type 0} (G : List ℕ → Result ℕ E → Type 0) (t : List ℕ) (r : Option ℕ) (n : ℕ) → r ≡ Some n → ReadsOne G t r → Parses G
    → r ≡ Some (digits_value 10 (without_leading_plus t))
is_number G t None n is read only = absurd (true≢false (sym (ap is_some is)))
is_number G t (Some v) n is read only = ap Some (only t (Ok v) read).1

pub signed_number : {E : Type 0} (G : List ℕ → Result ℕ E → Type 0) (v : List ℕ) (r : Option ℕ) → ReadsOne G (without_minus v) r → Parses G
    → IsSignedIn (pos 0) (pos 4294967295) v → r ≡ Some (digits_value 10 (without_leading_plus (without_minus v)))
signed_number {E} G v r read only passed =
    let got = signed_reads E G 32 0 4294967295 v r read only (omega arith) passed in
    is_number G (without_minus v) r got.0 got.1 read only

pub unsigned_number : {E : Type 0} (G : List ℕ → Result ℕ E → Type 0) (v : List ℕ) (r : Option ℕ) → ReadsOne G v r → Parses G
    → IsUnsignedIn 0 1000000 v → r ≡ Some (digits_value 10 (without_leading_plus v))
unsigned_number G v None read only passed = absurd (only v (Err read.0) read.1 (passed.0, let most = passed.3 in omega arith))
unsigned_number G v (Some n) read only passed = ap Some (only v (Ok n) read).1

steps_number : {E : Type 0} (G : List ℕ → Result ℕ E → Type 0) (v : List ℕ) (r : Option ℕ) → ReadsOne G v r
    → ((u : List ℕ) (x : Result ℕ E) → G u x → ParsesUnsigned 64 10 u x)
    → IsUnsignedIn 0 18446744073709551615 v → r ≡ Some (digits_value 10 (without_leading_plus v))
steps_number G v None read only passed = absurd (only v (Err read.0) read.1 (passed.0, passed.1))
steps_number G v (Some n) read only passed = ap Some (only v (Ok n) read).1

-- ---- what the getters give

-- the number that a getter read
pub depth_is : {E : Type 0} (f : Found) (G : List ℕ → Result ℕ E → Type 0) (r : Option ℕ) → FillsRules run_rules (rows_of f)
    → ((t : List ℕ) → one_text f (codes "depth") ≡ Some t → ReadsOne G t r) → Parses G → number_of (codes "depth") (rows_of f) ≡ r
depth_is f G r fills reads only =
    let v = run_depth (rows_of f) fills in
    let read = reads (without_minus v.0) (one_text-rows f (codes "depth") ∙ v.1) in
    ap (option_map (λ t. digits_value 10 (without_leading_plus t))) v.1 ∙ sym (signed_number G v.0 r read only v.2)

pub width_is : {E : Type 0} (f : Found) (G : List ℕ → Result ℕ E → Type 0) (r : Option ℕ) → FillsRules fmt_rules (rows_of f)
    → ((t : List ℕ) → one_text f (codes "width") ≡ Some t → ReadsOne G t r) → Parses G → number_of (codes "width") (rows_of f) ≡ r
width_is f G r fills reads only =
    let v = fmt_width (rows_of f) fills in
    let read = reads v.0 (one_text-rows f (codes "width") ∙ v.1) in
    ap (option_map (λ t. digits_value 10 (without_leading_plus t))) v.1 ∙ sym (unsigned_number G v.0 r read only v.2)

pub steps_are : {E : Type 0} (f : Found) (G : List ℕ → Result ℕ E → Type 0) (r : Option ℕ) → FillsRules check_rules (rows_of f)
    → (one_text f (codes "steps-at-most") ≡ None → r ≡ None)
    → ((t : List ℕ) → one_text f (codes "steps-at-most") ≡ Some t → ReadsOne G t r)
    → ((u : List ℕ) (x : Result ℕ E) → G u x → ParsesUnsigned 64 10 u x) → number_of (codes "steps-at-most") (rows_of f) ≡ r
steps_are f G r fills none reads only = go (one_of (codes "steps-at-most") (rows_of f)) refl
  where
    go : (o : Option Text) → one_of (codes "steps-at-most") (rows_of f) ≡ o → number_of (codes "steps-at-most") (rows_of f) ≡ r
    go None is = ap (option_map (λ t. digits_value 10 (without_leading_plus t))) is
        ∙ sym (none (one_text-rows f (codes "steps-at-most") ∙ is))
    go (Some t) is = ap (option_map (λ t. digits_value 10 (without_leading_plus t))) is
        ∙ sym (steps_number G t r (reads t (one_text-rows f (codes "steps-at-most") ∙ is)) only (check_steps (rows_of f) t fills is))

-- the number of an argument that has a row is there
pub has_depth : (rows : List Row) → FillsRules run_rules rows → number_of (codes "depth") rows ≡ None → ⊥
has_depth rows fills none = true≢false
    (ap is_some (sym (ap (option_map (λ t. digits_value 10 (without_leading_plus t))) (run_depth rows fills).1) ∙ none))

pub has_width : (rows : List Row) → FillsRules fmt_rules rows → number_of (codes "width") rows ≡ None → ⊥
has_width rows fills none = true≢false
    (ap is_some (sym (ap (option_map (λ t. digits_value 10 (without_leading_plus t))) (fmt_width rows fills).1) ∙ none))

-- a flag that reads `true` or `false`
pub flag_reads : (o : Option Text) (b : Bool) → (o ≡ Some (codes "true")) ⊎ (o ≡ Some (codes "false"))
    → (o ≡ Some (codes "true") → b ≡ true) → (o ≡ Some (codes "false") → b ≡ false) → option_map_or (λ t. bytes_eq t (codes "true")) o false ≡ b
flag_reads o b (inl e) given other = ap (λ p. option_map_or (λ t. bytes_eq t (codes "true")) p false) e ∙ sym (given e)
flag_reads o b (inr e) given other = ap (λ p. option_map_or (λ t. bytes_eq t (codes "true")) p false) e ∙ sym (other e)

-- the texts behind a slice that was found
pub found_texts : (o : Option (Bor (List (Bor Text)))) (d got : Bor (List (Bor Text))) (vs : List Text)
    → option_map (λ s. map (λ v. v.now) s.now) o ≡ Some vs → got ≡ unwrap_or o d → map (λ v. v.now) got.now ≡ vs
found_texts None d got vs is e = absurd (true≢false (sym (ap is_some is)))
found_texts (Some s) d got vs is e = ap (λ (b : Bor (List (Bor Text))). map (λ (v : Bor Text). v.now) b.now) e ∙ ap (λ o. unwrap_or o vs) is

-- the copies of the texts of a slice that was found
pub files_read : (f : Found) (vs : List Text) (o : Option (Bor (List (Bor Text)))) (d got : Bor (List (Bor Text))) (v : Vec (String Global) Global)
    → all_of (codes "file") (rows_of f) ≡ Some vs → option_map (λ s. map (λ x. x.now) s.now) o ≡ option_map raw_values (matched_of f (codes "file"))
    → got ≡ unwrap_or o d → names_of v ≡ map (λ x. x.now) got.now → (all_of (codes "file") (rows_of f) ≡ Some (names_of v)) × (vec_len v ≡ length vs)
files_read f vs o d got v values found is copied =
    let names = copied ∙ found_texts o d got vs (found ∙ raw_values-rows f (codes "file") ∙ values) is in
    (values ∙ ap Some (sym names), v.ok.0 ∙ sym (length-map (vec_items v) string_bytes) ∙ ap length names)

-- the texts behind a slice, none where none was found
any_texts : (o : Option (Bor (List (Bor Text)))) (d got : Bor (List (Bor Text))) → d.now ≡ [] → got ≡ unwrap_or o d
    → map (λ v. v.now) got.now ≡ unwrap_or (option_map (λ s. map (λ v. v.now) s.now) o) []
any_texts None d got none e = ap (λ (b : Bor (List (Bor Text))). map (λ (v : Bor Text). v.now) b.now) e ∙ ap
    (λ (l : List (Bor Text)). map (λ (v : Bor Text). v.now) l) none
any_texts (Some s) d got none e = ap (λ (b : Bor (List (Bor Text))). map (λ (v : Bor Text). v.now) b.now) e

-- the copies of the texts of an option that may be given any number of times
pub names_read : (f : Found) (id : Text) (o : Option (Bor (List (Bor Text)))) (d got : Bor (List (Bor Text))) (v : Vec (String Global) Global)
    → d.now ≡ [] → option_map (λ s. map (λ x. x.now) s.now) o ≡ option_map raw_values (matched_of f id)
    → got ≡ unwrap_or o d → names_of v ≡ map (λ x. x.now) got.now → each_of id (rows_of f) ≡ names_of v
names_read f id o d got v none found is copied =
    ap (λ (l : Option (List Text)). unwrap_or l []) (sym (found ∙ raw_values-rows f id)) ∙ sym (any_texts o d got none is) ∙ sym copied
