-- The rows of words with no fault are what the arguments ask.
use Rattle.std.proofs.Common.{◌≡◌, ◌∙◌, ◌<◌, ◌&&◌, ◌||◌, Bool, cond, true, false, not, refl, sym, ap, ap₂, subst, List, [], ◌∷◌, ◌++◌, Some}
use Rattle.std.proofs.Common.{true≢false, fold, length, arith, ⊎_elim}
use Rattle.std.specs.List.{find, list_any}
use Rattle.std.specs.Option.{option_map_or}
use Rattle.std.specs.Str.{bytes_eq}
use Rattle.std.proofs.lemmas.Bool.{cond_both, or_left, or_right}
use Rattle.std.proofs.lemmas.Slice.Eq.{bytes_eq-Decides}
use Rattle.clap.specs.Facts.{explicit_source}
use Rattle.clap.specs.Kinds.{Kinds, check_kinds}
use Rattle.clap.specs.Walk.{Names, Row, Rule, Text, at_row, arg_by_id, default_rows, finished, has_row, more_values, nothing_held, reading_by}
use Rattle.clap.specs.Walk.{rows_after, settled, walk, walk_from, with_default}
use Rattle.clap.specs.Simple.{Shape}
use Rattle.clap.specs.Takes.{is_given}
use Rattle.clap.specs.Faults.{defaults_fault, level_fault, settle_fault, walk_fault}
use Rattle.clap.specs.declared.parser.matches.ValueSource.{ValueSource}
use Rattle.clap.specs.declared.parser.matches.ValueSource.TheVariants.{DefaultValue}
use Rattle.islec.proofs.WalkRows.{OwnRules, both_none, level_fits, some_kind}
use Rattle.islec.specs.Inside.Rows.{Each, FillsRules, FitsRow, FitsRule, HasItsRow}

-- ---- defaults

put_there : (id : Text) (change : Row → List Row) (new : Row) (rows : List Row) → bytes_eq new.id id ≡ true
    → ((r : Row) → (x : Row) × (change r ≡ x ∷ []) × (x.id ≡ r.id))
    → has_row id (at_row id change (new ∷ []) rows) ≡ true
put_there id change new [] is one = or_left _ _ is
put_there id change new (r ∷ rs) is one = cond_both (bytes_eq r.id id) (change r ++ rs) (r ∷ at_row id change (new ∷ []) rs)
    (λ rows. has_row id rows ≡ true)
    (λ e. let x = one r in subst (λ (l : List Row). has_row id (l ++ rs) ≡ true) (sym x.1) (or_left _ _ (ap (λ t. bytes_eq t id) x.2 ∙ e)))
    (λ e. or_right _ _ (put_there id change new rs is one))

kept_row : (id other : Text) (change : Row → List Row) (new : Row) (rows : List Row) → ((r : Row) → (x : Row) × (change r ≡ x ∷ []) × (x.id ≡ r.id))
    → has_row id rows ≡ true → has_row id (at_row other change (new ∷ []) rows) ≡ true
kept_row id other change new [] one has = absurd (true≢false (sym has))
kept_row id other change new (r ∷ rs) one has = cond_both (bytes_eq r.id other) (change r ++ rs) (r ∷ at_row other change (new ∷ []) rs)
    (λ rows. has_row id rows ≡ true)
    (λ e. let x = one r in subst (λ (l : List Row). has_row id (l ++ rs) ≡ true) (sym x.1) (ap (λ t. bytes_eq t id || has_row id rs) x.2 ∙ has))
    (λ e. split (bytes_eq r.id id) has (kept_row id other change new rs one))
  where
    split : (b : Bool) → (b || has_row id rs) ≡ true → (has_row id rs ≡ true → has_row id (at_row other change (new ∷ []) rs) ≡ true)
        → (b || has_row id (at_row other change (new ∷ []) rs)) ≡ true
    split true has rest = refl
    split false has rest = rest has

more_is_one : (s : ValueSource) (values : List Text) (r : Row) → (x : Row) × (more_values s values r ≡ x ∷ []) × (x.id ≡ r.id)
more_is_one s values r = (_, refl, refl)

default_keeps : (id : Text) (a : Rule) (rows : List Row) → has_row id rows ≡ true → has_row id (with_default rows a) ≡ true
default_keeps id a rows has = cond_both (has_row a.id rows) rows (default_rows a.id (reading_by a) a.defaults rows) (λ l. has_row id l ≡ true)
    (λ e. has)
    (λ e. values a.defaults)
  where
    values : (vs : List Text) → has_row id (default_rows a.id (reading_by a) vs rows) ≡ true
    values [] = has
    values (v ∷ vs) = kept_row id a.id (more_values DefaultValue (v ∷ vs)) _ rows (more_is_one DefaultValue (v ∷ vs)) has

default_there : (a : Rule) (rows : List Row) → 0 < length a.defaults → has_row a.id (with_default rows a) ≡ true
default_there a rows some = cond_both (has_row a.id rows) rows (default_rows a.id (reading_by a) a.defaults rows) (λ l. has_row a.id l ≡ true)
    (λ e. e)
    (λ e. values a.defaults some)
  where
    values : (vs : List Text) → 0 < length vs → has_row a.id (default_rows a.id (reading_by a) vs rows) ≡ true
    values [] some = absurd (omega arith)
    values (v ∷ vs) some = put_there a.id (more_values DefaultValue (v ∷ vs)) _ rows ((bytes_eq-Decides a.id a.id).1 refl)
        (more_is_one DefaultValue (v ∷ vs))

fold_keeps : (id : Text) (rules : List Rule) (rows : List Row) → has_row id rows ≡ true → has_row id (fold with_default rows rules) ≡ true
fold_keeps id [] rows has = has
fold_keeps id (a ∷ rest) rows has = fold_keeps id rest (with_default rows a) (default_keeps id a rows has)

defaults_there : (rules : List Rule) (rows : List Row) → Each (λ a. 0 < length a.defaults → has_row a.id (fold with_default rows rules) ≡ true) rules
defaults_there [] rows = tt
defaults_there (a ∷ rest) rows =
    (λ some. fold_keeps a.id rest (with_default rows a) (default_there a rows some), defaults_there rest (with_default rows a))

-- ---- what is required

third_kind : (p q r : Bool) → check_kinds p q r ≡ [] → r ≡ false
third_kind true q r e = some_kind _ _ e
third_kind false true r e = some_kind _ _ e
third_kind false false true e = some_kind _ _ e
third_kind false false false e = refl

second_kind : (p q r : Bool) → check_kinds p q r ≡ [] → q ≡ false
second_kind true q r e = some_kind _ _ e
second_kind false true r e = some_kind _ _ e
second_kind false false r e = refl

none_of : {X : Type 0} (f : X → Bool) (xs : List X) → list_any f xs ≡ false → Each (λ x. f x ≡ false) xs
none_of f [] e = tt
none_of f (x ∷ xs) e = split (f x) refl e (none_of f xs)
  where
    split : (b : Bool) → f x ≡ b → (b || list_any f xs) ≡ false → (list_any f xs ≡ false → Each (λ y. f y ≡ false) xs)
        → (f x ≡ false) × Each (λ y. f y ≡ false) xs
    split true is e rest = absurd (true≢false e)
    split false is e rest = (is, rest e)

found_any : {X : Type 0} (f g : X → Bool) (xs : List X) → option_map_or g (find f xs) false ≡ true → list_any f xs ≡ true
found_any f g [] e = absurd (true≢false (sym e))
found_any f g (x ∷ xs) e = split (f x) e (found_any f g xs)
  where
    split : (b : Bool) → option_map_or g (cond b (Some x) (find f xs)) false ≡ true
        → (option_map_or g (find f xs) false ≡ true → list_any f xs ≡ true) → (b || list_any f xs) ≡ true
    split true e rest = refl
    split false e rest = rest e

wanted : (a : Rule) (rows : List Row) → (a.required && not (is_given a.id rows)) ≡ false → a.required ≡ true → has_row a.id rows ≡ true
wanted a rows e required = found_any (λ r. bytes_eq r.id a.id) (λ r. explicit_source r.source) rows (go a.required (is_given a.id rows) required e)
  where
    go : (b g : Bool) → b ≡ true → (b && not g) ≡ false → g ≡ true
    go true true t e = refl
    go true false t e = absurd (true≢false e)
    go false g t e = absurd (true≢false (sym t))

both_rows : (rows : List Row) (xs : List Rule) → Each (λ a. 0 < length a.defaults → has_row a.id rows ≡ true) xs
    → Each (λ a. (a.required && not (is_given a.id rows)) ≡ false) xs → Each (HasItsRow rows) xs
both_rows rows [] d r = tt
both_rows rows (a ∷ rest) d r = (λ w. ⊎_elim (λ t. wanted a rows r.0 t) (λ t. d.0 t) w, both_rows rows rest d.1 r.1)

-- a level with no fault fills its arguments, and passes what else is asked
pub level_fills : (s : Shape) (c : List Rule) (words : List Text) → s.rules ≡ c → s.args_override_self ≡ false → s.subcommand_negates_reqs ≡ false
    → OwnRules c
    → level_fault s [] nothing_held words false [] ≡ [] → FillsRules c (rows_after c [] words)
level_fills s c words rules off local own e =
    let f = level_fits c own s [] words false [] rules off e in
    let rows = rows_after c [] words in
    let asked = third_kind _ _ _ f.2 in
    let none : list_any (λ a. a.required && not (is_given a.id rows)) c ≡ false =
    ap₂ (λ b rs. not (b && false) && list_any (λ (a : Rule). a.required && not (is_given a.id rows)) rs) (sym local) (sym rules) ∙ asked in
    record {
      fits = f.0;
      whole = both_rows rows c (defaults_there c (settled c (walk c [] nothing_held words).held).rows) (none_of _ c none);
    }

-- the row of an argument that must have one, which fits it
pub row_of_rule : (c : List Rule) (a : Rule) (rows : List Row) → arg_by_id c a.id ≡ Some a → Each (FitsRow c) rows → has_row a.id rows ≡ true
    → (r : Row) × (find (λ x. bytes_eq x.id a.id) rows ≡ Some r) × FitsRule a r
row_of_rule c a [] own fits has = absurd (true≢false (sym has))
row_of_rule c a (r ∷ rs) own fits has = split (bytes_eq r.id a.id) refl has (row_of_rule c a rs own fits.1)
  where
    split : (b : Bool) → bytes_eq r.id a.id ≡ b → (b || has_row a.id rs) ≡ true
        → (has_row a.id rs ≡ true → (x : Row) × (find (λ x. bytes_eq x.id a.id) rs ≡ Some x) × FitsRule a x)
        → (x : Row) × (cond b (Some r) (find (λ x. bytes_eq x.id a.id) rs) ≡ Some x) × FitsRule a x
    split true is has rest = (r, refl, fits.0 a (ap (arg_by_id c) ((bytes_eq-Decides r.id a.id).0 is) ∙ own))
    split false is has rest = rest has

-- a level with no fault that wants a subcommand has one, and its words and those below have no fault
pub level_asks : (s : Shape) (names : Names) (words : List Text) (has : Bool) (below : Kinds) → level_fault s names nothing_held words has below ≡ []
    → (walk_fault s names (walk_from nothing_held) words ≡ []) × (below ≡ []) × ((not has && s.subcommand_required) ≡ false)
level_asks s names words has below e =
    let end = (walk s.rules names nothing_held words).held in
    let p = both_none (walk_fault s names (walk_from nothing_held) words) _ e in
    let q = both_none below _ p.1 in
    let r = both_none (settle_fault s.rules s.args_override_self end) _ q.1 in
    let t = both_none (defaults_fault (settled s.rules end).rows s.rules) _ r.1 in
    let rows = finished s.rules end in (
      p.0,
      q.0,
      second_kind (not has && (s.arg_required_else_help && not (list_any (λ (x : Row). explicit_source x.source) rows)))
          (not has && s.subcommand_required)
          (not (s.subcommand_negates_reqs && has) && list_any (λ (a : Rule). a.required && not (is_given a.id rows)) s.rules) t.1,
    )
