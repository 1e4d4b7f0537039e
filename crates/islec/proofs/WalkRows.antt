-- Words that a simple command takes give values that fit its arguments.
use Rattle.std.proofs.Common.{◌+◌, ◌≡◌, ◌∙◌, ◌<◌, ◌≤◌, ◌&&◌, ◌||◌, ℕ, Bool, cond, true, false, zero, suc, refl, sym, ap, ap₂, subst, arith, List, []}
use Rattle.std.proofs.Common.{◌∷◌, ◌++◌, length, Option, Some, None, is_some, true≢false, append-nil, fold, ◌==◌, nat_lt, eqb-true, ne_eqb, ◌⊎◌}
use Rattle.std.proofs.Common.{inl, inr}
use Rattle.std.specs.Prelude.{⊤, slice_get, unwrap_or}
use Rattle.std.specs.List.{find, list_all}
use Rattle.std.specs.Option.{option_map_or}
use Rattle.std.specs.Str.{bytes_eq, chars}
use Rattle.std.proofs.lemmas.Bool.{cond_both, cond-true, cond-false, ltb-false}
use Rattle.std.proofs.lemmas.Slice.Eq.{bytes_eq-Decides}
use Rattle.std.proofs.lemmas.List.Folds.{list_all-append}
use Rattle.clap.specs.Lexer.{long_of, short_of}
use Rattle.clap.specs.Facts.{parser_of_value, unwrap_or_range}
use Rattle.clap.specs.Values.{refused_kind}
use Rattle.clap.specs.ValueTests.{accepts}
use Rattle.clap.specs.Kinds.{Kinds, or_else, range_kinds, request_kinds, value_kinds, values_kinds}
use Rattle.clap.specs.Walk.{Held, Names, Outcome, Row, Rule, Step, Text, Waiting, Walk, action_of, after_flag, after_step, arg_by_id, arg_by_index}
use Rattle.clap.specs.Walk.{arg_by_long, arg_by_short, at_row, attached_value, bundle, bundle_met, bundle_step, default_rows, done, flag_met}
use Rattle.clap.specs.Walk.{has_row, idle, is_empty, is_pending, long_met, long_or_other, more_values, most_values, next, nothing_held, option}
use Rattle.clap.specs.Walk.{option_met, option_word, plain, plain_word, positional, positional_held, reacted, reading_by, refused, rows_after}
use Rattle.clap.specs.Walk.{settled, settled_rows, short_met, short_or_plain, subcommand, subcommand_met, subcommand_or_other, takes_several}
use Rattle.clap.specs.Walk.{takes_values, to_positional, trailing, used, used_as, used_by_id, value, values_or_missing, waits, walk, walk_from}
use Rattle.clap.specs.Walk.{walked, walked_from, with_default, with_values, without, word_met}
use Rattle.clap.specs.Simple.{Shape}
use Rattle.clap.specs.Faults.{action_fault, bundle_step_fault, bundle_fault, check_fault, default_fault, defaults_fault, flag_word_fault}
use Rattle.clap.specs.Faults.{flags_fault, given_default_fault, level_fault, long_fault, option_fault, other_fault, positional_fault, react_fault}
use Rattle.clap.specs.Faults.{repeat_fault, settle_fault, short_fault, step_fault, stray_fault, turn_fault, use_fault, values_fault, walk_fault}
use Rattle.clap.specs.Faults.{word_fault}
use Rattle.clap.specs.declared.builder.ArgAction.{ArgAction}
use Rattle.clap.specs.declared.builder.ArgAction.TheVariants as action
use Rattle.clap.specs.declared.builder.ValueParser.{ValueParser}
use Rattle.clap.specs.declared.error.kind.ErrorKind.{ErrorKind}
use Rattle.clap.specs.declared.error.kind.ErrorKind.TheVariants as kind
use Rattle.clap.specs.declared.parser.matches.ValueSource.{ValueSource}
use Rattle.clap.specs.declared.parser.matches.ValueSource.TheVariants.{CommandLine, DefaultValue}
use Rattle.islec.specs.Inside.Rows.{Each, FitsRow, FitsRule}

-- an action that keeps at least `n` values, which are some, or that asks for help
abbrev pub KeepsSome : ArgAction → ℕ → Type 0
KeepsSome action.Count n = ⊥
KeepsSome action.Set n = 0 < n
KeepsSome action.SetTrue n = 0 < n
KeepsSome action.SetFalse n = 0 < n
KeepsSome action.Append n = 0 < n
KeepsSome _ n = ⊤

-- an argument of its own name, each use of which has a value
pub record IsOwnRule (c : List Rule) (a : Rule) : Type 0 where
  pub own : arg_by_id c a.id ≡ Some a
  pub keeps : KeepsSome (action_of a) ((unwrap_or_range a.range).start_inclusive + length a.missing)
  pub wants : action_of a ≡ action.Set → 0 < (unwrap_or_range a.range).start_inclusive
  pub default : action_of a ≡ action.Set → length a.defaults ≤ most_values a

-- no kind comes of both only where none comes of either
pub both_none : (a b : Kinds) → or_else a b ≡ [] → (a ≡ []) × (b ≡ [])
both_none [] b e = (refl, e)
both_none (k ∷ ks) b e = absurd (omega (arith, ap length e))

-- a list with an element is not empty
pub some_kind : {A : Type 0} (k : ErrorKind) (ks : Kinds) → k ∷ ks ≡ [] → A
some_kind k ks e = absurd (omega (arith, ap length e))

pub picked : {X : Type 0} (P : X → Type 0) (p : X → Bool) (xs : List X) (x : X) → Each P xs → find p xs ≡ Some x → P x
picked P p [] x all e = absurd (true≢false (sym (ap is_some e)))
picked P p (y ∷ ys) x all e = go (p y) (picked P p ys x all.1) e
  where
    go : (b : Bool) → (find p ys ≡ Some x → P x) → cond b (Some y) (find p ys) ≡ Some x → P x
    go true rest same = subst P (ap (λ o. unwrap_or o y) same) all.0
    go false rest same = rest same

value_accepted : (i : Bool) (q : ValueParser) (v : Text) → value_kinds i q v ≡ [] → accepts i q v ≡ true
value_accepted i q v e = go (accepts i q v) e
  where
    go : (b : Bool) → cond b [] (refused_kind q ∷ []) ≡ [] → b ≡ true
    go true h = refl
    go false h = some_kind _ _ h

values_accepted : (i : Bool) (q : ValueParser) (vs : List Text) → values_kinds i q vs ≡ [] → list_all (accepts i q) vs ≡ true
values_accepted i q [] e = refl
values_accepted i q (v ∷ vs) e =
    let p = both_none (value_kinds i q v) _ e in
    rw (value_accepted i q v p.0) (values_accepted i q vs p.1)

-- ---- rows

fresh : (id : Text) (change : Row → List Row) (missing rows : List Row) → has_row id rows ≡ false → at_row id change missing rows ≡ rows ++ missing
fresh id change missing [] e = refl
fresh id change missing (r ∷ rs) e = go (bytes_eq r.id id) (fresh id change missing rs) e
  where
    go : (b : Bool) → (has_row id rs ≡ false → at_row id change missing rs ≡ rs ++ missing) → (b || has_row id rs) ≡ false
        → cond b (change r ++ rs) (r ∷ at_row id change missing rs) ≡ r ∷ (rs ++ missing)
    go true rest h = absurd (true≢false h)
    go false rest h = ap (λ l. r ∷ l) (rest h)

pub each_more : {X : Type 0} (P : X → Type 0) (xs ys : List X) → Each P xs → Each P ys → Each P (xs ++ ys)
each_more P [] ys a b = b
each_more P (x ∷ xs) ys a b = (a.0, each_more P xs ys a.1 b)

changed : (P : Row → Type 0) (id : Text) (change : Row → List Row) (missing rows : List Row) → Each P rows → Each P missing
    → ((r : Row) → bytes_eq r.id id ≡ true → P r → Each P (change r)) → Each P (at_row id change missing rows)
changed P id change missing [] all new more = new
changed P id change missing (r ∷ rs) all new more = cond_both (bytes_eq r.id id) (change r ++ rs) (r ∷ at_row id change missing rs) (Each P)
    (λ e. each_more P (change r) rs (more r e all.0) all.1)
    (λ e. (all.0, changed P id change missing rs all.1 new more))

-- a row of an argument of its own name fits where it fits that argument
own_row : (c : List Rule) (a : Rule) (r : Row) → IsOwnRule c a → r.id ≡ a.id → FitsRule a r → FitsRow c r
own_row c a r own is fits b found = subst (λ (x : Rule). FitsRule x r)
    (ap (λ o. unwrap_or o a) (sym own.own ∙ ap (arg_by_id c) (sym is) ∙ found)) fits

-- values that are new
put_fits : (c : List Rule) (a : Rule) (s : ValueSource) (values : List Text) (rows : List Row) → IsOwnRule c a → Each (FitsRow c) rows
    → has_row a.id rows ≡ false
    → 0 < length values → values_fault a values ≡ [] → (action_of a ≡ action.Set → length values ≤ most_values a)
    → Each (FitsRow c) (with_values a.id (reading_by a) s values rows)
put_fits c a s values rows own all none some passes most =
    subst (Each (FitsRow c)) (sym (fresh a.id (more_values s values) _ rows none)) (each_more (FitsRow c) rows _ all (
      own_row c a _ own refl (record { filled = some; passes = values_accepted _ _ values passes; reads = refl; most = most }),
      tt,
    ))

more_length : (xs ys : List Text) → 0 < length xs → 0 < length (xs ++ ys)
more_length [] ys h = absurd (omega arith)
more_length (x ∷ xs) ys h = omega arith

-- values that join those there are
join_fits : (c : List Rule) (a : Rule) (s : ValueSource) (values : List Text) (rows : List Row) → IsOwnRule c a → Each (FitsRow c) rows
    → 0 < length values → values_fault a values ≡ [] → (action_of a ≡ action.Set → ⊥)
    → Each (FitsRow c) (with_values a.id (reading_by a) s values rows)
join_fits c a s values rows own all some passes append =
    let accepted = values_accepted _ _ values passes in
    changed (FitsRow c) a.id (more_values s values) _ rows all
    (own_row c a _ own refl (record { filled = some; passes = accepted; reads = refl; most = λ e. absurd (append e) }), tt)
    (λ r same fits.
    let is : r.id ≡ a.id = (bytes_eq-Decides r.id a.id).0 same in
    let old = fits a (ap (arg_by_id c) is ∙ own.own) in (
      own_row c a _ own is (record {
        filled = more_length r.values values old.filled;
        passes = list_all-append (accepts a.ignore_case (parser_of_value a.parser)) r.values values ∙ rw (old.passes, accepted) refl;
        reads = old.reads;
        most = λ e. absurd (append e);
      }),
      tt,
    ))

no_repeat : (id : Text) (rows : List Row) → repeat_fault false id rows ≡ [] → has_row id rows ≡ false
no_repeat id rows e = go (has_row id rows) e
  where
    go : (b : Bool) → cond (b && true) (kind.ArgumentConflict ∷ []) [] ≡ [] → b ≡ false
    go true h = some_kind _ _ h
    go false h = refl

abbrev is_append : ArgAction → Bool
is_append action.Append = true
is_append _ = false

append_is : action.Append ≡ action.Set → ⊥
append_is e = true≢false (ap is_append e)

-- one use of an argument whose values are kept once
set_fits : (c : List Rule) (a : Rule) (values : List Text) (rows : List Row) → IsOwnRule c a → Each (FitsRow c) rows
    → or_else (repeat_fault false a.id rows) (values_fault a values) ≡ [] → 0 < length values
    → (action_of a ≡ action.Set → length values ≤ most_values a)
    → Each (FitsRow c) (with_values a.id (reading_by a) CommandLine values (without a.id rows))
set_fits c a values rows own all e some most =
    let p = both_none (repeat_fault false a.id rows) _ e in
    let none = no_repeat a.id rows p.0 in
    let kept : without a.id rows ≡ rows = fresh a.id (λ _. []) [] rows none ∙ append-nil rows in
    subst (λ (l : List Row). Each (FitsRow c) (with_values a.id (reading_by a) CommandLine values l)) (sym kept)
    (put_fits c a CommandLine values rows own all none some p.1 most)

action_fits : (x : ArgAction) (n : ℕ) (c : List Rule) (a : Rule) (values : List Text) (rows : List Row) → action_of a ≡ x → KeepsSome x n
    → IsOwnRule c a
    → Each (FitsRow c) rows → action_fault x false a values rows ≡ [] → (0 < n → 0 < length values)
    → (action_of a ≡ action.Set → length values ≤ most_values a)
    → Each (FitsRow c) (used_as x a.id (reading_by a) values rows)
action_fits action.Set n c a values rows is known own all e some most = set_fits c a values rows own all e (some known) most
action_fits action.SetTrue n c a values rows is known own all e some most = set_fits c a values rows own all e (some known) most
action_fits action.SetFalse n c a values rows is known own all e some most = set_fits c a values rows own all e (some known) most
action_fits action.Append n c a values rows is known own all e some most =
    join_fits c a CommandLine values rows own all (some known) e (λ s. append_is (sym is ∙ s))
action_fits action.Count n c a values rows is known own all e some most = absurd known
action_fits action.Help n c a values rows is known own all e some most = all
action_fits action.HelpShort n c a values rows is known own all e some most = all
action_fits action.HelpLong n c a values rows is known own all e some most = all
action_fits action.Version n c a values rows is known own all e some most = all

first_kinds : (k l m o : ErrorKind) (p q r t u : Bool) → cond p (k ∷ []) (cond q (cond r [] (l ∷ [])) (cond t (m ∷ []) (cond u (o ∷ []) []))) ≡ []
    → ((q ≡ true) × (r ≡ true)) ⊎ ((t ≡ false) × (u ≡ false))
first_kinds k l m o true q r t u e = some_kind _ _ e
first_kinds k l m o false true true t u e = inl (refl, refl)
first_kinds k l m o false true false t u e = some_kind _ _ e
first_kinds k l m o false false r true u e = some_kind _ _ e
first_kinds k l m o false false r false true e = some_kind _ _ e
first_kinds k l m o false false r false false e = inr (refl, refl)

-- a use with no fault has as many values as its argument wants
in_range : (least most n : ℕ) → range_kinds least most n ≡ [] → (least ≤ n) × (n ≤ most)
in_range least most n e = elim (first_kinds _ _ _ _ (nat_lt 0 least && n == 0) (least == most) (least == n) (nat_lt n least) (nat_lt most n) e) [
  | inl h ↦
      let same = eqb-true least most h.0 in
      let is = eqb-true least n h.1 in
      (omega arith, omega arith)
  | inr h ↦ (ltb-false n least h.0, ltb-false most n h.1)
]

-- ---- one use

used_fits : (c : List Rule) (a : Rule) (values : List Text) (rows : List Row) → IsOwnRule c a → Each (FitsRow c) rows
    → use_fault false a values rows ≡ []
    → Each (FitsRow c) (used a values rows)
used_fits c a values rows own all e =
    let p = both_none (range_kinds (unwrap_or_range a.range).start_inclusive (most_values a) (length values)) _ e in
    let range = in_range _ _ _ p.0 in
    given values range p.1
  where
    given : (vs : List Text) → ((unwrap_or_range a.range).start_inclusive ≤ length vs) × (length vs ≤ most_values a)
        → action_fault (action_of a) false a (values_or_missing a vs) rows ≡ [] → Each (FitsRow c) (used a vs rows)
    given [] range h = action_fits (action_of a) _ c a a.missing rows refl own.keeps own all h (λ n. omega arith)
        (λ set. let wants = own.wants set in absurd (omega arith))
    given (v ∷ vs) range h = action_fits (action_of a) _ c a (v ∷ vs) rows refl own.keeps own all h (λ n. omega arith) (λ set. range.1)

-- ---- the walk

abbrev pub OwnRules : List Rule → Type 0
OwnRules c = Each (IsOwnRule c) c

abbrev pub Fits : List Rule → List Row → Type 0
Fits c rows = Each (FitsRow c) rows

module _ (c : List Rule) (own : OwnRules c) where
  settle_fits : (h : Held) → Fits c h.rows → settle_fault c false h ≡ [] → Fits c (settled c h).rows
  settle_fits h all e = pend h.pending e
    where
      pend : (p : Option (Text × List Text)) → option_map_or (λ q. option_map_or (λ a. use_fault false a q.1 h.rows) (arg_by_id c q.0) []) p [] ≡ []
          → Fits c (settled_rows c p h.rows)
      pend None e = all
      pend (Some q) e = named (arg_by_id c q.0) refl e
        where
          named : (o : Option Rule) → arg_by_id c q.0 ≡ o → option_map_or (λ a. use_fault false a q.1 h.rows) o [] ≡ []
              → Fits c (used_by_id o q.1 h.rows)
          named None is e = all
          named (Some a) is e = used_fits c a q.1 h.rows (picked (IsOwnRule c) _ c a own is) all e

  react_fits : (a : Rule) (values : List Text) (h : Held) → IsOwnRule c a → Fits c h.rows → react_fault c false a values h ≡ []
      → Fits c (reacted c a values h).rows
  react_fits a values h is all e =
      let p = both_none (settle_fault c false h) _ e in
      used_fits c a values (settled c h).rows is (settle_fits h all p.0) p.1

  option_fits : (a : Rule) (v : Option Text) (h : Held) → IsOwnRule c a → Fits c h.rows → option_fault c false a v h ≡ []
      → Fits c (option_met c a v h).0.rows
  option_fits a None h is all e = settle_fits h all e
  option_fits a (Some v) h is all e = react_fits a (v ∷ []) h is all e

  long_fits : (o : Option Rule) (v : Option Text) (h : Held) → ((a : Rule) → o ≡ Some a → IsOwnRule c a) → Fits c h.rows
      → long_fault c false o v h ≡ []
      → Fits c (long_met c o v h).0.rows
  long_fits None v h of all e = all
  long_fits (Some a) v h of all e = cond_both (takes_values a) (option_met c a v h) (flag_met c a v h) (λ m. Fits c m.0.rows)
      (λ t. option_fits a v h (of a refl) all (sym (cond-true (takes_values a) _ _ t) ∙ e))
      (λ t. flag v (sym (cond-false (takes_values a) _ _ t) ∙ e))
    where
      flag : (v : Option Text) → cond (is_some v) (kind.TooManyValues ∷ []) (react_fault c false a [] h) ≡ [] → Fits c (flag_met c a v h).0.rows
      flag None e = react_fits a [] h (of a refl) all e
      flag (Some x) e = all

  abbrev BundleFits : (List ℕ → ℕ → Outcome → Held → Held × Outcome) → (List ℕ → ℕ → Held → Kinds) → Type 0
  BundleFits met fault = (flags : Text) (skip : ℕ) (so_far : Outcome) (h : Held) → Fits c h.rows → fault flags skip h ≡ []
      → Fits c (met flags skip so_far h).0.rows

  short_fits : (o : Option Rule) (rest : Text) (h : Held) (met : Held → Held × Outcome) (fault : Held → Kinds)
      → ((a : Rule) → o ≡ Some a → IsOwnRule c a)
      → ((g : Held) → Fits c g.rows → fault g ≡ [] → Fits c (met g).0.rows)
      → Fits c h.rows → short_fault c false o rest h fault ≡ [] → Fits c (short_met c o rest h met).0.rows
  short_fits None rest h met fault of more all e = all
  short_fits (Some a) rest h met fault of more all e = cond_both (takes_values a) (option_met c a (attached_value rest) h) (met (reacted c a [] h))
      (λ m. Fits c m.0.rows)
      (λ t. option_fits a (attached_value rest) h (of a refl) all (sym (cond-true (takes_values a) _ _ t) ∙ e))
      (λ t.
      let p = both_none (react_fault c false a [] h) _ (sym (cond-false (takes_values a) _ _ t) ∙ e) in
      more (reacted c a [] h) (react_fits a [] h (of a refl) all p.0) p.1)

  step_fits : (o : Option ℕ) (flags : Text) (skip : ℕ) (so_far : Outcome) (h : Held) (met : Text → ℕ → Outcome → Held → Held × Outcome)
      (fault : Text → ℕ → Held → Kinds)
      → BundleFits met fault → Fits c h.rows → bundle_step_fault c false o flags skip h fault ≡ []
      → Fits c (bundle_step c o flags skip so_far h met).0.rows
  step_fits None flags skip so_far h met fault more all e = all
  step_fits (Some x) flags zero so_far h met fault more all e =
      short_fits (arg_by_short c x) _ h _ _ (λ a is. picked (IsOwnRule c) _ c a own is) (λ g fits none. more _ 0 done g fits none) all e
  step_fits (Some x) flags (suc skip) so_far h met fault more all e = more _ skip so_far h all e

  bundle_fits : (k : ℕ) → BundleFits (bundle_met c k) (flags_fault c false k)
  unfolding bundle_met flags_fault
  bundle_fits zero flags skip so_far h all e = all
  bundle_fits (suc k) flags skip so_far h all e =
      step_fits (slice_get (chars flags) 0) flags skip so_far h (bundle_met c k) (flags_fault c false k) (bundle_fits k) all e

  -- a word that is no flag is kept, and changes no row
  plain_keeps : (waiting : Waiting) (word : Text) (h : Held) → (plain_word c waiting word h).0.rows ≡ h.rows
  plain_keeps idle word h = refl
  plain_keeps positional word h = refl
  plain_keeps (option id) word h = go (arg_by_id c id)
    where
      go : (o : Option Rule) → (option_word o id word h).0.rows ≡ h.rows
      go None = refl
      go (Some a) = refl

  after_keeps : (waiting : Waiting) (word : Text) (h : Held) (outcome : Outcome) → (after_flag c waiting word h outcome).0.rows ≡ h.rows
  after_keeps waiting word h done = refl
  after_keeps waiting word h (waits id) = refl
  after_keeps waiting word h plain = plain_keeps waiting word h
  after_keeps waiting word h refused = plain_keeps waiting word h

  flag_word_fits : (o : Option (Text × Option Text)) (waiting : Waiting) (word : Text) (h : Held) → Fits c h.rows
      → flag_word_fault c false o word h ≡ []
      → Fits c (long_or_other c waiting word o h).0.rows
  flag_word_fits (Some p) waiting word h all e =
      subst (Fits c) (sym (after_keeps waiting word (long_met c (arg_by_long c p.0) p.1 h).0 (long_met c (arg_by_long c p.0) p.1 h).1))
      (long_fits (arg_by_long c p.0) p.1 h (λ a is. picked (IsOwnRule c) _ c a own is) all e)
  flag_word_fits None waiting word h all e = short (short_of word) e
    where
      short : (o : Option Text) → option_map_or (λ flags. bundle_fault c false flags h) o [] ≡ [] → Fits c (short_or_plain c waiting word o h).0.rows
      short None e = subst (Fits c) (sym (plain_keeps waiting word h)) all
      short (Some flags) e = subst (Fits c) (sym (after_keeps waiting word (bundle c flags h).0 (bundle c flags h).1))
          (bundle_fits (length flags) flags h.skip plain (record h { skip = 0 }) all e)

  other_fits : (s : Shape) (o : Option Text) (waiting : Waiting) (position : ℕ) (word : Text) (h : Held) → s.rules ≡ c
      → s.args_override_self ≡ false → Fits c h.rows
      → other_fault s o word h ≡ [] → Fits c (subcommand_or_other c o waiting position word h).0.rows
  other_fits s (Some name) waiting position word h rules off all e = all
  other_fits s None waiting position word h rules off all e =
      cond_both (bytes_eq word (45 ∷ 45 ∷ [])) (h, trailing position) (long_or_other c waiting word (long_of word) h) (λ m. Fits c m.0.rows)
      (λ t. all)
      (λ t. flag_word_fits (long_of word) waiting word h all
      (ap₂ (λ rs b. flag_word_fault rs b (long_of word) word h) (sym rules) (sym off) ∙ sym (cond-false (bytes_eq word (45 ∷ 45 ∷ [])) _ _ t) ∙ e))

  met_fits : (s : Shape) (names : Names) (w : Walk) (word : Text) → s.rules ≡ c → s.args_override_self ≡ false → Fits c w.held.rows
      → word_fault s names w.is_trailing w.waiting word w.held ≡ [] → Fits c (word_met c names w.is_trailing w.waiting w.position word w.held).0.rows
  met_fits s names w word rules off all e =
      cond_both w.is_trailing (w.held, value) (subcommand_or_other c (subcommand_met names w.waiting word) w.waiting w.position word w.held)
      (λ m. Fits c m.0.rows)
      (λ t. all)
      (λ t. other_fits s (subcommand_met names w.waiting word) w.waiting w.position word w.held rules off all
      (sym (cond-false w.is_trailing _ _ t) ∙ e))

  given_fits : (again : Bool) (a : Rule) (word : Text) (h : Held) → again ≡ false → Fits c h.rows → positional_fault c again a h ≡ []
      → Fits c (positional_held c a word h).rows
  given_fits again a word h off all e =
      cond_both (is_pending a h.pending && takes_several a) h (settled c h) (λ m. Fits c m.rows)
      (λ t. all)
      (λ t. settle_fits h all (ap (λ b. settle_fault c b h) (sym off) ∙ sym (cond-false (is_pending a h.pending && takes_several a) _ _ t) ∙ e))

  placed_fits : (again : Bool) (o : Option Rule) (word : Text) (w : Walk) (h : Held) (stray : Kinds) → again ≡ false → Fits c h.rows
      → option_map_or (λ a. positional_fault c again a h) o stray ≡ [] → Fits c (to_positional c o word w h).held.rows
  placed_fits again None word w h stray off all e = all
  placed_fits again (Some a) word w h stray off all e = given_fits again a word h off all e

  after_fits : (s : Shape) (word : Text) (w : Walk) (h : Held) (step : Step) → s.rules ≡ c → s.args_override_self ≡ false → Fits c h.rows
      → step_fault s w.position h step ≡ [] → Fits c (after_step c word w h step).held.rows
  after_fits s word w h (next waiting) rules off all e = all
  after_fits s word w h (trailing position) rules off all e = all
  after_fits s word w h (subcommand name) rules off all e = all
  after_fits s word w h value rules off all e =
      placed_fits s.args_override_self (arg_by_index c w.position) word w h (stray_fault s) off all
      (ap (λ rs. option_map_or (λ a. positional_fault rs s.args_override_self a h) (arg_by_index rs w.position) (stray_fault s)) (sym rules) ∙ e)

  walked_fits : (s : Shape) (names : Names) (w : Walk) (word : Text) → s.rules ≡ c → s.args_override_self ≡ false → Fits c w.held.rows
      → turn_fault s names w word ≡ [] → Fits c (walked c names w word).held.rows
  unfolding walked
  walked_fits s names w word rules off all e = go w.stopped e
    where
      turn : Kinds
      turn = or_else (word_fault s names w.is_trailing w.waiting word w.held)
          (step_fault s w.position (word_met s.rules names w.is_trailing w.waiting w.position word w.held).0
          (word_met s.rules names w.is_trailing w.waiting w.position word w.held).1)

      go : (stop : Option (Text × List Text)) → cond (is_some stop) [] turn ≡ [] → Fits c (walked_from c names stop w word).held.rows
      go (Some p) e = all
      go None e =
          let p = both_none (word_fault s names w.is_trailing w.waiting word w.held) _ e in
          after_fits s word w _ _ rules off (met_fits s names w word rules off all p.0)
          (ap (λ rs. step_fault s w.position (word_met rs names w.is_trailing w.waiting w.position word w.held).0
          (word_met rs names w.is_trailing w.waiting w.position word w.held).1) (sym rules) ∙ p.1)

  walk_fits : (s : Shape) (names : Names) (w : Walk) (words : List Text) → s.rules ≡ c → s.args_override_self ≡ false → Fits c w.held.rows
      → walk_fault s names w words ≡ [] → Fits c (fold (walked c names) w words).held.rows
  unfolding walk_fault
  walk_fits s names w [] rules off all e = all
  walk_fits s names w (word ∷ rest) rules off all e =
      let p = both_none (turn_fault s names w word) _ e in
      walk_fits s names (walked c names w word) rest rules off (walked_fits s names w word rules off all p.0)
      (ap (λ rs. walk_fault s names (walked rs names w word) rest) (sym rules) ∙ p.1)

  -- ---- defaults

  default_fits : (a : Rule) (rows : List Row) → IsOwnRule c a → Fits c rows → default_fault rows a ≡ [] → Fits c (with_default rows a)
  default_fits a rows is all e = cond_both (has_row a.id rows) rows (default_rows a.id (reading_by a) a.defaults rows) (Fits c)
      (λ t. all)
      (λ none. put a.defaults (is.default) none (sym (ap (λ b. cond (b || is_empty a.defaults) [] (given_default_fault a a.defaults)) none) ∙ e))
    where
      put : (vs : List Text) → (action_of a ≡ action.Set → length vs ≤ most_values a) → has_row a.id rows ≡ false
          → cond (is_empty vs) [] (given_default_fault a vs) ≡ [] → Fits c (default_rows a.id (reading_by a) vs rows)
      put [] most none e = all
      put (v ∷ vs) most none e = put_fits c a DefaultValue (v ∷ vs) rows is all none (omega arith)
          (both_none (request_kinds (action_of a)) (values_fault a (v ∷ vs))
          (sym (cond-false (is_empty (v ∷ vs)) _ _ (ne_eqb _ _ (λ same. omega arith))) ∙ e)).1 most

  defaults_fit : (rules : List Rule) (rows : List Row) → Each (IsOwnRule c) rules → Fits c rows → defaults_fault rows rules ≡ []
      → Fits c (fold with_default rows rules)
  unfolding defaults_fault
  defaults_fit [] rows is all e = all
  defaults_fit (a ∷ rest) rows is all e =
      let p = both_none (default_fault rows a) _ e in
      defaults_fit rest (with_default rows a) is.1 (default_fits a rows is.0 all p.0) p.1

  -- the words of a level with no fault give rows that fit its arguments, and pass its last checks
  pub level_fits : (s : Shape) (names : Names) (words : List Text) (has : Bool) (below : Kinds) → s.rules ≡ c → s.args_override_self ≡ false
      → level_fault s names nothing_held words has below ≡ []
      → Fits c (rows_after c names words) × (below ≡ []) × (check_fault s (rows_after c names words) has ≡ []) ×
      (walk_fault s names (walk_from nothing_held) words ≡ [])
  level_fits s names words has below rules off e =
      let p = both_none (walk_fault s names (walk_from nothing_held) words) _ e in
      let q = both_none below _ p.1 in
      let r = both_none (settle_fault s.rules s.args_override_self (walk s.rules names nothing_held words).held) _ q.1 in
      let t = both_none (defaults_fault (settled s.rules (walk s.rules names nothing_held words).held).rows s.rules) _ r.1 in
      let walks = walk_fits s names (walk_from nothing_held) words rules off tt p.0 in
      let settles = settle_fits (walk c names nothing_held words).held walks
      (ap₂ (λ rs b. settle_fault rs b (walk rs names nothing_held words).held) (sym rules) (sym off) ∙ r.0) in (
        defaults_fit c (settled c (walk c names nothing_held words).held).rows own settles
            (ap (λ rs. defaults_fault (settled rs (walk rs names nothing_held words).held).rows rs) (sym rules) ∙ t.0),
        q.0,
        ap (λ rs. check_fault s (rows_after rs names words) has) (sym rules) ∙ t.1,
        p.0,
      )
