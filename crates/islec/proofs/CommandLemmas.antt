-- What the words of `islec` give where they have no fault.
use Rattle.std.proofs.Common.{◌≡◌, ◌∙◌, ◌&&◌, ◌||◌, ◌⊎◌, inl, inr, ℕ, Bool, cond, true, false, not, refl, sym, ap, ap₂, subst, List, [], ◌∷◌}
use Rattle.std.proofs.Common.{Option, Some, None, is_some, true≢false, arith, option_map, slice_index, Result, Ok, Err, IfErr, IsErrAnd, Box}
use Rattle.std.specs.Prelude.{codes, unwrap_or}
use Rattle.std.specs.List.{find, slice_index_or}
use Rattle.std.specs.Option.{option_map_or}
use Rattle.std.specs.Str.{bytes_eq}
use Rattle.std.proofs.lemmas.Slice.Eq.{bytes_eq-Decides}
use Rattle.clap.specs.Words.{AddsArg, AddsSubcommand, HasKind, HasMatchesOf, IsAmong, app_of, is_simple, is_simple_and_free, kind_of}
use Rattle.clap.specs.Words.{subcommand_name_of, subcommand_rows, subcommand_rows_of, with_rule, with_subcommand}
use Rattle.std.specs.Box.{box_value}
use Rattle.clap.specs.Walk.{Row, Rule, Text, answers_to, nothing_held, rows_after, walk, walk_from}
use Rattle.clap.specs.Simple.{App, Shape, argument_words, built, entered, help_shape, label_of, names_of, rows_at, subcommand_of}
use Rattle.clap.specs.Faults.{entered_fault, fault_of, level_fault}
use Rattle.clap.specs.declared.builder.ArgAction.TheVariants as action
use Rattle.clap.specs.declared.builder.Arg.{Arg}
use Rattle.clap.specs.declared.builder.ArgAction.{ArgAction}
use Rattle.clap.specs.declared.builder.Command.{Command}
use Rattle.clap.specs.declared.ArgMatches.{ArgMatches}
use Rattle.clap.specs.declared.ArgMatches.TheViews.{out-ArgMatches, out-SubCommand}
use Rattle.clap.specs.declared.parser.matches.SubCommand.{SubCommand}
use Rattle.clap.specs.declared.error.Error.{Error}
use Rattle.islec.specs.Faults.{BecomesFault}
use Rattle.islec.specs.Lines.{IsMisused, ReadsLine, RefusesLine, SaysLine}
use Rattle.islec.specs.declared.line.Line.{Line}
use Rattle.islec.specs.declared.line.LineFault.{LineFault}
use Rattle.islec.specs.declared.line.LineFault.TheVariants.{Usage, Misuse, Memory}
use Rattle.islec.specs.Commands.{IsArgument, IsCommand, blocks_rules, check_rules, fmt_rules, islec, run_rules}
use Rattle.islec.specs.Inside.Rows.{FillsRules}
use Rattle.islec.proofs.WalkRows.{OwnRules}
use Rattle.islec.proofs.WalkStops.{start_elsewhere, walk_elsewhere}
use Rattle.islec.proofs.FilledRows.{level_asks, level_fills}

abbrev is_set : ArgAction → Bool
is_set action.Set = true
is_set _ = false

unset : {A : Type 0} (x : ArgAction) → is_set x ≡ false → x ≡ action.Set → A
unset x other e = absurd (true≢false (sym (ap is_set e) ∙ other))

run_own : OwnRules run_rules
run_own = (
  record { own = refl; keeps = omega arith; wants = λ e. omega arith; default = λ e. omega arith },
  (
    record { own = refl; keeps = omega arith; wants = λ e. omega arith; default = λ e. omega arith },
    (
      record { own = refl; keeps = omega arith; wants = unset _ refl; default = unset _ refl },
      (
        record { own = refl; keeps = omega arith; wants = unset _ refl; default = unset _ refl },
        (
          record { own = refl; keeps = omega arith; wants = unset _ refl; default = unset _ refl },
          (
            record { own = refl; keeps = omega arith; wants = unset _ refl; default = unset _ refl },
            (
              record { own = refl; keeps = omega arith; wants = unset _ refl; default = unset _ refl },
              (
                record { own = refl; keeps = omega arith; wants = unset _ refl; default = unset _ refl },
                (
                  record { own = refl; keeps = omega arith; wants = λ e. omega arith; default = λ e. omega arith },
                  (
                    record { own = refl; keeps = tt; wants = unset _ refl; default = unset _ refl },
                    tt,
                  ),
                ),
              ),
            ),
          ),
        ),
      ),
    ),
  ),
)

check_own : OwnRules check_rules
check_own = (
  record { own = refl; keeps = omega arith; wants = unset _ refl; default = unset _ refl },
  (
    record { own = refl; keeps = omega arith; wants = unset _ refl; default = unset _ refl },
    (
      record { own = refl; keeps = omega arith; wants = unset _ refl; default = unset _ refl },
      (
        record { own = refl; keeps = omega arith; wants = unset _ refl; default = unset _ refl },
        (
          record { own = refl; keeps = omega arith; wants = unset _ refl; default = unset _ refl },
          (
            record { own = refl; keeps = omega arith; wants = λ e. omega arith; default = λ e. omega arith },
            (
              record { own = refl; keeps = omega arith; wants = λ e. omega arith; default = λ e. omega arith },
              (
                record { own = refl; keeps = tt; wants = unset _ refl; default = unset _ refl },
                tt,
              ),
            ),
          ),
        ),
      ),
    ),
  ),
)

blocks_own : OwnRules blocks_rules
blocks_own = (
  record { own = refl; keeps = omega arith; wants = λ e. omega arith; default = λ e. omega arith },
  (
    record { own = refl; keeps = omega arith; wants = unset _ refl; default = unset _ refl },
    (
      record { own = refl; keeps = omega arith; wants = λ e. omega arith; default = λ e. omega arith },
      (
        record { own = refl; keeps = tt; wants = unset _ refl; default = unset _ refl },
        tt,
      ),
    ),
  ),
)

fmt_own : OwnRules fmt_rules
fmt_own = (
  record { own = refl; keeps = omega arith; wants = λ e. omega arith; default = λ e. omega arith },
  (
    record { own = refl; keeps = omega arith; wants = unset _ refl; default = unset _ refl },
    (
      record { own = refl; keeps = omega arith; wants = unset _ refl; default = unset _ refl },
      (
        record { own = refl; keeps = omega arith; wants = unset _ refl; default = unset _ refl },
        (
          record { own = refl; keeps = omega arith; wants = unset _ refl; default = unset _ refl },
          (
            record { own = refl; keeps = omega arith; wants = λ e. omega arith; default = λ e. omega arith },
            (
              record { own = refl; keeps = tt; wants = unset _ refl; default = unset _ refl },
              tt,
            ),
          ),
        ),
      ),
    ),
  ),
)

-- the first of five that passes
first_of_five : {X : Type 0} (f : X → Bool) (a b c d k x : X) → find f (a ∷ b ∷ c ∷ d ∷ k ∷ []) ≡ Some x
    → (f x ≡ true) × ((x ≡ a) ⊎ ((x ≡ b) ⊎ ((x ≡ c) ⊎ ((x ≡ d) ⊎ (x ≡ k)))))
first_of_five f a b c d k x e = go (f a) (f b) (f c) (f d) (f k) refl refl refl refl refl e
  where
    go : (p q r s t : Bool) → f a ≡ p → f b ≡ q → f c ≡ r → f d ≡ s → f k ≡ t
        → cond p (Some a) (cond q (Some b) (cond r (Some c) (cond s (Some d) (cond t (Some k) None)))) ≡ Some x
        → (f x ≡ true) × ((x ≡ a) ⊎ ((x ≡ b) ⊎ ((x ≡ c) ⊎ ((x ≡ d) ⊎ (x ≡ k)))))
    go true q r s t fa fb fc fd fk e = let same = ap (λ o. unwrap_or o a) e in (ap f (sym same) ∙ fa, inl (sym same))
    go false true r s t fa fb fc fd fk e = let same = ap (λ o. unwrap_or o a) e in (ap f (sym same) ∙ fb, inr (inl (sym same)))
    go false false true s t fa fb fc fd fk e = let same = ap (λ o. unwrap_or o a) e in (ap f (sym same) ∙ fc, inr (inr (inl (sym same))))
    go false false false true t fa fb fc fd fk e = let same = ap (λ o. unwrap_or o a) e in (ap f (sym same) ∙ fd, inr (inr (inr (inl (sym same)))))
    go false false false false true fa fb fc fd fk e = let same = ap (λ o. unwrap_or o a) e in
        (ap f (sym same) ∙ fk, inr (inr (inr (inr (sym same)))))
    go false false false false false fa fb fc fd fk e = absurd (true≢false (sym (ap is_some e)))

-- one of the commands was entered, and its rows are what it asks
abbrev pub EntersOne : Option (Text × List Row) → Type 0
EntersOne None = ⊥
EntersOne (Some p) = ((p.0 ≡ codes "run") × FillsRules run_rules p.1)
    ⊎ (((p.0 ≡ codes "check") × FillsRules check_rules p.1) ⊎ (((p.0 ≡ codes "blocks") × FillsRules blocks_rules p.1)
    ⊎ ((p.0 ≡ codes "fmt") × FillsRules fmt_rules p.1)))

-- the subcommand at a place
abbrev sub : ℕ → Shape
sub k = slice_index_or (built islec).subs k help_shape

one_shape : (s : Shape) (name : Text) (words : List Text) → find (λ x. answers_to name (label_of x)) (built islec).subs ≡ Some s
    → bytes_eq name (codes "help") ≡ false
    → level_fault s [] nothing_held words false [] ≡ [] → EntersOne (Some (rows_at s words))
one_shape s name words is other e =
    let f = first_of_five (λ x. answers_to name (label_of x)) (sub 0) (sub 1) (sub 2) (sub 3) (sub 4) s is in
    elim f.1 [
      | inl h ↦ inl (named s (sub 0) h, filled s (sub 0) run_rules words h refl refl refl run_own e)
      | inr (inl h) ↦ inr (inl (named s (sub 1) h, filled s (sub 1) check_rules words h refl refl refl check_own e))
      | inr (inr (inl h)) ↦ inr (inr (inl (named s (sub 2) h, filled s (sub 2) blocks_rules words h refl refl refl blocks_own e)))
      | inr (inr (inr (inl h))) ↦ inr (inr (inr (named s (sub 3) h, filled s (sub 3) fmt_rules words h refl refl refl fmt_own e)))
      | inr (inr (inr (inr h))) ↦
          let answers : (bytes_eq (codes "help") name || false) ≡ true = ap (λ x. answers_to name (label_of x)) (sym h) ∙ f.0 in
          let same : codes "help" ≡ name = (bytes_eq-Decides (codes "help") name).0 (alone _ answers) in
          absurd (true≢false (sym ((bytes_eq-Decides name (codes "help")).1 (sym same)) ∙ other))
    ]
  where
    alone : (b : Bool) → (b || false) ≡ true → b ≡ true
    alone true t = refl
    alone false t = t

    named : (s t : Shape) → s ≡ t → s.name ≡ t.name
    named s t h = ap (λ (x : Shape). x.name) h

    filled : (s t : Shape) (c : List Rule) (words : List Text) → s ≡ t → t.rules ≡ c → t.args_override_self ≡ false
        → t.subcommand_negates_reqs ≡ false → OwnRules c
        → level_fault s [] nothing_held words false [] ≡ [] → FillsRules c (rows_after s.rules [] words)
    filled s t c words h rules off local own e =
        let same : s.rules ≡ c = ap (λ (x : Shape). x.rules) h ∙ rules in
        subst (λ rs. FillsRules c (rows_after rs [] words)) (sym same)
        (level_fills s c words same (ap (λ (x : Shape). x.args_override_self) h ∙ off)
        (ap (λ (x : Shape). x.subcommand_negates_reqs) h ∙ local) own e)

-- a command was met, which is not `help`
met : (words : List Text) (stop : Option (Text × List Text)) → is_some (entered (built islec) stop) ≡ true
    → ((p : Text × List Text) → stop ≡ Some p → bytes_eq p.0 (codes "help") ≡ false) → entered_fault (built islec) stop ≡ []
    → EntersOne (entered (built islec) stop)
met words None some other e = absurd (true≢false (sym some))
met words (Some p) some other e = go (find (λ s. answers_to p.0 (label_of s)) (built islec).subs) refl some e
  where
    go : (o : Option Shape) → find (λ s. answers_to p.0 (label_of s)) (built islec).subs ≡ o → is_some (option_map (λ s. rows_at s p.1) o) ≡ true
        → option_map_or (λ s. level_fault s [] nothing_held p.1 false []) o [] ≡ [] → EntersOne (option_map (λ s. rows_at s p.1) o)
    go None is some e = absurd (true≢false (sym some))
    go (Some s) is some e = one_shape s p.0 p.1 is (other p refl) e

-- words with no fault enter one of the commands
pub islec_enters : (words : List Text) → fault_of islec words ≡ [] → EntersOne (subcommand_of islec words)
islec_enters words e =
    let b = built islec in
    let rest = argument_words islec words in
    let end = walk b.top.rules (names_of b) nothing_held rest in
    let p = level_asks b.top (names_of b) rest (is_some (entered b end.stopped)) (entered_fault b end.stopped) e in
    met rest end.stopped (has _ p.2)
    (walk_elsewhere b.top (names_of b) (walk_from nothing_held) rest refl (start_elsewhere nothing_held) p.0) p.1
  where
    has : (b : Bool) → (not b && true) ≡ false → b ≡ true
    has true h = refl
    has false h = absurd (true≢false h)

-- a command with one more argument
pub adds : (old new : Command) (app : App) (a : Arg) (r : Rule) → IsCommand app old → IsArgument r a → AddsArg old a new
    → IsCommand (with_rule app r) new
adds old new app a r is arg added = record {
  is = added.shape arg.local ∙ ap₂ with_rule is.is arg.is;
  local = added.globals ∙ ap₂ (λ x y. x || y) is.local arg.local;
}

-- a command with one more subcommand
pub joins : (old sub new : Command) (app below : App) → IsCommand app old → IsCommand below sub → AddsSubcommand old sub new
    → IsCommand (with_subcommand app below.top) new
joins old sub new app below is one added = record {
  is = added.shape one.local ∙ ap₂ with_subcommand is.is (ap (λ (a : App). a.top) one.is);
  local = added.globals ∙ ap₂ (λ x y. x || y) is.local one.local;
}

-- ---- a parse

-- the matches of a parse are those of words with no fault, and of one of the commands
pub record Parses (words : List Text) (m : ArgMatches) : Type 0 where
  pub taken : fault_of islec words ≡ []
  pub met : subcommand_rows_of m ≡ subcommand_of islec words
  pub one : EntersOne (subcommand_rows_of m)

pub parses : (c : Command) (words : List Text) (m : ArgMatches) → IsCommand islec c → HasMatchesOf (app_of c) words m
    → (is_simple_and_free (app_of c) ≡ true → fault_of (app_of c) words ≡ []) → Parses words m
parses c words m is matches free =
    let taken : fault_of islec words ≡ [] = ap (λ a. fault_of a words) (sym is.is) ∙ free (ap is_simple_and_free is.is) in
    let met = (matches (ap is_simple is.is)).1 ∙ ap (λ a. subcommand_of a words) is.is in
    record { taken = taken; met = met; one = subst EntersOne (sym met) (islec_enters words taken) }

module _ {Z : Type 0} where
  abbrev entered_name : Option (Box SubCommand Z) → Option Text
  entered_name = option_map (λ b. (out-SubCommand (box_value b)).name.now)

  name_and_rows : (o : Option (Box SubCommand Z)) (name : Text) (rows : List Row) → entered_name o ≡ Some name
      → option_map (λ p. p.1) (subcommand_rows o) ≡ Some rows
      → subcommand_rows o ≡ Some (name, rows)
  name_and_rows None name rows is has = absurd (true≢false (sym (ap is_some is)))
  name_and_rows (Some b) name rows is has = ap₂ (λ n rs. Some (n, rs)) (ap (λ o. unwrap_or o name) is) (ap (λ o. unwrap_or o rows) has)

  one_of_four : (o : Option (Box SubCommand Z)) → EntersOne (subcommand_rows o) → (entered_name o ≡ Some (codes "run") → ⊥)
      → (entered_name o ≡ Some (codes "check") → ⊥) → (entered_name o ≡ Some (codes "blocks") → ⊥)
      → (entered_name o ≡ Some (codes "fmt") → ⊥) → ⊥
  one_of_four None one r k b f = one
  one_of_four (Some s) (inl h) r k b f = r (ap Some h.0)
  one_of_four (Some s) (inr (inl h)) r k b f = k (ap Some h.0)
  one_of_four (Some s) (inr (inr (inl h))) r k b f = b (ap Some h.0)
  one_of_four (Some s) (inr (inr (inr h))) r k b f = f (ap Some h.0)

-- a command that was met, with its rows
pub met_rows : (m : ArgMatches) (name : Text) (rows : List Row) → subcommand_name_of m ≡ Some name
    → option_map (λ p. p.1) (subcommand_rows_of m) ≡ Some rows
    → subcommand_rows_of m ≡ Some (name, rows)
met_rows m = name_and_rows (out-ArgMatches m).subcommand

-- names that begin apart are apart
apart : {A : Type 0} (x y : ℕ) (xs ys : Text) → (x ≡ y → ⊥) → x ∷ xs ≡ y ∷ ys → A
apart x y xs ys differ e = absurd (differ (ap (λ t. slice_index t 0) e))

pub run_fills : (rows : List Row) → EntersOne (Some (codes "run", rows)) → FillsRules run_rules rows
run_fills rows (inl h) = h.1
run_fills rows (inr (inl h)) = apart 114 99 _ _ (λ e. omega (arith, e)) h.0
run_fills rows (inr (inr (inl h))) = apart 114 98 _ _ (λ e. omega (arith, e)) h.0
run_fills rows (inr (inr (inr h))) = apart 114 102 _ _ (λ e. omega (arith, e)) h.0

pub check_fills : (rows : List Row) → EntersOne (Some (codes "check", rows)) → FillsRules check_rules rows
check_fills rows (inl h) = apart 99 114 _ _ (λ e. omega (arith, e)) h.0
check_fills rows (inr (inl h)) = h.1
check_fills rows (inr (inr (inl h))) = apart 99 98 _ _ (λ e. omega (arith, e)) h.0
check_fills rows (inr (inr (inr h))) = apart 99 102 _ _ (λ e. omega (arith, e)) h.0

pub blocks_fills : (rows : List Row) → EntersOne (Some (codes "blocks", rows)) → FillsRules blocks_rules rows
blocks_fills rows (inl h) = apart 98 114 _ _ (λ e. omega (arith, e)) h.0
blocks_fills rows (inr (inl h)) = apart 98 99 _ _ (λ e. omega (arith, e)) h.0
blocks_fills rows (inr (inr (inl h))) = h.1
blocks_fills rows (inr (inr (inr h))) = apart 98 102 _ _ (λ e. omega (arith, e)) h.0

pub fmt_fills : (rows : List Row) → EntersOne (Some (codes "fmt", rows)) → FillsRules fmt_rules rows
fmt_fills rows (inl h) = apart 102 114 _ _ (λ e. omega (arith, e)) h.0
fmt_fills rows (inr (inl h)) = apart 102 99 _ _ (λ e. omega (arith, e)) h.0
fmt_fills rows (inr (inr (inl h))) = apart 102 98 _ _ (λ e. omega (arith, e)) h.0
fmt_fills rows (inr (inr (inr h))) = h.1

-- one of the four was met
pub none_met : (m : ArgMatches) → EntersOne (subcommand_rows_of m) → (subcommand_name_of m ≡ Some (codes "run") → ⊥)
    → (subcommand_name_of m ≡ Some (codes "check") → ⊥) → (subcommand_name_of m ≡ Some (codes "blocks") → ⊥)
    → (subcommand_name_of m ≡ Some (codes "fmt") → ⊥) → ⊥
none_met m = one_of_four (out-ArgMatches m).subcommand

-- the line of a command that was met
pub reads_line : (words : List Text) (m : ArgMatches) (name : Text) (rows : List Row) (line : Line) → Parses words m
    → subcommand_rows_of m ≡ Some (name, rows)
    → SaysLine name rows line → ReadsLine words line
reads_line words m name rows line parsed is says = record { taken = parsed.taken; name = name; rows = rows; met = sym parsed.met ∙ is; says = says }

-- ---- a refusal

pub as_islec : (c : Command) (words : List Text) (e : Error) → IsCommand islec c
    → (is_simple_and_free (app_of c) ≡ true → HasKind (fault_of (app_of c) words) e)
    → HasKind (fault_of islec words) e
as_islec c words e is h = subst (λ a. HasKind (fault_of a words) e) is.is (h (ap is_simple_and_free is.is))

abbrev is_usage : LineFault → Bool
is_usage (Usage e) = true
is_usage (Misuse m) = false
is_usage (Memory a) = false

abbrev is_memory : LineFault → Bool
is_memory (Usage e) = false
is_memory (Misuse m) = false
is_memory (Memory a) = true

abbrev error_in : LineFault → Error → Error
error_in (Usage e) d = e
error_in (Misuse m) d = d
error_in (Memory a) d = d

refuses : (words : List Text) (e : Error) (fault : LineFault) → BecomesFault e fault → HasKind (fault_of islec words) e → RefusesLine words fault
refuses words e (Memory a) is h = tt
refuses words e (Misuse m) is (inl oom) = absurd (true≢false (ap is_memory (sym (is.memory oom))))
refuses words e (Misuse m) is (inr among) =
    absurd (true≢false (ap is_usage (sym (is.usage (λ oom. true≢false (ap is_memory (sym (is.memory oom))))))))
refuses words e (Usage x) is (inl oom) = absurd (true≢false (ap is_usage (is.memory oom)))
refuses words e (Usage x) is (inr among) =
    let same : x ≡ e = ap (λ f. error_in f e) (is.usage (λ oom. true≢false (ap is_usage (is.memory oom)))) in
    subst (λ y. IsAmong (kind_of y) (fault_of islec words)) (sym same) among

pub refused : (words : List Text) (e : Error) (r : Result Line LineFault) → IsErrAnd r (BecomesFault e) → HasKind (fault_of islec words) e
    → IfErr r (RefusesLine words)
refused words e (Ok line) is h = tt
refused words e (Err fault) is h = refuses words e fault is h

-- options that don't go together, of a command that was met
pub misuse_refuses : (words : List Text) (m : ArgMatches) (name : Text) (rows : List Row) (r : Result Line LineFault) → Parses words m
    → subcommand_rows_of m ≡ Some (name, rows) → IfErr r (IsMisused name rows) → IfErr r (RefusesLine words)
misuse_refuses words m name rows (Ok line) parsed is h = tt
misuse_refuses words m name rows (Err (Usage e)) parsed is h = absurd h
misuse_refuses words m name rows (Err (Misuse x)) parsed is h = record {
  taken = parsed.taken;
  name = name;
  rows = rows;
  met = sym parsed.met ∙ is;
  misused = h;
}
misuse_refuses words m name rows (Err (Memory a)) parsed is h = tt
