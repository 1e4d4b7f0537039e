-- Words with no fault never stop at `help`.
use Rattle.std.proofs.Common.{◌≡◌, ◌∙◌, ◌&&◌, ℕ, Bool, cond, true, false, not, refl, sym, ap, List, [], ◌∷◌, Option, Some, None, is_some}
use Rattle.std.proofs.Common.{true≢false, fold}
use Rattle.std.specs.Prelude.{⊤, codes, unwrap_or}
use Rattle.std.specs.Str.{bytes_eq}
use Rattle.std.proofs.lemmas.Bool.{cond_both, cond-false}
use Rattle.clap.specs.Lexer.{long_of, short_of}
use Rattle.clap.specs.Kinds.{Kinds, or_else}
use Rattle.clap.specs.Walk.{Held, Names, Outcome, Rule, Step, Text, Waiting, Walk, after_flag, after_step, arg_by_index, arg_by_long, bundle, done}
use Rattle.clap.specs.Walk.{idle, long_met, long_or_other, next, option, plain, plain_word, positional, refused, short_or_plain, subcommand}
use Rattle.clap.specs.Walk.{subcommand_met, subcommand_or_other, to_positional, trailing, value, waits, walk_from, walked, walked_from, word_met}
use Rattle.clap.specs.Simple.{Shape}
use Rattle.clap.specs.Faults.{other_fault, step_fault, turn_fault, walk_fault, word_fault}
use Rattle.clap.specs.declared.error.kind.ErrorKind.TheVariants as kind
use Rattle.islec.proofs.WalkRows.{both_none, some_kind}

-- the step does not name the subcommand `help`
abbrev NoHelp : Step → Type 0
NoHelp (subcommand name) = bytes_eq name (codes "help") ≡ false
NoHelp _ = ⊤

-- nor does the place where the walk stopped
abbrev pub StopsElsewhere : Walk → Type 0
StopsElsewhere w = (p : Text × List Text) → w.stopped ≡ Some p → bytes_eq p.0 (codes "help") ≡ false

plain_no_help : (c : List Rule) (waiting : Waiting) (word : Text) (h : Held) → NoHelp (plain_word c waiting word h).1
plain_no_help c idle word h = tt
plain_no_help c positional word h = tt
plain_no_help c (option id) word h = tt

after_no_help : (c : List Rule) (waiting : Waiting) (word : Text) (h : Held) (outcome : Outcome) → NoHelp (after_flag c waiting word h outcome).1
after_no_help c waiting word h done = tt
after_no_help c waiting word h (waits id) = tt
after_no_help c waiting word h plain = plain_no_help c waiting word h
after_no_help c waiting word h refused = plain_no_help c waiting word h

flag_no_help : (c : List Rule) (o : Option (Text × Option Text)) (waiting : Waiting) (word : Text) (h : Held)
    → NoHelp (long_or_other c waiting word o h).1
flag_no_help c (Some p) waiting word h = after_no_help c waiting word (long_met c (arg_by_long c p.0) p.1 h).0
    (long_met c (arg_by_long c p.0) p.1 h).1
flag_no_help c None waiting word h = short (short_of word)
  where
    short : (o : Option Text) → NoHelp (short_or_plain c waiting word o h).1
    short None = plain_no_help c waiting word h
    short (Some flags) = after_no_help c waiting word (bundle c flags h).0 (bundle c flags h).1

name_no_help : (s : Shape) (name word : Text) (h : Held) → s.disable_help_subcommand ≡ false → other_fault s (Some name) word h ≡ []
    → bytes_eq name (codes "help") ≡ false
name_no_help s name word h on e = go (bytes_eq name (codes "help")) s.disable_help_subcommand on e
  where
    go : (b d : Bool) → d ≡ false → cond (b && not d) (kind.DisplayHelp ∷ kind.InvalidSubcommand ∷ []) [] ≡ [] → b ≡ false
    go false d on e = refl
    go true true on e = absurd (true≢false on)
    go true false on e = some_kind _ _ e

other_no_help : (s : Shape) (c : List Rule) (o : Option Text) (waiting : Waiting) (position : ℕ) (word : Text) (h : Held)
    → s.disable_help_subcommand ≡ false
    → other_fault s o word h ≡ [] → NoHelp (subcommand_or_other c o waiting position word h).1
other_no_help s c (Some name) waiting position word h on e = name_no_help s name word h on e
other_no_help s c None waiting position word h on e =
    cond_both (bytes_eq word (45 ∷ 45 ∷ [])) (h, trailing position) (long_or_other c waiting word (long_of word) h) (λ m. NoHelp m.1)
    (λ t. tt)
    (λ t. flag_no_help c (long_of word) waiting word h)

met_no_help : (s : Shape) (c : List Rule) (names : Names) (w : Walk) (word : Text) → s.disable_help_subcommand ≡ false
    → word_fault s names w.is_trailing w.waiting word w.held ≡ [] → NoHelp (word_met c names w.is_trailing w.waiting w.position word w.held).1
met_no_help s c names w word on e =
    cond_both w.is_trailing (w.held, value) (subcommand_or_other c (subcommand_met names w.waiting word) w.waiting w.position word w.held)
    (λ m. NoHelp m.1)
    (λ t. tt)
    (λ t. other_no_help s c (subcommand_met names w.waiting word) w.waiting w.position word w.held on (sym (cond-false w.is_trailing _ _ t) ∙ e))

after_elsewhere : (c : List Rule) (word : Text) (w : Walk) (h : Held) (step : Step) → w.stopped ≡ None → NoHelp step
    → StopsElsewhere (after_step c word w h step)
after_elsewhere c word w h (next waiting) none ok p is = absurd (true≢false (ap is_some (sym is ∙ none)))
after_elsewhere c word w h (trailing position) none ok p is = absurd (true≢false (ap is_some (sym is ∙ none)))
after_elsewhere c word w h (subcommand name) none ok p is = ap (λ n. bytes_eq n (codes "help")) (ap (λ o. (unwrap_or o p).0) (sym is)) ∙ ok
after_elsewhere c word w h value none ok p is = place (arg_by_index c w.position) is
  where
    place : (o : Option Rule) → (to_positional c o word w h).stopped ≡ Some p → bytes_eq p.0 (codes "help") ≡ false
    place None is = absurd (true≢false (ap is_some (sym is ∙ none)))
    place (Some a) is = absurd (true≢false (sym (ap is_some is)))

walked_elsewhere : (s : Shape) (names : Names) (w : Walk) (word : Text) → s.disable_help_subcommand ≡ false → StopsElsewhere w
    → turn_fault s names w word ≡ [] → StopsElsewhere (walked s.rules names w word)
unfolding walked
walked_elsewhere s names w word on before e = go w.stopped refl e
  where
    turn : Kinds
    turn = or_else (word_fault s names w.is_trailing w.waiting word w.held)
        (step_fault s w.position (word_met s.rules names w.is_trailing w.waiting w.position word w.held).0
        (word_met s.rules names w.is_trailing w.waiting w.position word w.held).1)

    go : (stop : Option (Text × List Text)) → w.stopped ≡ stop → cond (is_some stop) [] turn ≡ []
        → StopsElsewhere (walked_from s.rules names stop w word)
    go (Some p) is e = λ q same. ap (λ n. bytes_eq n (codes "help")) (ap (λ o. (unwrap_or o q).0) (sym same)) ∙ before p is
    go None is e = after_elsewhere s.rules word w _ _ is
        (met_no_help s s.rules names w word on (both_none (word_fault s names w.is_trailing w.waiting word w.held) _ e).0)

pub walk_elsewhere : (s : Shape) (names : Names) (w : Walk) (words : List Text) → s.disable_help_subcommand ≡ false → StopsElsewhere w
    → walk_fault s names w words ≡ [] → StopsElsewhere (fold (walked s.rules names) w words)
unfolding walk_fault
walk_elsewhere s names w [] on before e = before
walk_elsewhere s names w (word ∷ rest) on before e =
    let p = both_none (turn_fault s names w word) _ e in
    walk_elsewhere s names (walked s.rules names w word) rest on (walked_elsewhere s names w word on before p.0) p.1

pub start_elsewhere : (h : Held) → StopsElsewhere (walk_from h)
start_elsewhere h p is = absurd (true≢false (sym (ap is_some is)))
