-- Worked cases: machine's runs of literal trees, with how many steps they reach, and runs that aren't theirs.
use Rattle.std.proofs.Common.{arith, ◌≡◌, ◌<◌, ◌++◌, ℕ, ℤ, pos, zero, suc, List, [], ◌∷◌, inl, inr, Bool, true, false, Option, Some, None, refl, sym, ◌∙◌, ap, subst}
use Rattle.std.specs.Prelude.{FitsSigned, if◌then◌else◌, ◌==◌}
use Rattle.std.specs.Int.{w128}
use Rattle.std.proofs.lemmas.Int.{fits_signed_from_abs}
use Rattle.isle_trees.specs.Tree.{done, «match», equal, give, no_arm, arm}
use Rattle.isle_rules.specs.Values.{ValueTree, ValueTrees, int_tree, no_trees, more_trees}
use Rattle.isle_meaning.specs.Values.{Value, Values, bool_value, made_variant, no_values, more_values}
use Rattle.isle_meaning.specs.GroundValues.{values_of}
use Rattle.isle_meaning.specs.Demands.{Constraint, variant_constraint, int_constraint, bool_constraint}
use Rattle.isle_meaning.specs.Held.{Held, held_value, held_none, held_some}
use Rattle.isle_meaning.specs.Numbered.{Row, int_row, argument_row, extractor_row, constructor_row, match_variant_row, make_some_row, match_some_row, match_tuple_row}
use Rattle.isle_meaning.specs.Worlds.{CheckedProgram, Answers, Event}
use Rattle.isle_meaning.specs.Asking.{asks_outputs, stuck, spent, ill_typed}
use Rattle.isle_meaning.specs.Outcomes.{Outcome, given, missing, ended, WorldExtracts, WorldEffects}
use Rattle.isle_meaning.specs.Machine.Runs.{TermTree, nothing_bound, Runs, RowRuns, MachineRun}
use Rattle.isle_meaning.specs.Machine.Beginnings.{RowBegins, MachineBegins}
use Rattle.isle_meaning.specs.Machine.Sample.{sample_terms, sample_program, sample_tree, on_truth}
use Rattle.isle_meaning.proofs.Cases.AskedCalls.{with_opener}
use Rattle.isle_meaning.proofs.Cases.CalledTerms.{number, on, one_type, silent, chain, emitting, emitted}
use Rattle.isle_meaning.proofs.Chains.Stable.{none_first}
use Rattle.isle_meaning.proofs.Machine.One.{machine_runs_one}
use Rattle.isle_meaning.proofs.Machine.Sample.{the_sample_is_sound, the_sample_meets_the_premises, the_sample_is_run, the_sample_fails}
use Rattle.isle_meaning.proofs.Machine.Staying.{machine_runs_stay}
use Rattle.isle_meaning.proofs.Machine.Beginnings.{pure_machine_runs_are_silent}

-- ---- the sample: where its argument is `true` it answers `true`, in two steps

-- it doesn't answer nothing there, nor `false`, nor in three steps
sample_alone : (w : Answers) (steps : ℕ) (r : Outcome Value) → MachineRun sample_program (λ t. sample_tree) w 1 0 (on_truth true) steps [] r
    → (2 ≡ steps) × (given (bool_value true) ≡ r)
sample_alone w steps r run =
    let (n, traces, is) = machine_runs_one sample_program w (λ t. sample_tree) (the_sample_is_sound.data_sound) 1 0 (on_truth true) 2 steps [] []
    (given (bool_value true)) r (the_sample_is_run w) run (none_first []) in
    (n, is)

-- not nothing
not_missing : (w : Answers) → MachineRun sample_program (λ t. sample_tree) w 1 0 (on_truth true) 2 [] missing → ⊥
not_missing w run = let q : given (bool_value true) ≡ missing = (sample_alone w 2 missing run).1 in cc

-- nor `false`
not_false : (w : Answers) → MachineRun sample_program (λ t. sample_tree) w 1 0 (on_truth true) 2 [] (given (bool_value false)) → ⊥
not_false w run =
    let q : given (bool_value true) ≡ given (bool_value false) = (sample_alone w 2 (given (bool_value false)) run).1 in cc

-- nor in three steps
not_three_steps : (w : Answers) → MachineRun sample_program (λ t. sample_tree) w 1 0 (on_truth true) 3 [] (given (bool_value true)) → ⊥
not_three_steps w run = let n : 2 ≡ 3 = (sample_alone w 3 (given (bool_value true)) run).0 in omega (arith, n)

-- where its argument is `false` it doesn't answer `true`
not_on_false : (w : Answers) (steps : ℕ) → MachineRun sample_program (λ t. sample_tree) w 1 0 (on_truth false) steps [] (given (bool_value true)) → ⊥
not_on_false w steps run =
    let (n, traces, is) = machine_runs_one sample_program w (λ t. sample_tree) (the_sample_is_sound.data_sound) 1 0 (on_truth false) 1 steps [] []
    missing (given (bool_value true)) (the_sample_fails w) run (none_first []) in
    let q : missing ≡ given (bool_value true) = is in cc

-- its term is pure, and it makes no effects
sample_silent : (w : Answers) (n : ℕ) (b : Bool) (made : List Event) → MachineBegins sample_program (λ t. sample_tree) w n 0
    (on_truth b) made → made ≡ []
sample_silent w n b made begun =
    pure_machine_runs_are_silent sample_program w (λ t. t == 0) (λ t. sample_tree) the_sample_is_sound the_sample_meets_the_premises n 0 (on_truth b)
    made refl refl begun

-- ---- a tree without a return

abbrev no_return : TermTree Bool
no_return = record { sites = []; test = λ truth. bool_constraint truth 0; result = λ i. 0; tree = done }

-- a term that may fail is answered none, without a step
answers_none : (w : Answers) → MachineRun sample_program (λ t. no_return) w 1 0 (on_truth true) 0 [] missing
answers_none w = (refl, refl, refl)

-- any other is stuck there
abbrev firm : CheckedProgram
firm = record sample_program { terms = record sample_terms { partial = λ t. false } }

-- such a term is stuck
is_stuck : (w : Answers) → MachineRun firm (λ t. no_return) w 1 0 (on_truth true) 0 [] (ended (stuck 0 (on_truth true)))
is_stuck w = (refl, refl, refl)

-- it isn't answered none
isnt_missing : (w : Answers) (steps : ℕ) (trace : List Event) → MachineRun firm (λ t. no_return) w 1 0 (on_truth true) steps trace missing → ⊥
isnt_missing w steps trace run = let q : missing ≡ ended (stuck 0 (on_truth true)) = run.2 in cc

-- at depth 0 each run is spent
is_spent : (w : Answers) → MachineRun sample_program (λ t. sample_tree) w 0 0 (on_truth true) 0 [] (ended spent)
is_spent w = (refl, refl, refl)

-- and gives nothing
isnt_given : (w : Answers) (steps : ℕ) (trace : List Event) (v : Value) → MachineRun sample_program (λ t. sample_tree) w 0 0
    (on_truth true) steps trace (given v) → ⊥
isnt_given w steps trace v run = let q : given v ≡ ended spent = run.2 in cc

-- ---- the rules (g x) and (f x) of CalledTerms, where (f x) is (g x)

-- (g x) is its argument, (f x) the call of g on it
abbrev chain_trees : ℕ → TermTree ℤ
chain_trees zero = record { sites = argument_row 0 ∷ []; test = λ n. int_constraint n 1; result = λ i. 0; tree = give [] 0 done }
chain_trees (suc t) = record {
  sites = argument_row 0 ∷ constructor_row 0 (0 ∷ []) 1 ∷ [];
  test = λ n. int_constraint n 1;
  result = λ i. 1;
  tree = give (1 ∷ []) 0 done;
}

-- (f 4) is 4 at depth 2, in one step of its own, and so at depth 7
called_once : MachineRun chain chain_trees silent 2 1 (on 4) 1 [] (given (number 4))
called_once = (
  0,
  refl,
  (
    constructor_row 0 (0 ∷ []) 1,
    [],
    [],
    given (held_value (number 4)),
    refl,
    (on 4, given (number 4), refl, (1, (0, refl, (number 4, refl, refl, refl, refl))), refl),
    refl,
    (number 4, refl, refl, refl, refl),
  ),
)

-- so it is at depth 7
called_deeper : MachineRun chain chain_trees silent 7 1 (on 4) 1 [] (given (number 4))
called_deeper = machine_runs_stay chain silent chain_trees 2 7 1 (on 4) 1 [] (given (number 4)) (omega arith) (λ e. cc) called_once

-- at depth 1 it is spent, since it calls g
called_spent : MachineRun chain chain_trees silent 1 1 (on 4) 1 [] (ended spent)
called_spent = (
  0,
  refl,
  (constructor_row 0 (0 ∷ []) 1, [], [], ended spent, refl, (on 4, ended spent, refl, (0, (refl, refl, refl)), refl), refl, (refl, refl, refl)),
)

-- a small number is of the type
fits : (n : ℕ) → n < 100 → FitsSigned w128 (pos n)
fits n small = fits_signed_from_abs w128 (pos n) (omega (arith, small))

-- ---- (rule (f (e x y)) x) of AskedCalls, where e may not fail: f demands nothing, and opens its argument for its result alone

abbrev opening_tree : TermTree ℤ
opening_tree = record {
  sites = argument_row 0 ∷ extractor_row 0 0 ∷ match_tuple_row 1 0 ∷ make_some_row 2 ∷ [];
  test = λ n. int_constraint n 1;
  result = λ i. 3;
  tree = give (1 ∷ 3 ∷ []) 0 done;
}

-- e is answered none, which isn't allowed
none_not_allowed : WorldExtracts with_opener silent 0 (number 4) (ended (ill_typed (asks_outputs 0 (number 4))))
none_not_allowed = record { arg = int_tree (pos 4); typed = fits 4 (omega arith); stands = refl; judged = inr ((λ allowed. cc), refl) }

-- so (f 4) ends as ill-typed there, behind its choice, in one step
is_ill_typed : MachineRun with_opener (λ t. opening_tree) silent 1 1 (on 4) 1 [] (ended (ill_typed (asks_outputs 0 (number 4))))
is_ill_typed = (
  0,
  refl,
  (
    extractor_row 0 0,
    [],
    [],
    ended (ill_typed (asks_outputs 0 (number 4))),
    refl,
    (number 4, ended (ill_typed (asks_outputs 0 (number 4))), refl, none_not_allowed, refl, refl),
    refl,
    (refl, refl, refl),
  ),
)

-- ---- the rules of CalledTerms that emit: (f 0) emits 1, then what that is answered; else (f x) is x

abbrev emitting_tree : TermTree ℤ
emitting_tree = record {
  sites = argument_row 0 ∷ int_row (pos 1) 1 ∷ constructor_row 0 (1 ∷ []) 1 ∷ constructor_row 0 (2 ∷ []) 2 ∷ [];
  test = λ n. int_constraint n 1;
  result = λ i. if i == 0 then 3 else 0;
  tree = «match» [] 0 (arm (pos 0) [] (give (2 ∷ 3 ∷ []) 0 done) no_arm) (give [] 1 done);
}

-- emit on a number is answered a number
makes : (n m : ℕ) → n < 100 → m < 100 → WorldEffects emitting 0 (on n) (emitted n m ∷ []) (given (number m))
makes n m small low = record {
  args = more_trees (int_tree (pos n)) no_trees;
  typed = (fits n small, tt);
  stand = refl;
  answer = Some (int_tree (pos m));
  alone = refl;
  judged = inl (fits m low, refl);
}

-- (f 0) emits 1, which is answered 2, then 2, which is answered 9, and is 9, in two steps
emits_in_order : MachineRun emitting (λ t. emitting_tree) silent 1 1 (on 0) 2 (emitted 1 2 ∷ emitted 2 9 ∷ []) (given (number 9))
emits_in_order = (
  1,
  refl,
  (
    held_value (number 0),
    refl,
    inl (
      refl,
      (
        0,
        refl,
        (
          constructor_row 0 (1 ∷ []) 1,
          emitted 1 2 ∷ [],
          emitted 2 9 ∷ [],
          given (held_value (number 2)),
          refl,
          (on 1, given (number 2), refl, makes 1 2 (omega arith) (omega arith), refl),
          refl,
          (
            constructor_row 0 (2 ∷ []) 2,
            emitted 2 9 ∷ [],
            [],
            given (held_value (number 9)),
            refl,
            (on 2, given (number 9), refl, makes 2 9 (omega arith) (omega arith), refl),
            refl,
            (number 9, refl, refl, refl, refl),
          ),
        ),
      ),
    ),
  ),
)

-- (f 4) fails the test, and is 4 in two steps
emits_nothing : MachineRun emitting (λ t. emitting_tree) silent 1 1 (on 4) 2 [] (given (number 4))
emits_nothing = (1, refl, (held_value (number 4), refl, inr ((λ e. cc), (0, refl, (number 4, refl, refl, refl, refl)))))

-- (f 0) may stop before it emits, and once it has emitted 1
stops_before : MachineBegins emitting (λ t. emitting_tree) silent 1 1 (on 0) []
stops_before = inl refl

-- it may stop once it has emitted 1
stops_after_one : MachineBegins emitting (λ t. emitting_tree) silent 1 1 (on 0) (emitted 1 2 ∷ [])
stops_after_one = inr (inr (
  held_value (number 0),
  refl,
  inl (
    refl,
    inr (
      constructor_row 0 (1 ∷ []) 1,
      refl,
      inl (
        on 1,
        refl,
        record {
          args = more_trees (int_tree (pos 1)) no_trees;
          typed = (fits 1 (omega arith), tt);
          stand = refl;
          answer = Some (int_tree (pos 2));
          alone = refl;
        },
      ),
    ),
  ),
))

-- it doesn't begin with another effect
wrong_effect : (args : ValueTrees) (answer : Option ValueTree) (rest : List Event) → values_of one_type args ≡ on 1
    → emitted 2 9 ∷ [] ≡ record { term = 0; args = args; answer = answer } ∷ rest → ⊥
wrong_effect args answer rest stand alone =
    let event : emitted 2 9 ≡ record { term = 0; args = args; answer = answer } = cc in
    let same : more_trees (int_tree (pos 2)) no_trees ≡ args = ap (λ (e : Event). e.args) event in
    let two : on 2 ≡ on 1 = ap (values_of one_type) same ∙ stand in absurd cc

-- the runs of the terms that it calls
abbrev Below : Runs
Below u vs effects q = (reached : ℕ) × MachineRun emitting (λ t. emitting_tree) silent 0 u vs reached effects q

-- nor does its first call
first_begins : RowBegins emitting (MachineBegins emitting (λ t. emitting_tree) silent 0) emitting_tree.sites (on 0) nothing_bound
    (constructor_row 0 (1 ∷ []) 1) (emitted 2 9 ∷ []) → ⊥
first_begins (vs, e, effect) = let q : on 1 ≡ vs = cc in wrong_effect effect.args effect.answer [] (effect.stand ∙ sym q) effect.alone

-- nor does that run so
first_runs : (effects rest : List Event) (h : Held) → emitted 2 9 ∷ [] ≡ effects ++ rest
    → RowRuns emitting silent Below emitting_tree.sites (on 0) nothing_bound (constructor_row 0 (1 ∷ []) 1) effects (given h) → ⊥
first_runs effects rest h split (vs, g, e, run, out) =
    let q : on 1 ≡ vs = cc in
    wrong_effect run.args run.answer rest (run.stand ∙ sym q) (split ∙ ap (λ (l : List Event). l ++ rest) run.alone)

-- so it doesn't emit 2 first
not_two : MachineBegins emitting (λ t. emitting_tree) silent 1 1 (on 0) (emitted 2 9 ∷ []) → ⊥
not_two (inl none) = absurd cc
not_two (inr (inl none)) = absurd cc
not_two (inr (inr (h, read, inr (left_out, more)))) = left_out (let q : held_value (number 0) ≡ h = cc in sym q)
not_two (inr (inr (h, read, inl (meets, inl none)))) = absurd cc
not_two (inr (inr (h, read, inl (meets, inr (row, at, inl begun))))) =
    let same : row ≡ constructor_row 0 (1 ∷ []) 1 = cc in
    first_begins (subst (λ (x : Row). RowBegins emitting (MachineBegins emitting (λ t. emitting_tree) silent 0) emitting_tree.sites
    (on 0) nothing_bound x
    (emitted 2 9 ∷ [])) same begun)
not_two (inr (inr (h, read, inl (meets, inr (row, at, inr (effects, rest, g, split, run, more)))))) =
    let same : row ≡ constructor_row 0 (1 ∷ []) 1 = cc in
    first_runs effects rest g split
    (subst (λ (x : Row). RowRuns emitting silent Below emitting_tree.sites (on 0) nothing_bound x effects (given g)) same run)

-- ---- a tree that compares its arguments: where they are equal it answers the first, else the second

abbrev comparing : TermTree ℤ
comparing = record {
  sites = argument_row 0 ∷ argument_row 1 ∷ [];
  test = λ n. int_constraint n 1;
  result = λ i. i;
  tree = equal [] 0 1 (give [] 0 done) (give [] 1 done);
}

-- two numbers as arguments
abbrev on_two : ℕ → ℕ → Values
on_two n m = more_values (number n) (on m)

equal_ones : MachineRun emitting (λ t. comparing) silent 1 1 (on_two 4 4) 2 [] (given (number 4))
equal_ones = (1, refl, (held_value (number 4), held_value (number 4), refl, refl, inl (refl, (0, refl, (number 4, refl, refl, refl, refl)))))

other_ones : MachineRun emitting (λ t. comparing) silent 1 1 (on_two 4 5) 2 [] (given (number 5))
other_ones = (1, refl, (held_value (number 4), held_value (number 5), refl, refl, inr ((λ e. cc), (0, refl, (number 5, refl, refl, refl, refl)))))

-- ---- a test inside another: past a body without a return the next step follows

abbrev nesting : TermTree ℤ
nesting = record {
  sites = argument_row 0 ∷ argument_row 1 ∷ [];
  test = λ n. int_constraint n 1;
  result = λ i. i;
  tree = «match» [] 0 (arm (pos 0) [] («match» [] 1 (arm (pos 7) [] (give [] 0 done) no_arm) done) no_arm) (give [] 1 done);
}

-- both tests are passed
inner_return : MachineRun emitting (λ t. nesting) silent 1 1 (on_two 0 7) 3 [] (given (number 0))
inner_return = (
  2,
  refl,
  (held_value (number 0), refl, inl (refl, (1, refl, (held_value (number 7), refl, inl (refl, (0, refl, (number 0, refl, refl, refl, refl))))))),
)

-- the inner one fails, and the last step returns
inner_passed_by : MachineRun emitting (λ t. nesting) silent 1 1 (on_two 0 8) 3 [] (given (number 8))
inner_passed_by = (
  2,
  refl,
  (
    held_value (number 0),
    refl,
    inl (refl, (1, refl, (held_value (number 8), refl, inr ((λ e. cc), (0, refl, (number 8, refl, refl, refl, refl)))))),
  ),
)

-- ---- a test that opens a field of a variant

abbrev opening : TermTree Constraint
opening = record {
  sites = argument_row 0 ∷ match_variant_row 0 0 1 ∷ [];
  test = λ c. c;
  result = λ i. 1;
  tree = «match» [] 0 (arm (variant_constraint 1 0 2) (None ∷ Some 1 ∷ []) (give [] 0 done) no_arm) done;
}

-- of a pair it is the second, and of a number none is, where the term is stuck
second_of_pair : MachineRun emitting (λ t. opening) silent 1 1 (more_values (made_variant 1 0 (on_two 4 5)) no_values) 2 [] (given (number 5))
second_of_pair = (
  1,
  refl,
  (
    held_value (made_variant 1 0 (on_two 4 5)),
    refl,
    inl (
      (on_two 4 5, refl, refl),
      (match_variant_row 0 0 1, [], [], given (held_value (number 5)), refl, (refl, refl), refl, (0, refl, (number 5, refl, refl, refl, refl))),
    ),
  ),
)

none_of_number : MachineRun emitting (λ t. opening) silent 1 1 (on 4) 1 [] (ended (stuck 1 (on 4)))
none_of_number = (0, refl, (held_value (number 4), refl, inr ((λ m. let q = m.1 in cc), (refl, refl, refl))))

-- ---- emit, where it may fail: its content is opened, and without one the call is answered none

abbrev may_fail : CheckedProgram
may_fail = record emitting { terms = record sample_terms { pure = λ t. false; inputs = λ t. 1 ∷ []; type_of = λ t. 1 } }

abbrev content_tree : TermTree ℤ
content_tree = record {
  sites = argument_row 0 ∷ constructor_row 0 (0 ∷ []) 1 ∷ match_some_row 1 ∷ make_some_row 2 ∷ [];
  test = λ n. int_constraint n 1;
  result = λ i. 3;
  tree = give (1 ∷ 2 ∷ 3 ∷ []) 0 done;
}

-- emit on 4 is answered none, and so is (f 4), after that effect
abbrev emitted_none : Event
emitted_none = record { term = 0; args = more_trees (int_tree (pos 4)) no_trees; answer = None }

fails_after_effect : MachineRun may_fail (λ t. content_tree) silent 1 1 (on 4) 1 (emitted_none ∷ []) missing
fails_after_effect = (
  0,
  refl,
  (
    constructor_row 0 (0 ∷ []) 1,
    emitted_none ∷ [],
    [],
    given held_none,
    refl,
    (
      on 4,
      missing,
      refl,
      record {
        args = more_trees (int_tree (pos 4)) no_trees;
        typed = (fits 4 (omega arith), tt);
        stand = refl;
        answer = None;
        alone = refl;
        judged = inl (refl, refl);
      },
      refl,
    ),
    refl,
    (match_some_row 1, [], [], missing, refl, (refl, refl), refl, (refl, refl, refl)),
  ),
)

-- where it is answered 5, (f 4) is 5
gives_content : MachineRun may_fail (λ t. content_tree) silent 1 1 (on 4) 1 (emitted 4 5 ∷ []) (given (number 5))
gives_content = (
  0,
  refl,
  (
    constructor_row 0 (0 ∷ []) 1,
    emitted 4 5 ∷ [],
    [],
    given (held_some (held_value (number 5))),
    refl,
    (
      on 4,
      given (number 5),
      refl,
      record {
        args = more_trees (int_tree (pos 4)) no_trees;
        typed = (fits 4 (omega arith), tt);
        stand = refl;
        answer = Some (int_tree (pos 5));
        alone = refl;
        judged = inl (fits 5 (omega arith), refl);
      },
      refl,
    ),
    refl,
    (
      match_some_row 1,
      [],
      [],
      given (held_value (number 5)),
      refl,
      (refl, refl),
      refl,
      (make_some_row 2, [], [], given (held_some (held_value (number 5))), refl, (refl, refl), refl, (number 5, refl, refl, refl, refl)),
    ),
  ),
)
