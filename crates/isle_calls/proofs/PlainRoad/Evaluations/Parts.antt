-- What the parts of an expression come to while it is evaluated.
use Rattle.std.proofs.Common.{◌≡◌, ◌<◌, ℕ, zero, suc, List, [], ◌∷◌, Option, Some, None, slice_get, refl, sym, ◌∙◌, ap, subst}
use Rattle.std.specs.Prelude.{All}
use Rattle.std.proofs.lemmas.List.Elements.{All-head, All-tail}
use Rattle.isle_meaning.specs.Values.{Value, Values, no_values, more_values}
use Rattle.isle_meaning.specs.Words.{Word, var_word, bool_word, int_word, prim_word, variant_word, struct_word, call_word, Words}
use Rattle.isle_meaning.specs.Words.{no_words, more_words}
use Rattle.isle_calls.specs.declared.plain.evaluation.Evaluation.{Evaluation}
use Rattle.isle_program.specs.declared.laid.Part.{Part}
use Rattle.isle_calls.specs.declared.store.Stored.{Stored}
use Rattle.isle_program.specs.Meanings.{checked, may_run}
use Rattle.isle_program.specs.Programs.{types_of}
use Rattle.isle_meaning.specs.Outcomes.{Outcome, given, missing, ended, After}
use Rattle.isle_meaning.specs.Inside.TypedWords.{AreTypedWords}
use Rattle.isle_program.specs.Plain.LaidOut.Words.{AreLaid, made_of}
use Rattle.isle_calls.specs.Stores.Values.{StandEach, Extends}
use Rattle.isle_calls.specs.Inside.Plain.Underway.{Surroundings, Stops, ComesTo, AllComeTo, HasTypedValue, IsPart, known_at, HasValueAt, IsRight}
use Rattle.isle_calls.specs.Inside.Plain.Underway.{LeadsToWhole, IsUnderway, if_unknown, first_unknown, number_before, known_numbers, AreKnown}
use Rattle.isle_calls.proofs.Stores.Values.{stands_longer}

-- an outcome without a value, of several words
abbrev pub stopped : Outcome Value → Outcome Values
stopped (given v) = missing
stopped missing = missing
stopped (ended e) = ended e

-- words come to an outcome without a value where one of them does
abbrev pub LeadsToAll : Surroundings → Words → ℕ → Type 0
LeadsToAll s xs k = (x : Word) × (u : ℕ) × IsPart s x u k × ((r : Outcome Value) → Stops r → ComesTo s x r → AllComeTo s xs (stopped r))

-- where there is no value, nothing comes after
pub after_stopped : (next : Values → Outcome Value → Type 0) (r : Outcome Value) → Stops r → After (stopped r) next r
after_stopped next (given v) h = absurd h
after_stopped next missing h = refl
after_stopped next (ended e) h = refl

-- a part whose parts are not all evaluated waits for the first that isn't: it stands before, and hasn't been evaluated
pub first_unknown_at : (e : Evaluation) (ks : List ℕ) (n m : ℕ) → All (λ k. k < n) ks → first_unknown e ks ≡ Some m
    → (m < n) × (known_at e m ≡ None)
first_unknown_at e [] n m below found = absurd cc
first_unknown_at e (k ∷ ks) n m below found =
    go (known_at e k) refl found (first_unknown_at e ks n m (All-tail (λ k. k < n) k ks below))
  where
    go : (o : Option ℕ) → known_at e k ≡ o → if_unknown o k (first_unknown e ks) ≡ Some m
        → (first_unknown e ks ≡ Some m → (m < n) × (known_at e m ≡ None)) → (m < n) × (known_at e m ≡ None)
    go None is found rest =
        let same : k ≡ m = cc in
        (subst (λ j. j < n) same (All-head (λ k. k < n) k ks below), subst (λ j. known_at e j ≡ None) same is)
    go (Some v) is found rest = rest found

module _ (s : Surroundings) where
  -- a value has its number in a larger store too
  pub value_longer : {old new : List Stored} → Extends old new → (k n : ℕ) → HasValueAt s old k n → HasValueAt s new k n
  value_longer extends k n h x u part = let (v, stands, comes) = h x u part in (v, stands_longer extends v n stands, comes)

  -- what is right stays right in a larger store
  pub right_longer : {old new : List Stored} → Extends old new → (e : Evaluation) → IsRight s old e → IsRight s new e
  right_longer extends e h k n is = value_longer extends k n (h k n is)

  -- so does the whole
  pub underway_longer : {old new : List Stored} → Extends old new → (whole : Word) (e : Evaluation) → IsUnderway s old whole e
      → IsUnderway s new whole e
  underway_longer extends whole e h =
      record { right = right_longer extends e h.right; leads = h.leads; sized = h.sized; missed = h.missed }

  -- the first of some words comes to no value
  first_stops : (x : Word) (xs : Words) (r : Outcome Value) → Stops r → ComesTo s x r → AllComeTo s (more_words x xs) (stopped r)
  first_stops x xs (given v) h run = absurd h
  first_stops x xs missing h run = (missing, run, refl)
  first_stops x xs (ended e) h run = (ended e, run, refl)

  -- one behind the first does
  other_stops : (x : Word) (xs : Words) (v : Value) (r : Outcome Value) → Stops r → ComesTo s x (given v) → AllComeTo s xs (stopped r)
      → AllComeTo s (more_words x xs) (stopped r)
  other_stops x xs v (given w) h run others = absurd h
  other_stops x xs v missing h run others = (given v, run, (missing, others, refl))
  other_stops x xs v (ended e) h run others = (given v, run, (ended e, others, refl))

  module _ (stored : List Stored) (e : Evaluation) (right : IsRight s stored e) where
    one_leads : (o : Option ℕ) (k m : ℕ) (ks : List ℕ) (x : Word) (u : ℕ) (xs : Words) → known_at e k ≡ o
        → if_unknown o k (first_unknown e ks) ≡ Some m → IsPart s x u k → (first_unknown e ks ≡ Some m → LeadsToAll s xs m)
        → LeadsToAll s (more_words x xs) m
    one_leads None k m ks x u xs is found part rest =
        let same : k ≡ m = cc in (x, u, subst (IsPart s x u) same part, first_stops x xs)
    one_leads (Some n) k m ks x u xs is found part rest =
        let (v, stands, run) = right k n is x u part in
        let (y, w, other, leads) = rest found in
        (y, w, other, λ r stops comes. other_stops x xs v r stops run (leads r stops comes))

    -- where no value comes of the first part that hasn't been evaluated, none comes of them all
    pub words_lead : (xs : Words) (us ks : List ℕ) (m : ℕ) → AreLaid (types_of s.program).names s.parts xs ks
        → AreTypedWords (checked s.program) (may_run s.program) (HasTypedValue s) s.types s.answer_types xs us
        → first_unknown e ks ≡ Some m → LeadsToAll s xs m
    words_lead no_words us [] m laid typed found = absurd cc
    words_lead no_words us (k ∷ ks) m laid typed found = absurd laid
    words_lead (more_words x xs) us [] m laid typed found = absurd laid
    words_lead (more_words x xs) [] (k ∷ ks) m laid typed found = absurd typed
    words_lead (more_words x xs) (u ∷ us) (k ∷ ks) m laid typed found =
        one_leads (known_at e k) k m ks x u xs refl found (laid.0, typed.0) (words_lead xs us ks m laid.1 typed.1)

    one_comes : (o : Option ℕ) (k : ℕ) (ks : List ℕ) (x : Word) (u : ℕ) (xs : Words) → known_at e k ≡ o
        → if_unknown o k (first_unknown e ks) ≡ None → IsPart s x u k
        → (first_unknown e ks ≡ None → (vs : Values) × StandEach stored vs (known_numbers e ks) × AllComeTo s xs (given vs))
        → (vs : Values) × StandEach stored vs (number_before o (known_numbers e ks)) × AllComeTo s (more_words x xs) (given vs)
    one_comes None k ks x u xs is found part rest = absurd cc
    one_comes (Some n) k ks x u xs is found part rest =
        let (v, stands, run) = right k n is x u part in
        let (vs, each, runs) = rest found in
        (more_values v vs, (stands, each), (given v, run, (given vs, runs, refl)))

    -- parts that have all been evaluated come to their numbers' values
    pub words_come : (xs : Words) (us ks : List ℕ) → AreLaid (types_of s.program).names s.parts xs ks
        → AreTypedWords (checked s.program) (may_run s.program) (HasTypedValue s) s.types s.answer_types xs us
        → first_unknown e ks ≡ None → (vs : Values) × StandEach stored vs (known_numbers e ks) × AllComeTo s xs (given vs)
    words_come no_words us [] laid typed found = (no_values, tt, refl)
    words_come no_words us (k ∷ ks) laid typed found = absurd laid
    words_come (more_words x xs) us [] laid typed found = absurd laid
    words_come (more_words x xs) [] (k ∷ ks) laid typed found = absurd typed
    words_come (more_words x xs) (u ∷ us) (k ∷ ks) laid typed found =
        one_comes (known_at e k) k ks x u xs refl found (laid.0, typed.0) (words_come xs us ks laid.1 typed.1)

    -- so their numbers are known
    pub are_known : (ks : List ℕ) → first_unknown e ks ≡ None → AreKnown s stored ks (known_numbers e ks)
    are_known ks found xs us laid typed = words_come xs us ks laid typed found

    -- a part is made of these, where it is the one that is laid there
    made_of_is : (part : Part) (place m : ℕ) (ns : List ℕ) (other : Part) → slice_get s.parts place ≡ Some part
        → slice_get s.parts place ≡ Some other → made_of other ≡ ns → first_unknown e (made_of part) ≡ Some m → first_unknown e ns ≡ Some m
    made_of_is part place m ns other there also made found =
        let same : part ≡ other = cc in
        subst (λ l. first_unknown e l ≡ Some m) (ap made_of same ∙ made) found

    part_leads : (part : Part) (place m : ℕ) (x : Word) (u : ℕ) → slice_get s.parts place ≡ Some part
        → first_unknown e (made_of part) ≡ Some m → IsPart s x u place
        → (y : Word) × (w : ℕ) × IsPart s y w m × ((r : Outcome Value) → Stops r → ComesTo s y r → ComesTo s x r)
    part_leads part place m (var_word k) u there found ((var, is, of), typed) =
        let none : first_unknown e [] ≡ Some m = made_of_is part place m [] _ there is refl found in absurd cc
    part_leads part place m (bool_word ty b) u there found (is, typed) =
        let none : first_unknown e [] ≡ Some m = made_of_is part place m [] _ there is refl found in absurd cc
    part_leads part place m (int_word ty i) u there found (is, typed) =
        let none : first_unknown e [] ≡ Some m = made_of_is part place m [] _ there is refl found in absurd cc
    part_leads part place m (prim_word name) u there found ((sym, is, of), typed) =
        let none : first_unknown e [] ≡ Some m = made_of_is part place m [] _ there is refl found in absurd cc
    part_leads part place m (variant_word ty k ws) u there found ((of, variant, ns, is, p, q, laid), typed) =
        let (y, w, other, leads) = words_lead ws _ ns m laid (typed.2) (made_of_is part place m ns _ there is refl found) in
        (y, w, other, λ r stops comes. (stopped r, leads r stops comes, after_stopped _ r stops))
    part_leads part place m (struct_word ty ws) u there found ((of, ns, is, p, laid), typed) =
        let (y, w, other, leads) = words_lead ws _ ns m laid (typed.2) (made_of_is part place m ns _ there is refl found) in
        (y, w, other, λ r stops comes. (stopped r, leads r stops comes, after_stopped _ r stops))
    part_leads part place m (call_word t ws zero) u there found ((term, ns, is, p, laid), typed) =
        let (y, w, other, leads) = words_lead ws _ ns m laid (typed.3) (made_of_is part place m ns _ there is refl found) in
        (y, w, other, λ r stops comes. (stopped r, leads r stops comes, after_stopped _ r stops))
    part_leads part place m (call_word t ws (suc i)) u there found ((term, ns, is, p, laid), typed) =
        let (y, w, other, leads) = words_lead ws _ ns m laid (typed.4) (made_of_is part place m ns _ there is refl found) in
        (y, w, other, λ r stops comes. (stopped r, leads r stops comes, after_stopped _ r stops))

    -- where no value comes of the first part that hasn't been evaluated, none comes of the whole
    pub open_leads : (whole : Word) (part : Part) (place m : ℕ) → slice_get s.parts place ≡ Some part
        → first_unknown e (made_of part) ≡ Some m → LeadsToWhole s whole place → LeadsToWhole s whole m
    open_leads whole part place m there found (x, u, laid, leads) =
        let (y, w, other, goes) = part_leads part place m x u there found laid in
        (y, w, other, λ r stops comes. leads r stops (goes r stops comes))
