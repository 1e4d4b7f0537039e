-- A meaning stays at every greater depth.
use Rattle.std.proofs.Common.{inl, inr, ℕ, zero, suc, ◌++◌, List, [], ◌∷◌, Bool, true, false, Option, Some, None}
use Rattle.isle_meaning.specs.Got.{Got, unknown, fails, gives}
use Rattle.isle_meaning.specs.Values.{Value, Values}
use Rattle.isle_meaning.specs.Words.{Word, Step, word_of, steps_of}
use Rattle.isle_meaning.specs.Answers.{Completion}
use Rattle.isle_meaning.specs.Matching.{word_values}
use Rattle.isle_meaning.specs.Worlds.{CheckedProgram, Answers, Event}
use Rattle.isle_meaning.specs.RightSides.{on_got, on_answer, Right}
use Rattle.isle_meaning.specs.Calls.{Agrees, MakesIf, Makes, Told, Means}
use Rattle.isle_meaning.specs.Laws.Calls.{MeaningStays}

-- where there is a value, something weaker
pub got_map : {A : Type 0} (g : Got A) (F : Type 0) (G H : A → Type 0) → ((v : A) → G v → H v) → on_got g F G → on_got g F H
got_map unknown F G H f h = tt
got_map fails F G H f h = h
got_map (gives v) F G H f h = f v h

-- where there is an answer, something weaker
pub answer_map : (o : Option Value) (F G H : Type 0) → (G → H) → on_answer o F G → on_answer o F H
answer_map None F G H f h = h
answer_map (Some v) F G H f h = f h

-- a right side whose calls do more does more
pub right_more : (below above : ℕ → Values → List Event → Option Value → Type 0)
    → ((t : ℕ) (vs : Values) (effects : List Event) (b : Option Value) → below t vs effects b → above t vs effects b)
    → (c : Completion) (a : ℕ → Value) (done : List (Option Value)) (steps : List Step) (result : Word) (trace : List Event)
    (x : Option Value)
    → Right c below a done steps result trace x → Right c above a done steps result trace x
right_more below above rises c a done [] result trace x h = h
right_more below above rises c a done (s ∷ steps) result trace x h = got_map (word_values c a done s.args) _ _ _
    (λ vs r. (
      r.0,
      r.1,
      r.2,
      r.3,
      rises s.term vs (r.0) (r.2) (r.4),
      answer_map (r.2) _ _ _ (right_more below above rises c a (done ++ r.2 ∷ []) steps result (r.1) x) (r.5),
    )) h

module _ (p : CheckedProgram) (w : Answers) (below above : ℕ → Values → List Event → Option Value → Type 0)
    (rises : (t : ℕ) (vs : Values) (trace : List Event) (x : Option Value) → below t vs trace x → above t vs trace x) where
  -- an impure call does more
  pub makes_more : (k : Bool) (t : ℕ) (vs : Values) (effects : List Event) (b : Option Value) → MakesIf p below k t vs effects b
      → MakesIf p above k t vs effects b
  makes_more true t vs effects b h = rises t vs effects b h
  makes_more false t vs effects b h = h

  -- what agrees with more agrees with less
  pub agrees_less : (c : Completion) → Agrees p w above c → Agrees p w below c
  agrees_less c h = record {
    outside = h.outside;
    outputs = h.outputs;
    inside = λ t vs b i y m. h.inside t vs b i y (rises t vs [] b m);
    allowed = h.allowed;
    typed = h.typed;
  }

  -- what is told under one completion stays told
  pub told_more : (c : Completion) (t : ℕ) (args : Values) (trace : List Event) (x : Option Value) → Told p below c t args trace x
      → Told p above c t args trace x
  told_more c t args trace x (inl g) = inl (record {
    place = g.place;
    chosen = g.chosen;
    at = g.at;
    variables = g.variables;
    matches = g.matches;
    greatest = g.greatest;
    right = right_more (Makes p below) (Makes p above) (λ u vs effects b. makes_more (p.has_rules u) u vs effects b) c (g.variables) []
        (steps_of p.terms g.chosen.right) (word_of p.terms g.chosen.right) trace x (g.right);
  })
  told_more c t args trace x (inr g) = inr g

-- A meaning is one at the next depth.
pub stays_deeper : MeaningStays
stays_deeper p w zero t args trace x h = absurd h
stays_deeper p w (suc n) t args trace x h =
    let rises : (u : ℕ) (vs : Values) (s : List Event) (b : Option Value) → Means p w n u vs s b → Means p w (suc n) u vs s b =
    λ u vs s b. stays_deeper p w n u vs s b in (
      h.0,
      λ c ag k. told_more p w (Means p w n) (Means p w (suc n)) rises c t args trace x
          (h.1 c (agrees_less p w (Means p w n) (Means p w (suc n)) rises c ag) k),
    )
