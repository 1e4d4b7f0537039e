-- Effects made one after another.
use Rattle.std.proofs.Common.{◌≡◌, ◌++◌, ℕ, List, [], ◌∷◌, Option, refl, sym, ◌∙◌, ap, subst, append_assoc, Result, Ok, Err, OnErr}
use Rattle.std.proofs.lemmas.List.{append-nil}
use Rattle.std.specs.List.{AllZip}
use Rattle.isle_rules.specs.Values.{ValueTree, ValueTrees}
use Rattle.isle_meaning.specs.Worlds.{Event}
use Rattle.isle_calls.specs.declared.answer.Effect.{Effect}
use Rattle.isle_program.specs.declared.program.Program.{Program}
use Rattle.isle_calls.specs.Calls.Answers.{IsEventOf, LeadsThrough, HasMade, name_of_term, answers_in}
use Rattle.isle_calls.specs.Calls.Open.{CallOf}
use Rattle.isle_calls.specs.Calls.States.{Host, State, Makes, IsOpenIn, HasGoneOn}
use Rattle.isle_calls.proofs.Stores.Values.{extends_same, extends_again}

-- items of two lists, place by place, and others behind them
zip_again : {A B : Type 0} (P : A → B → Type 0) (xs : List A) (ys : List B) (us : List A) (vs : List B) → AllZip P xs ys → AllZip P us vs
    → AllZip P (xs ++ us) (ys ++ vs)
zip_again P [] [] us vs p q = q
zip_again P [] (y ∷ ys) us vs p q = absurd p
zip_again P (x ∷ xs) [] us vs p q = absurd p
zip_again P (x ∷ xs) (y ∷ ys) us vs p q = (p.0, zip_again P xs ys us vs p.1 q)

module _ {W : Type 0} (step : W → List ℕ → ValueTrees → Option ValueTree → W → Type 0) where
  -- effects that lead from one world to another, and others from there on
  leads_again : (name : ℕ → List ℕ) (first second third : W) (es fs : List Event) → LeadsThrough step name first es second
      → LeadsThrough step name second fs third → LeadsThrough step name first (es ++ fs) third
  leads_again name first second third [] fs p q = subst (λ (w : W). LeadsThrough step name w fs third) p q
  leads_again name first second third (e ∷ es) fs (middle, made, rest) q = (middle, made, leads_again name middle second third es fs rest q)

  -- none were made
  pub made_none : (program : Program) (world : W) (effects : List Effect) → HasMade step program world effects world effects []
  made_none program world effects = record { more = []; joined = sym (append-nil effects); shown = tt; steps = refl }

  -- these were made, and then those
  pub made_again : (program : Program) (first second third : W) (a b c : List Effect) (es fs : List Event) → HasMade step program first
      a second b es
      → HasMade step program second b third c fs → HasMade step program first a third c (es ++ fs)
  made_again program first second third a b c es fs p q = record {
    more = p.more ++ q.more;
    joined = q.joined ∙ ap (λ (l : List Effect). l ++ q.more) p.joined ∙ append_assoc a p.more q.more;
    shown = zip_again (IsEventOf program) p.more es q.more fs p.shown q.shown;
    steps = leads_again (name_of_term program) first second third es fs p.steps q.steps;
  }

module _ {W : Type 0} (host : Host W) where
  -- nothing was made
  pub makes_none : (s : State W) → Makes host s s []
  makes_none s = made_none host.step s.program s.world s.effects

  -- what was made up to a state, and from there on
  pub makes_again : (s t u : State W) → t.program ≡ s.program → (es fs : List Event) → Makes host s t es → Makes host t u fs
      → Makes host s u (es ++ fs)
  makes_again s t u same es fs p q = made_again host.step s.program s.world t.world u.world s.effects t.effects u.effects es fs p
      (subst (λ (program : Program). HasMade host.step program t.world t.effects u.world u.effects fs) same q)

  -- nothing has changed
  pub gone_none : (s : State W) → HasGoneOn host s s
  gone_none s = record {
    program = refl;
    same = (refl, refl);
    made = ([], makes_none s);
    kept = extends_same s.stored;
  }

  -- what has changed up to a state, and from there on
  pub gone_again : {s t u : State W} → HasGoneOn host s t → HasGoneOn host t u → HasGoneOn host s u
  gone_again {s} {t} {u} p q = record {
    program = q.program ∙ p.program;
    same = (q.same.0 ∙ p.same.0, q.same.1 ∙ p.same.1);
    made = (p.made.0 ++ q.made.0, makes_again s t u p.program p.made.0 q.made.0 p.made.1 q.made.1);
    kept = extends_again p.kept q.kept;
  }

  -- a call stays one of the program in the world
  pub open_later : {s t : State W} → HasGoneOn host s t → (k : CallOf) → IsOpenIn host k s → IsOpenIn host k t
  open_later {s} {t} p k is = record {
    of_program = is.of_program ∙ sym p.program;
    in_world = is.in_world
        ∙ (λ i. answers_in (sym p.program i) (sym p.same.0 i) (sym p.same.1 i));
  }

-- what holds anyway holds where there is an error
pub on_err : {T E P : Type 0} (r : Result T E) → P → OnErr r P
on_err (Ok x) p = tt
on_err (Err e) p = p
