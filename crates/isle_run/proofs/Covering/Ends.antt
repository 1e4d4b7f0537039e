-- Where a run is stuck, it is so at a call on arguments of its term's types, of the run's own term or of one that it reaches; where an answer
-- isn't allowed, a rule asks for it.
use Rattle.std.proofs.Common.{◌≡◌, ◌⊎◌, inl, inr, ℕ, zero, suc, List, refl, sym, subst}
use Rattle.isle_meaning.specs.Asking.{Ended, stuck, spent, ill_typed}
use Rattle.isle_meaning.specs.GroundValues.{AreValuesOf}
use Rattle.isle_meaning.specs.Inside.TypedWords.{GivesTyped}
use Rattle.isle_meaning.specs.Machine.Runs.{TermTree, Runs, MachineRun}
use Rattle.isle_meaning.specs.Machine.Trees.{HasTermTrees}
use Rattle.isle_meaning.specs.Outcomes.{Outcome, given, ended}
use Rattle.isle_meaning.specs.PlainRuns.{PlainRun}
use Rattle.isle_meaning.specs.Reaching.{Calls, Reaches, at_once, onwards}
use Rattle.isle_meaning.specs.SoundPrograms.{IsSound}
use Rattle.isle_meaning.specs.Values.{Value, Values}
use Rattle.isle_meaning.specs.Worlds.{CheckedProgram, Answers, Event}
use Rattle.isle_meaning.proofs.Calls.Meant.{plain_run_meant}
use Rattle.isle_meaning.proofs.Machine.Meant.{machine_run_meant}
use Rattle.isle_run.proofs.Covering.RuleEnds.{ordered_end}
use Rattle.isle_run.proofs.Covering.TreeEnds.{IsAskedIn, tree_ends}

-- a call of one of these terms on arguments of its types, to which a call of a term comes
pub record IsReached (p : CheckedProgram) (R : ℕ → Type 0) (t u : ℕ) (vs : Values) : Type 0 where
  pub runs : R u
  pub typed : AreValuesOf p.values vs (p.terms.inputs u)
  pub reached : (u ≡ t) ⊎ Reaches p t u

-- where the end is that of a call that is stuck, it is such a call; where an answer isn't allowed, a rule asks for it
abbrev pub EndsWithin : CheckedProgram → (ℕ → Type 0) → ℕ → Ended → Type 0
EndsWithin p R t (stuck u vs) = IsReached p R t u vs
EndsWithin p R t spent = Unit {0}
EndsWithin p R t (ill_typed q) = (from : ℕ) × IsAskedIn p from q

-- what a called term reaches, the caller does
from_caller : (p : CheckedProgram) (R : ℕ → Type 0) (t u : ℕ) (e : Ended) → Calls p t u → EndsWithin p R u e → EndsWithin p R t e
from_caller p R t u (stuck x vs) calls h = record { runs = h.runs; typed = h.typed; reached = inr (by (h.reached)) }
  where
    by : (x ≡ u) ⊎ Reaches p u x → Reaches p t x
    by (inl is) = at_once (subst (Calls p t) (sym is) calls)
    by (inr more) = onwards calls more
from_caller p R t u spent calls h = tt
from_caller p R t u (ill_typed q) calls h = h

module _ {C : Type 0} (p : CheckedProgram) (w : Answers) (R : ℕ → Type 0) (sound : IsSound p R) (trees : ℕ → TermTree C)
    (H : HasTermTrees p R trees) where
  -- A machine's run ends so.
  pub machine_ends : (n t : ℕ) (args : Values) (steps : ℕ) (trace : List Event) (e : Ended) → R t
      → AreValuesOf p.values args (p.terms.inputs t) → MachineRun p trees w n t args steps trace (ended e) → EndsWithin p R t e
  machine_ends zero t args steps trace e runs typed (z, nothing, is) =
      let same : spent ≡ e = (let q : ended e ≡ ended spent = is in cc) in subst (EndsWithin p R t) same tt
  machine_ends (suc n) t args steps trace e runs typed run =
      let below : Runs = λ u vs effects q. (reached : ℕ) × MachineRun p trees w n u vs reached effects q in
      let gives_typed : GivesTyped p R below = λ u vs effects v ru args_typed its.
      (machine_run_meant p w R sound trees H n u vs (its.0) effects (given v) ru args_typed (its.1)).1 in
      tree_ends p w R sound below gives_typed t args typed (trees t) (H.of_term t runs) (EndsWithin p R t)
      (λ u vs effects d calls ru vs_typed its. from_caller p R t u d calls (machine_ends n u vs (its.0) effects d ru vs_typed (its.1)))
      (λ q asked. (t, asked)) (record { runs = runs; typed = typed; reached = inl refl }) steps trace e run

module _ (p : CheckedProgram) (w : Answers) (R : ℕ → Type 0) (sound : IsSound p R) where
  -- So does a plain run.
  pub plain_ends : (n t : ℕ) (args : Values) (steps : ℕ) (trace : List Event) (e : Ended) → R t
      → AreValuesOf p.values args (p.terms.inputs t) → PlainRun p w n t args steps trace (ended e) → EndsWithin p R t e
  plain_ends zero t args steps trace e runs typed (z, nothing, is) =
      let same : spent ≡ e = (let q : ended e ≡ ended spent = is in cc) in subst (EndsWithin p R t) same tt
  plain_ends (suc n) t args steps trace e runs typed (places, order, run) =
      let below : ℕ → Values → List Event → Outcome Value → Type 0 = λ u vs effects q. (tried : ℕ) × PlainRun p w n u vs tried effects q in
      let gives_typed : GivesTyped p R below = λ u vs effects v ru args_typed its.
      (plain_run_meant p w R sound n u vs (its.0) effects (given v) ru args_typed (its.1)).1 in
      ordered_end p w R sound below gives_typed t args runs typed (EndsWithin p R t)
      (λ u vs effects d calls ru vs_typed its. from_caller p R t u d calls (plain_ends n u vs (its.0) effects d ru vs_typed (its.1)))
      (λ q asked. (t, asked)) (record { runs = runs; typed = typed; reached = inl refl }) places order steps trace e run
