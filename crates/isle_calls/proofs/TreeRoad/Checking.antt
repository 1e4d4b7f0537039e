-- Frames that make a check.
use Rattle.std.proofs.Common.{◌≡◌, ℕ, Bool, List, [], Option, Some, None, inl, inr, refl, sym, ap, subst, ◌∙◌}
use Rattle.isle_trees.specs.Tree.{no_arm}
use Rattle.isle_types.specs.declared.ids.Sym.{Sym}
use Rattle.isle_meaning.specs.Demands.{Constraint as Asked}
use Rattle.isle_meaning.specs.Got.{gives}
use Rattle.isle_meaning.specs.Held.{Held}
use Rattle.isle_meaning.specs.Held.{Meets}
use Rattle.isle_meaning.specs.Machine.Beginnings.{ArmsBegin, Begun}
use Rattle.isle_meaning.specs.Machine.Runs.{ArmsRun, Env, Going, read}
use Rattle.isle_meaning.specs.Machine.Walkable.{AreWalkable, CanRead}
use Rattle.isle_meaning.specs.Outcomes.{Outcome}
use Rattle.isle_meaning.specs.Numbered.{Row}
use Rattle.isle_meaning.specs.Values.{Value, Values}
use Rattle.isle_meaning.specs.Worlds.{Event}
use Rattle.isle_blocks.specs.declared.constraint.Constraint.{Constraint}
use Rattle.isle_blocks.specs.declared.ids.BindingId.{BindingId}
use Rattle.isle_blocks.specs.declared.serializer.views.Arms.{Arms as MatchArms}
use Rattle.isle_blocks.specs.declared.serializer.views.ControlFlow.TheVariants as flows
use Rattle.isle_blocks.specs.declared.serializer.views.MatchArm.{MatchArm}
use Rattle.isle_blocks.specs.declared.serializer.views.Steps.{Steps as Walk}
use Rattle.isle_blocks.specs.Building.Naming.{name_by}
use Rattle.isle_blocks.specs.RuleSets.{RulesOverSites}
use Rattle.isle_blocks.specs.Rows.{test_of}
use Rattle.isle_blocks.specs.Trees.Shown.{BlockShown}
use Rattle.isle_blocks.specs.Trees.Views.{arm_before, shown_arms, shown_steps}
use Rattle.isle_calls.specs.declared.store.Stored.{Stored}
use Rattle.isle_program.specs.declared.program.Program.{Program}
use Rattle.isle_calls.specs.declared.machine.frame.At.TheVariants.{Steps as AtSteps}
use Rattle.isle_calls.specs.declared.machine.frame.Frame.{Frame}
use Rattle.isle_calls.specs.declared.machine.holding.Holding.{Holding}
use Rattle.isle_calls.specs.Inside.Blocks.Frames.{CanWalk, IsChecking, IsFrameOf, IsGoing, IsPassing, LaterSteps}
use Rattle.isle_calls.specs.Inside.Blocks.Frames.{begins_below, found_in, later_begin, later_go, may_fail, rows_in, runs_below, sites_of_call, steps_begin, steps_go, tree_of_call}
use Rattle.isle_calls.specs.Inside.Blocks.Holdings.{Holds, TellsHeld}
use Rattle.isle_calls.specs.Inside.Blocks.Reading.{IsAround}
use Rattle.isle_calls.specs.Calls.Open.{CallOf}
use Rattle.isle_program.specs.Meanings.{checked}
use Rattle.isle_program.specs.Programs.{types_of}
use Rattle.isle_program.specs.Trees.{tree_or_none}
use Rattle.isle_calls.proofs.TreeRoad.Going.{going_frame}
use Rattle.isle_calls.proofs.TreeRoad.Known.{read_holds}
use Rattle.isle_calls.proofs.TreeRoad.Steps.{same_call}

-- steps that come next
pub goes_behind : (k : CallOf) (stored : List Stored) (frame : Frame) (since : List Event) (goes : Env → List LaterSteps → Going)
    (begins : Env → List LaterSteps → Begun) (can : (ℕ → Bool) → Type 0) (behind : Walk) → IsGoing k stored frame goes begins can since
    → ((known : ℕ → Bool) → can known → CanWalk k known behind)
    → ((env : Env) (ls : List LaterSteps) (more : ℕ) (trace : List Event) (r : Outcome Value)
    → steps_go k env (shown_steps behind).tree (later_go k ls) more trace r
    → goes env ls more trace r)
    → ((env : Env) (ls : List LaterSteps) (made : List Event) → steps_begin k env (shown_steps behind).tree (later_begin k ls) made
    → begins env ls made)
    → IsFrameOf k stored (record frame { at = AtSteps behind }) since
goes_behind k stored frame since goes begins can behind g walks f h = going_frame k stored (record frame { at = AtSteps behind }) since (record {
  for_call = same_call g.for_call refl refl refl refl;
  is = g.is;
  left = g.left;
  env = g.env;
  known = g.known;
  later = g.later;
  stand = g.stand;
  good = g.good;
  bound = g.bound;
  goes_on = walks g.known g.goes_on;
  laters = g.laters;
  awaited = g.awaited;
  comes = λ more trace r run. g.comes more trace r (f g.env g.later more trace r run);
  begun = λ made run. g.begun made (h g.env g.later made run);
})

-- what a frame has bound, and its arguments
pub around : (k : CallOf) (stored : List Stored) (frame : Frame) (since : List Event) (goes : Env → List LaterSteps → Going)
    (begins : Env → List LaterSteps → Begun) (can : (ℕ → Bool) → Type 0) (g : IsGoing k stored frame goes begins can since)
    → IsAround stored frame k.args g.env
around k stored frame since goes begins can g = record { args_stand = g.for_call.stand; bound = g.stand }

-- what the tests of a term's tree ask
pub tests_are : (k : CallOf) (test : Constraint) → (tree_of_call k).test test ≡ test_of (name_by (types_of k.program).names) test
tests_are k test = tests_of (name_by (types_of k.program).names) (found_in k.program k.term) test
  where
    tests_of : (name : Sym → List ℕ) (o : Option (RulesOverSites × BlockShown)) (test : Constraint)
        → (tree_or_none name o).test test ≡ test_of name test
    tests_of name None test = refl
    tests_of name (Some found) test = refl

-- arms are left of a match, and its site holds this
pub record IsMatching (k : CallOf) (stored : List Stored) (frame : Frame) (source : BindingId) (arms : MatchArms) (behind : Walk) (held : Holding)
    (since : List Event) : Type 0 where
  pub going : IsChecking k stored frame (flows.Match source arms) behind since
  pub h : Held
  pub reads : read (sites_of_call k) k.args going.env source.0 ≡ gives h
  pub holds : Holds stored held h

module _ (k : CallOf) (stored : List Stored) (frame : Frame) (source : BindingId) (arms : MatchArms) (behind : Walk)
    (held : Holding) (since : List Event)
    (m : IsMatching k stored frame source arms behind held since) where
  -- an arm whose test isn't passed is left
  pub arm_left : (arm : MatchArm) (others : MatchArms) → (shown_arms arms).arms ≡ arm_before arm (shown_arms others).arms
      → (shown_arms others).returns ≡ (shown_arms arms).returns → (Meets (test_of (name_by (types_of k.program).names) arm.constraint) m.h → ⊥)
      → IsMatching k stored frame source others behind held since
  arm_left arm others is rest left_out =
      let g = m.going in
      let walks : AreWalkable (sites_of_call k) (tree_of_call k).result g.known (arm_before arm (shown_arms others).arms) =
      subst (AreWalkable (sites_of_call k) (tree_of_call k).result g.known) is (g.goes_on.1.walkable) in
      record {
        going = record {
          for_call = g.for_call;
          is = g.is;
          left = g.left;
          env = g.env;
          known = g.known;
          later = g.later;
          stand = g.stand;
          good = g.good;
          bound = g.bound;
          goes_on = (g.goes_on.0, record { walkable = walks.2; of_block = rest ∙ g.goes_on.1.of_block }, g.goes_on.2);
          laters = g.laters;
          awaited = g.awaited;
          comes = λ more trace r run. g.comes more trace r
              (subst (λ a. ArmsRun (checked k.program) k.answers (runs_below k) (tree_of_call k) (may_fail k) k.args g.env source.0 a
              (steps_go k g.env (shown_steps behind).tree (later_go k g.later)) more trace r) (sym is)
              (m.h, m.reads, inr ((λ met. left_out (subst (λ (c : Asked). Meets c m.h) (tests_are k arm.constraint) met)), run)));
          begun = λ made run. g.begun made
              (subst (λ a. ArmsBegin (checked k.program) k.answers (runs_below k) (begins_below k) (tree_of_call k) k.args g.env source.0 a
              (steps_begin k g.env (shown_steps behind).tree (later_begin k g.later)) made) (sym is)
              (inr (m.h, m.reads, inr ((λ met. left_out (subst (λ (c : Asked). Meets c m.h) (tests_are k arm.constraint) met)), run))));
        };
        h = m.h;
        reads = m.reads;
        holds = m.holds;
      }

  -- one whose test is passed is gone into
  pub arm_passed : (arm : MatchArm) (others : MatchArms) → (shown_arms arms).arms ≡ arm_before arm (shown_arms others).arms
      → (shown_steps arm.body).returns ≡ (shown_arms arms).returns → Meets (test_of (name_by (types_of k.program).names) arm.constraint) m.h
      → IsPassing k stored frame arm.bindings.now arm.body behind since
  arm_passed arm others is rest meets =
      let g = m.going in
      let walks : AreWalkable (sites_of_call k) (tree_of_call k).result g.known (arm_before arm (shown_arms others).arms) =
      subst (AreWalkable (sites_of_call k) (tree_of_call k).result g.known) is (g.goes_on.1.walkable) in
      record {
        for_call = g.for_call;
        is = g.is;
        left = g.left;
        env = g.env;
        known = g.known;
        later = g.later;
        stand = g.stand;
        good = g.good;
        bound = g.bound;
        goes_on = (walks.0, record { walkable = walks.1; of_block = rest ∙ g.goes_on.1.of_block }, g.goes_on.2);
        laters = g.laters;
        awaited = g.awaited;
        comes = λ more trace r run. g.comes more trace r
            (subst (λ a. ArmsRun (checked k.program) k.answers (runs_below k) (tree_of_call k) (may_fail k) k.args g.env source.0 a
            (steps_go k g.env (shown_steps behind).tree (later_go k g.later)) more trace r) (sym is)
            (m.h, m.reads, inl (subst (λ (c : Asked). Meets c m.h) (sym (tests_are k arm.constraint)) meets, run)));
        begun = λ made run. g.begun made
            (subst (λ a. ArmsBegin (checked k.program) k.answers (runs_below k) (begins_below k) (tree_of_call k) k.args g.env source.0 a
            (steps_begin k g.env (shown_steps behind).tree (later_begin k g.later)) made) (sym is)
            (inr (m.h, m.reads, inl (subst (λ (c : Asked). Meets c m.h) (sym (tests_are k arm.constraint)) meets, run))));
      }

  -- where no arm is left the steps behind come next
  pub no_arm_left : (shown_arms arms).arms ≡ no_arm → IsFrameOf k stored (record frame { at = AtSteps behind }) since
  no_arm_left is = goes_behind k stored frame since _ _ _ behind m.going (λ known can. can.2)
      (λ env ls more trace r run. subst (λ a. ArmsRun (checked k.program) k.answers (runs_below k) (tree_of_call k) (may_fail k) k.args env source.0 a
      (steps_go k env (shown_steps behind).tree (later_go k ls)) more trace r) (sym is) run)
      (λ env ls made run. subst (λ a. ArmsBegin (checked k.program) k.answers (runs_below k) (begins_below k) (tree_of_call k) k.args env source.0 a
      (steps_begin k env (shown_steps behind).tree (later_begin k ls)) made) (sym is) run)

-- two sites that hold the same are gone on behind
pub equal_passed : (k : CallOf) (stored : List Stored) (frame : Frame) (a b : BindingId) (body behind : Walk) (since : List Event)
    (g : IsChecking k stored frame (flows.Equal a b body) behind since) (h : Held) → read (sites_of_call k) k.args g.env a.0 ≡ gives h
    → read (sites_of_call k) k.args g.env b.0 ≡ gives h → IsPassing k stored frame [] body behind since
equal_passed k stored frame a b body behind since g h one other = record {
  for_call = g.for_call;
  is = g.is;
  left = g.left;
  env = g.env;
  known = g.known;
  later = g.later;
  stand = g.stand;
  good = g.good;
  bound = g.bound;
  goes_on = (tt, g.goes_on.2, g.goes_on.3);
  laters = g.laters;
  awaited = g.awaited;
  comes = λ more trace r run. g.comes more trace r (h, h, one, other, inl (refl, run));
  begun = λ made run. g.begun made (inr (h, h, one, other, inl (refl, run)));
}

-- two that hold something else are not
pub equal_failed : (k : CallOf) (stored : List Stored) (frame : Frame) (a b : BindingId) (body behind : Walk) (since : List Event)
    (g : IsChecking k stored frame (flows.Equal a b body) behind since) (h j : Held) → read (sites_of_call k) k.args g.env a.0 ≡ gives h
    → read (sites_of_call k) k.args g.env b.0 ≡ gives j → (h ≡ j → ⊥) → IsFrameOf k stored (record frame { at = AtSteps behind }) since
equal_failed k stored frame a b body behind since g h j one other differ = going_frame k stored (record frame { at = AtSteps behind }) since (record {
  for_call = same_call g.for_call refl refl refl refl;
  is = g.is;
  left = g.left;
  env = g.env;
  known = g.known;
  later = g.later;
  stand = g.stand;
  good = g.good;
  bound = g.bound;
  goes_on = g.goes_on.3;
  laters = g.laters;
  awaited = g.awaited;
  comes = λ more trace r run. g.comes more trace r (h, j, one, other, inr (differ, run));
  begun = λ made run. g.begun made (inr (h, j, one, other, inr (differ, run)));
})

-- what a machine reads of a frame that goes on
module _ (k : CallOf) (old new : List Stored) (frame : Frame) (since : List Event) (goes : Env → List LaterSteps → Going)
    (begins : Env → List LaterSteps → Begun) (can : (ℕ → Bool) → Type 0) (g : IsGoing k old frame goes begins can since) where
  -- is what the site holds
  pub reads_there : (program : Program) → k.program ≡ program → (s : ℕ) (o : Option Holding)
      → ((args : Values) (env : Env) → IsAround old frame args env → TellsHeld new o (read (rows_in program frame.sites.now) args env s))
      → TellsHeld new o (read (sites_of_call k) k.args g.env s)
  reads_there program same s o told =
      let rows : rows_in program frame.sites.now ≡ sites_of_call k = ap (λ (p : Program). rows_in p frame.sites.now) (sym same) ∙ g.for_call.sites in
      subst (λ (l : List Row). TellsHeld new o (read l k.args g.env s)) rows (told k.args g.env (around k old frame since goes begins can g))

  -- and something, where it can be read
  pub reads_something : (s : ℕ) → CanRead (sites_of_call k) g.known s → TellsHeld new None (read (sites_of_call k) k.args g.env s) → ⊥
  reads_something s can_read none = let (h, e) = read_holds g.is g.for_call.ready g.good g.known g.bound s can_read in none h e
