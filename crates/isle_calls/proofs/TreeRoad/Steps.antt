-- Frames that take a step, go into a check's steps, or leave steps.
use Rattle.std.proofs.Common.{◌≡◌, ◌≤◌, ◌+◌, ◌-◌, ◌++◌, Bor, Vec, ℕ, suc, Bool, List, [], ◌∷◌, Option, Some, None, refl, sym, ap, subst, ◌∙◌, arith, drop, length, reverse, slice_get}
use Rattle.std.specs.Global.{Global}
use Rattle.std.specs.Prelude.{Contains}
use Rattle.isle_trees.specs.Reads.{know}
use Rattle.isle_trees.specs.Tree.{Steps, done}
use Rattle.isle_meaning.specs.Machine.Beginnings.{Begun}
use Rattle.isle_meaning.specs.Machine.Runs.{Env, Going}
use Rattle.isle_meaning.specs.Machine.Walkable.{CanBindAll, IsWalkable}
use Rattle.isle_meaning.specs.Outcomes.{Outcome}
use Rattle.isle_meaning.specs.Values.{Value}
use Rattle.isle_meaning.specs.Worlds.{Event}
use Rattle.isle_types.specs.declared.ids.Sym.{Sym}
use Rattle.isle_blocks.specs.Building.Naming.{name_by}
use Rattle.isle_blocks.specs.RuleSets.{RulesOverSites}
use Rattle.isle_blocks.specs.Trees.Promises.{ReturnsItsRules}
use Rattle.isle_blocks.specs.Trees.View.{read_or}
use Rattle.isle_blocks.specs.declared.rule.Rule.{Rule}
use Rattle.isle_blocks.specs.declared.ids.BindingId.{BindingId}
use Rattle.isle_blocks.specs.declared.constraint.Constraint.{Constraint}
use Rattle.isle_blocks.specs.declared.serializer.views.ControlFlow.{ControlFlow}
use Rattle.isle_blocks.specs.declared.serializer.views.ControlFlow.TheVariants as flows
use Rattle.isle_blocks.specs.declared.serializer.views.EvalStep.{EvalStep}
use Rattle.isle_blocks.specs.declared.serializer.views.Steps.{Steps as Walk}
use Rattle.isle_blocks.specs.Rows.{numbers_of}
use Rattle.isle_blocks.specs.Trees.Shown.{BlockShown, Returned}
use Rattle.isle_blocks.specs.Trees.Views.{shown_steps, check_before, step_before, HasPartsOf, ReturnsOneOf}
use Rattle.isle_calls.specs.declared.store.Stored.{Stored}
use Rattle.isle_calls.specs.declared.machine.frame.At.TheVariants.{Steps as AtSteps, Binds, Opens, Past}
use Rattle.isle_calls.specs.declared.machine.frame.Frame.{Frame}
use Rattle.isle_calls.specs.declared.machine.frame.Later.{Later}
use Rattle.isle_calls.specs.declared.machine.holding.Holding.{Holding}
use Rattle.isle_calls.specs.Inside.Blocks.Frames.{IsGrown, LaterSteps, steps_go, later_go, check_goes, sites_go, steps_begin, later_begin, check_begins, sites_begin}
use Rattle.isle_calls.specs.Inside.Blocks.Frames.{CanCheck, IsReturnIn, IsFrameFor, IsFrameOf, CallComes, IsPassing, sites_of_call, tree_of_call, returns_of_call}
use Rattle.isle_calls.specs.Inside.Blocks.Frames.{AreLater, bindings_then, found_in, returns_in, rows_in}
use Rattle.isle_calls.specs.Inside.Blocks.Holdings.{StandFor}
use Rattle.isle_calls.specs.Stores.Values.{StandEach}
use Rattle.isle_calls.specs.Calls.Open.{CallOf}
use Rattle.isle_calls.specs.Calls.Ways.{IsReady}
use Rattle.isle_program.specs.Programs.{types_of}
use Rattle.isle_program.specs.Trees.{tree_or_none}
use Rattle.isle_calls.proofs.TreeRoad.Going.{IsGoingAt, going_frame}

-- the call of a frame that is changed in no part that it speaks of
pub same_call : {k : CallOf} {stored : List Stored} {frame other : Frame} → IsFrameFor k stored frame → other.depth ≡ frame.depth
    → other.term ≡ frame.term → other.args ≡ frame.args → other.sites ≡ frame.sites → IsFrameFor k stored other
same_call {k = k} {stored = stored} {frame = frame} {other = other} c depth term args sites = record {
  depth = depth ∙ c.depth;
  term = ap (λ t. t.0) term ∙ c.term;
  stand = subst (λ a. StandEach stored k.args a.items) (sym args) c.stand;
  ready = c.ready;
  sites = ap (λ s. rows_in k.program s.now) sites ∙ c.sites;
}

-- a step's check goes on as the step does
check_counted : (k : CallOf) (env : Env) (check : ControlFlow) (binds : List ℕ) (T : Steps Constraint) (behind : Going) (known : ℕ → Bool)
    → IsWalkable (sites_of_call k) (tree_of_call k).result known (check_before check binds T) → (more : ℕ) (trace : List Event) (r : Outcome Value)
    → sites_go k env None binds (λ env. check_goes k env check (steps_go k env T behind)) more trace r
    → steps_go k env (check_before check binds T) behind (suc more) trace r
check_counted k env (flows.Match source arms) binds T behind known can more trace r goes = (more, refl, goes)
check_counted k env (flows.Equal a b body) binds T behind known can more trace r goes = (more, refl, goes)
check_counted k env (flows.Loop result body) binds T behind known can more trace r goes = absurd can
check_counted k env (flows.Return rule pos result) binds T behind known can more trace r goes = (more, refl, goes)

check_begun : (k : CallOf) (env : Env) (check : ControlFlow) (binds : List ℕ) (T : Steps Constraint) (behind : Begun) (known : ℕ → Bool)
    → IsWalkable (sites_of_call k) (tree_of_call k).result known (check_before check binds T) → (made : List Event)
    → sites_begin k env None binds (λ env. check_begins k env check (steps_begin k env T behind)) made
    → steps_begin k env (check_before check binds T) behind made
check_begun k env (flows.Match source arms) binds T behind known can made begins = begins
check_begun k env (flows.Equal a b body) binds T behind known can made begins = begins
check_begun k env (flows.Loop result body) binds T behind known can made begins = absurd can
check_begun k env (flows.Return rule pos result) binds T behind known can made begins = begins

-- the result of a return is that of its rule
returned_in : (name : Sym → List ℕ) (o : Option (RulesOverSites × BlockShown))
    → ((found : RulesOverSites × BlockShown) → o ≡ Some found → ReturnsItsRules found.0 found.1)
    → (r : Returned) → Contains (returns_in o) r → (found : RulesOverSites × BlockShown) × (rule : Rule) × (o ≡ Some found)
    × (slice_get found.0.rules r.rule ≡ Some rule) × ((tree_or_none name o).result r.rule ≡ r.result)
returned_in name None its r (i, low, at) = absurd (omega (arith, low))
returned_in name (Some found) its r in_it =
    let (rule, at, pos, result) = its found refl r in_it in
    (found, rule, refl, at, ap (λ o. read_or (length found.0.sites) (λ (x : Rule). x.result.0) o) at ∙ result)

returned_result : (k : CallOf) → IsGrown k.program → (r : Returned) → Contains (returns_of_call k) r → IsReturnIn k r.rule r.result
returned_result k grown r in_it =
    let (found, rule, there, at, result) =
    returned_in (name_by (types_of k.program).names) (found_in k.program k.term) (grown.returns k.term) r in_it in
    record { found = found; there = there; rule = rule; rule_at = at; result_at = result }

-- what can be walked can be bound and checked
can_check : (k : CallOf) (known : ℕ → Bool) (returns : List Returned) (check : ControlFlow) (binds : List ℕ) (behind : Walk)
    → returns ≡ returns_of_call k → IsReady IsGrown k.program k.term k.args → HasPartsOf returns check → ReturnsOneOf returns check
    → (shown_steps behind).returns ≡ returns
    → IsWalkable (sites_of_call k) (tree_of_call k).result known (check_before check binds (shown_steps behind).tree)
    → CanBindAll (sites_of_call k) known binds × CanCheck k (know known binds) check behind
can_check k known returns (flows.Match source arms) binds behind block ready parts returned rest (bind, read, inner, outer) =
    (bind, (read, record { walkable = inner; of_block = parts ∙ block }, record { walkable = outer; of_block = rest ∙ block }))
can_check k known returns (flows.Equal a b body) binds behind block ready parts returned rest (bind, read, also, inner, outer) =
    (bind, (read, also, record { walkable = inner; of_block = parts ∙ block }, record { walkable = outer; of_block = rest ∙ block }))
can_check k known returns (flows.Loop result body) binds behind block ready parts returned rest can = absurd can
can_check k known returns (flows.Return rule pos result) binds behind block ready parts returned rest (bind, read) = (
  bind,
  (
    read,
    returned_result k ready.holds (record { rule = rule; pos = pos; result = result.0 })
        (subst (λ (l : List Returned). Contains l (record { rule = rule; pos = pos; result = result.0 })) block returned),
  ),
)

-- a step is taken
pub step_taken : (k : CallOf) (stored : List Stored) (frame : Frame) (since : List Event) (steps behind : Walk) (step : EvalStep) (count : ℕ)
    → IsGoingAt k stored frame (AtSteps steps) since → (shown_steps steps).tree ≡ step_before step (shown_steps behind).tree
    → (shown_steps behind).returns ≡ (shown_steps steps).returns → HasPartsOf (shown_steps steps).returns step.check
    → ReturnsOneOf (shown_steps steps).returns step.check → count ≡ frame.steps + 1
    → IsFrameOf k stored (record frame { steps = count; at = Binds step.bind_order step.check behind }) since
step_taken k stored frame since steps behind step count g tree rest parts returned counted =
    let binds = numbers_of step.bind_order.now in
    let walkable : IsWalkable (sites_of_call k) (tree_of_call k).result g.known (check_before step.check binds (shown_steps behind).tree) =
    subst (IsWalkable (sites_of_call k) (tree_of_call k).result g.known) tree g.goes_on.walkable in
    going_frame k stored (record frame { steps = count; at = Binds step.bind_order step.check behind }) since (record {
      for_call = same_call g.for_call refl refl refl refl;
      is = g.is;
      left = g.left;
      env = g.env;
      known = g.known;
      later = g.later;
      stand = g.stand;
      good = g.good;
      bound = g.bound;
      goes_on = can_check k g.known (shown_steps steps).returns step.check binds behind g.goes_on.of_block
          g.for_call.ready parts returned rest walkable;
      laters = g.laters;
      awaited = g.awaited;
      comes = λ more trace r goes.
          let at_once = check_counted k g.env step.check binds (shown_steps behind).tree (later_go k g.later) g.known walkable more trace r goes in
          let all = g.comes (suc more) trace r (subst (λ (T : Steps Constraint). steps_go k g.env T (later_go k g.later) (suc more) trace r)
          (sym tree) at_once) in
          let sum : frame.steps + suc more ≡ count + more = omega (arith, counted) in
          subst (λ (n : ℕ). CallComes k n (since ++ trace) r) sum all;
      begun = λ made begins. g.begun made (subst (λ (T : Steps Constraint). steps_begin k g.env T (later_begin k g.later) made) (sym tree)
          (check_begun k g.env step.check binds (shown_steps behind).tree (later_begin k g.later) g.known walkable made begins));
    })

-- steps are left for those that are taken later
pub steps_left : (k : CallOf) (stored : List Stored) (frame : Frame) (since : List Event) (steps : Walk) (next : Later) (others : List Later)
    (bound : List (ℕ × Holding)) (rest : Vec Later Global) → IsGoingAt k stored frame (AtSteps steps) since → (shown_steps steps).tree ≡ done
    → reverse frame.later.items ≡ next ∷ others → reverse rest.items ≡ others → bound ≡ bindings_then frame.bound next.bindings
    → IsFrameOf k stored (record frame { at = AtSteps next.steps; later = rest; bound = bound }) since
steps_left k stored frame since steps next others bound rest g tree laters same back =
    let have = subst (λ (l : List Later). AreLater k g.is stored frame.bound l g.later) laters g.laters in
    left g.later refl have
  where
    left : (ls : List LaterSteps) → ls ≡ g.later → AreLater k g.is stored frame.bound (next ∷ others) ls
        → IsFrameOf k stored (record frame { at = AtSteps next.steps; later = rest; bound = bound }) since
    left [] e h = absurd h
    left (l ∷ ls) e (few, shown, stand, good, (known, are_bound, walks), more) =
        going_frame k stored (record frame { at = AtSteps next.steps; later = rest; bound = bound }) since (record {
          for_call = same_call g.for_call refl refl refl refl;
          is = g.is;
          left = g.left;
          env = l.env;
          known = known;
          later = ls;
          stand = subst (λ (b : List (ℕ × Holding)). StandFor stored b l.env) (sym back) stand;
          good = good;
          bound = are_bound;
          goes_on = walks;
          laters = subst (λ (b : List (ℕ × Holding)). AreLater k g.is stored b (reverse rest.items) ls) (sym back)
              (subst (λ (x : List Later). AreLater k g.is stored (bindings_then frame.bound next.bindings) x ls) (sym same) more);
          awaited = g.awaited;
          comes = λ more trace r goes. g.comes more trace r
              (subst (λ (T : Steps Constraint). steps_go k g.env T (later_go k g.later) more trace r) (sym tree)
              (subst (λ (x : List LaterSteps). later_go k x more trace r) e
              (subst (λ (T : Steps Constraint). steps_go k l.env T (later_go k ls) more trace r) shown goes)));
          begun = λ made begins. g.begun made (subst (λ (T : Steps Constraint). steps_begin k g.env T (later_begin k g.later) made) (sym tree)
              (subst (λ (x : List LaterSteps). later_begin k x made) e
              (subst (λ (T : Steps Constraint). steps_begin k l.env T (later_begin k ls) made) shown begins)));
        })

-- or none is left
pub none_left : (k : CallOf) (stored : List Stored) (frame : Frame) (since : List Event) (steps : Walk)
    → IsGoingAt k stored frame (AtSteps steps) since
    → (shown_steps steps).tree ≡ done → reverse frame.later.items ≡ [] → (rest : Vec Later Global) → reverse rest.items ≡ []
    → IsFrameOf k stored (record frame { at = Past; later = rest }) since
none_left k stored frame since steps g tree laters rest same =
    left g.later refl (subst (λ (l : List Later). AreLater k g.is stored frame.bound l g.later) laters g.laters)
  where
    left : (ls : List LaterSteps) → ls ≡ g.later → AreLater k g.is stored frame.bound [] ls
        → IsFrameOf k stored (record frame { at = Past; later = rest }) since
    left (l ∷ ls) e h = absurd h
    left [] e h = going_frame k stored (record frame { at = Past; later = rest }) since (record {
      for_call = same_call g.for_call refl refl refl refl;
      is = g.is;
      left = g.left;
      env = g.env;
      known = g.known;
      later = [];
      stand = g.stand;
      good = g.good;
      bound = g.bound;
      goes_on = tt;
      laters = subst (λ (x : List Later). AreLater k g.is stored frame.bound x []) (sym same) tt;
      awaited = g.awaited;
      comes = λ more trace r goes. g.comes more trace r
          (subst (λ (T : Steps Constraint). steps_go k g.env T (later_go k g.later) more trace r) (sym tree)
          (subst (λ (x : List LaterSteps). later_go k x more trace r) e goes));
      begun = λ made begins. g.begun made (subst (λ (T : Steps Constraint). steps_begin k g.env T (later_begin k g.later) made) (sym tree)
          (subst (λ (x : List LaterSteps). later_begin k x made) e begins));
    })

-- a check has passed, and its steps are gone into
pub check_passed : (k : CallOf) (stored : List Stored) (frame : Frame) (since : List Event) (opens : Bor (List (Option BindingId)))
    (body behind : Walk)
    (later : Vec Later Global) → IsPassing k stored frame opens.now body behind since
    → reverse later.items ≡ record { steps = behind; bindings = length frame.bound } ∷ reverse frame.later.items
    → IsFrameOf k stored (record frame { at = Opens opens body; later = later }) since
check_passed k stored frame since opens body behind later g laters =
    let all : bindings_then frame.bound (length frame.bound) ≡ frame.bound = ap (λ (n : ℕ). drop n frame.bound)
    (let z : length frame.bound - length frame.bound ≡ 0 = omega arith in z) in
    going_frame k stored (record frame { at = Opens opens body; later = later }) since (record {
      for_call = same_call g.for_call refl refl refl refl;
      is = g.is;
      left = g.left;
      env = g.env;
      known = g.known;
      later = record { env = g.env; steps = (shown_steps behind).tree } ∷ g.later;
      stand = g.stand;
      good = g.good;
      bound = g.bound;
      goes_on = (g.goes_on.0, g.goes_on.1);
      laters = subst (λ (x : List Later). AreLater k g.is stored frame.bound x (record { env = g.env; steps = (shown_steps behind).tree } ∷ g.later))
          (sym laters) (
            (let z : length frame.bound ≤ length frame.bound = omega arith in z),
            refl,
            subst (λ (b : List (ℕ × Holding)). StandFor stored b g.env) (sym all) g.stand,
            g.good,
            (g.known, g.bound, g.goes_on.2),
            subst (λ (b : List (ℕ × Holding)). AreLater k g.is stored b (reverse frame.later.items) g.later) (sym all) g.laters,
          );
      awaited = g.awaited;
      comes = g.comes;
      begun = g.begun;
    })
