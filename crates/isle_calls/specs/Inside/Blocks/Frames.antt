-- Calls of the road over trees, as far as they have come.
use Rattle.std.specs.Prelude.{◌≡◌, ◌≤◌, ◌+◌, ◌-◌, ◌++◌, ℕ, suc, Bool, true, List, [], ◌∷◌, Option, Some, None, drop, length, reverse, slice_get}
use Rattle.isle_trees.specs.Counting.{steps_at_most}
use Rattle.isle_trees.specs.Reads.{know}
use Rattle.isle_trees.specs.Tree.{Steps, done}
use Rattle.isle_types.specs.declared.ids.TermId.{TermId}
use Rattle.isle_meaning.specs.Got.{gives}
use Rattle.isle_meaning.specs.GroundValues.{IsValueOf}
use Rattle.isle_meaning.specs.Held.{Held, held_value, held_some}
use Rattle.isle_meaning.specs.Machine.Beginnings.{Begun, Silent, BindsBegin, EqualBegins, StepsBegin, ArmsBegin, MachineBegins}
use Rattle.isle_meaning.specs.Machine.Runs.{TermTree, Env, Runs, Going, values_at, read, option_if, holding, Goes, BindsRun, opened, Returns, EqualRuns, StepsRun, ArmsRun}
use Rattle.isle_meaning.specs.Machine.Runs.{Unmatched, MachineRun}
use Rattle.isle_meaning.specs.Machine.Trees.{HasTermTrees, IsTermTree, IsHeldOf}
use Rattle.isle_meaning.specs.Machine.Walkable.{CanBindAll, CanRead, IsWalkable, AreWalkable}
use Rattle.isle_meaning.specs.Numbered.{Row, constructor_row, make_some_row}
use Rattle.isle_meaning.specs.Outcomes.{Outcome, given, missing, ended}
use Rattle.isle_meaning.specs.Sorts.{sort}
use Rattle.isle_meaning.specs.Values.{Value, Values}
use Rattle.isle_meaning.specs.Words.{set}
use Rattle.isle_meaning.specs.Worlds.{Event}
use Rattle.isle_blocks.specs.declared.binding.Binding.{Binding}
use Rattle.isle_blocks.specs.declared.ids.BindingId.{BindingId}
use Rattle.isle_blocks.specs.declared.rule.Rule.{Rule}
use Rattle.isle_blocks.specs.Trees.TermTrees.{HaveEachRule}
use Rattle.isle_blocks.specs.declared.constraint.Constraint.{Constraint}
use Rattle.isle_blocks.specs.declared.serializer.views.ControlFlow.{ControlFlow}
use Rattle.isle_blocks.specs.declared.serializer.views.ControlFlow.TheVariants as flows
use Rattle.isle_blocks.specs.Building.Naming.{name_by}
use Rattle.isle_blocks.specs.Rows.{rows_of, numbers_of}
use Rattle.isle_blocks.specs.Trees.Nodes.{fields_of}
use Rattle.isle_blocks.specs.Trees.Views.{shown_arms, shown_steps}
use Rattle.isle_blocks.specs.declared.serializer.views.Arms.{Arms as MatchArms}
use Rattle.isle_blocks.specs.declared.serializer.views.Steps.{Steps as Walk}
use Rattle.isle_blocks.specs.RuleSets.{RulesOverSites}
use Rattle.isle_blocks.specs.Trees.Promises.{ReturnsItsRules}
use Rattle.isle_blocks.specs.Trees.Shown.{BlockShown, Returned}
use Rattle.isle_calls.specs.declared.answer.Effect.{Effect}
use Rattle.isle_calls.specs.declared.store.Stored.{Stored}
use Rattle.isle_program.specs.declared.program.Program.{Program}
use Rattle.isle_calls.specs.declared.machine.frame.At.{At}
use Rattle.isle_calls.specs.declared.machine.frame.At.TheVariants.{Steps as AtSteps, Binds, Opens, Past}
use Rattle.isle_calls.specs.declared.machine.frame.Frame.{Frame}
use Rattle.isle_calls.specs.declared.machine.frame.Later.{Later}
use Rattle.isle_calls.specs.declared.machine.frame.Reply.{Reply}
use Rattle.isle_calls.specs.declared.machine.frame.Reply.TheVariants.{Awaited, Given, Missing}
use Rattle.isle_calls.specs.declared.machine.holding.Holding.{Holding}
use Rattle.isle_calls.specs.Inside.Blocks.Holdings.{StandFor}
use Rattle.isle_calls.specs.Calls.Open.{CallOf}
use Rattle.isle_calls.specs.declared.machine.reading.Machine.{Machine}
use Rattle.isle_calls.specs.Calls.States.{State, state}
use Rattle.isle_calls.specs.Calls.Ways.{Way, IsReady}
use Rattle.isle_program.specs.Facts.Steps.{steps_in}
use Rattle.isle_program.specs.Meanings.{checked, may_run}
use Rattle.isle_program.specs.Programs.{types_of, rule_sets_of, set_trees_of}
use Rattle.isle_calls.specs.Stores.Values.{Stands, StandEach}
use Rattle.isle_program.specs.Trees.{set_and_tree}
use Rattle.isle_calls.specs.TreeCalls.{term_trees}

-- a reply is this outcome of a call of a term
abbrev pub TellsReply : CallOf → List Stored → ℕ → Reply → Outcome Value → Type 0
TellsReply k stored t Awaited r = ⊥
TellsReply k stored t (Given n) r =
    (v : Value) × (r ≡ given v) × Stands stored v n × IsValueOf (checked k.program).values v ((checked k.program).terms.type_of t)
TellsReply k stored t Missing r = r ≡ missing

-- a program's trees are those of its terms, their returns those of its rule sets; each rule of a set is one that is left, and they take as many
-- steps at most as the set says
pub record IsGrown (program : Program) : Type 0 where
  pub trees : HasTermTrees (checked program) (may_run program) (term_trees program)
  pub returns : (t : ℕ) (found : RulesOverSites × BlockShown) → set_and_tree (rule_sets_of program) (set_trees_of program) t ≡ Some found
      → ReturnsItsRules found.0 found.1
  pub left : (t : ℕ) (may : may_run program t) (found : RulesOverSites × BlockShown)
      → set_and_tree (rule_sets_of program) (set_trees_of program) t ≡ Some found → HaveEachRule found.0 (trees.of_term t may).left
  pub few : (t : ℕ) (may : may_run program t)
      → steps_at_most (trees.of_term t may).set (trees.of_term t may).left ≡ steps_in (rule_sets_of program) t

-- the rows of sites
abbrev pub rows_in : Program → List Binding → List Row
rows_in program sites = rows_of (name_by (types_of program).names) sites

-- the tree of a call's term
abbrev pub tree_of_call : CallOf → TermTree Constraint
tree_of_call k = term_trees k.program k.term

-- its sites
abbrev pub sites_of_call : CallOf → List Row
sites_of_call k = (tree_of_call k).sites

-- it reaches so many steps, makes these effects, and comes to this
abbrev pub CallComes : CallOf → ℕ → List Event → Outcome Value → Type 0
CallComes k steps trace r = MachineRun (checked k.program) (term_trees k.program) k.answers (suc k.depth) k.term k.args steps trace r

-- its run begins with these effects
abbrev pub CallBegins : CallOf → List Event → Type 0
CallBegins k made = MachineBegins (checked k.program) (term_trees k.program) k.answers (suc k.depth) k.term k.args made

-- what the calls below it come to
abbrev pub runs_below : CallOf → Runs
runs_below k u vs effects q = (reached : ℕ) × MachineRun (checked k.program) (term_trees k.program) k.answers k.depth u vs reached effects q

-- with which effects they begin
abbrev pub begins_below : CallOf → ℕ → Values → Begun
begins_below k = MachineBegins (checked k.program) (term_trees k.program) k.answers k.depth

-- whether its term may fail
abbrev pub may_fail : CallOf → Bool
may_fail k = (checked k.program).terms.partial k.term

-- steps that are taken later: what is bound then, and the steps
pub record LaterSteps : Type 0 where
  pub env : Env
  pub steps : Steps Constraint

-- ---- what comes from here on

-- of steps
abbrev pub steps_go : CallOf → Env → Steps Constraint → Going → Going
steps_go k env steps behind = StepsRun (checked k.program) k.answers (runs_below k) (tree_of_call k) (may_fail k) k.args env steps behind

-- of those that are taken later
abbrev pub later_go : CallOf → List LaterSteps → Going
later_go k [] = Unmatched (checked k.program) k.term k.args
later_go k (l ∷ ls) = steps_go k l.env l.steps (later_go k ls)

-- of a check
abbrev pub check_goes : CallOf → Env → ControlFlow → Going → Going
check_goes k env (flows.Match source arms) behind =
    ArmsRun (checked k.program) k.answers (runs_below k) (tree_of_call k) (may_fail k) k.args env source.0 (shown_arms arms).arms behind
check_goes k env (flows.Equal a b body) behind =
    EqualRuns (sites_of_call k) k.args env a.0 b.0 (steps_go k env (shown_steps body).tree behind) behind
check_goes k env (flows.Loop result body) behind = λ steps trace r. ⊥
check_goes k env (flows.Return rule pos result) behind = Returns (sites_of_call k) (may_fail k) k.args env ((tree_of_call k).result rule)

-- of sites that are bound, where the first may hold what a call has come to
abbrev pub sites_go : CallOf → Env → Option (Outcome Held) → List ℕ → (Env → Going) → Going
sites_go k env None order next = BindsRun (checked k.program) k.answers (runs_below k) (sites_of_call k) k.args env order next
sites_go k env (Some o) [] next = λ steps trace r. ⊥
sites_go k env (Some o) (s ∷ order) next = Goes o (λ h.
    BindsRun (checked k.program) k.answers (runs_below k) (sites_of_call k) k.args (set env s (Some h)) order next)

-- of a place in the tree
abbrev pub place_goes : CallOf → Env → Option (Outcome Held) → List LaterSteps → At → Going
place_goes k env replied ls (AtSteps steps) = steps_go k env (shown_steps steps).tree (later_go k ls)
place_goes k env replied ls (Binds order check behind) = sites_go k env replied (numbers_of order.now) (λ env.
    check_goes k env check (steps_go k env (shown_steps behind).tree (later_go k ls)))
place_goes k env replied ls (Opens fields body) = sites_go k env replied (opened (fields_of fields.now)) (λ env.
    steps_go k env (shown_steps body).tree (later_go k ls))
place_goes k env replied ls Past = Unmatched (checked k.program) k.term k.args

-- ---- with which effects that begins

abbrev pub steps_begin : CallOf → Env → Steps Constraint → Begun → Begun
steps_begin k env steps behind = StepsBegin (checked k.program) k.answers (runs_below k) (begins_below k) (tree_of_call k) k.args env steps behind

abbrev pub later_begin : CallOf → List LaterSteps → Begun
later_begin k [] = Silent
later_begin k (l ∷ ls) = steps_begin k l.env l.steps (later_begin k ls)

abbrev pub check_begins : CallOf → Env → ControlFlow → Begun → Begun
check_begins k env (flows.Match source arms) behind =
    ArmsBegin (checked k.program) k.answers (runs_below k) (begins_below k) (tree_of_call k) k.args env source.0 (shown_arms arms).arms behind
check_begins k env (flows.Equal a b body) behind =
    EqualBegins (sites_of_call k) k.args env a.0 b.0 (steps_begin k env (shown_steps body).tree behind) behind
check_begins k env (flows.Loop result body) behind = Silent
check_begins k env (flows.Return rule pos result) behind = Silent

-- what may be made behind a site that holds something; nothing else
abbrev pub GoesBegin : Outcome Held → (Held → Begun) → Begun
GoesBegin (given h) next made = next h made
GoesBegin missing next made = made ≡ []
GoesBegin (ended e) next made = made ≡ []

abbrev pub sites_begin : CallOf → Env → Option (Outcome Held) → List ℕ → (Env → Begun) → Begun
sites_begin k env None order next = BindsBegin (checked k.program) k.answers (runs_below k) (begins_below k) (sites_of_call k) k.args env order next
sites_begin k env (Some o) [] next = Silent
sites_begin k env (Some o) (s ∷ order) next = GoesBegin o (λ h.
    BindsBegin (checked k.program) k.answers (runs_below k) (begins_below k) (sites_of_call k) k.args (set env s (Some h)) order next)

abbrev pub place_begins : CallOf → Env → Option (Outcome Held) → List LaterSteps → At → Begun
place_begins k env replied ls (AtSteps steps) = steps_begin k env (shown_steps steps).tree (later_begin k ls)
place_begins k env replied ls (Binds order check behind) = sites_begin k env replied (numbers_of order.now) (λ env.
    check_begins k env check (steps_begin k env (shown_steps behind).tree (later_begin k ls)))
place_begins k env replied ls (Opens fields body) = sites_begin k env replied (opened (fields_of fields.now)) (λ env.
    steps_begin k env (shown_steps body).tree (later_begin k ls))
place_begins k env replied ls Past = Silent

-- ---- what is known where a call has come

-- a site of a made option holds one
abbrev pub IsInOption : Row → Held → Type 0
IsInOption (make_some_row j) h = (x : Held) × (h ≡ held_some x)
IsInOption row h = Unit {0}

-- what is bound is of its site's sort
pub record IsGoodEnv (k : CallOf) (is : IsTermTree (checked k.program) (may_run k.program) k.term (tree_of_call k)) (env : Env) : Type 0 where
  pub typed : (s : ℕ) (h : Held) → env s ≡ Some h
      → IsHeldOf (checked k.program) (sort (checked k.program).terms ((checked k.program).terms.inputs k.term) (is.site s)) h
  pub in_options : (s : ℕ) (h : Held) (row : Row) → env s ≡ Some h → slice_get (sites_of_call k) s ≡ Some row → IsInOption row h

-- what is known as bound is bound
abbrev pub AreBound : (ℕ → Bool) → Env → Type 0
AreBound bound env = (s : ℕ) → bound s ≡ true → (h : Held) × (env s ≡ Some h)

-- the returns of its term's block
abbrev pub returns_in : Option (RulesOverSites × BlockShown) → List Returned
returns_in None = []
returns_in (Some found) = found.1.returns

abbrev pub found_in : Program → ℕ → Option (RulesOverSites × BlockShown)
found_in program t = set_and_tree (rule_sets_of program) (set_trees_of program) t

abbrev pub returns_of_call : CallOf → List Returned
returns_of_call k = returns_in (found_in k.program k.term)

-- each rule of its set is one of these numbers
abbrev pub HaveItsRules : CallOf → List ℕ → Type 0
HaveItsRules k numbers = (found : RulesOverSites × BlockShown) → found_in k.program k.term ≡ Some found → HaveEachRule found.0 numbers

-- a return is that of a rule of its set, with the site of the rule's result
pub record IsReturnIn (k : CallOf) (i result : ℕ) : Type 0 where
  pub found : RulesOverSites × BlockShown
  pub there : found_in k.program k.term ≡ Some found
  pub rule : Rule
  pub rule_at : slice_get found.0.rules i ≡ Some rule
  pub result_at : (tree_of_call k).result i ≡ result

-- steps of the block that can be walked, where this is bound
pub record CanWalk (k : CallOf) (bound : ℕ → Bool) (steps : Walk) : Type 0 where
  pub walkable : IsWalkable (sites_of_call k) (tree_of_call k).result bound (shown_steps steps).tree
  pub of_block : (shown_steps steps).returns ≡ returns_of_call k

-- arms of it
pub record CanMatch (k : CallOf) (bound : ℕ → Bool) (arms : MatchArms) : Type 0 where
  pub walkable : AreWalkable (sites_of_call k) (tree_of_call k).result bound (shown_arms arms).arms
  pub of_block : (shown_arms arms).returns ≡ returns_of_call k

-- a check can be made, behind which stand steps; a return is that of the rule's result
abbrev pub CanCheck : CallOf → (ℕ → Bool) → ControlFlow → Walk → Type 0
CanCheck k bound (flows.Match source arms) behind =
    CanRead (sites_of_call k) bound source.0 × CanMatch k bound arms × CanWalk k bound behind
CanCheck k bound (flows.Equal a b body) behind =
    CanRead (sites_of_call k) bound a.0 × CanRead (sites_of_call k) bound b.0 × CanWalk k bound body × CanWalk k bound behind
CanCheck k bound (flows.Loop result body) behind = ⊥
CanCheck k bound (flows.Return rule pos result) behind =
    CanRead (sites_of_call k) bound ((tree_of_call k).result rule) × IsReturnIn k rule result.0

-- a place can be gone on from
abbrev pub CanGoOn : CallOf → (ℕ → Bool) → At → Type 0
CanGoOn k bound (AtSteps steps) = CanWalk k bound steps
CanGoOn k bound (Binds order check behind) = CanBindAll (sites_of_call k) bound (numbers_of order.now)
    × CanCheck k (know bound (numbers_of order.now)) check behind
CanGoOn k bound (Opens fields body) = CanBindAll (sites_of_call k) bound (opened (fields_of fields.now))
    × CanWalk k (know bound (opened (fields_of fields.now))) body
CanGoOn k bound Past = Unit {0}

-- the bindings before
abbrev pub bindings_then : List (ℕ × Holding) → ℕ → List (ℕ × Holding)
bindings_then bound count = drop (length bound - count) bound

-- steps that are taken later, the next first, are these
abbrev pub AreLater : (k : CallOf) → IsTermTree (checked k.program) (may_run k.program) k.term (tree_of_call k) → List Stored → List (ℕ × Holding)
    → List Later → List LaterSteps → Type 0
AreLater k is stored bound [] [] = Unit {0}
AreLater k is stored bound [] (l ∷ ls) = ⊥
AreLater k is stored bound (later ∷ laters) [] = ⊥
AreLater k is stored bound (later ∷ laters) (l ∷ ls) = (later.bindings ≤ length bound) × ((shown_steps later.steps).tree ≡ l.steps)
    × StandFor stored (bindings_then bound later.bindings) l.env
    × IsGoodEnv k is l.env × ((known : ℕ → Bool) × AreBound known l.env × CanWalk k known later.steps)
    × AreLater k is stored (bindings_then bound later.bindings) laters ls

-- what a call has come to that the next site is
pub record IsReplied (k : CallOf) (stored : List Stored) (site : ℕ) (reply : Reply) (o : Outcome Held) : Type 0 where
  pub callee : ℕ
  pub parts : List ℕ
  pub instance : ℕ
  pub row : slice_get (sites_of_call k) site ≡ Some (constructor_row callee parts instance)
  pub outcome : Outcome Value
  pub held : o ≡ option_if ((checked k.program).terms.partial callee) (holding held_value outcome)
  pub told : TellsReply k stored callee reply outcome

-- the sites that are bound next
abbrev pub next_sites : At → List ℕ
next_sites (AtSteps steps) = []
next_sites (Binds order check behind) = numbers_of order.now
next_sites (Opens fields body) = opened (fields_of fields.now)
next_sites Past = []

-- a place binds a site and then goes on at another
abbrev pub IsNext : At → BindingId → At → Type 0
IsNext (Binds order check behind) s (Binds others then after) = (order.now ≡ s ∷ others.now) × (check ≡ then) × (behind ≡ after)
IsNext (Opens fields body) s (Opens others then) = (fields.now ≡ Some s ∷ others.now) × (body ≡ then)
IsNext at s next = ⊥

-- the first of them is what a call has come to, if a reply is there
abbrev pub HasReply : CallOf → List Stored → List ℕ → Reply → Option (Outcome Held) → Type 0
HasReply k stored sites Awaited replied = replied ≡ None
HasReply k stored [] reply replied = ⊥
HasReply k stored (s ∷ sites) reply replied = (o : Outcome Held) × (replied ≡ Some o) × IsReplied k stored s reply o

-- a frame is one for a call
pub record IsFrameFor (k : CallOf) (stored : List Stored) (frame : Frame) : Type 0 where
  pub depth : frame.depth ≡ k.depth
  pub term : frame.term.0 ≡ k.term
  pub stand : StandEach stored k.args frame.args.items
  pub ready : IsReady IsGrown k.program k.term k.args
  pub sites : rows_in k.program frame.sites.now ≡ sites_of_call k

-- where it has come
pub record Reached : Type 0 where
  pub env : Env
  pub known : ℕ → Bool
  pub later : List LaterSteps
  pub replied : Option (Outcome Held)

-- a frame has come there
pub record HasReached (k : CallOf) (stored : List Stored) (frame : Frame)
    (is : IsTermTree (checked k.program) (may_run k.program) k.term (tree_of_call k))
    (reached : Reached) : Type 0 where
  pub stand : StandFor stored frame.bound reached.env
  pub good : IsGoodEnv k is reached.env
  pub bound : AreBound reached.known reached.env
  pub goes_on : CanGoOn k reached.known frame.at
  pub later : AreLater k is stored frame.bound (reverse frame.later.items) reached.later
  pub reply : HasReply k stored (next_sites frame.at) frame.reply reached.replied

-- what comes of there the call comes to, after these effects
pub record Leads (k : CallOf) (frame : Frame) (reached : Reached) (since : List Event) : Type 0 where
  pub comes : (more : ℕ) (trace : List Event) (r : Outcome Value)
      → place_goes k reached.env reached.replied reached.later frame.at more trace r → CallComes k (frame.steps + more) (since ++ trace) r
  pub begins : (made : List Event) → place_begins k reached.env reached.replied reached.later frame.at made → CallBegins k (since ++ made)

-- a frame is that of a call, and nothing is replied; what comes from here on the call comes to, after these effects
pub record IsGoing (k : CallOf) (stored : List Stored) (frame : Frame) (goes : Env → List LaterSteps → Going) (begins : Env → List LaterSteps → Begun)
    (can : (ℕ → Bool) → Type 0) (since : List Event) : Type 0 where
  pub for_call : IsFrameFor k stored frame
  pub is : IsTermTree (checked k.program) (may_run k.program) k.term (tree_of_call k)
  pub left : HaveItsRules k is.left
  pub env : Env
  pub known : ℕ → Bool
  pub later : List LaterSteps
  pub stand : StandFor stored frame.bound env
  pub good : IsGoodEnv k is env
  pub bound : AreBound known env
  pub goes_on : can known
  pub laters : AreLater k is stored frame.bound (reverse frame.later.items) later
  pub awaited : frame.reply ≡ Awaited
  pub comes : (more : ℕ) (trace : List Event) (r : Outcome Value) → goes env later more trace r → CallComes k (frame.steps + more) (since ++ trace) r
  pub begun : (made : List Event) → begins env later made → CallBegins k (since ++ made)

-- a check is to be made, behind which stand steps
abbrev pub IsChecking : CallOf → List Stored → Frame → ControlFlow → Walk → List Event → Type 0
IsChecking k stored frame check behind since = IsGoing k stored frame
    (λ env ls. check_goes k env check (steps_go k env (shown_steps behind).tree (later_go k ls)))
    (λ env ls. check_begins k env check (steps_begin k env (shown_steps behind).tree (later_begin k ls)))
    (λ known. CanCheck k known check behind) since

-- a check has passed: it opens these sites and has these steps, and behind it stand steps
abbrev pub IsPassing : CallOf → List Stored → Frame → List (Option BindingId) → Walk → Walk → List Event → Type 0
IsPassing k stored frame opens body behind since = IsGoing k stored frame
    (λ env ls. sites_go k env None (opened (fields_of opens)) (λ env'. steps_go k env' (shown_steps body).tree
    (steps_go k env (shown_steps behind).tree (later_go k ls))))
    (λ env ls. sites_begin k env None (opened (fields_of opens)) (λ env'. steps_begin k env' (shown_steps body).tree
    (steps_begin k env (shown_steps behind).tree (later_begin k ls))))
    (λ known. CanBindAll (sites_of_call k) known (opened (fields_of opens)) × CanWalk k (know known (opened (fields_of opens))) body
    × CanWalk k known behind) since

-- these are the sites and the first place of a rule set and its tree, if they are there
abbrev pub BeginsAt : Option (RulesOverSites × BlockShown) → List Binding → At → Type 0
BeginsAt None sites at = (sites ≡ []) × (at ≡ Past)
BeginsAt (Some found) sites at = (sites ≡ found.0.sites) × ((steps : Walk) × (at ≡ AtSteps steps) × (shown_steps steps ≡ found.1))

-- no step is left of those at hand
abbrev pub IsAtEnd : At → Type 0
IsAtEnd (AtSteps steps) = (shown_steps steps).tree ≡ done
IsAtEnd (Binds order check behind) = ⊥
IsAtEnd (Opens fields body) = ⊥
IsAtEnd Past = ⊥

-- a frame is that of a call, which has made these effects since it began
pub record IsFrameOf (k : CallOf) (stored : List Stored) (frame : Frame) (since : List Event) : Type 0 where
  pub for_call : IsFrameFor k stored frame
  pub is : IsTermTree (checked k.program) (may_run k.program) k.term (tree_of_call k)
  pub left : HaveItsRules k is.left
  pub reached : Reached
  pub has : HasReached k stored frame is reached
  pub leads : Leads k frame reached since

-- a frame waits for the call of a term with rules on these values, which is the site that is to be bound next
pub record IsWaitingFor (k : CallOf) (stored : List Stored) (frame : Frame) (since : List Event) (term : TermId) (vs : Values) : Type 0 where
  pub frame_of : IsFrameOf k stored frame since
  pub unreplied : frame_of.reached.replied ≡ None
  pub site : ℕ
  pub sites : List ℕ
  pub next : next_sites frame.at ≡ site ∷ sites
  pub parts : List ℕ
  pub instance : ℕ
  pub row : slice_get (sites_of_call k) site ≡ Some (constructor_row term.0 parts instance)
  pub args : values_at (read (sites_of_call k) k.args frame_of.reached.env) parts ≡ gives vs
  pub ruled : (checked k.program).has_rules term.0 ≡ true
  pub ready : IsReady IsGrown k.program term.0 vs

-- what the road over trees says of calls: they come to what the machine's runs do, and the steps are those of the term's tree that are reached
abbrev pub tree_way : Way Frame
tree_way = record {
  holds = IsGrown;
  run = λ program. MachineRun (checked program) (term_trees program);
  begins = λ program. MachineBegins (checked program) (term_trees program);
  is_frame = IsFrameOf;
  is_waiting = IsWaitingFor;
  steps_of = λ frame. frame.steps;
  depth_of = λ frame. frame.depth;
}

-- the program of a machine and the values that it met, in a world, after these effects
abbrev pub machined : {W : Type 0} → Machine → W → List Effect → State W
machined machine world effects = state machine.program.now world effects machine.store
