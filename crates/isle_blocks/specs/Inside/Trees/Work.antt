-- What is still to be laid out of a tree, and what laying out one node does to it.
use Rattle.std.specs.Prelude.{◌≡◌, ℕ, ◌<◌, ◌≤◌, ◌+◌, ◌-◌, ◌*◌, ◌++◌, ◌==◌, List, [], ◌∷◌, Bool, Option, Some, None, if◌then◌else◌, length, drop, map, sum_by, slice_get}
use Rattle.std.specs.Option.{option_map}
use Rattle.isle_blocks.specs.declared.ids.BindingId.{BindingId}
use Rattle.isle_blocks.specs.declared.constraint.Constraint.{Constraint}
use Rattle.isle_blocks.specs.declared.rule.Rule.{Rule}
use Rattle.isle_blocks.specs.declared.binding.Binding.{Binding}
use Rattle.isle_blocks.specs.declared.serializer.known.Known.{Known}
use Rattle.isle_blocks.specs.declared.serializer.node.Node.{Node}
use Rattle.isle_blocks.specs.declared.serializer.node.Node.TheVariants as nodes
use Rattle.isle_blocks.specs.declared.serializer.work.Open.{Open}
use Rattle.isle_blocks.specs.declared.serializer.work.Task.{Task}
use Rattle.isle_blocks.specs.declared.serializer.work.Task.TheVariants as tasks
use Rattle.isle_blocks.specs.RuleSets.{RulesOverSites}
use Rattle.isle_blocks.specs.Trees.View.{calls_at}
use Rattle.isle_blocks.specs.Trees.Nodes.{Piece, first_steps, first_arms, later, read}
use Rattle.isle_blocks.specs.Rows.{numbers_of}
use Rattle.isle_blocks.specs.Inside.Trees.Marking.{AreReady}
use Rattle.isle_blocks.specs.Inside.Trees.Builder.{IsFit, opens_at, rules_in, scope_of}
use Rattle.isle_trees.specs.Tree.{done, no_arm}
use Rattle.isle_trees.specs.Rules.{Elem}
use Rattle.isle_trees.specs.Scopes.{Scope, Test, counted, others}
use Rattle.isle_trees.specs.Builds.{Builds, BuildsArms, Returns, IsBest}
use Rattle.isle_trees.specs.Counting.{weight}
use Rattle.isle_trees.specs.Search.{AllWant, AreGrouped, AreMarked, IsInOrder}

-- what is known of wants and of equal sites is the same, and of as many sites
pub record IsSameKnown (old new : Known) : Type 0 where
  pub passed : new.passed ≡ old.passed
  pub labels : new.labels ≡ old.labels
  pub emitted : length new.emitted ≡ length old.emitted

pub record IsCopy (a b : Known) : Type 0 where
  pub passed : a.passed ≡ b.passed
  pub labels : a.labels ≡ b.labels
  pub emitted : a.emitted ≡ b.emitted

abbrev pub relabel : ℕ → ℕ → ℕ → ℕ
relabel from to label = if label == from then to else label

-- numbers of sites, where they are there
abbrev pub options_shown : List (Option BindingId) → List (Option ℕ)
options_shown ids = map (option_map (λ (id : BindingId). id.0)) ids

-- the impure calls of a rule with their contents, and its result
abbrev pub rights_in : List Binding → Rule → List ℕ
rights_in table rule = calls_at table rule.impure ++ rule.result.0 ∷ []

-- the first of the rules that opens a site
abbrev pub opener_among : RulesOverSites → List ℕ → ℕ → Option ℕ
opener_among set [] x = None
opener_among set (i ∷ is) x = if opens_at set i x then Some i else opener_among set is x

-- a number was added behind a list, or none was
pub record AddsOnly (i : ℕ) (old new : List ℕ) : Type 0 where
  pub more : List ℕ
  pub behind : new ≡ old ++ more
  pub only : (x : ℕ) → Elem x more → x ≡ i

-- rules of the set
abbrev pub AreRules : RulesOverSites → List ℕ → Type 0
AreRules set left = (i : ℕ) → Elem i left → i < length set.rules

-- a block to be laid out: rules are left, of what they ask all that is available is marked, and what of that can be tested is listed
pub record IsOpen (set : RulesOverSites) (o : Open) : Type 0 where
  pub fit : IsFit set (length set.sites) o.known
  pub order : IsInOrder (rules_in set) o.left.items
  pub rules : AreRules set o.left.items
  pub size : length o.marks ≡ length set.sites
  pub marked : AreMarked (rules_in set) o.left.items (scope_of set o.known) o.marks
  pub ready : AreReady (rules_in set) o.left.items (scope_of set o.known) o.marks (numbers_of o.ready.items)
  pub some : 0 < length o.left.items

-- a group of rules that want tests of a site
pub record AreArms (set : RulesOverSites) (s : ℕ) (group : List ℕ) (known : Known) (marks : List Bool) (sites : List ℕ) : Type 0 where
  pub fit : IsFit set (length set.sites) known
  pub size : length marks ≡ length set.sites
  pub marked : AreMarked (rules_in set) group (scope_of set known) marks
  pub ready : AreReady (rules_in set) group (scope_of set known) marks sites
  pub site : s < length set.sites
  pub untested : (scope_of set known).passed s ≡ None
  pub grouped : AreGrouped (rules_in set) s group
  pub rules : AreRules set group
  pub want : AllWant (rules_in set) group s

-- arms to be laid out, from a place in the group on
pub record IsFan (set : RulesOverSites) (s start : ℕ) (o : Open) : Type 0 where
  pub arms : AreArms set s o.left.items o.known o.marks (numbers_of o.ready.items)
  pub more : start < length o.left.items

abbrev pub IsTask : RulesOverSites → Task → Type 0
IsTask set (tasks.Block o) = IsOpen set o
IsTask set (tasks.Arms s start o) = IsFan set s.0 start o
IsTask set tasks.End = Unit {0}
IsTask set tasks.NoArm = Unit {0}

abbrev pub AreTasks : RulesOverSites → List Task → Type 0
AreTasks set [] = Unit {0}
AreTasks set (t ∷ ts) = IsTask set t × AreTasks set ts

-- what stands first is what was to be laid out
abbrev pub IsDue : RulesOverSites → Task → List Piece → Type 0
IsDue set (tasks.Block o) pieces = Builds (rules_in set) o.left.items (scope_of set o.known) (first_steps pieces)
IsDue set (tasks.Arms s start o) pieces =
    BuildsArms (rules_in set) (drop start o.left.items) (scope_of set o.known) s.0 (first_arms pieces)
IsDue set tasks.End pieces = first_steps pieces ≡ done
IsDue set tasks.NoArm pieces = first_arms pieces ≡ no_arm

-- the pieces behind those of tasks; the last task's is the first piece
abbrev pub all_taken : List Task → List Piece → List Piece
all_taken [] pieces = pieces
all_taken (t ∷ ts) pieces = later (all_taken ts pieces)

abbrev pub AreDue : RulesOverSites → List Task → List Piece → Type 0
AreDue set [] pieces = Unit {0}
AreDue set (t ∷ ts) pieces = AreDue set ts pieces × IsDue set t (all_taken ts pieces)

-- what falls with each node
abbrev pub task_size : RulesOverSites → Task → ℕ
task_size set (tasks.Block o) = 8 * weight (rules_in set) (scope_of set o.known) o.left.items - 2
task_size set (tasks.Arms s start o) = 8 * weight (rules_in set) (scope_of set o.known) (drop start o.left.items) - 5
task_size set tasks.End = 1
task_size set tasks.NoArm = 1

abbrev pub sizes : RulesOverSites → List Task → ℕ
sizes set ts = sum_by (task_size set) ts

-- a return is that of a rule of the set, with its position and its result
abbrev pub IsOfRule : RulesOverSites → Node → Type 0
IsOfRule set nodes.End = Unit {0}
IsOfRule set nodes.NoArm = Unit {0}
IsOfRule set (nodes.Match binds source) = Unit {0}
IsOfRule set (nodes.Equal binds a b) = Unit {0}
IsOfRule set (nodes.Loop binds result) = Unit {0}
IsOfRule set (nodes.Return binds rule pos result) = (r : Rule) × (slice_get set.rules rule ≡ Some r) × (r.pos ≡ pos) × (r.result ≡ result)
IsOfRule set (nodes.Arm constraint bindings) = Unit {0}

abbrev pub AreOfRules : RulesOverSites → List Node → Type 0
AreOfRules set ns = (n : Node) → Elem n ns → IsOfRule set n

-- nodes were laid out for a task, and others are to be in its place
pub record Moves (set : RulesOverSites) (task : Task) (old_work new_work : List Task) (old new : List Node) : Type 0 where
  pub tasks : List Task
  pub added : List Node
  pub work : new_work ≡ old_work ++ tasks
  pub nodes : new ≡ old ++ added
  pub valid : AreTasks set tasks
  pub told : AreOfRules set added
  pub smaller : sizes set tasks + 1 ≤ task_size set task
  pub due : (pieces : List Piece) → AreDue set tasks pieces → IsDue set task (read added pieces)
  pub rest : (pieces : List Piece) → later (read added pieces) ≡ all_taken tasks pieces

-- the returns of rules were laid out, and the end of their block
pub record AreReturns (set : RulesOverSites) (left : List ℕ) (sc : Scope Constraint) (old new : List Node) : Type 0 where
  pub added : List Node
  pub nodes : new ≡ old ++ added
  pub told : AreOfRules set added
  pub returns : (pieces : List Piece) → Returns (rules_in set) left sc (first_steps (read added pieces))
  pub rest : (pieces : List Piece) → later (read added pieces) ≡ pieces

-- the returns of the first rules were laid out, and others are left
pub record AreGiven (set : RulesOverSites) (left rest : List ℕ) (sc now : Scope Constraint) (old new : List Node) : Type 0 where
  pub added : List Node
  pub nodes : new ≡ old ++ added
  pub told : AreOfRules set added
  pub returns : (pieces : List Piece) → Returns (rules_in set) rest now (first_steps pieces)
      → Returns (rules_in set) left sc (first_steps (read added pieces))
  pub rest_is : (pieces : List Piece) → later (read added pieces) ≡ later pieces

-- a block of these rules is to be laid out
pub record WantsBlock (set : RulesOverSites) (left : List ℕ) (sc : Scope Constraint) (old new : List Task) : Type 0 where
  pub task : Task
  pub work : new ≡ old ++ task ∷ []
  pub valid : IsTask set task
  pub due : (pieces : List Piece) → IsDue set task pieces → Builds (rules_in set) left sc (first_steps pieces)
  pub size : task_size set task ≤ 8 * weight (rules_in set) sc left + 1

-- arms of these rules are to be laid out
pub record WantsArms (set : RulesOverSites) (left : List ℕ) (sc : Scope Constraint) (s : ℕ) (old new : List Task) : Type 0 where
  pub task : Task
  pub work : new ≡ old ++ task ∷ []
  pub valid : IsTask set task
  pub due : (pieces : List Piece) → IsDue set task pieces → BuildsArms (rules_in set) left sc s (first_arms pieces)
  pub size : task_size set task ≤ 8 * weight (rules_in set) sc left + 1

-- the best test of the rules left, and who has it
pub record IsSplit (set : RulesOverSites) (o : Open) (t : Test) (chosen rest : List ℕ) : Type 0 where
  pub open_is : IsOpen set o
  pub best : IsBest (rules_in set) o.left.items (scope_of set o.known) t
  pub chosen_is : chosen ≡ counted (rules_in set) t o.left.items
  pub rest_is : rest ≡ others (rules_in set) t o.left.items
