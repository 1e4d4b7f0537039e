-- Graphs, as each node's targets, and what a search for a cycle knows of one.
use Rattle.std.specs.Prelude.{◌≡◌, ◌⊎◌, ◌+◌, ◌-◌, ◌<◌, ◌≤◌, ℕ, suc, List, [], ◌∷◌, length, slice_get, Some, unwrap_or}
use Rattle.isle_rules.specs.Definitions.{IsAmong}
use Rattle.isle_terms.specs.declared.env.cycles.Mark.{Mark}
use Rattle.isle_terms.specs.declared.env.cycles.Mark.TheVariants.{Unseen, Open, Finished}
use Rattle.isle_terms.specs.declared.env.cycles.Step.{Step}

-- an edge leads from a node to a target
pub record HasEdge (edges : List (List ℕ)) (from to : ℕ) : Type 0 where
  pub targets : List ℕ
  pub here : slice_get edges from ≡ Some targets
  pub among : IsAmong targets to

-- a path of one edge at least leads from a node to a node
pub data Leads (edges : List (List ℕ)) : ℕ → ℕ → Type 0 where
  edge_at_once : (from to : ℕ) → HasEdge edges from to → Leads edges from to
  path_further : (from middle to : ℕ) → Leads edges from middle → Leads edges middle to → Leads edges from to

-- each edge leads to a node
abbrev pub AreWithin : List (List ℕ) → Type 0
AreWithin edges = (from to : ℕ) → HasEdge edges from to → to < length edges

-- no path leads from a node to itself
abbrev pub IsAcyclic : List (List ℕ) → Type 0
IsAcyclic edges = (node : ℕ) → Leads edges node node → ⊥

-- all paths from a node are known
abbrev pub IsFinished : List Mark → ℕ → Type 0
IsFinished marks node = slice_get marks node ≡ Some Finished

-- a node lies on the path that is being searched
abbrev pub IsOpen : List Mark → ℕ → Type 0
IsOpen marks node = slice_get marks node ≡ Some Open

-- a node was reached
abbrev pub IsReached : List Mark → ℕ → Type 0
IsReached marks node = IsOpen marks node ⊎ IsFinished marks node

-- finished nodes lead to finished ones only, and none to itself
pub record AreSettled (edges : List (List ℕ)) (marks : List Mark) : Type 0 where
  pub one_each : length marks ≡ length edges
  pub closed : (from to : ℕ) → IsFinished marks from → HasEdge edges from to → IsFinished marks to
  pub acyclic : (node : ℕ) → IsFinished marks node → Leads edges node node → ⊥

-- the targets before a place of a node's targets are finished
pub record IsPassed (edges : List (List ℕ)) (marks : List Mark) (step : Step) : Type 0 where
  pub targets : List ℕ
  pub here : slice_get edges step.node ≡ Some targets
  pub within : step.place ≤ length targets
  pub finished : (place to : ℕ) → place < step.place → slice_get targets place ≡ Some to → IsFinished marks to

-- each node of a path, the last one first, is led to by the one before it, and its targets are finished up to a place
abbrev pub IsPath : List (List ℕ) → List Mark → List Step → Type 0
IsPath edges marks [] = Unit {0}
IsPath edges marks (last ∷ []) = IsPassed edges marks last
IsPath edges marks (last ∷ before ∷ others) = IsPassed edges marks last × Leads edges before.node last.node × IsPath edges marks (before ∷ others)

-- a node lies on a path
abbrev pub IsOnPath : List Step → ℕ → Type 0
IsOnPath [] node = ⊥
IsOnPath (last ∷ others) node = (last.node ≡ node) ⊎ IsOnPath others node

-- a search is on a path: other nodes that were reached are finished
pub record IsSearching (edges : List (List ℕ)) (marks : List Mark) (path : List Step) : Type 0 where
  pub settled : AreSettled edges marks
  pub led : IsPath edges marks path
  pub on_path : (node : ℕ) → IsOpen marks node → IsOnPath path node

-- what was reached stays so, and what was finished does
pub record Goes (old new : List Mark) : Type 0 where
  pub finished : (node : ℕ) → IsFinished old node → IsFinished new node
  pub reached : (node : ℕ) → IsReached old node → IsReached new node

-- the work left at a node that isn't reached yet, by how many targets it has
abbrev pub mark_work : Mark → ℕ → ℕ
mark_work Unseen targets = targets + 2
mark_work Open targets = 0
mark_work Finished targets = 0

-- the work left at nodes that aren't reached yet
abbrev pub marks_work : List (List ℕ) → List Mark → ℕ
marks_work [] marks = 0
marks_work (targets ∷ edges) [] = 0
marks_work (targets ∷ edges) (mark ∷ marks) = mark_work mark (length targets) + marks_work edges marks

-- the work left on a path
abbrev pub path_work : List (List ℕ) → List Step → ℕ
path_work edges [] = 0
path_work edges (last ∷ others) = suc (length (unwrap_or (slice_get edges last.node) []) - last.place) + path_work edges others

-- the work left of a search
abbrev pub search_work : List (List ℕ) → List Mark → List Step → ℕ
search_work edges marks path = marks_work edges marks + path_work edges path
