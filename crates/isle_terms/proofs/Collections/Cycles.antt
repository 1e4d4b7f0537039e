-- A search for cycles of a graph: each of its steps keeps what it knows, and takes work away.
use Rattle.std.proofs.Common.{◌≡◌, ◌⊎◌, ◌+◌, ◌<◌, ◌≤◌, inl, inr, ℕ, zero, suc, List}
use Rattle.std.proofs.Common.{[], ◌∷◌, length, set, get_or, replicate, None, Some, refl, sym, ◌∙◌, ap}
use Rattle.std.proofs.Common.{subst, arith}
use Rattle.std.specs.Prelude.{slice_get, unwrap_or}
use Rattle.std.proofs.lemmas.Option.{same_Some, slice_get_within, slice_get_read, slice_get-get_or}
use Rattle.std.proofs.lemmas.List.{length-set, length-replicate}
use Rattle.isle_terms.specs.declared.env.cycles.Mark.{Mark}
use Rattle.isle_terms.specs.declared.env.cycles.Mark.TheVariants.{Unseen, Open, Finished}
use Rattle.isle_terms.specs.declared.env.cycles.Step.{Step}
use Rattle.isle_terms.specs.Inside.Collecting.Graphs.{HasEdge, Leads, edge_at_once, path_further, AreWithin, IsAcyclic}
use Rattle.isle_terms.specs.Inside.Collecting.Graphs.{IsFinished, IsOpen, IsReached, AreSettled, IsPassed, IsPath}
use Rattle.isle_terms.specs.Inside.Collecting.Graphs.{IsOnPath, IsSearching, Goes, mark_work, marks_work, search_work}
use Rattle.isle_rules.proofs.SetLists.{set_cases, set_keeps, set_here}

-- a path begins with an edge
pub first_edge : (edges : List (List ℕ)) (from to : ℕ) → Leads edges from to
    → (next : ℕ) × HasEdge edges from next × ((next ≡ to) ⊎ Leads edges next to)
first_edge edges from to (edge_at_once _ _ edge) = (to, edge, inl refl)
first_edge edges from to (path_further _ middle _ front back) =
    let first = first_edge edges from middle front in (
      first.0,
      first.1,
      elim first.2 [
        | inl is ↦ inr (subst (λ (n : ℕ). Leads edges n to) (sym is) back)
        | inr rest ↦ inr (path_further first.0 middle to rest back)
      ],
    )

-- a path from a node that has a fact leads to one that has it, where edges do
pub closed_along : (edges : List (List ℕ)) (P : ℕ → Type 0) → ((from to : ℕ) → P from → HasEdge edges from to → P to) → (from to : ℕ)
    → Leads edges from to → P from → P to
closed_along edges P closed from to (edge_at_once _ _ edge) holds = closed from to holds edge
closed_along edges P closed from to (path_further _ middle _ front back) holds =
    closed_along edges P closed middle to back (closed_along edges P closed from middle front holds)

-- a finished node isn't unseen
unseen_finished : (marks : List Mark) (node : ℕ) → slice_get marks node ≡ Some Unseen → IsFinished marks node → ⊥
unseen_finished marks node unseen finished = cc

-- a finished node isn't open
open_finished : (marks : List Mark) (node : ℕ) → IsOpen marks node → IsFinished marks node → ⊥
open_finished marks node open_now finished = cc

-- the marks differ
not_open : Finished ≡ Open → ⊥
not_open is = cc

-- and the other way round
not_finished : Open ≡ Finished → ⊥
not_finished is = cc

-- a node is finished
pub goes_finish : (marks : List Mark) (node : ℕ) → Goes marks (set marks node Finished)
goes_finish marks node =
    let finished : (other : ℕ) → IsFinished marks other → IsFinished (set marks node Finished) other = λ other was.
    elim (set_keeps marks node other Finished Finished was) [ inl same ↦ same | inr now ↦ now.1 ] in
    record {
      finished = finished;
      reached = λ other was. elim was [
        | inl open_then ↦ elim (set_keeps marks node other Finished Open open_then) [ inl same ↦ inl same | inr now ↦ inr now.1 ]
        | inr finished_then ↦ inr (finished other finished_then)
      ];
    }

-- a node is opened
pub goes_open : (marks : List Mark) (node : ℕ) → slice_get marks node ≡ Some Unseen → Goes marks (set marks node Open)
goes_open marks node unseen =
    let finished : (other : ℕ) → IsFinished marks other → IsFinished (set marks node Open) other = λ other was.
    elim (set_keeps marks node other Open Finished was) [
      | inl same ↦ same
      | inr now ↦ absurd (unseen_finished marks node unseen (subst (IsFinished marks) (sym now.0) was))
    ] in
    record {
      finished = finished;
      reached = λ other was. elim was [
        | inl open_then ↦ elim (set_keeps marks node other Open Open open_then) [ inl same ↦ inl same | inr now ↦ inl now.1 ]
        | inr finished_then ↦ inr (finished other finished_then)
      ];
    }

-- one change after another
pub goes_on : (old middle new : List Mark) → Goes old middle → Goes middle new → Goes old new
goes_on old middle new first second = record {
  finished = λ node was. second.finished node (first.finished node was);
  reached = λ node was. second.reached node (first.reached node was);
}

-- finished nodes stay settled where a node is opened
settled_open : (edges : List (List ℕ)) (marks : List Mark) (node : ℕ) → slice_get marks node ≡ Some Unseen → AreSettled edges marks
    → AreSettled edges (set marks node Open)
settled_open edges marks node unseen settled =
    let before : (other : ℕ) → IsFinished (set marks node Open) other → IsFinished marks other = λ other now.
    elim (set_cases marks node other Open Finished now) [ inl here ↦ absurd (not_finished here.1) | inr was ↦ was ] in
    record {
      one_each = length-set marks node Open ∙ settled.one_each;
      closed = λ from to now edge. (goes_open marks node unseen).finished to (settled.closed from to (before from now) edge);
      acyclic = λ other now. settled.acyclic other (before other now);
    }

-- so they do where a node is finished whose targets are
settled_finish : (edges : List (List ℕ)) (marks : List Mark) (node : ℕ) → ((to : ℕ) → HasEdge edges node to → IsFinished marks to)
    → AreSettled edges marks → AreSettled edges (set marks node Finished)
settled_finish edges marks node targets settled =
    let goes = goes_finish marks node in
    let apart : Leads edges node node → ⊥ = λ cycle.
    let first = first_edge edges node node cycle in
    let next = targets first.0 first.1 in
    let again : IsFinished marks node = elim first.2 [
      | inl is ↦ subst (IsFinished marks) is next
      | inr rest ↦ closed_along edges (IsFinished marks) settled.closed first.0 node rest next
    ] in
    settled.acyclic node again cycle in
    record {
      one_each = length-set marks node Finished ∙ settled.one_each;
      closed = λ from to now edge. elim (set_cases marks node from Finished Finished now) [
        | inl here ↦ goes.finished to (targets to (subst (λ (n : ℕ). HasEdge edges n to) (sym here.0) edge))
        | inr was ↦ goes.finished to (settled.closed from to was edge)
      ];
      acyclic = λ other now cycle. elim (set_cases marks node other Finished Finished now) [
        | inl here ↦ apart (subst (λ (n : ℕ). Leads edges n n) (sym here.0) cycle)
        | inr was ↦ settled.acyclic other was cycle
      ];
    }

-- what is known of a step is known after a change
passed_on : (edges : List (List ℕ)) (old new : List Mark) (step : Step) → Goes old new → IsPassed edges old step → IsPassed edges new step
passed_on edges old new step goes passed = record {
  targets = passed.targets;
  here = passed.here;
  within = passed.within;
  finished = λ place to before is. goes.finished to (passed.finished place to before is);
}

-- what is known of a path is known after a change
path_on : (edges : List (List ℕ)) (old new : List Mark) (path : List Step) → Goes old new → IsPath edges old path → IsPath edges new path
path_on edges old new [] goes led = tt
path_on edges old new (last ∷ []) goes led = passed_on edges old new last goes led
path_on edges old new (last ∷ before ∷ others) goes led =
    (passed_on edges old new last goes led.0, led.1, path_on edges old new (before ∷ others) goes led.2)

-- the last step of a path
last_passed : (edges : List (List ℕ)) (marks : List Mark) (last : Step) (others : List Step)
    → IsPath edges marks (last ∷ others) → IsPassed edges marks last
last_passed edges marks last [] led = led
last_passed edges marks last (before ∷ others) led = led.0

-- a path without its last step
path_before : (edges : List (List ℕ)) (marks : List Mark) (last : Step) (others : List Step)
    → IsPath edges marks (last ∷ others) → IsPath edges marks others
path_before edges marks last [] led = tt
path_before edges marks last (before ∷ others) led = led.2

-- a path with another last step at the same node
path_with : (edges : List (List ℕ)) (marks : List Mark) (old new : Step) (others : List Step) → old.node ≡ new.node → IsPassed edges marks new
    → IsPath edges marks (old ∷ others) → IsPath edges marks (new ∷ others)
path_with edges marks old new [] same passed led = passed
path_with edges marks old new (before ∷ others) same passed led = (passed, subst (Leads edges before.node) same led.1, led.2)

-- each node of a path is its last one, or leads to it
on_path_leads : (edges : List (List ℕ)) (marks : List Mark) (node : ℕ) (last : Step) (others : List Step) → IsPath edges marks (last ∷ others)
    → IsOnPath (last ∷ others) node → (last.node ≡ node) ⊎ Leads edges node last.node
on_path_leads edges marks node last others led (inl is) = inl is
on_path_leads edges marks node last [] led (inr on) = absurd on
on_path_leads edges marks node last (before ∷ others) led (inr on) =
    elim (on_path_leads edges marks node before others led.2 on) [
      | inl is ↦ inr (subst (λ (n : ℕ). Leads edges n last.node) is led.1)
      | inr front ↦ inr (path_further node before.node last.node front led.1)
    ]

-- an open target of a path's last node is led to by itself
pub cycle_found : (edges : List (List ℕ)) (marks : List Mark) (last : Step) (others : List Step) (to : ℕ) → IsSearching edges marks (last ∷ others)
    → HasEdge edges last.node to → IsOpen marks to → Leads edges to to
cycle_found edges marks last others to searching edge open_now =
    let back = edge_at_once last.node to edge in
    elim (on_path_leads edges marks to last others searching.led (searching.on_path to open_now)) [
      | inl is ↦ subst (λ (n : ℕ). Leads edges n to) is back
      | inr front ↦ path_further to last.node to front back
    ]

-- a place where nothing is lies past the end
none_within : {X : Type 0} (xs : List X) (place : ℕ) → slice_get xs place ≡ None → length xs ≤ place
none_within [] place none = omega arith
none_within (x ∷ xs) zero none = absurd (cc)
none_within (x ∷ xs) (suc place) none = let below = none_within xs place none in omega arith

-- a number below the next one of another
pub last_or_before : (place end : ℕ) → place < end + 1 → (place < end) ⊎ (place ≡ end)
last_or_before zero zero before = inr refl
last_or_before zero (suc end) before = inl (omega arith)
last_or_before (suc place) zero before = absurd (omega arith)
last_or_before (suc place) (suc end) before =
    elim (last_or_before place end (omega arith)) [ inl earlier ↦ inl (omega arith) | inr equal ↦ inr (ap suc equal) ]

-- all targets of a node are finished where those before a place are, and there is none at the place
all_finished : (edges : List (List ℕ)) (marks : List Mark) (step : Step) (targets : List ℕ) → IsPassed edges marks step
    → slice_get edges step.node ≡ Some targets → slice_get targets step.place ≡ None → (to : ℕ) → HasEdge edges step.node to → IsFinished marks to
all_finished edges marks step targets passed here none to edge =
    let same = same_Some edge.targets targets (sym edge.here ∙ here) in
    let alike = same_Some passed.targets targets (sym passed.here ∙ here) in
    let at = subst (λ (ts : List ℕ). slice_get ts edge.among.0 ≡ Some to) same edge.among.1 in
    let inside = slice_get_within targets edge.among.0 to at in
    let past = none_within targets step.place none in
    passed.finished edge.among.0 to (omega arith) (subst (λ (ts : List ℕ). slice_get ts edge.among.0 ≡ Some to) (sym alike) at)

-- the last node is finished
pub search_finish : (edges : List (List ℕ)) (marks : List Mark) (last : Step) (others : List Step) (targets : List ℕ)
    → IsSearching edges marks (last ∷ others) → slice_get edges last.node ≡ Some targets → slice_get targets last.place ≡ None
    → IsSearching edges (set marks last.node Finished) others
search_finish edges marks last others targets searching here none =
    let goes = goes_finish marks last.node in
    let passed = last_passed edges marks last others searching.led in
    record {
      settled = settled_finish edges marks last.node (all_finished edges marks last targets passed here none) searching.settled;
      led = path_on edges marks (set marks last.node Finished) others goes (path_before edges marks last others searching.led);
      on_path = λ node now. elim (set_cases marks last.node node Finished Open now) [
        | inl here ↦ absurd (not_open here.1)
        | inr was ↦ elim (searching.on_path node was) [
          | inl is ↦ absurd (open_finished (set marks last.node Finished) node now
              (subst (IsFinished (set marks last.node Finished)) is (set_here marks last.node Finished Open (subst (IsOpen marks) (sym is) was))))
          | inr on ↦ on
        ]
      ];
    }

-- the next target of the last node is finished
pub search_pass : (edges : List (List ℕ)) (marks : List Mark) (last next : Step) (others : List Step) (targets : List ℕ) (to : ℕ)
    → IsSearching edges marks (last ∷ others) → slice_get edges last.node ≡ Some targets → slice_get targets last.place ≡ Some to
    → IsFinished marks to → last.node ≡ next.node → next.place ≡ last.place + 1 → IsSearching edges marks (next ∷ others)
search_pass edges marks last next others targets to searching here is finished same more =
    let passed = last_passed edges marks last others searching.led in
    let alike = same_Some passed.targets targets (sym passed.here ∙ here) in
    let inside = slice_get_within targets last.place to is in
    let now : IsPassed edges marks next = record {
      targets = targets;
      here = ap (slice_get edges) (sym same) ∙ here;
      within = omega arith;
      finished = λ place other before at. elim (last_or_before place last.place (omega arith)) [
        | inl earlier ↦ passed.finished place other earlier (subst (λ (ts : List ℕ). slice_get ts place ≡ Some other) (sym alike) at)
        | inr equal ↦ subst (IsFinished marks) (same_Some to other (sym is ∙ ap (slice_get targets) (sym equal) ∙ at)) finished
      ];
    } in
    record {
      settled = searching.settled;
      led = path_with edges marks last next others same now searching.led;
      on_path = λ node open_now. elim (searching.on_path node open_now) [ inl at ↦ inl (sym same ∙ at) | inr on ↦ inr on ];
    }

-- what is known of a node that is opened
first_passed : (edges : List (List ℕ)) (marks : List Mark) (step : Step) → step.node < length edges → step.place ≡ 0 → IsPassed edges marks step
first_passed edges marks step inside first = record {
  targets = get_or edges step.node [];
  here = slice_get-get_or edges step.node [] inside;
  within = omega arith;
  finished = λ place to before is. absurd (omega arith);
}

-- a node that is opened lies on the path
open_on : (marks : List Mark) (path : List Step) (step : Step) → ((node : ℕ) → IsOpen marks node → IsOnPath path node)
    → (node : ℕ) → IsOpen (set marks step.node Open) node → IsOnPath (step ∷ path) node
open_on marks path step on node now =
    elim (set_cases marks step.node node Open Open now) [ inl here ↦ inl here.0 | inr was ↦ inr (on node was) ]

-- an unseen target of the last node is opened
pub search_open : (edges : List (List ℕ)) (marks : List Mark) (last next : Step) (others : List Step) → AreWithin edges
    → IsSearching edges marks (last ∷ others) → HasEdge edges last.node next.node → slice_get marks next.node ≡ Some Unseen → next.place ≡ 0
    → IsSearching edges (set marks next.node Open) (next ∷ last ∷ others)
search_open edges marks last next others within searching edge unseen first =
    let goes = goes_open marks next.node unseen in
    record {
      settled = settled_open edges marks next.node unseen searching.settled;
      led = (
        first_passed edges (set marks next.node Open) next (within last.node next.node edge) first,
        edge_at_once last.node next.node edge,
        path_on edges marks (set marks next.node Open) (last ∷ others) goes searching.led,
      );
      on_path = open_on marks (last ∷ others) next searching.on_path;
    }

-- an unseen node is opened where no path is being searched
pub search_begin : (edges : List (List ℕ)) (marks : List Mark) (first : Step) → IsSearching edges marks [] → slice_get marks first.node ≡ Some Unseen
    → first.place ≡ 0 → IsSearching edges (set marks first.node Open) (first ∷ [])
search_begin edges marks first searching unseen begins =
    let inside = slice_get_within marks first.node Unseen unseen in
    let as_many = searching.settled.one_each in
    record {
      settled = settled_open edges marks first.node unseen searching.settled;
      led = first_passed edges (set marks first.node Open) first (omega arith) begins;
      on_path = open_on marks [] first searching.on_path;
    }

-- a mark's work goes with the mark
marks_set : (edges : List (List ℕ)) (marks : List Mark) (node : ℕ) (new old : Mark) (targets : List ℕ) → slice_get edges node ≡ Some targets
    → slice_get marks node ≡ Some old
    → marks_work edges (set marks node new) + mark_work old (length targets) ≡ marks_work edges marks + mark_work new (length targets)
marks_set [] marks node new old targets here is = absurd (cc)
marks_set (first ∷ edges) [] node new old targets here is = absurd (cc)
marks_set (first ∷ edges) (mark ∷ marks) zero new old targets here is =
    let same = same_Some first targets here in
    let was = same_Some mark old is in
    let left = ap (λ (m : Mark). mark_work m (length targets)) was in
    let first_new = ap (λ (ts : List ℕ). mark_work new (length ts)) same in
    let first_old = ap (λ (ts : List ℕ). mark_work mark (length ts)) same in
    omega arith
marks_set (first ∷ edges) (mark ∷ marks) (suc node) new old targets here is =
    let others = marks_set edges marks node new old targets here is in
    omega arith

-- finishing a node adds no work
marks_finish : (edges : List (List ℕ)) (marks : List Mark) (node : ℕ) → marks_work edges (set marks node Finished) ≤ marks_work edges marks
marks_finish [] marks node = omega arith
marks_finish (targets ∷ edges) [] node = omega arith
marks_finish (targets ∷ edges) (mark ∷ marks) zero = omega arith
marks_finish (targets ∷ edges) (mark ∷ marks) (suc node) = let others = marks_finish edges marks node in omega arith

-- how many targets a node has
targets_of : (edges : List (List ℕ)) (node : ℕ) (targets : List ℕ) → slice_get edges node ≡ Some targets
    → length (unwrap_or (slice_get edges node) []) ≡ length targets
targets_of edges node targets here = ap (λ o. length (unwrap_or o [])) here

-- finishing the last node takes work away
pub less_finish : (edges : List (List ℕ)) (marks : List Mark) (last : Step) (others : List Step)
    → search_work edges (set marks last.node Finished) others < search_work edges marks (last ∷ others)
less_finish edges marks last others = let fewer = marks_finish edges marks last.node in omega arith

-- passing a target takes work away
pub less_pass : (edges : List (List ℕ)) (marks : List Mark) (last next : Step) (others : List Step) (targets : List ℕ) (to : ℕ)
    → slice_get edges last.node ≡ Some targets → slice_get targets last.place ≡ Some to → last.node ≡ next.node → next.place ≡ last.place + 1
    → search_work edges marks (next ∷ others) < search_work edges marks (last ∷ others)
less_pass edges marks last next others targets to here is same more =
    let before = targets_of edges last.node targets here in
    let after = targets_of edges next.node targets (ap (slice_get edges) (sym same) ∙ here) in
    let inside = slice_get_within targets last.place to is in
    omega arith

-- opening a node takes work away
pub less_open : (edges : List (List ℕ)) (marks : List Mark) (next : Step) (path : List Step) → length marks ≡ length edges
    → slice_get marks next.node ≡ Some Unseen → search_work edges (set marks next.node Open) (next ∷ path) < search_work edges marks path
less_open edges marks next path as_many unseen =
    let inside = slice_get_within marks next.node Unseen unseen in
    let within : next.node < length edges = omega arith in
    let here = slice_get-get_or edges next.node [] within in
    let targets = get_or edges next.node [] in
    let moved = marks_set edges marks next.node Open Unseen targets here unseen in
    let many = targets_of edges next.node targets here in
    omega arith

-- the last node has targets
pub last_targets : (edges : List (List ℕ)) (marks : List Mark) (last : Step) (others : List Step) → IsSearching edges marks (last ∷ others)
    → slice_get edges last.node ≡ Some (get_or edges last.node [])
last_targets edges marks last others searching =
    let passed = last_passed edges marks last others searching.led in
    slice_get-get_or edges last.node [] (slice_get_within edges last.node passed.targets passed.here)

-- the last node is one of the graph's
pub last_within : (edges : List (List ℕ)) (marks : List Mark) (last : Step) (others : List Step) → IsSearching edges marks (last ∷ others)
    → last.node < length edges
last_within edges marks last others searching =
    let passed = last_passed edges marks last others searching.led in
    slice_get_within edges last.node passed.targets passed.here

-- a target of the last node is at the end of an edge
pub edge_read : (edges : List (List ℕ)) (marks : List Mark) (last : Step) (others : List Step) (next : ℕ)
    → IsSearching edges marks (last ∷ others) → Some next ≡ slice_get (get_or edges last.node []) last.place → HasEdge edges last.node next
edge_read edges marks last others next searching is = record {
  targets = get_or edges last.node [];
  here = last_targets edges marks last others searching;
  among = (last.place, sym is);
}

-- a target has a mark
pub mark_within : (edges : List (List ℕ)) (marks : List Mark) (last : Step) (others : List Step) (next : ℕ) → AreWithin edges
    → IsSearching edges marks (last ∷ others) → HasEdge edges last.node next → next < length marks
mark_within edges marks last others next within searching edge =
    let inside = within last.node next edge in
    let as_many = searching.settled.one_each in
    omega arith

-- what a read of a mark gives
pub mark_read : (marks : List Mark) (node : ℕ) (found mark : Mark) → node < length marks → found ≡ get_or marks node found → found ≡ mark
    → slice_get marks node ≡ Some mark
mark_read marks node found mark inside is same = slice_get_read marks (length marks) node found refl inside is ∙ ap Some same

-- what a list of one item repeated has at a place
pub replicated : {X : Type 0} (many : ℕ) (x : X) (place : ℕ) (y : X) → slice_get (replicate many x) place ≡ Some y → x ≡ y
replicated zero x place y is = absurd (cc)
replicated (suc many) x zero y is = same_Some x y is
replicated (suc many) x (suc place) y is = replicated many x place y is

-- where all nodes are finished there is no cycle
pub all_acyclic : (edges : List (List ℕ)) (marks : List Mark) → AreSettled edges marks → ((node : ℕ) → node < length edges → IsFinished marks node)
    → IsAcyclic edges
all_acyclic edges marks settled finished node cycle =
    let first = first_edge edges node node cycle in
    settled.acyclic node (finished node (slice_get_within edges node first.1.targets first.1.here)) cycle
