-- Edges that are added to a graph, some after others.
use Rattle.std.proofs.Common.{◌≡◌, ◌⊎◌, inl, inr, ℕ, ◌+◌, ◌<◌, zero, suc, List, []}
use Rattle.std.proofs.Common.{◌∷◌, ◌++◌, Some, length, set, get_or, take, replicate, refl, sym, ◌∙◌}
use Rattle.std.proofs.Common.{ap, subst}
use Rattle.std.specs.Prelude.{slice_get}
use Rattle.std.proofs.lemmas.List.{length-set, take_more}
use Rattle.std.proofs.lemmas.Option.{same_Some, slice_get-get_or}
use Rattle.isle_rules.specs.Definitions.{IsAmong}
use Rattle.isle_terms.specs.Inside.Collecting.Graphs.{HasEdge}
use Rattle.isle_terms.specs.Inside.Collecting.ExtractorGraphs.{AddsEdges}
use Rattle.isle_rules.proofs.SetLists.{set_cases, set_keeps, set_here}
use Rattle.isle_terms.proofs.Collections.Cycles.{replicated}

-- an item of a longer list
among_push : {X : Type 0} (xs : List X) (last x : X) → IsAmong (xs ++ last ∷ []) x → IsAmong xs x ⊎ (last ≡ x)
among_push [] last x (zero, is) = inr (same_Some last x is)
among_push [] last x (suc place, is) = absurd (cc)
among_push (first ∷ others) last x (zero, is) = inl (zero, is)
among_push (first ∷ others) last x (suc place, is) =
    elim (among_push others last x (place, is)) [ inl below ↦ inl (suc below.0, below.1) | inr here ↦ inr here ]

-- an item of a list is one of a longer list
pub among_before : {X : Type 0} (xs : List X) (last x : X) → IsAmong xs x → IsAmong (xs ++ last ∷ []) x
among_before [] last x among = absurd (cc among.1)
among_before (first ∷ others) last x (zero, is) = (zero, is)
among_before (first ∷ others) last x (suc place, is) = let below = among_before others last x (place, is) in (suc below.0, below.1)

-- and so is the last one
pub among_last : {X : Type 0} (xs : List X) (last : X) → IsAmong (xs ++ last ∷ []) last
among_last [] last = (zero, refl)
among_last (first ∷ others) last = let below = among_last others last in (suc below.0, below.1)

-- no edge is added
pub edges_none : (Added : ℕ → ℕ → Type 0) (graph : List (List ℕ)) → ((from to : ℕ) → Added from to → ⊥) → AddsEdges Added graph graph
edges_none Added graph none = record {
  one_each = refl;
  kept = λ from to edge. edge;
  complete = λ from to added. absurd (none from to added);
  sound = λ from to edge. inl edge;
}

-- the same edges are added
pub edges_by : (Added Same : ℕ → ℕ → Type 0) (old new : List (List ℕ)) → ((from to : ℕ) → Added from to → Same from to)
    → ((from to : ℕ) → Same from to → Added from to) → AddsEdges Added old new → AddsEdges Same old new
edges_by Added Same old new there back adds = record {
  one_each = adds.one_each;
  kept = adds.kept;
  complete = λ from to same. adds.complete from to (back from to same);
  sound = λ from to edge. elim (adds.sound from to edge) [ inl before ↦ inl before | inr added ↦ inr (there from to added) ];
}

-- one edge is added
pub edges_one : (old new : List (List ℕ)) (node target : ℕ) → node < length old → new ≡ set old node (get_or old node [] ++ target ∷ [])
    → AddsEdges (λ from to. (from ≡ node) × (to ≡ target)) old new
edges_one old new node target within is =
    let before = get_or old node [] in
    let row = before ++ target ∷ [] in
    let here = slice_get-get_or old node [] within in
    let written : (from : ℕ) (targets : List ℕ) → slice_get (set old node row) from ≡ Some targets → slice_get new from ≡ Some targets =
    λ from targets at. subst (λ (graph : List (List ℕ)). slice_get graph from ≡ Some targets) (sym is) at in
    record {
      one_each = ap length is ∙ length-set old node row;
      kept = λ from to edge. elim (set_keeps old node from row edge.targets edge.here) [
        | inl same ↦ record { targets = edge.targets; here = written from edge.targets same; among = edge.among }
        | inr now ↦
            let alike = same_Some edge.targets before (sym edge.here ∙ ap (slice_get old) (sym now.0) ∙ here) in
            record {
              targets = row;
              here = written from row now.1;
              among = among_before before target to (subst (λ (targets : List ℕ). IsAmong targets to) alike edge.among);
            }
      ];
      complete = λ from to added. record {
        targets = row;
        here = written from row (ap (slice_get (set old node row)) added.0 ∙ set_here old node row before here);
        among = subst (IsAmong row) (sym added.1) (among_last before target);
      };
      sound = λ from to edge.
          elim (set_cases old node from row edge.targets (subst (λ (graph : List (List ℕ)). slice_get graph from ≡ Some edge.targets) is edge.here)) [
            | inl now ↦ elim (among_push before target to (subst (λ (targets : List ℕ). IsAmong targets to) (sym now.1) edge.among)) [
              | inl among ↦ inl (record { targets = before; here = ap (slice_get old) (sym now.0) ∙ here; among = among })
              | inr last ↦ inr (sym now.0, sym last)
            ]
            | inr was ↦ inl (record { targets = edge.targets; here = was; among = edge.among })
          ];
    }

-- some edges are added, and then others
pub edges_both : (First Second : ℕ → ℕ → Type 0) (old middle new : List (List ℕ)) → AddsEdges First old middle → AddsEdges Second middle new
    → AddsEdges (λ from to. First from to ⊎ Second from to) old new
edges_both First Second old middle new first second = record {
  one_each = second.one_each ∙ first.one_each;
  kept = λ from to edge. second.kept from to (first.kept from to edge);
  complete = λ from to added. elim added [
    | inl early ↦ second.kept from to (first.complete from to early)
    | inr late ↦ second.complete from to late
  ];
  sound = λ from to edge. elim (second.sound from to edge) [
    | inl before ↦ elim (first.sound from to before) [ inl oldest ↦ inl oldest | inr early ↦ inr (inl early) ]
    | inr late ↦ inr (inr late)
  ];
}

-- an item of a list joins nodes
abbrev pub SomeJoins : {X : Type 0} → (X → ℕ → ℕ → Type 0) → List X → ℕ → ℕ → Type 0
SomeJoins {X} Joins xs from to = (x : X) × IsAmong xs x × Joins x from to

-- the edges of one item more
pub edges_more : {X : Type 0} (Joins : X → ℕ → ℕ → Type 0) (xs : List X) (place : ℕ) (x : X) (old middle new : List (List ℕ))
    → place < length xs → x ≡ get_or xs place x → AddsEdges (SomeJoins Joins (take place xs)) old middle → AddsEdges (Joins x) middle new
    → AddsEdges (SomeJoins Joins (take (place + 1) xs)) old new
edges_more {X} Joins xs place x old middle new within is first second =
    let more : take (place + 1) xs ≡ take place xs ++ x ∷ [] =
    take_more xs place x within ∙ ap (λ (last : X). take place xs ++ last ∷ []) (sym is) in
    edges_by (λ from to. SomeJoins Joins (take place xs) from to ⊎ Joins x from to) (SomeJoins Joins (take (place + 1) xs)) old new
    (λ from to added. subst (λ (items : List X). SomeJoins Joins items from to) (sym more) (elim added [
      | inl early ↦ (early.0, among_before (take place xs) x early.0 early.1, early.2)
      | inr late ↦ (x, among_last (take place xs) x, late)
    ]))
    (λ from to some.
    let found = subst (λ (items : List X). SomeJoins Joins items from to) more some in
    elim (among_push (take place xs) x found.0 found.1) [
      | inl among ↦ inl (found.0, among, found.2)
      | inr last ↦ inr (subst (λ (item : X). Joins item from to) (sym last) found.2)
    ])
    (edges_both (SomeJoins Joins (take place xs)) (Joins x) old middle new first second)

-- a graph with no edge
pub none_joined : (nodes : ℕ) (graph : List (List ℕ)) → graph ≡ replicate nodes [] → (from to : ℕ) → HasEdge graph from to → ⊥
none_joined nodes graph is from to edge =
    let empty = replicated nodes [] from edge.targets (subst (λ (rows : List (List ℕ)). slice_get rows from ≡ Some edge.targets) is edge.here) in
    let none = subst (λ (targets : List ℕ). IsAmong targets to) (sym empty) edge.among in
    cc none.1

-- no item joins nodes
pub none_in : {X : Type 0} (Joins : X → ℕ → ℕ → Type 0) (from to : ℕ) → SomeJoins Joins [] from to → ⊥
none_in Joins from to some = let at = some.1.1 in cc
