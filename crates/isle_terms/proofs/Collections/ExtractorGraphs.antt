-- The graph of internal extractors has a cycle exactly where a term comes to itself.
use Rattle.std.proofs.Common.{◌≡◌, inl, inr, ℕ, ◌+◌, ◌<◌, ◌≤◌, zero, suc, Bool, true, false, cond, List, [], ◌∷◌, ◌++◌, Option}
use Rattle.std.proofs.Common.{None, Some, length, set, get_or, map, replicate, refl, sym, ◌∙◌, ap, subst, arith, Bor}
use Rattle.std.specs.Prelude.{slice_get}
use Rattle.std.specs.Str.{bytes_eq}
use Rattle.std.specs.Option.{option_map}
use Rattle.std.proofs.lemmas.List.{length-map, length-replicate}
use Rattle.std.specs.Cmp.Lexicographic.{same_text}
use Rattle.isle_types.proofs.NamePlaces.{same_name}
use Rattle.isle_terms.proofs.Collections.Cycles.{last_or_before}
use Rattle.std.proofs.lemmas.Option.{same_Some, slice_get_within, slice_get-get_or, slice_get-map}
use Rattle.isle_ast.specs.declared.ast.Ident.{Ident}
use Rattle.isle_ast.specs.declared.ast.Extractor.{Extractor as ExtractorTree}
use Rattle.isle_ast.specs.declared.pos.Pos.{Pos}
use Rattle.isle_ast.specs.Trees.PatternTree.{PatternTree}
use Rattle.isle_ast.specs.Trees.PatternShape.{pattern_of}
use Rattle.isle_containers.specs.StableMaps.{value_at}
use Rattle.isle_rules.specs.Definitions.{IsAmong, ComesTo, at_once, further}
use Rattle.isle_terms.specs.Inside.Collecting.Graphs.{Leads, edge_at_once, path_further, AreWithin, IsAcyclic}
use Rattle.isle_terms.specs.Inside.Collecting.ExtractorGraphs.{extracted, ArePlaces, AddsEdges, NamesPlace, JoinsTerm, JoinsNode, JoinsPlaces}
use Rattle.isle_terms.specs.Inside.Collecting.ExtractorGraphs.{IsGraphOf, IsRecursiveAt, IsNotRecursive}
use Rattle.isle_terms.specs.Inside.Collecting.ExtractorChecks.{named_in}
use Rattle.isle_terms.proofs.Collections.ExtractorBodies.{among_map, among_of_map, term_names_named}
use Rattle.isle_terms.proofs.Collections.AddedEdges.{SomeJoins, edges_none, edges_one, edges_by, none_joined}

-- the extractor that is lent
abbrev pub lent : Bor ExtractorTree → ExtractorTree
lent extractor = extractor.now

-- the name of a place
abbrev pub name_of_place : List ExtractorTree → ℕ → List ℕ → Type 0
name_of_place extractors place name = slice_get (extracted extractors) place ≡ Some name

-- the extractor of a place with a name
extractor_at : (extractors : List ExtractorTree) (place : ℕ) (name : List ℕ) → name_of_place extractors place name
    → (extractor : ExtractorTree) × (slice_get extractors place ≡ Some extractor) × (extractor.term.0 ≡ name)
extractor_at [] place name is = absurd (cc)
extractor_at (first ∷ others) zero name is = (first, refl, same_Some first.term.0 name is)
extractor_at (first ∷ others) (suc place) name is = extractor_at others place name is

-- edges lead to nodes
pub graph_within : (extractors : List ExtractorTree) (places : List (List ℕ × ℕ)) (graph : List (List ℕ)) → ArePlaces (extracted extractors) places
    → IsGraphOf extractors places graph → AreWithin graph
graph_within extractors places graph are made from to edge =
    let joined = made.sound from to edge in
    let named = joined.2.1 in
    let inside = slice_get_within (extracted extractors) to named.name (are.found named.name to named.at) in
    let as_many = length-map extractors (λ (extractor : ExtractorTree). extractor.term.0) in
    let all = made.one_each in
    omega arith

-- a path comes from the term of its first place to that of its last
leads_comes : (extractors : List ExtractorTree) (places : List (List ℕ × ℕ)) (graph : List (List ℕ)) → ArePlaces (extracted extractors) places
    → IsGraphOf extractors places graph → (from to : ℕ) → Leads graph from to
    → (first : List ℕ) × (last : List ℕ) × name_of_place extractors from first × name_of_place extractors to last × ComesTo extractors first last
leads_comes extractors places graph are made from to (edge_at_once _ _ edge) =
    let joined = made.sound from to edge in
    let extractor = joined.0 in
    let named = joined.2.1 in (
      extractor.term.0,
      named.name,
      are.found extractor.term.0 from joined.2.0,
      are.found named.name to named.at,
      at_once extractor named.name joined.1 named.named,
    )
leads_comes extractors places graph are made from to (path_further _ middle _ front back) =
    let first = leads_comes extractors places graph are made from middle front in
    let second = leads_comes extractors places graph are made middle to back in
    let same = same_Some second.0 first.1 (sym second.2 ∙ first.3) in (
      first.0,
      second.1,
      first.2,
      second.3,
      further first.0 first.1 second.1 first.4 (subst (λ (name : List ℕ). ComesTo extractors name second.1) same second.4),
    )

-- a term that comes to one has an extractor
comes_from : (extractors : List ExtractorTree) (first last : List ℕ) → ComesTo extractors first last → IsAmong (extracted extractors) first
comes_from extractors first last (at_once extractor _ among named) =
    among_of_map (λ (other : ExtractorTree). other.term.0) extractors extractor among
comes_from extractors first last (further _ middle _ front back) = comes_from extractors first middle front

-- a term that comes to one with an extractor has a path to it
comes_leads : (extractors : List ExtractorTree) (places : List (List ℕ × ℕ)) (graph : List (List ℕ)) → ArePlaces (extracted extractors) places
    → IsGraphOf extractors places graph → (first last : List ℕ) → ComesTo extractors first last → (to : ℕ) → value_at bytes_eq places last ≡ Some to
    → (from : ℕ) × (value_at bytes_eq places first ≡ Some from) × Leads graph from to
comes_leads extractors places graph are made first last (at_once extractor _ among named) to at =
    let from = are.known extractor.term.0 (among_of_map (λ (other : ExtractorTree). other.term.0) extractors extractor among) in
    let joined : NamesPlace places (pattern_of extractor.template) to = record { name = last; named = named; at = at } in
    (from.0, from.1, edge_at_once from.0 to (made.complete extractor from.0 to among (from.1, joined)))
comes_leads extractors places graph are made first last (further _ middle _ front back) to at =
    let second = comes_leads extractors places graph are made middle last back to at in
    let begin = comes_leads extractors places graph are made first middle front second.0 second.1 in
    (begin.0, begin.1, path_further begin.0 second.0 to begin.2 second.2)

-- where the graph has no cycle no term comes to itself
pub acyclic_kept : (extractors : List ExtractorTree) (places : List (List ℕ × ℕ)) (graph : List (List ℕ)) → ArePlaces (extracted extractors) places
    → IsGraphOf extractors places graph → IsAcyclic graph → IsNotRecursive extractors
acyclic_kept extractors places graph are made acyclic name comes =
    let to = are.known name (comes_from extractors name name comes) in
    let path = comes_leads extractors places graph are made name name comes to.0 to.1 in
    let same = same_Some path.0 to.0 (sym path.1 ∙ to.1) in
    acyclic to.0 (subst (λ (from : ℕ). Leads graph from to.0) same path.2)

-- where a place is on a cycle its extractor comes to its own term
pub cycle_broken : (extractors : List ExtractorTree) (places : List (List ℕ × ℕ)) (graph : List (List ℕ)) → ArePlaces (extracted extractors) places
    → IsGraphOf extractors places graph → (place : ℕ) → Leads graph place place → (at : Pos)
    → ((extractor : ExtractorTree) → slice_get extractors place ≡ Some extractor → at ≡ extractor.pos) → IsRecursiveAt extractors at
cycle_broken extractors places graph are made place cycle at stands =
    let path = leads_comes extractors places graph are made place place cycle in
    let here = extractor_at extractors place path.0 path.2 in
    let same = same_Some path.1 path.0 (sym path.3 ∙ path.2) in
    let around = subst (ComesTo extractors path.0) same path.4 in
    record {
      extractor = here.0;
      among = (place, here.1);
      recursive = subst (λ (name : List ℕ). ComesTo extractors name name) (sym here.2) around;
      here = stands here.0 here.1;
    }

-- a place on a cycle is one of the extractors'
pub cycle_within : (extractors : List (Bor ExtractorTree)) (places : List (List ℕ × ℕ)) (graph : List (List ℕ))
    → ArePlaces (extracted (map lent extractors)) places → IsGraphOf (map lent extractors) places graph → (place : ℕ) → Leads graph place place
    → place < length extractors
cycle_within extractors places graph are made place cycle =
    let path = leads_comes (map lent extractors) places graph are made place place cycle in
    let inside = slice_get_within (extracted (map lent extractors)) place path.0 path.2 in
    let names = length-map (map lent extractors) (λ (extractor : ExtractorTree). extractor.term.0) in
    let trees = length-map extractors lent in
    omega arith

-- an extractor that is lent joins places
abbrev pub JoinsLent : List (List ℕ × ℕ) → Bor ExtractorTree → ℕ → ℕ → Type 0
JoinsLent places extractor from to = JoinsPlaces places extractor.now from to

-- nothing isn't something
none_some : (to : ℕ) (found : Option ℕ) → None ≡ found → found ≡ Some to → ⊥
none_some to found none some = cc

-- a term with no extractor
pub term_none : (places : List (List ℕ × ℕ)) (node : ℕ) (term : Ident) (graph : List (List ℕ)) → None ≡ value_at bytes_eq places term.0
    → AddsEdges (JoinsTerm places node term) graph graph
term_none places node term graph none =
    edges_none (JoinsTerm places node term) graph (λ from to joins. none_some to (value_at bytes_eq places term.0) none joins.1)

-- the terms of a body
pub targets_added : (places : List (List ℕ × ℕ)) (node : ℕ) (tree : PatternTree) (terms : List Ident) (old new : List (List ℕ))
    → terms ≡ named_in tree → AddsEdges (SomeJoins (JoinsTerm places node) terms) old new → AddsEdges (JoinsNode places node tree) old new
targets_added places node tree terms old new is adds =
    let names = term_names_named tree ∙ ap (map (λ (term : Ident). term.0)) (sym is) in
    edges_by (SomeJoins (JoinsTerm places node) terms) (JoinsNode places node tree) old new
    (λ from to some. (
      some.2.0,
      record {
        name = some.0.0;
        named = subst (λ (all : List (List ℕ)). IsAmong all some.0.0) (sym names) (among_of_map (λ (term : Ident). term.0) terms some.0 some.1);
        at = some.2.1;
      },
    ))
    (λ from to joins.
    let named = joins.1 in
    let term = among_map (λ (term : Ident). term.0) terms named.name
    (subst (λ (all : List (List ℕ)). IsAmong all named.name) names named.named) in
    (term.0, term.1, (joins.0, ap (value_at bytes_eq places) term.2 ∙ named.at))) adds

-- an extractor of a term with no place
pub extractor_none : (places : List (List ℕ × ℕ)) (extractor : ExtractorTree) (graph : List (List ℕ))
    → None ≡ value_at bytes_eq places extractor.term.0 → AddsEdges (JoinsPlaces places extractor) graph graph
extractor_none places extractor graph none =
    edges_none (JoinsPlaces places extractor) graph (λ from to joins. none_some from (value_at bytes_eq places extractor.term.0) none joins.0)

-- a place of a term with an extractor is a node
pub place_within : (extractors : List (Bor ExtractorTree)) (places : List (List ℕ × ℕ)) (old new : List (List ℕ)) (Added : ℕ → ℕ → Type 0)
    → ArePlaces (extracted (map lent extractors)) places → old ≡ replicate (length extractors) [] → AddsEdges Added old new → (name : List ℕ)
    → (place : ℕ) → value_at bytes_eq places name ≡ Some place → place < length new
place_within extractors places old new Added are empty adds name place at =
    let inside = slice_get_within (extracted (map lent extractors)) place name (are.found name place at) in
    let names = length-map (map lent extractors) (λ (extractor : ExtractorTree). extractor.term.0) in
    let trees = length-map extractors lent in
    let nodes = ap length empty ∙ length-replicate (length extractors) [] in
    let as_many = adds.one_each in
    omega arith

-- the whole graph
pub graph_made : (extractors : List (Bor ExtractorTree)) (places : List (List ℕ × ℕ)) (old graph : List (List ℕ))
    → old ≡ replicate (length extractors) [] → AddsEdges (SomeJoins (JoinsLent places) extractors) old graph
    → IsGraphOf (map lent extractors) places graph
graph_made extractors places old graph empty adds = record {
  one_each = adds.one_each ∙ ap length empty ∙ length-replicate (length extractors) [] ∙ sym (length-map extractors lent);
  complete = λ extractor from to among joins.
      let borrowed = among_map lent extractors extractor among in
      adds.complete from to (borrowed.0, borrowed.1, subst (λ (tree : ExtractorTree). JoinsPlaces places tree from to) (sym borrowed.2) joins);
  sound = λ from to edge. elim (adds.sound from to edge) [
    | inl before ↦ absurd (none_joined (length extractors) old empty from to before)
    | inr some ↦ (some.0.now, among_of_map lent extractors some.0 some.1, some.2)
  ];
}

-- what a table gives at a name after another name was put in
put_found : (names : List (List ℕ)) (place : ℕ) (name asked : List ℕ) (at : ℕ) (before : Option ℕ) (same : Bool) → bytes_eq name asked ≡ same
    → slice_get names place ≡ Some name → (before ≡ Some at → slice_get names at ≡ Some asked) → cond same (Some place) before ≡ Some at
    → slice_get names at ≡ Some asked
put_found names place name asked at before true same here found is =
    ap (slice_get names) (sym (same_Some place at is)) ∙ here ∙ ap Some (same_text name asked (sym same))
put_found names place name asked at before false same here found is = found is

-- a name that was in a table before is in it after another was put in
put_known : (place : ℕ) (before : Option ℕ) (same : Bool) → (later : ℕ) × (before ≡ Some later) → (at : ℕ) × (cond same (Some place) before ≡ Some at)
put_known place before true known = (place, refl)
put_known place before false known = known

-- a name that was put in is there
put_here : (place : ℕ) (before : Option ℕ) (same : Bool) → same ≡ true → (at : ℕ) × (cond same (Some place) before ≡ Some at)
put_here place before true is = (place, refl)
put_here place before false is = absurd (cc)

-- a place more
pub places_more : (names : List (List ℕ)) (old new : List (List ℕ × ℕ)) (place : ℕ) (name : List ℕ) → slice_get names place ≡ Some name
    → ((asked : List ℕ) → value_at bytes_eq new asked ≡ cond (bytes_eq name asked) (Some place) (value_at bytes_eq old asked))
    → ((asked : List ℕ) (at : ℕ) → value_at bytes_eq old asked ≡ Some at → slice_get names at ≡ Some asked)
    → (asked : List ℕ) (at : ℕ) → value_at bytes_eq new asked ≡ Some at → slice_get names at ≡ Some asked
places_more names old new place name here now found asked at is =
    put_found names place name asked at (value_at bytes_eq old asked) (bytes_eq name asked) refl here (found asked at) (sym (now asked) ∙ is)

-- the names before a place, and that of the place
pub names_more : (names : List (List ℕ)) (old new : List (List ℕ × ℕ)) (place : ℕ) (name : List ℕ) → slice_get names place ≡ Some name
    → ((asked : List ℕ) → value_at bytes_eq new asked ≡ cond (bytes_eq name asked) (Some place) (value_at bytes_eq old asked))
    → ((asked : List ℕ) (at : ℕ) → at < place → slice_get names at ≡ Some asked → (later : ℕ) × (value_at bytes_eq old asked ≡ Some later))
    → (asked : List ℕ) (at : ℕ) → at < place + 1 → slice_get names at ≡ Some asked → (later : ℕ) × (value_at bytes_eq new asked ≡ Some later)
names_more names old new place name here now known asked at before is =
    let put : (later : ℕ) × (cond (bytes_eq name asked) (Some place) (value_at bytes_eq old asked) ≡ Some later) =
    elim (last_or_before at place before) [
      | inl earlier ↦ put_known place (value_at bytes_eq old asked) (bytes_eq name asked) (known asked at earlier is)
      | inr equal ↦
          let same = same_Some name asked (sym here ∙ ap (slice_get names) (sym equal) ∙ is) in
          put_here place (value_at bytes_eq old asked) (bytes_eq name asked)
          (subst (λ (other : List ℕ). bytes_eq name other ≡ true) same (same_name name))
    ] in
    (put.0, now asked ∙ put.1)

-- the extractor at a place
pub lent_at : (extractors : List (Bor ExtractorTree)) (place : ℕ) (other : Bor ExtractorTree) → place < length extractors
    → slice_get (map lent extractors) place ≡ Some (get_or extractors place other).now
lent_at extractors place other within =
    slice_get-map lent extractors place ∙ ap (option_map lent) (slice_get-get_or extractors place other within)

-- the name of the extractor at a place
pub name_at_place : (extractors : List (Bor ExtractorTree)) (place : ℕ) (other : Bor ExtractorTree) (name : List ℕ) → place < length extractors
    → name ≡ (get_or extractors place other).now.term.0 → slice_get (extracted (map lent extractors)) place ≡ Some name
name_at_place extractors place other name within is =
    slice_get-map (λ (extractor : ExtractorTree). extractor.term.0) (map lent extractors) place
    ∙ ap (option_map (λ (extractor : ExtractorTree). extractor.term.0)) (lent_at extractors place other within) ∙ ap Some (sym is)

-- a table of all names
pub places_made : (extractors : List (Bor ExtractorTree)) (places : List (List ℕ × ℕ)) (end : ℕ) → length extractors ≤ end
    → ((name : List ℕ) (place : ℕ) → value_at bytes_eq places name ≡ Some place → slice_get (extracted (map lent extractors)) place ≡ Some name)
    → ((name : List ℕ) (place : ℕ) → place < end → slice_get (extracted (map lent extractors)) place ≡ Some name
    → (later : ℕ) × (value_at bytes_eq places name ≡ Some later))
    → ArePlaces (extracted (map lent extractors)) places
places_made extractors places end all found known = record {
  found = found;
  known = λ name among.
      let inside = slice_get_within (extracted (map lent extractors)) among.0 name among.1 in
      let names = length-map (map lent extractors) (λ (extractor : ExtractorTree). extractor.term.0) in
      let trees = length-map extractors lent in
      known name among.0 (omega arith) among.1;
}

-- an empty table gives nothing
pub empty_gives : (places : List (List ℕ × ℕ)) (name : List ℕ) (place : ℕ) → places ≡ [] → value_at bytes_eq places name ≡ Some place → ⊥
empty_gives places name place empty is =
    none_some place (value_at bytes_eq places name) (sym (ap (λ (ps : List (List ℕ × ℕ)). value_at bytes_eq ps name) empty)) is
