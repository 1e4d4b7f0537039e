-- The graph of internal extractors: an edge leads from a term to each term with an extractor that its body names.
use Rattle.std.specs.Prelude.{◌≡◌, ◌⊎◌, ℕ, List, Some, length, map, slice_get}
use Rattle.std.specs.Str.{bytes_eq}
use Rattle.isle_ast.specs.declared.ast.Ident.{Ident}
use Rattle.isle_ast.specs.declared.ast.Extractor.{Extractor as ExtractorTree}
use Rattle.isle_ast.specs.declared.pos.Pos.{Pos}
use Rattle.isle_ast.specs.Trees.PatternTree.{PatternTree}
use Rattle.isle_ast.specs.Trees.PatternShape.{pattern_of}
use Rattle.isle_containers.specs.StableMaps.{value_at}
use Rattle.isle_rules.specs.Definitions.{IsAmong, ComesTo, term_names}
use Rattle.isle_terms.specs.Inside.Collecting.Graphs.{HasEdge}

-- the names of the terms of extractors
abbrev pub extracted : List ExtractorTree → List (List ℕ)
extracted extractors = map (λ (extractor : ExtractorTree). extractor.term.0) extractors

-- a table gives a place of each name: of one that stands twice, either
pub record ArePlaces (names : List (List ℕ)) (places : List (List ℕ × ℕ)) : Type 0 where
  pub found : (name : List ℕ) (place : ℕ) → value_at bytes_eq places name ≡ Some place → slice_get names place ≡ Some name
  pub known : (name : List ℕ) → IsAmong names name → (place : ℕ) × (value_at bytes_eq places name ≡ Some place)

-- edges are added to a graph
pub record AddsEdges (Added : ℕ → ℕ → Type 0) (old new : List (List ℕ)) : Type 0 where
  pub one_each : length new ≡ length old
  pub kept : (from to : ℕ) → HasEdge old from to → HasEdge new from to
  pub complete : (from to : ℕ) → Added from to → HasEdge new from to
  pub sound : (from to : ℕ) → HasEdge new from to → HasEdge old from to ⊎ Added from to

-- a pattern names a term of a place
pub record NamesPlace (places : List (List ℕ × ℕ)) (tree : PatternTree) (to : ℕ) : Type 0 where
  pub name : List ℕ
  pub named : IsAmong (term_names tree) name
  pub at : value_at bytes_eq places name ≡ Some to

-- a term of a body joins a node with the place of its name
abbrev pub JoinsTerm : List (List ℕ × ℕ) → ℕ → Ident → ℕ → ℕ → Type 0
JoinsTerm places node term from to = (from ≡ node) × (value_at bytes_eq places term.0 ≡ Some to)

-- a pattern joins a node with the places of the terms that it names
abbrev pub JoinsNode : List (List ℕ × ℕ) → ℕ → PatternTree → ℕ → ℕ → Type 0
JoinsNode places node tree from to = (from ≡ node) × NamesPlace places tree to

-- an extractor of the term of a place names a term of a place
abbrev pub JoinsPlaces : List (List ℕ × ℕ) → ExtractorTree → ℕ → ℕ → Type 0
JoinsPlaces places extractor from to =
    (value_at bytes_eq places extractor.term.0 ≡ Some from) × NamesPlace places (pattern_of extractor.template) to

-- a graph has an edge for each term that an extractor names, and no other
pub record IsGraphOf (extractors : List ExtractorTree) (places : List (List ℕ × ℕ)) (graph : List (List ℕ)) : Type 0 where
  pub one_each : length graph ≡ length extractors
  pub complete : (extractor : ExtractorTree) (from to : ℕ) → IsAmong extractors extractor → JoinsPlaces places extractor from to
      → HasEdge graph from to
  pub sound : (from to : ℕ) → HasEdge graph from to → (extractor : ExtractorTree) × IsAmong extractors extractor
      × JoinsPlaces places extractor from to

-- an extractor stands at a position and comes to its own term
pub record IsRecursiveAt (extractors : List ExtractorTree) (at : Pos) : Type 0 where
  pub extractor : ExtractorTree
  pub among : IsAmong extractors extractor
  pub recursive : ComesTo extractors extractor.term.0 extractor.term.0
  pub here : at ≡ extractor.pos

-- no term comes to itself
abbrev pub IsNotRecursive : List ExtractorTree → Type 0
IsNotRecursive extractors = (name : List ℕ) → ComesTo extractors name name → ⊥
