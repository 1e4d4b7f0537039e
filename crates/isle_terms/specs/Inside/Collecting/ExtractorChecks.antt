-- What is checked of internal extractors: their bodies name known terms, and no term comes to itself.
use Rattle.std.specs.Prelude.{◌≡◌, ℕ, true, false, List, [], ◌++◌, map, All}
use Rattle.isle_ast.specs.declared.ast.Ident.{Ident}
use Rattle.isle_ast.specs.declared.ast.Extractor.{Extractor as ExtractorTree}
use Rattle.isle_ast.specs.declared.error.Error.{Error}
use Rattle.isle_ast.specs.declared.pos.Pos.{Pos}
use Rattle.isle_ast.specs.Trees.PatternTree.{PatternTree}
use Rattle.isle_ast.specs.Trees.PatternShape.{pattern_of}
use Rattle.isle_ast.specs.Trees.Terms.{pattern_terms}
use Rattle.isle_types.specs.TypeFaults.{IsTypeFault}
use Rattle.isle_rules.specs.Definitions.{IsAmong, is_among, term_names}
use Rattle.isle_terms.specs.TermFaults.{NamesTerm}

-- a term's name at the position of the term
abbrev pub name_at : Pos × Ident → Ident
name_at term = (term.1.0, term.0)

-- the names of a pattern's terms, each at the position of its term
abbrev pub named_in : PatternTree → List Ident
named_in tree = map name_at (pattern_terms tree)

-- errors that are added, each where a rule is broken; where none is, the rule is kept
pub record Adds (Broken : Pos → Type 0) (Kept : Type 0) (old new : List Error) : Type 0 where
  pub added : List Error
  pub all : new ≡ old ++ added
  pub faults : All (IsTypeFault Broken) added
  pub kept : added ≡ [] → Kept

-- a term's name isn't among names, and the term is at a position
abbrev pub IsUnknownAt : List (List ℕ) → Ident → Pos → Type 0
IsUnknownAt names term at = (is_among term.0 names ≡ false) × (at ≡ term.1)

-- a pattern names a term at a position whose name isn't among names
pub record BodyNamesUnknown (tree : PatternTree) (names : List (List ℕ)) (at : Pos) : Type 0 where
  pub name : List ℕ
  pub named : NamesTerm name at tree
  pub unknown : is_among name names ≡ false

-- the names of a pattern's terms are among names
abbrev pub BodyNamesKnown : PatternTree → List (List ℕ) → Type 0
BodyNamesKnown tree names = All (λ (name : List ℕ). is_among name names ≡ true) (term_names tree)

-- an extractor's body names a term at a position whose name isn't among names
pub record NamesUnknown (extractors : List ExtractorTree) (names : List (List ℕ)) (at : Pos) : Type 0 where
  pub extractor : ExtractorTree
  pub among : IsAmong extractors extractor
  pub name : List ℕ
  pub named : NamesTerm name at (pattern_of extractor.template)
  pub unknown : is_among name names ≡ false

-- the names of the terms in the bodies of extractors are among names
abbrev pub NamesKnown : List ExtractorTree → List (List ℕ) → Type 0
NamesKnown extractors names = All (λ (extractor : ExtractorTree). BodyNamesKnown (pattern_of extractor.template) names) extractors
