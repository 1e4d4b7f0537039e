-- Where definitions break a rule of terms, extractors, constructors, converters or rules.
use Rattle.std.specs.Prelude.{◌≡◌, ◌⊎◌, ◌<◌, ℕ, true, List, [], ◌∷◌, ◌++◌, map, length, None, Some, slice_get}
use Rattle.isle_ast.specs.declared.ast.Ident.{Ident}
use Rattle.isle_ast.specs.declared.ast.Decl.{Decl as DeclTree}
use Rattle.isle_ast.specs.declared.ast.Rule.{Rule as RuleTree}
use Rattle.isle_ast.specs.declared.ast.Extractor.{Extractor as ExtractorTree}
use Rattle.isle_ast.specs.declared.ast.Converter.{Converter as ConverterTree}
use Rattle.isle_ast.specs.declared.ast.Def.{Def}
use Rattle.isle_ast.specs.declared.pos.Pos.{Pos}
use Rattle.isle_ast.specs.Trees.PatternTree.{PatternTree, PatternTrees, pattern_var, pattern_bind, pattern_bool, pattern_int, pattern_prim}
use Rattle.isle_ast.specs.Trees.PatternTree.{pattern_term, pattern_wildcard, pattern_and, pattern_macro_arg, no_patterns, more_patterns}
use Rattle.isle_ast.specs.Trees.PatternShape.{pattern_of}
use Rattle.isle_types.specs.IntTypes.{builtin_names}
use Rattle.isle_types.specs.Names.{IsDuplicate}
use Rattle.isle_types.specs.Environment.{Environment}
use Rattle.isle_rules.specs.Signatures.{Signature}
use Rattle.isle_rules.specs.Elaboration.{type_named}
use Rattle.isle_rules.specs.Definitions.{IsAmong, ExternalExtractor, declarations, rules_in, extractors_in, converters_in, external_constructors}
use Rattle.isle_rules.specs.Definitions.{external_extractors, root_name, roots_of, constructor_for, extractor_for, terms_of_types, IsTerm}
use Rattle.isle_rules.specs.Definitions.{ComesTo, external_constructor_names}

-- the names of all terms, each with the position of what makes it
abbrev pub named_terms : Environment → List Def → List (List ℕ × Pos)
named_terms types defs =
    map (λ (decl : DeclTree). (decl.term.0, decl.pos)) (declarations defs)
    ++ map (λ (term : Signature). (term.name, term.pos)) (terms_of_types (length builtin_names) types.types)

-- the first parts of pairs
abbrev pub names_of : List (List ℕ × Pos) → List (List ℕ)
names_of pairs = map (λ (pair : List ℕ × Pos). pair.0) pairs

-- a name stands at an earlier place already, and this one at a position
pub record IsTaken (pairs : List (List ℕ × Pos)) (at : Pos) : Type 0 where
  pub place : ℕ
  pub name : List ℕ
  pub here : slice_get pairs place ≡ Some (name, at)
  pub taken : IsDuplicate (names_of pairs) place

-- a declaration breaks a rule
pub data DeclarationBreaks (types : Environment) (defs : List Def) : Pos → Type 0 where
  term_twice : (at : Pos) → IsTaken (named_terms types defs) at → DeclarationBreaks types defs at
  multi_and_partial : (decl : DeclTree) → IsAmong (declarations defs) decl → decl.multi ≡ true → decl.partial ≡ true
      → DeclarationBreaks types defs decl.pos
  unknown_type : (decl : DeclTree) (name : Ident) → IsAmong (declarations defs) decl → IsAmong (decl.arg_tys ++ decl.ret_ty ∷ []) name
      → type_named types name.0 ≡ None → DeclarationBreaks types defs name.1

-- a declaration has more arguments than a term may have
pub record IsLargeDeclaration (defs : List Def) (at : Pos) : Type 0 where
  pub decl : DeclTree
  pub among : IsAmong (declarations defs) decl
  pub many : 255 < length decl.arg_tys
  pub here : at ≡ decl.pos

-- no declaration has a name
abbrev pub IsUndeclared : List Def → List ℕ → Type 0
IsUndeclared defs name = (decl : DeclTree) → IsAmong (declarations defs) decl → decl.term.0 ≡ name → ⊥

-- the names of terms that are given an extractor, each with the position of its definition
abbrev pub named_extractors : List Def → List (List ℕ × Pos)
named_extractors defs =
    map (λ (extractor : ExtractorTree). (extractor.term.0, extractor.pos)) (extractors_in defs)
    ++ map (λ (external : ExternalExtractor). (external.term.0, external.pos)) (external_extractors defs)

-- a term is named at a position of a pattern
abbrev mutual
  pub NamesTerm : List ℕ → Pos → PatternTree → Type 0
  NamesTerm name at (pattern_var _ _) = ⊥
  NamesTerm name at (pattern_bind _ below _) = NamesTerm name at below
  NamesTerm name at (pattern_bool _ _) = ⊥
  NamesTerm name at (pattern_int _ _ _) = ⊥
  NamesTerm name at (pattern_prim _ _) = ⊥
  NamesTerm name at (pattern_term sym args pos) = ((name ≡ sym.0) × (at ≡ pos)) ⊎ SomeNamesTerm name at args
  NamesTerm name at (pattern_wildcard _) = ⊥
  NamesTerm name at (pattern_and below _) = SomeNamesTerm name at below
  NamesTerm name at (pattern_macro_arg _ _) = ⊥

  pub SomeNamesTerm : List ℕ → Pos → PatternTrees → Type 0
  SomeNamesTerm name at no_patterns = ⊥
  SomeNamesTerm name at (more_patterns first others) = NamesTerm name at first ⊎ SomeNamesTerm name at others

-- an extractor breaks a rule
pub data ExtractorBreaks (defs : List Def) (terms : List Signature) : Pos → Type 0 where
  internal_of_no_declared_term : (extractor : ExtractorTree) → IsAmong (extractors_in defs) extractor
      → IsUndeclared defs extractor.term.0 → ExtractorBreaks defs terms extractor.pos
  external_of_no_declared_term : (external : ExternalExtractor) → IsAmong (external_extractors defs) external
      → IsUndeclared defs external.term.0 → ExtractorBreaks defs terms external.pos
  second_extractor : (at : Pos) → IsTaken (named_extractors defs) at → ExtractorBreaks defs terms at
  internal_of_multi : (extractor : ExtractorTree) (decl : DeclTree) → IsAmong (extractors_in defs) extractor → IsAmong (declarations defs) decl
      → decl.term.0 ≡ extractor.term.0 → decl.multi ≡ true → ExtractorBreaks defs terms extractor.pos
  body_of_unknown_term : (extractor : ExtractorTree) (name : List ℕ) (at : Pos) → IsAmong (extractors_in defs) extractor
      → NamesTerm name at (pattern_of extractor.template) → (IsTerm terms name → ⊥) → ExtractorBreaks defs terms at
  recursive : (extractor : ExtractorTree) → IsAmong (extractors_in defs) extractor
      → ComesTo (extractors_in defs) extractor.term.0 extractor.term.0 → ExtractorBreaks defs terms extractor.pos

-- the root of a rule, or an external constructor, breaks a rule; an external constructor's fault is at its term's name
pub data ConstructorBreaks (defs : List Def) : Pos → Type 0 where
  root_is_no_term : (rule : RuleTree) → IsAmong (rules_in defs) rule → root_name (pattern_of rule.pattern) ≡ None → ConstructorBreaks defs rule.pos
  root_is_not_declared : (rule : RuleTree) (name : List ℕ) → IsAmong (rules_in defs) rule → root_name (pattern_of rule.pattern) ≡ Some name
      → IsUndeclared defs name → ConstructorBreaks defs rule.pos
  root_is_external : (rule : RuleTree) (name : List ℕ) → IsAmong (rules_in defs) rule → root_name (pattern_of rule.pattern) ≡ Some name
      → IsAmong (external_constructor_names defs) name → ConstructorBreaks defs rule.pos
  external_is_not_declared : (external : Ident × Ident) → IsAmong (external_constructors defs) external
      → IsUndeclared defs external.0.0 → ConstructorBreaks defs external.0.1
  external_has_rules : (external : Ident × Ident) → IsAmong (external_constructors defs) external
      → IsAmong (roots_of (rules_in defs)) external.0.0 → ConstructorBreaks defs external.0.1
  second_external : (at : Pos) → IsTaken (map (λ (external : Ident × Ident). (external.0.0, external.0.1)) (external_constructors defs)) at
      → ConstructorBreaks defs at

-- two converters have the pair of types of the names of one
pub record IsSecondConverter (types : Environment) (defs : List Def) (place : ℕ) : Type 0 where
  pub earlier : ℕ
  pub first : ConverterTree
  pub second : ConverterTree
  pub before : earlier < place
  pub at_first : slice_get (converters_in defs) earlier ≡ Some first
  pub at_second : slice_get (converters_in defs) place ≡ Some second
  pub inner : type_named types first.inner_ty.0 ≡ type_named types second.inner_ty.0
  pub outer : type_named types first.outer_ty.0 ≡ type_named types second.outer_ty.0

-- a converter breaks a rule
pub data ConverterBreaks (types : Environment) (defs : List Def) (terms : List Signature) : Pos → Type 0 where
  unknown_inner_type : (tree : ConverterTree) → IsAmong (converters_in defs) tree → type_named types tree.inner_ty.0 ≡ None
      → ConverterBreaks types defs terms tree.inner_ty.1
  unknown_outer_type : (tree : ConverterTree) → IsAmong (converters_in defs) tree → type_named types tree.outer_ty.0 ≡ None
      → ConverterBreaks types defs terms tree.outer_ty.1
  unknown_converter : (tree : ConverterTree) → IsAmong (converters_in defs) tree → (IsTerm terms tree.term.0 → ⊥)
      → ConverterBreaks types defs terms tree.term.1
  second_converter : (place : ℕ) (tree : ConverterTree) → slice_get (converters_in defs) place ≡ Some tree
      → IsSecondConverter types defs place → ConverterBreaks types defs terms tree.pos

-- a declared term has neither a constructor nor an extractor
pub record IsUndefined (defs : List Def) (at : Pos) : Type 0 where
  pub decl : DeclTree
  pub among : IsAmong (declarations defs) decl
  pub no_constructor : constructor_for defs decl.term.0 ≡ None
  pub no_extractor : extractor_for defs decl.term.0 ≡ None
  pub here : at ≡ decl.pos
