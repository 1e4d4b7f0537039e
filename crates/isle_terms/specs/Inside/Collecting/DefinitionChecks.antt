-- What is checked of definitions one by one, where the names of declared terms and others are known.
use Rattle.std.specs.Prelude.{ℕ, Bool, true, false, not, List, Option, None, Some, is_some, unwrap_or, slice_get, ◌&&◌, ◌||◌}
use Rattle.std.specs.Option.{option_map}
use Rattle.isle_ast.specs.declared.ast.Ident.{Ident}
use Rattle.isle_ast.specs.declared.ast.Rule.{Rule as RuleTree}
use Rattle.isle_ast.specs.declared.ast.Decl.{Decl as DeclTree}
use Rattle.isle_ast.specs.declared.ast.Extractor.{Extractor as ExtractorTree}
use Rattle.isle_ast.specs.Trees.PatternShape.{pattern_of}
use Rattle.isle_types.specs.Names.{position_of}
use Rattle.isle_rules.specs.Definitions.{root_name, ExternalExtractor}

-- whether a name is among names
abbrev pub is_named : List (List ℕ) → List ℕ → Bool
is_named names name = is_some (position_of names name)

-- whether a root is none, or not among declared names
abbrev pub is_unknown_root : List (List ℕ) → Option (List ℕ) → Bool
is_unknown_root names None = true
is_unknown_root names (Some name) = not (is_named names name)

-- whether the root of a rule is no declared term
abbrev pub is_ill_root : List (List ℕ) → RuleTree → Bool
is_ill_root names rule = is_unknown_root names (root_name (pattern_of rule.pattern))

-- whether an external constructor is of no declared term, or of one with rules
abbrev pub is_ill_host : (names ruled : List (List ℕ)) → Ident × Ident → Bool
is_ill_host names ruled host = not (is_named names host.0.0) || is_named ruled host.0.0

-- whether the declaration at a place is `multi`; there is none at no place
abbrev pub is_multi_at : List DeclTree → Option ℕ → Bool
is_multi_at decls None = true
is_multi_at decls (Some place) = unwrap_or (option_map (λ (decl : DeclTree). decl.multi) (slice_get decls place)) false

-- whether an internal extractor is of no declared term, or of a `multi` one
abbrev pub is_ill_extractor : List (List ℕ) → List DeclTree → ExtractorTree → Bool
is_ill_extractor names decls extractor = is_multi_at decls (position_of names extractor.term.0)

-- whether an external extractor is of no declared term
abbrev pub is_ill_name : List (List ℕ) → ExternalExtractor → Bool
is_ill_name names external = not (is_named names external.term.0)

-- whether a declared term has neither rules, nor an external constructor, nor an extractor
abbrev pub is_unused : (ruled hosted extracted : List (List ℕ)) → DeclTree → Bool
is_unused ruled hosted extracted decl =
    not (is_named ruled decl.term.0) && (not (is_named hosted decl.term.0) && not (is_named extracted decl.term.0))

-- whether a declaration is `multi` and `partial`
abbrev pub is_ill_marked : DeclTree → Bool
is_ill_marked decl = decl.multi && decl.partial
