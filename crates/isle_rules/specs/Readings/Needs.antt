-- How many arguments a use of a term must give so that its template can be put in.
use Rattle.std.specs.Prelude.{ℕ, suc, max, Option, None, Some}
use Rattle.isle_ast.specs.Trees.PatternTree.{PatternTree, PatternTrees, pattern_var, pattern_bind, pattern_bool, pattern_int, pattern_prim}
use Rattle.isle_ast.specs.Trees.PatternTree.{pattern_term, pattern_wildcard, pattern_and, pattern_macro_arg, no_patterns, more_patterns}
use Rattle.isle_ast.specs.Trees.PatternShape.{pattern_of}
use Rattle.isle_rules.specs.declared.terms.Term.{Term}
use Rattle.isle_rules.specs.declared.terms.ExtractorKind.{ExtractorKind}
use Rattle.isle_rules.specs.declared.terms.ExtractorKind.TheVariants.{InternalExtractor, ExternalExtractor}
use Rattle.isle_rules.specs.declared.terms.TermKind.{TermKind}
use Rattle.isle_rules.specs.declared.terms.TermKind.TheVariants.{EnumVariant, Struct, Decl}

-- one more than the greatest number of an argument in a template, or 0
abbrev mutual
  pub needed : PatternTree → ℕ
  needed (pattern_var _ _) = 0
  needed (pattern_bind _ below _) = needed below
  needed (pattern_bool _ _) = 0
  needed (pattern_int _ _ _) = 0
  needed (pattern_prim _ _) = 0
  needed (pattern_term _ args _) = all_needed args
  needed (pattern_wildcard _) = 0
  needed (pattern_and below _) = all_needed below
  needed (pattern_macro_arg k _) = suc k

  pub all_needed : PatternTrees → ℕ
  all_needed no_patterns = 0
  all_needed (more_patterns first others) = max (needed first) (all_needed others)

-- what an extractor needs
abbrev pub needed_by_extractor : Option ExtractorKind → ℕ
needed_by_extractor None = 0
needed_by_extractor (Some (InternalExtractor template)) = needed (pattern_of template)
needed_by_extractor (Some (ExternalExtractor name infallible pos)) = 0

-- what a term needs
abbrev pub needed_by : TermKind → ℕ
needed_by (EnumVariant variant) = 0
needed_by Struct = 0
needed_by (Decl flags constructor_kind extractor_kind) = needed_by_extractor extractor_kind

-- what the use of a term needs
abbrev pub needed_of : Term → ℕ
needed_of term = needed_by term.kind
