-- The definitions of terms and rules by kind, and the tables of the names that they give.
use Rattle.std.specs.Prelude.{◌≡◌, ℕ, true, false, List, Some, map, All}
use Rattle.isle_ast.specs.declared.ast.Decl.{Decl as DeclTree}
use Rattle.isle_ast.specs.declared.ast.Rule.{Rule as RuleTree}
use Rattle.isle_ast.specs.declared.ast.Def.{Def}
use Rattle.isle_ast.specs.Trees.PatternShape.{pattern_of}
use Rattle.isle_types.specs.Names.{AreDistinct}
use Rattle.isle_terms.specs.declared.env.parts.Parts.{Parts}
use Rattle.isle_terms.specs.declared.env.names.Names.{Names}
use Rattle.isle_rules.specs.Definitions.{IsAmong, declarations, rules_in, extractors_in, converters_in, external_constructors}
use Rattle.isle_rules.specs.Definitions.{external_extractors, declared_names, root_name, roots_of, extractor_names, external_constructor_names}
use Rattle.isle_rules.specs.Definitions.{KeepConstructorRules}
use Rattle.isle_terms.specs.Inside.Collecting.DefinitionLists.{host_constructor_shown, host_extractor_shown}
use Rattle.isle_terms.specs.Inside.Collecting.NameTables.{IsTableOf}

-- parts are the definitions of each kind, in order
pub record ArePartsOf (defs : List Def) (parts : Parts) : Type 0 where
  pub decls : map (λ decl. decl.now) parts.decls.items ≡ declarations defs
  pub rules : map (λ rule. rule.now) parts.rules.items ≡ rules_in defs
  pub extractors : map (λ extractor. extractor.now) parts.extractors.items ≡ extractors_in defs
  pub converters : map (λ converter. converter.now) parts.converters.items ≡ converters_in defs
  pub host_constructors : map host_constructor_shown parts.host_constructors.items ≡ external_constructors defs
  pub host_extractors : map host_extractor_shown parts.host_extractors.items ≡ external_extractors defs

-- tables are those of the names that definitions give
pub record AreNamesOf (defs : List Def) (names : Names) : Type 0 where
  pub declared : IsTableOf (declared_names defs) names.declared
  pub roots : IsTableOf (roots_of (rules_in defs)) names.roots
  pub host_constructors : IsTableOf (external_constructor_names defs) names.host_constructors
  pub extractors : IsTableOf (extractor_names defs) names.extractors

-- the root of a rule is one of some names
abbrev pub HasRootAmong : List (List ℕ) → RuleTree → Type 0
HasRootAmong names rule = (name : List ℕ) × (root_name (pattern_of rule.pattern) ≡ Some name) × IsAmong names name

-- each of the names of declared terms, and of external constructors, is given once
pub record AreNamedOnce (defs : List Def) : Type 0 where
  pub declared : AreDistinct (declared_names defs)
  pub host_constructors : AreDistinct (external_constructor_names defs)

-- definitions keep what can be told of them before their terms are made: marks, roots of rules and external constructors
pub record KeepFirstRules (defs : List Def) : Type 0 where
  pub marks : All (λ (decl : DeclTree). decl.multi ≡ true → decl.partial ≡ false) (declarations defs)
  pub roots : All (HasRootAmong (declared_names defs)) (rules_in defs)
  pub constructors : KeepConstructorRules defs
