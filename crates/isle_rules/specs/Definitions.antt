-- The terms, converters and typed rules that definitions make.
use Rattle.std.specs.Prelude.{◌≤◌, ◌≡◌, ◌⊎◌, ℕ, suc, Bool, true, false, List, [], ◌∷◌, ◌++◌, map, length, filter_map, slice_get, All, Option}
use Rattle.std.specs.Prelude.{None}
use Rattle.std.specs.Prelude.{Some, is_some, if◌then◌else◌, ◌==◌, codes}
use Rattle.std.specs.List.{AllZip}
use Rattle.std.specs.Option.{option_map}
use Rattle.std.specs.Str.{bytes_eq}
use Rattle.isle_ast.specs.declared.ast.Ident.{Ident}
use Rattle.isle_ast.specs.declared.ast.Decl.{Decl as DeclTree}
use Rattle.isle_ast.specs.declared.ast.Rule.{Rule as RuleTree}
use Rattle.isle_ast.specs.declared.ast.Extractor.{Extractor as ExtractorTree}
use Rattle.isle_ast.specs.declared.ast.Converter.{Converter as ConverterTree}
use Rattle.isle_ast.specs.declared.ast.Extern.{Extern as ExternTree}
use Rattle.isle_ast.specs.declared.ast.Extern.TheVariants.{Constructor as extern_constructor, Extractor as extern_extractor}
use Rattle.isle_ast.specs.declared.ast.Extern.TheVariants.{Const as extern_const}
use Rattle.isle_ast.specs.declared.ast.Def.{Def}
use Rattle.isle_ast.specs.declared.ast.Def.TheVariants.{TypeDef, Decl, Rule, Extractor, Extern, Converter, Pragma, Kept}
use Rattle.isle_ast.specs.declared.pos.Pos.{Pos}
use Rattle.isle_ast.specs.Trees.PatternTree.{PatternTree, PatternTrees, pattern_var, pattern_bind, pattern_bool, pattern_int, pattern_prim}
use Rattle.isle_ast.specs.Trees.PatternTree.{pattern_term, pattern_wildcard, pattern_and, pattern_macro_arg, no_patterns, more_patterns}
use Rattle.isle_ast.specs.Trees.PatternShape.{pattern_of}
use Rattle.isle_ast.specs.Trees.Templates.{template_tree}
use Rattle.isle_types.specs.IntTypes.{builtin_names}
use Rattle.isle_types.specs.Names.{AreDistinct}
use Rattle.isle_types.specs.Environment.{Environment, NamedType, NamedVariant, TypeShape, primitive, enum, struct, numbers_in}
use Rattle.isle_rules.specs.TypedRules.{TypedRule}
use Rattle.isle_rules.specs.Signatures.{Flags, Constructor, by_rules, external_constructor, ExtractorForm, by_template}
use Rattle.isle_rules.specs.Signatures.{external_extractor, variant_form, struct_form, declared_form, Signature, Conversion, Declared}
use Rattle.isle_rules.specs.Elaboration.{type_named, ElaboratesRule}
use Rattle.isle_ast.specs.Trees.TreeCalls.{has_macro_arg}

-- an item occurs in a list
abbrev pub IsAmong : {X : Type 0} → List X → X → Type 0
IsAmong xs x = (place : ℕ) × (slice_get xs place ≡ Some x)

-- the host's function for a term's extractor
pub record ExternalExtractor : Type 0 where
  pub term : Ident
  pub function : Ident
  pub infallible : Bool
  pub pos : Pos

-- definitions of one kind, each in the order of the texts
abbrev pub as_declaration : Def → Option DeclTree
as_declaration (TypeDef _) = None
as_declaration (Decl decl) = Some decl
as_declaration (Rule _) = None
as_declaration (Extractor _) = None
as_declaration (Extern _) = None
as_declaration (Converter _) = None
as_declaration (Pragma _) = None
as_declaration (Kept _) = None

abbrev pub as_rule : Def → Option RuleTree
as_rule (TypeDef _) = None
as_rule (Decl _) = None
as_rule (Rule rule) = Some rule
as_rule (Extractor _) = None
as_rule (Extern _) = None
as_rule (Converter _) = None
as_rule (Pragma _) = None
as_rule (Kept _) = None

abbrev pub as_extractor : Def → Option ExtractorTree
as_extractor (TypeDef _) = None
as_extractor (Decl _) = None
as_extractor (Rule _) = None
as_extractor (Extractor extractor) = Some extractor
as_extractor (Extern _) = None
as_extractor (Converter _) = None
as_extractor (Pragma _) = None
as_extractor (Kept _) = None

abbrev pub as_external : Def → Option ExternTree
as_external (TypeDef _) = None
as_external (Decl _) = None
as_external (Rule _) = None
as_external (Extractor _) = None
as_external (Extern external) = Some external
as_external (Converter _) = None
as_external (Pragma _) = None
as_external (Kept _) = None

abbrev pub as_converter : Def → Option ConverterTree
as_converter (TypeDef _) = None
as_converter (Decl _) = None
as_converter (Rule _) = None
as_converter (Extractor _) = None
as_converter (Extern _) = None
as_converter (Converter converter) = Some converter
as_converter (Pragma _) = None
as_converter (Kept _) = None

abbrev pub as_external_constructor : ExternTree → Option (Ident × Ident)
as_external_constructor (extern_constructor term func _) = Some (term, func)
as_external_constructor (extern_extractor _ _ _ _) = None
as_external_constructor (extern_const _ _ _) = None

abbrev pub as_external_extractor : ExternTree → Option ExternalExtractor
as_external_extractor (extern_constructor _ _ _) = None
as_external_extractor (extern_extractor term func pos infallible) = Some (record { term = term; function = func; infallible = infallible; pos = pos })
as_external_extractor (extern_const _ _ _) = None

abbrev pub declarations : List Def → List DeclTree
declarations defs = filter_map as_declaration defs

abbrev pub rules_in : List Def → List RuleTree
rules_in defs = filter_map as_rule defs

abbrev pub extractors_in : List Def → List ExtractorTree
extractors_in defs = filter_map as_extractor defs

abbrev pub converters_in : List Def → List ConverterTree
converters_in defs = filter_map as_converter defs

-- each with its term and its function
abbrev pub external_constructors : List Def → List (Ident × Ident)
external_constructors defs = filter_map as_external_constructor (filter_map as_external defs)

abbrev pub external_extractors : List Def → List ExternalExtractor
external_extractors defs = filter_map as_external_extractor (filter_map as_external defs)

-- the names of declared terms, in order
abbrev pub declared_names : List Def → List (List ℕ)
declared_names defs = map (λ (decl : DeclTree). decl.term.0) (declarations defs)

-- the name of the term at the root of a pattern
abbrev pub root_name : PatternTree → Option (List ℕ)
root_name (pattern_var _ _) = None
root_name (pattern_bind _ _ _) = None
root_name (pattern_bool _ _) = None
root_name (pattern_int _ _ _) = None
root_name (pattern_prim _ _) = None
root_name (pattern_term sym _ _) = Some sym.0
root_name (pattern_wildcard _) = None
root_name (pattern_and _ _) = None
root_name (pattern_macro_arg _ _) = None

-- the names of the terms at the roots of rules, in order
abbrev pub roots_of : List RuleTree → List (List ℕ)
roots_of rules = filter_map (λ (rule : RuleTree). root_name (pattern_of rule.pattern)) rules

-- whether a name is among names
abbrev pub is_among : List ℕ → List (List ℕ) → Bool
is_among name [] = false
is_among name (first ∷ others) = if bytes_eq first name then true else is_among name others

-- the function of the first pair of a name
abbrev pub function_for : List (Ident × Ident) → List ℕ → Option (List ℕ)
function_for [] name = None
function_for (first ∷ others) name = if bytes_eq first.0.0 name then Some first.1.0 else function_for others name

-- how the declared term of a name makes its value, if it does
abbrev pub constructor_for : List Def → List ℕ → Option Constructor
constructor_for defs name =
    if is_among name (roots_of (rules_in defs)) then Some by_rules else option_map external_constructor
    (function_for (external_constructors defs) name)

-- the template of the first extractor of a name
abbrev pub template_for : List ExtractorTree → List ℕ → Option ExtractorForm
template_for [] name = None
template_for (first ∷ others) name =
    if bytes_eq first.term.0 name then Some (by_template (template_tree first.args (pattern_of first.template))) else template_for others name

-- the host's extractor of a name
abbrev pub external_extractor_for : List ExternalExtractor → List ℕ → Option ExtractorForm
external_extractor_for [] name = None
external_extractor_for (first ∷ others) name =
    if bytes_eq first.term.0 name then Some (external_extractor first.function.0 first.infallible first.pos) else external_extractor_for others name

-- the first of two that is there
abbrev pub first_of : {X : Type 0} → Option X → Option X → Option X
first_of None other = other
first_of (Some x) other = Some x

-- how the declared term of a name takes a value apart, if it does
abbrev pub extractor_for : List Def → List ℕ → Option ExtractorForm
extractor_for defs name = first_of (template_for (extractors_in defs) name) (external_extractor_for (external_extractors defs) name)

abbrev pub flags_in : DeclTree → Flags
flags_in decl = record { pure = decl.pure; multi = decl.multi; partial = decl.partial; rec = decl.rec }

-- a name is that of the type of a number
abbrev pub IsTypeNumber : Environment → Ident → ℕ → Type 0
IsTypeNumber types name number = type_named types name.0 ≡ Some number

-- the term that a declaration makes, among all definitions
pub record IsDeclaration (types : Environment) (defs : List Def) (decl : DeclTree) (term : Signature) : Type 0 where
  pub name : term.name ≡ decl.term.0
  pub args : AllZip (IsTypeNumber types) decl.arg_tys term.args
  pub ret : IsTypeNumber types decl.ret_ty term.ret
  pub form : term.form ≡ declared_form (flags_in decl) (constructor_for defs decl.term.0) (extractor_for defs decl.term.0)
  pub pos : term.pos ≡ decl.pos

-- the terms of a type's variants, from a number on
abbrev pub variant_terms : (ty : ℕ) → List ℕ → ℕ → List NamedVariant → List Signature
variant_terms ty type number [] = []
variant_terms ty type number (first ∷ others) =
    record { name = type ++ codes "." ++ first.name; args = numbers_in first.fields; ret = ty; form = variant_form number; pos = first.pos }
    ∷ variant_terms ty type (suc number) others

-- the terms of the type of a number: one for each variant, or the struct's
abbrev pub terms_of_shape : ℕ → NamedType → TypeShape → List Signature
terms_of_shape ty type (primitive _) = []
terms_of_shape ty type (enum variants) = variant_terms ty type.name 0 variants
terms_of_shape ty type (struct fields) = record { name = type.name; args = numbers_in fields; ret = ty; form = struct_form; pos = type.pos } ∷ []

-- the terms of types, whose numbers count from one on
abbrev pub terms_of_types : ℕ → List NamedType → List Signature
terms_of_types ty [] = []
terms_of_types ty (first ∷ others) = terms_of_shape ty first first.shape ++ terms_of_types (suc ty) others

abbrev pub names_of_terms : List Signature → List (List ℕ)
names_of_terms terms = map (λ (term : Signature). term.name) terms

-- the terms that definitions make: the declared ones in order, then those of the types
pub record AreTerms (types : Environment) (defs : List Def) (terms : List Signature) : Type 0 where
  pub declared : List Signature
  pub each : AllZip (IsDeclaration types defs) (declarations defs) declared
  pub all : terms ≡ declared ++ terms_of_types (length builtin_names) types.types
  pub distinct : AreDistinct (names_of_terms terms)
  pub one_answer : All (λ (decl : DeclTree). decl.multi ≡ true → decl.partial ≡ false) (declarations defs)

-- a name is that of a declared term with such flags
abbrev pub IsDeclared : List Def → Ident → (Flags → Type 0) → Type 0
IsDeclared defs name P = (decl : DeclTree) × IsAmong (declarations defs) decl × (decl.term.0 ≡ name.0) × P (flags_in decl)

-- a name is that of a term
abbrev pub IsTerm : List Signature → List ℕ → Type 0
IsTerm terms name = IsAmong (names_of_terms terms) name

-- the names of the terms in a pattern
abbrev mutual
  pub term_names : PatternTree → List (List ℕ)
  term_names (pattern_var _ _) = []
  term_names (pattern_bind _ below _) = term_names below
  term_names (pattern_bool _ _) = []
  term_names (pattern_int _ _ _) = []
  term_names (pattern_prim _ _) = []
  term_names (pattern_term sym args _) = sym.0 ∷ all_term_names args
  term_names (pattern_wildcard _) = []
  term_names (pattern_and below _) = all_term_names below
  term_names (pattern_macro_arg _ _) = []

  pub all_term_names : PatternTrees → List (List ℕ)
  all_term_names no_patterns = []
  all_term_names (more_patterns first others) = term_names first ++ all_term_names others

-- a term with an internal extractor comes to a term through bodies
pub data ComesTo (extractors : List ExtractorTree) : List ℕ → List ℕ → Type 0 where
  at_once : (extractor : ExtractorTree) (name : List ℕ) → IsAmong extractors extractor
      → IsAmong (term_names (pattern_of extractor.template)) name → ComesTo extractors extractor.term.0 name
  further : (first middle last : List ℕ) → ComesTo extractors first middle → ComesTo extractors middle last → ComesTo extractors first last

-- the names of terms that are given an extractor, once for each definition
abbrev pub extractor_names : List Def → List (List ℕ)
extractor_names defs =
    map (λ (extractor : ExtractorTree). extractor.term.0) (extractors_in defs)
    ++ map (λ (external : ExternalExtractor). external.term.0) (external_extractors defs)

-- the names of terms that are given an external constructor
abbrev pub external_constructor_names : List Def → List (List ℕ)
external_constructor_names defs = map (λ (external : Ident × Ident). external.0.0) (external_constructors defs)

-- definitions keep the rules of extractors
pub record KeepExtractorRules (defs : List Def) (terms : List Signature) : Type 0 where
  pub internal : All (λ (extractor : ExtractorTree). IsDeclared defs extractor.term (λ flags. flags.multi ≡ false)) (extractors_in defs)
  pub external : All (λ (external : ExternalExtractor). IsDeclared defs external.term (λ _. Unit {0})) (external_extractors defs)
  pub once : AreDistinct (extractor_names defs)
  pub known : All (λ (extractor : ExtractorTree). All (IsTerm terms) (term_names (pattern_of extractor.template))) (extractors_in defs)
  pub acyclic : (name : List ℕ) → ComesTo (extractors_in defs) name name → ⊥

-- definitions keep the rules of external constructors
pub record KeepConstructorRules (defs : List Def) : Type 0 where
  pub declared : All (λ (external : Ident × Ident). IsDeclared defs external.0 (λ _. Unit {0})) (external_constructors defs)
  pub once : AreDistinct (external_constructor_names defs)
  pub unruled : (name : List ℕ) → IsAmong (external_constructor_names defs) name → IsAmong (roots_of (rules_in defs)) name → ⊥

-- the conversion that a definition makes
pub record IsConversion (types : Environment) (terms : List Signature) (tree : ConverterTree) (conversion : Conversion) : Type 0 where
  pub inner : IsTypeNumber types tree.inner_ty conversion.inner
  pub outer : IsTypeNumber types tree.outer_ty conversion.outer
  pub term : conversion.term ≡ tree.term.0
  pub known : IsTerm terms tree.term.0

-- a conversion's pair of types
abbrev pub pair_of : Conversion → ℕ × ℕ
pair_of conversion = (conversion.inner, conversion.outer)

-- the conversions that definitions make, one at most for each pair of types
pub record AreConversions (types : Environment) (defs : List Def) (terms : List Signature) (conversions : List Conversion) : Type 0 where
  pub each : AllZip (IsConversion types terms) (converters_in defs) conversions
  pub once : AreDistinct (map pair_of conversions)

-- a declared term can be used: it has a constructor or an extractor
abbrev pub IsDefined : List Def → DeclTree → Type 0
IsDefined defs decl = (is_some (constructor_for defs decl.term.0) ≡ true) ⊎ (is_some (extractor_for defs decl.term.0) ≡ true)

-- how many of some names are a name
abbrev pub times : List ℕ → List (List ℕ) → ℕ
times name [] = 0
times name (first ∷ others) = if bytes_eq first name then suc (times name others) else times name others

-- the name of a rule: that which is written, or its term's where it is its only rule
abbrev pub name_of_rule : List Def → Option (List ℕ) → Option Ident → Option (List ℕ)
name_of_rule defs root (Some name) = Some name.0
name_of_rule defs None None = None
name_of_rule defs (Some root) None = if times root (roots_of (rules_in defs)) == 1 then Some root else None

-- the name of a rule among all definitions
abbrev pub name_of : List Def → RuleTree → Option (List ℕ)
name_of defs tree = name_of_rule defs (root_name (pattern_of tree.pattern)) tree.name

-- the typed rule of a rule among all definitions
pub record IsRuleOf (declared : Declared) (defs : List Def) (levels max : ℕ) (tree : RuleTree) (rule : TypedRule) : Type 0 where
  pub written : TypedRule
  pub typed : ElaboratesRule declared levels max tree written
  pub same : rule ≡ record written { name = name_of defs tree }

-- the terms, conversions and typed rules that definitions make; a rule's number is its place
pub record TermEnvironment : Type 0 where
  pub terms : List Signature
  pub conversions : List Conversion
  pub rules : List TypedRule

-- what rules are read under
abbrev pub declared_by : Environment → Bool → TermEnvironment → Declared
declared_by types expands environment = record { types = types; terms = environment.terms; conversions = environment.conversions; expands = expands }

-- the names of rules that have one
abbrev pub rule_names : List TypedRule → List (List ℕ)
rule_names rules = filter_map (λ (rule : TypedRule). rule.name) rules

-- whether a rule has a name
abbrev pub is_name : Option (List ℕ) → List ℕ → Bool
is_name None name = false
is_name (Some own) name = bytes_eq own name

-- the number of the first rule of a name, where the numbers count from one on
abbrev pub rule_named : ℕ → List TypedRule → List ℕ → Option ℕ
rule_named number [] name = None
rule_named number (first ∷ others) name = if is_name first.name name then Some number else rule_named (suc number) others name

-- definitions keep the rules of terms and rules, within so many levels and nodes for each rule, and make this environment
pub record MakesTerms (types : Environment) (expands : Bool) (levels max : ℕ) (defs : List Def) (environment : TermEnvironment) : Type 0 where
  pub terms : AreTerms types defs environment.terms
  pub within : All (λ (decl : DeclTree). length decl.arg_tys ≤ 255) (declarations defs)
  pub constructors : KeepConstructorRules defs
  pub extractors : KeepExtractorRules defs environment.terms
  pub conversions : AreConversions types defs environment.terms environment.conversions
  pub defined : All (IsDefined defs) (declarations defs)
  pub rules : AllZip (IsRuleOf (declared_by types expands environment) defs levels max) (rules_in defs) environment.rules
  pub names : AreDistinct (rule_names environment.rules)

-- definitions make an environment of terms within so many levels and nodes for each rule
abbrev pub HaveTerms : Environment → Bool → (levels max : ℕ) → List Def → Type 0
HaveTerms types expands levels max defs = (environment : TermEnvironment) × MakesTerms types expands levels max defs environment

-- no body of an extractor has an argument of a template in it
abbrev pub HasPlainTemplates : List ExtractorTree → Type 0
HasPlainTemplates extractors = All (λ (extractor : ExtractorTree). has_macro_arg (pattern_of extractor.template) ≡ false) extractors
