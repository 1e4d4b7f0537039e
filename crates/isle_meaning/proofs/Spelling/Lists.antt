-- Definitions of one kind without positions, and what is said of names.
use Rattle.std.proofs.Common.{◌≡◌, ℕ, suc, ◌+◌, List, [], ◌∷◌, ◌++◌, map, Bool, true, false, Option, None, Some, codes, refl, ◌∙◌, ap}
use Rattle.std.specs.Prelude.{if◌then◌else◌, ◌==◌}
use Rattle.std.specs.List.{filter_map}
use Rattle.std.specs.Option.{option_map}
use Rattle.std.specs.Str.{bytes_eq}
use Rattle.isle_ast.specs.declared.ast.Ident.{Ident}
use Rattle.isle_ast.specs.declared.ast.Rule.{Rule as RuleTree}
use Rattle.isle_ast.specs.declared.ast.Extractor.{Extractor as ExtractorTree}
use Rattle.isle_ast.specs.declared.ast.Extern.{Extern as ExternTree}
use Rattle.isle_ast.specs.declared.ast.Extern.TheVariants.{Constructor as extern_constructor, Extractor as extern_extractor}
use Rattle.isle_ast.specs.declared.ast.Extern.TheVariants.{Const as extern_const}
use Rattle.isle_ast.specs.declared.ast.Def.{Def}
use Rattle.isle_ast.specs.declared.ast.Def.TheVariants.{TypeDef, Decl, Rule, Extractor, Extern, Converter, Pragma, Kept}
use Rattle.isle_ast.specs.declared.pos.Pos.{Pos}
use Rattle.isle_ast.specs.Trees.PatternTree.{PatternTree, PatternTrees, pattern_var, pattern_bind, pattern_bool, pattern_int, pattern_prim}
use Rattle.isle_ast.specs.Trees.PatternTree.{pattern_term, pattern_wildcard, pattern_and, pattern_macro_arg, no_patterns, more_patterns}
use Rattle.isle_ast.specs.Trees.PatternShape.{pattern_of}
use Rattle.isle_ast.specs.Trees.Templates.{position_of_name, is_wildcard, argument_for, template_tree, template_trees}
use Rattle.isle_ast.specs.Trees.WithoutPos.{no_pos, ident_without_pos, pattern_tree_without_pos, pattern_trees_without_pos}
use Rattle.isle_ast.specs.Trees.WithoutPos.{decl_without_pos, rule_without_pos, extractor_without_pos, extern_without_pos, converter_without_pos}
use Rattle.isle_ast.specs.Trees.WithoutPos.{def_without_pos}
use Rattle.isle_types.specs.Environment.{NamedType, NamedVariant, TypeShape, primitive, enum, struct, numbers_in}
use Rattle.isle_rules.specs.Signatures.{by_rules, external_constructor, ExtractorForm, by_template, external_extractor, variant_form}
use Rattle.isle_rules.specs.Definitions.{ExternalExtractor, as_declaration, as_rule, as_extractor, as_external, as_converter}
use Rattle.isle_rules.specs.Definitions.{as_external_constructor, as_external_extractor, declarations, rules_in, extractors_in, converters_in}
use Rattle.isle_rules.specs.Definitions.{external_constructors, external_extractors, root_name, roots_of, is_among, function_for, constructor_for}
use Rattle.isle_rules.specs.Definitions.{template_for, external_extractor_for, first_of, extractor_for, variant_terms, terms_of_shape}
use Rattle.isle_rules.specs.Definitions.{terms_of_types, term_names, all_term_names, extractor_names, external_constructor_names, times}
use Rattle.isle_rules.specs.Definitions.{name_of_rule, name_of}
use Rattle.isle_meaning.proofs.Spelling.Bare.{bare_variant, bare_shape, bare_type, bare_extractor, bare_term, pattern_bare}
use Rattle.isle_meaning.proofs.Spelling.Types.{bare_pair}
use Rattle.isle_meaning.proofs.Spelling.Zips.{filter_mapped, filter_same, map_same}

abbrev pub bare_external : ExternalExtractor → ExternalExtractor
bare_external external = record {
  term = ident_without_pos external.term;
  function = ident_without_pos external.function;
  infallible = external.infallible;
  pos = no_pos;
}

-- the kinds of definitions
declaration_of_def : (def : Def) → as_declaration (def_without_pos def) ≡ option_map decl_without_pos (as_declaration def)
declaration_of_def (TypeDef type) = refl
declaration_of_def (Decl decl) = refl
declaration_of_def (Rule rule) = refl
declaration_of_def (Extractor extractor) = refl
declaration_of_def (Extern external) = refl
declaration_of_def (Converter converter) = refl
declaration_of_def (Pragma pragma) = refl
declaration_of_def (Kept kept) = refl

rule_of_def : (def : Def) → as_rule (def_without_pos def) ≡ option_map rule_without_pos (as_rule def)
rule_of_def (TypeDef type) = refl
rule_of_def (Decl decl) = refl
rule_of_def (Rule rule) = refl
rule_of_def (Extractor extractor) = refl
rule_of_def (Extern external) = refl
rule_of_def (Converter converter) = refl
rule_of_def (Pragma pragma) = refl
rule_of_def (Kept kept) = refl

extractor_of_def : (def : Def) → as_extractor (def_without_pos def) ≡ option_map extractor_without_pos (as_extractor def)
extractor_of_def (TypeDef type) = refl
extractor_of_def (Decl decl) = refl
extractor_of_def (Rule rule) = refl
extractor_of_def (Extractor extractor) = refl
extractor_of_def (Extern external) = refl
extractor_of_def (Converter converter) = refl
extractor_of_def (Pragma pragma) = refl
extractor_of_def (Kept kept) = refl

external_of_def : (def : Def) → as_external (def_without_pos def) ≡ option_map extern_without_pos (as_external def)
external_of_def (TypeDef type) = refl
external_of_def (Decl decl) = refl
external_of_def (Rule rule) = refl
external_of_def (Extractor extractor) = refl
external_of_def (Extern external) = refl
external_of_def (Converter converter) = refl
external_of_def (Pragma pragma) = refl
external_of_def (Kept kept) = refl

converter_of_def : (def : Def) → as_converter (def_without_pos def) ≡ option_map converter_without_pos (as_converter def)
converter_of_def (TypeDef type) = refl
converter_of_def (Decl decl) = refl
converter_of_def (Rule rule) = refl
converter_of_def (Extractor extractor) = refl
converter_of_def (Extern external) = refl
converter_of_def (Converter converter) = refl
converter_of_def (Pragma pragma) = refl
converter_of_def (Kept kept) = refl

constructor_of_external : (external : ExternTree)
    → as_external_constructor (extern_without_pos external) ≡ option_map bare_pair (as_external_constructor external)
constructor_of_external (extern_constructor term func _) = refl
constructor_of_external (extern_extractor term func _ infallible) = refl
constructor_of_external (extern_const name ty _) = refl

extractor_of_external : (external : ExternTree)
    → as_external_extractor (extern_without_pos external) ≡ option_map bare_external (as_external_extractor external)
extractor_of_external (extern_constructor term func _) = refl
extractor_of_external (extern_extractor term func _ infallible) = refl
extractor_of_external (extern_const name ty _) = refl

-- lists of definitions
pub declarations_bare : (defs : List Def) → declarations (map def_without_pos defs) ≡ map decl_without_pos (declarations defs)
declarations_bare defs = filter_mapped def_without_pos as_declaration as_declaration decl_without_pos declaration_of_def defs

pub rules_bare : (defs : List Def) → rules_in (map def_without_pos defs) ≡ map rule_without_pos (rules_in defs)
rules_bare defs = filter_mapped def_without_pos as_rule as_rule rule_without_pos rule_of_def defs

pub extractors_bare : (defs : List Def) → extractors_in (map def_without_pos defs) ≡ map extractor_without_pos (extractors_in defs)
extractors_bare defs = filter_mapped def_without_pos as_extractor as_extractor extractor_without_pos extractor_of_def defs

pub converters_bare : (defs : List Def) → converters_in (map def_without_pos defs) ≡ map converter_without_pos (converters_in defs)
converters_bare defs = filter_mapped def_without_pos as_converter as_converter converter_without_pos converter_of_def defs

externals_bare : (defs : List Def) → filter_map as_external (map def_without_pos defs) ≡ map extern_without_pos (filter_map as_external defs)
externals_bare defs = filter_mapped def_without_pos as_external as_external extern_without_pos external_of_def defs

pub external_constructors_bare : (defs : List Def) → external_constructors (map def_without_pos defs) ≡ map bare_pair (external_constructors defs)
external_constructors_bare defs =
    ap (filter_map as_external_constructor) (externals_bare defs)
    ∙ filter_mapped extern_without_pos as_external_constructor as_external_constructor bare_pair constructor_of_external
    (filter_map as_external defs)

pub external_extractors_bare : (defs : List Def) → external_extractors (map def_without_pos defs) ≡ map bare_external (external_extractors defs)
external_extractors_bare defs =
    ap (filter_map as_external_extractor) (externals_bare defs)
    ∙ filter_mapped extern_without_pos as_external_extractor as_external_extractor bare_external extractor_of_external
    (filter_map as_external defs)

-- roots of rules
pub root_bare : (t : PatternTree) → root_name (pattern_tree_without_pos t) ≡ root_name t
root_bare (pattern_var x p) = refl
root_bare (pattern_bind x below p) = refl
root_bare (pattern_bool val p) = refl
root_bare (pattern_int val big p) = refl
root_bare (pattern_prim x p) = refl
root_bare (pattern_term x below p) = refl
root_bare (pattern_wildcard p) = refl
root_bare (pattern_and below p) = refl
root_bare (pattern_macro_arg k p) = refl

pub roots_bare : (defs : List Def) → roots_of (rules_in (map def_without_pos defs)) ≡ roots_of (rules_in defs)
roots_bare defs =
    ap roots_of (rules_bare defs)
    ∙ filter_same rule_without_pos (λ (rule : RuleTree). root_name (pattern_of rule.pattern))
    (λ rule. ap root_name (pattern_bare rule.pattern) ∙ root_bare (pattern_of rule.pattern)) (rules_in defs)

-- how a term makes its value
function_bare : (pairs : List (Ident × Ident)) (name : List ℕ) → function_for (map bare_pair pairs) name ≡ function_for pairs name
function_bare [] name = refl
function_bare (first ∷ others) name =
    ap (λ (o : Option (List ℕ)). if bytes_eq first.0.0 name then Some first.1.0 else o) (function_bare others name)

pub constructor_bare : (defs : List Def) (name : List ℕ) → constructor_for (map def_without_pos defs) name ≡ constructor_for defs name
constructor_bare defs name =
    let roots = roots_bare defs in
    let function = ap (λ (l : List (Ident × Ident)). function_for l name) (external_constructors_bare defs)
    ∙ function_bare (external_constructors defs) name in
    (λ i. if is_among name (roots i) then Some by_rules else option_map external_constructor (function i))

-- templates
position_bare : (names : List Ident) (text : List ℕ) → position_of_name (map ident_without_pos names) text ≡ position_of_name names text
position_bare [] text = refl
position_bare (name ∷ names) text =
    ap (λ (o : Option ℕ). if bytes_eq name.0 text then Some 0 else option_map (λ k. k + 1) o) (position_bare names text)

wildcard_bare : (t : PatternTree) → is_wildcard (pattern_tree_without_pos t) ≡ is_wildcard t
wildcard_bare (pattern_var x p) = refl
wildcard_bare (pattern_bind x below p) = refl
wildcard_bare (pattern_bool val p) = refl
wildcard_bare (pattern_int val big p) = refl
wildcard_bare (pattern_prim x p) = refl
wildcard_bare (pattern_term x below p) = refl
wildcard_bare (pattern_wildcard p) = refl
wildcard_bare (pattern_and below p) = refl
wildcard_bare (pattern_macro_arg k p) = refl

argument_bare : (o : Option ℕ) (pos : Pos) (other : PatternTree)
    → argument_for o no_pos (pattern_tree_without_pos other) ≡ pattern_tree_without_pos (argument_for o pos other)
argument_bare None pos other = refl
argument_bare (Some k) pos other = refl

either_bare : (b : Bool) (t u t' u' : PatternTree) → t ≡ pattern_tree_without_pos t' → u ≡ pattern_tree_without_pos u'
    → (if b then t else u) ≡ pattern_tree_without_pos (if b then t' else u')
either_bare true t u t' u' e f = e
either_bare false t u t' u' e f = f

mutual
  template_bare : (names : List Ident) (t : PatternTree)
      → template_tree (map ident_without_pos names) (pattern_tree_without_pos t) ≡ pattern_tree_without_pos (template_tree names t)
  template_bare names (pattern_var name pos) =
      ap (λ (o : Option ℕ). argument_for o no_pos (pattern_var (ident_without_pos name) no_pos)) (position_bare names name.0)
      ∙ argument_bare (position_of_name names name.0) pos (pattern_var name pos)
  template_bare names (pattern_bind name below pos) =
      ap (λ (b : Bool). if b then argument_for (position_of_name (map ident_without_pos names) name.0) no_pos
      (pattern_bind (ident_without_pos name) (pattern_tree_without_pos below) no_pos)
      else pattern_bind (ident_without_pos name) (template_tree (map ident_without_pos names) (pattern_tree_without_pos below)) no_pos)
      (wildcard_bare below)
      ∙ either_bare (is_wildcard below) _ _ (argument_for (position_of_name names name.0) pos (pattern_bind name below pos))
      (pattern_bind name (template_tree names below) pos)
      (ap (λ (o : Option ℕ). argument_for o no_pos (pattern_bind (ident_without_pos name) (pattern_tree_without_pos below) no_pos))
      (position_bare names name.0) ∙ argument_bare (position_of_name names name.0) pos (pattern_bind name below pos))
      (ap (λ (t : PatternTree). pattern_bind (ident_without_pos name) t no_pos) (template_bare names below))
  template_bare names (pattern_bool val pos) = refl
  template_bare names (pattern_int val big pos) = refl
  template_bare names (pattern_prim name pos) = refl
  template_bare names (pattern_term term args pos) =
      ap (λ (ts : PatternTrees). pattern_term (ident_without_pos term) ts no_pos) (templates_bare names args)
  template_bare names (pattern_wildcard pos) = refl
  template_bare names (pattern_and below pos) = ap (λ (ts : PatternTrees). pattern_and ts no_pos) (templates_bare names below)
  template_bare names (pattern_macro_arg k pos) = refl

  templates_bare : (names : List Ident) (ts : PatternTrees)
      → template_trees (map ident_without_pos names) (pattern_trees_without_pos ts) ≡ pattern_trees_without_pos (template_trees names ts)
  templates_bare names no_patterns = refl
  templates_bare names (more_patterns t ts) = (λ i. more_patterns (template_bare names t i) (templates_bare names ts i))

-- how a term takes values apart
if_mapped : (b : Bool) (x : ExtractorForm) (y : ExtractorForm) (o p : Option ExtractorForm) → x ≡ bare_extractor y → p ≡ option_map bare_extractor o
    → (if b then Some x else p) ≡ option_map bare_extractor (if b then Some y else o)
if_mapped true x y o p e f = ap Some e
if_mapped false x y o p e f = f

template_for_bare : (extractors : List ExtractorTree) (name : List ℕ)
    → template_for (map extractor_without_pos extractors) name ≡ option_map bare_extractor (template_for extractors name)
template_for_bare [] name = refl
template_for_bare (first ∷ others) name =
    if_mapped (bytes_eq first.term.0 name) _ (by_template (template_tree first.args (pattern_of first.template))) (template_for others name) _
    (ap by_template (ap (template_tree (map ident_without_pos first.args)) (pattern_bare first.template)
    ∙ template_bare first.args (pattern_of first.template)))
    (template_for_bare others name)

external_for_bare : (externals : List ExternalExtractor) (name : List ℕ)
    → external_extractor_for (map bare_external externals) name ≡ option_map bare_extractor (external_extractor_for externals name)
external_for_bare [] name = refl
external_for_bare (first ∷ others) name =
    if_mapped (bytes_eq first.term.0 name) _ (external_extractor first.function.0 first.infallible first.pos) (external_extractor_for others name) _
    refl (external_for_bare others name)

first_mapped : (o p : Option ExtractorForm)
    → first_of (option_map bare_extractor o) (option_map bare_extractor p) ≡ option_map bare_extractor (first_of o p)
first_mapped None p = refl
first_mapped (Some x) p = refl

pub extractor_bare : (defs : List Def) (name : List ℕ)
    → extractor_for (map def_without_pos defs) name ≡ option_map bare_extractor (extractor_for defs name)
extractor_bare defs name =
    let one = ap (λ (l : List ExtractorTree). template_for l name) (extractors_bare defs) ∙ template_for_bare (extractors_in defs) name in
    let other = ap (λ (l : List ExternalExtractor). external_extractor_for l name) (external_extractors_bare defs)
    ∙ external_for_bare (external_extractors defs) name in
    let both : extractor_for (map def_without_pos defs) name
    ≡ first_of (option_map bare_extractor (template_for (extractors_in defs) name))
    (option_map bare_extractor (external_extractor_for (external_extractors defs) name)) = (λ i. first_of (one i) (other i)) in
    both ∙ first_mapped (template_for (extractors_in defs) name) (external_extractor_for (external_extractors defs) name)

-- terms of types
variant_terms_bare : (ty : ℕ) (type : List ℕ) (number : ℕ) (variants : List NamedVariant)
    → variant_terms ty type number (map bare_variant variants) ≡ map bare_term (variant_terms ty type number variants)
variant_terms_bare ty type number [] = refl
variant_terms_bare ty type number (first ∷ others) =
    (λ i. bare_term (record {
      name = type ++ codes "." ++ first.name;
      args = numbers_in first.fields;
      ret =
          ty;
      form = variant_form number;
      pos = first.pos;
    })
    ∷ variant_terms_bare ty type (suc number) others i)

shape_terms_bare : (ty : ℕ) (type : NamedType) (shape : TypeShape)
    → terms_of_shape ty (bare_type type) (bare_shape shape) ≡ map bare_term (terms_of_shape ty type shape)
shape_terms_bare ty type (primitive host) = refl
shape_terms_bare ty type (enum variants) = variant_terms_bare ty type.name 0 variants
shape_terms_bare ty type (struct members) = refl

pub map_joined : {X Y : Type 0} (f : X → Y) (xs ys : List X) → map f xs ++ map f ys ≡ map f (xs ++ ys)
map_joined f [] ys = refl
map_joined f (x ∷ xs) ys = (λ i. f x ∷ map_joined f xs ys i)

pub type_terms_bare : (ty : ℕ) (types : List NamedType) → terms_of_types ty (map bare_type types) ≡ map bare_term (terms_of_types ty types)
type_terms_bare ty [] = refl
type_terms_bare ty (first ∷ others) =
    let one = shape_terms_bare ty first first.shape in
    let rest = type_terms_bare (suc ty) others in
    let both : terms_of_types ty (map bare_type (first ∷ others))
    ≡ map bare_term (terms_of_shape ty first first.shape) ++ map bare_term (terms_of_types (suc ty) others) = (λ i. one i ++ rest i) in
    both ∙ map_joined bare_term (terms_of_shape ty first first.shape) (terms_of_types (suc ty) others)

-- names in patterns
mutual
  pub pattern_names_bare : (t : PatternTree) → term_names (pattern_tree_without_pos t) ≡ term_names t
  pattern_names_bare (pattern_var x p) = refl
  pattern_names_bare (pattern_bind x below p) = pattern_names_bare below
  pattern_names_bare (pattern_bool val p) = refl
  pattern_names_bare (pattern_int val big p) = refl
  pattern_names_bare (pattern_prim x p) = refl
  pattern_names_bare (pattern_term x below p) = ap (λ (l : List (List ℕ)). x.0 ∷ l) (patterns_names_bare below)
  pattern_names_bare (pattern_wildcard p) = refl
  pattern_names_bare (pattern_and below p) = patterns_names_bare below
  pattern_names_bare (pattern_macro_arg k p) = refl

  patterns_names_bare : (ts : PatternTrees) → all_term_names (pattern_trees_without_pos ts) ≡ all_term_names ts
  patterns_names_bare no_patterns = refl
  patterns_names_bare (more_patterns t ts) = (λ i. pattern_names_bare t i ++ patterns_names_bare ts i)

-- names of what is given extractors and constructors
pub extractor_names_bare : (defs : List Def) → extractor_names (map def_without_pos defs) ≡ extractor_names defs
extractor_names_bare defs =
    let one = ap (map (λ (extractor : ExtractorTree). extractor.term.0)) (extractors_bare defs)
    ∙ map_same extractor_without_pos (λ (extractor : ExtractorTree). extractor.term.0) (λ (extractor : ExtractorTree). extractor.term.0)
    (λ e. refl) (extractors_in defs) in
    let other = ap (map (λ (external : ExternalExtractor). external.term.0)) (external_extractors_bare defs)
    ∙ map_same bare_external (λ (external : ExternalExtractor). external.term.0) (λ (external : ExternalExtractor). external.term.0)
    (λ e. refl) (external_extractors defs) in
    (λ i. one i ++ other i)

pub constructor_names_bare : (defs : List Def) → external_constructor_names (map def_without_pos defs) ≡ external_constructor_names defs
constructor_names_bare defs =
    ap (map (λ (external : Ident × Ident). external.0.0)) (external_constructors_bare defs)
    ∙ map_same bare_pair (λ (external : Ident × Ident). external.0.0) (λ (external : Ident × Ident). external.0.0) (λ e. refl)
    (external_constructors defs)

-- the name of a rule
by_name_bare : (defs : List Def) (root : Option (List ℕ)) (name : Option Ident)
    → name_of_rule (map def_without_pos defs) root (option_map ident_without_pos name) ≡ name_of_rule defs root name
by_name_bare defs root (Some name) = refl
by_name_bare defs None None = refl
by_name_bare defs (Some root) None =
    ap (λ (l : List (List ℕ)). if times root l == 1 then Some root else None) (roots_bare defs)

pub name_of_bare : (defs : List Def) (tree : RuleTree) → name_of (map def_without_pos defs) (rule_without_pos tree) ≡ name_of defs tree
name_of_bare defs tree =
    ap (λ (root : Option (List ℕ)). name_of_rule (map def_without_pos defs) root (option_map ident_without_pos tree.name))
    (ap root_name (pattern_bare tree.pattern) ∙ root_bare (pattern_of tree.pattern))
    ∙ by_name_bare defs (root_name (pattern_of tree.pattern)) tree.name
