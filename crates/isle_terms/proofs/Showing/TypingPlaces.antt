-- Where definitions and types stand, the faults of typing do.
use Rattle.std.proofs.Common.{◌≡◌, ℕ, zero, suc, inl, inr, List, [], ◌∷◌, ◌++◌, map, length, Bool, true, false, cond, Option, None, Some}
use Rattle.std.proofs.Common.{refl, sym, subst, slice_get, bytes_eq}
use Rattle.std.specs.Option.{option_map}
use Rattle.std.specs.List.{All, AllZip, filter_map, cons_option}
use Rattle.std.proofs.lemmas.Option.{none-some, same_Some}
use Rattle.isle_ast.specs.Positions.DefPositions.{TypeTreeAt, VariantTreeAt, TypeValueAt, DeclAt, RuleAt, ExtractorAt, ConverterAt, DefAt, IdentAt}
use Rattle.isle_ast.specs.Positions.DefPositions.{PatternTreeAt, PatternTreesAt}
use Rattle.isle_ast.specs.declared.pos.Pos.{Pos}
use Rattle.isle_ast.specs.declared.ast.Ident.{Ident}
use Rattle.isle_ast.specs.declared.ast.TypeValue.{TypeValue}
use Rattle.isle_ast.specs.declared.ast.TypeValue.TheVariants.{Primitive as primitive_tree, Enum as enum_tree, Struct as struct_tree}
use Rattle.isle_ast.specs.declared.ast.«Type».{«Type» as TypeTree}
use Rattle.isle_ast.specs.declared.ast.Decl.{Decl as DeclTree}
use Rattle.isle_ast.specs.declared.ast.Rule.{Rule as RuleTree}
use Rattle.isle_ast.specs.declared.ast.Extractor.{Extractor as ExtractorTree}
use Rattle.isle_ast.specs.declared.ast.Converter.{Converter as ConverterTree}
use Rattle.isle_ast.specs.declared.ast.Extern.{Extern as ExternTree}
use Rattle.isle_ast.specs.declared.ast.Extern.TheVariants.{Constructor as extern_constructor, Extractor as extern_extractor}
use Rattle.isle_ast.specs.declared.ast.Def.{Def}
use Rattle.isle_ast.specs.declared.ast.Def.TheVariants.{TypeDef, Decl, Rule, Extractor, Extern, Converter}
use Rattle.isle_ast.specs.Trees.PatternTree.{PatternTree, PatternTrees, pattern_var, pattern_bind, pattern_bool, pattern_int, pattern_prim}
use Rattle.isle_ast.specs.Trees.PatternTree.{pattern_term, pattern_wildcard, pattern_and, pattern_macro_arg, no_patterns, more_patterns}
use Rattle.isle_ast.specs.Trees.PatternShape.{pattern_of}
use Rattle.isle_ast.specs.Trees.Templates.{position_of_name, argument_for, is_wildcard, template_tree, template_trees}
use Rattle.isle_types.specs.IntTypes.{builtin_names}
use Rattle.isle_types.specs.Environment.{Environment, NamedVariant, TypeShape, primitive, enum, struct, NamedType, IsVariant, IsShape, IsType, Makes}
use Rattle.isle_types.specs.Environment.{as_type, type_definitions, type_names}
use Rattle.isle_types.proofs.Zipped.{mapped_at, all_at}
use Rattle.isle_rules.specs.Signatures.{ExtractorForm, by_template, external_extractor, TermForm}
use Rattle.isle_rules.specs.Signatures.{declared_form, Signature, Declared, template_of}
use Rattle.isle_rules.specs.Definitions.{ExternalExtractor, as_declaration, as_rule, as_extractor, as_external, as_converter}
use Rattle.isle_rules.specs.Definitions.{as_external_constructor, as_external_extractor, declarations, rules_in, extractors_in, converters_in}
use Rattle.isle_rules.specs.Definitions.{external_constructors, external_extractors, root_name, template_for, external_extractor_for, first_of}
use Rattle.isle_rules.specs.Definitions.{constructor_for, extractor_for, flags_in, IsDeclaration, variant_terms, terms_of_shape, terms_of_types}
use Rattle.isle_rules.specs.Definitions.{AreTerms, name_of_rule}
use Rattle.isle_terms.specs.TermFaults.{named_terms, IsTaken, DeclarationBreaks, term_twice, multi_and_partial, unknown_type}
use Rattle.isle_terms.specs.TermFaults.{named_extractors, NamesTerm, SomeNamesTerm, ExtractorBreaks, internal_of_no_declared_term}
use Rattle.isle_terms.specs.TermFaults.{external_of_no_declared_term, second_extractor, internal_of_multi, body_of_unknown_term, recursive}
use Rattle.isle_terms.specs.TermFaults.{ConstructorBreaks, root_is_no_term, root_is_not_declared, root_is_external, external_is_not_declared}
use Rattle.isle_terms.specs.TermFaults.{external_has_rules, second_external, ConverterBreaks, unknown_inner_type, unknown_outer_type}
use Rattle.isle_terms.specs.TermFaults.{unknown_converter, second_converter}
use Rattle.isle_terms.specs.TypingFaults.{named_rules, BreaksTyping, of_declarations, of_constructors, of_extractors, of_converters, of_no_use}
use Rattle.isle_terms.specs.TypingFaults.{of_a_rule, of_rule_names, ExceedsTyping, by_arguments, by_a_rule}
use Rattle.isle_terms.proofs.Exact.Positions.{TemplatesAt, ill_rule_at}

-- something holds of each item of a list
abbrev pub Each : {X : Type 0} → (X → Type 0) → List X → Type 0
Each {X} P xs = (place : ℕ) (x : X) → slice_get xs place ≡ Some x → P x

-- of each item that others are mapped to
each_mapped : {X Y : Type 0} (f : X → Y) (P : Y → Type 0) (xs : List X) → Each (λ (x : X). P (f x)) xs → Each P (map f xs)
each_mapped f P xs each place y is =
    let from = mapped_at f xs place y is in subst P from.2 (each place from.0 from.1)

-- of each item of one list behind another
each_appended : {X : Type 0} (P : X → Type 0) (xs ys : List X) → Each P xs → Each P ys → Each P (xs ++ ys)
each_appended P [] ys front back place x is = back place x is
each_appended P (first ∷ xs) ys front back zero x is = front zero x is
each_appended P (first ∷ xs) ys front back (suc place) x is = each_appended P xs ys (λ i y at. front (suc i) y at) back place x is

-- of each item that is made of others
each_made : {X Y : Type 0} (kind : X → Option Y) (Q : X → Type 0) (P : Y → Type 0) → ((x : X) (y : Y) → kind x ≡ Some y → Q x → P y)
    → (xs : List X) → Each Q xs → Each P (filter_map kind xs)
each_made kind Q P makes [] each place y is = absurd (none-some y is)
each_made {X} {Y} kind Q P makes (x ∷ xs) each place y is =
    by_head (each_made kind Q P makes xs (λ i z at. each (suc i) z at)) (kind x) refl place is
  where
    by_head : Each P (filter_map kind xs) → (o : Option Y) → kind x ≡ o → (i : ℕ) → slice_get (cons_option o (filter_map kind xs)) i ≡ Some y → P y
    by_head others None none i at = others i y at
    by_head others (Some z) some zero at = subst P (same_Some z y at) (makes x z some (each zero x refl))
    by_head others (Some z) some (suc i) at = others i y at

-- of each second one of two lists whose items are related, where it holds of each first one
pub each_related : {X Y : Type 0} (R : X → Y → Type 0) (P : X → Type 0) (Q : Y → Type 0) → ((x : X) (y : Y) → R x y → P x → Q y)
    → (xs : List X) (ys : List Y) → AllZip R xs ys → Each P xs → Each Q ys
each_related R P Q from xs [] related each place y is = absurd (none-some y is)
each_related R P Q from [] (z ∷ ys) related each place y is = absurd related
each_related R P Q from (x ∷ xs) (z ∷ ys) related each zero y is =
    subst Q (same_Some z y is) (from x z related.0 (each zero x refl))
each_related R P Q from (x ∷ xs) (z ∷ ys) related each (suc place) y is =
    each_related R P Q from xs ys related.1 (λ i w at. each (suc i) w at) place y is

module _ (At : Pos → Type 0) where
  -- the positions of variants are such positions
  abbrev pub ShapeAt : TypeShape → Type 0
  ShapeAt (primitive _) = Unit {0}
  ShapeAt (enum variants) = (place : ℕ) (variant : NamedVariant) → slice_get variants place ≡ Some variant → At variant.pos
  ShapeAt (struct _) = Unit {0}

  -- those of a type
  pub record NamedTypeAt (type : NamedType) : Type 0 where
    pub shape : ShapeAt type.shape
    pub pos : At type.pos

  -- those of the types of an environment
  abbrev pub TypesAt : Environment → Type 0
  TypesAt types = (place : ℕ) (type : NamedType) → slice_get types.types place ≡ Some type → NamedTypeAt type

  -- those in the definitions of types
  shape_made_at : (known : List (List ℕ)) (tree : TypeValue) (shape : TypeShape) → IsShape known tree shape → TypeValueAt At tree → ShapeAt shape
  shape_made_at known tree (primitive _) is stands = tt
  shape_made_at known tree (struct _) is stands = tt
  shape_made_at known (enum_tree trees _) (enum variants) is stands =
      each_related (IsVariant known) (VariantTreeAt At) (λ (variant : NamedVariant). At variant.pos)
      (λ tree variant made here. subst At (sym made.pos) here.pos) trees variants is.0 (all_at (VariantTreeAt At) trees stands.0)
  shape_made_at known (primitive_tree _ _) (enum variants) is stands = absurd is
  shape_made_at known (struct_tree _ _) (enum variants) is stands = absurd is

  -- the type of a definition stands where it does
  type_made_at : (known : List (List ℕ)) (tree : TypeTree) (type : NamedType) → IsType known tree type → TypeTreeAt At tree → NamedTypeAt type
  type_made_at known tree type is stands = record {
    shape = shape_made_at known tree.ty type.shape is.shape stands.ty;
    pos = subst At (sym is.pos) stands.pos;
  }

  -- what a definition of a type has
  type_here : (def : Def) (tree : TypeTree) → as_type def ≡ Some tree → DefAt At def → TypeTreeAt At tree
  type_here (TypeDef type) tree is stands = subst (TypeTreeAt At) (same_Some type tree is) stands
  type_here _ tree is stands = absurd (none-some tree is)

  -- the types that definitions make stand where the definitions do
  pub made_types_at : (defs : List Def) (types : Environment) → All (DefAt At) defs → Makes defs types → TypesAt types
  made_types_at defs types all makes =
      each_related (IsType (type_names defs)) (TypeTreeAt At) NamedTypeAt (type_made_at (type_names defs))
      (type_definitions defs) types.types makes.types
      (each_made as_type (DefAt At) (TypeTreeAt At) type_here defs (all_at (DefAt At) defs all))

  -- what a declaration has
  decl_here : (def : Def) (tree : DeclTree) → as_declaration def ≡ Some tree → DefAt At def → DeclAt At tree
  decl_here (Decl decl) tree is stands = subst (DeclAt At) (same_Some decl tree is) stands
  decl_here _ tree is stands = absurd (none-some tree is)

  -- what a rule has
  rule_here : (def : Def) (tree : RuleTree) → as_rule def ≡ Some tree → DefAt At def → RuleAt At tree
  rule_here (Rule rule) tree is stands = subst (RuleAt At) (same_Some rule tree is) stands
  rule_here _ tree is stands = absurd (none-some tree is)

  -- what an extractor has
  extractor_here : (def : Def) (tree : ExtractorTree) → as_extractor def ≡ Some tree → DefAt At def → ExtractorAt At tree
  extractor_here (Extractor extractor) tree is stands = subst (ExtractorAt At) (same_Some extractor tree is) stands
  extractor_here _ tree is stands = absurd (none-some tree is)

  -- what a converter has
  converter_here : (def : Def) (tree : ConverterTree) → as_converter def ≡ Some tree → DefAt At def → ConverterAt At tree
  converter_here (Converter converter) tree is stands = subst (ConverterAt At) (same_Some converter tree is) stands
  converter_here _ tree is stands = absurd (none-some tree is)

  -- what the host provides
  extern_here : (def : Def) (tree : ExternTree) → as_external def ≡ Some tree → DefAt At def → DefAt At (Extern tree)
  extern_here (Extern extern) tree is stands = subst (λ (e : ExternTree). DefAt At (Extern e)) (same_Some extern tree is) stands
  extern_here _ tree is stands = absurd (none-some tree is)

  -- the name of the term of a host's constructor
  constructor_here : (extern : ExternTree) (pair : Ident × Ident) → as_external_constructor extern ≡ Some pair → DefAt At (Extern extern)
      → IdentAt At pair.0
  constructor_here (extern_constructor term func pos) pair is stands =
      subst (λ (p : Ident × Ident). IdentAt At p.0) (same_Some (term, func) pair is) stands.0
  constructor_here _ pair is stands = absurd (none-some pair is)

  -- a host's extractor
  external_here : (extern : ExternTree) (external : ExternalExtractor) → as_external_extractor extern ≡ Some external → DefAt At (Extern extern)
      → At external.pos
  external_here (extern_extractor term func pos infallible) external is stands =
      subst (λ (e : ExternalExtractor). At e.pos) (same_Some _ external is) stands.2
  external_here _ external is stands = absurd (none-some external is)

  -- each name of a table stands at such a position
  abbrev PairsAt : List (List ℕ × Pos) → Type 0
  PairsAt pairs = Each (λ (pair : List ℕ × Pos). At pair.1) pairs

  -- so does one that is taken
  taken_at : (pairs : List (List ℕ × Pos)) (at : Pos) → PairsAt pairs → IsTaken pairs at → At at
  taken_at pairs at each taken = each taken.place (taken.name, at) taken.here

  -- a name of a term in a pattern
  mutual
    names_term_at : (name : List ℕ) (at : Pos) (t : PatternTree) → PatternTreeAt At t → NamesTerm name at t → At at
    names_term_at name at (pattern_var _ _) stands is = absurd is
    names_term_at name at (pattern_bind _ below _) stands is = names_term_at name at below stands.1 is
    names_term_at name at (pattern_bool _ _) stands is = absurd is
    names_term_at name at (pattern_int _ _ _) stands is = absurd is
    names_term_at name at (pattern_prim _ _) stands is = absurd is
    names_term_at name at (pattern_term _ args _) stands (inl here) = subst At (sym here.1) stands.2
    names_term_at name at (pattern_term _ args _) stands (inr later) = some_names_term_at name at args stands.1 later
    names_term_at name at (pattern_wildcard _) stands is = absurd is
    names_term_at name at (pattern_and below _) stands is = some_names_term_at name at below stands.0 is
    names_term_at name at (pattern_macro_arg _ _) stands is = absurd is

    -- a name of a term in one of some patterns
    some_names_term_at : (name : List ℕ) (at : Pos) (ts : PatternTrees) → PatternTreesAt At ts → SomeNamesTerm name at ts → At at
    some_names_term_at name at no_patterns stands is = absurd is
    some_names_term_at name at (more_patterns first others) stands (inl here) = names_term_at name at first stands.0 here
    some_names_term_at name at (more_patterns first others) stands (inr later) = some_names_term_at name at others stands.1 later

  -- an argument of a template stands where the pattern does
  argument_at : (place : Option ℕ) (pos : Pos) (t : PatternTree) → PatternTreeAt At t → At pos → PatternTreeAt At (argument_for place pos t)
  argument_at None pos t stands here = stands
  argument_at (Some place) pos t stands here = here

  -- a template stands where its pattern does
  mutual
    pub template_at : (names : List Ident) (t : PatternTree) → PatternTreeAt At t → PatternTreeAt At (template_tree names t)
    template_at names (pattern_var name pos) stands =
        argument_at (position_of_name names name.0) pos (pattern_var name pos) stands stands.1
    template_at names (pattern_bind name below pos) stands = elim (is_wildcard below) as
        (λ b. PatternTreeAt At (cond b (argument_for (position_of_name names name.0) pos (pattern_bind name below pos))
        (pattern_bind name (template_tree names below) pos))) [
          | true ↦ argument_at (position_of_name names name.0) pos (pattern_bind name below pos) stands stands.2
          | false ↦ (stands.0, template_at names below stands.1, stands.2)
        ]
    template_at names (pattern_bool _ _) stands = stands
    template_at names (pattern_int _ _ _) stands = stands
    template_at names (pattern_prim _ _) stands = stands
    template_at names (pattern_term _ args _) stands = (stands.0, templates_at names args stands.1, stands.2)
    template_at names (pattern_wildcard _) stands = stands
    template_at names (pattern_and below _) stands = (templates_at names below stands.0, stands.1)
    template_at names (pattern_macro_arg _ _) stands = stands

    -- so do several
    templates_at : (names : List Ident) (ts : PatternTrees) → PatternTreesAt At ts → PatternTreesAt At (template_trees names ts)
    templates_at names no_patterns stands = tt
    templates_at names (more_patterns first others) stands = (template_at names first stands.0, templates_at names others stands.1)

  -- the terms of types stand where these do
  variant_terms_at : (ty : ℕ) (type : List ℕ) (number : ℕ) (variants : List NamedVariant) → Each (λ (variant : NamedVariant). At variant.pos) variants
      → Each (λ (term : Signature). At term.pos) (variant_terms ty type number variants)
  variant_terms_at ty type number [] each place term is = absurd (none-some term is)
  variant_terms_at ty type number (first ∷ others) each zero term is =
      subst (λ (other : Signature). At other.pos) (same_Some _ term is) (each zero first refl)
  variant_terms_at ty type number (first ∷ others) each (suc place) term is =
      variant_terms_at ty type (suc number) others (λ i variant at. each (suc i) variant at) place term is

  -- those of one type
  shape_terms_at : (ty : ℕ) (type : NamedType) (shape : TypeShape) → ShapeAt shape → At type.pos
      → Each (λ (term : Signature). At term.pos) (terms_of_shape ty type shape)
  shape_terms_at ty type (primitive _) stands here place term is = absurd (none-some term is)
  shape_terms_at ty type (enum variants) stands here place term is = variant_terms_at ty type.name 0 variants stands place term is
  shape_terms_at ty type (struct _) stands here zero term is = subst (λ (other : Signature). At other.pos) (same_Some _ term is) here
  shape_terms_at ty type (struct _) stands here (suc place) term is = absurd (none-some term is)

  -- those of all types
  type_terms_at : (ty : ℕ) (types : List NamedType) → Each NamedTypeAt types → Each (λ (term : Signature). At term.pos) (terms_of_types ty types)
  type_terms_at ty [] each place term is = absurd (none-some term is)
  type_terms_at ty (first ∷ others) each place term is =
      let here = each zero first refl in
      each_appended (λ (term : Signature). At term.pos) (terms_of_shape ty first first.shape) (terms_of_types (suc ty) others)
      (shape_terms_at ty first first.shape here.shape here.pos) (type_terms_at (suc ty) others (λ i type at. each (suc i) type at)) place term is

  -- a form has a template of such positions
  abbrev FormAt : TermForm → Type 0
  FormAt form = (template : PatternTree) → template_of form ≡ Some template → PatternTreeAt At template

  -- the terms of types have no templates
  variant_terms_plain : (ty : ℕ) (type : List ℕ) (number : ℕ) (variants : List NamedVariant)
      → Each (λ (term : Signature). FormAt term.form) (variant_terms ty type number variants)
  variant_terms_plain ty type number [] place term is = absurd (none-some term is)
  variant_terms_plain ty type number (first ∷ others) zero term is =
      subst (λ (other : Signature). FormAt other.form) (same_Some _ term is) (λ template has. absurd (none-some template has))
  variant_terms_plain ty type number (first ∷ others) (suc place) term is = variant_terms_plain ty type (suc number) others place term is

  -- none of one type has
  shape_terms_plain : (ty : ℕ) (type : NamedType) (shape : TypeShape) → Each (λ (term : Signature). FormAt term.form) (terms_of_shape ty type shape)
  shape_terms_plain ty type (primitive _) place term is = absurd (none-some term is)
  shape_terms_plain ty type (enum variants) place term is = variant_terms_plain ty type.name 0 variants place term is
  shape_terms_plain ty type (struct _) zero term is =
      subst (λ (other : Signature). FormAt other.form) (same_Some _ term is) (λ template has. absurd (none-some template has))
  shape_terms_plain ty type (struct _) (suc place) term is = absurd (none-some term is)

  -- none of all types has
  type_terms_plain : (ty : ℕ) (types : List NamedType) → Each (λ (term : Signature). FormAt term.form) (terms_of_types ty types)
  type_terms_plain ty [] place term is = absurd (none-some term is)
  type_terms_plain ty (first ∷ others) place term is =
      each_appended (λ (term : Signature). FormAt term.form) (terms_of_shape ty first first.shape) (terms_of_types (suc ty) others)
      (shape_terms_plain ty first first.shape) (type_terms_plain (suc ty) others) place term is

  -- a template is that of an extractor
  external_plain : (externals : List ExternalExtractor) (name : List ℕ) (template : PatternTree)
      → external_extractor_for externals name ≡ Some (by_template template) → ⊥
  external_plain [] name template is = none-some _ is
  external_plain (first ∷ others) name template is = elim (bytes_eq first.term.0 name) as
      (λ b. cond b (Some (external_extractor first.function.0 first.infallible first.pos)) (external_extractor_for others name)
      ≡ Some (by_template template) → ⊥) [
        | true ↦ λ found. cc
        | false ↦ λ found. external_plain others name template found
      ] is

  -- the template of a name stands where its extractor does
  template_found_at : (extractors : List ExtractorTree) (externals : List ExternalExtractor) (name : List ℕ) (template : PatternTree)
      → Each (ExtractorAt At) extractors
      → first_of (template_for extractors name) (external_extractor_for externals name) ≡ Some (by_template template) → PatternTreeAt At template
  template_found_at [] externals name template each is = absurd (external_plain externals name template is)
  template_found_at (first ∷ others) externals name template each is = elim (bytes_eq first.term.0 name) as
      (λ b. first_of (cond b (Some (by_template (template_tree first.args (pattern_of first.template)))) (template_for others name))
      (external_extractor_for externals name) ≡ Some (by_template template) → PatternTreeAt At template) [
        | true ↦ λ found. let same : template_tree first.args (pattern_of first.template) ≡ template = cc in
            let here = each zero first refl in
            subst (PatternTreeAt At) same (template_at first.args (pattern_of first.template) here.template)
        | false ↦ λ found. template_found_at others externals name template (λ i extractor at. each (suc i) extractor at) found
      ] is

  -- so does that of a declared term
  declaration_form_at : (defs : List Def) → Each (ExtractorAt At) (extractors_in defs) → (decl : DeclTree) (o : Option ExtractorForm)
      → extractor_for defs decl.term.0 ≡ o → FormAt (declared_form (flags_in decl) (constructor_for defs decl.term.0) o)
  declaration_form_at defs each decl None found template has = absurd (none-some template has)
  declaration_form_at defs each decl (Some (external_extractor _ _ _)) found template has = absurd (none-some template has)
  declaration_form_at defs each decl (Some (by_template made)) found template has =
      subst (PatternTreeAt At) (same_Some made template has)
      (template_found_at (extractors_in defs) (external_extractors defs) decl.term.0 made each found)

  -- so do those of all terms
  term_forms_at : (types : Environment) (defs : List Def) (terms : List Signature) → All (DefAt At) defs → AreTerms types defs terms
      → Each (λ (term : Signature). FormAt term.form) terms
  term_forms_at types defs terms all are =
      subst (Each (λ (term : Signature). FormAt term.form)) (sym are.all)
      (each_appended (λ (term : Signature). FormAt term.form) are.declared (terms_of_types (length builtin_names) types.types)
      (each_related (IsDeclaration types defs) (λ (_ : DeclTree). Unit {0}) (λ (term : Signature). FormAt term.form)
      (λ decl term is _. subst FormAt (sym is.form) (declaration_form_at defs extractors decl (extractor_for defs decl.term.0) refl))
      (declarations defs) are.declared are.each (λ place decl is. tt))
      (type_terms_plain (length builtin_names) types.types))
    where
      extractors : Each (ExtractorAt At) (extractors_in defs)
      extractors = each_made as_extractor (DefAt At) (ExtractorAt At) extractor_here defs (all_at (DefAt At) defs all)

  -- the templates of terms stand where the definitions do
  pub term_templates_at : (types : Environment) (defs : List Def) (declared : Declared) → All (DefAt At) defs → AreTerms types defs declared.terms
      → TemplatesAt At declared
  term_templates_at types defs declared all are number term template known has =
      term_forms_at types defs declared.terms all are number term known template has

  module _ (types : Environment) (expands : Bool) (levels : ℕ) (defs : List Def) (all : All (DefAt At) defs) where
    -- the declarations stand where the definitions do
    decls_at : Each (DeclAt At) (declarations defs)
    decls_at = each_made as_declaration (DefAt At) (DeclAt At) decl_here defs (all_at (DefAt At) defs all)

    -- so do the rules
    pub rules_at : Each (RuleAt At) (rules_in defs)
    rules_at = each_made as_rule (DefAt At) (RuleAt At) rule_here defs (all_at (DefAt At) defs all)

    -- so do the extractors
    extractors_at : Each (ExtractorAt At) (extractors_in defs)
    extractors_at = each_made as_extractor (DefAt At) (ExtractorAt At) extractor_here defs (all_at (DefAt At) defs all)

    -- so do the converters
    converters_at : Each (ConverterAt At) (converters_in defs)
    converters_at = each_made as_converter (DefAt At) (ConverterAt At) converter_here defs (all_at (DefAt At) defs all)

    -- so does what the host provides
    externs_at : Each (λ (extern : ExternTree). DefAt At (Extern extern)) (filter_map as_external defs)
    externs_at = each_made as_external (DefAt At) (λ (extern : ExternTree). DefAt At (Extern extern)) extern_here defs (all_at (DefAt At) defs all)

    -- so do the names of the terms of the host's constructors
    constructors_at : Each (λ (pair : Ident × Ident). IdentAt At pair.0) (external_constructors defs)
    constructors_at = each_made as_external_constructor (λ (extern : ExternTree). DefAt At (Extern extern))
        (λ (pair : Ident × Ident). IdentAt At pair.0) constructor_here (filter_map as_external defs) externs_at

    -- so do the host's extractors
    externals_at : Each (λ (external : ExternalExtractor). At external.pos) (external_extractors defs)
    externals_at = each_made as_external_extractor (λ (extern : ExternTree). DefAt At (Extern extern))
        (λ (external : ExternalExtractor). At external.pos) external_here (filter_map as_external defs) externs_at

    -- where a declaration breaks a rule
    declaration_break_at : TypesAt types → (at : Pos) → DeclarationBreaks types defs at → At at
    declaration_break_at stand at (term_twice _ taken) = taken_at (named_terms types defs) at
        (each_appended (λ (pair : List ℕ × Pos). At pair.1) (map (λ (decl : DeclTree). (decl.term.0, decl.pos)) (declarations defs))
        (map (λ (term : Signature). (term.name, term.pos)) (terms_of_types (length builtin_names) types.types))
        (each_mapped (λ (decl : DeclTree). (decl.term.0, decl.pos)) (λ (pair : List ℕ × Pos). At pair.1) (declarations defs)
        (λ place decl is. let here = decls_at place decl is in here.pos))
        (each_mapped (λ (term : Signature). (term.name, term.pos)) (λ (pair : List ℕ × Pos). At pair.1)
        (terms_of_types (length builtin_names) types.types) (type_terms_at (length builtin_names) types.types stand))) taken
    declaration_break_at stand at (multi_and_partial decl among multi partial) = let here = decls_at among.0 decl among.1 in here.pos
    declaration_break_at stand at (unknown_type decl name among used unknown) =
        let here = decls_at among.0 decl among.1 in
        each_appended (IdentAt At) decl.arg_tys (decl.ret_ty ∷ []) (all_at (IdentAt At) decl.arg_tys here.arg_tys)
        (one_at decl.ret_ty here.ret_ty) used.0 name used.1
      where
        one_at : (ident : Ident) → IdentAt At ident → Each (IdentAt At) (ident ∷ [])
        one_at ident stands zero other is = subst (IdentAt At) (same_Some ident other is) stands
        one_at ident stands (suc place) other is = absurd (none-some other is)

    -- where a root or a constructor breaks a rule
    constructor_break_at : (at : Pos) → ConstructorBreaks defs at → At at
    constructor_break_at at (root_is_no_term rule among none) = let here = rules_at among.0 rule among.1 in here.pos
    constructor_break_at at (root_is_not_declared rule name among root undeclared) = let here = rules_at among.0 rule among.1 in here.pos
    constructor_break_at at (root_is_external rule name among root external) = let here = rules_at among.0 rule among.1 in here.pos
    constructor_break_at at (external_is_not_declared external among undeclared) = constructors_at among.0 external among.1
    constructor_break_at at (external_has_rules external among root) = constructors_at among.0 external among.1
    constructor_break_at at (second_external _ taken) =
        taken_at (map (λ (external : Ident × Ident). (external.0.0, external.0.1)) (external_constructors defs)) at
        (each_mapped (λ (external : Ident × Ident). (external.0.0, external.0.1)) (λ (pair : List ℕ × Pos). At pair.1)
        (external_constructors defs) constructors_at) taken

    -- where an extractor breaks a rule
    extractor_break_at : (terms : List Signature) (at : Pos) → ExtractorBreaks defs terms at → At at
    extractor_break_at terms at (internal_of_no_declared_term extractor among undeclared) =
        let here = extractors_at among.0 extractor among.1 in here.pos
    extractor_break_at terms at (external_of_no_declared_term external among undeclared) = externals_at among.0 external among.1
    extractor_break_at terms at (second_extractor _ taken) = taken_at (named_extractors defs) at
        (each_appended (λ (pair : List ℕ × Pos). At pair.1)
        (map (λ (extractor : ExtractorTree). (extractor.term.0, extractor.pos)) (extractors_in defs))
        (map (λ (external : ExternalExtractor). (external.term.0, external.pos)) (external_extractors defs))
        (each_mapped (λ (extractor : ExtractorTree). (extractor.term.0, extractor.pos)) (λ (pair : List ℕ × Pos). At pair.1) (extractors_in defs)
        (λ place extractor is. let here = extractors_at place extractor is in here.pos))
        (each_mapped (λ (external : ExternalExtractor). (external.term.0, external.pos)) (λ (pair : List ℕ × Pos). At pair.1)
        (external_extractors defs) externals_at)) taken
    extractor_break_at terms at (internal_of_multi extractor decl among declared same multi) =
        let here = extractors_at among.0 extractor among.1 in here.pos
    extractor_break_at terms at (body_of_unknown_term extractor name _ among names unknown) =
        let here = extractors_at among.0 extractor among.1 in names_term_at name at (pattern_of extractor.template) here.template names
    extractor_break_at terms at (recursive extractor among comes) = let here = extractors_at among.0 extractor among.1 in here.pos

    -- where a converter breaks a rule
    converter_break_at : (terms : List Signature) (at : Pos) → ConverterBreaks types defs terms at → At at
    converter_break_at terms at (unknown_inner_type tree among unknown) = let here = converters_at among.0 tree among.1 in here.inner_ty
    converter_break_at terms at (unknown_outer_type tree among unknown) = let here = converters_at among.0 tree among.1 in here.outer_ty
    converter_break_at terms at (unknown_converter tree among unknown) = let here = converters_at among.0 tree among.1 in here.term
    converter_break_at terms at (second_converter place tree is second) = let here = converters_at place tree is in here.pos

    -- the names of rules stand where the rules do
    rule_names_at : PairsAt (named_rules defs)
    rule_names_at = each_made
        (λ (rule : RuleTree). option_map (λ name. (name, rule.pos)) (name_of_rule defs (root_name (pattern_of rule.pattern)) rule.name))
        (RuleAt At) (λ (pair : List ℕ × Pos). At pair.1)
        (λ rule pair is here. pair_at rule (name_of_rule defs (root_name (pattern_of rule.pattern)) rule.name) pair is here.pos)
        (rules_in defs) rules_at
      where
        pair_at : (rule : RuleTree) (o : Option (List ℕ)) (pair : List ℕ × Pos) → option_map (λ name. (name, rule.pos)) o ≡ Some pair → At rule.pos
            → At pair.1
        pair_at rule None pair is here = absurd (none-some pair is)
        pair_at rule (Some name) pair is here = subst (λ (p : List ℕ × Pos). At p.1) (same_Some (name, rule.pos) pair is) here

    -- where definitions break a rule of typing, they or their types stand
    pub breaks_at : TypesAt types → (at : Pos) → BreaksTyping types expands levels defs at → At at
    breaks_at stand at (of_declarations _ breaks) = declaration_break_at stand at breaks
    breaks_at stand at (of_constructors _ breaks) = constructor_break_at at breaks
    breaks_at stand at (of_extractors _ terms are breaks) = extractor_break_at terms at breaks
    breaks_at stand at (of_converters _ terms are breaks) = converter_break_at terms at breaks
    breaks_at stand at (of_no_use _ unused) =
        let here = decls_at unused.among.0 unused.decl unused.among.1 in subst At (sym unused.here) here.pos
    breaks_at stand at (of_a_rule _ terms conversions rule are converts among ill) =
        let declared : Declared = record { types = types; terms = terms; conversions = conversions; expands = expands } in
        ill_rule_at At declared (term_templates_at types defs declared all are) levels rule at (rules_at among.0 rule among.1) ill
    breaks_at stand at (of_rule_names _ taken) = taken_at (named_rules defs) at rule_names_at taken

    -- where they exceed a size, they stand
    pub exceeds_at : (max : ℕ) (at : Pos) → ExceedsTyping types expands levels max defs at → At at
    exceeds_at max at (by_arguments _ large) =
        let here = decls_at large.among.0 large.decl large.among.1 in subst At (sym large.here) here.pos
    exceeds_at max at (by_a_rule terms conversions rule are converts among large) = let here = rules_at among.0 rule among.1 in here.pos
