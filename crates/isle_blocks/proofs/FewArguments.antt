-- No term that definitions make has more than 255 arguments.
use Rattle.std.proofs.Common.{◌≡◌, ◌≤◌, ℕ, suc, Bool, List, [], ◌∷◌, length, Some, arith, sym, subst, ap, ◌∙◌, slice_get}
use Rattle.std.specs.List.{All, AllZip, AllByRecursion}
use Rattle.std.specs.Option.{option_map}
use Rattle.std.proofs.lemmas.List.{length-map}
use Rattle.std.proofs.lemmas.List.Elements.{All-nil, All-cons, All-append, All-head, All-tail}
use Rattle.std.proofs.lemmas.Option.{slice_get-map}
use Rattle.isle_ast.specs.declared.ast.Decl.{Decl as DeclTree}
use Rattle.isle_ast.specs.declared.ast.Def.{Def}
use Rattle.isle_ast.specs.declared.ast.Fields.{Fields}
use Rattle.isle_ast.specs.declared.ast.Fields.TheVariants.{Unit as no_field_trees, Struct as struct_field_trees, Tuple as tuple_field_trees}
use Rattle.isle_ast.specs.declared.ast.Variant.{Variant}
use Rattle.isle_ast.specs.declared.ast.TypeValue.{TypeValue}
use Rattle.isle_ast.specs.declared.ast.TypeValue.TheVariants.{Primitive, Enum, Struct}
use Rattle.isle_ast.specs.declared.ast.«Type».{«Type» as TypeTree}
use Rattle.isle_types.specs.IntTypes.{builtin_names}
use Rattle.isle_types.specs.Environment.{FieldList, no_fields, named_fields, tuple_fields, NamedVariant, TypeShape, primitive, enum, struct}
use Rattle.isle_types.specs.Environment.{NamedType, Environment, type_definitions, type_names, IsField, IsTupleField, AreFields, IsVariant, IsShape}
use Rattle.isle_types.specs.Environment.{IsType, Makes, field_count, HaveAllowedSizes, HasAllowedSize, AreWithinSizes, numbers_in}
use Rattle.isle_types.specs.TypeTables.{TypeTables}
use Rattle.isle_types.specs.declared.ids.TypeId.{TypeId}
use Rattle.isle_types.proofs.Zipped.{all_at}
use Rattle.isle_rules.specs.Signatures.{Signature}
use Rattle.isle_rules.specs.Definitions.{declarations, IsTypeNumber, IsDeclaration, variant_terms, terms_of_shape, terms_of_types, MakesTerms}
use Rattle.isle_rules.specs.Definitions.{TermEnvironment}
use Rattle.isle_rules.specs.Shown.TermTables.{TermTables}
use Rattle.isle_rules.specs.Shown.ShownTerms.{term_shown}
use Rattle.isle_rules.specs.Shown.RulesShown.{ShowsTerms}
use Rattle.isle_rules.proofs.Zipped.{zipped_length}
use Rattle.isle_blocks.specs.Building.Naming.{HaveFewArguments}

abbrev HasFew : Signature → Type 0
HasFew term = length term.args ≤ 255

few_fields : (known : List (List ℕ)) (tree : Fields) (fields : FieldList) → AreFields known tree fields → field_count tree ≤ 255
    → length (numbers_in fields) ≤ 255
few_fields known no_field_trees no_fields are few = few
few_fields known (struct_field_trees trees) (named_fields fields) are few =
    let same = zipped_length (IsField known) trees.fields fields are.0 in
    let mapped = length-map fields (λ (field : List ℕ × ℕ). field.1) in omega (arith, same, mapped, few)
few_fields known (tuple_field_trees trees) (tuple_fields numbers) are few =
    let same = zipped_length (IsTupleField known) trees.fields numbers are in omega (arith, same, few)
few_fields known _ _ are few = absurd are

few_variants : (known : List (List ℕ)) (ty : ℕ) (type : List ℕ) (number : ℕ) (trees : List Variant) (variants : List NamedVariant)
    → AllZip (IsVariant known) trees variants → HaveAllowedSizes trees → All HasFew (variant_terms ty type number variants)
few_variants known ty type number [] [] each sizes = All-nil HasFew
few_variants known ty type number [] (variant ∷ variants) each sizes = absurd each
few_variants known ty type number (tree ∷ trees) [] each sizes = absurd each
few_variants known ty type number (tree ∷ trees) (variant ∷ variants) each sizes =
    All-cons HasFew _ (variant_terms ty type (suc number) variants) (few_fields known tree.fields variant.fields each.0.fields sizes.0)
    (few_variants known ty type (suc number) trees variants each.1 sizes.1)

few_of_shape : (known : List (List ℕ)) (ty : ℕ) (type : NamedType) (tree : TypeValue) (shape : TypeShape) → IsShape known tree shape
    → HasAllowedSize tree → All HasFew (terms_of_shape ty type shape)
few_of_shape known ty type (Primitive host pos) (primitive name) is size = All-nil HasFew
few_of_shape known ty type (Enum trees pos) (enum variants) is size = few_variants known ty type.name 0 trees variants is.0 size
few_of_shape known ty type (Struct trees pos) (struct fields) is size =
    All-cons HasFew _ [] (few_fields known trees fields is size) (All-nil HasFew)
few_of_shape known ty type _ _ is size = absurd is

few_of_types : (known : List (List ℕ)) (ty : ℕ) (trees : List TypeTree) (types : List NamedType) → AllZip (IsType known) trees types
    → AllByRecursion (λ (tree : TypeTree). HasAllowedSize tree.ty) trees → All HasFew (terms_of_types ty types)
few_of_types known ty [] [] each sizes = All-nil HasFew
few_of_types known ty [] (type ∷ types) each sizes = absurd each
few_of_types known ty (tree ∷ trees) [] each sizes = absurd each
few_of_types known ty (tree ∷ trees) (type ∷ types) each sizes =
    All-append HasFew (terms_of_shape ty type type.shape) (terms_of_types (suc ty) types)
    (few_of_shape known ty type tree.ty type.shape each.0.shape sizes.0) (few_of_types known (suc ty) trees types each.1 sizes.1)

few_declared : (types : Environment) (defs : List Def) (decls : List DeclTree) (declared : List Signature)
    → AllZip (IsDeclaration types defs) decls declared → All (λ (decl : DeclTree). length decl.arg_tys ≤ 255) decls → All HasFew declared
few_declared types defs [] [] each within = All-nil HasFew
few_declared types defs [] (term ∷ declared) each within = absurd each
few_declared types defs (decl ∷ decls) [] each within = absurd each
few_declared types defs (decl ∷ decls) (term ∷ declared) each within =
    let same = zipped_length (IsTypeNumber types) decl.arg_tys term.args each.0.args in
    let few : length decl.arg_tys ≤ 255 = All-head (λ (d : DeclTree). length d.arg_tys ≤ 255) decl decls within in
    All-cons HasFew term declared (omega (arith, same, few))
    (few_declared types defs decls declared each.1 (All-tail (λ (d : DeclTree). length d.arg_tys ≤ 255) decl decls within))

few_terms : (types : Environment) (expands : Bool) (levels max : ℕ) (defs : List Def) (environment : TermEnvironment) → Makes defs types
    → AreWithinSizes defs → MakesTerms types expands levels max defs environment → All HasFew environment.terms
few_terms types expands levels max defs environment made within makes =
    let terms = makes.terms in
    subst (All HasFew) (sym terms.all)
    (All-append HasFew terms.declared (terms_of_types (length builtin_names) types.types)
    (few_declared types defs (declarations defs) terms.declared terms.each makes.within)
    (few_of_types (type_names defs) (length builtin_names) (type_definitions defs) types.types made.types within))

-- tables that show what definitions make
pub few_arguments : (tyenv : TypeTables) (env : TermTables) (types : Environment) (levels max : ℕ) (defs : List Def) → Makes defs types
    → AreWithinSizes defs → ShowsTerms tyenv env types levels max defs → HaveFewArguments env.terms
few_arguments tyenv env types levels max defs made within shows number term at =
    let signature = term_shown tyenv.names term in
    let there : slice_get shows.environment.terms number ≡ Some signature =
    ap (λ terms. slice_get terms number) (sym shows.declared.terms) ∙ slice_get-map (term_shown tyenv.names) env.terms number
    ∙ ap (option_map (term_shown tyenv.names)) at in
    let few = all_at HasFew shows.environment.terms
    (few_terms types env.expands levels max defs shows.environment made within shows.makes) number signature there in
    let mapped = length-map term.arg_tys (λ (ty : TypeId). ty.0) in
    omega (arith, few, mapped)
