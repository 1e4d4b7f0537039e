-- What is asked of a term.
use Rattle.std.specs.Prelude.{Bool, true, false, is_some, Option, Some, None}
use Rattle.isle_rules.specs.declared.terms.ConstructorKind.{ConstructorKind}
use Rattle.isle_rules.specs.declared.terms.ConstructorKind.TheVariants.{InternalConstructor, ExternalConstructor}
use Rattle.isle_rules.specs.declared.terms.ExtractorKind.{ExtractorKind}
use Rattle.isle_rules.specs.declared.terms.ExtractorKind.TheVariants.{InternalExtractor, ExternalExtractor}
use Rattle.isle_rules.specs.declared.terms.TermKind.{TermKind}
use Rattle.isle_rules.specs.declared.terms.TermKind.TheVariants.{EnumVariant, Struct, Decl}

-- a variant of an enum
abbrev pub is_variant_kind : TermKind → Bool
is_variant_kind (EnumVariant variant) = true
is_variant_kind Struct = false
is_variant_kind (Decl flags constructor_kind extractor_kind) = false

-- a struct
abbrev pub is_struct_kind : TermKind → Bool
is_struct_kind (EnumVariant variant) = false
is_struct_kind Struct = true
is_struct_kind (Decl flags constructor_kind extractor_kind) = false

-- a declared term that may answer nothing
abbrev pub is_partial_kind : TermKind → Bool
is_partial_kind (EnumVariant variant) = false
is_partial_kind Struct = false
is_partial_kind (Decl flags constructor_kind extractor_kind) = flags.partial

-- a declared term with the flag `rec`
abbrev pub is_recursive_kind : TermKind → Bool
is_recursive_kind (EnumVariant variant) = false
is_recursive_kind Struct = false
is_recursive_kind (Decl flags constructor_kind extractor_kind) = flags.rec

-- a constructor by rules
abbrev pub is_by_rules : Option ConstructorKind → Bool
is_by_rules None = false
is_by_rules (Some InternalConstructor) = true
is_by_rules (Some (ExternalConstructor name)) = false

-- a declared term with rules
abbrev pub has_rules_kind : TermKind → Bool
has_rules_kind (EnumVariant variant) = false
has_rules_kind Struct = false
has_rules_kind (Decl flags constructor_kind extractor_kind) = is_by_rules constructor_kind

-- a term that makes values: a variant, a struct, or one with a constructor
abbrev pub makes_kind : TermKind → Bool
makes_kind (EnumVariant variant) = true
makes_kind Struct = true
makes_kind (Decl flags constructor_kind extractor_kind) = is_some constructor_kind

-- a term that takes values apart: a variant, a struct, or one with an extractor
abbrev pub takes_apart_kind : TermKind → Bool
takes_apart_kind (EnumVariant variant) = true
takes_apart_kind Struct = true
takes_apart_kind (Decl flags constructor_kind extractor_kind) = is_some extractor_kind

-- a constructor of the host
abbrev pub is_host_constructor : Option ConstructorKind → Bool
is_host_constructor None = false
is_host_constructor (Some InternalConstructor) = false
is_host_constructor (Some (ExternalConstructor name)) = true

-- a declared term with a constructor of the host
abbrev pub has_host_constructor_kind : TermKind → Bool
has_host_constructor_kind (EnumVariant variant) = false
has_host_constructor_kind Struct = false
has_host_constructor_kind (Decl flags constructor_kind extractor_kind) = is_host_constructor constructor_kind

-- an extractor of the host
abbrev pub is_host_extractor : Option ExtractorKind → Bool
is_host_extractor None = false
is_host_extractor (Some (InternalExtractor template)) = false
is_host_extractor (Some (ExternalExtractor name infallible pos)) = true

-- a declared term with an extractor of the host
abbrev pub has_host_extractor_kind : TermKind → Bool
has_host_extractor_kind (EnumVariant variant) = false
has_host_extractor_kind Struct = false
has_host_extractor_kind (Decl flags constructor_kind extractor_kind) = is_host_extractor extractor_kind
