-- Worked cases: what is asked of terms, names and converters.
use Rattle.std.proofs.Common.{◌≡◌, Bool, true, false, [], ◌∷◌, None, Some, refl, codes}
use Rattle.isle_ast.specs.declared.pos.Pos.{Pos}
use Rattle.isle_ast.specs.Trees.PatternTree.{PatternTree, pattern_wildcard}
use Rattle.isle_rules.specs.declared.terms.ConstructorKind.TheVariants.{InternalConstructor, ExternalConstructor}
use Rattle.isle_rules.specs.declared.terms.ExtractorKind.TheVariants.{ExternalExtractor}
use Rattle.isle_rules.specs.declared.terms.TermFlags.{TermFlags}
use Rattle.isle_rules.specs.declared.terms.TermKind.{TermKind}
use Rattle.isle_rules.specs.declared.terms.TermKind.TheVariants.{EnumVariant, Struct, Decl}
use Rattle.isle_rules.specs.Terms.{is_variant_kind, is_struct_kind, is_partial_kind, is_recursive_kind, has_rules_kind, makes_kind}
use Rattle.isle_rules.specs.Terms.{takes_apart_kind, has_host_constructor_kind, has_host_extractor_kind}
use Rattle.isle_rules.specs.Signatures.{Flags, by_rules, by_template, external_extractor, variant_form, struct_form, declared_form, Signature}
use Rattle.isle_rules.specs.Signatures.{Declared, term_named, has_constructor_form, has_extractor_form, flags_of, template_of}
use Rattle.isle_rules.specs.Signatures.{put_in_for, converter_in}

abbrev here : Pos
here = record { file = 0; offset = 0 }

abbrev partial_and_rec : TermFlags
partial_and_rec = record { pure = false; multi = false; partial = true; rec = true }

-- (decl partial rec f ..), with rules
abbrev by_its_rules : TermKind
by_its_rules = Decl partial_and_rec (Some InternalConstructor) None

-- (decl partial rec f ..), with functions of the host
abbrev by_the_host : TermKind
by_the_host = Decl partial_and_rec (Some (ExternalConstructor (record { 0 = 3 }))) (Some (ExternalExtractor (record { 0 = 4 }) true here))

-- a variant makes values and takes them apart, and is nothing else
variant : (is_variant_kind (EnumVariant (record { 0 = 0 })) ≡ true) × (is_struct_kind (EnumVariant (record { 0 = 0 })) ≡ false)
    × (makes_kind (EnumVariant (record { 0 = 0 })) ≡ true) × (takes_apart_kind (EnumVariant (record { 0 = 0 })) ≡ true)
    × (has_rules_kind (EnumVariant (record { 0 = 0 })) ≡ false) × (is_partial_kind (EnumVariant (record { 0 = 0 })) ≡ false)
variant = (refl, refl, refl, refl, refl, refl)

-- so does a struct
struct_term : (is_struct_kind Struct ≡ true) × (is_variant_kind Struct ≡ false) × (makes_kind Struct ≡ true) × (takes_apart_kind Struct ≡ true)
    × (has_host_constructor_kind Struct ≡ false) × (is_recursive_kind Struct ≡ false)
struct_term = (refl, refl, refl, refl, refl, refl)

-- a declared term with rules makes values by them, and takes none apart
ruled : (has_rules_kind by_its_rules ≡ true) × (makes_kind by_its_rules ≡ true) × (takes_apart_kind by_its_rules ≡ false)
    × (has_host_constructor_kind by_its_rules ≡ false) × (is_partial_kind by_its_rules ≡ true) × (is_recursive_kind by_its_rules ≡ true)
ruled = (refl, refl, refl, refl, refl, refl)

-- one of the host has no rules
of_the_host : (has_rules_kind by_the_host ≡ false) × (has_host_constructor_kind by_the_host ≡ true) × (has_host_extractor_kind by_the_host ≡ true)
    × (takes_apart_kind by_the_host ≡ true)
of_the_host = (refl, refl, refl, refl)

abbrev no_flags : Flags
no_flags = record { pure = false; multi = false; partial = false; rec = false }

abbrev template : PatternTree
template = pattern_wildcard here

-- (decl f (..) ..) with rules, and (extractor (any) _)
abbrev f : Signature
f = record { name = codes "f"; args = 1 ∷ []; ret = 2; form = declared_form no_flags (Some by_rules) None; pos = here }

abbrev any : Signature
any = record { name = codes "any"; args = []; ret = 2; form = declared_form no_flags None (Some (by_template template)); pos = here }

abbrev declared_with : Bool → Declared
declared_with expands = record {
  types = record { types = []; constants = [] };
  terms = f ∷ any ∷ [];
  conversions = record { inner = 1; outer = 2; term = codes "f" } ∷ [];
  expands = expands;
}

-- a term's number is its place
numbers : (term_named (declared_with true) (codes "f") ≡ Some 0) × (term_named (declared_with true) (codes "any") ≡ Some 1)
    × (term_named (declared_with true) (codes "an") ≡ None)
numbers = (refl, refl, refl)

-- with rules a term stands in expressions alone, with a template in patterns alone
uses : (has_constructor_form f.form ≡ true) × (has_extractor_form f.form ≡ false) × (has_constructor_form any.form ≡ false)
    × (has_extractor_form any.form ≡ true) × (has_constructor_form struct_form ≡ true) × (has_extractor_form (variant_form 1) ≡ true)
uses = (refl, refl, refl, refl, refl, refl)

-- variants and structs are pure, a plain declaration isn't
pure_terms : ((flags_of (variant_form 0)).pure ≡ true) × ((flags_of struct_form).pure ≡ true) × ((flags_of f.form).pure ≡ false)
pure_terms = (refl, refl, refl)

-- a template is put in only where internal extractors are
templates : (put_in_for (declared_with true) any ≡ Some template) × (put_in_for (declared_with false) any ≡ None)
    × (put_in_for (declared_with true) f ≡ None)
    × (template_of (declared_form no_flags None (Some (external_extractor (codes "g") false here))) ≡ None)
templates = (refl, refl, refl, refl)

-- a converter is of its pair of types, in that order
converters : (converter_in (declared_with true).conversions 1 2 ≡ Some (codes "f")) × (converter_in (declared_with true).conversions 2 1 ≡ None)
    × (converter_in (declared_with true).conversions 1 1 ≡ None)
converters = (refl, refl, refl)
