-- What tests make, and what they can't meet.
use Rattle.std.specs.Prelude.{◌&&◌, ◌++◌, ◌==◌, ℕ, zero, suc, Bool, true, List, [], ◌∷◌}
use Rattle.std.specs.Ordering.{int_eq}
use Rattle.isle_types.specs.declared.ids.VariantId.{VariantId}
use Rattle.isle_blocks.specs.declared.ids.BindingId.{BindingId}
use Rattle.isle_blocks.specs.declared.binding.Binding.{Binding}
use Rattle.isle_blocks.specs.declared.binding.Binding.TheVariants as sites
use Rattle.isle_blocks.specs.declared.constraint.Constraint.{Constraint}
use Rattle.isle_blocks.specs.declared.constraint.Constraint.TheVariants.{Variant, Struct, ConstBool, ConstInt, ConstPrim, Some}

-- the site of a field of such a variant, by the field's number
abbrev pub variant_field : BindingId → VariantId → ℕ → Binding
variant_field source variant field = sites.MatchVariant source variant (record { 0 = field })

-- the site of a field of a struct, by the field's number
abbrev pub struct_field : BindingId → ℕ → Binding
struct_field source field = sites.ExtractStruct source (record { 0 = field })

-- the sites of the fields below a number, in order
abbrev pub fields_below : (ℕ → Binding) → ℕ → List Binding
fields_below field zero = []
fields_below field (suc n) = fields_below field n ++ field n ∷ []

-- the sites that passing a test makes, in order
abbrev pub bindings_made : Constraint → BindingId → List Binding
bindings_made (Variant ty variant fields) source = fields_below (variant_field source variant) fields.0
bindings_made (Struct ty fields) source = fields_below (struct_field source) fields.0
bindings_made (ConstBool val ty) source = []
bindings_made (ConstInt val ty) source = []
bindings_made (ConstPrim val) source = []
bindings_made Some source = sites.MatchSome source ∷ []

-- a test can pass at a site: not that of a variant where another is made, nor that of an integer where another literal stands
abbrev pub is_compatible : Constraint → Binding → Bool
is_compatible (Variant ty variant _) (sites.MakeVariant made_ty made _) = (ty.0 == made_ty.0) && (variant.0 == made.0)
is_compatible (ConstInt val ty) (sites.ConstInt made made_ty) = int_eq val made && (ty.0 == made_ty.0)
is_compatible _ _ = true
