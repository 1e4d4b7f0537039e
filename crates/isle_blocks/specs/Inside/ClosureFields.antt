-- Fields that tests open: of a variant, or of a struct where no variant is given.
use Rattle.std.specs.Prelude.{◌≡◌, ◌<◌, ℕ, Option, Some, None, ◌↔◌}
use Rattle.isle_meaning.specs.Sites.{Site, match_variant, extract_struct}
use Rattle.isle_blocks.specs.declared.binding.Binding.{Binding}
use Rattle.isle_blocks.specs.declared.binding.Binding.TheVariants as sites
use Rattle.isle_blocks.specs.declared.constraint.Constraint.{Constraint}
use Rattle.isle_blocks.specs.declared.constraint.Constraint.TheVariants as tests
use Rattle.isle_types.specs.declared.ids.VariantId.{VariantId}
use Rattle.isle_blocks.specs.declared.close.fields.Opening.{Opening}

-- the entry of a field of a site
abbrev pub field_binding : Option ℕ → ℕ → ℕ → Binding
field_binding (Some variant) source i = sites.MatchVariant (record { 0 = source }) (record { 0 = variant }) (record { 0 = i })
field_binding None source i = sites.ExtractStruct (record { 0 = source }) (record { 0 = i })

-- the field as a site
abbrev pub field_site : Option ℕ → Site → ℕ → Site
field_site (Some variant) s i = match_variant s variant i
field_site None s i = extract_struct s i

-- the test opens the field
abbrev pub Opens : Constraint → Option ℕ → ℕ → Type 0
Opens (tests.Variant ty variant fields) kind i = (kind ≡ Some variant.0) × (i < fields.0)
Opens (tests.Struct ty fields) kind i = (kind ≡ None) × (i < fields.0)
Opens (tests.ConstBool val ty) kind i = ⊥
Opens (tests.ConstInt val ty) kind i = ⊥
Opens (tests.ConstPrim val) kind i = ⊥
Opens tests.Some kind i = ⊥

-- the kind of field, by number
abbrev pub kind_of : Option VariantId → Option ℕ
kind_of None = None
kind_of (Some variant) = Some variant.0

-- the fields that a test opens
abbrev pub AreFields : Constraint → Opening → Type 0
AreFields test opening = (kind : Option ℕ) (i : ℕ) → Opens test kind i ↔ ((kind ≡ kind_of opening.variant) × (i < opening.fields.0))
