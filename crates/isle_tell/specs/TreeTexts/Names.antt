-- What is printed of types, variants, numbers of sites, and places.
use Rattle.std.specs.Prelude.{ℕ, zero, suc, Bool, List, [], ◌∷◌, ◌++◌, Option, None, Some, codes, slice_get, unwrap_or, if◌then◌else◌}
use Rattle.std.specs.Fmt.{decimal}
use Rattle.std.specs.List.{flat_map}
use Rattle.std.specs.Option.{option_and_then, option_map_or}
use Rattle.isle_ast.specs.Positions.Files.{SourceFile, named_place}
use Rattle.isle_ast.specs.declared.pos.Pos.{Pos}
use Rattle.isle_types.specs.declared.ids.Sym.{Sym}
use Rattle.isle_types.specs.declared.ids.TypeId.{TypeId}
use Rattle.isle_types.specs.declared.ids.VariantId.{VariantId}
use Rattle.isle_types.specs.declared.types.Variant.{Variant}
use Rattle.isle_types.specs.TypeEnvs.{name_of, type_name, variant_of}
use Rattle.isle_program.specs.declared.program.Program.{Program}
use Rattle.isle_program.specs.Programs.{types_of}

-- the name of a symbol; empty where there is none
abbrev pub symbol_name : Program → Sym → List ℕ
symbol_name program sym = unwrap_or (name_of (types_of program) sym) []

-- the name of a type; empty where there is none
abbrev pub type_name_of : Program → TypeId → List ℕ
type_name_of program ty = unwrap_or (option_and_then (type_name (types_of program)) (slice_get (types_of program).types ty.0)) []

-- `NAME#NUMBER` of a type
abbrev pub type_text : Program → TypeId → List ℕ
type_text program ty = type_name_of program ty ++ (codes "#" ++ decimal ty.0)

-- `TYPE.VARIANT`; empty where there is no such variant
abbrev pub variant_name : Program → TypeId → VariantId → List ℕ
variant_name program ty variant = option_map_or (λ (found : Variant). symbol_name program found.fullname)
    (variant_of (types_of program) ty variant) []

-- a truth value
abbrev pub bool_text : Bool → List ℕ
bool_text value = if value then codes "true" else codes "false"

-- the numbers of sites, with a space between two
abbrev pub numbers_text : List ℕ → List ℕ
numbers_text [] = []
numbers_text (first ∷ others) = decimal first ++ flat_map (λ n. codes " " ++ decimal n) others

-- the number of a site, and `_` where there is none
abbrev pub field_text : Option ℕ → List ℕ
field_text None = codes "_"
field_text (Some site) = decimal site

-- the sites of fields, of which some have none, with a space between two
abbrev pub fields_text : List (Option ℕ) → List ℕ
fields_text [] = []
fields_text (first ∷ others) = field_text first ++ flat_map (λ f. codes " " ++ field_text f) others

-- `FILE:LINE:COLUMN` of a place; nothing where its file isn't known
abbrev pub pos_text : List SourceFile → Pos → List ℕ
pos_text files pos = option_map_or (λ file. named_place file pos.offset) (slice_get files pos.file) []

-- so many levels of two spaces
abbrev pub indent : ℕ → List ℕ
indent zero = []
indent (suc level) = codes "  " ++ indent level

-- texts of items in turn, one behind the other
pub data AreTexts {X : Type 0} (Is : X → List ℕ → Type 0) : List X → List ℕ → Type 0 where
  no_texts : AreTexts Is [] []
  more_texts : {x : X} {xs : List X} {text texts : List ℕ} → Is x text → AreTexts Is xs texts → AreTexts Is (x ∷ xs) (text ++ texts)
