-- Sites as expressions: of what a site comes, each behind ` of `, and at the end an argument, a constant or a call.
use Rattle.std.specs.Prelude.{ℕ, zero, suc, List, [], ◌∷◌, ◌++◌, Option, None, Some, codes, slice_get, unwrap_or}
use Rattle.std.specs.Fmt.{decimal, signed_decimal}
use Rattle.std.specs.List.{flat_map}
use Rattle.std.specs.Option.{option_map_or}
use Rattle.isle_types.specs.declared.ids.TypeId.{TypeId}
use Rattle.isle_blocks.specs.declared.binding.Binding.{Binding}
use Rattle.isle_blocks.specs.declared.binding.Binding.TheVariants as sites
use Rattle.isle_blocks.specs.declared.ids.BindingId.{BindingId}
use Rattle.isle_blocks.specs.Tables.{sources_of}
use Rattle.isle_program.specs.declared.program.Program.{Program}
use Rattle.isle_program.specs.Programs.{term_name}
use Rattle.isle_tell.specs.TreeTexts.DotFields.{struct_field, variant_field}
use Rattle.isle_tell.specs.TreeTexts.Names.{bool_text, symbol_name, type_name_of, variant_name}

-- the one site from which a site comes
abbrev pub source_of : Binding → Option BindingId
source_of (sites.ConstBool val ty) = None
source_of (sites.ConstInt val ty) = None
source_of (sites.ConstPrim val) = None
source_of (sites.Argument index) = None
source_of (sites.Extractor term parameter) = Some parameter
source_of (sites.Constructor term parameters instance) = None
source_of (sites.Iterator source) = Some source
source_of (sites.MakeVariant ty variant fields) = None
source_of (sites.MatchVariant source variant field) = Some source
source_of (sites.MakeStruct ty fields) = None
source_of (sites.ExtractStruct source field) = Some source
source_of (sites.MakeSome inner) = None
source_of (sites.MatchSome source) = Some source
source_of (sites.MatchTuple source field) = Some source

-- the type of a site that tests tell
abbrev pub type_known : List (Option TypeId) → BindingId → Option TypeId
type_known types site = unwrap_or (slice_get types site.0) None

-- what a site is of the one from which it comes
abbrev pub link_words : Program → List (Option TypeId) → Binding → List ℕ
link_words program types (sites.ConstBool val ty) = []
link_words program types (sites.ConstInt val ty) = []
link_words program types (sites.ConstPrim val) = []
link_words program types (sites.Argument index) = []
link_words program types (sites.Extractor term parameter) = term_name program term
link_words program types (sites.Constructor term parameters instance) = []
link_words program types (sites.Iterator source) = codes "each"
link_words program types (sites.MakeVariant ty variant fields) = []
link_words program types (sites.MatchVariant source variant field) = variant_field program (type_known types source) variant field.0
link_words program types (sites.MakeStruct ty fields) = []
link_words program types (sites.ExtractStruct source field) = struct_field program (type_known types source) field.0
link_words program types (sites.MakeSome inner) = []
link_words program types (sites.MatchSome source) = codes "value"
link_words program types (sites.MatchTuple source field) = codes "output " ++ decimal field.0

-- what a site is of others, each behind ` of `, to so many levels
unfoldable pub way_words : Program → List (Option TypeId) → List Binding → (levels : ℕ) → BindingId → List ℕ
way_words program types all zero site = []
way_words program types all (suc levels) site = option_map_or (λ (found : Binding).
    option_map_or (λ (source : BindingId). link_words program types found ++ (codes " of " ++ way_words program types all levels source))
    (source_of found) []) (slice_get all site.0) []

-- the site at which that ends; none where it goes on past so many levels
unfoldable pub way_end : List Binding → (levels : ℕ) → BindingId → Option Binding
way_end all zero site = None
way_end all (suc levels) site = option_map_or (λ (found : Binding).
    option_map_or (λ (source : BindingId). way_end all levels source) (source_of found) (Some found)) (slice_get all site.0) None

-- a call with its parts
abbrev pub call_text : (name parts : List ℕ) → List ℕ
call_text name parts = codes "(" ++ (name ++ (parts ++ codes ")"))

-- a site that comes from no one other, with its parts as they are given
abbrev pub end_text : Program → (parts : List ℕ) → Binding → List ℕ
end_text program parts (sites.ConstBool val ty) = bool_text val
end_text program parts (sites.ConstInt val ty) = signed_decimal val
end_text program parts (sites.ConstPrim val) = codes "$" ++ symbol_name program val
end_text program parts (sites.Argument index) = codes "arg " ++ decimal index.0
end_text program parts (sites.Extractor term parameter) = codes ".."
end_text program parts (sites.Constructor term parameters instance) = call_text (term_name program term) parts
end_text program parts (sites.Iterator source) = codes ".."
end_text program parts (sites.MakeVariant ty variant fields) = call_text (variant_name program ty variant) parts
end_text program parts (sites.MatchVariant source variant field) = codes ".."
end_text program parts (sites.MakeStruct ty fields) = call_text (type_name_of program ty) parts
end_text program parts (sites.ExtractStruct source field) = codes ".."
end_text program parts (sites.MakeSome inner) = call_text (codes "some") parts
end_text program parts (sites.MatchSome source) = codes ".."
end_text program parts (sites.MatchTuple source field) = codes ".."

-- an expression of what a site is of others, and the site at which that ends
abbrev pub finished : Program → (words parts : List ℕ) → Option Binding → List ℕ
finished program words parts end = words ++ option_map_or (end_text program parts) end (codes "..")

-- the parts of the site at which a way ends
abbrev pub sources_at : Option Binding → List BindingId
sources_at end = option_map_or sources_of end []

-- parts that aren't written
abbrev pub cut : List BindingId → List ℕ
cut [] = []
cut (part ∷ parts) = codes " .."

-- parts, each behind a space
abbrev pub part_words : (BindingId → List ℕ) → List BindingId → List ℕ
part_words write parts = flat_map (λ (part : BindingId). codes " " ++ write part) parts

-- a site as an expression, in which a call has no parts
abbrev pub outline : Program → List (Option TypeId) → List Binding → BindingId → List ℕ
outline program types all site = finished program (way_words program types all 12 site) (cut (sources_at (way_end all 12 site))) (way_end all 12 site)

-- a site as an expression, in which the parts of a call are in outline
abbrev pub inner : Program → List (Option TypeId) → List Binding → BindingId → List ℕ
inner program types all site = finished program (way_words program types all 12 site)
    (part_words (outline program types all) (sources_at (way_end all 12 site))) (way_end all 12 site)

-- a site as an expression, in which calls are written in calls
abbrev pub expression : Program → List (Option TypeId) → List Binding → BindingId → List ℕ
expression program types all site = finished program (way_words program types all 12 site)
    (part_words (inner program types all) (sources_at (way_end all 12 site))) (way_end all 12 site)
