-- What a site is made of, and which term it calls.
use Rattle.std.specs.Prelude.{Option, Some, None, IsSome}
use Rattle.std.specs.Option.{option_and_then}
use Rattle.isle_types.specs.declared.ids.TermId.{TermId}
use Rattle.isle_types.specs.declared.ids.TypeId.{TypeId}
use Rattle.isle_types.specs.declared.ids.VariantId.{VariantId}
use Rattle.isle_types.specs.declared.types.Variant.{Variant}
use Rattle.isle_types.specs.TypeEnvs.{variant_of}
use Rattle.isle_types.specs.TypeTables.{TypeTables}
use Rattle.isle_rules.specs.Shown.TermTables.{TermTables, term_with}
use Rattle.isle_blocks.specs.declared.binding.Binding.{Binding}
use Rattle.isle_blocks.specs.declared.binding.Binding.TheVariants.{ConstBool, ConstInt, ConstPrim, Argument, Extractor, Constructor, Iterator}
use Rattle.isle_blocks.specs.declared.binding.Binding.TheVariants.{MakeVariant, MatchVariant, MakeStruct, ExtractStruct, MakeSome, MatchSome}
use Rattle.isle_blocks.specs.declared.binding.Binding.TheVariants.{MatchTuple}

-- the term of a variant of a type
abbrev pub variant_term_of : TypeTables → TermTables → TypeId → VariantId → Option TermId
variant_term_of types terms ty variant = option_and_then (λ (found : Variant). term_with terms found.fullname) (variant_of types ty variant)

-- the term that a site calls, or that of the variant that it makes
abbrev pub term_of : TypeTables → TermTables → Binding → Option TermId
term_of types terms (ConstBool val ty) = None
term_of types terms (ConstInt val ty) = None
term_of types terms (ConstPrim val) = None
term_of types terms (Argument index) = None
term_of types terms (Extractor term parameter) = Some term
term_of types terms (Constructor term parameters instance) = Some term
term_of types terms (Iterator source) = None
term_of types terms (MakeVariant ty variant fields) = variant_term_of types terms ty variant
term_of types terms (MatchVariant source variant field) = None
term_of types terms (MakeStruct ty fields) = None
term_of types terms (ExtractStruct source field) = None
term_of types terms (MakeSome inner) = None
term_of types terms (MatchSome source) = None
term_of types terms (MatchTuple source field) = None

-- a variant that a site makes is one of its type, and has a term
abbrev pub MakesKnownVariant : TypeTables → TermTables → Binding → Type 0
MakesKnownVariant types terms (ConstBool val ty) = Unit {0}
MakesKnownVariant types terms (ConstInt val ty) = Unit {0}
MakesKnownVariant types terms (ConstPrim val) = Unit {0}
MakesKnownVariant types terms (Argument index) = Unit {0}
MakesKnownVariant types terms (Extractor term parameter) = Unit {0}
MakesKnownVariant types terms (Constructor term parameters instance) = Unit {0}
MakesKnownVariant types terms (Iterator source) = Unit {0}
MakesKnownVariant types terms (MakeVariant ty variant fields) = IsSome (variant_term_of types terms ty variant)
MakesKnownVariant types terms (MatchVariant source variant field) = Unit {0}
MakesKnownVariant types terms (MakeStruct ty fields) = Unit {0}
MakesKnownVariant types terms (ExtractStruct source field) = Unit {0}
MakesKnownVariant types terms (MakeSome inner) = Unit {0}
MakesKnownVariant types terms (MatchSome source) = Unit {0}
MakesKnownVariant types terms (MatchTuple source field) = Unit {0}
