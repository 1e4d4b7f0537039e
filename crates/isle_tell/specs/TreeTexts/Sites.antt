-- What is printed of sites and of tests.
use Rattle.std.specs.Prelude.{ℕ, suc, List, [], ◌∷◌, ◌++◌, codes}
use Rattle.std.specs.Fmt.{decimal, signed_decimal}
use Rattle.isle_blocks.specs.declared.binding.Binding.{Binding}
use Rattle.isle_blocks.specs.declared.binding.Binding.TheVariants as sites
use Rattle.isle_blocks.specs.declared.constraint.Constraint.{Constraint}
use Rattle.isle_blocks.specs.declared.constraint.Constraint.TheVariants as tests
use Rattle.isle_blocks.specs.Rows.{numbers_of}
use Rattle.isle_program.specs.declared.program.Program.{Program}
use Rattle.isle_program.specs.Programs.{term_name}
use Rattle.isle_tell.specs.TreeTexts.Names.{bool_text, numbers_text, symbol_name, type_text, variant_name}

-- a site, with its parts by their numbers
abbrev pub site_text : Program → Binding → List ℕ
site_text program (sites.ConstBool val ty) = codes "ConstBool " ++ (bool_text val ++ (codes " " ++ type_text program ty))
site_text program (sites.ConstInt val ty) = codes "ConstInt " ++ (signed_decimal val ++ (codes " " ++ type_text program ty))
site_text program (sites.ConstPrim val) = codes "ConstPrim $" ++ symbol_name program val
site_text program (sites.Argument index) = codes "Argument " ++ decimal index.0
site_text program (sites.Extractor term parameter) =
    codes "Extractor " ++ (term_name program term ++ (codes " (" ++ (decimal parameter.0 ++ codes ")")))
site_text program (sites.Constructor term parameters instance) = codes "Constructor " ++ (term_name program term
    ++ (codes " (" ++ (numbers_text (numbers_of parameters) ++ (codes ") instance " ++ decimal instance))))
site_text program (sites.Iterator source) = codes "Iterator " ++ decimal source.0
site_text program (sites.MakeVariant ty variant fields) =
    codes "MakeVariant " ++ (variant_name program ty variant ++ (codes " (" ++ (numbers_text (numbers_of fields) ++ codes ")")))
site_text program (sites.MatchVariant source variant field) =
    codes "MatchVariant " ++ (decimal source.0 ++ (codes " variant " ++ (decimal variant.0 ++ (codes " field " ++ decimal field.0))))
site_text program (sites.MakeStruct ty fields) =
    codes "MakeStruct " ++ (type_text program ty ++ (codes " (" ++ (numbers_text (numbers_of fields) ++ codes ")")))
site_text program (sites.ExtractStruct source field) = codes "ExtractStruct " ++ (decimal source.0 ++ (codes " field " ++ decimal field.0))
site_text program (sites.MakeSome inner) = codes "MakeSome " ++ decimal inner.0
site_text program (sites.MatchSome source) = codes "MatchSome " ++ decimal source.0
site_text program (sites.MatchTuple source field) = codes "MatchTuple " ++ (decimal source.0 ++ (codes " field " ++ decimal field.0))

-- a test
abbrev pub test_text : Program → Constraint → List ℕ
test_text program (tests.Variant ty variant fields) = codes "Variant " ++ (variant_name program ty variant ++ (codes "/" ++ decimal fields.0))
test_text program (tests.Struct ty fields) = codes "Struct " ++ (type_text program ty ++ (codes "/" ++ decimal fields.0))
test_text program (tests.ConstBool val ty) = codes "ConstBool " ++ (bool_text val ++ (codes " " ++ type_text program ty))
test_text program (tests.ConstInt val ty) = codes "ConstInt " ++ (signed_decimal val ++ (codes " " ++ type_text program ty))
test_text program (tests.ConstPrim val) = codes "ConstPrim $" ++ symbol_name program val
test_text program tests.Some = codes "Some"

-- the line of a site: its number, and what it is
abbrev pub site_line : Program → (number : ℕ) → Binding → List ℕ
site_line program number site = codes "    " ++ (decimal number ++ (codes " = " ++ (site_text program site ++ codes "\n")))

-- the lines of sites, which are numbered from `first`
abbrev pub sites_text : Program → (first : ℕ) → List Binding → List ℕ
sites_text program first [] = []
sites_text program first (site ∷ sites) = site_line program first site ++ sites_text program (suc first) sites
