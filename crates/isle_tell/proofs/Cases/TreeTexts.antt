-- Worked cases: lines of sites, tests and trees.
use Rattle.std.proofs.Common.{◌≡◌, ◌∷◌, [], ℕ, List, None, Some, refl, codes}
use Rattle.isle_ast.specs.Positions.Files.{SourceFile}
use Rattle.isle_blocks.specs.declared.binding.Binding.TheVariants as sites
use Rattle.isle_blocks.specs.declared.constraint.Constraint.TheVariants as tests
use Rattle.isle_blocks.specs.declared.ids.BindingId.{BindingId}
use Rattle.isle_program.specs.declared.program.Program.{Program}
use Rattle.isle_tell.specs.TreeTexts.Names.{fields_text, indent, numbers_text, pos_text}
use Rattle.isle_tell.specs.TreeTexts.Sites.{site_line, sites_text}
use Rattle.isle_tell.specs.TreeTexts.Steps.{arm_line, bind_line, equal_line, loop_line, match_line}
use Rattle.isle_tell.proofs.Cases.Decimals.{zero_text, one_text, two_text, five_text, seven_text, ten_text, last_site_text}

no_numbers : numbers_text [] ≡ []
no_numbers = refl

three_numbers : numbers_text (7 ∷ 10 ∷ 65535 ∷ []) ≡ codes "7 10 65535"
three_numbers = rw (seven_text, ten_text, last_site_text)

fields_without_sites : fields_text (None ∷ None ∷ None ∷ []) ≡ codes "_ _ _"
fields_without_sites = refl

fields_with_sites : fields_text (Some 2 ∷ None ∷ Some 10 ∷ []) ≡ codes "2 _ 10"
fields_with_sites = rw (two_text, ten_text)

no_level : indent 0 ≡ []
no_level = refl

two_levels : indent 2 ≡ codes "    "
two_levels = refl

nothing_bound : bind_line 2 [] ≡ codes "    step bind []\n"
nothing_bound = refl

two_bound : bind_line 1 (1 ∷ 2 ∷ []) ≡ codes "  step bind [1 2]\n"
two_bound = rw (one_text, two_text)

a_match : match_line 3 10 ≡ codes "      match 10\n"
a_match = rw ten_text

a_comparison : equal_line 0 1 7 ≡ codes "equal 1 7\n"
a_comparison = rw (one_text, seven_text)

a_loop : loop_line 1 5 ≡ codes "  loop 5\n"
a_loop = rw five_text

-- a site by its number
abbrev id : ℕ → BindingId
id n = record { 0 = n }

module _ (program : Program) where
  -- sites that name nothing
  an_argument : site_line program 0 (sites.Argument (record { 0 = 0 })) ≡ codes "    0 = Argument 0\n"
  an_argument = rw zero_text

  a_field : site_line program 7 (sites.MatchVariant (id 0) (record { 0 = 1 }) (record { 0 = 2 }))
      ≡ codes "    7 = MatchVariant 0 variant 1 field 2\n"
  a_field = rw (seven_text, zero_text, one_text, two_text)

  two_sites : sites_text program 1 (sites.MatchSome (id 0) ∷ sites.MakeSome (id 1) ∷ []) ≡ codes "    1 = MatchSome 0\n    2 = MakeSome 1\n"
  two_sites = rw (zero_text, one_text, two_text)

  -- an arm that binds the second of two fields
  an_arm : arm_line program 1 tests.Some (Some 2 ∷ []) ≡ codes "  arm Some [2]\n"
  an_arm = rw two_text

-- one file of two lines
abbrev files : List SourceFile
files = (record { name = codes "f.isle"; text = codes "ab\ncd" }) ∷ []

-- a file that isn't there has no places
no_file : pos_text files (record { file = 1; offset = 0 }) ≡ []
no_file = refl

-- a place in the second line
second_line : pos_text files (record { file = 0; offset = 4 }) ≡ codes "f.isle:2:2"
second_line = rw two_text
