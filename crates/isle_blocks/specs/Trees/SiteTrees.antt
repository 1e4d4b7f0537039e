-- The trees of a table's sites, and what they hold.
use Rattle.std.specs.Prelude.{ℕ, zero, suc, List, [], ◌∷◌, Option, Some, None, slice_get}
use Rattle.isle_types.specs.declared.ids.Sym.{Sym}
use Rattle.isle_meaning.specs.Values.{Value, Values}
use Rattle.isle_meaning.specs.Facts.{TermFacts}
use Rattle.isle_meaning.specs.Answers.{Completion}
use Rattle.isle_meaning.specs.Held.{Held, value}
use Rattle.isle_meaning.specs.Sites.{Site, bool_site, int_site, prim_site, argument, extractor_call, constructor_call, iterator}
use Rattle.isle_meaning.specs.Sites.{make_variant, match_variant, make_struct, extract_struct, make_some, match_some, match_tuple}
use Rattle.isle_meaning.specs.Sites.{Sites, no_sites, more_sites}
use Rattle.isle_blocks.specs.declared.ids.BindingId.{BindingId}
use Rattle.isle_blocks.specs.declared.binding.Binding.{Binding}
use Rattle.isle_blocks.specs.declared.binding.Binding.TheVariants as sites
use Rattle.isle_trees.specs.Answers.{Answers}

-- sites of numbers
abbrev pub trees_of : (ℕ → Site) → List BindingId → Sites
trees_of tree [] = no_sites
trees_of tree (x ∷ xs) = more_sites (tree x.0) (trees_of tree xs)

-- the tree of an entry, where its parts have these; a constant where there is none
abbrev pub tree_from : (Sym → List ℕ) → (ℕ → Site) → Option Binding → Site
tree_from name tree None = prim_site []
tree_from name tree (Some (sites.ConstBool val ty)) = bool_site val ty.0
tree_from name tree (Some (sites.ConstInt val ty)) = int_site val ty.0
tree_from name tree (Some (sites.ConstPrim val)) = prim_site (name val)
tree_from name tree (Some (sites.Argument index)) = argument index.0
tree_from name tree (Some (sites.Extractor term parameter)) = extractor_call term.0 (tree parameter.0)
tree_from name tree (Some (sites.Constructor term parameters instance)) = constructor_call term.0 (trees_of tree parameters) instance
tree_from name tree (Some (sites.Iterator source)) = iterator (tree source.0)
tree_from name tree (Some (sites.MakeVariant ty variant fields)) = make_variant ty.0 variant.0 (trees_of tree fields)
tree_from name tree (Some (sites.MatchVariant source variant field)) = match_variant (tree source.0) variant.0 field.0
tree_from name tree (Some (sites.MakeStruct ty fields)) = make_struct ty.0 (trees_of tree fields)
tree_from name tree (Some (sites.ExtractStruct source field)) = extract_struct (tree source.0) field.0
tree_from name tree (Some (sites.MakeSome inner)) = make_some (tree inner.0)
tree_from name tree (Some (sites.MatchSome source)) = match_some (tree source.0)
tree_from name tree (Some (sites.MatchTuple source field)) = match_tuple (tree source.0) field.0

-- to a depth, which a number's own tree doesn't exceed
abbrev pub tree_to : (Sym → List ℕ) → List Binding → ℕ → ℕ → Site
tree_to name table zero s = prim_site []
tree_to name table (suc n) s = tree_from name (tree_to name table n) (slice_get table s)

-- the tree of a number
abbrev pub tree_of : (Sym → List ℕ) → List Binding → ℕ → Site
tree_of name table s = tree_to name table (suc s) s

-- what a table's sites hold, under arguments, answers to pure calls, and the answers to impure calls so far
abbrev pub held_by : (Sym → List ℕ) → List Binding → TermFacts → Completion → Values → List (Option Value) → Answers Held
held_by name table facts c args done s = value facts c args done (tree_of name table s)
