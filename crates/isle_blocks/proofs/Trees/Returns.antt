-- What the nodes of a block return.
use Rattle.std.proofs.Common.{◌≡◌, ℕ, suc, zero, List, [], ◌∷◌, ◌++◌, Option, None, Some, slice_get, Contains, ap, ◌∙◌, arith}
use Rattle.std.specs.List.{cons_option}
use Rattle.std.specs.Option.{ForSome}
use Rattle.std.proofs.lemmas.List.{append-nil}
use Rattle.std.proofs.lemmas.List.Elements.{filter_map-append}
use Rattle.isle_blocks.specs.declared.serializer.node.Node.{Node}
use Rattle.isle_blocks.specs.Trees.Shown.{Returned, return_of, returns_of}

-- what is behind the first item is in the list
behind : (r x : Returned) (xs : List Returned) → Contains xs r → Contains (x ∷ xs) r
behind r x xs (k, within, is) = (suc k, omega arith, is)

behind_option : (r : Returned) (o : Option Returned) (xs : List Returned) → Contains xs r → Contains (cons_option o xs) r
behind_option r None xs c = c
behind_option r (Some x) xs c = behind r x xs c

first_option : (r : Returned) (o : Option Returned) (xs : List Returned) → o ≡ Some r → Contains (cons_option o xs) r
first_option r None xs e = cc
first_option r (Some x) xs e = let f : x ≡ r = cc in (zero, omega arith, f)

-- what a node of the block returns is one of the block's returns
pub returned_by : (nodes : List Node) (at : ℕ) (node : Node) → slice_get nodes at ≡ Some node
    → ForSome (return_of node) (Contains (returns_of nodes))
returned_by [] at node e r f = cc
returned_by (x ∷ xs) zero node e r f =
    let same : x ≡ node = cc in first_option r (return_of x) (returns_of xs) (ap return_of same ∙ f)
returned_by (x ∷ xs) (suc at) node e r f = behind_option r (return_of x) (returns_of xs) (returned_by xs at node e r f)
