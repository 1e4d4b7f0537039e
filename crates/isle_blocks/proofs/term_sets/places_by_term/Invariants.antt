use Rattle.std.proofs.Common.{◌≡◌, ℕ, Some, Vec, length, slice_get}
use Rattle.std.specs.Global.{Global}
use Rattle.isle_blocks.specs.DefinedSets.{ListsNumbers}
use Rattle.isle_blocks.specs.Inside.GatheredSets.{IsOfTerm}
use Rattle.isle_blocks.proofs.Sets.ListedNumbers.{Below}
use Rattle.isle_blocks.proofs.term_sets.places_by_term.Given as goal

abbrev pub invariant-loop-place : goal.invariant-loop-place
invariant-loop-place l = (length l.places.items ≡ l.terms)
    × ((term : ℕ) (own : Vec ℕ Global) → slice_get l.places.items term ≡ Some own → ListsNumbers (Below (IsOfTerm l.rules term) l.place) own.items)
