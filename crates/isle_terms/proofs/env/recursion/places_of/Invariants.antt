use Rattle.std.proofs.Common.{◌≡◌, ◌<◌, ℕ, List, Some, map, Bor}
use Rattle.std.specs.Prelude.{slice_get}
use Rattle.std.specs.Str.{bytes_eq}
use Rattle.isle_ast.specs.declared.ast.Extractor.{Extractor as ExtractorTree}
use Rattle.isle_containers.specs.StableMaps.{value_at}
use Rattle.isle_terms.specs.Inside.Collecting.ExtractorGraphs.{extracted}
use Rattle.isle_terms.proofs.env.recursion.places_of.Given as goal

abbrev pub invariant-loop-place : goal.invariant-loop-place
invariant-loop-place l = record {
  found : (name : List ℕ) (place : ℕ) → value_at bytes_eq l.places name ≡ Some place
      → slice_get (extracted (map (λ (extractor : Bor ExtractorTree). extractor.now) l.extractors)) place ≡ Some name;
  known : (name : List ℕ) (place : ℕ) → place < l.place
      → slice_get (extracted (map (λ (extractor : Bor ExtractorTree). extractor.now) l.extractors)) place ≡ Some name
      → (later : ℕ) × (value_at bytes_eq l.places name ≡ Some later);
}
