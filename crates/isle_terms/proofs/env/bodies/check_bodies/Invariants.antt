use Rattle.std.proofs.Common.{ℕ, List, take}
use Rattle.std.specs.Prelude.{All}
use Rattle.isle_terms.specs.Inside.Collecting.NameTables.{IsTableOf}
use Rattle.isle_terms.specs.Inside.Collecting.ExtractorChecks.{Adds}
use Rattle.isle_terms.proofs.Collections.AddedErrors.{SomeBreaks}
use Rattle.isle_terms.proofs.Collections.ExtractorBodies.{BreaksIn, KeepsIn}
use Rattle.isle_terms.proofs.env.bodies.check_bodies.Given as goal

abbrev pub invariant-loop-extractor : goal.invariant-loop-extractor
invariant-loop-extractor l = (names : List (List ℕ)) → IsTableOf names l.known
    → Adds (SomeBreaks (BreaksIn names) l.extractors) (All (KeepsIn names) (take l.extractor-index l.extractors)) l.fn.errors.items l.errors.items
