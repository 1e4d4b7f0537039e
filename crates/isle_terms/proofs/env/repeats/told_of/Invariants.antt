use Rattle.isle_terms.proofs.Collections.ToldErrors.{Telling}
use Rattle.isle_terms.proofs.env.repeats.told_of.Given as goal

abbrev pub invariant-loop-error : goal.invariant-loop-error
invariant-loop-error l = Telling l.yielded l.told.items l.met
