use Rattle.std.proofs.Common.{List, subst}
use Rattle.isle_types.specs.declared.ids.TermId.{TermId}
use Rattle.isle_blocks.specs.RuleSets.{RulesOverSites}
use Rattle.isle_program.specs.Facts.Asked.{AreNumbersOf}
use Rattle.isle_program.proofs.program.Program.new.Goals as goal

pub invariant_of-result : goal.invariant_of-result
invariant_of-result c = record {
  numbered = ∣ subst (λ (sets : List (TermId × RulesOverSites)). AreNumbersOf c.args.tyenv c.args.termenv sets c.in_ok-known.known.numbers)
      c.as_slice.ensures.value c.in_ok-known.ensures.numbered ∣₁;
  ordered = ∣ c.in_ok-known.ensures.listed ∣₁;
  laid_out = ∣ c.in_ok-known.ensures.laid_out ∣₁;
  sound = ∣ c.requires.sound ∣₁;
}
