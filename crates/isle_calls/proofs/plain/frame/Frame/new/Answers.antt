use Rattle.std.proofs.Common.{rules, refl, sym, subst}
use Rattle.isle_program.specs.Meanings.{checked}
use Rattle.isle_meaning.specs.PlainRuns.{AreTriedInOrder}
use Rattle.isle_calls.proofs.PlainRoad.Frames.Next.{new_frame}
use Rattle.isle_calls.proofs.plain.frame.Frame.new.Goals as goal

pub returns : goal.returns
returns c = λ k stored of_program of_depth of_term stand typed may.
    let made = new_frame k c.args.program.now c.rules_of.result.now of_program
    (subst (λ t. AreTriedInOrder (checked c.args.program.now) t c.rules_of.result.now) (sym of_term) c.rules_of.ensures) in
    record {
      for_call = record {
        depth = sym of_depth;
        term = sym of_term;
        stand = stand;
        typed = typed;
        may = may;
        few = search rules;
        listed = made.0;
      };
      goes = (refl, made.1);
    }
