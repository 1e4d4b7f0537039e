-- What changes as a driver goes on.
use Rattle.std.proofs.Common.{◌≡◌, List, [], refl}
use Rattle.isle_calls.specs.declared.answer.Effect.{Effect}
use Rattle.isle_calls.specs.declared.store.Stored.{Stored}
use Rattle.isle_program.specs.declared.program.Program.{Program}
use Rattle.isle_calls.specs.Calls.States.{Host, State, state, HasGoneOn}
use Rattle.isle_calls.specs.Stores.Values.{Extends}
use Rattle.isle_calls.proofs.OpenCalls.Made.{made_none}
use Rattle.isle_calls.proofs.Stores.Values.{extends_again}

module _ {W : Type 0} (host : Host W) where
  -- where values were put in, nothing else changes
  pub gone_stored : (s : State W) {program : Program} {stored : List Stored} → program ≡ s.program → Extends s.stored stored
      → HasGoneOn host s (state program s.world s.effects stored)
  gone_stored s same kept = record {
    program = same;
    same = (refl, refl);
    made = ([], made_none host.step s.program s.world s.effects);
    kept = kept;
  }

  -- what goes on from there goes on from where fewer values were met
  pub gone_after : (program : Program) (world : W) (effects : List Effect) {old middle : List Stored} {t : State W} → Extends old middle
      → HasGoneOn host (state program world effects middle) t → HasGoneOn host (state program world effects old) t
  gone_after program world effects kept on =
      record { program = on.program; same = on.same; made = on.made; kept = extends_again kept on.kept }
