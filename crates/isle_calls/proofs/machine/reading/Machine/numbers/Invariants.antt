-- The numbers so far are those of the values of the sites before; nothing that is stored is lost.
use Rattle.std.proofs.Common.{◌≡◌, take}
use Rattle.isle_meaning.specs.Machine.Runs.{Env, values_at, read}
use Rattle.isle_meaning.specs.Values.{Values}
use Rattle.isle_blocks.specs.Rows.{numbers_of}
use Rattle.isle_calls.specs.Inside.Blocks.Frames.{rows_in}
use Rattle.isle_calls.specs.Inside.Blocks.Reading.{IsAround}
use Rattle.isle_calls.specs.Stores.Values.{Extends}
use Rattle.isle_calls.proofs.TreeRoad.Reading.{AreNumbersOf}
use Rattle.isle_calls.proofs.machine.reading.Machine.numbers.Given as goal

abbrev pub invariant-loop-site : goal.invariant-loop-site
invariant-loop-site l = record {
  kept : Extends l.fn.self.store l.self.store;
  program : l.self.program.now ≡ l.fn.self.program.now;
  told : (args : Values) (env : Env) → IsAround l.fn.self.store l.frame args env
      → AreNumbersOf l.self.store l.numbers.items (values_at (read (rows_in l.fn.self.program.now l.frame.sites.now) args env)
      (numbers_of (take l.site-index l.sites)));
}
