-- The lines so far are answered, of which an end is kept back.
use Rattle.std.proofs.Common.{◌≡◌, string_bytes}
use Rattle.islec.specs.Replies.{setting_in}
use Rattle.islec.specs.Serving.{some_refused}
use Rattle.islec.proofs.ServingLemmas.{IsServing}
use Rattle.islec.proofs.serve.serve_lines.Given as goal

abbrev pub invariant-loop : goal.invariant-loop
invariant-loop g l =
    (g.V.World.constructs l.world ≡ g.V.World.constructs l.initial.world) × (g.V.World.extracts l.world ≡ g.V.World.extracts l.initial.world)
    × (l.watch.files.now ≡ l.initial.watch.files.now)
    × IsServing (setting_in g.V.World.step l.program l.initial.watch.files.now (g.V.World.constructs l.initial.world)
    (g.V.World.extracts l.initial.world) l.manner)
    l.initial.world (g.B.Read.remaining l.initial.input) (g.B.Read.remaining l.input) (g.W.Write.contents l.initial.writer)
    (g.W.Write.contents l.writer) (string_bytes l.unwritten) (some_refused l.served) l.world
