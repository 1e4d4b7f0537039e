use Rattle.std.proofs.Common.{◌≡◌, List, Some, sym, ◌∙◌, slice_get}
use Rattle.isle_blocks.specs.Building.Naming.{name_by}
use Rattle.isle_blocks.specs.Rows.{row_of}
use Rattle.isle_meaning.specs.Machine.Runs.{Env}
use Rattle.isle_meaning.specs.Worlds.{Event}
use Rattle.isle_calls.specs.Inside.Blocks.Frames.{machined}
use Rattle.isle_calls.specs.Inside.Blocks.Reading.{IsBinding, BeginsMade, TellsMade}
use Rattle.isle_calls.specs.Calls.Answers.{HasMade}
use Rattle.isle_calls.specs.Calls.Open.{CallOf}
use Rattle.isle_calls.specs.Calls.States.{host, IsOpenIn}
use Rattle.isle_program.specs.Programs.{types_of}
use Rattle.std.proofs.lemmas.Option.{slice_get_past}
use Rattle.isle_calls.proofs.TreeRoad.Making.{if_ok, if_err, row_at, row_never}
use Rattle.isle_calls.proofs.Places.{item_there}
use Rattle.isle_calls.proofs.machine.reading.Machine.make.Goals as goal

pub returns-in-Some-clause-made : goal.returns-in-Some-clause-made
returns-in-Some-clause-made g c = if_ok
    (λ made. (k : CallOf) (env : Env) → IsOpenIn (host g.W.World.step g.W.World.constructs g.W.World.extracts) k
    (machined c.args.self.now c.args.world.now c.args.effects.now.items)
    → (b : IsBinding k c.args.self.now.store c.args.frame.now env)
    → b.row ≡ row_of (name_by (types_of c.args.self.now.program.now).names) c.in-Some.binding.now → (events : List Event)
    × HasMade g.W.World.step c.args.self.now.program.now c.args.world.now c.args.effects.now.items c.make_row.new.world
    c.make_row.new.effects.items events
    × TellsMade k c.make_row.new.self.store env b.replied b.row made events)
    (λ made. (k : CallOf) (env : Env) → IsOpenIn (host g.W.World.step g.W.World.constructs g.W.World.extracts) k
    (machined c.args.self.now c.args.world.now c.args.effects.now.items)
    → (b : IsBinding k c.args.self.now.store c.args.frame.now env) → b.site ≡ c.args.site.0 → (events : List Event)
    × HasMade g.W.World.step c.args.self.now.program.now c.args.world.now c.args.effects.now.items c.make_row.new.world
    c.make_row.new.effects.items events
    × TellsMade k c.make_row.new.self.store env b.replied b.row made events)
    c.make_row.result c.make_row.ensures.made (λ made told. λ k env o b at.
    let there : slice_get c.args.frame.now.sites.now c.index.result ≡ Some c.in-Some.binding.now =
    item_there c.args.frame.now.sites.now c.index.result c.in-Some.binding.now (c.in-Some.ensures.lookup.3.0) (c.in-Some.ensures.lookup.1) in
    let row = row_at b c.args.self.now.program.now o.of_program c.index.result (at ∙ sym c.index.ensures) c.in-Some.binding.now there in
    told k env o b row)

pub returns-in-Some-clause-lost : goal.returns-in-Some-clause-lost
returns-in-Some-clause-lost g c = if_err
    ((k : CallOf) (env : Env) → IsOpenIn (host g.W.World.step g.W.World.constructs g.W.World.extracts) k
    (machined c.args.self.now c.args.world.now c.args.effects.now.items)
    → (b : IsBinding k c.args.self.now.store c.args.frame.now env)
    → b.row ≡ row_of (name_by (types_of c.args.self.now.program.now).names) c.in-Some.binding.now → (events : List Event)
    × HasMade g.W.World.step c.args.self.now.program.now c.args.world.now c.args.effects.now.items c.make_row.new.world
    c.make_row.new.effects.items events
    × BeginsMade k env b.replied b.row events)
    ((k : CallOf) (env : Env) → IsOpenIn (host g.W.World.step g.W.World.constructs g.W.World.extracts) k
    (machined c.args.self.now c.args.world.now c.args.effects.now.items)
    → (b : IsBinding k c.args.self.now.store c.args.frame.now env) → b.site ≡ c.args.site.0 → (events : List Event)
    × HasMade g.W.World.step c.args.self.now.program.now c.args.world.now c.args.effects.now.items c.make_row.new.world
    c.make_row.new.effects.items events
    × BeginsMade k env b.replied b.row events)
    c.make_row.result c.make_row.ensures.lost (λ lost. λ k env o b at.
    let there : slice_get c.args.frame.now.sites.now c.index.result ≡ Some c.in-Some.binding.now =
    item_there c.args.frame.now.sites.now c.index.result c.in-Some.binding.now (c.in-Some.ensures.lookup.3.0) (c.in-Some.ensures.lookup.1) in
    let row = row_at b c.args.self.now.program.now o.of_program c.index.result (at ∙ sym c.index.ensures) c.in-Some.binding.now there in
    lost k env o b row)

pub returns-in-None-clause-made : goal.returns-in-None-clause-made
returns-in-None-clause-made g c = λ k env o b at. absurd (row_never b c.args.self.now.program.now o.of_program c.index.result
    (at ∙ sym c.index.ensures)
    (slice_get_past c.args.frame.now.sites.now c.index.result c.in-None.ensures.lookup.3))
