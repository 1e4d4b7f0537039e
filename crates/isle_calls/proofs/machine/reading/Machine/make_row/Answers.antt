use Rattle.std.proofs.Common.{◌≡◌, List, [], refl, sym, ◌∙◌, ap, subst}
use Rattle.isle_blocks.specs.Building.Naming.{name_by}
use Rattle.isle_blocks.specs.Rows.{row_of, numbers_of}
use Rattle.isle_meaning.specs.Machine.Runs.{Env}
use Rattle.isle_meaning.specs.Numbered.{constructor_row, extractor_row}
use Rattle.isle_meaning.specs.Outcomes.{given, missing}
use Rattle.isle_meaning.specs.Values.{Value}
use Rattle.isle_meaning.specs.Worlds.{Event}
use Rattle.isle_program.specs.declared.program.Program.{Program}
use Rattle.isle_calls.specs.declared.store.Stored.{Stored}
use Rattle.isle_calls.specs.Inside.Blocks.Frames.{machined}
use Rattle.isle_calls.specs.Inside.Blocks.Reading.{IsBinding, BeginsSite, BeginsMade, TellsAnswer, TellsMade, CallHolds, AsksNothing}
use Rattle.isle_calls.specs.Calls.Answers.{HasMade}
use Rattle.isle_calls.specs.Calls.Open.{CallOf}
use Rattle.isle_calls.specs.Calls.States.{host, IsOpenIn}
use Rattle.isle_program.specs.Meanings.{checked}
use Rattle.isle_program.specs.Programs.{types_of}
use Rattle.isle_calls.specs.Stores.Values.{Stands}
use Rattle.isle_calls.proofs.OpenCalls.Made.{made_none, on_err}
use Rattle.isle_calls.proofs.TreeRoad.Making.{if_ok, if_err, asks_nothing, extractor_unreplied, asks_unreplied, awaited_unreplied, unreplied_made}
use Rattle.isle_calls.proofs.TreeRoad.Making.{unreplied_begins, begins_nothing, given_made, missing_made}
use Rattle.isle_calls.proofs.machine.reading.Machine.make_row.Goals as goal

pub returns-in-Extractor-clause-made : goal.returns-in-Extractor-clause-made
returns-in-Extractor-clause-made g c = if_ok
    (λ made. (k : CallOf) (env : Env) → IsOpenIn (host g.W.World.step g.W.World.constructs g.W.World.extracts) k
    (machined c.args.self.now c.args.world.now [])
    → (b : IsBinding k c.args.self.now.store c.args.frame.now env) → b.row ≡ extractor_row c.in-Extractor.term.0 c.in-Extractor.parameter.0
    → TellsAnswer k c.extract.new.self.store env b.row made [])
    (λ made. (k : CallOf) (env : Env) → IsOpenIn (host g.W.World.step g.W.World.constructs g.W.World.extracts) k
    (machined c.args.self.now c.args.world.now c.args.effects.now.items)
    → (b : IsBinding k c.args.self.now.store c.args.frame.now env)
    → b.row ≡ row_of (name_by (types_of c.args.self.now.program.now).names) c.args.binding.now → (events : List Event)
    × HasMade g.W.World.step c.args.self.now.program.now c.args.world.now c.args.effects.now.items c.args.world.now c.args.effects.now.items events
    × TellsMade k c.extract.new.self.store env b.replied b.row made events)
    c.extract.result c.extract.ensures.made (λ made told. λ k env o b at.
    let row : b.row ≡ extractor_row c.in-Extractor.term.0 c.in-Extractor.parameter.0 =
    at ∙ ap (row_of (name_by (types_of c.args.self.now.program.now).names)) c.in-Extractor.is in (
      [],
      made_none _ _ _ _,
      unreplied_made b c.extract.new.self.store made [] (extractor_unreplied b c.in-Extractor.term.0 c.in-Extractor.parameter.0 row)
          (told k env (record { of_program = o.of_program; in_world = o.in_world }) b row),
    ))

pub returns-in-Extractor-clause-lost : goal.returns-in-Extractor-clause-lost
returns-in-Extractor-clause-lost g c = on_err c.extract.result (λ k env o b at. ([], made_none _ _ _ _, begins_nothing b))

pub returns-in-Extractor-clause-goes_on : goal.returns-in-Extractor-clause-goes_on
returns-in-Extractor-clause-goes_on g c = record {
  program = c.extract.ensures.program;
  same = (refl, refl);
  made = ([], made_none _ _ _ _);
  kept = c.extract.ensures.kept;
}

pub returns-in-Given-clause-made : goal.returns-in-Given-clause-made
returns-in-Given-clause-made g c = if_ok
    (λ made. (stored : List Stored) (v : Value) → Stands stored v c.in-Given.number
    → CallHolds stored ((checked c.args.self.now.program.now).terms.partial c.in-Constructor.term.0) (given v) made)
    (λ made. (k : CallOf) (env : Env) → IsOpenIn (host g.W.World.step g.W.World.constructs g.W.World.extracts) k
    (machined c.args.self.now c.args.world.now c.args.effects.now.items)
    → (b : IsBinding k c.args.self.now.store c.args.frame.now env)
    → b.row ≡ row_of (name_by (types_of c.args.self.now.program.now).names) c.args.binding.now → (events : List Event)
    × HasMade g.W.World.step c.args.self.now.program.now c.args.world.now c.args.effects.now.items c.args.world.now c.args.effects.now.items events
    × TellsMade k c.args.self.now.store env b.replied b.row made events)
    c.given.result c.given.ensures (λ made told. λ k env o b at.
    let row : b.row ≡ constructor_row c.in-Constructor.term.0 (numbers_of c.in-Constructor.parameters) c.in-Constructor.instance =
    at ∙ ap (row_of (name_by (types_of c.args.self.now.program.now).names)) c.in-Constructor.is in (
      [],
      made_none _ _ _ _,
      given_made b c.in-Constructor.term.0 c.in-Constructor.instance c.in-Given.number (numbers_of c.in-Constructor.parameters) made row
          c.in-Given.is (λ v stands. subst (λ (p : Program). CallHolds c.args.self.now.store ((checked p).terms.partial c.in-Constructor.term.0)
          (given v) made)
          (sym o.of_program) (told c.args.self.now.store v stands)),
    ))

pub returns-in-Given-clause-lost : goal.returns-in-Given-clause-lost
returns-in-Given-clause-lost g c = on_err c.given.result (λ k env o b at. ([], made_none _ _ _ _, begins_nothing b))

pub returns-in-Missing-clause-made : goal.returns-in-Missing-clause-made
returns-in-Missing-clause-made g c = λ k env o b at.
    let row : b.row ≡ constructor_row c.in-Constructor.term.0 (numbers_of c.in-Constructor.parameters) c.in-Constructor.instance =
    at ∙ ap (row_of (name_by (types_of c.args.self.now.program.now).names)) c.in-Constructor.is in (
      [],
      made_none _ _ _ _,
      missing_made b c.in-Constructor.term.0 c.in-Constructor.instance (numbers_of c.in-Constructor.parameters) c.missing.result row
          c.in-Missing.is (subst (λ (p : Program). CallHolds c.args.self.now.store ((checked p).terms.partial c.in-Constructor.term.0)
          missing c.missing.result)
          (sym o.of_program) (c.missing.ensures c.args.self.now.store)),
    )

pub returns-in-Awaited-clause-made : goal.returns-in-Awaited-clause-made
returns-in-Awaited-clause-made g c = if_ok
    (λ made. (k : CallOf) (env : Env) → IsOpenIn (host g.W.World.step g.W.World.constructs g.W.World.extracts) k
    (machined c.args.self.now c.args.world.now c.args.effects.now.items)
    → (b : IsBinding k c.args.self.now.store c.args.frame.now env) → b.row ≡ constructor_row c.in-Constructor.term.0
    (numbers_of c.as_slice.result.now) c.in-Constructor.instance → (events : List Event)
    × HasMade g.W.World.step c.args.self.now.program.now c.args.world.now c.args.effects.now.items c.construct.new.world
    c.construct.new.effects.items events
    × TellsAnswer k c.construct.new.self.store env b.row made events)
    (λ made. (k : CallOf) (env : Env) → IsOpenIn (host g.W.World.step g.W.World.constructs g.W.World.extracts) k
    (machined c.args.self.now c.args.world.now c.args.effects.now.items)
    → (b : IsBinding k c.args.self.now.store c.args.frame.now env)
    → b.row ≡ row_of (name_by (types_of c.args.self.now.program.now).names) c.args.binding.now → (events : List Event)
    × HasMade g.W.World.step c.args.self.now.program.now c.args.world.now c.args.effects.now.items c.construct.new.world
    c.construct.new.effects.items events
    × TellsMade k c.construct.new.self.store env b.replied b.row made events)
    c.construct.result c.construct.ensures.made (λ made told. λ k env o b at.
    let row : b.row ≡ constructor_row c.in-Constructor.term.0 (numbers_of c.in-Constructor.parameters) c.in-Constructor.instance =
    at ∙ ap (row_of (name_by (types_of c.args.self.now.program.now).names)) c.in-Constructor.is in
    let here : b.row ≡ constructor_row c.in-Constructor.term.0 (numbers_of c.as_slice.result.now) c.in-Constructor.instance =
    row ∙ ap (λ l. constructor_row c.in-Constructor.term.0 (numbers_of l) c.in-Constructor.instance) (sym c.as_slice.ensures) in
    let (events, made_so, answer) = told k env o b here in
    (events, made_so, unreplied_made b c.construct.new.self.store made events (awaited_unreplied b c.in-Awaited.is) answer))

pub returns-in-Awaited-clause-lost : goal.returns-in-Awaited-clause-lost
returns-in-Awaited-clause-lost g c = if_err
    ((k : CallOf) (env : Env) → IsOpenIn (host g.W.World.step g.W.World.constructs g.W.World.extracts) k
    (machined c.args.self.now c.args.world.now c.args.effects.now.items)
    → (b : IsBinding k c.args.self.now.store c.args.frame.now env) → b.row ≡ constructor_row c.in-Constructor.term.0
    (numbers_of c.as_slice.result.now) c.in-Constructor.instance → (events : List Event)
    × HasMade g.W.World.step c.args.self.now.program.now c.args.world.now c.args.effects.now.items c.construct.new.world
    c.construct.new.effects.items events
    × BeginsSite k env b.row events)
    ((k : CallOf) (env : Env) → IsOpenIn (host g.W.World.step g.W.World.constructs g.W.World.extracts) k
    (machined c.args.self.now c.args.world.now c.args.effects.now.items)
    → (b : IsBinding k c.args.self.now.store c.args.frame.now env)
    → b.row ≡ row_of (name_by (types_of c.args.self.now.program.now).names) c.args.binding.now → (events : List Event)
    × HasMade g.W.World.step c.args.self.now.program.now c.args.world.now c.args.effects.now.items c.construct.new.world
    c.construct.new.effects.items events
    × BeginsMade k env b.replied b.row events)
    c.construct.result c.construct.ensures.lost (λ lost. λ k env o b at.
    let row : b.row ≡ constructor_row c.in-Constructor.term.0 (numbers_of c.in-Constructor.parameters) c.in-Constructor.instance =
    at ∙ ap (row_of (name_by (types_of c.args.self.now.program.now).names)) c.in-Constructor.is in
    let here : b.row ≡ constructor_row c.in-Constructor.term.0 (numbers_of c.as_slice.result.now) c.in-Constructor.instance =
    row ∙ ap (λ l. constructor_row c.in-Constructor.term.0 (numbers_of l) c.in-Constructor.instance) (sym c.as_slice.ensures) in
    let (events, made_so, begins) = lost k env o b here in
    (events, made_so, unreplied_begins b events (awaited_unreplied b c.in-Awaited.is) begins))

pub returns-in_default : goal.returns-in_default
returns-in_default g c = record {
  made = if_ok
      (λ made. (k : CallOf) (env : Env) → k.program ≡ c.args.self.now.program.now → (b : IsBinding k c.args.self.now.store c.args.frame.now env)
      → b.row ≡ row_of (name_by (types_of c.args.self.now.program.now).names) c.args.binding.now → AsksNothing b.row
      → TellsAnswer k c.put.new.self.store env b.row made [])
      (λ made. (k : CallOf) (env : Env) → IsOpenIn (host g.W.World.step g.W.World.constructs g.W.World.extracts) k
      (machined c.args.self.now c.args.world.now c.args.effects.now.items)
      → (b : IsBinding k c.args.self.now.store c.args.frame.now env)
      → b.row ≡ row_of (name_by (types_of c.args.self.now.program.now).names) c.args.binding.now → (events : List Event)
      × HasMade g.W.World.step c.args.self.now.program.now c.args.world.now c.args.effects.now.items c.args.world.now c.args.effects.now.items events
      × TellsMade k c.put.new.self.store env b.replied b.row made events)
      c.put.result c.put.ensures.made (λ made told. λ k env o b at.
      let nothing : AsksNothing b.row = subst AsksNothing (sym at)
      (asks_nothing (name_by (types_of c.args.self.now.program.now).names) c.args.binding.now c.in_default.not-Extractor
      c.in_default.not-Constructor) in
      ([], made_none _ _ _ _, unreplied_made b c.put.new.self.store made [] (asks_unreplied b nothing) (told k env o.of_program b at nothing)));
  lost = on_err c.put.result (λ k env o b at. ([], made_none _ _ _ _, begins_nothing b));
  goes_on = record {
    program = c.put.ensures.program;
    same = (refl, refl);
    made = ([], made_none _ _ _ _);
    kept = c.put.ensures.kept;
  };
}
