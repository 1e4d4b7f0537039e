use Rattle.std.proofs.Common.{◌≡◌, Option, Some, ℕ, true, false, sym, ◌∙◌, ap, subst}
use Rattle.isle_meaning.specs.Held.{plain}
use Rattle.isle_program.specs.declared.program.Program.{Program}
use Rattle.isle_calls.specs.Inside.Blocks.Holdings.{TellsNumber}
use Rattle.isle_calls.specs.Calls.Answers.{answers_in}
use Rattle.isle_program.specs.Meanings.{checked}
use Rattle.isle_calls.proofs.TreeRoad.Making.{held_there, ExtractTold, number_there, number_never, extract_told, outputs_always, outputs_maybe}
use Rattle.isle_calls.proofs.TreeRoad.Making.{missing_always, missing_maybe, outputs_ill_typed}
use Rattle.isle_calls.proofs.machine.reading.Machine.extract.Goals as goal

pub returns-in_default-clause-made : goal.returns-in_default-clause-made
returns-in_default-clause-made g c = λ k env o b is.
    let told = number_there b c.args.self.now.program.now o.of_program c.number.new.self.store c.args.parameter.0 c.in_ok-number.field-0
    c.in_ok-number.ensures.told in
    absurd (number_never b c.number.new.self.store c.args.term.0 c.args.parameter.0 is
    (subst (λ (x : Option ℕ). TellsNumber c.number.new.self.store x (plain (held_there b c.args.parameter.0))) c.in_default.is told))

pub returns-then-infallible-clause-made : goal.returns-then-infallible-clause-made
returns-then-infallible-clause-made g c = λ k env o b is.
    let program = c.number.new.self.program.now in
    let same : k.program ≡ program = o.of_program ∙ sym c.in_ok-number.ensures.program in
    let constructs = g.W.World.constructs c.args.world.now in let extracts = g.W.World.extracts c.args.world.now in
    let world : k.answers ≡ answers_in program constructs extracts = o.in_world
    ∙ ap (λ (p : Program). answers_in p constructs extracts) (sym c.in_ok-number.ensures.program) in
    let middle = c.number.new.self.store in let new = c.ask_extractor.new.store in let u = c.args.term.0 in let j = c.args.parameter.0 in
    let number : TellsNumber middle (Some c.in-Some.number) (plain (held_there b j)) =
    subst (λ (x : Option ℕ). TellsNumber middle x (plain (held_there b j))) c.in-Some.is
    (number_there b c.args.self.now.program.now o.of_program middle j c.in_ok-number.field-0 c.in_ok-number.ensures.told) in
    let told : ExtractTold b new u j c.in_ok-told.told = extract_told b program (answers_in program constructs extracts) same world middle new u j
    c.in-Some.number c.in_ok-told.told is number c.in_ok-told.ensures.asked in
    let flag : (checked k.program).terms.infallible u ≡ true =
    subst (λ (p : Program). (checked p).terms.infallible u ≡ true) (sym same) (sym c.never_fails-infallible.ensures ∙ c.if-infallible.true) in
    outputs_always b new u j c.in-Gives.numbers c.outputs-held.result is flag (subst (ExtractTold b new u j) c.in-Gives.is told)
    (λ vs stand. c.outputs-held.ensures new vs stand)

pub returns-in_ok-in_option-in-Gives-clause-made : goal.returns-in_ok-in_option-in-Gives-clause-made
returns-in_ok-in_option-in-Gives-clause-made g c = λ k env o b is.
    let program = c.number.new.self.program.now in
    let same : k.program ≡ program = o.of_program ∙ sym c.in_ok-number.ensures.program in
    let constructs = g.W.World.constructs c.args.world.now in let extracts = g.W.World.extracts c.args.world.now in
    let world : k.answers ≡ answers_in program constructs extracts = o.in_world
    ∙ ap (λ (p : Program). answers_in p constructs extracts) (sym c.in_ok-number.ensures.program) in
    let middle = c.number.new.self.store in let new = c.ask_extractor.new.store in let u = c.args.term.0 in let j = c.args.parameter.0 in
    let number : TellsNumber middle (Some c.in-Some.number) (plain (held_there b j)) =
    subst (λ (x : Option ℕ). TellsNumber middle x (plain (held_there b j))) c.in-Some.is
    (number_there b c.args.self.now.program.now o.of_program middle j c.in_ok-number.field-0 c.in_ok-number.ensures.told) in
    let told : ExtractTold b new u j c.in_ok-told.told = extract_told b program (answers_in program constructs extracts) same world middle new u j
    c.in-Some.number c.in_ok-told.told is number c.in_ok-told.ensures.asked in
    let flag : (checked k.program).terms.infallible u ≡ false =
    subst (λ (p : Program). (checked p).terms.infallible u ≡ false) (sym same) (sym c.never_fails-infallible.ensures ∙ c.if-infallible.false) in
    outputs_maybe b new u j c.in-Gives.numbers c.outputs-held.result c.in_ok-in_option-in-Gives.field-0 is flag
    (subst (ExtractTold b new u j) c.in-Gives.is told) (λ vs stand. c.outputs-held.ensures new vs stand)
    (λ h holds. c.in_ok-in_option-in-Gives.ensures new h holds)

pub returns-then-infallible-2-clause-made : goal.returns-then-infallible-2-clause-made
returns-then-infallible-2-clause-made g c = λ k env o b is.
    let program = c.number.new.self.program.now in
    let same : k.program ≡ program = o.of_program ∙ sym c.in_ok-number.ensures.program in
    let constructs = g.W.World.constructs c.args.world.now in let extracts = g.W.World.extracts c.args.world.now in
    let world : k.answers ≡ answers_in program constructs extracts = o.in_world
    ∙ ap (λ (p : Program). answers_in p constructs extracts) (sym c.in_ok-number.ensures.program) in
    let middle = c.number.new.self.store in let new = c.ask_extractor.new.store in let u = c.args.term.0 in let j = c.args.parameter.0 in
    let number : TellsNumber middle (Some c.in-Some.number) (plain (held_there b j)) =
    subst (λ (x : Option ℕ). TellsNumber middle x (plain (held_there b j))) c.in-Some.is
    (number_there b c.args.self.now.program.now o.of_program middle j c.in_ok-number.field-0 c.in_ok-number.ensures.told) in
    let told : ExtractTold b new u j c.in_ok-told.told = extract_told b program (answers_in program constructs extracts) same world middle new u j
    c.in-Some.number c.in_ok-told.told is number c.in_ok-told.ensures.asked in
    let flag : (checked k.program).terms.infallible u ≡ true =
    subst (λ (p : Program). (checked p).terms.infallible u ≡ true) (sym same) (sym c.never_fails-infallible.ensures ∙ c.if-infallible-2.true) in
    missing_always b new u j is flag (subst (ExtractTold b new u j) c.in-Missing.is told)

pub returns-else-infallible-2-clause-made : goal.returns-else-infallible-2-clause-made
returns-else-infallible-2-clause-made g c = λ k env o b is.
    let program = c.number.new.self.program.now in
    let same : k.program ≡ program = o.of_program ∙ sym c.in_ok-number.ensures.program in
    let constructs = g.W.World.constructs c.args.world.now in let extracts = g.W.World.extracts c.args.world.now in
    let world : k.answers ≡ answers_in program constructs extracts = o.in_world
    ∙ ap (λ (p : Program). answers_in p constructs extracts) (sym c.in_ok-number.ensures.program) in
    let middle = c.number.new.self.store in let new = c.ask_extractor.new.store in let u = c.args.term.0 in let j = c.args.parameter.0 in
    let number : TellsNumber middle (Some c.in-Some.number) (plain (held_there b j)) =
    subst (λ (x : Option ℕ). TellsNumber middle x (plain (held_there b j))) c.in-Some.is
    (number_there b c.args.self.now.program.now o.of_program middle j c.in_ok-number.field-0 c.in_ok-number.ensures.told) in
    let told : ExtractTold b new u j c.in_ok-told.told = extract_told b program (answers_in program constructs extracts) same world middle new u j
    c.in-Some.number c.in_ok-told.told is number c.in_ok-told.ensures.asked in
    let flag : (checked k.program).terms.infallible u ≡ false =
    subst (λ (p : Program). (checked p).terms.infallible u ≡ false) (sym same) (sym c.never_fails-infallible.ensures ∙ c.if-infallible-2.false) in
    missing_maybe b new u j c.nothing.result is flag (subst (ExtractTold b new u j) c.in-Missing.is told) (c.nothing.ensures new)

pub returns-in-IllTyped-clause-made : goal.returns-in-IllTyped-clause-made
returns-in-IllTyped-clause-made g c = λ k env o b is.
    let program = c.number.new.self.program.now in
    let same : k.program ≡ program = o.of_program ∙ sym c.in_ok-number.ensures.program in
    let constructs = g.W.World.constructs c.args.world.now in let extracts = g.W.World.extracts c.args.world.now in
    let world : k.answers ≡ answers_in program constructs extracts = o.in_world
    ∙ ap (λ (p : Program). answers_in p constructs extracts) (sym c.in_ok-number.ensures.program) in
    let middle = c.number.new.self.store in let new = c.ask_extractor.new.store in let u = c.args.term.0 in let j = c.args.parameter.0 in
    let number : TellsNumber middle (Some c.in-Some.number) (plain (held_there b j)) =
    subst (λ (x : Option ℕ). TellsNumber middle x (plain (held_there b j))) c.in-Some.is
    (number_there b c.args.self.now.program.now o.of_program middle j c.in_ok-number.field-0 c.in_ok-number.ensures.told) in
    let told : ExtractTold b new u j c.in_ok-told.told = extract_told b program (answers_in program constructs extracts) same world middle new u j
    c.in-Some.number c.in_ok-told.told is number c.in_ok-told.ensures.asked in
    outputs_ill_typed b new u j c.in-IllTyped.term c.in-IllTyped.args is (subst (ExtractTold b new u j) c.in-IllTyped.is told)
