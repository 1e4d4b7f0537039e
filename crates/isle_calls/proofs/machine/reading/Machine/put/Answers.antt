use Rattle.std.proofs.Common.{◌≡◌, [], true, false, refl, sym, ◌∙◌, subst}
use Rattle.isle_blocks.specs.Building.Naming.{name_by}
use Rattle.isle_blocks.specs.Rows.{row_of}
use Rattle.isle_meaning.specs.Machine.Runs.{is_computed}
use Rattle.isle_calls.specs.declared.machine.binding.Made.{Made}
use Rattle.isle_calls.specs.Inside.Blocks.Reading.{TellsAnswer}
use Rattle.isle_program.specs.Programs.{types_of}
use Rattle.isle_calls.proofs.TreeRoad.Making.{computed_there, made_there, put_told}
use Rattle.isle_calls.proofs.machine.reading.Machine.put.Goals as goal

pub returns-in_ok-held-clause-made : goal.returns-in_ok-held-clause-made
returns-in_ok-held-clause-made c = λ k env same b is n.
    let program = c.args.self.now.program.now in
    let row = row_of (name_by (types_of program).names) c.args.binding.now in
    let flag : is_computed row ≡ true = sym (c.is_computed.ensures (name_by (types_of program).names)) ∙ c.if-is_computed.true in
    let told = c.in_ok-held.ensures.told (name_by (types_of program).names) refl flag in
    subst (λ (m : Made). TellsAnswer k c.compute.new.self.store env b.row m []) (sym c.held_or_missing.ensures)
    (put_told b c.compute.new.self.store c.in_ok-held.held n (computed_there b c.compute.new.self.store row c.in_ok-held.held is flag told))

pub returns-in_ok-held-2-clause-made : goal.returns-in_ok-held-2-clause-made
returns-in_ok-held-2-clause-made c = λ k env same b is n.
    let program = c.args.self.now.program.now in
    let row = row_of (name_by (types_of program).names) c.args.binding.now in
    let flag : is_computed row ≡ false = sym (c.is_computed.ensures (name_by (types_of program).names)) ∙ c.if-is_computed.false in
    let told = c.in_ok-held-2.ensures.told (name_by (types_of program).names) refl flag in
    subst (λ (m : Made). TellsAnswer k c.made.new.self.store env b.row m []) (sym c.held_or_missing-else-is_computed.ensures)
    (put_told b c.made.new.self.store c.in_ok-held-2.held n (made_there b program same c.made.new.self.store row c.in_ok-held-2.held is told))
