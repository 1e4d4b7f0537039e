use Rattle.isle_program.proofs.Compiling.Layers.{defined_files}
use Rattle.isle_program.proofs.faulty.read_again.Goals as goal

pub build-requires : goal.build-requires
build-requires c =
    let made = c.in_ok-types.field-0 in
    record { defined = defined_files c.args.files.now made.types made.terms c.in_ok-types.ensures.shown }
