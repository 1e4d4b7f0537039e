-- The names of the files so far, and what they took of the input.
use Rattle.std.proofs.Common.{◌≡◌, map}
use Rattle.isle_ast.specs.Positions.Files.{source_file}
use Rattle.islec.specs.Inputs.{ReadsFiles}
use Rattle.islec.proofs.program.read_texts.Given as goal

abbrev pub invariant-loop-name : goal.invariant-loop-name
invariant-loop-name g l = record {
  named : map (λ text. text.0) l.texts.items ≡ l.yielded;
  inputs : ReadsFiles (g.S.Sources.gives l.sources) l.reads_input (map source_file l.texts.items)
      (g.I.Read.remaining l.initial.input) (g.I.Read.remaining l.input);
}
