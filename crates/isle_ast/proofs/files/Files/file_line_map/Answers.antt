use Rattle.isle_ast.proofs.Positions.LineStarts.{counts_of_file}
use Rattle.isle_ast.proofs.files.Files.file_line_map.Goals as goal

pub returns-clause-counts : goal.returns-clause-counts
returns-clause-counts c = counts_of_file _ c.in_ok-file.field-0.now _ c.in_ok-file.ensures c.line_map.ensures
