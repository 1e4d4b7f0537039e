use Rattle.std.proofs.Common.{refl}
use Rattle.isle_terms.proofs.PlainTemplates.{plain_templates}
use Rattle.isle_blocks.specs.DefinedSets.{AreDefined}
use Rattle.isle_blocks.proofs.FewArguments.{few_arguments}
use Rattle.isle_callers.proofs.counts.environments.Goals as goal

pub from_ast-requires-2 : goal.from_ast-requires-2
from_ast-requires-2 c = record {
  environment = c.in-Ok-from_ast.ensures.made;
  plain = plain_templates c.as_slice-defs.result.now (rw c.as_slice-defs.ensures.value c.in-Ok.ensures.no_macro_args);
}

pub returns : goal.returns
returns c =
    let made = c.in-Ok-from_ast.ensures.made in
    let shows = c.in-Ok-from_ast-2.ensures.made made.environment made.shows in
    let defs = c.as_slice-defs.result.now in
    let defined : AreDefined c.in-Ok-from_ast-2.termenv = record {
      tyenv = c.from_ast-2.new.tyenv;
      types = made.environment;
      levels = 4096;
      max = 1048576;
      defs = defs;
      once = c.syms-names.ensures.once;
      shows = shows;
      few =
          few_arguments c.from_ast-2.new.tyenv c.in-Ok-from_ast-2.termenv made.environment 4096 1048576 defs made.makes
          c.in-Ok-from_ast.ensures.within shows;
    } in
    record { defined = defined; known = (defined, refl) }
