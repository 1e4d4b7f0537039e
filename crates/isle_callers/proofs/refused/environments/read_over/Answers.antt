use Rattle.isle_terms.proofs.PlainTemplates.{plain_templates}
use Rattle.isle_callers.proofs.refused.environments.read_over.Goals as goal

pub from_ast-requires : goal.from_ast-requires
from_ast-requires c = record { environment = c.in_ok-types.ensures; plain = plain_templates c.args.defs.now c.requires }
