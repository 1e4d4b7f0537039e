use Rattle.std.proofs.Common.{sym}
use Rattle.isle_terms.proofs.Steps.SymNames.{named_by, symbol_below}
use Rattle.isle_terms.proofs.translate.names.known_constant.Goals as goal

pub returns-clause-name : goal.returns-clause-name
returns-clause-name c = named_by _ _ c.in_ok-sym.sym (sym c.in_ok-sym.ensures)

pub returns-clause-interned : goal.returns-clause-interned
returns-clause-interned c = symbol_below _ _ c.in_ok-sym.sym (sym c.in_ok-sym.ensures)
