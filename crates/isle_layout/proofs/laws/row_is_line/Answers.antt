use Rattle.isle_layout.proofs.Keeping.ListLengths.{row_length, row_stays}
use Rattle.isle_layout.proofs.Keeping.Settling.{own_texts}
use Rattle.isle_layout.proofs.Keeping.ListsOnOneLine.{written_on_one_line}
use Rattle.isle_layout.proofs.laws.row_is_line.Goals as goal

pub returns-clause-length : goal.returns-clause-length
returns-clause-length c = row_length

pub returns-clause-stays : goal.returns-clause-stays
returns-clause-stays c = row_stays

pub returns-clause-written : goal.returns-clause-written
returns-clause-written c = written_on_one_line

pub returns-clause-parentheses : goal.returns-clause-parentheses
returns-clause-parentheses c = own_texts
