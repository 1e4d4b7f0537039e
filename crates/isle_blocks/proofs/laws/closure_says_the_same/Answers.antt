use Rattle.isle_blocks.proofs.Closure.Laws.{closure_says_the_same, unreachable_never_holds}
use Rattle.isle_blocks.proofs.laws.closure_says_the_same.Goals as goal

pub returns-clause-closed : goal.returns-clause-closed
returns-clause-closed c = closure_says_the_same

pub returns-clause-unreachable : goal.returns-clause-unreachable
returns-clause-unreachable c = unreachable_never_holds
