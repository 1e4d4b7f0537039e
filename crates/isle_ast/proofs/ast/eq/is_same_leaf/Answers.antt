use Rattle.std.proofs.Common.{rules}
use Rattle.isle_ast.proofs.ast.eq.is_same_leaf.Goals as goal

pub returns-then-eq : goal.returns-then-eq
returns-then-eq c = search rules

pub returns-else-eq : goal.returns-else-eq
returns-else-eq c = search rules

pub returns-then-m-n : goal.returns-then-m-n
returns-then-m-n c = search rules

pub returns-else-m-n : goal.returns-else-m-n
returns-else-m-n c = search rules

pub returns-then-x-y : goal.returns-then-x-y
returns-then-x-y c = search rules

pub returns-else-x-y : goal.returns-else-x-y
returns-else-x-y c = search rules

pub returns-then-eq-2 : goal.returns-then-eq-2
returns-then-eq-2 c = search rules

pub returns-else-eq-2 : goal.returns-else-eq-2
returns-else-eq-2 c = search rules

pub returns-in-Wildcard-Wildcard : goal.returns-in-Wildcard-Wildcard
returns-in-Wildcard-Wildcard c = search rules

pub returns-then-m-n-3 : goal.returns-then-m-n-3
returns-then-m-n-3 c = search rules

pub returns-else-m-n-3 : goal.returns-else-m-n-3
returns-else-m-n-3 c = search rules

pub returns-in_default : goal.returns-in_default
returns-in_default c = search rules

pub returns-in_default-2 : goal.returns-in_default-2
returns-in_default-2 c = search rules

pub returns-in_default-3 : goal.returns-in_default-3
returns-in_default-3 c = search rules

pub returns-in_default-4 : goal.returns-in_default-4
returns-in_default-4 c = search rules

pub returns-in_default-5 : goal.returns-in_default-5
returns-in_default-5 c = search rules

pub returns-in_default-6 : goal.returns-in_default-6
returns-in_default-6 c = search rules

pub returns-in_default-7 : goal.returns-in_default-7
returns-in_default-7 c = search rules
