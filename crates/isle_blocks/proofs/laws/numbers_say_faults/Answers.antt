use Rattle.isle_blocks.proofs.ClosedRules.{numbers_say_differ, numbers_say_within}
use Rattle.isle_blocks.proofs.ClosedEqualities.{numbers_say_free, numbers_say_count, numbers_say_total}
use Rattle.isle_blocks.proofs.ClosedEqualities.{numbers_say_subset, numbers_say_overlaps, numbers_say_shadows}
use Rattle.isle_blocks.proofs.laws.numbers_say_faults.Goals as goal

pub returns-clause-differ : goal.returns-clause-differ
returns-clause-differ c = numbers_say_differ

pub returns-clause-within : goal.returns-clause-within
returns-clause-within c = numbers_say_within

pub returns-clause-free : goal.returns-clause-free
returns-clause-free c = numbers_say_free

pub returns-clause-counts : goal.returns-clause-counts
returns-clause-counts c = numbers_say_count

pub returns-clause-total : goal.returns-clause-total
returns-clause-total c = numbers_say_total

pub returns-clause-subset : goal.returns-clause-subset
returns-clause-subset c = numbers_say_subset

pub returns-clause-overlaps : goal.returns-clause-overlaps
returns-clause-overlaps c = numbers_say_overlaps

pub returns-clause-shadows : goal.returns-clause-shadows
returns-clause-shadows c = numbers_say_shadows
