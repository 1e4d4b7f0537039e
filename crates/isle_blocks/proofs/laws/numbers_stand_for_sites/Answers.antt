use Rattle.isle_blocks.proofs.Sets.SetLaws.{numbers_stand, sites_once}
use Rattle.isle_blocks.proofs.laws.numbers_stand_for_sites.Goals as goal

pub returns-clause-stands : goal.returns-clause-stands
returns-clause-stands c = numbers_stand

pub returns-clause-one_number : goal.returns-clause-one_number
returns-clause-one_number c = sites_once
