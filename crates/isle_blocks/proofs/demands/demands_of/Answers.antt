use Rattle.isle_blocks.proofs.demands.demands_of.Goals as goal

pub returns-in-Err-Size-clause-too_many : goal.returns-in-Err-Size-clause-too_many
returns-in-Err-Size-clause-too_many c = c.in-Err-Size.ensures.full c.in-Err-Size.field-0-is
