use Rattle.isle_run.proofs.Blocks.Agreeing as its
use Rattle.isle_run.proofs.laws.roads_agree.Goals as goal

pub returns : goal.returns
returns c = its.calls_agree
