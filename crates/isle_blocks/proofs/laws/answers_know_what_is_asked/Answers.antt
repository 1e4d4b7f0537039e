use Rattle.isle_blocks.proofs.Trees.Matched.{knows_asked}
use Rattle.isle_blocks.proofs.laws.answers_know_what_is_asked.Goals as goal

pub returns : goal.returns
returns c1 name facts sources rules term set h c args done covers =
    knows_asked name facts sources rules term set h c args done (λ p rule at root. covers p rule (record { listed = at; of_term = root }))
