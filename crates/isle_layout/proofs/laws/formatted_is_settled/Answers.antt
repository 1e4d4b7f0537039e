use Rattle.isle_layout.proofs.ReadsBack.Formatted.{formatted_settles, settled_is_faultless}
use Rattle.isle_layout.proofs.laws.formatted_is_settled.Goals as goal

pub returns-clause-settled : goal.returns-clause-settled
returns-clause-settled c = formatted_settles

pub returns-clause-accepted : goal.returns-clause-accepted
returns-clause-accepted c file width text once utf8 formats =
    settled_is_faultless width once (formatted_settles file width text once utf8 formats)
