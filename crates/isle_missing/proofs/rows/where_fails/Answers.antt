use Rattle.std.proofs.Common.{not, rules}
use Rattle.std.proofs.lemmas.Fn.{filter_same}
use Rattle.isle_missing.specs.Inside.Rows.{has_demand}
use Rattle.isle_missing.proofs.rows.where_fails.Goals as goal

pub returns : goal.returns
returns c = filter_same _ (λ row. not (has_demand c.args.known row)) _ (λ x b f' k. search rules) _ _ c.retain.ensures.filtered
