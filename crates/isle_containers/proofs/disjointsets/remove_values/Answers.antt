use Rattle.std.proofs.Common.{not, rules}
use Rattle.std.proofs.lemmas.Map.Made.{filter_same_pairs}
use Rattle.isle_containers.proofs.disjointsets.remove_values.Goals as goal

pub returns : goal.returns
returns g c =
    filter_same_pairs _ (λ e. not (g.V.PartialEq.eq e.1 c.args.root)) _ (λ k v b w f' t. search rules) _ _ c.retain.ensures.filtered
