use Rattle.std.proofs.Common.{cond, rules}
use Rattle.std.proofs.lemmas.Map.Made.{map_same_pairs}
use Rattle.isle_containers.proofs.disjointsets.relabel.Goals as goal

pub returns-clause-entries : goal.returns-clause-entries
returns-clause-entries g c =
    map_same_pairs _ (λ v. cond (g.V.PartialEq.eq v c.args.from) c.args.to v) _ (λ k v b w f' t. search rules) _ _ c.retain.ensures.filtered
