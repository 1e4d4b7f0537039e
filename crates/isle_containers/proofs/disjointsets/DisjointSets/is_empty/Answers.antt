use Rattle.std.proofs.Common.{sym, ◌∙◌}
use Rattle.isle_containers.proofs.TableMembers.{empty_from_sets, sets_from_empty}
use Rattle.isle_containers.proofs.disjointsets.DisjointSets.is_empty.Goals as goal

pub returns : goal.returns
returns g c =
    let laws = g.met.T.Eq.laws in
    let es = c.self.inside.table.entries in (
      λ h. sym c.self.view_is ∙ sets_from_empty laws es (c.is_empty.ensures.0 h),
      λ h. c.is_empty.ensures.1
          (empty_from_sets laws es c.self.invariant.is_rooted (c.self.view_is ∙ h)),
    )
