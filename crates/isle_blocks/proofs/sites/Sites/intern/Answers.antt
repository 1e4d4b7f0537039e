use Rattle.std.proofs.Common.{subst}
use Rattle.isle_types.proofs.LevelMembers.{put_in}
use Rattle.isle_blocks.specs.Tables.{IsInterned}
use Rattle.isle_blocks.proofs.Numbering.{binding-level}
use Rattle.isle_blocks.proofs.sites.Sites.intern.Goals as goal

pub returns-clause-ok : goal.returns-clause-ok
returns-clause-ok c =
    subst (λ sites. IsInterned sites c.args.binding (record { 0 = c.in_ok-number.number }) c.insert.new.self) c.self.view_is
    (put_in binding-level c.self.inside.bindings c.args.binding c.insert.new.self c.in_ok-number.number c.in_ok-number.ensures.members
    c.in_ok-number.ensures.number)
