use Rattle.std.proofs.Common.{◌≡◌, Some, sym, subst, slice_get, ◌∙◌}
use Rattle.isle_types.proofs.LevelMembers.{number_is, stands_nowhere}
use Rattle.isle_blocks.proofs.Numbering.{binding-level}
use Rattle.isle_blocks.proofs.sites.Sites.find.Goals as goal

pub returns-in-Some : goal.returns-in-Some
returns-in-Some c =
    subst (λ sites. slice_get sites c.in-Some.number ≡ Some c.args.binding.now) c.self.view_is
    (number_is binding-level c.self.inside.bindings c.args.binding.now c.in-Some.number (sym c.find.ensures ∙ c.in-Some.is))

pub returns-in-None : goal.returns-in-None
returns-in-None c = λ k p.
    stands_nowhere binding-level c.self.inside.bindings c.args.binding.now (sym c.find.ensures ∙ c.in-None.is) k
    (subst (λ sites. slice_get sites k ≡ Some c.args.binding.now) (sym c.self.view_is) p)
