use Rattle.std.proofs.Common.{List, Option, subst, IsPermutation}
use Rattle.std.specs.List.{filter_map}
use Rattle.isle_blocks.specs.declared.ids.BindingId.{BindingId}
use Rattle.isle_blocks.specs.declared.binding.Binding.{Binding}
use Rattle.isle_blocks.specs.declared.constraint.Constraint.{Constraint}
use Rattle.isle_blocks.specs.Inside.MovedSites.{new_number}
use Rattle.isle_blocks.specs.Inside.NormalRules.{AreTestsOf}
use Rattle.isle_blocks.specs.Inside.Assembly.{multi_call}
use Rattle.isle_blocks.proofs.assembly.made_rule.Goals as goal

pub returns-clause-tests : goal.returns-clause-tests
returns-clause-tests c =
    let tests = c.in_ok-constraints.constraints in
    subst (λ (l : List BindingId). AreTestsOf l c.args.placed.now.closed.each.items tests) c.as_slice-numbers.ensures.value
    (subst (λ (l : List (Option Constraint)). AreTestsOf c.as_slice-numbers.result.now l tests) c.as_slice-each.ensures.value
    c.in_ok-constraints.ensures.tests)

pub returns-clause-iterators : goal.returns-clause-iterators
returns-clause-iterators c =
    let calls = c.in_ok-iterators.iterators in
    subst (λ (l : List BindingId). IsPermutation (filter_map (multi_call (new_number l)) c.args.built.now.sites) calls)
    c.as_slice-numbers.ensures.value
    (subst (λ (l : List Binding). IsPermutation (filter_map (multi_call (new_number c.as_slice-numbers.result.now)) l) calls) c.bindings.ensures
    c.in_ok-iterators.ensures.members)
