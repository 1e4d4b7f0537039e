use Rattle.std.proofs.Common.{ℕ}
use Rattle.isle_rules.specs.Visits.Runs.{in_turn}
use Rattle.isle_rules.proofs.Visiting.VisitRuns.{went}
use Rattle.isle_blocks.specs.declared.ids.BindingId.{BindingId}
use Rattle.isle_blocks.specs.declared.binding.Binding.TheVariants.{Constructor}
use Rattle.isle_blocks.specs.Inside.Building.Gathering.{interns, constructed, numbers, keeps}
use Rattle.isle_blocks.proofs.builder.RuleSetBuilder.construct.Goals as goal

pub returns : goal.returns
returns c =
    let pure = c.args.pure in
    let last = λ (value : BindingId). keeps pure value in
    let given = λ (call : BindingId). in_turn (constructed c.args.multi c.args.infallible call) last in
    let called = λ (instance : ℕ). in_turn (interns (Constructor c.args.term c.args.parameters instance)) given in
    let id = c.in_ok-call.call in
    let value = c.in_ok-value.value in
    went (numbers pure) called c.in_ok-instance.instance c.args.self.now c.args.self.now c.keep.result c.keep.new.self c.in_ok-instance.ensures
    (went (interns (Constructor c.args.term c.args.parameters c.in_ok-instance.instance)) given id c.args.self.now c.intern.new.self c.keep.result
    c.keep.new.self c.in_ok-call.ensures
    (went (constructed c.args.multi c.args.infallible id) last value c.intern.new.self c.constructed.new.self c.keep.result c.keep.new.self
    c.in_ok-value.ensures c.keep.ensures))
