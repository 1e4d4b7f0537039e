use Rattle.isle_rules.specs.Visits.Runs.{in_turn, listed}
use Rattle.isle_rules.proofs.Visiting.VisitRuns.{went}
use Rattle.isle_blocks.specs.declared.ids.BindingId.{BindingId}
use Rattle.isle_blocks.specs.declared.binding.Binding.TheVariants.{Extractor}
use Rattle.isle_blocks.specs.Inside.Building.Gathering.{interns, extracted, outputs}
use Rattle.isle_blocks.proofs.builder.RuleSetBuilder.extract.Goals as goal

pub returns : goal.returns
returns c =
    let last = λ (value : BindingId). outputs c.args.count.0 value in
    let given = λ (call : BindingId). in_turn (extracted c.args.multi c.args.infallible call) last in
    let id = c.in_ok-call.call in
    let o = listed c.outputs.result in
    went (interns (Extractor c.args.term c.args.input)) given id c.args.self.now c.intern.new.self o c.outputs.new.self c.in_ok-call.ensures
    (went (extracted c.args.multi c.args.infallible id) last c.in_ok-value.value c.intern.new.self c.extracted.new.self o c.outputs.new.self
    c.in_ok-value.ensures c.outputs.ensures)
