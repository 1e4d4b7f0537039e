use Rattle.std.proofs.Common.{length, subst, sym, ap, ◌∙◌, ◌≤◌, slice_get}
use Rattle.isle_containers.specs.StableMaps.{value_at}
use Rattle.isle_rules.specs.Shown.TermTables.{same_types}
use Rattle.isle_terms.proofs.Collections.Checking.{item_at, past_mapped}
use Rattle.isle_terms.proofs.Collections.ReadConverters.{read_none, read_ill, read_more, read_all}
use Rattle.isle_terms.proofs.env.converters.collect_converters.Goals as goal
use Rattle.isle_terms.proofs.env.converters.collect_converters.Goals.{in-Ok+in_ok-insert-in-Ok, in-Err+in_ok-report-in-Err}

pub loop-converter-init : goal.loop-converter-init
loop-converter-init c = λ types defs signatures shows placed same. read_none types defs signatures _ _ c.new-table.ensures

pub loop-converter-preserved : goal.loop-converter-preserved
loop-converter-preserved c = λ types defs signatures shows placed same.
    let i = c.loop-converter.converter-index in
    let here = sym (ap (λ trees. slice_get trees i) same)
    ∙ item_at (λ converter. converter.now) c.args.converters.now i c.converter-item.result c.loop-converter-test.true c.converter-item.is in
    let before = c.loop-converter.invariant types defs signatures shows placed same in
    elim c.match-read_converter.branch [
      | in-Ok+in_ok-insert-in-Ok w ↦ read_more types defs signatures c.loop-converter.table _ i c.converter-item.result.now
          (w.in-Ok.types, w.in-Ok.term) _ _ _ here (w.in-Ok.ensures.read types _ shows placed) w.in-Ok.ensures.new
          (λ pair. ap (λ table. value_at same_types table pair) w.table-is ∙ w.in_ok-insert-in-Ok.ensures.values pair)
          (ap (λ v. v.items) w.errors-is) before
      | in-Err+in_ok-report-in-Err w ↦ read_ill types defs signatures c.loop-converter.table _ i c.converter-item.result.now _ _ _ _ _ here
          (w.in-Err.ensures.ill types _ shows placed) w.table-is (ap (λ v. v.items) w.errors-is ∙ w.in_ok-report-in-Err.ensures.1) before
    ]

pub returns : goal.returns
returns c = λ types defs signatures shows placed same.
    let i = c.loop-converter.converter-index in
    read_all types defs signatures i _ _ _ (subst (λ trees. length trees ≤ i) same
    (past_mapped (λ converter. converter.now) c.args.converters.now i c.loop-converter-test.false))
    (c.loop-converter.invariant types defs signatures shows placed same)
