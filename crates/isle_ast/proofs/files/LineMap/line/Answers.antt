use Rattle.std.proofs.Common.{rules, nat_le, ◌∙◌, ap, subst, sym}
use Rattle.std.specs.List.Sorted.{IsStrictlyIncreasing}
use Rattle.std.proofs.lemmas.List.Sorted.{IsPartitionPoint-from_clause}
use Rattle.isle_ast.specs.Positions.Lines.{starts_up_to}
use Rattle.isle_ast.proofs.Positions.LineStarts.{starts_are_parted, point_is_starts_up_to}
use Rattle.isle_ast.proofs.files.LineMap.line.Goals as goal

pub returns-clause-value : goal.returns-clause-value
returns-clause-value c =
    let starts = c.as_slice.result.now in
    let rise : IsStrictlyIncreasing starts = subst IsStrictlyIncreasing (sym c.as_slice.ensures.value) c.self.invariant in
    let point = IsPartitionPoint-from_clause (λ s. nat_le s c.args.p) starts _ c.partition_point.ensures.partitioned
    (starts_are_parted starts c.args.p rise) (λ a r q k. search rules) in
    point_is_starts_up_to starts c.args.p _ c.partition_point.ensures.bound point
    ∙ ap (λ s. starts_up_to s c.args.p) (c.as_slice.ensures.value ∙ c.self.view_is)
