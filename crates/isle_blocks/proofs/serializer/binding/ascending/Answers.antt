use Rattle.std.proofs.Common.{◌+◌, get_or, arith}
use Rattle.std.proofs.lemmas.Map.Keys.{ge_from_not_lt}
use Rattle.isle_blocks.specs.Trees.View.{id_of}
use Rattle.isle_blocks.proofs.Trees.Binding.{numbers_moved, numbers_up}
use Rattle.isle_blocks.proofs.serializer.binding.ascending.Goals as goal

pub returns-clause-same : goal.returns-clause-same
returns-clause-same c f = numbers_moved f c.args.list.items c.sort_unstable.new.self.items c.sort_unstable.ensures.permutation

pub returns-clause-ascending : goal.returns-clause-ascending
returns-clause-ascending c =
    let ys = c.sort_unstable.new.self.items in
    numbers_up c.args.list.items ys c.requires c.sort_unstable.ensures.permutation
    (λ k l. ge_from_not_lt (get_or ys (k + 1) (id_of 0)).0 (get_or ys k (id_of 0)).0 (c.sort_unstable.ensures.sorted k (id_of 0) (omega arith) l))
