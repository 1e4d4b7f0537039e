use Rattle.std.proofs.Common.{◌∙◌, ap}
use Rattle.std.specs.Option.{unwrap_or}
use Rattle.std.proofs.lemmas.Option.{unwrap_or-slice_get}
use Rattle.isle_blocks.proofs.serializer.table.Table.get_or.Goals as goal

pub returns-in-Some : goal.returns-in-Some
returns-in-Some g c = ap (λ o. unwrap_or o c.args.other) c.in-Some.ensures ∙ unwrap_or-slice_get c.args.self.now c.args.place c.args.other

pub returns-in-None : goal.returns-in-None
returns-in-None g c = ap (λ o. unwrap_or o c.args.other) c.in-None.ensures ∙ unwrap_or-slice_get c.args.self.now c.args.place c.args.other
