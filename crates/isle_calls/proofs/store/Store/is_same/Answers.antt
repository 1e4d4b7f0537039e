use Rattle.std.proofs.Common.{sym, subst}
use Rattle.std.proofs.lemmas.Bool.Decides.{Decides-eqb}
use Rattle.isle_types.specs.Names.{AreDistinct}
use Rattle.isle_meaning.specs.Values.{Value}
use Rattle.isle_calls.specs.Stores.Values.{Stands}
use Rattle.isle_values.proofs.GroundValues.EqualNodes.{through}
use Rattle.isle_types.proofs.LevelMembers.{unequal_distinct}
use Rattle.isle_calls.proofs.Stores.Tables.{stored-level}
use Rattle.isle_calls.proofs.Stores.Values.{stands_one, stands_once}
use Rattle.isle_calls.proofs.store.Store.is_same.Goals as goal

pub returns : goal.returns
returns c = λ v w is also.
    let stored = c.args.self.now in
    let once = subst AreDistinct c.self.view_is (unequal_distinct stored-level c.self.inside.values c.len-count.ensures.once) in
    through (Decides-eqb c.args.number c.args.other)
    (λ e. stands_one stored v w c.args.number is (subst (Stands stored w) (sym e) also))
    (λ e. stands_once stored once v c.args.number c.args.other is (subst (λ (x : Value). Stands stored x c.args.other) (sym e) also))
