use Rattle.std.proofs.Common.{sym, ap, subst, ◌∙◌, ◌≡◌}
use Rattle.isle_blocks.specs.Inside.Trees.Tables.{AreRows, joined}
use Rattle.isle_blocks.proofs.Trees.Tables.{copies_same}
use Rattle.isle_blocks.proofs.serializer.table.Table.copy.Goals as goal

pub invariant_of-result : goal.invariant_of-result
invariant_of-result g c =
    subst AreRows (sym (copies_same (λ r. r.value.items) (λ x y. y.value ≡ x.value) (λ x y h. ap (λ v. v.items) h)
    c.self.inside.rows.items c.in_ok-rows.rows.items c.in_ok-rows.ensures.cases.0)) c.self.invariant

pub returns : goal.returns
returns g c =
    ap joined (copies_same (λ r. r.value.items) (λ x y. y.value ≡ x.value) (λ x y h. ap (λ v. v.items) h)
    c.self.inside.rows.items c.in_ok-rows.rows.items c.in_ok-rows.ensures.cases.0) ∙ c.self.view_is
