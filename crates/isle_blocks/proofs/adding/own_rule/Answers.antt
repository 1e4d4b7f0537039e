use Rattle.std.proofs.Common.{◌≡◌, true, false, List, Result, Err, refl, sym, subst, rules}
use Rattle.std.specs.Prelude.{IfErr}
use Rattle.isle_blocks.specs.declared.ids.BindingId.{BindingId}
use Rattle.isle_blocks.specs.declared.binding.Binding.{Binding}
use Rattle.isle_blocks.specs.declared.sites.SiteFault.TheVariants.{Size}
use Rattle.isle_blocks.specs.AddedRules.{IsOwnOf, HasNoRoomAlone, LacksRoomAlone, name_in, facts_in}
use Rattle.isle_blocks.specs.Inside.Building.Building.{gathered_in}
use Rattle.isle_blocks.proofs.Building.Naming.{name_by_injective}
use Rattle.isle_blocks.proofs.AddedRules.{own_total, own_partial, alone_partial}
use Rattle.isle_blocks.proofs.adding.own_rule.Goals as goal

on_error : {T E : Type 0} (P : E → Type 0) (r : Result T E) (e : E) → r ≡ Err e → P e → IfErr r P
on_error P r e is h = rw is h

pub returns-clause-own : goal.returns-clause-own
returns-clause-own c = λ d.
    let env = c.args.termenv.now in let rule = c.args.source.now in let built = c.in-Ok.built in
    let name = name_in env rule d in let facts = facts_in env rule d in
    let injective = name_by_injective d.tyenv.names d.once in
    let is = c.in-Ok.ensures.built d.tyenv d.types d.levels d.max d.defs d.once d.shows d.place d.typed d.at d.typed_at in
    let new = c.result_of.new.sites in let id = c.in_ok-built.field-0 in
    elim c.args.partial as (λ b. c.args.partial ≡ b → IsOwnOf name facts b d.typed new built.has.items built.same.items built.impure.items id) [
      | true ↦ λ e. own_partial name injective facts d.typed (gathered_in built) built.result is c.len-count.ensures.once id new
          (c.in_ok-built.ensures.made e) c.len-count-2.ensures.once
      | false ↦ λ e.
          let (same_id, same_sites) = c.in_ok-built.ensures.itself e in
          let own = own_total name injective facts d.typed (gathered_in built) built.result is c.len-count.ensures.once in
          subst (λ (l : List Binding). IsOwnOf name facts false d.typed l built.has.items built.same.items built.impure.items id) (sym same_sites)
          (subst (λ (x : BindingId). IsOwnOf name facts false d.typed built.sites built.has.items built.same.items built.impure.items x)
          (sym same_id) own)
    ] refl

pub returns-in-Err-Size-clause-full : goal.returns-in-Err-Size-clause-full
returns-in-Err-Size-clause-full c = λ size d room.
    c.in-Err-Size.ensures.full c.in-Err-Size.field-0-is d.tyenv d.types d.levels d.max d.defs d.once d.shows d.few d.place d.typed d.at d.typed_at
    room.table room.few room.needed

pub returns-in_err-built-clause-full : goal.returns-in_err-built-clause-full
returns-in_err-built-clause-full c =
    let env = c.args.termenv.now in let rule = c.args.source.now in let built = c.in-Ok.built in
    on_error (λ fault. fault ≡ Size → LacksRoomAlone env rule c.args.partial) c.from_residual.result c.in_err-built.field-0.0 (search rules)
    (λ size d.
    let (is_partial, full) = c.in_err-built.ensures.full size in
    let is = c.in-Ok.ensures.built d.tyenv d.types d.levels d.max d.defs d.once d.shows d.place d.typed d.at d.typed_at in
    subst (λ b. HasNoRoomAlone (facts_in env rule d) b d.typed) (sym is_partial)
    (alone_partial (name_in env rule d) (name_by_injective d.tyenv.names d.once) (facts_in env rule d) d.typed (gathered_in built) built.result is
    c.len-count.ensures.once full))
