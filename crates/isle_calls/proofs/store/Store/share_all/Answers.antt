use Rattle.std.proofs.Common.{◌++◌, ◌∷◌, [], ℕ, List, take, sym, ap, subst, ◌∙◌}
use Rattle.std.proofs.lemmas.List.{take_more}
use Rattle.isle_rules.specs.Values.{value_list}
use Rattle.isle_meaning.specs.GroundValues.{values_of}
use Rattle.isle_program.specs.Programs.{value_facts}
use Rattle.isle_calls.specs.Stores.Values.{StandEach}
use Rattle.isle_calls.proofs.Stores.Values.{extends_again, stand_longer}
use Rattle.isle_calls.proofs.Stores.Sharing.{more_stand}
use Rattle.isle_calls.proofs.store.Store.share_all.Goals as goal

pub loop-value-preserved : goal.loop-value-preserved
loop-value-preserved c =
    let facts = value_facts c.args.program.now in
    let values = c.args.values.now in
    let so_far = take c.loop-value.value-index values in
    let value = c.value-item.result in
    let more = take_more values c.loop-value.value-index value c.loop-value-test.true ∙ ap (λ v. so_far ++ v ∷ []) (sym c.value-item.is) in
    let each = stand_longer c.share.ensures.kept
    (values_of facts (value_list so_far)) c.loop-value.numbers.items c.loop-value.invariant.1 in
    let all = more_stand facts c.share.new.self so_far c.loop-value.numbers.items value c.in_ok-share.field-0 each
    c.in_ok-share.ensures.number in (
      extends_again c.loop-value.invariant.0 c.share.ensures.kept,
      subst (λ l. StandEach c.share.new.self (values_of facts (value_list l)) c.push.new.self.items) (sym more)
          (subst (StandEach c.share.new.self (values_of facts (value_list (so_far ++ value ∷ []))))
          (sym {A = List ℕ} c.in_ok-push.ensures.items) all),
    )
