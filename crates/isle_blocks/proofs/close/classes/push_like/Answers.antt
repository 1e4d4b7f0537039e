use Rattle.std.proofs.Common.{◌≡◌, inl, inr, ℕ, get_or, sym, ◌∙◌, subst, arith}
use Rattle.std.proofs.lemmas.List.{get_or_default}
use Rattle.std.proofs.lemmas.List.Elements.{Contains-get_or}
use Rattle.std.proofs.lemmas.Bool.{cases_lt}
use Rattle.isle_blocks.specs.Inside.ClosureStates.{AreLikeFields}
use Rattle.isle_blocks.proofs.close.classes.push_like.Goals as goal

pub push_fields-requires-clause-member_in : goal.push_fields-requires-clause-member_in
push_fields-requires-clause-member_in c =
    let low = c.requires.within _ (Contains-get_or c.args.members.now c.loop-member.member-index 0 c.loop-member-test.true) in
    let bound = c.requires.bound in omega arith

pub returns-in_err-push_fields-clause-pushed : goal.returns-in_err-push_fields-clause-pushed
returns-in_err-push_fields-clause-pushed c = λ a b h. elim (c.push_fields.ensures.pushed a b h) [
  | inl k ↦ c.loop-member.invariant.pushed a b k
  | inr k ↦ inr (
    get_or c.args.members.now c.loop-member.member-index 0,
    Contains-get_or c.args.members.now
        c.loop-member.member-index 0 c.loop-member-test.true,
    k,
  )
]

pub loop-member-preserved : goal.loop-member-preserved
loop-member-preserved c = record {
  pushed = λ a b h. elim (c.push_fields.ensures.pushed a b h) [
    | inl k ↦ c.loop-member.invariant.pushed a b k
    | inr k ↦ inr (
      get_or c.args.members.now c.loop-member.member-index 0,
      Contains-get_or c.args.members.now
          c.loop-member.member-index 0 c.loop-member-test.true,
      k,
    )
  ];
  kept = λ a b h. c.in_ok-push_fields.ensures.kept a b (c.loop-member.invariant.kept a b h);
  all = λ k f g low like. elim (cases_lt k c.loop-member.member-index) [
    | inl less ↦ c.in_ok-push_fields.ensures.kept f g (c.loop-member.invariant.all k f g less like)
    | inr more ↦
        let at : k ≡ c.loop-member.member-index = omega arith in
        c.in_ok-push_fields.ensures.all f g (subst (λ (m : ℕ). AreLikeFields c.args.sites.now
        (get_or c.args.members.now m 0) c.args.keep c.args.test f g) at like)
  ];
}

pub returns-clause-all : goal.returns-clause-all
returns-clause-all c = λ f g (member, (k, k_in, at), like).
    let is : get_or c.args.members.now k 0 ≡ member = get_or_default c.args.members.now k 0 member k_in ∙ at in
    let test = c.loop-member-test.false in
    c.loop-member.invariant.all k f g (omega arith) (subst (λ (m : ℕ). AreLikeFields c.args.sites.now m c.args.keep c.args.test f g) (sym is) like)
