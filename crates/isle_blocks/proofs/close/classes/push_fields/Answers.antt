use Rattle.std.proofs.Common.{◌≡◌, inl, inr, ℕ, List, [], ◌∷◌, ◌++◌, Vec, Global, ap, refl, sym, ◌∙◌, subst, arith}
use Rattle.std.specs.Prelude.{Contains}
use Rattle.std.proofs.lemmas.Bool.{cases_lt}
use Rattle.isle_blocks.specs.Inside.ClosureFields.{kind_of}
use Rattle.isle_blocks.specs.Inside.ClosureStates.{AreLikeFields, HaveLikeFields}
use Rattle.isle_blocks.proofs.Closure.Pairs.{last_of, front_of, split_of}
use Rattle.isle_blocks.proofs.Closure.Likes.{like_at, one_pair}
use Rattle.isle_blocks.proofs.close.classes.push_fields.Goals as goal
use Rattle.isle_blocks.proofs.close.classes.push_fields.Goals.{in-Some+in_ok-push, in_default}

pub loop-index-init : goal.loop-index-init
loop-index-init c = record { pushed = λ a b h. inl h; kept = λ a b h. h; all = λ f g like h. absurd (omega arith) }

pub returns-in_err-push-clause-pushed : goal.returns-in_err-push-clause-pushed
returns-in_err-push-clause-pushed c = λ a b h. c.loop-index.invariant.pushed a b
    (subst (λ (l : List (ℕ × ℕ)). Contains l (a, b)) c.in_err-push.ensures.items h)

pub loop-index-preserved : goal.loop-index-preserved
loop-index-preserved c = elim c.match-like_fields.branch [
  | in-Some+in_ok-push w ↦
      let q : c.match-like_fields.pending.items ≡ c.loop-index.pending.items ++ (w.in-Some.f, w.in-Some.g) ∷ [] =
      ap (λ (v : Vec (ℕ × ℕ) Global). v.items) w.pending-is ∙ w.in_ok-push.ensures.items in
      let have : HaveLikeFields c.args.sites.now (kind_of c.args.opening.variant) c.args.member c.args.keep
      c.loop-index.index w.in-Some.f w.in-Some.g = w.in-Some.ensures in
      let here : AreLikeFields c.args.sites.now c.args.member c.args.keep c.args.test w.in-Some.f w.in-Some.g = record {
        kind = kind_of c.args.opening.variant;
        index = c.loop-index.index;
        opened = (c.requires.opened (kind_of c.args.opening.variant) c.loop-index.index).1 (refl, c.loop-index-test.true);
        field = have.0;
        kept = have.1;
      } in
      record {
        pushed = λ a b h. elim (split_of _ _ _ (a, b) q h) [
          | inl k ↦ c.loop-index.invariant.pushed a b k
          | inr e ↦ inr (subst (λ (p : ℕ × ℕ). AreLikeFields c.args.sites.now c.args.member c.args.keep c.args.test p.0 p.1) e here)
        ];
        kept = λ a b h. front_of _ _ _ (a, b) q (c.loop-index.invariant.kept a b h);
        all = λ f g like l. elim (cases_lt like.index c.loop-index.index) [
          | inl less ↦ front_of _ _ _ (f, g) q (c.loop-index.invariant.all f g like less)
          | inr more ↦
              let there = like_at _ _ _ _ _ c.requires.opened f g like c.loop-index.index (omega arith) in
              let both = one_pair _ c.requires.table _ _ _ _ w.in-Some.f w.in-Some.g f g have there in
              subst (λ (p : ℕ × ℕ). Contains c.match-like_fields.pending.items p) both (last_of _ _ _ q)
        ];
      }
  | in_default w ↦
      let q : c.match-like_fields.pending.items ≡ c.loop-index.pending.items = ap (λ (v : Vec (ℕ × ℕ) Global). v.items) w.pending-is in
      record {
        pushed = λ a b h. c.loop-index.invariant.pushed a b (subst (λ (l : List (ℕ × ℕ)). Contains l (a, b)) q h);
        kept = λ a b h. subst (λ (l : List (ℕ × ℕ)). Contains l (a, b)) (sym q) (c.loop-index.invariant.kept a b h);
        all = λ f g like l. elim (cases_lt like.index c.loop-index.index) [
          | inl less ↦ subst (λ (l : List (ℕ × ℕ)). Contains l (f, g)) (sym q) (c.loop-index.invariant.all f g like less)
          | inr more ↦ absurd (w.in_default.ensures f g (like_at _ _ _ _ _ c.requires.opened f g like c.loop-index.index (omega arith)))
        ];
      }
]

pub returns-clause-all : goal.returns-clause-all
returns-clause-all c = λ f g like.
    let opened = (c.requires.opened like.kind like.index).0 like.opened in
    let test = c.loop-index-test.false in let low = opened.1 in
    c.loop-index.invariant.all f g like (omega arith)
