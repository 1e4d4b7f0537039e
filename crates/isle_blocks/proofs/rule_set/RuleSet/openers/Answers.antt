use Rattle.std.proofs.Common.{arith, ◌≡◌, ◌++◌, ◌∷◌, ◌+◌, ℕ, inl, inr, [], None, Option, List, length, get_or, slice_get, ap, ◌∙◌, subst}
use Rattle.std.proofs.lemmas.List.{length_push, get_or_append_left, get_or_at}
use Rattle.isle_trees.proofs.Building.Lists.{less_or}
use Rattle.isle_blocks.specs.Inside.Trees.Builder.{items_at, source_in}
use Rattle.isle_blocks.specs.Trees.View.{read_or}
use Rattle.isle_blocks.specs.Inside.Trees.Work.{opener_among}
use Rattle.isle_blocks.proofs.Trees.Openers.{openers_are}
use Rattle.isle_blocks.proofs.rule_set.RuleSet.openers.Goals as goal

pub loop-site-preserved : goal.loop-site-preserved
loop-site-preserved c =
    let old = c.loop-site.openers.items in
    let at = c.loop-site.site in
    let size = c.loop-site.invariant.size in
    let pushed = c.in_ok-push.ensures.items in
    let P : ℕ → Option ℕ → Type 0 =
    λ x o. o ≡ opener_among c.args.self.now (read_or [] (items_at c.args.users.now) (source_in (slice_get c.args.self.now.sites x))) x in
    record {
      size = ap length pushed ∙ length_push old c.opener.result ∙ ap (λ (x : ℕ). x + 1) size;
      each = λ x l.
          let e : get_or c.push.new.self.items x None ≡ get_or (old ++ c.opener.result ∷ []) x None =
          ap (λ (y : List (Option ℕ)). get_or y x None) pushed in
          elim (less_or x at) [
            | inl k ↦ e ∙ (get_or_append_left old (c.opener.result ∷ []) None x (omega arith) ∙ c.loop-site.invariant.each x k)
            | inr k ↦
                let same : length old ≡ x = omega arith in
                let here : at ≡ x = omega arith in
                e ∙ (get_or_at old c.opener.result [] None x same ∙ subst (λ (y : ℕ). P y c.opener.result) here c.opener.ensures)
          ];
    }

pub returns : goal.returns
returns c =
    openers_are c.args.self.now (items_at c.args.users.now) (λ x. get_or c.loop-site.openers.items x None) c.requires.users c.requires.rising
    (λ x l. c.loop-site.invariant.each x (omega arith))
