use Rattle.std.proofs.Common.{◌≡◌, ℕ, length, subst, arith}
use Rattle.std.proofs.lemmas.List.Filters.{dedup_is}
use Rattle.isle_blocks.specs.Inside.FaultKeys.{FindsFaults, IsEarlier}
use Rattle.isle_blocks.proofs.RuleFaults.FaultKeys.{all_found}
use Rattle.isle_blocks.proofs.RuleFaults.FaultKeys.Pairs.{pairs_eq}
use Rattle.isle_blocks.proofs.faults.pairs_with.Goals as goal

pub returns : goal.returns
returns c site are =
    let rules = c.args.rules.now in
    let keys = c.args.keys.now in
    let made = c.loop-first.found.items in
    let sorted = c.sort_unstable.new.self.items in
    let test = c.loop-first-test.false in
    let end = c.loop-first.auto.first-end in
    let last : c.loop-first.first ≡ length keys = omega arith in
    let finds : FindsFaults rules c.args.fault keys (IsEarlier (length keys)) made =
    subst (λ (n : ℕ). FindsFaults rules c.args.fault keys (IsEarlier n) made) last (c.loop-first.invariant site are) in
    all_found site rules c.args.fault keys made sorted c.dedup.new.self.items are finds c.sort_unstable.ensures.permutation
    c.sort_unstable.ensures.sorted (dedup_is pairs_eq sorted c.dedup.new.self.items c.dedup.ensures.filtered)
