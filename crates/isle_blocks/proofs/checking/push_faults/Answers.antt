use Rattle.std.proofs.Common.{◌++◌, List, ℕ, Result, Ok, Err, map, ap, ◌∙◌}
use Rattle.std.specs.Result.{OnOk}
use Rattle.isle_blocks.specs.Inside.RivalLists.{numbered}
use Rattle.isle_blocks.proofs.checking.push_faults.Goals as goal

on_ok : {T E P Q : Type 0} (r : Result T E) → (P → Q) → OnOk r P → OnOk r Q
on_ok (Ok v) f h = f h
on_ok (Err e) f h = h

always : {T E P : Type 0} (r : Result T E) → P → OnOk r P
always (Ok v) p = p
always (Err e) p = tt

pub returns-clause-overlaps : goal.returns-clause-overlaps
returns-clause-overlaps c =
    let rules = c.args.rules.now in
    always c.push_numbered-2.result (record {
      pairs = c.in_ok-between.between.overlaps.items;
      listed = c.in_ok-between.ensures.overlaps;
      added = c.in_ok-push_numbered.ensures ∙ ap (λ (l : List (ℕ × ℕ)). c.args.found.now.overlaps.items ++ map (numbered rules) l)
          c.as_slice.ensures.value;
    })

pub returns-clause-shadows : goal.returns-clause-shadows
returns-clause-shadows c =
    let rules = c.args.rules.now in
    on_ok c.push_numbered-2.result (λ added. record {
      pairs = c.in_ok-between.between.shadows.items;
      listed = c.in_ok-between.ensures.shadows;
      added = added ∙ ap (λ (l : List (ℕ × ℕ)). c.args.found.now.shadows.items ++ map (numbered rules) l) c.as_slice-2.ensures.value;
    }) c.push_numbered-2.ensures
