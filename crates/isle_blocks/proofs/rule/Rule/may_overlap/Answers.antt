use Rattle.std.proofs.Common.{◌≡◌, ℕ, min, [], length, sym, ◌∙◌, inl, inr, arith}
use Rattle.std.proofs.lemmas.Bool.{cases_lt, false≢true}
use Rattle.std.proofs.lemmas.Bool.Decides.{Decides-eqb}
use Rattle.isle_blocks.specs.declared.rule.Rule.{Rule}
use Rattle.isle_blocks.specs.Rules.{HaveInCommon, IsSubset}
use Rattle.isle_blocks.proofs.rule.Rule.may_overlap.Goals as goal
use Rattle.isle_blocks.proofs.rule.Rule.may_overlap.Goals.{then-is_empty, else-is_empty}

subset_if_all : (a b : Rule) (n m : ℕ) → HaveInCommon a.constraints b.constraints n
    → m ≡ min (length a.constraints) (length b.constraints) → (a.equals ≡ []) × (b.equals ≡ []) → n ≡ m → IsSubset a b
subset_if_all a b n m common fewest free all = record {
  free = free.0;
  other_free = free.1;
  fewer = λ le. common.all_of_first.0 (omega arith);
  more = λ lt. common.all_of_second.0 (omega arith);
}

all_if_subset : (a b : Rule) (n m : ℕ) → HaveInCommon a.constraints b.constraints n
    → m ≡ min (length a.constraints) (length b.constraints) → IsSubset a b → n ≡ m
all_if_subset a b n m common fewest subset = elim (cases_lt (length b.constraints) (length a.constraints)) [
  | inl lt ↦ let e = common.all_of_second.1 (subset.more lt) in omega arith
  | inr le ↦ let e = common.all_of_first.1 (subset.fewer le) in omega arith
]

pub returns-then-free : goal.returns-then-free
returns-then-free c =
    let both = c.in-Some.ensures in
    let fewest : c.min-fewest.result ≡ min (length c.args.self.now.constraints) (length c.args.other.now.constraints) =
    rw (← c.len.ensures.count, ← c.len-2.ensures.count) c.min-fewest.ensures in
    let free : (c.args.self.now.equals ≡ []) × (c.args.other.now.equals ≡ []) = elim c.if-is_empty.branch [
      | then-is_empty w ↦ (c.is_empty.ensures.0 w.if-is_empty.true, w.is_empty-free.ensures.0 (sym w.free-is ∙ c.if-free.true))
      | else-is_empty w ↦ absurd (false≢true (sym w.if-is_empty.false ∙ sym w.free-is ∙ c.if-free.true))
    ] in
    let decided = Decides-eqb c.in-Some.common c.min-fewest.result in (
      both.agree,
      (
        λ t. subset_if_all c.args.self.now c.args.other.now _ _ both fewest free (decided.0 t),
        λ s. decided.1 (all_if_subset c.args.self.now c.args.other.now _ _ both fewest s),
      ),
    )
