use Rattle.std.proofs.Common.{inl, inr, ℕ, ap, sym, ◌∙◌, get_or, rules, ◌<◌, length}
use Rattle.std.specs.Prelude.{Some}
use Rattle.isle_blocks.proofs.Closure.Pairs.{last_of, front_of, split_of}
use Rattle.isle_blocks.proofs.close.classes.next_apart.Goals as goal

pub bounds-class-a : goal.bounds-class-a
bounds-class-a c = (c.requires c.in-Some.a c.in-Some.b (c.loop-a.invariant.fewer c.in-Some.a c.in-Some.b (last_of _ _ _ c.in-Some.ensures.items))).0

pub bounds-class-b : goal.bounds-class-b
bounds-class-b c = (c.requires c.in-Some.a c.in-Some.b (c.loop-a.invariant.fewer c.in-Some.a c.in-Some.b (last_of _ _ _ c.in-Some.ensures.items))).1

pub returns-then-class-a-clause-fewer : goal.returns-then-class-a-clause-fewer
returns-then-class-a-clause-fewer c = λ a b h. c.loop-a.invariant.fewer a b (front_of _ _ _ _ c.in-Some.ensures.items h)

pub returns-then-class-a-clause-some : goal.returns-then-class-a-clause-some
returns-then-class-a-clause-some c = (c.loop-a.invariant.fewer c.in-Some.a c.in-Some.b (last_of _ _ _ c.in-Some.ensures.items), c.if-class-a.true)

pub returns-then-class-a-clause-taken : goal.returns-then-class-a-clause-taken
returns-then-class-a-clause-taken c = λ a b h. elim (c.loop-a.invariant.taken a b h) [
  | inl k ↦ elim (split_of _ _ _ (a, b) c.in-Some.ensures.items k) [ inl m ↦ inl m | inr e ↦ inr (inr (ap Some e)) ]
  | inr e ↦ inr (inl e)
]

pub loop-a-preserved : goal.loop-a-preserved
loop-a-preserved c = record {
  fewer = λ a b h. c.loop-a.invariant.fewer a b (front_of _ _ _ _ c.in-Some.ensures.items h);
  taken = λ a b h. elim (c.loop-a.invariant.taken a b h) [
    | inl k ↦ elim (split_of _ _ _ (a, b) c.in-Some.ensures.items k) [
      | inl m ↦ inl m
      | inr e ↦ inr (ap (λ (p : ℕ × ℕ). get_or c.args.class.now (p.0) 0) (sym e) ∙ c.if-class-a.false ∙ ap
          (λ (p : ℕ × ℕ). get_or c.args.class.now (p.1) 0) e)
    ]
    | inr e ↦ inr e
  ];
}

pub offset_bounds-class-a : goal.offset_bounds-class-a
offset_bounds-class-a c = let h : c.in-Some.a < length c.args.class.now =
    (c.requires c.in-Some.a c.in-Some.b (c.loop-a.invariant.fewer c.in-Some.a c.in-Some.b (last_of _ _ _ c.in-Some.ensures.items))).0 in search rules

pub offset_bounds-class-b : goal.offset_bounds-class-b
offset_bounds-class-b c = let h : c.in-Some.b < length c.args.class.now =
    (c.requires c.in-Some.a c.in-Some.b (c.loop-a.invariant.fewer c.in-Some.a c.in-Some.b (last_of _ _ _ c.in-Some.ensures.items))).1 in search rules
