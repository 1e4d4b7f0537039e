use Rattle.std.proofs.Common.{◌≡◌, ◌<◌, ℕ, vec_len, get_or}
use Rattle.std.specs.Prelude.{Contains}
use Rattle.isle_blocks.specs.Inside.ClosureStates.{HasOwn}
use Rattle.isle_blocks.specs.declared.ids.BindingId.{BindingId}
use Rattle.isle_blocks.specs.declared.constraint.Constraint.{Constraint}
use Rattle.isle_blocks.proofs.close.classes.gather.Given as goal

abbrev pub invariant-loop-a : goal.invariant-loop-a
invariant-loop-a l = record {
  fits : vec_len l.own ≡ l.count;
  demanded : (a : ℕ) (c : Constraint) → HasOwn l.own.items a c → (id : BindingId) × (id.0 ≡ a) × Contains l.has (id, c);
  all : (a : BindingId) (c : Constraint) (k : ℕ) → k < l.a-index → get_or l.has k (a, c) ≡ (a, c) → HasOwn l.own.items a.0 c;
}
