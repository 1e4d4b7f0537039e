-- Like fields under a test.
use Rattle.std.proofs.Common.{◌≡◌, ◌<◌, ℕ, List, length, get_or, arith, Option, Some, ap, sym, ◌∙◌}
use Rattle.isle_blocks.specs.declared.binding.Binding.{Binding}
use Rattle.isle_blocks.specs.declared.constraint.Constraint.{Constraint}
use Rattle.isle_blocks.specs.declared.close.fields.Opening.{Opening}
use Rattle.isle_blocks.specs.Inside.ClosureFields.{AreFields, field_binding, kind_of}
use Rattle.isle_blocks.specs.Tables.{IsTable}
use Rattle.isle_types.specs.Names.{AreDistinct}
use Rattle.isle_blocks.specs.Inside.ClosureStates.{AreLikeFields, HaveLikeFields, IsRootOf}
use Rattle.std.proofs.lemmas.Option.{slice_get_within}
use Rattle.isle_blocks.proofs.Closure.Pairs.{pair_path}
use Rattle.isle_blocks.proofs.Closure.Trees.{field_source}

-- like fields stand at their index
pub like_at : (table : List Binding) (member keep : ℕ) (test : Constraint) (opening : Opening) → AreFields test opening → (f g : ℕ)
    → (like : AreLikeFields table member keep test f g) → (i : ℕ) → like.index ≡ i → HaveLikeFields table (kind_of opening.variant) member keep i f g
like_at table member keep test opening fields f g like i at =
    let kind : like.kind ≡ kind_of opening.variant = ((fields like.kind like.index).0 like.opened).0 in
    (like.field ∙ ap Some (λ j. field_binding (kind j) member (at j)), like.kept ∙ ap Some (λ j. field_binding (kind j) keep (at j)))

-- and are two numbers alone
pub one_pair : (table : List Binding) → IsTable table → (kind : Option ℕ) (member keep i f g a b : ℕ) → HaveLikeFields table kind member keep i f g
    → HaveLikeFields table kind member keep i a b → ◌≡◌ {A = ℕ × ℕ} (f, g) (a, b)
one_pair table ok kind member keep i f g a b h k = pair_path f a g b (ok.once _ f a h.0 k.0) (ok.once _ g b h.1 k.1)

-- a site with a field is in the table
pub member_in : (table : List Binding) → IsTable table → (member keep : ℕ) (test : Constraint) (f g : ℕ) → AreLikeFields table member keep test f g
    → member < length table
member_in table ok member keep test f g like =
    let earlier : member < f = ok.earlier f (field_binding like.kind member like.index) _ like.field (field_source like.kind member like.index) in
    let within : f < length table = slice_get_within table f (field_binding like.kind member like.index) like.field in omega arith

-- a site has one class
pub one_root : (table : List Binding) → AreDistinct table → (class : List ℕ) (site : Binding) (k m : ℕ) → IsRootOf table class site k
    → IsRootOf table class site m → k ≡ m
one_root table once class site k m (g, p, e) (h, q, f) = sym e ∙ ap (λ (z : ℕ). get_or class z 0) (once site g h p q) ∙ f
