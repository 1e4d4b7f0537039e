use Rattle.std.proofs.Common.{◌≡◌, ◌<◌, ◌+◌, ◌==◌, ℕ, List, length, get_or, true, false, Option, None, Some, ◌∙◌, sym, ap, subst, arith, refl}
use Rattle.std.specs.Option.{is_some}
use Rattle.std.proofs.lemmas.Bool.{false≢true, eqb-true}
use Rattle.std.proofs.lemmas.Option.{slice_get-get_or}
use Rattle.isle_blocks.specs.declared.ids.BindingId.{BindingId}
use Rattle.isle_blocks.specs.Inside.ClosureStates.{AreClasses}
use Rattle.isle_blocks.proofs.Sets.NormalSets.{AreSetsBelow, sets_all, sets_skip, sets_more}
use Rattle.isle_blocks.specs.declared.constraint.Constraint.{Constraint}
use Rattle.isle_blocks.specs.Inside.Placing.{AreSettled}
use Rattle.isle_blocks.proofs.normal.equalities_of.Goals as goal
use Rattle.isle_blocks.proofs.normal.equalities_of.Goals.{then-is_none+then-root-k+in_ok-merge, else-is_none, else-is_none-via-then-is_none+else-root-k, else-is_none-via-else-is_none}

none_of : {X : Type 0} (o : Option X) → is_some o ≡ false → o ≡ None
none_of None h = refl
none_of (Some x) h = absurd (false≢true (sym h))

first_id : BindingId
first_id = record { 0 = 0 }

-- a site has another number than its representative, where that is another site
differ : (numbers : List BindingId) (each : List (Option Constraint)) (class : List ℕ) → AreSettled numbers each class → (k : ℕ) → k < length class
    → (get_or class k 0 ≡ k → ⊥) → get_or numbers k first_id ≡ get_or numbers (get_or class k 0) first_id → ⊥
differ numbers each class settled k within moves same =
    let fits = settled.classes.fits in
    let below = settled.classes.below k (omega (arith, fits, within)) in
    let one : k ≡ get_or class k 0 = settled.once (get_or numbers k first_id) k (get_or class k 0)
    (slice_get-get_or numbers k first_id (omega (arith, fits, within)))
    (slice_get-get_or numbers (get_or class k 0) first_id below ∙ ap Some (sym same)) in
    moves (sym one)

apart : (a b : ℕ) → (a ≡ b → ⊥) → (a == b) ≡ false
apart a b other = elim (a == b) as (λ r. (a == b) ≡ r → r ≡ false) [ true ↦ λ e. absurd (other (eqb-true a b e)) | false ↦ λ e. refl ] refl

pub merge-requires : goal.merge-requires
unfolding first_id
merge-requires c =
    apart _ _ (λ e. differ c.args.numbers.now c.args.each.now c.args.class.now c.requires.settled c.loop-k.k c.loop-k-test.true c.if-root-k.true
    (λ i. record { 0 = e i }))

pub loop-k-preserved : goal.loop-k-preserved
unfolding first_id
loop-k-preserved c =
    let numbers = c.args.numbers.now in
    let each = c.args.each.now in
    let class = c.args.class.now in
    let s = c.requires.settled in
    let k = c.loop-k.k in
    let within = c.loop-k-test.true in
    let classes = subst (λ (n : ℕ). AreClasses n class) (sym s.classes.fits) s.classes in
    let fits = s.classes.fits in
    let more = sets_more numbers s.once each class classes s.tests k within c.loop-k.equals c.loop-k.invariant in
    let skip = sets_skip numbers s.once each class classes s.tests k within c.loop-k.equals c.loop-k.invariant in
    elim c.if-is_none.branch [
      | then-is_none+then-root-k+in_ok-merge w ↦
          let x : BindingId = get_or numbers k first_id in
          let y : BindingId = get_or numbers (get_or class k 0) first_id in
          let below = s.classes.below k (omega (arith, fits, within)) in
          subst (AreSetsBelow numbers each class (k + 1)) (sym w.equals-is)
          (more (none_of _ w.if-is_none.ensures) w.if-root-k.true x y (slice_get-get_or numbers k first_id (omega (arith, fits, within)))
          (slice_get-get_or numbers (get_or class k 0) first_id below) w.merge.new.self w.in_ok-merge.ensures.joined)
      | else-is_none w ↦ subst (AreSetsBelow numbers each class (k + 1)) (sym w.equals-is) (skip (elim w.else-is_none.branch [
        | else-is_none-via-then-is_none+else-root-k v ↦ λ free. v.if-root-k.false
        | else-is_none-via-else-is_none v ↦ λ free. absurd (false≢true (ap is_some (sym free) ∙ v.if-is_none.ensures))
      ]))
    ]

pub returns-clause-equalities : goal.returns-clause-equalities
returns-clause-equalities c =
    let test = c.loop-k-test.false in let end = c.loop-k.auto.k-end in
    let last : c.loop-k.k ≡ length c.args.class.now = omega arith in
    let s = c.requires.settled in
    let classes = subst (λ (n : ℕ). AreClasses n c.args.class.now) (sym s.classes.fits) s.classes in
    sets_all c.args.numbers.now s.once c.args.each.now c.args.class.now classes s.tests c.loop-k.equals
    (subst (λ (n : ℕ). AreSetsBelow c.args.numbers.now c.args.each.now c.args.class.now n c.loop-k.equals) last c.loop-k.invariant)
