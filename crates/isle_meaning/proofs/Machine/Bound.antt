-- What a term's tree binds: sites that a rule left asks, sites of a right side, and what tests make.
use Rattle.std.proofs.Common.{◌≡◌, ℕ, List, Option, Some, subst}
use Rattle.isle_trees.specs.Tree.{Steps, done, «match», equal, loop, give, Arms, no_arm, arm}
use Rattle.isle_trees.specs.Rules.{Elem, IsPartOf, Asked, Source, has, rights}
use Rattle.isle_trees.specs.Scopes.{Scope, nothing_known, join, inside, on_match, on_equal, sites_of, counted, others}
use Rattle.isle_trees.specs.Builds.{Builds, BuildsArms, wanting, not_wanting}
use Rattle.isle_trees.proofs.Basics.{from_filter, counted_left, others_left}
use Rattle.isle_trees.proofs.Path.{step_there}
use Rattle.isle_trees.proofs.Leaf.{in_all}
use Rattle.isle_trees.proofs.Asking.{each_part}
use Rattle.isle_meaning.specs.Worlds.{CheckedProgram}
use Rattle.isle_meaning.specs.Machine.Runs.{TermTree, opened}
use Rattle.isle_meaning.specs.Machine.Trees.{IsTermTree}
use Rattle.isle_meaning.proofs.Machine.Walked.{opened_in}

-- this holds of each of some numbers
abbrev pub AllAre : (ℕ → Type 0) → List ℕ → Type 0
AllAre P ks = (k : ℕ) → Elem k ks → P k

-- it holds of all that a run may bind in some steps, or in some arms
abbrev mutual
  pub BindsOnly : {C : Type 0} → (ℕ → Type 0) → Steps C → Type 0
  BindsOnly P done = Unit {0}
  BindsOnly P («match» binds s arms next) = AllAre P binds × ArmsBindOnly P arms × BindsOnly P next
  BindsOnly P (equal binds s u body next) = AllAre P binds × BindsOnly P body × BindsOnly P next
  BindsOnly P (loop binds k body next) = Unit {0}
  BindsOnly P (give binds i next) = AllAre P binds

  pub ArmsBindOnly : {C : Type 0} → (ℕ → Type 0) → Arms C → Type 0
  ArmsBindOnly P no_arm = Unit {0}
  ArmsBindOnly P (arm c fields body arms) = AllAre P (opened fields) × BindsOnly P body × ArmsBindOnly P arms

module _ {C : Type 0} (p : CheckedProgram) (R : ℕ → Type 0) (t : ℕ) (b : TermTree C) (B : IsTermTree p R t b) (P : ℕ → Type 0)
    (asked : (i k : ℕ) → Elem i B.left → Asked B.set i k → P k) (had : (i k : ℕ) → Elem i B.left → IsPartOf B.set (rights B.set i) k → P k)
    (made : (k : ℕ) (m : Source C) → B.set.made k ≡ Some m → P k) where
  mutual
    -- what steps bind
    steps_bind : (T : Steps C) (rest : List ℕ) (sc : Scope C) → ((i : ℕ) → Elem i rest → Elem i B.left) → Builds B.set rest sc T → BindsOnly P T
    steps_bind done rest sc less bu = tt
    steps_bind (loop binds x body next) rest sc less bu = tt
    steps_bind (give binds i next) rest sc less bu =
        λ k m. had i k (less i (bu.1.0.0)) (each_part (rights B.set i) B.set sc binds (bu.1.1.0) (bu.1.1.1) k m)
    steps_bind («match» binds s arms next) rest sc less (best, (after, bs, inner, outer)) = (
      λ k m.
          let (i, l, a) = (step_there B.set rest sc sc after (on_match s) binds B.tree.made.both best bs k
          (in_all B.set sc after (sites_of (on_match s)) binds bs k m)).1 in
          asked i k (less i l) a,
      arms_bind arms (counted B.set (on_match s) rest) after s (λ i m. less i (counted_left B.set (on_match s) rest i m)) inner,
      steps_bind next (others B.set (on_match s) rest) after (λ i m. less i (others_left B.set (on_match s) rest i m)) outer,
    )
    steps_bind (equal binds x y body next) rest sc less (best, (after, bs, inner, outer)) = (
      λ k m.
          let (i, l, a) = (step_there B.set rest sc sc after (on_equal x y) binds B.tree.made.both best bs k
          (in_all B.set sc after (sites_of (on_equal x y)) binds bs k m)).1 in
          asked i k (less i l) a,
      steps_bind body (counted B.set (on_equal x y) rest) (join after x y) (λ i m. less i (counted_left B.set (on_equal x y) rest i m)) inner,
      steps_bind next (others B.set (on_equal x y) rest) after (λ i m. less i (others_left B.set (on_equal x y) rest i m)) outer,
    )

    -- what arms do
    arms_bind : (arms : Arms C) (rest : List ℕ) (sc : Scope C) (s : ℕ) → ((i : ℕ) → Elem i rest → Elem i B.left)
        → BuildsArms B.set rest sc s arms → ArmsBindOnly P arms
    arms_bind no_arm rest sc s less bu = tt
    arms_bind (arm c fields body arms) rest sc s less bu = (
      λ k m. made k (record { site = s; want = has c })
          (B.fields.fields_made s k c (subst (λ (l : List (Option ℕ)). Elem (Some k) l) (bu.1) (opened_in fields k m))),
      steps_bind body (wanting B.set s c rest) (inside B.set sc s (has c)) (λ i m. less i ((from_filter _ rest i m).0)) (bu.2),
      arms_bind arms (not_wanting B.set s c rest) sc s (λ i m. less i ((from_filter _ rest i m).0)) (bu.3),
    )

  -- The term's tree binds such sites alone.
  pub tree_binds : BindsOnly P b.tree
  tree_binds = steps_bind b.tree B.left nothing_known (λ i m. m) B.tree.builds
