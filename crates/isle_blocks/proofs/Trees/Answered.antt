-- What the sites of a table hold is as trees ask.
use Rattle.std.proofs.Common.{◌≡◌, ◌≢◌, inl, inr, ℕ, false, List, [], ◌∷◌, Option, Some, None, slice_get, refl, ap, sym, subst}
use Rattle.std.proofs.Common.{◌∙◌}
use Rattle.isle_types.specs.declared.ids.Sym.{Sym}
use Rattle.isle_meaning.specs.Got.{Got, unknown, gives}
use Rattle.isle_meaning.specs.Values.{Value, Values}
use Rattle.isle_meaning.specs.Facts.{TermFacts}
use Rattle.isle_meaning.specs.Answers.{Completion}
use Rattle.isle_meaning.specs.Held.{Held, value}
use Rattle.isle_meaning.specs.Sites.{Site, Sites, no_sites, more_sites, prim_site}
use Rattle.isle_meaning.specs.Numbered.{Row, At, AtAll}
use Rattle.isle_meaning.specs.AboutSites.Parts.{parts_of, IsOneOf}
use Rattle.isle_meaning.specs.AboutSites.Agreeing.{IsOpenCall}
use Rattle.isle_meaning.specs.AboutSites.Making.{HoldEach}
use Rattle.isle_meaning.proofs.Sites.Agreeing.{open_call, strict}
use Rattle.isle_meaning.proofs.Sites.Made.{held_made}
use Rattle.isle_blocks.specs.declared.binding.Binding.{Binding}
use Rattle.isle_blocks.specs.declared.binding.Binding.TheVariants as sites
use Rattle.isle_blocks.specs.Tables.{sources_of}
use Rattle.isle_blocks.specs.Tables.{IsTable}
use Rattle.isle_blocks.specs.Rows.{rows_of, numbers_of}
use Rattle.isle_blocks.specs.Trees.View.{read_or, is_bound}
use Rattle.isle_blocks.specs.Trees.SiteTrees.{tree_from, tree_to, tree_of, held_by}
use Rattle.isle_blocks.specs.Trees.Makes.{makes_of}
use Rattle.isle_blocks.specs.Trees.Laws.{AnswersAreStrict, AnswersAreMadeByParts, OpenSitesAreCalls}
use Rattle.isle_blocks.proofs.Trees.Standing.{tree_at, tree_is, tree_one, parts_stand, in_all}
use Rattle.isle_trees.specs.Answers.{HasValue}
use Rattle.isle_trees.specs.Machine.{AreValues}
use Rattle.isle_trees.specs.Rules.{Elem}
use Rattle.isle_trees.proofs.Basics.{none_or}

module _ (name : Sym → List ℕ) (table : List Binding) (ok : IsTable table) where
  -- the table's entries
  abbrev rows : List Row
  rows = rows_of name table

  -- the parts of a number
  abbrev parts_at : ℕ → List ℕ
  parts_at k = read_or [] (λ (b : Binding). numbers_of (sources_of b)) (slice_get table k)

  -- a number's tree
  abbrev tree : ℕ → Site
  tree = tree_of name table

  -- past the table nothing has parts
  part_there : (s p : ℕ) → Elem p (parts_at s) → (b : Binding) × (slice_get table s ≡ Some b)
  part_there s p m = elim (none_or (slice_get table s)) [
    | inl e ↦ absurd (subst (λ (o : Option Binding). Elem p (read_or [] (λ (b : Binding). numbers_of (sources_of b)) o)) e m)
    | inr e ↦ e
  ]

  -- one of some sites has a number
  of_all : (ss : Sites) (ks : List ℕ) (u : Site) → AtAll rows ss ks → IsOneOf ss u → (p : ℕ) × Elem p ks × At rows u p
  of_all no_sites ks u h m = absurd m
  of_all (more_sites s ss) [] u h m = absurd h
  of_all (more_sites s ss) (k ∷ ks) u h (inl e) = (k, inl refl, subst (λ (z : Site). At rows z k) (sym e) (h.0))
  of_all (more_sites s ss) (k ∷ ks) u h (inr m) = let (p, i, q) = of_all ss ks u (h.1) m in (p, inr i, q)

  -- the numbers of a tree's parts stand for them
  parts_stand_for : (k : ℕ) (b : Binding) → slice_get table k ≡ Some b → AtAll rows (parts_of (tree k)) (parts_at k)
  parts_stand_for k b e = parts_stand name table (tree k) k (tree_at name table ok k b e)

  -- A part of a number's tree is the tree of a part.
  pub part_tree : (k : ℕ) (b : Binding) (u : Site) → slice_get table k ≡ Some b → IsOneOf (parts_of (tree_of name table k)) u
      → (p : ℕ) × Elem p (parts_at k) × (tree_of name table p ≡ u)
  part_tree k b u e m =
      let (p, i, q) = of_all (parts_of (tree k)) (parts_at k) u (parts_stand_for k b e) m in (p, i, tree_one name table ok u p q)

  -- The tree of a part is a part.
  pub tree_part : (k : ℕ) (b : Binding) (p : ℕ) → slice_get table k ≡ Some b → Elem p (parts_at k)
      → IsOneOf (parts_of (tree_of name table k)) (tree_of name table p)
  tree_part k b p e m =
      let (u, i, q) = in_all rows (parts_of (tree k)) (parts_at k) p (parts_stand_for k b e) m in
      subst (IsOneOf (parts_of (tree k))) (sym (tree_one name table ok u p q)) i

  module _ (facts : TermFacts) (c : Completion) (args : Values) (done : List (Option Value)) where
    -- what a site holds
    abbrev val : Site → Got Held
    val s = value facts c args done s

    -- What has a value is made of what has.
    pub held_strict : (s : ℕ) → HasValue (held_by name table facts c args done s) → (p : ℕ) → Elem p (parts_at s)
        → HasValue (held_by name table facts c args done p)
    held_strict s h p m =
        let (b, at) = part_there s p m in strict facts c args done (tree s) (tree p) (tree_part s b p at m) h

    -- Where the parts of a number have values, so have its tree's.
    pub parts_valued : (s : ℕ) (b : Binding) → slice_get table s ≡ Some b
        → ((p : ℕ) → Elem p (parts_at s) → HasValue (held_by name table facts c args done p)) → (u : Site)
        → IsOneOf (parts_of (tree_of name table s)) u → HasValue (val u)
    parts_valued s b at h u m =
        let (p, i, q) = part_tree s b u at m in subst (λ (z : Site). HasValue (val z)) q (h p i)

    -- what is given is known
    known_there : (u : Site) → HasValue (val u) → val u ≢ unknown
    known_there u (x, e) q = let z = sym e ∙ q in cc

    -- past the table a constant is held
    past_known : (s : ℕ) → slice_get table s ≡ None → held_by name table facts c args done s ≢ unknown
    past_known s q e =
        let t : tree s ≡ prim_site [] = ap (tree_from name (tree_to name table s)) q in
        let v : val (prim_site []) ≡ unknown = subst (λ (z : Site). val z ≡ unknown) t e in cc

    -- A site that isn't known, though its parts have values, is a call that isn't answered.
    pub open_site : (s : ℕ) → ((p : ℕ) → Elem p (parts_at s) → HasValue (held_by name table facts c args done p))
        → held_by name table facts c args done s ≡ unknown → IsOpenCall facts c args done (tree_of name table s)
    open_site s h e = elim (none_or (slice_get table s)) [
      | inl q ↦ absurd (past_known s q e)
      | inr q ↦ open_call facts c args done (tree s) (λ u m. known_there u (parts_valued s (q.0) (q.1) h u m)) e
    ]

    -- what isn't bound is no call
    open_bound : (b : Binding) → is_bound b ≡ false → IsOpenCall facts c args done (tree_from name tree (Some b)) → ⊥
    open_bound (sites.ConstBool v t) e o = o
    open_bound (sites.ConstInt v t) e o = o
    open_bound (sites.ConstPrim v) e o = o
    open_bound (sites.Argument i) e o = o
    open_bound (sites.Extractor t a) e o = cc
    open_bound (sites.Constructor t ps n) e o = cc
    open_bound (sites.Iterator a) e o = o
    open_bound (sites.MakeVariant t v fs) e o = o
    open_bound (sites.MatchVariant a v i) e o = o
    open_bound (sites.MakeStruct t fs) e o = o
    open_bound (sites.ExtractStruct a i) e o = o
    open_bound (sites.MakeSome a) e o = o
    open_bound (sites.MatchSome a) e o = o
    open_bound (sites.MatchTuple a i) e o = o

    -- What isn't bound is known where its parts have values.
    pub held_plain : (s : ℕ) → read_or false is_bound (slice_get table s) ≡ false
        → ((p : ℕ) → Elem p (parts_at s) → HasValue (held_by name table facts c args done p)) → held_by name table facts c args done s ≢ unknown
    held_plain s n h e = elim (none_or (slice_get table s)) [
      | inl q ↦ past_known s q e
      | inr q ↦
          let (b, at) = q in
          let free : is_bound b ≡ false = subst (λ (o : Option Binding). read_or false is_bound o ≡ false) at n in
          open_bound b free (subst (IsOpenCall facts c args done) (tree_is name table ok s b at) (open_site s h e))
    ]

    -- values of numbers are those of their sites
    held_each : (ss : Sites) (ks : List ℕ) (xs : List Held) → AtAll rows ss ks → AreValues (held_by name table facts c args done) ks xs
        → HoldEach facts c args done ss xs
    held_each no_sites [] [] at h = tt
    held_each no_sites [] (x ∷ xs) at h = absurd h
    held_each no_sites (k ∷ ks) xs at h = absurd at
    held_each (more_sites s ss) [] xs at h = absurd at
    held_each (more_sites s ss) (k ∷ ks) [] at h = absurd h
    held_each (more_sites s ss) (k ∷ ks) (x ∷ xs) at h = (
      subst (λ (z : Site). val z ≡ gives x) (tree_one name table ok s k (at.0)) (h.0),
      held_each ss ks xs (at.1) (h.1),
    )

    -- A number's site holds what is made of what its parts hold.
    pub held_parts : (s : ℕ) (xs : List Held) → AreValues (held_by name table facts c args done) (parts_at s) xs
        → held_by name table facts c args done s ≡ makes_of name table facts c args done s xs
    held_parts s xs h = elim (none_or (slice_get table s)) [
      | inl q ↦
          let t : tree s ≡ prim_site [] = ap (tree_from name (tree_to name table s)) q in rw t refl
      | inr q ↦ held_made facts c args done (tree s) xs (held_each (parts_of (tree s)) (parts_at s) xs (parts_stand_for s (q.0) (q.1)) h)
    ]

pub answers_are_strict : AnswersAreStrict
answers_are_strict name set ok facts c args done s h p m = held_strict name set.sites ok facts c args done s h p m

pub answers_are_made_by_parts : AnswersAreMadeByParts
answers_are_made_by_parts name set ok facts c args done = record { of_parts = λ s xs h. held_parts name set.sites ok facts c args done s xs h }

pub open_sites_are_calls : OpenSitesAreCalls
open_sites_are_calls name set ok facts c args done s is = open_site name set.sites ok facts c args done s (is.0) (is.1)
