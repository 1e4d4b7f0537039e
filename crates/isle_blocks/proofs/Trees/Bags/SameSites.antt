-- Whether two sites are one, and the number of a site in a table.
use Rattle.std.proofs.Common.{◌≡◌, ◌≢◌, inl, inr, ℕ, zero, suc, ◌<◌, ◌≤◌, ◌==◌, ◌&&◌, Bool, true, false, List, length, refl, ap, sym, subst}
use Rattle.std.proofs.Common.{arith, eqb-true, eq-eqb}
use Rattle.std.specs.Prelude.{if◌then◌else◌}
use Rattle.std.specs.Ordering.{int_eq}
use Rattle.std.proofs.lemmas.Bool.Decides.{Decides-int_eq}
use Rattle.std.proofs.lemmas.Option.{slice_get_cases}
use Rattle.isle_types.specs.declared.ids.Sym.{Sym}
use Rattle.isle_meaning.specs.Sites.{Site, bool_site, int_site, prim_site, argument, extractor_call, constructor_call, iterator}
use Rattle.isle_meaning.specs.Sites.{make_variant, match_variant, make_struct, extract_struct, make_some, match_some, match_tuple}
use Rattle.isle_meaning.specs.Sites.{Sites, no_sites, more_sites}
use Rattle.isle_meaning.specs.Held.{held_value}
use Rattle.isle_meaning.specs.Numbered.{At}
use Rattle.isle_meaning.specs.Values.{bool_value, constant_value}
use Rattle.isle_blocks.specs.declared.binding.Binding.{Binding}
use Rattle.isle_blocks.specs.Tables.{IsTable}
use Rattle.isle_blocks.specs.Rows.{IsInjective, rows_of}
use Rattle.isle_blocks.specs.Trees.Compare.{same_name, same_bool}
use Rattle.isle_blocks.specs.Trees.SiteTrees.{tree_of}
use Rattle.isle_blocks.proofs.Closure.Trees.{one_number, at_below}
use Rattle.isle_blocks.proofs.Trees.Exact.{held_sound, held_self}
use Rattle.isle_blocks.proofs.Trees.Standing.{tree_at, tree_one}
use Rattle.isle_trees.proofs.Basics.{true_or, and_both, both_and, clash}

-- truth values that are the same are one
bool_sound : (a b : Bool) → same_bool a b ≡ true → a ≡ b
bool_sound a b e = let p = held_sound (held_value (bool_value a)) (held_value (bool_value b)) e in cc

-- so are names
name_sound : (xs ys : List ℕ) → same_name xs ys ≡ true → xs ≡ ys
name_sound xs ys e = let p = held_sound (held_value (constant_value xs)) (held_value (constant_value ys)) e in cc

-- Whether two sites are one.
abbrev mutual
  pub same_tree : Site → Site → Bool
  same_tree (bool_site b ty) (bool_site d uy) = same_bool b d && (ty == uy)
  same_tree (int_site n ty) (int_site m uy) = int_eq n m && (ty == uy)
  same_tree (prim_site n) (prim_site m) = same_name n m
  same_tree (argument i) (argument j) = i == j
  same_tree (extractor_call t s) (extractor_call v u) = (t == v) && same_tree s u
  same_tree (constructor_call t ss i) (constructor_call v us j) = (t == v) && ((i == j) && same_trees ss us)
  same_tree (iterator s) (iterator u) = same_tree s u
  same_tree (make_variant ty k ss) (make_variant uy j us) = (ty == uy) && ((k == j) && same_trees ss us)
  same_tree (match_variant s k i) (match_variant u j l) = (k == j) && ((i == l) && same_tree s u)
  same_tree (make_struct ty ss) (make_struct uy us) = (ty == uy) && same_trees ss us
  same_tree (extract_struct s i) (extract_struct u j) = (i == j) && same_tree s u
  same_tree (make_some s) (make_some u) = same_tree s u
  same_tree (match_some s) (match_some u) = same_tree s u
  same_tree (match_tuple s i) (match_tuple u j) = (i == j) && same_tree s u
  same_tree s u = false

  -- whether these are
  pub same_trees : Sites → Sites → Bool
  same_trees no_sites no_sites = true
  same_trees no_sites (more_sites u us) = false
  same_trees (more_sites s ss) no_sites = false
  same_trees (more_sites s ss) (more_sites u us) = same_tree s u && same_trees ss us

mutual
  -- those that are the same are one
  tree_sound : (s u : Site) → same_tree s u ≡ true → s ≡ u
  tree_sound (bool_site b ty) (bool_site d uy) e =
      let h = and_both (same_bool b d) (ty == uy) e in let p = bool_sound b d (h.0) in let q : ty ≡ uy = eqb-true ty uy (h.1) in cc
  tree_sound (int_site n ty) (int_site m uy) e =
      let h = and_both (int_eq n m) (ty == uy) e in let p = (Decides-int_eq n m).0 (h.0) in let q : ty ≡ uy = eqb-true ty uy (h.1) in cc
  tree_sound (prim_site n) (prim_site m) e = ap prim_site (name_sound n m e)
  tree_sound (argument i) (argument j) e = ap argument (eqb-true i j e)
  tree_sound (extractor_call t s) (extractor_call v u) e =
      let h = and_both (t == v) (same_tree s u) e in let p : t ≡ v = eqb-true t v (h.0) in let q = tree_sound s u (h.1) in cc
  tree_sound (constructor_call t ss i) (constructor_call v us j) e =
      let h = and_both (t == v) ((i == j) && same_trees ss us) e in
      let g = and_both (i == j) (same_trees ss us) (h.1) in
      let p : t ≡ v = eqb-true t v (h.0) in let q : i ≡ j = eqb-true i j (g.0) in let r = trees_sound ss us (g.1) in cc
  tree_sound (iterator s) (iterator u) e = ap iterator (tree_sound s u e)
  tree_sound (make_variant ty k ss) (make_variant uy j us) e =
      let h = and_both (ty == uy) ((k == j) && same_trees ss us) e in
      let g = and_both (k == j) (same_trees ss us) (h.1) in
      let p : ty ≡ uy = eqb-true ty uy (h.0) in let q : k ≡ j = eqb-true k j (g.0) in let r = trees_sound ss us (g.1) in cc
  tree_sound (match_variant s k i) (match_variant u j l) e =
      let h = and_both (k == j) ((i == l) && same_tree s u) e in
      let g = and_both (i == l) (same_tree s u) (h.1) in
      let p : k ≡ j = eqb-true k j (h.0) in let q : i ≡ l = eqb-true i l (g.0) in let r = tree_sound s u (g.1) in cc
  tree_sound (make_struct ty ss) (make_struct uy us) e =
      let h = and_both (ty == uy) (same_trees ss us) e in let p : ty ≡ uy = eqb-true ty uy (h.0) in let q = trees_sound ss us (h.1) in cc
  tree_sound (extract_struct s i) (extract_struct u j) e =
      let h = and_both (i == j) (same_tree s u) e in let p : i ≡ j = eqb-true i j (h.0) in let q = tree_sound s u (h.1) in cc
  tree_sound (make_some s) (make_some u) e = ap make_some (tree_sound s u e)
  tree_sound (match_some s) (match_some u) e = ap match_some (tree_sound s u e)
  tree_sound (match_tuple s i) (match_tuple u j) e =
      let h = and_both (i == j) (same_tree s u) e in let p : i ≡ j = eqb-true i j (h.0) in let q = tree_sound s u (h.1) in cc
  tree_sound s u e = absurd cc

  -- so are these
  trees_sound : (ss us : Sites) → same_trees ss us ≡ true → ss ≡ us
  trees_sound no_sites no_sites e = refl
  trees_sound no_sites (more_sites u us) e = absurd cc
  trees_sound (more_sites s ss) no_sites e = absurd cc
  trees_sound (more_sites s ss) (more_sites u us) e =
      let h = and_both (same_tree s u) (same_trees ss us) e in let p = tree_sound s u (h.0) in let q = trees_sound ss us (h.1) in cc

mutual
  -- each is the same as itself
  tree_self : (s : Site) → same_tree s s ≡ true
  tree_self (bool_site b ty) = both_and (same_bool b b) (ty == ty) (held_self (held_value (bool_value b))) (eq-eqb ty ty refl)
  tree_self (int_site n ty) = both_and (int_eq n n) (ty == ty) ((Decides-int_eq n n).1 refl) (eq-eqb ty ty refl)
  tree_self (prim_site n) = held_self (held_value (constant_value n))
  tree_self (argument i) = eq-eqb i i refl
  tree_self (extractor_call t s) = both_and (t == t) (same_tree s s) (eq-eqb t t refl) (tree_self s)
  tree_self (constructor_call t ss i) =
      both_and (t == t) ((i == i) && same_trees ss ss) (eq-eqb t t refl) (both_and (i == i) (same_trees ss ss) (eq-eqb i i refl) (trees_self ss))
  tree_self (iterator s) = tree_self s
  tree_self (make_variant ty k ss) =
      both_and (ty == ty) ((k == k) && same_trees ss ss) (eq-eqb ty ty refl) (both_and (k == k) (same_trees ss ss) (eq-eqb k k refl) (trees_self ss))
  tree_self (match_variant s k i) =
      both_and (k == k) ((i == i) && same_tree s s) (eq-eqb k k refl) (both_and (i == i) (same_tree s s) (eq-eqb i i refl) (tree_self s))
  tree_self (make_struct ty ss) = both_and (ty == ty) (same_trees ss ss) (eq-eqb ty ty refl) (trees_self ss)
  tree_self (extract_struct s i) = both_and (i == i) (same_tree s s) (eq-eqb i i refl) (tree_self s)
  tree_self (make_some s) = tree_self s
  tree_self (match_some s) = tree_self s
  tree_self (match_tuple s i) = both_and (i == i) (same_tree s s) (eq-eqb i i refl) (tree_self s)

  -- so are these
  trees_self : (ss : Sites) → same_trees ss ss ≡ true
  trees_self no_sites = refl
  trees_self (more_sites s ss) = both_and (same_tree s s) (same_trees ss ss) (tree_self s) (trees_self ss)

module _ (name : Sym → List ℕ) (table : List Binding) where
  -- The number of a site among the first of a table.
  abbrev pub number_below : ℕ → Site → ℕ
  number_below zero s = 0
  number_below (suc n) s = if same_tree (tree_of name table n) s then n else number_below n s

  module _ (injective : IsInjective name) (ok : IsTable table) where
    -- a number that stands for a site is found
    is_found : (n k : ℕ) (s : Site) → k < n → n ≤ length table → At (rows_of name table) s k → number_below n s ≡ k
    is_found zero k s l m at = absurd (omega arith)
    is_found (suc n) k s l m at = elim (true_or (same_tree (tree_of name table n) s)) [
      | inl e ↦
          let one : n ≡ k = elim (slice_get_cases table n).1 [
            | inl (b, q, there, g) ↦
                let stands = subst (λ (z : Site). At (rows_of name table) z n) (tree_sound (tree_of name table n) s e)
                (tree_at name table ok n b there) in
                one_number name table injective ok s n k stands at
            | inr (q, none) ↦ absurd (omega arith)
          ] in
          rw e one
      | inr e ↦
          let apart : k ≢ n = λ q.
          let same : tree_of name table n ≡ s = subst (λ (z : ℕ). tree_of name table z ≡ s) q (tree_one name table ok s k at) in
          clash (same_tree (tree_of name table n) s)
          (subst (λ (z : Site). same_tree z s ≡ true) (sym same) (tree_self s)) e in
          rw e (is_found n k s (omega arith) (omega arith) at)
    ]

    -- The number of a site is found.
    pub number_is : (s : Site) (k : ℕ) → At (rows_of name table) s k → number_below (length table) s ≡ k
    number_is s k at = is_found (length table) k s (at_below name table s k at) (omega arith) at
