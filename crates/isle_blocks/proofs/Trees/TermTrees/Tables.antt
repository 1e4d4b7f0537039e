-- The rows of a set's sites, as the machine reads them.
use Rattle.std.proofs.Common.{◌≡◌, inl, inr, ℕ, zero, suc, List, [], ◌∷◌, false, Some, None, slice_get, refl, ap, sym}
use Rattle.std.proofs.Common.{subst, ◌∙◌}
use Rattle.std.specs.Prelude.{not}
use Rattle.std.proofs.lemmas.Option.{none-some}
use Rattle.isle_types.specs.declared.ids.Sym.{Sym}
use Rattle.isle_meaning.specs.Machine.Runs.{is_computed}
use Rattle.isle_meaning.specs.Machine.Trees.{sites_at, site_of_row, parts_of_row, is_effect, is_call}
use Rattle.isle_meaning.specs.Numbered.{Row, At}
use Rattle.isle_meaning.specs.Sites.{Site, more_sites}
use Rattle.isle_trees.specs.Rules.{Source, Elem}
use Rattle.isle_trees.proofs.Basics.{none_or}
use Rattle.isle_blocks.specs.declared.binding.Binding.{Binding}
use Rattle.isle_blocks.specs.declared.binding.Binding.TheVariants as sites
use Rattle.isle_blocks.specs.declared.constraint.Constraint.{Constraint}
use Rattle.isle_blocks.specs.declared.ids.BindingId.{BindingId}
use Rattle.isle_blocks.specs.declared.rule.Rule.{Rule}
use Rattle.isle_blocks.specs.Tables.{sources_of}
use Rattle.isle_blocks.specs.Tables.{IsTable}
use Rattle.isle_blocks.specs.Rows.{IsInjective, numbers_of, row_of, rows_of}
use Rattle.isle_blocks.specs.Trees.SiteTrees.{trees_of, tree_from, tree_of}
use Rattle.isle_blocks.specs.Trees.View.{read_or, is_impure, is_bound, made_by}
use Rattle.isle_blocks.proofs.Closure.Trees.{at_row, get_row, one_number, row_get}
use Rattle.isle_blocks.proofs.Trees.Reading.{numbered, read_some}
use Rattle.isle_blocks.proofs.Trees.Standing.{part_at, tree_at, tree_is}

-- ---- by the kinds of sites

-- the sites of parts are those of their numbers
parts_sites : (tree : ℕ → Site) (parts : List BindingId) → trees_of tree parts ≡ sites_at tree (numbers_of parts)
parts_sites tree [] = refl
parts_sites tree (x ∷ xs) = ap (more_sites (tree x.0)) (parts_sites tree xs)

-- an entry's site is its row's
entry_site : (name : Sym → List ℕ) (tree : ℕ → Site) (b : Binding) → tree_from name tree (Some b) ≡ site_of_row tree (row_of name b)
entry_site name tree (sites.Constructor t cs n) = rw (parts_sites tree cs) refl
entry_site name tree (sites.MakeVariant t v cs) = rw (parts_sites tree cs) refl
entry_site name tree (sites.MakeStruct t cs) = rw (parts_sites tree cs) refl
entry_site name tree b = refl

-- it is made of what its row is
entry_parts : (name : Sym → List ℕ) (b : Binding) → numbers_of (sources_of b) ≡ parts_of_row (row_of name b)
entry_parts name (sites.ConstBool v t) = refl
entry_parts name b = refl

-- it is an impure call where its row is one
entry_effect : (name : Sym → List ℕ) (b : Binding) → is_impure b ≡ is_effect (row_of name b)
entry_effect name (sites.Constructor t cs zero) = refl
entry_effect name (sites.Constructor t cs (suc n)) = refl
entry_effect name b = refl

-- it is bound where its row isn't computed
entry_bound : (name : Sym → List ℕ) (b : Binding) → is_bound b ≡ not (is_computed (row_of name b))
entry_bound name (sites.MakeVariant t v []) = refl
entry_bound name (sites.MakeVariant t v (x ∷ xs)) = refl
entry_bound name (sites.MakeStruct t []) = refl
entry_bound name (sites.MakeStruct t (x ∷ xs)) = refl
entry_bound name b = refl

-- what a test makes is no call, but one value of a multi call
entry_opens : (name : Sym → List ℕ) (rules : List Rule) (b : Binding) (m : Source Constraint) → made_by rules b ≡ Some m
    → ((a : BindingId) → b ≡ sites.Iterator a → ⊥) → is_call (row_of name b) ≡ false
entry_opens name rules (sites.Iterator a) m e none = absurd (none a refl)
entry_opens name rules (sites.MatchVariant a v i) m e none = refl
entry_opens name rules (sites.ExtractStruct a i) m e none = refl
entry_opens name rules (sites.MatchSome a) m e none = refl
entry_opens name rules b m e none = absurd cc

-- ---- by number

module _ (name : Sym → List ℕ) (table : List Binding) where
  -- the table's rows
  abbrev rows : List Row
  rows = rows_of name table

  -- a number's tree
  abbrev tree : ℕ → Site
  tree = tree_of name table

  -- What a number is made of.
  pub parts_are : (k : ℕ) (row : Row) → slice_get rows k ≡ Some row
      → read_or [] (λ (b : Binding). numbers_of (sources_of b)) (slice_get table k) ≡ parts_of_row row
  parts_are k row e = let (b, at, is) = get_row name table k row e in rw at (entry_parts name b ∙ ap parts_of_row is)

  -- A number past the table is made of nothing.
  pub parts_beyond : (k : ℕ) → slice_get rows k ≡ None → read_or [] (λ (b : Binding). numbers_of (sources_of b)) (slice_get table k) ≡ []
  parts_beyond k e = elim (none_or (slice_get table k)) [
    | inl none ↦ rw none refl
    | inr there ↦ absurd (none-some (row_of name (there.0)) (sym e ∙ row_get name table k (there.0) (there.1)))
  ]

  -- Whether it is an impure call.
  pub effects_are : (k : ℕ) (row : Row) → slice_get rows k ≡ Some row → read_or false is_impure (slice_get table k) ≡ is_effect row
  effects_are k row e = let (b, at, is) = get_row name table k row e in rw at (entry_effect name b ∙ ap is_effect is)

  -- Whether it is bound.
  pub bound_are : (k : ℕ) (row : Row) → slice_get rows k ≡ Some row → read_or false is_bound (slice_get table k) ≡ not (is_computed row)
  bound_are k row e =
      let (b, at, is) = get_row name table k row e in rw at (entry_bound name b ∙ ap (λ (r : Row). not (is_computed r)) is)

  -- What a test makes is no call, where none is one value of a multi call.
  pub opens_are : ((k : ℕ) (a : BindingId) → slice_get table k ≡ Some (sites.Iterator a) → ⊥) → (rules : List Rule) (k : ℕ) (row : Row)
      (m : Source Constraint) → slice_get rows k ≡ Some row → read_or None (made_by rules) (slice_get table k) ≡ Some m → is_call row ≡ false
  opens_are none rules k row m e made =
      let (b, at, is) = get_row name table k row e in
      let (c, there, by) = read_some (made_by rules) (slice_get table k) m made in
      let same : Some b ≡ Some c = sym at ∙ there in
      let made_b : made_by rules b ≡ Some m = let z : b ≡ c = cc in subst (λ (x : Binding). made_by rules x ≡ Some m) (sym z) by in
      subst (λ (r : Row). is_call r ≡ false) is (entry_opens name rules b m made_b (λ a q. none k a (at ∙ ap Some q)))

  -- What a test makes stands in the table.
  pub opened_are_there : (rules : List Rule) (k : ℕ) (m : Source Constraint) → read_or None (made_by rules) (slice_get table k) ≡ Some m
      → (row : Row) × (slice_get (rows_of name table) k ≡ Some row)
  opened_are_there rules k m made =
      let (b, at, by) = read_some (made_by rules) (slice_get table k) m made in (row_of name b, row_get name table k b at)

  module _ (ok : IsTable table) where
    -- Each number's tree is its row's site.
    pub sites_are : (k : ℕ) (row : Row) → slice_get rows k ≡ Some row → tree_of name table k ≡ site_of_row (tree_of name table) row
    sites_are k row e =
        let (b, at, is) = get_row name table k row e in
        tree_is name table ok k b at ∙ entry_site name (tree_of name table) b ∙ ap (site_of_row (tree_of name table)) is

    -- A number stands for its tree.
    pub row_stands : (k : ℕ) (row : Row) → slice_get rows k ≡ Some row → At rows (tree_of name table k) k
    row_stands k row e = let (b, at, is) = get_row name table k row e in tree_at name table ok k b at

    -- No tree has two numbers.
    pub tree_once : IsInjective name → (k j : ℕ) (row other : Row) → slice_get rows k ≡ Some row → slice_get rows j ≡ Some other
        → tree_of name table k ≡ tree_of name table j → k ≡ j
    tree_once injective k j row other e f same =
        one_number name table injective ok (tree j) k j (subst (λ (s : Site). At rows s k) same (row_stands k row e)) (row_stands j other f)

    -- What a number is made of stands in the table.
    pub parts_are_there : (k j : ℕ) (row : Row) → slice_get rows k ≡ Some row → Elem j (parts_of_row row)
        → (other : Row) × (slice_get rows j ≡ Some other)
    parts_are_there k j row e inside =
        let (b, at, is) = get_row name table k row e in
        let m : Elem j (numbers_of (sources_of b)) = subst (Elem j) (sym (entry_parts name b ∙ ap parts_of_row is)) inside in
        let (x, has, same) = numbered (λ (id : BindingId). id.0) (sources_of b) j m in
        at_row name table (tree_of name table j) j
        (subst (λ (z : ℕ). At rows (tree_of name table z) z) same (part_at name table ok k b x at has))
