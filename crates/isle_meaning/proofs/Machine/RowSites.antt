-- The rows of a table, and the sites for which they stand.
use Rattle.std.proofs.Common.{◌≡◌, inl, inr, ℕ, true, false, List, [], ◌∷◌, Some, slice_get, refl, sym, ap, subst}
use Rattle.isle_trees.specs.Rules.{Elem, IsPartOf, itself, of_part}
use Rattle.isle_meaning.specs.Sites.{Site, constructor_call}
use Rattle.isle_meaning.specs.Sites.{match_some, Sites}
use Rattle.isle_meaning.specs.Subtrees.{IsSubtree}
use Rattle.isle_meaning.specs.Numbered.{Row, bool_row, int_row, prim_row, argument_row, extractor_row, constructor_row, iterator_row}
use Rattle.isle_meaning.specs.Numbered.{make_variant_row, match_variant_row, make_struct_row, extract_struct_row, make_some_row}
use Rattle.isle_meaning.specs.Numbered.{match_some_row, match_tuple_row}
use Rattle.isle_meaning.specs.Worlds.{CheckedProgram}
use Rattle.isle_meaning.specs.AboutSites.Parts.{parts_of, IsOneOf}
use Rattle.isle_meaning.specs.Machine.Runs.{TermTree}
use Rattle.isle_meaning.specs.Machine.Trees.{sites_at, site_of_row, parts_of_row, is_effect, is_call, IsTermTree}
use Rattle.isle_meaning.proofs.Chains.Subtrees.{whole, deeper}
use Rattle.isle_meaning.proofs.Sites.Parts.{part_within}

-- One of some numbers stands for one of their sites.
pub in_sites : (site : ℕ → Site) (js : List ℕ) (j : ℕ) → Elem j js → IsOneOf (sites_at site js) (site j)
in_sites site [] j m = absurd m
in_sites site (k ∷ ks) j (inl e) = inl (ap site e)
in_sites site (k ∷ ks) j (inr m) = inr (in_sites site ks j m)

-- One of the sites of some numbers has one of the numbers.
pub in_numbers : (site : ℕ → Site) (js : List ℕ) (s : Site) → IsOneOf (sites_at site js) s → (j : ℕ) × Elem j js × (s ≡ site j)
in_numbers site [] s m = absurd m
in_numbers site (j ∷ js) s (inl e) = (j, inl refl, e)
in_numbers site (j ∷ js) s (inr m) = let (k, n, e) = in_numbers site js s m in (k, inr n, e)

-- the parts of a row's site are those of the row's parts
row_parts : (site : ℕ → Site) (row : Row) → parts_of (site_of_row site row) ≡ sites_at site (parts_of_row row)
row_parts site (bool_row x ty) = refl
row_parts site (int_row x ty) = refl
row_parts site (prim_row x) = refl
row_parts site (argument_row i) = refl
row_parts site (extractor_row t k) = refl
row_parts site (constructor_row t js i) = refl
row_parts site (iterator_row k) = refl
row_parts site (make_variant_row ty v js) = refl
row_parts site (match_variant_row k v i) = refl
row_parts site (make_struct_row ty js) = refl
row_parts site (extract_struct_row k i) = refl
row_parts site (make_some_row k) = refl
row_parts site (match_some_row k) = refl
row_parts site (match_tuple_row k i) = refl

-- A part of a row stands for a part of its site.
pub row_part : (site : ℕ → Site) (row : Row) (j : ℕ) → Elem j (parts_of_row row) → IsOneOf (parts_of (site_of_row site row)) (site j)
row_part site row j m = subst (λ (ss : Sites). IsOneOf ss (site j)) (sym (row_parts site row)) (in_sites site (parts_of_row row) j m)

-- A row that stands for a constructor's call is one of it.
pub call_row : (site : ℕ → Site) (row : Row) (t i : ℕ) (ss : Sites) → site_of_row site row ≡ constructor_call t ss i
    → (js : List ℕ) × (row ≡ constructor_row t js i) × (sites_at site js ≡ ss)
call_row site (constructor_row u js k) t i ss e = (js, (let a : u ≡ t = cc in let d : k ≡ i = cc in cc), (cc))
call_row site (bool_row x ty) t i ss e = absurd cc
call_row site (int_row x ty) t i ss e = absurd cc
call_row site (prim_row x) t i ss e = absurd cc
call_row site (argument_row j) t i ss e = absurd cc
call_row site (extractor_row u k) t i ss e = absurd cc
call_row site (iterator_row k) t i ss e = absurd cc
call_row site (make_variant_row ty v js) t i ss e = absurd cc
call_row site (match_variant_row k v j) t i ss e = absurd cc
call_row site (make_struct_row ty js) t i ss e = absurd cc
call_row site (extract_struct_row k j) t i ss e = absurd cc
call_row site (make_some_row k) t i ss e = absurd cc
call_row site (match_some_row k) t i ss e = absurd cc
call_row site (match_tuple_row k j) t i ss e = absurd cc

-- A row that stands for a content is one.
pub content_row : (site : ℕ → Site) (row : Row) (s : Site) → site_of_row site row ≡ match_some s
    → (j : ℕ) × (row ≡ match_some_row j) × (site j ≡ s)
content_row site (match_some_row k) s e = (k, refl, (cc))
content_row site (bool_row x ty) s e = absurd cc
content_row site (int_row x ty) s e = absurd cc
content_row site (prim_row x) s e = absurd cc
content_row site (argument_row j) s e = absurd cc
content_row site (extractor_row u k) s e = absurd cc
content_row site (constructor_row u js k) s e = absurd cc
content_row site (iterator_row k) s e = absurd cc
content_row site (make_variant_row ty v js) s e = absurd cc
content_row site (match_variant_row k v j) s e = absurd cc
content_row site (make_struct_row ty js) s e = absurd cc
content_row site (extract_struct_row k j) s e = absurd cc
content_row site (make_some_row k) s e = absurd cc
content_row site (match_tuple_row k j) s e = absurd cc

-- What calls nothing makes no effects.
pub no_call_no_effect : (row : Row) → is_call row ≡ false → is_effect row ≡ false
no_call_no_effect (constructor_row t js i) e = absurd (let q : true ≡ false = e in cc)
no_call_no_effect (bool_row x ty) e = refl
no_call_no_effect (int_row x ty) e = refl
no_call_no_effect (prim_row x) e = refl
no_call_no_effect (argument_row i) e = refl
no_call_no_effect (extractor_row t j) e = refl
no_call_no_effect (iterator_row j) e = refl
no_call_no_effect (make_variant_row ty k js) e = refl
no_call_no_effect (match_variant_row j k i) e = refl
no_call_no_effect (make_struct_row ty js) e = refl
no_call_no_effect (extract_struct_row j i) e = refl
no_call_no_effect (make_some_row j) e = refl
no_call_no_effect (match_some_row j) e = refl
no_call_no_effect (match_tuple_row j i) e = refl

module _ {C : Type 0} (p : CheckedProgram) (R : ℕ → Type 0) (t : ℕ) (b : TermTree C) (B : IsTermTree p R t b) where
  -- a number stands for something
  abbrev pub Stands : ℕ → Type 0
  Stands k = (row : Row) × (slice_get b.sites k ≡ Some row)

  -- A part by number is a part.
  pub part_site : (k q : ℕ) (row : Row) → slice_get b.sites k ≡ Some row → Elem q (B.set.parts k) → IsOneOf (parts_of (B.site k)) (B.site q)
  part_site k q row at m =
      let n : Elem q (parts_of_row row) = subst (λ (l : List ℕ). Elem q l) (B.parts k row at) m in
      subst (λ (s : Site). IsOneOf (parts_of s) (B.site q)) (sym (B.sited k row at)) (row_part B.site row q n)

  -- It stands for something.
  pub part_stands : (k q : ℕ) (row : Row) → slice_get b.sites k ≡ Some row → Elem q (B.set.parts k) → Stands q
  part_stands k q row at m = B.stand k q row at (subst (λ (l : List ℕ). Elem q l) (B.parts k row at) m)

  -- What is a part by numbers, at any depth, is a subtree.
  pub deep_site : (u k : ℕ) → Stands u → IsPartOf B.set (u ∷ []) k → Stands k × IsSubtree (B.site k) (B.site u)
  deep_site u _ stands (itself k (inl e)) =
      (subst Stands (sym e) stands, subst (λ (z : ℕ). IsSubtree (B.site z) (B.site u)) (sym e) (whole (B.site u)))
  deep_site u _ stands (itself k (inr m)) = absurd m
  deep_site u _ stands (of_part s q h m) =
      let ((row, at), inside) = deep_site u s stands h in (
        part_stands s q row at m,
        deeper (B.site q) (B.site s) (B.site u) (part_within (B.site s) (B.site q) (part_site s q row at m)) inside,
      )
