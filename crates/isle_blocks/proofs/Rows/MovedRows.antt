-- What moving sites does to the entries that they are.
use Rattle.std.proofs.Common.{◌≡◌, inl, inr, ℕ, List, [], ◌∷◌, ◌++◌, map, Option, Some, None, slice_get, unwrap_or, refl, sym, ◌∙◌, ap, subst}
use Rattle.std.specs.Option.{option_map}
use Rattle.std.proofs.lemmas.List.{length-map, map-append}
use Rattle.std.proofs.lemmas.Option.{slice_get-map}
use Rattle.isle_types.specs.declared.ids.Sym.{Sym}
use Rattle.isle_types.proofs.Zipped.{mapped_at}
use Rattle.isle_blocks.specs.declared.ids.BindingId.{BindingId}
use Rattle.isle_blocks.specs.declared.binding.Binding.{Binding}
use Rattle.isle_blocks.specs.declared.binding.Binding.TheVariants as sites
use Rattle.isle_blocks.specs.Rows.{IsInjective, numbers_of, row_of, rows_of}
use Rattle.isle_blocks.specs.Tables.{IsInterned}
use Rattle.isle_blocks.specs.Inside.RowTables.{IsEntered}
use Rattle.isle_blocks.specs.Inside.MovedSites.{new_number, renumbered, moved_row, place_in, MovesSites, no_sites_moved, next_site_moved, Moves}
use Rattle.isle_blocks.specs.Inside.MovedSites.{none_moved, next_moved}
use Rattle.isle_blocks.proofs.Rows.RowsInjective.{row-injective}

-- a site's new number, as a number
pub new_place : (ids : List BindingId) (id : BindingId) → (new_number ids id).0 ≡ place_in (numbers_of ids) id.0
new_place ids id = go (slice_get ids id.0) refl
  where
    go : (o : Option BindingId) → slice_get ids id.0 ≡ o → (unwrap_or (slice_get ids id.0) id).0 ≡ unwrap_or (slice_get (numbers_of ids) id.0) id.0
    go (Some x) e = rw e (rw (slice_get-map (λ (i : BindingId). i.0) ids id.0 ∙ ap (option_map (λ (i : BindingId). i.0)) e) refl)
    go None e = rw e (rw (slice_get-map (λ (i : BindingId). i.0) ids id.0 ∙ ap (option_map (λ (i : BindingId). i.0)) e) refl)

new_places : (ids parts : List BindingId) → numbers_of (map (new_number ids) parts) ≡ map (place_in (numbers_of ids)) (numbers_of parts)
new_places ids [] = refl
new_places ids (part ∷ parts) = let p = new_place ids part in let q = new_places ids parts in cc

module _ (name : Sym → List ℕ) (injective : IsInjective name) where
  -- the entry of a renumbered site is the moved entry
  pub moved_entry : (ids : List BindingId) (site : Binding)
      → row_of name (renumbered (new_number ids) site) ≡ moved_row (place_in (numbers_of ids)) (row_of name site)
  moved_entry ids (sites.ConstBool val ty) = refl
  moved_entry ids (sites.ConstInt val ty) = refl
  moved_entry ids (sites.ConstPrim val) = refl
  moved_entry ids (sites.Argument index) = refl
  moved_entry ids (sites.Extractor term parameter) = let p = new_place ids parameter in cc
  moved_entry ids (sites.Constructor term parameters instance) = let p = new_places ids parameters in cc
  moved_entry ids (sites.Iterator source) = let p = new_place ids source in cc
  moved_entry ids (sites.MakeVariant ty variant fields) = let p = new_places ids fields in cc
  moved_entry ids (sites.MatchVariant source variant field) = let p = new_place ids source in cc
  moved_entry ids (sites.MakeStruct ty fields) = let p = new_places ids fields in cc
  moved_entry ids (sites.ExtractStruct source field) = let p = new_place ids source in cc
  moved_entry ids (sites.MakeSome inner) = let p = new_place ids inner in cc
  moved_entry ids (sites.MatchSome source) = let p = new_place ids source in cc
  moved_entry ids (sites.MatchTuple source field) = let p = new_place ids source in cc

  -- an interned site is an entered entry
  pub entered : (table : List Binding) (site : Binding) (id : BindingId) (after : List Binding) → IsInterned table site id after
      → IsEntered (rows_of name table) (row_of name site) id.0 (rows_of name after)
  entered table site id after (inl (h, e)) =
      inl (slice_get-map (row_of name) table id.0 ∙ ap (option_map (row_of name)) h, ap (rows_of name) e)
  entered table site id after (inr (absent, l, e)) = inr (
    λ k h. let (x, at, same) = mapped_at (row_of name) table k (row_of name site) h in
        absent k (at ∙ ap (λ (b : Binding). Some b) (row-injective name injective x site same)),
    l ∙ sym (length-map table (row_of name)),
    ap (rows_of name) e ∙ map-append (row_of name) table (site ∷ []),
  )

  -- moved sites are moved entries
  pub moved_rows : {base own after : List Binding} {numbers : List BindingId} → MovesSites base own numbers after
      → Moves (rows_of name base) (rows_of name own) (numbers_of numbers) (rows_of name after)
  moved_rows no_sites_moved = none_moved
  moved_rows {base} (next_site_moved {own} {numbers} {table} site id after m i) =
      let step = next_moved (row_of name site) id.0 (rows_of name after) (moved_rows m)
      (subst (λ r. IsEntered (rows_of name table) r id.0 (rows_of name after)) (moved_entry numbers site)
      (entered table (renumbered (new_number numbers) site) id after i)) in
      subst (λ o. Moves (rows_of name base) o (numbers_of (numbers ++ id ∷ [])) (rows_of name after))
      (sym (map-append (row_of name) own (site ∷ [])))
      (subst (λ n. Moves (rows_of name base) (rows_of name own ++ row_of name site ∷ []) n (rows_of name after))
      (sym (map-append (λ (x : BindingId). x.0) numbers (id ∷ []))) step)
