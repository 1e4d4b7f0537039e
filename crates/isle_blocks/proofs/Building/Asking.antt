-- The contents that a site is made of, by numbers and by sites.
use Rattle.std.proofs.Common.{Option, None, ◌⊎◌}
use Rattle.std.proofs.Common.{◌≡◌, ℕ, List, [], ◌∷◌, Some, slice_get, Contains, refl, sym, ap, ◌∙◌, subst, inl, inr}
use Rattle.std.proofs.lemmas.Option.{slice_get-map, none-some, same_Some}
use Rattle.std.specs.Option.{option_map}
use Rattle.isle_containers.proofs.RootedTables.{Contains-map}
use Rattle.isle_types.specs.declared.ids.Sym.{Sym}
use Rattle.isle_meaning.specs.Sites.{Site, bool_site, int_site, prim_site, argument, extractor_call, constructor_call, iterator}
use Rattle.isle_meaning.specs.Sites.{make_variant, match_variant, make_struct, extract_struct, make_some, match_some, match_tuple}
use Rattle.isle_meaning.specs.Sites.{Sites, no_sites, more_sites}
use Rattle.isle_meaning.specs.Demands.{Demand, constrained, some_constraint, Among, contents, contents_all}
use Rattle.isle_meaning.specs.Numbered.{Row, bool_row, int_row, prim_row, argument_row, extractor_row, constructor_row, iterator_row}
use Rattle.isle_meaning.specs.Numbered.{make_variant_row, match_variant_row, make_struct_row, extract_struct_row, make_some_row}
use Rattle.isle_meaning.specs.Numbered.{match_some_row, match_tuple_row, At, AtAll}
use Rattle.isle_blocks.specs.declared.ids.BindingId.{BindingId}
use Rattle.isle_blocks.specs.declared.binding.Binding.{Binding}
use Rattle.isle_blocks.specs.declared.binding.Binding.TheVariants as sites
use Rattle.isle_blocks.specs.Tables.{sources_of}
use Rattle.isle_blocks.specs.Rows.{numbers_of, row_of, rows_of}
use Rattle.isle_blocks.specs.Inside.Building.Contents.{Reached, here, through, IsAsked}
use Rattle.isle_blocks.proofs.Building.Walking.{cons_cases, cons_here, cons_there, none_there}
use Rattle.isle_blocks.proofs.Building.Entries.{among_left, among_right, among_cases}

-- the parts of an entry, by number
abbrev pub row_parts : Row → List ℕ
row_parts (bool_row b ty) = []
row_parts (int_row n ty) = []
row_parts (prim_row n) = []
row_parts (argument_row i) = []
row_parts (extractor_row t j) = j ∷ []
row_parts (constructor_row t js i) = js
row_parts (iterator_row j) = j ∷ []
row_parts (make_variant_row ty v js) = js
row_parts (match_variant_row j v i) = j ∷ []
row_parts (make_struct_row ty js) = js
row_parts (extract_struct_row j i) = j ∷ []
row_parts (make_some_row j) = j ∷ []
row_parts (match_some_row j) = j ∷ []
row_parts (match_tuple_row j i) = j ∷ []

module _ (name : Sym → List ℕ) (table : List Binding) where
  abbrev rows : List Row
  rows = rows_of name table

  pub parts_named : (b : Binding) → row_parts (row_of name b) ≡ numbers_of (sources_of b)
  parts_named (sites.ConstBool val ty) = refl
  parts_named (sites.ConstInt val ty) = refl
  parts_named (sites.ConstPrim val) = refl
  parts_named (sites.Argument index) = refl
  parts_named (sites.Extractor term parameter) = refl
  parts_named (sites.Constructor term parameters instance) = refl
  parts_named (sites.Iterator source) = refl
  parts_named (sites.MakeVariant ty variant fields) = refl
  parts_named (sites.MatchVariant source variant field) = refl
  parts_named (sites.MakeStruct ty fields) = refl
  parts_named (sites.ExtractStruct source field) = refl
  parts_named (sites.MakeSome inner) = refl
  parts_named (sites.MatchSome source) = refl
  parts_named (sites.MatchTuple source field) = refl

  -- a part of a site is a part of its entry
  part_in : (x : ℕ) (row : Row) (site : Binding) (part : BindingId) → slice_get rows x ≡ Some row → slice_get table x ≡ Some site
      → Contains (sources_of site) part → Contains (row_parts row) part.0
  part_in x row site part at g c =
      let same : row ≡ row_of name site = same_Some _ _ (sym at ∙ slice_get-map (row_of name) table x ∙ ap (option_map (row_of name)) g) in
      subst (λ r. Contains (row_parts r) part.0) (sym same)
      (subst (λ l. Contains l part.0) (sym (parts_named site)) (Contains-map (λ (id : BindingId). id.0) (sources_of site) part c))

  one_part : (x : ℕ) (row : Row) (site : Binding) (part : BindingId) (j : ℕ) → slice_get rows x ≡ Some row → slice_get table x ≡ Some site
      → Contains (sources_of site) part → row_parts row ≡ j ∷ [] → j ≡ part.0
  one_part x row site part j at g c only = elim (cons_cases j [] part.0 (subst (λ l. Contains l part.0) only (part_in x row site part at g c))) [
    | inl e ↦ e
    | inr k ↦ none_there part.0 k
  ]

  -- an entry of such a site isn't a content, or its content is known
  row_is : (x : ℕ) (row : Row) (call : BindingId) → slice_get rows x ≡ Some row → slice_get table x ≡ Some (sites.MatchSome call)
      → row ≡ match_some_row call.0
  row_is x row call at g = same_Some _ _ (sym at ∙ slice_get-map (row_of name) table x ∙ ap (option_map (row_of name)) g)

  -- what is asked by numbers is asked of the site
  abbrev Found : List Demand → BindingId → Type 0
  Found ds call = (w : Site) × At rows w call.0 × Among ds (constrained w some_constraint)

  no_part : (x : ℕ) (row : Row) (site : Binding) (part : BindingId) → slice_get rows x ≡ Some row → slice_get table x ≡ Some site
      → Contains (sources_of site) part → row_parts row ≡ [] → ⊥
  no_part x row site part at g c none = none_there part.0 (subst (λ l. Contains l part.0) none (part_in x row site part at g c))

  mutual
    pub asked_sound : (t : Site) (x j : ℕ) (call : BindingId) → At rows t x → Reached table x j → slice_get table j ≡ Some (sites.MatchSome call)
        → Found (contents t) call
    asked_sound (bool_site b ty) x j call at (here _) get = absurd (let e = row_is x (bool_row b ty) call at get in cc)
    asked_sound (bool_site b ty) x j call at (through s p g c r) get = absurd (no_part x (bool_row b ty) s p at g c refl)
    asked_sound (int_site n ty) x j call at (here _) get = absurd (let e = row_is x (int_row n ty) call at get in cc)
    asked_sound (int_site n ty) x j call at (through s p g c r) get = absurd (no_part x (int_row n ty) s p at g c refl)
    asked_sound (prim_site n) x j call at (here _) get = absurd (let e = row_is x (prim_row n) call at get in cc)
    asked_sound (prim_site n) x j call at (through s p g c r) get = absurd (no_part x (prim_row n) s p at g c refl)
    asked_sound (argument i) x j call at (here _) get = absurd (let e = row_is x (argument_row i) call at get in cc)
    asked_sound (argument i) x j call at (through s p g c r) get = absurd (no_part x (argument_row i) s p at g c refl)
    asked_sound (extractor_call f t) x j call at (here _) get = absurd (let e = row_is x (extractor_row f at.0) call at.1 get in cc)
    asked_sound (extractor_call f t) x j call at (through s p g c r) get =
        asked_sound t p.0 j call (subst (λ z. At rows t z) (one_part x (extractor_row f at.0) s p at.0 at.1 g c refl) at.2) r get
    asked_sound (constructor_call f ts i) x j call at (here _) get = absurd (let e = row_is x (constructor_row f at.0 i) call at.1 get in cc)
    asked_sound (constructor_call f ts i) x j call at (through s p g c r) get =
        all_sound ts at.0 p.0 j call at.2 (part_in x (constructor_row f at.0 i) s p at.1 g c) r get
    asked_sound (iterator t) x j call at (here _) get = absurd (let e = row_is x (iterator_row at.0) call at.1 get in cc)
    asked_sound (iterator t) x j call at (through s p g c r) get =
        asked_sound t p.0 j call (subst (λ z. At rows t z) (one_part x (iterator_row at.0) s p at.0 at.1 g c refl) at.2) r get
    asked_sound (make_variant ty v ts) x j call at (here _) get = absurd (let e = row_is x (make_variant_row ty v at.0) call at.1 get in cc)
    asked_sound (make_variant ty v ts) x j call at (through s p g c r) get =
        all_sound ts at.0 p.0 j call at.2 (part_in x (make_variant_row ty v at.0) s p at.1 g c) r get
    asked_sound (match_variant t v i) x j call at (here _) get = absurd (let e = row_is x (match_variant_row at.0 v i) call at.1 get in cc)
    asked_sound (match_variant t v i) x j call at (through s p g c r) get =
        asked_sound t p.0 j call (subst (λ z. At rows t z) (one_part x (match_variant_row at.0 v i) s p at.0 at.1 g c refl) at.2) r get
    asked_sound (make_struct ty ts) x j call at (here _) get = absurd (let e = row_is x (make_struct_row ty at.0) call at.1 get in cc)
    asked_sound (make_struct ty ts) x j call at (through s p g c r) get =
        all_sound ts at.0 p.0 j call at.2 (part_in x (make_struct_row ty at.0) s p at.1 g c) r get
    asked_sound (extract_struct t i) x j call at (here _) get = absurd (let e = row_is x (extract_struct_row at.0 i) call at.1 get in cc)
    asked_sound (extract_struct t i) x j call at (through s p g c r) get =
        asked_sound t p.0 j call (subst (λ z. At rows t z) (one_part x (extract_struct_row at.0 i) s p at.0 at.1 g c refl) at.2) r get
    asked_sound (make_some t) x j call at (here _) get = absurd (let e = row_is x (make_some_row at.0) call at.1 get in cc)
    asked_sound (make_some t) x j call at (through s p g c r) get =
        asked_sound t p.0 j call (subst (λ z. At rows t z) (one_part x (make_some_row at.0) s p at.0 at.1 g c refl) at.2) r get
    asked_sound (match_some t) x j call at (here _) get =
        let e = row_is x (match_some_row at.0) call at.1 get in
        let same : at.0 ≡ call.0 = cc in
        (t, subst (λ z. At rows t z) same at.2, inl refl)
    asked_sound (match_some t) x j call at (through s p g c r) get =
        let h = asked_sound t p.0 j call (subst (λ z. At rows t z) (one_part x (match_some_row at.0) s p at.0 at.1 g c refl) at.2) r get in
        (h.0, h.1, inr h.2)
    asked_sound (match_tuple t i) x j call at (here _) get = absurd (let e = row_is x (match_tuple_row at.0 i) call at.1 get in cc)
    asked_sound (match_tuple t i) x j call at (through s p g c r) get =
        asked_sound t p.0 j call (subst (λ z. At rows t z) (one_part x (match_tuple_row at.0 i) s p at.0 at.1 g c refl) at.2) r get

    all_sound : (ts : Sites) (js : List ℕ) (y j : ℕ) (call : BindingId) → AtAll rows ts js → Contains js y → Reached table y j
        → slice_get table j ≡ Some (sites.MatchSome call) → Found (contents_all ts) call
    all_sound no_sites [] y j call h c r get = none_there y c
    all_sound no_sites (k ∷ js) y j call h c r get = absurd h
    all_sound (more_sites t ts) [] y j call h c r get = absurd h
    all_sound (more_sites t ts) (k ∷ js) y j call h c r get = elim (cons_cases k js y c) [
      | inl e ↦ let f = asked_sound t y j call (subst (λ z. At rows t z) e h.0) r get in
          (f.0, f.1, among_left (contents t) (contents_all ts) (constrained f.0 some_constraint) f.2)
      | inr m ↦ let f = all_sound ts js y j call h.1 m r get in
          (f.0, f.1, among_right (contents t) (contents_all ts) (constrained f.0 some_constraint) f.2)
    ]

-- an entry of a content is that of its option
content_read : (name : Sym → List ℕ) (b : Binding) (j : ℕ) → row_of name b ≡ match_some_row j
    → (call : BindingId) × (b ≡ sites.MatchSome call) × (call.0 ≡ j)
content_read name (sites.MatchSome source) j e = let same : source.0 ≡ j = cc in (source, refl, same)
content_read name (sites.ConstBool val ty) j e = absurd cc
content_read name (sites.ConstInt val ty) j e = absurd cc
content_read name (sites.ConstPrim val) j e = absurd cc
content_read name (sites.Argument index) j e = absurd cc
content_read name (sites.Extractor term parameter) j e = absurd cc
content_read name (sites.Constructor term parameters instance) j e = absurd cc
content_read name (sites.Iterator source) j e = absurd cc
content_read name (sites.MakeVariant ty variant fields) j e = absurd cc
content_read name (sites.MatchVariant source variant field) j e = absurd cc
content_read name (sites.MakeStruct ty fields) j e = absurd cc
content_read name (sites.ExtractStruct source field) j e = absurd cc
content_read name (sites.MakeSome inner) j e = absurd cc
content_read name (sites.MatchTuple source field) j e = absurd cc

-- the site of an entry
row_read : (name : Sym → List ℕ) (table : List Binding) (k : ℕ) (row : Row) → slice_get (rows_of name table) k ≡ Some row
    → (b : Binding) × (slice_get table k ≡ Some b) × (row_of name b ≡ row)
row_read name table k row e = go (slice_get table k) refl (sym (slice_get-map (row_of name) table k) ∙ e)
  where
    go : (o : Option Binding) → slice_get table k ≡ o → option_map (row_of name) (slice_get table k) ≡ Some row
        → (b : Binding) × (slice_get table k ≡ Some b) × (row_of name b ≡ row)
    go None q f = absurd (none-some row (rw q at f))
    go (Some b) q f = (b, q, same_Some _ _ (rw q at f))

module _ (name : Sym → List ℕ) (table : List Binding) where
  -- a demand on a content is asked by numbers
  abbrev Asks : ℕ → Site → Type 0
  Asks x w = (call : BindingId) × At (rows_of name table) w call.0 × IsAsked table x call

  part_read : (ids : List BindingId) (j : ℕ) → Contains (numbers_of ids) j → (id : BindingId) × Contains ids id × (id.0 ≡ j)
  part_read [] j c = none_there j c
  part_read (id ∷ ids) j c = elim (cons_cases id.0 (numbers_of ids) j c) [
    | inl e ↦ (id, cons_here id ids, e)
    | inr k ↦ let r = part_read ids j k in (r.0, cons_there id ids r.0 r.1, r.2)
  ]

  asks_by : (x j : ℕ) (row : Row) (w : Site) → slice_get (rows_of name table) x ≡ Some row → Contains (row_parts row) j → Asks j w → Asks x w
  asks_by x j row w at c a =
      let b = row_read name table x row at in
      let parts = subst (λ l. Contains l j) (parts_named name table b.0) (subst (λ r. Contains (row_parts r) j) (sym b.2) c) in
      let part = part_read (sources_of b.0) j parts in
      (a.0, a.1, (a.2.0, through b.0 part.0 b.1 part.1 (subst (λ z. Reached table z a.2.0) (sym part.2) a.2.1), a.2.2))

  all_more : (t : Site) (ts : Sites) (k : ℕ) (js : List ℕ) (w : Site) → AtAll (rows_of name table) (more_sites t ts) (k ∷ js)
      → (Among (contents t) (constrained w some_constraint) → Asks k w)
      → (Among (contents_all ts) (constrained w some_constraint) → (j : ℕ) × Contains js j × Asks j w)
      → Among (contents t) (constrained w some_constraint) ⊎ Among (contents_all ts) (constrained w some_constraint)
      → (j : ℕ) × Contains (k ∷ js) j × Asks j w
  all_more t ts k js w h one others (inl m) = (k, cons_here k js, one m)
  all_more t ts k js w h one others (inr m) = let r = others m in (r.0, cons_there k js r.0 r.1, r.2)

  mutual
    pub asked_complete : (t : Site) (x : ℕ) (w : Site) → At (rows_of name table) t x → Among (contents t) (constrained w some_constraint) → Asks x w
    asked_complete (bool_site b ty) x w at m = absurd m
    asked_complete (int_site n ty) x w at m = absurd m
    asked_complete (prim_site n) x w at m = absurd m
    asked_complete (argument i) x w at m = absurd m
    asked_complete (extractor_call f t) x w at m = asks_by x at.0 _ w at.1 (cons_here at.0 []) (asked_complete t at.0 w at.2 m)
    asked_complete (constructor_call f ts i) x w at m = let r = all_complete ts at.0 w at.2 m in asks_by x r.0 _ w at.1 r.1 r.2
    asked_complete (iterator t) x w at m = asks_by x at.0 _ w at.1 (cons_here at.0 []) (asked_complete t at.0 w at.2 m)
    asked_complete (make_variant ty v ts) x w at m = let r = all_complete ts at.0 w at.2 m in asks_by x r.0 _ w at.1 r.1 r.2
    asked_complete (match_variant t v i) x w at m = asks_by x at.0 _ w at.1 (cons_here at.0 []) (asked_complete t at.0 w at.2 m)
    asked_complete (make_struct ty ts) x w at m = let r = all_complete ts at.0 w at.2 m in asks_by x r.0 _ w at.1 r.1 r.2
    asked_complete (extract_struct t i) x w at m = asks_by x at.0 _ w at.1 (cons_here at.0 []) (asked_complete t at.0 w at.2 m)
    asked_complete (make_some t) x w at m = asks_by x at.0 _ w at.1 (cons_here at.0 []) (asked_complete t at.0 w at.2 m)
    asked_complete (match_some t) x w at (inl e) =
        let same : w ≡ t = cc in
        let b = row_read name table x (match_some_row at.0) at.1 in
        let call = content_read name b.0 at.0 b.2 in (
          call.0,
          subst (λ (z : Site). At (rows_of name table) z call.0.0) (sym same) (subst (λ z. At (rows_of name table) t z) (sym call.2) at.2),
          (x, here x, b.1 ∙ ap (λ z. Some z) call.1),
        )
    asked_complete (match_some t) x w at (inr m) = asks_by x at.0 _ w at.1 (cons_here at.0 []) (asked_complete t at.0 w at.2 m)
    asked_complete (match_tuple t i) x w at m = asks_by x at.0 _ w at.1 (cons_here at.0 []) (asked_complete t at.0 w at.2 m)

    all_complete : (ts : Sites) (js : List ℕ) (w : Site) → AtAll (rows_of name table) ts js → Among (contents_all ts) (constrained w some_constraint)
        → (j : ℕ) × Contains js j × Asks j w
    all_complete no_sites js w h m = absurd m
    all_complete (more_sites t ts) [] w h m = absurd h
    all_complete (more_sites t ts) (k ∷ js) w h m =
        all_more t ts k js w h (λ x. asked_complete t k w h.0 x) (λ x. all_complete ts js w h.1 x)
        (among_cases (contents t) (contents_all ts) (constrained w some_constraint) m)
