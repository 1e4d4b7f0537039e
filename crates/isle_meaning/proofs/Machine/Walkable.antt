-- The tree of a term can be walked: what it binds and reads stands in the table, and is bound or computed of what is.
use Rattle.std.proofs.Common.{◌≡◌, inl, inr, ℕ, Bool, true, false, not, List, [], ◌∷◌, ◌++◌, Option, Some, None, slice_get, refl, sym, ◌∙◌, ap, subst, ◌==◌, eqb-true}
use Rattle.isle_trees.specs.Asks.{AsksOnly, ArmsAskOnly}
use Rattle.isle_trees.specs.Builds.{IsBest, Binds, own, BindsEach, wanting, not_wanting, Builds, BuildsArms}
use Rattle.isle_trees.specs.Reads.{more, know, know_fields, IsReadable, IsInOrder, IsClosed, AreClosed}
use Rattle.isle_trees.specs.Rules.{Rules, has, rights, Elem, Asked, Used}
use Rattle.isle_trees.specs.Scopes.{Scope, nothing_known, join, emit, inside, Test, on_match, on_equal, on_loop, sites_of, counted, others}
use Rattle.isle_trees.specs.Tree.{Steps, done, «match», equal, loop, give, Arms, no_arm, arm}
use Rattle.isle_trees.proofs.Asking.{elem_append}
use Rattle.isle_trees.proofs.Basics.{true_or, or_holds, or_right, clash, from_filter, one_of, counted_left, others_left}
use Rattle.isle_trees.proofs.Path.{some_counted, asks}
use Rattle.isle_trees.proofs.Whole.{whole_asked, whole_closed}
use Rattle.isle_meaning.specs.AboutSites.Kinds.{IsKinded}
use Rattle.isle_meaning.specs.Facts.{TermFacts}
use Rattle.isle_meaning.specs.Machine.Runs.{TermTree, is_computed, opened}
use Rattle.isle_meaning.specs.Machine.Trees.{IsTermTree, parts_of_row, site_of_row}
use Rattle.isle_meaning.specs.Machine.Walkable.{CanRead, CanBind, CanBindAll, IsWalkable, AreWalkable}
use Rattle.isle_meaning.specs.Numbered.{Row, bool_row, int_row, prim_row, argument_row, extractor_row, constructor_row, iterator_row}
use Rattle.isle_meaning.specs.Numbered.{make_variant_row, match_variant_row, make_struct_row, extract_struct_row, make_some_row}
use Rattle.isle_meaning.specs.Numbered.{match_some_row, match_tuple_row}
use Rattle.isle_meaning.specs.Sites.{Site, match_tuple}
use Rattle.isle_meaning.specs.Sorts.{Sort, tuple_sort, sort, output_sort}
use Rattle.isle_meaning.specs.Worlds.{CheckedProgram}

-- a computed site that is made of another is one of its outputs
computed_part : (row : Row) (j : ℕ) → is_computed row ≡ true → Elem j (parts_of_row row) → (i : ℕ) × (row ≡ match_tuple_row j i)
computed_part (bool_row x ty) j e m = absurd m
computed_part (int_row n ty) j e m = absurd m
computed_part (prim_row name) j e m = absurd m
computed_part (argument_row i) j e m = absurd m
computed_part (extractor_row t k) j e m = cc
computed_part (constructor_row t js i) j e m = cc
computed_part (iterator_row k) j e m = cc
computed_part (make_variant_row ty k []) j e m = absurd m
computed_part (make_variant_row ty k (x ∷ xs)) j e m = cc
computed_part (match_variant_row k n i) j e m = cc
computed_part (make_struct_row ty []) j e m = absurd m
computed_part (make_struct_row ty (x ∷ xs)) j e m = cc
computed_part (extract_struct_row k i) j e m = cc
computed_part (make_some_row k) j e m = cc
computed_part (match_some_row k) j e m = cc
computed_part (match_tuple_row k i) j e (inl f) = (i, ap (λ (x : ℕ). match_tuple_row x i) (sym f))
computed_part (match_tuple_row k i) j e (inr m) = absurd m

-- and what has outputs is no computed site
outputs_stand : (facts : TermFacts) (tys : List ℕ) (site : ℕ → Site) (row : Row) (ts : List ℕ) → IsKinded facts tys (site_of_row site row)
    → sort facts tys (site_of_row site row) ≡ tuple_sort ts → is_computed row ≡ false
outputs_stand facts tys site (bool_row x ty) ts k e = refl
outputs_stand facts tys site (int_row n ty) ts k e = cc
outputs_stand facts tys site (prim_row name) ts k e = cc
outputs_stand facts tys site (argument_row i) ts k e = cc
outputs_stand facts tys site (extractor_row t j) ts k e = refl
outputs_stand facts tys site (constructor_row t js i) ts k e = refl
outputs_stand facts tys site (iterator_row j) ts k e = refl
outputs_stand facts tys site (make_variant_row ty n []) ts k e = cc
outputs_stand facts tys site (make_variant_row ty n (x ∷ xs)) ts k e = refl
outputs_stand facts tys site (match_variant_row j n i) ts k e = refl
outputs_stand facts tys site (make_struct_row ty []) ts k e = cc
outputs_stand facts tys site (make_struct_row ty (x ∷ xs)) ts k e = refl
outputs_stand facts tys site (extract_struct_row j i) ts k e = refl
outputs_stand facts tys site (make_some_row j) ts k e = refl
outputs_stand facts tys site (match_some_row j) ts k e = refl
outputs_stand facts tys site (match_tuple_row j i) ts k e =
    let f : output_sort (tuple_sort (k.1.0)) i ≡ tuple_sort ts = sym (ap (λ (s : Sort). output_sort s i) (k.1.1)) ∙ e in cc

-- what is bound stays so
more_old : (env : ℕ → Bool) (x k : ℕ) → env k ≡ true → more env x k ≡ true
more_old env x k e = or_right (k == x) (env k) e

-- and what can be read can be then
read_more : (sites : List Row) (env : ℕ → Bool) (x k : ℕ) → CanRead sites env k → CanRead sites (more env x) k
read_more sites env x k c = record {
  row = c.row;
  there = c.there;
  is_bound = λ e. more_old env x k (c.is_bound e);
  parts_bound = λ e j m. more_old env x j (c.parts_bound e j m);
}

-- the sites that an arm binds are those that it opens
fields_known : (fields : List (Option ℕ)) (env : ℕ → Bool) → know_fields env fields ≡ know env (opened fields)
fields_known [] env = refl
fields_known (None ∷ fields) env = fields_known fields env
fields_known (Some x ∷ fields) env = fields_known fields (more env x)

opened_in : (fields : List (Option ℕ)) (x : ℕ) → Elem x (opened fields) → Elem (Some x) fields
opened_in [] x m = absurd m
opened_in (None ∷ fields) x m = inr (opened_in fields x m)
opened_in (Some k ∷ fields) x (inl e) = inl (ap (λ (z : ℕ). Some z) e)
opened_in (Some k ∷ fields) x (inr m) = inr (opened_in fields x m)

elem_end : (xs : List ℕ) (r : ℕ) → Elem r (xs ++ r ∷ [])
elem_end [] r = inl refl
elem_end (x ∷ xs) r = inr (elem_end xs r)

-- what stands in the orders alone is bound
binds_stand : {C V : Type 0} (R : Rules C V) (sc after : Scope C) (sites binds : List ℕ) → Binds R sc sites binds after
    → (x : ℕ) → Elem x binds → R.stands x ≡ true
binds_stand R sc after sites binds bs x m = (from_filter R.stands bs.all x (subst (λ (l : List ℕ). Elem x l) bs.written m)).1

own_stands : {C V : Type 0} (R : Rules C V) (u x : ℕ) → Elem x (own R u) → R.stands x ≡ true
own_stands R u x m = elim (true_or (R.stands u)) [
  | inl y ↦ let n : Elem x (u ∷ []) = rw y at m in elim n [ inl e ↦ ap R.stands e ∙ y | inr b ↦ absurd b ]
  | inr y ↦ let n : Elem x [] = rw y at m in absurd n
]

each_stands : {C V : Type 0} (us : List ℕ) (R : Rules C V) (sc : Scope C) (binds : List ℕ) (after : Scope C) → BindsEach R sc us binds after
    → (x : ℕ) → Elem x binds → R.stands x ≡ true
each_stands [] R sc binds after (e, same) x m = absurd (subst (λ (l : List ℕ). Elem x l) e m)
each_stands (u ∷ us) R sc binds after (inl (e, b)) x m = each_stands us R sc binds after b x m
each_stands (u ∷ us) R sc binds after (inr (e, (front, rest, mid, bs, b, written))) x m =
    elim (elem_append x front (own R u ++ rest) (subst (λ (l : List ℕ). Elem x l) written m)) [
      | inl n ↦ binds_stand R sc mid (R.parts u) front bs x n
      | inr n ↦ elim (elem_append x (own R u) rest n) [
        | inl q ↦ own_stands R u x q
        | inr q ↦ each_stands us R (emit mid u) rest after b x q
      ]
    ]

module _ {C : Type 0} (p : CheckedProgram) (runs : ℕ → Type 0) (t : ℕ) (b : TermTree C) (B : IsTermTree p runs t b) where
  -- the site stands in the table
  abbrev pub InTable : ℕ → Type 0
  InTable k = (row : Row) × (slice_get b.sites k ≡ Some row)

  part_in : (s j : ℕ) → InTable s → Elem j (B.set.parts s) → InTable j
  part_in s j (row, at) m = B.stand s j row at (subst (λ (l : List ℕ). Elem j l) (B.parts s row at) m)

  -- what a rule left asks does, and what it uses
  asked_in : (i s : ℕ) → Elem i B.left → Asked B.set i s → InTable s
  asked_in i _ l (Asked.by_demand s w e) = B.tested i s w l e
  asked_in i _ l (Asked.by_class a c e) = B.grouped i a c l e
  asked_in i _ l (Asked.by_part s q a m) = part_in s q (asked_in i s l a) m

  used_in : (i s : ℕ) → Elem i B.left → Used B.set i s → InTable s
  used_in i _ l (Used.by_asked s a) = asked_in i s l a
  used_in i _ l (Used.by_right s m) = B.whole i s l m
  used_in i _ l (Used.by_part_of s q u m) = part_in s q (used_in i s l u) m

  -- and so does what a step tests
  test_in : (rest : List ℕ) (sc : Scope C) (u : Test) → ((i : ℕ) → Elem i rest → Elem i B.left) → IsBest B.set rest sc u
      → (s : ℕ) → Elem s (sites_of u) → InTable s
  test_in rest sc u less best s m =
      let (i, l, h) = some_counted B.set rest sc u best in asked_in i s (less i l) (asks B.set i u B.tree.made.both h s m)

  -- what can be bound, and what is: it stands in the table and in the orders
  pub record IsBindable (k : ℕ) : Type 0 where
    pub stands : B.set.stands k ≡ true
    pub there : InTable k

  abbrev pub IsGood : (ℕ → Bool) → Type 0
  IsGood env = (k : ℕ) → env k ≡ true → IsBindable k

  good_more : (env : ℕ → Bool) (x : ℕ) → IsGood env → IsBindable x → IsGood (more env x)
  good_more env x g i k e = elim (or_holds (k == x) (env k) e) [
    | inl f ↦ subst (λ (z : ℕ). IsBindable z) (sym (eqb-true k x f)) i
    | inr f ↦ g k f
  ]

  good_all : (xs : List ℕ) (env : ℕ → Bool) → IsGood env → ((x : ℕ) → Elem x xs → IsBindable x) → IsGood (know env xs)
  good_all [] env g f = g
  good_all (x ∷ xs) env g f = good_all xs (more env x) (good_more env x g (f x (inl refl))) (λ y m. f y (inr m))

  -- a site that stands in the orders can be read only where it is bound
  standing : (env : ℕ → Bool) (k : ℕ) → B.set.stands k ≡ true → IsReadable B.set env k → env k ≡ true
  standing env _ e (IsReadable.is_bound k f) = f
  standing env _ e (IsReadable.computed k n parts) = clash _ e n

  not_standing : (env : ℕ → Bool) (k : ℕ) → IsGood env → B.set.stands k ≡ false → IsReadable B.set env k
      → (j : ℕ) → Elem j (B.set.parts k) → IsReadable B.set env j
  not_standing env _ g e (IsReadable.is_bound k f) = clash _ ((g k f).stands) e
  not_standing env _ g e (IsReadable.computed k n parts) = parts

  -- what a computed site is made of stands in the orders
  source_stands : (k j : ℕ) (row : Row) → slice_get b.sites k ≡ Some row → is_computed row ≡ true → Elem j (parts_of_row row) → B.set.stands j ≡ true
  source_stands k j row at e m =
      let (i, is) = computed_part row j e m in
      let (other, there) = B.stand k j row at m in
      let K : Site → Type 0 = λ s. IsKinded p.terms (p.terms.inputs t) s in
      let kind : K (match_tuple (B.site j) i) = subst K (B.sited k row at ∙ ap (site_of_row B.site) is) (B.kinded k row at) in
      let own_kind : K (site_of_row B.site other) = subst K (B.sited j other there) (B.kinded j other there) in
      let of_outputs : sort p.terms (p.terms.inputs t) (site_of_row B.site other) ≡ tuple_sort (kind.1.0) =
      ap (sort p.terms (p.terms.inputs t)) (sym (B.sited j other there)) ∙ kind.1.1 in
      B.bound j other there ∙ ap not (outputs_stand p.terms (p.terms.inputs t) B.site other (kind.1.0) own_kind of_outputs)

  -- what is readable can be read
  to_read : (env : ℕ → Bool) (k : ℕ) → IsGood env → InTable k → IsReadable B.set env k → CanRead b.sites env k
  to_read env k g (row, at) r = record {
    row = row;
    there = at;
    is_bound = λ e. standing env k (B.bound k row at ∙ ap not e) r;
    parts_bound = λ e j m. standing env j (source_stands k j row at e m)
        (not_standing env k g (B.bound k row at ∙ ap not e) r j (subst (λ (l : List ℕ). Elem j l) (sym (B.parts k row at)) m));
  }

  -- and what is in order can be bound
  to_bind : (env : ℕ → Bool) (k : ℕ) → IsGood env → InTable k → ((j : ℕ) → Elem j (B.set.parts k) → IsReadable B.set env j) → CanBind b.sites env k
  to_bind env k g (row, at) r = record {
    row = row;
    there = at;
    parts = λ j m. to_read env j g (B.stand k j row at m) (r j (subst (λ (l : List ℕ). Elem j l) (sym (B.parts k row at)) m));
  }

  to_bind_all : (xs : List ℕ) (env : ℕ → Bool) → IsGood env → ((x : ℕ) → Elem x xs → IsBindable x) → IsInOrder B.set env xs
      → CanBindAll b.sites env xs
  to_bind_all [] env g f o = tt
  to_bind_all (x ∷ xs) env g f (new, parts, rest) =
      (to_bind env x g ((f x (inl refl)).there) parts, to_bind_all xs (more env x) (good_more env x g (f x (inl refl))) (λ y m. f y (inr m)) rest)

  -- what a passed test makes can be bound, and so can what it opens
  made_bindable : (s x : ℕ) (c : C) → B.set.made x ≡ Some (record { site = s; want = has c }) → IsBindable x
  made_bindable s x c e = record { stands = B.tree.made.field_stands x _ e; there = B.opened_there x _ e }

  to_open : (env : ℕ → Bool) (s x : ℕ) (c : C) → CanRead b.sites env s → B.set.made x ≡ Some (record { site = s; want = has c })
      → CanBind b.sites env x
  to_open env s x c r e =
      let (row, at) = B.opened_there x _ e in
      record {
        row = row;
        there = at;
        parts = λ j m.
            let n : Elem j (s ∷ []) = subst (λ (l : List ℕ). Elem j l) (sym (B.parts x row at) ∙ B.tree.made.source x _ e) m in
            elim n [ inl f ↦ subst (λ (z : ℕ). CanRead b.sites env z) (sym f) r | inr z ↦ absurd z ];
      }

  to_open_all : (xs : List ℕ) (env : ℕ → Bool) (s : ℕ) (c : C) → CanRead b.sites env s
      → ((x : ℕ) → Elem x xs → B.set.made x ≡ Some (record { site = s; want = has c })) → CanBindAll b.sites env xs
  to_open_all [] env s c r f = tt
  to_open_all (x ∷ xs) env s c r f =
      (to_open env s x c r (f x (inl refl)), to_open_all xs (more env x) s c (read_more b.sites env x s r) (λ y m. f y (inr m)))

  -- no step takes one value of several
  no_loop : (rest : List ℕ) (sc : Scope C) (s : ℕ) → ((i : ℕ) → Elem i rest → Elem i B.left) → IsBest B.set rest sc (on_loop s) → ⊥
  no_loop rest sc s less best =
      let (i, l, h) = some_counted B.set rest sc (on_loop s) best in B.tree.no_multi i s (less i l) (one_of _ h)

  -- what a step binds can be bound
  step_bindable : (sc after : Scope C) (sites binds : List ℕ) → Binds B.set sc sites binds after
      → ((x : ℕ) → Elem x binds → (i : ℕ) × Elem i B.left × Asked B.set i x) → (x : ℕ) → Elem x binds → IsBindable x
  step_bindable sc after sites binds bs a x m =
      let (i, l, k) = a x m in record { stands = binds_stand B.set sc after sites binds bs x m; there = asked_in i x l k }

  mutual
    walk_steps : (T : Steps C) (rest : List ℕ) (sc : Scope C) (env : ℕ → Bool) → ((i : ℕ) → Elem i rest → Elem i B.left) → IsGood env
        → Builds B.set rest sc T → IsClosed B.set env T → AsksOnly B.set B.left T → IsWalkable b.sites b.result env T
    walk_steps done rest sc env less g bu cl ask = tt
    walk_steps («match» binds s arms next) rest sc env less g (best, (after, bs, inner, outer)) (order, (here, (arms_closed, next_closed)))
        (a, (arms_ask, next_asks)) =
        let bindable = step_bindable sc after (s ∷ []) binds bs a in
        let good = good_all binds env g bindable in
        let read = to_read (know env binds) s good (test_in rest sc (on_match s) less best s (inl refl)) here in (
          to_bind_all binds env g bindable order,
          read,
          walk_arms arms (counted B.set (on_match s) rest) after s (know env binds)
              (λ i m. less i (counted_left B.set (on_match s) rest i m)) good read
              inner arms_closed arms_ask,
          walk_steps next (others B.set (on_match s) rest) after (know env binds) (λ i m. less i (others_left B.set (on_match s) rest i m)) good
              outer next_closed next_asks,
        )
    walk_steps (equal binds x y body next) rest sc env less g (best, (after, bs, inner, outer)) (order, (first, (second, (body_closed, next_closed))))
        (a, (body_asks, next_asks)) =
        let bindable = step_bindable sc after (x ∷ y ∷ []) binds bs a in
        let good = good_all binds env g bindable in (
          to_bind_all binds env g bindable order,
          to_read (know env binds) x good (test_in rest sc (on_equal x y) less best x (inl refl)) first,
          to_read (know env binds) y good (test_in rest sc (on_equal x y) less best y (inr (inl refl))) second,
          walk_steps body (counted B.set (on_equal x y) rest) (join after x y) (know env binds)
              (λ i m. less i (counted_left B.set (on_equal x y) rest i m)) good inner body_closed body_asks,
          walk_steps next (others B.set (on_equal x y) rest) after (know env binds) (λ i m. less i (others_left B.set (on_equal x y) rest i m)) good
              outer next_closed next_asks,
        )
    walk_steps (loop binds x body next) rest sc env less g (s, value, best, later) cl ask = absurd (no_loop rest sc s less best)
    walk_steps (give binds i next) rest sc env less g (none, ((first, top), (after, each, others))) (order, (here, next_closed)) (a, next_asks) =
        let l = less i first in
        let bindable : (x : ℕ) → Elem x binds → IsBindable x =
        λ x m. record { stands = each_stands (rights B.set i) B.set sc binds after each x m; there = used_in i x l (a x m) } in
        let good = good_all binds env g bindable in
        let read = to_read (know env binds) (B.set.result i) good (B.whole i (B.set.result i) l (elem_end (B.set.calls i) (B.set.result i))) here in (
          to_bind_all binds env g bindable order,
          subst (λ (k : ℕ). CanRead b.sites (know env binds) k) (sym (B.returned i l)) read,
        )

    walk_arms : (arms : Arms C) (rest : List ℕ) (sc : Scope C) (s : ℕ) (env : ℕ → Bool) → ((i : ℕ) → Elem i rest → Elem i B.left) → IsGood env
        → CanRead b.sites env s → BuildsArms B.set rest sc s arms → AreClosed B.set env s arms → ArmsAskOnly B.set B.left arms
        → AreWalkable b.sites b.result env arms
    walk_arms no_arm rest sc s env less g r bu cl ask = tt
    walk_arms (arm c fields body later) rest sc s env less g r (least, same, inner, outer) (made, (body_closed, later_closed))
        (body_asks, later_ask) =
        let opens : (x : ℕ) → Elem x (opened fields) → B.set.made x ≡ Some (record { site = s; want = has c }) =
        λ x m. made x (opened_in fields x m) in
        let good = good_all (opened fields) env g (λ x m. made_bindable s x c (opens x m)) in (
          to_open_all (opened fields) env s c r opens,
          walk_steps body (wanting B.set s c rest) (inside B.set sc s (has c)) (know env (opened fields))
              (λ i m. less i ((from_filter _ rest i m).0)) good
              inner (subst (λ (f : ℕ → Bool). IsClosed B.set f body) (fields_known fields env) body_closed) body_asks,
          walk_arms later (not_wanting B.set s c rest) sc s env (λ i m. less i ((from_filter _ rest i m).0)) g r outer later_closed later_ask,
        )

  -- The tree can be walked.
  pub walkable : IsWalkable b.sites b.result (λ k. false) b.tree
  walkable =
      walk_steps b.tree B.left nothing_known (λ k. false) (λ i m. m) (λ k e. let f : false ≡ true = e in cc) B.tree.builds
      (whole_closed B.set B.left b.tree B.tree.made B.fields B.tree.builds)
      (whole_asked B.set B.left b.tree B.tree.made.both B.tree.builds)
