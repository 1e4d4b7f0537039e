-- What a step adds, as sites that are needed and demands.
use Rattle.std.proofs.Common.{◌≡◌, ◌≢◌, ◌+◌, ◌⊎◌, ℕ, zero, suc, Bool, true, false, List, [], ◌∷◌, ◌++◌, length, Ok, Contains, refl, sym, ap, ◌∙◌}
use Rattle.std.proofs.Common.{subst, inl, inr, append_assoc, add-one, arith}
use Rattle.std.proofs.lemmas.List.{append-nil, map-append}
use Rattle.isle_types.specs.declared.ids.Sym.{Sym}
use Rattle.isle_meaning.specs.Sites.{Site, iterator, match_some, match_tuple, extract_site, output}
use Rattle.isle_meaning.specs.Demands as meaning
use Rattle.isle_meaning.specs.Demands.{Demand, constrained, equal, Among, extractor_demands}
use Rattle.isle_meaning.specs.Needs.{from_on, extract_needs, output_needs}
use Rattle.isle_meaning.specs.Numbered.{Row, At, AreRecorded}
use Rattle.isle_blocks.specs.declared.ids.BindingId.{BindingId}
use Rattle.isle_blocks.specs.declared.binding.Binding.{Binding}
use Rattle.isle_blocks.specs.declared.binding.Binding.TheVariants as sites
use Rattle.isle_blocks.specs.declared.constraint.Constraint.{Constraint}
use Rattle.isle_blocks.specs.declared.constraint.Constraint.TheVariants as tests
use Rattle.isle_blocks.specs.Rows.{IsInjective, row_of, rows_of, test_of, constraints_of, pairs_of}
use Rattle.isle_blocks.specs.Inside.Building.Gathering.{Gathered, interns, interns_each, takes_demand, equates, sites_from, tuple_output, extracted, outputs}
use Rattle.isle_blocks.specs.Building.Standing.{IsEntryOf, Adds, begin, next}
use Rattle.isle_blocks.proofs.Building.Walking.{cons_cases, cons_here, none_there}
use Rattle.isle_blocks.proofs.Building.Entries.{Grown, at_grown, entry_at, put_grown, put_there, put_of, adds_grown, adds_then, recorded_grown}
use Rattle.isle_blocks.proofs.Building.Entries.{recorded_both}

-- numbers that stand for sites, from an index on
abbrev pub StandFrom : List Row → List BindingId → (ℕ → Site) → ℕ → Type 0
StandFrom rows [] at i = Unit {0}
StandFrom rows (id ∷ ids) at i = At rows (at i) id.0 × StandFrom rows ids at (suc i)

pub stand_grown : (rows new : List Row) → Grown rows new → (ids : List BindingId) (at : ℕ → Site) (i : ℕ) → StandFrom rows ids at i
    → StandFrom new ids at i
stand_grown rows new g [] at i h = h
stand_grown rows new g (id ∷ ids) at i h = (at_grown rows new g (at i) id.0 h.0, stand_grown rows new g ids at (suc i) h.1)

pub stand_shift : (rows : List Row) (ids : List BindingId) (at : ℕ → Site) (i : ℕ) → StandFrom rows ids at (suc i)
    → StandFrom rows ids (λ j. at (suc j)) i
stand_shift rows [] at i h = h
stand_shift rows (id ∷ ids) at i h = (h.0, stand_shift rows ids at (suc i) h.1)

pub nothing_recorded : (rows : List Row) → AreRecorded rows [] [] []
nothing_recorded rows = record {
  constraint = λ k c m. none_there (k, c) m;
  equality = λ a b m. none_there (a, b) m;
  all_constraints = λ s c m. absurd m;
  all_equalities = λ s u m. absurd m;
}

module _ (name : Sym → List ℕ) (injective : IsInjective name) where
  -- sites that are needed, and demands, from what was gathered before to what is gathered after
  pub record Told (s : Gathered) (needed : List Site) (ds : List Demand) (s' : Gathered) : Type 0 where
    pub adds : Adds (rows_of name s.sites) needed (rows_of name s'.sites)
    pub has_more : List (BindingId × Constraint)
    pub same_more : List (BindingId × BindingId)
    pub has : s'.has ≡ s.has ++ has_more
    pub same : s'.same ≡ s.same ++ same_more
    pub recorded : AreRecorded (rows_of name s'.sites) (constraints_of name has_more) (pairs_of same_more) ds
    pub impure : s'.impure ≡ s.impure

  pub told_grown : (s s' : Gathered) (xs : List Site) (ds : List Demand) → Told s xs ds s' → Grown (rows_of name s.sites) (rows_of name s'.sites)
  told_grown s s' xs ds h = adds_grown (rows_of name s.sites) xs (rows_of name s'.sites) h.adds

  pub told_none : (s : Gathered) → Told s [] [] s
  told_none s = record {
    adds = begin;
    has_more = [];
    same_more = [];
    has = sym (append-nil s.has);
    same = sym (append-nil s.same);
    recorded = nothing_recorded (rows_of name s.sites);
    impure = refl;
  }

  pub told_then : (s mid s' : Gathered) (xs ys : List Site) (ds es : List Demand) → Told s xs ds mid → Told mid ys es s'
      → Told s (xs ++ ys) (ds ++ es) s'
  told_then s mid s' xs ys ds es h k = record {
    adds = adds_then (rows_of name s.sites) (rows_of name mid.sites) (rows_of name s'.sites) xs ys h.adds k.adds;
    has_more = h.has_more ++ k.has_more;
    same_more = h.same_more ++ k.same_more;
    has = k.has ∙ ap (λ z. z ++ k.has_more) h.has ∙ append_assoc s.has h.has_more k.has_more;
    same = k.same ∙ ap (λ z. z ++ k.same_more) h.same ∙ append_assoc s.same h.same_more k.same_more;
    recorded = rw (
      map-append {B = ℕ × meaning.Constraint} (λ (p : BindingId × Constraint). (p.0.0, test_of name p.1)) h.has_more k.has_more,
      map-append {B = ℕ × ℕ} (λ (p : BindingId × BindingId). (p.0.0, p.1.0)) h.same_more k.same_more,
    )
        (recorded_both (rows_of name s'.sites) (constraints_of name h.has_more) (constraints_of name k.has_more) (pairs_of h.same_more)
        (pairs_of k.same_more) ds es
        (recorded_grown (rows_of name mid.sites) (rows_of name s'.sites) (constraints_of name h.has_more) (pairs_of h.same_more) ds
        (told_grown mid s' ys es k) h.recorded)
        k.recorded);
    impure = k.impure ∙ h.impure;
  }

  -- a site's number
  pub told_intern : (b : Binding) (t : Site) (s s' : Gathered) (id : BindingId) → IsEntryOf (rows_of name s.sites) t (row_of name b)
      → interns b s (Ok id) s' → Told s (t ∷ []) [] s' × At (rows_of name s'.sites) t id.0
  told_intern b t s s' id is h =
      let rows = rows_of name s.sites in
      let new = rows_of name h.0 in
      let put = put_of name injective s.sites b id h.0 h.1 in
      let g = put_grown rows (row_of name b) id.0 new put in
      subst (λ (z : Gathered). Told s (t ∷ []) [] z × At (rows_of name z.sites) t id.0) (sym h.2) (
        record {
          adds = next {needed = []} new t (row_of name b) id.0 begin is put;
          has_more = [];
          same_more = [];
          has = sym (append-nil s.has);
          same = sym (append-nil s.same);
          recorded = nothing_recorded new;
          impure = refl;
        },
        entry_at rows new g t (row_of name b) id.0 is (put_there rows (row_of name b) id.0 new put),
      )

  -- a test of a site
  pub told_demand : (test : Constraint) (t : Site) (s s' : Gathered) (id : BindingId) (ids : List BindingId) → At (rows_of name s.sites) t id.0
      → takes_demand id test s (Ok ids) s' → Told s [] (constrained t (test_of name test) ∷ []) s' × (s'.sites ≡ s.sites)
  told_demand test t s s' id ids is h =
      subst (λ (z : Gathered). Told s [] (constrained t (test_of name test) ∷ []) z × (z.sites ≡ s.sites)) (sym h.1) (
        record {
          adds = begin;
          has_more = (id, test) ∷ [];
          same_more = [];
          has = refl;
          same = sym (append-nil s.same);
          recorded = record {
            constraint = λ k c m. elim (cons_cases (id.0, test_of name test) [] (k, c) m) [
              | inl e ↦ (
                t,
                subst (λ z. At (rows_of name s.sites) t z) (ap (λ (p : ℕ × meaning.Constraint). p.0) e) is,
                inl (ap (λ (p : ℕ × meaning.Constraint). constrained t p.1) (sym e)),
              )
              | inr x ↦ none_there (k, c) x
            ];
            equality = λ a b m. none_there (a, b) m;
            all_constraints = λ u c m. elim m [
              | inl e ↦ let p : u ≡ t = cc in let q : c ≡ test_of name test = cc in (
                id.0,
                subst (λ z. At (rows_of name s.sites) z id.0) (sym p) is,
                subst (λ z. Contains {X = ℕ × meaning.Constraint} ((id.0, test_of name test) ∷ []) (id.0, z))
                    (sym q) (cons_here (id.0, test_of name test) []),
              )
              | inr x ↦ absurd x
            ];
            all_equalities = λ u v m. elim m [ inl e ↦ absurd cc | inr x ↦ absurd x ];
          };
          impure = refl;
        },
        refl,
      )

  id_same : (a b : BindingId) → a.0 ≡ b.0 → a ≡ b
  id_same a b e = λ i. record { 0 = e i }

  -- two sites are equal
  pub told_equates : (t u : Site) (s s' : Gathered) (a b : BindingId) (ids : List BindingId) → At (rows_of name s.sites) t a.0
      → At (rows_of name s.sites) u b.0 → equates a b s (Ok ids) s' → Told s [] (equal t u ∷ []) s'
  told_equates t u s s' a b ids is other h = go h.1
    where
      rows : List Row
      rows = rows_of name s.sites

      pair : (v w : Site) → (equal v w ≡ equal t u) ⊎ ⊥ → (equal v w ≡ equal t u)
      pair v w (inl e) = e
      pair v w (inr x) = absurd x

      both : (v w : Site) → equal v w ≡ equal t u → At (rows_of name s.sites) v a.0 × At (rows_of name s.sites) w b.0
      both v w e = let p : v ≡ t = cc in let q : w ≡ u = cc in (
        subst (λ z. At (rows_of name s.sites) z a.0) (sym p) is,
        subst (λ z. At (rows_of name s.sites) z b.0) (sym q) other,
      )

      go : ((a ≡ b) × (s' ≡ s)) ⊎ ((a ≢ b) × (s' ≡ record { sites = s.sites; has = s.has; same = s.same ++ (a, b) ∷ []; impure = s.impure }))
          → Told s [] (equal t u ∷ []) s'
      go (inl e) = subst (λ (z : Gathered). Told s [] (equal t u ∷ []) z) (sym e.1) (record {
        adds = begin;
        has_more = [];
        same_more = [];
        has = sym (append-nil s.has);
        same = sym (append-nil s.same);
        recorded = record {
          constraint = λ k c m. none_there (k, c) m;
          equality = λ x y m. none_there (x, y) m;
          all_constraints = λ v c m. elim m [ inl f ↦ absurd cc | inr x ↦ absurd x ];
          all_equalities = λ v w m. let r = both v w (pair v w m) in (a.0, b.0, r.0, r.1, λ d. absurd (d (ap (λ (z : BindingId). z.0) e.0)));
        };
        impure = refl;
      })
      go (inr e) = subst (λ (z : Gathered). Told s [] (equal t u ∷ []) z) (sym e.1) (record {
        adds = begin;
        has_more = [];
        same_more = (a, b) ∷ [];
        has = sym (append-nil s.has);
        same = refl;
        recorded = record {
          constraint = λ k c m. none_there (k, c) m;
          equality = λ x y m. elim (cons_cases (a.0, b.0) [] (x, y) m) [
            | inl f ↦ (
              t,
              u,
              subst (λ z. At (rows_of name s.sites) t z) (ap (λ (p : ℕ × ℕ). p.0) f) is,
              subst (λ z. At (rows_of name s.sites) u z) (ap (λ (p : ℕ × ℕ). p.1) f) other,
              inl refl,
            )
            | inr k ↦ none_there (x, y) k
          ];
          all_constraints = λ v c m. elim m [ inl f ↦ absurd cc | inr x ↦ absurd x ];
          all_equalities = λ v w m. let r = both v w (pair v w m) in (a.0, b.0, r.0, r.1, λ d. cons_here (a.0, b.0) []);
        };
        impure = refl;
      })

  -- sites by number, in turn
  pub told_each : (make : ℕ → Binding) (at : ℕ → Site) (n i : ℕ) (before : List BindingId) (s s' : Gathered) (ids : List BindingId)
      → ((rows : List Row) → Grown (rows_of name s.sites) rows → (j : ℕ) → IsEntryOf rows (at j) (row_of name (make j)))
      → interns_each (sites_from make i n) before s (Ok ids) s'
      → Told s (from_on at i n) [] s'
      × ((more : List BindingId) × (ids ≡ before ++ more) × StandFrom (rows_of name s'.sites) more at i)
  told_each make at zero i before s s' ids entries h =
      subst (λ (z : Gathered). Told s [] [] z × ((more : List BindingId) × (ids ≡ before ++ more) × StandFrom (rows_of name z.sites) more at i)) h.1
      (told_none s, ([], sym h.0 ∙ sym (append-nil before), tt))
  told_each make at (suc n) i before s s' ids entries h =
      let one = told_intern (make i) (at i) s h.1 h.0 (entries (rows_of name s.sites) (λ k r e. e) i) h.2 in
      let g = told_grown s h.1 (at i ∷ []) [] one.0 in
      let rest = told_each make at n (i + 1) (before ++ h.0 ∷ []) h.1 s' ids (λ rows k j. entries rows (λ z r e. k z r (g z r e)) j) h.3 in
      let later = told_grown h.1 s' (from_on at (i + 1) n) [] rest.0 in
      let step : i + 1 ≡ suc i = add-one i in (
        told_then s h.1 s' (at i ∷ []) (from_on at (suc i) n) [] [] one.0 (subst (λ z. Told h.1 (from_on at z n) [] s') step rest.0),
        (
          h.0 ∷ rest.1.0,
          rest.1.1 ∙ append_assoc before (h.0 ∷ []) rest.1.0,
          (
            at_grown (rows_of name h.1.sites) (rows_of name s'.sites) later (at i) h.0.0 one.1,
            subst (λ z. StandFrom (rows_of name s'.sites) rest.1.0 at z) step rest.1.2,
          ),
        ),
      )

  -- what an extractor's call gives
  pub told_extracted : (multi infallible : Bool) (t : Site) (s s' : Gathered) (call id : BindingId) → At (rows_of name s.sites) t call.0
      → extracted multi infallible call s (Ok id) s'
      → Told s (extract_needs multi infallible t) (extractor_demands multi infallible t) s'
      × At (rows_of name s'.sites) (extract_site multi infallible t) id.0
  told_extracted true infallible t s s' call id is h = told_intern (sites.Iterator call) (iterator t) s s' id (call.0, refl, is) h
  told_extracted false true t s s' call id is h =
      subst (λ (z : Gathered). Told s [] [] z × At (rows_of name z.sites) t id.0) h.1
      (told_none s, subst (λ (z : BindingId). At (rows_of name s.sites) t z.0) h.0 is)
  told_extracted false false t s s' call id is h =
      let asked = told_demand tests.Some t s h.1 call h.0 is h.2 in
      let at : At (rows_of name h.1.sites) t call.0 = subst (λ z. At (rows_of name z) t call.0) (sym asked.1) is in
      let given = told_intern (sites.MatchSome call) (match_some t) h.1 s' id (call.0, refl, at) h.3 in
      (told_then s h.1 s' [] (match_some t ∷ []) (constrained t meaning.some_constraint ∷ []) [] asked.0 given.0, given.1)

  -- the outputs of what an extractor gives
  pub told_outputs : (n : ℕ) (t : Site) (s s' : Gathered) (value : BindingId) (ids : List BindingId) → At (rows_of name s.sites) t value.0
      → outputs n value s (Ok ids) s' → Told s (output_needs n t) [] s' × StandFrom (rows_of name s'.sites) ids (output n t) 0
  told_outputs zero t s s' value ids is h =
      subst (λ (z : Gathered). Told s [] [] z × StandFrom (rows_of name z.sites) ids (output 0 t) 0) h.1
      (told_none s, subst (λ z. StandFrom (rows_of name s.sites) z (output 0 t) 0) h.0 tt)
  told_outputs (suc zero) t s s' value ids is h =
      subst (λ (z : Gathered). Told s [] [] z × StandFrom (rows_of name z.sites) ids (output 1 t) 0) h.1
      (told_none s, subst (λ z. StandFrom (rows_of name s.sites) z (output 1 t) 0) h.0 (is, tt))
  told_outputs (suc (suc n)) t s s' value ids is h =
      let all = told_each (tuple_output value) (match_tuple t) (suc (suc n)) 0 [] s s' ids
      (λ rows g j. (value.0, refl, at_grown (rows_of name s.sites) rows g t value.0 is)) h in
      (all.0, subst (λ z. StandFrom (rows_of name s'.sites) z (match_tuple t) 0) (sym all.1.1) all.1.2)
