-- What is demanded of the contents that a site is made of is taken where the site is to be matched.
use Rattle.std.proofs.Common.{◌≡◌, ℕ, List, [], ◌∷◌, Ok, Contains, refl, sym, ap, subst, inl, inr}
use Rattle.std.proofs.lemmas.List.{append-nil}
use Rattle.isle_types.specs.declared.ids.Sym.{Sym}
use Rattle.isle_meaning.specs.Sites.{Site, bool_site, int_site, prim_site, argument, extractor_call, constructor_call, iterator}
use Rattle.isle_meaning.specs.Sites.{make_variant, match_variant, make_struct, extract_struct, make_some, match_some, match_tuple}
use Rattle.isle_meaning.specs.Sites.{Sites, no_sites, more_sites}
use Rattle.isle_meaning.specs.Demands as meaning
use Rattle.isle_meaning.specs.Demands.{Demand, constrained, equal, some_constraint, Among, contents, contents_all}
use Rattle.isle_meaning.specs.Numbered.{At, AreRecorded}
use Rattle.isle_blocks.specs.declared.ids.BindingId.{BindingId}
use Rattle.isle_blocks.specs.Rows.{IsInjective, rows_of, constraints_of}
use Rattle.isle_blocks.specs.Inside.Building.Gathering.{Gathered}
use Rattle.isle_blocks.specs.Inside.Building.Steps.{content_adds, each_some}
use Rattle.isle_blocks.specs.Inside.Building.Contents.{AreAsked}
use Rattle.isle_blocks.specs.Building.Standing.{Adds, begin}
use Rattle.isle_blocks.proofs.Building.Walking.{cons_cases, cons_here, cons_there, none_there}
use Rattle.isle_blocks.proofs.Building.Entries.{among_cases}
use Rattle.isle_blocks.proofs.Building.Told.{Told}
use Rattle.isle_blocks.proofs.Building.Asking.{asked_sound, asked_complete}
use Rattle.isle_blocks.proofs.Building.Tables.{stands_before, parts_before}

-- contents demand that options are not empty, and nothing else
abbrev AreSome : List Demand → Demand → Type 0
AreSome ds d = Among ds d → (w : Site) × (d ≡ constrained w some_constraint)

mutual
  contents_some : (t : Site) (d : Demand) → AreSome (contents t) d
  contents_some (bool_site b ty) d m = absurd m
  contents_some (int_site n ty) d m = absurd m
  contents_some (prim_site n) d m = absurd m
  contents_some (argument i) d m = absurd m
  contents_some (extractor_call f t) d m = contents_some t d m
  contents_some (constructor_call f ts i) d m = all_some ts d m
  contents_some (iterator t) d m = contents_some t d m
  contents_some (make_variant ty v ts) d m = all_some ts d m
  contents_some (match_variant t v i) d m = contents_some t d m
  contents_some (make_struct ty ts) d m = all_some ts d m
  contents_some (extract_struct t i) d m = contents_some t d m
  contents_some (make_some t) d m = contents_some t d m
  contents_some (match_some t) d (inl e) = (t, e)
  contents_some (match_some t) d (inr m) = contents_some t d m
  contents_some (match_tuple t i) d m = contents_some t d m

  all_some : (ts : Sites) (d : Demand) → AreSome (contents_all ts) d
  all_some no_sites d m = absurd m
  all_some (more_sites t ts) d m = elim (among_cases (contents t) (contents_all ts) d m) [
    | inl x ↦ contents_some t d x
    | inr x ↦ all_some ts d x
  ]

module _ (name : Sym → List ℕ) where
  -- the tests are those of the options
  tests_read : (calls : List BindingId) (k : ℕ) (c : meaning.Constraint) → Contains (constraints_of name (each_some calls)) (k, c)
      → (call : BindingId) × Contains calls call × (call.0 ≡ k) × (some_constraint ≡ c)
  tests_read [] k c m = none_there (k, c) m
  tests_read (call ∷ calls) k c m = elim (cons_cases (call.0, some_constraint) (constraints_of name (each_some calls)) (k, c) m) [
    | inl e ↦ (
      call,
      cons_here call calls,
      ap (λ (p : ℕ × meaning.Constraint). p.0) e,
      ap (λ (p : ℕ × meaning.Constraint). p.1) e,
    )
    | inr x ↦ let r = tests_read calls k c x in (r.0, cons_there call calls r.0 r.1, r.2, r.3)
  ]

  tests_there : (calls : List BindingId) (call : BindingId) → Contains calls call
      → Contains {X = ℕ × meaning.Constraint} (constraints_of name (each_some calls)) (call.0, some_constraint)
  tests_there [] call m = none_there call m
  tests_there (x ∷ calls) call m = elim (cons_cases x calls call m) [
    | inl e ↦ subst (λ (z : BindingId). Contains {X = ℕ × meaning.Constraint} (constraints_of name (each_some (x ∷ calls))) (z.0, some_constraint)) e
        (cons_here (x.0, some_constraint) (constraints_of name (each_some calls)))
    | inr k ↦ cons_there (x.0, some_constraint) (constraints_of name (each_some calls)) (call.0, some_constraint) (tests_there calls call k)
  ]

  -- the contents' demands are recorded
  contents_recorded : (t : Site) (s : Gathered) (x : BindingId) (calls : List BindingId) → At (rows_of name s.sites) t x.0
      → AreAsked s.sites x.0 calls → AreRecorded (rows_of name s.sites) (constraints_of name (each_some calls)) [] (contents t)
  contents_recorded t s x calls at asked = record {
    constraint = λ k c m.
        let r = tests_read calls k c m in
        let a = asked.sound r.0 r.1 in
        let f = asked_sound name s.sites t x.0 a.0 r.0 at a.1 a.2 in (
          f.0,
          subst (λ z. At (rows_of name s.sites) f.0 z) r.2 f.1,
          subst (λ z. Among (contents t) (constrained f.0 z)) r.3 f.2,
        );
    equality = λ a b m. none_there (a, b) m;
    all_constraints = λ w c m.
        let d = contents_some t (constrained w c) m in
        let some : c ≡ some_constraint = let e = d.1 in cc in
        let a = asked_complete name s.sites t x.0 w at (subst (λ z. Among (contents t) (constrained w z)) some m) in (
          a.0.0,
          a.1,
          subst (λ z. Contains {X = ℕ × meaning.Constraint} (constraints_of name (each_some calls)) (a.0.0, z)) (sym some)
              (tests_there calls a.0 (asked.complete a.0 a.2)),
        );
    all_equalities = λ w u m. absurd (let d = contents_some t (equal w u) m in let e = d.1 in cc);
  }

module _ (name : Sym → List ℕ) (injective : IsInjective name) where
  -- a site that is to be matched: its contents have to be there, and no site is added
  pub told_contents : (t : Site) (s s' : Gathered) (x id : BindingId) (needed : List Site) → Adds [] needed (rows_of name s.sites)
      → At (rows_of name s.sites) t x.0 → content_adds x s (Ok id) s'
      → Told name injective s [] (contents t) s' × At (rows_of name s'.sites) t id.0
  told_contents t s s' x id needed added at h =
      let asked = h.1.1 (parts_before name s.sites (stands_before needed (rows_of name s.sites) added)) in
      subst (λ (z : Gathered). Told name injective s [] (contents t) z × At (rows_of name z.sites) t id.0) (sym h.1.2) (
        record {
          adds = begin;
          has_more = each_some h.1.0;
          same_more = [];
          has = refl;
          same = sym (append-nil s.same);
          recorded = contents_recorded name t s x h.1.0 at asked;
          impure = refl;
        },
        subst (λ (z : BindingId). At (rows_of name s.sites) t z.0) (sym h.0) at,
      )
