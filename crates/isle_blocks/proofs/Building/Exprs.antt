-- What the visit of an expression gathers: the sites that it needs, its own and its impure calls.
use Rattle.std.proofs.Common.{◌≡◌, ℕ, zero, suc, Bool, true, false, not, List, [], ◌∷◌, ◌++◌, length, Ok}
use Rattle.std.proofs.Common.{refl, sym, ap, ◌∙◌, subst, append_assoc, add-one}
use Rattle.std.proofs.lemmas.List.{append-nil}
use Rattle.isle_types.specs.declared.ids.Sym.{Sym}
use Rattle.isle_types.specs.declared.ids.TermId.{TermId}
use Rattle.isle_meaning.specs.Facts.{TermFacts}
use Rattle.isle_meaning.specs.Sites.{Site, constructor_call, iterator, match_some}
use Rattle.isle_meaning.specs.Sites.{Sites, answer_site}
use Rattle.isle_meaning.specs.Needs.{Log, need, answer_needs, called}
use Rattle.isle_meaning.specs.Numbered.{Row, constructor_row, At, AtAll}
use Rattle.isle_blocks.specs.declared.ids.BindingId.{BindingId}
use Rattle.isle_blocks.specs.declared.binding.Binding.{Binding}
use Rattle.isle_blocks.specs.declared.binding.Binding.TheVariants as sites
use Rattle.isle_blocks.specs.Rows.{IsInjective, numbers_of, row_of, rows_of}
use Rattle.isle_blocks.specs.Inside.Building.Gathering.{Gathered, interns, constructed}
use Rattle.isle_blocks.specs.Building.Standing.{IsEntryOf, Adds, begin, next, StandEach}
use Rattle.isle_blocks.specs.Inside.Building.Steps.{makes}
use Rattle.isle_blocks.proofs.Building.Entries.{Grown, at_grown, entry_at, put_grown, put_there, put_of, adds_grown, adds_then}

pub each_grown : (rows new : List Row) → Grown rows new → (ids : List BindingId) (ts : List Site) → StandEach rows ids ts → StandEach new ids ts
each_grown rows new g [] [] h = h
each_grown rows new g [] (t ∷ ts) h = h
each_grown rows new g (id ∷ ids) [] h = h
each_grown rows new g (id ∷ ids) (t ∷ ts) h = (at_grown rows new g t id.0 h.0, each_grown rows new g ids ts h.1)

pub each_push : (rows : List Row) (ids : List BindingId) (ts : List Site) (id : BindingId) (t : Site) → StandEach rows ids ts → At rows t id.0
    → StandEach rows (ids ++ id ∷ []) (ts ++ t ∷ [])
each_push rows [] [] id t h at = (at, tt)
each_push rows [] (u ∷ ts) id t h at = absurd h
each_push rows (x ∷ ids) [] id t h at = absurd h
each_push rows (x ∷ ids) (u ∷ ts) id t h at = (h.0, each_push rows ids ts id t h.1 at)

pub each_many : (rows : List Row) (ids : List BindingId) (ts : List Site) → StandEach rows ids ts → length ids ≡ length ts
each_many rows [] [] h = refl
each_many rows [] (t ∷ ts) h = absurd h
each_many rows (id ∷ ids) [] h = absurd h
each_many rows (id ∷ ids) (t ∷ ts) h = ap suc (each_many rows ids ts h.1)

module _ (name : Sym → List ℕ) (injective : IsInjective name) where
  -- sites that are needed, and nothing else
  pub record Grew (s : Gathered) (needed : List Site) (s' : Gathered) : Type 0 where
    pub adds : Adds (rows_of name s.sites) needed (rows_of name s'.sites)
    pub has : s'.has ≡ s.has
    pub same : s'.same ≡ s.same

  pub grew_rows : (s s' : Gathered) (xs : List Site) → Grew s xs s' → Grown (rows_of name s.sites) (rows_of name s'.sites)
  grew_rows s s' xs h = adds_grown (rows_of name s.sites) xs (rows_of name s'.sites) h.adds

  pub grew_none : (s : Gathered) → Grew s [] s
  grew_none s = record { adds = begin; has = refl; same = refl }

  pub grew_then : (s mid s' : Gathered) (xs ys : List Site) → Grew s xs mid → Grew mid ys s' → Grew s (xs ++ ys) s'
  grew_then s mid s' xs ys h k = record {
    adds = adds_then (rows_of name s.sites) (rows_of name mid.sites) (rows_of name s'.sites) xs ys h.adds k.adds;
    has = k.has ∙ h.has;
    same = k.same ∙ h.same;
  }

  -- a site's number
  pub grew_intern : (b : Binding) (t : Site) (s s' : Gathered) (id : BindingId) → IsEntryOf (rows_of name s.sites) t (row_of name b)
      → interns b s (Ok id) s' → Grew s (t ∷ []) s' × At (rows_of name s'.sites) t id.0 × (s'.impure ≡ s.impure)
  grew_intern b t s s' id is h =
      let rows = rows_of name s.sites in
      let new = rows_of name h.0 in
      let put = put_of name injective s.sites b id h.0 h.1 in
      let g = put_grown rows (row_of name b) id.0 new put in
      subst (λ (z : Gathered). Grew s (t ∷ []) z × At (rows_of name z.sites) t id.0 × (z.impure ≡ s.impure)) (sym h.2) (
        record { adds = next {needed = []} new t (row_of name b) id.0 begin is put; has = refl; same = refl },
        entry_at rows new g t (row_of name b) id.0 is (put_there rows (row_of name b) id.0 new put),
        refl,
      )

  -- a constructor's call and what it gives
  call_gives : (multi partial : Bool) (call : Site) (b : Binding) (s mid s' : Gathered) (id v : BindingId)
      → IsEntryOf (rows_of name s.sites) call (row_of name b) → interns b s (Ok id) mid → constructed multi (not partial) id mid (Ok v) s'
      → Grew s (answer_needs multi partial call) s' × At (rows_of name s'.sites) (answer_site multi partial call) v.0 × (s'.impure ≡ s.impure)
  call_gives true partial call b s mid s' id v is h k =
      let first = grew_intern b call s mid id is h in
      let last = grew_intern (sites.Iterator id) (iterator call) mid s' v (id.0, refl, first.1) k in
      (grew_then s mid s' (call ∷ []) (iterator call ∷ []) first.0 last.0, last.1, last.2 ∙ first.2)
  call_gives false true call b s mid s' id v is h k =
      let first = grew_intern b call s mid id is h in
      let last = grew_intern (sites.MatchSome id) (match_some call) mid s' v (id.0, refl, first.1) k in
      (grew_then s mid s' (call ∷ []) (match_some call ∷ []) first.0 last.0, last.1, last.2 ∙ first.2)
  call_gives false false call b s mid s' id v is h k =
      let first = grew_intern b call s mid id is h in
      subst (λ (z : Gathered). Grew s (call ∷ []) z × At (rows_of name z.sites) call v.0 × (z.impure ≡ s.impure)) k.1
      (first.0, subst (λ (z : BindingId). At (rows_of name mid.sites) call z.0) k.0 first.1, first.2)

  -- what a visit leaves, from one log to another
  pub record Visited (s : Gathered) (log after : Log) (s' : Gathered) : Type 0 where
    pub more : List Site
    pub needed : after.needed ≡ log.needed ++ more
    pub grew : Grew s more s'
    pub impure : StandEach (rows_of name s'.sites) s'.impure after.impure

  pub visited_rows : (s s' : Gathered) (log after : Log) → Visited s log after s' → Grown (rows_of name s.sites) (rows_of name s'.sites)
  visited_rows s s' log after h = grew_rows s s' h.more h.grew

  pub visited_none : (s : Gathered) (log : Log) → StandEach (rows_of name s.sites) s.impure log.impure → Visited s log log s
  visited_none s log h = record { more = []; needed = sym (append-nil log.needed); grew = grew_none s; impure = h }

  pub visited_then : (s mid s' : Gathered) (log between after : Log) → Visited s log between mid → Visited mid between after s'
      → Visited s log after s'
  visited_then s mid s' log between after h k = record {
    more = h.more ++ k.more;
    needed = k.needed ∙ ap (λ z. z ++ k.more) h.needed ∙ append_assoc log.needed h.more k.more;
    grew = grew_then s mid s' h.more k.more h.grew k.grew;
    impure = k.impure;
  }

  -- sites that are needed, without an impure call
  visited_more : (s s' : Gathered) (log : Log) (xs : List Site) → Grew s xs s' → s'.impure ≡ s.impure
      → StandEach (rows_of name s.sites) s.impure log.impure → Visited s log (need xs log) s'
  visited_more s s' log xs h e is = record {
    more = xs;
    needed = refl;
    grew = h;
    impure = rw e (each_grown (rows_of name s.sites) (rows_of name s'.sites) (grew_rows s s' xs h) s.impure log.impure is);
  }

  pub visited_intern : (b : Binding) (t : Site) (s s' : Gathered) (id : BindingId) (log : Log) → IsEntryOf (rows_of name s.sites) t (row_of name b)
      → StandEach (rows_of name s.sites) s.impure log.impure → interns b s (Ok id) s'
      → Visited s log (need (t ∷ []) log) s' × At (rows_of name s'.sites) t id.0
  visited_intern b t s s' id log is each h =
      let one = grew_intern b t s s' id is h in (visited_more s s' log (t ∷ []) one.0 one.2 each, one.1)

  module _ (facts : TermFacts) where
    -- a constructor's call
    pub visited_call : (pure multi partial : Bool) (t : TermId) (ss : Sites) (ids : List BindingId) (log : Log) (s s' : Gathered) (id : BindingId)
        → facts.multi t.0 ≡ multi → facts.partial t.0 ≡ partial
        → AtAll (rows_of name s.sites) ss (numbers_of ids) → StandEach (rows_of name s.sites) s.impure log.impure
        → makes ids t pure (not partial) multi s (Ok id) s'
        → Visited s log (called facts pure t.0 (ss, log)).1 s' × At (rows_of name s'.sites) (called facts pure t.0 (ss, log)).0 id.0
    visited_call true multi partial t ss ids log s s' id m p all each h =
        let n = h.0 in
        let call = constructor_call t.0 ss zero in
        let start : s ≡ h.1 = h.2.1 in
        let none : zero ≡ n = h.2.0 in
        let steps = h.3 in
        let rest = steps.3 in
        let entry : IsEntryOf (rows_of name h.1.sites) call (row_of name (sites.Constructor t ids n)) = (
          numbers_of ids,
          ap (λ (z : ℕ). constructor_row t.0 (numbers_of ids) z) (sym none),
          subst (λ (z : Gathered). AtAll (rows_of name z.sites) ss (numbers_of ids)) start all,
        ) in
        let given = call_gives multi partial call (sites.Constructor t ids n) h.1 steps.1 rest.1 steps.0 rest.0 entry steps.2 rest.2 in
        let here = visited_more h.1 rest.1 log (answer_needs multi partial call) given.0 given.2
        (subst (λ (z : Gathered). StandEach (rows_of name z.sites) z.impure log.impure) start each) in
        let both : Visited s log (need (answer_needs multi partial call) log) s' × At (rows_of name s'.sites) (answer_site multi partial call) id.0 =
        subst (λ (z : Gathered). Visited z log (need (answer_needs multi partial call) log) s' × At (rows_of name s'.sites)
        (answer_site multi partial call) id.0) (sym start)
        (subst (λ (z : Gathered). Visited h.1 log (need (answer_needs multi partial call) log) z × At (rows_of name z.sites)
        (answer_site multi partial call) id.0) rest.3.1
        (here, subst (λ (z : BindingId). At (rows_of name rest.1.sites) (answer_site multi partial call) z.0) rest.3.0 given.1)) in
        rw (m, p) both
    visited_call false multi partial t ss ids log s s' id m p all each h =
        let n = h.0 in
        let call = constructor_call t.0 ss (suc (length log.impure)) in
        let start : s ≡ h.1 = h.2.1 in
        let many : suc (length log.impure) ≡ n =
        ap suc (sym (each_many (rows_of name s.sites) s.impure log.impure each)) ∙ sym (add-one (length s.impure)) ∙ sym h.2.0 in
        let steps = h.3 in
        let rest = steps.3 in
        let entry : IsEntryOf (rows_of name h.1.sites) call (row_of name (sites.Constructor t ids n)) = (
          numbers_of ids,
          ap (λ (z : ℕ). constructor_row t.0 (numbers_of ids) z) (sym many),
          subst (λ (z : Gathered). AtAll (rows_of name z.sites) ss (numbers_of ids)) start all,
        ) in
        let given = call_gives multi partial call (sites.Constructor t ids n) h.1 steps.1 rest.1 steps.0 rest.0 entry steps.2 rest.2 in
        let value = answer_site multi partial call in
        let here = visited_more h.1 rest.1 log (answer_needs multi partial call) given.0 given.2
        (subst (λ (z : Gathered). StandEach (rows_of name z.sites) z.impure log.impure) start each) in
        let after : Log = record { needed = log.needed ++ answer_needs multi partial call; impure = log.impure ++ value ∷ [] } in
        let both : Visited s log after s' × At (rows_of name s'.sites) value id.0 =
        subst (λ (z : Gathered). Visited z log after s' × At (rows_of name s'.sites) value id.0) (sym start)
        (subst (λ (z : Gathered). Visited h.1 log after z × At (rows_of name z.sites) value id.0) (sym rest.3.1) (
          record {
            more = here.more;
            needed = here.needed;
            grew = record { adds = here.grew.adds; has = here.grew.has; same = here.grew.same };
            impure = each_push (rows_of name rest.1.sites) rest.1.impure log.impure rest.0 value here.impure given.1;
          },
          subst (λ (z : BindingId). At (rows_of name rest.1.sites) value z.0) (sym rest.3.0) given.1,
        )) in
        rw (m, p) both
