-- What the steps of a search say.
use Rattle.std.proofs.Common.{◌≡◌, inl, inr, ℕ, ◌==◌, List, [], ◌∷◌, ◌++◌, Bool, true, false, Option, Some, None, length, take, cond, Contains, refl, sym, ◌∙◌, ap, subst, arith, eqb-true, append_assoc, append-nil}
use Rattle.std.proofs.lemmas.Bool.{eqb-false}
use Rattle.std.proofs.lemmas.List.Elements.{Contains-append_right}
use Rattle.isle_missing.specs.declared.demand.Demand.{Demand}
use Rattle.isle_missing.specs.declared.demand.Demand.TheVariants.{Passes, Same}
use Rattle.isle_missing.specs.declared.facts.Fact.{Fact}
use Rattle.isle_missing.specs.declared.ids.SiteId.{SiteId}
use Rattle.isle_missing.specs.declared.ids.TestId.{TestId}
use Rattle.isle_missing.specs.declared.facts.Rest.TheVariants.{Open, Nothing, Only}
use Rattle.isle_missing.specs.declared.search.Answer.{Answer}
use Rattle.isle_missing.specs.declared.search.Answer.TheVariants.{Covered, Missing}
use Rattle.isle_missing.specs.Sites.{Sites, all_tests, single_tests}
use Rattle.isle_missing.specs.Demands.{World, PassesOne, AreCompared, passes, equals, AllHold, SomeMatches, FitsAt, Fits, AllFit}
use Rattle.isle_missing.specs.Inside.Rows.{is_denied, has_demand, where_holds, where_fails, apart}
use Rattle.std.specs.List.{list_any}
use Rattle.isle_missing.specs.Facts.{AreSo}
use Rattle.isle_missing.specs.Inside.Facts.{AreOpen, IsRest, refutes, is_refuted, are_refuted}
use Rattle.isle_missing.specs.Inside.Rounds.{CoversUnder, Extends, AnswerIs, IsLeftOf, AreBefore, RoundIs, BranchIs, IsForced, RefusalIs}
use Rattle.isle_missing.specs.Search.{MissesUnder}
use Rattle.isle_missing.proofs.Basics.{true_or, clash, or_holds, and_both, member_listed}
use Rattle.isle_missing.proofs.Worlds.{denied_rule, failed_rule, holds_back, holds_on, holds_fit, fails_back, fails_on, fails_fit, fits_member, member_matches, some_front, front_some, all_fit_append, none_apart, apart_fit, so_push, so_front, so_last, failed_fails}

-- that a demand holds, or fails
abbrev pub fact : Demand → Bool → Fact
fact d b = record { demand = d; holds = b }

pub before_self : (facts : List Fact) → AreBefore facts facts
before_self facts = ([], sym (append-nil facts))

pub before_push : (facts : List Fact) (f : Fact) → AreBefore facts (facts ++ f ∷ [])
before_push facts f = (f ∷ [], refl)

pub before_more : (a b c : List Fact) → AreBefore a b → AreBefore b c → AreBefore a c
before_more a b c (xs, p) (ys, q) = (xs ++ ys, q ∙ (ap (λ (l : List Fact). l ++ ys) p ∙ append_assoc a xs ys))

take_all : (a more : List Fact) → take (length a) (a ++ more) ≡ a
take_all [] more = refl
take_all (f ∷ fs) more = ap (λ (l : List Fact). f ∷ l) (take_all fs more)

-- what stood before is had back
pub had_back : (a b new : List Fact) (known : ℕ) → AreBefore a b → AreBefore b new → known ≡ length a → take known new ≡ a
had_back a b new known p q e =
    let more : AreBefore a new = before_more a b new p q in
    ap (λ (n : ℕ). take n new) e ∙ (ap (λ (l : List Fact). take (length a) l) (more.1) ∙ take_all a (more.0))

last_member : (facts : List Fact) (f : Fact) → Contains (facts ++ f ∷ []) f
last_member facts f = Contains-append_right facts (f ∷ []) f (0, omega arith, refl)

-- ---- where a demand fails

open_refusal : (sites : Sites) (d : Demand) (old : List Fact) (rows : List (List Demand)) → IsForced sites (old ++ fact d false ∷ []) d
    → RefusalIs sites d old rows (old ++ fact d false ∷ []) (where_fails d rows) true
open_refusal sites d old rows forced = (
  λ w so fit fails. (so_push w old (fact d false) so fails, fails_fit w sites d rows, fails_back w d rows),
  λ w so. (so_front w old (fact d false ∷ []) so, fails_on w d rows (so_last w old (fact d false) so)),
  before_push old (fact d false),
  forced,
)

-- where the tests of a site aren't known, or two are open, nothing is to be forced
open_forced : (sites : Sites) (facts : List Fact) (s : ℕ) (ts : List ℕ) → IsRest sites facts s Open → all_tests sites s ≡ Some ts
    → AreOpen facts s ts
open_forced sites facts s ts (inl none) e = absurd (let f : None ≡ Some ts = sym none ∙ e in cc)
open_forced sites facts s ts (inr (us, some, two)) e =
    let f : Some us ≡ Some ts = sym some ∙ e in
    let same : us ≡ ts = cc in
    subst (λ (l : List ℕ). AreOpen facts s l) same two

-- a site passes one of the tests of which each of its values does
one_of : (w : World) (sites : Sites) (s : ℕ) (ts : List ℕ) → PassesOne w s (all_tests sites s) → all_tests sites s ≡ Some ts
    → (t : ℕ) × Contains ts t × (w.holds (passes s t) ≡ true)
one_of w sites s ts fit e = subst (PassesOne w s) e fit

pub nothing_refusal : (sites : Sites) (s t : ℕ) (old : List Fact) (rows left : List (List Demand))
    → IsRest sites (old ++ fact (passes s t) false ∷ []) s Nothing
    → RefusalIs sites (passes s t) old rows (old ++ fact (passes s t) false ∷ []) left false
nothing_refusal sites s t old rows left (ts, full, failed) = (
  λ w so fit fails. none w so fit fails,
  before_push old (fact (passes s t) false),
) where
  none : (w : World) → AreSo w old → FitsAt w sites (passes s t) → w.holds (passes s t) ≡ false → ⊥
  none w so fit fails =
      let one : (u : ℕ) × Contains ts u × (w.holds (passes s u) ≡ true) = one_of w sites s ts fit full in
      clash (w.holds (passes s (one.0))) (one.2) (failed_fails w (old ++ fact (passes s t) false ∷ []) (passes s (one.0))
      (so_push w old (fact (passes s t) false) so fails) (failed (one.0) (one.1) (λ h. h)))

pub only_refusal : (sites : Sites) (s t u : ℕ) (old : List Fact) (rows : List (List Demand))
    → IsRest sites (old ++ fact (passes s t) false ∷ []) s (Only (record { 0 = u }))
    → RefusalIs sites (passes s t) old rows ((old ++ fact (passes s t) false ∷ []) ++ fact (passes s u) true ∷ [])
    (where_holds (passes s u) (where_fails (passes s t) rows)) true
only_refusal sites s t u old rows (ts, full, failed) = (
  λ w so fit fails. (
    so_push w (old ++ fact (passes s t) false ∷ []) (fact (passes s u) true)
        (so_push w old (fact (passes s t) false) so fails) (last_passes w so fit fails),
    λ all. holds_fit w sites (passes s u) (where_fails (passes s t) rows) (last_passes w so fit fails) (fails_fit w sites (passes s t) rows all),
    λ m. fails_back w (passes s t) rows (holds_back w (passes s u) (where_fails (passes s t) rows) (last_passes w so fit fails) m),
  ),
  λ w so. (
    so_front w old (fact (passes s t) false ∷ []) (front w so),
    λ m. holds_on w (passes s u) (where_fails (passes s t) rows) (so_last w (old ++ fact (passes s t) false ∷ []) (fact (passes s u) true) so)
        (fails_on w (passes s t) rows (so_last w old (fact (passes s t) false) (front w so)) m),
  ),
  before_more old (old ++ fact (passes s t) false ∷ []) ((old ++ fact (passes s t) false ∷ []) ++ fact (passes s u) true ∷ [])
      (before_push old (fact (passes s t) false)) (before_push (old ++ fact (passes s t) false ∷ []) (fact (passes s u) true)),
  λ m known. inr (u, last_member (old ++ fact (passes s t) false ∷ []) (fact (passes s u) true)),
) where
  front : (w : World) → AreSo w ((old ++ fact (passes s t) false ∷ []) ++ fact (passes s u) true ∷ []) → AreSo w (old ++ fact (passes s t) false ∷ [])
  front w so = so_front w (old ++ fact (passes s t) false ∷ []) (fact (passes s u) true ∷ []) so

  -- the test that passes is the only one that hasn't failed
  last_passes : (w : World) → AreSo w old → FitsAt w sites (passes s t) → w.holds (passes s t) ≡ false → w.holds (passes s u) ≡ true
  last_passes w so fit fails =
      let one : (v : ℕ) × Contains ts v × (w.holds (passes s v) ≡ true) = one_of w sites s ts fit full in
      elim (true_or (one.0 == u)) [
        | inl e ↦ ap (λ (k : ℕ). w.holds (passes s k)) (sym (eqb-true (one.0) u e)) ∙ one.2
        | inr e ↦ clash (w.holds (passes s (one.0))) (one.2) (failed_fails w (old ++ fact (passes s t) false ∷ []) (passes s (one.0))
            (so_push w old (fact (passes s t) false) so fails) (failed (one.0) (one.1) (eqb-false (one.0) u e)))
      ]

-- the same of what the code has
pub open_told : (sites : Sites) (d : Demand) (s : SiteId) (t : TestId) (old new seen : List Fact) (rows left : List (List Demand)) → d ≡ Passes s t
    → new ≡ old ++ fact d false ∷ [] → seen ≡ new → IsRest sites seen s.0 Open → left ≡ where_fails d rows → RefusalIs sites d old rows new left true
open_told sites d s t old new seen rows left e f g rest p =
    let known : IsRest sites (old ++ fact (Passes s t) false ∷ []) s.0 Open =
    subst (λ (l : List Fact). IsRest sites l s.0 Open) (g ∙ (f ∙ ap (λ (x : Demand). old ++ fact x false ∷ []) e)) rest in
    rw (f, p, e) (open_refusal sites (Passes s t) old rows
    (λ ts all. inl (open_forced sites (old ++ fact (Passes s t) false ∷ []) s.0 ts known all)))

pub nothing_told : (sites : Sites) (d : Demand) (s : SiteId) (t : TestId) (old new seen : List Fact) (rows left : List (List Demand)) → d ≡ Passes s t
    → new ≡ old ++ fact d false ∷ [] → seen ≡ new → IsRest sites seen s.0 Nothing → RefusalIs sites d old rows new left false
nothing_told sites d s t old new seen rows left e f g rest =
    rw (f, e) (nothing_refusal sites s.0 t.0 old rows left (shown sites d s t old new seen e f g rest)) where
      shown : (sites : Sites) (d : Demand) (s : SiteId) (t : TestId) (old new seen : List Fact) → d ≡ Passes s t → new ≡ old ++ fact d false ∷ []
          → seen ≡ new
          → IsRest sites seen s.0 Nothing → IsRest sites (old ++ fact (Passes s t) false ∷ []) s.0 Nothing
      shown sites d s t old new seen e f g rest =
          subst (λ (l : List Fact). IsRest sites l s.0 Nothing) (g ∙ (f ∙ ap (λ (x : Demand). old ++ fact x false ∷ []) e)) rest

pub only_told : (sites : Sites) (d : Demand) (s : SiteId) (t u : TestId)
    (old mid seen new : List Fact) (rows gone shown left : List (List Demand)) → d ≡ Passes s t
    → mid ≡ old ++ fact d false ∷ [] → seen ≡ mid → IsRest sites seen s.0 (Only u) → new ≡ mid ++ fact (Passes s u) true ∷ []
    → gone ≡ where_fails d rows → shown ≡ gone → left ≡ where_holds (Passes s u) shown → RefusalIs sites d old rows new left true
only_told sites d s t u old mid seen new rows gone shown left e f g rest n o p q =
    let facts : new ≡ (old ++ fact (Passes s t) false ∷ []) ++ fact (Passes s u) true ∷ [] =
    n ∙ ap (λ (l : List Fact). l ++ fact (Passes s u) true ∷ []) (f ∙ ap (λ (x : Demand). old ++ fact x false ∷ []) e) in
    let rules : left ≡ where_holds (Passes s u) (where_fails (Passes s t) rows) =
    q ∙ ap (λ (l : List (List Demand)). where_holds (Passes s u) l) (p ∙ (o ∙ ap (λ (x : Demand). where_fails x rows) e)) in
    let known : IsRest sites (old ++ fact (Passes s t) false ∷ []) s.0 (Only u) =
    subst (λ (l : List Fact). IsRest sites l s.0 (Only u)) (g ∙ (f ∙ ap (λ (x : Demand). old ++ fact x false ∷ []) e)) rest in
    rw (facts, rules, e) (only_refusal sites s.0 t.0 u.0 old rows known)

-- where an equality fails
equals_refusal : (sites : Sites) (a b : ℕ) (old : List Fact) (rows : List (List Demand))
    → RefusalIs sites (equals a b) old rows (old ++ fact (equals a b) false ∷ []) (where_fails (equals a b) rows ++ apart sites a b) true
equals_refusal sites a b old rows = (
  λ w so fit fails. (
    so_push w old (fact (equals a b) false) so fails,
    λ all. all_fit_append w sites (where_fails (equals a b) rows) (apart sites a b) (fails_fit w sites (equals a b) rows all) (they_fit w fit),
    λ m. fails_back w (equals a b) rows (front_some w (where_fails (equals a b) rows) (apart sites a b) (none w fit fails) m),
  ),
  λ w so. (
    so_front w old (fact (equals a b) false ∷ []) so,
    λ m. some_front w (where_fails (equals a b) rows) (apart sites a b)
        (fails_on w (equals a b) rows (so_last w old (fact (equals a b) false) so) m),
  ),
  before_push old (fact (equals a b) false),
  tt,
) where
  they_fit : (w : World) → AreCompared w sites a b → AllFit w sites (apart sites a b)
  they_fit w fit = apart_fit w sites a b (single_tests sites a) fit.first fit.second

  none : (w : World) → AreCompared w sites a b → w.holds (equals a b) ≡ false → SomeMatches w (apart sites a b) → ⊥
  none w fit fails m = none_apart w a b (single_tests sites a) each m where
    each : (t : ℕ) → Contains (single_tests sites a) t → w.holds (passes a t) ≡ true → w.holds (passes b t) ≡ true → ⊥
    each t listed p q = clash (w.holds (equals a b)) (fit.single t (member_listed (single_tests sites a) t listed) p q) fails

pub equals_told : (sites : Sites) (d : Demand) (a b : SiteId) (old new : List Fact) (rows gone left : List (List Demand)) → d ≡ Same a b
    → new ≡ old ++ fact d false ∷ [] → gone ≡ where_fails d rows → left ≡ gone ++ apart sites a.0 b.0 → RefusalIs sites d old rows new left true
equals_told sites d a b old new rows gone left e f g h =
    let rules : left ≡ where_fails d rows ++ apart sites a.0 b.0 = h ∙ ap (λ (l : List (List Demand)). l ++ apart sites a.0 b.0) g in
    rw (f, rules, e) (equals_refusal sites a.0 b.0 old rows)

-- ---- where a demand holds

pub alone_branch : (sites : Sites) (rows : List (List Demand)) (d : Demand) (old : List Fact) → Contains rows (d ∷ [])
    → BranchIs sites rows d old old Covered
alone_branch sites rows d old m = (λ w so holds fit. member_matches w rows (d ∷ []) m (holds, tt), refl)

pub covered_branch : (sites : Sites) (rows : List (List Demand)) (d : Demand) (old new : List Fact)
    → CoversUnder sites (old ++ fact d true ∷ []) (where_holds d rows) → new ≡ old → BranchIs sites rows d old new Covered
covered_branch sites rows d old new covers same = (
  λ w so holds fit. holds_back w d rows holds
      (covers w (so_push w old (fact d true) so holds) (holds_fit w sites d rows holds fit)),
  same,
)

pub missing_branch : (sites : Sites) (rows : List (List Demand)) (d : Demand) (old new : List Fact)
    → MissesUnder new (where_holds d rows) × Extends new (old ++ fact d true ∷ []) → BranchIs sites rows d old new Missing
missing_branch sites rows d old new (misses, more) = (
  λ w so m. misses w so (holds_on w d rows (so_last w old (fact d true) (more w so)) m),
  λ w so. so_front w old (fact d true ∷ []) (more w so),
)

-- the same of what the code has
pub covered_told : (sites : Sites) (rows left : List (List Demand)) (d : Demand) (old mid new back : List Fact) (a : Answer) (known : ℕ)
    → mid ≡ old ++ fact d true ∷ [] → left ≡ where_holds d rows → a ≡ Covered → AnswerIs sites left mid new a → (a ≡ Covered → new ≡ mid)
    → known ≡ length old → back ≡ take known new → BranchIs sites rows d old back Covered
covered_told sites rows left d old mid new back a known e f g found kept n b =
    let covers : CoversUnder sites mid left = subst (λ (x : Answer). AnswerIs sites left mid new x) g found in
    let shown : CoversUnder sites (old ++ fact d true ∷ []) (where_holds d rows) =
    subst (λ (l : List (List Demand)). CoversUnder sites (old ++ fact d true ∷ []) l) f
    (subst (λ (l : List Fact). CoversUnder sites l left) e covers) in
    let whole : AreBefore mid new = ([], kept g ∙ sym (append-nil mid)) in
    covered_branch sites rows d old back shown (b ∙ had_back old mid new known (fact d true ∷ [], e) whole n)

pub missing_branch_told : (sites : Sites) (rows left : List (List Demand)) (d : Demand) (old mid new : List Fact) (a : Answer)
    → mid ≡ old ++ fact d true ∷ [] → left ≡ where_holds d rows → a ≡ Missing → AnswerIs sites left mid new a → BranchIs sites rows d old new Missing
missing_branch_told sites rows left d old mid new a e f g found =
    let misses : MissesUnder new left × Extends new mid = subst (λ (x : Answer). AnswerIs sites left mid new x) g found in
    missing_branch sites rows d old new (
      subst (λ (l : List (List Demand)). MissesUnder new l) f (misses.0),
      subst (λ (l : List Fact). Extends new l) e (misses.1),
    )

-- ---- a round

pub no_rule : (sites : Sites) (rows left : List (List Demand)) (old : List Fact) → rows ≡ [] → RoundIs sites old rows old left (Some Missing)
no_rule sites rows left old e = (λ w so m. let none : SomeMatches w [] = subst (SomeMatches w) e m in none, λ w so. so)

pub rule_matches : (sites : Sites) (rows left : List (List Demand)) (old : List Fact) → Contains rows []
    → RoundIs sites old rows old left (Some Covered)
rule_matches sites rows left old m = (λ w so fit. member_matches w rows [] m tt, before_self old)

-- the site of a rule's first demand has a value
head_fits : (w : World) (sites : Sites) (rows : List (List Demand)) (d : Demand) (rest : List Demand) → Contains rows (d ∷ rest) → AllFit w sites rows
    → FitsAt w sites d
head_fits w sites rows d rest m fit = let row : Fits w sites (d ∷ rest) = fits_member w sites rows (d ∷ rest) fit m in row.0

pub goes_on : (sites : Sites) (rows left : List (List Demand)) (d : Demand) (rest : List Demand) (old new : List Fact) → Contains rows (d ∷ rest)
    → BranchIs sites rows d old old Covered → RefusalIs sites d old rows new left true → RoundIs sites old rows new left None
goes_on sites rows left d rest old new m branch refusal = (
  record {
    on = λ w so fit. elim (true_or (w.holds d)) [
      | inl holds ↦ inl (branch.0 w so holds fit)
      | inr fails ↦
          let after : AreSo w new × (AllFit w sites rows → AllFit w sites left) × (SomeMatches w left → SomeMatches w rows) =
          refusal.0 w so (head_fits w sites rows d rest m fit) fails in
          inr (after.0, after.1 fit, after.2)
    ];
    back = refusal.1;
  },
  refusal.2,
)

pub all_covered : (sites : Sites) (rows left : List (List Demand)) (d : Demand) (rest : List Demand) (old new : List Fact) → Contains rows (d ∷ rest)
    → BranchIs sites rows d old old Covered → RefusalIs sites d old rows new left false → RoundIs sites old rows new left (Some Covered)
all_covered sites rows left d rest old new m branch refusal = (
  λ w so fit. elim (true_or (w.holds d)) [
    | inl holds ↦ branch.0 w so holds fit
    | inr fails ↦ absurd (refusal.0 w so (head_fits w sites rows d rest m fit) fails)
  ],
  refusal.1,
)

-- the same of what the code has
pub matches_told : (sites : Sites) (rows seen left : List (List Demand)) (old : List Fact) → seen ≡ rows → Contains seen []
    → RoundIs sites old rows old left (Some Covered)
matches_told sites rows seen left old e m = rule_matches sites rows left old (subst (λ (l : List (List Demand)). Contains l []) e m)

pub missing_told : (sites : Sites) (rows seen left : List (List Demand)) (d : Demand) (old new : List Fact) (a : Answer) → seen ≡ rows → a ≡ Missing
    → BranchIs sites seen d old new a → RoundIs sites old rows new left (Some Missing)
missing_told sites rows seen left d old new a e f branch =
    let misses : MissesUnder new seen × Extends new old = subst (λ (x : Answer). BranchIs sites seen d old new x) f branch in
    (λ w so m. misses.0 w so (subst (SomeMatches w) (sym e) m), misses.1)

pub goes_on_told : (sites : Sites) (rows seen again left : List (List Demand)) (d : Demand)
    (rest : List Demand) (old mid new : List Fact) (a : Answer) (b : Bool)
    → seen ≡ rows → again ≡ rows → Contains seen (d ∷ rest) → a ≡ Covered → b ≡ true → BranchIs sites again d old mid a
    → RefusalIs sites d mid rows new left b
    → RoundIs sites old rows new left None
goes_on_told sites rows seen again left d rest old mid new a b e f m g h found refusal =
    let branch : BranchIs sites again d old mid Covered = subst (λ (x : Answer). BranchIs sites again d old mid x) g found in
    let told : RefusalIs sites d mid rows new left true = subst (λ (x : Bool). RefusalIs sites d mid rows new left x) h refusal in
    let here : Contains rows (d ∷ rest) = subst (λ (l : List (List Demand)). Contains l (d ∷ rest)) e m in
    let unchanged : BranchIs sites again d old old Covered = (branch.0, refl) in
    let covered : BranchIs sites rows d old old Covered = subst (λ (l : List (List Demand)). BranchIs sites l d old old Covered) f unchanged in
    let refused : RefusalIs sites d old rows new left true = subst (λ (l : List Fact). RefusalIs sites d l rows new left true) (branch.1) told in
    goes_on sites rows left d rest old new here covered refused

pub all_covered_told : (sites : Sites) (rows seen again left : List (List Demand)) (d : Demand)
    (rest : List Demand) (old mid new : List Fact) (a : Answer) (b : Bool)
    → seen ≡ rows → again ≡ rows → Contains seen (d ∷ rest) → a ≡ Covered → b ≡ false → BranchIs sites again d old mid a
    → RefusalIs sites d mid rows new left b
    → RoundIs sites old rows new left (Some Covered)
all_covered_told sites rows seen again left d rest old mid new a b e f m g h found refusal =
    let branch : BranchIs sites again d old mid Covered = subst (λ (x : Answer). BranchIs sites again d old mid x) g found in
    let told : RefusalIs sites d mid rows new left false = subst (λ (x : Bool). RefusalIs sites d mid rows new left x) h refusal in
    let here : Contains rows (d ∷ rest) = subst (λ (l : List (List Demand)). Contains l (d ∷ rest)) e m in
    let unchanged : BranchIs sites again d old old Covered = (branch.0, refl) in
    let covered : BranchIs sites rows d old old Covered = subst (λ (l : List (List Demand)). BranchIs sites l d old old Covered) f unchanged in
    let refused : RefusalIs sites d old rows new left false = subst (λ (l : List Fact). RefusalIs sites d l rows new left false) (branch.1) told in
    all_covered sites rows left d rest old new here covered refused

-- ---- all rounds

pub left_more : (sites : Sites) (a b c : List Fact) (rows mid left : List (List Demand)) → IsLeftOf sites a rows b mid → IsLeftOf sites b mid c left
    → IsLeftOf sites a rows c left
left_more sites a b c rows mid left p q = record {
  on = λ w so fit. elim (p.on w so fit) [
    | inl m ↦ inl m
    | inr h ↦ elim (q.on w (h.0) (h.1)) [
      | inl m ↦ inl (h.2 m)
      | inr k ↦ inr (k.0, k.1, λ m. h.2 (k.2 m))
    ]
  ];
  back = λ w so.
      let later : AreSo w b × (SomeMatches w mid → SomeMatches w left) = q.back w so in
      let before : AreSo w a × (SomeMatches w rows → SomeMatches w mid) = p.back w (later.0) in
      (before.0, λ m. later.1 (before.1 m));
}

pub covered_in_the_end : (sites : Sites) (a b : List Fact) (rows left : List (List Demand)) → IsLeftOf sites a rows b left → CoversUnder sites b left
    → CoversUnder sites a rows
covered_in_the_end sites a b rows left p covers w so fit = elim (p.on w so fit) [ inl m ↦ m | inr h ↦ h.2 (covers w (h.0) (h.1)) ]

pub missing_in_the_end : (sites : Sites) (a b new : List Fact) (rows left : List (List Demand)) → IsLeftOf sites a rows b left
    → MissesUnder new left × Extends new b → MissesUnder new rows × Extends new a
missing_in_the_end sites a b new rows left p (misses, more) = (
  λ w so m.
      let before : AreSo w a × (SomeMatches w rows → SomeMatches w left) = p.back w (more w so) in
      misses w so (before.1 m),
  λ w so.
      let before : AreSo w a × (SomeMatches w rows → SomeMatches w left) = p.back w (more w so) in
      before.0,
)

-- the same of what the code has: of rounds so far, and one more
pub more_left : (sites : Sites) (a b c : List Fact) (rows mid left : List (List Demand)) (o : Option Answer) → IsLeftOf sites a rows b mid → o ≡ None
    → RoundIs sites b mid c left o → IsLeftOf sites a rows c left
more_left sites a b c rows mid left o p e found =
    let round : IsLeftOf sites b mid c left × AreBefore b c = subst (λ (x : Option Answer). RoundIs sites b mid c left x) e found in
    left_more sites a b c rows mid left p (round.0)

pub more_before : (sites : Sites) (a b c : List Fact) (mid left : List (List Demand)) (o : Option Answer) → AreBefore a b → o ≡ None
    → RoundIs sites b mid c left o → AreBefore a c
more_before sites a b c mid left o p e found =
    let round : IsLeftOf sites b mid c left × AreBefore b c = subst (λ (x : Option Answer). RoundIs sites b mid c left x) e found in
    before_more a b c p (round.1)

pub covered_end : (sites : Sites) (a b c : List Fact) (rows mid left : List (List Demand)) (o : Option Answer) → IsLeftOf sites a rows b mid
    → o ≡ Some Covered → RoundIs sites b mid c left o → CoversUnder sites a rows
covered_end sites a b c rows mid left o p e found =
    let round : CoversUnder sites b mid × AreBefore b c = subst (λ (x : Option Answer). RoundIs sites b mid c left x) e found in
    covered_in_the_end sites a b rows mid p (round.0)

pub missing_end : (sites : Sites) (a b c : List Fact) (rows mid left : List (List Demand)) (o : Option Answer) → IsLeftOf sites a rows b mid
    → o ≡ Some Missing → RoundIs sites b mid c left o → MissesUnder c rows × Extends c a
missing_end sites a b c rows mid left o p e found =
    missing_in_the_end sites a b c rows mid p (subst (λ (x : Option Answer). RoundIs sites b mid c left x) e found)

-- of the whole, where nothing was known before
pub covered_all : (sites : Sites) (none new : List Fact) (rows rules : List (List Demand)) (a : Answer) → rows ≡ rules → none ≡ [] → a ≡ Covered
    → AnswerIs sites rows none new a → (w : World) → AllFit w sites rules → SomeMatches w rules
covered_all sites none new rows rules a r e f found w fit =
    let covers : CoversUnder sites none rows = subst (λ (x : Answer). AnswerIs sites rows none new x) f found in
    let from_none : CoversUnder sites [] rows = subst (λ (l : List Fact). CoversUnder sites l rows) e covers in
    let of_rules : CoversUnder sites [] rules = subst (λ (l : List (List Demand)). CoversUnder sites [] l) r from_none in
    of_rules w tt fit

-- ---- facts that are needed

one_refutes : (w : World) (d : Demand) (b : Bool) (row : List Demand) → w.holds d ≡ b → cond b (is_denied d row) (has_demand d row) ≡ true
    → AllHold w row → ⊥
one_refutes w d true row h r all = denied_rule w d row h r all
one_refutes w d false row h r all = failed_rule w d row h r all

facts_refute : (w : World) (facts : List Fact) (row : List Demand) → AreSo w facts → is_refuted facts row ≡ true → AllHold w row → ⊥
facts_refute w [] row so r all = clash false r refl
facts_refute w (f ∷ fs) row so r all = elim (or_holds (refutes row f) (list_any (refutes row) fs) r) [
  | inl here ↦ one_refutes w f.demand f.holds row (so.0) here all
  | inr later ↦ facts_refute w fs row (so.1) later all
]

-- where facts refute each rule none matches
pub refuted_misses : (facts : List Fact) (rows : List (List Demand)) → are_refuted facts rows ≡ true → MissesUnder facts rows
refuted_misses facts [] r w so m = m
refuted_misses facts (row ∷ rows) r w so (inl all) = facts_refute w facts row so ((and_both (is_refuted facts row) (are_refuted facts rows) r).0) all
refuted_misses facts (row ∷ rows) r w so (inr m) = refuted_misses facts rows ((and_both (is_refuted facts row) (are_refuted facts rows) r).1) w so m
