-- Numbered rules that cover all worlds leave no walk of their tree without a return.
use Rattle.std.proofs.Common.{◌≡◌, ◌≢◌, inl, inr, ℕ, zero, suc, List, [], ◌∷◌, ◌++◌, true, false, Option, Some, None, Contains, refl, sym, ◌∙◌, ap, subst, arith, append_assoc}
use Rattle.std.proofs.lemmas.List.Elements.{Contains-append_right}
use Rattle.isle_trees.specs.Got.{Got, unknown, fails, gives}
use Rattle.isle_trees.specs.Answers.{Answers, HasValue, Agree}
use Rattle.isle_trees.specs.Builds.{IsTreeOf}
use Rattle.isle_trees.specs.Choice.{IsRight, IsSure, NoneMatches}
use Rattle.isle_trees.specs.Premises.{AreExact, Respects, KnowsAsked, IsStrict}
use Rattle.isle_trees.specs.Rules.{Want, has, one_value, Rules, Elem, Asked, by_demand, by_class, by_part, passes_got, alike_got, Meets, Matches}
use Rattle.isle_trees.specs.Tree.{Steps}
use Rattle.isle_trees.specs.Walk.{Outcome, chooses, ends, waits, stops, walk}
use Rattle.isle_trees.proofs.Whole.{whole_right, whole_sure}
use Rattle.isle_missing.specs.declared.demand.Demand.{Demand}
use Rattle.isle_missing.specs.declared.demand.Demand.TheVariants.{Passes, Same}
use Rattle.isle_missing.specs.declared.facts.Fact.{Fact}
use Rattle.isle_missing.specs.Sites.{Sites, all_tests}
use Rattle.isle_missing.specs.Demands.{World, PassesOne, AreCompared, passes, equals, AllHold, SomeMatches, Fits, AllFit}
use Rattle.isle_missing.specs.Facts.{AreSo}
use Rattle.isle_missing.specs.Trees.{Numbering, IsNumber, passes_numbered, holds_by, IsWorldOf, AreApart, AreTyped, AreSingle, IsLinked, by_pair, turned, over, IsReady, by_test, by_parts, StandsFor, Shows, AreMutual, CoveredRulesMatch, MissingRulesFail}
use Rattle.isle_missing.proofs.Basics.{clash, member_head, member_tail}

-- what passes a numbered test has a value that passes it
numbered_passes : {C V : Type 0} (R : Rules C V) (o : Option C) (g : Got V) → passes_numbered R o g ≡ true
    → (c : C) × (x : V) × (o ≡ Some c) × (g ≡ gives x) × (R.tests.passes c x ≡ true)
numbered_passes R None g e = clash false e refl
numbered_passes R (Some c) unknown e = clash false e refl
numbered_passes R (Some c) fails e = clash false e refl
numbered_passes R (Some c) (gives x) e = (c, x, refl, refl, e)

-- and the other way
passes_by : {C V : Type 0} (R : Rules C V) (o : Option C) (g : Got V) (c : C) → o ≡ Some c → passes_got R c g ≡ true → passes_numbered R o g ≡ true
passes_by R o g c e p = rw e p

got_by : {C V : Type 0} (R : Rules C V) (o : Option C) (g : Got V) (c : C) → o ≡ Some c → passes_numbered R o g ≡ true → passes_got R c g ≡ true
got_by R o g c e p = let q : passes_numbered R (Some c) g ≡ true = subst (λ k. passes_numbered R k g ≡ true) e p in q

-- what passes the same tests
same_got : {C V : Type 0} (R : Rules C V) (c d : C) (g : Got V) → ((x : V) → R.tests.passes d x ≡ R.tests.passes c x)
    → passes_got R d g ≡ passes_got R c g
same_got R c d unknown same = refl
same_got R c d fails same = refl
same_got R c d (gives x) same = same x

-- what passes a test passes its number, and the other way
passes_by_number : {C V : Type 0} (R : Rules C V) (test : Numbering C) (c : C) (t : ℕ) (g : Got V) → IsNumber R test c t → passes_got R c g ≡ true
    → passes_numbered R (test t) g ≡ true
passes_by_number R test c t g (d, at, same) p = passes_by R (test t) g d at (same_got R c d g same ∙ p)

got_by_number : {C V : Type 0} (R : Rules C V) (test : Numbering C) (c : C) (t : ℕ) (g : Got V) → IsNumber R test c t
    → passes_numbered R (test t) g ≡ true → passes_got R c g ≡ true
got_by_number R test c t g (d, at, same) p = sym (same_got R c d g same) ∙ got_by R (test t) g d at p

passes_given : {C V : Type 0} (R : Rules C V) (c : C) (g : Got V) (x : V) → g ≡ gives x → R.tests.passes c x ≡ true → passes_got R c g ≡ true
passes_given R c g x e p = rw e p

one_gives : {V : Type 0} (x y : V) → gives x ≡ gives y → x ≡ y
one_gives x y e = cc

one_some : {C : Type 0} (c d : C) → Some c ≡ Some d → c ≡ d
one_some c d e = cc

-- the world of answers
pub world_of : {C V : Type 0} (R : Rules C V) (test : Numbering C) (v : Answers V) → AreApart R test → World
world_of R test v apart = record {
  holds = holds_by R test v;
  one = λ s t u p q.
      let f = numbered_passes R (test t) (v s) p in
      let g = numbered_passes R (test u) (v s) q in
      let same : g.1 ≡ f.1 = one_gives (g.1) (f.1) (sym (g.3) ∙ f.3) in
      apart t u (f.0) (g.0) (f.1) (f.2) (g.2) (f.4) (subst (λ x. R.tests.passes (g.0) x ≡ true) same (g.4));
}

pub is_world_of : {C V : Type 0} (R : Rules C V) (test : Numbering C) (v : Answers V) (apart : AreApart R test)
    → IsWorldOf R test v (world_of R test v apart)
unfolding world_of
is_world_of R test v apart d = refl

-- ---- lists of demands

all_member : (w : World) (row : List Demand) (d : Demand) → AllHold w row → Contains row d → w.holds d ≡ true
all_member w [] d all m = absurd (omega (arith, m.1))
all_member w (e ∷ es) d all (zero, below, same) = subst (λ (x : Demand). w.holds x ≡ true) same (all.0)
all_member w (e ∷ es) d all (suc k, below, same) = all_member w es d (all.1) (k, omega arith, same)

all_from : (w : World) (row : List Demand) → ((d : Demand) → Contains row d → w.holds d ≡ true) → AllHold w row
all_from w [] each = tt
all_from w (e ∷ es) each = (each e (member_head e es), all_from w es (λ d m. each d (member_tail e d es m)))

all_push : (w : World) (front : List Demand) (d : Demand) → AllHold w front → w.holds d ≡ true → AllHold w (front ++ d ∷ [])
all_push w [] d all h = (h, tt)
all_push w (e ∷ es) d all h = (all.0, all_push w es d (all.1) h)

some_rule : (w : World) (rows : List (List Demand)) → SomeMatches w rows → (row : List Demand) × Contains rows row × AllHold w row
some_rule w [] m = absurd m
some_rule w (row ∷ rows) (inl all) = (row, member_head row rows, all)
some_rule w (row ∷ rows) (inr m) =
    let r : (other : List Demand) × Contains rows other × AllHold w other = some_rule w rows m in (r.0, member_tail row (r.0) rows (r.1), r.2)

rule_some : (w : World) (rows : List (List Demand)) (row : List Demand) → Contains rows row → AllHold w row → SomeMatches w rows
rule_some w [] row m all = absurd (omega (arith, m.1))
rule_some w (x ∷ xs) row (zero, below, same) all = inl (subst (AllHold w) (sym same) all)
rule_some w (x ∷ xs) row (suc k, below, same) all = inr (rule_some w xs row (k, omega arith, same) all)

-- ---- values

valued : {V : Type 0} (g : Got V) → g ≢ unknown → g ≢ fails → HasValue g
valued unknown p q = absurd (p refl)
valued fails p q = absurd (q refl)
valued (gives x) p q = (x, refl)

-- a site has a value where the demands hold by which it is ready
ready_valued : {C V : Type 0} {R : Rules C V} {test : Numbering C} {front : List Demand} {s : ℕ} (v : Answers V) (w : World) (i : ℕ)
    → IsWorldOf R test v w
    → Respects R v → KnowsAsked R v → AllHold w front → IsReady R test front s → Asked R i s → HasValue (v s)
ready_valued {R = R} {test = test} {front = front} v w i is rs ka all (by_test s m c t made want numbered member) asked =
    let holds : holds_by R test v (passes m.site t) ≡ true = sym (is (passes m.site t)) ∙ all_member w front (passes m.site t) all member in
    let passes : passes_got R c (v m.site) ≡ true = got_by_number R test c t (v m.site) numbered holds in
    rs.field s m made (subst (λ k. Meets R k (v m.site)) (sym want) passes)
ready_valued {R = R} v w i is rs ka all (by_parts s made parts) asked =
    valued (v s) (ka i s asked)
    (rs.whole s made (λ p e. ready_valued v w i is rs ka all (parts p e) (by_part s p asked e)))

-- a site passes one of the tests of which each of its values does
fits_at : {C V : Type 0} (R : Rules C V) (test : Numbering C) (sites : Sites) (v : Answers V) (w : World) (s : ℕ) (o : Option (List ℕ))
    → IsWorldOf R test v w
    → AreTyped R test sites v → all_tests sites s ≡ o → HasValue (v s) → PassesOne w s o
fits_at R test sites v w s None is typed e h = tt
fits_at R test sites v w s (Some ts) is typed e h =
    let t = typed s ts (h.0) e (h.1) in
    (t.0, t.1, is (passes s (t.0)) ∙ passes_by R (test (t.0)) (v s) (t.2) (t.3) (passes_given R (t.2) (v s) (h.0) (h.1) (t.4)))

-- ---- equal sites

alike_values : {C V : Type 0} (R : Rules C V) (g h : Got V) → AreExact R.tests → alike_got R g h ≡ true → HasValue g × (g ≡ h)
alike_values R unknown h exact e = clash false e refl
alike_values R fails h exact e = clash false e refl
alike_values R (gives x) unknown exact e = clash false e refl
alike_values R (gives x) fails exact e = clash false e refl
alike_values R (gives x) (gives y) exact e = ((x, refl), ap (λ z. gives z) (exact.alike x y e))

values_alike : {C V : Type 0} (R : Rules C V) (g h : Got V) → AreExact R.tests → HasValue g → g ≡ h → alike_got R g h ≡ true
values_alike R g h exact value e =
    let f : h ≡ gives (value.0) = sym e ∙ value.1 in
    rw (value.1, f) (exact.alike_self (value.0))

-- two sites that a rule wants to be equal are compared by what they hold
compared : {C V : Type 0} (R : Rules C V) (test : Numbering C) (sites : Sites) (v : Answers V) (w : World) (a b : ℕ) → AreExact R.tests
    → IsWorldOf R test v w → AreTyped R test sites v → AreSingle R test sites → HasValue (v a) → HasValue (v b) → AreCompared w sites a b
compared R test sites v w a b exact is typed one first second = record {
  first = fits_at R test sites v w a (all_tests sites a) is typed refl first;
  second = fits_at R test sites v w b (all_tests sites b) is typed refl second;
  carried = λ t h.
      let alike : HasValue (v a) × (v a ≡ v b) = alike_values R (v a) (v b) exact (sym (is (equals a b)) ∙ h) in
      is (passes a t) ∙ (ap (λ g. passes_numbered R (test t) g) (alike.1) ∙ sym (is (passes b t)));
  single = λ t u p q.
      let f = numbered_passes R (test t) (v a) (sym (is (passes a t)) ∙ p) in
      let g = numbered_passes R (test t) (v b) (sym (is (passes b t)) ∙ q) in
      let test_same : g.0 ≡ f.0 = one_some (g.0) (f.0) (sym (g.2) ∙ f.2) in
      let theirs : R.tests.passes (f.0) (g.1) ≡ true = subst (λ c. R.tests.passes c (g.1) ≡ true) test_same (g.4) in
      let value_same : f.1 ≡ g.1 = one a t (f.0) (f.1) (g.1) u (f.2) (f.4) theirs in
      is (equals a b) ∙ values_alike R (v a) (v b) exact first (f.3 ∙ (ap (λ x. gives x) value_same ∙ sym (g.3)));
}

-- the rest of a rule fits, where what stands before holds
fits_rest : {C V : Type 0} (R : Rules C V) (test : Numbering C) (sites : Sites) (v : Answers V) (w : World) (i : ℕ) (row front back : List Demand)
    → AreExact R.tests → AreMutual R → IsWorldOf R test v w → AreTyped R test sites v → AreSingle R test sites → Respects R v → KnowsAsked R v
    → StandsFor R test i row → row ≡ front ++ back → AllHold w front → Fits w sites back
fits_rest R test sites v w i row front [] exact both is typed one rs ka stands e all = tt
fits_rest R test sites v w i row front (Same a b ∷ back) exact both is typed one rs ka stands e all =
    let member : Contains row (Same a b) =
    subst (λ (l : List Demand). Contains l (Same a b)) (sym e)
    (Contains-append_right front (Same a b ∷ back) (Same a b) (member_head (Same a b) back)) in
    let joined = stands.joined a.0 b.0 member in
    let ready = stands.both_ready a.0 b.0 front back e in
    let first : HasValue (v a.0) = ready_valued v w i is rs ka all (ready.0) (by_class a.0 b.0 (joined.0)) in
    let second : HasValue (v b.0) = ready_valued v w i is rs ka all (ready.1) (by_class b.0 a.0 (both i a.0 b.0 (joined.0))) in (
      compared R test sites v w a.0 b.0 exact is typed one first second,
      λ h. fits_rest R test sites v w i row (front ++ Same a b ∷ []) back exact both is typed one rs ka stands
          (e ∙ sym (append_assoc front (Same a b ∷ []) back)) (all_push w front (Same a b) all h),
    )
fits_rest R test sites v w i row front (Passes s t ∷ back) exact both is typed one rs ka stands e all =
    let member : Contains row (Passes s t) =
    subst (λ (l : List Demand). Contains l (Passes s t)) (sym e)
    (Contains-append_right front (Passes s t ∷ back) (Passes s t) (member_head (Passes s t) back)) in
    let wanted = stands.wanted s.0 t.0 member in
    let asked : Asked R i s.0 = by_demand s.0 (has (wanted.0)) (wanted.2) in
    let value : HasValue (v s.0) = ready_valued v w i is rs ka all (stands.ready s.0 t.0 front back e) asked in (
      fits_at R test sites v w s.0 (all_tests sites s.0) is typed refl value,
      λ h. fits_rest R test sites v w i row (front ++ Passes s t ∷ []) back exact both is typed one rs ka stands
          (e ∙ sym (append_assoc front (Passes s t ∷ []) back)) (all_push w front (Passes s t) all h),
    )

all_fit : {C V : Type 0} (R : Rules C V) (test : Numbering C) (sites : Sites) (v : Answers V) (w : World) (left : List ℕ) (rows : List (List Demand))
    → AreExact R.tests → AreMutual R → IsWorldOf R test v w → AreTyped R test sites v → AreSingle R test sites → Respects R v → KnowsAsked R v
    → ((row : List Demand) → Contains rows row → (i : ℕ) × Elem i left × StandsFor R test i row) → AllFit w sites rows
all_fit R test sites v w left [] exact both is typed one rs ka each = tt
all_fit R test sites v w left (row ∷ rows) exact both is typed one rs ka each =
    let here = each row (member_head row rows) in (
      fits_rest R test sites v w (here.0) row [] row exact both is typed one rs ka (here.2) refl tt,
      all_fit R test sites v w left rows exact both is typed one rs ka (λ other m. each other (member_tail row other rows m)),
    )

-- ---- a list of demands holds exactly where its rule matches

linked_alike : {C V : Type 0} {row : List Demand} {a b : ℕ} (R : Rules C V) (test : Numbering C) (v : Answers V) (w : World) → AreExact R.tests
    → IsWorldOf R test v w → AllHold w row → IsLinked row a b → HasValue (v a) × (v a ≡ v b)
linked_alike {row = row} R test v w exact is all (by_pair a b member) =
    alike_values R (v a) (v b) exact (sym (is (equals a b)) ∙ all_member w row (equals a b) all member)
linked_alike R test v w exact is all (turned a b l) =
    let p = linked_alike R test v w exact is all l in
    let value : HasValue (v a) = p.0 in
    ((value.0, sym (p.1) ∙ value.1), sym (p.1))
linked_alike R test v w exact is all (over a b c l m) =
    let p = linked_alike R test v w exact is all l in
    let q = linked_alike R test v w exact is all m in
    (p.0, p.1 ∙ q.1)

row_matches : {C V : Type 0} (R : Rules C V) (test : Numbering C) (v : Answers V) (w : World) (i : ℕ) (row : List Demand) → AreExact R.tests
    → IsWorldOf R test v w → StandsFor R test i row → AllHold w row → Matches R v i
row_matches {C} R test v w i row exact is stands all = record {
  wants = λ s k e. want s k e;
  equals = λ a b j ne. linked_alike R test v w exact is all (stands.joins a b j ne);
} where
  want : (s : ℕ) (k : Want C) → R.at i s ≡ Some k → Meets R k (v s)
  want s (has c) e =
      let t = stands.wants s c e in
      got_by_number R test c (t.0) (v s) (t.1) (sym (is (passes s (t.0))) ∙ all_member w row (passes s (t.0)) all (t.2))
  want s one_value e = absurd (stands.single s e)

matches_row : {C V : Type 0} (R : Rules C V) (test : Numbering C) (v : Answers V) (w : World) (i : ℕ) (row : List Demand) → AreExact R.tests
    → IsWorldOf R test v w → StandsFor R test i row → Matches R v i → AllHold w row
matches_row R test v w i row exact is stands matches = all_from w row each where
  each : (d : Demand) → Contains row d → w.holds d ≡ true
  each (Passes s t) m =
      let c = stands.wanted s.0 t.0 m in
      is (Passes s t) ∙ passes_by_number R test (c.0) t.0 (v s.0) (c.1) (matches.wants s.0 (has (c.0)) (c.2))
  each (Same a b) m =
      let j = stands.joined a.0 b.0 m in
      let e = matches.equals a.0 b.0 (j.0) (j.1) in
      is (Same a b) ∙ values_alike R (v a.0) (v b.0) exact (e.0) (e.1)

-- ---- the theorems

-- some rule matches, whatever is answered
pub some_matches : {C V : Type 0} → CoveredRulesMatch C V
some_matches R left test sites rows v exact both shows covers rs ka typed one =
    let w : World = world_of R test v shows.apart in
    let is : IsWorldOf R test v w = is_world_of R test v shows.apart in
    let found = some_rule w rows (covers w (all_fit R test sites v w left rows exact both is typed one rs ka shows.from_rules)) in
    let rule = shows.from_rules (found.0) (found.1) in
    (rule.0, rule.1, row_matches R test v w (rule.0) (found.0) exact is (rule.2) (found.2))

-- where the facts are so no rule matches
pub none_matches : {C V : Type 0} → MissingRulesFail C V
none_matches R left test rows facts v w exact shows misses is so i m matches =
    let row = shows.to_rules i m in
    misses w so (rule_some w rows (row.0) (row.1) (matches_row R test v w i (row.0) exact is (row.2) matches))

-- a walk under some answers never comes to the end without a return
pub covered_walks : {C V : Type 0} (R : Rules C V) (left : List ℕ) (T : Steps C) (test : Numbering C) (sites : Sites) (rows : List (List Demand))
    (r v : Answers V)
    → IsTreeOf R left T → Shows R test left rows → ((w : World) → AllFit w sites rows → SomeMatches w rows) → Respects R r → Agree r v → Respects R v
    → KnowsAsked R v → IsStrict R v → AreTyped R test sites v → AreSingle R test sites → walk R r T ≢ ends
covered_walks R left T test sites rows r v tree shows covers rr agree rs ka strict typed one e =
    let sure : IsSure R v left (walk R r T) = whole_sure R left T r v tree rr agree ka strict in
    let none : NoneMatches R v left = subst (λ o. IsSure R v left o) e sure in
    let some = some_matches R left test sites rows v (tree.made.exact) (tree.made.both) shows covers rs ka typed one in
    none (some.0) (some.1) (some.2)

ends_where_none : {C V : Type 0} (R : Rules C V) (v : Answers V) (left : List ℕ) (o : Outcome) → IsRight R v left o → NoneMatches R v left → o ≡ ends
ends_where_none R v left (chooses i b e) right none = absurd (none i (right.0) (right.1))
ends_where_none R v left ends right none = refl
ends_where_none R v left (waits s) right none = absurd right
ends_where_none R v left stops right none = absurd right

-- where the facts are so no rule matches, and the walk comes to the end without a return
pub missing_walks : {C V : Type 0} (R : Rules C V) (left : List ℕ) (T : Steps C) (test : Numbering C)
    (rows : List (List Demand)) (facts : List Fact) (v : Answers V)
    (w : World) → IsTreeOf R left T → Shows R test left rows → ((w : World) → AreSo w facts → SomeMatches w rows → ⊥) → Respects R v → KnowsAsked R v
    → IsStrict R v → IsWorldOf R test v w → AreSo w facts → walk R v T ≡ ends
missing_walks R left T test rows facts v w tree shows misses rs ka strict is so =
    ends_where_none R v left (walk R v T) (whole_right R left T v tree rs ka strict)
    (none_matches R left test rows facts v w (tree.made.exact) shows misses is so)
