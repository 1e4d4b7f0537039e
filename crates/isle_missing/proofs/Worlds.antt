-- What is left of rules where a demand holds or fails, in a world.
use Rattle.std.proofs.Common.{◌≡◌, ◌⊎◌, inl, inr, ℕ, zero, suc, not, List, [], ◌∷◌, ◌++◌, Bool, true, false, cond, Contains, refl, sym, ◌∙◌, ap, subst, arith}
use Rattle.std.specs.List.{list_any}
use Rattle.std.proofs.lemmas.List.Elements.{All-contains, All-from_recursion}
use Rattle.std.specs.List.{AllByRecursion}
use Rattle.isle_missing.specs.declared.demand.Demand.{Demand}
use Rattle.isle_missing.specs.declared.facts.Fact.{Fact}
use Rattle.isle_missing.specs.Sites.{Sites, all_tests}
use Rattle.isle_missing.specs.Demands.{World, PassesOne, passes, AllHold, SomeMatches, Fits, AllFit}
use Rattle.isle_missing.specs.Inside.Rows.{same_demand, denies, is_denied, has_demand, without, where_holds, where_fails, apart_by}
use Rattle.isle_missing.specs.Facts.{AreSo}
use Rattle.isle_missing.specs.Inside.Facts.{says_failed, has_failed}
use Rattle.isle_missing.proofs.Basics.{and_both, or_holds, not_true, not_false, clash, same_is_equal, denied_fails, member_head, member_tail}

-- ---- one rule

-- a rule that asks another test of the site doesn't match
pub denied_rule : (w : World) (d : Demand) (row : List Demand) → w.holds d ≡ true → is_denied d row ≡ true → AllHold w row → ⊥
denied_rule w d [] p h all = clash false h refl
denied_rule w d (e ∷ es) p h all = elim (or_holds (denies d e) (list_any (denies d) es) h) [
  | inl here ↦ denied_fails w d e here p (all.0)
  | inr later ↦ denied_rule w d es p later (all.1)
]

-- a rule that has a demand which fails doesn't match
pub failed_rule : (w : World) (d : Demand) (row : List Demand) → w.holds d ≡ false → has_demand d row ≡ true → AllHold w row → ⊥
failed_rule w d [] p h all = clash false h refl
failed_rule w d (e ∷ es) p h all = elim (or_holds (same_demand d e) (list_any (same_demand d) es) h) [
  | inl here ↦ clash (w.holds d) (ap (λ (x : Demand). w.holds x) (same_is_equal d e here) ∙ all.0) p
  | inr later ↦ failed_rule w d es p later (all.1)
]

-- what is kept of a list, or left out because it holds
hold_all : (w : World) (b : Bool) (e : Demand) (es : List Demand) → AllHold w (cond b (e ∷ es) es) → (b ≡ false → w.holds e ≡ true)
    → AllHold w (e ∷ es)
hold_all w true e es all left_out = all
hold_all w false e es all left_out = (left_out refl, all)

hold_kept : (w : World) (b : Bool) (e : Demand) (es : List Demand) → AllHold w (e ∷ es) → AllHold w (cond b (e ∷ es) es)
hold_kept w true e es all = all
hold_kept w false e es all = all.1

fit_kept : (w : World) (sites : Sites) (b : Bool) (e : Demand) (es : List Demand) → Fits w sites (e ∷ es) → (b ≡ false → w.holds e ≡ true)
    → Fits w sites (cond b (e ∷ es) es)
fit_kept w sites true e es fit left_out = fit
fit_kept w sites false e es fit left_out = fit.1 (left_out refl)

-- the demand left out is the one that holds
left_out_holds : (w : World) (d e : Demand) → w.holds d ≡ true → not (same_demand d e) ≡ false → w.holds e ≡ true
left_out_holds w d e p h = ap (λ (x : Demand). w.holds x) (sym (same_is_equal d e (not_false (same_demand d e) h))) ∙ p

-- where a demand holds, a rule matches exactly where what is left of it does
pub without_matches : (w : World) (d : Demand) (row : List Demand) → w.holds d ≡ true → AllHold w (without d row) → AllHold w row
without_matches w d [] p all = tt
without_matches w d (e ∷ es) p all =
    let here : AllHold w (e ∷ without d es) = hold_all w (not (same_demand d e)) e (without d es) all (left_out_holds w d e p) in
    (here.0, without_matches w d es p (here.1))

pub matches_without : (w : World) (d : Demand) (row : List Demand) → AllHold w row → AllHold w (without d row)
matches_without w d [] all = tt
matches_without w d (e ∷ es) all =
    hold_kept w (not (same_demand d e)) e (without d es) (all.0, matches_without w d es (all.1))

-- and its sites have values where it comes to them
pub without_fits : (w : World) (sites : Sites) (d : Demand) (row : List Demand) → w.holds d ≡ true → Fits w sites row → Fits w sites (without d row)
without_fits w sites d [] p fit = tt
without_fits w sites d (e ∷ es) p fit =
    fit_kept w sites (not (same_demand d e)) e (without d es) (fit.0, λ h. without_fits w sites d es p (fit.1 h)) (left_out_holds w d e p)

-- ---- all rules, where a demand holds

back_at : (w : World) (b : Bool) (left row : List Demand) (lefts rows : List (List Demand)) → (AllHold w left → AllHold w row)
    → (SomeMatches w lefts → SomeMatches w rows) → SomeMatches w (cond b lefts (left ∷ lefts)) → SomeMatches w (row ∷ rows)
back_at w true left row lefts rows one others m = inr (others m)
back_at w false left row lefts rows one others (inl m) = inl (one m)
back_at w false left row lefts rows one others (inr m) = inr (others m)

pub holds_back : (w : World) (d : Demand) (rows : List (List Demand)) → w.holds d ≡ true → SomeMatches w (where_holds d rows) → SomeMatches w rows
holds_back w d [] p m = m
holds_back w d (row ∷ rows) p m =
    back_at w (is_denied d row) (without d row) row (where_holds d rows) rows (without_matches w d row p) (holds_back w d rows p) m

on_at : (w : World) (b : Bool) (left row : List Demand) (lefts : List (List Demand)) → (b ≡ true → AllHold w row → ⊥)
    → (AllHold w row → AllHold w left) → (AllHold w row ⊎ SomeMatches w lefts) → SomeMatches w (cond b lefts (left ∷ lefts))
on_at w true left row lefts out one (inl m) = absurd (out refl m)
on_at w true left row lefts out one (inr m) = m
on_at w false left row lefts out one (inl m) = inl (one m)
on_at w false left row lefts out one (inr m) = inr m

pub holds_on : (w : World) (d : Demand) (rows : List (List Demand)) → w.holds d ≡ true → SomeMatches w rows → SomeMatches w (where_holds d rows)
holds_on w d [] p m = m
holds_on w d (row ∷ rows) p (inl m) =
    on_at w (is_denied d row) (without d row) row (where_holds d rows) (λ h. denied_rule w d row p h) (matches_without w d row) (inl m)
holds_on w d (row ∷ rows) p (inr m) =
    on_at w (is_denied d row) (without d row) row (where_holds d rows) (λ h. denied_rule w d row p h) (matches_without w d row)
    (inr (holds_on w d rows p m))

fit_at : (w : World) (sites : Sites) (b : Bool) (left : List Demand) (lefts : List (List Demand)) → Fits w sites left → AllFit w sites lefts
    → AllFit w sites (cond b lefts (left ∷ lefts))
fit_at w sites true left lefts one others = others
fit_at w sites false left lefts one others = (one, others)

pub holds_fit : (w : World) (sites : Sites) (d : Demand) (rows : List (List Demand)) → w.holds d ≡ true → AllFit w sites rows
    → AllFit w sites (where_holds d rows)
holds_fit w sites d [] p fit = tt
holds_fit w sites d (row ∷ rows) p fit =
    fit_at w sites (is_denied d row) (without d row) (where_holds d rows) (without_fits w sites d row p (fit.0)) (holds_fit w sites d rows p (fit.1))

-- ---- all rules, where a demand fails

back_kept : (w : World) (b : Bool) (row : List Demand) (lefts rows : List (List Demand)) → (SomeMatches w lefts → SomeMatches w rows)
    → SomeMatches w (cond b (row ∷ lefts) lefts) → SomeMatches w (row ∷ rows)
back_kept w true row lefts rows others (inl m) = inl m
back_kept w true row lefts rows others (inr m) = inr (others m)
back_kept w false row lefts rows others m = inr (others m)

pub fails_back : (w : World) (d : Demand) (rows : List (List Demand)) → SomeMatches w (where_fails d rows) → SomeMatches w rows
fails_back w d [] m = m
fails_back w d (row ∷ rows) m = back_kept w (not (has_demand d row)) row (where_fails d rows) rows (fails_back w d rows) m

on_kept : (w : World) (b : Bool) (row : List Demand) (lefts : List (List Demand)) → (b ≡ false → AllHold w row → ⊥)
    → (AllHold w row ⊎ SomeMatches w lefts) → SomeMatches w (cond b (row ∷ lefts) lefts)
on_kept w true row lefts out m = m
on_kept w false row lefts out (inl m) = absurd (out refl m)
on_kept w false row lefts out (inr m) = m

pub fails_on : (w : World) (d : Demand) (rows : List (List Demand)) → w.holds d ≡ false → SomeMatches w rows → SomeMatches w (where_fails d rows)
fails_on w d [] p m = m
fails_on w d (row ∷ rows) p (inl m) =
    on_kept w (not (has_demand d row)) row (where_fails d rows) (λ h. failed_rule w d row p (not_false (has_demand d row) h)) (inl m)
fails_on w d (row ∷ rows) p (inr m) =
    on_kept w (not (has_demand d row)) row (where_fails d rows) (λ h. failed_rule w d row p (not_false (has_demand d row) h))
    (inr (fails_on w d rows p m))

fit_or : (w : World) (sites : Sites) (b : Bool) (row : List Demand) (lefts : List (List Demand)) → Fits w sites row → AllFit w sites lefts
    → AllFit w sites (cond b (row ∷ lefts) lefts)
fit_or w sites true row lefts one others = (one, others)
fit_or w sites false row lefts one others = others

pub fails_fit : (w : World) (sites : Sites) (d : Demand) (rows : List (List Demand)) → AllFit w sites rows → AllFit w sites (where_fails d rows)
fails_fit w sites d [] fit = tt
fails_fit w sites d (row ∷ rows) fit =
    fit_or w sites (not (has_demand d row)) row (where_fails d rows) (fit.0) (fails_fit w sites d rows (fit.1))

-- ---- rules behind others

pub some_front : (w : World) (rows more : List (List Demand)) → SomeMatches w rows → SomeMatches w (rows ++ more)
some_front w (row ∷ rows) more (inl m) = inl m
some_front w (row ∷ rows) more (inr m) = inr (some_front w rows more m)
some_front w [] more m = absurd m

pub front_some : (w : World) (rows more : List (List Demand)) → (SomeMatches w more → ⊥) → SomeMatches w (rows ++ more) → SomeMatches w rows
front_some w [] more none m = absurd (none m)
front_some w (row ∷ rows) more none (inl m) = inl m
front_some w (row ∷ rows) more none (inr m) = inr (front_some w rows more none m)

pub all_fit_append : (w : World) (sites : Sites) (rows more : List (List Demand)) → AllFit w sites rows → AllFit w sites more
    → AllFit w sites (rows ++ more)
all_fit_append w sites [] more fit others = others
all_fit_append w sites (row ∷ rows) more fit others = (fit.0, all_fit_append w sites rows more (fit.1) others)

-- ---- what two sites that aren't equal never do

pub none_apart : (w : World) (a b : ℕ) (ts : List ℕ)
    → ((t : ℕ) → Contains ts t → w.holds (passes a t) ≡ true → w.holds (passes b t) ≡ true → ⊥) → SomeMatches w (apart_by a b ts) → ⊥
none_apart w a b [] each m = m
none_apart w a b (t ∷ rest) each (inl all) = each t (member_head t rest) (all.0) (all.1.0)
none_apart w a b (t ∷ rest) each (inr m) = none_apart w a b rest (λ u n. each u (member_tail t u rest n)) m

pub apart_fit : (w : World) (sites : Sites) (a b : ℕ) (ts : List ℕ) → PassesOne w a (all_tests sites a) → PassesOne w b (all_tests sites b)
    → AllFit w sites (apart_by a b ts)
apart_fit w sites a b [] p q = tt
apart_fit w sites a b (t ∷ rest) p q = ((p, λ h. (q, λ k. tt)), apart_fit w sites a b rest p q)

-- ---- members

-- a rule of those that fit fits
pub fits_member : (w : World) (sites : Sites) (rows : List (List Demand)) (row : List Demand) → AllFit w sites rows → Contains rows row
    → Fits w sites row
fits_member w sites rows row fit m = All-contains (Fits w sites) rows row (All-from_recursion (Fits w sites) rows (each w sites rows fit)) m where
  each : (w : World) (sites : Sites) (rows : List (List Demand)) → AllFit w sites rows → AllByRecursion (Fits w sites) rows
  each w sites [] fit = tt
  each w sites (row ∷ rows) fit = (fit.0, each w sites rows (fit.1))

-- a rule that matches is one of those that do
pub member_matches : (w : World) (rows : List (List Demand)) (row : List Demand) → Contains rows row → AllHold w row → SomeMatches w rows
member_matches w [] row m all = absurd (omega (arith, m.1))
member_matches w (x ∷ xs) row (zero, below, same) all = inl (subst (AllHold w) (sym same) all)
member_matches w (x ∷ xs) row (suc k, below, same) all = inr (member_matches w xs row (k, omega arith, same) all)

-- ---- facts

pub so_push : (w : World) (facts : List Fact) (f : Fact) → AreSo w facts → w.holds f.demand ≡ f.holds → AreSo w (facts ++ f ∷ [])
so_push w [] f so h = (h, tt)
so_push w (g ∷ gs) f so h = (so.0, so_push w gs f (so.1) h)

pub so_front : (w : World) (facts more : List Fact) → AreSo w (facts ++ more) → AreSo w facts
so_front w [] more so = tt
so_front w (g ∷ gs) more so = (so.0, so_front w gs more (so.1))

pub so_last : (w : World) (facts : List Fact) (f : Fact) → AreSo w (facts ++ f ∷ []) → w.holds f.demand ≡ f.holds
so_last w [] f so = so.0
so_last w (g ∷ gs) f so = so_last w gs f (so.1)

-- a demand fails of which a fact says so
pub failed_fails : (w : World) (facts : List Fact) (d : Demand) → AreSo w facts → has_failed d facts ≡ true → w.holds d ≡ false
failed_fails w [] d so h = clash false h refl
failed_fails w (f ∷ fs) d so h = elim (or_holds (says_failed d f) (list_any (says_failed d) fs) h) [
  | inl here ↦
      let both : (not f.holds ≡ true) × (same_demand d f.demand ≡ true) = and_both (not f.holds) (same_demand d f.demand) here in
      ap (λ (x : Demand). w.holds x) (same_is_equal d f.demand (both.1)) ∙ (so.0 ∙ not_true f.holds (both.0))
  | inr later ↦ failed_fails w fs d (so.1) later
]
