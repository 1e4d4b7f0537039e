-- Lists of the terms whose rules make values by a term, as they grow.
use Rattle.std.proofs.Common.{◌≡◌, inl, inr, ℕ, List, [], ◌∷◌, ◌++◌, Some, Vec, length, set, slice_get, refl, sym, ◌∙◌, ap, subst, arith}
use Rattle.std.specs.Prelude.{Contains, All}
use Rattle.std.specs.Global.{Global}
use Rattle.std.proofs.lemmas.List.{length-set}
use Rattle.std.proofs.lemmas.List.Elements.{Contains-append_left, Contains-push, Contains-push_cases}
use Rattle.std.proofs.lemmas.Option.{same_Some}
use Rattle.isle_types.proofs.Zipped.{all_at}
use Rattle.isle_rules.specs.declared.rules.Rule.{Rule}
use Rattle.isle_rules.proofs.SetLists.{set_here, set_cases, set_keeps}
use Rattle.isle_blocks.proofs.Building.Walking.{cons_cases, cons_here, cons_there, none_there}
use Rattle.isle_program.specs.Inside.Facts.Spreading.{IsListedAt}
use Rattle.isle_program.specs.Facts.Reach.{terms_made_by}
use Rattle.isle_program.specs.Inside.Facts.Callers.{ListsMore, AreCallers}

-- a number is listed at one place
pub lists_one : (place number : ℕ) (old : List (Vec ℕ Global)) (own new : Vec ℕ Global) → slice_get old place ≡ Some own
    → new.items ≡ own.items ++ number ∷ [] → ListsMore (place ∷ []) number old (set old place new)
lists_one place number old own new at pushed = record {
  fits = length-set old place new;
  kept = λ n m (mine, there, among). elim (set_keeps old place n new mine there) [
    | inl still ↦ (mine, still, among)
    | inr (same, here) ↦
        let own_is : own ≡ mine = same_Some own mine (sym at ∙ ap (slice_get old) same ∙ there) in (
          new,
          here,
          subst (λ (l : List ℕ). Contains l m) (sym pushed)
              (Contains-append_left own.items (number ∷ []) m (subst (λ (v : Vec ℕ Global). Contains v.items m) (sym own_is) among)),
        )
  ];
  from = λ n m (mine, there, among). elim (set_cases old place n new mine there) [
    | inr was ↦ inl (mine, was, among)
    | inl (same, is) ↦
        elim (Contains-push_cases own.items number m (subst (λ (l : List ℕ). Contains l m) pushed
        (subst (λ (v : Vec ℕ Global). Contains v.items m) (sym is) among))) [
          | inl before ↦ inl (own, ap (slice_get old) (sym same) ∙ at, before)
          | inr now ↦ inr (subst (λ (k : ℕ). Contains (place ∷ []) k) same (cons_here place []), now)
        ]
  ];
  all = λ n among within. elim (cons_cases place [] n among) [
    | inl same ↦ subst (λ (k : ℕ). IsListedAt (set old place new) k number) same
        (new, set_here old place new own at, subst (λ (l : List ℕ). Contains l number) (sym pushed) (Contains-push own.items number))
    | inr never ↦ none_there n never
  ];
}

pub lists_none : (number : ℕ) (old : List (Vec ℕ Global)) → ListsMore [] number old old
lists_none number old = record { fits = refl; kept = λ n m h. h; from = λ n m h. inl h; all = λ n among within. none_there n among }

pub lists_cons : (x : ℕ) (xs : List ℕ) (number : ℕ) (a b c : List (Vec ℕ Global)) → ListsMore (x ∷ []) number a b → ListsMore xs number b c
    → ListsMore (x ∷ xs) number a c
lists_cons x xs number a b c one more = record {
  fits = more.fits ∙ one.fits;
  kept = λ n m h. more.kept n m (one.kept n m h);
  from = λ n m h. elim (more.from n m h) [
    | inl g ↦ elim (one.from n m g) [
      | inl f ↦ inl f
      | inr (among, is) ↦ elim (cons_cases x [] n among) [
        | inl e ↦ inr (subst (λ (y : ℕ). Contains (x ∷ xs) y) e (cons_here x xs), is)
        | inr never ↦ none_there n never
      ]
    ]
    | inr (among, is) ↦ inr (cons_there x xs n among, is)
  ];
  all = λ n among within. elim (cons_cases x xs n among) [
    | inl e ↦ more.kept n number (one.all n (subst (λ (y : ℕ). Contains (x ∷ []) y) e (cons_here x [])) within)
    | inr g ↦ more.all n g (let fits = one.fits in omega arith)
  ];
}

-- empty lists are those of no rules
pub callers_none : (names : List (List ℕ)) (count : ℕ) (lists : List (Vec ℕ Global)) → length lists ≡ count
    → All (λ (own : Vec ℕ Global). own.items ≡ []) lists
    → AreCallers names count [] lists
callers_none names count lists fits empty = record {
  fits = fits;
  listed = λ n m (own, at, among). none_there m (subst (λ (l : List ℕ). Contains l m)
      (all_at (λ (v : Vec ℕ Global). v.items ≡ []) lists empty n own at) among);
  all = λ n m made within. none_there made.rule made.among;
}

-- one more rule
pub callers_next : (names : List (List ℕ)) (count : ℕ) (rules : List Rule) (rule : Rule) (old new : List (Vec ℕ Global))
    → AreCallers names count rules old
    → ListsMore (terms_made_by names rule) rule.root_term.0 old new → AreCallers names count (rules ++ rule ∷ []) new
callers_next names count rules rule old new before more = record {
  fits = more.fits ∙ before.fits;
  listed = λ n m h. elim (more.from n m h) [
    | inl g ↦ let made = before.listed n m g in
        record { rule = made.rule; among = Contains-append_left rules (rule ∷ []) made.rule made.among; root = made.root; made = made.made }
    | inr (among, is) ↦ record { rule = rule; among = Contains-push rules rule; root = is; made = among }
  ];
  all = λ n m made within. elim (Contains-push_cases rules rule made.rule made.among) [
    | inl g ↦ more.kept n m (before.all n m (record { rule = made.rule; among = g; root = made.root; made = made.made }) within)
    | inr e ↦
        let here = subst (λ (r : Rule). Contains (terms_made_by names r) n) (sym e) made.made in
        let root = ap (λ (r : Rule). r.root_term.0) e ∙ made.root in
        subst (λ (k : ℕ). IsListedAt new n k) root (more.all n here (let fits = before.fits in omega arith))
  ];
}
