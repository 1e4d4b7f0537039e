-- The sites that representatives represent, when two classes are joined.
use Rattle.std.proofs.Common.{◌≡◌, ◌≢◌, ◌<◌, ◌+◌, ◌++◌, ◌⊎◌, ◌∷◌, inl, inr, ℕ, zero, suc, List, [], length, set, get_or, sym, ◌∙◌, ap, subst, arith}
use Rattle.std.specs.Prelude.{Contains}
use Rattle.std.proofs.lemmas.List.{get_or-set_same, get_or-set_other, get_or_default, length-set}
use Rattle.std.proofs.lemmas.List.Elements.{Contains-get_or, Contains-append_left, Contains-append_right, Contains-append_cases}
use Rattle.std.proofs.lemmas.Bool.{cases_eq, cases_lt}
use Rattle.isle_blocks.specs.declared.binding.Binding.{Binding}
use Rattle.isle_blocks.specs.declared.constraint.Constraint.{Constraint}
use Rattle.isle_blocks.specs.Tables.{IsTable}
use Rattle.isle_blocks.specs.Inside.ClosureStates.{AreMembers, ListMembers, IsJoined, IsLike, IsLikeAmong}
use Rattle.isle_blocks.proofs.Closure.Likes.{member_in}

-- the first of the members have a new representative, and nothing else has changed
abbrev pub IsRelabeled : List ℕ → List ℕ → List ℕ → ℕ → ℕ → Type 0
IsRelabeled old class members keep n =
    ((k : ℕ) → k < n → get_or class (get_or members k 0) 0 ≡ keep)
    × ((a : ℕ) → (get_or class a 0 ≡ get_or old a 0) ⊎ (Contains members a × (get_or class a 0 ≡ keep)))

module _ (old class members : List ℕ) (keep i : ℕ) (i_in : i < length members) (l : get_or members i 0 < length class)
    (before : IsRelabeled old class members keep i) where
  abbrev member : ℕ
  member = get_or members i 0

  pub relabeled_done : (k : ℕ) → k < i + 1 → get_or (set class member keep) (get_or members k 0) 0 ≡ keep
  relabeled_done k low = elim (cases_eq (get_or members k 0) member) [
    | inl e ↦ ap (λ z. get_or (set class member keep) z 0) e ∙ get_or-set_same class member keep 0 l
    | inr n ↦ elim (cases_lt k i) [
      | inl less ↦ get_or-set_other class member (get_or members k 0) keep 0 n ∙ before.0 k less
      | inr more ↦ let s : k ≡ i = omega arith in absurd (n (ap (λ z. get_or members z 0) s))
    ]
  ]

  pub relabeled_same : (a : ℕ) → (get_or (set class member keep) a 0 ≡ get_or old a 0) ⊎
      (Contains members a × (get_or (set class member keep) a 0 ≡ keep))
  relabeled_same a = elim (cases_eq a member) [
    | inl e ↦ inr (
      subst (λ z. Contains members z) (sym e) (Contains-get_or members i 0 i_in),
      ap (λ z. get_or (set class member keep) z 0) e ∙ get_or-set_same class member keep 0 l,
    )
    | inr n ↦
        let o = get_or-set_other class member a keep 0 n in
        elim (before.1 a) [ inl e ↦ inl (o ∙ e) | inr (c, e) ↦ inr (c, o ∙ e) ]
  ]

pub relabeled : (old class members : List ℕ) (drop keep : ℕ) → AreMembers old drop members → IsRelabeled old class members keep (length members)
    → IsJoined old class drop keep
relabeled old class members drop keep are after a a_in = elim (cases_eq (get_or old a 0) drop) [
  | inl e ↦
      let (k, k_in, at) = are.all a a_in e in
      let is : get_or members k 0 ≡ a = get_or_default members k 0 a k_in ∙ at in
      inl (e, ap (λ z. get_or class z 0) (sym is) ∙ after.0 k k_in)
  | inr n ↦ elim (after.1 a) [
    | inl same ↦ inr (n, same)
    | inr (c, e) ↦ absurd (n (are.inside a c).1)
  ]
]

-- when two classes are joined, and their lists
module _ (class joined : List ℕ) (lists : List (List ℕ)) (drop keep : ℕ) (drop_in : drop < length class) (keep_in : keep < length class)
    (apart : drop ≢ keep)
    (same_length : length joined ≡ length class) (join : IsJoined class joined drop keep) (m : ListMembers class lists) where
  abbrev emptied : List (List ℕ)
  emptied = set lists drop []

  abbrev both : List ℕ
  both = get_or lists keep [] ++ get_or lists drop []

  abbrev after : List (List ℕ)
  after = set emptied keep both

  long : length emptied ≡ length lists
  long = length-set lists drop []

  drop_low : drop < length lists
  drop_low = let f = m.fits in omega arith

  keep_low : keep < length emptied
  keep_low = let f = m.fits in let l = long in omega arith

  at_keep : AreMembers joined keep both
  at_keep = record {
    inside = λ a h. elim (Contains-append_cases (get_or lists keep []) (get_or lists drop []) a h) [
      | inl k ↦
          let (a_in, is) = (m.each keep keep_in).inside a k in
          elim (join a a_in) [
            | inl (d, e) ↦ absurd (apart (sym d ∙ is))
            | inr (n, e) ↦ (let f = same_length in omega arith, e ∙ is)
          ]
      | inr d ↦
          let (a_in, is) = (m.each drop drop_in).inside a d in
          elim (join a a_in) [
            | inl (q, e) ↦ (let f = same_length in omega arith, e)
            | inr (n, e) ↦ absurd (n is)
          ]
    ];
    all = λ a a_in is. let f = same_length in elim (join a (omega arith)) [
      | inl (d, e) ↦ Contains-append_right (get_or lists keep []) (get_or lists drop []) a ((m.each drop drop_in).all a (omega arith) d)
      | inr (n, e) ↦ Contains-append_left (get_or lists keep []) (get_or lists drop []) a ((m.each keep keep_in).all a (omega arith) (sym e ∙ is))
    ];
  }

  at_drop : AreMembers joined drop []
  at_drop = record {
    inside = λ a (k, k_in, at). absurd (omega arith);
    all = λ a a_in is. let f = same_length in elim (join a (omega arith)) [
      | inl (d, e) ↦ absurd (apart (sym is ∙ e))
      | inr (n, e) ↦ absurd (n (sym e ∙ is))
    ];
  }

  at_other : (root : ℕ) → root < length class → root ≢ drop → root ≢ keep → AreMembers joined root (get_or lists root [])
  at_other root root_in not_drop not_keep = record {
    inside = λ a h.
        let (a_in, is) = (m.each root root_in).inside a h in
        elim (join a a_in) [
          | inl (d, e) ↦ absurd (not_drop (sym is ∙ d))
          | inr (n, e) ↦ (let f = same_length in omega arith, e ∙ is)
        ];
    all = λ a a_in is. let f = same_length in elim (join a (omega arith)) [
      | inl (d, e) ↦ absurd (not_keep (sym is ∙ e))
      | inr (n, e) ↦ (m.each root root_in).all a (omega arith) (sym e ∙ is)
    ];
  }

  pub members_joined : ListMembers joined after
  members_joined = record {
    fits = let l = length-set emptied keep both in let k = long in let f = m.fits in let s = same_length in omega arith;
    each = λ root root_in. elim (cases_eq root keep) [
      | inl e ↦ subst (λ z. AreMembers joined z (get_or after z [])) (sym e)
          (subst (λ l. AreMembers joined keep l) (sym (get_or-set_same emptied keep both [] keep_low)) at_keep)
      | inr n ↦ subst (λ l. AreMembers joined root l) (sym (get_or-set_other emptied keep root both [] n)) (elim (cases_eq root drop) [
        | inl e ↦ subst (λ z. AreMembers joined z (get_or emptied z [])) (sym e)
            (subst (λ l. AreMembers joined drop l) (sym (get_or-set_same lists drop [] [] drop_low)) at_drop)
        | inr o ↦ subst (λ l. AreMembers joined root l) (sym (get_or-set_other lists drop root [] [] o))
            (at_other root (let f = same_length in omega arith) o n)
      ])
    ];
  }

only : (root a k : ℕ) → k < 1 → get_or (root ∷ []) k a ≡ a → a ≡ root
only root a zero low at = sym at
only root a (suc k) low at = absurd (omega arith)

pub members_first : (class : List ℕ) (lists : List (List ℕ)) → length lists ≡ length class → ((a : ℕ) → a < length class → get_or class a 0 ≡ a)
    → ((a : ℕ) → a < length class → get_or lists a [] ≡ a ∷ []) → ListMembers class lists
members_first class lists fits alone each = record {
  fits = fits;
  each = λ root root_in. subst (λ l. AreMembers class root l) (sym (each root root_in)) (record {
    inside = λ a (k, k_in, at).
        let is : a ≡ root = only root a k k_in at in
        (subst (λ z. z < length class) (sym is) root_in, subst (λ z. get_or class z 0 ≡ root) (sym is) (alone root root_in));
    all = λ a a_in is. (0, omega arith, sym is ∙ alone a a_in);
  });
}

-- like fields of the sites that a representative represents
module _ (table : List Binding) (class members : List ℕ) (drop keep : ℕ) (are : AreMembers class drop members) where
  pub like_member : (test : Constraint) (f g : ℕ) → IsLikeAmong table members keep test f g → IsLike table class drop keep test f g
  like_member test f g (member, listed, like) = (member, (are.inside member listed).1, like)

  pub member_like : IsTable table → length class ≡ length table → (test : Constraint) (f g : ℕ) → IsLike table class drop keep test f g
      → IsLikeAmong table members keep test f g
  member_like ok fits test f g (member, is, like) =
      let low : member < length table = member_in table ok member keep test f g like in
      (member, are.all member (omega arith) is, like)
