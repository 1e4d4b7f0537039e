-- The sample of a `multi` term meets its premises.
use Rattle.std.proofs.Common.{◌≡◌, inl, inr, ℕ, zero, suc, ◌==◌, List, [], ◌∷◌, Bool, true, false, Some, None, length, refl, sym, ◌∙◌, ap, subst, arith, eqb-true}
use Rattle.isle_trees.specs.Got.{gives}
use Rattle.isle_trees.specs.Bag.{IsMany, Tells}
use Rattle.isle_trees.specs.Builds.{key, IsAtMost, IsBest, HasNoTest, Binds, Builds}
use Rattle.isle_trees.specs.Calls.{AreFunctions}
use Rattle.isle_trees.specs.Premises.{IsWellMade}
use Rattle.isle_trees.specs.Rules.{Want, has, one_value, Source, itself, of_part}
use Rattle.isle_trees.specs.Sample.{sample_parts, sample_stands, many_at, many_made, many_value, many_sample, many_tree, many_model}
use Rattle.isle_trees.specs.Scopes.{Scope, nothing_known, emit_all, release, IsAvailable, Test, on_match, on_equal, on_loop, has_test, counts, counted}
use Rattle.isle_trees.proofs.Basics.{true_or}
use Rattle.isle_trees.proofs.Samples.{exact, lower}
use Rattle.isle_trees.proofs.Sums.{filter_none}

pub many_wants : (i s : ℕ) (w : Want Bool) → many_at i s ≡ Some w → (s ≡ 1) × (w ≡ one_value)
many_wants i zero w e = cc
many_wants i (suc zero) w e = (refl, cc)
many_wants i (suc (suc s)) w e = cc

pub many_made_at : (s : ℕ) (m : Source Bool) → many_made s ≡ Some m → (s ≡ 2) × (m ≡ record { site = 1; want = one_value })
many_made_at zero m e = cc
many_made_at (suc zero) m e = cc
many_made_at (suc (suc zero)) m e = (refl, cc)
many_made_at (suc (suc (suc s))) m e = cc

value_at : (s x : ℕ) → many_value s ≡ Some x → many_made x ≡ Some (record { site = s; want = one_value })
value_at zero x e = cc
value_at (suc zero) x e = let f : 2 ≡ x = cc in sym (ap many_made f)
value_at (suc (suc s)) x e = cc

no_test : (i j s : ℕ) (c d : Bool) → many_at i s ≡ Some (has c) → c ≡ d
no_test i j s c d e = let h : has c ≡ one_value = (many_wants i s (has c) e).1 in cc

many_well : IsWellMade many_sample
many_well = record {
  exact = exact;
  one_test = λ i j s c d x e f p q. no_test i j s c d e;
  lower = lower;
  source = λ s m e. let h = many_made_at s m e in ap sample_parts (h.0) ∙ sym (ap (λ (k : Source Bool). k.site ∷ []) (h.1));
  apart = λ i a b e. let f : false ≡ true = e in cc;
  both = λ i a b e. let f : false ≡ true = e in cc;
  listed = λ i s w e. inl ((many_wants i s w e).0);
  grouped = λ i a b e. let f : false ≡ true = e in cc;
  value_made = value_at;
  field_pure = λ s m e. refl;
  field_stands = λ s m e. ap sample_stands ((many_made_at s m e).0);
  call_stands = λ s e. let f : false ≡ true = e in cc;
}

many_even : IsMany many_sample
many_even = record {
  even = λ i j. refl;
  tested = λ i s m u e. subst (λ (k : Source Bool). many_at i k.site ≡ Some k.want) (sym ((many_made_at s m e).1)) refl;
  looped = λ i s m. elim m [ inl e ↦ ap (many_at i) e | inr b ↦ absurd b ];
  all_looped = λ i s e. inl ((many_wants i s one_value e).0);
  ascending = λ i. ((λ y m. absurd m), tt);
}

argument_there : (sc : Scope Bool) → IsAvailable many_sample sc 0
argument_there sc = IsAvailable.from_parts 0 (λ p m. absurd m) (λ m e. let f : 0 ≡ 2 = (many_made_at 0 m e).0 in absurd (omega arith))

call_there : (sc : Scope Bool) → IsAvailable many_sample sc 1
call_there sc = IsAvailable.from_parts 1 (λ p m. elim m [ inl e ↦ subst (IsAvailable many_sample sc) (sym e) (argument_there sc) | inr b ↦ absurd b ])
    (λ m e. let f : 1 ≡ 2 = (many_made_at 1 m e).0 in absurd (omega arith))

many_idle : (t : Test) (left : List ℕ) → ((i : ℕ) → has_test many_sample i t ≡ false) → length (counted many_sample t left) ≡ 0
many_idle t left h = ap length (filter_none (counts many_sample t left) left (λ i m. rw (h i) refl))

no_match : (i s : ℕ) → has_test many_sample i (on_match s) ≡ false
no_match i zero = refl
no_match i (suc zero) = refl
no_match i (suc (suc s)) = refl

other_loop : (i s : ℕ) → (s == 1) ≡ false → has_test many_sample i (on_loop s) ≡ false
other_loop i zero n = refl
other_loop i (suc zero) n = let f : true ≡ false = n in cc
other_loop i (suc (suc s)) n = refl

many_best : IsBest many_sample (0 ∷ []) nothing_known (on_loop 1)
many_best = record {
  ready = (call_there nothing_known, refl);
  useful = omega arith;
  greatest = elim [
    | on_match s ↦ λ r. inl (let z = many_idle (on_match s) (0 ∷ []) (λ i. no_match i s) in omega arith)
    | on_equal a b ↦ λ r. inl (let z = many_idle (on_equal a b) (0 ∷ []) (λ i. refl) in omega arith)
    | on_loop s ↦ λ r. elim (true_or (s == 1)) [
      | inl y ↦ let e : s ≡ 1 = eqb-true s 1 y in subst (λ (x : ℕ). IsAtMost (key many_sample (0 ∷ []) nothing_known (on_loop x))
          (key many_sample (0 ∷ []) nothing_known (on_loop 1))) (sym e)
          (inr (refl, inr (refl, inr (refl, inr (refl, omega arith)))))
      | inr n ↦ inl (let z = many_idle (on_loop s) (0 ∷ []) (λ i. other_loop i s n) in omega arith)
    ]
  ];
}

looped_over : (sc : Scope Bool) → sc.passed 1 ≡ Some one_value → HasNoTest many_sample (0 ∷ []) sc
looped_over sc p (on_match s) r = many_idle (on_match s) (0 ∷ []) (λ i. no_match i s)
looped_over sc p (on_equal a b) r = many_idle (on_equal a b) (0 ∷ []) (λ i. refl)
looped_over sc p (on_loop s) r = elim (true_or (s == 1)) [
  | inr n ↦ many_idle (on_loop s) (0 ∷ []) (λ i. other_loop i s n)
  | inl y ↦ let e : s ≡ 1 = eqb-true s 1 y in let f : Some one_value ≡ None = sym p ∙ ap sc.passed (sym e) ∙ r.1 in cc
]

many_binds : Binds many_sample (release nothing_known 1) (1 ∷ []) (1 ∷ []) (emit_all (release nothing_known 1) (0 ∷ 1 ∷ []))
many_binds = record {
  all = 0 ∷ 1 ∷ [];
  order = (refl, (λ p m. absurd m), (refl, (λ p m. elim m [ inl e ↦ rw e refl | inr b ↦ absurd b ]), tt));
  only = λ x m. elim m [
    | inl e ↦ rw e (of_part 1 0 (itself 1 (inl refl)) (inl refl))
    | inr n ↦
        elim n [ inl e ↦ rw e (itself 1 (inl refl)) | inr b ↦ absurd b ]
  ];
  ending = refl;
  bound = λ x m. elim m [ inl e ↦ rw e refl | inr b ↦ absurd b ];
  written = refl;
}

many_builds : Builds many_sample (0 ∷ []) nothing_known many_tree
many_builds = (
  1,
  refl,
  many_best,
  (
    emit_all (release nothing_known 1) (0 ∷ 1 ∷ []),
    many_binds,
    (
      looped_over _ refl,
      ((inl refl, (λ j m. elim m [ inl e ↦ inr (refl, omega arith) | inr b ↦ absurd b ])), (_, (inl (refl, (refl, refl))), refl)),
    ),
    refl,
  ),
)

pub many_built : IsWellMade many_sample × IsMany many_sample × Builds many_sample (0 ∷ []) nothing_known many_tree
many_built = (many_well, many_even, many_builds)

pub many_functions : AreFunctions many_sample (λ s xs. gives true) (λ s xs. true ∷ false ∷ []) (λ h. true)
many_functions = record {
  answers = λ s xs e. cc;
  whole = λ s xs m e. cc;
  field = λ s m c x e f p. (true, refl);
  fit = λ h s xs x ok m. refl;
}

pub many_tells : Tells many_sample many_model (λ h i. true)
many_tells = record {
  sound = λ h i e. record {
    wants = λ s w f. let k = many_wants i s w f in rw (k.0, k.1) (true, refl);
    equals = λ a b f. let g : false ≡ true = f in cc;
  };
  full = λ h i m. refl;
}
