-- The samples are sets that trees are built from.
use Rattle.std.proofs.Common.{◌≡◌, inl, inr, ℕ, zero, suc, ◌<◌, List, [], ◌∷◌, Bool, true, false, refl, sym, ap, subst, arith}
use Rattle.isle_trees.specs.Ranking.{AreWithin}
use Rattle.isle_trees.specs.Rules.{has, one_value, Source, Elem}
use Rattle.isle_trees.specs.Sample.{bool_at_most, sample_parts, sample, sample_result, many_sample}
use Rattle.isle_trees.specs.Scopes.{Test, on_match, on_equal, on_loop, has_test}
use Rattle.isle_trees.specs.Search.{IsBuildable}
use Rattle.isle_trees.proofs.Basics.{test_of, one_of}
use Rattle.isle_trees.proofs.ManySample.{many_wants, many_made_at}
use Rattle.isle_trees.proofs.Samples.{exact, lower, wants_at, made_at}

at_most_self : (c : Bool) → bool_at_most c c ≡ true
at_most_self true = refl
at_most_self false = refl

at_most_chain : (c d e : Bool) → bool_at_most c d ≡ true → bool_at_most d e ≡ true → bool_at_most c e ≡ true
at_most_chain true true e p q = q
at_most_chain true false e p q = cc
at_most_chain false d e p q = refl

at_most_both : (c d : Bool) → bool_at_most c d ≡ true → bool_at_most d c ≡ true → c ≡ d
at_most_both true true p q = refl
at_most_both true false p q = cc
at_most_both false true p q = cc
at_most_both false false p q = refl

at_most_either : (c d : Bool) → bool_at_most c d ≡ false → bool_at_most d c ≡ true
at_most_either true true p = cc
at_most_either true false p = refl
at_most_either false d p = cc

sample_within : (i : ℕ) (t : Test) → has_test sample i t ≡ true → AreWithin t 3
sample_within i (on_match s) e = let k = test_of (sample.at i s) e in let h : s ≡ 1 = (wants_at i s (has (k.0)) (k.1)).1 in omega arith
sample_within i (on_loop s) e = let h : s ≡ 1 = (wants_at i s one_value (one_of (sample.at i s) e)).1 in omega arith
sample_within i (on_equal a b) e = cc

result_low : (i : ℕ) → sample_result i < 3
result_low zero = omega arith
result_low (suc i) = omega arith

pub sample_buildable : IsBuildable sample 3 (0 ∷ 1 ∷ [])
sample_buildable = record {
  same = exact.same;
  same_self = exact.same_self;
  least_self = at_most_self;
  least_chain = at_most_chain;
  least_both = at_most_both;
  least_either = at_most_either;
  lower = lower;
  source = λ s m e. let h = made_at s m e in let P : List ℕ → Type 0 = λ l. Elem m.site l in
      subst P (sym (ap sample_parts (h.0))) (inl (ap (λ (k : Source Bool). k.site) (h.1)));
  both = λ i a b e. let f : false ≡ true = e in cc;
  listed = λ i s w e. let h = wants_at i s w e in rw (h.0) (inl (h.1));
  grouped = λ i a b e. let f : false ≡ true = e in cc;
  within = sample_within;
  rights = λ i x m n. elim n [ inl e ↦ let l = result_low i in omega arith | inr b ↦ absurd b ];
  values = λ i s e. let f : one_value ≡ has true = (wants_at i s one_value e).2 in cc;
}

many_within : (i : ℕ) (t : Test) → has_test many_sample i t ≡ true → AreWithin t 3
many_within i (on_match s) e = let k = test_of (many_sample.at i s) e in let h : s ≡ 1 = (many_wants i s (has (k.0)) (k.1)).0 in omega arith
many_within i (on_loop s) e = let h : s ≡ 1 = (many_wants i s one_value (one_of (many_sample.at i s) e)).0 in omega arith
many_within i (on_equal a b) e = cc

pub many_buildable : IsBuildable many_sample 3 (0 ∷ [])
many_buildable = record {
  same = exact.same;
  same_self = exact.same_self;
  least_self = at_most_self;
  least_chain = at_most_chain;
  least_both = at_most_both;
  least_either = at_most_either;
  lower = lower;
  source = λ s m e. let h = many_made_at s m e in let P : List ℕ → Type 0 = λ l. Elem m.site l in
      subst P (sym (ap sample_parts (h.0))) (inl (ap (λ (k : Source Bool). k.site) (h.1)));
  both = λ i a b e. let f : false ≡ true = e in cc;
  listed = λ i s w e. inl ((many_wants i s w e).0);
  grouped = λ i a b e. let f : false ≡ true = e in cc;
  within = many_within;
  rights = λ i x m n. elim n [ inl e ↦ omega arith | inr b ↦ absurd b ];
  values = λ i s e. (2, ap many_sample.value ((many_wants i s one_value e).0));
}
