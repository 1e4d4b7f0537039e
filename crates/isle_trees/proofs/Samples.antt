-- The sample meets the premises.
use Rattle.std.proofs.Common.{◌≡◌, ◌≢◌, ◌⊎◌, inl, inr, ℕ, zero, suc, ◌<◌, ◌==◌, List, [], ◌∷◌, Bool, true, false, Some, None, length, refl, sym, ◌∙◌, ap, subst, arith, eqb-true}
use Rattle.isle_trees.specs.Got.{Got, unknown, fails, gives}
use Rattle.isle_trees.specs.Answers.{HasValue, Agree}
use Rattle.isle_trees.specs.Builds.{key, IsAtMost, IsBest, HasNoTest, Binds, Builds, IsTreeOf}
use Rattle.isle_trees.specs.Choice.{IsOpen}
use Rattle.isle_trees.specs.Depths.{Completion, CallsOpen, IsProgram}
use Rattle.isle_trees.specs.Premises.{AreExact, IsWellMade, TestsItsFields, IsSingle, UsesNoMulti, Respects, IsStrict, HasItsTests}
use Rattle.isle_trees.specs.Reads.{IsListed}
use Rattle.isle_trees.specs.Rules.{Want, has, one_value, Source, Elem, Asked, Used, itself, of_part, passes_got, Meets}
use Rattle.isle_trees.specs.Sample.{truth_tests, sample_at, sample_parts, sample_made, sample_stands, sample_fields, sample, sample_tree, field_of, with_call, is_there, sample_program}
use Rattle.isle_trees.specs.Scopes.{Scope, nothing_known, emit_all, IsAvailable, Test, on_match, on_equal, on_loop, has_test, counts, counted}
use Rattle.isle_trees.proofs.Basics.{true_or}
use Rattle.isle_trees.proofs.Sums.{filter_none}

pub exact : AreExact truth_tests
exact = record {
  same = elim [ true ↦ elim [ true ↦ λ e. refl | false ↦ λ e. cc ] | false ↦ elim [ true ↦ λ e. cc | false ↦ λ e. refl ] ];
  same_self = elim [ true ↦ refl | false ↦ refl ];
  alike = elim [ true ↦ elim [ true ↦ λ e. refl | false ↦ λ e. cc ] | false ↦ elim [ true ↦ λ e. cc | false ↦ λ e. refl ] ];
  alike_self = elim [ true ↦ refl | false ↦ refl ];
}

-- only the first rule wants something, and of the call
pub wants_at : (i s : ℕ) (w : Want Bool) → sample_at i s ≡ Some w → (i ≡ 0) × (s ≡ 1) × (w ≡ has true)
wants_at zero zero w e = cc
wants_at zero (suc zero) w e = (refl, refl, cc)
wants_at zero (suc (suc s)) w e = cc
wants_at (suc i) s w e = cc

-- and only its field is made
pub made_at : (s : ℕ) (m : Source Bool) → sample_made s ≡ Some m → (s ≡ 2) × (m ≡ record { site = 1; want = has true })
made_at zero m e = cc
made_at (suc zero) m e = cc
made_at (suc (suc zero)) m e = (refl, cc)
made_at (suc (suc (suc s))) m e = cc

pub lower : (s p : ℕ) → Elem p (sample_parts s) → p < s
lower zero p m = absurd m
lower (suc zero) p (inl e) = omega arith
lower (suc zero) p (inr b) = absurd b
lower (suc (suc zero)) p (inl e) = omega arith
lower (suc (suc zero)) p (inr b) = absurd b
lower (suc (suc (suc s))) p m = absurd m

made : IsWellMade sample
made = record {
  exact = exact;
  one_test = λ i j s c d x e f p q.
      let a : has c ≡ has true = (wants_at i s (has c) e).2 in
      let b : has d ≡ has true = (wants_at j s (has d) f).2 in cc;
  lower = lower;
  source = λ s m e. let h = made_at s m e in ap sample_parts (h.0) ∙ sym (ap (λ (k : Source Bool). k.site ∷ []) (h.1));
  apart = λ i a b e. let f : false ≡ true = e in cc;
  both = λ i a b e. let f : false ≡ true = e in cc;
  listed = λ i s w e. let h = wants_at i s w e in rw (h.0) (inl (h.1));
  grouped = λ i a b e. let f : false ≡ true = e in cc;
  value_made = λ s x e. let f : None ≡ Some x = e in cc;
  field_pure = λ s m e. refl;
  field_stands = λ s m e. ap sample_stands ((made_at s m e).0);
  call_stands = λ s e. let f : false ≡ true = e in cc;
}

asked_low : (i s : ℕ) → Asked sample i s → s < 2
asked_low i _ (Asked.by_demand s w e) = let h : s ≡ 1 = (wants_at i s w e).1 in omega arith
asked_low i _ (Asked.by_class a b e) = let f : false ≡ true = e in cc
asked_low i _ (Asked.by_part s p a m) = let k : s < 2 = asked_low i s a in let l : p < s = lower s p m in omega arith

asked_none : (i s : ℕ) → Asked sample (suc i) s → ⊥
asked_none i _ (Asked.by_demand s w e) = let h : suc i ≡ 0 = (wants_at (suc i) s w e).0 in omega arith
asked_none i _ (Asked.by_class a b e) = let f : false ≡ true = e in cc
asked_none i _ (Asked.by_part s p a m) = asked_none i s a

used_low : (i s : ℕ) → Used sample (suc i) s → s < 1
used_low i _ (Used.by_asked s a) = absurd (asked_none i s a)
used_low i _ (Used.by_right s (inl e)) = omega arith
used_low i _ (Used.by_right s (inr b)) = absurd b
used_low i _ (Used.by_part_of s p u m) = let k : s < 1 = used_low i s u in let l : p < s = lower s p m in omega arith

tested : TestsItsFields sample
tested = λ i s m a e. let k : s < 2 = asked_low i s a in let h : s ≡ 2 = (made_at s m e).0 in absurd (omega arith)

single : IsSingle sample
single = record { tested = tested; pure = λ i s a. refl; first = λ i x p e. let f : false ≡ true = e in cc }

no_multi : (left : List ℕ) → UsesNoMulti sample left
no_multi left = λ i s m e. let h = wants_at i s one_value e in let f : one_value ≡ has true = h.2 in cc

argument_there : (sc : Scope Bool) → IsAvailable sample sc 0
argument_there sc = IsAvailable.from_parts 0 (λ p m. absurd m) (λ m e. let f : 0 ≡ 2 = (made_at 0 m e).0 in absurd (omega arith))

call_there : (sc : Scope Bool) → IsAvailable sample sc 1
call_there sc = IsAvailable.from_parts 1 (λ p m. elim m [ inl e ↦ subst (IsAvailable sample sc) (sym e) (argument_there sc) | inr b ↦ absurd b ])
    (λ m e. let f : 1 ≡ 2 = (made_at 1 m e).0 in absurd (omega arith))

-- another site than the call is tested by no rule
idle : (t : Test) (left : List ℕ) → ((i : ℕ) → has_test sample i t ≡ false) → length (counted sample t left) ≡ 0
idle t [] h = refl
idle t left h = ap length (filter_none (counts sample t left) left (λ i m. rw (h i) refl))

no_loops : (i s : ℕ) → has_test sample i (on_loop s) ≡ false
no_loops zero zero = refl
no_loops zero (suc zero) = refl
no_loops zero (suc (suc s)) = refl
no_loops (suc i) s = refl

elsewhere : (i s : ℕ) → (s == 1) ≡ false → has_test sample i (on_match s) ≡ false
elsewhere zero zero n = refl
elsewhere zero (suc zero) n = let f : true ≡ false = n in cc
elsewhere zero (suc (suc s)) n = refl
elsewhere (suc i) s n = refl

best : IsBest sample (0 ∷ 1 ∷ []) nothing_known (on_match 1)
best = record {
  ready = (call_there nothing_known, refl);
  useful = omega arith;
  greatest = elim [
    | on_match s ↦ λ r. elim (true_or (s == 1)) [
      | inl y ↦ let e : s ≡ 1 = eqb-true s 1 y in subst (λ (x : ℕ). IsAtMost (key sample (0 ∷ 1 ∷ []) nothing_known (on_match x))
          (key sample (0 ∷ 1 ∷ []) nothing_known (on_match 1))) (sym e)
          (inr (refl, inr (refl, inr (refl, inr (refl, omega arith)))))
      | inr n ↦ inl (let z = idle (on_match s) (0 ∷ 1 ∷ []) (λ i. elsewhere i s n) in omega arith)
    ]
    | on_equal a b ↦ λ r. inl (let z = idle (on_equal a b) (0 ∷ 1 ∷ []) (λ i. refl) in omega arith)
    | on_loop s ↦ λ r. inl (let z = idle (on_loop s) (0 ∷ 1 ∷ []) (λ i. no_loops i s) in omega arith)
  ];
}

-- past the call's test, or without its rule, no test is left
done_with : (left : List ℕ) (sc : Scope Bool) → ((sc.passed 1 ≡ Some (has true)) ⊎ ((i : ℕ) → Elem i left → i ≡ 1)) → HasNoTest sample left sc
done_with left sc h (on_equal a b) r = idle (on_equal a b) left (λ i. refl)
done_with left sc h (on_loop s) r = idle (on_loop s) left (λ i. no_loops i s)
done_with left sc h (on_match s) r = elim (true_or (s == 1)) [
  | inr n ↦ idle (on_match s) left (λ i. elsewhere i s n)
  | inl y ↦ elim h [
    | inl p ↦ let e : s ≡ 1 = eqb-true s 1 y in let f : Some (has true) ≡ None = sym p ∙ ap sc.passed (sym e) ∙ r.1 in cc
    | inr one ↦ ap length (filter_none (counts sample (on_match s) left) left (λ i m. rw (one i m) refl))
  ]
]

binds_call : Binds sample nothing_known (1 ∷ []) (1 ∷ []) (emit_all nothing_known (0 ∷ 1 ∷ []))
binds_call = record {
  all = 0 ∷ 1 ∷ [];
  order = (refl, (λ p m. absurd m), (refl, (λ p m. elim m [ inl e ↦ rw e refl | inr b ↦ absurd b ]), tt));
  only = λ x m. elim m [
    | inl e ↦ rw e (of_part 1 0 (itself 1 (inl refl)) (inl refl))
    | inr n ↦
        elim n [ inl e ↦ rw e (itself 1 (inl refl)) | inr b ↦ absurd b ]
  ];
  ending = refl;
  bound = λ x m. elim m [ inl e ↦ rw e refl | inr b ↦ absurd b ];
  written = refl;
}

only_one : (i j : ℕ) (P : Type 0) → (j ≡ i → P) → Elem j (i ∷ []) → P
only_one i j P f (inl e) = f e
only_one i j P f (inr b) = absurd b

builds : Builds sample (0 ∷ 1 ∷ []) nothing_known sample_tree
builds = (
  best,
  (
    emit_all nothing_known (0 ∷ 1 ∷ []),
    binds_call,
    (
      ((0, inl refl, refl), (λ i d m e. let h : has d ≡ has true = (wants_at i 1 (has d) e).2 in cc)),
      refl,
      (
        done_with (0 ∷ []) _ (inl refl),
        ((inl refl, (λ j m. only_one 0 j _ (λ e. inr (ap sample.prio e, omega arith)) m)), (_, (inl (refl, (refl, refl))), refl)),
      ),
      refl,
    ),
    (
      done_with (1 ∷ []) _ (inr (λ i m. only_one 1 i _ (λ e. e) m)),
      ((inl refl, (λ j m. only_one 1 j _ (λ e. inr (ap sample.prio e, omega arith)) m)), (_, (inl (refl, (refl, refl))), refl)),
    ),
  ),
)

pub sample_built : IsTreeOf sample (0 ∷ 1 ∷ []) sample_tree
sample_built = record { made = made; single = single; no_multi = no_multi (0 ∷ 1 ∷ []); builds = builds }

field_there : (g : Got Bool) → passes_got sample true g ≡ true → HasValue (field_of g)
field_there unknown p = cc
field_there fails p = cc
field_there (gives true) p = (true, refl)
field_there (gives false) p = cc

field_value : (g : Got Bool) → HasValue (field_of g) → HasValue g
field_value unknown h = let f : unknown ≡ gives (h.0) = h.1 in cc
field_value fails h = let f : fails ≡ gives (h.0) = h.1 in cc
field_value (gives x) h = (x, refl)

whole : (g : Got Bool) → g ≢ fails → (s : ℕ) → sample_made s ≡ None → with_call g s ≢ fails
whole g n zero e f = cc
whole g n (suc zero) e f = n f
whole g n (suc (suc zero)) e f = cc
whole g n (suc (suc (suc s))) e f = cc

plain : (g : Got Bool) (s : ℕ) → sample_stands s ≡ false → with_call g s ≢ unknown
plain g zero e f = cc
plain g (suc zero) e f = cc
plain g (suc (suc zero)) e f = cc
plain g (suc (suc (suc s))) e f = cc

strict : (g : Got Bool) → IsStrict sample (with_call g)
strict g zero h p m = absurd m
strict g (suc zero) h p (inl e) = rw e (true, refl)
strict g (suc zero) h p (inr b) = absurd b
strict g (suc (suc zero)) h p (inl e) = rw e (field_value g h)
strict g (suc (suc zero)) h p (inr b) = absurd b
strict g (suc (suc (suc s))) h p m = absurd m

field : (g : Got Bool) (s : ℕ) (m : Source Bool) → sample_made s ≡ Some m → Meets sample m.want (with_call g m.site) → HasValue (with_call g s)
field g s m e p =
    let h = made_at s m e in
    let q : passes_got sample true g ≡ true = subst (λ (k : Source Bool). Meets sample k.want (with_call g k.site)) (h.1) p in
    subst (λ (k : ℕ). HasValue (with_call g k)) (sym (h.0)) (field_there g q)

pub sample_answers : (g : Got Bool) → g ≢ fails → Respects sample (with_call g) × IsStrict sample (with_call g)
sample_answers g n = (record { field = field g; whole = λ s e parts. whole g n s e; plain = λ s e parts. plain g s e }, strict g)

contents : (i s : ℕ) (m : Source Bool) → Used sample i s → sample_made s ≡ Some m → (sample_at i m.site ≡ Some m.want) ⊎ (false ≡ true)
contents zero s m u e = inl (subst (λ (k : Source Bool). sample_at 0 k.site ≡ Some k.want) (sym ((made_at s m e).1)) refl)
contents (suc i) s m u e = let k : s < 1 = used_low i s u in let h : s ≡ 2 = (made_at s m e).0 in absurd (omega arith)

fields_made : (s x : ℕ) (c : Bool) → Elem (Some x) (sample_fields s c) → sample_made x ≡ Some (record { site = s; want = has c })
fields_made zero x c m = absurd m
fields_made (suc zero) x true (inl e) = let f : x ≡ 2 = cc in ap sample_made f
fields_made (suc zero) x true (inr b) = absurd b
fields_made (suc zero) x false m = absurd m
fields_made (suc (suc s)) x c m = absurd m

fields_listed : (x s : ℕ) (c : Bool) → sample_made x ≡ Some (record { site = s; want = has c }) → Elem (Some x) (sample_fields s c)
fields_listed x s c e =
    let h = made_at x _ e in
    let f : s ≡ 1 = ap (λ (k : Source Bool). k.site) (h.1) in
    let w : has c ≡ has true = ap (λ (k : Source Bool). k.want) (h.1) in
    let g : c ≡ true = cc in
    rw (f, g) (inl (ap Some (h.0)))

pub sample_reads : HasItsTests sample × IsListed sample
sample_reads = (
  record { tested = tested; contents = contents; call_whole = λ s x e. let f : None ≡ Some x = e in cc },
  record {
    fields_listed = fields_listed;
    fields_made = fields_made;
    value_listed = λ x s e. let w : one_value ≡ has true = ap (λ (k : Source Bool). k.want) ((made_at x _ e).1) in cc;
    multi_stands = λ s h. let f : None ≡ Some (h.0) = h.1 in cc;
  },
)

there_agree : (g h : Got Bool) → (g ≢ unknown → h ≢ unknown → h ≡ g) → is_there g ≢ unknown → is_there h ≢ unknown → is_there h ≡ is_there g
there_agree unknown h f a b = absurd (a refl)
there_agree g unknown f a b = absurd (b refl)
there_agree fails h f a b = ap is_there (f (λ e. cc) (λ e. b (ap is_there e)))
there_agree (gives x) h f a b = ap is_there (f (λ e. cc) (λ e. b (ap is_there e)))

field_agree : (g h : Got Bool) → (g ≢ unknown → h ≢ unknown → h ≡ g) → field_of g ≢ unknown → field_of h ≢ unknown → field_of h ≡ field_of g
field_agree unknown h f a b = absurd (a refl)
field_agree g unknown f a b = absurd (b refl)
field_agree fails h f a b = ap field_of (f (λ e. cc) (λ e. b (ap field_of e)))
field_agree (gives x) h f a b = ap field_of (f (λ e. cc) (λ e. b (ap field_of e)))

agree : (g h : Got Bool) → (g ≢ unknown → h ≢ unknown → h ≡ g) → Agree (with_call g) (with_call h)
agree g h f zero a b = refl
agree g h f (suc zero) a b = f a b
agree g h f (suc (suc zero)) a b = field_agree g h f a b
agree g h f (suc (suc (suc s))) a b = refl

there_holds : (g : Got Bool) → is_there g ≢ fails
there_holds unknown e = cc
there_holds fails e = cc
there_holds (gives x) e = cc

there_open : (g : Got Bool) → is_there g ≡ unknown → g ≡ unknown
there_open unknown e = refl
there_open fails e = cc
there_open (gives x) e = cc

-- a field of what has a value is known
field_known : (g : Got Bool) → HasValue g → field_of g ≢ unknown
field_known unknown h e = let f : unknown ≡ gives (h.0) = h.1 in cc
field_known fails h e = cc
field_known (gives true) h e = cc
field_known (gives false) h e = cc

open_call : (t : ℕ) (args : List Bool) (c : Completion Bool) (s : ℕ) → IsOpen sample (with_call (is_there (c t (true ∷ [])))) s
    → CallsOpen sample_program c t args s
open_call t args c zero op = let f : gives true ≡ unknown = op.1 in cc
open_call t args c (suc zero) op = record { called = t; values = true ∷ []; calls = refl; parts = (refl, tt); unanswered = there_open _ (op.1) }
open_call t args c (suc (suc zero)) op = absurd (field_known (is_there (c t (true ∷ []))) (op.0 1 (inl refl)) (op.1))
open_call t args c (suc (suc (suc s))) op = let f : gives true ≡ unknown = op.1 in cc

pub sample_is_program : IsProgram sample_program
sample_is_program = record {
  trees = λ t. sample_built;
  respects = λ t args c al. (sample_answers (is_there (c t (true ∷ []))) (there_holds _)).0;
  strict = λ t args c. strict (is_there (c t (true ∷ [])));
  agree = λ t args c d ag. agree (is_there (c t (true ∷ []))) (is_there (d t (true ∷ [])))
      (there_agree (c t (true ∷ [])) (d t (true ∷ [])) (ag t (true ∷ [])));
  calls = open_call;
}
