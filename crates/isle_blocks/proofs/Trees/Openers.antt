-- Which rule opens a site: the first whose test makes it.
use Rattle.std.proofs.Common.{◌≡◌, ◌≢◌, ◌<◌, ◌≤◌, ◌&&◌, ℕ, suc, zero, inl, inr, true, false, not, is_some, Bool, List, [], ◌∷◌, Option, Some, None}
use Rattle.std.proofs.Common.{length, refl, sym, ◌∙◌, ap, subst, arith, get_or, slice_get}
use Rattle.std.proofs.lemmas.Bool.Decides.{nat_tests}
use Rattle.std.proofs.lemmas.Option.{same_Some}
use Rattle.isle_trees.specs.Rules.{has, one_value, Source, Elem}
use Rattle.isle_trees.specs.Scopes.{on_match, on_loop}
use Rattle.isle_trees.specs.Search.{HasUsers}
use Rattle.isle_trees.proofs.Basics.{true_or, none_or, and_both, not_true, clash}
use Rattle.isle_trees.proofs.Building.Lists.{place_of}
use Rattle.isle_blocks.specs.declared.binding.Binding.{Binding}
use Rattle.isle_blocks.specs.declared.binding.Binding.TheVariants as sites
use Rattle.isle_blocks.specs.declared.constraint.Constraint.{Constraint}
use Rattle.isle_blocks.specs.declared.constraint.Constraint.TheVariants as tests
use Rattle.isle_blocks.specs.declared.rule.Rule.{Rule}
use Rattle.isle_blocks.specs.Tables.{sources_of}
use Rattle.isle_blocks.specs.RuleSets.{RulesOverSites}
use Rattle.isle_blocks.specs.Rows.{numbers_of}
use Rattle.isle_blocks.specs.Inside.Trees.Builder.{AreOpeners, IsRising, is_some_test, loops_at, opens_at, opens_by, opens_site, rules_in, source_in}
use Rattle.isle_blocks.specs.Trees.View.{any_opening, first_opening, has_loop, keep, made_by, opening, opens_field, or_else, read_or}
use Rattle.isle_blocks.specs.Trees.View.{test_at, want_at, want_or}
use Rattle.isle_blocks.specs.Inside.Trees.Work.{opener_among}
use Rattle.isle_blocks.proofs.Trees.Indexed.{made_below}

-- the first test that opens a field
keep_none : (p : Constraint → Bool) (o : Option Constraint) → opens_by p o ≡ false → keep p o ≡ None
keep_none p None e = refl
keep_none p (Some c) e = rw e refl

keep_here : (p : Constraint → Bool) (o : Option Constraint) (c : Constraint) → o ≡ Some c → p c ≡ true → keep p o ≡ Some c
keep_here p o c e h = rw (e, h) refl

keep_some : (p : Constraint → Bool) (o : Option Constraint) (c : Constraint) → keep p o ≡ Some c → p c ≡ true
keep_some p None c e = cc
keep_some p (Some d) c e = elim (true_or (p d)) [
  | inl h ↦ let f : Some d ≡ Some c = rw h at e in sym (ap p (same_Some d c f)) ∙ h
  | inr h ↦ let f : None ≡ Some c = rw h at e in cc
]

opened_some : (p : Constraint → Bool) (o : Option Constraint) → opens_by p o ≡ true → (c : Constraint) × (o ≡ Some c) × (p c ≡ true)
opened_some p None e = cc
opened_some p (Some c) e = (c, refl, e)

any_opens : (kind : Option ℕ) (f : ℕ) → opens_field kind f (any_opening kind f) ≡ true
any_opens None f = grind (arith, nat_tests)
any_opens (Some k) f = grind (arith, nat_tests)

first_opens : (kind : Option ℕ) (f s : ℕ) (rules : List Rule) (c : Constraint) → first_opening kind f s rules ≡ Some c → opens_field kind f c ≡ true
first_opens kind f s [] c e = cc
first_opens kind f s (r ∷ rs) c e = elim (none_or (keep (opens_field kind f) (test_at s r))) [
  | inl h ↦ first_opens kind f s rs c (sym (ap (λ (o : Option Constraint). or_else o (first_opening kind f s rs)) h) ∙ e)
  | inr (d, h) ↦
      let g : Some d ≡ Some c = sym (ap (λ (o : Option Constraint). or_else o (first_opening kind f s rs)) h) ∙ e in
      sym (ap (opens_field kind f) (same_Some d c g)) ∙ keep_some (opens_field kind f) (test_at s r) d h
]

opening_opens : (rules : List Rule) (kind : Option ℕ) (s f : ℕ) → opens_field kind f (opening rules kind s f) ≡ true
opening_opens rules kind s f = elim (none_or (first_opening kind f s rules)) [
  | inl h ↦ rw h (any_opens kind f)
  | inr (c, h) ↦ rw h (first_opens kind f s rules c h)
]

first_here : (kind : Option ℕ) (f s : ℕ) (rules : List Rule) (i : ℕ) (rule : Rule) (c : Constraint) → slice_get rules i ≡ Some rule
    → test_at s rule ≡ Some c → opens_field kind f c ≡ true
    → ((j : ℕ) (r : Rule) → j < i → slice_get rules j ≡ Some r → opens_by (opens_field kind f) (test_at s r) ≡ false)
    → first_opening kind f s rules ≡ Some c
first_here kind f s [] i rule c e t o none = cc
first_here kind f s (r ∷ rs) zero rule c e t o none =
    let same : r ≡ rule = same_Some r rule e in
    let here : keep (opens_field kind f) (test_at s r) ≡ Some c = keep_here (opens_field kind f) (test_at s r) c (ap (test_at s) same ∙ t) o in
    ap (λ (o : Option Constraint). or_else o (first_opening kind f s rs)) here
first_here kind f s (r ∷ rs) (suc i) rule c e t o none =
    let here : keep (opens_field kind f) (test_at s r) ≡ None = keep_none (opens_field kind f) (test_at s r) (none zero r (omega arith) refl) in
    ap (λ (o : Option Constraint). or_else o (first_opening kind f s rs)) here
    ∙ first_here kind f s rs i rule c e t o (λ j q l g. none (suc j) q (omega arith) g)

-- what makes a site: a test with its field, a test of an option, a loop, or nothing
data IsMadeBy (rules : List Rule) (b : Binding) : Type 0 where
  by_field : (kind : Option ℕ) (s f : ℕ) → source_in (Some b) ≡ Some s → numbers_of (sources_of b) ≡ s ∷ []
      → made_by rules b ≡ Some (record { site = s; want = has (opening rules kind s f) })
      → ((rule : Rule) → opens_site rule b ≡ opens_by (opens_field kind f) (test_at s rule)) → IsMadeBy rules b
  by_option : (s : ℕ) → source_in (Some b) ≡ Some s → numbers_of (sources_of b) ≡ s ∷ []
      → made_by rules b ≡ Some (record { site = s; want = has tests.Some })
      → ((rule : Rule) → opens_site rule b ≡ opens_by is_some_test (test_at s rule)) → IsMadeBy rules b
  by_loop : (s : ℕ) → source_in (Some b) ≡ Some s → numbers_of (sources_of b) ≡ s ∷ []
      → made_by rules b ≡ Some (record { site = s; want = one_value })
      → ((rule : Rule) → opens_site rule b ≡ loops_at s rule) → IsMadeBy rules b
  by_none : source_in (Some b) ≡ None → made_by rules b ≡ None → IsMadeBy rules b

making : (rules : List Rule) (b : Binding) → IsMadeBy rules b
making rules (sites.ConstBool val ty) = IsMadeBy.by_none refl refl
making rules (sites.ConstInt val ty) = IsMadeBy.by_none refl refl
making rules (sites.ConstPrim val) = IsMadeBy.by_none refl refl
making rules (sites.Argument index) = IsMadeBy.by_none refl refl
making rules (sites.Extractor term parameter) = IsMadeBy.by_none refl refl
making rules (sites.Constructor term parameters instance) = IsMadeBy.by_none refl refl
making rules (sites.Iterator source) = IsMadeBy.by_loop source.0 refl refl refl (λ rule. refl)
making rules (sites.MakeVariant ty variant fields) = IsMadeBy.by_none refl refl
making rules (sites.MatchVariant source variant field) = IsMadeBy.by_field (Some variant.0) source.0 field.0 refl refl refl (λ rule. refl)
making rules (sites.MakeStruct ty fields) = IsMadeBy.by_none refl refl
making rules (sites.ExtractStruct source field) = IsMadeBy.by_field None source.0 field.0 refl refl refl (λ rule. refl)
making rules (sites.MakeSome inner) = IsMadeBy.by_none refl refl
making rules (sites.MatchSome source) = IsMadeBy.by_option source.0 refl refl refl (λ rule. refl)
making rules (sites.MatchTuple source field) = IsMadeBy.by_none refl refl

made_site : (rules : List Rule) (b : Binding) (m : Source Constraint) → made_by rules b ≡ Some m → source_in (Some b) ≡ Some m.site
made_site rules b m e = elim (making rules b) [
  | IsMadeBy.by_field kind s f src parts makes opens ↦ src ∙ ap (λ (z : Source Constraint). Some z.site) (same_Some _ m (sym makes ∙ e))
  | IsMadeBy.by_option s src parts makes opens ↦ src ∙ ap (λ (z : Source Constraint). Some z.site) (same_Some _ m (sym makes ∙ e))
  | IsMadeBy.by_loop s src parts makes opens ↦ src ∙ ap (λ (z : Source Constraint). Some z.site) (same_Some _ m (sym makes ∙ e))
  | IsMadeBy.by_none src makes ↦ let g : None ≡ Some m = sym makes ∙ e in cc
]

source_stands : (rules : List Rule) (b : Binding) (s : ℕ) → source_in (Some b) ≡ Some s → Elem s (numbers_of (sources_of b))
source_stands rules b s e =
    let P : List ℕ → Type 0 = λ l. Elem s l in
    elim (making rules b) [
      | IsMadeBy.by_field kind t f src parts makes opens ↦ subst P (sym parts) (inl (same_Some s t (sym e ∙ src)))
      | IsMadeBy.by_option t src parts makes opens ↦ subst P (sym parts) (inl (same_Some s t (sym e ∙ src)))
      | IsMadeBy.by_loop t src parts makes opens ↦ subst P (sym parts) (inl (same_Some s t (sym e ∙ src)))
      | IsMadeBy.by_none src makes ↦ let g : Some s ≡ None = sym e ∙ src in cc
    ]

-- what a rule wants of the source
wants_test : (rule : Rule) (s : ℕ) (c : Constraint) → test_at s rule ≡ Some c → want_at s rule ≡ Some (has c)
wants_test rule s c e = ap (λ (o : Option Constraint). want_or (has_loop s rule) o) e

no_test : (loops : Bool) (o : Option Constraint) → loops ≡ true → is_some o ≡ false → want_or loops o ≡ Some one_value
no_test true None e h = refl
no_test false None e h = cc
no_test loops (Some d) e h = cc

wants_value : (rule : Rule) (s : ℕ) → loops_at s rule ≡ true → want_at s rule ≡ Some one_value
wants_value rule s e =
    let both = and_both (not (is_some (test_at s rule))) (has_loop s rule) e in
    no_test (has_loop s rule) (test_at s rule) (both.1) (not_true (is_some (test_at s rule)) (both.0))

has_wanted : (loops : Bool) (o : Option Constraint) (c : Constraint) → want_or loops o ≡ Some (has c) → o ≡ Some c
has_wanted true None c e = cc
has_wanted false None c e = cc
has_wanted true (Some d) c e = let f : d ≡ c = cc in ap Some f
has_wanted false (Some d) c e = let f : d ≡ c = cc in ap Some f

value_wanted : (loops : Bool) (o : Option Constraint) → want_or loops o ≡ Some one_value → (not (is_some o) && loops) ≡ true
value_wanted true None e = refl
value_wanted false None e = cc
value_wanted true (Some d) e = cc
value_wanted false (Some d) e = cc

some_test : (c : Constraint) → is_some_test c ≡ true → c ≡ tests.Some
some_test (tests.Variant ty variant fields) e = cc
some_test (tests.Struct ty fields) e = cc
some_test (tests.ConstBool val ty) e = cc
some_test (tests.ConstInt val ty) e = cc
some_test (tests.ConstPrim val) e = cc
some_test tests.Some e = refl

module _ (set : RulesOverSites) (x : ℕ) (b : Binding) (stands : slice_get set.sites x ≡ Some b) where
  opens_is : (i : ℕ) (rule : Rule) → slice_get set.rules i ≡ Some rule → opens_at set i x ≡ opens_site rule b
  opens_is i rule there =
      ap (λ (o : Option Rule). read_or false (λ r. read_or false (opens_site r) (slice_get set.sites x)) o) there
      ∙ ap (λ (o : Option Binding). read_or false (opens_site rule) o) stands

  opening_rule : (i : ℕ) → opens_at set i x ≡ true → (rule : Rule) × (slice_get set.rules i ≡ Some rule)
  opening_rule i e = elim (none_or (slice_get set.rules i)) [
    | inl h ↦ let g : false ≡ true = rw h at e in cc
    | inr found ↦ found
  ]

  want_in : (i : ℕ) (rule : Rule) (s : ℕ) → slice_get set.rules i ≡ Some rule → (rules_in set).at i s ≡ want_at s rule
  want_in i rule s there = ap (λ (o : Option Rule). read_or None (want_at s) o) there

  -- a rule that opens the site is listed at its source
  opens_used : (users : ℕ → List ℕ) (i s : ℕ) → HasUsers (rules_in set) users → source_in (Some b) ≡ Some s
      → opens_at set i x ≡ true → Elem i (users s)
  opens_used users i s used src e =
      let (rule, there) = opening_rule i e in
      let opens = sym (opens_is i rule there) ∙ e in
      let P : ℕ → Type 0 = λ y. Elem i (users y) in
      let by_test : (p : Constraint → Bool) (t : ℕ) → opens_by p (test_at t rule) ≡ true → Elem i (users t) = λ p t h.
      let (c, test, passes) = opened_some p (test_at t rule) h in
      let wants : (rules_in set).at i t ≡ Some (has c) = want_in i rule t there ∙ wants_test rule t c test in
      used i (on_match t) (rw wants refl) in
      elim (making set.rules b) [
        | IsMadeBy.by_field kind t f own parts makes shows ↦
            subst P (same_Some t s (sym own ∙ src)) (by_test (opens_field kind f) t (sym (shows rule) ∙ opens))
        | IsMadeBy.by_option t own parts makes shows ↦
            subst P (same_Some t s (sym own ∙ src)) (by_test is_some_test t (sym (shows rule) ∙ opens))
        | IsMadeBy.by_loop t own parts makes shows ↦
            let wants : (rules_in set).at i t ≡ Some one_value = want_in i rule t there ∙ wants_value rule t (sym (shows rule) ∙ opens) in
            subst P (same_Some t s (sym own ∙ src)) (used i (on_loop t) (rw wants refl))
        | IsMadeBy.by_none own makes ↦ let g : None ≡ Some s = sym own ∙ src in cc
      ]

  -- a rule that wants what makes the site opens it
  wanted_opens : (i : ℕ) (m : Source Constraint) → made_by set.rules b ≡ Some m → (rules_in set).at i m.site ≡ Some m.want → opens_at set i x ≡ true
  wanted_opens i m made wants = elim (none_or (slice_get set.rules i)) [
    | inl h ↦ let g : None ≡ Some m.want = rw h at wants in cc
    | inr (rule, there) ↦
        let wanted : want_at m.site rule ≡ Some m.want = sym (want_in i rule m.site there) ∙ wants in
        opens_is i rule there ∙ elim (making set.rules b) [
          | IsMadeBy.by_field kind t f own parts makes shows ↦
              let same = same_Some _ m (sym makes ∙ made) in
              let P : Source Constraint → Type 0 = λ z. want_at z.site rule ≡ Some z.want in
              let has_it : test_at t rule ≡ Some (opening set.rules kind t f) = has_wanted (has_loop t rule)
              (test_at t rule) _ (subst P (sym same) wanted) in
              shows rule ∙ (ap (λ (o : Option Constraint). opens_by (opens_field kind f) o) has_it ∙ opening_opens set.rules kind t f)
          | IsMadeBy.by_option t own parts makes shows ↦
              let same = same_Some _ m (sym makes ∙ made) in
              let P : Source Constraint → Type 0 = λ z. want_at z.site rule ≡ Some z.want in
              let has_it : test_at t rule ≡ Some tests.Some = has_wanted (has_loop t rule) (test_at t rule) _ (subst P (sym same) wanted) in
              shows rule ∙ ap (λ (o : Option Constraint). opens_by is_some_test o) has_it
          | IsMadeBy.by_loop t own parts makes shows ↦
              let same = same_Some _ m (sym makes ∙ made) in
              let P : Source Constraint → Type 0 = λ z. want_at z.site rule ≡ Some z.want in
              shows rule ∙ value_wanted (has_loop t rule) (test_at t rule) (subst P (sym same) wanted)
          | IsMadeBy.by_none own makes ↦ let g : None ≡ Some m = sym makes ∙ made in cc
        ]
  ]

  -- the first rule that opens the site wants what makes it
  opens_wanted : (i : ℕ) (m : Source Constraint) → made_by set.rules b ≡ Some m → opens_at set i x ≡ true
      → ((j : ℕ) → opens_at set j x ≡ true → i ≤ j) → (rules_in set).at i m.site ≡ Some m.want
  opens_wanted i m made e least =
      let (rule, there) = opening_rule i e in
      let opens = sym (opens_is i rule there) ∙ e in
      let P : Source Constraint → Type 0 = λ z. want_at z.site rule ≡ Some z.want in
      want_in i rule m.site there ∙ elim (making set.rules b) [
        | IsMadeBy.by_field kind t f own parts makes shows ↦
            let same = same_Some _ m (sym makes ∙ made) in
            let (c, test, passes) = opened_some (opens_field kind f) (test_at t rule) (sym (shows rule) ∙ opens) in
            let first : first_opening kind f t set.rules ≡ Some c = first_here kind f t set.rules i rule c there test passes (λ j r l g.
            elim (true_or (opens_by (opens_field kind f) (test_at t r))) [
              | inl h ↦ (let low : i ≤ j = least j (opens_is j r g ∙ (shows r ∙ h)) in absurd (omega arith))
              | inr h ↦ h
            ]) in
            subst P same (wants_test rule t c test ∙ ap (λ (o : Option Constraint). Some (has (read_or (any_opening kind f) (λ y. y) o))) (sym first))
        | IsMadeBy.by_option t own parts makes shows ↦
            let same = same_Some _ m (sym makes ∙ made) in
            let (c, test, passes) = opened_some is_some_test (test_at t rule) (sym (shows rule) ∙ opens) in
            subst P same (wants_test rule t c test ∙ ap (λ (y : Constraint). Some (has y)) (some_test c passes))
        | IsMadeBy.by_loop t own parts makes shows ↦
            let same = same_Some _ m (sym makes ∙ made) in
            subst P same (wants_value rule t (sym (shows rule) ∙ opens))
        | IsMadeBy.by_none own makes ↦ let g : None ≡ Some m = sym makes ∙ made in cc
      ]

-- the first of some rules that opens a site
opener_opens : (set : RulesOverSites) (users : List ℕ) (x i : ℕ) → opener_among set users x ≡ Some i → opens_at set i x ≡ true
opener_opens set [] x i e = cc
opener_opens set (y ∷ ys) x i e = elim (true_or (opens_at set y x)) [
  | inl h ↦ let f : Some y ≡ Some i = rw h at e in ap (λ (z : ℕ). opens_at set z x) (sym (same_Some y i f)) ∙ h
  | inr h ↦ opener_opens set ys x i (rw h at e)
]

opener_none : (set : RulesOverSites) (users : List ℕ) (x i : ℕ) → opener_among set users x ≡ None → Elem i users → opens_at set i x ≡ false
opener_none set [] x i e m = absurd m
opener_none set (y ∷ ys) x i e m = elim (true_or (opens_at set y x)) [
  | inl h ↦ let f : Some y ≡ None = rw h at e in cc
  | inr h ↦ elim m [
    | inl same ↦ ap (λ (z : ℕ). opens_at set z x) same ∙ h
    | inr n ↦ opener_none set ys x i (rw h at e) n
  ]
]

opener_least : (set : RulesOverSites) (users : List ℕ) (x i j : ℕ) → IsRising users → opener_among set users x ≡ Some i → Elem j users
    → opens_at set j x ≡ true → i ≤ j
opener_least set [] x i j up e m o = absurd m
opener_least set (y ∷ ys) x i j up e m o = elim (true_or (opens_at set y x)) [
  | inl h ↦
      let f : Some y ≡ Some i = rw h at e in
      let same : y ≡ i = same_Some y i f in
      elim m [
        | inl q ↦ omega arith
        | inr n ↦
            let (k, within, is) = place_of j 0 ys n in
            let above : y ≤ get_or ys k 0 = up zero (suc k) 0 (omega arith) (omega arith) in
            omega arith
      ]
  | inr h ↦ elim m [
    | inl q ↦ clash _ o (ap (λ (z : ℕ). opens_at set z x) q ∙ h)
    | inr n ↦ opener_least set ys x i j (λ k l d before within. up (suc k) (suc l) d (omega arith) (omega arith)) (rw h at e) n o
  ]
]

-- the site whose test makes this one is a part of it
pub source_part : (set : RulesOverSites) (x s : ℕ) → source_in (slice_get set.sites x) ≡ Some s → Elem s ((rules_in set).parts x)
source_part set x s e = elim (none_or (slice_get set.sites x)) [
  | inl h ↦ let g : None ≡ Some s = sym (ap source_in h) ∙ e in cc
  | inr (b, h) ↦
      let P : Option Binding → Type 0 = λ o. Elem s (read_or [] (λ site. numbers_of (sources_of site)) o) in
      subst P (sym h) (source_stands set.rules b s (sym (ap source_in h) ∙ e))
]

-- the test that makes a site is one of its source
pub made_source : (set : RulesOverSites) (x : ℕ) (m : Source Constraint) → (rules_in set).made x ≡ Some m
    → source_in (slice_get set.sites x) ≡ Some m.site
made_source set x m e = elim (none_or (slice_get set.sites x)) [
  | inl h ↦ let g : None ≡ Some m = sym (ap (λ (o : Option Binding). read_or None (made_by set.rules) o) h) ∙ e in cc
  | inr (b, h) ↦ ap source_in h ∙ made_site set.rules b m (sym (ap (λ (o : Option Binding). read_or None (made_by set.rules) o) h) ∙ e)
]

module _ (set : RulesOverSites) (users : ℕ → List ℕ) (openers : ℕ → Option ℕ) (used : HasUsers (rules_in set) users)
    (up : (s : ℕ) → IsRising (users s))
    (each : (x : ℕ) → x < length set.sites → openers x ≡ opener_among set (read_or [] users (source_in (slice_get set.sites x))) x) where
  among : (x : ℕ) (m : Source Constraint) → (rules_in set).made x ≡ Some m → openers x ≡ opener_among set (users m.site) x
  among x m e =
      each x (made_below set x m e)
      ∙ ap (λ (o : Option ℕ). opener_among set (read_or [] users o) x) (made_source set x m e)

  first_is : (x i : ℕ) (m : Source Constraint) → (rules_in set).made x ≡ Some m → openers x ≡ Some i → (rules_in set).at i m.site ≡ Some m.want
  first_is x i m e o = elim (none_or (slice_get set.sites x)) [
    | inl h ↦ let g : None ≡ Some m = sym (ap (λ (o : Option Binding). read_or None (made_by set.rules) o) h) ∙ e in cc
    | inr (b, h) ↦
        let made : made_by set.rules b ≡ Some m = sym (ap (λ (o : Option Binding). read_or None (made_by set.rules) o) h) ∙ e in
        let src = made_site set.rules b m made in
        let found : opener_among set (users m.site) x ≡ Some i = sym (among x m e) ∙ o in
        opens_wanted set x b h i m made (opener_opens set (users m.site) x i found)
        (λ j opens. opener_least set (users m.site) x i j (up m.site) found (opens_used set x b h users j m.site used src opens) opens)
  ]

  none_is : (x i : ℕ) (m : Source Constraint) → (rules_in set).made x ≡ Some m → openers x ≡ None → (rules_in set).at i m.site ≢ Some m.want
  none_is x i m e o w = elim (none_or (slice_get set.sites x)) [
    | inl h ↦ let g : None ≡ Some m = sym (ap (λ (o : Option Binding). read_or None (made_by set.rules) o) h) ∙ e in cc
    | inr (b, h) ↦
        let made : made_by set.rules b ≡ Some m = sym (ap (λ (o : Option Binding). read_or None (made_by set.rules) o) h) ∙ e in
        let opens = wanted_opens set x b h i m made w in
        clash _ opens (opener_none set (users m.site) x i (sym (among x m e) ∙ o)
        (opens_used set x b h users i m.site used (made_site set.rules b m made) opens))
  ]

  -- the first rule among those that test the source is the first of all
  pub openers_are : AreOpeners set (length set.sites) openers
  openers_are = record { first = first_is; none = λ x i m l e o. none_is x i m e o }
