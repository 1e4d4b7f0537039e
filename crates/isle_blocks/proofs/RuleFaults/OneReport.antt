-- What is wrong with rules is told in one way.
use Rattle.std.proofs.Common.{◌≡◌, ◌<◌, ◌≤◌, ◌+◌, ◌++◌, ◌∷◌, ◌&&◌, ◌==◌, inl, inr, [], ℕ, zero, suc, Bool, true, false, cond, List, Some, map, slice_get, take, not, is_some}
use Rattle.std.proofs.Common.{refl, sym, ap, subst, ◌∙◌, arith}
use Rattle.std.specs.Prelude.{Contains}
use Rattle.std.specs.Cmp.{IsTotalOrder, IsStrictWeakOrder}
use Rattle.std.specs.List.{filter}
use Rattle.std.specs.List.Sorted.{IsSortedByKey}
use Rattle.std.specs.Option.{option_map}
use Rattle.std.specs.Ordering.{nat_cmp, is_lt, is_gt, ordering_then}
use Rattle.std.proofs.lemmas.Bool.{cases_Bool, cases_eq, cases_lt}
use Rattle.std.proofs.lemmas.Bool.Decides.{nat_tests}
use Rattle.std.proofs.lemmas.Cmp.{nat_cmp_total, on_total, then_total}
use Rattle.std.proofs.lemmas.List.Elements.{Contains-append_left}
use Rattle.std.proofs.lemmas.List.Sorted.{ranks_by, sum_by-IsPermutation}
use Rattle.std.proofs.lemmas.Option.{same_Some, none-some, slice_get_within}
use Rattle.isle_ast.specs.declared.error.Error.{Error}
use Rattle.isle_ast.specs.declared.pos.Pos.{Pos}
use Rattle.isle_containers.proofs.Lists.{from_take, within-take}
use Rattle.isle_rules.specs.TypedRules.{TypedRule}
use Rattle.isle_meaning.specs.Facts.{TermFacts}
use Rattle.isle_blocks.specs.declared.faults.Fault.{Fault}
use Rattle.isle_blocks.specs.declared.faults.Fault.TheVariants.{Overlap, Shadow}
use Rattle.isle_blocks.specs.declared.report.RulePlace.{RulePlace}
use Rattle.isle_blocks.specs.declared.report.Group.{Group}
use Rattle.isle_blocks.specs.Reports.{AreGroups, no_pairs, headed, IsGreatest, IsGroup, IsReport, error_of, is_headed_at, pairs_without, partner, partner_count}
use Rattle.isle_blocks.specs.Reports.{partners, pos_order, positions}
use Rattle.isle_blocks.specs.RuleFaults.{NeverMatches, TellUnreachable, no_rules_told, one_may_match, one_never_matches, places_from, ListsEach}
use Rattle.isle_blocks.specs.RuleFaults.{AreWithinSize, IsTooLargeAt, of_size, of_rules, unreachable_error, size_error_at, RuleErrorsAreDetermined}
use Rattle.isle_blocks.proofs.Counting.{Once}
use Rattle.isle_blocks.proofs.SameLists.{SameSums, same_sums, same_filter, same_picked, sorted_one, sorted_behind, least_first, filter_in}
use Rattle.isle_blocks.proofs.RuleFaults.SizeFaults.{to_take, within_before}

-- ---- positions and places

tied_ids : (a b c d e f : ℕ) → is_gt (ordering_then (ordering_then (nat_cmp a d) (nat_cmp b e)) (nat_cmp c f)) ≡ false
    → is_gt (ordering_then (ordering_then (nat_cmp d a) (nat_cmp e b)) (nat_cmp f c)) ≡ false → c ≡ f
tied_ids a b c d e f one other = grind (arith, nat_tests)

tied_first : (a b c d : ℕ) → is_lt (ordering_then (nat_cmp a c) (nat_cmp b d)) ≡ false
    → is_lt (ordering_then (nat_cmp c a) (nat_cmp d b)) ≡ false → a ≡ c
tied_first a b c d one other = grind (arith, nat_tests)

tied_second : (a b c d : ℕ) → is_lt (ordering_then (nat_cmp a c) (nat_cmp b d)) ≡ false
    → is_lt (ordering_then (nat_cmp c a) (nat_cmp d b)) ≡ false → b ≡ d
tied_second a b c d one other = grind (arith, nat_tests)

tie_true : (a b c d : ℕ) → is_lt (ordering_then (nat_cmp a c) (nat_cmp b d)) ≡ false
    → is_lt (ordering_then (nat_cmp c a) (nat_cmp d b)) ≡ false → (c == a) && (d == b) ≡ true
tie_true a b c d one other = grind (arith, nat_tests)

both_first : (a b c d : ℕ) → (a == c) && (b == d) ≡ true → a ≡ c
both_first a b c d e = grind (arith, nat_tests)

both_second : (a b c d : ℕ) → (a == c) && (b == d) ≡ true → b ≡ d
both_second a b c d e = grind (arith, nat_tests)

itself : (a b : ℕ) → (a == a) && (b == b) ≡ true
itself a b = grind (arith, nat_tests)

abbrev same_pos : Pos → Pos → Bool
same_pos a b = (a.file == b.file) && (a.offset == b.offset)

pos_is : (a b : Pos) → a.file ≡ b.file → a.offset ≡ b.offset → a ≡ b
pos_is a b file offset = λ i. record { file = file i; offset = offset i }

pos_total : IsTotalOrder pos_order
pos_total = then_total (on_total (λ (q : Pos). q.file) nat_cmp_total) (on_total (λ (q : Pos). q.offset) nat_cmp_total)

-- positions in order, each as often, are one list
positions_one : (one other : List Pos) → IsSortedByKey (λ (p : Pos). p) pos_order one → IsSortedByKey (λ (p : Pos). p) pos_order other
    → SameSums one other → one ≡ other
positions_one one other up also same =
    sorted_one (λ a b. is_lt (pos_order a b)) (ranks_by pos_total (λ (p : Pos). p))
    (λ a b low high. pos_is a b (tied_first a.file a.offset b.file b.offset low high) (tied_second a.file a.offset b.file b.offset low high))
    same_pos (λ a b is. pos_is a b (both_first a.file a.offset b.file b.offset is) (both_second a.file a.offset b.file b.offset is))
    (λ a. itself a.file a.offset) one other up also same

-- ---- groups

-- no two places have one number
abbrev HaveOwnNumbers : List RulePlace → Type 0
HaveOwnNumbers rules = (i j : ℕ) (one other : RulePlace) → slice_get rules i ≡ Some one → slice_get rules j ≡ Some other
    → one.id.0 ≡ other.id.0 → i ≡ j

module _ (fault : Fault) (rules : List RulePlace) (own : HaveOwnNumbers rules) where
  greatest_one : (f g : ℕ → ℕ) → ((j : ℕ) → f j ≡ g j) → (i j : ℕ) → IsGreatest rules f i → IsGreatest rules g j → i ≡ j
  greatest_one f g same i j a b =
      let up = a.most j (slice_get_within rules j b.rule b.at) in let down = b.most i (slice_get_within rules i a.rule a.at) in
      let here = same i in let there = same j in
      let one = a.last j b.rule b.at (omega arith) in let other = b.last i a.rule a.at (omega arith) in
      own i j a.rule b.rule a.at b.at
      (tied_ids a.rule.pos.file a.rule.pos.offset a.rule.id.0 b.rule.pos.file b.rule.pos.offset b.rule.id.0 other one)

  group_one : (ps qs : List (ℕ × ℕ)) (i : ℕ) (one other : Group) → SameSums ps qs → IsGroup fault rules i ps one → IsGroup fault rules i qs other
      → one ≡ other
  group_one ps qs i one other same a b =
      let place = λ (j : ℕ). option_map (λ (rule : RulePlace). rule.pos) (slice_get rules j) in
      let picked = same_picked place (partners fault i ps) (partners fault i qs) (same_picked (partner fault i) ps qs same) in
      let kinds : one.fault ≡ other.fault = a.fault_is ∙ sym b.fault_is in
      let heads : one.head ≡ other.head = same_Some one.head other.head (sym a.head_is ∙ b.head_is) in
      let others : one.others ≡ other.others = positions_one one.others other.others a.ascending b.ascending (record {
        sums = λ f. sum_by-IsPermutation f (positions rules (partners fault i ps)) one.others a.moved ∙ picked.sums f
            ∙ sym (sum_by-IsPermutation f (positions rules (partners fault i qs)) other.others b.moved);
      }) in
      λ k. record { fault = kinds k; head = heads k; others = others k }

  groups_one : (ps : List (ℕ × ℕ)) (one : List Group) → AreGroups fault rules ps one → (qs : List (ℕ × ℕ)) (other : List Group)
      → AreGroups fault rules qs other → SameSums ps qs → one ≡ other
  groups_one ps one no_pairs qs other no_pairs same = refl
  groups_one ps one no_pairs qs other (headed {pairs = pairs} {i} {group} {groups = groups} some greatest is rest) same =
      absurd (let e = same.sums (λ pair. cond (is_some (partner fault i pair)) 1 0) in omega (arith, e, some))
  groups_one ps one (headed {pairs = pairs} {i} {group} {groups = groups} some greatest is rest) qs other no_pairs same =
      absurd (let e = same.sums (λ pair. cond (is_some (partner fault i pair)) 1 0) in omega (arith, e, some))
  groups_one ps one (headed {pairs = pairs} {i} {group} {groups = groups} some greatest is rest) qs other
      (headed {pairs = found} {i = j} {group = same_group} {groups = others} more also there after) same =
      let counts = λ (k : ℕ). same.sums (λ pair. cond (is_some (partner fault k pair)) 1 0) in
      let head : i ≡ j = greatest_one (λ k. partner_count fault k pairs) (λ k. partner_count fault k found) counts i j greatest also in
      let first : group ≡ same_group = group_one pairs found i group same_group same is
      (subst (λ (k : ℕ). IsGroup fault rules k found same_group) (sym head) there) in
      let behind : groups ≡ others = groups_one (pairs_without fault i pairs) groups rest (pairs_without fault i found) others
      (subst (λ (k : ℕ). AreGroups fault rules (pairs_without fault k found) others) (sym head) after)
      (same_filter (λ pair. not (is_some (partner fault i pair))) pairs found same) in
      cc

-- ---- the order of groups

keep : {X : Type 0} (p : X → Bool) (x : X) (xs : List X) → p x ≡ true → filter p (x ∷ xs) ≡ x ∷ filter p xs
keep p x xs e = rw e refl

drop_one : {X : Type 0} (p : X → Bool) (x : X) (xs : List X) → p x ≡ false → filter p (x ∷ xs) ≡ filter p xs
drop_one p x xs e = rw e refl

here_at : (group : Group) → is_headed_at group.head.pos group ≡ true
here_at group = itself group.head.pos.file group.head.pos.offset

first_in : {X : Type 0} (x : X) (xs : List X) → Contains (x ∷ xs) x
first_in x xs = Contains-append_left (x ∷ []) xs x (0, omega arith, refl)

abbrev group_lt : Group → Group → Bool
group_lt a b = is_lt (pos_order a.head.pos b.head.pos)

group_ranks : IsStrictWeakOrder group_lt
group_ranks = ranks_by pos_total (λ (group : Group). group.head.pos)

-- groups in order that are in turn at each position are one list
sorted_groups : (one other : List Group) → IsSortedByKey (λ (group : Group). group.head.pos) pos_order one
    → IsSortedByKey (λ (group : Group). group.head.pos) pos_order other
    → ((pos : Pos) → filter (is_headed_at pos) one ≡ filter (is_headed_at pos) other) → one ≡ other
sorted_groups [] [] up also same = refl
sorted_groups [] (y ∷ ys) up also same = absurd (let e = same y.head.pos ∙ keep (is_headed_at y.head.pos) y ys (here_at y) in cc)
sorted_groups (x ∷ xs) [] up also same = absurd (let e = sym (same x.head.pos) ∙ keep (is_headed_at x.head.pos) x xs (here_at x) in cc)
sorted_groups (x ∷ xs) (y ∷ ys) up also same =
    let at_x = is_headed_at x.head.pos in let at_y = is_headed_at y.head.pos in
    let x_there : Contains (y ∷ ys) x = filter_in at_x (y ∷ ys) x
    (subst (λ (l : List Group). Contains l x) (sym (keep at_x x xs (here_at x)) ∙ same x.head.pos) (first_in x (filter at_x xs))) in
    let y_there : Contains (x ∷ xs) y = filter_in at_y (x ∷ xs) y
    (subst (λ (l : List Group). Contains l y) (sym (keep at_y y ys (here_at y)) ∙ sym (same y.head.pos)) (first_in y (filter at_y ys))) in
    let low = least_first group_lt group_ranks y ys also x x_there in let high = least_first group_lt group_ranks x xs up y y_there in
    let tie : is_headed_at x.head.pos y ≡ true = tie_true x.head.pos.file x.head.pos.offset y.head.pos.file y.head.pos.offset low high in
    let firsts : x ∷ filter at_x xs ≡ y ∷ filter at_x ys = sym (keep at_x x xs (here_at x)) ∙ same x.head.pos ∙ keep at_x y ys tie in
    let one : x ≡ y = cc in
    let behind : xs ≡ ys = sorted_groups xs ys (sorted_behind group_lt x xs up) (sorted_behind group_lt y ys also) (λ pos.
    elim (cases_Bool (is_headed_at pos x)) [
      | inl holds ↦
          let too : is_headed_at pos y ≡ true = ap (is_headed_at pos) (sym one) ∙ holds in
          let e : x ∷ filter (is_headed_at pos) xs ≡ y ∷ filter (is_headed_at pos) ys =
          sym (keep (is_headed_at pos) x xs holds) ∙ same pos ∙ keep (is_headed_at pos) y ys too in cc
      | inr fails ↦
          let too : is_headed_at pos y ≡ false = ap (is_headed_at pos) (sym one) ∙ fails in
          sym (drop_one (is_headed_at pos) x xs fails) ∙ same pos ∙ drop_one (is_headed_at pos) y ys too
    ]) in
    cc

-- ---- reports

reports_one : (rules : List RulePlace) → HaveOwnNumbers rules → (overlaps shadows also too : List (ℕ × ℕ)) (one other : List Error)
    → SameSums overlaps also → SameSums shadows too → IsReport rules overlaps shadows one → IsReport rules also too other → one ≡ other
reports_one rules own overlaps shadows also too one other same_overlaps same_shadows a b =
    let overlapping : a.overlapping ≡ b.overlapping =
    groups_one Overlap rules own overlaps a.overlapping a.overlapping_are also b.overlapping b.overlapping_are same_overlaps in
    let shadowing : a.shadowing ≡ b.shadowing =
    groups_one Shadow rules own shadows a.shadowing a.shadowing_are too b.shadowing b.shadowing_are same_shadows in
    let sorted : a.sorted ≡ b.sorted = sorted_groups a.sorted b.sorted a.ascending b.ascending (λ pos.
    a.in_turn pos ∙ ap (λ (l : List Group). filter (is_headed_at pos) l ++ filter (is_headed_at pos) a.shadowing) overlapping
    ∙ ap (λ (l : List Group). filter (is_headed_at pos) b.overlapping ++ filter (is_headed_at pos) l) shadowing ∙ sym (b.in_turn pos)) in
    a.errors_are ∙ ap (map error_of) sorted ∙ sym b.errors_are

once_of : {P : ℕ → ℕ → Type 0} (pairs : List (ℕ × ℕ)) → ListsEach P pairs → Once pairs
once_of pairs lists = λ i j x e f. lists.once x i j e f

-- lists of the same pairs
pairs_one : {P : ℕ → ℕ → Type 0} (one other : List (ℕ × ℕ)) → ListsEach P one → ListsEach P other → SameSums one other
pairs_one one other a b =
    same_sums one other (once_of one a) (once_of other b) (λ x among. (b.all x.0 x.1).1 ((a.all x.0 x.1).0 among))
    (λ x among. (a.all x.0 x.1).1 ((b.all x.0 x.1).0 among))

numbered_from : (n : ℕ) (rules : List TypedRule) (i : ℕ) (place : RulePlace) → slice_get (places_from n rules) i ≡ Some place → place.id.0 ≡ n + i
numbered_from n [] i place at = absurd (none-some place at)
numbered_from n (rule ∷ rules) zero place at =
    let same = same_Some (record { pos = rule.pos; id = record { 0 = n } }) place at in
    let number : n ≡ place.id.0 = ap (λ (p : RulePlace). p.id.0) same in omega arith
numbered_from n (rule ∷ rules) (suc i) place at = let rest = numbered_from (suc n) rules i place at in omega arith

own_numbers : (rules : List TypedRule) → HaveOwnNumbers (places_from 0 rules)
own_numbers rules i j one other at there same =
    let a = numbered_from 0 rules i one at in let b = numbered_from 0 rules j other there in omega arith

-- ---- rules that never match

last_same : {X : Type 0} (xs ys : List X) (x y : X) → xs ++ x ∷ [] ≡ ys ++ y ∷ [] → (xs ≡ ys) × (x ≡ y)
last_same [] [] x y e = (refl, cc)
last_same [] (b ∷ []) x y e = absurd cc
last_same [] (b ∷ (c ∷ ys)) x y e = absurd cc
last_same (a ∷ []) [] x y e = absurd cc
last_same (a ∷ (c ∷ xs)) [] x y e = absurd cc
last_same (a ∷ xs) (b ∷ ys) x y e =
    let first : a ≡ b = cc in let behind : xs ++ x ∷ [] ≡ ys ++ y ∷ [] = cc in
    let (rest, last) = last_same xs ys x y behind in (cc, last)

no_last : {X : Type 0} (xs : List X) (x : X) → [] ≡ xs ++ x ∷ [] → ⊥
no_last [] x e = absurd cc
no_last (y ∷ xs) x e = absurd cc

told_one : (facts : TermFacts) (rules : List TypedRule) (one : List Error) → TellUnreachable facts rules one → (others : List TypedRule)
    (other : List Error) → TellUnreachable facts others other → rules ≡ others → one ≡ other
told_one facts rules one no_rules_told others other no_rules_told same = refl
told_one facts rules one no_rules_told others other (one_may_match {rules = before} rule may told) same = absurd (no_last before rule same)
told_one facts rules one no_rules_told others other (one_never_matches {rules = before} rule never told) same = absurd (no_last before rule same)
told_one facts rules one (one_may_match {rules = before} rule may told) others other no_rules_told same = absurd (no_last before rule (sym same))
told_one facts rules one (one_never_matches {rules = before} rule never told) others other no_rules_told same =
    absurd (no_last before rule (sym same))
told_one facts rules one (one_may_match {rules = before} {errors = early} rule may told) others other
    (one_may_match {rules = after} {errors = late} last also too) same =
    told_one facts before early told after late too (last_same before after rule last same).0
told_one facts rules one (one_may_match {rules = before} rule may told) others other (one_never_matches {rules = after} last never too) same =
    absurd (may (subst (λ (r : TypedRule). NeverMatches facts r) (sym (last_same before after rule last same).1) never))
told_one facts rules one (one_never_matches {rules = before} rule never told) others other (one_may_match {rules = after} last may too) same =
    absurd (may (subst (λ (r : TypedRule). NeverMatches facts r) (last_same before after rule last same).1 never))
told_one facts rules one (one_never_matches {rules = before} {errors = early} rule never told) others other
    (one_never_matches {rules = after} {errors = late} last also too) same =
    let (rest, here) = last_same before after rule last same in
    let first : early ≡ late = told_one facts before early told after late too rest in
    let pos : rule.pos ≡ last.pos = ap (λ (r : TypedRule). r.pos) here in
    ap (λ (l : List Error). l ++ unreachable_error rule.pos ∷ []) first ∙ ap (λ (p : Pos). late ++ unreachable_error p ∷ []) pos

-- ---- too large

module _ (facts : TermFacts) (rules : List TypedRule) where
  -- within the size up to a place, within it before
  within_shorter : (term low high : ℕ) → low ≤ high → AreWithinSize facts (take high rules) term → AreWithinSize facts (take low rules) term
  within_shorter term low high less within = record {
    alone = λ i rule at of_term. within.alone i rule
        (to_take rules high i rule (let inside = within-take rules low i rule at in omega arith) (from_take rules low i rule at)) of_term;
    together = record {
      table = within.together.table;
      few = within.together.few;
      stand = λ i reached. within.together.stand i (record {
        rule = reached.rule;
        at = to_take rules high i reached.rule (let inside = within-take rules low i reached.rule reached.at in omega arith)
            (from_take rules low i reached.rule reached.at);
        of_term = reached.of_term;
        may = reached.may;
      });
    };
  }

  -- one that is too large is no later than another
  no_later : (p q : Pos) (a : IsTooLargeAt facts rules p) (b : IsTooLargeAt facts rules q) → a.rule.root ≡ b.rule.root → a.place < b.place → ⊥
  no_later p q a b term less =
      a.too_large (subst (λ (t : ℕ). AreWithinSize facts (take (suc a.place) rules) t) (sym term)
      (within_shorter b.rule.root (suc a.place) b.place (omega arith) b.before))

  pub large_one : (p q : Pos) → IsTooLargeAt facts rules p → IsTooLargeAt facts rules q → p ≡ q
  large_one p q a b = elim (cases_lt a.rule.root b.rule.root) [
    | inl less ↦ absurd (a.too_large (within_before facts rules a.rule.root (suc a.place) (b.lesser a.rule.root less)))
    | inr more ↦ elim (cases_eq a.rule.root b.rule.root) [
      | inr other ↦ absurd (b.too_large (within_before facts rules b.rule.root (suc b.place) (a.lesser b.rule.root (omega arith))))
      | inl term ↦ elim (cases_eq a.place b.place) [
        | inl same ↦
            let there : slice_get rules a.place ≡ Some b.rule = subst (λ (n : ℕ). slice_get rules n ≡ Some b.rule) (sym same) b.at in
            let one : a.rule ≡ b.rule = same_Some a.rule b.rule (sym a.at ∙ there) in
            a.here ∙ ap (λ (r : TypedRule). r.pos) one ∙ sym b.here
        | inr apart ↦ elim (cases_lt a.place b.place) [
          | inl early ↦ absurd (no_later p q a b term early)
          | inr late ↦ absurd (no_later q p b a (sym term) (omega arith))
        ]
      ]
    ]
  ]

  -- and is none where all are within the size
  pub none_large : (p : Pos) → IsTooLargeAt facts rules p → ((term : ℕ) → AreWithinSize facts rules term) → ⊥
  none_large p a within = a.too_large (within_before facts rules a.rule.root (suc a.place) (within a.rule.root))

pub rule_errors_are_determined : RuleErrorsAreDetermined
rule_errors_are_determined facts rules one other (of_size p alone large) (of_size q also too) =
    alone ∙ ap (λ (pos : Pos). size_error_at pos ∷ []) (large_one facts rules p q large too) ∙ sym also
rule_errors_are_determined facts rules one other (of_size p alone large) (of_rules unreachable between within told rivals joined some) =
    absurd (none_large facts rules p large within)
rule_errors_are_determined facts rules one other (of_rules unreachable between within told rivals joined some) (of_size q also too) =
    absurd (none_large facts rules q too within)
rule_errors_are_determined facts rules one other (of_rules unreachable between within told rivals joined some)
    (of_rules also too inside tells rival is any) =
    let first : unreachable ≡ also = told_one facts rules unreachable told rules also tells refl in
    let second : between ≡ too = reports_one (places_from 0 rules) (own_numbers rules) rivals.overlaps rivals.shadows
    rival.overlaps rival.shadows between too
    (pairs_one rivals.overlaps rival.overlaps rivals.overlaps_are rival.overlaps_are)
    (pairs_one rivals.shadows rival.shadows rivals.shadows_are rival.shadows_are) rivals.report rival.report in
    joined ∙ ap (λ (l : List Error). l ++ between) first ∙ ap (λ (l : List Error). also ++ l) second ∙ sym is
