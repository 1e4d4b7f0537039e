-- How many steps a term's tree takes at most: as many as its rule set says.
use Rattle.std.proofs.Common.{◌≡◌, ◌<◌, ◌≤◌, ◌+◌, ◌++◌, ◌||◌, ℕ, zero, suc, Bool, true, false, List, [], ◌∷◌, Option, Some, length, map, take, take_all, get_or, slice_get, sum_by, arith, refl, sym, ap, ◌∙◌}
use Rattle.std.specs.List.{list_any}
use Rattle.std.specs.Map.{keys_of}
use Rattle.std.proofs.lemmas.Cmp.{nat_eq_equiv}
use Rattle.std.proofs.lemmas.List.{length-append, length-map}
use Rattle.std.proofs.lemmas.List.Concat.{length-flat_map}
use Rattle.std.proofs.lemmas.List.Sums.{sum_by-append, sum_by-cons, sum_by_more}
use Rattle.std.proofs.lemmas.Option.{slice_get-get_or}
use Rattle.isle_types.specs.declared.ids.Sym.{Sym}
use Rattle.isle_containers.specs.JoinedSets.{members}
use Rattle.isle_trees.specs.Counting.{steps_at_most, total_constraints}
use Rattle.isle_trees.specs.Rules.{below}
use Rattle.isle_blocks.specs.declared.ids.BindingId.{BindingId}
use Rattle.isle_blocks.specs.declared.rule.Rule.{Rule}
use Rattle.isle_blocks.specs.ClosedRules.{same_site}
use Rattle.isle_blocks.specs.Rows.{numbers_of}
use Rattle.isle_blocks.specs.RuleSets.{RulesOverSites}
use Rattle.isle_blocks.specs.Trees.Promises.{all_rules}
use Rattle.isle_blocks.specs.Trees.TermTrees.{rule_steps, set_steps}
use Rattle.isle_blocks.specs.Trees.View.{has_loop, id_of, read_or, rules_of}

-- the sum over the places of a list is that over its items
sums_same : {X : Type 0} (f : ℕ → ℕ) (g : X → ℕ) (xs : List X) → ((i : ℕ) (x : X) → slice_get xs i ≡ Some x → f i ≡ g x) → (d : X) (n : ℕ)
    → n ≤ length xs → sum_by f (below n) ≡ sum_by g (take n xs)
sums_same f g xs same d zero low = refl
sums_same f g xs same d (suc n) low =
    let inside : n < length xs = omega (arith, low) in
    let before : n ≤ length xs = omega (arith, low) in
    let alone : f n + 0 ≡ f n = omega arith in
    let one : sum_by f (n ∷ []) ≡ g (get_or xs n d) = sum_by-cons f n [] ∙ alone ∙ same n (get_or xs n d) (slice_get-get_or xs n d inside) in
    let rest = sums_same f g xs same d n before in
    let next : n + 1 ≡ suc n = omega arith in
    sum_by-append f (below n) (n ∷ []) ∙ (λ i. rest i + one i) ∙ sym (sum_by_more g xs n d inside) ∙ ap (λ (m : ℕ). sum_by g (take m xs)) next

-- classes have the members of their sets
classes_counted : (sets : List (List BindingId)) → sum_by length (map numbers_of sets) ≡ length (members sets)
classes_counted sets = each sets ∙ sym (length-flat_map (λ (set : List BindingId). set) sets)
  where
    each : (sets : List (List BindingId)) → sum_by length (map numbers_of sets) ≡ sum_by (λ (set : List BindingId). length set) sets
    each [] = refl
    each (s ∷ sets) =
        let one : length (numbers_of s) ≡ length s = length-map s (λ (id : BindingId). id.0) in
        let rest = each sets in
        sum_by-cons length (numbers_of s) (map numbers_of sets) ∙ (λ i. one i + rest i) ∙ sym
        (sum_by-cons (λ (set : List BindingId). length set) s sets)

-- a rule that has no multi call has no site of one
no_iterators : (r : Rule) → ((s : ℕ) → has_loop s r ≡ false) → r.iterators ≡ []
no_iterators r none = by r.iterators refl
  where
    by : (its : List BindingId) → r.iterators ≡ its → its ≡ []
    by [] e = refl
    by (x ∷ xs) e =
        let here : same_site (id_of x.0) x ≡ true = nat_eq_equiv.refl x.0 in
        let f : has_loop x.0 r ≡ true = ap (list_any (same_site (id_of x.0))) e ∙ ap (λ (b : Bool). b || list_any (same_site (id_of x.0)) xs) here in
        absurd (let q : false ≡ true = sym (none x.0) ∙ f in cc)

module _ (name : Sym → List ℕ) (set : RulesOverSites) where
  -- a rule's constraints and sites made equal, and one
  rule_counted : (i : ℕ) (r : Rule) → slice_get set.rules i ≡ Some r → r.iterators ≡ [] → total_constraints (rules_of name set) i + 1 ≡ rule_steps r
  rule_counted i r at none =
      let keys = numbers_of (keys_of r.constraints) in
      let listed : (rules_of name set).demands i ≡ keys ++ [] =
      ap (λ (o : Option Rule). read_or [] (λ (rule : Rule). numbers_of (keys_of rule.constraints) ++ numbers_of rule.iterators) o) at
      ∙ ap (λ (l : List BindingId). numbers_of (keys_of r.constraints) ++ numbers_of l) none in
      let alone : length keys + 0 ≡ length keys = omega arith in
      let demands : length ((rules_of name set).demands i) ≡ length r.constraints = ap length listed ∙ length-append keys [] ∙ alone
      ∙ length-map (keys_of r.constraints) (λ (id : BindingId). id.0) ∙ length-map r.constraints _ in
      let classes : sum_by length ((rules_of name set).classes i) ≡ length (members r.equals) =
      ap (λ (o : Option Rule). sum_by length (read_or [] (λ (rule : Rule). map numbers_of rule.equals) o)) at ∙ classes_counted r.equals in
      (λ i. (demands i + classes i) + 1)

  -- So a set of rules without multi calls takes as many steps at most as it says.
  pub steps_counted : ((i : ℕ) (r : Rule) → slice_get set.rules i ≡ Some r → (s : ℕ) → has_loop s r ≡ false)
      → steps_at_most (rules_of name set) (all_rules set) ≡ set_steps set
  steps_counted none = by set.rules refl
    where
      by : (rules : List Rule) → set.rules ≡ rules → steps_at_most (rules_of name set) (all_rules set) ≡ set_steps set
      by [] e = ap (λ (l : List Rule). sum_by (λ i. total_constraints (rules_of name set) i + 1) (below (length l))) e ∙ sym
          (ap (sum_by rule_steps) e)
      by (first ∷ others) e =
          let all : take (length set.rules) set.rules ≡ set.rules = take_all (length set.rules) set.rules
          (let z : length set.rules ≤ length set.rules = omega arith in z) in
          sums_same (λ i. total_constraints (rules_of name set) i + 1) rule_steps set.rules
          (λ i r at. rule_counted i r at (no_iterators r (none i r at))) first (length set.rules)
          (let z : length set.rules ≤ length set.rules = omega arith in z)
          ∙ ap (sum_by rule_steps) all
