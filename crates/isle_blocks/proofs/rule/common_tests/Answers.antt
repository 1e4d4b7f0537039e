use Rattle.std.proofs.Common.{◌≡◌, ℕ, ◌<◌, Option, Some, get_or, slice_get, Bor, refl, sym, ap, ◌∙◌, inl, inr, arith}
use Rattle.std.specs.Option.{option_map}
use Rattle.std.specs.Ordering.{nat_cmp}
use Rattle.std.specs.declared.cmp.Ordering.TheVariants.{Less, Equal, Greater}
use Rattle.std.proofs.lemmas.Bool.Decides.{nat_tests}
use Rattle.std.proofs.lemmas.Option.{get_or_from_slice_get}
use Rattle.isle_blocks.specs.declared.ids.BindingId.{BindingId}
use Rattle.isle_blocks.specs.declared.constraint.Constraint.{Constraint}
use Rattle.isle_blocks.specs.Rules.{Tests}
use Rattle.isle_blocks.proofs.EqualTests.{different, alike}
use Rattle.isle_blocks.proofs.Merging.{Entry, merged_less, merged_greater, merged_equal, merged_end}
use Rattle.isle_blocks.proofs.rule.common_tests.Goals as goal

-- what was read at a place
entry_is : (tests : Tests) (i : ℕ) (o : Option (Bor BindingId × Bor Constraint)) (e : Bor BindingId × Bor Constraint)
    → option_map (λ p. (p.0.now, p.1.now)) o ≡ slice_get tests i → o ≡ Some e → (d : Entry) → get_or tests i d ≡ (e.0.now, e.1.now)
entry_is tests i o e read is d = get_or_from_slice_get tests i _ d (sym read ∙ ap (option_map (λ p. (p.0.now, p.1.now))) is)

less : (m n : ℕ) → Less ≡ nat_cmp m n → m < n
less m n e = grind (arith, nat_tests)

greater : (m n : ℕ) → Greater ≡ nat_cmp m n → n < m
greater m n e = grind (arith, nat_tests)

same : (m n : ℕ) → Equal ≡ nat_cmp m n → m ≡ n
same m n e = grind (arith, nat_tests)

same_entry : (a b : BindingId) (s t : Constraint) → a.0 ≡ b.0 → s ≡ t → ◌≡◌ {A = Entry} (a, s) (b, t)
same_entry a b s t e f i = (record { 0 = e i }, f i)

pub tests-preserved-in-Less : goal.tests-preserved-in-Less
tests-preserved-in-Less c =
    let first = entry_is c.args.first.now c.tests.i _ _ c.entry.ensures c.unwrap.ensures in
    let second = entry_is c.args.second.now c.tests.j _ _ c.entry-in-tests.ensures c.unwrap-in-tests.ensures in
    let below : c.unwrap.result.0.now.0 < c.unwrap-in-tests.result.0.now.0 = less _ _ c.in-Less.ensures in
    merged_less _ _ c.len-first_len.ensures.ascending c.len-second_len.ensures.ascending _ _ _ c.tests.invariant (omega arith) (omega arith)
    (λ d. let e = ap (λ x. x.0.0) (first d) in let f = ap (λ x. x.0.0) (second d) in omega arith)

pub tests-preserved-in-Greater : goal.tests-preserved-in-Greater
tests-preserved-in-Greater c =
    let first = entry_is c.args.first.now c.tests.i _ _ c.entry.ensures c.unwrap.ensures in
    let second = entry_is c.args.second.now c.tests.j _ _ c.entry-in-tests.ensures c.unwrap-in-tests.ensures in
    let above : c.unwrap-in-tests.result.0.now.0 < c.unwrap.result.0.now.0 = greater _ _ c.in-Greater.ensures in
    merged_greater _ _ c.len-first_len.ensures.ascending c.len-second_len.ensures.ascending _ _ _ c.tests.invariant (omega arith) (omega arith)
    (λ d. let e = ap (λ x. x.0.0) (first d) in let f = ap (λ x. x.0.0) (second d) in omega arith)

pub tests-preserved : goal.tests-preserved
tests-preserved c =
    let first = entry_is c.args.first.now c.tests.i _ _ c.entry.ensures c.unwrap.ensures in
    let second = entry_is c.args.second.now c.tests.j _ _ c.entry-in-tests.ensures c.unwrap-in-tests.ensures in
    let one : c.unwrap.result.0.now.0 ≡ c.unwrap-in-tests.result.0.now.0 = same _ _ c.in-Equal.ensures in
    let test = alike _ _ c.if-ne.ensures in
    merged_equal _ _ c.len-first_len.ensures.ascending c.len-second_len.ensures.ascending _ _ _ c.tests.invariant (omega arith) (omega arith)
    (λ d. first d ∙ same_entry _ _ _ _ one test ∙ sym (second d))

pub returns-then-ne : goal.returns-then-ne
returns-then-ne c =
    let first = entry_is c.args.first.now c.tests.i _ _ c.entry.ensures c.unwrap.ensures in
    let second = entry_is c.args.second.now c.tests.j _ _ c.entry-in-tests.ensures c.unwrap-in-tests.ensures in
    let one : c.unwrap.result.0.now.0 ≡ c.unwrap-in-tests.result.0.now.0 = same _ _ c.in-Equal.ensures in
    let other : Entry = (c.unwrap.result.0.now, c.unwrap-in-tests.result.1.now) in
    record {
      site = c.unwrap.result.0.now;
      one = c.unwrap.result.1.now;
      other = c.unwrap-in-tests.result.1.now;
      has_one = (c.tests.i, omega arith, first _);
      has_other = (c.tests.j, omega arith, second _ ∙ same_entry _ _ _ _ (sym one) refl);
      differ = different _ _ c.if-ne.ensures;
    }

pub returns-else-j-second_len : goal.returns-else-j-second_len
returns-else-j-second_len c =
    merged_end _ _ c.len-first_len.ensures.ascending c.len-second_len.ensures.ascending c.tests.i c.tests.j _ c.tests.invariant
    (let r = c.tests.invariant.right.in_range in inr (omega arith))

pub returns-after-tests : goal.returns-after-tests
returns-after-tests c =
    merged_end _ _ c.len-first_len.ensures.ascending c.len-second_len.ensures.ascending c.tests.i c.tests.j _ c.tests.invariant
    (let r = c.tests.invariant.left.in_range in inl (omega arith))
