use Rattle.std.proofs.Common.{◌≡◌, ◌<◌, List, [], ◌∷◌, length, map, get_or, refl, sym, ◌∙◌, ap, subst, arith}
use Rattle.std.specs.Prelude.{IfSome, IfNone}
use Rattle.std.proofs.lemmas.List.{length-map}
use Rattle.std.specs.Vec.Iter.{into_iter_items}
use Rattle.isle_types.specs.declared.ids.TypeId.{TypeId}
use Rattle.isle_meaning.specs.ValueTypes.{IsOfType, AreOfTypes}
use Rattle.isle_program.specs.Programs.{value_facts, number_of}
use Rattle.isle_values.specs.Values.Settled.{settled}
use Rattle.isle_values.proofs.GroundValues.SettledValues.{IsSettlingAll, as_many, all_refused, all_stepped, all_ended}
use Rattle.isle_values.proofs.queries.settle_values.Goals as goal

pub returns-then-len-types-clause-none : goal.returns-then-len-types-clause-none
returns-then-len-types-clause-none c = λ values are.
    let facts = value_facts c.args.program.now in let types = map number_of c.args.types.now in
    let many = as_many facts c.args.values.items types (subst (λ vs. AreOfTypes facts vs types) (sym are.0) are.1) in
    absurd (c.if-len-types.true (c.len.ensures ∙ c.args.values.ok.0 ∙ many ∙ length-map c.args.types.now number_of))

abbrev nothing : TypeId
nothing = record { 0 = 0 }

pub returns-in_default-clause-none : goal.returns-in_default-clause-none
returns-in_default-clause-none c = λ values are.
    let facts = value_facts c.args.program.now in let types = c.args.types.now in let done = c.loop-value.settled.items in
    let (items, len) = c.in-Some.ensures.steps in
    let settling = subst (λ l. IsSettlingAll facts c.args.values.items types l done) items c.loop-value.invariant.settling in
    let place : c.len-in-loop-value.result ≡ length done = c.len-in-loop-value.ensures ∙ c.loop-value.settled.ok.0 in
    let low : length done < length types = (let all = settling.count in let same = c.if-len-types.false in
    let ok = c.args.values.ok.0 in let n = c.len.ensures in
    omega (arith, all, same, ok, n)) in
    let never = subst (λ o. IfNone o (IsOfType facts (settled facts c.in-Some.value (get_or types c.len-in-loop-value.result nothing).0)
    (get_or types c.len-in-loop-value.result nothing).0 → ⊥)) c.in_default.is c.in_ok-value.ensures.none in
    all_refused facts c.args.values.items types c.in-Some.value (into_iter_items c.next.new.self) done nothing settling low
    (subst (λ n. IsOfType facts (settled facts c.in-Some.value (get_or types n nothing).0) (get_or types n nothing).0 → ⊥) place never)
    (subst (λ vs. AreOfTypes facts vs (map number_of types)) (sym are.0) are.1)

pub loop-value-preserved : goal.loop-value-preserved
loop-value-preserved c =
    let facts = value_facts c.args.program.now in let types = c.args.types.now in let done = c.loop-value.settled.items in
    let (items, len) = c.in-Some.ensures.steps in
    let settling = subst (λ l. IsSettlingAll facts c.args.values.items types l done) items c.loop-value.invariant.settling in
    let place : c.len-in-loop-value.result ≡ length done = c.len-in-loop-value.ensures ∙ c.loop-value.settled.ok.0 in
    let low : length done < length types = (let all = settling.count in let same = c.if-len-types.false in
    let ok = c.args.values.ok.0 in let n = c.len.ensures in
    omega (arith, all, same, ok, n)) in
    let ty = (get_or types c.len-in-loop-value.result nothing).0 in
    let (is, of) = subst (λ o. IfSome o (λ v. (v ≡ settled facts c.in-Some.value ty) × IsOfType facts v ty))
    c.in-Some-2.is c.in_ok-value.ensures.some in
    let here : ty ≡ (get_or types (length done) nothing).0 = ap (λ n. (get_or types n nothing).0) place in
    let step = all_stepped facts c.args.values.items types c.in-Some.value (into_iter_items c.next.new.self)
    done nothing settling low c.in-Some-2.value
    (is ∙ ap (settled facts c.in-Some.value) here) (subst (IsOfType facts c.in-Some-2.value) here of) in
    record {
      settling = subst (IsSettlingAll facts c.args.values.items types (into_iter_items c.next.new.self)) (sym c.in_ok-push.ensures.items) step;
      left = (let l = c.loop-value.invariant.left in let more = ap length items in omega (arith, l, more, len));
    }

none : {X : Type 0} (l : List X) → length l ≡ 0 → l ≡ []
none [] e = refl
none (x ∷ l) e = absurd cc

pub returns-clause-some : goal.returns-clause-some
returns-clause-some c =
    let facts = value_facts c.args.program.now in let types = c.args.types.now in let left = into_iter_items c.loop-value.value-iterator in
    all_ended facts c.args.values.items types left c.loop-value.settled.items c.loop-value.invariant.settling
    (none left (sym c.loop-value.invariant.left ∙ c.in-None.ensures.steps.0))
    (sym c.args.values.ok.0 ∙ sym c.len.ensures ∙ c.if-len-types.false ∙ sym (length-map types number_of))
