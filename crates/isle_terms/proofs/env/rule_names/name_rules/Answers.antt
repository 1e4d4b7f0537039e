use Rattle.std.proofs.Common.{◌≡◌, ◌+◌, ◌≤◌, ◌++◌, ◌∷◌, [], map, length, arith, refl, ap, sym, subst, ◌∙◌, slice_get, Some}
use Rattle.std.proofs.lemmas.List.{length-append, length-map, map-id}
use Rattle.std.proofs.lemmas.Iterator.Adapters.{YieldsList-from_vec}
use Rattle.std.proofs.lemmas.Iterator.Consumers.{YieldsList-end}
use Rattle.isle_types.proofs.Tables.{more_then}
use Rattle.isle_terms.specs.Inside.Collecting.NamedItems.{name_shown}
use Rattle.isle_terms.proofs.Collections.Checking.{item_at}
use Rattle.isle_terms.proofs.Collections.RuleNames.{none_numbered, one_numbered, all_numbered}
use Rattle.isle_terms.proofs.env.rule_names.name_rules.Goals as goal
use Rattle.isle_terms.proofs.env.rule_names.name_rules.Goals.{then-place-names, else-place-names}

pub loop-rule-init : goal.loop-rule-init
loop-rule-init c = record {
  named = λ typed zipped counted few. none_numbered c.args.tyenv.now.names (map name_shown c.args.names.now) typed c.new-named.result.items
      c.new-numbers.result zipped c.new-named.ensures.items c.new-numbers.ensures;
  same = record { kept = λ place name is. is; same = refl };
  many = ap length c.new-named.ensures.items;
}

pub loop-rule-preserved : goal.loop-rule-preserved
loop-rule-preserved c =
    let named = c.loop-rule.named in
    let yielded = c.loop-rule.yielded in
    let own = map name_shown c.args.names.now in
    let place : c.len-place.result ≡ length yielded = c.len-place.ensures ∙ named.ok.0 ∙ c.loop-rule.invariant.many in
    record {
      named = λ typed zipped counted few.
          let longer : length (yielded ++ c.in-Some.rule ∷ []) ≡ length yielded + 1 = length-append yielded (c.in-Some.rule ∷ []) in
          let here : slice_get own (length yielded) ≡ Some (name_shown c.if-place-names.name) = elim c.if-place-names.branch [
            | then-place-names w ↦
                subst (λ n. slice_get own n ≡ Some (name_shown c.if-place-names.name)) place
                (item_at name_shown c.args.names.now c.len-place.result w.index-names-place.result w.if-place-names.true w.index-names-place.is
                ∙ ap (λ name. Some (name_shown name)) (sym w.name-is))
            | else-place-names w ↦ let past = w.if-place-names.false in absurd (omega (arith, past, few, longer, place))
          ] in
          let few_names : length (yielded ++ c.in-Some.rule ∷ []) ≤ length own = omega (arith, few, length-map c.args.names.now name_shown) in
          rw c.in_ok-push-in-Ok.ensures.items
          (one_numbered c.args.tyenv.now.names c.loop-rule.tyenv.names c.name_rule.new.tyenv.names own typed yielded c.in-Some.rule named.items
          c.in-Ok.rule (name_shown c.if-place-names.name) c.loop-rule.numbers c.name_rule.new.numbers c.loop-rule.invariant.same.kept
          c.name_rule.ensures.same.kept here c.loop-rule.invariant.many c.in-Ok.ensures.id c.in-Ok.ensures.shown c.in-Ok.ensures.numbered
          (λ front zipped counted few. c.loop-rule.invariant.named front zipped counted (omega (arith, few, length-map c.args.names.now name_shown)))
          zipped counted few_names);
      same = more_then _ _ _ c.loop-rule.invariant.same c.name_rule.ensures.same;
      many = ap length c.in_ok-push-in-Ok.ensures.items ∙ length-append named.items (c.in-Ok.rule ∷ [])
          ∙ ap (λ n. n + 1) c.loop-rule.invariant.many ∙ sym (length-append yielded (c.in-Some.rule ∷ []));
    }

pub returns-clause-named : goal.returns-clause-named
returns-clause-named c = λ typed zipped counted many.
    let source = c.into_iter-rule-iterator.ensures.into_iter_gives in
    let road = YieldsList-from_vec {s = c.into_iter-rule-iterator.result} c.args.rules.items source.0 (source.1 ∙ c.args.rules.ok.0) in
    let ended = YieldsList-end road c.loop-rule.yielded c.loop-rule.rule-iterator c.loop-rule.yielded_by c.next.result c.next.new.self c.in-None.is
    c.next.ensures.steps in
    let all : c.loop-rule.yielded ≡ c.args.rules.items = sym (map-id c.loop-rule.yielded) ∙ ended.0 in
    all_numbered c.args.tyenv.now.names c.loop-rule.tyenv.names (map name_shown c.args.names.now) typed c.loop-rule.yielded c.args.rules.items _ all
    (λ front zipped counted few. c.loop-rule.invariant.named front zipped counted (omega (arith, few, length-map c.args.names.now name_shown)))
    zipped counted (length-map c.args.names.now name_shown ∙ many)
