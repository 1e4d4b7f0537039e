-- Positions of rules decide nothing of faults.
use Rattle.std.proofs.Common.{◌≡◌, ℕ, List, map, sym, ◌∙◌, ap, subst}
use Rattle.isle_rules.specs.TypedRules.{TypedRule}
use Rattle.isle_meaning.specs.Facts.{TermFacts}
use Rattle.isle_meaning.specs.Faults.{Overlaps, Shadows}
use Rattle.isle_meaning.specs.Demands.{DemandOf}
use Rattle.isle_meaning.specs.Needs.{needs_of, IsNeeded}
use Rattle.isle_blocks.specs.Closure.{Stands, HasAllFields}
use Rattle.isle_blocks.specs.RuleFaults.{NeverMatches, MayMatchAt, AreRivals, AreFaultless, own_result}
use Rattle.isle_meaning.specs.Laws.Spelling.{typed_rule_without_pos}
use Rattle.isle_meaning.proofs.Spelling.Meanings.{like}

module _ (facts : TermFacts) (rules others : List TypedRule) (same : map typed_rule_without_pos rules ≡ map typed_rule_without_pos others) where
  -- a rule that may match, where it stood
  matching_there : (term i : ℕ) → (h : MayMatchAt facts others term i)
      → (k : MayMatchAt facts rules term i) × (typed_rule_without_pos k.rule ≡ typed_rule_without_pos h.rule)
  matching_there term i h =
      let (own, at, is) = like rules others same i h.rule h.at in (
        record {
          rule = own;
          at = at;
          of_term = ap (λ (r : TypedRule). r.root) is ∙ h.of_term;
          may = λ never. h.may (subst (NeverMatches facts) is never);
        },
        is,
      )

  rivals_there : (i j : ℕ) (h : AreRivals facts others i j)
      → (k : AreRivals facts rules i j) × (typed_rule_without_pos k.first.rule ≡ typed_rule_without_pos h.first.rule)
      × (typed_rule_without_pos k.second.rule ≡ typed_rule_without_pos h.second.rule)
  rivals_there i j h =
      let one = matching_there h.term i h.first in
      let other = matching_there h.term j h.second in
      (record { term = h.term; first = one.0; second = other.0; single = h.single }, one.1, other.1)

  -- rules without a fault
  pub faultless_like : AreFaultless facts rules → AreFaultless facts others
  faultless_like h = record {
    reachable = λ i bad.
        let (own, at, is) = like rules others same i bad.rule bad.at in
        h.reachable i (record { rule = own; at = at; never = subst (NeverMatches facts) (sym is) bad.never });
    apart = λ i j bad.
        let (rivals, first, second) = rivals_there i j bad.rivals in
        h.apart i j (record {
          rivals = rivals;
          in_order = bad.in_order;
          overlap = subst (λ (r : TypedRule). Overlaps (DemandOf facts r) r.priority (DemandOf facts rivals.second.rule) rivals.second.rule.priority)
              (sym first)
              (subst (λ (r : TypedRule). Overlaps (DemandOf facts bad.rivals.first.rule) bad.rivals.first.rule.priority (DemandOf facts r) r.priority)
              (sym second) bad.overlap);
        });
    seen = λ i j bad.
        let (rivals, first, second) = rivals_there i j bad.rivals in
        h.seen i j (record {
          rivals = rivals;
          shadow = subst (λ (r : TypedRule). Shadows (DemandOf facts r) (DemandOf facts rivals.second.rule) r.priority rivals.second.rule.priority)
              (sym first)
              (subst (λ (r : TypedRule). Shadows (DemandOf facts bad.rivals.first.rule) (DemandOf facts r) bad.rivals.first.rule.priority r.priority)
              (sym second) bad.shadow);
        });
    fit = λ term. record {
      table = (h.fit term).table;
      few = (h.fit term).few;
      stand = λ i reached.
          let (own, is) = matching_there term i reached in
          let stands = (h.fit term).stand i own in
          record {
            own = record {
              needed = λ s needed. stands.own.needed s (subst (λ (r : TypedRule). IsNeeded (needs_of facts r) s) (sym is) needed);
              result = subst (λ (r : TypedRule). Stands (h.fit term).table (own_result facts r)) is stands.own.result;
            };
            fields = subst (λ (r : TypedRule). HasAllFields (DemandOf facts r) (h.fit term).table) is stands.fields;
          };
    };
  }
