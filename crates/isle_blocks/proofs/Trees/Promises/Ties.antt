-- Rules of equal priority never both match.
use Rattle.std.proofs.Common.{◌≡◌, inl, inr, ℕ, ◌<◌, false, List, sym}
use Rattle.std.proofs.lemmas.Bool.{cases_order}
use Rattle.isle_rules.specs.TypedRules.{TypedRule}
use Rattle.isle_meaning.specs.Answers.{Completion}
use Rattle.isle_meaning.specs.Facts.{TermFacts}
use Rattle.isle_meaning.specs.Matching.{Matches}
use Rattle.isle_meaning.specs.Values.{Values}
use Rattle.isle_meaning.proofs.Matching.Leaving.{both_match_overlap}
use Rattle.isle_blocks.specs.RuleFaults.{AreFaultless}
use Rattle.isle_blocks.specs.Trees.Choices.{IsRuleOf}
use Rattle.isle_blocks.specs.Trees.Premises.{IsRunnableTerm}
use Rattle.isle_blocks.specs.Trees.Ties.{EqualPrioritiesNeverBothMatch}

module _ (facts : TermFacts) (rules : List TypedRule) (term : ℕ) (faultless : AreFaultless facts rules) (run : IsRunnableTerm facts rules term)
    (single : facts.multi term ≡ false) (c : Completion) (args : Values) where
  -- of two rules in order not both match
  never_in_order : (i j : ℕ) (one other : TypedRule) → i < j → IsRuleOf rules term i one → IsRuleOf rules term j other
      → one.priority ≡ other.priority → Matches facts c args one → Matches facts c args other → ⊥
  never_in_order i j one other less a b even m n = faultless.apart i j (record {
    rivals = record {
      term = term;
      first = record {
        rule = one;
        at = a.listed;
        of_term = a.of_term;
        may = λ never. faultless.reachable i (record { rule = one; at = a.listed; never = never });
      };
      second = record {
        rule = other;
        at = b.listed;
        of_term = b.of_term;
        may = λ never. faultless.reachable j (record { rule = other; at = b.listed; never = never });
      };
      single = single;
    };
    in_order = less;
    overlap = (
      even,
      both_match_overlap facts run.types c args one other (run.fit i one a.listed a.of_term) (run.fit j other b.listed b.of_term) m n,
    );
  })

-- Two that match are one.
pub equal_priorities_never_both_match : EqualPrioritiesNeverBothMatch
equal_priorities_never_both_match facts rules term faultless run single c args i j one other a b even m n = elim (cases_order i j) [
  | inl same ↦ same
  | inr apart ↦ elim apart [
    | inl less ↦ absurd (never_in_order facts rules term faultless run single c args i j one other less a b even m n)
    | inr less ↦ absurd (never_in_order facts rules term faultless run single c args j i other one less b a (sym even) n m)
  ]
]
