-- The errors of the rules (f 5) and (f (and 1 2)), the second of which never matches, and a size error.
use Rattle.std.proofs.Common.{◌≡◌, ◌<◌, ◌≤◌, ◌++◌, ◌∷◌, inl, inr, [], ℕ, zero, suc, pos, List, None, codes, length, get_or}
use Rattle.std.proofs.Common.{refl, sym, ap, subst, arith}
use Rattle.std.specs.Prelude.{Contains}
use Rattle.std.proofs.lemmas.Bool.{cases_eq}
use Rattle.std.proofs.lemmas.List.{length_push}
use Rattle.isle_ast.specs.declared.pos.Pos.{Pos}
use Rattle.isle_ast.specs.declared.error.Error.{Error}
use Rattle.isle_ast.specs.declared.error.Error.TheVariants.{SizeError, UnreachableError}
use Rattle.isle_types.specs.TypeFaults.{IsSizeFault}
use Rattle.isle_rules.specs.TypedRules.{TypedPattern, typed_int, typed_and, no_typed, more_typed, built_int, TypedRule}
use Rattle.isle_meaning.specs.Facts.{TermFacts}
use Rattle.isle_meaning.specs.Sites.{argument}
use Rattle.isle_meaning.specs.Demands.{Demand, constrained, int_constraint, Among}
use Rattle.isle_meaning.specs.Derived.{Derived, demanded, flipped, chained, shared, like_variant, like_struct}
use Rattle.isle_blocks.specs.DefinedSets.{ListsNumbers}
use Rattle.isle_blocks.specs.RuleFaults.{NeverMatches, MayMatch, TellUnreachable, no_rules_told, one_may_match, one_never_matches}
use Rattle.isle_blocks.specs.RuleFaults.{IsOneSizeFault, size_error_at, unreachable_error}

-- the byte 7 of the file 2
abbrev pub here : Pos
here = record { file = 2; offset = 7 }

-- its byte 9
abbrev pub there : Pos
there = record { file = 2; offset = 9 }

-- a rule of the term 4 with one argument of the type 3
abbrev pub rule_at : Pos → TypedPattern → TypedRule
rule_at at pattern = record {
  root = 4;
  args = more_typed pattern no_typed;
  iflets = [];
  right = built_int 3 (pos 0);
  variables = [];
  priority = pos 0;
  pos = at;
  name = None;
}

-- (rule (f 5) 0)
abbrev pub five : TypedRule
five = rule_at here (typed_int 3 (pos 5))

-- (rule (f (and 1 2)) 0)
abbrev pub both : TypedRule
both = rule_at there (typed_and 3 (more_typed (typed_int 3 (pos 1)) (more_typed (typed_int 3 (pos 2)) no_typed)))

-- what (f 5) demands
abbrev pub is_five : Demand
is_five = constrained (argument 0) (int_constraint (pos 5) 3)

-- from one test nothing else follows
pub alone : (d : Demand) → Derived (Among (is_five ∷ [])) d → d ≡ is_five
alone d (demanded (inl same)) = same
alone d (demanded (inr none)) = absurd none
alone d (flipped h) = let e = alone _ h in absurd cc
alone d (chained h k) = let e = alone _ h in absurd cc
alone d (shared h k) = let e = alone _ h in absurd cc
alone d (like_variant h k less) = let e = alone _ h in absurd cc
alone d (like_struct h k less) = let e = alone _ h in absurd cc

-- (f 5) may match
pub five_may_match : (facts : TermFacts) → MayMatch facts five
five_may_match facts (inl conflict) =
    let one = alone _ conflict.has_one in let other = alone _ conflict.has_other in conflict.differ cc
five_may_match facts (inr endless) = let same = alone _ endless.same in absurd cc

-- (f (and 1 2)) never does
pub both_never_match : (facts : TermFacts) → NeverMatches facts both
both_never_match facts = inl (record {
  site = argument 0;
  one = int_constraint (pos 1) 3;
  other = int_constraint (pos 2) 3;
  has_one = demanded (inl refl);
  has_other = demanded (inr (inl refl));
  differ = λ e. cc;
})

-- of the two rules the second is told, at its own position
pub told : (facts : TermFacts) → TellUnreachable facts (five ∷ both ∷ []) (unreachable_error there ∷ [])
told facts = one_never_matches both (both_never_match facts) (one_may_match five (five_may_match facts) no_rules_told)

-- nothing is told of no rules
told_none : (facts : TermFacts) (rules : List TypedRule) (errors : List Error) → rules ≡ [] → TellUnreachable facts rules errors → errors ≡ []
told_none facts rules errors is no_rules_told = refl
told_none facts rules errors is (one_may_match {rules = before} rule may early) = absurd (omega (arith, ap length is, length_push before rule))
told_none facts rules errors is (one_never_matches {rules = before} rule never early) = absurd (omega (arith, ap length is, length_push before rule))

-- nor of a rule that may match
pub told_five : (facts : TermFacts) (rules : List TypedRule) (errors : List Error) → rules ≡ five ∷ [] → TellUnreachable facts rules errors
    → errors ≡ []
told_five facts rules errors is no_rules_told = refl
told_five facts rules errors is (one_may_match {rules = before} rule may early) = told_none facts before _ (first before rule is) early
  where
    first : (before : List TypedRule) (rule : TypedRule) → before ++ rule ∷ [] ≡ five ∷ [] → before ≡ []
    first [] rule is = refl
    first (x ∷ xs) rule is = absurd (omega (arith, ap length is, length_push xs rule))
told_five facts rules errors is (one_never_matches {rules = []} rule never early) =
    let same : rule ≡ five = cc in absurd (five_may_match facts (subst (λ (r : TypedRule). NeverMatches facts r) same never))
told_five facts rules errors is (one_never_matches {rules = x ∷ xs} rule never early) = absurd (omega (arith, ap length is, length_push xs rule))

-- what is printed of that rule, and where
pub unreachable_text : unreachable_error there
    ≡ UnreachableError (codes "no values meet all that this rule demands") (record { from = there; to = record { file = 2; offset = 10 } })
unreachable_text = refl

-- and of a rule that is too large
pub size_text : size_error_at here
    ≡ SizeError (codes "the rules of this term have too many sites") (record { from = here; to = record { file = 2; offset = 8 } })
size_text = refl

-- a size error is a fault at its own position alone
pub size_fault : IsSizeFault (λ at. at ≡ here) (size_error_at here)
size_fault = refl

pub size_elsewhere : IsSizeFault (λ at. at ≡ here) (size_error_at there) → ⊥
size_elsewhere is = omega (arith, ap (λ (at : Pos). at.offset) is)

-- an error of another kind is none
pub unreachable_is_none : IsSizeFault (λ at. at ≡ here) (unreachable_error here) → ⊥
unreachable_is_none is = is

-- two errors are not one
pub two_are_not_one : (facts : TermFacts) (rules : List TypedRule) (one other : Error) → IsOneSizeFault facts rules (one ∷ other ∷ []) → ⊥
two_are_not_one facts rules one other fault = let alone = fault.alone in cc

-- from 2 to 3
abbrev Between : ℕ → Type 0
Between i = (2 ≤ i) × (i ≤ 3)

-- 2 and 3 list the numbers from 2 to 3
pub both_listed : ListsNumbers Between (2 ∷ 3 ∷ [])
both_listed = record {
  all = λ i. (
    λ (k, within, is). read i k within is,
    λ (low, high). find i low high,
  );
  ascending = ascends;
}
  where
    read : (i k : ℕ) → k < 2 → get_or (2 ∷ 3 ∷ []) k i ≡ i → Between i
    read i zero within is = (omega (arith, is), omega (arith, is))
    read i (suc zero) within is = (omega (arith, is), omega (arith, is))
    read i (suc (suc k)) within is = absurd (omega arith)

    find : (i : ℕ) → 2 ≤ i → i ≤ 3 → Contains (2 ∷ 3 ∷ []) i
    find i low high = elim (cases_eq i 2) [
      | inl same ↦ (0, omega arith, sym same)
      | inr other ↦ let three : 3 ≡ i = omega arith in (1, omega arith, three)
    ]

    ascends : (k l d : ℕ) → k < l → l < 2 → get_or (2 ∷ 3 ∷ []) k d < get_or (2 ∷ 3 ∷ []) l d
    ascends zero zero d less within = absurd (omega arith)
    ascends zero (suc zero) d less within = omega arith
    ascends zero (suc (suc l)) d less within = absurd (omega arith)
    ascends (suc k) l d less within = absurd (omega arith)

-- one of the two
abbrev low_end : List ℕ
low_end = 2 ∷ []

-- the other
abbrev high_end : List ℕ
high_end = 3 ∷ []

-- without its last number the list is too short
pub last_is_missing : ListsNumbers Between low_end → ⊥
last_is_missing lists = let (k, within, is) = (lists.all 3).1 (omega arith, omega arith) in only k within is
  where
    only : (k : ℕ) → k < 1 → get_or low_end k 3 ≡ 3 → ⊥
    only zero within is = omega (arith, is)
    only (suc k) within is = omega arith

-- and without its first
pub first_is_missing : ListsNumbers Between high_end → ⊥
first_is_missing lists = let (k, within, is) = (lists.all 2).1 (omega arith, omega arith) in only k within is
  where
    only : (k : ℕ) → k < 1 → get_or high_end k 2 ≡ 2 → ⊥
    only zero within is = omega (arith, is)
    only (suc k) within is = omega arith

-- a number past the last is one too many
pub one_too_many : ListsNumbers Between (2 ∷ 3 ∷ 4 ∷ []) → ⊥
one_too_many lists = let (low, high) = (lists.all 4).0 (2, omega arith, refl) in omega arith

-- and the order is ascending
pub turned_round : ListsNumbers Between (3 ∷ 2 ∷ []) → ⊥
turned_round lists = let less = lists.ascending 0 1 0 (omega arith) (omega arith) in omega arith
