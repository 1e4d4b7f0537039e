use Rattle.std.proofs.Common.{ℕ, List, length, Option, inl, sym, subst, ◌∙◌, Vec, Global, arith}
use Rattle.std.specs.Prelude.{Contains, IfNone, MatchOption}
use Rattle.isle_meaning.specs.Faults.{IsUnreachable}
use Rattle.isle_blocks.specs.declared.constraint.Constraint.{Constraint}
use Rattle.isle_blocks.specs.Inside.ClosureStates.{HasTwo, AreOwn, ForDemands, demanded_in}
use Rattle.isle_blocks.proofs.Closure.Whole.{two_clash, pairs_below}
use Rattle.isle_blocks.proofs.close.reduce.Goals as goal

pub gather-requires : goal.gather-requires
gather-requires c = λ a k h. let n = c.len.ensures.count in let l = c.requires.constrained a k h in omega arith

pub returns-in_default-clause-unreachable : goal.returns-in_default-clause-unreachable
returns-in_default-clause-unreachable c = λ name injective.
    let has = c.args.has.now in
    let two : HasTwo has =
    subst (λ (q : Option (Vec (Option Constraint) Global)). MatchOption q (HasTwo has)
    (λ (k : Vec (Option Constraint) Global). AreOwn c.len.result has k.items))
    c.in_default.is c.in_ok-own.ensures in
    inl (two_clash c.args.sites.now has c.args.same.now c.requires two name injective)

pub closed_classes-requires-clause-within : goal.closed_classes-requires-clause-within
closed_classes-requires-clause-within c = λ a b h.
    pairs_below c.args.sites.now c.args.has.now c.args.same.now c.requires a b
    (subst (λ (l : List (ℕ × ℕ)). Contains l (a, b)) (c.deref-2.ensures.value ∙ c.in_ok-equals.ensures) h)

pub returns-in-None-clause-unreachable : goal.returns-in-None-clause-unreachable
returns-in-None-clause-unreachable c = λ name injective.
    let table = c.args.sites.now in let has = c.args.has.now in
    let equals = c.deref-2.result.now in let own = c.deref.result.now in
    let P : Type 0 = ForDemands table equals own (λ name D. IsUnreachable D) in
    let dead : P = subst (λ (q : Option (Vec ℕ Global)). IfNone q P) c.in-None.is c.in_ok-class.ensures.unreachable in
    let own_are : AreOwn c.len.result has c.in-Some.own.items =
    subst (λ (q : Option (Vec (Option Constraint) Global)). MatchOption q (HasTwo has)
    (λ (k : Vec (Option Constraint) Global). AreOwn c.len.result has k.items))
    c.in-Some.is c.in_ok-own.ensures in
    let are : AreOwn (length table) has own =
    subst (λ (n : ℕ). AreOwn n has own) c.len.ensures.count (subst (λ (l : List (Option Constraint)). AreOwn c.len.result has l)
    (sym c.deref.ensures.value) own_are) in
    subst (λ (l : List (ℕ × ℕ)). IsUnreachable (demanded_in name table has l)) (c.deref-2.ensures.value ∙ c.in_ok-equals.ensures)
    (dead name injective has are)
