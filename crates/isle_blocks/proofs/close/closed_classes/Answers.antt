use Rattle.std.proofs.Common.{◌≡◌, [], ℕ, List, length, Option, arith, inl, inr, subst, sym, ◌∙◌, Vec, Global}
use Rattle.std.proofs.lemmas.Bool.{eqb-true}
use Rattle.std.proofs.lemmas.List.{nil_from_length}
use Rattle.std.specs.Prelude.{IfSome, IfNone}
use Rattle.isle_meaning.specs.Faults.{Conflict}
use Rattle.isle_blocks.specs.Inside.ClosureStates.{AreClasses, ForDemands, IsSound, HasLoop, demanded_in}
use Rattle.isle_blocks.proofs.Closure.Alone.{alone_closed}
use Rattle.isle_blocks.proofs.Closure.Demands.{owned}
use Rattle.isle_blocks.proofs.Closure.Loops.{endless_of}
use Rattle.isle_blocks.proofs.close.closed_classes.Goals as goal

pub returns-in_default-clause-unreachable : goal.returns-in_default-clause-unreachable
returns-in_default-clause-unreachable c = λ name injective has are.
    let P : Type 0 = ForDemands c.args.sites.now c.args.equals.now c.args.own.now (λ name D. Conflict D) in
    let clash : P = subst (λ (q : Option (Vec ℕ Global)). IfNone q P) c.in_default.is c.in_ok-class.ensures.clash in
    inl (clash name injective has are)

pub returns-else-branch-clause-unreachable : goal.returns-else-branch-clause-unreachable
returns-else-branch-clause-unreachable c = λ name injective has are.
    let table = c.args.sites.now in let own = c.args.own.now in let equals = c.args.equals.now in
    let classes : AreClasses (length table) c.in-Some.class.items =
    subst (λ (q : Option (Vec ℕ Global)). IfSome q (λ class. AreClasses (length table) class.items)) c.in-Some.is c.in_ok-class.ensures.classes in
    let sound : ForDemands table equals own (λ name D. IsSound name table D c.in-Some.class.items) =
    subst (λ (q : Option (Vec ℕ Global)). IfSome q (λ class. ForDemands table equals own (λ name D. IsSound name table D class.items))) c.in-Some.is
    c.in_ok-class.ensures.sound in
    let loop : HasLoop table own c.in-Some.class.items =
    subst (λ (l : List ℕ). HasLoop table own l) c.deref.ensures.value (c.in_ok-is_finite.ensures.looped c.if-branch.false) in
    inr (endless_of name table c.requires.table (demanded_in name table has equals) own c.in-Some.class.items classes
    (owned name table equals own has are) (sound name injective has are) loop)

pub returns-then-is_empty-clause-classes : goal.returns-then-is_empty-clause-classes
returns-then-is_empty-clause-classes c =
    let n = c.len.ensures.count in let o = c.in_ok-single.single.ok.0 in let k = c.in_ok-single.ensures.0 in
    let none : c.args.equals.now ≡ [] = nil_from_length c.args.equals.now
    (eqb-true (length c.args.equals.now) 0 (sym c.is_empty.ensures ∙ c.if-is_empty.true)) in
    alone_closed c.args.sites.now c.requires.table c.args.own.now c.requires.fits c.args.equals.now c.requires.within none c.in_ok-single.single.items
    (omega arith)
    (λ a h. c.in_ok-single.ensures.1 a (omega arith))
