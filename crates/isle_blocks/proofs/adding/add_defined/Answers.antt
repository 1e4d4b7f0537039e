use Rattle.std.proofs.Common.{◌≡◌, inl, inr, Result, Ok, Err, rules}
use Rattle.std.specs.Prelude.{IfOk, IfErr}
use Rattle.isle_meaning.specs.Demands.{demands_of}
use Rattle.isle_blocks.specs.AddedRules.{LacksRoomFor, name_in, facts_in}
use Rattle.isle_blocks.specs.declared.sites.SiteFault.TheVariants.{Size}
use Rattle.isle_blocks.proofs.Building.Naming.{name_by_injective}
use Rattle.isle_blocks.proofs.AddedRules.{added_of, beside_of}
use Rattle.isle_blocks.proofs.adding.add_defined.Goals as goal

if_ok : {T E : Type 0} (P Q : T → Type 0) (r : Result T E) → ((v : T) → P v → Q v) → IfOk r P → IfOk r Q
if_ok P Q (Ok v) f h = f v h
if_ok P Q (Err e) f h = h

if_err : {T E : Type 0} (P Q : E → Type 0) (r : Result T E) → ((e : E) → P e → Q e) → IfErr r P → IfErr r Q
if_err P Q (Ok v) f h = h
if_err P Q (Err e) f h = f e h

on_error : {T E : Type 0} (P : E → Type 0) (r : Result T E) (e : E) → r ≡ Err e → P e → IfErr r P
on_error P r e is h = rw is h

pub add_rule-requires-clause-ready : goal.add_rule-requires-clause-ready
add_rule-requires-clause-ready c = (c.in_ok-built.ensures.own c.requires.defined).ready

pub returns-clause-added : goal.returns-clause-added
returns-clause-added c =
    let env = c.args.termenv.now in let rule = c.args.source.now in let built = c.in_ok-built.built in
    if_ok _ _ c.add_rule.result
    (λ made h d.
    let own = c.in_ok-built.ensures.own d in
    added_of (name_in env rule d) (facts_in env rule d) c.args.partial d.typed c.args.table.now built.sites
    c.add_rule.new.table built.has.items built.same.items
    built.impure.items built.result own c.in_ok-built.ensures.few made
    (h (name_in env rule d) (name_by_injective d.tyenv.names d.once) (demands_of (facts_in env rule d) d.typed) own.recorded))
    c.add_rule.ensures.assembled

pub returns-in_err-built-clause-full : goal.returns-in_err-built-clause-full
returns-in_err-built-clause-full c =
    on_error (λ fault. fault ≡ Size → LacksRoomFor c.args.termenv.now c.args.source.now c.args.partial c.args.table.now) c.from_residual.result
    c.in_err-built.field-0.0 (search rules) (λ size d. inl (c.in_err-built.ensures.full size d))

pub returns-clause-full : goal.returns-clause-full
returns-clause-full c =
    let env = c.args.termenv.now in let rule = c.args.source.now in let built = c.in_ok-built.built in
    if_err _ _ c.add_rule.result
    (λ fault h size d.
    let name = name_in env rule d in let facts = facts_in env rule d in let own = c.in_ok-built.ensures.own d in
    let lacks = h size name (name_by_injective d.tyenv.names d.once) (demands_of facts d.typed) own.recorded in
    let beside = beside_of name facts c.args.partial d.typed c.args.table.now built.sites c.args.table.now built.has.items built.same.items
    built.impure.items built.result own in
    inr (lacks.0, beside lacks.1))
    c.add_rule.ensures.full
