use Rattle.std.proofs.Common.{◌≡◌, drop, None, get_or, sym, ◌∙◌}
use Rattle.isle_calls.specs.Inside.Plain.Underway.{known_at, first_unknown}
use Rattle.isle_calls.proofs.PlainRoad.Evaluations.Walk.{some_there, none_there, open_here, open_behind, none_open}
use Rattle.isle_calls.proofs.plain.evaluation.Evaluation.first_open.Goals as goal

pub returns-then-is_none : goal.returns-then-is_none
returns-then-is_none c =
    let e = c.args.self.now in let ks = c.args.parts.now in let i = c.loop-i.i in
    let all : first_unknown e ks ≡ first_unknown e (drop i ks) = c.loop-i.invariant in
    let unknown : known_at e (get_or ks i 0) ≡ None = sym c.value_of.ensures ∙ none_there c.value_of.result c.if-is_none.ensures in
    sym (all ∙ open_here e ks i c.loop-i-test.true unknown)

pub loop-i-preserved : goal.loop-i-preserved
loop-i-preserved c =
    let e = c.args.self.now in let ks = c.args.parts.now in let i = c.loop-i.i in
    let all : first_unknown e ks ≡ first_unknown e (drop i ks) = c.loop-i.invariant in
    let (n, is) = some_there c.value_of.result c.if-is_none.ensures in
    all ∙ open_behind e ks i c.loop-i-test.true (n, sym c.value_of.ensures ∙ is)

pub returns : goal.returns
returns c =
    let e = c.args.self.now in let ks = c.args.parts.now in let i = c.loop-i.i in
    let all : first_unknown e ks ≡ first_unknown e (drop i ks) = c.loop-i.invariant in
    sym (all ∙ none_open e ks i c.loop-i-test.false)
