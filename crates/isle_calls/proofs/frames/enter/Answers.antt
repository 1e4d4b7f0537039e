use Rattle.std.proofs.Common.{◌≡◌, ◌∙◌, ◌++◌, ◌-◌, ℕ, suc, List, [], refl, ap, sym, subst, reverse, arith}
use Rattle.std.proofs.lemmas.List.{append-nil}
use Rattle.isle_meaning.specs.Asking.{spent}
use Rattle.isle_meaning.specs.Outcomes.{ended}
use Rattle.isle_meaning.specs.Worlds.{Event}
use Rattle.isle_calls.specs.Calls.Open.{CallOf, call_below}
use Rattle.isle_calls.specs.Inside.Calls.Stacks.{AreStacked, first_steps}
use Rattle.isle_calls.specs.Calls.Ways.{Comes, Below}
use Rattle.isle_calls.proofs.OpenCalls.Stacked.{stacked_program, stacked_ends, last_first}
use Rattle.isle_calls.proofs.frames.enter.Goals as goal

pub returns-then-depth-eq0 : goal.returns-then-depth-eq0
returns-then-depth-eq0 g c = λ goal k stored start since args of stacked stands waits.
    let way = g.R.Road.way in
    let is_way = c.laws.ensures in
    let frames = reverse c.args.waiting.now.items in
    let zero_left : k.depth ≡ 0 = sym (is_way.deep k stored c.args.top since c.args.callee args waits) ∙ sym c.depth-depth.ensures
    ∙ c.if-depth-eq0.true in
    let below : Below way k c.args.callee.0 args [] (ended spent) =
    subst (λ (d : ℕ). (steps : ℕ) × way.run k.program k.answers d c.args.callee.0 args steps [] (ended spent)) (sym zero_left)
    (0, is_way.spent_at_once k.program k.answers c.args.callee.0 args) in
    let up = is_way.ends k stored c.args.top since [] c.args.callee args spent waits below in
    let own = subst (λ (l : List Event). Comes way k (way.steps_of c.args.top) l (ended spent)) (append-nil since) up in
    let all = stacked_ends way is_way goal stored frames k start stacked (way.steps_of c.args.top) since spent own in
    let steps : c.first_steps-steps.result ≡ first_steps way frames (way.steps_of c.args.top) =
    c.first_steps-steps.ensures ∙ ap (λ l. first_steps way (reverse l) (way.steps_of c.args.top)) c.as_slice.ensures.value in
    (ended spent, (spent, refl, refl), subst (λ (n : ℕ). Comes way goal n (start ++ since) (ended spent)) (sym steps) all)

pub returns : goal.returns
returns g c = λ goal k stored start since args of stacked stands waits.
    let way = g.R.Road.way in
    let is_way = c.laws.ensures in
    let n : ℕ = c.depth-depth.result - 1 in
    let same = stacked_program way goal stored (reverse c.args.waiting.now.items) k start stacked in
    let depth : c.depth-depth.result ≡ k.depth = c.depth-depth.ensures ∙ is_way.deep k stored c.args.top since c.args.callee args waits in
    let deeper : k.depth ≡ suc n = let some = c.if-depth-eq0.false in omega (arith, depth, some) in
    let inner : CallOf = call_below k n c.args.callee.0 args in
    let frame = c.begin.ensures inner stored (same ∙ of) refl refl stands (is_way.ready k stored c.args.top since c.args.callee args waits) in
    let shown = last_first c.args.waiting.now.items c.push.new.self.items c.args.top c.in_ok-push.ensures.items in
    let more = subst (λ l. AreStacked way goal stored l inner (start ++ since)) (sym shown)
    (k, start, since, c.args.callee, deeper, refl, waits, refl, stacked) in
    (inner, start ++ since, [], more, frame, sym (append-nil (start ++ since)))
