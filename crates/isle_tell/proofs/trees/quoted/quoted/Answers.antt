use Rattle.std.proofs.Common.{◌++◌, ◌∙◌, List, ℕ, ap, codes, sym}
use Rattle.std.proofs.lemmas.Iterator.{YieldsList-from_chars}
use Rattle.std.proofs.lemmas.Iterator.Consumers.{YieldsList-at, YieldsList-end}
use Rattle.std.proofs.lemmas.List.{map-id}
use Rattle.std.specs.List.{flat_map}
use Rattle.isle_tell.specs.TreeTexts.DotLabels.{escaped}
use Rattle.isle_tell.proofs.trees.quoted.quoted.Goals as goal

pub returns : goal.returns
returns c =
    let text = c.args.text.now in
    let road = YieldsList-at c.into_iter-c-iterator.ensures.into_iter_gives
    (YieldsList-from_chars {s = c.chars-c-items.result} text c.utf8.text c.chars-c-items.ensures.rest) in
    let ended = YieldsList-end road c.loop-c.yielded c.loop-c.c-iterator c.loop-c.yielded_by c.next.result
    c.next.new.self c.in-None.is c.next.ensures.steps in
    c.in_ok-push_str.ensures.bytes
    ∙ ap (λ (l : List ℕ). l ++ codes "\"")
    (c.loop-c.invariant ∙ ap (λ (l : List ℕ). codes "\"" ++ flat_map escaped l) (sym (map-id c.loop-c.yielded) ∙ ended.0))
