use Rattle.std.proofs.Common.{◌≡◌, ◌++◌, ℕ, List, [], ◌∷◌, length, refl, sym, ◌∙◌, ap, subst, string_bytes, append_assoc}
use Rattle.std.specs.Prelude.{codes}
use Rattle.std.proofs.lemmas.List.{append-nil}
use Rattle.isle_values.specs.Values.Text.{Closes, none_ends, one_ends}
use Rattle.isle_values.proofs.GroundValues.Printing.{no_last, same_last}
use Rattle.isle_values.proofs.values.close_data.Goals as goal

pub returns-then-end-at : goal.returns-then-end-at
returns-then-end-at c =
    let (closed, text, rest) = c.loop-end.invariant in
    let same : c.push.new.self.items ≡ c.loop-end.ends.items = c.in_ok-push.ensures.items ∙ sym c.in-Some.ensures.items in
    let ended : Closes c.args.at c.loop-end.ends.items c.push.new.self.items [] =
    subst (λ l. Closes c.args.at c.loop-end.ends.items l []) (sym same) (none_ends (λ before e.
    c.if-end-at.true (same_last c.pop.new.self.items before c.in-Some.end c.args.at (sym c.in-Some.ensures.items ∙ e)).1)) in (
      closed,
      subst (λ l. Closes c.args.at c.args.ends.now.items c.push.new.self.items l) (append-nil closed)
          (rest c.push.new.self.items [] ended),
      text,
    )

pub loop-end-preserved : goal.loop-end-preserved
unfolding lib.Utf8.encode
loop-end-preserved c =
    let (closed, text, rest) = c.loop-end.invariant in (
      closed ++ codes ")",
      c.in_ok-push-2.ensures.bytes ∙ ap (λ l. l ++ codes ")") text ∙ append_assoc (string_bytes c.args.text.now) closed (codes ")"),
      λ left more closes. subst (λ l. Closes c.args.at c.args.ends.now.items left l) (sym (append_assoc closed (codes ")") more))
          (rest left (codes ")" ++ more) (subst (λ l. Closes c.args.at l left (codes ")" ++ more))
          (sym (c.in-Some.ensures.items ∙ ap (λ n. c.pop.new.self.items ++ n ∷ []) c.if-end-at.false)) (one_ends closes))),
    )

nothing : (l : List ℕ) → length l ≡ 0 → l ≡ []
nothing [] e = refl
nothing (x ∷ l) e = absurd cc

pub returns : goal.returns
returns c =
    let (closed, text, rest) = c.loop-end.invariant in
    let none : c.loop-end.ends.items ≡ [] = nothing c.loop-end.ends.items (sym c.loop-end.ends.ok.0 ∙ c.in_default.ensures.cases.0) in
    let same : c.pop.new.self.items ≡ c.loop-end.ends.items = nothing c.pop.new.self.items (sym c.pop.new.self.ok.0 ∙ c.in_default.ensures.cases.1)
    ∙ sym none in
    let ended : Closes c.args.at c.loop-end.ends.items c.pop.new.self.items [] =
    subst (λ l. Closes c.args.at c.loop-end.ends.items l []) (sym same) (none_ends (λ before e. no_last before c.args.at (sym e ∙ none))) in (
      closed,
      subst (λ l. Closes c.args.at c.args.ends.now.items c.pop.new.self.items l) (append-nil closed)
          (rest c.pop.new.self.items [] ended),
      text,
    )
