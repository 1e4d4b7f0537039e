use Rattle.std.proofs.Common.{◌≡◌, ◌<◌, ◌+◌, ◌++◌, ℕ, suc, List, ◌∷◌, drop, length, sym, ap, subst, ◌∙◌, arith, string_bytes}
use Rattle.std.proofs.Math.Seq.{drop-cons}
use Rattle.std.specs.Prelude.{codes}
use Rattle.isle_values.specs.Values.Nodes.{nodes_of}
use Rattle.isle_values.specs.Values.Text.{node_text, end_of, Closes}
use Rattle.isle_values.specs.Values.TextTokens.{AreTokensOf}
use Rattle.isle_values.proofs.GroundValues.HeldNodes.{held_next, held_value}
use Rattle.isle_values.proofs.GroundValues.Printed.ReadBack.{reads_back}
use Rattle.isle_values.proofs.GroundValues.Printing.{IsPrinted, begins, next_printed, below_within, all_printed}
use Rattle.isle_values.proofs.values.Value.print.Goals.{then-at-gt0+in_ok-push, else-at-gt0}
use Rattle.isle_values.proofs.values.Value.print.Goals as goal

pub loop-at-init : goal.loop-at-init
loop-at-init c = record {
  printed = begins (c.as_slice-nodes.ensures.value ∙ c.self.invariant ∙ ap nodes_of c.self.view_is) c.new-ends.ensures.items c.new-text.ensures.bytes;
  held = tt;
}

pub write_node-requires : goal.write_node-requires
write_node-requires c =
    let nodes = c.as_slice-nodes.result.now in let at = c.loop-at.at in
    let cons = drop-cons nodes at c.index-nodes-at.result c.loop-at-test.true in
    let e : drop at nodes ≡ c.index-nodes-at.result ∷ drop (suc at) nodes = cons ∙ ap (λ n. n ∷ drop (suc at) nodes) (sym c.index-nodes-at.is) in
    let within = below_within c.args.self.now nodes c.loop-at.invariant.printed c.index-nodes-at.result (drop (suc at) nodes) c.loop-at-test.true e in
    let small = c.self.inside.nodes.small in let (len, room) = c.self.inside.nodes.ok in
    let count : length nodes ≡ length c.self.inside.nodes.items = ap length c.as_slice-nodes.ensures.value in
    omega (arith, within, small, len, room, count)

pub loop-at-preserved : goal.loop-at-preserved
unfolding lib.Utf8.encode
loop-at-preserved c =
    let nodes = c.as_slice-nodes.result.now in let at = c.loop-at.at in
    let cons = drop-cons nodes at c.index-nodes-at.result c.loop-at-test.true in
    let e : drop at nodes ≡ c.index-nodes-at.result ∷ drop (suc at) nodes = cons ∙ ap (λ n. n ∷ drop (suc at) nodes) (sym c.index-nodes-at.is) in
    let (closed, closes, text) = c.in_ok-close_data.ensures in
    let next : at + 1 ≡ suc at = omega arith in
    let ends : c.write_node.new.ends.items ≡ c.loop-at.ends.items ++ end_of (suc at) c.index-nodes-at.result =
    c.in_ok-write_node.ensures.ends ∙ ap (λ n. c.loop-at.ends.items ++ end_of n c.index-nodes-at.result) next in
    let closing : Closes (suc at) (c.loop-at.ends.items ++ end_of (suc at) c.index-nodes-at.result) c.close_data.new.ends.items closed =
    subst (λ n. Closes n (c.loop-at.ends.items ++ end_of (suc at) c.index-nodes-at.result) c.close_data.new.ends.items closed) next
    (subst (λ l. Closes (at + 1) l c.close_data.new.ends.items closed) ends closes) in
    let spaced : List ℕ = string_bytes c.if-at-gt0.text in
    let later : 0 < at → spaced ≡ string_bytes c.loop-at.text ++ codes " " = λ l. elim c.if-at-gt0.branch [
      | then-at-gt0+in_ok-push w ↦ ap string_bytes w.text-is ∙ w.in_ok-push.ensures.bytes
      | else-at-gt0 w ↦ absurd (let no = w.if-at-gt0.false in omega (arith, no, l))
    ] in
    let first : at ≡ 0 → spaced ≡ string_bytes c.loop-at.text = λ z. elim c.if-at-gt0.branch [
      | then-at-gt0+in_ok-push w ↦ absurd (let yes = w.if-at-gt0.true in omega (arith, yes, z))
      | else-at-gt0 w ↦ ap string_bytes w.text-is
    ] in
    let printed = next_printed c.args.self.now nodes c.loop-at.invariant.printed spaced later first c.index-nodes-at.result
    (drop (suc at) nodes) e closing in
    let all_text : string_bytes c.close_data.new.text ≡ (spaced ++ node_text c.index-nodes-at.result) ++ closed =
    text ∙ ap (λ l. l ++ closed) c.in_ok-write_node.ensures.text in
    record {
      printed = subst (λ n. IsPrinted c.args.self.now nodes n c.close_data.new.ends.items (string_bytes c.close_data.new.text)) (sym next)
          (subst (λ l. IsPrinted c.args.self.now nodes (suc at) c.close_data.new.ends.items l) (sym all_text) printed);
      held = held_next nodes at c.index-nodes-at.result c.loop-at-test.true c.index-nodes-at.is c.loop-at.invariant.held
          c.in_ok-write_node.ensures.held;
    }

pub returns-clause-text : goal.returns-clause-text
returns-clause-text c = all_printed c.args.self.now c.as_slice-nodes.result.now c.loop-at.invariant.printed c.loop-at-test.false

pub returns-clause-reads_back : goal.returns-clause-reads_back
returns-clause-reads_back c = λ facts ty is spellable.
    let v = c.args.self.now in let nodes = c.as_slice-nodes.result.now in
    let laid : nodes ≡ nodes_of v = c.as_slice-nodes.ensures.value ∙ c.self.invariant ∙ ap nodes_of c.self.view_is in
    let held = held_value v nodes c.loop-at.at laid c.loop-at-test.false c.loop-at.invariant.held in
    let (tokens, are, spell) = reads_back facts v ty held is spellable in
    (tokens, subst (λ t. AreTokensOf t tokens) (sym (all_printed v nodes c.loop-at.invariant.printed c.loop-at-test.false)) are, spell)
