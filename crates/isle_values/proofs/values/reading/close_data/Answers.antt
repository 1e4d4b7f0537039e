use Rattle.std.proofs.Common.{◌≡◌, ◌-◌, ◌++◌, ◌∷◌, length, set, get_or, ap, ◌∙◌, sym, arith, refl}
use Rattle.std.proofs.Math.Seq.{get_or-append_seam, set-append_seam}
use Rattle.std.proofs.lemmas.List.{length-append}
use Rattle.isle_values.specs.declared.values.Node.TheVariants.{Data}
use Rattle.isle_values.specs.Inside.Values.Reading.{counted}
use Rattle.isle_values.proofs.GroundValues.Printing.{same_last}
use Rattle.isle_values.proofs.values.reading.close_data.Goals as goal

pub returns-clause-closed : goal.returns-clause-closed
returns-clause-closed c = λ outer last before after name e f g.
    let nodes = c.args.nodes.now.items in let here = c.in-Some.last in
    let (same, innermost) = same_last c.pop.new.self.items outer here last (sym c.in-Some.ensures.items ∙ e) in
    let place : here.node ≡ length before = ap (λ p. p.node) innermost ∙ sym g in
    let was : c.index_mut.result.now ≡ Data name 0 0 = c.index_mut.ensures.value ∙ ap (λ l. get_or l here.node c.index_mut.result.now) f
    ∙ ap (λ n. get_or (before ++ Data name 0 0 ∷ after) n c.index_mut.result.now) place ∙ get_or-append_seam before
    (Data name 0 0) after c.index_mut.result.now in
    let len = length-append before (Data name 0 0 ∷ after) in let all = ap length f in let count = c.len.ensures in
    let held = c.args.nodes.now.ok.0 in
    let below : c.len.result - here.node - 1 ≡ length after = omega (arith, len, all, count, held, place) in
    let is : c.set_counts.new.node ≡ Data name last.fields (length after) = c.set_counts.ensures name 0 0 was ∙ ap
    (λ n. Data name here.fields n) below
    ∙ ap (λ p. Data name p.fields (length after)) innermost in (
      refl,
      c.count_field.ensures ∙ ap counted same,
      ap (λ l. set l here.node c.set_counts.new.node) f ∙ ap (λ n. set (before ++ Data name 0 0 ∷ after) n c.set_counts.new.node) place
          ∙ set-append_seam before (Data name 0 0) after c.set_counts.new.node ∙ ap (λ n. before ++ n ∷ after) is,
    )
