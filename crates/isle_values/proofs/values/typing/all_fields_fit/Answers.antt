use Rattle.std.proofs.Common.{◌≡◌, ◌+◌, inl, inr, slice_get, get_or, sym, ◌∙◌, ap, subst, arith}
use Rattle.std.proofs.lemmas.Bool.{cases_lt}
use Rattle.std.proofs.lemmas.Option.{slice_get_within, slice_get-get_or}
use Rattle.isle_values.specs.declared.values.Node.TheVariants.{Opaque}
use Rattle.isle_program.specs.Programs.{value_facts}
use Rattle.isle_values.specs.Values.TypedNodes.{FieldsFit}
use Rattle.isle_values.proofs.values.typing.all_fields_fit.Goals as goal

pub returns-then-not-fields_fit : goal.returns-then-not-fields_fit
returns-then-not-fields_fit c =
    let nodes = c.args.nodes.now in let at = c.loop-at.at in
    let here = slice_get-get_or nodes at (Opaque 0) c.loop-at-test.true in (
      λ t. absurd cc,
      λ all.
          let yes = (c.fields_fit.ensures (get_or nodes at (Opaque 0)) here).1 (all at (get_or nodes at (Opaque 0)) here) in
          let not = c.if-not-fields_fit.true in absurd cc,
    )

pub loop-at-preserved : goal.loop-at-preserved
loop-at-preserved c = λ k node low is. elim (cases_lt k c.loop-at.at) [
  | inl less ↦ c.loop-at.invariant k node less is
  | inr more ↦
      let here : k ≡ c.loop-at.at = omega (arith, more, low) in
      let fits = c.fields_fit.ensures node (ap (slice_get c.args.nodes.now) (sym here) ∙ is) in
      subst (λ j. FieldsFit (value_facts c.args.program.now) c.args.nodes.now (j + 1) node) (sym here)
      (fits.0 (let no = c.if-not-fields_fit.false in cc))
]

pub returns : goal.returns
returns c = (
  λ t at node is. c.loop-at.invariant at node (let within = slice_get_within c.args.nodes.now at node is in
      let done = c.loop-at-test.false in omega (arith, within, done)) is,
  λ h. cc,
)
