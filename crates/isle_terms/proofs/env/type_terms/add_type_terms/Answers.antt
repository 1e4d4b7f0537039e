use Rattle.std.proofs.Common.{ap, sym, subst, ◌∙◌, ◌≤◌, length, slice_get}
use Rattle.isle_terms.proofs.Collections.DeclaredForms.{read_at}
use Rattle.isle_terms.proofs.Collections.TypeTerms.{type_turn, types_done}
use Rattle.isle_terms.proofs.env.type_terms.add_type_terms.Goals as goal

pub loop-ty-preserved : goal.loop-ty-preserved
loop-ty-preserved c = λ types shows.
    type_turn c.args.tyenv.now types c.loop-ty.ty-index c.ty-item.result c.args.terms.now.items c.loop-ty.terms.items c.add_terms_of.new.terms.items
    shows (ap (λ all. slice_get all c.loop-ty.ty-index) (sym c.types-ty-items.ensures)
    ∙ read_at c.types-ty-items.result.now c.loop-ty.ty-index c.ty-item.result c.loop-ty-test.true c.ty-item.is)
    (λ builtin is. c.in_ok-add_terms_of.ensures.builtin builtin is)
    (λ type is. c.in_ok-add_terms_of.ensures.defined c.args.tyenv.now.names type is) (c.loop-ty.invariant types shows)

pub returns : goal.returns
returns c = λ types shows.
    types_done c.args.tyenv.now types c.loop-ty.ty-index c.args.terms.now.items c.loop-ty.terms.items shows
    (subst (λ all. length all ≤ c.loop-ty.ty-index) c.types-ty-items.ensures c.loop-ty-test.false) (c.loop-ty.invariant types shows)
