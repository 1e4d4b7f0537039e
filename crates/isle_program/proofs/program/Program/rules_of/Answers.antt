use Rattle.std.proofs.Common.{◌≡◌, ℕ, Vec, List, length, Some, None, slice_get, refl, sym, ap, ◌∙◌, subst}
use Rattle.std.specs.Global.{Global}
use Rattle.std.proofs.lemmas.Option.{slice_get_read, slice_get_past}
use Rattle.isle_program.specs.Plain.LaidOut.Rules.{listed_in, listed_at}
use Rattle.isle_program.specs.Meanings.{checked}
use Rattle.isle_meaning.specs.PlainRuns.{AreTriedInOrder}
use Rattle.isle_program.proofs.Plain.LaidOut.Told.{order_told}
use Rattle.isle_program.proofs.Plain.LaidOut.Tried.{tried_in_order}
use Rattle.isle_program.proofs.program.Program.rules_of.Goals as goal

pub returns-in-Some : goal.returns-in-Some
returns-in-Some c =
    let program = c.args.self.now in
    let lists : List (Vec ℕ Global) = program.rules_of.items in
    let here : slice_get lists c.args.term.0 ≡ Some c.in-Some.places.now =
    ap (slice_get lists) (sym c.index.ensures) ∙ ap (λ (l : List (Vec ℕ Global)). slice_get l c.index.result) (sym c.deref.ensures.value)
    ∙ slice_get_read c.deref.result.now (length c.deref.result.now) c.index.result c.in-Some.places.now refl
    c.in-Some.ensures.lookup.3.0 c.in-Some.ensures.lookup.1 in
    subst (λ (places : List ℕ). AreTriedInOrder (checked program) c.args.term.0 places)
    (ap listed_in here ∙ sym c.as_slice.ensures.value) (tried_in_order program c.args.term.0 (listed_at lists c.args.term.0)
    (order_told program.termenv.rules lists program.ordered c.args.term.0))

pub returns-in-None : goal.returns-in-None
returns-in-None c =
    let program = c.args.self.now in
    let lists : List (Vec ℕ Global) = program.rules_of.items in
    let past : slice_get lists c.args.term.0 ≡ None =
    ap (slice_get lists) (sym c.index.ensures) ∙ ap (λ (l : List (Vec ℕ Global)). slice_get l c.index.result) (sym c.deref.ensures.value)
    ∙ slice_get_past c.deref.result.now c.index.result c.in-None.ensures.lookup.3 in
    subst (λ (places : List ℕ). AreTriedInOrder (checked program) c.args.term.0 places) (ap listed_in past)
    (tried_in_order program c.args.term.0 (listed_at lists c.args.term.0)
    (order_told program.termenv.rules lists program.ordered c.args.term.0))
