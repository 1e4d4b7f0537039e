-- The number at the place stands for the value there; past the numbers there is none.
use Rattle.std.proofs.Common.{◌≡◌, ◌≤◌, ℕ, Some, length, slice_get, sym, ap, ◌∙◌, subst}
use Rattle.std.proofs.lemmas.Option.{slice_get-get_or}
use Rattle.isle_calls.proofs.TreeRoad.Reading.{nth_stands, nth_past, held_told, held_none_told}
use Rattle.isle_meaning.specs.Values.{nth}
use Rattle.isle_calls.proofs.machine.reading.at_place.Goals as goal

pub returns-in-Some : goal.returns-in-Some
returns-in-Some c stored vs each =
    let ns = c.args.numbers.now in let n = c.in-Some.number.now in
    let is : slice_get ns c.index.result ≡ Some n = slice_get-get_or ns c.index.result n c.in-Some.ensures.lookup.3.0
    ∙ ap Some (sym (c.in-Some.ensures.lookup.3.1 n)) in
    let there : slice_get ns c.args.place.0 ≡ Some n = subst (λ (i : ℕ). slice_get ns i ≡ Some n) c.index.ensures is in
    held_told stored (nth vs c.args.place.0) n c.value.result (nth_stands stored vs ns c.args.place.0 n each there)
    (λ v s. c.value.ensures stored v s)

pub returns-in-None : goal.returns-in-None
returns-in-None c stored vs each =
    let past : length c.args.numbers.now ≤ c.args.place.0 = subst (λ (i : ℕ). length c.args.numbers.now ≤ i)
    c.index.ensures c.in-None.ensures.lookup.3 in
    held_none_told stored (nth vs c.args.place.0) (λ v e. nth_past stored vs c.args.numbers.now c.args.place.0 v each past e)
