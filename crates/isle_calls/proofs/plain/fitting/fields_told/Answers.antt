use Rattle.std.proofs.Common.{refl, ◌∙◌}
use Rattle.isle_calls.proofs.plain.fitting.fields_told.Goals as goal

pub returns-in_ok-from_slice-in-Some : goal.returns-in_ok-from_slice-in-Some
returns-in_ok-from_slice-in-Some c =
    rw c.in-Some.is (c.in_ok-from_slice-in-Some.field-0, refl, c.in_ok-from_slice-in-Some.ensures.items ∙ c.as_slice.ensures)
