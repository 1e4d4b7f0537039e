use Rattle.std.proofs.Common.{ap, sym, ◌∙◌}
use Rattle.isle_types.specs.Names.{position_of}
use Rattle.isle_terms.specs.Inside.Collecting.ReadConverters.{unknown_inner, unknown_outer, unknown_term, second_of_types}
use Rattle.isle_terms.proofs.Collections.ReadConverters.{unknown_type, known_type}
use Rattle.isle_terms.proofs.env.converters.read_converter.Goals as goal

pub returns-in_default-clause-ill : goal.returns-in_default-clause-ill
returns-in_default-clause-ill c = λ types names shows placed.
    unknown_inner (unknown_type _ types _ shows (sym c.get_type_by_name.ensures ∙ c.in_default.is))

pub returns-in_default-get_type_by_name-clause-ill : goal.returns-in_default-get_type_by_name-clause-ill
returns-in_default-get_type_by_name-clause-ill c = λ types names shows placed.
    unknown_outer (unknown_type _ types _ shows (sym c.get_type_by_name-2.ensures ∙ c.in_default-get_type_by_name.is))

pub returns-in_default-place-clause-ill : goal.returns-in_default-place-clause-ill
returns-in_default-place-clause-ill c = λ types names shows placed.
    unknown_term (ap (position_of names) (sym c.as_str.ensures) ∙ sym (c.place.ensures names placed) ∙ c.in_default-place.is)

pub returns-then-contains_key-clause-ill : goal.returns-then-contains_key-clause-ill
returns-then-contains_key-clause-ill c = λ types names shows placed.
    second_of_types c.in-Some.inner.0 c.in-Some-get_type_by_name.outer.0
    (known_type _ types _ c.in-Some.inner shows (sym c.get_type_by_name.ensures ∙ c.in-Some.is))
    (known_type _ types _ c.in-Some-get_type_by_name.outer shows (sym c.get_type_by_name-2.ensures ∙ c.in-Some-get_type_by_name.is))
    (sym c.contains_key.ensures ∙ c.if-contains_key.true)
