-- What a rule is read under, and what is looked up there.
use Rattle.std.specs.Prelude.{ℕ, Bool, List, Option}
use Rattle.std.specs.Option.{option_map}
use Rattle.isle_types.specs.declared.ids.TypeId.{TypeId}
use Rattle.isle_terms.specs.declared.translate.Context.{Context}
use Rattle.isle_terms.specs.declared.translate.names.Role.{Role}
use Rattle.isle_terms.specs.declared.translate.names.Role.TheVariants.{Constructor, Extractor}
use Rattle.isle_terms.specs.declared.translate.names.NumberedTerm.{NumberedTerm}
use Rattle.isle_rules.specs.Signatures.{TermForm, Signature, has_constructor_form, has_extractor_form}
use Rattle.isle_terms.specs.Inside.Readings.Outcomes.{Known}
use Rattle.isle_terms.specs.Inside.Shown.KnownNames.{known_of}
use Rattle.isle_rules.specs.Shown.ShownTerms.{term_shown}

-- what is known of names
abbrev pub known_in : Context → Known
known_in context = known_of context.tyenv.now context.termenv.now

-- whether a term of a form can be used so
abbrev pub usable_in : Role → TermForm → Bool
usable_in Constructor = has_constructor_form
usable_in Extractor = has_extractor_form

-- a term's number and the term, where these are the interned names
abbrev pub numbered_shown : List (List ℕ) → NumberedTerm → ℕ × Signature
numbered_shown names numbered = (numbered.id.0, term_shown names numbered.term.now)

-- the number of the type that is expected, if one is
abbrev pub expected : Option TypeId → Option ℕ
expected want = option_map (λ (ty : TypeId). ty.0) want
