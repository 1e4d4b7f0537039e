-- The external terms that a world answers.
use Rattle.std.specs.Prelude.{◌≡◌, ℕ, Bool, true, if◌then◌else◌, not, List, [], ◌∷◌, map, Option, Some, None, IfSome, slice_get}
use Rattle.std.specs.Option.{option_map, option_and_then}
use Rattle.isle_types.specs.declared.ids.TermId.{TermId}
use Rattle.isle_rules.specs.declared.terms.Term.{Term}
use Rattle.isle_rules.specs.declared.terms.TermKind.{TermKind}
use Rattle.isle_rules.specs.declared.terms.TermKind.TheVariants.{EnumVariant, Struct, Decl}
use Rattle.isle_rules.specs.declared.terms.ExtractorKind.{ExtractorKind}
use Rattle.isle_rules.specs.declared.terms.ExtractorKind.TheVariants.{InternalExtractor, ExternalExtractor}
use Rattle.isle_rules.specs.Terms.{is_host_constructor}
use Rattle.isle_rules.specs.Values.{ValueTrees}
use Rattle.isle_meaning.specs.ValueTypes.{ValueFacts, AreOfTypes}
use Rattle.isle_program.specs.declared.program.Program.{Program}
use Rattle.isle_values.specs.declared.worlds.entry.Side.{Side}
use Rattle.isle_values.specs.declared.worlds.external.External.{External}
use Rattle.isle_values.specs.declared.worlds.entry.Side.TheVariants.{Constructor, Extractor}
use Rattle.isle_values.specs.Worlds.Entries.{EntryTree}
use Rattle.isle_program.specs.Programs.{number_of, program_term}
use Rattle.isle_values.specs.Values.Settled.{settled_all}

-- the types of the values that a call hands over and that its answer has, and whether it may answer none
pub record ExternalTypes : Type 0 where
  pub takes : List ℕ
  pub gives : List ℕ
  pub may_fail : Bool

-- a constructor of the host makes a value of the term's type of values of the arguments' types
abbrev pub constructor_types : Bool → Bool → ℕ → List ℕ → Option ExternalTypes
constructor_types is_host partial ret args = if is_host then Some (record { takes = args; gives = ret ∷ []; may_fail = partial }) else None

-- an extractor of the host takes a value of the term's type apart into values of the arguments' types
abbrev pub extractor_types : Option ExtractorKind → ℕ → List ℕ → Option ExternalTypes
extractor_types None ret args = None
extractor_types (Some (InternalExtractor template)) ret args = None
extractor_types (Some (ExternalExtractor name infallible pos)) ret args = Some (record { takes = ret ∷ []; gives = args; may_fail = not infallible })

-- what a world may be asked of a side of a term of a kind; nothing of a term that is `multi`
abbrev pub asked_of_kind : Side → TermKind → ℕ → List ℕ → Option ExternalTypes
asked_of_kind side (EnumVariant variant) ret args = None
asked_of_kind side Struct ret args = None
asked_of_kind Constructor (Decl flags constructor_kind extractor_kind) ret args =
    if flags.multi then None else constructor_types (is_host_constructor constructor_kind) flags.partial ret args
asked_of_kind Extractor (Decl flags constructor_kind extractor_kind) ret args =
    if flags.multi then None else extractor_types extractor_kind ret args

abbrev pub asked_of : Side → Term → Option ExternalTypes
asked_of side term = asked_of_kind side term.kind term.ret_ty.0 (map number_of term.arg_tys)

-- what a world may be asked of a side of a term, by number and by name
abbrev pub asked_by : Program → Side → TermId → Option ExternalTypes
asked_by program side term = option_and_then (asked_of side) (slice_get program.termenv.terms term.0)

abbrev pub asked_named : Program → Side → List ℕ → Option ExternalTypes
asked_named program side name = option_and_then (asked_by program side) (program_term program name)

-- values, if there are some, are of types, one each
abbrev pub IfOfTypes : ValueFacts → Option ValueTrees → List ℕ → Type 0
IfOfTypes facts part types = IfSome part (λ vs. AreOfTypes facts vs types)

-- a call or an answer, read at types
abbrev pub settled_part : ValueFacts → Option ValueTrees → List ℕ → Option ValueTrees
settled_part facts part types = option_map (λ vs. settled_all facts vs types) part

-- an entry, read at the types of its term
abbrev pub settled_entry : ValueFacts → ExternalTypes → EntryTree → EntryTree
settled_entry facts types e = record {
  side = e.side;
  term = e.term;
  call = settled_part facts e.call types.takes;
  answer = settled_part facts e.answer types.gives;
}

-- an entry is of the types of its term: so are the values of its call and its answer, and none is answered only where that may be
pub record IsTypedEntry (facts : ValueFacts) (types : ExternalTypes) (e : EntryTree) : Type 0 where
  pub call : IfOfTypes facts e.call types.takes
  pub answer : IfOfTypes facts e.answer types.gives
  pub none : e.answer ≡ None → types.may_fail ≡ true

-- types, as the code has them
abbrev pub types_shown : External → ExternalTypes
types_shown external = record { takes = map number_of external.takes.now; gives = map number_of external.gives.now; may_fail = external.may_fail }
