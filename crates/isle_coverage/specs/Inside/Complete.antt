-- Tests of which each value of a type passes one.
use Rattle.std.specs.Prelude.{◌≡◌, ◌==◌, ◌<◌, ℕ, pos, negsuc, true, false, List, Option, Some, None, Contains, nat_lt, length, slice_get, if◌then◌else◌}
use Rattle.isle_types.specs.declared.ids.Sym.{Sym}
use Rattle.isle_types.specs.declared.ids.TypeId.{TypeId}
use Rattle.isle_types.specs.declared.types.BuiltinType.{BuiltinType}
use Rattle.isle_types.specs.declared.types.BuiltinType.TheVariants.{Bool as BoolType, Int}
use Rattle.isle_types.specs.declared.types.IntType.TheVariants.{U8, I8}
use Rattle.isle_types.specs.TypeEnvs.{type_of_constant}
use Rattle.isle_types.specs.TypeTables.{TypeTables}
use Rattle.isle_rules.specs.declared.terms.Term.{Term}
use Rattle.isle_rules.specs.declared.terms.TermKind.{TermKind}
use Rattle.isle_rules.specs.declared.terms.TermKind.TheVariants.{EnumVariant, Struct, Decl}
use Rattle.isle_rules.specs.Values.{ValueTree}
use Rattle.isle_meaning.specs.GroundValues.{value_of}
use Rattle.isle_meaning.specs.ValueTypes.{IsOfType, TypeKind, integer_kind, truth_kind}
use Rattle.isle_blocks.specs.Building.Naming.{name_by, HaveFewArguments}
use Rattle.isle_blocks.specs.declared.constraint.Constraint.{Constraint}
use Rattle.isle_blocks.specs.declared.constraint.Constraint.TheVariants as tests
use Rattle.isle_blocks.specs.Trees.Compare.{value_meets}
use Rattle.isle_program.specs.declared.program.Program.{Program}
use Rattle.isle_program.specs.Programs.{types_of, terms_of, value_facts}

-- the test of data of a type with so many fields; none of a declared term
abbrev pub test_of_kind : TermKind → TypeId → ℕ → Option Constraint
test_of_kind (EnumVariant variant) ty fields = Some (tests.Variant ty variant (record { 0 = fields }))
test_of_kind Struct ty fields = Some (tests.Struct ty (record { 0 = fields }))
test_of_kind (Decl flags constructor_kind extractor_kind) ty fields = None

-- the test that the data passes which a term makes; none where there are more fields than a test can count
abbrev pub data_test : Term → Option Constraint
data_test term = if nat_lt (length term.arg_tys) 256 then test_of_kind term.kind term.ret_ty (length term.arg_tys) else None

-- the same, where the data is of a type
abbrev pub own_test : TypeId → Term → Option Constraint
own_test ty term = if term.ret_ty.0 == ty.0 then data_test term else None

-- tests have those of all constants of the host of a type
abbrev pub HaveConstants : TypeTables → TypeId → List Constraint → Type 0
HaveConstants types ty all = (name : List ℕ) → type_of_constant types name ≡ Some ty
    → (sym : Sym) × Contains all (tests.ConstPrim sym) × (slice_get types.names sym.0 ≡ Some name)

-- those of so many numbers from 0 on
abbrev pub HaveNumbers : ℕ → TypeId → List Constraint → Type 0
HaveNumbers count ty all = (k : ℕ) → k < count → Contains all (tests.ConstInt (pos k) ty)

-- those of so many from -1 down
abbrev pub HaveNegatives : ℕ → TypeId → List Constraint → Type 0
HaveNegatives count ty all = (k : ℕ) → k < count → Contains all (tests.ConstInt (negsuc k) ty)

-- those of the numbers from -128 to 127
pub record HaveSigned (ty : TypeId) (all : List Constraint) : Type 0 where
  pub numbers : HaveNumbers 128 ty all
  pub negatives : HaveNegatives 128 ty all

-- those of both truth values
pub record HaveTruths (ty : TypeId) (all : List Constraint) : Type 0 where
  pub no : Contains all (tests.ConstBool false ty)
  pub yes : Contains all (tests.ConstBool true ty)

-- those of the literals of a builtin type that has few
abbrev pub HaveLiterals : BuiltinType → TypeId → List Constraint → Type 0
HaveLiterals BoolType ty all = HaveTruths ty all
HaveLiterals (Int U8) ty all = HaveNumbers 256 ty all
HaveLiterals (Int I8) ty all = HaveSigned ty all
HaveLiterals (Int _) ty all = ⊥

-- the kind of a builtin type
abbrev pub kind_of_builtin : BuiltinType → TypeKind
kind_of_builtin BoolType = truth_kind
kind_of_builtin (Int int) = integer_kind int

-- no test is lost
abbrev pub KeepsTests : List Constraint → List Constraint → Type 0
KeepsTests old new = (c : Constraint) → Contains old c → Contains new c

-- Each value of a type passes one of the tests, where no term has more arguments than a test can count.
abbrev pub AreComplete : Program → ℕ → List Constraint → Type 0
AreComplete program ty all = HaveFewArguments (terms_of program).terms → (v : ValueTree) → IsOfType (value_facts program) v ty
    → (c : Constraint) × Contains all c × (value_meets (name_by (types_of program).names) c (value_of (value_facts program) v) ≡ true)
