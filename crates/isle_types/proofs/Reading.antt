-- What is read of all definitions is the environment that they make.
use Rattle.std.proofs.Common.{◌≡◌, ℕ, ◌<◌, ◌==◌, Bool, true, false, List, [], ◌∷◌, ◌++◌, map, length, Vec, vec_len, refl, ap, sym, subst, ◌∙◌}
use Rattle.std.proofs.Common.{arith}
use Rattle.std.specs.Global.{Global}
use Rattle.std.proofs.lemmas.Bool.{eqb-true, eqb-false}
use Rattle.std.proofs.lemmas.List.{nil_from_length}
use Rattle.std.specs.Option.{option_map}
use Rattle.std.specs.List.{AllZip}
use Rattle.isle_ast.specs.declared.ast.Def.{Def}
use Rattle.isle_ast.specs.declared.ast.«Type».{«Type» as TypeTree}
use Rattle.isle_ast.specs.declared.refusal.Refusal.{Refusal}
use Rattle.isle_ast.specs.declared.refusal.Refusal.TheVariants.{Fault, Memory}
use Rattle.isle_ast.specs.Errors.{IfFault}
use Rattle.isle_types.specs.declared.types.«Type».{«Type» as KnownType}
use Rattle.isle_types.specs.TypeTables.{TypeTables}
use Rattle.isle_types.specs.IntTypes.{builtin_names}
use Rattle.isle_types.specs.Types.{id_of}
use Rattle.isle_types.specs.Names.{position_of, AreDistinct, KeepsNames}
use Rattle.isle_types.specs.Environment.{Environment, NamedType, IsType, Makes, type_definitions, constant_definitions, type_names, names_in}
use Rattle.isle_types.specs.TypeEnvs.{type_at, type_of_name, CountUp, IsShown, Shows}
use Rattle.isle_types.specs.Inside.Readings.{HasTypeNames, HasReadTypes, ReadsConstants}
use Rattle.isle_containers.proofs.Lists.{AllZip-weaker}
use Rattle.isle_types.proofs.ShownTypes.{type_kept}

-- types have the names of their definitions
pub same_names : (known : List (List ℕ)) (trees : List TypeTree) (types : List NamedType) → AllZip (IsType known) trees types
    → map (λ (type : NamedType). type.name) types ≡ map (λ (tree : TypeTree). tree.name.0) trees
same_names known [] [] each = refl
same_names known [] (type ∷ types) each = absurd each
same_names known (tree ∷ trees) [] each = absurd each
same_names known (tree ∷ trees) (type ∷ types) each =
    ap (λ (name : List ℕ). name ∷ map (λ (other : NamedType). other.name) types) each.0.name
    ∙ ap (λ (names : List (List ℕ)). tree.name.0 ∷ names) (same_names known trees types each.1)

pub read_environment : (defs : List Def) (typed env : TypeTables) → AreDistinct (type_names defs) → HasTypeNames typed (type_names defs)
    → HasReadTypes (type_definitions defs) (type_names defs) typed → ReadsConstants (type_names defs) env (constant_definitions defs)
    → KeepsNames typed.names env.names → env ≡ record typed { names = env.names; constants = env.constants; errors = env.errors }
    → (environment : Environment) × (Makes defs environment × Shows env environment)
read_environment defs typed env once named types constants kept same =
    let environment : Environment = record { types = types.read.types; constants = constants.constants } in
    let names : names_in environment ≡ type_names defs = ap (λ (ns : List (List ℕ)). builtin_names ++ ns)
    (same_names (type_names defs) (type_definitions defs) types.read.types types.read.meant) in (
      environment,
      (
        record {
          names = once;
          types = types.read.meant;
          constants = constants.meant;
        },
        record {
          made = types.made;
          all = ap (λ (tables : TypeTables). tables.types) same ∙ types.all;
          types = AllZip-weaker (IsShown typed.names) (IsShown env.names)
              (type_kept typed.names env.names kept) types.read.types types.made types.read.shown;
          counted = subst (CountUp (λ (type : KnownType). (id_of type).0) 0) (sym (ap (λ (tables : TypeTables). tables.types) same)) types.counted;
          named = λ name. ap (λ (tables : TypeTables). type_of_name tables name) same ∙ named name
              ∙ ap (λ (ns : List (List ℕ)). option_map type_at (position_of ns name)) (sym names);
          constants = constants.shown;
        },
      ),
    )

-- a vector that is empty has no items
pub no_items : {X : Type 0} (xs : Vec X Global) (empty : Bool) → empty ≡ (vec_len xs == 0) → empty ≡ true → xs.items ≡ []
no_items xs empty is holds = nil_from_length xs.items (sym xs.ok.0 ∙ eqb-true (vec_len xs) 0 (sym is ∙ holds))

-- one that isn't has some
pub some_items : {X : Type 0} (xs : Vec X Global) (empty : Bool) → empty ≡ (vec_len xs == 0) → empty ≡ false → 0 < length xs.items
some_items xs empty is fails = subst (λ n. 0 < n) xs.ok.0 (positive (vec_len xs) (eqb-false (vec_len xs) 0 (sym is ∙ fails)))
  where
    positive : (n : ℕ) → (n ≡ 0 → ⊥) → 0 < n
    positive n apart = omega arith

-- what follows from what is said of a fault's errors
pub fault_weaker : {E : Type 0} (P Q : E → Type 0) (answer : Refusal E) → ((error : E) → P error → Q error) → IfFault answer P → IfFault answer Q
fault_weaker P Q (Fault error) weaker known = weaker error known
fault_weaker P Q (Memory e) weaker known = tt
