-- The builtin types, as a loop puts them into an environment.
use Rattle.std.proofs.Common.{◌≡◌, ℕ, ◌+◌, ◌<◌, ◌≤◌, List, [], ◌∷◌, ◌++◌, map, length, take, get_or, None, refl, ap, sym, subst, ◌∙◌}
use Rattle.std.proofs.lemmas.List.{map-append, length-map, take_all}
use Rattle.isle_types.specs.declared.types.BuiltinType.{BuiltinType}
use Rattle.isle_types.specs.declared.types.«Type».{«Type» as KnownType}
use Rattle.isle_types.specs.declared.types.«Type».TheVariants.{Builtin}
use Rattle.isle_types.specs.TypeTables.{TypeTables, no_tables}
use Rattle.isle_types.specs.IntTypes.{builtin_name, builtin_types}
use Rattle.isle_types.specs.Types.{id_of}
use Rattle.isle_types.specs.Environment.{builtin_environment}
use Rattle.isle_types.specs.TypeEnvs.{type_of_constant, CountUp, Shows}
use Rattle.isle_types.specs.Inside.Readings.{HasTypeNames}
use Rattle.isle_types.proofs.DefinitionTurns.{take_here}

-- what stands after the first builtin types
pub record BuiltinSoFar (items : List BuiltinType) (i : ℕ) (env : TypeTables) : Type 0 where
  pub types : env.types ≡ map Builtin (take i items)
  pub named : HasTypeNames env (map builtin_name (take i items))
  pub constants : (name : List ℕ) → type_of_constant env name ≡ None
  pub errors : env.errors ≡ []

pub builtin_at_start : (items : List BuiltinType) (env : TypeTables) → env ≡ no_tables → BuiltinSoFar items 0 env
builtin_at_start items env none =
    subst (BuiltinSoFar items 0) (sym none) (record { types = refl; named = λ name. refl; constants = λ name. refl; errors = refl })

-- how many types there are
pub builtin_counted : (items : List BuiltinType) (i : ℕ) (env : TypeTables) → BuiltinSoFar items i env
    → length env.types ≡ length (map builtin_name (take i items))
builtin_counted items i env so_far =
    ap length so_far.types ∙ length-map (take i items) Builtin ∙ sym (length-map (take i items) builtin_name)

mapped_more : {X Y : Type 0} (f : X → Y) (items : List X) (i : ℕ) (x : X) → i < length items → x ≡ get_or items i x
    → map f (take (i + 1) items) ≡ map f (take i items) ++ f x ∷ []
mapped_more f items i x low is = ap (map f) (take_here items i x low is) ∙ map-append f (take i items) (x ∷ [])

-- one more builtin type
pub builtin_more : (items : List BuiltinType) (i : ℕ) (builtin : BuiltinType) (old new : TypeTables) → i < length items
    → builtin ≡ get_or items i builtin → BuiltinSoFar items i old → new.types ≡ old.types ++ Builtin builtin ∷ []
    → HasTypeNames new (map builtin_name (take i items) ++ builtin_name builtin ∷ [])
    → new ≡ record old { names = new.names; types = new.types; numbers = new.numbers } → BuiltinSoFar items (i + 1) new
builtin_more items i builtin old new low is so_far types has same = record {
  types = types ∙ ap (λ ts. ts ++ Builtin builtin ∷ []) so_far.types ∙ sym (mapped_more Builtin items i builtin low is);
  named = subst (HasTypeNames new) (sym (mapped_more builtin_name items i builtin low is)) has;
  constants = λ name. ap (λ (env : TypeTables). type_of_constant env name) same ∙ so_far.constants name;
  errors = ap (λ (env : TypeTables). env.errors) same ∙ so_far.errors;
}

-- the builtin types' ids count up
pub builtins_count : CountUp (λ (type : KnownType). (id_of type).0) 0 (map Builtin builtin_types)
builtins_count = (refl, (refl, (refl, (refl, (refl, (refl, (refl, (refl, (refl, (refl, (refl, (refl, (refl, tt)))))))))))))

-- an environment with all builtin types shows no others
pub builtin_shown : (i : ℕ) (env : TypeTables) → length builtin_types ≤ i → BuiltinSoFar builtin_types i env → Shows env builtin_environment
builtin_shown i env all so_far =
    let taken : take i builtin_types ≡ builtin_types = take_all i builtin_types all in
    let types : env.types ≡ map Builtin builtin_types = so_far.types ∙ ap (map Builtin) taken in
    record {
      made = [];
      all = types;
      types = tt;
      counted = subst (CountUp (λ (type : KnownType). (id_of type).0) 0) (sym types) builtins_count;
      named = subst (λ (builtins : List BuiltinType). HasTypeNames env (map builtin_name builtins)) taken so_far.named;
      constants = so_far.constants;
    }
