-- The types' names, as a loop over definitions puts them into an environment.
use Rattle.std.proofs.Common.{◌≡◌, ℕ, ◌+◌, ◌<◌, ◌≤◌, ◌&&◌, List, [], ◌∷◌, ◌++◌, map, length, take, get_or, Bool, true, false, Option, Some, None}
use Rattle.std.proofs.Common.{is_none, refl, ap, sym, subst, ◌∙◌, arith}
use Rattle.std.proofs.lemmas.Option.{none-some}
use Rattle.std.proofs.lemmas.Bool.{and_parts, false≢true, true≢false}
use Rattle.std.proofs.lemmas.List.{append-nil, append_assoc, length-append}
use Rattle.isle_ast.specs.declared.ast.Def.{Def}
use Rattle.isle_ast.specs.declared.ast.«Type».{«Type» as TypeTree}
use Rattle.isle_ast.specs.declared.error.Error.{Error}
use Rattle.isle_ast.specs.declared.error.Error.TheVariants.{TypeError}
use Rattle.isle_ast.specs.Errors.{span_at}
use Rattle.isle_types.specs.declared.ids.TypeId.{TypeId}
use Rattle.isle_types.specs.TypeTables.{TypeTables}
use Rattle.isle_types.specs.IntTypes.{builtin_names}
use Rattle.isle_types.specs.Names.{position_of, AreDistinct}
use Rattle.isle_types.specs.Environment.{as_type, type_names}
use Rattle.isle_types.specs.TypeEnvs.{type_of_name}
use Rattle.isle_types.specs.Inside.Readings.{HasTypeNames, AreTypeFaults}
use Rattle.isle_types.proofs.NamePlaces.{once_pushed}
use Rattle.isle_types.proofs.DefinitionTurns.{names_more, passed_over, taken_breaks}
use Rattle.isle_types.proofs.FaultLists.{faults_more, faults_same, faults_none, some_error}

-- what stands after the first definitions, whose types are named
pub record NamedSoFar (defs : List Def) (i : ℕ) (start env : TypeTables) (next : ℕ) : Type 0 where
  pub named : HasTypeNames env (type_names (take i defs))
  pub counted : next ≡ length (type_names (take i defs))
  pub small : next ≤ 13 + i
  pub faults : AreTypeFaults defs env.errors
  pub once : env.errors ≡ [] → AreDistinct (type_names (take i defs))
  pub same : env ≡ record start { names = env.names; numbers = env.numbers; errors = env.errors }

-- whether each name is new after those before it
abbrev all_new : List (List ℕ) → List (List ℕ) → Bool
all_new known [] = true
all_new known (name ∷ names) = is_none (position_of known name) && all_new (known ++ name ∷ []) names

none_from : (o : Option ℕ) → is_none o ≡ true → o ≡ None
none_from None is = refl
none_from (Some i) is = absurd (false≢true is)

some_from : (o : Option ℕ) → is_none o ≡ false → (i : ℕ) × (o ≡ Some i)
some_from None is = absurd (true≢false is)
some_from (Some i) is = (i, refl)

once_added : (known names : List (List ℕ)) → AreDistinct known → all_new known names ≡ true → AreDistinct (known ++ names)
once_added known [] once new = subst (λ (ns : List (List ℕ)). AreDistinct ns) (sym (append-nil known)) once
once_added known (name ∷ names) once new =
    let parts = and_parts (is_none (position_of known name)) (all_new (known ++ name ∷ []) names) new in
    subst (λ (ns : List (List ℕ)). AreDistinct ns) (append_assoc known (name ∷ []) names)
    (once_added (known ++ name ∷ []) names (once_pushed known name once (none_from (position_of known name) parts.0)) parts.1)

-- the builtin types' names differ
pub builtin_once : AreDistinct builtin_names
builtin_once = once_added [] builtin_names (λ x i j at _. absurd (none-some x at)) refl

pub named_at_start : (defs : List Def) (env : TypeTables) → HasTypeNames env builtin_names → env.errors ≡ [] → NamedSoFar defs 0 env env 13
named_at_start defs env named none = record {
  named = named;
  counted = refl;
  small = omega arith;
  faults = faults_none defs env.errors none;
  once = λ _. builtin_once;
  same = refl;
}

same_on : (start old new : TypeTables) (names : List (List ℕ)) (numbers : List (List ℕ × TypeId)) (errors : List Error)
    → new ≡ record old { names = names; numbers = numbers; errors = errors }
    → old ≡ record start { names = old.names; numbers = old.numbers; errors = old.errors }
    → new ≡ record start { names = new.names; numbers = new.numbers; errors = new.errors }
same_on start old new names numbers errors is same =
    subst (λ (env : TypeTables). env ≡ record start { names = env.names; numbers = env.numbers; errors = env.errors }) (sym is)
    (ap (λ (env : TypeTables). record env { names = names; numbers = numbers; errors = errors }) same)

-- another definition
pub named_passing : (defs : List Def) (i : ℕ) (def : Def) (start env : TypeTables) (next : ℕ) → i < length defs → def ≡ get_or defs i def
    → as_type def ≡ None → NamedSoFar defs i start env next → NamedSoFar defs (i + 1) start env next
named_passing defs i def start env next low is none so_far =
    let same : type_names (take (i + 1) defs) ≡ type_names (take i defs) = ap
    (λ (trees : List TypeTree). builtin_names ++ map (λ (type : TypeTree). type.name.0) trees) (passed_over as_type defs i def low is none) in
    record {
      named = subst (HasTypeNames env) (sym same) so_far.named;
      counted = so_far.counted ∙ ap length (sym same);
      small = omega (arith, so_far.small);
      faults = so_far.faults;
      once = λ clean. subst (λ (ns : List (List ℕ)). AreDistinct ns) (sym same) (so_far.once clean);
      same = so_far.same;
    }

pushed_length : (known more : List (List ℕ)) (name : List ℕ) (next : ℕ) → more ≡ known ++ name ∷ [] → next ≡ length known → next + 1 ≡ length more
pushed_length known more name next is counted =
    ap (λ n. n + 1) counted ∙ sym (length-append known (name ∷ [])) ∙ ap length (sym is)

-- a definition of a type with a new name
pub named_newly : (defs : List Def) (i : ℕ) (def : Def) (tree : TypeTree) (start old new : TypeTables) (next : ℕ) → i < length defs
    → def ≡ get_or defs i def → as_type def ≡ Some tree → NamedSoFar defs i start old next
    → HasTypeNames new (type_names (take i defs) ++ tree.name.0 ∷ []) → new ≡ record old { names = new.names; numbers = new.numbers }
    → true ≡ is_none (position_of (type_names (take i defs)) tree.name.0) → NamedSoFar defs (i + 1) start new (next + 1)
named_newly defs i def tree start old new next low is some so_far named same fresh =
    let more = names_more defs i def tree low is some in
    let errors : new.errors ≡ old.errors = ap (λ (env : TypeTables). env.errors) same in
    record {
      named = subst (HasTypeNames new) (sym more) named;
      counted = pushed_length (type_names (take i defs)) (type_names (take (i + 1) defs)) tree.name.0 next more so_far.counted;
      small = omega (arith, so_far.small);
      faults = faults_same defs old.errors new.errors errors so_far.faults;
      once = λ clean. subst (λ (ns : List (List ℕ)). AreDistinct ns) (sym more)
          (once_pushed (type_names (take i defs)) tree.name.0 (so_far.once (sym errors ∙ clean))
          (none_from (position_of (type_names (take i defs)) tree.name.0) (sym fresh)));
      same = same_on start old new new.names new.numbers old.errors same so_far.same;
    }

-- a definition of a type whose name is taken
pub named_again : (defs : List Def) (i : ℕ) (def : Def) (tree : TypeTree) (message : List ℕ) (start old middle new : TypeTables) (next : ℕ)
    → i < length defs → def ≡ get_or defs i def → as_type def ≡ Some tree → NamedSoFar defs i start old next
    → HasTypeNames middle (type_names (take i defs) ++ tree.name.0 ∷ [])
    → middle ≡ record old { names = middle.names; numbers = middle.numbers }
    → false ≡ is_none (position_of (type_names (take i defs)) tree.name.0)
    → new ≡ record middle { errors = middle.errors ++ TypeError message (span_at tree.pos) ∷ [] }
    → NamedSoFar defs (i + 1) start new (next + 1)
named_again defs i def tree message start old middle new next low is some so_far named same taken reported =
    let more = names_more defs i def tree low is some in
    let found = some_from (position_of (type_names (take i defs)) tree.name.0) (sym taken) in
    let pushed : new.errors ≡ old.errors ++ TypeError message (span_at tree.pos) ∷ [] = ap (λ (env : TypeTables). env.errors) reported
    ∙ ap (λ (env : TypeTables). env.errors ++ TypeError message (span_at tree.pos) ∷ []) same in
    record {
      named = λ name. ap (λ (env : TypeTables). type_of_name env name) reported ∙ subst (HasTypeNames middle) (sym more) named name;
      counted = pushed_length (type_names (take i defs)) (type_names (take (i + 1) defs)) tree.name.0 next more so_far.counted;
      small = omega (arith, so_far.small);
      faults = faults_more defs old.errors new.errors (TypeError message (span_at tree.pos)) pushed so_far.faults
          (taken_breaks defs i def tree found.0 low is some found.1);
      once = λ clean. absurd (some_error old.errors new.errors (TypeError message (span_at tree.pos)) pushed clean);
      same = same_on start middle new middle.names middle.numbers (middle.errors ++ TypeError message (span_at tree.pos) ∷ []) reported
          (same_on start old middle middle.names middle.numbers old.errors same so_far.same);
    }
