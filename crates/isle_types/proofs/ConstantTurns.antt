-- The constants, as a loop over definitions keeps them.
use Rattle.std.proofs.Common.{◌≡◌, ℕ, ◌+◌, ◌<◌, List, [], ◌∷◌, ◌++◌, length, take, get_or, Bool, true, false, cond, if◌then◌else◌, Option, Some}
use Rattle.std.proofs.Common.{None, MatchOption, is_some, refl, ap, sym, subst, ◌∙◌, slice_get, bytes_eq}
use Rattle.std.specs.Option.{option_map}
use Rattle.std.proofs.lemmas.Option.{none-some, same_Some}
use Rattle.std.proofs.lemmas.Slice.Zip.{all_zipped_more}
use Rattle.isle_ast.specs.declared.ast.Ident.{Ident}
use Rattle.isle_ast.specs.declared.ast.Def.{Def}
use Rattle.isle_ast.specs.declared.error.Error.{Error}
use Rattle.isle_ast.specs.declared.error.Error.TheVariants.{TypeError}
use Rattle.isle_ast.specs.Errors.{span_at}
use Rattle.isle_types.specs.declared.ids.TypeId.{TypeId}
use Rattle.isle_types.specs.TypeTables.{TypeTables}
use Rattle.isle_types.specs.Names.{position_of, KeepsNames}
use Rattle.isle_types.specs.Environment.{IsConstant, as_constant, constant_definitions, constant_in, type_names}
use Rattle.isle_types.specs.TypeFaults.{unknown_constant_type}
use Rattle.isle_types.specs.TypeEnvs.{type_of_name, type_of_constant, type_at}
use Rattle.isle_types.specs.Inside.Readings.{HasTypeNames, ReadsConstants, AreTypeFaults}
use Rattle.isle_types.proofs.NamePlaces.{place_found}
use Rattle.isle_types.proofs.DefinitionTurns.{passed_over, taken_up, taken_place}
use Rattle.isle_types.proofs.FaultLists.{faults_more, faults_same, some_error}

-- what stands after the first definitions, whose constants are kept
pub record KeptSoFar (defs : List Def) (i : ℕ) (start env : TypeTables) : Type 0 where
  pub read : env.errors ≡ [] → (start.errors ≡ []) × ReadsConstants (type_names defs) env (constant_definitions (take i defs))
  pub faults : AreTypeFaults defs env.errors
  pub kept : KeepsNames start.names env.names
  pub same : env ≡ record start { names = env.names; constants = env.constants; errors = env.errors }

-- what is known where an option isn't some value
pub where_none : {X : Type 0} (o : Option X) (P : Type 0) (Q : X → Type 0) → MatchOption o P Q → ((x : X) → o ≡ Some x → ⊥) → P
where_none None P Q known other = known
where_none (Some x) P Q known other = absurd (other x refl)

-- of constants with one more behind, the last counts
pub constant_pushed : (constants : List (List ℕ × ℕ)) (last : List ℕ × ℕ) (name : List ℕ)
    → constant_in (constants ++ last ∷ []) name ≡ cond (bytes_eq name last.0) (Some last.1) (constant_in constants name)
constant_pushed [] last name = refl
constant_pushed (first ∷ constants) last name =
    ap (λ (o : Option ℕ). cond (is_some o) o (cond (bytes_eq name first.0) (Some first.1) None)) (constant_pushed constants last name)
    ∙ through (bytes_eq name last.0)
  where
    through : (b : Bool) → cond (is_some (cond b (Some last.1) (constant_in constants name))) (cond b (Some last.1) (constant_in constants name))
        (cond (bytes_eq name first.0) (Some first.1) None) ≡ cond b (Some last.1) (constant_in (first ∷ constants) name)
    through true = refl
    through false = refl

-- another definition
pub kept_passing : (defs : List Def) (i : ℕ) (def : Def) (start env : TypeTables) → i < length defs → def ≡ get_or defs i def
    → as_constant def ≡ None → KeptSoFar defs i start env → KeptSoFar defs (i + 1) start env
kept_passing defs i def start env low is none so_far =
    let same : constant_definitions (take (i + 1) defs) ≡ constant_definitions (take i defs) = passed_over as_constant defs i def low is none in
    record {
      read = λ clean. let before = so_far.read clean in (before.0, subst (ReadsConstants (type_names defs) env) (sym same) before.1);
      faults = so_far.faults;
      kept = so_far.kept;
      same = so_far.same;
    }

known_type : (known : List (List ℕ)) (name : List ℕ) (id : TypeId) (o : Option ℕ) → position_of known name ≡ o → option_map type_at o ≡ Some id
    → slice_get known id.0 ≡ Some name
known_type known name id None found is = absurd (none-some id is)
known_type known name id (Some i) found is =
    subst (λ j. slice_get known j ≡ Some name) (ap (λ (ty : TypeId). ty.0) (same_Some (type_at i) id is)) (place_found known name i found)

same_after : (start old new : TypeTables) (names : List (List ℕ)) (constants : List (List ℕ × TypeId)) (errors : List Error)
    → old ≡ record start { names = old.names; constants = old.constants; errors = old.errors }
    → new ≡ record old { names = names; constants = constants; errors = errors }
    → new ≡ record start { names = new.names; constants = new.constants; errors = new.errors }
same_after start old new names constants errors before is =
    subst (λ (env : TypeTables). env ≡ record start { names = env.names; constants = env.constants; errors = env.errors }) (sym is)
    (ap (λ (env : TypeTables). record env { names = names; constants = constants; errors = errors }) before)

-- a constant of a known type
pub kept_more : (defs : List Def) (i : ℕ) (def : Def) (name ty : Ident) (id : TypeId) (start old new : TypeTables) → i < length defs
    → def ≡ get_or defs i def → as_constant def ≡ Some (name, ty) → HasTypeNames start (type_names defs) → KeptSoFar defs i start old
    → type_of_name old ty.0 ≡ Some id
    → ((q : List ℕ) → type_of_constant new q ≡ (if bytes_eq q name.0 then Some id else type_of_constant old q))
    → KeepsNames old.names new.names → new ≡ record old { names = new.names; constants = new.constants }
    → KeptSoFar defs (i + 1) start new
kept_more defs i def name ty id start old new low is some named so_far known set kept same =
    let errors : new.errors ≡ old.errors = ap (λ (env : TypeTables). env.errors) same in
    let more : constant_definitions (take (i + 1) defs) ≡ constant_definitions (take i defs) ++ (name, ty) ∷ [] = taken_up as_constant defs i def
    (name, ty) low is some in
    let meant = known_type (type_names defs) ty.0 id (position_of (type_names defs) ty.0) refl
    (sym (named ty.0) ∙ sym (ap (λ (env : TypeTables). type_of_name env ty.0) so_far.same) ∙ known) in
    record {
      read = λ clean. let before = so_far.read (sym errors ∙ clean) in
          let reads = before.1 in (
            before.0,
            subst (ReadsConstants (type_names defs) new) (sym more) (record {
              constants = reads.constants ++ (name.0, id.0) ∷ [];
              meant = all_zipped_more (IsConstant (type_names defs)) (constant_definitions (take i defs)) reads.constants (name, ty)
                  (name.0, id.0) reads.meant (record { name = refl; type = meant });
              shown = λ q. set q ∙ ap (λ o. cond (bytes_eq q name.0) (Some id) o) (reads.shown q) ∙ through q (bytes_eq q name.0) reads.constants
                  ∙ ap (option_map type_at) (sym (constant_pushed reads.constants (name.0, id.0) q));
            }),
          );
      faults = faults_same defs old.errors new.errors errors so_far.faults;
      kept = λ place q at. kept place q (so_far.kept place q at);
      same = same_after start old new new.names new.constants old.errors so_far.same same;
    }
  where
    through : (q : List ℕ) (b : Bool) (constants : List (List ℕ × ℕ))
        → cond b (Some id) (option_map type_at (constant_in constants q)) ≡ option_map type_at (cond b (Some id.0) (constant_in constants q))
    through q true constants = refl
    through q false constants = refl

unknown_type : (known : List (List ℕ)) (name : List ℕ) (o : Option ℕ) → position_of known name ≡ o → option_map type_at o ≡ None
    → position_of known name ≡ None
unknown_type known name None found is = found
unknown_type known name (Some i) found is = absurd (none-some (type_at i) (sym is))

-- a constant of an unknown type
pub kept_unknown : (defs : List Def) (i : ℕ) (def : Def) (name ty : Ident) (message : List ℕ) (start old new : TypeTables) → i < length defs
    → def ≡ get_or defs i def → as_constant def ≡ Some (name, ty) → HasTypeNames start (type_names defs) → KeptSoFar defs i start old
    → type_of_name old ty.0 ≡ None → new ≡ record old { errors = old.errors ++ TypeError message (span_at ty.1) ∷ [] }
    → KeptSoFar defs (i + 1) start new
kept_unknown defs i def name ty message start old new low is some named so_far unknown reported =
    let error = TypeError message (span_at ty.1) in
    let errors : new.errors ≡ old.errors ++ error ∷ [] = ap (λ (env : TypeTables). env.errors) reported in
    let missing = unknown_type (type_names defs) ty.0 (position_of (type_names defs) ty.0) refl
    (sym (named ty.0) ∙ sym (ap (λ (env : TypeTables). type_of_name env ty.0) so_far.same) ∙ unknown) in
    record {
      read = λ clean. absurd (some_error old.errors new.errors error errors clean);
      faults = faults_more defs old.errors new.errors error errors so_far.faults
          (unknown_constant_type (length (constant_definitions (take i defs))) (name, ty)
          (taken_place as_constant defs i def (name, ty) low is some) missing);
      kept = λ place q at. subst (λ (env : TypeTables). slice_get env.names place ≡ Some q) (sym reported) (so_far.kept place q at);
      same = same_after start old new old.names old.constants (old.errors ++ error ∷ []) so_far.same reported;
    }
