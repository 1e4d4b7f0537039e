-- The types, as a loop over definitions makes them.
use Rattle.std.proofs.Common.{◌≡◌, ℕ, suc, ◌+◌, ◌<◌, List, [], ◌∷◌, ◌++◌, map, length, take, get_or, Some, None, Vec, refl, ap, sym, subst, ◌∙◌}
use Rattle.std.proofs.Common.{arith, slice_get}
use Rattle.std.specs.Global.{Global}
use Rattle.std.specs.List.{AllByRecursion}
use Rattle.std.proofs.lemmas.List.{append_assoc}
use Rattle.std.proofs.lemmas.Slice.Zip.{all_zipped_more}
use Rattle.isle_ast.specs.declared.ast.Def.{Def}
use Rattle.isle_ast.specs.declared.ast.«Type».{«Type» as TypeTree}
use Rattle.isle_ast.specs.declared.error.Error.{Error}
use Rattle.isle_ast.specs.declared.error.Error.TheVariants.{ParseError, TypeError, UnreachableError, OverlapError, ShadowedError, SizeError}
use Rattle.isle_ast.specs.declared.refusal.Refusal.{Refusal}
use Rattle.isle_ast.specs.declared.refusal.Refusal.TheVariants.{Fault, Memory}
use Rattle.isle_ast.specs.Errors.{size_error, error_kind, IfFault, IsFaultAnd}
use Rattle.isle_types.specs.declared.ids.TypeId.{TypeId}
use Rattle.isle_types.specs.declared.types.«Type».{«Type» as KnownType}
use Rattle.isle_types.specs.declared.types.«Type».TheVariants.{Builtin}
use Rattle.isle_types.specs.TypeTables.{TypeTables}
use Rattle.isle_types.specs.IntTypes.{builtin_types}
use Rattle.isle_types.specs.Types.{id_of}
use Rattle.isle_types.specs.Names.{KeepsNames}
use Rattle.isle_types.specs.Environment.{IsType, HasAllowedSize, AreWithinSizes, as_type, type_definitions, type_names}
use Rattle.isle_types.specs.TypeFaults.{Breaks, type_breaks, IsTypeFault}
use Rattle.isle_types.specs.TypeEnvs.{type_of_name, CountUp, IsShown, HasMoreNames}
use Rattle.isle_types.specs.Inside.Readings.{HasTypeNames, HasReadTypes, ReadsType, ReadsTypes, AreTypeFaults, IsDefinitionFault, IsLoneSizeFault}
use Rattle.isle_containers.proofs.Lists.{AllZip-weaker}
use Rattle.isle_types.proofs.ShownTypes.{type_kept}
use Rattle.isle_types.proofs.BuiltinTurns.{builtins_count}
use Rattle.isle_types.proofs.DefinitionTurns.{passed_over, taken_up, taken_place}
use Rattle.isle_types.proofs.FaultLists.{faults_more, faults_same, some_error}

-- what stands after the first definitions, whose types are made
pub record MadeSoFar (defs : List Def) (i : ℕ) (start env : TypeTables) : Type 0 where
  pub named : HasTypeNames env (type_names defs)
  pub sizes : env.errors ≡ [] → AreWithinSizes (take i defs)
  pub read : env.errors ≡ [] → (start.errors ≡ []) × HasReadTypes (type_definitions (take i defs)) (type_names defs) env
  pub faults : AreTypeFaults defs env.errors
  pub same : env ≡ record start { names = env.names; types = env.types; errors = env.errors }

each_pushed : {X : Type 0} (P : X → Type 0) (xs : List X) (x : X) → AllByRecursion P xs → P x → AllByRecursion P (xs ++ x ∷ [])
each_pushed P [] x each last = (last, tt)
each_pushed P (y ∷ xs) x each last = (each.0, each_pushed P xs x each.1 last)

next_counted : (n m k : ℕ) → k ≡ n + suc m → k ≡ suc n + m
next_counted n m k is = omega arith

count_pushed : {X : Type 0} (number : X → ℕ) (n : ℕ) (xs : List X) (x : X) → CountUp number n xs → number x ≡ n + length xs
    → CountUp number n (xs ++ x ∷ [])
count_pushed number n [] x counted is = (is ∙ plus_none n, tt)
  where
    plus_none : (n : ℕ) → n + 0 ≡ n
    plus_none n = omega arith
count_pushed number n (y ∷ xs) x counted is =
    (counted.0, count_pushed number (suc n) xs x counted.1 (next_counted n (length xs) (number x) is))

-- another definition
pub made_passing : (defs : List Def) (i : ℕ) (def : Def) (start env : TypeTables) → i < length defs → def ≡ get_or defs i def
    → as_type def ≡ None → MadeSoFar defs i start env → MadeSoFar defs (i + 1) start env
made_passing defs i def start env low is none so_far =
    let same : type_definitions (take (i + 1) defs) ≡ type_definitions (take i defs) = passed_over as_type defs i def low is none in
    record {
      named = so_far.named;
      sizes = λ clean. subst (AllByRecursion (λ (tree : TypeTree). HasAllowedSize tree.ty)) (sym same) (so_far.sizes clean);
      read = λ clean. let before = so_far.read clean in
          (before.0, subst (λ (trees : List TypeTree). HasReadTypes trees (type_names defs) env) (sym same) before.1);
      faults = so_far.faults;
      same = so_far.same;
    }

same_for : (start old new : TypeTables) (names : List (List ℕ)) (types : List KnownType) (errors : List Error)
    → new ≡ record old { names = names; types = types; errors = errors }
    → old ≡ record start { names = old.names; types = old.types; errors = old.errors }
    → new ≡ record start { names = new.names; types = new.types; errors = new.errors }
same_for start old new names types errors is same =
    subst (λ (env : TypeTables). env ≡ record start { names = env.names; types = env.types; errors = env.errors }) (sym is)
    (ap (λ (env : TypeTables). record env { names = names; types = types; errors = errors }) same)

-- one more type among those that are read
types_pushed : (known before after : List (List ℕ)) (trees : List TypeTree) (made : List KnownType) (tree : TypeTree) (type : KnownType)
    → KeepsNames before after → ReadsTypes known before trees made → ReadsType known after tree type
    → ReadsTypes known after (trees ++ tree ∷ []) (made ++ type ∷ [])
types_pushed known before after trees made tree type keeps reads last = record {
  types = reads.types ++ last.type ∷ [];
  meant = all_zipped_more (IsType known) trees reads.types tree last.type reads.meant last.meant;
  shown = all_zipped_more (IsShown after) reads.types made last.type type
      (AllZip-weaker (IsShown before) (IsShown after) (type_kept before after keeps) reads.types made reads.shown) last.shown;
}

read_pushed : (trees : List TypeTree) (known : List (List ℕ)) (old new : TypeTables) (tree : TypeTree) (type : KnownType) (id : TypeId)
    → KeepsNames old.names new.names → new.types ≡ old.types ++ type ∷ [] → id_of type ≡ id → id.0 ≡ length old.types
    → HasReadTypes trees known old → ReadsType known new.names tree type → HasReadTypes (trees ++ tree ∷ []) known new
read_pushed trees known old new tree type id keeps types same last before reads = record {
  made = before.made ++ type ∷ [];
  all = types ∙ ap (λ ts. ts ++ type ∷ []) before.all ∙ append_assoc (map Builtin builtin_types) before.made (type ∷ []);
  read = types_pushed known old.names new.names trees before.made tree type keeps before.read reads;
  counted = subst (CountUp (λ (t : KnownType). (id_of t).0) 0) (sym types)
      (count_pushed (λ (t : KnownType). (id_of t).0) 0 old.types type before.counted
      (ap (λ (n : TypeId). n.0) same ∙ last ∙ from_none (length old.types)));
}
  where
    from_none : (n : ℕ) → n ≡ 0 + n
    from_none n = omega arith

-- a definition of a type that is read
pub made_more : (defs : List Def) (i : ℕ) (def : Def) (tree : TypeTree) (type : KnownType) (id : TypeId) (start old middle new : TypeTables)
    → i < length defs → def ≡ get_or defs i def → as_type def ≡ Some tree → MadeSoFar defs i start old → HasMoreNames old middle
    → new ≡ record middle { types = middle.types ++ type ∷ [] } → id_of type ≡ id → id.0 ≡ length old.types
    → ReadsType (type_names defs) middle.names tree type → HasAllowedSize tree.ty → MadeSoFar defs (i + 1) start new
made_more defs i def tree type id start old middle new low is some so_far more_names last_type here last reads size =
    let more : type_definitions (take (i + 1) defs) ≡ type_definitions (take i defs) ++ tree ∷ [] = taken_up as_type defs i def tree low is some in
    let names : new.names ≡ middle.names = ap (λ (env : TypeTables). env.names) last_type in
    let errors : new.errors ≡ old.errors = ap (λ (env : TypeTables). env.errors) last_type ∙ ap (λ (env : TypeTables). env.errors) more_names.same in
    let keeps : KeepsNames old.names new.names = subst (KeepsNames old.names) (sym names) more_names.kept in
    let pushed : new.types ≡ old.types ++ type ∷ [] = ap (λ (env : TypeTables). env.types) last_type
    ∙ ap (λ (env : TypeTables). env.types ++ type ∷ []) more_names.same in
    record {
      named = λ name. ap (λ (env : TypeTables). type_of_name env name) last_type
          ∙ ap (λ (env : TypeTables). type_of_name env name) more_names.same ∙ so_far.named name;
      sizes = λ clean. subst (AllByRecursion (λ (t : TypeTree). HasAllowedSize t.ty)) (sym more)
          (each_pushed (λ (t : TypeTree). HasAllowedSize t.ty) (type_definitions (take i defs)) tree (so_far.sizes (sym errors ∙ clean)) size);
      read = λ clean. let before = so_far.read (sym errors ∙ clean) in (
        before.0,
        subst (λ (trees : List TypeTree). HasReadTypes trees (type_names defs) new) (sym more)
            (read_pushed (type_definitions (take i defs)) (type_names defs) old new tree type id keeps pushed here last before.1
            (subst (λ (ns : List (List ℕ)). ReadsType (type_names defs) ns tree type) (sym names) reads)),
      );
      faults = faults_same defs old.errors new.errors errors so_far.faults;
      same = same_for start middle new middle.names (middle.types ++ type ∷ []) middle.errors last_type
          (same_for start old middle middle.names old.types old.errors more_names.same so_far.same);
    }

-- a kept error of a definition stands where a rule is broken
definition_fault : (defs : List Def) (place : ℕ) (tree : TypeTree) (error : Error) → slice_get (type_definitions defs) place ≡ Some tree
    → IsDefinitionFault (type_names defs) tree error → ¬ (error_kind error ≡ size_error) → IsTypeFault (Breaks defs) error
definition_fault defs place tree (TypeError _ span) among fault kept = type_breaks place tree span.from among fault
definition_fault defs place tree (SizeError _ span) among fault kept = absurd (kept refl)
definition_fault defs place tree (ParseError _ _) among fault kept = absurd fault
definition_fault defs place tree (UnreachableError _ _) among fault kept = absurd fault
definition_fault defs place tree (OverlapError _ _) among fault kept = absurd fault
definition_fault defs place tree (ShadowedError _ _) among fault kept = absurd fault

-- a size error of a definition is where a size is exceeded
size_fault : (defs : List Def) (place : ℕ) (tree : TypeTree) (error : Error) → slice_get (type_definitions defs) place ≡ Some tree
    → IsDefinitionFault (type_names defs) tree error → error_kind error ≡ size_error → IsLoneSizeFault defs (error ∷ [])
size_fault defs place tree (TypeError _ span) among fault size = cc
size_fault defs place tree (SizeError _ span) among fault size = record {
  place = place;
  tree = tree;
  among = among;
  too_large = fault.1;
  here = fault.0;
}
size_fault defs place tree (ParseError _ _) among fault size = absurd fault
size_fault defs place tree (UnreachableError _ _) among fault size = absurd fault
size_fault defs place tree (OverlapError _ _) among fault size = absurd fault
size_fault defs place tree (ShadowedError _ _) among fault size = absurd fault

-- a definition of a type that is refused, with an error that is kept
kept_faults : (defs : List Def) (place : ℕ) (tree : TypeTree) (refusal : Refusal Error) (old new : TypeTables)
    → slice_get (type_definitions defs) place ≡ Some tree → IfFault refusal (IsDefinitionFault (type_names defs) tree)
    → IsFaultAnd refusal (λ error. (¬ (error_kind error ≡ size_error)) × (new ≡ record old { errors = old.errors ++ error ∷ [] }))
    → AreTypeFaults defs old.errors → AreTypeFaults defs new.errors × (new.errors ≡ [] → ⊥)
kept_faults defs place tree (Fault error) old new among fault kept faults =
    let errors = ap (λ (env : TypeTables). env.errors) kept.1 in (
      faults_more defs old.errors new.errors error errors faults
          (definition_fault defs place tree error among fault kept.0),
      some_error old.errors new.errors error errors,
    )
kept_faults defs place tree (Memory e) old new among fault kept faults = absurd kept

-- only the errors change where one is kept
kept_rest : (refusal : Refusal Error) (old new : TypeTables)
    → IsFaultAnd refusal (λ error. (¬ (error_kind error ≡ size_error)) × (new ≡ record old { errors = old.errors ++ error ∷ [] }))
    → new ≡ record old { errors = new.errors }
kept_rest (Fault error) old new kept = kept.1 ∙ ap (λ (env : TypeTables). record old { errors = env.errors }) (sym kept.1)
kept_rest (Memory e) old new kept = absurd kept

pub made_kept : (defs : List Def) (i : ℕ) (def : Def) (tree : TypeTree) (refusal : Refusal Error) (start old middle new : TypeTables)
    → i < length defs → def ≡ get_or defs i def → as_type def ≡ Some tree → MadeSoFar defs i start old → HasMoreNames old middle
    → IfFault refusal (IsDefinitionFault (type_names defs) tree)
    → IsFaultAnd refusal (λ error. (¬ (error_kind error ≡ size_error)) × (new ≡ record middle { errors = middle.errors ++ error ∷ [] }))
    → MadeSoFar defs (i + 1) start new
made_kept defs i def tree refusal start old middle new low is some so_far more_names fault kept =
    let rest = kept_rest refusal middle new kept in
    let faults = kept_faults defs (length (type_definitions (take i defs))) tree refusal middle new
    (taken_place as_type defs i def tree low is some) fault kept
    (faults_same defs old.errors middle.errors (ap (λ (env : TypeTables). env.errors) more_names.same) so_far.faults) in
    record {
      named = λ name. ap (λ (env : TypeTables). type_of_name env name) rest ∙ ap (λ (env : TypeTables). type_of_name env name) more_names.same
          ∙ so_far.named name;
      sizes = λ clean. absurd (faults.1 clean);
      read = λ clean. absurd (faults.1 clean);
      faults = faults.0;
      same = same_for start middle new middle.names middle.types new.errors rest
          (same_for start old middle middle.names old.types old.errors more_names.same so_far.same);
    }

-- a size error that is handed on
pub handed_on : (defs : List Def) (i : ℕ) (def : Def) (tree : TypeTree) (refusal : Refusal Error) (answer : Refusal (Vec Error Global))
    → i < length defs → def ≡ get_or defs i def → as_type def ≡ Some tree → IfFault refusal (IsDefinitionFault (type_names defs) tree)
    → IfFault answer (λ errors. IsFaultAnd refusal (λ error. (error_kind error ≡ size_error) × (errors.items ≡ error ∷ [])))
    → IfFault answer (λ errors. IsLoneSizeFault defs errors.items)
handed_on defs i def tree (Fault error) (Fault errors) low is some fault alone =
    subst (IsLoneSizeFault defs) (sym alone.1)
    (size_fault defs (length (type_definitions (take i defs))) tree error (taken_place as_type defs i def tree low is some) fault alone.0)
handed_on defs i def tree (Memory e) (Fault errors) low is some fault alone = absurd alone
handed_on defs i def tree refusal (Memory e) low is some fault alone = tt
