-- The machine's run of a call: it walks the called term's tree of tests, and keeps what each site holds that it has bound.
use Rattle.std.specs.Prelude.{◌≡◌, ◌⊎◌, ℕ, zero, suc, Bool, true, false, not, List, [], ◌∷◌, ◌++◌, Option, Some, None, slice_get, if◌then◌else◌}
use Rattle.isle_trees.specs.Tree.{Steps, done, «match», equal, loop, give, Arms, no_arm, arm}
use Rattle.isle_meaning.specs.Got.{Got, unknown, fails, gives}
use Rattle.isle_meaning.specs.Values.{Value, Values, no_values, bool_value, int_value, constant_value, nth, more, made, built, ask}
use Rattle.isle_meaning.specs.Words.{set}
use Rattle.isle_meaning.specs.Held.{Held, held_value, held_none, held_some, held, plain, outputs_of, variant_field, struct_field}
use Rattle.isle_meaning.specs.Held.{content_of, output_of}
use Rattle.isle_meaning.specs.Demands.{Constraint}
use Rattle.isle_meaning.specs.Held.{Meets}
use Rattle.isle_meaning.specs.Numbered.{Row, bool_row, int_row, prim_row, argument_row, extractor_row, constructor_row, iterator_row}
use Rattle.isle_meaning.specs.Numbered.{make_variant_row, match_variant_row, make_struct_row, extract_struct_row, make_some_row, match_some_row}
use Rattle.isle_meaning.specs.Numbered.{match_tuple_row}
use Rattle.isle_meaning.specs.Worlds.{CheckedProgram, Answers, Event}
use Rattle.isle_meaning.specs.Asking.{spent}
use Rattle.isle_meaning.specs.Outcomes.{Outcome, given, missing, ended, WorldExtracts, PureRuns, ImpureRuns, unmatched}

-- what a term has for the machine: its sites by their numbers, what its tests ask, the site of each rule's result, and its tree of tests
pub record TermTree (C : Type 0) : Type 0 where
  pub sites : List Row
  pub test : C → Constraint
  pub result : ℕ → ℕ
  pub tree : Steps C

-- what the sites hold that are bound so far
abbrev pub Env : Type 0
Env = ℕ → Option Held

-- nothing is bound
abbrev pub nothing_bound : Env
nothing_bound k = None

-- runs of the terms that are called
abbrev pub Runs : Type 1
Runs = ℕ → Values → List Event → Outcome Value → Type 0

-- what comes from here on: so many steps, these effects, this outcome
abbrev pub Going : Type 1
Going = ℕ → List Event → Outcome Value → Type 0

-- what is bound is known
abbrev pub known : {A : Type 0} → Option A → Got A
known None = unknown
known (Some x) = gives x

-- the values of the sites of these numbers
abbrev pub values_at : (ℕ → Got Held) → List ℕ → Got Values
values_at at [] = gives no_values
values_at at (j ∷ js) = more (plain (at j)) (values_at at js)

-- what a site that calls nothing is made to hold by what its parts hold
abbrev pub made_of : Values → (ℕ → Got Held) → Row → Got Held
made_of args at (bool_row x ty) = gives (held_value (bool_value x))
made_of args at (int_row n ty) = gives (held_value (int_value n))
made_of args at (prim_row name) = gives (held_value (constant_value name))
made_of args at (argument_row i) = held (nth args i)
made_of args at (extractor_row t j) = unknown
made_of args at (constructor_row t js i) = unknown
made_of args at (iterator_row j) = unknown
made_of args at (make_variant_row ty k js) = held (made ty k (values_at at js))
made_of args at (match_variant_row j k i) = ask (variant_field k i) (plain (at j))
made_of args at (make_struct_row ty js) = held (built ty (values_at at js))
made_of args at (extract_struct_row j i) = ask (struct_field i) (plain (at j))
made_of args at (make_some_row j) = ask (λ h. gives (held_some h)) (at j)
made_of args at (match_some_row j) = ask content_of (at j)
made_of args at (match_tuple_row j i) = ask (output_of i) (at j)

-- such a site is not bound, but computed where it is used: a number, a named constant, an argument, an output, data without fields
abbrev pub is_computed : Row → Bool
is_computed (bool_row x ty) = false
is_computed (int_row n ty) = true
is_computed (prim_row name) = true
is_computed (argument_row i) = true
is_computed (extractor_row t j) = false
is_computed (constructor_row t js i) = false
is_computed (iterator_row j) = false
is_computed (make_variant_row ty k []) = true
is_computed (make_variant_row ty k (j ∷ js)) = false
is_computed (match_variant_row j k i) = false
is_computed (make_struct_row ty []) = true
is_computed (make_struct_row ty (j ∷ js)) = false
is_computed (extract_struct_row j i) = false
is_computed (make_some_row j) = false
is_computed (match_some_row j) = false
is_computed (match_tuple_row j i) = true

-- what a row's number holds: computed, or bound
abbrev pub read_row : Values → Env → ℕ → Option Row → Got Held
read_row args env k None = unknown
read_row args env k (Some row) = if is_computed row then made_of args (λ j. known (env j)) row else known (env k)

-- what a site holds, by its number
abbrev pub read : List Row → Values → Env → ℕ → Got Held
read sites args env k = read_row args env k (slice_get sites k)

-- the machine makes it; where there is none, as the content of none, the term is answered none
abbrev pub Comes : Got Held → Outcome Held → Type 0
Comes unknown r = ⊥
Comes fails r = r ≡ missing
Comes (gives h) r = r ≡ given h

-- what a call holds whose answer is this
abbrev pub holding : {A : Type 0} → (A → Held) → Outcome A → Outcome Held
holding f (given x) = given (f x)
holding f missing = missing
holding f (ended e) = ended e

-- a call that may fail holds an option
abbrev pub option_if : Bool → Outcome Held → Outcome Held
option_if true (given h) = given (held_some h)
option_if true missing = given held_none
option_if true (ended e) = ended e
option_if false r = r

-- A site is bound: calls of terms with rules are runs one depth lower, others are answered by the world; an impure one makes its effects.
abbrev pub RowRuns : CheckedProgram → Answers → Runs → List Row → Values → Env → Row → List Event → Outcome Held → Type 0
RowRuns p w below sites args env (extractor_row t j) effects r =
    (v : Value) × (g : Outcome Values) × (read sites args env j ≡ gives (held_value v)) × WorldExtracts p w t v g
    × (effects ≡ []) × (r ≡ option_if (not (p.terms.infallible t)) (holding outputs_of g))
RowRuns p w below sites args env (constructor_row t js zero) effects r =
    (vs : Values) × (g : Outcome Value) × (values_at (read sites args env) js ≡ gives vs) × PureRuns p w below t vs g
    × (effects ≡ []) × (r ≡ option_if (p.terms.partial t) (holding held_value g))
RowRuns p w below sites args env (constructor_row t js (suc i)) effects r =
    (vs : Values) × (g : Outcome Value) × (values_at (read sites args env) js ≡ gives vs) × ImpureRuns p below t vs effects g
    × (r ≡ option_if (p.terms.partial t) (holding held_value g))
RowRuns p w below sites args env row effects r = (effects ≡ []) × Comes (made_of args (read sites args env) row) r

-- what goes on where a site holds something; else the call is over
abbrev pub Goes : Outcome Held → (Held → Going) → Going
Goes (given h) next steps trace r = next h steps trace r
Goes missing next steps trace r = (steps ≡ 0) × (trace ≡ []) × (r ≡ missing)
Goes (ended e) next steps trace r = (steps ≡ 0) × (trace ≡ []) × (r ≡ ended e)

-- sites are bound in order
abbrev pub BindsRun : CheckedProgram → Answers → Runs → List Row → Values → Env → List ℕ → (Env → Going) → Going
BindsRun p w below sites args env [] next steps trace r = next env steps trace r
BindsRun p w below sites args env (k ∷ ks) next steps trace r =
    (row : Row) × (effects : List Event) × (rest : List Event) × (o : Outcome Held) × (slice_get sites k ≡ Some row)
    × RowRuns p w below sites args env row effects o × (trace ≡ effects ++ rest)
    × Goes o (λ h. BindsRun p w below sites args (set env k (Some h)) ks next) steps rest r

-- the sites that a passed test opens
abbrev pub opened : List (Option ℕ) → List ℕ
opened [] = []
opened (None ∷ ks) = opened ks
opened (Some k ∷ ks) = k ∷ opened ks

-- a rule's result is the answer: the content of the made option, where the term may fail
abbrev pub result_held : Bool → Value → Held
result_held true v = held_some (held_value v)
result_held false v = held_value v

-- the chosen rule's result is read
abbrev pub Returns : List Row → Bool → Values → Env → ℕ → Going
Returns sites partial args env s steps trace r =
    (v : Value) × (read sites args env s ≡ gives (result_held partial v)) × (steps ≡ 0) × (trace ≡ []) × (r ≡ given v)

-- a passed test is followed by one thing, a failed one by another
abbrev pub Tested : Type 0 → Going → Going → Going
Tested passes body other steps trace r = (passes × body steps trace r) ⊎ ((passes → ⊥) × other steps trace r)

-- two sites hold the same, or not
abbrev pub EqualRuns : List Row → Values → Env → ℕ → ℕ → Going → Going → Going
EqualRuns sites args env a b same other steps trace r = (h : Held) × (g : Held) × (read sites args env a ≡ gives h)
    × (read sites args env b ≡ gives g) × Tested (h ≡ g) same other steps trace r

-- one step, and what comes of it
abbrev pub Counted : Going → Going
Counted g steps trace r = (others : ℕ) × (steps ≡ suc others) × g others trace r

-- The steps of a term's tree in turn: each binds its sites in order, then tests. A passed test opens its sites and goes into its body;
-- after a failed one, or a body without return, the next step follows; `others` comes after the last.
abbrev mutual
  pub StepsRun : {C : Type 0} → CheckedProgram → Answers → Runs → TermTree C → Bool → Values → Env → Steps C → Going → Going
  StepsRun p w below b partial args env done others = others
  StepsRun p w below b partial args env («match» binds s arms next) others = Counted (BindsRun p w below b.sites args env binds (λ env.
      ArmsRun p w below b partial args env s arms (StepsRun p w below b partial args env next others)))
  StepsRun p w below b partial args env (equal binds s u body next) others = Counted (BindsRun p w below b.sites args env binds (λ env.
      EqualRuns b.sites args env s u (StepsRun p w below b partial args env body (StepsRun p w below b partial args env next others))
      (StepsRun p w below b partial args env next others)))
  StepsRun p w below b partial args env (loop binds k body next) others = λ steps trace r. ⊥
  StepsRun p w below b partial args env (give binds i next) others = Counted (BindsRun p w below b.sites args env binds (λ env.
      Returns b.sites partial args env (b.result i)))

  -- the first arm whose test is passed
  pub ArmsRun : {C : Type 0} → CheckedProgram → Answers → Runs → TermTree C → Bool → Values → Env → ℕ → Arms C → Going → Going
  ArmsRun p w below b partial args env s no_arm others = others
  ArmsRun p w below b partial args env s (arm c fields body arms) others = λ steps trace r. (h : Held) × (read b.sites args env s ≡ gives h)
      × Tested (Meets (b.test c) h) (BindsRun p w below b.sites args env (opened fields) (λ env. StepsRun p w below b partial args env body others))
      (ArmsRun p w below b partial args env s arms others) steps trace r

-- where no rule returns
abbrev pub Unmatched : CheckedProgram → ℕ → Values → Going
Unmatched p t args steps trace r = (steps ≡ 0) × (trace ≡ []) × (r ≡ unmatched (p.terms.partial t) t args)

-- A call of a term with rules at a depth reaches so many steps, makes these effects, and comes to this.
abbrev pub MachineRun : {C : Type 0} → CheckedProgram → (ℕ → TermTree C) → Answers → ℕ → ℕ → Values → ℕ → List Event → Outcome Value → Type 0
MachineRun p trees w zero t args steps trace r = (steps ≡ 0) × (trace ≡ []) × (r ≡ ended spent)
MachineRun p trees w (suc n) t args steps trace r =
    StepsRun p w (λ u vs effects q. (reached : ℕ) × MachineRun p trees w n u vs reached effects q) (trees t) (p.terms.partial t) args
    nothing_bound (trees t).tree (Unmatched p t args) steps trace r
