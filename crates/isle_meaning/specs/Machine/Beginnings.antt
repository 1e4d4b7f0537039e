-- Machine's runs that have begun: with which effects one may stop, before it has come to anything.
use Rattle.std.specs.Prelude.{◌≡◌, ◌⊎◌, ℕ, zero, suc, List, [], ◌∷◌, ◌++◌, Some, slice_get}
use Rattle.isle_trees.specs.Tree.{Steps, done, «match», equal, loop, give, Arms, no_arm, arm}
use Rattle.isle_meaning.specs.Got.{gives}
use Rattle.isle_meaning.specs.Values.{Values}
use Rattle.isle_meaning.specs.Words.{set}
use Rattle.isle_meaning.specs.Held.{Held}
use Rattle.isle_meaning.specs.Held.{Meets}
use Rattle.isle_meaning.specs.Numbered.{Row, bool_row, int_row, prim_row, argument_row, extractor_row, constructor_row, iterator_row}
use Rattle.isle_meaning.specs.Numbered.{make_variant_row, match_variant_row, make_struct_row, extract_struct_row, make_some_row, match_some_row}
use Rattle.isle_meaning.specs.Numbered.{match_tuple_row}
use Rattle.isle_meaning.specs.Worlds.{CheckedProgram, Answers, Event}
use Rattle.isle_meaning.specs.Outcomes.{given}
use Rattle.isle_meaning.specs.PlainBeginnings.{ImpureBegins}
use Rattle.isle_meaning.specs.Machine.Runs.{TermTree, Env, nothing_bound, Runs, values_at, read, RowRuns, opened, MachineRun}

-- what has been made from here on
abbrev pub Begun : Type 1
Begun = List Event → Type 0

-- nothing is made
abbrev pub Silent : Begun
Silent made = made ≡ []

-- the impure call of a site begins
abbrev pub RowBegins : CheckedProgram → (ℕ → Values → Begun) → List Row → Values → Env → Row → Begun
RowBegins p begins sites args env (bool_row x ty) made = ⊥
RowBegins p begins sites args env (int_row n ty) made = ⊥
RowBegins p begins sites args env (prim_row name) made = ⊥
RowBegins p begins sites args env (argument_row i) made = ⊥
RowBegins p begins sites args env (extractor_row t j) made = ⊥
RowBegins p begins sites args env (constructor_row t js zero) made = ⊥
RowBegins p begins sites args env (constructor_row t js (suc i)) made =
    (vs : Values) × (values_at (read sites args env) js ≡ gives vs) × ImpureBegins p begins t vs made
RowBegins p begins sites args env (iterator_row j) made = ⊥
RowBegins p begins sites args env (make_variant_row ty k js) made = ⊥
RowBegins p begins sites args env (match_variant_row j k i) made = ⊥
RowBegins p begins sites args env (make_struct_row ty js) made = ⊥
RowBegins p begins sites args env (extract_struct_row j i) made = ⊥
RowBegins p begins sites args env (make_some_row j) made = ⊥
RowBegins p begins sites args env (match_some_row j) made = ⊥
RowBegins p begins sites args env (match_tuple_row j i) made = ⊥

-- Sites are bound in order; it may stop before each, or in its impure call, or go on behind the last.
abbrev pub BindsBegin : CheckedProgram → Answers → Runs → (ℕ → Values → Begun) → List Row → Values → Env → List ℕ → (Env → Begun) → Begun
BindsBegin p w below begins sites args env [] next made = next env made
BindsBegin p w below begins sites args env (k ∷ ks) next made = (made ≡ []) ⊎ ((row : Row) × (slice_get sites k ≡ Some row)
    × (RowBegins p begins sites args env row made ⊎ ((effects : List Event) × (rest : List Event) × (h : Held) × (made ≡ effects ++ rest)
    × RowRuns p w below sites args env row effects (given h)
    × BindsBegin p w below begins sites args (set env k (Some h)) ks next rest)))

-- a passed test is followed by one thing, a failed one by another
abbrev pub TestedBegins : Type 0 → Begun → Begun → Begun
TestedBegins passes body other made = (passes × body made) ⊎ ((passes → ⊥) × other made)

-- it may stop before two sites are compared, which hold the same, or not
abbrev pub EqualBegins : List Row → Values → Env → ℕ → ℕ → Begun → Begun → Begun
EqualBegins sites args env a b same other made = (made ≡ []) ⊎ ((h : Held) × (g : Held) × (read sites args env a ≡ gives h)
    × (read sites args env b ≡ gives g) × TestedBegins (h ≡ g) same other made)

-- the steps of a term's tree in turn; `others` comes after the last
abbrev mutual
  pub StepsBegin : {C : Type 0} → CheckedProgram → Answers → Runs → (ℕ → Values → Begun) → TermTree C → Values → Env → Steps C → Begun → Begun
  StepsBegin p w below begins b args env done others = others
  StepsBegin p w below begins b args env («match» binds s arms next) others = BindsBegin p w below begins b.sites args env binds (λ env.
      ArmsBegin p w below begins b args env s arms (StepsBegin p w below begins b args env next others))
  StepsBegin p w below begins b args env (equal binds s u body next) others = BindsBegin p w below begins b.sites args env binds (λ env.
      EqualBegins b.sites args env s u (StepsBegin p w below begins b args env body (StepsBegin p w below begins b args env next others))
      (StepsBegin p w below begins b args env next others))
  StepsBegin p w below begins b args env (loop binds k body next) others = Silent
  StepsBegin p w below begins b args env (give binds i next) others = BindsBegin p w below begins b.sites args env binds (λ env. Silent)

  -- the first arm whose test is passed; it may stop before each
  pub ArmsBegin : {C : Type 0} → CheckedProgram → Answers → Runs → (ℕ → Values → Begun) → TermTree C → Values → Env → ℕ → Arms C → Begun → Begun
  ArmsBegin p w below begins b args env s no_arm others = others
  ArmsBegin p w below begins b args env s (arm c fields body arms) others = λ made. (made ≡ []) ⊎ ((h : Held) × (read b.sites args env s ≡ gives h)
      × TestedBegins (Meets (b.test c) h)
      (BindsBegin p w below begins b.sites args env (opened fields) (λ env. StepsBegin p w below begins b args env body others))
      (ArmsBegin p w below begins b args env s arms others) made)

-- A machine's run of a call at a depth begins with these effects: it may stop before any of its calls and tests, or in a call.
abbrev pub MachineBegins : {C : Type 0} → CheckedProgram → (ℕ → TermTree C) → Answers → ℕ → ℕ → Values → List Event → Type 0
MachineBegins p trees w zero t args made = made ≡ []
MachineBegins p trees w (suc n) t args made = (made ≡ [])
    ⊎ StepsBegin p w (λ u vs effects q. (reached : ℕ) × MachineRun p trees w n u vs reached effects q) (MachineBegins p trees w n) (trees t) args
    nothing_bound (trees t).tree Silent made
