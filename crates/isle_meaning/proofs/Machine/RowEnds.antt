-- Where the run of a site ends unanswered, a call does.
use Rattle.std.proofs.Common.{◌≡◌, Bool, true, false, not, List}
use Rattle.isle_meaning.specs.Got.{Got, unknown, fails, gives}
use Rattle.isle_meaning.specs.Values.{Value, Values}
use Rattle.isle_meaning.specs.Held.{Held, held_value, outputs_of}
use Rattle.isle_meaning.specs.Numbered.{Row, bool_row, int_row, prim_row, argument_row, extractor_row, constructor_row, iterator_row}
use Rattle.isle_meaning.specs.Numbered.{make_variant_row, match_variant_row, make_struct_row, extract_struct_row, make_some_row}
use Rattle.isle_meaning.specs.Numbered.{match_some_row, match_tuple_row}
use Rattle.isle_meaning.specs.Worlds.{CheckedProgram, Answers, Event}
use Rattle.isle_meaning.specs.Asking.{Ended}
use Rattle.isle_meaning.specs.Outcomes.{Outcome, given, missing, ended}
use Rattle.isle_meaning.specs.Machine.Runs.{Env, Runs, made_of, read, Comes, holding, option_if, RowRuns}
use Rattle.isle_meaning.specs.Machine.Trees.{is_call}

-- A call of an extractor ends where the extractor does.
pub ended_outputs : (infallible : Bool) (g : Outcome Values) (e : Ended) → ended e ≡ option_if (not infallible) (holding outputs_of g) → g ≡ ended e
ended_outputs true (given vs) e q = absurd cc
ended_outputs true missing e q = absurd cc
ended_outputs true (ended f) e q = cc
ended_outputs false (given vs) e q = absurd cc
ended_outputs false missing e q = absurd cc
ended_outputs false (ended f) e q = cc

-- One of a constructor ends where the constructor does.
pub ended_answer : (partial : Bool) (g : Outcome Value) (e : Ended) → ended e ≡ option_if partial (holding held_value g) → g ≡ ended e
ended_answer true (given v) e q = absurd cc
ended_answer true missing e q = absurd cc
ended_answer true (ended f) e q = cc
ended_answer false (given v) e q = absurd cc
ended_answer false missing e q = absurd cc
ended_answer false (ended f) e q = cc

-- What is made doesn't end a run.
pub comes_never_ends : (g : Got Held) (e : Ended) → Comes g (ended e) → ⊥
comes_never_ends unknown e q = q
comes_never_ends fails e q = cc
comes_never_ends (gives h) e q = cc

-- A site that calls nothing doesn't end one.
pub no_call_no_end : (p : CheckedProgram) (w : Answers) (below : Runs) (sites : List Row) (args : Values)
    (env : Env) (row : Row) (effects : List Event) (e : Ended)
    → is_call row ≡ false → RowRuns p w below sites args env row effects (ended e) → ⊥
no_call_no_end p w below sites args env (constructor_row t js i) effects e n run = absurd (let q : true ≡ false = n in cc)
no_call_no_end p w below sites args env (extractor_row t j) effects e n run = absurd (let q : true ≡ false = n in cc)
no_call_no_end p w below sites args env (iterator_row j) effects e n run = absurd (let q : true ≡ false = n in cc)
no_call_no_end p w below sites args env (bool_row x ty) effects e n (m, q) = comes_never_ends (made_of args (read sites args env) (bool_row x ty)) e q
no_call_no_end p w below sites args env (int_row x ty) effects e n (m, q) = comes_never_ends (made_of args (read sites args env) (int_row x ty)) e q
no_call_no_end p w below sites args env (prim_row x) effects e n (m, q) = comes_never_ends (made_of args (read sites args env) (prim_row x)) e q
no_call_no_end p w below sites args env (argument_row i) effects e n (m, q) = comes_never_ends
    (made_of args (read sites args env) (argument_row i)) e q
no_call_no_end p w below sites args env (make_variant_row ty k js) effects e n (m, q) = comes_never_ends
    (made_of args (read sites args env) (make_variant_row ty k js)) e q
no_call_no_end p w below sites args env (match_variant_row j k i) effects e n (m, q) = comes_never_ends
    (made_of args (read sites args env) (match_variant_row j k i)) e q
no_call_no_end p w below sites args env (make_struct_row ty js) effects e n (m, q) = comes_never_ends
    (made_of args (read sites args env) (make_struct_row ty js)) e q
no_call_no_end p w below sites args env (extract_struct_row j i) effects e n (m, q) = comes_never_ends
    (made_of args (read sites args env) (extract_struct_row j i)) e q
no_call_no_end p w below sites args env (make_some_row j) effects e n (m, q) = comes_never_ends
    (made_of args (read sites args env) (make_some_row j)) e q
no_call_no_end p w below sites args env (match_some_row j) effects e n (m, q) = comes_never_ends
    (made_of args (read sites args env) (match_some_row j)) e q
no_call_no_end p w below sites args env (match_tuple_row j i) effects e n (m, q) = comes_never_ends
    (made_of args (read sites args env) (match_tuple_row j i)) e q
