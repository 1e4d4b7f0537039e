-- A rule set that meets the premises: the first rule tests what a call on the argument gives, and has the field that this makes; the
-- second wants nothing.
use Rattle.std.specs.Prelude.{ℕ, zero, suc, ◌==◌, pos, Bool, true, false, not, List, [], ◌∷◌, Option, Some, None, if◌then◌else◌}
use Rattle.isle_trees.specs.Got.{Got, unknown, fails, gives}
use Rattle.isle_trees.specs.Answers.{Answers}
use Rattle.isle_trees.specs.Tree.{Steps, done, «match», loop, give, no_arm, arm}
use Rattle.isle_trees.specs.Rules.{Tests, Want, has, one_value, Source, Rules}
use Rattle.isle_trees.specs.Bag.{Model}
use Rattle.isle_trees.specs.Calls.{model_of}
use Rattle.isle_trees.specs.Depths.{Program}

abbrev pub same_bool : Bool → Bool → Bool
same_bool true b = b
same_bool false b = not b

-- false stands before true
abbrev pub bool_at_most : Bool → Bool → Bool
bool_at_most true d = d
bool_at_most false d = true

-- a value passes the test of being itself
abbrev pub truth_tests : Tests Bool Bool
truth_tests = record { same = same_bool; at_most = bool_at_most; passes = same_bool; alike = same_bool }

abbrev pub sample_at : ℕ → ℕ → Option (Want Bool)
sample_at zero zero = None
sample_at zero (suc zero) = Some (has true)
sample_at zero (suc (suc s)) = None
sample_at (suc i) s = None

-- site 0 is the argument, 1 the call, 2 its field
abbrev pub sample_parts : ℕ → List ℕ
sample_parts zero = []
sample_parts (suc zero) = 0 ∷ []
sample_parts (suc (suc zero)) = 1 ∷ []
sample_parts (suc (suc (suc s))) = []

abbrev pub sample_made : ℕ → Option (Source Bool)
sample_made zero = None
sample_made (suc zero) = None
sample_made (suc (suc zero)) = Some (record { site = 1; want = has true })
sample_made (suc (suc (suc s))) = None

abbrev pub sample_stands : ℕ → Bool
sample_stands zero = false
sample_stands (suc zero) = true
sample_stands (suc (suc zero)) = true
sample_stands (suc (suc (suc s))) = false

abbrev pub sample_result : ℕ → ℕ
sample_result zero = 2
sample_result (suc i) = 0

abbrev pub sample_fields : ℕ → Bool → List (Option ℕ)
sample_fields zero c = []
sample_fields (suc zero) true = Some 2 ∷ []
sample_fields (suc zero) false = []
sample_fields (suc (suc s)) c = []

abbrev pub sample : Rules Bool Bool
sample = record {
  tests = truth_tests;
  at = sample_at;
  joins = λ i a b. false;
  prio = λ i. if i == 0 then pos 1 else pos 0;
  calls = λ i. [];
  result = sample_result;
  parts = sample_parts;
  made = sample_made;
  effect = λ s. false;
  content = λ s. false;
  stands = sample_stands;
  value = λ s. None;
  fields = sample_fields;
  demands = λ i. if i == 0 then 1 ∷ [] else [];
  classes = λ i. [];
  loops = λ i. [];
}

abbrev pub sample_tree : Steps Bool
sample_tree = «match» (1 ∷ []) 1 (arm true (Some 2 ∷ []) (give [] 0 done) no_arm) (give [] 1 done)

abbrev pub field_of : Got Bool → Got Bool
field_of unknown = unknown
field_of fails = fails
field_of (gives true) = gives true
field_of (gives false) = fails

-- the call isn't answered, or is answered so
abbrev pub with_call : Got Bool → Answers Bool
with_call g zero = gives true
with_call g (suc zero) = g
with_call g (suc (suc zero)) = field_of g
with_call g (suc (suc (suc s))) = gives true

-- an option of a value, as a truth value
abbrev pub is_there : Got Bool → Got Bool
is_there unknown = unknown
is_there fails = gives false
is_there (gives x) = gives true

abbrev pub sample_callee : ℕ → ℕ → Option ℕ
sample_callee t zero = None
sample_callee t (suc zero) = Some t
sample_callee t (suc (suc s)) = None

-- one term, whose call is of itself
abbrev pub sample_program : Program Bool Bool
sample_program = record {
  rules = λ t. sample;
  left = λ t. 0 ∷ 1 ∷ [];
  tree = λ t. sample_tree;
  partial = λ t. true;
  callee = sample_callee;
  value = λ t args c. with_call (is_there (c t (true ∷ [])));
}

-- A rule of a `multi` term: its result is each value of a multi call on the argument.
abbrev pub many_at : ℕ → ℕ → Option (Want Bool)
many_at i zero = None
many_at i (suc zero) = Some one_value
many_at i (suc (suc s)) = None

abbrev pub many_made : ℕ → Option (Source Bool)
many_made zero = None
many_made (suc zero) = None
many_made (suc (suc zero)) = Some (record { site = 1; want = one_value })
many_made (suc (suc (suc s))) = None

abbrev pub many_value : ℕ → Option ℕ
many_value zero = None
many_value (suc zero) = Some 2
many_value (suc (suc s)) = None

abbrev pub many_sample : Rules Bool Bool
many_sample = record {
  tests = truth_tests;
  at = many_at;
  joins = λ i a b. false;
  prio = λ i. pos 0;
  calls = λ i. [];
  result = λ i. 2;
  parts = sample_parts;
  made = many_made;
  effect = λ s. false;
  content = λ s. false;
  stands = sample_stands;
  value = many_value;
  fields = λ s c. [];
  demands = λ i. 1 ∷ [];
  classes = λ i. [];
  loops = λ i. 1 ∷ [];
}

abbrev pub many_tree : Steps Bool
many_tree = loop (1 ∷ []) 2 (give [] 0 done) done

-- each site is true, and the multi call lists both truth values
abbrev pub many_model : Model Bool
many_model = model_of many_sample (λ s xs. gives true) (λ s xs. true ∷ false ∷ []) (λ h. true)
