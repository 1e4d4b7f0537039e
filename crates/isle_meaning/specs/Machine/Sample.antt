-- A program of one term with one rule, (f true) is true, and the term's tree: where its argument is `true` it answers `true`, else nothing.
use Rattle.std.specs.Prelude.{◌==◌, pos, Bool, true, false, [], ◌∷◌, None}
use Rattle.isle_trees.specs.Tree.{done, «match», give, no_arm, arm}
use Rattle.isle_rules.specs.TypedRules.{TypedRule, typed_bool, no_typed, more_typed, built_bool}
use Rattle.isle_meaning.specs.Demands.{bool_constraint}
use Rattle.isle_meaning.specs.Facts.{TermFacts, declared_shape}
use Rattle.isle_meaning.specs.Numbered.{bool_row, argument_row, make_some_row}
use Rattle.isle_meaning.specs.ValueTypes.{ValueFacts, truth_kind}
use Rattle.isle_meaning.specs.Values.{Values, bool_value, no_values, more_values}
use Rattle.isle_meaning.specs.Worlds.{CheckedProgram}
use Rattle.isle_meaning.specs.Machine.Runs.{TermTree}

-- its rule
abbrev pub sample_rule : TypedRule
sample_rule = record {
  root = 0;
  args = more_typed (typed_bool 0 true) no_typed;
  iflets = [];
  right = built_bool 0 true;
  variables = [];
  priority = pos 0;
  pos = record { file = 0; offset = 0 };
  name = None;
}

-- what is said of its term, which takes a truth value and may fail
abbrev pub sample_terms : TermFacts
sample_terms = record {
  shape = λ t. declared_shape;
  pure = λ t. true;
  partial = λ t. true;
  multi = λ t. false;
  infallible = λ t. true;
  inputs = λ t. 0 ∷ [];
  type_of = λ t. 0;
  variant_fields = λ ty k. [];
  struct_fields = λ ty. [];
  constant_type = λ name. 0;
}

-- each type is that of truth values
abbrev pub sample_values : ValueFacts
sample_values = record { kind = λ ty. truth_kind; constant = λ name. None; data_named = λ name. None; shape_named = λ name. None }

-- the program
abbrev pub sample_program : CheckedProgram
sample_program = record { terms = sample_terms; values = sample_values; has_rules = λ t. t == 0; rules = sample_rule ∷ [] }

-- its argument, `true`, and the made option of that; a test asks for a truth value
abbrev pub sample_tree : TermTree Bool
sample_tree = record {
  sites = argument_row 0 ∷ bool_row true 0 ∷ make_some_row 1 ∷ [];
  test = λ truth. bool_constraint truth 0;
  result = λ i. 2;
  tree = «match» [] 0 (arm true [] (give (1 ∷ 2 ∷ []) 0 done) no_arm) done;
}

-- a truth value as arguments
abbrev pub on_truth : Bool → Values
on_truth b = more_values (bool_value b) no_values
