-- The same rules over other values.
use Rattle.std.specs.Prelude.{Bool}
use Rattle.isle_trees.specs.Rules.{Rules}

-- tests pass so, and values compare so
abbrev pub over_values : {C V W : Type 0} → Rules C V → (C → W → Bool) → (W → W → Bool) → Rules C W
over_values R passes alike = record {
  tests = record { same = R.tests.same; at_most = R.tests.at_most; passes = passes; alike = alike };
  at = R.at;
  joins = R.joins;
  prio = R.prio;
  calls = R.calls;
  result = R.result;
  parts = R.parts;
  made = R.made;
  effect = R.effect;
  content = R.content;
  stands = R.stands;
  value = R.value;
  fields = R.fields;
  demands = R.demands;
  classes = R.classes;
  loops = R.loops;
}
