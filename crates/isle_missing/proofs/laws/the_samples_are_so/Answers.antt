use Rattle.isle_missing.proofs.Samples.{both_match, twice_match, not_covered, equal_match, kinds_not_covered, other_match, sample_shows, sample_typed, sample_single, sample_covered}
use Rattle.isle_missing.proofs.laws.the_samples_are_so.Goals as goal

pub returns : goal.returns
returns c = record {
  both = both_match;
  twice = twice_match;
  not_both = not_covered;
  equal = equal_match;
  not_equal = kinds_not_covered;
  other = other_match;
  shown = sample_shows;
  typed = sample_typed;
  single = sample_single;
  covered = sample_covered;
}
