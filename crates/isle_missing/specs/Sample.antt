-- Worked cases: rules by their demands, and the numbers of the sample rule set of `isle_trees`.
use Rattle.std.specs.Prelude.{zero, suc, Bool, true, false, List, [], ◌∷◌, Some, None}
use Rattle.isle_missing.specs.declared.demand.Demand.{Demand}
use Rattle.isle_missing.specs.Sites.{KnownTests, Sites}
use Rattle.isle_missing.specs.Demands.{passes, equals}
use Rattle.isle_missing.specs.Trees.{Numbering}

-- Two tests of which each value passes one, and that one value passes each, as of truth values; two that many pass, under these numbers and
-- under others; one of two that is listed twice; no known tests.
abbrev pub truth_site : KnownTests
truth_site = record { all = Some (0 ∷ 1 ∷ []); single = 0 ∷ 1 ∷ [] }

abbrev pub kind_site : KnownTests
kind_site = record { all = Some (0 ∷ 1 ∷ []); single = [] }

abbrev pub other_kind_site : KnownTests
other_kind_site = record { all = Some (2 ∷ 3 ∷ []); single = [] }

abbrev pub twice_site : KnownTests
twice_site = record { all = Some (0 ∷ 0 ∷ 1 ∷ []); single = [] }

abbrev pub open_site : KnownTests
open_site = record { all = None; single = [] }

-- a rule for each of two tests of the first site
abbrev pub both_rules : List (List Demand)
both_rules = (passes 0 0 ∷ []) ∷ (passes 0 1 ∷ []) ∷ []

-- where each value passes one of them, where one is listed twice, and where a value may pass neither
abbrev pub two_tests : Sites
two_tests = truth_site ∷ []

abbrev pub twice_listed : Sites
twice_listed = twice_site ∷ []

abbrev pub any_tests : Sites
any_tests = open_site ∷ []

-- a rule for two sites that are equal, and one for each pair of tests that differ
abbrev pub equal_rules : List (List Demand)
equal_rules = (equals 0 1 ∷ []) ∷ (passes 0 1 ∷ passes 1 0 ∷ []) ∷ (passes 0 0 ∷ passes 1 1 ∷ []) ∷ []

-- of two sites whose tests one value passes each, and of two whose tests many pass
abbrev pub two_truths : Sites
two_truths = truth_site ∷ truth_site ∷ []

abbrev pub two_kinds : Sites
two_kinds = kind_site ∷ kind_site ∷ []

-- a rule for the first test of the first site, and one for each test of the second where the other passes
abbrev pub other_rules : List (List Demand)
other_rules = (passes 0 0 ∷ []) ∷ (passes 0 1 ∷ passes 1 2 ∷ []) ∷ (passes 0 1 ∷ passes 1 3 ∷ []) ∷ []

-- of two sites that list different tests
abbrev pub other_kinds : Sites
other_kinds = kind_site ∷ other_kind_site ∷ []

-- the truth values by number
abbrev pub truths : Numbering Bool
truths zero = Some false
truths (suc zero) = Some true
truths (suc (suc t)) = None

-- the rules of the sample: the first wants that the call, site 1, gives true; the second wants nothing
abbrev pub sample_rows : List (List Demand)
sample_rows = (passes 1 1 ∷ []) ∷ [] ∷ []

abbrev pub sample_sites : Sites
sample_sites = open_site ∷ truth_site ∷ []
