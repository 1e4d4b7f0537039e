-- What a path knows, what is available, and which rules a test counts.
use Rattle.std.specs.Prelude.{◌≡◌, ◌≢◌, ℕ, ◌<◌, ◌==◌, ◌&&◌, ◌||◌, not, int_le, List, [], ◌∷◌, Bool, true, false, Option, Some, None, if◌then◌else◌}
use Rattle.std.specs.List.{filter, list_all}
use Rattle.isle_trees.specs.Rules.{Tests, Want, has, one_value, Source, Rules, Elem}

-- wants that were met, sites that were joined, sites that are bound
pub record Scope (C : Type 0) : Type 0 where
  pub passed : ℕ → Option (Want C)
  pub label : ℕ → ℕ
  pub emitted : ℕ → Bool

abbrev pub nothing_known : {C : Type 0} → Scope C
nothing_known = record { passed = λ s. None; label = λ s. s; emitted = λ s. false }

abbrev pub join : {C : Type 0} → Scope C → ℕ → ℕ → Scope C
join sc a b = record sc { label = λ x. if sc.label x == sc.label a then sc.label b else sc.label x }

abbrev pub emit : {C : Type 0} → Scope C → ℕ → Scope C
emit sc s = record sc { emitted = λ x. (x == s) || sc.emitted x }

abbrev pub emit_all : {C : Type 0} → Scope C → List ℕ → Scope C
emit_all sc [] = sc
emit_all sc (x ∷ xs) = emit_all (emit sc x) xs

-- a multi call can be bound again
abbrev pub release : {C : Type 0} → Scope C → ℕ → Scope C
release sc s = record sc { emitted = λ x. if x == s then false else sc.emitted x }

abbrev pub same_want : {C V : Type 0} → Tests C V → Want C → Want C → Bool
same_want T (has c) (has d) = T.same c d
same_want T (has c) one_value = false
same_want T one_value (has d) = false
same_want T one_value one_value = true

abbrev pub is_want : {C V : Type 0} → Tests C V → Want C → Option (Want C) → Bool
is_want T w None = false
is_want T w (Some u) = same_want T w u

-- meeting this want of the site makes this field or value
abbrev pub is_source : {C V : Type 0} → Tests C V → ℕ → Want C → Option (Source C) → Bool
is_source T s w None = false
is_source T s w (Some m) = (m.site == s) && same_want T w m.want

-- past a test: the site's want is met, and what this makes is bound
abbrev pub inside : {C V : Type 0} → Rules C V → Scope C → ℕ → Want C → Scope C
inside R sc s w = record {
  passed = λ x. if x == s then Some w else sc.passed x;
  label = sc.label;
  emitted = λ x. is_source R.tests s w (R.made x) || sc.emitted x;
}

-- a site can be bound: its parts can, and the test that makes it passed
pub data IsAvailable {C V : Type 0} (R : Rules C V) (sc : Scope C) : ℕ → Type 0 where
  from_parts : (s : ℕ) → ((p : ℕ) → Elem p (R.parts s) → IsAvailable R sc p)
      → ((m : Source C) → R.made s ≡ Some m → sc.passed m.site ≡ Some m.want) → IsAvailable R sc s

-- a step's test: of one site, of two sites in one class, or of a multi call
pub data Test : Type 0 where
  on_match : ℕ → Test
  on_equal : ℕ → ℕ → Test
  on_loop : ℕ → Test

abbrev pub sites_of : Test → List ℕ
sites_of (on_match s) = s ∷ []
sites_of (on_equal a b) = a ∷ b ∷ []
sites_of (on_loop s) = s ∷ []

abbrev pub is_test : {C : Type 0} → Option (Want C) → Bool
is_test None = false
is_test (Some (has c)) = true
is_test (Some one_value) = false

abbrev pub is_one : {C : Type 0} → Option (Want C) → Bool
is_one None = false
is_one (Some (has c)) = false
is_one (Some one_value) = true

abbrev pub has_test : {C V : Type 0} → Rules C V → ℕ → Test → Bool
has_test R i (on_match s) = is_test (R.at i s)
has_test R i (on_equal a b) = R.joins i a b
has_test R i (on_loop s) = is_one (R.at i s)

-- a rule may be tried before another: both have the test, or the other has no greater priority
abbrev pub allows : {C V : Type 0} → Rules C V → Test → ℕ → ℕ → Bool
allows R t i j = has_test R j t || int_le (R.prio j) (R.prio i)

-- of the rules left, whether this one has the test and no rule without it has a greater priority
abbrev pub counts : {C V : Type 0} → Rules C V → Test → List ℕ → ℕ → Bool
counts R t left i = has_test R i t && list_all (allows R t i) left

abbrev pub counted : {C V : Type 0} → Rules C V → Test → List ℕ → List ℕ
counted R t left = filter (counts R t left) left

abbrev pub others : {C V : Type 0} → Rules C V → Test → List ℕ → List ℕ
others R t left = filter (λ i. not (counts R t left i)) left

-- the sites are available and not tested, and not joined
abbrev pub IsReady : {C V : Type 0} → Rules C V → Scope C → Test → Type 0
IsReady R sc (on_match s) = IsAvailable R sc s × (sc.passed s ≡ None)
IsReady R sc (on_loop s) = IsAvailable R sc s × (sc.passed s ≡ None)
IsReady R sc (on_equal a b) =
    (a < b) × IsAvailable R sc a × IsAvailable R sc b × (sc.passed a ≡ None) × (sc.passed b ≡ None) × (sc.label a ≢ sc.label b)
