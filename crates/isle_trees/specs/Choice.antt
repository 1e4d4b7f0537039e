-- What a walk is to say: of all that is asked, or of what a run knows so far.
use Rattle.std.specs.Prelude.{◌≡◌, ◌≢◌, ℕ, ◌++◌, ◌≤ℤ◌, List, [], ◌∷◌, true, false, ◌⊎◌, if◌then◌else◌}
use Rattle.isle_trees.specs.Got.{unknown, fails}
use Rattle.isle_trees.specs.Answers.{Answers, HasValue, has_value, all_have}
use Rattle.isle_trees.specs.Rules.{Rules, Elem, IsPartOf, Asked, Matches, rights}
use Rattle.isle_trees.specs.Walk.{Bound, goes, opens, breaks, Outcome, chooses, ends, waits, stops, bind, call, events}
use Rattle.isle_trees.specs.Scopes.{Scope}
use Rattle.isle_trees.specs.Builds.{BindsEach}

-- The impure calls of a right side as it is written: in order, then the result; the first without a value ends it, and a call whose
-- parts have none isn't made.
abbrev pub trace : {C V : Type 0} → Rules C V → Answers V → List ℕ → List ℕ
trace R v [] = []
trace R v (u ∷ us) = if all_have v (R.parts u) then call R u ++ (if has_value (v u) then trace R v us else []) else []

-- what the right side meets, up to the first without a value, is answered
abbrev pub IsMet : {C V : Type 0} → Rules C V → Answers V → List ℕ → Type 0
IsMet R v [] = Unit {0}
IsMet R v (u ∷ us) = ((x : ℕ) → IsPartOf R (u ∷ []) x → v x ≢ unknown) × (HasValue (v u) → IsMet R v us)

-- no rule that matches has a greater priority
abbrev pub IsGreatest : {C V : Type 0} → Rules C V → Answers V → List ℕ → ℕ → Type 0
IsGreatest R v left i = (j : ℕ) → Elem j left → Matches R v j → R.prio j ≤ℤ R.prio i

abbrev pub NoneMatches : {C V : Type 0} → Rules C V → Answers V → List ℕ → Type 0
NoneMatches R v left = (j : ℕ) → Elem j left → Matches R v j → ⊥

-- The outcome is right for the rules left, where all that they ask is answered.
abbrev pub IsRight : {C V : Type 0} → Rules C V → Answers V → List ℕ → Outcome → Type 0
IsRight R v left (chooses i b e) =
    Elem i left × Matches R v i × IsGreatest R v left i × (IsMet R v (rights R i) → (b ≡ bind v (rights R i)) × (e ≡ trace R v (R.calls i)))
IsRight R v left ends = NoneMatches R v left
IsRight R v left (waits s) = ⊥
IsRight R v left stops = ⊥

-- a site isn't answered, though what it is made of has values
abbrev pub IsOpen : {C V : Type 0} → Rules C V → Answers V → ℕ → Type 0
IsOpen R r s = ((p : ℕ) → Elem p (R.parts s) → HasValue (r p)) × (r s ≡ unknown)

-- a rule left demands it, or what it is a part of
abbrev pub IsAskedBy : {C V : Type 0} → Rules C V → List ℕ → ℕ → Type 0
IsAskedBy R left s = (i : ℕ) × Elem i left × Asked R i s

-- the site is a part of the first of these without a value, and these impure calls were made
abbrev pub OpensIn : {C V : Type 0} → Rules C V → Answers V → List ℕ → ℕ → List ℕ → Type 0
OpensIn R r [] s e = ⊥
OpensIn R r (u ∷ us) s e =
    (IsPartOf R (u ∷ []) s × (e ≡ call R s)) ⊎ (HasValue (r u) × ((rest : List ℕ) × OpensIn R r us s rest × (e ≡ call R u ++ rest)))

-- a part of one of the sites fails, though what it is made of has values
abbrev pub FailsIn : {C V : Type 0} → Rules C V → Answers V → List ℕ → Type 0
FailsIn R r sites = (s : ℕ) × IsPartOf R sites s × ((p : ℕ) → Elem p (R.parts s) → HasValue (r p)) × (r s ≡ fails)

-- where a right side leaves off: with its result, at an open site that it has, or where a site that it has fails
abbrev pub LeavesOffIn : {C V : Type 0} → Rules C V → Answers V → ℕ → Bound → List ℕ → Type 0
LeavesOffIn R r i goes e = HasValue (r (R.result i))
LeavesOffIn R r i (opens s) e = IsOpen R r s × OpensIn R r (rights R i) s e
LeavesOffIn R r i breaks e = FailsIn R r (rights R i)

-- Where a walk leaves off: in the right side of a rule that matches, or at an open site that a rule left demands, or at the end.
abbrev pub LeavesOff : {C V : Type 0} → Rules C V → Answers V → List ℕ → Outcome → Type 0
LeavesOff R r left (chooses i b e) = Elem i left × Matches R r i × LeavesOffIn R r i b e
LeavesOff R r left ends = Unit {0}
LeavesOff R r left (waits s) = IsAskedBy R left s × IsOpen R r s
LeavesOff R r left stops = ⊥

-- A return binds a right side in order, each site after its parts, and not what was bound before: that has values, is no impure call, and
-- was bound after its parts.
pub record BindsInOrder {C V : Type 0} (R : Rules C V) (r : Answers V) (i : ℕ) (b : Bound) (e : List ℕ) : Type 0 where
  pub before : Scope C
  pub after : Scope C
  pub binds : List ℕ
  pub order : BindsEach R before (rights R i) binds after
  pub valued : (x : ℕ) → before.emitted x ≡ true → HasValue (r x)
  pub closed : (x p : ℕ) → before.emitted x ≡ true → Elem p (R.parts x) → before.emitted p ≡ true
  pub calm : (x : ℕ) → before.emitted x ≡ true → R.effect x ≡ false
  pub bound : b ≡ bind r binds
  pub calls : e ≡ events R r binds

-- the chosen rule's return does so
abbrev pub ReturnsInOrder : {C V : Type 0} → Rules C V → Answers V → Outcome → Type 0
ReturnsInOrder R r (chooses i b e) = BindsInOrder R r i b e
ReturnsInOrder R r ends = Unit {0}
ReturnsInOrder R r (waits s) = Unit {0}
ReturnsInOrder R r stops = Unit {0}

-- a right side that isn't open ends as it is written, where what it meets is answered
abbrev pub IsEnd : {C V : Type 0} → Rules C V → Answers V → ℕ → Bound → List ℕ → Type 0
IsEnd R v i (opens s) e = Unit {0}
IsEnd R v i goes e = IsMet R v (rights R i) → (bind v (rights R i) ≡ goes) × (trace R v (R.calls i) ≡ e)
IsEnd R v i breaks e = IsMet R v (rights R i) → (bind v (rights R i) ≡ breaks) × (trace R v (R.calls i) ≡ e)

-- What the outcome of a walk that may have opened says under answers that agree with it, and know what the rules' tests ask.
abbrev pub IsSure : {C V : Type 0} → Rules C V → Answers V → List ℕ → Outcome → Type 0
IsSure R v left (chooses i b e) = Elem i left × Matches R v i × IsGreatest R v left i × IsEnd R v i b e
IsSure R v left ends = NoneMatches R v left
IsSure R v left (waits s) = Unit {0}
IsSure R v left stops = ⊥

-- more answers don't change how binding ends: it isn't open, or what opened it isn't answered by them
abbrev pub IsOpenFor : {V : Type 0} → Answers V → Bound → Type 0
IsOpenFor v goes = Unit {0}
IsOpenFor v (opens s) = v s ≡ unknown
IsOpenFor v breaks = Unit {0}

-- The outcome under answers that know more: the same rule, the same end but where it was open and no longer is, and at least its calls.
abbrev pub IsKept : {V : Type 0} → Answers V → Outcome → Outcome → Type 0
IsKept v (chooses i b e) o =
    (c : Bound) × (more : List ℕ) × (o ≡ chooses i c (e ++ more)) × (IsOpenFor v b → (c ≡ b) × (more ≡ []))
IsKept v ends o = o ≡ ends
IsKept v (waits s) o = v s ≡ unknown → o ≡ waits s
IsKept v stops o = o ≡ stops

-- so many steps are reached under more answers, where so many were
abbrev pub AreKept : {V : Type 0} → Answers V → Outcome → ℕ → ℕ → Type 0
AreKept v (chooses i b e) m n = n ≡ m
AreKept v ends m n = n ≡ m
AreKept v (waits s) m n = v s ≡ unknown → n ≡ m
AreKept v stops m n = n ≡ m
