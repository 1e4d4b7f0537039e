-- What a tree binds.
use Rattle.std.specs.Prelude.{◌≡◌, ◌≢◌, ℕ, List, true, None, ◌⊎◌}
use Rattle.isle_trees.specs.Tree.{Steps, done, «match», equal, loop, give, Arms, no_arm, arm}
use Rattle.isle_trees.specs.Rules.{Rules, Elem, Used}
use Rattle.isle_trees.specs.Choice.{IsAskedBy}

abbrev pub AllAsked : {C V : Type 0} → Rules C V → List ℕ → List ℕ → Type 0
AllAsked R left binds = (x : ℕ) → Elem x binds → IsAskedBy R left x

-- what is bound before a test is a part, at any depth, of what one of the rules demands, and before a return of what its rule has
abbrev mutual
  pub AsksOnly : {C V : Type 0} → Rules C V → List ℕ → Steps C → Type 0
  AsksOnly R left done = Unit {0}
  AsksOnly R left («match» binds s arms next) = AllAsked R left binds × (ArmsAskOnly R left arms × AsksOnly R left next)
  AsksOnly R left (equal binds a b body next) = AllAsked R left binds × (AsksOnly R left body × AsksOnly R left next)
  AsksOnly R left (loop binds x body next) = AllAsked R left binds × (AsksOnly R left body × AsksOnly R left next)
  AsksOnly R left (give binds i next) = ((x : ℕ) → Elem x binds → Used R i x) × AsksOnly R left next

  pub ArmsAskOnly : {C V : Type 0} → Rules C V → List ℕ → Arms C → Type 0
  ArmsAskOnly R left no_arm = Unit {0}
  ArmsAskOnly R left (arm c bindings body more) = AsksOnly R left body × ArmsAskOnly R left more

-- nothing that a test makes
abbrev pub AreWhole : {C V : Type 0} → Rules C V → List ℕ → Type 0
AreWhole R binds = (x : ℕ) → Elem x binds → R.made x ≡ None

-- nothing that a test makes, but contents of options
abbrev pub AreWholeOrContent : {C V : Type 0} → Rules C V → List ℕ → Type 0
AreWholeOrContent R binds = (x : ℕ) → Elem x binds → (R.made x ≡ None) ⊎ (R.content x ≡ true)

-- what a test makes is bound by it alone; nothing is said of the returns after a first one
abbrev mutual
  pub BindsNoField : {C V : Type 0} → Rules C V → Steps C → Type 0
  BindsNoField R done = Unit {0}
  BindsNoField R («match» binds s arms next) = AreWhole R binds × (ArmsBindNoField R arms × BindsNoField R next)
  BindsNoField R (equal binds a b body next) = AreWhole R binds × (BindsNoField R body × BindsNoField R next)
  BindsNoField R (loop binds x body next) = AreWhole R binds × (BindsNoField R body × BindsNoField R next)
  BindsNoField R (give binds i next) = AreWholeOrContent R binds

  pub ArmsBindNoField : {C V : Type 0} → Rules C V → Arms C → Type 0
  ArmsBindNoField R no_arm = Unit {0}
  ArmsBindNoField R (arm c bindings body more) = BindsNoField R body × ArmsBindNoField R more

-- each of the arms comes after this test
abbrev pub AllLater : {C V : Type 0} → Rules C V → C → Arms C → Type 0
AllLater R c no_arm = Unit {0}
AllLater R c (arm d bindings body more) = (R.tests.at_most c d ≡ true) × (c ≢ d) × AllLater R c more

-- the arms of each step ascend
abbrev mutual
  pub Ascends : {C V : Type 0} → Rules C V → Steps C → Type 0
  Ascends R done = Unit {0}
  Ascends R («match» binds s arms next) = ArmsAscend R arms × Ascends R next
  Ascends R (equal binds a b body next) = Ascends R body × Ascends R next
  Ascends R (loop binds x body next) = Ascends R body × Ascends R next
  Ascends R (give binds i next) = Ascends R next

  pub ArmsAscend : {C V : Type 0} → Rules C V → Arms C → Type 0
  ArmsAscend R no_arm = Unit {0}
  ArmsAscend R (arm c bindings body more) = AllLater R c more × (Ascends R body × ArmsAscend R more)
