-- Calls of terms by terms, to a depth: the shape of an induction on it.
use Rattle.std.specs.Prelude.{◌≡◌, ◌≢◌, ◌⊎◌, ℕ, zero, suc, Bool, true, false, List, [], ◌∷◌, Option, Some}
use Rattle.isle_trees.specs.Got.{Got, unknown, fails, gives}
use Rattle.isle_trees.specs.Answers.{Answers, Agree}
use Rattle.isle_trees.specs.Tree.{Steps}
use Rattle.isle_trees.specs.Rules.{Rules, Elem, IsPartOf, Matches, rights}
use Rattle.isle_trees.specs.Premises.{Respects, KnowsAsked, IsStrict}
use Rattle.isle_trees.specs.Builds.{IsTreeOf}
use Rattle.isle_trees.specs.Walk.{Bound, goes, opens, breaks, Outcome, chooses, ends, waits, stops, bind, walk}
use Rattle.isle_trees.specs.Choice.{IsMet, IsGreatest, NoneMatches, IsOpen, IsAskedBy}
use Rattle.isle_trees.specs.Machine.{AreValues}

-- what calls of terms on values are answered
abbrev pub Completion : Type 0 → Type 0
Completion V = ℕ → List V → Got V

-- each term's rules over its sites, and its tree; whether it may fail; the term that a site calls; what is known of a term's sites, on
-- arguments, where calls are answered so
pub record Program (C V : Type 0) : Type 0 where
  pub rules : ℕ → Rules C V
  pub left : ℕ → List ℕ
  pub tree : ℕ → Steps C
  pub partial : ℕ → Bool
  pub callee : ℕ → ℕ → Option ℕ
  pub value : ℕ → List V → Completion V → Answers V

abbrev pub AgreeOnCalls : {V : Type 0} → Completion V → Completion V → Type 0
AgreeOnCalls {V} c d = (t : ℕ) (xs : List V) → c t xs ≢ unknown → d t xs ≢ unknown → d t xs ≡ c t xs

-- only terms that may fail do
abbrev pub IsAllowed : {C V : Type 0} → Program C V → Completion V → Type 0
IsAllowed {C} {V} P c = (t : ℕ) (xs : List V) → c t xs ≡ fails → P.partial t ≡ true

-- a site that is open calls a term that isn't answered on the values of its parts
pub record CallsOpen {C V : Type 0} (P : Program C V) (c : Completion V) (t : ℕ) (args : List V) (s : ℕ) : Type 0 where
  pub called : ℕ
  pub values : List V
  pub calls : P.callee t s ≡ Some called
  pub parts : AreValues (P.value t args c) ((P.rules t).parts s) values
  pub unanswered : c called values ≡ unknown

pub record IsProgram {C V : Type 0} (P : Program C V) : Type 0 where
  pub trees : (t : ℕ) → IsTreeOf (P.rules t) (P.left t) (P.tree t)
  pub respects : (t : ℕ) (args : List V) (c : Completion V) → IsAllowed P c → Respects (P.rules t) (P.value t args c)
  pub strict : (t : ℕ) (args : List V) (c : Completion V) → IsStrict (P.rules t) (P.value t args c)
  pub agree : (t : ℕ) (args : List V) (c d : Completion V) → AgreeOnCalls c d → Agree (P.value t args c) (P.value t args d)
  pub calls : (t : ℕ) (args : List V) (c : Completion V) (s : ℕ) → IsOpen (P.rules t) (P.value t args c) s → CallsOpen P c t args s

-- none from a term that may fail, else no answer
abbrev pub none_if : {V : Type 0} → Bool → Got V
none_if true = fails
none_if false = unknown

-- what a walk answers, of a term that may fail or not
abbrev pub answer_of : {C V : Type 0} → Rules C V → Answers V → Bool → Outcome → Got V
answer_of R r partial (chooses i goes e) = r (R.result i)
answer_of R r partial (chooses i (opens s) e) = unknown
answer_of R r partial (chooses i breaks e) = none_if partial
answer_of R r partial ends = none_if partial
answer_of R r partial (waits s) = unknown
answer_of R r partial stops = unknown

-- a run whose nested calls are runs one depth lower
abbrev pub run_to : {C V : Type 0} → Program C V → ℕ → Completion V
run_to P zero t args = unknown
run_to P (suc n) t args =
    answer_of (P.rules t) (P.value t args (run_to P n)) (P.partial t) (walk (P.rules t) (P.value t args (run_to P n)) (P.tree t))

abbrev pub ended : {V : Type 0} → Bound → Got V → Got V
ended goes g = g
ended (opens s) g = unknown
ended breaks g = fails

-- the rule is the matching one of greatest priority
abbrev pub IsChosen : {C V : Type 0} → Rules C V → Answers V → List ℕ → ℕ → Type 0
IsChosen R v left i = Elem i left × Matches R v i × IsGreatest R v left i

-- under one completion: the chosen rule's right side, where what it meets is answered, gives this, or no rule matches
abbrev pub Told : {C V : Type 0} → Program C V → Completion V → ℕ → List V → Got V → Type 0
Told P c t args b =
    ((i : ℕ) × IsChosen (P.rules t) (P.value t args c) (P.left t) i × (IsMet (P.rules t) (P.value t args c) (rights (P.rules t) i)
    → b ≡ ended (bind (P.value t args c) (rights (P.rules t) i)) (P.value t args c ((P.rules t).result i))))
    ⊎ (NoneMatches (P.rules t) (P.value t args c) (P.left t) × (P.partial t ≡ true) × (b ≡ fails))

-- where calls have a meaning, the completion has that or leaves them open
abbrev pub Follows : {V : Type 0} → (ℕ → List V → Got V → Type 0) → Completion V → Type 0
Follows {V} below c = (t : ℕ) (xs : List V) (b : Got V) → below t xs b → c t xs ≢ unknown → c t xs ≡ b

-- the completion answers what the tests of a term's rules ask
abbrev pub Covers : {C V : Type 0} → Program C V → Completion V → ℕ → List V → Type 0
Covers P c t args = KnowsAsked (P.rules t) (P.value t args c)

-- at a depth a call means this, whatever calls left open would answer
abbrev pub Means : {C V : Type 0} → Program C V → ℕ → ℕ → List V → Got V → Type 0
Means P zero t args b = ⊥
Means {C} {V} P (suc n) t args b = (c : Completion V) → IsAllowed P c → Follows (Means P n) c → Covers P c t args → Told P c t args b

-- these are the values of the sites, where they are known
abbrev pub MayBeValues : {V : Type 0} → Answers V → List ℕ → List V → Type 0
MayBeValues v [] [] = Unit {0}
MayBeValues v [] (x ∷ xs) = ⊥
MayBeValues v (p ∷ ps) [] = ⊥
MayBeValues v (p ∷ ps) (x ∷ xs) = (v p ≢ unknown → v p ≡ gives x) × MayBeValues v ps xs

-- a rule's tests ask the site, or the right side of the rule that is chosen has it
abbrev pub IsCalled : {C V : Type 0} → Rules C V → Answers V → List ℕ → ℕ → Type 0
IsCalled R v left s = IsAskedBy R left s ⊎ ((i : ℕ) × IsChosen R v left i × IsPartOf R (rights R i) s)

-- a call asks a call of a term on these values, whatever calls left open would answer
pub record Asks {C V : Type 0} (P : Program C V) (n t : ℕ) (args : List V) (u : ℕ) (xs : List V) : Type 0 where
  pub site : ℕ
  pub calls : P.callee t site ≡ Some u
  pub fixed : (c : Completion V) → IsAllowed P c → Follows (Means P n) c → Covers P c t args
      → IsCalled (P.rules t) (P.value t args c) (P.left t) site × MayBeValues (P.value t args c) ((P.rules t).parts site) xs

-- no rule matches, or the right side of the chosen one fails
abbrev pub IsStuck : {C V : Type 0} → Rules C V → Answers V → List ℕ → Type 0
IsStuck R v left = NoneMatches R v left ⊎ ((i : ℕ) × IsChosen R v left i × (IsMet R v (rights R i) → bind v (rights R i) ≡ breaks))

-- a chain of asking that spends the depth, or ends at a call of a term that may not fail and is stuck
pub data Chain {C V : Type 0} (P : Program C V) : ℕ → ℕ → List V → Type 0 where
  spent : (t : ℕ) (args : List V) → Chain P zero t args
  stuck : (n t : ℕ) (args : List V) → P.partial t ≡ false
      → ((c : Completion V) → IsAllowed P c → Follows (Means P n) c → Covers P c t args → IsStuck (P.rules t) (P.value t args c) (P.left t))
      → Chain P (suc n) t args
  link : (n t : ℕ) (args : List V) (u : ℕ) (xs : List V) → Asks P n t args u xs → Chain P n u xs → Chain P (suc n) t args
