-- Calls that take values of their types.
use Rattle.std.specs.Prelude.{◌≡◌, ℕ, suc, Bool, true, List, Option, Some, slice_get}
use Rattle.std.specs.List.{AllZip}
use Rattle.isle_rules.specs.Shown.TermTables.{TermTables}
use Rattle.isle_meaning.specs.Answers.{Completion}
use Rattle.isle_meaning.specs.Calls.{HasTypedAnswers}
use Rattle.isle_meaning.specs.Got.{Got, gives}
use Rattle.isle_meaning.specs.GroundValues.{AreValuesOf, IsValueOf}
use Rattle.isle_meaning.specs.Held.{Held, held_value}
use Rattle.isle_meaning.specs.Sites.{Site, Sites, constructor_call}
use Rattle.isle_meaning.specs.SoundPrograms.{IsSound}
use Rattle.isle_meaning.specs.Subtrees.{IsSubtree}
use Rattle.isle_meaning.specs.Values.{Value, Values}
use Rattle.isle_meaning.specs.ValueTypes.{ValueFacts}
use Rattle.isle_meaning.specs.Worlds.{CheckedProgram}
use Rattle.isle_trees.specs.Answers.{Answers}
use Rattle.isle_trees.specs.Rules.{Elem}
use Rattle.isle_trees.specs.Tree.{Steps, done, «match», equal, loop, give, Arms, no_arm, arm}
use Rattle.isle_blocks.specs.declared.binding.Binding.{Binding}
use Rattle.isle_blocks.specs.declared.binding.Binding.TheVariants as sites
use Rattle.isle_blocks.specs.declared.constraint.Constraint.{Constraint}
use Rattle.isle_blocks.specs.declared.ids.BindingId.{BindingId}
use Rattle.isle_blocks.specs.DefinedSets.{AreDefined, IsSetOf, facts_by, name_of, rules_by}
use Rattle.isle_blocks.specs.RuleSets.{RulesOverSites}
use Rattle.isle_blocks.specs.Trees.Shown.{BlockShown}
use Rattle.isle_blocks.specs.Trees.SiteTrees.{held_by, tree_of}

-- what is held, if anything is, is a value of the type
abbrev pub IsTypedIfHeld : ValueFacts → Got Held → ℕ → Type 0
IsTypedIfHeld values g ty = (h : Held) → g ≡ gives h → (v : Value) × (h ≡ held_value v) × IsValueOf values v ty

-- a call takes values of its types: a constructor one of each argument's, an extractor one of the type that it takes apart
abbrev pub TakesItsTypes : CheckedProgram → Answers Held → Binding → Type 0
TakesItsTypes p held (sites.Extractor term parameter) = IsTypedIfHeld p.values (held parameter.0) (p.terms.type_of term.0)
TakesItsTypes p held (sites.Constructor term parameters instance) =
    AllZip (λ (part : BindingId) (ty : ℕ). IsTypedIfHeld p.values (held part.0) ty) parameters (p.terms.inputs term.0)
TakesItsTypes p held _ = Unit {0}

-- of the impure calls that a site is made of, at any depth, the answers are of their types
abbrev pub HasTypedCalls : CheckedProgram → List (Option Value) → Site → Type 0
HasTypedCalls p answers site = (t n : ℕ) (ss : Sites) (v : Value) → IsSubtree (constructor_call t ss (suc n)) site
    → slice_get answers n ≡ Some (Some v) → IsValueOf p.values v (p.terms.type_of t)

-- a property of each site that the steps of a tree bind
abbrev mutual
  pub OfEachBound : (ℕ → Type 0) → Steps Constraint → Type 0
  OfEachBound P done = Unit {0}
  OfEachBound P («match» binds s arms next) = ((x : ℕ) → Elem x binds → P x) × (OfEachInArms P arms × OfEachBound P next)
  OfEachBound P (equal binds a b body next) = ((x : ℕ) → Elem x binds → P x) × (OfEachBound P body × OfEachBound P next)
  OfEachBound P (loop binds value body next) = ((x : ℕ) → Elem x binds → P x) × (OfEachBound P body × OfEachBound P next)
  OfEachBound P (give binds rule next) = ((x : ℕ) → Elem x binds → P x) × OfEachBound P next

  pub OfEachInArms : (ℕ → Type 0) → Arms Constraint → Type 0
  OfEachInArms P no_arm = Unit {0}
  OfEachInArms P (arm test bindings body more) = OfEachBound P body × OfEachInArms P more

-- what the sites of a set hold: of each that is a call, values of its types
abbrev pub IsTypedCall : CheckedProgram → Answers Held → RulesOverSites → ℕ → Type 0
IsTypedCall p held set s = (call : Binding) → slice_get set.sites s ≡ Some call → TakesItsTypes p held call

-- The set of a term that a sound program of its definitions runs: each call that a step binds takes values of its types, where those of the
-- term's arguments are, and what calls answer is.
abbrev pub CallsTakeTheirTypes : RulesOverSites → BlockShown → Type 0
CallsTakeTheirTypes set block = (env : TermTables) (d : AreDefined env) (term : ℕ)
    → IsSetOf (name_of env d) (facts_by env d) env.rules (rules_by env d) term set
    → (p : CheckedProgram) (run : ℕ → Bool) → p.terms ≡ facts_by env d → p.rules ≡ rules_by env d → IsSound p (λ t. run t ≡ true)
    → run term ≡ true → (c : Completion) → HasTypedAnswers p c → (args : Values) → AreValuesOf p.values args (p.terms.inputs term)
    → (answers : List (Option Value))
    → OfEachBound (λ s. HasTypedCalls p answers (tree_of (name_of env d) set.sites s)
    → IsTypedCall p (held_by (name_of env d) set.sites p.terms c args answers) set s) block.tree
