-- Answers that keep to a rule set under answers to one rule's impure calls: sites whose calls have allowed answers hold what they hold under
-- them, others what they hold under none.
use Rattle.std.proofs.Common.{◌≡◌, ◌≢◌, inl, inr, ℕ, suc, Bool, true, false, List, [], ◌∷◌, length, Option, Some, None, slice_get}
use Rattle.std.proofs.Common.{refl, sym, ap, subst, ◌∙◌}
use Rattle.std.specs.Prelude.{if◌then◌else◌}
use Rattle.std.proofs.lemmas.Option.{same_Some, none-some}
use Rattle.isle_types.specs.declared.ids.Sym.{Sym}
use Rattle.isle_rules.specs.declared.rules.Rule as source
use Rattle.isle_rules.specs.TypedRules.{TypedRule}
use Rattle.isle_meaning.specs.Answers.{Completion, IsAllowed}
use Rattle.isle_meaning.specs.Facts.{TermFacts}
use Rattle.isle_meaning.specs.Held.{Held}
use Rattle.isle_meaning.specs.Numbered.{At}
use Rattle.isle_meaning.specs.Scopes.{Covers}
use Rattle.isle_meaning.specs.Sites.{Site, Sites, constructor_call}
use Rattle.isle_meaning.specs.Values.{Value, Values, count}
use Rattle.isle_meaning.proofs.Matching.Later.{later}
use Rattle.isle_meaning.proofs.Sites.Agreeing.{known_parts}
use Rattle.isle_trees.specs.Answers.{Answers, Extends, HasValue}
use Rattle.isle_trees.specs.Got.{unknown, fails}
use Rattle.isle_trees.specs.Premises.{IsStrict, KnowsAsked, Respects}
use Rattle.isle_trees.specs.Rules.{Elem, Meets, Rules, Source}
use Rattle.isle_trees.proofs.Basics.{failed_known, given_known, none_or, true_or}
use Rattle.isle_blocks.specs.Tables.{sources_of}
use Rattle.isle_blocks.specs.declared.binding.Binding.{Binding}
use Rattle.isle_blocks.specs.declared.binding.Binding.TheVariants as sites
use Rattle.isle_blocks.specs.declared.constraint.Constraint.{Constraint}
use Rattle.isle_blocks.specs.declared.ids.BindingId.{BindingId}
use Rattle.isle_blocks.specs.declared.ids.TupleIndex.{TupleIndex}
use Rattle.isle_blocks.specs.Rows.{numbers_of, rows_of}
use Rattle.isle_blocks.specs.RuleSets.{RulesOverSites}
use Rattle.isle_blocks.specs.Trees.Premises.{IsRunnableSet}
use Rattle.isle_blocks.specs.Trees.SiteTrees.{held_by, tree_of}
use Rattle.isle_blocks.specs.Trees.View.{is_bound, made_by, read_or, rules_of}
use Rattle.isle_blocks.proofs.Trees.Answered.{held_plain, held_strict, tree_part}
use Rattle.isle_blocks.proofs.Trees.Matched.{knows_asked}
use Rattle.isle_blocks.proofs.Trees.Reading.{read_some}
use Rattle.isle_blocks.proofs.Trees.Respected.{field_there, made_whole}
use Rattle.isle_blocks.proofs.Trees.Promises.AllowedAnswers.{fine, may_fail, part_fine}
use Rattle.isle_blocks.proofs.Trees.Standing.{tree_is, tree_one}

-- a choice by a test that is known
chosen_true : {A : Type 0} (b : Bool) (x y : A) → b ≡ true → (if b then x else y) ≡ x
chosen_true true x y e = refl
chosen_true false x y e = absurd cc

chosen_false : {A : Type 0} (b : Bool) (x y : A) → b ≡ false → (if b then x else y) ≡ y
chosen_false true x y e = absurd cc
chosen_false false x y e = refl

-- what is not bound and has parts is an output
unbound : (b : Binding) (p : ℕ) → is_bound b ≡ false → Elem p (numbers_of (sources_of b))
    → (a : BindingId) × (i : TupleIndex) × (b ≡ sites.MatchTuple a i) × (p ≡ a.0)
unbound (sites.MatchTuple a i) p e (inl q) = (a, i, refl, q)
unbound (sites.MatchTuple a i) p e (inr z) = absurd z
unbound (sites.MakeVariant t v []) p e m = absurd m
unbound (sites.MakeVariant t v (x ∷ xs)) p e m = absurd cc
unbound (sites.MakeStruct t []) p e m = absurd m
unbound (sites.MakeStruct t (x ∷ xs)) p e m = absurd cc
unbound (sites.ConstBool v t) p e m = absurd m
unbound (sites.ConstInt v t) p e m = absurd m
unbound (sites.ConstPrim v) p e m = absurd m
unbound (sites.Argument i) p e m = absurd m
unbound b p e m = absurd cc

module _ (name : Sym → List ℕ) (facts : TermFacts) (sources : List source.Rule) (rules : List TypedRule) (term : ℕ) (set : RulesOverSites)
    (h : IsRunnableSet name facts sources rules term set) (c : Completion) (args : Values) (answers : List (Option Value)) where
  -- the set as trees see it
  abbrev R : Rules Constraint Held
  R = rules_of name set

  -- a number's tree
  abbrev tree : ℕ → Site
  tree = tree_of name set.sites

  -- what sites hold while no impure call is answered
  abbrev now : Answers Held
  now = held_by name set.sites facts c args []

  -- and under the answers
  abbrev all : Answers Held
  all = held_by name set.sites facts c args answers

  -- the answers to the site's impure calls are allowed
  abbrev pub fine_at : ℕ → Bool
  fine_at s = fine facts answers (tree s)

  -- what they hold under the allowed ones
  abbrev pub own : Answers Held
  own s = if fine_at s then all s else now s

  pub own_all : (s : ℕ) → fine_at s ≡ true → own s ≡ all s
  own_all s e = chosen_true (fine_at s) (all s) (now s) e

  own_now : (s : ℕ) → fine_at s ≡ false → own s ≡ now s
  own_now s e = chosen_false (fine_at s) (all s) (now s) e

  -- Under more answers what is known stays.
  pub now_all : Extends now all
  now_all s k = later facts c args [] answers (tree s) k

  pub now_own : Extends now own
  now_own s k = elim (true_or (fine_at s)) [ inl e ↦ own_all s e ∙ now_all s k | inr e ↦ own_now s e ]

  pub own_extends : Extends own all
  own_extends s k = elim (true_or (fine_at s)) [
    | inl e ↦ sym (own_all s e)
    | inr e ↦ now_all s (λ q. k (own_now s e ∙ q)) ∙ sym (own_now s e)
  ]

  -- a part is a part of the tree
  part_there : (s p : ℕ) → Elem p (R.parts s) → (b : Binding) × (slice_get set.sites s ≡ Some b)
  part_there s p m = elim (none_or (slice_get set.sites s)) [
    | inl e ↦ absurd (subst (λ (o : Option Binding). Elem p (read_or [] (λ (b : Binding). numbers_of (sources_of b)) o)) e m)
    | inr e ↦ e
  ]

  -- parts of what has allowed answers have them
  fine_part : (s p : ℕ) → Elem p (R.parts s) → fine_at s ≡ true → fine_at p ≡ true
  fine_part s p m e =
      let (b, at) = part_there s p m in part_fine facts answers (tree s) (tree p) e (tree_part name set.sites h.is.table s b p at m)

  -- a field's are those of its source
  fine_source : (s : ℕ) (b : Binding) (m : Source Constraint) → slice_get set.sites s ≡ Some b → made_by set.rules b ≡ Some m
      → fine_at s ≡ fine_at m.site
  fine_source s (sites.MatchVariant a v i) m at e =
      ap (fine facts answers) (tree_is name set.sites h.is.table s (sites.MatchVariant a v i) at)
      ∙ ap (λ (x : Source Constraint). fine_at x.site) (same_Some _ m e)
  fine_source s (sites.ExtractStruct a i) m at e =
      ap (fine facts answers) (tree_is name set.sites h.is.table s (sites.ExtractStruct a i) at)
      ∙ ap (λ (x : Source Constraint). fine_at x.site) (same_Some _ m e)
  fine_source s (sites.MatchSome a) m at e =
      ap (fine facts answers) (tree_is name set.sites h.is.table s (sites.MatchSome a) at)
      ∙ ap (λ (x : Source Constraint). fine_at x.site) (same_Some _ m e)
  fine_source s (sites.Iterator a) m at e =
      ap (fine facts answers) (tree_is name set.sites h.is.table s (sites.Iterator a) at)
      ∙ ap (λ (x : Source Constraint). fine_at x.site) (same_Some _ m e)
  fine_source s b m at e = absurd cc

  -- so are those of a part of what is not bound
  unbound_part : (s p : ℕ) → R.stands s ≡ false → Elem p (R.parts s) → fine_at p ≡ fine_at s
  unbound_part s p n m =
      let (b, at) = part_there s p m in
      let free : is_bound b ≡ false = subst (λ (o : Option Binding). read_or false is_bound o ≡ false) at n in
      let inside : Elem p (numbers_of (sources_of b)) =
      subst (λ (o : Option Binding). Elem p (read_or [] (λ (x : Binding). numbers_of (sources_of x)) o)) at m in
      let (a, i, is, q) = unbound b p free inside in
      ap fine_at q ∙ sym (ap (fine facts answers) (tree_is name set.sites h.is.table s (sites.MatchTuple a i) (at ∙ ap Some is)))

  -- an impure call that was answered none may fail
  may_fail_at : (s : ℕ) → fine_at s ≡ true → (f n : ℕ) (ss : Sites) → At (rows_of name set.sites) (constructor_call f ss (suc n)) s
      → slice_get answers n ≡ Some None → facts.partial f ≡ true
  may_fail_at s e f n ss at none =
      may_fail facts answers f n ss
      (subst (λ (z : Site). fine facts answers z ≡ true) (tree_one name set.sites h.is.table (constructor_call f ss (suc n)) s at) e) none

  -- What has a value is made of what has.
  pub own_strict : IsStrict R own
  own_strict s g p m = elim (true_or (fine_at s)) [
    | inl e ↦
        let there : HasValue (all p) =
        held_strict name set.sites h.is.table facts c args answers s (subst HasValue (own_all s e) g) p m in
        subst HasValue (sym (own_all p (fine_part s p m e))) there
    | inr e ↦
        let there : HasValue (now p) = held_strict name set.sites h.is.table facts c args [] s (subst HasValue (own_now s e) g) p m in
        subst HasValue (sym (now_own p (given_known (now p) there))) there
  ]

  -- What tests ask is known.
  pub own_asked : ((p : ℕ) (rule : TypedRule) → slice_get rules p ≡ Some rule → rule.root ≡ term → Covers facts c args rule) → KnowsAsked R own
  own_asked covers i s a e =
      let known = knows_asked name facts sources rules term set h c args [] covers i s a in
      known (sym (now_own s known) ∙ e)

  module _ (allowed : IsAllowed facts c) (takes : count args ≡ length h.runnable.types) where
    -- a field is there where its test passes
    field : (s : ℕ) (m : Source Constraint) → R.made s ≡ Some m → Meets R m.want (own m.site) → HasValue (own s)
    field s m e w =
        let (b, at, is) = read_some (made_by set.rules) (slice_get set.sites s) m e in
        let same = fine_source s b m at is in
        elim (true_or (fine_at s)) [
          | inl f ↦
              let w' = subst (Meets R m.want) (own_all m.site (sym same ∙ f)) w in
              subst HasValue (sym (own_all s f)) (field_there name facts sources rules term set h c args answers s b m at is w')
          | inr f ↦
              let w' = subst (Meets R m.want) (own_now m.site (sym same ∙ f)) w in
              subst HasValue (sym (own_now s f)) (field_there name facts sources rules term set h c args [] s b m at is w')
        ]

    -- what no test makes doesn't fail where its parts have values
    whole : (s : ℕ) → R.made s ≡ None → ((p : ℕ) → Elem p (R.parts s) → HasValue (own p)) → own s ≢ fails
    whole s n g e = elim (true_or (fine_at s)) [
      | inl f ↦
          made_whole name facts sources rules term set h c args answers allowed takes s (may_fail_at s f) n
          (λ p m. subst HasValue (own_all p (fine_part s p m f)) (g p m)) (sym (own_all s f) ∙ e)
      | inr f ↦
          let bad : now s ≡ fails = sym (own_now s f) ∙ e in
          made_whole name facts sources rules term set h c args [] allowed takes s (λ t k ss at z. absurd (none-some _ z)) n (λ p m.
          let (b, at) = part_there s p m in
          let known = known_parts facts c args [] (tree s) (tree p) (tree_part name set.sites h.is.table s b p at m) (failed_known (now s) bad) in
          subst HasValue (now_own p known) (g p m)) bad
    ]

    -- what is not bound is known where its parts have values
    plain : (s : ℕ) → R.stands s ≡ false → ((p : ℕ) → Elem p (R.parts s) → HasValue (own p)) → own s ≢ unknown
    plain s n g e = elim (true_or (fine_at s)) [
      | inl f ↦
          held_plain name set.sites h.is.table facts c args answers s n
          (λ p m. subst HasValue (own_all p (fine_part s p m f)) (g p m)) (sym (own_all s f) ∙ e)
      | inr f ↦
          held_plain name set.sites h.is.table facts c args [] s n
          (λ p m. subst HasValue (own_now p (unbound_part s p n m ∙ f)) (g p m)) (sym (own_now s f) ∙ e)
    ]

    -- They keep to fields and calls.
    pub own_respects : Respects R own
    own_respects = record { field = field; whole = whole; plain = plain }
