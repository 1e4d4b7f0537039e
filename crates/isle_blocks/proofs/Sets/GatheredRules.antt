-- Rules of definitions at places, and how they are gathered into rule sets.
use Rattle.std.proofs.Common.{◌≡◌, ◌<◌, ◌⊎◌, ◌↔◌, inl, inr, set, get_or, ◌++◌, ◌∷◌, [], ℕ, zero, suc, Bool, true, false, List, Some, length, slice_get}
use Rattle.std.proofs.Common.{refl, sym, ◌∙◌, ap, subst, arith, Contains}
use Rattle.std.specs.List.{AllZip}
use Rattle.std.proofs.lemmas.Bool.{cases_eq}
use Rattle.std.proofs.lemmas.List.Elements.{Contains-append_left, Contains-append_right, Contains-append_cases}
use Rattle.std.proofs.lemmas.List.{get_or-set_same, get_or-set_other, length-set}
use Rattle.std.proofs.lemmas.Option.{slice_get_within, same_Some}
use Rattle.isle_types.proofs.Zipped.{all_at, mapped_at}
use Rattle.isle_rules.specs.declared.rules.Rule.{Rule}
use Rattle.isle_rules.specs.TypedRules.{TypedRule}
use Rattle.isle_rules.specs.Definitions.{declared_by}
use Rattle.isle_rules.specs.Shown.TermTables.{TermTables}
use Rattle.isle_rules.specs.Shown.ShownTerms.{term_shown}
use Rattle.isle_rules.specs.Shown.RulesShown.{IsShownRule}
use Rattle.isle_rules.specs.SoundRules.WellTyped.{IsTypedRule}
use Rattle.isle_rules.proofs.Sound.RuleTypes.{rules_typed}
use Rattle.isle_meaning.specs.Facts.{TermFacts}
use Rattle.isle_meaning.specs.Demands.{result_of}
use Rattle.isle_blocks.specs.declared.binding.Binding.{Binding}
use Rattle.isle_blocks.specs.AddedRules.{IsDefinedRule, IsAddedRule, HasRoomAlone, HasNoRoomAlone, HasNoRoomBeside, LacksRoomFor}
use Rattle.isle_blocks.specs.DefinedSets.{AreDefined, rules_by, facts_by, name_of}
use Rattle.isle_blocks.specs.Inside.GatheredSets.{AddsToSet, GathersRules, one_added, one_dropped, AreLost, MarksThose}
use Rattle.isle_blocks.specs.Inside.Building.Contents.{Marked}
use Rattle.isle_blocks.specs.Closure.{Stands}
use Rattle.isle_blocks.specs.Tables.{IsTable}
use Rattle.isle_blocks.specs.RuleFaults.{NeverMatches, MayMatch, FitsAlone}
use Rattle.isle_blocks.specs.RuleSets.{RulesOverSites}

-- what stands at a place of the second list stands for what stands there in the first
pub zipped_back : {A B : Type 0} (R : A → B → Type 0) (xs : List A) (ys : List B) → AllZip R xs ys → (i : ℕ) (y : B) → slice_get ys i ≡ Some y
    → (x : A) × (slice_get xs i ≡ Some x) × R x y
zipped_back R [] [] each i y is = absurd cc
zipped_back R [] (z ∷ ys) each i y is = absurd each
zipped_back R (x ∷ xs) [] each i y is = absurd each
zipped_back {A} {B} R (x ∷ xs) (z ∷ ys) each zero y is =
    let same : z ≡ y = cc in (x, refl, subst (λ (w : B). R x w) same each.0)
zipped_back R (x ∷ xs) (z ∷ ys) each (suc i) y is = zipped_back R xs ys each.1 i y is

-- the typed rule at the place of a rule
pub typed_at : (env : TermTables) (d : AreDefined env) (place : ℕ) (rule : Rule) → slice_get env.rules place ≡ Some rule
    → (typed : TypedRule) × (slice_get (rules_by env d) place ≡ Some typed) × IsShownRule d.tyenv.names typed rule
typed_at env d place rule at = zipped_back (IsShownRule d.tyenv.names) (rules_by env d) env.rules d.shows.rules place rule at

-- a rule at a place of the environment's rules is one of definitions
pub defined_at : (env : TermTables) (d : AreDefined env) (place : ℕ) (rule : Rule) → slice_get env.rules place ≡ Some rule → IsDefinedRule env rule
defined_at env d place rule at =
    let (typed, there, shown) = typed_at env d place rule at in
    record {
      tyenv = d.tyenv;
      types = d.types;
      levels = d.levels;
      max = d.max;
      defs = d.defs;
      once = d.once;
      shows = d.shows;
      few = d.few;
      place = place;
      typed = typed;
      at = at;
      typed_at = there;
    }

-- the term of a typed rule is one of the environment's
pub root_within : (env : TermTables) (d : AreDefined env) (place : ℕ) (typed : TypedRule) → slice_get (rules_by env d) place ≡ Some typed
    → typed.root < length env.terms
root_within env d place typed there =
    let declared = declared_by d.types env.expands d.shows.environment in
    let is = all_at (IsTypedRule declared) (rules_by env d)
    (rules_typed d.types env.expands d.levels d.max d.defs d.shows.environment d.shows.makes) place typed there in
    let known = subst (λ terms. slice_get terms typed.root ≡ Some is.root) (sym d.shows.declared.terms) is.known in
    let (term, at, same) = mapped_at (term_shown d.tyenv.names) env.terms typed.root is.root known in
    slice_get_within env.terms typed.root term at

-- so is that of a rule
pub term_within : (env : TermTables) (d : AreDefined env) (place : ℕ) (rule : Rule) → slice_get env.rules place ≡ Some rule
    → rule.root_term.0 < length env.terms
term_within env d place rule at =
    let (typed, there, shown) = typed_at env d place rule at in
    subst (λ (root : ℕ). root < length env.terms) (sym shown.root) (root_within env d place typed there)

-- a rule that has room alone fits alone
pub fits_alone : (facts : TermFacts) (typed : TypedRule) (partial : Bool) → partial ≡ facts.partial typed.root → HasRoomAlone facts partial typed
    → FitsAlone facts typed
fits_alone facts typed partial same room = record {
  table = room.table;
  few = room.few;
  own = record {
    needed = room.needed;
    result = subst (λ (p : Bool). Stands room.table (result_of facts p typed)) same room.result;
  };
}

-- and one that fits alone has room
pub has_room_alone : (facts : TermFacts) (typed : TypedRule) (partial : Bool) → partial ≡ facts.partial typed.root → FitsAlone facts typed
    → HasRoomAlone facts partial typed
has_room_alone facts typed partial same fits = record {
  table = fits.table;
  few = fits.few;
  needed = fits.own.needed;
  result = subst (λ (p : Bool). Stands fits.table (result_of facts p typed)) (sym same) fits.own.result;
}

-- the next rule is gathered
pub gather_next : (env : TermTables) (d : AreDefined env) (before : List ℕ) (place : ℕ) (rule : Rule) (old new : RulesOverSites)
    (partial added : Bool) → GathersRules env d before old → slice_get env.rules place ≡ Some rule
    → partial ≡ (facts_by env d).partial rule.root_term.0
    → AddsToSet env rule partial old new added → GathersRules env d (before ++ place ∷ []) new
unfolding typed_at defined_at
gather_next env d before place rule old new partial true gathered at says adds =
    let (typed, there, shown) = typed_at env d place rule at in
    let (made, is, told, pushed) = adds (defined_at env d place rule at) in
    let same : partial ≡ (facts_by env d).partial typed.root = says ∙ ap (facts_by env d).partial shown.root in
    one_added place rule typed made new gathered at there
    (subst (λ (p : Bool). IsAddedRule (name_of env d) (facts_by env d) p typed old.sites new.sites made) same is) told pushed
gather_next env d before place rule old new partial false gathered at says adds =
    let (typed, there, shown) = typed_at env d place rule at in
    let (never, room, stays) = adds (defined_at env d place rule at) in
    let same : partial ≡ (facts_by env d).partial typed.root = says ∙ ap (facts_by env d).partial shown.root in
    subst (λ (set : RulesOverSites). GathersRules env d (before ++ place ∷ []) set) (sym stays)
    (one_dropped place typed gathered there never (fits_alone (facts_by env d) typed partial same room))

-- a rule that is added may match
pub added_may : (env : TermTables) (d : AreDefined env) (place : ℕ) (rule : Rule) (typed : TypedRule) (old new : RulesOverSites) (partial : Bool)
    → slice_get env.rules place ≡ Some rule → slice_get (rules_by env d) place ≡ Some typed
    → AddsToSet env rule partial old new true → NeverMatches (facts_by env d) typed → ⊥
unfolding typed_at defined_at
added_may env d place rule typed old new partial at there adds never =
    let (same, here, shown) = typed_at env d place rule at in
    let (made, is, told, pushed) = adds (defined_at env d place rule at) in
    let one : typed ≡ same = same_Some typed same (sym there ∙ here) in
    is.reachable (subst (λ (z : TypedRule). NeverMatches (facts_by env d) z) one never)

-- one that isn't never matches
pub dropped_never : (env : TermTables) (d : AreDefined env) (place : ℕ) (rule : Rule) (typed : TypedRule) (old new : RulesOverSites) (partial : Bool)
    → slice_get env.rules place ≡ Some rule → slice_get (rules_by env d) place ≡ Some typed
    → AddsToSet env rule partial old new false → NeverMatches (facts_by env d) typed
unfolding typed_at defined_at
dropped_never env d place rule typed old new partial at there adds =
    let (same, here, shown) = typed_at env d place rule at in
    let (never, room, stays) = adds (defined_at env d place rule at) in
    let one : typed ≡ same = same_Some typed same (sym there ∙ here) in
    subst (λ (z : TypedRule). NeverMatches (facts_by env d) z) (sym one) never

-- what a rule has no room for, by the typed rule at its place
pub room_at : (env : TermTables) (d : AreDefined env) (place : ℕ) (rule : Rule) (typed : TypedRule) (partial : Bool) (base : List Binding)
    → slice_get env.rules place ≡ Some rule → slice_get (rules_by env d) place ≡ Some typed → LacksRoomFor env rule partial base
    → HasNoRoomAlone (facts_by env d) partial typed
    ⊎ (MayMatch (facts_by env d) typed × HasNoRoomBeside (name_of env d) (facts_by env d) partial typed base)
unfolding typed_at defined_at
room_at env d place rule typed partial base at there lacks =
    let (same, here, shown) = typed_at env d place rule at in
    let one : same ≡ typed = same_Some same typed (sym here ∙ there) in
    subst (λ (z : TypedRule). HasNoRoomAlone (facts_by env d) partial z
    ⊎ (MayMatch (facts_by env d) z × HasNoRoomBeside (name_of env d) (facts_by env d) partial z base)) one (lacks (defined_at env d place rule at))

-- a mark that is set
pub mark_set : (marks : List Bool) (place : ℕ) → place < length marks → (i : ℕ) → Marked (set marks place true) i ↔ (Marked marks i ⊎ (i ≡ place))
mark_set marks place within i = elim (cases_eq i place) [
  | inl same ↦ (λ h. inr same, λ h. subst (λ (j : ℕ). Marked (set marks place true) j) (sym same) (get_or-set_same marks place true false within))
  | inr other ↦
      let kept = get_or-set_other marks place i true false other in
      (λ h. inl (sym kept ∙ h), λ h. elim h [ inl old ↦ kept ∙ old | inr e ↦ absurd (other e) ])
]

only_one : (place i : ℕ) → Contains (place ∷ []) i → i ≡ place
only_one place i (k, within, is) = first k within is
  where
    first : (j : ℕ) → j < 1 → get_or (place ∷ []) j i ≡ i → i ≡ place
    first zero within is = sym is
    first (suc j) within is = absurd (omega arith)

-- the rule at a place is marked exactly where it never matches
pub lost_next : (env : TermTables) (d : AreDefined env) (place : ℕ) (rule : Rule) (old new : RulesOverSites) (partial added : Bool)
    → slice_get env.rules place ≡ Some rule → AddsToSet env rule partial old new added → (lost marks : List Bool) → length lost ≡ length env.rules
    → ((added ≡ true) × (marks ≡ lost)) ⊎ ((added ≡ false) × (marks ≡ set lost place true))
    → MarksThose (AreLost env d (place ∷ [])) lost marks
lost_next env d place rule old new partial added at adds lost marks fits (inl (is, same)) =
    let may = subst (λ (b : Bool). AddsToSet env rule partial old new b) is adds in
    record {
      fits = ap length same;
      marked = λ i. (
        λ h. inl (subst (λ (l : List Bool). Marked l i) same h),
        λ h. elim h [
          | inl before ↦ subst (λ (l : List Bool). Marked l i) (sym same) before
          | inr (among, unreachable) ↦
              let here : slice_get (rules_by env d) place ≡ Some unreachable.rule =
              subst (λ (j : ℕ). slice_get (rules_by env d) j ≡ Some unreachable.rule) (only_one place i among) unreachable.at in
              absurd (added_may env d place rule unreachable.rule old new partial at here may unreachable.never)
        ],
      );
    }
lost_next env d place rule old new partial added at adds lost marks fits (inr (is, same)) =
    let never = subst (λ (b : Bool). AddsToSet env rule partial old new b) is adds in
    let (typed, there, shown) = typed_at env d place rule at in
    let within : place < length lost = subst (λ (n : ℕ). place < n) (sym fits) (slice_get_within env.rules place rule at) in
    record {
      fits = ap length same ∙ length-set lost place true;
      marked = λ i. let both = mark_set lost place within i in (
        λ h. elim (both.0 (subst (λ (l : List Bool). Marked l i) same h)) [
          | inl before ↦ inl before
          | inr e ↦ inr (
            (0, omega arith, sym e),
            record {
              rule = typed;
              at = subst (λ (j : ℕ). slice_get (rules_by env d) j ≡ Some typed) (sym e) there;
              never = dropped_never env d place rule typed old new partial at there never;
            },
          )
        ],
        λ h. subst (λ (l : List Bool). Marked l i) (sym same)
            (both.1 (elim h [ inl before ↦ inl before | inr (among, u) ↦ inr (only_one place i among) ])),
      );
    }

pub no_lost : (env : TermTables) (d : AreDefined env) (marks : List Bool) → MarksThose (AreLost env d []) marks marks
no_lost env d marks = record {
  fits = refl;
  marked = λ i. (λ h. inl h, λ h. elim h [ inl old ↦ old | inr (among, u) ↦ absurd (nothing i among) ]);
}
  where
    nothing : (i : ℕ) → Contains {X = ℕ} [] i → ⊥
    nothing i (k, within, is) = absurd (omega arith)

-- marks of some places, then of one more
pub lost_more : (env : TermTables) (d : AreDefined env) (before : List ℕ) (place : ℕ) (old mid new : List Bool)
    → MarksThose (AreLost env d before) old mid → MarksThose (AreLost env d (place ∷ [])) mid new
    → MarksThose (AreLost env d (before ++ place ∷ [])) old new
lost_more env d before place old mid new first then = record {
  fits = then.fits ∙ first.fits;
  marked = λ i. (
    λ h. elim ((then.marked i).0 h) [
      | inl m ↦ elim ((first.marked i).0 m) [
        | inl o ↦ inl o
        | inr (among, u) ↦ inr (Contains-append_left before (place ∷ []) i among, u)
      ]
      | inr (among, u) ↦ inr (Contains-append_right before (place ∷ []) i among, u)
    ],
    λ h. (then.marked i).1 (elim h [
      | inl o ↦ inl ((first.marked i).1 (inl o))
      | inr (among, u) ↦ elim (Contains-append_cases before (place ∷ []) i among) [
        | inl b ↦ inl ((first.marked i).1 (inr (b, u)))
        | inr l ↦ inr (l, u)
      ]
    ]),
  );
}

pub empty_table : IsTable []
empty_table = record { earlier = λ k s site at among. absurd cc; once = λ x i j at there. absurd cc }
