-- The rule sets of terms, term after term.
use Rattle.std.proofs.Common.{◌≡◌, ◌<◌, ◌↔◌, ◌+◌, ◌++◌, ◌∷◌, inl, inr, [], ℕ, Bool, List, Some, length, get_or, slice_get}
use Rattle.std.proofs.Common.{refl, sym, subst, ◌∙◌, arith}
use Rattle.std.specs.Prelude.{All, Contains}
use Rattle.std.proofs.lemmas.Bool.{cases_eq}
use Rattle.std.proofs.lemmas.Option.{slice_get_within, slice_get_cases, get_or_from_slice_get}
use Rattle.std.proofs.lemmas.List.Elements.{Contains-append_left, Contains-get_or, Contains-push}
use Rattle.isle_containers.proofs.Lists.{slice_get-pushed}
use Rattle.isle_types.specs.declared.ids.TermId.{TermId}
use Rattle.isle_rules.specs.Shown.TermTables.{TermTables}
use Rattle.isle_blocks.specs.Inside.Building.Contents.{Marked}
use Rattle.isle_blocks.specs.DefinedSets.{AreDefined, facts_by, rules_by, HasRules, IsTermSet, ListsNumbers, AreSetsOf}
use Rattle.isle_blocks.specs.Inside.GatheredSets.{AreSetsBelow, MarksThose, AreLost, IsLostBelow, IsOfTerm}
use Rattle.isle_blocks.specs.RuleSets.{RulesOverSites}
use Rattle.isle_blocks.specs.RuleFaults.{IsUnreachableAt}
use Rattle.isle_blocks.proofs.Sets.DefinedSets.{of_term_at, at_term}
use Rattle.isle_blocks.proofs.Sets.GatheredRules.{typed_at, root_within, no_lost}

-- what holds of all numbers with P holds of each that is listed
pub all_listed : (P Q : ℕ → Type 0) (numbers : List ℕ) → ListsNumbers P numbers → ((i : ℕ) → P i → Q i) → All Q numbers
all_listed P Q numbers lists f = λ k d within. f _ ((lists.all _).0 (Contains-get_or numbers k d within))

-- what holds of each item at a place holds of all
pub all_places : {A : Type 0} (P : A → Type 0) (xs : List A) → ((i : ℕ) (x : A) → slice_get xs i ≡ Some x → P x) → All P xs
all_places P xs f = λ k d within. elim (slice_get_cases xs k).1 [
  | inl (x, inside, at, same) ↦ subst P (sym (get_or_from_slice_get xs k x d at)) (f k x at)
  | inr (past, none) ↦ absurd (omega arith)
]

-- no terms yet
pub sets_none : (env : TermTables) (d : AreDefined env) → AreSetsBelow env d 0 []
sets_none env d = record {
  each = λ i pair at. absurd (let within = slice_get_within [] i pair at in omega arith);
  ascending = λ i j one other at there less. absurd (let within = slice_get_within [] i one at in omega arith);
  all = λ t has below. absurd (omega arith);
}

pub lost_none : (env : TermTables) (d : AreDefined env) (marks : List Bool) → MarksThose (IsLostBelow env d 0) marks marks
lost_none env d marks = record {
  fits = refl;
  marked = λ i. (λ h. inl h, λ h. elim h [ inl old ↦ old | inr lost ↦ absurd (let less = lost.below in omega arith) ]);
}

module _ (env : TermTables) (d : AreDefined env) (term : ℕ) where
  -- a term without rules
  pub sets_skip : (sets : List (TermId × RulesOverSites)) → AreSetsBelow env d term sets → (HasRules (rules_by env d) term → ⊥)
      → AreSetsBelow env d (term + 1) sets
  sets_skip sets are none = record {
    each = λ i pair at. let (is, below) = are.each i pair at in (is, omega arith);
    ascending = are.ascending;
    all = λ t has below. elim (cases_eq t term) [
      | inl same ↦ absurd (none (subst (λ (x : ℕ). HasRules (rules_by env d) x) same has))
      | inr other ↦ are.all t has (omega arith)
    ];
  }

  -- a term has rules where some are listed
  pub has_rules : (places : List ℕ) → ListsNumbers (IsOfTerm env.rules term) places → 0 < length places → HasRules (rules_by env d) term
  has_rules places listed some =
      let place = get_or places 0 0 in
      let is : IsOfTerm env.rules term place = (listed.all place).0 (Contains-get_or places 0 0 some) in
      let (typed, there, shown) = typed_at env d place is.rule is.at in
      record { place = place; rule = typed; at = there; of_term = sym shown.root ∙ is.of_term }

  -- and has none where none is
  pub has_no_rules : (places : List ℕ) → ListsNumbers (IsOfTerm env.rules term) places → length places ≡ 0 → HasRules (rules_by env d) term → ⊥
  has_no_rules places listed none has =
      let (k, within, is) = (listed.all has.place).1 (at_term env d term has.place has.rule has.at has.of_term) in omega arith

  -- a rule that never matches is one of the term's, or of a lesser one
  pub lost_next_term : (places : List ℕ) (old mid new : List Bool) → ListsNumbers (IsOfTerm env.rules term) places
      → MarksThose (IsLostBelow env d term) old mid → MarksThose (AreLost env d places) mid new
      → MarksThose (IsLostBelow env d (term + 1)) old new
  lost_next_term places old mid new listed first then = record {
    fits = then.fits ∙ first.fits;
    marked = λ i. (
      λ h. elim ((then.marked i).0 h) [
        | inl m ↦ elim ((first.marked i).0 m) [
          | inl o ↦ inl o
          | inr lost ↦ inr (record { unreachable = lost.unreachable; below = let less = lost.below in omega arith })
        ]
        | inr (among, unreachable) ↦
            let root = of_term_at env d term i unreachable.rule unreachable.at ((listed.all i).0 among) in
            inr (record { unreachable = unreachable; below = omega (arith, root) })
      ],
      λ h. (then.marked i).1 (elim h [
        | inl o ↦ inl ((first.marked i).1 (inl o))
        | inr lost ↦ elim (cases_eq lost.unreachable.rule.root term) [
          | inl same ↦ inr ((listed.all i).1 (at_term env d term i lost.unreachable.rule lost.unreachable.at same), lost.unreachable)
          | inr other ↦ inl ((first.marked i).1 (inr (record { unreachable = lost.unreachable; below = let less = lost.below in omega arith })))
        ]
      ]),
    );
  }

  -- of a term without rules none never matches
  pub lost_skip : (places : List ℕ) (old mid : List Bool) → ListsNumbers (IsOfTerm env.rules term) places → length places ≡ 0
      → MarksThose (IsLostBelow env d term) old mid → MarksThose (IsLostBelow env d (term + 1)) old mid
  lost_skip [] old mid listed none first = lost_next_term [] old mid mid listed first (no_lost env d mid)
  lost_skip (place ∷ places) old mid listed none first = absurd (omega arith)

  -- a term with its rule set, behind those of lesser terms
  pub sets_push : (set : RulesOverSites) (sets : List (TermId × RulesOverSites)) → AreSetsBelow env d term sets
      → IsTermSet env d (record { 0 = term }, set) → AreSetsBelow env d (term + 1) (sets ++ (record { 0 = term }, set) ∷ [])
  sets_push set sets are here =
      let last : TermId × RulesOverSites = (record { 0 = term }, set) in
      record {
        each = λ i pair at. elim (slice_get-pushed sets last i pair at) [
          | inl old ↦ let (is, below) = are.each i pair old in (is, omega arith)
          | inr (e, same) ↦ (
            subst (λ (p : TermId × RulesOverSites). IsTermSet env d p) same here,
            subst (λ (p : TermId × RulesOverSites). p.0.0 < term + 1) same (omega arith),
          )
        ];
        ascending = λ i j one other at there less. elim (slice_get-pushed sets last j other there) [
          | inl old ↦
              let inside = slice_get_within sets j other old in
              elim (slice_get-pushed sets last i one at) [
                | inl early ↦ are.ascending i j one other early old less
                | inr (e, same) ↦ absurd (omega arith)
              ]
          | inr (e, same) ↦ elim (slice_get-pushed sets last i one at) [
            | inl early ↦ subst (λ (p : TermId × RulesOverSites). one.0.0 < p.0.0) same (are.each i one early).1
            | inr (f, also) ↦ absurd (omega arith)
          ]
        ];
        all = λ t has below. elim (cases_eq t term) [
          | inl same ↦ (
            set,
            subst (λ (x : ℕ). Contains (sets ++ last ∷ []) (record { 0 = x }, set)) (sym same) (Contains-push sets last),
          )
          | inr other ↦
              let (found, among) = are.all t has (omega arith) in
              (found, Contains-append_left sets (last ∷ []) (record { 0 = t }, found) among)
        ];
      }

module _ (env : TermTables) (d : AreDefined env) (limit : ℕ) (all : limit ≡ length env.terms) where
  -- below the number of terms are all
  pub sets_all : (sets : List (TermId × RulesOverSites)) → AreSetsBelow env d limit sets → AreSetsOf env d sets
  sets_all sets are = record {
    each = all_places (IsTermSet env d) sets (λ i pair at. (are.each i pair at).0);
    ascending = are.ascending;
    all = λ term has.
        let within = root_within env d has.place has.rule has.at in let root = has.of_term in
        are.all term has (omega arith);
  }

  -- the marks say which rules never match
  pub lost_all : (old new : List Bool) → ((i : ℕ) → Marked old i → ⊥) → MarksThose (IsLostBelow env d limit) old new
      → (i : ℕ) → Marked new i ↔ IsUnreachableAt (facts_by env d) (rules_by env d) i
  lost_all old new none marks i = (
    λ h. elim ((marks.marked i).0 h) [ inl before ↦ absurd (none i before) | inr lost ↦ lost.unreachable ],
    λ unreachable.
        let within = root_within env d i unreachable.rule unreachable.at in
        (marks.marked i).1 (inr (record { unreachable = unreachable; below = omega arith })),
  )
