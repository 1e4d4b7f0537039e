-- The rules that are gathered are within the size, and the first that has no room beside them is one size fault.
use Rattle.std.proofs.Common.{◌≡◌, ◌<◌, ◌≤◌, ◌⊎◌, ◌+◌, ◌∷◌, inl, inr, [], ℕ, zero, suc, Bool, List, Some, length, take, slice_get, sym, ap, subst, ◌∙◌, arith}
use Rattle.std.specs.Prelude.{Contains}
use Rattle.std.proofs.lemmas.Bool.{cases_eq}
use Rattle.std.proofs.lemmas.List.{length-map, take_all}
use Rattle.std.proofs.lemmas.List.Elements.{Contains-push_cases}
use Rattle.std.proofs.lemmas.Option.{none-some, same_Some}
use Rattle.isle_ast.specs.declared.error.Error.{Error}
use Rattle.isle_containers.proofs.Lists.{from_take, within-take}
use Rattle.isle_rules.specs.declared.rules.Rule as source
use Rattle.isle_rules.specs.TypedRules.{TypedRule}
use Rattle.isle_rules.specs.Shown.TermTables.{TermTables}
use Rattle.isle_meaning.specs.Facts.{TermFacts}
use Rattle.isle_meaning.specs.Sites.{Site}
use Rattle.isle_meaning.specs.Demands.{result_of}
use Rattle.isle_blocks.specs.Closure.{Stands}
use Rattle.isle_blocks.specs.Rows.{row_of, rows_of}
use Rattle.isle_blocks.specs.AddedRules.{LacksRoomFor}
use Rattle.isle_blocks.specs.DefinedSets.{AreDefined, name_of, facts_by, rules_by, HasRules, ListsNumbers}
use Rattle.isle_blocks.specs.Inside.GatheredSets.{GathersRules, none_gathered, one_added, one_dropped, IsOfTerm, AreRulesUpTo}
use Rattle.isle_blocks.specs.RuleFaults.{MayMatch, NeverMatches, SitesStand, FitsAlone, FitTogether, AreWithinSize, IsTooLargeAt, IsOneSizeFault}
use Rattle.isle_blocks.specs.RuleFaults.{size_error_at}
use Rattle.isle_blocks.specs.RuleSets.{RulesOverSites}
use Rattle.isle_blocks.proofs.Sets.DefinedSets.{AreOfTerm, gathered_from, of_term_at, at_term, sites_kept}
use Rattle.isle_blocks.proofs.Sets.GatheredRules.{typed_at, room_at, has_room_alone}

-- an item before the end of a beginning is in it
pub to_take : {X : Type 0} (xs : List X) (n i : ℕ) (x : X) → i < n → slice_get xs i ≡ Some x → slice_get (take n xs) i ≡ Some x
to_take [] n i x less e = absurd (none-some x e)
to_take (y ∷ xs) zero i x less e = absurd (omega arith)
to_take (y ∷ xs) (suc n) zero x less e = e
to_take (y ∷ xs) (suc n) (suc i) x less e = to_take xs n i x (omega arith) e

module _ (facts : TermFacts) (rules : List TypedRule) where
  -- a term without rules is within the size
  pub none_within : (term : ℕ) → (HasRules rules term → ⊥) → AreWithinSize facts rules term
  none_within term none = record {
    alone = λ i rule at of_term. absurd (none (record { place = i; rule = rule; at = at; of_term = of_term }));
    together = record {
      table = [];
      few = omega arith;
      stand = λ i reached. absurd (none (record { place = i; rule = reached.rule; at = reached.at; of_term = reached.of_term }));
    };
  }

  -- the next term's rules are within the size
  pub within_next : (limit : ℕ) → ((t : ℕ) → t < limit → AreWithinSize facts rules t) → AreWithinSize facts rules limit
      → (t : ℕ) → t < limit + 1 → AreWithinSize facts rules t
  within_next limit lesser here t less = elim (cases_eq t limit) [
    | inl same ↦ subst (λ (n : ℕ). AreWithinSize facts rules n) (sym same) here
    | inr other ↦ lesser t (omega arith)
  ]

  -- where all rules of a term are within the size, those before a place are
  pub within_before : (term bound : ℕ) → AreWithinSize facts rules term → AreWithinSize facts (take bound rules) term
  within_before term bound within = record {
    alone = λ i rule at of_term. within.alone i rule (from_take rules bound i rule at) of_term;
    together = record {
      table = within.together.table;
      few = within.together.few;
      stand = λ i reached. within.together.stand i
          (record { rule = reached.rule; at = from_take rules bound i reached.rule reached.at; of_term = reached.of_term; may = reached.may });
    };
  }

module _ (env : TermTables) (d : AreDefined env) where
  -- the sites of a gathered rule that may match stand in the table
  gathered_stand : (places : List ℕ) (set : RulesOverSites) → GathersRules env d places set → (i : ℕ) → Contains places i → (typed : TypedRule)
      → slice_get (rules_by env d) i ≡ Some typed → MayMatch (facts_by env d) typed
      → SitesStand (facts_by env d) (rows_of (name_of env d) set.sites) typed
  gathered_stand places set none_gathered i (k, within, is) typed at may = absurd (omega arith)
  gathered_stand places set (one_added {places = before} {old = old} place rule other made new gathered rule_at there is told pushed)
      i among typed at may =
      elim (Contains-push_cases before place i among) [
        | inl earlier ↦
            sites_kept (facts_by env d) (rows_of (name_of env d) old.sites) (rows_of (name_of env d) set.sites) typed is.kept
            (gathered_stand before old gathered i earlier typed at may)
        | inr last ↦
            let also = subst (λ (x : ℕ). slice_get (rules_by env d) x ≡ Some typed) (sym last) at in
            let same : other ≡ typed = same_Some other typed (sym there ∙ also) in
            subst (λ (r : TypedRule). SitesStand (facts_by env d) (rows_of (name_of env d) set.sites) r) same
            (record { own = record { needed = is.needed; result = (made.result.0, is.value) }; fields = is.fields })
      ]
  gathered_stand places set (one_dropped {places = before} {old = old} place other gathered there never fits) i among typed at may =
      elim (Contains-push_cases before place i among) [
        | inl earlier ↦ gathered_stand before set gathered i earlier typed at may
        | inr last ↦
            let also = subst (λ (x : ℕ). slice_get (rules_by env d) x ≡ Some typed) (sym last) at in
            let same : other ≡ typed = same_Some other typed (sym there ∙ also) in
            absurd (may (subst (λ (r : TypedRule). NeverMatches (facts_by env d) r) same never))
      ]

  -- a gathered rule fits alone, or may match
  gathered_cases : (places : List ℕ) (set : RulesOverSites) → GathersRules env d places set → (i : ℕ) → Contains places i → (typed : TypedRule)
      → slice_get (rules_by env d) i ≡ Some typed → FitsAlone (facts_by env d) typed ⊎ MayMatch (facts_by env d) typed
  gathered_cases places set none_gathered i (k, within, is) typed at = absurd (omega arith)
  gathered_cases places set (one_added {places = before} {old = old} place rule other made new gathered rule_at there is told pushed)
      i among typed at =
      elim (Contains-push_cases before place i among) [
        | inl earlier ↦ gathered_cases before old gathered i earlier typed at
        | inr last ↦
            let also = subst (λ (x : ℕ). slice_get (rules_by env d) x ≡ Some typed) (sym last) at in
            let same : other ≡ typed = same_Some other typed (sym there ∙ also) in
            inr (subst (λ (r : TypedRule). MayMatch (facts_by env d) r) same is.reachable)
      ]
  gathered_cases places set (one_dropped {places = before} {old = old} place other gathered there never fits) i among typed at =
      elim (Contains-push_cases before place i among) [
        | inl earlier ↦ gathered_cases before set gathered i earlier typed at
        | inr last ↦
            let also = subst (λ (x : ℕ). slice_get (rules_by env d) x ≡ Some typed) (sym last) at in
            let same : other ≡ typed = same_Some other typed (sym there ∙ also) in
            inl (subst (λ (r : TypedRule). FitsAlone (facts_by env d) r) same fits)
      ]

module _ (env : TermTables) (d : AreDefined env) (term : ℕ) where
  -- the rules of the term before a bound are within the size, where they are gathered
  pub gathered_within : (bound : ℕ) (places : List ℕ) (set : RulesOverSites) → GathersRules env d places set → length set.sites ≤ 65536
      → ((i : ℕ) (typed : TypedRule) → i < bound → slice_get (rules_by env d) i ≡ Some typed → typed.root ≡ term → Contains places i)
      → AreWithinSize (facts_by env d) (take bound (rules_by env d)) term
  gathered_within bound places set gathered few all =
      let facts = facts_by env d in let rules = rules_by env d in let table = rows_of (name_of env d) set.sites in
      let small : length table ≤ 65536 = subst (λ (n : ℕ). n ≤ 65536) (sym (length-map set.sites (row_of (name_of env d)))) few in
      let stand = λ (i : ℕ) (typed : TypedRule) (among : Contains places i) (at : slice_get rules i ≡ Some typed) (may : MayMatch facts typed).
      gathered_stand env d places set gathered i among typed at may in
      record {
        alone = λ i typed early own.
            let at = from_take rules bound i typed early in
            let among = all i typed (within-take rules bound i typed early) at own in
            elim (gathered_cases env d places set gathered i among typed at) [
              | inl fits ↦ fits
              | inr may ↦ record { table = table; few = small; own = (stand i typed among at may).own }
            ];
        together = record {
          table = table;
          few = small;
          stand = λ i reached.
              let at = from_take rules bound i reached.rule reached.at in
              stand i reached.rule (all i reached.rule (within-take rules bound i reached.rule reached.at) at reached.of_term) at reached.may;
        };
      }

  -- so are all rules of the term
  pub all_within : (places : List ℕ) (set : RulesOverSites) → GathersRules env d places set → length set.sites ≤ 65536
      → ListsNumbers (IsOfTerm env.rules term) places → AreWithinSize (facts_by env d) (rules_by env d) term
  all_within places set gathered few listed =
      let rules = rules_by env d in
      subst (λ (l : List TypedRule). AreWithinSize (facts_by env d) l term) (take_all (length rules) rules (omega arith))
      (gathered_within (length rules) places set gathered few (λ i typed less at own. (listed.all i).1 (at_term env d term i typed at own)))

  -- a table with the sites of the rules of the term before a bound that may match has all that are gathered of some
  has_gathered : (bound : ℕ) (places : List ℕ) (set : RulesOverSites) → GathersRules env d places set → AreOfTerm env d term places
      → ((i : ℕ) → Contains places i → i < bound) → (fit : FitTogether (facts_by env d) (take bound (rules_by env d)) term) → (s : Site)
      → Stands (rows_of (name_of env d) set.sites) s → Stands fit.table s
  has_gathered bound places set gathered own early fit s stands =
      let (is, among) = gathered_from env d term places set gathered own s stands in
      let reached = is.reached in
      let all = fit.stand is.place (record {
        rule = reached.rule;
        at = to_take (rules_by env d) bound is.place reached.rule (early is.place among) reached.at;
        of_term = reached.of_term;
        may = reached.may;
      }) in
      elim is.from [
        | inl needed ↦ all.own.needed s needed
        | inr (inl result) ↦ subst (λ (u : Site). Stands fit.table u) (sym result) all.own.result
        | inr (inr (t, field)) ↦ all.fields t s field
      ]

  -- the rules of the term before one of its rules are its earlier ones
  earlier_rules : (before : List ℕ) (place : ℕ) → AreRulesUpTo env.rules term before place → AreOfTerm env d term before
  earlier_rules before place up i typed among there = of_term_at env d term i typed there ((up.earlier i).0 among).1

  -- a rule of the term that has no room is the first that is too large
  pub too_large_at : (before : List ℕ) (place : ℕ) (rule : source.Rule) (set : RulesOverSites) (partial : Bool)
      → slice_get env.rules place ≡ Some rule → partial ≡ (facts_by env d).partial rule.root_term.0 → LacksRoomFor env rule partial set.sites
      → GathersRules env d before set → length set.sites ≤ 65536 → AreRulesUpTo env.rules term before place
      → ((t : ℕ) → t < term → AreWithinSize (facts_by env d) (rules_by env d) t) → IsTooLargeAt (facts_by env d) (rules_by env d) rule.pos
  too_large_at before place rule set partial at says lacks gathered few up lesser =
      let facts = facts_by env d in let rules = rules_by env d in
      let (typed, there, shown) = typed_at env d place rule at in
      let same : partial ≡ facts.partial typed.root = says ∙ ap facts.partial shown.root in
      let root : typed.root ≡ term = of_term_at env d term place typed there up.here in
      let own = earlier_rules before place up in
      let below : (i : ℕ) → Contains before i → i < suc place = λ i among. let (less, is) = (up.earlier i).0 among in omega arith in
      let so_far = gathered_within place before set gathered few
      (λ i r less is of_term. (up.earlier i).1 (less, at_term env d term i r is of_term)) in
      record {
        place = place;
        rule = typed;
        at = there;
        here = shown.pos;
        lesser = λ t less. lesser t (omega arith);
        before = subst (λ (t : ℕ). AreWithinSize facts (take place rules) t) (sym root) so_far;
        too_large = λ fit.
            let within = subst (λ (t : ℕ). AreWithinSize facts (take (suc place) rules) t) root fit in
            let here : slice_get (take (suc place) rules) place ≡ Some typed = to_take rules (suc place) place typed (omega arith) there in
            elim (room_at env d place rule typed partial set.sites at there lacks) [
              | inl alone ↦ alone (has_room_alone facts typed partial same (within.alone place typed here root))
              | inr (reachable, beside) ↦
                  let all = within.together.stand place (record { rule = typed; at = here; of_term = root; may = reachable }) in
                  beside within.together.table within.together.few
                  (has_gathered (suc place) before set gathered own below within.together)
                  all.own.needed (subst (λ (p : Bool). Stands within.together.table (result_of facts p typed)) (sym same) all.own.result) all.fields
            ];
      }

  -- the size error at it, alone, is one size fault
  pub one_size_fault : (before : List ℕ) (place : ℕ) (rule : source.Rule) (set : RulesOverSites) (partial : Bool) (errors : List Error)
      → slice_get env.rules place ≡ Some rule → partial ≡ (facts_by env d).partial rule.root_term.0 → LacksRoomFor env rule partial set.sites
      → errors ≡ size_error_at rule.pos ∷ [] → GathersRules env d before set → length set.sites ≤ 65536 → AreRulesUpTo env.rules term before place
      → ((t : ℕ) → t < term → AreWithinSize (facts_by env d) (rules_by env d) t) → IsOneSizeFault (facts_by env d) (rules_by env d) errors
  one_size_fault before place rule set partial errors at says lacks alone gathered few up lesser = record {
    pos = rule.pos;
    alone = alone;
    too_large = too_large_at before place rule set partial at says lacks gathered few up lesser;
  }
