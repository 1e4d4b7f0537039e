-- What is gathered of a term's rules is its rule set.
use Rattle.std.proofs.Common.{◌≡◌, ◌≤◌, ◌++◌, ◌∷◌, inl, inr, [], ℕ, List, Some, length, slice_get, sym, ap, subst, ◌∙◌, arith}
use Rattle.std.specs.Prelude.{Contains}
use Rattle.std.specs.List.{AllZip}
use Rattle.isle_types.specs.declared.ids.Sym.{Sym}
use Rattle.isle_rules.specs.declared.rules.Rule as source
use Rattle.isle_rules.specs.TypedRules.{TypedRule}
use Rattle.isle_rules.specs.Shown.TermTables.{TermTables}
use Rattle.isle_meaning.specs.Facts.{TermFacts}
use Rattle.isle_meaning.specs.Sites.{Site}
use Rattle.isle_meaning.specs.Demands.{Demand}
use Rattle.isle_meaning.specs.Numbered.{Row, At}
use Rattle.isle_blocks.specs.declared.ids.BindingId.{BindingId}
use Rattle.isle_blocks.specs.declared.binding.Binding.{Binding}
use Rattle.isle_blocks.specs.declared.rule.Rule.{Rule}
use Rattle.isle_blocks.specs.Building.Standing.{StandEach}
use Rattle.isle_blocks.specs.ClosedRules.{IsClosedRule, AreNumbersOf}
use Rattle.isle_blocks.specs.Rows.{rows_of}
use Rattle.std.proofs.lemmas.Option.{same_Some}
use Rattle.std.proofs.lemmas.List.Elements.{Contains-append_left, Contains-push, Contains-push_cases}
use Rattle.isle_blocks.specs.Closure.{Stands}
use Rattle.isle_blocks.specs.RuleFaults.{SitesStand, MayMatchAt, NeverMatches}
use Rattle.isle_blocks.specs.RuleSets.{RulesOverSites}
use Rattle.isle_blocks.specs.Inside.GatheredSets.{GathersRules, none_gathered, one_added, one_dropped, IsOfTerm}
use Rattle.isle_blocks.specs.DefinedSets.{AreDefined, name_of, facts_by, rules_by, ListsNumbers, IsMadeAt, IsSiteOf, IsSetOf}
use Rattle.isle_blocks.specs.DefinedSets.{AreNumberedInOrder, none_numbered, rule_numbered}
use Rattle.isle_types.proofs.Zipped.{zipped_at}
use Rattle.isle_rules.specs.Shown.RulesShown.{IsShownRule}
use Rattle.isle_blocks.specs.Tables.{IsTable}
use Rattle.isle_blocks.proofs.Sets.GatheredRules.{typed_at}
use Rattle.isle_blocks.proofs.Building.Tables.{at_within}
use Rattle.isle_blocks.proofs.Sets.ListedNumbers.{Ascends, ascends_before, below_last, numbers_put, numbers_same}

-- what stands in one table stands in another at its number
abbrev pub Keeps : List Row → List Row → Type 0
Keeps rows new = (s : Site) (k : ℕ) → At rows s k → At new s k

pub closed_kept : (name : Sym → List ℕ) (rows new : List Row) (D : Demand → Type 0) (made : Rule) → Keeps rows new
    → IsClosedRule name rows D made → IsClosedRule name new D made
closed_kept name rows new D made kept closed = record {
  tests = record {
    derived = λ id test h. let (s, at, is) = closed.tests.derived id test h in (s, kept s id.0 at, is);
    all = λ s c h. let (id, test, has, at, is) = closed.tests.all s c h in (id, test, has, kept s id.0 at, is);
  };
  ascending = closed.ascending;
  equalities = record {
    left = λ x y apart joined.
        let (s, u, at, there, is) = closed.equalities.left x y apart joined in (s, u, kept s x.0 at, kept u y.0 there, is);
    all = λ s u is.
        let (x, y, at, there, joined) = closed.equalities.all s u is in (x, y, kept s x.0 at, kept u y.0 there, joined);
  };
  disjoint = closed.disjoint;
}

pub each_kept : (rows new : List Row) → Keeps rows new → (ids : List BindingId) (ss : List Site) → StandEach rows ids ss → StandEach new ids ss
each_kept rows new kept [] [] h = tt
each_kept rows new kept [] (s ∷ ss) h = absurd h
each_kept rows new kept (id ∷ ids) [] h = absurd h
each_kept rows new kept (id ∷ ids) (s ∷ ss) h = (kept s id.0 h.0, each_kept rows new kept ids ss h.1)

pub sites_kept : (facts : TermFacts) (rows new : List Row) (rule : TypedRule) → Keeps rows new → SitesStand facts rows rule
    → SitesStand facts new rule
sites_kept facts rows new rule kept stand = record {
  own = record {
    needed = λ s n. let (k, at) = stand.own.needed s n in (k, kept s k at);
    result = let (k, at) = stand.own.result in (k, kept _ k at);
  };
  fields = λ s u f. let (k, at) = stand.fields s u f in (k, kept u k at);
}

calls_kept : (rows new : List Row) (P : Site → Type 0) (ids : List BindingId) → Keeps rows new → AreNumbersOf rows P ids → AreNumbersOf new P ids
calls_kept rows new P ids kept are = record {
  numbered = λ id among. let (s, call, at) = are.numbered id among in (s, call, kept s id.0 at);
  all = λ s call. let (id, among, at) = are.all s call in (id, among, kept s id.0 at);
  ascending = are.ascending;
}

pub made_kept : (name : Sym → List ℕ) (facts : TermFacts) (sources : List source.Rule) (rules : List TypedRule) (term : ℕ)
    (table new : List Binding) → Keeps (rows_of name table) (rows_of name new) → (i : ℕ) (made : Rule)
    → IsMadeAt name facts sources rules term table i made → IsMadeAt name facts sources rules term new i made
made_kept name facts sources rules term table new kept i made is = record {
  source = is.source;
  source_at = is.source_at;
  reached = is.reached;
  told = is.told;
  closed = closed_kept name (rows_of name table) (rows_of name new) _ made kept is.closed;
  calls = calls_kept (rows_of name table) (rows_of name new) _ made.iterators kept is.calls;
  stand = sites_kept facts (rows_of name table) (rows_of name new) is.reached.rule kept is.stand;
  value = kept _ made.result.0 is.value;
  effects = each_kept (rows_of name table) (rows_of name new) kept made.impure _ is.effects;
}

-- related items behind others
pub zip_push : {A B : Type 0} (R : A → B → Type 0) (xs : List A) (ys : List B) (x : A) (y : B) → AllZip R xs ys → R x y
    → AllZip R (xs ++ x ∷ []) (ys ++ y ∷ [])
zip_push R [] [] x y all r = (r, tt)
zip_push R [] (b ∷ ys) x y all r = absurd all
zip_push R (a ∷ xs) [] x y all r = absurd all
zip_push R (a ∷ xs) (b ∷ ys) x y all r = (all.0, zip_push R xs ys x y all.1 r)

pub zip_map : {A B : Type 0} (R S : A → B → Type 0) → ((x : A) (y : B) → R x y → S x y) → (xs : List A) (ys : List B) → AllZip R xs ys
    → AllZip S xs ys
zip_map R S f [] [] all = tt
zip_map R S f [] (b ∷ ys) all = absurd all
zip_map R S f (a ∷ xs) [] all = absurd all
zip_map R S f (a ∷ xs) (b ∷ ys) all = (f a b all.0, zip_map R S f xs ys all.1)

module _ (env : TermTables) (d : AreDefined env) (term : ℕ) where
  -- the rules at places in a rule set: those that may match
  pub record IsGathered (places : List ℕ) (set : RulesOverSites) : Type 0 where
    pub reached : List ℕ
    pub listed : ListsNumbers (λ i. Contains places i × MayMatchAt (facts_by env d) (rules_by env d) term i) reached
    pub made : AllZip (IsMadeAt (name_of env d) (facts_by env d) env.rules (rules_by env d) term set.sites) reached set.rules
    pub order : AreNumberedInOrder (facts_by env d) (rules_by env d) reached (rows_of (name_of env d) set.sites)

  -- each rule at the places has the term
  abbrev pub AreOfTerm : List ℕ → Type 0
  AreOfTerm places = (i : ℕ) (rule : TypedRule) → Contains places i → slice_get (rules_by env d) i ≡ Some rule → rule.root ≡ term

  -- the sites of what is gathered are those of rules of the term at the places that may match
  pub gathered_from : (places : List ℕ) (set : RulesOverSites) → GathersRules env d places set → AreOfTerm places → (s : Site)
      → Stands (rows_of (name_of env d) set.sites) s
      → (is : IsSiteOf (facts_by env d) (rules_by env d) term s) × Contains places is.place
  gathered_from places set none_gathered own s (k, at) = let within = at_within [] s k at in absurd (omega arith)
  gathered_from places set (one_added {places = before} {old = old} i rule typed made new gathered at there is told pushed) own s stands =
      elim (is.explained s stands) [
        | inl base ↦
            let (of, among) = gathered_from before old gathered (λ j r among. own j r (Contains-append_left before (i ∷ []) j among)) s base in
            (of, Contains-append_left before (i ∷ []) of.place among)
        | inr more ↦ (
          record {
            place = i;
            reached = record { rule = typed; at = there; of_term = own i typed (Contains-push before i) there; may = is.reachable };
            from = more;
          },
          Contains-push before i,
        )
      ]
  gathered_from places set (one_dropped {places = before} {old = old} i typed gathered there never fits) own s stands =
      let (of, among) = gathered_from before set gathered (λ j r among. own j r (Contains-append_left before (i ∷ []) j among)) s stands in
      (of, Contains-append_left before (i ∷ []) of.place among)

  pub gathered_is : (places : List ℕ) (set : RulesOverSites) → GathersRules env d places set → Ascends places → AreOfTerm places
      → IsGathered places set
  gathered_is places set none_gathered up own = record {
    reached = [];
    listed = record {
      all = λ i. (λ (k, within, is). absurd (omega arith), λ ((k, within, is), may). absurd (omega arith));
      ascending = λ k l e less within. absurd (omega arith);
    };
    made = tt;
    order = none_numbered;
  }
  gathered_is places set (one_added {places = before} {old = old} i rule typed made new gathered at there is told pushed) up own =
      let name = name_of env d in let facts = facts_by env d in
      let so_far = gathered_is before old gathered (ascends_before before i up)
      (λ j r among. own j r (Contains-append_left before (i ∷ []) j among)) in
      let here : MayMatchAt facts (rules_by env d) term i =
      record { rule = typed; at = there; of_term = own i typed (Contains-push before i) there; may = is.reachable } in
      let made_at : IsMadeAt name facts env.rules (rules_by env d) term set.sites i made = record {
        source = rule;
        source_at = at;
        reached = here;
        told = told;
        closed = is.closed;
        calls = is.calls;
        stand = record { own = record { needed = is.needed; result = (made.result.0, is.value) }; fields = is.fields };
        value = is.value;
        effects = is.effects;
      } in
      record {
        reached = so_far.reached ++ i ∷ [];
        listed = numbers_put (λ j. Contains before j × MayMatchAt facts (rules_by env d) term j)
            (λ j. Contains (before ++ i ∷ []) j × MayMatchAt facts (rules_by env d) term j) i so_far.reached so_far.listed
            (λ j (among, may). below_last before i up j among) (λ j (among, may). (Contains-append_left before (i ∷ []) j among, may))
            (Contains-push before i, here)
            (λ j (among, may). elim (Contains-push_cases before i j among) [ inl old_one ↦ inl (old_one, may) | inr e ↦ inr (sym e) ]);
        made = subst (λ (l : List Rule). AllZip (IsMadeAt name facts env.rules (rules_by env d) term set.sites) (so_far.reached ++ i ∷ []) l)
            (sym pushed)
            (zip_push (IsMadeAt name facts env.rules (rules_by env d) term set.sites) so_far.reached old.rules i made
            (zip_map (IsMadeAt name facts env.rules (rules_by env d) term old.sites) (IsMadeAt name facts env.rules (rules_by env d) term set.sites)
            (made_kept name facts env.rules (rules_by env d) term old.sites set.sites is.kept) so_far.reached old.rules so_far.made) made_at);
        order = rule_numbered i typed (rows_of name set.sites) so_far.order there is.order;
      }
  gathered_is places set (one_dropped {places = before} {old = old} i typed gathered there never fits) up own =
      let facts = facts_by env d in
      let so_far = gathered_is before set gathered (ascends_before before i up)
      (λ j r among. own j r (Contains-append_left before (i ∷ []) j among)) in
      record {
        reached = so_far.reached;
        listed = numbers_same (λ j. Contains before j × MayMatchAt facts (rules_by env d) term j)
            (λ j. Contains (before ++ i ∷ []) j × MayMatchAt facts (rules_by env d) term j) so_far.reached
            (λ j (among, may). (Contains-append_left before (i ∷ []) j among, may))
            (λ j (among, may). elim (Contains-push_cases before i j among) [
              | inl old_one ↦ (old_one, may)
              | inr e ↦
                  let also = subst (λ (x : ℕ). slice_get (rules_by env d) x ≡ Some may.rule) (sym e) may.at in
                  let same : typed ≡ may.rule = same_Some typed may.rule (sym there ∙ also) in
                  absurd (may.may (subst (λ (r : TypedRule). NeverMatches facts r) same never))
            ])
            so_far.listed;
        made = so_far.made;
        order = so_far.order;
      }

  -- the places of a term's rules are those of its typed rules
  pub of_term_at : (i : ℕ) (typed : TypedRule) → slice_get (rules_by env d) i ≡ Some typed → IsOfTerm env.rules term i → typed.root ≡ term
  of_term_at i typed there is =
      let (same, here, shown) = typed_at env d i is.rule is.at in
      let one : same ≡ typed = same_Some same typed (sym here ∙ there) in
      ap (λ (r : TypedRule). r.root) (sym one) ∙ sym shown.root ∙ is.of_term

  pub at_term : (i : ℕ) (typed : TypedRule) → slice_get (rules_by env d) i ≡ Some typed → typed.root ≡ term → IsOfTerm env.rules term i
  at_term i typed there own =
      let (rule, at, shown) = zipped_at (IsShownRule d.tyenv.names) (rules_by env d) env.rules d.shows.rules i typed there in
      record { rule = rule; at = at; of_term = shown.root ∙ own }

  -- what is gathered of all rules of the term is its rule set
  pub set_is : (places : List ℕ) (set : RulesOverSites) → ListsNumbers (IsOfTerm env.rules term) places → GathersRules env d places set
      → IsTable set.sites → length set.sites ≤ 65536 → IsSetOf (name_of env d) (facts_by env d) env.rules (rules_by env d) term set
  set_is places set listed gathered table few =
      let own : AreOfTerm places = λ i typed among there. of_term_at i typed there ((listed.all i).0 among) in
      let is = gathered_is places set gathered listed.ascending own in
      record {
        places = is.reached;
        listed = numbers_same (λ i. Contains places i × MayMatchAt (facts_by env d) (rules_by env d) term i)
            (MayMatchAt (facts_by env d) (rules_by env d) term) is.reached (λ i (among, may). may)
            (λ i may. ((listed.all i).1 (at_term i may.rule may.at may.of_term), may)) is.listed;
        made = is.made;
        table = table;
        few = few;
        explained = λ s stands. (gathered_from places set gathered own s stands).0;
        order = is.order;
      }
