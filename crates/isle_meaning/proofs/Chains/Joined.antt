-- Chains of asking, joined and at greater depths.
use Rattle.std.proofs.Common.{◌≢◌, inl, inr, ℕ, suc, ◌++◌, List, [], ◌∷◌, Option, Some, refl, sym, subst, append_assoc}
use Rattle.isle_rules.specs.TypedRules.{TypedRule}
use Rattle.isle_meaning.specs.Facts.{TermFacts}
use Rattle.isle_meaning.specs.Values.{Value, Values}
use Rattle.isle_meaning.specs.Words.{Word, Words, Step, word_of, steps_of}
use Rattle.isle_meaning.specs.Sites.{Site, sites_of}
use Rattle.isle_meaning.specs.Held.{values}
use Rattle.isle_meaning.specs.Demands.{vars_of}
use Rattle.isle_meaning.specs.Answers.{Completion}
use Rattle.isle_meaning.specs.Worlds.{CheckedProgram, Answers, Event}
use Rattle.isle_meaning.specs.Calls.{Agrees, Makes, Means}
use Rattle.isle_meaning.specs.Asking.{Asked, asks_value, asks_outputs, IsSiteOfRule, IsWrittenCall, RightAsks, AsksAtSite, AsksToChoose, AsksToFinish}
use Rattle.isle_meaning.specs.Asking.{Links, plain_links, Chain, no_link, to_choose, to_finish, Ended, stuck, spent, ill_typed, EndsAt}
use Rattle.isle_meaning.specs.Laws.Calls.{ChainsJoin, ChainStays, EndStays}
use Rattle.isle_meaning.proofs.Chains.Deeper.{got_map, makes_more, agrees_less, stays_deeper}

-- Two chains join, whatever is asked before a choice.
pub any_chains_join : (p : CheckedProgram) (links : Links) (n m k : ℕ) (from mid to : Asked) (one other : List Event)
    → Chain p links n from one m mid → Chain p links m mid other k to → Chain p links n from (one ++ other) k to
any_chains_join p links n m k from mid to one other no_link d = d
any_chains_join p links n m k from mid to one other (to_choose i a c) d =
    to_choose i a (any_chains_join p links _ m k _ mid to _ other c d)
any_chains_join p links n m k from mid to one other (to_finish before trace i a c) d =
    subst (λ l. Chain p links n from l k to) (sym (append_assoc before trace other))
    (to_finish before (trace ++ other) i a (any_chains_join p links _ m k _ mid to trace other c d))

-- Two chains join.
pub chains_join : ChainsJoin
chains_join p w = any_chains_join p (plain_links p w)

-- a right side whose calls do more still comes to a call
pub asks_more : (facts : TermFacts) (IsCall : Words → Site → Type 0) (below above : ℕ → Values → List Event → Option Value → Type 0)
    → ((t : ℕ) (vs : Values) (effects : List Event) (b : Option Value) → below t vs effects b → above t vs effects b)
    → (c : Completion) (args : Values) (vars : ℕ → Site) (done : List (Option Value)) (steps : List Step) (result : Word)
    (trace : List Event) (call : Site) (q : Asked) → RightAsks facts IsCall c below args vars done steps result trace call q
    → RightAsks facts IsCall c above args vars done steps result trace call q
asks_more facts IsCall below above rises c args vars done [] result trace call q h = h
asks_more facts IsCall below above rises c args vars done (s ∷ steps) result trace call q (inl h) = inl h
asks_more facts IsCall below above rises c args vars done (s ∷ steps) result trace call q (inr h) =
    inr (got_map (values facts c args done (sites_of facts vars s.args)) _ _ _ (λ vs r. (
      r.0,
      r.1,
      r.2,
      r.3,
      rises s.term vs (r.0) (Some (r.2)) (r.4),
      asks_more facts IsCall below above rises c args vars (done ++ Some (r.2) ∷ []) steps result (r.1) call q (r.5),
    )) h)

module _ (p : CheckedProgram) (w : Answers) (n : ℕ) where
  -- a meaning rises
  rises : (t : ℕ) (vs : Values) (s : List Event) (b : Option Value) → Means p w n t vs s b → Means p w (suc n) t vs s b
  rises t vs s b = stays_deeper p w n t vs s b

  -- what agrees with the meanings at the next depth agrees with those at this one
  less : (c : Completion) → Agrees p w (Means p w (suc n)) c → Agrees p w (Means p w n) c
  less c = agrees_less p w (Means p w n) (Means p w (suc n)) rises c

  -- a link to a call that a site of a rule has stays
  pub at_site_more : (IsSite : TypedRule → Site → Type 0) (t : ℕ) (args : Values) (q : Asked) → AsksAtSite p w IsSite n t args q
      → AsksAtSite p w IsSite (suc n) t args q
  at_site_more IsSite t args q h = record {
    place = h.place;
    rule = h.rule;
    at = h.at;
    site = h.site;
    its = h.its;
    call = h.call;
    within = h.within;
    fixed = λ c ag k. h.fixed c (less c ag) k;
  }

  -- a link to a call of a right side stays
  pub finish_more : (IsCall : TypedRule → Words → Site → Type 0) (t : ℕ) (args : Values) (trace : List Event) (q : Asked)
      → AsksToFinish p w IsCall n t args trace q → AsksToFinish p w IsCall (suc n) t args trace q
  finish_more IsCall t args trace q h = record {
    place = h.place;
    rule = h.rule;
    at = h.at;
    call = h.call;
    fixed = λ c ag k. let g = h.fixed c (less c ag) k in record {
      matches = g.matches;
      greatest = g.greatest;
      asks = asks_more p.terms (IsCall (h.rule)) (Makes p (Means p w n)) (Makes p (Means p w (suc n)))
          (λ u vs e b. makes_more p w (Means p w n) (Means p w (suc n)) rises (p.has_rules u) u vs e b) c args
          (vars_of p.terms (h.rule)) [] (steps_of p.terms (h.rule).right) (word_of p.terms (h.rule).right) trace (h.call) q
          (g.asks);
    };
  }

module _ (p : CheckedProgram) (w : Answers) (links : Links)
    (choose_more : (n t : ℕ) (args : Values) (q : Asked) → links.chooses n t args q → links.chooses (suc n) t args q)
    (finish_more : (n t : ℕ) (args : Values) (before : List Event) (q : Asked) → links.finishes n t args before q
    → links.finishes (suc n) t args before q) where
  -- A chain is one at the next depth, where its links are.
  pub any_chain_stays : (n m : ℕ) (from to : Asked) (trace : List Event) → Chain p links n from trace m to
      → Chain p links (suc n) from trace (suc m) to
  any_chain_stays n m from to trace no_link = no_link
  any_chain_stays n m from to trace (to_choose i a c) = to_choose i (choose_more _ _ _ _ a) (any_chain_stays _ m _ to trace c)
  any_chain_stays n m from to trace (to_finish before rest i a c) =
      to_finish before rest i (finish_more _ _ _ before _ a) (any_chain_stays _ m _ to rest c)

  -- So is the end of one, but for want of depth.
  pub any_end_stays : (n : ℕ) (from : Asked) (trace : List Event) (e : Ended) → e ≢ spent → EndsAt p w links n from trace e
      → EndsAt p w links (suc n) from trace e
  any_end_stays n from trace (stuck t args) d h = record {
    left = suc (h.left);
    chain = any_chain_stays n _ from _ trace (h.chain);
    has_rules = h.has_rules;
    infallible = h.infallible;
    none = λ c ag k. h.none c (less p w (h.left) c ag) k;
  }
  any_end_stays n from trace spent d h = absurd (d refl)
  any_end_stays n from trace (ill_typed (asks_value t args)) d (inl h) = inl (record {
    left = suc (h.left);
    chain = any_chain_stays n _ from _ trace (h.chain);
    outside = h.outside;
    pure = h.pure;
    trees = h.trees;
    typed = h.typed;
    stand = h.stand;
    wrong = h.wrong;
  })
  any_end_stays n from trace (ill_typed (asks_value t args)) d (inr h) = inr (record {
    left = suc (h.left);
    before = h.before;
    chain = any_chain_stays n _ from _ (h.before) (h.chain);
    outside = h.outside;
    impure = h.impure;
    trees = h.trees;
    answer = h.answer;
    typed = h.typed;
    stand = h.stand;
    last = h.last;
    wrong = h.wrong;
  })
  any_end_stays n from trace (ill_typed (asks_outputs t v)) d h = record {
    left = suc (h.left);
    chain = any_chain_stays n _ from _ trace (h.chain);
    tree = h.tree;
    typed = h.typed;
    stands = h.stands;
    wrong = h.wrong;
  }

module _ (p : CheckedProgram) (w : Answers) where
  -- the links of plain runs stay
  chooses_more : (n t : ℕ) (args : Values) (q : Asked) → AsksToChoose p w n t args q → AsksToChoose p w (suc n) t args q
  chooses_more n t args q h = at_site_more p w n (IsSiteOfRule p.terms) t args q h

  finishes_more : (n t : ℕ) (args : Values) (before : List Event) (q : Asked) → AsksToFinish p w (IsWrittenCall p.terms) n t args before q
      → AsksToFinish p w (IsWrittenCall p.terms) (suc n) t args before q
  finishes_more n t args before q h = finish_more p w n (IsWrittenCall p.terms) t args before q h

-- A chain is one at the next depth.
pub chain_stays : ChainStays
chain_stays p w = any_chain_stays p w (plain_links p w) (chooses_more p w) (finishes_more p w)

-- So is the end of one, but for want of depth.
pub end_stays : EndStays
end_stays p w = any_end_stays p w (plain_links p w) (chooses_more p w) (finishes_more p w)
