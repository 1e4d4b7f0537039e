-- Where a call that is asked ends, the call that asks it ends.
use Rattle.std.proofs.Common.{◌≡◌, inl, inr, ℕ, suc, ◌++◌, List, [], true, sym, ◌∙◌, ap, append_assoc}
use Rattle.isle_meaning.specs.Values.{Values}
use Rattle.isle_meaning.specs.Worlds.{CheckedProgram, Answers, Event}
use Rattle.isle_meaning.specs.Asking.{Asked, asks_value, asks_outputs, Links, Chain, to_choose, to_finish}
use Rattle.isle_meaning.specs.Asking.{Ended, stuck, spent, ill_typed, EndsAt}

module _ (p : CheckedProgram) (w : Answers) (links : Links) (n t : ℕ) (args : Values) (before : List Event) (r : Asked)
    (further : (m : ℕ) (q : Asked) (trace : List Event) → Chain p links n r trace m q
    → Chain p links (suc n) (asks_value t args) (before ++ trace) m q) where
  -- one more link before a chain that ends
  linked : (trace : List Event) (e : Ended) → EndsAt p w links n r trace e → EndsAt p w links (suc n) (asks_value t args) (before ++ trace) e
  linked trace (stuck u vs) h = record {
    left = h.left;
    chain = further _ _ trace (h.chain);
    has_rules = h.has_rules;
    infallible = h.infallible;
    none = h.none;
  }
  linked trace spent h = record { last = h.last; args = h.args; chain = further _ _ trace (h.chain); has_rules = h.has_rules }
  linked trace (ill_typed (asks_value u vs)) (inl h) = inl (record {
    left = h.left;
    chain = further _ _ trace (h.chain);
    outside = h.outside;
    pure = h.pure;
    trees = h.trees;
    typed = h.typed;
    stand = h.stand;
    wrong = h.wrong;
  })
  linked trace (ill_typed (asks_value u vs)) (inr h) = inr (record {
    left = h.left;
    before = before ++ h.before;
    chain = further _ _ (h.before) (h.chain);
    outside = h.outside;
    impure = h.impure;
    trees = h.trees;
    answer = h.answer;
    typed = h.typed;
    stand = h.stand;
    last = ap (λ (l : List Event). before ++ l) (h.last) ∙ sym (append_assoc before (h.before) _);
    wrong = h.wrong;
  })
  linked trace (ill_typed (asks_outputs u v)) h = record {
    left = h.left;
    chain = further _ _ trace (h.chain);
    tree = h.tree;
    typed = h.typed;
    stands = h.stands;
    wrong = h.wrong;
  }

-- a call that is asked before a rule is chosen
pub choose_ends : (p : CheckedProgram) (w : Answers) (links : Links) (n t : ℕ) (args : Values) (r : Asked) (trace : List Event) (e : Ended)
    → p.has_rules t ≡ true → links.chooses n t args r → EndsAt p w links n r trace e → EndsAt p w links (suc n) (asks_value t args) trace e
choose_ends p w links n t args r trace e i asks h = linked p w links n t args [] r (λ m q trace c. to_choose i asks c) trace e h

-- a call that the chosen right side makes
pub finish_ends : (p : CheckedProgram) (w : Answers) (links : Links) (n t : ℕ) (args : Values) (r : Asked) (before trace : List Event) (e : Ended)
    → p.has_rules t ≡ true → links.finishes n t args before r → EndsAt p w links n r trace e
    → EndsAt p w links (suc n) (asks_value t args) (before ++ trace) e
finish_ends p w links n t args r before trace e i asks h =
    linked p w links n t args before r (λ m q trace c. to_finish before trace i asks c) trace e h
