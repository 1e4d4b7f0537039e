-- A text is one query.
use Rattle.std.proofs.Common.{◌≡◌, ◌++◌, ℕ, List, [], ◌∷◌, Some, None, true, false, map, refl, sym, ◌∙◌, ap, subst, append_assoc, inl, inr}
use Rattle.isle_syntax.specs.declared.lexer.Token.{Token}
use Rattle.isle_syntax.specs.declared.lexer.Token.TheVariants.{LParen, RParen, Symbol}
use Rattle.isle_syntax.proofs.Tokens.Findings.{tokens_same}
use Rattle.isle_types.specs.declared.ids.TermId.{TermId}
use Rattle.isle_rules.specs.Values.{ValueTree, ValueTrees, bool_tree, int_tree, big_tree, const_tree, opaque_tree, data_tree, no_trees, more_trees}
use Rattle.isle_meaning.specs.ValueTypes.{AreOfTypes}
use Rattle.isle_program.specs.declared.program.Program.{Program}
use Rattle.isle_values.specs.declared.queries.QueryFault.{QueryFault}
use Rattle.isle_values.specs.declared.queries.QueryFault.TheVariants.{Q1, Q2, Q3, Q4, Memory}
use Rattle.isle_program.specs.Facts.Reach.{IsRunnable}
use Rattle.isle_program.specs.Programs.{program_term, types_of, terms_of, value_facts, types_taken}
use Rattle.isle_values.specs.Queries.{RefusesText, IsCallIn, IsTextOf, IsOfText}
use Rattle.isle_values.specs.Values.Lists.{AreItems, no_items, a_word, a_list, IsListOf}
use Rattle.isle_values.specs.Values.Settled.{settled_all}
use Rattle.isle_values.specs.Values.TextTokens.{bare, alone, AreTokensOf, HasTokenFault}
use Rattle.isle_values.specs.Values.Tokens.{tokens_of, tokens_all}
use Rattle.isle_values.proofs.GroundValues.OneSpelling.{all_spelling}

-- a text has one list of tokens
same_tokens : (text : List ℕ) (tokens others : List Token) → AreTokensOf text tokens → AreTokensOf text others → tokens ≡ others
same_tokens text tokens others (placed, end, are, is) (found, last, read, made) =
    is ∙ ap (λ r. map bare r.left) (sym (tokens_same (alone text) are) ∙ tokens_same (alone text) read) ∙ sym made

-- no token fault stands in a text with tokens up to its end
no_tokens : (text : List ℕ) (tokens : List Token) → HasTokenFault text → AreTokensOf text tokens → ⊥
no_tokens text tokens (placed, end, are) (found, last, read, made) =
    let never : false ≡ true = ap (λ r. r.clean) (sym (tokens_same (alone text) are) ∙ tokens_same (alone text) read) in absurd cc

-- a text begins with one name
begins_once : (text : List ℕ) (name other : List ℕ) (rest more : List Token) → AreTokensOf text (LParen ∷ Symbol name ∷ rest)
    → AreTokensOf text (LParen ∷ Symbol other ∷ more) → (name ≡ other) × (rest ≡ more)
begins_once text name other rest more are read = let same = same_tokens text _ _ are read in (cc, cc)

-- the tokens of a list
begun : (text name : List ℕ) (rest : List Token) → IsTextOf text name rest → AreTokensOf text (LParen ∷ Symbol name ∷ rest)
begun text name rest (tokens, are, list) = subst (AreTokensOf text) list.begins are

-- a name is that of one term
one_term : (program : Program) (name other : List ℕ) (term found : TermId) → name ≡ other → program_term program name ≡ Some term
    → program_term program other ≡ Some found → term ≡ found
one_term program name other term found same named is =
    let both : Some term ≡ Some found = sym named ∙ ap (program_term program) same ∙ is in cc

-- a name of no term is that of none
no_term : (program : Program) (name other : List ℕ) (term : TermId) → name ≡ other → program_term program name ≡ None
    → program_term program other ≡ Some term → ⊥
no_term program name other term same none named =
    let both : None ≡ Some term = sym none ∙ ap (program_term program) same ∙ named in absurd cc

-- items behind items are items
joined : (first second : List Token) → AreItems first → AreItems second → AreItems (first ++ second)
joined first second no_items more = more
joined first second (a_word {items} word is rest) more = a_word word is (joined items second rest more)
joined first second (a_list {inner} {items} within rest) more =
    subst (λ l. AreItems (LParen ∷ l)) (sym (append_assoc inner (RParen ∷ items) second)) (a_list within (joined items second rest more))

-- the tokens of values are items
mutual
  value_items : (v : ValueTree) → AreItems (tokens_of v)
  value_items (bool_tree b) = a_word _ tt no_items
  value_items (int_tree n) = a_word _ tt no_items
  value_items (big_tree n) = a_word _ tt no_items
  value_items (const_tree name) = a_word _ tt no_items
  value_items (opaque_tree n) = a_word _ tt no_items
  value_items (data_tree name fields) = a_list (a_word (Symbol name) tt (all_items fields)) no_items

  all_items : (vs : ValueTrees) → AreItems (tokens_all vs)
  all_items no_trees = no_items
  all_items (more_trees v vs) = joined (tokens_of v) (tokens_all vs) (value_items v) (all_items vs)

-- the tokens of a call are a list
call_list : (name : List ℕ) (args : ValueTrees) → IsListOf (LParen ∷ Symbol name ∷ (tokens_all args ++ RParen ∷ [])) name
    (tokens_all args ++ RParen ∷ [])
call_list name args = record { begins = refl; closes = (tokens_all args, [], all_items args, refl, refl) }

pub one_call : (program : Program) (text : List ℕ) (term other : TermId) (args others : ValueTrees)
    → IsCallIn program text term args → IsCallIn program text other others → (term ≡ other) × (args ≡ others)
one_call program text term other args others call found =
    let (names, rests) = begins_once text call.name found.name _ _ call.spelt.1 found.spelt.1 in
    let terms = one_term program call.name found.name term other names call.named found.named in
    let (spelt, _) = all_spelling call.arguments found.arguments [] [] call.spelt.0 found.spelt.0 rests in
    (terms, sym call.settles ∙ (λ i. settled_all (value_facts program) (spelt i) (types_taken program (terms i))) ∙ found.settles)

pub no_call : (program : Program) (text : List ℕ) (fault : QueryFault) (term : TermId) (args : ValueTrees)
    → IsOfText fault → RefusesText program text fault → IsCallIn program text term args → ⊥
no_call program text Q1 term args of (name, rest, is, none) call =
    let (names, rests) = begins_once text name call.name rest _ (begun text name rest is) call.spelt.1 in
    no_term program name call.name term names none call.named
no_call program text Q2 term args of (name, rest, found, is, named, not) call =
    let (names, rests) = begins_once text name call.name rest _ (begun text name rest is) call.spelt.1 in
    let terms = one_term program name call.name found term names named call.named in
    not (subst (λ t. IsRunnable (types_of program) (terms_of program) t.0) (sym terms) call.callable)
no_call program text Q3 term args of (name, rest, found, is, named, runs, none) call =
    let (names, rests) = begins_once text name call.name rest _ (begun text name rest is) call.spelt.1 in
    let terms = one_term program name call.name found term names named call.named in
    let typed = subst (λ vs. AreOfTypes (value_facts program) vs (types_taken program term)) (sym call.settles) call.typed in
    none call.arguments (call.spelt.0, rests)
    (subst (λ t. AreOfTypes (value_facts program) (settled_all (value_facts program) call.arguments (types_taken program t)) (types_taken program t))
    (sym terms) typed)
no_call program text Q4 term args of (inl fault) call = no_tokens text _ fault call.spelt.1
no_call program text Q4 term args of (inr (tokens, are, not)) call =
    not call.name _ (subst (λ l. IsListOf l call.name (tokens_all call.arguments ++ RParen ∷ [])) (same_tokens text _ _ call.spelt.1 are)
    (call_list call.name call.arguments))
no_call program text (Memory e) term args of refused call = of

-- a list's text has tokens that are a list
no_list : (program : Program) (text name : List ℕ) (rest : List Token) → IsTextOf text name rest → RefusesText program text Q4 → ⊥
no_list program text name rest (tokens, are, list) (inl fault) = no_tokens text tokens fault are
no_list program text name rest (tokens, are, list) (inr (others, read, not)) = not name rest
    (subst (λ l. IsListOf l name rest) (same_tokens text _ _ are read) list)

-- the name of a text is that of one term
texts_term : (program : Program) (text name other : List ℕ) (rest more : List Token) (term found : TermId)
    → IsTextOf text name rest → IsTextOf text other more
    → program_term program name ≡ Some term → program_term program other ≡ Some found → term ≡ found
texts_term program text name other rest more term found is read named told =
    one_term program name other term found (begins_once text name other rest more (begun text name rest is) (begun text other more read)).0 named told

-- the name of a text is not one of a term and of none
texts_no_term : (program : Program) (text name other : List ℕ) (rest more : List Token) (found : TermId) → IsTextOf text name rest
    → IsTextOf text other more
    → program_term program name ≡ None → program_term program other ≡ Some found → ⊥
texts_no_term program text name other rest more found is read none told =
    no_term program name other found (begins_once text name other rest more (begun text name rest is) (begun text other more read)).0 none told

pub one_fault : (program : Program) (text : List ℕ) (fault other : QueryFault) → IsOfText fault → IsOfText other
    → RefusesText program text fault → RefusesText program text other → fault ≡ other
one_fault program text Q1 Q1 of on first second = refl
one_fault program text Q1 Q2 of on (name, rest, is, none) (other, more, found, read, told, not) =
    absurd (texts_no_term program text name other rest more found is read none told)
one_fault program text Q1 Q3 of on (name, rest, is, none) (other, more, found, read, told, runs, not) =
    absurd (texts_no_term program text name other rest more found is read none told)
one_fault program text Q1 Q4 of on (name, rest, is, none) second = absurd (no_list program text name rest is second)
one_fault program text Q1 (Memory e) of on first second = absurd on
one_fault program text Q2 Q1 of on (other, more, found, read, told, not) (name, rest, is, none) =
    absurd (texts_no_term program text name other rest more found is read none told)
one_fault program text Q2 Q2 of on first second = refl
one_fault program text Q2 Q3 of on (name, rest, term, is, named, not) (other, more, found, read, told, runs, none) =
    let terms = texts_term program text name other rest more term found is read named told in
    absurd (not (subst (λ t. IsRunnable (types_of program) (terms_of program) t.0) (sym terms) runs))
one_fault program text Q2 Q4 of on (name, rest, term, is, named, not) second = absurd (no_list program text name rest is second)
one_fault program text Q2 (Memory e) of on first second = absurd on
one_fault program text Q3 Q1 of on (other, more, found, read, told, runs, not) (name, rest, is, none) =
    absurd (texts_no_term program text name other rest more found is read none told)
one_fault program text Q3 Q2 of on (other, more, found, read, told, runs, none) (name, rest, term, is, named, not) =
    let terms = texts_term program text name other rest more term found is read named told in
    absurd (not (subst (λ t. IsRunnable (types_of program) (terms_of program) t.0) (sym terms) runs))
one_fault program text Q3 Q3 of on first second = refl
one_fault program text Q3 Q4 of on (name, rest, term, is, named, runs, none) second = absurd (no_list program text name rest is second)
one_fault program text Q3 (Memory e) of on first second = absurd on
one_fault program text Q4 Q1 of on first (name, rest, is, none) = absurd (no_list program text name rest is first)
one_fault program text Q4 Q2 of on first (name, rest, term, is, named, not) = absurd (no_list program text name rest is first)
one_fault program text Q4 Q3 of on first (name, rest, term, is, named, runs, none) = absurd (no_list program text name rest is first)
one_fault program text Q4 Q4 of on first second = refl
one_fault program text Q4 (Memory e) of on first second = absurd on
one_fault program text (Memory e) other of on first second = absurd of
