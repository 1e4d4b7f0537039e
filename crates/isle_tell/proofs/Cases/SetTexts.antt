-- Worked case: what is printed of (rule (f 5) 7), whole, and what isn't.
use Rattle.std.proofs.Common.{◌≡◌, ◌++◌, ◌∷◌, ◌∙◌, [], ℕ, true, false, List, None, refl, ap, sym, codes, arith, length, get_or, drop, length-append, append-nil, subst}
use Rattle.std.specs.Prelude.{slice_get, unwrap_or}
use Rattle.std.specs.Fmt.{decimal}
use Rattle.std.specs.List.{IsDistinct, flat_map, zip}
use Rattle.std.specs.List.Sorted.{IsStrictlySortedBy}
use Rattle.std.specs.Option.{option_and_then}
use Rattle.std.proofs.lemmas.List.Elements.{Contains-get_or}
use Rattle.isle_ast.specs.Positions.Files.{SourceFile}
use Rattle.isle_types.specs.declared.ids.TermId.{TermId}
use Rattle.isle_types.specs.declared.types.BuiltinType.TheVariants as builtin
use Rattle.isle_types.specs.declared.types.IntType.TheVariants as int
use Rattle.isle_types.specs.declared.types.«Type».TheVariants as type
use Rattle.isle_types.specs.TypeEnvs.{name_of, type_name}
use Rattle.isle_types.specs.TypeTables.{TypeTables, no_tables}
use Rattle.isle_rules.specs.declared.terms.Term.{Term}
use Rattle.isle_rules.specs.declared.terms.TermKind.TheVariants as kind
use Rattle.isle_rules.specs.Shown.TermTables.{TermTables}
use Rattle.isle_blocks.specs.declared.ids.BindingId.{BindingId}
use Rattle.isle_blocks.specs.ListedSets.{ListsEqualSites}
use Rattle.isle_blocks.proofs.ClosedEqualities.{joined_at}
use Rattle.isle_blocks.specs.RuleSets.{RulesOverSites}
use Rattle.isle_blocks.specs.Trees.Shown.{BlockShown}
use Rattle.isle_program.specs.declared.program.Program.{Program}
use Rattle.isle_program.specs.Programs.{name_in, rule_sets_of, set_trees_of, terms_of, types_of, term_name}
use Rattle.isle_tell.specs.TreeTexts.Names.{AreTexts, no_texts, more_texts, type_text}
use Rattle.isle_tell.specs.TreeTexts.Rules.{IsRuleText, equal_line, heading_line, test_line}
use Rattle.isle_tell.specs.TreeTexts.Sites.{sites_text}
use Rattle.isle_tell.specs.TreeTexts.Sets.{IsEntryText, IsSetText, TellsTrees, sets_and_trees}
use Rattle.isle_tell.specs.TreeTexts.Steps.{steps_text}
use Rattle.isle_tell.proofs.Cases.SetTrees.{block, five, is_set_tree, rule, set, tree}
use Rattle.isle_tell.proofs.Cases.Decimals.{zero_text, one_text, two_text, three_text, five_text, seven_text}

-- the types and the names of two terms, f and g
abbrev pub tables : TypeTables
tables = record no_tables {
  names = codes "f" ∷ codes "g" ∷ [];
  types = type.Builtin builtin.Bool ∷ type.Builtin (builtin.Int int.U8) ∷ [];
}

-- a term of one `u8` that makes one
abbrev term : ℕ → Term
term n = record {
  id = record { 0 = n };
  decl_pos = record { file = 0; offset = 0 };
  name = record { 0 = n };
  arg_tys = record { 0 = 1 } ∷ [];
  ret_ty = record { 0 = 1 };
  kind = kind.Decl (record { pure = true; multi = false; partial = false; rec = false }) None None;
}

abbrev pub terms : TermTables
terms = record {
  terms = term 0 ∷ term 1 ∷ [];
  numbers = (record { 0 = 0 }, record { 0 = 0 }) ∷ (record { 0 = 1 }, record { 0 = 1 }) ∷ [];
  rules = [];
  rule_numbers = [];
  converters = [];
  expands = false;
}

-- the file that the rule stands in
abbrev pub files : List SourceFile
files = (record { name = codes "f.isle"; text = codes "; f\n(rule (f 5) 7)" }) ∷ []

-- its lines
abbrev sites_lines : List ℕ
sites_lines = codes "    0 = Argument 0\n    1 = ConstInt 7 u8#1\n"

abbrev rule_heading : List ℕ
rule_heading = codes "  rule 3 at f.isle:2:1 name - prio 0 constraints 1\n"

abbrev pub rule_lines : List ℕ
rule_lines = codes "  rule 3 at f.isle:2:1 name - prio 0 constraints 1\n    0 is ConstInt 5 u8#1\n    result 1\n"

abbrev block_lines : List ℕ
block_lines = codes "    step bind []\n      match 0\n        arm ConstInt 5 u8#1 []\n          step bind []\n            return 1 from f.isle:2:1\n"

-- the whole text
abbrev pub set_lines : List ℕ
set_lines = codes "term 0 f\n  sites\n" ++ (sites_lines ++ (rule_lines ++ (codes "  block\n" ++ block_lines)))

-- the text without the heading of its rule
abbrev without_heading_lines : List ℕ
without_heading_lines = codes "term 0 f\n  sites\n" ++
    (sites_lines ++ (codes "    0 is ConstInt 5 u8#1\n    result 1\n" ++ (codes "  block\n" ++ block_lines)))

-- the term with its set and its tree
abbrev entry : (TermId × RulesOverSites) × BlockShown
entry = ((record { 0 = 0 }, set), block)

-- the texts of one item
only_one : {X : Type 0} (Is : X → List ℕ → Type 0) (x : X) (text : List ℕ) → AreTexts Is (x ∷ []) text → Is x text
only_one Is x _ (more_texts {text = text} is no_texts) = subst (Is x) (sym (append-nil text)) is

-- no sites are equal
no_sets : ListsEqualSites [] []
unfolding IsDistinct IsStrictlySortedBy
no_sets = record {
  joined = λ a b l. refl;
  only = λ a b both. both;
  disjoint = record { at_least_two = λ k d l. absurd (omega arith); distinct = tt };
  ascending = λ k d l. absurd (omega arith);
  in_order = tt;
}

-- and no others do
no_others : (sets : List (List BindingId)) → ListsEqualSites [] sets → sets ≡ []
no_others [] lists = refl
no_others (set ∷ sets) lists =
    let two = lists.disjoint.at_least_two 0 [] (omega arith) in
    let first = get_or set 0 (record { 0 = 0 }) in
    let has = Contains-get_or set 0 (record { 0 = 0 }) (omega arith) in
    let wrong : false ≡ true = lists.only first first (joined_at (set ∷ sets) first first set (0, omega arith, refl) has has) in
    absurd cc

module _ (program : Program) (has_types : types_of program ≡ tables) (has_terms : terms_of program ≡ terms) where
  -- names
  type_named : type_text program (record { 0 = 1 }) ≡ codes "u8#1"
  type_named = ap (λ (t : TypeTables). unwrap_or (option_and_then (type_name t) (slice_get t.types 1)) [] ++ (codes "#" ++ decimal 1)) has_types
      ∙ ap (λ (text : List ℕ). codes "u8#" ++ text) one_text

  term_is_f : term_name program (record { 0 = 0 }) ≡ codes "f"
  term_is_f = ap (λ (t : TermTables). name_in program (slice_get t.terms 0)) has_terms
      ∙ ap (λ (t : TypeTables). unwrap_or (name_of t (record { 0 = 0 })) []) has_types

  -- lines
  its_sites : sites_text program 0 set.sites ≡ sites_lines
  its_sites = rw (type_named, seven_text, zero_text, one_text)

  its_heading : heading_line program files rule ≡ rule_heading
  its_heading = rw (three_text, two_text, one_text, zero_text)

  its_test : test_line program (record { 0 = 0 }, five) ≡ codes "    0 is ConstInt 5 u8#1\n"
  its_test = rw (type_named, five_text, zero_text)

  its_block : steps_text program files set.rules 2 tree ≡ block_lines
  its_block = rw (type_named, five_text, two_text, one_text, zero_text)

  -- the lines of the rule
  its_lines : IsRuleText program files rule rule_lines
  its_lines = record { sets = []; listed = no_sets; is = rw (type_named, three_text, five_text, two_text, one_text, zero_text) }

  -- without its heading, or without its result, they aren't
  without_heading : IsRuleText program files rule (codes "    0 is ConstInt 5 u8#1\n    result 1\n") → ⊥
  without_heading told = let third = ap (λ (text : List ℕ). get_or text 2 0) told.is in omega (arith, third)

  without_result : IsRuleText program files rule (codes "  rule 3 at f.isle:2:1 name - prio 0 constraints 1\n    0 is ConstInt 5 u8#1\n") → ⊥
  without_result told =
      let rest : [] ≡ flat_map equal_line told.sets ++ codes "    result 1\n" =
      ap (drop 76) (rw (type_named, three_text, five_text, two_text, one_text, zero_text) at told.is) in
      let none : 0 ≡ length (flat_map equal_line told.sets ++ codes "    result 1\n") = ap (length {A = ℕ}) rest in
      omega (arith, none, length-append (flat_map equal_line told.sets) (codes "    result 1\n"))

  -- no other text is its lines, such as one with a line of equal sites
  no_other_lines : (text : List ℕ) → IsRuleText program files rule text → text ≡ rule_lines
  no_other_lines text told =
      let none = no_others told.sets told.listed in
      told.is ∙ (rw (none, type_named, three_text, five_text, two_text, one_text, zero_text))

  with_equal_sites : IsRuleText program files rule
      (codes "  rule 3 at f.isle:2:1 name - prio 0 constraints 1\n    0 is ConstInt 5 u8#1\n    equal 65536 65537\n    result 1\n") → ⊥
  with_equal_sites told = let letter = ap (λ (text : List ℕ). get_or text 80 0) (no_other_lines _ told) in omega (arith, letter)

  -- without the heading of its rule the text is none, whichever the tree
  without_rule : (any : BlockShown) → IsSetText program files (record { 0 = 0 }) set any without_heading_lines → ⊥
  without_rule any told =
      let more : List ℕ = codes "  block\n" ++ steps_text program files set.rules 2 any.tree in
      let rest : codes "    0 is ConstInt 5 u8#1\n    result 1\n  block\n" ++ block_lines ≡ told.rules ++ more =
      ap (drop 60) (rw (type_named, term_is_f, seven_text, one_text, zero_text) at told.is) in
      let its = only_one (IsRuleText program files) rule told.rules told.told in
      let third = ap (λ (text : List ℕ). get_or text 2 0)
      (subst (λ (lines : List ℕ). codes "    0 is ConstInt 5 u8#1\n    result 1\n  block\n" ++ block_lines ≡ lines ++ more) its.is rest) in
      omega (arith, third)

  module _ (has_sets : rule_sets_of program ≡ (record { 0 = 0 }, set) ∷ []) (has_trees : set_trees_of program ≡ block ∷ []) where
    has_both : sets_and_trees program ≡ entry ∷ []
    has_both = λ i. zip (has_sets i) (has_trees i)

    -- where g alone is asked for, nothing is printed, and else something is
    tells : (asked : List TermId) (text : List ℕ) → IsEntryText program files asked entry text → TellsTrees program files asked text
    tells asked text is =
        subst (λ (all : List ((TermId × RulesOverSites) × BlockShown)). AreTexts (IsEntryText program files asked) all text) (sym has_both)
        (subst (AreTexts (IsEntryText program files asked) (entry ∷ [])) (append-nil text) (more_texts is no_texts))

    told_of : (asked : List TermId) (text : List ℕ) → TellsTrees program files asked text → IsEntryText program files asked entry text
    told_of asked text told = only_one (IsEntryText program files asked) entry text
        (subst (λ (all : List ((TermId × RulesOverSites) × BlockShown)). AreTexts (IsEntryText program files asked) all text) has_both told)

    asked_for_g : TellsTrees program files (record { 0 = 1 } ∷ []) []
    asked_for_g = tells (record { 0 = 1 } ∷ []) [] refl

    not_for_g : TellsTrees program files (record { 0 = 1 } ∷ []) set_lines → ⊥
    not_for_g told = let no = told_of (record { 0 = 1 } ∷ []) set_lines told in cc

    not_empty : TellsTrees program files [] [] → ⊥
    not_empty told = let its = told_of [] [] told in let is = its.is in cc

    not_empty_for_f : TellsTrees program files (record { 0 = 0 } ∷ []) [] → ⊥
    not_empty_for_f told = let its = told_of (record { 0 = 0 } ∷ []) [] told in let is = its.is in cc

  its_text : IsSetText program files (record { 0 = 0 }) set block set_lines
  its_text = record {
    built = is_set_tree;
    rules = rule_lines;
    told = more_texts its_lines no_texts;
    is = rw (type_named, term_is_f, seven_text, five_text, two_text, one_text, zero_text);
  }

  module _ (has_sets : rule_sets_of program ≡ (record { 0 = 0 }, set) ∷ []) (has_trees : set_trees_of program ≡ block ∷ []) where
    all_told : TellsTrees program files [] set_lines
    all_told = tells has_sets has_trees [] set_lines its_text

    f_told : TellsTrees program files (record { 0 = 0 } ∷ []) set_lines
    f_told = tells has_sets has_trees (record { 0 = 0 } ∷ []) set_lines its_text
