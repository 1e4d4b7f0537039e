-- The names of rules: those that are alone at the root of rules, the names with their positions, and the numbers of rules by their names.
use Rattle.std.proofs.Common.{◌≡◌, ℕ, zero, suc, ◌+◌, ◌==◌, ◌<◌, ◌≤◌, Bool, true, false, cond, not, List, [], ◌∷◌, ◌++◌, length, map, take, Bor}
use Rattle.std.proofs.Common.{Option, Some, None, IsSome, is_some, if◌then◌else◌, String, string_bytes, arith, refl, ap, sym, subst, ◌∙◌, slice_get}
use Rattle.std.proofs.Common.{bytes_eq}
use Rattle.std.specs.List.{AllZip, filter_map, cons_option}
use Rattle.std.specs.Map.{KeepsOthers}
use Rattle.std.specs.Global.{Global}
use Rattle.std.specs.Option.{option_map, option_and_then, option_copied}
use Rattle.std.proofs.lemmas.Bool.{false≢true}
use Rattle.std.proofs.lemmas.Bool.Decides.{Decides-eqb}
use Rattle.std.proofs.lemmas.List.{map-append, length-map}
use Rattle.std.proofs.lemmas.List.Elements.{filter_map-append}
use Rattle.std.proofs.lemmas.Option.{same_Some, none-some, slice_get_within, slice_get-map}
use Rattle.std.proofs.lemmas.Slice.Eq.{bytes_eq-Decides}
use Rattle.std.proofs.lemmas.Slice.Zip.{all_zipped_more}
use Rattle.isle_ast.specs.declared.ast.Ident.{Ident}
use Rattle.isle_ast.specs.declared.ast.Rule.{Rule as RuleTree}
use Rattle.isle_ast.specs.declared.ast.Def.{Def}
use Rattle.isle_ast.specs.declared.pos.Pos.{Pos}
use Rattle.isle_types.specs.declared.ids.Sym.{Sym}
use Rattle.isle_types.specs.declared.ids.RuleId.{RuleId}
use Rattle.isle_types.specs.Names.{position_of, AreDistinct, KeepsNames}
use Rattle.isle_containers.specs.StableMaps.{value_at, value_at_text}
use Rattle.isle_types.specs.TypeEnvs.{CountUp, symbol_at}
use Rattle.isle_types.proofs.Interning.{text_eq}
use Rattle.isle_containers.proofs.Lists.{AllZip-weaker, taken_more, slice_get-kept, slice_get-last}
use Rattle.isle_types.proofs.FieldReadings.{count_more}
use Rattle.isle_types.proofs.NamePlaces.{same_name, differ, place_found, place_known}
use Rattle.isle_rules.specs.declared.rules.Rule.{Rule}
use Rattle.isle_terms.specs.declared.env.naming.Named.{Named}
use Rattle.isle_terms.specs.declared.env.rule_names.NamedRules.{NamedRules}
use Rattle.isle_rules.specs.TypedRules.{TypedRule}
use Rattle.isle_rules.specs.Signatures.{Declared}
use Rattle.isle_rules.specs.Elaboration.{ElaboratesRule}
use Rattle.isle_rules.specs.Definitions.{rules_in, times, name_of, is_name, rule_named, rule_names, first_of, IsRuleOf}
use Rattle.isle_terms.specs.TermFaults.{names_of}
use Rattle.isle_terms.specs.TypingFaults.{named_rules}
use Rattle.isle_rules.specs.Shown.TermTables.{same_sym}
use Rattle.isle_rules.specs.Shown.RulesShown.{IsShownName, IsShownRule}
use Rattle.isle_terms.specs.Inside.Collecting.NamedItems.{name_shown, named_shown}
use Rattle.isle_terms.specs.Inside.Collecting.RuleNames.{lone_mark, MarksLone, with_names, IsTableOfRules, IsNumbering, AreNamedRules}
use Rattle.isle_rules.specs.Shown.TermTables.{rule_at}
use Rattle.isle_terms.proofs.Collections.Listing.{kind_more, kind_same}
use Rattle.isle_rules.proofs.Zipped.{zipped_length, count_at}
use Rattle.isle_terms.proofs.Showing.ShownMore.{names_within, place_new, place_more}
use Rattle.isle_terms.proofs.Showing.RulesShown.{rule_kept}

-- how many times a name is among names, with one more behind
times_more : (name last : List ℕ) (names : List (List ℕ))
    → times name (names ++ last ∷ []) ≡ (if bytes_eq last name then suc (times name names) else times name names)
times_more name last [] = refl
times_more name last (first ∷ names) =
    elim (bytes_eq first name) as (λ b. cond b (suc (times name (names ++ last ∷ []))) (times name (names ++ last ∷ []))
    ≡ cond (bytes_eq last name) (suc (cond b (suc (times name names)) (times name names))) (cond b (suc (times name names)) (times name names))) [
      | true ↦ ap suc (times_more name last names) ∙ through (bytes_eq last name)
      | false ↦ times_more name last names
    ]
  where
    through : (b : Bool) → suc (cond b (suc (times name names)) (times name names))
        ≡ cond b (suc (suc (times name names))) (suc (times name names))
    through true = refl
    through false = refl

-- the mark of a name that occurs once more
mark_more : (n : ℕ) → lone_mark (suc n) ≡ Some (not (is_some (lone_mark n)))
mark_more zero = refl
mark_more (suc zero) = refl
mark_more (suc (suc n)) = refl

-- the table of no names
pub marks_none : (lone : List (String Global × Bool)) → lone ≡ [] → MarksLone [] lone
marks_none lone none = subst (MarksLone []) (sym none) (record { marked = λ name. refl })

-- the table of names, and one more
pub marks_more : (names : List (List ℕ)) (table new : List (String Global × Bool)) (key : String Global) (name : List ℕ) (mark : Bool)
    → MarksLone names table → string_bytes key ≡ name → mark ≡ not (is_some (value_at_text table name))
    → ((q : String Global) → value_at text_eq new q ≡ (if text_eq key q then Some mark else value_at text_eq table q))
    → KeepsOthers text_eq (text_eq key) table new → MarksLone (names ++ name ∷ []) new
unfolding KeepsOthers
marks_more names table new key name mark marks is marked values others =
    subst (λ n. MarksLone (names ++ n ∷ []) new) is (record { marked = at_text })
  where
    here : value_at_text new (string_bytes key) ≡ Some mark
    here = values key ∙ ap (λ b. if b then Some mark else value_at text_eq table key) (same_name (string_bytes key))

    counted : mark ≡ not (is_some (lone_mark (times (string_bytes key) names)))
    counted = marked ∙ ap (λ n. not (is_some (value_at_text table n))) (sym is)
        ∙ ap (λ o. not (is_some o)) (marks.marked (string_bytes key))

    kept : (other : List ℕ) → bytes_eq (string_bytes key) other ≡ false → value_at_text new other ≡ value_at_text table other
    kept other apart =
        others (λ k. bytes_eq other (string_bytes k))
        (λ x y same. let decides = bytes_eq-Decides other (string_bytes x) in ap (λ t. bytes_eq t (string_bytes y)) (decides.0 same))
        (λ k same. differ (string_bytes key) (string_bytes k) other same apart)

    at_text : (other : List ℕ) → value_at_text new other ≡ lone_mark (times other (names ++ string_bytes key ∷ []))
    at_text other = elim (bytes_eq (string_bytes key) other) as (λ b. bytes_eq (string_bytes key) other ≡ b
        → value_at_text new other ≡ lone_mark (cond b (suc (times other names)) (times other names))) [
          | true ↦ λ same. let decides = bytes_eq-Decides (string_bytes key) other in
              subst (λ n. value_at_text new n ≡ lone_mark (suc (times n names))) (decides.0 same)
              (here ∙ ap Some counted ∙ sym (mark_more (times (string_bytes key) names)))
          | false ↦ λ apart. kept other apart ∙ marks.marked other
        ] refl ∙ sym (ap lone_mark (times_more other (string_bytes key) names))

-- what is there is there when it is copied
pub copied_some : {X : Type 0} (o : Option (Bor X)) → is_some o ≡ is_some (option_copied o)
copied_some None = refl
copied_some (Some x) = refl

-- no name is shown where there is none
pub no_name : (o : Option (Bor Ident)) → ((name : Bor Ident) → o ≡ Some name → ⊥) → name_shown o ≡ None
no_name None other = refl
no_name (Some name) other = absurd (other name refl)

-- the names of rules so far, and one more
pub names_more : (defs : List Def) (trees : List RuleTree) (i : ℕ) (tree : RuleTree) (old new : List (Option (Bor Ident))) (name : Option (Bor Ident))
    → slice_get trees i ≡ Some tree → new ≡ old ++ name ∷ [] → name_shown name ≡ name_of defs tree
    → map name_shown old ≡ map (name_of defs) (take i trees) → map name_shown new ≡ map (name_of defs) (take (i + 1) trees)
names_more defs trees i tree old new name here more same before =
    ap (map name_shown) more ∙ map-append name_shown old (name ∷ []) ∙ ap (λ ns. ns ++ name_shown name ∷ []) before
    ∙ ap (λ n. map (name_of defs) (take i trees) ++ n ∷ []) same
    ∙ sym (ap (map (name_of defs)) (taken_more trees i tree here) ∙ map-append (name_of defs) (take i trees) (tree ∷ []))

-- the name of a rule, if it has one, with the rule's position
abbrev pub placed_name : List Def → RuleTree → Option (List ℕ × Pos)
placed_name defs rule = option_map (λ (name : List ℕ). (name, rule.pos)) (name_of defs rule)

-- the names that are shown are those of the rules
pub name_there : (defs : List Def) (trees : List RuleTree) (names : List (Option (Bor Ident))) (i : ℕ) (tree : RuleTree) (name : Option (Bor Ident))
    → map name_shown names ≡ map (name_of defs) trees → slice_get trees i ≡ Some tree → slice_get names i ≡ Some name
    → name_of defs tree ≡ name_shown name
name_there defs trees names i tree name same tree_at name_at =
    same_Some (name_of defs tree) (name_shown name)
    (sym (slice_get-map (name_of defs) trees i ∙ ap (option_map (name_of defs)) tree_at) ∙ sym (ap (λ ns. slice_get ns i) same)
    ∙ slice_get-map name_shown names i ∙ ap (option_map name_shown) name_at)

-- there are as many names as rules
pub same_count : (defs : List Def) (rules : List (Bor RuleTree)) (names : List (Option (Bor Ident))) → map (λ rule. rule.now) rules ≡ rules_in defs
    → map name_shown names ≡ map (name_of defs) (rules_in defs) → length rules ≡ length names
same_count defs rules names trees same =
    sym (length-map rules (λ (rule : Bor RuleTree). rule.now)) ∙ ap length trees ∙ sym (length-map (rules_in defs) (name_of defs))
    ∙ sym (ap length same) ∙ length-map names name_shown

-- the names with their positions so far, and that of one more rule
pub placed_more : (defs : List Def) (trees : List RuleTree) (i : ℕ) (tree : RuleTree) (name : List ℕ) (old new : List Named) (named : Named)
    → slice_get trees i ≡ Some tree → name_of defs tree ≡ Some name → named_shown named ≡ (name, tree.pos) → new ≡ old ++ named ∷ []
    → map named_shown old ≡ filter_map (placed_name defs) (take i trees)
    → map named_shown new ≡ filter_map (placed_name defs) (take (i + 1) trees)
placed_more defs trees i tree name old new named here own is more before =
    ap (map named_shown) more ∙ map-append named_shown old (named ∷ []) ∙ ap (λ ps. ps ++ named_shown named ∷ []) before
    ∙ ap (λ p. filter_map (placed_name defs) (take i trees) ++ p ∷ []) is
    ∙ sym (kind_more (placed_name defs) trees i tree (name, tree.pos) here (ap (option_map (λ (name : List ℕ). (name, tree.pos))) own))

-- a rule without a name adds none
pub placed_same : (defs : List Def) (trees : List RuleTree) (i : ℕ) (tree : RuleTree) (old new : List Named) → slice_get trees i ≡ Some tree
    → name_of defs tree ≡ None → new ≡ old → map named_shown old ≡ filter_map (placed_name defs) (take i trees)
    → map named_shown new ≡ filter_map (placed_name defs) (take (i + 1) trees)
placed_same defs trees i tree old new here none same before =
    ap (map named_shown) same ∙ before
    ∙ sym (kind_same (placed_name defs) trees i tree here (ap (option_map (λ (name : List ℕ). (name, tree.pos))) none))

-- the rules with one more, and its name
with_more : (front : List TypedRule) (last : TypedRule) (names : List (Option (List ℕ))) (name : Option (List ℕ))
    → slice_get names (length front) ≡ Some name
    → with_names (front ++ last ∷ []) names ≡ with_names front names ++ record last { name = name } ∷ []
with_more [] last [] name at = absurd (none-some name at)
with_more [] last (own ∷ names) name at = ap (λ o. record last { name = o } ∷ []) (same_Some own name at)
with_more (first ∷ front) last [] name at = absurd (none-some name at)
with_more (first ∷ front) last (own ∷ names) name at = ap (λ rules. record first { name = own } ∷ rules) (with_more front last names name at)

-- as many rules have names as there are
with_length : (rules : List TypedRule) (names : List (Option (List ℕ))) → length rules ≤ length names
    → length (with_names rules names) ≡ length rules
with_length [] names few = refl
with_length (rule ∷ rules) [] few = absurd (omega arith)
with_length (rule ∷ rules) (name ∷ names) few = ap suc (with_length rules names (omega arith))

-- the rule of a name, with one more rule behind
rule_named_more : (number : ℕ) (rules : List TypedRule) (last : TypedRule) (name : List ℕ)
    → rule_named number (rules ++ last ∷ []) name
    ≡ first_of (rule_named number rules name) (if is_name last.name name then Some (number + length rules) else None)
rule_named_more number [] last name =
    let same : number ≡ number + 0 = omega arith in
    ap (λ n. if is_name last.name name then Some n else None) same
rule_named_more number (first ∷ rules) last name =
    elim (is_name first.name name) as (λ b. cond b (Some number) (rule_named (suc number) (rules ++ last ∷ []) name)
    ≡ first_of (cond b (Some number) (rule_named (suc number) rules name))
    (cond (is_name last.name name) (Some (number + suc (length rules))) None)) [
      | true ↦ refl
      | false ↦
          let same : suc number + length rules ≡ number + suc (length rules) = omega arith in
          rule_named_more (suc number) rules last name
          ∙ ap (λ n. first_of (rule_named (suc number) rules name) (cond (is_name last.name name) (Some n) None)) same
    ]

-- a rule of another name is no rule of the name
rule_named_other : (rules : List TypedRule) (last : TypedRule) (name : List ℕ) → is_name last.name name ≡ false
    → rule_named 0 (rules ++ last ∷ []) name ≡ rule_named 0 rules name
rule_named_other rules last name other =
    rule_named_more 0 rules last name
    ∙ ap (λ b. first_of (rule_named 0 rules name) (cond b (Some (0 + length rules)) None)) other ∙ or_none (rule_named 0 rules name)
  where
    or_none : (o : Option ℕ) → first_of o None ≡ o
    or_none None = refl
    or_none (Some n) = refl

-- where no rule has the name, none is found
none_named : (number : ℕ) (rules : List TypedRule) (name : List ℕ) → ((place : ℕ) → slice_get (rule_names rules) place ≡ Some name → ⊥)
    → rule_named number rules name ≡ None
none_named number [] name absent = refl
none_named number (first ∷ others) name absent = by_name first.name absent (none_named (suc number) others name)
  where
    by_name : (o : Option (List ℕ)) → ((place : ℕ) → slice_get (cons_option o (rule_names others)) place ≡ Some name → ⊥)
        → (((place : ℕ) → slice_get (rule_names others) place ≡ Some name → ⊥) → rule_named (suc number) others name ≡ None)
        → cond (is_name o name) (Some number) (rule_named (suc number) others name) ≡ None
    by_name None absent later = later absent
    by_name (Some own) absent later =
        elim (bytes_eq own name) as (λ b. bytes_eq own name ≡ b → cond b (Some number) (rule_named (suc number) others name) ≡ None) [
          | true ↦ λ same. let decides = bytes_eq-Decides own name in absurd (absent 0 (ap Some (decides.0 same)))
          | false ↦ λ _. later (λ place at. absent (suc place) at)
        ] refl

-- the names of rules, with one more rule
names_pushed : (rules : List TypedRule) (last : TypedRule) → rule_names (rules ++ last ∷ []) ≡ rule_names rules ++ cons_option last.name []
names_pushed rules last = filter_map-append (λ (rule : TypedRule). rule.name) rules (last ∷ [])

-- where all stand once, those before the last do
distinct_front : (names more : List (List ℕ)) → AreDistinct (names ++ more) → AreDistinct names
distinct_front names more once = λ name i j at_i at_j. once name i j (slice_get-kept names more i name at_i) (slice_get-kept names more j name at_j)

-- and the last isn't among them
last_is_new : (names : List (List ℕ)) (last : List ℕ) → AreDistinct (names ++ last ∷ []) → (place : ℕ) → slice_get names place ≡ Some last → ⊥
last_is_new names last once place at =
    let low = slice_get_within names place last at in
    let same : place ≡ length names = once last place (length names) (slice_get-kept names (last ∷ []) place last at) (slice_get-last names last) in
    omega (arith, low, same)

-- the numbers of no rules
pub numbers_none : (names : List (List ℕ)) (table : List (Sym × RuleId)) → table ≡ [] → IsNumbering names [] table
numbers_none names table none = subst (IsNumbering names []) (sym none) (record {
  known = λ symbol some. absurd (false≢true some);
  numbered = λ once name. at_place (position_of names name);
})
  where
    at_place : (o : Option ℕ) → option_and_then (λ (s : Sym). value_at {V = RuleId} same_sym [] s) (option_map symbol_at o) ≡ None
    at_place None = refl
    at_place (Some place) = refl

-- a rule without a name has no number in the table
pub number_unnamed : (names : List (List ℕ)) (before : List TypedRule) (last : TypedRule) (table : List (Sym × RuleId)) → last.name ≡ None
    → IsNumbering names before table → IsNumbering names (before ++ last ∷ []) table
number_unnamed names before last table none numbering = record {
  known = numbering.known;
  numbered = λ once name.
      let fewer : AreDistinct (rule_names before) = distinct_front (rule_names before) (cons_option last.name [])
      (subst AreDistinct (names_pushed before last) once) in
      numbering.numbered fewer name
      ∙ ap (option_map rule_at) (sym (rule_named_other before last name (ap (λ o. is_name o name) none)));
}

-- what a table has at a name is there still when names are interned
value_kept : (old new : List (List ℕ)) (table : List (Sym × RuleId)) → KeepsNames old new → AreDistinct new
    → ((symbol : Sym) → IsSome (value_at same_sym table symbol) → symbol.0 < length old) → (name : List ℕ)
    → option_and_then (λ (s : Sym). value_at same_sym table s) (option_map symbol_at (position_of new name))
    ≡ option_and_then (λ (s : Sym). value_at same_sym table s) (option_map symbol_at (position_of old name))
value_kept old new table keeps once known name = by_place (position_of old name) refl
  where
    none_new : (place : ℕ) (o : Option RuleId) → value_at same_sym table (symbol_at place) ≡ o → length old ≤ place → o ≡ None
    none_new place None is past = refl
    none_new place (Some id) is past = let low = known (symbol_at place) (ap is_some is) in absurd (omega arith)

    when_new : (o : Option ℕ) → position_of old name ≡ None → position_of new name ≡ o
        → option_and_then (λ (s : Sym). value_at same_sym table s) (option_map symbol_at o) ≡ None
    when_new None missing is = refl
    when_new (Some place) missing is =
        none_new place (value_at same_sym table (symbol_at place)) refl (place_new old new keeps name place missing is)

    by_place : (o : Option ℕ) → position_of old name ≡ o
        → option_and_then (λ (s : Sym). value_at same_sym table s) (option_map symbol_at (position_of new name))
        ≡ option_and_then (λ (s : Sym). value_at same_sym table s) (option_map symbol_at (position_of old name))
    by_place (Some place) is =
        ap (λ o. option_and_then (λ (s : Sym). value_at same_sym table s) (option_map symbol_at o))
        (place_more old new keeps once name place is ∙ sym is)
    by_place None is =
        when_new (position_of new name) is refl
        ∙ ap (λ o. option_and_then (λ (s : Sym). value_at same_sym table s) (option_map symbol_at o)) (sym is)

-- the number of a rule is put at the symbol of its name, which is interned now
pub number_put : (old new : List (List ℕ)) (before : List TypedRule) (last : TypedRule) (name : List ℕ) (symbol : Sym) (id : RuleId)
    (table inserted : List (Sym × RuleId)) → KeepsNames old new → AreDistinct new → last.name ≡ Some name → slice_get new symbol.0 ≡ Some name
    → length before ≡ id.0
    → ((q : Sym) → value_at same_sym inserted q ≡ (if same_sym symbol q then Some id else value_at same_sym table q))
    → IsNumbering old before table → IsNumbering new (before ++ last ∷ []) inserted
number_put old new before last name symbol id table inserted keeps distinct own here counted values numbering =
    record { known = known; numbered = numbered }
  where
    known : (q : Sym) → IsSome (value_at same_sym inserted q) → q.0 < length new
    known q some =
        elim (symbol.0 == q.0) as (λ b. (symbol.0 == q.0) ≡ b → IsSome (cond b (Some id) (value_at same_sym table q)) → q.0 < length new) [
          | true ↦ λ equal _.
              let decides = Decides-eqb symbol.0 q.0 in
              subst (λ n. n < length new) (decides.0 equal) (slice_get_within new symbol.0 name here)
          | false ↦ λ _ there.
              let low = numbering.known q there in
              let longer = names_within old new keeps in
              omega arith
        ] refl (subst IsSome (values q) some)

    apart : (other : List ℕ) → bytes_eq name other ≡ false → (place : ℕ) → position_of new other ≡ Some place → (symbol.0 == place) ≡ false
    apart other differs place found =
        elim (symbol.0 == place) as (λ b. (symbol.0 == place) ≡ b → b ≡ false) [
          | true ↦ λ equal.
              let decides = Decides-eqb symbol.0 place in
              let texts = bytes_eq-Decides name other in
              let one = same_Some name other (sym here ∙ ap (slice_get new) (decides.0 equal) ∙ place_found new other place found) in
              absurd (false≢true (sym differs ∙ texts.1 one))
          | false ↦ λ _. refl
        ] refl

    elsewhere : (other : List ℕ) → bytes_eq name other ≡ false → (o : Option ℕ) → position_of new other ≡ o
        → option_and_then (λ (s : Sym). value_at same_sym inserted s) (option_map symbol_at o)
        ≡ option_and_then (λ (s : Sym). value_at same_sym table s) (option_map symbol_at o)
    elsewhere other differs None found = refl
    elsewhere other differs (Some place) found =
        values (symbol_at place) ∙ ap (λ b. cond b (Some id) (value_at same_sym table (symbol_at place))) (apart other differs place found)

    at_symbol : value_at same_sym inserted (symbol_at symbol.0) ≡ Some id
    at_symbol =
        let decides = Decides-eqb symbol.0 symbol.0 in
        values (symbol_at symbol.0) ∙ ap (λ b. cond b (Some id) (value_at same_sym table (symbol_at symbol.0))) (decides.1 refl)

    fresh : AreDistinct (rule_names before ++ name ∷ []) → rule_named 0 (before ++ last ∷ []) name ≡ Some (length before)
    fresh once =
        rule_named_more 0 before last name
        ∙ ap (λ o. first_of o (if is_name last.name name then Some (0 + length before) else None))
        (none_named 0 before name (last_is_new (rule_names before) name once))
        ∙ ap (λ o. if is_name o name then Some (0 + length before) else None) own
        ∙ ap (λ b. if b then Some (0 + length before) else None) (same_name name)
        ∙ (let same : 0 + length before ≡ length before = omega arith in ap Some same)

    numbered : AreDistinct (rule_names (before ++ last ∷ [])) → IsTableOfRules new (before ++ last ∷ []) inserted
    numbered once other =
        let apart_names : AreDistinct (rule_names before ++ name ∷ []) =
        subst AreDistinct (names_pushed before last ∙ ap (λ o. rule_names before ++ cons_option o []) own) once in
        elim (bytes_eq name other) as (λ b. bytes_eq name other ≡ b
        → option_and_then (λ (s : Sym). value_at same_sym inserted s) (option_map symbol_at (position_of new other))
        ≡ option_map rule_at (rule_named 0 (before ++ last ∷ []) other)) [
          | true ↦ λ same.
              let decides = bytes_eq-Decides name other in
              subst (λ n. option_and_then (λ (s : Sym). value_at same_sym inserted s) (option_map symbol_at (position_of new n))
              ≡ option_map rule_at (rule_named 0 (before ++ last ∷ []) n)) (decides.0 same)
              (ap (λ o. option_and_then (λ (s : Sym). value_at same_sym inserted s) (option_map symbol_at o))
              (place_known new name symbol.0 distinct here)
              ∙ at_symbol ∙ ap (λ n. Some (rule_at n)) (sym counted) ∙ ap (option_map rule_at) (sym (fresh apart_names)))
          | false ↦ λ differs.
              elsewhere other differs (position_of new other) refl ∙ value_kept old new table keeps distinct numbering.known other
              ∙ numbering.numbered (distinct_front (rule_names before) (name ∷ []) apart_names) other
              ∙ ap (option_map rule_at) (sym (rule_named_other before last other (ap (λ o. is_name o other) own ∙ differs)))
        ] refl

-- rules so far have their names, and the table has their numbers
pub record AreNumbered (names : List (List ℕ)) (typed : List TypedRule) (named : List Rule) (table : List (Sym × RuleId)) : Type 0 where
  pub shown : AllZip (IsShownRule names) typed named
  pub counted : CountUp (λ (rule : Rule). rule.id.0) 0 named
  pub numbering : IsNumbering names typed table

-- lists related in pairs, without the last pair
zipped_front : {A B : Type 0} (R : A → B → Type 0) (xs : List A) (ys : List B) (y : B) → AllZip R xs (ys ++ y ∷ [])
    → (front : List A) × (x : A) × (xs ≡ front ++ x ∷ []) × AllZip R front ys × R x y
zipped_front R [] [] y each = absurd each
zipped_front R [] (first ∷ ys) y each = absurd each
zipped_front R (x ∷ []) [] y each = ([], x, refl, tt, each.0)
zipped_front R (x ∷ (next ∷ xs)) [] y each = absurd each.1
zipped_front R (x ∷ xs) (first ∷ ys) y each =
    let later = zipped_front R xs ys y each.1 in
    (x ∷ later.0, later.1, ap (λ zs. x ∷ zs) later.2, (each.0, later.3), later.4)

-- items that count up, without the last
count_front : {X : Type 0} (number : X → ℕ) (n : ℕ) (xs : List X) (x : X) → CountUp number n (xs ++ x ∷ []) → CountUp number n xs
count_front number n [] x counted = tt
count_front number n (first ∷ xs) x counted = (counted.0, count_front number (suc n) xs x counted.1)

-- a list with one more
pushed_length : {X : Type 0} (xs : List X) (x : X) → length (xs ++ x ∷ []) ≡ suc (length xs)
pushed_length [] x = refl
pushed_length (first ∷ xs) x = ap suc (pushed_length xs x)

-- no rules so far
pub none_numbered : (names : List (List ℕ)) (own : List (Option (List ℕ))) (typed : List TypedRule) (named : List Rule) (table : List (Sym × RuleId))
    → AllZip (IsShownRule names) typed [] → named ≡ [] → table ≡ [] → AreNumbered names (with_names typed own) named table
none_numbered names own [] named table zipped none empty =
    subst (λ rules. AreNumbered names [] rules table) (sym none)
    (record { shown = tt; counted = tt; numbering = numbers_none names table empty })
none_numbered names own (rule ∷ rules) named table zipped none empty = absurd zipped

-- all rules were named
pub all_numbered : (first names : List (List ℕ)) (own : List (Option (List ℕ))) (typed : List TypedRule) (yielded rules : List Rule)
    (named : NamedRules) → yielded ≡ rules
    → ((front : List TypedRule) → AllZip (IsShownRule first) front yielded → CountUp (λ (rule : Rule). rule.id.0) 0 yielded
    → length yielded ≤ length own → AreNumbered names (with_names front own) named.rules.items named.numbers)
    → AllZip (IsShownRule first) typed rules → CountUp (λ (rule : Rule). rule.id.0) 0 rules → length own ≡ length rules
    → AreNamedRules names (with_names typed own) named
all_numbered first names own typed yielded rules named all so_far zipped counted many =
    let here : AreNumbered names (with_names typed own) named.rules.items named.numbers =
    so_far typed (subst (AllZip (IsShownRule first) typed) (sym all) zipped) (subst (CountUp (λ (rule : Rule). rule.id.0) 0) (sym all) counted)
    (omega (arith, many, ap length all)) in
    record { shown = here.shown; counted = here.counted; table = here.numbering.numbered }

-- one more rule is named
pub one_numbered : (first names more : List (List ℕ)) (own : List (Option (List ℕ))) (typed : List TypedRule) (yielded : List Rule) (rule : Rule)
    (named : List Rule) (made : Rule) (name : Option (List ℕ)) (table inserted : List (Sym × RuleId)) → KeepsNames first names
    → KeepsNames names more → slice_get own (length yielded) ≡ Some name → length named ≡ length yielded → made.id ≡ rule.id
    → ((t : TypedRule) → IsShownRule names t rule → IsShownRule more (record t { name = name }) made)
    → ((before : List TypedRule) (t : TypedRule) → IsNumbering names before table → length before ≡ rule.id.0
    → IsNumbering more (before ++ record t { name = name } ∷ []) inserted)
    → ((front : List TypedRule) → AllZip (IsShownRule first) front yielded → CountUp (λ (rule : Rule). rule.id.0) 0 yielded
    → length yielded ≤ length own → AreNumbered names (with_names front own) named table)
    → AllZip (IsShownRule first) typed (yielded ++ rule ∷ []) → CountUp (λ (rule : Rule). rule.id.0) 0 (yielded ++ rule ∷ [])
    → length (yielded ++ rule ∷ []) ≤ length own → AreNumbered more (with_names typed own) (named ++ made ∷ []) inserted
one_numbered first names more own typed yielded rule named made name table inserted since keeps at many id shows puts before zipped counted few =
    let parts = zipped_front (IsShownRule first) typed yielded rule zipped in
    let front = parts.0 in
    let last = parts.1 in
    let few_front : length yielded ≤ length own = omega (arith, few, pushed_length yielded rule) in
    let so_far = before front parts.3 (count_front (λ (rule : Rule). rule.id.0) 0 yielded rule counted) few_front in
    let long : length front ≡ length yielded = zipped_length (IsShownRule first) front yielded parts.3 in
    let place : rule.id.0 ≡ length yielded =
    count_at (λ (rule : Rule). rule.id.0) 0 (yielded ++ rule ∷ []) counted (length yielded) rule (slice_get-last yielded rule)
    ∙ (let same : 0 + length yielded ≡ length yielded = omega arith in same) in
    let all_named : length (with_names front own) ≡ length front = with_length front own (omega (arith, long, few_front)) in
    let numbered : 0 + length named ≡ made.id.0 = omega (arith, many, place, ap (λ (n : RuleId). n.0) id) in
    let is : with_names typed own ≡ with_names front own ++ record last { name = name } ∷ [] =
    ap (λ rules. with_names rules own) parts.2 ∙ with_more front last own name (ap (slice_get own) long ∙ at) in
    subst (λ rules. AreNumbered more rules (named ++ made ∷ []) inserted) (sym is) (record {
      shown = all_zipped_more (IsShownRule more) (with_names front own) named (record last { name = name }) made
          (AllZip-weaker (IsShownRule names) (IsShownRule more) (rule_kept names more keeps) (with_names front own) named so_far.shown)
          (shows last (rule_kept first names since last rule parts.4));
      counted = count_more (λ (rule : Rule). rule.id.0) 0 named made so_far.counted (sym numbered);
      numbering = puts (with_names front own) last so_far.numbering (all_named ∙ long ∙ sym place);
    })

-- a rule that is given another name
pub shown_named : (names : List (List ℕ)) (typed : TypedRule) (rule : Rule) (name : Option (List ℕ)) (made : Option Sym)
    → IsShownRule names typed rule → IsShownName names name made
    → IsShownRule names (record typed { name = name }) (record rule { name = made })
shown_named names typed rule name made shown is = record {
  root = shown.root;
  args = shown.args;
  iflets = shown.iflets;
  right = shown.right;
  variables = shown.variables;
  numbers = shown.numbers;
  priority = shown.priority;
  pos = shown.pos;
  name = is;
  arg_symbols = shown.arg_symbols;
  iflet_symbols = shown.iflet_symbols;
  right_symbols = shown.right_symbols;
}

-- with their names, typed rules have the names that rules have
pub named_rules_names : (defs : List Def) (typed : List TypedRule) (names : List (Option (List ℕ))) → names ≡ map (name_of defs) (rules_in defs)
    → length typed ≡ length names → rule_names (with_names typed names) ≡ names_of (named_rules defs)
named_rules_names defs typed names is many =
    all_names typed names many ∙ ap (filter_map (λ (name : Option (List ℕ)). name)) is ∙ of_trees (rules_in defs)
  where
    all_names : (rules : List TypedRule) (own : List (Option (List ℕ))) → length rules ≡ length own
        → rule_names (with_names rules own) ≡ filter_map (λ (name : Option (List ℕ)). name) own
    all_names [] [] same = refl
    all_names [] (name ∷ own) same = absurd (omega arith)
    all_names (rule ∷ rules) [] same = absurd (omega arith)
    all_names (rule ∷ rules) (name ∷ own) same = ap (cons_option name) (all_names rules own (omega arith))

    first_name : (o : Option (List ℕ)) (at : Pos) (pairs : List (List ℕ × Pos))
        → cons_option o (names_of pairs) ≡ names_of (cons_option (option_map (λ (name : List ℕ). (name, at)) o) pairs)
    first_name None at pairs = refl
    first_name (Some name) at pairs = refl

    of_trees : (trees : List RuleTree) → filter_map (λ (name : Option (List ℕ)). name) (map (name_of defs) trees)
        ≡ names_of (filter_map (placed_name defs) trees)
    of_trees [] = refl
    of_trees (tree ∷ trees) =
        ap (cons_option (name_of defs tree)) (of_trees trees) ∙ first_name (name_of defs tree) tree.pos (filter_map (placed_name defs) trees)

-- with their names, typed rules are the rules of definitions
pub rules_named : (declared : Declared) (defs : List Def) (levels max : ℕ) (typed : List TypedRule)
    → AllZip (ElaboratesRule declared levels max) (rules_in defs) typed
    → AllZip (IsRuleOf declared defs levels max) (rules_in defs) (with_names typed (map (name_of defs) (rules_in defs)))
rules_named declared defs levels max typed each = all_named (rules_in defs) typed each
  where
    all_named : (trees : List RuleTree) (rules : List TypedRule) → AllZip (ElaboratesRule declared levels max) trees rules
        → AllZip (IsRuleOf declared defs levels max) trees (with_names rules (map (name_of defs) trees))
    all_named [] [] each = tt
    all_named [] (rule ∷ rules) each = absurd each
    all_named (tree ∷ trees) [] each = absurd each
    all_named (tree ∷ trees) (rule ∷ rules) each =
        (record { written = rule; typed = each.0; same = refl }, all_named trees rules each.1)
