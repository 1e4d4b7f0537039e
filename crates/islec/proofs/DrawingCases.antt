-- Worked cases: which terms are asked for, what is drawn of them, and how a command that draws ends.
use Rattle.std.proofs.Common.{◌≡◌, ◌++◌, ◌∷◌, ◌∙◌, inl, inr, ℕ, zero, suc, false, List, [], Option, Some, None, refl, ap, sym, subst, map, codes, get_or, append-nil, arith}
use Rattle.std.specs.List.{zip}
use Rattle.std.specs.Option.{option_map_or}
use Rattle.std.proofs.lemmas.Option.{same_Some}
use Rattle.isle_ast.specs.Positions.Files.{SourceFile}
use Rattle.isle_types.specs.declared.ids.TermId.{TermId}
use Rattle.isle_types.specs.TypeTables.{TypeTables, no_tables}
use Rattle.isle_rules.specs.Shown.TermTables.{TermTables}
use Rattle.isle_program.specs.declared.program.Program.{Program}
use Rattle.isle_program.specs.Compiled.{AreAccepted, IsProgramOf}
use Rattle.isle_program.specs.Programs.{rule_sets_of, set_trees_of, program_term, terms_of, types_of}
use Rattle.isle_program.specs.Tables.{term_called}
use Rattle.isle_tell.specs.TreeTexts.Names.{AreTexts, no_texts, more_texts}
use Rattle.isle_tell.specs.TreeTexts.Sets.{IsEntryText, IsSetText, TellsTrees, sets_and_trees}
use Rattle.islec.specs.Drawing.{AreNamed, DrawsTrees, IsUnknown}
use Rattle.islec.specs.Endings.{EndsBlocks}
use Rattle.islec.specs.declared.status.Status.TheVariants as status

-- two terms, f and g
abbrev tables : TypeTables
tables = record no_tables { names = codes "f" ∷ codes "g" ∷ [] }

abbrev f : TermId
f = record { 0 = 0 }

abbrev g : TermId
g = record { 0 = 1 }

abbrev terms : TermTables
terms = record {
  terms = [];
  numbers = (record { 0 = 0 }, f) ∷ (record { 0 = 1 }, g) ∷ [];
  rules = [];
  rule_numbers = [];
  converters = [];
  expands = false;
}

-- lists of which each item is of one function start alike
first_of : (named : List ℕ → Option TermId) (name : List ℕ) (names : List (List ℕ)) (term : TermId) (others : List TermId)
    → map named (name ∷ names) ≡ map Some (term ∷ others) → named name ≡ Some term
first_of named name names term others e = cc

-- the two terms and the names are different
g_is_not_f : Some g ≡ Some f → ⊥
g_is_not_f e = let numbers = ap (λ (o : Option TermId). option_map_or (λ (term : TermId). term.0) o 0) e in omega (arith, numbers)

none_is_no_term : (term : TermId) → None ≡ Some term → ⊥
none_is_no_term term e = cc

h_is_not_k : (others after : List (List ℕ)) → codes "h" ∷ others ≡ codes "k" ∷ after → ⊥
h_is_not_k others after e = let letters = ap (λ (names : List (List ℕ)). get_or (get_or names 0 []) 0 0) e in omega (arith, letters)

-- what stands in a list of one is that one
only_one : (one name : List ℕ) (before after : List (List ℕ)) → one ∷ [] ≡ before ++ name ∷ after → one ≡ name
only_one one name [] after e = cc
only_one one name (other ∷ []) after e = cc
only_one one name (other ∷ another ∷ before) after e = cc

-- the texts of one item
text_of_one : {X : Type 0} (Is : X → List ℕ → Type 0) (x : X) (text : List ℕ) → AreTexts Is (x ∷ []) text → Is x text
text_of_one Is x _ (more_texts {text = text} is no_texts) = subst (Is x) (sym (append-nil text)) is

-- a program with just these
record HasBoth (program : Program) : Type 0 where
  by_name : types_of program ≡ tables
  by_number : terms_of program ≡ terms

module _ (program : Program) (has : HasBoth program) where
  -- a name's term is read in the tables
  found : (name : List ℕ) (o : Option TermId) → term_called tables terms name ≡ o → program_term program name ≡ o
  found name o e =
      ap (λ (t : TypeTables). term_called t (terms_of program) name) has.by_name ∙ ap (λ (t : TermTables). term_called tables t name)
      has.by_number ∙ e

  f_found : program_term program (codes "f") ≡ Some f
  f_found = found (codes "f") (Some f) refl

  g_found : program_term program (codes "g") ≡ Some g
  g_found = found (codes "g") (Some g) refl

  h_missing : program_term program (codes "h") ≡ None
  h_missing = found (codes "h") None refl

  -- names and their terms stand in one order
  both_named : AreNamed program (codes "g" ∷ codes "f" ∷ []) (g ∷ f ∷ [])
  both_named = rw (f_found, g_found)

  other_order : AreNamed program (codes "g" ∷ codes "f" ∷ []) (f ∷ g ∷ []) → ⊥
  other_order named = g_is_not_f (sym g_found ∙ first_of (program_term program) (codes "g") (codes "f" ∷ []) f (g ∷ []) named)

  none_left_out : AreNamed program (codes "g" ∷ codes "f" ∷ []) (g ∷ []) → ⊥
  none_left_out named = cc

  h_not_named : (asked : List TermId) → AreNamed program (codes "h" ∷ []) asked → ⊥
  h_not_named [] named = cc
  h_not_named (term ∷ others) named = none_is_no_term term (sym h_missing ∙ first_of (program_term program) (codes "h") [] term others named)

  -- the first name of no term is unknown, and no other
  h_is_unknown : IsUnknown program (codes "f" ∷ codes "h" ∷ codes "k" ∷ []) (codes "h")
  h_is_unknown = record {
    before = codes "f" ∷ [];
    after = codes "k" ∷ [];
    terms = f ∷ [];
    among = refl;
    known = rw f_found;
    unknown = h_missing;
  }

  f_is_known : (names : List (List ℕ)) → IsUnknown program names (codes "f") → ⊥
  f_is_known names is = none_is_no_term f (sym is.unknown ∙ f_found)

  not_the_second : IsUnknown program (codes "h" ∷ codes "k" ∷ []) (codes "k") → ⊥
  not_the_second is = second_is_none is.before is.after is.terms is.among is.known
    where
      second_is_none : (before after : List (List ℕ)) (asked : List TermId) → codes "h" ∷ codes "k" ∷ [] ≡ before ++ codes "k" ∷ after
          → AreNamed program before asked → ⊥
      second_is_none [] after asked among known = h_is_not_k (codes "k" ∷ []) after among
      second_is_none (name ∷ before) after [] among known = cc
      second_is_none (name ∷ before) after (term ∷ others) among known =
          let is_h : codes "h" ≡ name = ap (λ (names : List (List ℕ)). get_or names 0 []) among in
          none_is_no_term term (sym h_missing ∙ ap (program_term program) is_h ∙ first_of (program_term program) name before term others known)

  -- where f alone has a rule set and a tree, and both are this text
  module _ (files : List SourceFile) (set tree : _) (has_set : rule_sets_of program ≡ (f, set) ∷ [])
      (has_tree : set_trees_of program ≡ tree ∷ []) (text : List ℕ) (told : IsSetText program files f set tree text) where
    has_both : sets_and_trees program ≡ ((f, set), tree) ∷ []
    has_both = λ i. zip (has_set i) (has_tree i)

    tells : (asked : List TermId) (drawn : List ℕ) → IsEntryText program files asked ((f, set), tree) drawn → TellsTrees program files asked drawn
    tells asked drawn is = subst (λ (all : _). AreTexts (IsEntryText program files asked) all drawn) (sym has_both)
        (subst (AreTexts (IsEntryText program files asked) (((f, set), tree) ∷ [])) (append-nil drawn) (more_texts is no_texts))

    -- all of it is drawn, or that of f, and nothing of g
    draws_all : DrawsTrees program files [] false text
    draws_all = record { terms = []; named = refl; told = tells [] text told }

    draws_f : DrawsTrees program files (codes "f" ∷ []) false text
    draws_f = record { terms = f ∷ []; named = rw f_found; told = tells (f ∷ []) text told }

    draws_g : DrawsTrees program files (codes "g" ∷ []) false []
    draws_g = record { terms = g ∷ []; named = rw g_found; told = tells (g ∷ []) [] refl }

    draws_no_f_for_g : DrawsTrees program files (codes "g" ∷ []) false (codes "term 0 f\n") → ⊥
    draws_no_f_for_g draws = no_text_for_g draws.terms draws.named draws.told
      where
        no_text_for_g : (asked : List TermId) → AreNamed program (codes "g" ∷ []) asked → TellsTrees program files asked (codes "term 0 f\n") → ⊥
        no_text_for_g [] named shown = cc
        no_text_for_g (term ∷ another ∷ others) named shown = cc
        no_text_for_g (term ∷ []) named shown =
            let is_g = same_Some g term (sym g_found ∙ first_of (program_term program) (codes "g") [] term [] named) in
            let of_f = text_of_one (IsEntryText program files (term ∷ [])) ((f, set), tree) (codes "term 0 f\n")
            (subst (λ (all : _). AreTexts (IsEntryText program files (term ∷ [])) all (codes "term 0 f\n")) has_both shown) in
            let none : codes "term 0 f\n" ≡ [] =
            subst (λ (t : TermId). IsEntryText program files (t ∷ []) ((f, set), tree) (codes "term 0 f\n")) (sym is_g) of_f in
            cc

    draws_no_h : (drawn : List ℕ) → DrawsTrees program files (codes "h" ∷ []) false drawn → ⊥
    draws_no_h drawn draws = h_not_named draws.terms draws.named

  -- the command ends as the names say, where the files are accepted
  module _ (files : List SourceFile) (accepted : AreAccepted files) (is : IsProgramOf files program) where
    tells_h : EndsBlocks (codes "h" ∷ []) false files (Some (codes "old\n")) (Some (codes "old\nerror: no term is named h\n")) status.Usage
    tells_h = record {
      accepted = accepted;
      program = program;
      is = is;
      name = codes "h";
      unknown = record { before = []; after = []; terms = []; among = refl; known = refl; unknown = h_missing };
      written = refl;
    }

    cuts_h : EndsBlocks (codes "h" ∷ []) false files (Some []) (Some (codes "error: no")) status.InputOutput
    cuts_h = inl (
      program,
      is,
      (
        codes "error: no term is named h\n",
        inr (codes "h", record { before = []; after = []; terms = []; among = refl; known = refl; unknown = h_missing }, refl),
        (9, refl),
      ),
    )

    draws_nothing : rule_sets_of program ≡ [] → EndsBlocks [] false files (Some (codes "old\n")) (Some (codes "old\n")) status.AllWell
    draws_nothing none = record {
      accepted = accepted;
      program = program;
      is = is;
      text = [];
      drawn = record {
        terms = [];
        named = refl;
        told = subst (λ (all : _). AreTexts (IsEntryText program files []) all [])
            (sym (ap (λ (sets : _). zip sets (set_trees_of program)) none)) no_texts;
      };
      written = refl;
    }

    not_refused : (names : List (List ℕ)) (old new : Option (List ℕ)) → EndsBlocks names false files old new status.TextsRefused → ⊥
    not_refused names old new ends = ends.refused accepted

-- where each program of the files has both, h is never drawn, and f never unknown
module _ (files : List SourceFile) (each : (program : Program) → IsProgramOf files program → HasBoth program) (old new : Option (List ℕ)) where
  h_is_not_well : EndsBlocks (codes "h" ∷ []) false files old new status.AllWell → ⊥
  h_is_not_well ends = h_not_named ends.program (each ends.program ends.is) ends.drawn.terms ends.drawn.named

  f_is_used_well : EndsBlocks (codes "f" ∷ []) false files old new status.Usage → ⊥
  f_is_used_well ends =
      let wrong = ends.unknown in
      let is_f = only_one (codes "f") ends.name wrong.before wrong.after wrong.among in
      none_is_no_term f (sym wrong.unknown ∙ ap (program_term ends.program) (sym is_f) ∙ f_found ends.program (each ends.program ends.is))

-- what is told where memory runs out, or its beginning
out_of_memory : (names : List (List ℕ)) (files : List SourceFile) → EndsBlocks names false files (Some [])
    (Some (codes "out of memory\n")) status.OutOfMemory
out_of_memory names files = (14, refl)

begins_out_of_memory : (names : List (List ℕ)) (files : List SourceFile) → EndsBlocks names false files (Some [])
    (Some (codes "out")) status.OutOfMemory
begins_out_of_memory names files = (3, refl)

nothing_else : (names : List (List ℕ)) (files : List SourceFile) → EndsBlocks names false files (Some [])
    (Some (codes "error")) status.OutOfMemory → ⊥
nothing_else names files (zero, written) = cc
nothing_else names files (suc count, written) = let first = ap (λ (text : List ℕ). get_or text 0 0) written in omega (arith, first)

no_query_is_refused : (names : List (List ℕ)) (files : List SourceFile) (old new : Option (List ℕ))
    → EndsBlocks names false files old new status.SomeRefused → ⊥
no_query_is_refused names files old new ends = ends
