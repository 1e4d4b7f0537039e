-- Worked cases: what a declaration and a function of the host make, and where declarations break a rule or exceed a size.
use Rattle.std.proofs.Common.{◌≡◌, ◌<◌, ℕ, zero, suc, Bool, true, false, List, [], ◌∷◌, length, None, Some, refl, codes, inl}
use Rattle.std.proofs.Common.{slice_get, slice_index_or, arith}
use Rattle.isle_ast.specs.declared.pos.Pos.{Pos}
use Rattle.isle_ast.specs.declared.ast.Ident.{Ident}
use Rattle.isle_ast.specs.declared.ast.Decl.{Decl as DeclTree}
use Rattle.isle_ast.specs.declared.ast.Extern.TheVariants.{Constructor as extern_constructor}
use Rattle.isle_ast.specs.declared.ast.Def.{Def}
use Rattle.isle_ast.specs.declared.ast.Def.TheVariants.{Decl, Extern}
use Rattle.isle_types.specs.Environment.{Environment}
use Rattle.isle_rules.specs.Signatures.{external_constructor, declared_form, Signature}
use Rattle.isle_rules.specs.Definitions.{IsDeclaration, AreTerms, IsDefined}
use Rattle.isle_terms.specs.TermFaults.{DeclarationBreaks, term_twice, multi_and_partial, unknown_type, IsUndefined}
use Rattle.isle_terms.specs.TypingFaults.{ExceedsTyping, by_arguments}

abbrev at : ℕ → Pos
at offset = record { file = 0; offset = offset }

abbrev types : Environment
types = record { types = []; constants = [] }

abbrev name : List ℕ → Ident
name text = (text, at 6)

-- (decl f (u8 u16) u8) of these marks, at a position
abbrev f_at : ℕ → (multi partial : Bool) → DeclTree
f_at offset multi partial = record {
  term = name (codes "f");
  arg_tys = name (codes "u8") ∷ name (codes "u16") ∷ [];
  ret_ty = name (codes "u8");
  pure = true;
  multi = multi;
  partial = partial;
  rec = false;
  pos = at offset;
}

abbrev f : DeclTree
f = f_at 0 false false

-- (extern constructor f the_f)
abbrev the_f : Def
the_f = Extern (extern_constructor (name (codes "f")) (name (codes "the_f")) (at 30))

-- the term that they make
abbrev term : Signature
term = record {
  name = codes "f";
  args = 1 ∷ 2 ∷ [];
  ret = 1;
  form = declared_form (record { pure = true; multi = false; partial = false; rec = false }) (Some (external_constructor (codes "the_f"))) None;
  pos = at 0;
}

declares : IsDeclaration types (Decl f ∷ the_f ∷ []) f term
declares = record { name = refl; args = (refl, (refl, _)); ret = refl; form = refl; pos = refl }

-- the only term; no type has a term
only_term : AreTerms types (Decl f ∷ the_f ∷ []) (term ∷ [])
only_term = record {
  declared = term ∷ [];
  each = (declares, _);
  all = refl;
  distinct = alone;
  one_answer = answers;
}
  where
    answers : (k : ℕ) (d : DeclTree) → k < 1 → (slice_index_or (f ∷ []) k d).multi ≡ true → (slice_index_or (f ∷ []) k d).partial ≡ false
    answers zero d within marked = refl
    answers (suc k) d within marked = absurd (omega arith)

    alone : (text : List ℕ) (i j : ℕ) → slice_get (codes "f" ∷ []) i ≡ Some text → slice_get (codes "f" ∷ []) j ≡ Some text → i ≡ j
    alone text zero zero at_i at_j = refl
    alone text zero (suc j) at_i at_j = absurd (cc at_j)
    alone text (suc i) j at_i at_j = absurd (cc at_i)

-- it is defined where the host has its function, and not without it
defined : IsDefined (Decl f ∷ the_f ∷ []) f
defined = inl refl

undefined : IsUndefined (Decl f ∷ []) (at 0)
undefined = record { decl = f; among = (0, refl); no_constructor = refl; no_extractor = refl; here = refl }

-- a second declaration of a name breaks a rule, at its own position
second_declaration : DeclarationBreaks types (Decl f ∷ Decl (f_at 40 false false) ∷ []) (at 40)
second_declaration = term_twice _ (record {
  place = 1;
  name = codes "f";
  here = refl;
  taken = record { item = codes "f"; earlier = 0; before = omega arith; first = refl; second = refl };
})

-- so does one with both marks
both_marks : DeclarationBreaks types (Decl (f_at 40 true true) ∷ []) (at 40)
both_marks = multi_and_partial _ (0, refl) refl refl

-- and a type that isn't known, at its name
unknown_argument : DeclarationBreaks types (Decl (record f { arg_tys = (codes "u9", at 11) ∷ [] }) ∷ []) (at 11)
unknown_argument = unknown_type _ _ (0, refl) (0, refl) refl

-- more than 255 arguments exceed a size, at the declaration
too_many : (decl : DeclTree) → 255 < length decl.arg_tys → ExceedsTyping types true 4096 1048576 (Decl decl ∷ []) decl.pos
too_many decl many = by_arguments _ (record { decl = decl; among = (0, refl); many = many; here = refl })
