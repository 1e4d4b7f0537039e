-- Worked cases: the functions that stand for terms, their names, types and answers.
use Rattle.std.proofs.Common.{◌≡◌, Bool, true, false, [], ◌∷◌, Option, None, Some, refl, codes}
use Rattle.isle_ast.specs.declared.pos.Pos.{Pos}
use Rattle.isle_types.specs.TypeTables.{TypeTables}
use Rattle.isle_rules.specs.declared.signatures.ExternalSig.{ExternalSig}
use Rattle.isle_rules.specs.declared.signatures.ReturnKind.TheVariants as kinds
use Rattle.isle_rules.specs.declared.terms.ConstructorKind.{ConstructorKind}
use Rattle.isle_rules.specs.declared.terms.ConstructorKind.TheVariants.{InternalConstructor, ExternalConstructor}
use Rattle.isle_rules.specs.declared.terms.ExtractorKind.{ExtractorKind}
use Rattle.isle_rules.specs.declared.terms.ExtractorKind.TheVariants.{ExternalExtractor}
use Rattle.isle_rules.specs.declared.terms.TermFlags.{TermFlags}
use Rattle.isle_rules.specs.declared.terms.Term.{Term}
use Rattle.isle_rules.specs.declared.terms.TermKind.TheVariants.{Struct, Decl}
use Rattle.isle_rules.specs.ExternalSigs.{text_of, signature, host_names, extractor_sig_of, constructor_sig_of, returns}

abbrev here : Pos
here = record { file = 0; offset = 0 }

abbrev types : TypeTables
types = record { names = codes "lower" ∷ codes "ctor" ∷ codes "etor" ∷ []; types = []; numbers = []; constants = []; errors = [] }

abbrev flags : (multi partial : Bool) → TermFlags
flags multi partial = record { pure = false; multi = multi; partial = partial; rec = false }

-- (decl lower (u8 u16) u32) of these flags
abbrev term_of : TermFlags → Option ConstructorKind → Option ExtractorKind → Term
term_of own made taken = record {
  id = record { 0 = 0 };
  decl_pos = here;
  name = record { 0 = 0 };
  arg_tys = record { 0 = 1 } ∷ record { 0 = 2 } ∷ [];
  ret_ty = record { 0 = 3 };
  kind = Decl own made taken;
}

abbrev lower : TermFlags → Option ConstructorKind → Option ExtractorKind → Option ExternalSig
lower own made taken = constructor_sig_of types (term_of own made taken) (Decl own made taken)

abbrev taken_apart : TermFlags → Option ConstructorKind → Option ExtractorKind → Option ExternalSig
taken_apart own made taken = extractor_sig_of types (term_of own made taken) (Decl own made taken)

-- the text of a symbol; none beyond the names
texts : (text_of types (record { 0 = 1 }) ≡ codes "ctor") × (text_of types (record { 0 = 3 }) ≡ [])
texts = (refl, refl)

-- a term with rules is a function of its own, of its arguments' types, and its one answer is plain
by_rules : lower (flags false false) (Some InternalConstructor) None
    ≡ Some (record {
      func_name = codes "constructor_lower";
      full_name = codes "constructor_lower";
      param_tys = record { 0 = 1 } ∷ record { 0 = 2 } ∷ [];
      ret_tys = record { 0 = 3 } ∷ [];
      ret_kind = kinds.Plain;
    })
by_rules = refl

-- a partial function of the host may answer none
by_the_host : lower (flags false true) (Some (ExternalConstructor (record { 0 = 1 }))) None
    ≡ Some (record {
      func_name = codes "ctor";
      full_name = codes "C::ctor";
      param_tys = record { 0 = 1 } ∷ record { 0 = 2 } ∷ [];
      ret_tys = record { 0 = 3 } ∷ [];
      ret_kind = kinds.Option;
    })
by_the_host = refl

-- a multi one answers any number, whether or not it may fail
kinds_of_answers : (returns true false ≡ kinds.Iterator) × (returns true true ≡ kinds.Iterator) × (returns false true ≡ kinds.Option)
    × (returns false false ≡ kinds.Plain)
kinds_of_answers = (refl, refl, refl, refl)

-- an extractor takes the term's value and gives its arguments; one that may fail gives them or none
by_an_extractor : taken_apart (flags false false) None (Some (ExternalExtractor (record { 0 = 2 }) false here))
    ≡ Some (record {
      func_name = codes "etor";
      full_name = codes "C::etor";
      param_tys = record { 0 = 3 } ∷ [];
      ret_tys = record { 0 = 1 } ∷ record { 0 = 2 } ∷ [];
      ret_kind = kinds.Option;
    })
by_an_extractor = refl

-- an infallible one always gives them; whether the term is partial doesn't matter
by_a_sure_extractor : taken_apart (flags false true) None (Some (ExternalExtractor (record { 0 = 2 }) true here))
    ≡ Some (signature (host_names (codes "etor")) (record { 0 = 3 } ∷ []) (record { 0 = 1 } ∷ record { 0 = 2 } ∷ []) kinds.Plain)
by_a_sure_extractor = refl

-- without a constructor or an extractor, and for a struct, there is no function
none_there : (lower (flags false false) None None ≡ None) × (taken_apart (flags false false) (Some InternalConstructor) None ≡ None)
    × (constructor_sig_of types (term_of (flags false false) None None) Struct ≡ None)
none_there = (refl, refl, refl)
