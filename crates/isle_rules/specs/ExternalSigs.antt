-- The functions of the host that stand for terms.
use Rattle.std.specs.Prelude.{◌++◌, ℕ, Bool, false, not, List, [], ◌∷◌, Option, Some, None, unwrap_or, codes, if◌then◌else◌}
use Rattle.isle_types.specs.declared.ids.Sym.{Sym}
use Rattle.isle_types.specs.declared.ids.TypeId.{TypeId}
use Rattle.isle_types.specs.TypeEnvs.{name_of}
use Rattle.isle_types.specs.TypeTables.{TypeTables}
use Rattle.isle_rules.specs.declared.signatures.ExternalSig.{ExternalSig}
use Rattle.isle_rules.specs.declared.signatures.ReturnKind.{ReturnKind}
use Rattle.isle_rules.specs.declared.signatures.ReturnKind.TheVariants as kinds
use Rattle.isle_rules.specs.declared.terms.ConstructorKind.{ConstructorKind}
use Rattle.isle_rules.specs.declared.terms.ConstructorKind.TheVariants.{InternalConstructor, ExternalConstructor}
use Rattle.isle_rules.specs.declared.terms.ExtractorKind.{ExtractorKind}
use Rattle.isle_rules.specs.declared.terms.ExtractorKind.TheVariants.{InternalExtractor, ExternalExtractor}
use Rattle.isle_rules.specs.declared.terms.Term.{Term}
use Rattle.isle_rules.specs.declared.terms.TermKind.{TermKind}
use Rattle.isle_rules.specs.declared.terms.TermKind.TheVariants.{EnumVariant, Struct, Decl}

-- the text of a symbol; empty where it isn't known
abbrev pub text_of : TypeTables → Sym → List ℕ
text_of tyenv sym = unwrap_or (name_of tyenv sym) []

-- a function's name, and its name in the host's trait
pub record FunctionNames : Type 0 where
  pub func : List ℕ
  pub full : List ℕ

-- a term of the program itself has one name, after what it does
abbrev pub own_names : List ℕ → List ℕ → FunctionNames
own_names prefix name = record { func = prefix ++ name; full = prefix ++ name }

-- the host's function of a name
abbrev pub host_names : List ℕ → FunctionNames
host_names name = record { func = name; full = codes "C::" ++ name }

-- the names of an extractor's function
abbrev pub extractor_names : TypeTables → Sym → ExtractorKind → FunctionNames
extractor_names tyenv term (InternalExtractor template) = own_names (codes "extractor_") (text_of tyenv term)
extractor_names tyenv term (ExternalExtractor name infallible pos) = host_names (text_of tyenv name)

-- the names of a constructor's function
abbrev pub constructor_names : TypeTables → Sym → ConstructorKind → FunctionNames
constructor_names tyenv term InternalConstructor = own_names (codes "constructor_") (text_of tyenv term)
constructor_names tyenv term (ExternalConstructor name) = host_names (text_of tyenv name)

-- an external extractor that always gives its outputs
abbrev pub is_infallible : ExtractorKind → Bool
is_infallible (InternalExtractor template) = false
is_infallible (ExternalExtractor name infallible pos) = infallible

-- any number of answers of a `multi` term, at most one of one that may fail, one of any other
abbrev pub returns : (multi fails : Bool) → ReturnKind
returns multi fails = if multi then kinds.Iterator else if fails then kinds.Option else kinds.Plain

-- a function of these names and types
abbrev pub signature : FunctionNames → (params rets : List TypeId) → ReturnKind → ExternalSig
signature names params rets kind = record {
  func_name = names.func;
  full_name = names.full;
  param_tys = params;
  ret_tys = rets;
  ret_kind = kind;
}

-- the function of a term's extractor, if it has one
abbrev pub extractor_sig_of : TypeTables → Term → TermKind → Option ExternalSig
extractor_sig_of tyenv term (EnumVariant variant) = None
extractor_sig_of tyenv term Struct = None
extractor_sig_of tyenv term (Decl flags made None) = None
extractor_sig_of tyenv term (Decl flags made (Some kind)) = Some (signature (extractor_names tyenv term.name kind) (term.ret_ty ∷ []) term.arg_tys
    (returns flags.multi (not (is_infallible kind))))

-- the function of a term's constructor, if it has one
abbrev pub constructor_sig_of : TypeTables → Term → TermKind → Option ExternalSig
constructor_sig_of tyenv term (EnumVariant variant) = None
constructor_sig_of tyenv term Struct = None
constructor_sig_of tyenv term (Decl flags None taken) = None
constructor_sig_of tyenv term (Decl flags (Some kind) taken) = Some (signature (constructor_names tyenv term.name kind) term.arg_tys (term.ret_ty ∷
    [])
    (returns flags.multi flags.partial))
