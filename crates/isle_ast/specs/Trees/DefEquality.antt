-- Whether two definitions are the same, as a truth value.
use Rattle.std.specs.Prelude.{◌≡◌, Bool, true, false}
use Rattle.std.proofs.Common.{refl}
use Rattle.std.specs.Cmp.{IsEquivalence}
use Rattle.isle_ast.specs.declared.ast.Def.{Def}
use Rattle.isle_ast.specs.declared.ast.Def.TheVariants.{TypeDef, Decl, Rule, Extractor, Extern, Converter, Pragma, Kept}
use Rattle.isle_ast.specs.contracts.ast.TypePartialEq.TheImpl as type
use Rattle.isle_ast.specs.contracts.ast.DeclPartialEq.TheImpl as decl
use Rattle.isle_ast.specs.contracts.ast.RulePartialEq.TheImpl as rule
use Rattle.isle_ast.specs.contracts.ast.ExtractorPartialEq.TheImpl as extractor
use Rattle.isle_ast.specs.contracts.ast.ExternPartialEq.TheImpl as external
use Rattle.isle_ast.specs.contracts.ast.ConverterPartialEq.TheImpl as converter
use Rattle.isle_ast.specs.contracts.ast.PragmaPartialEq.TheImpl as pragma
use Rattle.isle_ast.specs.contracts.ast.KeptPartialEq.TheImpl as kept
use Rattle.isle_ast.specs.contracts.ast.TypeEq.TheImpl.Laws.{laws-law as type_laws}
use Rattle.isle_ast.specs.contracts.ast.DeclEq.TheImpl.Laws.{laws-law as decl_laws}
use Rattle.isle_ast.specs.contracts.ast.RuleEq.TheImpl.Laws.{laws-law as rule_laws}
use Rattle.isle_ast.specs.contracts.ast.ExtractorEq.TheImpl.Laws.{laws-law as extractor_laws}
use Rattle.isle_ast.specs.contracts.ast.ExternEq.TheImpl.Laws.{laws-law as external_laws}
use Rattle.isle_ast.specs.contracts.ast.ConverterEq.TheImpl.Laws.{laws-law as converter_laws}
use Rattle.isle_ast.specs.contracts.ast.PragmaEq.TheImpl.Laws.{laws-law as pragma_laws}
use Rattle.isle_ast.specs.contracts.ast.KeptEq.TheImpl.Laws.{laws-law as kept_laws}

-- of one kind, and with the same parts
abbrev pub same_def : Def → Def → Bool
same_def (TypeDef a) (TypeDef b) = (type.ghosts).eq a b
same_def (Decl a) (Decl b) = (decl.ghosts).eq a b
same_def (Rule a) (Rule b) = (rule.ghosts).eq a b
same_def (Extractor a) (Extractor b) = (extractor.ghosts).eq a b
same_def (Extern a) (Extern b) = (external.ghosts).eq a b
same_def (Converter a) (Converter b) = (converter.ghosts).eq a b
same_def (Pragma a) (Pragma b) = (pragma.ghosts).eq a b
same_def (Kept a) (Kept b) = (kept.ghosts).eq a b
same_def a b = false

itself : (a : Def) → same_def a a ≡ true
itself (TypeDef a) = type_laws.refl a
itself (Decl a) = decl_laws.refl a
itself (Rule a) = rule_laws.refl a
itself (Extractor a) = extractor_laws.refl a
itself (Extern a) = external_laws.refl a
itself (Converter a) = converter_laws.refl a
itself (Pragma a) = pragma_laws.refl a
itself (Kept a) = kept_laws.refl a

symmetric : (a b : Def) → same_def a b ≡ same_def b a
symmetric (TypeDef a) (TypeDef b) = type_laws.symm a b
symmetric (Decl a) (Decl b) = decl_laws.symm a b
symmetric (Rule a) (Rule b) = rule_laws.symm a b
symmetric (Extractor a) (Extractor b) = extractor_laws.symm a b
symmetric (Extern a) (Extern b) = external_laws.symm a b
symmetric (Converter a) (Converter b) = converter_laws.symm a b
symmetric (Pragma a) (Pragma b) = pragma_laws.symm a b
symmetric (Kept a) (Kept b) = kept_laws.symm a b
symmetric a b = refl

alike : (a b c : Def) → same_def a b ≡ true → same_def a c ≡ same_def b c
alike (TypeDef a) (TypeDef b) (TypeDef c) e = type_laws.congr a b c e
alike (TypeDef a) (TypeDef b) c e = refl
alike (Decl a) (Decl b) (Decl c) e = decl_laws.congr a b c e
alike (Decl a) (Decl b) c e = refl
alike (Rule a) (Rule b) (Rule c) e = rule_laws.congr a b c e
alike (Rule a) (Rule b) c e = refl
alike (Extractor a) (Extractor b) (Extractor c) e = extractor_laws.congr a b c e
alike (Extractor a) (Extractor b) c e = refl
alike (Extern a) (Extern b) (Extern c) e = external_laws.congr a b c e
alike (Extern a) (Extern b) c e = refl
alike (Converter a) (Converter b) (Converter c) e = converter_laws.congr a b c e
alike (Converter a) (Converter b) c e = refl
alike (Pragma a) (Pragma b) (Pragma c) e = pragma_laws.congr a b c e
alike (Pragma a) (Pragma b) c e = refl
alike (Kept a) (Kept b) (Kept c) e = kept_laws.congr a b c e
alike (Kept a) (Kept b) c e = refl
alike a b c e = cc

pub same_def-equiv : IsEquivalence same_def
same_def-equiv = record { refl = itself; symm = symmetric; congr = alike }
