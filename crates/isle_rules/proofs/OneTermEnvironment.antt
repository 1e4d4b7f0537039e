-- Definitions make one environment of terms at most.
use Rattle.std.proofs.Common.{◌≡◌, ℕ, Bool, List, [], ◌∷◌, ◌++◌, refl, ap, sym, subst, ◌∙◌}
use Rattle.std.specs.List.{AllZip}
use Rattle.std.proofs.lemmas.Option.{same_Some}
use Rattle.isle_ast.specs.declared.ast.Ident.{Ident}
use Rattle.isle_ast.specs.declared.ast.Decl.{Decl as DeclTree}
use Rattle.isle_ast.specs.declared.ast.Rule.{Rule as RuleTree}
use Rattle.isle_ast.specs.declared.ast.Converter.{Converter as ConverterTree}
use Rattle.isle_ast.specs.declared.ast.Def.{Def}
use Rattle.isle_types.specs.Environment.{Environment}
use Rattle.isle_rules.specs.TypedRules.{TypedRule}
use Rattle.isle_rules.specs.Signatures.{Signature, Conversion, Declared}
use Rattle.isle_rules.specs.Definitions.{declarations, rules_in, converters_in, IsTypeNumber, IsDeclaration, terms_of_types, AreTerms}
use Rattle.isle_rules.specs.Definitions.{IsConversion, name_of_rule, IsRuleOf, TermEnvironment, declared_by, MakesTerms}
use Rattle.isle_rules.proofs.RuleLaws.{one_rule}

-- lists are one where each pair of items is
pub zipped_one : {A B : Type 0} (R S : A → B → Type 0) → ((x : A) (y z : B) → R x y → S x z → y ≡ z) → (xs : List A) (ys zs : List B)
    → AllZip R xs ys → AllZip S xs zs → ys ≡ zs
zipped_one R S one [] [] [] is other = refl
zipped_one R S one [] (y ∷ ys) zs is other = absurd is
zipped_one R S one [] [] (z ∷ zs) is other = absurd other
zipped_one R S one (x ∷ xs) [] zs is other = absurd is
zipped_one R S one (x ∷ xs) (y ∷ ys) [] is other = absurd other
zipped_one R S one (x ∷ xs) (y ∷ ys) (z ∷ zs) is other =
    ap (λ head. head ∷ ys) (one x y z is.0 other.0) ∙ ap (λ tail. z ∷ tail) (zipped_one R S one xs ys zs is.1 other.1)

same_signature : (a b : Signature) → a.name ≡ b.name → a.args ≡ b.args → a.ret ≡ b.ret → a.form ≡ b.form → a.pos ≡ b.pos → a ≡ b
same_signature a b name args ret form pos = λ i. record { name = name i; args = args i; ret = ret i; form = form i; pos = pos i }

same_conversion : (a b : Conversion) → a.inner ≡ b.inner → a.outer ≡ b.outer → a.term ≡ b.term → a ≡ b
same_conversion a b inner outer term = λ i. record { inner = inner i; outer = outer i; term = term i }

one_number : (types : Environment) (name : Ident) (m n : ℕ) → IsTypeNumber types name m → IsTypeNumber types name n → m ≡ n
one_number types name m n is other = same_Some _ _ (sym is ∙ other)

one_declaration : (types : Environment) (defs : List Def) (decl : DeclTree) (a b : Signature) → IsDeclaration types defs decl a
    → IsDeclaration types defs decl b → a ≡ b
one_declaration types defs decl a b is other =
    same_signature a b (is.name ∙ sym other.name)
    (zipped_one (IsTypeNumber types) (IsTypeNumber types) (one_number types) decl.arg_tys a.args b.args is.args other.args)
    (one_number types decl.ret_ty a.ret b.ret is.ret other.ret) (is.form ∙ sym other.form) (is.pos ∙ sym other.pos)

-- definitions make one list of terms at most
pub one_list_of_terms : (types : Environment) (defs : List Def) (a b : List Signature) → AreTerms types defs a → AreTerms types defs b → a ≡ b
one_list_of_terms types defs a b is other =
    is.all ∙ ap (λ first. first ++ terms_of_types _ types.types)
    (zipped_one (IsDeclaration types defs) (IsDeclaration types defs) (one_declaration types defs)
    (declarations defs) is.declared other.declared is.each other.each)
    ∙ sym other.all

pub one_conversion : (types : Environment) (terms : List Signature) (tree : ConverterTree) (a b : Conversion) → IsConversion types terms tree a
    → IsConversion types terms tree b → a ≡ b
one_conversion types terms tree a b is other =
    same_conversion a b (one_number types tree.inner_ty a.inner b.inner is.inner other.inner)
    (one_number types tree.outer_ty a.outer b.outer is.outer other.outer)
    (is.term ∙ sym other.term)

one_rule_of : (declared : Declared) (defs : List Def) (m n max most : ℕ) (tree : RuleTree) (a b : TypedRule)
    → IsRuleOf declared defs m max tree a → IsRuleOf declared defs n most tree b → a ≡ b
one_rule_of declared defs m n max most tree a b is other =
    is.same ∙ ap (λ (z : TypedRule). record z { name = name_of_rule defs _ tree.name })
    (one_rule declared m n max most tree is.written other.written is.typed other.typed)
    ∙ sym other.same

same_environment : (a b : TermEnvironment) → a.terms ≡ b.terms → a.conversions ≡ b.conversions → a.rules ≡ b.rules → a ≡ b
same_environment a b terms conversions rules = λ i. record { terms = terms i; conversions = conversions i; rules = rules i }

-- definitions make one environment of terms at most, whatever the sizes
pub one_term_environment : (types : Environment) (expands : Bool) (m n max most : ℕ) (defs : List Def) (a b : TermEnvironment)
    → MakesTerms types expands m max defs a → MakesTerms types expands n most defs b → a ≡ b
one_term_environment types expands m n max most defs a b is other =
    let terms : a.terms ≡ b.terms = one_list_of_terms types defs a.terms b.terms is.terms other.terms in
    let conversions : a.conversions ≡ b.conversions =
    zipped_one (IsConversion types a.terms) (IsConversion types a.terms) (one_conversion types a.terms)
    (converters_in defs) a.conversions b.conversions is.conversions.each
    (subst (λ z. AllZip (IsConversion types z) (converters_in defs) b.conversions) (sym terms) other.conversions.each) in
    let declared : declared_by types expands a ≡ declared_by types expands b =
    λ i. record { types = types; terms = terms i; conversions = conversions i; expands = expands } in
    same_environment a b terms conversions
    (zipped_one (IsRuleOf (declared_by types expands b) defs m max) (IsRuleOf (declared_by types expands b) defs n most)
    (one_rule_of (declared_by types expands b) defs m n max most) (rules_in defs) a.rules b.rules
    (subst (λ z. AllZip (IsRuleOf z defs m max) (rules_in defs) a.rules) declared is.rules) other.rules)
