-- What tables say of data by name is what definitions say.
use Rattle.std.proofs.Common.{◌≡◌, ◌⊎◌, inl, inr, ℕ, List, [], map, length, Option, None, Some, slice_get, unwrap_or, refl, sym, ◌∙◌, ap}
use Rattle.std.specs.Option.{option_map, option_and_then}
use Rattle.std.proofs.lemmas.Option.{same_Some, none-some, slice_get-map}
use Rattle.isle_ast.specs.declared.ast.Def.{Def}
use Rattle.isle_types.specs.declared.ids.TermId.{TermId}
use Rattle.isle_types.specs.IntTypes.{builtin_names}
use Rattle.isle_types.specs.TypeTables.{TypeTables}
use Rattle.isle_types.proofs.NamePlaces.{place_found, place_known}
use Rattle.isle_types.proofs.Zipped.{mapped_at}
use Rattle.isle_rules.specs.declared.terms.Term.{Term}
use Rattle.isle_rules.specs.declared.terms.TermKind.{TermKind}
use Rattle.isle_rules.specs.declared.terms.TermKind.TheVariants.{EnumVariant, Struct, Decl}
use Rattle.isle_rules.specs.Signatures.{Signature, Declared, TermForm, variant_form, struct_form, declared_form, term_named}
use Rattle.isle_rules.specs.Definitions.{AreTerms}
use Rattle.isle_rules.specs.Shown.TermTables.{TermTables}
use Rattle.isle_rules.specs.Shown.ShownTerms.{ShowsDeclared, term_shown, form_shown, term_at as id_at}
use Rattle.isle_meaning.specs.Facts.{TermFacts, TermShape, variant_shape, struct_shape, declared_shape, facts_of, shape_of_form, signature_numbered}
use Rattle.isle_meaning.specs.Facts.{no_term, TakesFields}
use Rattle.isle_rules.proofs.Visiting.SoundVisits.{term_shows}
use Rattle.isle_meaning.specs.DefinedPrograms.{data_of_form, data_of, data_shape}
use Rattle.isle_program.specs.Laws.Terms.{term_facts}
use Rattle.isle_program.specs.Tables.{value_facts_by, checked_by, data_made, shape_made, data_of_term, shape_of_term}
use Rattle.isle_program.specs.Tables.{term_called as id_named, variant_name, struct_name}
use Rattle.isle_meaning.specs.SoundPrograms.{HasSoundData}
use Rattle.isle_program.specs.Tables.{IsDataNamed}
use Rattle.isle_program.proofs.SoundPrograms.TypeTables.{variant_named, struct_named}
use Rattle.isle_program.proofs.SoundPrograms.Agreeing.{terms_agree}
use Rattle.isle_meaning.proofs.SoundPrograms.MadeData.{IsMadeOf, variant_made, struct_made, made_at}

-- so say the tables
pub data_shown : (names : List (List ℕ)) (kind : TermKind) (types : ℕ × List ℕ)
    → data_made kind types ≡ data_of_form (form_shown names kind) types
data_shown names (EnumVariant variant) types = refl
data_shown names Struct types = refl
data_shown names (Decl flags makes takes) types = refl

pub shape_shown : (names : List (List ℕ)) (kind : TermKind) → shape_made kind ≡ data_shape (form_shown names kind)
shape_shown names (EnumVariant variant) = refl
shape_shown names Struct = refl
shape_shown names (Decl flags makes takes) = refl

-- a form by its shape
variant_by : (form : TermForm) (k : ℕ) → shape_of_form form ≡ variant_shape k → form ≡ variant_form k
variant_by (variant_form j) k e = ap variant_form (let same : j ≡ k = cc in same)
variant_by struct_form k e = absurd cc
variant_by (declared_form flags makes takes) k e = absurd cc

struct_by : (form : TermForm) → shape_of_form form ≡ struct_shape → form ≡ struct_form
struct_by (variant_form j) e = absurd cc
struct_by struct_form e = refl
struct_by (declared_form flags makes takes) e = absurd cc

-- a form by the kind of its data
variant_of : (form : TermForm) (k : ℕ) → data_shape form ≡ Some (variant_shape k) → form ≡ variant_form k
variant_of (variant_form j) k e = ap variant_form (let same : j ≡ k = cc in same)
variant_of struct_form k e = absurd cc
variant_of (declared_form flags makes takes) k e = absurd cc

struct_of : (form : TermForm) → data_shape form ≡ Some struct_shape → form ≡ struct_form
struct_of (variant_form j) e = absurd cc
struct_of struct_form e = refl
struct_of (declared_form flags makes takes) e = absurd cc

-- a declared term makes no data
never_declared : (term : Signature) (made : ℕ × List ℕ) → data_of term ≡ Some made → (f : _) (c : _) (e : _)
    → term.form ≡ declared_form f c e → ⊥
never_declared term made is f c e form = none-some made (sym (ap (λ (x : TermForm). data_of_form x (term.ret, term.args)) form) ∙ is)

-- what data a term makes
data_types : (form : TermForm) (types made : ℕ × List ℕ) → data_of_form form types ≡ Some made → types ≡ made
data_types (variant_form k) types made e = same_Some types made e
data_types struct_form types made e = same_Some types made e
data_types (declared_form flags makes takes) types made e = absurd (none-some made e)

-- data is a variant or a struct
data_is : (form : TermForm) (types made : ℕ × List ℕ) → data_of_form form types ≡ Some made
    → ((k : ℕ) × (data_shape form ≡ Some (variant_shape k))) ⊎ (data_shape form ≡ Some struct_shape)
data_is (variant_form k) types made e = inl (k, refl)
data_is struct_form types made e = inr refl
data_is (declared_form flags makes takes) types made e = absurd (none-some made e)

-- the data of a type whose fields are those of a list
made_as : (o : Option (ℕ × List ℕ)) (ty u : ℕ) (types : List ℕ) (fields : ℕ → List ℕ) → o ≡ Some (ty, types) → u ≡ ty → fields ty ≡ types
    → o ≡ Some (u, fields u)
made_as o ty u types fields is type parts =
    is ∙ ap (λ (l : List ℕ). Some (ty, l)) (sym parts) ∙ ap (λ (n : ℕ). Some (n, fields n)) (sym type)

module _ (tyenv : TypeTables) (env : TermTables) (defs : List Def) (declared : Declared) (shows : ShowsDeclared tyenv env declared)
    (are : AreTerms declared.types defs declared.terms) (takes : TakesFields declared) where
  -- the term of a name
  record IsNamed (name : List ℕ) : Type 0 where
    number : ℕ
    term : Signature
    named : term_named declared name ≡ Some number
    at : slice_get declared.terms number ≡ Some term
    called : term.name ≡ name

  -- where a name leads to something, there is its term
  named_by : {X : Type 0} (f : TermId → Option X) (name : List ℕ) (x : X) → option_and_then f (id_named tyenv env name) ≡ Some x
      → IsNamed name
  named_by {X} f name x e = go (term_named declared name) refl
    where
      go : (o : Option ℕ) → term_named declared name ≡ o → IsNamed name
      go None is = absurd (none-some x (sym (ap (option_and_then f) (shows.named name ∙ ap (option_map id_at) is)) ∙ e))
      go (Some number) is =
          let found = place_found (map (λ (term : Signature). term.name) declared.terms) name number is in
          let (term, at, called) = mapped_at (λ (s : Signature). s.name) declared.terms number name found in
          record { number = number; term = term; named = is; at = at; called = called }

  -- what is said of the name of a term
  module _ (name : List ℕ) (number : ℕ) (term : Signature) (named : term_named declared name ≡ Some number)
      (at : slice_get declared.terms number ≡ Some term) where
    shown_there : (made : Term) × (slice_get env.terms number ≡ Some made)
        × (term_shown tyenv.names made ≡ term)
    shown_there =
        let there = ap (λ (l : List Signature). slice_get l number) shows.terms ∙ at in
        term_shows tyenv.names env.terms number term there

    data_there : (value_facts_by tyenv env).data_named name ≡ data_of term
    data_there =
        let (made, there, is) = shown_there in
        ap (option_and_then (λ (id : TermId). option_and_then data_of_term (slice_get env.terms id.0)))
        (shows.named name ∙ ap (option_map id_at) named)
        ∙ ap (option_and_then data_of_term) there ∙ data_shown tyenv.names made.kind _ ∙ ap data_of is

    shape_there : (value_facts_by tyenv env).shape_named name ≡ data_shape term.form
    shape_there =
        let (made, there, is) = shown_there in
        ap (option_and_then (λ (id : TermId). option_and_then shape_of_term (slice_get env.terms id.0)))
        (shows.named name ∙ ap (option_map id_at) named)
        ∙ ap (option_and_then shape_of_term) there ∙ shape_shown tyenv.names made.kind
        ∙ ap (λ (s : Signature). data_shape s.form) is

  -- the term of data
  record IsData (name : List ℕ) (ty : ℕ) (types : List ℕ) : Type 0 where
    number : ℕ
    term : Signature
    at : slice_get declared.terms number ≡ Some term
    called : term.name ≡ name
    made : data_of term ≡ Some (ty, types)
    ret : term.ret ≡ ty
    args : term.args ≡ types
    shape : (value_facts_by tyenv env).shape_named name ≡ data_shape term.form

  data_term : (name : List ℕ) (ty : ℕ) (types : List ℕ) → (value_facts_by tyenv env).data_named name ≡ Some (ty, types) → IsData name ty types
  data_term name ty types e =
      let is = named_by (λ (id : TermId). option_and_then data_of_term (slice_get env.terms id.0)) name (ty, types) e in
      let made = sym (data_there name is.number is.term is.named is.at) ∙ e in
      let same = data_types is.term.form (is.term.ret, is.term.args) (ty, types) made in
      record {
        number = is.number;
        term = is.term;
        at = is.at;
        called = is.called;
        made = made;
        ret = ap (λ (x : ℕ × List ℕ). x.0) same;
        args = ap (λ (x : ℕ × List ℕ). x.1) same;
        shape = shape_there name is.number is.term is.named is.at;
      }

  -- it is a type's
  data_made_of : (name : List ℕ) (ty : ℕ) (types : List ℕ) (is : IsData name ty types)
      → IsMadeOf (length builtin_names) declared.types.types is.term
  data_made_of name ty types is =
      made_at declared.types defs declared.terms are is.number is.term is.at (never_declared is.term (ty, types) is.made)

  abbrev agrees : term_facts tyenv env ≡ facts_of declared
  agrees = terms_agree tyenv env declared shows

  -- a term that isn't declared stands among the terms
  stands : (t : ℕ) → (shape_of_form (signature_numbered declared t).form ≡ declared_shape → ⊥)
      → (term : Signature) × (slice_get declared.terms t ≡ Some term)
  stands t other = go (slice_get declared.terms t) refl
    where
      go : (o : Option Signature) → slice_get declared.terms t ≡ o → (term : Signature) × (slice_get declared.terms t ≡ Some term)
      go None is = absurd (other (ap (λ (x : Option Signature). shape_of_form (unwrap_or x no_term).form) is))
      go (Some term) is = (term, is)

  -- a term is found by its name
  own_name : (t : ℕ) (term : Signature) → slice_get declared.terms t ≡ Some term → term_named declared term.name ≡ Some t
  own_name t term at =
      place_known (map (λ (s : Signature). s.name) declared.terms) term.name t are.distinct
      (slice_get-map (λ (s : Signature). s.name) declared.terms t ∙ ap (option_map (λ (s : Signature). s.name)) at)

  term_is : (t : ℕ) (term : Signature) → slice_get declared.terms t ≡ Some term → signature_numbered declared t ≡ term
  term_is t term at = ap (λ (x : Option Signature). unwrap_or x no_term) at

  -- what is said of the term of a variant
  variant_of_term : (t k : ℕ) → (checked_by tyenv env).terms.shape t ≡ variant_shape k
      → (name : List ℕ) × ((value_facts_by tyenv env).shape_named name ≡ Some (variant_shape k))
      × ((value_facts_by tyenv env).data_named name
      ≡ Some ((checked_by tyenv env).terms.type_of t, (checked_by tyenv env).terms.variant_fields ((checked_by tyenv env).terms.type_of t) k))
  variant_of_term t k e =
      let shape = sym (ap (λ (f : TermFacts). f.shape t) agrees) ∙ e in
      let (term, at) = stands t (λ d. let clash = sym shape ∙ d in absurd cc) in
      let form = variant_by term.form k (ap (λ (s : Signature). shape_of_form s.form) (sym (term_is t term at)) ∙ shape) in
      let named = own_name t term at in
      let type = ap (λ (f : TermFacts). f.type_of t) agrees ∙ ap (λ (s : Signature). s.ret) (term_is t term at) in
      let parts = ap (λ (f : TermFacts). f.variant_fields term.ret k) agrees ∙ takes.variant t k term at form in (
        term.name,
        shape_there term.name t term named at ∙ ap data_shape form,
        made_as _ term.ret _ term.args (λ (u : ℕ). (checked_by tyenv env).terms.variant_fields u k)
            (data_there term.name t term named at ∙ ap (λ (x : TermForm). data_of_form x (term.ret, term.args)) form) type parts,
      )

  -- of a struct's
  struct_of_term : (t : ℕ) → (checked_by tyenv env).terms.shape t ≡ struct_shape
      → (name : List ℕ) × ((value_facts_by tyenv env).shape_named name ≡ Some struct_shape)
      × ((value_facts_by tyenv env).data_named name
      ≡ Some ((checked_by tyenv env).terms.type_of t, (checked_by tyenv env).terms.struct_fields ((checked_by tyenv env).terms.type_of t)))
  struct_of_term t e =
      let shape = sym (ap (λ (f : TermFacts). f.shape t) agrees) ∙ e in
      let (term, at) = stands t (λ d. let clash = sym shape ∙ d in absurd cc) in
      let form = struct_by term.form (ap (λ (s : Signature). shape_of_form s.form) (sym (term_is t term at)) ∙ shape) in
      let named = own_name t term at in
      let type = ap (λ (f : TermFacts). f.type_of t) agrees ∙ ap (λ (s : Signature). s.ret) (term_is t term at) in
      let parts = ap (λ (f : TermFacts). f.struct_fields term.ret) agrees ∙ takes.struct t term at form in (
        term.name,
        shape_there term.name t term named at ∙ ap data_shape form,
        made_as _ term.ret _ term.args (λ (u : ℕ). (checked_by tyenv env).terms.struct_fields u)
            (data_there term.name t term named at ∙ ap (λ (x : TermForm). data_of_form x (term.ret, term.args)) form) type parts,
      )

  -- the fields of data that is a variant
  variant_parts : (name : List ℕ) (k ty : ℕ) (types : List ℕ) → (value_facts_by tyenv env).shape_named name ≡ Some (variant_shape k)
      → (value_facts_by tyenv env).data_named name ≡ Some (ty, types) → types ≡ (checked_by tyenv env).terms.variant_fields ty k
  variant_parts name k ty types s e =
      let is = data_term name ty types e in
      let form = variant_of is.term.form k (sym is.shape ∙ s) in
      sym is.args ∙ sym (takes.variant is.number k is.term is.at form)
      ∙ sym (ap (λ (f : TermFacts). f.variant_fields is.term.ret k) agrees)
      ∙ ap (λ (u : ℕ). (checked_by tyenv env).terms.variant_fields u k) is.ret

  -- that is a struct
  struct_parts : (name : List ℕ) (ty : ℕ) (types : List ℕ) → (value_facts_by tyenv env).shape_named name ≡ Some struct_shape
      → (value_facts_by tyenv env).data_named name ≡ Some (ty, types) → types ≡ (checked_by tyenv env).terms.struct_fields ty
  struct_parts name ty types s e =
      let is = data_term name ty types e in
      let form = struct_of is.term.form (sym is.shape ∙ s) in
      sym is.args ∙ sym (takes.struct is.number is.term is.at form) ∙ sym (ap (λ (f : TermFacts). f.struct_fields is.term.ret) agrees)
      ∙ ap (λ (u : ℕ). (checked_by tyenv env).terms.struct_fields u) is.ret

  shaped_data : (name : List ℕ) (ty : ℕ) (types : List ℕ) → (value_facts_by tyenv env).data_named name ≡ Some (ty, types)
      → ((k : ℕ) × ((value_facts_by tyenv env).shape_named name ≡ Some (variant_shape k)))
      ⊎ ((value_facts_by tyenv env).shape_named name ≡ Some struct_shape)
  shaped_data name ty types e =
      let is = data_term name ty types e in elim (data_is is.term.form (is.term.ret, is.term.args) (ty, types) is.made) [
        | inl (k, s) ↦ inl (k, is.shape ∙ s)
        | inr s ↦ inr (is.shape ∙ s)
      ]

  -- the name by which a shape of a type is called
  abbrev name_of_shape : TermShape → ℕ → List ℕ
  name_of_shape (variant_shape k) ty = variant_name tyenv ty k
  name_of_shape struct_shape ty = struct_name tyenv ty
  name_of_shape declared_shape ty = []

  -- data has that name
  data_called : (name : List ℕ) (shape : TermShape) (ty : ℕ) (types : List ℕ) → (value_facts_by tyenv env).shape_named name ≡ Some shape
      → (value_facts_by tyenv env).data_named name ≡ Some (ty, types) → name_of_shape shape ty ≡ name
  data_called name shape ty types s e =
      let is = data_term name ty types e in called is (data_made_of name ty types is)
    where
      called : (is : IsData name ty types) → IsMadeOf (length builtin_names) declared.types.types is.term → name_of_shape shape ty ≡ name
      called is (variant_made place k type variants variant at is_enum there form ret own) =
          let same : shape ≡ variant_shape k = same_Some shape (variant_shape k) (sym s ∙ is.shape ∙ ap data_shape form) in
          ap (λ (x : TermShape). name_of_shape x ty) same ∙ ap (λ (u : ℕ). variant_name tyenv u k) (sym is.ret ∙ ret)
          ∙ variant_named tyenv declared.types shows.types place type variants k variant at is_enum there ∙ sym own
          ∙ is.called
      called is (struct_made place type members at is_struct form ret own) =
          let same : shape ≡ struct_shape = same_Some shape struct_shape (sym s ∙ is.shape ∙ ap data_shape form) in
          ap (λ (x : TermShape). name_of_shape x ty) same ∙ ap (struct_name tyenv) (sym is.ret ∙ ret)
          ∙ struct_named tyenv declared.types shows.types place type members at is_struct ∙ sym own ∙ is.called

  pub named_data : IsDataNamed tyenv env
  named_data = record {
    variants = λ name k ty types s e. data_called name (variant_shape k) ty types s e;
    structs = λ name ty types s e. data_called name struct_shape ty types s e;
  }

  pub sound_data : HasSoundData (checked_by tyenv env)
  sound_data = record {
    variant_name = variant_of_term;
    struct_name = struct_of_term;
    variant_fields = variant_parts;
    struct_fields = struct_parts;
    shaped = shaped_data;
    one_name = λ name other shape ty types others s t d e.
        sym (data_called name shape ty types s d) ∙ data_called other shape ty others t e;
  }
