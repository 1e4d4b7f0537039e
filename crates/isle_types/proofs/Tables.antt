-- An environment's tables when names are interned.
use Rattle.std.proofs.Common.{◌≡◌, ℕ, ◌⊎◌, inl, inr, List, Result, Ok, Err, OnOk, OnErr, Some, ap, sym, subst, ◌∙◌, slice_get}
use Rattle.isle_types.specs.declared.ids.Sym.{Sym}
use Rattle.isle_types.specs.declared.ids.TypeId.{TypeId}
use Rattle.isle_types.specs.declared.types.«Type».{«Type» as KnownType}
use Rattle.isle_ast.specs.declared.error.Error.{Error}
use Rattle.isle_types.specs.Names.{with_name, AreDistinct, KeepsNames}
use Rattle.isle_types.specs.TypeTables.{TypeTables, by_name, AreTablesOf}
use Rattle.isle_types.specs.TypeEnvs.{HasMoreNames}
use Rattle.isle_types.proofs.NamePlaces.{with_name-keeps}
use Rattle.isle_types.proofs.NamedTables.{by_name-kept, interned_kept}

-- what is seen of the names, the types, two tables from symbols and the errors
abbrev pub seen : List (List ℕ) → List KnownType → List (Sym × TypeId) → List (Sym × TypeId) → List Error → TypeTables
seen names types numbers constants errors =
    record { names = names; types = types; numbers = by_name names numbers; constants = by_name names constants; errors = errors }

-- what either outcome of a step says
pub either_way : {A B : Type 0} {P Q : Type 0} (result : Result A B) → OnOk result P → OnErr result Q → P ⊎ Q
either_way (Ok x) ok err = inl ok
either_way (Err e) ok err = inr err

pub ok_then : {A B : Type 0} {P Q : Type 0} (result : Result A B) → (P → Q) → OnOk result P → OnOk result Q
ok_then (Ok x) so ok = so ok
ok_then (Err e) so ok = tt

pub err_then : {A B : Type 0} {P Q : Type 0} (result : Result A B) → (P → Q) → OnErr result P → OnErr result Q
err_then (Ok x) so err = tt
err_then (Err e) so err = so err

-- what is seen of tables that a name is interned into
pub interned_view : (names : List (List ℕ)) (name : List ℕ) (types : List KnownType) (numbers constants : List (Sym × TypeId))
    (errors : List Error) → AreTablesOf names numbers constants
    → seen (with_name names name) types numbers constants errors ≡ record
    (seen names types numbers constants errors) { names = with_name names name }
interned_view names name types numbers constants errors tables =
    ap (λ table. record (seen (with_name names name) types numbers constants errors) { numbers = table })
    (by_name-kept names name numbers tables.types_named)
    ∙ ap (λ table. record { names = with_name names name; types = types; numbers = by_name names numbers; constants = table; errors = errors })
    (by_name-kept names name constants tables.constants_named)

-- they are tables of these names still
pub tables_kept : (old new : List (List ℕ)) (numbers constants : List (Sym × TypeId)) → KeepsNames old new → AreDistinct new
    → AreTablesOf old numbers constants → AreTablesOf new numbers constants
tables_kept old new numbers constants kept once tables = record {
  once = once;
  types_named = interned_kept old new numbers kept tables.types_named;
  constants_named = interned_kept old new constants kept tables.constants_named;
}

-- interning keeps the names
pub names_kept : (old new : List (List ℕ)) (name : List ℕ) → (new ≡ with_name old name) ⊎ (new ≡ old) → KeepsNames old new
names_kept old new name (inl more) = subst (KeepsNames old) (sym more) (with_name-keeps old name)
names_kept old new name (inr same) = subst (KeepsNames old) (sym same) (λ place kept is. is)

-- a name that is seen at a symbol's place stands there
pub symbol_here : (env other : TypeTables) (name : List ℕ) (symbol : Sym) → other ≡ env → slice_get env.names symbol.0 ≡ Some name
    → slice_get other.names symbol.0 ≡ Some name
symbol_here env other name symbol is here = ap (λ (tables : TypeTables). slice_get tables.names symbol.0) is ∙ here

-- the tables that a name is interned into have more names
pub interned_more : (old new : TypeTables) (name : List ℕ) → (new ≡ record old { names = with_name old.names name }) ⊎ (new ≡ old)
    → HasMoreNames old new
interned_more old new name (inl more) = record {
  kept = λ place kept is. subst (λ (env : TypeTables). slice_get env.names place ≡ Some kept) (sym more)
      (with_name-keeps old.names name place kept is);
  same = more ∙ ap (λ (env : TypeTables). record old { names = env.names }) (sym more);
}
interned_more old new name (inr same) = record {
  kept = λ place kept is. subst (λ (env : TypeTables). slice_get env.names place ≡ Some kept) (sym same) is;
  same = same ∙ ap (λ (env : TypeTables). record old { names = env.names }) (sym same);
}

-- tables that have more names twice
pub more_then : (first second third : TypeTables) → HasMoreNames first second → HasMoreNames second third → HasMoreNames first third
more_then first second third more later = record {
  kept = λ place name is. later.kept place name (more.kept place name is);
  same = later.same ∙ ap (λ (env : TypeTables). record env { names = third.names }) more.same;
}
