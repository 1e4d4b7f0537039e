-- The innermost name is taken away: its text has again what it hid.
use Rattle.std.proofs.Common.{◌≡◌, ℕ, List, [], ◌∷◌, ◌++◌, map, reverse, true, false, if◌then◌else◌, Option, Some, refl, ap, sym, subst, ◌∙◌}
use Rattle.std.specs.Option.{option_map}
use Rattle.std.specs.Str.{bytes_eq}
use Rattle.std.proofs.lemmas.List.{reverse-append}
use Rattle.std.proofs.lemmas.Slice.Eq.{bytes_eq-Decides}
use Rattle.isle_containers.specs.StableMaps.{value_at}
use Rattle.isle_terms.specs.declared.translate.bindings.BoundName.{BoundName}
use Rattle.isle_terms.specs.declared.translate.bindings.VisibleName.{VisibleName}
use Rattle.isle_rules.specs.Elaboration.{visible_in}
use Rattle.isle_terms.specs.Inside.Readings.Scopes.{bound_of, visible_shown, innermost_of, IsScope}

-- with the innermost of another text nothing changes
other_text : (last : VisibleName) (rest : List VisibleName) (name : List ℕ) → bytes_eq last.name name ≡ false
    → innermost_of (last ∷ rest) name ≡ innermost_of rest name
other_text last rest name apart =
    ap (λ b. option_map bound_of (if b then Some (visible_shown last) else visible_in (map visible_shown rest) name)) apart

-- the names without the innermost, and the table with what it hid
without_innermost : (last : VisibleName) (rest : List VisibleName) (table new : List (List ℕ × BoundName))
    → IsScope (last ∷ rest) table
    → ((name : List ℕ) → value_at bytes_eq new name ≡ (if bytes_eq last.name name then last.hidden else value_at bytes_eq table name))
    → IsScope rest new
without_innermost last rest table new scope values = record {
  hidden = scope.hidden.1;
  found = λ name. elim (bytes_eq last.name name) as
      (λ b. bytes_eq last.name name ≡ b → value_at bytes_eq new name ≡ innermost_of rest name) [
        | true ↦ λ same. let decides = bytes_eq-Decides last.name name in
            subst (λ n. value_at bytes_eq new n ≡ innermost_of rest n) (decides.0 same)
            (values last.name
            ∙ ap (λ b. if b then last.hidden else value_at bytes_eq table last.name) (let own = bytes_eq-Decides last.name last.name in own.1 refl)
            ∙ scope.hidden.0)
        | false ↦ λ apart.
            values name ∙ ap (λ b. if b then last.hidden else value_at bytes_eq table name) apart ∙ scope.found name
            ∙ other_text last rest name apart
      ] refl;
}

-- the same where the names are a stack, the innermost last
pub scope_left : (names rest : List VisibleName) (last : VisibleName) (hidden : Option BoundName) (table new : List (List ℕ × BoundName))
    → IsScope (reverse names) table → names ≡ rest ++ last ∷ [] → last.hidden ≡ hidden
    → ((name : List ℕ) → value_at bytes_eq new name ≡ (if bytes_eq last.name name then hidden else value_at bytes_eq table name))
    → IsScope (reverse rest) new
scope_left names rest last hidden table new scope split hides values =
    without_innermost last (reverse rest) table new
    (subst (λ ns. IsScope ns table) (ap reverse split ∙ reverse-append rest (last ∷ [])) scope)
    (λ name. values name ∙ ap (λ h. if bytes_eq last.name name then h else value_at bytes_eq table name) (sym hides))
