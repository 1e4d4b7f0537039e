-- What is written of a call's parts.
use Rattle.std.proofs.Common.{◌≡◌, ◌<◌, ◌+◌, ◌++◌, ℕ, zero, suc, List, [], ◌∷◌, Result, Ok, Err, OnOk, length, take, get_or, sym, ap, ◌∙◌}
use Rattle.std.proofs.Common.{append_assoc, append-nil, add-one, arith}
use Rattle.std.specs.Prelude.{codes}
use Rattle.std.specs.declared.alloc.AllocError.{AllocError}
use Rattle.isle_rules.specs.Values.{ValueTree, value_list}
use Rattle.isle_values.specs.Values.Text.{value_text, fields_text}
use Rattle.isle_callers.specs.Lines.{call_text}

-- one argument more
fields_more : (args : List ValueTree) (i : ℕ) (v : ValueTree) → i < length args → v ≡ get_or args i v
    → fields_text (value_list (take (suc i) args)) ≡ fields_text (value_list (take i args)) ++ (codes " " ++ value_text v)
fields_more [] i v within is = absurd (omega (arith, within))
fields_more (a ∷ args) zero v within is = rw (sym is) (append-nil (codes " " ++ value_text v))
fields_more (a ∷ args) (suc i) v within is =
    let rest = fields_more args i v (omega arith) is in
    ap (λ l. codes " " ++ (value_text a ++ l)) rest
    ∙ ap (λ l. codes " " ++ l) (sym (append_assoc (value_text a) (fields_text (value_list (take i args))) (codes " " ++ value_text v)))

-- the same, as a loop goes on
pub next_argument : (old name : List ℕ) (args : List ValueTree) (i : ℕ) (v : ValueTree) (was spaced grown : List ℕ) → i < length args
    → v ≡ get_or args i v → was ≡ old ++ (codes "(" ++ (name ++ fields_text (value_list (take i args))))
    → spaced ≡ was ++ codes " " → grown ≡ spaced ++ value_text v
    → grown ≡ old ++ (codes "(" ++ (name ++ fields_text (value_list (take (i + 1) args))))
next_argument old name args i v was spaced grown within is written space text =
    rw (add-one i, fields_more args i v within is, text, space, written) (simp append_assoc)

-- a call behind a word
pub labelled : (r : Result (Unit {0}) AllocError) (old put new label name own : List ℕ) (args items : List ValueTree) → put ≡ old ++ label
    → name ≡ own → args ≡ items → OnOk r (new ≡ put ++ call_text name args) → OnOk r (new ≡ old ++ (label ++ call_text own items))
labelled (Err e) old put new label name own args items is named same wrote = tt
labelled (Ok u) old put new label name own args items is named same wrote =
    wrote ∙ ap (λ l. l ++ call_text name args) is ∙ append_assoc old label (call_text name args)
    ∙ ap (λ l. old ++ (label ++ call_text l args)) named ∙ ap (λ l. old ++ (label ++ call_text own l)) same
