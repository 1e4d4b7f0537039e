use Rattle.std.proofs.Common.{◌≡◌, [], Vec, Global, Option, Some, None, Result, Ok, Err, IfOk, map, refl, sym, ◌∙◌, subst}
use Rattle.std.specs.Prelude.{IfSome, IfNone}
use Rattle.isle_rules.specs.Values.{ValueTree, ValueTrees, value_list}
use Rattle.isle_meaning.specs.ValueTypes.{AreOfTypes}
use Rattle.isle_program.specs.Programs.{value_facts, number_of, types_taken}
use Rattle.isle_values.specs.Queries.{AreSettled, NoneAreTyped}
use Rattle.isle_values.specs.Values.Settled.{settled_all}
use Rattle.isle_values.specs.Values.Tokens.{SpellArguments}
use Rattle.isle_values.proofs.GroundValues.OneSpelling.{all_spelling}
use Rattle.isle_values.proofs.queries.read_args.Goals as goal

-- a fact of nothing, from another
none_too : {T E : Type 0} (r : Result (Option T) E) (P Q : Type 0) → (P → Q) → IfOk r (λ o. IfNone o P) → IfOk r (λ o. IfNone o Q)
none_too (Ok None) P Q f p = f p
none_too (Ok (Some x)) P Q f p = p
none_too (Err e) P Q f p = p

pub returns-in-Some-clause-none : goal.returns-in-Some-clause-none
returns-in-Some-clause-none c =
    let program = c.args.program.now in let facts = value_facts program in let read = value_list c.in-Some.values.items in
    let types = types_taken program c.args.term in
    let mine = subst (λ o. IfSome o (λ (values : Vec ValueTree Global). SpellArguments c.args.tokens.now (value_list values.items)))
    c.in-Some.is c.in_ok-values.ensures.some in
    none_too c.settle_values.result ((values : ValueTrees) → AreSettled program read (map number_of c.arg_types.result.now) values → ⊥)
    (NoneAreTyped program c.args.term c.args.tokens.now)
    (λ never spelt spells of.
    let (same, rest) = all_spelling spelt read [] [] spells.0 mine.0 (sym spells.1 ∙ mine.1) in
    never (settled_all facts read types) (
      subst (λ l. settled_all facts read l ≡ settled_all facts read types) (sym c.arg_types.ensures) refl,
      subst (λ l. AreOfTypes facts (settled_all facts read types) l) (sym c.arg_types.ensures)
          (subst (λ l. AreOfTypes facts (settled_all facts l types) types) same of),
    ))
    c.settle_values.ensures.none
