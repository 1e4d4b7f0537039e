use Rattle.std.proofs.Common.{◌≡◌, List, Option, Some, None, Vec, Global, true, false, map, refl, sym, ◌∙◌, ap, subst}
use Rattle.std.specs.Prelude.{IfSome, IfNone, is_some, not}
use Rattle.std.specs.Option.{option_map}
use Rattle.isle_types.specs.declared.ids.TypeId.{TypeId}
use Rattle.isle_rules.specs.Values.{ValueTree, ValueTrees, value_list}
use Rattle.isle_program.specs.Programs.{value_facts, number_of}
use Rattle.isle_values.specs.Worlds.Entries.{part_shown}
use Rattle.isle_values.specs.Worlds.Externals.{IfOfTypes, settled_part}
use Rattle.isle_values.proofs.worlds.external.settle_entry.Goals as goal
use Rattle.isle_values.proofs.worlds.external.settle_entry.Goals.{else-is_none-via-then-is_none+else-not-external, else-is_none-via-else-is_none}

abbrev Part : Type 0
Part = Option (Vec ValueTree Global)

-- where nothing is read, nothing was there
nothing_read : (a b : Part) (f : ValueTrees → ValueTrees) → part_shown b ≡ option_map f (part_shown a) → part_shown b ≡ None → is_some a ≡ false
nothing_read None b f is none = refl
nothing_read (Some vs) b f is none = absurd (let never : None ≡ Some (f (value_list vs.items)) = sym none ∙ is in cc)

pub returns-clause-some : goal.returns-clause-some
returns-clause-some c =
    let facts = value_facts c.args.program.now in
    let call = subst (λ o. IfSome o (λ (read : Part). (part_shown read ≡ settled_part facts (part_shown c.args.entry.call)
    (map number_of c.args.external.now.takes.now))
    × IfOfTypes facts (part_shown read) (map number_of c.args.external.now.takes.now))) c.in-Some.is c.in_ok-call.ensures.some in
    let answer = subst (λ o. IfSome o (λ (read : Part). (part_shown read ≡ settled_part facts (part_shown c.args.entry.answer)
    (map number_of c.args.external.now.gives.now))
    × IfOfTypes facts (part_shown read) (map number_of c.args.external.now.gives.now))) c.in-Some-2.is c.in_ok-answer.ensures.some in (
      λ i. record { side = c.args.entry.side; term = c.args.entry.term; call = call.0 i; answer = answer.0 i },
      record {
        call = call.1;
        answer = answer.1;
        none = λ none. elim c.else-is_none.branch [
          | else-is_none-via-then-is_none+else-not-external w ↦ w.if-not-external.false
          | else-is_none-via-else-is_none w ↦
              let gone = nothing_read c.args.entry.answer c.in-Some-2.answer _ answer.0 none in
              let told : is_some c.args.entry.answer ≡ not c.is_none.result = c.is_none.ensures in
              let other : not c.is_none.result ≡ true = ap not w.if-is_none.false in
              absurd (let never : false ≡ true = sym gone ∙ (told ∙ other) in cc)
        ];
      },
    )

pub returns-in_default-2-clause-none : goal.returns-in_default-2-clause-none
returns-in_default-2-clause-none c = λ typed.
    subst (λ (o : Option Part). IfNone o (IfOfTypes (value_facts c.args.program.now)
    (settled_part (value_facts c.args.program.now) (part_shown c.args.entry.answer) (map number_of c.args.external.now.gives.now))
    (map number_of c.args.external.now.gives.now) → ⊥))
    c.in_default-2.is c.in_ok-answer.ensures.none typed.answer
