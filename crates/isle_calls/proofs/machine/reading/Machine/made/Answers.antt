-- A site is made of what its parts hold, which is read.
use Rattle.std.proofs.Common.{Option, Some, None, refl, sym, subst}
use Rattle.std.proofs.lemmas.Result.{IfOk-weaker}
use Rattle.isle_meaning.specs.Got.{gives}
use Rattle.isle_meaning.specs.Held.{Held, held_some, plain, content_of}
use Rattle.isle_meaning.specs.Machine.Runs.{values_at, read, made_of}
use Rattle.isle_blocks.specs.declared.binding.Binding.{Binding}
use Rattle.isle_blocks.specs.Rows.{row_of, numbers_of}
use Rattle.isle_calls.specs.declared.machine.holding.Holding.{Holding}
use Rattle.isle_calls.specs.Inside.Blocks.Frames.{rows_in}
use Rattle.isle_calls.specs.Inside.Blocks.Holdings.{TellsHeld}
use Rattle.isle_calls.proofs.TreeRoad.Reading.{of_held_told, of_held_none, numbers_known, numbers_unknown, variant_told, struct_told, variant_none, struct_none}
use Rattle.isle_calls.proofs.machine.reading.Machine.made.Goals as goal

pub returns-in-Some-clause-told : goal.returns-in-Some-clause-told
returns-in-Some-clause-told c = IfOk-weaker c.value-in-Some.result _ _ (λ held told name same computed args env around.
    let at = read (rows_in c.args.self.now.program.now c.args.frame.now.sites.now) args env in
    let mid = c.numbers.new.self.store in let new = c.value-in-Some.new.self.store in
    let ty = c.in-MakeVariant.ty in let k = c.in-MakeVariant.variant in let fields = c.in-MakeVariant.fields in
    subst (λ (b : Binding). TellsHeld new held (made_of args at (row_of name b))) (sym c.in-MakeVariant.is)
    (variant_told mid held new ty k c.new.result (values_at at (numbers_of fields))
    (numbers_known mid c.in_ok-numbers-in-MakeVariant.field-0 at c.as_slice.result.now fields c.as_slice.ensures
    (c.in_ok-numbers-in-MakeVariant.ensures.told args env around) c.in-Some.numbers c.new.result c.in-Some.is c.new.ensures) told))
    c.value-in-Some.ensures.told

pub returns-in-None-clause-told : goal.returns-in-None-clause-told
returns-in-None-clause-told c name same computed args env around =
    let at = read (rows_in c.args.self.now.program.now c.args.frame.now.sites.now) args env in
    let mid = c.numbers.new.self.store in
    let ty = c.in-MakeVariant.ty in let k = c.in-MakeVariant.variant in let fields = c.in-MakeVariant.fields in
    subst (λ (b : Binding). TellsHeld mid None (made_of args at (row_of name b))) (sym c.in-MakeVariant.is)
    (variant_none mid ty.0 k.0 (values_at at (numbers_of fields))
    (numbers_unknown mid c.in_ok-numbers-in-MakeVariant.field-0 at c.as_slice.result.now fields c.as_slice.ensures
    (c.in_ok-numbers-in-MakeVariant.ensures.told args env around) c.in-None.is))

pub returns-in-Some-2-clause-told : goal.returns-in-Some-2-clause-told
returns-in-Some-2-clause-told c = IfOk-weaker c.value-in-Some-2.result _ _ (λ held told name same computed args env around.
    let at = read (rows_in c.args.self.now.program.now c.args.frame.now.sites.now) args env in
    let mid = c.numbers-in-MakeStruct.new.self.store in let new = c.value-in-Some-2.new.self.store in
    let ty = c.in-MakeStruct.ty in let fields = c.in-MakeStruct.fields in
    subst (λ (b : Binding). TellsHeld new held (made_of args at (row_of name b))) (sym c.in-MakeStruct.is)
    (struct_told mid held new ty c.new-in-Some-2.result (values_at at (numbers_of fields))
    (numbers_known mid c.in_ok-numbers-in-MakeStruct.field-0 at c.as_slice-in-MakeStruct.result.now fields c.as_slice-in-MakeStruct.ensures
    (c.in_ok-numbers-in-MakeStruct.ensures.told args env around) c.in-Some-2.numbers c.new-in-Some-2.result c.in-Some-2.is
    c.new-in-Some-2.ensures) told))
    c.value-in-Some-2.ensures.told

pub returns-in-None-2-clause-told : goal.returns-in-None-2-clause-told
returns-in-None-2-clause-told c name same computed args env around =
    let at = read (rows_in c.args.self.now.program.now c.args.frame.now.sites.now) args env in
    let mid = c.numbers-in-MakeStruct.new.self.store in
    let ty = c.in-MakeStruct.ty in let fields = c.in-MakeStruct.fields in
    subst (λ (b : Binding). TellsHeld mid None (made_of args at (row_of name b))) (sym c.in-MakeStruct.is)
    (struct_none mid ty.0 (values_at at (numbers_of fields))
    (numbers_unknown mid c.in_ok-numbers-in-MakeStruct.field-0 at c.as_slice-in-MakeStruct.result.now fields c.as_slice-in-MakeStruct.ensures
    (c.in_ok-numbers-in-MakeStruct.ensures.told args env around) c.in-None-2.is))

pub returns-in_ok-number-in-MatchVariant-clause-told : goal.returns-in_ok-number-in-MatchVariant-clause-told
returns-in_ok-number-in-MatchVariant-clause-told c name same computed args env around =
    let at = read (rows_in c.args.self.now.program.now c.args.frame.now.sites.now) args env in
    let new = c.number.new.self.store in
    subst (λ (b : Binding). TellsHeld new c.variant_field.result (made_of args at (row_of name b))) (sym c.in-MatchVariant.is)
    (c.variant_field.ensures (plain (at c.in-MatchVariant.source.0)) (c.in_ok-number-in-MatchVariant.ensures.told args env around))

pub returns-in_ok-number-in-ExtractStruct-clause-told : goal.returns-in_ok-number-in-ExtractStruct-clause-told
returns-in_ok-number-in-ExtractStruct-clause-told c name same computed args env around =
    let at = read (rows_in c.args.self.now.program.now c.args.frame.now.sites.now) args env in
    let new = c.number-in-ExtractStruct.new.self.store in
    subst (λ (b : Binding). TellsHeld new c.struct_field.result (made_of args at (row_of name b))) (sym c.in-ExtractStruct.is)
    (c.struct_field.ensures (plain (at c.in-ExtractStruct.source.0)) (c.in_ok-number-in-ExtractStruct.ensures.told args env around))

pub returns-in_ok-in_option-in-Some-3-clause-told : goal.returns-in_ok-in_option-in-Some-3-clause-told
returns-in_ok-in_option-in-Some-3-clause-told c name same computed args env around =
    let at = read (rows_in c.args.self.now.program.now c.args.frame.now.sites.now) args env in
    let new = c.read.new.self.store in let inner = c.in-MakeSome.inner in let made = c.in_ok-in_option-in-Some-3.field-0 in
    subst (λ (b : Binding). TellsHeld new (Some made) (made_of args at (row_of name b))) (sym c.in-MakeSome.is)
    (of_held_told new (λ (h : Held). gives (held_some h)) (at inner.0) c.in-Some-3.held (Some made)
    (subst (λ (o : Option Holding). TellsHeld new o (at inner.0)) c.in-Some-3.is (c.in_ok-held-in-MakeSome.ensures.told args env around))
    (λ h s. (held_some h, refl, c.in_ok-in_option-in-Some-3.ensures new h s)))

pub returns-in-None-3-clause-told : goal.returns-in-None-3-clause-told
returns-in-None-3-clause-told c name same computed args env around =
    let at = read (rows_in c.args.self.now.program.now c.args.frame.now.sites.now) args env in
    let new = c.read.new.self.store in let inner = c.in-MakeSome.inner in
    subst (λ (b : Binding). TellsHeld new None (made_of args at (row_of name b))) (sym c.in-MakeSome.is)
    (of_held_none new (λ (h : Held). gives (held_some h)) (at inner.0)
    (subst (λ (o : Option Holding). TellsHeld new o (at inner.0)) c.in-None-3.is (c.in_ok-held-in-MakeSome.ensures.told args env around)))

pub returns-in-Some-4-clause-told : goal.returns-in-Some-4-clause-told
returns-in-Some-4-clause-told c name same computed args env around =
    let at = read (rows_in c.args.self.now.program.now c.args.frame.now.sites.now) args env in
    let new = c.read-in-MatchSome.new.self.store in let source = c.in-MatchSome.source in
    subst (λ (b : Binding). TellsHeld new c.in_it.result (made_of args at (row_of name b))) (sym c.in-MatchSome.is)
    (of_held_told new content_of (at source.0) c.in-Some-4.held c.in_it.result
    (subst (λ (o : Option Holding). TellsHeld new o (at source.0)) c.in-Some-4.is (c.in_ok-held-in-MatchSome.ensures.told args env around))
    (c.in_it.ensures new))

pub returns-in-None-4-clause-told : goal.returns-in-None-4-clause-told
returns-in-None-4-clause-told c name same computed args env around =
    let at = read (rows_in c.args.self.now.program.now c.args.frame.now.sites.now) args env in
    let new = c.read-in-MatchSome.new.self.store in let source = c.in-MatchSome.source in
    subst (λ (b : Binding). TellsHeld new None (made_of args at (row_of name b))) (sym c.in-MatchSome.is)
    (of_held_none new content_of (at source.0)
    (subst (λ (o : Option Holding). TellsHeld new o (at source.0)) c.in-None-4.is (c.in_ok-held-in-MatchSome.ensures.told args env around)))
