use Rattle.std.proofs.Common.{◌≡◌, Option, Some, None, slice_get, option_copied, sym, ap, subst, ◌∙◌}
use Rattle.std.proofs.lemmas.Result.{IfOk-weaker}
use Rattle.isle_rules.specs.declared.terms.TermKind.{TermKind}
use Rattle.isle_meaning.specs.Facts.{TermShape, variant_shape, struct_shape, declared_shape, shape_of_form}
use Rattle.isle_rules.specs.Shown.ShownTerms.{form_shown}
use Rattle.isle_rules.specs.Shown.TermTables.{TermTables}
use Rattle.isle_calls.specs.declared.store.Stored.{Stored}
use Rattle.isle_calls.specs.declared.store.Stored.TheVariants.{Variant, Struct}
use Rattle.isle_calls.specs.Inside.Plain.Fitting.{OpensBy, AreFieldsOf}
use Rattle.isle_program.specs.Meanings.{checked}
use Rattle.isle_program.specs.Programs.{types_of, terms_of}
use Rattle.isle_calls.specs.Calls.Answers.{answers_in}
use Rattle.isle_calls.specs.Calls.Host.{TellsOutputs}
use Rattle.isle_calls.proofs.PlainRoad.Patterns.Numbers.{variant_told, struct_told}
use Rattle.isle_calls.proofs.OpenCalls.Telling.{shape_found, shape_missing}
use Rattle.isle_calls.proofs.plain.fitting.Fitting.opened.Goals as goal

pub returns-in-EnumVariant-clause-opened : goal.returns-in-EnumVariant-clause-opened
returns-in-EnumVariant-clause-opened g c =
    let program = c.args.self.now.program.now in
    let w = answers_in program (g.W.World.constructs c.args.self.now.world.now) (g.W.World.extracts c.args.self.now.world.now) in
    let names = (types_of program).names in
    let at : slice_get (terms_of program).terms c.args.term.0 ≡ Some c.in-Some.known.now =
    subst (λ (e : TermTables). slice_get e.terms c.args.term.0 ≡ Some c.in-Some.known.now) c.terms.ensures (sym c.in-Some.ensures) in
    let shape : (checked program).terms.shape c.args.term.0 ≡ variant_shape c.in-EnumVariant.variant.0 =
    shape_found program c.args.term.0 c.in-Some.known.now at ∙ ap (λ (k : TermKind). shape_of_form (form_shown names k))
    c.in-EnumVariant.is in
    let found = option_copied c.variant_fields.result in
    let fields = subst (λ (o : Option Stored). AreFieldsOf o (Variant c.args.ty c.in-EnumVariant.variant) found) c.get.ensures
    c.variant_fields.ensures in
    IfOk-weaker c.fields_told.result _ _ (λ told is v stands of.
    subst (λ (s : TermShape). TellsOutputs (checked program) c.args.store.now (OpensBy (checked program) w s c.args.ty.0
    c.args.term.0 v) told)
    (sym shape) (variant_told (checked program) w c.args.store.now v c.args.number c.args.term.0 c.args.ty c.in-EnumVariant.variant found
    told
    stands fields is)) c.fields_told.ensures

pub returns-in-Struct-clause-opened : goal.returns-in-Struct-clause-opened
returns-in-Struct-clause-opened g c =
    let program = c.args.self.now.program.now in
    let w = answers_in program (g.W.World.constructs c.args.self.now.world.now) (g.W.World.extracts c.args.self.now.world.now) in
    let names = (types_of program).names in
    let at : slice_get (terms_of program).terms c.args.term.0 ≡ Some c.in-Some.known.now =
    subst (λ (e : TermTables). slice_get e.terms c.args.term.0 ≡ Some c.in-Some.known.now) c.terms.ensures (sym c.in-Some.ensures) in
    let shape : (checked program).terms.shape c.args.term.0 ≡ struct_shape =
    shape_found program c.args.term.0 c.in-Some.known.now at ∙ ap (λ (k : TermKind). shape_of_form (form_shown names k)) c.in-Struct.is in
    let found = option_copied c.struct_fields.result in
    let fields = subst (λ (o : Option Stored). AreFieldsOf o (Struct c.args.ty) found) c.get-in-Struct.ensures c.struct_fields.ensures in
    IfOk-weaker c.fields_told-in-Struct.result _ _ (λ told is v stands of.
    subst (λ (s : TermShape). TellsOutputs (checked program) c.args.store.now (OpensBy (checked program) w s c.args.ty.0
    c.args.term.0 v) told)
    (sym shape) (struct_told (checked program) w c.args.store.now v c.args.number c.args.term.0 c.args.ty found told stands fields is))
    c.fields_told-in-Struct.ensures

pub returns-in-Decl-clause-opened : goal.returns-in-Decl-clause-opened
returns-in-Decl-clause-opened g c =
    let program = c.args.self.now.program.now in
    let w = answers_in program (g.W.World.constructs c.args.self.now.world.now) (g.W.World.extracts c.args.self.now.world.now) in
    let names = (types_of program).names in
    let at : slice_get (terms_of program).terms c.args.term.0 ≡ Some c.in-Some.known.now =
    subst (λ (e : TermTables). slice_get e.terms c.args.term.0 ≡ Some c.in-Some.known.now) c.terms.ensures (sym c.in-Some.ensures) in
    let shape : (checked program).terms.shape c.args.term.0 ≡ declared_shape =
    shape_found program c.args.term.0 c.in-Some.known.now at ∙ ap (λ (k : TermKind). shape_of_form (form_shown names k)) c.in-Decl.is in
    IfOk-weaker c.ask_extractor.result _ _ (λ told asked v stands of.
    subst (λ (s : TermShape). TellsOutputs (checked program) c.ask_extractor.new.store (OpensBy (checked program) w s c.args.ty.0
    c.args.term.0 v) told)
    (sym shape) (asked v stands of)) c.ask_extractor.ensures.asked

pub returns-in-None-clause-opened : goal.returns-in-None-clause-opened
returns-in-None-clause-opened g c =
    let program = c.args.self.now.program.now in
    let w = answers_in program (g.W.World.constructs c.args.self.now.world.now) (g.W.World.extracts c.args.self.now.world.now) in
    let at : slice_get (terms_of program).terms c.args.term.0 ≡ None =
    subst (λ (e : TermTables). slice_get e.terms c.args.term.0 ≡ None) c.terms.ensures (sym c.in-None.ensures) in
    let shape : (checked program).terms.shape c.args.term.0 ≡ declared_shape = shape_missing program c.args.term.0 at in
    IfOk-weaker c.ask_extractor-in-None.result _ _ (λ told asked v stands of.
    subst (λ (s : TermShape). TellsOutputs (checked program) c.ask_extractor-in-None.new.store
    (OpensBy (checked program) w s c.args.ty.0 c.args.term.0 v) told)
    (sym shape) (asked v stands of)) c.ask_extractor-in-None.ensures.asked
