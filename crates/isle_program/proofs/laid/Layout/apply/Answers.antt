use Rattle.std.proofs.Common.{sym}
use Rattle.std.proofs.lemmas.Result.{IfOk-weaker}
use Rattle.isle_program.proofs.Plain.LaidOut.Parts.{lays_pure}
use Rattle.isle_program.proofs.Plain.LaidOut.Terms.{lays_variant, lays_struct, lays_declared, lays_unknown}
use Rattle.isle_program.proofs.laid.Layout.apply.Goals as goal

pub returns-in-EnumVariant-clause-laid : goal.returns-in-EnumVariant-clause-laid
returns-in-EnumVariant-clause-laid c = IfOk-weaker c.put.result _ _
    (λ number p. lays_variant c.args.termenv.now c.args.ty c.args.term c.args.args c.args.self.now c.put.new.self number c.in-Some.known.now
    c.in-EnumVariant.variant (sym c.in-Some.ensures) c.in-EnumVariant.is p c.put.ensures.bound)
    c.put.ensures.put

pub returns-in-Struct-clause-laid : goal.returns-in-Struct-clause-laid
returns-in-Struct-clause-laid c = IfOk-weaker c.put-in-Struct.result _ _
    (λ number p. lays_struct c.args.termenv.now c.args.ty c.args.term c.args.args c.args.self.now c.put-in-Struct.new.self number
    c.in-Some.known.now (sym c.in-Some.ensures) c.in-Struct.is p c.put-in-Struct.ensures.bound)
    c.put-in-Struct.ensures.put

pub returns-in-Decl-clause-laid : goal.returns-in-Decl-clause-laid
returns-in-Decl-clause-laid c = IfOk-weaker c.call.result _ _
    (λ number h. lays_declared c.args.termenv.now c.args.ty c.args.term c.args.args c.args.self.now c.call.new.self number
    c.in-Some.known.now c.in-Decl.flags c.in-Decl.constructor_kind c.in-Decl.extractor_kind (sym c.in-Some.ensures) c.in-Decl.is h)
    c.call.ensures.laid

pub returns-in-None-clause-laid : goal.returns-in-None-clause-laid
returns-in-None-clause-laid c = IfOk-weaker c.put-in-None.result _ _
    (λ number p. lays_unknown c.args.termenv.now c.args.ty c.args.term c.args.args c.args.self.now c.put-in-None.new.self number
    (sym c.in-None.ensures) (lays_pure c.args.term c.args.args c.args.self.now c.put-in-None.new.self number p c.put-in-None.ensures.bound))
    c.put-in-None.ensures.put
