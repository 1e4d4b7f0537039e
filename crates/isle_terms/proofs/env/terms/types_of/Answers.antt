use Rattle.std.proofs.Common.{subst}
use Rattle.isle_ast.specs.Errors.{IfFault}
use Rattle.isle_types.specs.TypeFaults.{IsTypeFault}
use Rattle.isle_terms.specs.Inside.Collecting.DeclaredTerms.{IsOneUnknownAt, IsUnknownTypeAt, NamesUnknownType, of_argument, of_result, IsLargeAt}
use Rattle.isle_terms.proofs.Collections.WiderFaults.{refusal_wider}
use Rattle.isle_terms.proofs.env.terms.types_of.Goals as goal

pub returns-in-Err-clause-fault : goal.returns-in-Err-clause-fault
returns-in-Err-clause-fault c = λ types shows.
    refusal_wider {Broken = IsOneUnknownAt types c.args.decl.now.arg_tys} {Wider = NamesUnknownType types c.args.decl.now} {Passed = λ _. ⊥}
    {More = IsLargeAt c.args.decl.now} (λ at unknown. of_argument unknown) (λ at none. absurd none) c.in-Err.refusal
    (subst (λ names. IfFault c.in-Err.refusal (IsTypeFault (IsOneUnknownAt types names))) c.as_slice-2.ensures (c.in-Err.ensures.err types shows))

pub returns-in-Err-known_type-clause-fault : goal.returns-in-Err-known_type-clause-fault
returns-in-Err-known_type-clause-fault c = λ types shows.
    refusal_wider {Broken = IsUnknownTypeAt types c.args.decl.now.ret_ty} {Wider = NamesUnknownType types c.args.decl.now} {Passed = λ _. ⊥}
    {More = IsLargeAt c.args.decl.now} (λ at unknown. of_result unknown) (λ at none. absurd none) c.in-Err-known_type.refusal
    (c.in-Err-known_type.ensures.err types shows)
