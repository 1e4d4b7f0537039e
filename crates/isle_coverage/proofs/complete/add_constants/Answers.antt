use Rattle.std.proofs.Common.{◌≡◌, ◌<◌, ◌+◌, ℕ, List, true, false, Some, length, slice_get, sym, ap, subst, ◌∙◌, arith}
use Rattle.std.proofs.lemmas.List.{length-map}
use Rattle.std.proofs.lemmas.Option.{slice_get_within}
use Rattle.isle_types.specs.Interned.{entry_of}
use Rattle.isle_types.specs.TypeEnvs.{sym_named, symbol_at}
use Rattle.isle_types.proofs.NamePlaces.{place_found}
use Rattle.isle_blocks.specs.declared.constraint.Constraint.{Constraint}
use Rattle.isle_blocks.specs.declared.constraint.Constraint.TheVariants as tests
use Rattle.isle_coverage.specs.Inside.Complete.{KeepsTests}
use Rattle.isle_coverage.proofs.Gathering.{AreThere, and_then_some, kept_push, map_some, pushed, there_more}
use Rattle.isle_coverage.proofs.complete.add_constants.Goals as goal
use Rattle.isle_coverage.proofs.complete.add_constants.Goals.{then-is_constant+in_ok-push, else-is_constant}

pub loop-number-preserved : goal.loop-number-preserved
loop-number-preserved c = elim c.if-is_constant.branch [
  | then-is_constant+in_ok-push w ↦
      let old = c.loop-number.tests.items in
      let new = w.push.new.self.items in
      let val : Constraint = tests.ConstPrim (record { 0 = c.loop-number.number }) in
      let same : new ≡ c.if-is_constant.tests.items = ap (λ own. own.items) (sym w.tests-is) in
      let kept : KeepsTests old new = kept_push old old new val w.in_ok-push.ensures.items (λ d m. m) in
      let more : AreThere c.args.types.now c.args.ty new (c.loop-number.number + 1) =
      there_more c.args.types.now c.args.ty old new c.loop-number.number c.loop-number.invariant.there kept
      (λ name e f. pushed old new val w.in_ok-push.ensures.items) in
      record {
        there = subst (λ (l : List Constraint). AreThere c.args.types.now c.args.ty l (c.loop-number.number + 1)) same more;
        kept = subst (KeepsTests c.args.tests.now.items) same (λ d m. kept d (c.loop-number.invariant.kept d m));
      }
  | else-is_constant w ↦
      let old = c.loop-number.tests.items in
      let same : old ≡ c.if-is_constant.tests.items = ap (λ own. own.items) (sym w.tests-is) in
      let more : AreThere c.args.types.now c.args.ty old (c.loop-number.number + 1) =
      there_more c.args.types.now c.args.ty old old c.loop-number.number c.loop-number.invariant.there (λ d m. m)
      (λ name e f. absurd (let no : c.is_constant.result ≡ false = cc in let both : false ≡ true = sym no ∙ c.is_constant.ensures name e f in cc)) in
      record {
        there = subst (λ (l : List Constraint). AreThere c.args.types.now c.args.ty l (c.loop-number.number + 1)) same more;
        kept = subst (KeepsTests c.args.tests.now.items) same c.loop-number.invariant.kept;
      }
]

pub returns-clause-constants : goal.returns-clause-constants
returns-clause-constants c = λ name e.
    let types = c.args.types.now in
    let (symbol, named, entry) =
    and_then_some (entry_of c.const_types-table.result.now) (sym_named types name) c.args.ty (c.const_types-table.ensures name ∙ e) in
    let (place, at, is) = map_some symbol_at _ symbol named in
    let there = place_found types.names name place at in
    let stands : slice_get types.names symbol.0 ≡ Some name =
    subst (λ (k : ℕ). slice_get types.names k ≡ Some name) (ap (λ s. s.0) is) there in
    let low : symbol.0 < length types.names = slice_get_within types.names symbol.0 name stands in
    let many : length c.syms-number-end.result.now ≡ length types.names =
    sym (length-map c.syms-number-end.result.now _) ∙ ap length c.syms-number-end.ensures.names in
    (symbol, c.loop-number.invariant.there name symbol named e (omega (arith, low, many)), stands)
