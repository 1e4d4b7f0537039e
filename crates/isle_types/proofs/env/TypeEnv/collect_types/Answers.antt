use Rattle.std.proofs.Common.{◌+◌, [], ◌∷◌, ◌++◌, length, ap, sym, subst, ◌∙◌}
use Rattle.std.proofs.lemmas.Result.{err_from_is_err_and}
use Rattle.isle_types.specs.Environment.{as_type, type_names}
use Rattle.isle_types.specs.TypeTables.{TypeTables}
use Rattle.isle_types.proofs.Tables.{seen}
use Rattle.isle_types.proofs.DefinitionTurns.{no_type}
use Rattle.isle_types.proofs.MakingTurns.{MadeSoFar, made_passing, made_more, made_kept, handed_on}
use Rattle.isle_types.proofs.env.TypeEnv.collect_types.Goals as goal
use Rattle.isle_types.proofs.env.TypeEnv.collect_types.Goals.{in-TypeDef+in-Ok+in_ok-push-in-Ok, in-TypeDef+in-Err+in_ok-keep-in-Err, in_default}

pub returns-in_err-keep-in-Err-clause-too_large : goal.returns-in_err-keep-in-Err-clause-too_large
returns-in_err-keep-in-Err-clause-too_large c =
    let e = err_from_is_err_and c.from_residual-in_err-keep-in-Err.result c.from_residual-in_err-keep-in-Err.ensures.1 in
    rw (e.1, e.2)
    (handed_on c.args.defs.now c.loop-def.def-index c.def-item.result c.in-TypeDef.ty c.in-Err.refusal c.in_err-keep-in-Err.field-0.0
    c.loop-def-test.true c.def-item.is (ap as_type c.in-TypeDef.is)
    (c.in-Err.ensures.fault (type_names c.args.defs.now) c.loop-def.invariant.named) c.in_err-keep-in-Err.ensures.size)

pub loop-def-preserved : goal.loop-def-preserved
loop-def-preserved c =
    let defs = c.args.defs.now in
    let known = type_names defs in
    let i = c.loop-def.def-index in
    let def = c.def-item.result in
    let start = c.args.self.now in
    let so_far = c.loop-def.invariant in
    let old = c.loop-def.self in
    elim c.match-def.branch [
      | in-TypeDef+in-Ok+in_ok-push-in-Ok w ↦
          let some = ap as_type w.in-TypeDef.is in
          subst (MadeSoFar defs (i + 1) start) (sym w.self-is)
          (made_more defs i def w.in-TypeDef.ty w.in-Ok.made _ start old w.type_from_ast.new.self _ c.loop-def-test.true c.def-item.is some so_far
          w.type_from_ast.ensures.same
          (let env = w.self-in-Ok.inside in
          ap (λ types. seen env.symbols types env.type_map env.const_types env.errors.items) w.in_ok-push-in-Ok.ensures.items
          ∙ ap (λ (tables : TypeTables). record tables { types = tables.types ++ w.in-Ok.made ∷ [] }) w.self-in-Ok.view_is)
          w.in-Ok.ensures.id (w.len.ensures ∙ w.self.inside.types.ok.0 ∙ ap (λ (tables : TypeTables). length tables.types) w.self.view_is)
          (w.in-Ok.ensures.read known so_far.named) w.in-Ok.ensures.sizes)
      | in-TypeDef+in-Err+in_ok-keep-in-Err w ↦
          let some = ap as_type w.in-TypeDef.is in
          subst (MadeSoFar defs (i + 1) start) (sym w.self-is)
          (made_kept defs i def w.in-TypeDef.ty w.in-Err.refusal start old w.type_from_ast.new.self w.keep.new.self c.loop-def-test.true
          c.def-item.is some so_far w.type_from_ast.ensures.same (w.in-Err.ensures.fault known so_far.named) w.in_ok-keep-in-Err.ensures.ok)
      | in_default w ↦
          subst (MadeSoFar defs (i + 1) start) (sym w.self-is)
          (made_passing defs i def start old c.loop-def-test.true c.def-item.is (no_type def w.in_default.not-TypeDef) so_far)
    ]
