use Rattle.std.proofs.Common.{◌≡◌, ℕ, ◌+◌, List, [], ◌∷◌, ◌++◌, is_none, take, Some, subst, sym, ap, ◌∙◌}
use Rattle.std.proofs.lemmas.List.{take_all}
use Rattle.isle_ast.specs.declared.ast.Def.{Def}
use Rattle.isle_types.specs.TypeTables.{TypeTables}
use Rattle.isle_types.specs.Names.{position_of, AreDistinct}
use Rattle.isle_types.specs.Inside.Readings.{HasTypeNames}
use Rattle.isle_types.proofs.DefinitionTurns.{no_type}
use Rattle.isle_types.specs.Environment.{as_type, type_names}
use Rattle.isle_types.proofs.NamingTurns.{NamedSoFar, named_at_start, named_passing, named_newly, named_again}
use Rattle.isle_types.proofs.env.TypeEnv.collect_names.Goals as goal
use Rattle.isle_types.proofs.env.TypeEnv.collect_names.Goals.{in-TypeDef+in_ok-name_type, then-not-branch+in_ok-report_taken, else-not-branch}
use Rattle.isle_types.proofs.env.TypeEnv.collect_names.Goals.{in_default}

pub loop-def-init : goal.loop-def-init
loop-def-init c = named_at_start c.args.defs.now c.args.self.now c.requires.named c.requires.no_errors

pub loop-def-preserved : goal.loop-def-preserved
loop-def-preserved c =
    let defs = c.args.defs.now in
    let i = c.loop-def.def-index in
    let def = c.def-item.result in
    let start = c.args.self.now in
    let so_far = c.loop-def.invariant in
    elim c.match-def.branch [
      | in-TypeDef+in_ok-name_type w ↦
          let tree = w.in-TypeDef.ty in
          let known = type_names (take i defs) in
          let some : as_type def ≡ Some tree = ap as_type w.in-TypeDef.is in
          let text : w.as_str.result.now ≡ tree.name.0 = w.as_str.ensures in
          let named = subst (λ (name : List ℕ). HasTypeNames w.name_type.new.self (known ++ name ∷ [])) text
          (w.in_ok-name_type.ensures.named known so_far.named so_far.counted) in
          let new = w.in_ok-name_type.ensures.new known so_far.named ∙ ap (λ (name : List ℕ). is_none (position_of known name)) text in
          elim w.if-not-branch.branch [
            | then-not-branch+in_ok-report_taken w' ↦
                subst (NamedSoFar defs (i + 1) start c.match-def.self) (sym w.next-is)
                (subst (λ (env : TypeTables). NamedSoFar defs (i + 1) start env (c.loop-def.next + 1)) (sym (w.self-is ∙ w'.self-is))
                (named_again defs i def tree _ start c.loop-def.self w.name_type.new.self w'.report_taken.new.self c.loop-def.next
                c.loop-def-test.true c.def-item.is some so_far named w.name_type.ensures.same (sym w'.if-not-branch.true ∙ new)
                w'.in_ok-report_taken.ensures.ok.1))
            | else-not-branch w' ↦
                subst (NamedSoFar defs (i + 1) start c.match-def.self) (sym w.next-is)
                (subst (λ (env : TypeTables). NamedSoFar defs (i + 1) start env (c.loop-def.next + 1)) (sym (w.self-is ∙ w'.self-is))
                (named_newly defs i def tree start c.loop-def.self w.name_type.new.self c.loop-def.next c.loop-def-test.true c.def-item.is some
                so_far named w.name_type.ensures.same (sym w'.if-not-branch.false ∙ new)))
          ]
      | in_default w ↦
          subst (NamedSoFar defs (i + 1) start c.match-def.self) (sym w.next-is)
          (subst (λ (env : TypeTables). NamedSoFar defs (i + 1) start env c.loop-def.next) (sym w.self-is)
          (named_passing defs i def start c.loop-def.self c.loop-def.next c.loop-def-test.true c.def-item.is
          (no_type def w.in_default.not-TypeDef) so_far))
    ]

pub returns-clause-once : goal.returns-clause-once
returns-clause-once c = λ clean.
    subst (λ (defs : List Def). AreDistinct (type_names defs)) (take_all c.loop-def.def-index c.args.defs.now c.loop-def-test.false)
    (c.loop-def.invariant.once clean)
