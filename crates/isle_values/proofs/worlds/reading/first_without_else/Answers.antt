use Rattle.std.proofs.Common.{◌≡◌, inl, inr, length, true, false, sym, ◌∙◌, ap, subst, arith}
use Rattle.isle_rules.specs.Shown.TermTables.{TermTables}
use Rattle.isle_values.specs.Worlds.Reading.{MissesElse}
use Rattle.isle_values.proofs.TableWorlds.Refusals.{beyond, below_or_not}
use Rattle.isle_values.proofs.worlds.reading.first_without_else.Goals as goal

pub loop-i-init : goal.loop-i-init
loop-i-init c = λ other low m. omega (arith, low)

pub returns-then-branch : goal.returns-then-branch
returns-then-branch c = (c.in_ok-lacks_else.ensures.0 c.if-branch.true, c.loop-i.invariant)

pub loop-i-preserved : goal.loop-i-preserved
loop-i-preserved c = λ other low misses. elim (below_or_not other.0 c.loop-i.i) [
  | inl less ↦ c.loop-i.invariant other less misses
  | inr more ↦
      let at : other.0 ≡ c.loop-i.i = omega (arith, low, more) in
      let same : other ≡ record { 0 = c.loop-i.i } = λ j. record { 0 = at j } in
      let yes = c.in_ok-lacks_else.ensures.1 (subst (MissesElse c.args.program.now c.args.world.now) same misses) in
      let no = c.if-branch.false in let never : true ≡ false = sym yes ∙ no in absurd cc
]

pub returns : goal.returns
returns c = λ term misses. elim (below_or_not term.0 c.loop-i.i) [
  | inl less ↦ c.loop-i.invariant term less misses
  | inr more ↦
      let is = ap length c.terms-i-end.ensures in let of_program = ap (λ (env : TermTables). length env.terms) c.terms.ensures in
      let end = c.loop-i-test.false in
      beyond c.args.program.now c.args.world.now term (omega (arith, is, of_program, end, more)) misses
]
