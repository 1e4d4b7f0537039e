-- Each site's number is put to those before; where one has none, the sites have no values.
use Rattle.std.proofs.Common.{◌≡◌, ◌≤◌, ◌+◌, List, ℕ, Option, Some, None, length, take, take_all, get_or, sym, subst, ◌∙◌}
use Rattle.isle_meaning.specs.Held.{plain}
use Rattle.isle_meaning.specs.Machine.Runs.{values_at, read}
use Rattle.isle_blocks.specs.declared.ids.BindingId.{BindingId}
use Rattle.isle_blocks.specs.Rows.{numbers_of}
use Rattle.isle_program.specs.declared.program.Program.{Program}
use Rattle.isle_calls.specs.Inside.Blocks.Frames.{rows_in}
use Rattle.isle_calls.specs.Inside.Blocks.Holdings.{TellsNumber}
use Rattle.isle_calls.proofs.TreeRoad.Reading.{AreNumbersOf, around_longer, site_told, site_none}
use Rattle.isle_calls.proofs.Stores.Values.{extends_again}
use Rattle.isle_calls.proofs.machine.reading.Machine.numbers.Goals as goal

pub returns-in-None-clause-told : goal.returns-in-None-clause-told
returns-in-None-clause-told c args env around =
    let at = λ (p : Program). read (rows_in p c.args.frame.now.sites.now) args env in
    let sites = c.args.sites.now in let i = c.loop-site.site-index in let d : BindingId = record { 0 = 0 } in let new = c.number.new.self.store in
    let told : TellsNumber new c.in_ok-number.field-0 (plain (at c.loop-site.self.program.now (get_or sites i d).0)) =
    c.in_ok-number.ensures.told args env (around_longer c.args.frame.now args env c.loop-site.invariant.kept around) in
    let here : TellsNumber new None (plain (at c.args.self.now.program.now (get_or sites i d).0)) =
    subst (λ (p : Program). TellsNumber new None (plain (at p (get_or sites i d).0))) c.loop-site.invariant.program
    (subst (λ (o : Option ℕ). TellsNumber new o (plain (at c.loop-site.self.program.now (get_or sites i d).0))) c.in-None.is told) in
    site_none (at c.args.self.now.program.now) sites i d c.loop-site-test.true new here

pub loop-site-preserved : goal.loop-site-preserved
loop-site-preserved c = record {
  kept = extends_again c.loop-site.invariant.kept c.in_ok-number.ensures.kept;
  program = c.in_ok-number.ensures.program ∙ c.loop-site.invariant.program;
  told = λ args env around.
      let at = λ (p : Program). read (rows_in p c.args.frame.now.sites.now) args env in
      let sites = c.args.sites.now in let i = c.loop-site.site-index in let d : BindingId = record { 0 = 0 } in let new = c.number.new.self.store in
      let told : TellsNumber new c.in_ok-number.field-0 (plain (at c.loop-site.self.program.now (get_or sites i d).0)) =
      c.in_ok-number.ensures.told args env (around_longer c.args.frame.now args env c.loop-site.invariant.kept around) in
      let here : TellsNumber new (Some c.in-Some.number) (plain (at c.args.self.now.program.now (get_or sites i d).0)) =
      subst (λ (p : Program). TellsNumber new (Some c.in-Some.number) (plain (at p (get_or sites i d).0))) c.loop-site.invariant.program
      (subst (λ (o : Option ℕ). TellsNumber new o (plain (at c.loop-site.self.program.now (get_or sites i d).0))) c.in-Some.is told) in
      let joined = site_told (at c.args.self.now.program.now) sites i d c.loop-site-test.true c.in_ok-number.ensures.kept
      c.loop-site.numbers.items c.in-Some.number (c.loop-site.invariant.told args env around) here in
      subst (λ (ns : List ℕ). AreNumbersOf new ns (values_at (at c.args.self.now.program.now) (numbers_of (take (i + 1) sites))))
      (sym c.in_ok-push-in-Some.ensures.items) joined;
}

pub returns-clause-told : goal.returns-clause-told
returns-clause-told c args env around =
    let past : length c.args.sites.now ≤ c.loop-site.site-index = c.loop-site-test.false in
    let whole : take c.loop-site.site-index c.args.sites.now ≡ c.args.sites.now = take_all c.loop-site.site-index c.args.sites.now past in
    let at = read (rows_in c.args.self.now.program.now c.args.frame.now.sites.now) args env in
    subst (λ (l : List BindingId). AreNumbersOf c.loop-site.self.store c.loop-site.numbers.items (values_at at (numbers_of l))) whole
    (c.loop-site.invariant.told args env around)
