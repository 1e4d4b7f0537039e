use Rattle.std.proofs.Common.{◌∷◌, ℕ, refl, ◌∙◌, ap, subst}
use Rattle.isle_calls.specs.declared.machine.binding.Made.{Made}
use Rattle.isle_calls.specs.Inside.Blocks.Reading.{TellsMade}
use Rattle.isle_calls.proofs.TreeRoad.Turning.{binding_of, missing_turns, ill_typed_turns, waits_turns, bound_turns, bound_begins, lost_begins}
use Rattle.isle_calls.proofs.OpenCalls.Made.{on_err}
use Rattle.isle_calls.proofs.machine.reading.Machine.bind.Goals as goal

pub returns-in_err-held-clause-lost : goal.returns-in_err-held-clause-lost
returns-in_err-held-clause-lost g c = on_err c.from_residual.result (λ k since o f is.
    let b = binding_of k c.args.self.now.store c.args.frame.now since c.args.site c.args.next f is in
    let (events, makes, lost) = c.in_err-held.ensures.lost k f.reached.env o b refl in
    (events, makes, lost_begins k c.args.self.now.store c.make.new.self.store c.args.frame.now since c.args.site c.args.next f is events lost))

pub returns-in_err-bind-in-Holds-clause-lost : goal.returns-in_err-bind-in-Holds-clause-lost
returns-in_err-bind-in-Holds-clause-lost g c = on_err c.from_residual-in_err-bind-in-Holds.result (λ k since o f is.
    let b = binding_of k c.args.self.now.store c.args.frame.now since c.args.site c.args.next f is in
    let (events, makes, made) = c.in_ok-held.ensures.made k f.reached.env o b refl in (
      events,
      makes,
      bound_begins k c.args.self.now.store c.make.new.self.store c.args.frame.now since c.args.site c.args.next f is events c.in-Holds.held
          (subst (λ (m : Made). TellsMade k c.make.new.self.store f.reached.env f.reached.replied b.row m events) c.in-Holds.is made),
    ))

pub returns-in_ok-bind-in-Holds-clause-turned : goal.returns-in_ok-bind-in-Holds-clause-turned
returns-in_ok-bind-in-Holds-clause-turned g c = λ k since o f is.
    let b = binding_of k c.args.self.now.store c.args.frame.now since c.args.site c.args.next f is in
    let (events, makes, made) = c.in_ok-held.ensures.made k f.reached.env o b refl in
    let added = c.in_ok-bind-in-Holds.ensures.bound ∙ ap (λ (n : ℕ). (n, c.in-Holds.held) ∷ c.args.frame.now.bound) c.index.ensures in (
      events,
      makes,
      bound_turns k c.args.self.now.store c.make.new.self.store c.args.frame.now since c.args.site c.args.next
          f is events c.in-Holds.held c.bind.new.self
          c.in_ok-held.ensures.goes_on.kept (subst (λ (m : Made). TellsMade k c.make.new.self.store f.reached.env f.reached.replied b.row m events)
          c.in-Holds.is made) added,
    )

pub returns-in-Missing-clause-turned : goal.returns-in-Missing-clause-turned
returns-in-Missing-clause-turned g c = λ k since o f is.
    let b = binding_of k c.args.self.now.store c.args.frame.now since c.args.site c.args.next f is in
    let (events, makes, made) = c.in_ok-held.ensures.made k f.reached.env o b refl in (
      events,
      makes,
      missing_turns k c.args.self.now.store c.make.new.self.store c.args.frame.now since c.args.site c.args.next f is events
          (subst (λ (m : Made). TellsMade k c.make.new.self.store f.reached.env f.reached.replied b.row m events) c.in-Missing.is made),
    )

pub returns-in-IllTyped-clause-turned : goal.returns-in-IllTyped-clause-turned
returns-in-IllTyped-clause-turned g c = λ k since o f is.
    let b = binding_of k c.args.self.now.store c.args.frame.now since c.args.site c.args.next f is in
    let (events, makes, made) = c.in_ok-held.ensures.made k f.reached.env o b refl in (
      events,
      makes,
      ill_typed_turns k c.args.self.now.store c.make.new.self.store c.args.frame.now since c.args.site c.args.next
          f is events c.in-IllTyped.term c.in-IllTyped.args
          (subst (λ (m : Made). TellsMade k c.make.new.self.store f.reached.env f.reached.replied b.row m events) c.in-IllTyped.is made),
    )

pub returns-in-Waits-clause-turned : goal.returns-in-Waits-clause-turned
returns-in-Waits-clause-turned g c = λ k since o f is.
    let b = binding_of k c.args.self.now.store c.args.frame.now since c.args.site c.args.next f is in
    let (events, makes, made) = c.in_ok-held.ensures.made k f.reached.env o b refl in (
      events,
      makes,
      waits_turns k c.args.self.now.store c.make.new.self.store c.args.frame.now since c.args.site c.args.next
          f is events c.in-Waits.term c.in-Waits.args
          c.in_ok-held.ensures.goes_on.kept (subst (λ (m : Made). TellsMade k c.make.new.self.store f.reached.env f.reached.replied b.row m events)
          c.in-Waits.is made),
    )
