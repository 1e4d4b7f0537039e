use Rattle.isle_types.proofs.ShownTypes.{shows_with_names}
use Rattle.isle_types.proofs.env.TypeEnv.intern_mut.Goals as goal

pub returns-clause-shown : goal.returns-clause-shown
returns-clause-shown c = λ e. shows_with_names c.args.self.now c.intern_str.new.self e c.intern_str.ensures.same
