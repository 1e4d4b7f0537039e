use Rattle.std.specs.Prelude.{◌≡◌, ◌≢◌, alloc_error}
use Rattle.clap.specs.Words.{kind_of}
use Rattle.clap.specs.declared.error.Error.{Error}
use Rattle.clap.specs.declared.error.kind.ErrorKind.TheVariants.{OutOfMemory}
use Rattle.islec.specs.declared.line.LineFault.{LineFault}
use Rattle.islec.specs.declared.line.LineFault.TheVariants.{Usage, Memory}

-- what an error of `clap` becomes: out of memory, or a fault of usage
pub record BecomesFault (error : Error) (fault : LineFault) : Type 0 where
  pub memory : kind_of error ≡ OutOfMemory → fault ≡ Memory alloc_error
  pub usage : kind_of error ≢ OutOfMemory → fault ≡ Usage error
