use Rattle.std.specs.Prelude.{ℕ, List, Option, take}
use Rattle.std.specs.Io.KnownBytes.{Appends}

-- a writer that held `old` holds these bytes and a beginning of the text behind them
abbrev pub AppendsBeginning : Option (List ℕ) → Option (List ℕ) → List ℕ → Type 0
AppendsBeginning old new text = (count : ℕ) × Appends old new (take count text)

-- a writer that held `old` holds these bytes and some others behind them
abbrev pub ContinuesBy : Option (List ℕ) → Option (List ℕ) → Type 0
ContinuesBy old new = (more : List ℕ) × Appends old new more
