-- Rows as the program finds them.
use Rattle.isle_layout.specs.declared.rows.Found.{Found}
use Rattle.isle_layout.specs.Keeping.Rows.{Rows}

-- the rows that the program has found
abbrev pub rows_seen : Found → Rows
rows_seen found = record { here = found.here; outer = found.outer.items; fits = found.fits.items }
