-- What it is to be a unified diff.
use Rattle.std.specs.Prelude.{◌≡◌, ℕ, List, [], ◌++◌, false, if◌then◌else◌}
use Rattle.std.specs.List.{list_any}
use Rattle.isle_layout.specs.Changes.Scripts.{Edit, IsScript}
use Rattle.isle_layout.specs.Changes.Hunks.{is_change, file_header, hunks, start}

-- the unified diff of a script for the file of a name; nothing where nothing changes
abbrev pub diff_text : (name : List ℕ) → List Edit → List ℕ
diff_text name script = if list_any is_change script then file_header name ++ hunks false start script else []

-- what is told is the unified diff of a script from a text to another for the file of a name
abbrev pub IsDiff : (name old new told : List ℕ) → Type 0
IsDiff name old new told = (script : List Edit) × IsScript old new script × (told ≡ diff_text name script)
