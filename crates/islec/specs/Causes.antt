-- Why a file can't be read or written, in words.
use Rattle.std.specs.Prelude.{ℕ, ◌+◌, ◌++◌, List, codes, decimal}
use Rattle.std.specs.declared.io.ErrorKind.{ErrorKind}
use Rattle.std.specs.declared.io.ErrorKind.TheVariants as kind
use Rattle.islec.specs.declared.cause.Cause.{Cause}
use Rattle.islec.specs.declared.cause.Cause.TheVariants.{NotUtf8, Fails}

-- the kind of an error in words, as far as files are concerned
abbrev pub kind_text : ErrorKind → List ℕ
kind_text kind.NotFound = codes "not found"
kind_text kind.PermissionDenied = codes "permission denied"
kind_text kind.IsADirectory = codes "a directory"
kind_text kind.NotADirectory = codes "below a file"
kind_text kind.FilesystemLoop = codes "too many links"
kind_text kind.InvalidFilename = codes "too long a name"
kind_text kind.InvalidInput = codes "no name of a file"
kind_text kind.ConnectionReset = codes "connection reset"
kind_text kind.TimedOut = codes "timed out"
kind_text kind.ResourceBusy = codes "busy"
kind_text _ = codes "an error of reading"

-- a cause in words: bytes count from 1
abbrev pub cause_text : Cause → List ℕ
cause_text (NotUtf8 at) = codes "not UTF-8 at byte " ++ decimal (at + 1)
cause_text (Fails of_kind) = kind_text of_kind

-- the kind of an error in words, as far as files that are written are concerned
abbrev pub written_kind_text : ErrorKind → List ℕ
written_kind_text kind.NotFound = codes "not found"
written_kind_text kind.PermissionDenied = codes "permission denied"
written_kind_text kind.AlreadyExists = codes "a file of this name and .islec-new is there"
written_kind_text kind.StorageFull = codes "no space"
written_kind_text kind.FileTooLarge = codes "too large"
written_kind_text kind.QuotaExceeded = codes "no space for this user"
written_kind_text kind.ReadOnlyFilesystem = codes "where nothing may be written"
written_kind_text kind.InvalidFilename = codes "too long a name"
written_kind_text _ = codes "an error of writing"

-- a line of two parts
abbrev pub line_of_two : List ℕ → List ℕ → List ℕ
line_of_two first second = first ++ (second ++ codes "\n")

-- the line that tells which file can't be read, and the one that tells why
abbrev pub unread_lines : (name cause : List ℕ) → List ℕ
unread_lines name cause = line_of_two (codes "cannot read ") name ++ line_of_two (codes "  ") cause

-- the line that tells which file can't be written, and the one that tells why
abbrev pub unwritten_lines : (name : List ℕ) → ErrorKind → List ℕ
unwritten_lines name of_kind = line_of_two (codes "cannot write ") name ++ line_of_two (codes "  ") (written_kind_text of_kind)
