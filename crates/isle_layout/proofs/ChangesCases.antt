-- What changes between some texts.
use Rattle.std.proofs.Common.{◌≡◌, [], ◌∷◌, refl, codes}
use Rattle.std.specs.Fmt.{digits}
use Rattle.isle_layout.specs.declared.changes.script.Mark.TheVariants.{Kept, Removed, Added}
use Rattle.isle_layout.specs.Changes.Lines.{lines_of}
use Rattle.isle_layout.specs.Changes.Diffs.{IsDiff}
use Rattle.isle_layout.specs.Inside.Changes.{edit_by}

-- a text's last line may have no newline
pub two_lines : lines_of (codes "ab\n\nc") ≡ codes "ab\n" ∷ codes "\n" ∷ codes "c" ∷ []
two_lines = refl

-- one line of three becomes another
pub one_changed : IsDiff (codes "n") (codes "a\nb\nc\n") (codes "a\nx\nc\n") (codes "--- n\n+++ n\n@@ -1,3 +1,3 @@\n a\n-b\n+x\n c\n")
unfolding digits
one_changed = (
  edit_by Kept (codes "a\n") ∷ edit_by Removed (codes "b\n") ∷ edit_by Added (codes "x\n") ∷ edit_by Kept (codes "c\n") ∷ [],
  record { from = refl; to = refl; ordered = refl },
  refl,
)

-- a text gets a newline at its end
pub newline_added : IsDiff (codes "n") (codes "a") (codes "a\n") (codes "--- n\n+++ n\n@@ -1 +1 @@\n-a\n\\ No newline at end of file\n+a\n")
unfolding digits
newline_added = (
  edit_by Removed (codes "a") ∷ edit_by Added (codes "a\n") ∷ [],
  record { from = refl; to = refl; ordered = refl },
  refl,
)

-- a text is written where none was
pub from_nothing : IsDiff (codes "n") [] (codes "a\n\n") (codes "--- n\n+++ n\n@@ -0,0 +1,2 @@\n+a\n+\n")
unfolding digits
from_nothing = (
  edit_by Added (codes "a\n") ∷ edit_by Added (codes "\n") ∷ [],
  record { from = refl; to = refl; ordered = refl },
  refl,
)

-- changes that seven lines part have hunks of their own
pub two_hunks : IsDiff (codes "n") (codes "a\n1\n2\n3\n4\n5\n6\n7\nb\n") (codes "1\n2\n3\n4\n5\n6\n7\n")
    (codes "--- n\n+++ n\n@@ -1,4 +1,3 @@\n-a\n 1\n 2\n 3\n@@ -6,4 +5,3 @@\n 5\n 6\n 7\n-b\n")
unfolding digits
two_hunks = (
  edit_by Removed (codes "a\n") ∷ edit_by Kept (codes "1\n") ∷ edit_by Kept (codes "2\n") ∷ edit_by Kept (codes "3\n") ∷ edit_by Kept (codes "4\n")
      ∷ edit_by Kept (codes "5\n") ∷ edit_by Kept (codes "6\n") ∷ edit_by Kept (codes "7\n") ∷ edit_by Removed (codes "b\n") ∷ [],
  record { from = refl; to = refl; ordered = refl },
  refl,
)
