-- How S-expressions are laid out.
use Rattle.std.specs.Prelude.{ℕ, ◌+◌, Bool, true, false, ◌||◌, if◌then◌else◌, nat_le, Option, Some, None, List, [], ◌∷◌, ◌++◌, replicate, codes}
use Rattle.std.specs.List.{join_by}
use Rattle.std.specs.Fmt.{char_count}
use Rattle.isle_layout.specs.SExprTree.{SExprTree, SExprTrees, sexpr_atom, sexpr_binding, sexpr_list, no_sexprs, more_sexprs}

-- texts in a row, with one of their own between each two
abbrev pub joined : List ℕ → List (List ℕ) → List ℕ
joined separator texts = join_by (λ text. text) separator texts

-- a new line that begins with so many spaces
abbrev pub line : ℕ → List ℕ
line spaces = codes "\n" ++ replicate spaces 32

-- an S-expression on one line: a list's items with one space between
abbrev mutual
  pub one_line : SExprTree → List ℕ
  one_line (sexpr_atom text) = text
  one_line (sexpr_binding name below) = (name ++ codes " @ ") ++ one_line below
  one_line (sexpr_list items) = (codes "(" ++ joined (codes " ") (one_lines items)) ++ codes ")"

  -- each of some S-expressions on one line
  pub one_lines : SExprTrees → List (List ℕ)
  one_lines no_sexprs = []
  one_lines (more_sexprs first others) = one_line first ∷ one_lines others

-- how many characters an S-expression has on one line
abbrev pub one_line_length : SExprTree → ℕ
one_line_length t = char_count (one_line t)

-- there are fewer than two
abbrev pub are_few : SExprTrees → Bool
are_few no_sexprs = true
are_few (more_sexprs _ no_sexprs) = true
are_few (more_sexprs _ (more_sexprs _ _)) = false

-- a list of these items stays on one line: it has at most `width` characters there, or fewer than two items
abbrev pub stays_on_one_line : (width : ℕ) → SExprTrees → Bool
stays_on_one_line width items = nat_le (one_line_length (sexpr_list items)) width || are_few items

-- a list of items' texts at an indentation: each but the first stands on a line of its own after four spaces more, and
-- so does the closing parenthesis after the indentation's
abbrev pub broken : (indentation : ℕ) → List (List ℕ) → List ℕ
broken indentation items =
    ((codes "(" ++ joined (line (indentation + 4)) items) ++ line indentation) ++ codes ")"

-- an S-expression as it is printed at an indentation
abbrev mutual
  pub layout : (width indentation : ℕ) → SExprTree → List ℕ
  layout width indentation (sexpr_atom text) = text
  layout width indentation (sexpr_binding name below) =
      (name ++ codes " @ ") ++ layout width indentation below
  layout width indentation (sexpr_list items) =
      if stays_on_one_line width items then one_line (sexpr_list items) else broken indentation (layouts width (indentation + 4) items)

  -- each of some S-expressions as it is printed at an indentation
  pub layouts : (width indentation : ℕ) → SExprTrees → List (List ℕ)
  layouts width indentation no_sexprs = []
  layouts width indentation (more_sexprs first others) =
      layout width indentation first ∷ layouts width indentation others

-- for each list, before those below it, whether it stays on one line, but for the lists below one that does
abbrev mutual
  pub fits_of : (width : ℕ) → SExprTree → List Bool
  fits_of width (sexpr_atom _) = []
  fits_of width (sexpr_binding _ below) = fits_of width below
  fits_of width (sexpr_list items) =
      if stays_on_one_line width items then true ∷ [] else false ∷ fits_of_all width items

  -- the same of some S-expressions in order
  pub fits_of_all : (width : ℕ) → SExprTrees → List Bool
  fits_of_all width no_sexprs = []
  fits_of_all width (more_sexprs first others) =
      fits_of width first ++ fits_of_all width others

-- a length, where it is at most the width
abbrev pub within : (width length : ℕ) → Option ℕ
within width length = if nat_le length width then Some length else None

-- the sum of two lengths, where both are known and it is at most the width
abbrev pub sum_within : (width : ℕ) → Option ℕ → Option ℕ → Option ℕ
sum_within width None n = None
sum_within width (Some m) None = None
sum_within width (Some m) (Some n) = within width (m + n)
