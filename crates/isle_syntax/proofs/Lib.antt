-- parse errors and size errors, and what is known of their spans
pub mod ErrorKinds
-- lemmas on trees that are spelt
pub mod Trees
-- lemmas on texts and their tokens
pub mod Tokens
-- when reading follows a grammar, and the combinators that keep it so
pub mod Reading
-- reading follows the grammar, production by production, up to a whole text
pub mod Productions
-- lemmas on the positions of what is spelt, and on what is printed of them
pub mod Positions
