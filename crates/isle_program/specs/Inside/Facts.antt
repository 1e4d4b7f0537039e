-- Lists of the terms whose rules make values by a term.
pub mod Callers
-- Marks that spread over lists.
pub mod Spreading
