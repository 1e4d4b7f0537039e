-- lists in trees
pub mod text
-- boxed and shared values in trees
pub mod links
