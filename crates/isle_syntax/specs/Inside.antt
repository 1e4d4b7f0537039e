-- reading tokens from left to right, as the private calls of the parser do
pub mod Reading
-- refusals that say more than others
pub mod Told
