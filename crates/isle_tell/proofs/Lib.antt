-- What is printed of rule sets and trees, piece by piece.
pub mod TreeTexts
-- Worked cases.
pub mod Cases
-- Where the parts of definitions stand that warnings are of.
pub mod WarningPlaces
