-- What typed rules and terms show stays as it is when more names are interned.
pub mod ShownMore
-- Where definitions and types stand, the faults of typing do.
pub mod TypingPlaces
-- What typed rules show stays under more names.
pub mod RulesShown
-- Tables show the same when names are interned.
pub mod MoreNames
