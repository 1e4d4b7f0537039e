-- Items by their places.
pub mod Lists
-- The number of binary digits: what it bounds, and how it falls when a number is halved.
pub mod BinaryDigits
-- A search by halves among keys that ascend strictly.
pub mod Searches
-- The entries at places in range: how many, and which stands where.
pub mod SortedPlaces
-- The members of a set by their order: what a search found, and one more member.
pub mod OrderedMembers
-- Entries of a map in an order that is level exactly at the same.
pub mod LevelEntries
-- What a search found, and what an edit at its place does to the entries in order.
pub mod SortedEdits
-- Pairs put into a map in turn, as look-ups from the last one back.
pub mod LaterPairs
-- A table copied entry by entry, in any order.
pub mod CopiedTables
-- What a rooted table says of the sets that it stands for.
pub mod RootedTables
-- The members of a rooted table's sets are its keys.
pub mod TableMembers
-- How the representatives change where two sets are joined and where one is removed.
pub mod JoinedRoots
-- The table after a merge: x and y are entered, and the representative of y gives way to that of x.
pub mod MergedTables
-- The table after the set of x is removed.
pub mod RemovedTables
-- Worked cases.
pub mod Cases
