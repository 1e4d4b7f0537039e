-- What the contracts of `StableSet` and `StableMap` cite. A set is seen as its members, a map as its entries.
pub mod StableMaps
-- What the contracts of `SortedMap` cite. A map is seen as its entries, in ascending order of the keys.
pub mod SortedMaps
-- What the contracts of `SortedSet` cite. A set is seen as its members, in the order in which they came.
pub mod SortedSets
-- Lists of sets that share no member. Each set is the list of its members, its representative first.
pub mod JoinedSets
-- Tables that have the representative of each member as its value.
pub mod JoinedTables
