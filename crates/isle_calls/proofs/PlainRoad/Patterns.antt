-- What typed patterns show.
pub mod Forms
-- How patterns are read on the numbers of values.
pub mod Numbers
-- What reading a pattern tells.
pub mod Reads
-- Lists of patterns that are read one after another.
pub mod Lists
