-- What calls of compiled programs mean.
-- Calls of compiled programs have one meaning.
pub mod Compiled
-- Inhabited types have values.
pub mod Inhabiting
-- Programs whose terms don't reach themselves.
pub mod Acyclic
-- Compiled programs are sound.
pub mod Sound
