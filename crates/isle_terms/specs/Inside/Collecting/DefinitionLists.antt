-- What the host provides for terms, as definitions give it.
use Rattle.std.specs.Prelude.{Option}
use Rattle.std.specs.Option.{option_and_then}
use Rattle.isle_ast.specs.declared.ast.Ident.{Ident}
use Rattle.isle_ast.specs.declared.ast.Def.{Def}
use Rattle.isle_terms.specs.declared.env.definitions.HostConstructor.{HostConstructor}
use Rattle.isle_terms.specs.declared.env.definitions.HostExtractor.{HostExtractor}
use Rattle.isle_rules.specs.Definitions.{ExternalExtractor, as_external, as_external_constructor, as_external_extractor}

-- a term and the host's function for its constructor, of a definition of one
abbrev pub constructor_in : Def → Option (Ident × Ident)
constructor_in def = option_and_then as_external_constructor (as_external def)

-- the host's extractor, of a definition of one
abbrev pub extractor_in : Def → Option ExternalExtractor
extractor_in def = option_and_then as_external_extractor (as_external def)

-- a term and the host's function for its constructor
abbrev pub host_constructor_shown : HostConstructor → Ident × Ident
host_constructor_shown host = (host.term.now, host.function.now)

-- the host's extractor of a term
abbrev pub host_extractor_shown : HostExtractor → ExternalExtractor
host_extractor_shown host = record { term = host.term.now; function = host.function.now; infallible = host.infallible; pos = host.pos }
