-- Names of definitions, each with the position at which a fault of it is reported.
use Rattle.std.specs.Prelude.{ℕ, List, Option}
use Rattle.std.specs.Borrow.{Bor}
use Rattle.std.specs.Option.{option_map}
use Rattle.isle_ast.specs.declared.ast.Ident.{Ident}
use Rattle.isle_ast.specs.declared.ast.Decl.{Decl as DeclTree}
use Rattle.isle_ast.specs.declared.ast.Extractor.{Extractor as ExtractorTree}
use Rattle.isle_ast.specs.declared.pos.Pos.{Pos}
use Rattle.isle_terms.specs.declared.env.definitions.HostConstructor.{HostConstructor}
use Rattle.isle_terms.specs.declared.env.definitions.HostExtractor.{HostExtractor}
use Rattle.isle_terms.specs.declared.env.naming.Named.{Named}
use Rattle.isle_rules.specs.Signatures.{Signature}

-- a name and its position
abbrev pub named_shown : Named → List ℕ × Pos
named_shown named = (named.name.now, named.pos)

-- the name of a declaration
abbrev pub named_declaration : DeclTree → List ℕ × Pos
named_declaration decl = (decl.term.0, decl.pos)

-- the name of an internal extractor's term
abbrev pub named_extractor : ExtractorTree → List ℕ × Pos
named_extractor extractor = (extractor.term.0, extractor.pos)

-- the name of the term of a host's constructor
abbrev pub named_host_constructor : HostConstructor → List ℕ × Pos
named_host_constructor host = (host.term.now.0, host.term.now.1)

-- the name of the term of a host's extractor
abbrev pub named_host_extractor : HostExtractor → List ℕ × Pos
named_host_extractor host = (host.term.now.0, host.pos)

-- the name of a term
abbrev pub named_term : Signature → List ℕ × Pos
named_term term = (term.name, term.pos)

-- the name of what may have one
abbrev pub name_shown : Option (Bor Ident) → Option (List ℕ)
name_shown name = option_map (λ (own : Bor Ident). own.now.0) name
