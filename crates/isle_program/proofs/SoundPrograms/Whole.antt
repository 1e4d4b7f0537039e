-- Tables that show what the definitions of files make are sound.
use Rattle.std.proofs.Common.{List}
use Rattle.isle_ast.specs.Positions.Files.{SourceFile}
use Rattle.isle_types.specs.TypeTables.{TypeTables}
use Rattle.isle_rules.specs.Definitions.{declared_by, rules_in}
use Rattle.isle_rules.specs.Shown.TermTables.{TermTables}
use Rattle.isle_meaning.proofs.Matching.MadeFields.{made_terms_take_their_fields}
use Rattle.isle_program.specs.Compiled.{max_levels, max_nodes}
use Rattle.isle_program.specs.Inside.SoundTables.{AreSound}
use Rattle.isle_program.specs.ShownFiles.{ShowFiles}
use Rattle.isle_program.proofs.SoundPrograms.NamedData.{named_data, sound_data}
use Rattle.isle_program.proofs.SoundPrograms.FittingTexts.{spelt_rules_fit}
use Rattle.isle_program.proofs.SoundPrograms.FittingRules.{typed_rules_fit}
use Rattle.isle_program.proofs.SoundPrograms.Runnable.{rules_sound, rules_rooted, typed_at_places}

-- tables that show what the definitions of files make are sound
pub tables_are_sound : (files : List SourceFile) (tyenv : TypeTables) (env : TermTables) → ShowFiles files tyenv env → AreSound tyenv env
tables_are_sound files tyenv env is =
    let declared = declared_by is.types env.expands is.terms.environment in
    let takes = made_terms_take_their_fields is.types env.expands max_levels max_nodes is.defs is.terms.environment is.terms.makes in
    let trees = spelt_rules_fit files is.defs is.spelt in
    record {
      sound = record {
        rules = rules_sound tyenv env is.defs is.types is.made max_levels max_nodes is.terms
            (typed_rules_fit declared is.defs max_levels max_nodes (rules_in is.defs) is.terms.environment.rules is.terms.makes.rules trees);
        rooted = rules_rooted tyenv env is.defs is.types is.made max_levels max_nodes is.terms;
        ruled = λ t runs. runs.rules;
        data_sound = sound_data tyenv env is.defs declared is.terms.declared is.terms.makes.terms takes;
      };
      typed = typed_at_places tyenv env is.defs is.types is.made max_levels max_nodes is.terms;
      named = named_data tyenv env is.defs declared is.terms.declared is.terms.makes.terms takes;
    }
