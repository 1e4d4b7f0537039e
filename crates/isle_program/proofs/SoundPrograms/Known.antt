-- What is known of each program: its rules and data are sound.
use Rattle.std.proofs.Common.{ℕ, true, false}
use Rattle.isle_types.specs.TypeTables.{TypeTables}
use Rattle.isle_rules.specs.Shown.TermTables.{TermTables}
use Rattle.isle_meaning.specs.Inside.Variables.{var_type}
use Rattle.isle_meaning.proofs.SoundPrograms.Stable.{same_truth, same_text, rule_typed_told, sound_rule_told, sound_data_told}
use Rattle.isle_program.specs.declared.program.Program.{Program}
use Rattle.isle_program.specs.Programs.{types_of, terms_of}
use Rattle.isle_program.specs.Facts.Reach.{IsRunnable, is_root, is_hindered}
use Rattle.isle_program.specs.Laws.Terms.{term_facts}
use Rattle.isle_program.specs.Tables.{checked_by, variant_name, struct_name}
use Rattle.isle_program.specs.Inside.SoundTables.{AreSound}
use Rattle.isle_program.specs.Tables.{IsDataNamed}
use Rattle.isle_program.specs.Inside.Sound.{IsSoundProgram}

module _ (tyenv : TypeTables) (env : TermTables) (known : ∥ AreSound tyenv env ∥₁) where
  -- a term that can be run can
  runnable_told : (t : ℕ) → (AreSound tyenv env → IsRunnable tyenv env t) → IsRunnable tyenv env t
  runnable_told t f = record {
    rules = same_truth (AreSound tyenv env) known (is_root env t) true (λ k. (f k).rules);
    free = same_truth (AreSound tyenv env) known (is_hindered tyenv env t) false (λ k. (f k).free);
    reached = λ to reaches. same_truth (AreSound tyenv env) known (is_hindered tyenv env to) false (λ k. (f k).reached to reaches);
  }

  -- data that is named by its type is
  named_told : IsDataNamed tyenv env
  named_told = record {
    variants = λ name v ty types shaped made.
        same_text (AreSound tyenv env) known (variant_name tyenv ty v) name (λ k. k.named.variants name v ty types shaped made);
    structs = λ name ty types shaped made.
        same_text (AreSound tyenv env) known (struct_name tyenv ty) name (λ k. k.named.structs name ty types shaped made);
  }

  -- rules and data that are sound are
  sound_told : AreSound tyenv env
  sound_told = record {
    sound = record {
      rules = λ i rule at runs. sound_rule_told (AreSound tyenv env) known (checked_by tyenv env) (IsRunnable tyenv env) runnable_told rule
          (λ k. k.sound.rules i rule at runs) (λ k. k.typed i rule at runs);
      rooted = λ i rule at. same_truth (AreSound tyenv env) known (is_root env rule.root) true (λ k. k.sound.rooted i rule at);
      ruled = λ t runs. runs.rules;
      data_sound = sound_data_told (AreSound tyenv env) known (checked_by tyenv env) (variant_name tyenv) (struct_name tyenv)
          named_told.variants named_told.structs (λ k. k.sound.data_sound);
    };
    typed = λ i rule at runs.
        rule_typed_told (AreSound tyenv env) known (term_facts tyenv env) (var_type rule.variables) ((term_facts tyenv env).inputs rule.root)
        ((term_facts tyenv env).type_of rule.root) rule (λ k. k.typed i rule at runs);
    named = named_told;
  }

-- a program's rules and data are sound
pub sound_of : (program : Program) → IsSoundProgram program
sound_of program =
    let told = sound_told (types_of program) (terms_of program) program.sound in
    record { sound = told.sound; known = record { sound = told.sound.data_sound; printed = told.named } }
