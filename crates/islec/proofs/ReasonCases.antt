-- Worked cases: what is told of faults with their reasons and without, and of a depth that is used up.
use Rattle.std.proofs.Common.{arith, ◌≡◌, ◌∙◌, ◌++◌, ◌∷◌, [], ℕ, zero, suc, ◌<◌, List, true, false, inl, inr, refl, ap, subst, append-nil, codes}
use Rattle.std.proofs.lemmas.Fmt.{decimal_digit}
use Rattle.isle_syntax.specs.Errors.{Report, error_text, report_text}
use Rattle.isle_ast.specs.Positions.Files.{SourceFile}
use Rattle.isle_ast.specs.declared.error.Error.{Error}
use Rattle.isle_calls.specs.declared.answer.Answer.TheVariants.{None as NoAnswer, Spent}
use Rattle.isle_program.specs.declared.program.Program.{Program}
use Rattle.isle_values.specs.declared.worlds.reading.WorldFault.{WorldFault}
use Rattle.islec.specs.Reasons.{AreOnOneLine, IsReason, ReportsFaults, ExplainEach, no_faults, more_faults, TellsFault, depth_line}
use Rattle.islec.specs.Worlds.{world_fault_line}
use Rattle.islec.specs.declared.answer.Manner.{Manner}

-- without reasons the report, and nothing else
only_the_report : (report : Report) (text : List ℕ) → ReportsFaults false report text → text ≡ report_text report
only_the_report report text is = is

-- with reasons nothing of no fault, and of one its own text first
nothing_of_none : (files : List SourceFile) (text : List ℕ) → ReportsFaults true (record { errors = []; files = files }) text → text ≡ []
nothing_of_none files _ no_faults = refl

one_is_told : (files : List SourceFile) (fault : Error) (text : List ℕ) → ReportsFaults true (record { errors = fault ∷ []; files = files }) text
    → (told : List ℕ) × IsReason true told × (text ≡ error_text files fault ++ told)
one_is_told files fault _ (more_faults {line = line} is no_faults) = (is.told, is.reason, append-nil line ∙ is.is)

-- words on one line, and words on two, which are none
pub no_is_a_line : AreOnOneLine (codes "no")
no_is_a_line zero low = λ e. let is : 110 ≡ 10 = e in absurd (omega (arith, is))
no_is_a_line (suc zero) low = λ e. let is : 111 ≡ 10 = e in absurd (omega (arith, is))
no_is_a_line (suc (suc i)) low = let past : suc (suc i) < 2 = low in absurd (omega (arith, past))

two_lines_are_no_line : ¬ AreOnOneLine (codes "no\nyes")
two_lines_are_no_line is = is 2 (omega arith) refl

may_have_words : (files : List SourceFile) (fault : Error)
    → ReportsFaults true (record { errors = fault ∷ []; files = files }) (error_text files fault ++ codes "  no\n")
may_have_words files fault = subst (ExplainEach files (fault ∷ [])) (append-nil (error_text files fault ++ codes "  no\n"))
    (more_faults (record { told = codes "  no\n"; reason = inr (refl, (codes "no", no_is_a_line, refl)); is = refl }) no_faults)

-- of a refused world its line alone where reasons aren't asked for, and words below it only behind two spaces
world_has_no_reason : (program : Program) (file : SourceFile) (fault : WorldFault) (line : List ℕ) → TellsFault false program file fault line
    → line ≡ world_fault_line program file fault
world_has_no_reason program file fault line (told, inl none, is) =
    is ∙ ap (λ (rest : List ℕ). world_fault_line program file fault ++ rest) none ∙ append-nil (world_fault_line program file fault)
world_has_no_reason program file fault line (told, inr (asked, words), is) = absurd cc

world_has_words : (program : Program) (file : SourceFile) (fault : WorldFault)
    → TellsFault true program file fault (world_fault_line program file fault ++ codes "  no\n")
world_has_words program file fault = (codes "  no\n", inr (refl, (codes "no", no_is_a_line, refl)), refl)

-- a manner with the depth 3 in which reasons are asked for, and one in which they aren't
abbrev asked : Manner
asked = record { depth = 3; plain = false; steps = false; trace = false; coverage = false; unanswered = false; explain = true }

abbrev unasked : Manner
unasked = record { depth = 3; plain = false; steps = false; trace = false; coverage = false; unanswered = false; explain = false }

depth_is_told : depth_line asked Spent ≡ codes "  --depth is 3: so many calls may be open at once\n"
depth_is_told = ap (λ (digits : List ℕ). codes "  --depth is " ++ (digits ++ codes ": so many calls may be open at once\n"))
    (decimal_digit 3 (omega arith))

depth_is_not_told : depth_line unasked Spent ≡ []
depth_is_not_told = refl

no_answer_has_no_depth : depth_line asked NoAnswer ≡ []
no_answer_has_no_depth = refl
