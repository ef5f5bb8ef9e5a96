-- What the program says on standard error, beside the answer.
use Rattle.std.specs.Prelude.{◌≡◌, ◌++◌, ℕ, List, codes, string_bytes}
use Rattle.std.specs.Prelude.{Option, None, Some, IsSomeAnd, ⊤}
use Rattle.std.specs.Option.{option_map}
use Rattle.tb_host.specs.declared.causes.Cause.{Cause}
use Rattle.tb_host.specs.declared.causes.Cause.TheVariants as cause
use Rattle.tb_host.specs.declared.diagnostics.Diagnostic.{Diagnostic}
use Rattle.tb_host.specs.Sentences.{cause_text}

-- this cause is reported
abbrev pub IsReported : Option Diagnostic → Cause → Type 0
IsReported reported c = IsSomeAnd reported (λ d. d.cause ≡ c)

-- this is reported: a cause, or none
abbrev pub IsTold : Option Diagnostic → Option Cause → Type 0
IsTold reported (Some c) = IsReported reported c
IsTold reported None = reported ≡ None

-- a cause that explains an answer of the desk or the check
abbrev pub IsOfAnswer : Cause → Type 0
IsOfAnswer (cause.Words words) = ⊤
IsOfAnswer _ = ⊥

-- The text of a cause. The words for an answer have texts of their own.
abbrev pub output_of_cause : Cause → Option (List ℕ)
output_of_cause (cause.Words words) = None
output_of_cause (cause.NoCommand program) =
    Some (codes "no command is given; `" ++ program.now ++ codes " --help` lists them")
output_of_cause c = Some (cause_text c)

-- a text after its place, where there is one
abbrev pub after_place : (place : Option (List ℕ)) → (text : Option (List ℕ)) → Option (List ℕ)
after_place None text = text
after_place (Some place) text = option_map (λ t. place ++ codes ": " ++ t) text

-- the text of a diagnostic, which begins with its place
abbrev pub output_of_diagnostic : Diagnostic → Option (List ℕ)
output_of_diagnostic d = after_place (option_map string_bytes d.place) (output_of_cause d.cause)
