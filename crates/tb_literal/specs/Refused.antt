-- Inner: no contract beyond this crate cites a definition of this module.
-- Why a text is no pattern, by regex's errors.
use Rattle.regex.specs.declared.error.Error.{Error}
use Rattle.regex.specs.declared.error.Error.TheVariants as regex
use Rattle.tb_literal.specs.declared.pattern.PatternFault.{PatternFault}
use Rattle.tb_literal.specs.declared.pattern.PatternFault.TheVariants.{Syntax, Memory}

-- the text is outside the grammar; else memory ran out, or the compiled pattern is too large
abbrev pub fault_of_error : Error → PatternFault
fault_of_error (regex.Syntax e) = Syntax
fault_of_error _ = Memory
