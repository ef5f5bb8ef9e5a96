-- Between crates: no contract of a front door cites a definition of this module.
-- The text of each fault of a pattern.
use Rattle.std.specs.Prelude.{ℕ, List, codes}
use Rattle.tb_literal.specs.declared.pattern.PatternFault.{PatternFault}
use Rattle.tb_literal.specs.declared.pattern.PatternFault.TheVariants.{Syntax, Memory}

abbrev pub fault_text : PatternFault → List ℕ
fault_text Syntax = codes "the literal is no pattern"
fault_text Memory = codes "out of memory, or the pattern is too large"
