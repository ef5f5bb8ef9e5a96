-- The text of each fault of a query.
use Rattle.std.specs.Prelude.{ℕ, List, ◌++◌, codes, decimal}
use Rattle.tb_query.specs.declared.fault.QueryFault.{QueryFault}
use Rattle.tb_query.specs.declared.fault.QueryFault.TheVariants.{TooLong, Syntax, TooMany, TooDeep, Repeat, Pattern}
use Rattle.tb_query.specs.declared.fault.QueryFault.TheVariants.{Memory}

abbrev pub fault_text : QueryFault → List ℕ
fault_text TooLong = codes "longer than 2,000 bytes"
fault_text (Syntax byte) = codes "outside the grammar at byte " ++ decimal byte
fault_text TooMany = codes "more than 32 token expressions"
fault_text TooDeep = codes "more than 16 round parentheses open at one place"
fault_text Repeat = codes "a repetition with a number that is too large or too small"
fault_text (Pattern literal) = codes "literal " ++ decimal literal ++ codes " is no pattern"
fault_text Memory = codes "out of memory, or a pattern is too large"
