-- Between crates: no contract of a front door cites a definition of this module.
-- The faults of the language as those of a query.
use Rattle.tb_syntax.specs.declared.fault.Fault.{Fault}
use Rattle.tb_syntax.specs.declared.fault.Fault.TheVariants.{TooLong, Syntax, TooMany, TooDeep, Repeat, Memory}
use Rattle.tb_query.specs.declared.fault.QueryFault.{QueryFault}
use Rattle.tb_query.specs.declared.fault.QueryFault.TheVariants as reported

abbrev pub query_fault : Fault → QueryFault
query_fault TooLong = reported.TooLong
query_fault (Syntax b) = reported.Syntax b
query_fault TooMany = reported.TooMany
query_fault TooDeep = reported.TooDeep
query_fault Repeat = reported.Repeat
query_fault Memory = reported.Memory
