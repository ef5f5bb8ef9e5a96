-- Between crates: no contract of a front door cites a definition of this module.
-- Why a text that cannot be read, or that breaks a rule, is unfit. Want of memory says nothing of the text.
use Rattle.tb_conllu.specs.declared.fault.ReadFault.{ReadFault}
use Rattle.tb_conllu.specs.declared.fault.ReadFault.TheVariants as reading
use Rattle.tb_rules.specs.declared.fault.RuleFault.{RuleFault}
use Rattle.tb_rules.specs.declared.fault.RuleFault.TheVariants as rules
use Rattle.tb_core.specs.declared.refusals.Fault.{Fault}
use Rattle.tb_core.specs.declared.refusals.Fault.TheVariants as faults
use Rattle.tb_reads.specs.declared.error.ReadError.{ReadError}
use Rattle.tb_reads.specs.declared.error.ReadError.TheVariants.{Store, Form}
use Rattle.tb_refine.specs.Faults.{fault_of_making}
use Rattle.tb_verify.specs.declared.unfit.Unfit.{Unfit}
use Rattle.tb_verify.specs.declared.unfit.Unfit.TheVariants.{NotADesk, Memory}

abbrev pub unfit_of_reading : ReadFault → Unfit
unfit_of_reading (reading.At line code) = NotADesk
unfit_of_reading reading.Memory = Memory

abbrev pub unfit_of_rules : RuleFault → Unfit
unfit_of_rules (rules.At rule row) = NotADesk
unfit_of_rules rules.Memory = Memory

-- The fault of an error while a file is verified. Rows of no records are not a desk's, and every other error but want
-- of memory is the store's.
abbrev pub fault_of_rows : ReadError → Fault
fault_of_rows (Store error) = fault_of_making error
fault_of_rows Form = faults.NotADesk

abbrev pub fault_of_unfit : Unfit → Fault
fault_of_unfit NotADesk = faults.NotADesk
fault_of_unfit Memory = faults.Memory
