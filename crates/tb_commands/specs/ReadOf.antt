-- Between crates: no contract of a front door cites a definition of this module.
-- What a command read of a sentence.
use Rattle.std.specs.Prelude.{◌≡◌, string_bytes}
use Rattle.tb_conllu.specs.declared.fault.ReadFault.{ReadFault}
use Rattle.tb_conllu.specs.declared.fault.ReadFault.TheVariants as reading
use Rattle.tb_core.specs.declared.refusals.Fault.{Fault}
use Rattle.tb_core.specs.declared.refusals.Fault.TheVariants.{Memory, NotADesk}
use Rattle.tb_core.specs.Machine.{Machine, Sentence, batch_with, rev, words}
use Rattle.tb_commands.specs.declared.finding.SentenceRead.{SentenceRead}

-- the number, the state and the worker of its batch, whether it is pulled, and its current revision
pub record IsSentenceRead (s : Machine) (x : Sentence) (f : SentenceRead) : Type 0 where
  pub batch : f.batch ≡ x.batch
  pub state : f.state ≡ (batch_with s.batches x.batch).state
  pub worker : string_bytes f.worker ≡ (batch_with s.batches x.batch).worker
  pub pulled : f.pulled ≡ x.pulled
  pub rev : f.rev ≡ rev x
  pub words : f.words ≡ words x

-- a stored text that cannot be read is not that of a desk
abbrev pub fault_of_stored : ReadFault → Fault
fault_of_stored (reading.At line code) = NotADesk
fault_of_stored reading.Memory = Memory
