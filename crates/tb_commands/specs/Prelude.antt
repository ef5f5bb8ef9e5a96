-- Names of other crates that contracts here cite, each with its module.
pub use Rattle.sqlite.specs.Held.{state}
pub use Rattle.sqlite.specs.State.{HasCleanDisk, Survives}
pub use Rattle.sqlite_trees.specs.Tree.{IsAscending}
pub use Rattle.tb_conllu.specs.Text.{BlockText, text_of}
pub use Rattle.tb_core.specs.Acts.{after, correcting, IsAllowed, stepping, with_worker}
pub use Rattle.tb_core.specs.Commands.{Answer, correct as correct_it, event_on, moved_on, pull as pull_it, pulled_out}
pub use Rattle.tb_core.specs.Commands.{refused as refused_by, replied, reply_to, restore as restore_it, restored_to}
pub use Rattle.tb_core.specs.Events.{makes_worker}
pub use Rattle.tb_core.specs.Found.{FindsBatch, FindsSentence, LacksSentence}
pub use Rattle.tb_core.specs.Machine.{at_work, Batch, Machine, one, Sentence, weigh, words}
pub use Rattle.tb_core.specs.Parts.{IsNamedCorrection}
pub use Rattle.tb_core.specs.Reaching.{IsReachable, Reached}
pub use Rattle.tb_core.specs.Steps.{Steps}
pub use Rattle.tb_core.specs.declared.kinds.Event.{Event as AnyEvent}
pub use Rattle.tb_core.specs.declared.kinds.State.{State as AnyState}
pub use Rattle.tb_core.specs.declared.kinds.Worker.{Worker as AnyWorker}
pub use Rattle.tb_core.specs.declared.limits.Limits.{Limits as AnyLimits}
pub use Rattle.tb_core.specs.declared.refusals.Refusal.{Refusal as AnyRefusal}
pub use Rattle.tb_tables.specs.Changes.{HasRevisionRowids, Holds}
pub use Rattle.tb_tables.specs.Failing.{IsShort}
pub use Rattle.tb_tables.specs.Leaving.{FailsOnlyAs, IsFaultless, KeepsRecordsOnErr}
pub use Rattle.tb_tables.specs.Records.{AreStored}
pub use Rattle.tb_reads.specs.ReadOnly.{IsReadOnly}
pub use Rattle.tb_refine.specs.Calls.{BlamesNoDevice, CrashesTo, KnowsDeskWhere, RefusesAs, Tells, TellsOnOk}
pub use Rattle.tb_refine.specs.Counted.{IsCounted, IsPrepared, IsWithin}
pub use Rattle.tb_refine.specs.DeskTables.{IsDeskOf, tables_of}
pub use Rattle.tb_refine.specs.Faults.{IsNoDevice}
pub use Rattle.tb_refine.specs.Numbers.{state_number}
pub use Rattle.tb_refine.specs.DeskReads.{IsRead, IsReadWhere}
pub use Rattle.tb_refine.specs.Recorded.{IsWritten}
pub use Rattle.tb_refine.specs.Room.{HasRoomIfWritten}
