-- Names of other crates that contracts here cite, each with its module.
pub use Rattle.std.specs.List.{AllByRecursion}
pub use Rattle.sqlite.specs.Held.{state}
pub use Rattle.sqlite.specs.State.{HasCleanDisk, Survives}
pub use Rattle.tb_conllu.specs.Text.{BlockText, text_of}
pub use Rattle.tb_conllu.specs.Words.{words_of}
pub use Rattle.tb_core.specs.Acts.{after, importing, IsAllowed}
pub use Rattle.tb_core.specs.Commands.{Answer, HasBatch, import_file, imported, refused as refused_by, replied}
pub use Rattle.tb_core.specs.Commands.{reply_to}
pub use Rattle.tb_core.specs.Found.{FindsId, FindsName}
pub use Rattle.tb_core.specs.Machine.{Batch, Machine}
pub use Rattle.tb_core.specs.Parts.{IsNamedImport, IsTakenImport}
pub use Rattle.tb_core.specs.Reaching.{IsReachable, Reached}
pub use Rattle.tb_core.specs.Steps.{Steps}
pub use Rattle.tb_core.specs.Taking.{IsBody, NewSentenceText, taken_of}
pub use Rattle.tb_core.specs.Tests.{first_bodies, import_reply}
pub use Rattle.tb_core.specs.Totals.{AreTotalsOf}
pub use Rattle.tb_core.specs.declared.refusals.Refusal.{Refusal as AnyRefusal}
pub use Rattle.tb_tables.specs.Changes.{HasRevisionRowids}
pub use Rattle.tb_tables.specs.Failing.{IsShort}
pub use Rattle.tb_tables.specs.Leaving.{FailsOnlyAs, IsFaultless, KeepsRecordsOnErr}
pub use Rattle.tb_tables.specs.Records.{AreStored}
pub use Rattle.tb_reads.specs.Found.{work_of}
pub use Rattle.tb_refine.specs.Calls.{BlamesNoDevice, CrashesTo, KnowsDesk, KnowsDeskWhere, RefusesAs, Tells}
pub use Rattle.tb_refine.specs.Counted.{IsPrepared, IsWithin}
pub use Rattle.tb_refine.specs.DeskTables.{IsDeskOf, sentence_record, tables_of}
pub use Rattle.tb_refine.specs.Faults.{IsNoDevice}
pub use Rattle.tb_refine.specs.Recorded.{IsWritten}
pub use Rattle.tb_refine.specs.Room.{HasRoomIfWritten}
