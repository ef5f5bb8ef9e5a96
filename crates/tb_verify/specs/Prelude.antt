-- Names of other crates that contracts here cite, each with its module.
pub use Rattle.std.specs.List.{AllByRecursion, list_all}
pub use Rattle.sqlite.specs.Held.{state}
pub use Rattle.sqlite.specs.State.{HasCleanDisk, IsUnchanged, Survives}
pub use Rattle.tb_conllu.specs.Text.{BlockText}
pub use Rattle.tb_conllu.specs.Words.{words_of}
pub use Rattle.tb_core.specs.Keeping.{IsFine}
pub use Rattle.tb_core.specs.Machine.{Batch, IsLawful, Machine, sent_id_of, Sentence, text_value_of}
pub use Rattle.tb_core.specs.Moves.{MoveText}
pub use Rattle.tb_core.specs.Names.{AreApart, is_name}
pub use Rattle.tb_core.specs.Reaching.{IsReachable}
pub use Rattle.tb_core.specs.Totals.{AreTotalsOf}
pub use Rattle.tb_core.specs.declared.refusals.Fault.{Fault as AnyFault}
pub use Rattle.tb_core.specs.declared.refusals.Refusal.{Refusal as AnyRefusal}
pub use Rattle.tb_replay.specs.Fine.{AreFine}
pub use Rattle.tb_replay.specs.Summaries.{entries_of, entry_of}
pub use Rattle.tb_tables.specs.Changes.{Holds, IsInside}
pub use Rattle.tb_tables.specs.Failing.{AreUnique, HasMetaRowids, IsDiskFaultOrWant, IsWant, NeedsNoFault}
pub use Rattle.tb_tables.specs.Layout.{ListsDesk}
pub use Rattle.tb_tables.specs.Leaving.{BlamesNoDisk, KeepsCommitted, KeepsRecords}
pub use Rattle.tb_tables.specs.Records.{AreStored, batch_shown, batch_view, meta_view, move_shown, move_view}
pub use Rattle.tb_tables.specs.Records.{number_shown, number_view, numbered, Revision, revision_shown, revision_view}
pub use Rattle.tb_tables.specs.Records.{sentence_shown, sentence_view, Shows, Tables, total_shown, total_view}
pub use Rattle.tb_tables.specs.Values.{batch_of, move_of, revision_of, sentence_of, total_of}
pub use Rattle.tb_tables.specs.declared.rows.MoveRow.{MoveRow as AnyMoveRow}
pub use Rattle.tb_reads.specs.Failing.{IsReadWant}
pub use Rattle.tb_refine.specs.DeskTables.{batch_record, IsDeskOf, move_record, sentence_record, six_states, tables_of}
pub use Rattle.tb_refine.specs.DeskTables.{total_record}
pub use Rattle.tb_refine.specs.Faults.{fault_of_making, IsNoDevice, reported_by}
pub use Rattle.tb_refine.specs.Numbered.{AreNumbered}
