-- Names of other crates that contracts here cite, each with its module.
pub use Rattle.std.specs.Io.KnownBytes.{Appends}
pub use Rattle.sqlite.specs.Files.{over_files}
pub use Rattle.sqlite.specs.Held.{state}
pub use Rattle.sqlite.specs.State.{HasCleanDisk, IsUnchanged, Survives}
pub use Rattle.sqlite.specs.Steps.{over_memory}
pub use Rattle.sqlite_store.specs.FileStore.{view}
pub use Rattle.sqlite_trees.specs.View.{IsClean}
pub use Rattle.sqlite_wal.specs.Recovery.{Image}
pub use Rattle.tb_conllu.specs.Text.{text_of}
pub use Rattle.tb_core.specs.Commands.{correct as correct_it, corrected_to, event_on, import_file, imported, moved_on}
pub use Rattle.tb_core.specs.Commands.{pull as pull_it, pulled_out, restore as restore_it, restored_to}
pub use Rattle.tb_core.specs.Machine.{empty_machine, Machine, rev as rev_of, Revision, Sentence}
pub use Rattle.tb_core.specs.Names.{is_name}
pub use Rattle.tb_core.specs.Totals.{AreTotalsOf}
pub use Rattle.tb_core.specs.declared.refusals.Refusal.{Refusal as AnyRefusal}
pub use Rattle.tb_tables.specs.Layout.{desk_schema, version_one_schema}
pub use Rattle.tb_tables.specs.Leaving.{CommitsNothing, FailsOnlyAs, IsFaultless, KeepsRecords}
pub use Rattle.tb_tables.specs.Making.{IsBlank, no_schema}
pub use Rattle.tb_tables.specs.Records.{AreStored}
pub use Rattle.tb_tables.specs.Values.{total_of}
pub use Rattle.tb_reads.specs.ReadOnly.{IsReadOnly}
pub use Rattle.tb_refine.specs.Calls.{KnowsDesk, KnowsDeskWhere, Tells, TellsOnErr, TellsOnOk}
pub use Rattle.tb_refine.specs.Counted.{IsWithin}
pub use Rattle.tb_refine.specs.DeskTables.{IsDeskOf, tables_of}
pub use Rattle.tb_refine.specs.Faults.{IsNoDevice}
pub use Rattle.tb_refine.specs.Finding.{HasNumber}
pub use Rattle.tb_refine.specs.DeskReads.{IsRead, IsReadWhere}
pub use Rattle.tb_refine.specs.Revisions.{HasRevision}
pub use Rattle.tb_refine.specs.Room.{HasRoomIfWritten}
pub use Rattle.tb_tables.specs.Failing.{HasMetaRowids}
pub use Rattle.tb_verify.specs.Version1Desk.{IsFirstDesk}
pub use Rattle.tb_report.specs.Tables.{IsTableOf}
pub use Rattle.tb_search.specs.Released.{current_text, in_batch, IsCutShort, released}
pub use Rattle.tb_search.specs.Searched.{answer, IsSearchBrokenOff, keys, Occurrence}
pub use Rattle.tb_search.specs.Visited.{HasReason, IsFault, IsStopFault, IsStopWant}
pub use Rattle.tb_lists.specs.Batches.{batch_lines}
pub use Rattle.tb_lists.specs.Found.{IsFound}
pub use Rattle.tb_lists.specs.Revisions.{AreRevisions}
pub use Rattle.tb_lists.specs.Sentences.{AreSentences}
