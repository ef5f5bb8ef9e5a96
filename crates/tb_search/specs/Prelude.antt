-- Names of other crates that contracts here cite, each with its module.
pub use Rattle.std.specs.Io.KnownBytes.{Appends}
pub use Rattle.sqlite.specs.declared.error.Error.TheVariants.{SqliteFailure}
pub use Rattle.sqlite.specs.declared.error.ErrorCode.TheVariants.{OutOfMemory}
pub use Rattle.sqlite.specs.Held.{state}
pub use Rattle.sqlite.specs.State.{HasCleanDisk}
pub use Rattle.sqlite_trees.specs.Tree.{IsAscending}
pub use Rattle.tb_conllu.specs.Reported.{IsFile}
pub use Rattle.tb_conllu.specs.Sunk.{AppendsPart}
pub use Rattle.tb_conllu.specs.Text.{BlockText}
pub use Rattle.tb_conllu.specs.Words.{words_of}
pub use Rattle.tb_rules.specs.Comments.{only, sent_ids}
pub use Rattle.tb_match.specs.declared.strategy.Strategy.{Strategy as AnyStrategy}
pub use Rattle.tb_query.specs.Search.{AreHitsIn, Asked}
pub use Rattle.tb_prefilter.specs.Prefiltered.{HasNeedles}
pub use Rattle.tb_core.specs.Events.{is_state}
pub use Rattle.tb_core.specs.Machine.{Batch, batch_with, sent_id_of, Sentence}
pub use Rattle.tb_core.specs.Rows.{pulled_from}
pub use Rattle.tb_core.specs.declared.kinds.State.{State as AnyState}
pub use Rattle.tb_tables.specs.Layout.{desk_schema}
pub use Rattle.tb_tables.specs.Records.{Revision, revision_shown, revision_view, Shows}
pub use Rattle.tb_tables.specs.Values.{batch_of}
pub use Rattle.tb_reads.specs.declared.error.ReadError.TheVariants.{Store}
pub use Rattle.tb_reads.specs.ReadOnly.{IsReadOnly}
pub use Rattle.tb_reads.specs.Readable.{ComesBefore, IsRevision}
pub use Rattle.tb_reads.specs.Streams.{head_of}
pub use Rattle.tb_refine.specs.Calls.{Tells, TellsOnErr, TellsOnOk}
pub use Rattle.tb_refine.specs.DeskTables.{batch_record, sentence_record}
pub use Rattle.tb_report.specs.Keywords.{key_of, keyword_line}
pub use Rattle.tb_report.specs.Tables.{count_in, IsTableOf, total_of}
