-- Names of other crates that contracts here cite, each with its module.
pub use Rattle.sqlite.specs.Given.{row_if}
pub use Rattle.sqlite.specs.Held.{state}
pub use Rattle.sqlite.specs.Order.{column, Row as Columns}
pub use Rattle.sqlite.specs.State.{HasCleanDisk, Shown}
pub use Rattle.sqlite.specs.Values.{bound}
pub use Rattle.sqlite.specs.declared.error.Error.TheVariants.{SqliteFailure}
pub use Rattle.sqlite.specs.declared.error.ErrorCode.TheVariants.{OutOfMemory}
pub use Rattle.sqlite.specs.declared.types.Value.TheVariants.{Int, Text}
pub use Rattle.sqlite_trees.specs.Tree.{IsAscending}
pub use Rattle.tb_tables.specs.Failing.{IsStoreFault, IsWant}
pub use Rattle.tb_tables.specs.Layout.{desk_schema}
pub use Rattle.tb_tables.specs.Leaving.{FailsOnlyAs, IsFaultless, Reads}
pub use Rattle.tb_tables.specs.Records.{Batch, batch_shown, batch_view, meta_view, Move, move_shown, move_view}
pub use Rattle.tb_tables.specs.Records.{number_shown, number_view, numbered, Revision, revision_shown, revision_view}
pub use Rattle.tb_tables.specs.Records.{Sentence, sentence_shown, sentence_view, Shows, Total, total_shown, total_view}
pub use Rattle.tb_tables.specs.Values.{batch_of, move_of, revision_of, sentence_of, total_of}
