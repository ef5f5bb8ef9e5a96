-- Names of other crates that contracts here cite, each with its module.
pub use Rattle.sqlite.specs.Tree.{Trees}
pub use Rattle.sqlite_trees.specs.Tree.{IsAscending}
pub use Rattle.tb_conllu.specs.Text.{BlockText, text_of}
pub use Rattle.tb_core.specs.Acts.{Act, after, correcting, ids_of, importing, IsAllowed, move_of as move_made, pulling}
pub use Rattle.tb_core.specs.Acts.{restoring, stepping}
pub use Rattle.tb_core.specs.Machine.{Batch, Machine, rev, Revision, Sentence}
pub use Rattle.tb_core.specs.Moves.{MoveText}
pub use Rattle.tb_core.specs.Names.{Lacks}
pub use Rattle.tb_core.specs.Reaching.{IsReachable, Reached}
pub use Rattle.tb_core.specs.Rows.{pulled_from}
pub use Rattle.tb_core.specs.Totals.{IsApplied, Takes}
pub use Rattle.tb_core.specs.declared.kinds.Event.{Event}
pub use Rattle.tb_core.specs.declared.kinds.Kind.{Kind as AnyKind}
pub use Rattle.tb_core.specs.declared.kinds.State.{State as AnyState}
pub use Rattle.tb_core.specs.declared.refusals.Refusal.{Refusal as AnyRefusal}
pub use Rattle.tb_core.specs.declared.sums.Totals.{Totals as AnyTotals}
pub use Rattle.tb_tables.specs.Records.{AreStored, Tables, Total}
pub use Rattle.tb_tables.specs.Values.{batch_of, move_of, sentence_of}
pub use Rattle.tb_reads.specs.Found.{IsNumberOf, work_of}
