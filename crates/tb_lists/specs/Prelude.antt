-- Names of other crates that contracts here cite, each with its module.
pub use Rattle.std.specs.List.{AllByRecursion}
pub use Rattle.sqlite_trees.specs.Tree.{IsAscending}
pub use Rattle.tb_conllu.specs.Reported.{IsFile}
pub use Rattle.tb_conllu.specs.Text.{BlockText}
pub use Rattle.tb_core.specs.Machine.{Batch, Machine, rev, Sentence, text_value_of}
pub use Rattle.tb_core.specs.Reaching.{Reached}
pub use Rattle.tb_core.specs.Rows.{pulled_from}
pub use Rattle.tb_core.specs.Words.{kind_word, state_word}
pub use Rattle.tb_core.specs.declared.kinds.State.{State}
pub use Rattle.tb_core.specs.declared.refusals.Refusal.{Refusal as AnyRefusal}
pub use Rattle.tb_tables.specs.Values.{batch_of, sentence_of}
pub use Rattle.tb_refine.specs.Calls.{Tells}
pub use Rattle.tb_refine.specs.DeskTables.{batch_record, sentence_record}
pub use Rattle.tb_refine.specs.Faults.{IsNoDevice}
pub use Rattle.tb_refine.specs.Numbers.{state_number}
pub use Rattle.tb_refine.specs.DeskReads.{IsRead, IsReadWhere}
