-- Names of other crates that contracts here cite, each with its module.
pub use Rattle.std.specs.Io.KnownBytes.{Appends}
pub use Rattle.sqlite.specs.Held.{state}
pub use Rattle.sqlite.specs.State.{HasCleanDisk}
pub use Rattle.sqlite.specs.Steps.{over_memory}
pub use Rattle.sqlite_trees.specs.declared.memory.MemStore.{MemStore}
pub use Rattle.tb_conllu.specs.Pieces.{AskedFor}
pub use Rattle.tb_conllu.specs.Sunk.{AppendsPart}
pub use Rattle.tb_conllu.specs.Text.{BlockText}
pub use Rattle.tb_check.specs.Check.{file_limit, IsReplyTo, words_in}
pub use Rattle.tb_check.specs.declared.reply.CheckReply.{CheckReply}
pub use Rattle.tb_match.specs.declared.strategy.Strategy.{Strategy as AnyStrategy}
pub use Rattle.tb_query.specs.Reading.{IsQuery}
pub use Rattle.tb_query.specs.Search.{Asked}
pub use Rattle.tb_core.specs.Commands.{correct as correct_it, event_on, import_file, pull as pull_it}
pub use Rattle.tb_core.specs.Commands.{restore as restore_it}
pub use Rattle.tb_core.specs.Machine.{Machine}
pub use Rattle.tb_core.specs.Taking.{IsBody}
pub use Rattle.tb_core.specs.declared.refusals.Refusal.{Refusal as AnyRefusal}
pub use Rattle.tb_tables.specs.Leaving.{CommitsNothing}
pub use Rattle.tb_report.specs.Csv.{freq_csv, moves_csv}
pub use Rattle.tb_report.specs.Tables.{IsRankingOf, IsTableOf, Row, total_of}
pub use Rattle.tb_assets.specs.Trees.{trees_page}
pub use Rattle.tb_search.specs.Searched.{keys, Occurrence}
pub use Rattle.tb_search.specs.Visited.{HasReason}
pub use Rattle.tb_lists.specs.Batches.{batch_lines}
pub use Rattle.tb_lists.specs.Csv.{batches_csv}
pub use Rattle.tb_store.specs.Answers.{HasNoSentence, IsCurrent, IsRevisionText, RefusesId}
pub use Rattle.tb_store.specs.Blaming.{BlamesNoDevice}
pub use Rattle.tb_store.specs.Calls.{CrashesWhole, Does, Gives, GivesOnErr, InState, KeepsState, KnowsItself}
pub use Rattle.tb_store.specs.Found.{AreReleasedHits, IsPartFound}
pub use Rattle.tb_store.specs.Kept.{Kept}
pub use Rattle.tb_store.specs.Represents.{Represents}
pub use Rattle.tb_http.specs.Actions.{act_by}
pub use Rattle.tb_http.specs.Asks.{body_limit, reported_by}
pub use Rattle.tb_http.specs.Faults.{AwaitsMore, IsAtMostOne, TakenAfter, TakesAtMost}
pub use Rattle.tb_http.specs.Replies.{exit_of, reply_text, status_of}
pub use Rattle.tb_http.specs.declared.status.Status.{Status as AnyStatus}
pub use Rattle.tb_cli.specs.Lines.{said_by}
pub use Rattle.tb_cli.specs.View.{listed_by}
