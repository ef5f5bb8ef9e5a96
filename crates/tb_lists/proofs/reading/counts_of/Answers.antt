use Rattle.std.proofs.lemmas.Result.{IfOk-weaker}
use Rattle.tb_lists.proofs.Summed.{are_counts}
use Rattle.tb_lists.proofs.reading.counts_of.Goals as goal

pub returns-clause-answered : goal.returns-clause-answered
returns-clause-answered c = IfOk-weaker c.count_rows.result _ _ (λ v reported xs same pulled_is. are_counts c.args.batches c.args.pulled.now c.args.rows.now xs v.items same pulled_is reported) c.count_rows.ensures.counts
