use Rattle.tb_answer.proofs.SearchTexts.{fault_read, query_read}
use Rattle.tb_answer.proofs.finding.read_query.Goals as goal

pub returns-clause-query : goal.returns-clause-query
returns-clause-query c = query_read _ c.parse.result c.query_or_reply.result c.query_or_reply.ensures c.parse.ensures.query

pub returns-clause-reported : goal.returns-clause-reported
returns-clause-reported c = fault_read c.args.text.now c.parse.result c.query_or_reply.result c.query_or_reply.ensures c.parse.ensures.fault c.parse.ensures.reads
