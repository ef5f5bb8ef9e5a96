use Rattle.tb_query.proofs.OneReading.{no_fault}
use Rattle.tb_query.proofs.laws.a_query_has_no_fault.Goals as goal

pub returns : goal.returns
returns c = no_fault c.what_says_something_has_no_fault.ensures c.a_text_has_one_reading.ensures.tests
