use Rattle.tb_query.proofs.OneReading as readings
use Rattle.tb_query.proofs.laws.a_text_has_one_fault.Goals as goal

pub returns : goal.returns
returns c = readings.one_fault c.what_says_something_has_no_fault.ensures c.a_text_has_one_reading.ensures.tests c.one_fault.ensures
