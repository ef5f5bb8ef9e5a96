use Rattle.tb_query.proofs.AnyText.{reported}
use Rattle.tb_query.proofs.laws.each_text_is_reported.Goals as goal

pub returns : goal.returns
returns c text = reported c.a_literal_is_accepted_or_refused.ensures c.what_is_said_can_be_searched.ensures c.what_fits_is_a_pattern.ensures text (c.each_text_is_reported.ensures text)
