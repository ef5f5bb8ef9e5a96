use Rattle.std.proofs.Common.{map, sym, ◌∙◌}
use Rattle.tb_tables.specs.Records.{revision_shown}
use Rattle.tb_tables.specs.Values.{revision_of}
use Rattle.tb_reads.proofs.Reading.{numbered_flat}
use Rattle.tb_reads.proofs.Shown.{if_ok}
use Rattle.tb_reads.proofs.records.revisions_in.Goals as goal

pub returns-clause-ok : goal.returns-clause-ok
returns-clause-ok c = if_ok c.all_in.result c.all_in.ensures.ok (λ v is. is ∙ numbered_flat revision_shown 1 (map revision_of v.items))

pub returns-clause-form : goal.returns-clause-form
returns-clause-form c failed xs each is = c.all_in.ensures.form failed xs each (is ∙ sym (numbered_flat revision_shown 1 xs))
