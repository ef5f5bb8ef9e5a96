use Rattle.std.proofs.Common.{refl}
use Rattle.tb_words.proofs.Steps.{at_line, lines_kept, none_begins, one_more_read}
use Rattle.tb_words.proofs.places.Places.read_next.Goals as goal

pub returns-clause-left : goal.returns-clause-left
returns-clause-left c =
    λ file count read.
    let next = rw c.in-Ok-Some.field-0-is at c.in-Ok-Some.ensures.next in
    record {
      left = one_more_read count _ _ _ _ read.left next;
      lines = lines_kept _ _ _ _ _ _ _ read.lines c.lines_of.ensures c.saturating_add-self.ensures next.place;
    }

pub returns-in-Ok-None-clause-end : goal.returns-in-Ok-None-clause-end
returns-in-Ok-None-clause-end c =
    let rest = rw c.in-Ok-None.field-0-is at c.in-Ok-None.ensures.next in
    record { stays = rest.1; counted = refl; ended = none_begins _ rest.0 }

pub returns-in-Err-At-clause-end : goal.returns-in-Err-At-clause-end
returns-in-Err-At-clause-end c = record {
  stays = c.in-Err-At.ensures.fault.1;
  counted = refl;
  ended = c.in-Err-At.ensures.first (at_line _ _ _ c.in-Err-At.field-0-is);
}
