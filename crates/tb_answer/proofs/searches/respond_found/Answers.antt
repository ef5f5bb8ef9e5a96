use Rattle.std.proofs.Common.{◌∙◌, refl}
use Rattle.tb_answer.specs.declared.ending.Ending.TheVariants.{Refused}
use Rattle.tb_answer.specs.Found.{search_head}
use Rattle.tb_answer.proofs.SearchTexts.{after_head, head_refused}
use Rattle.tb_answer.proofs.Questioned.{unread}
use Rattle.tb_answer.proofs.searches.respond_found.Goals as goal

pub returns-then-not-put_piece-clause-found : goal.returns-then-not-put_piece-clause-found
returns-then-not-put_piece-clause-found g c =
    let refused = c.if-not-put_piece.ensures.refused refl in
    rw c.in-Ok.is (
      Refused,
      refl,
      (λ is. refused.1),
      λ clean s stands.
          head_refused s c.in-Ok.query c.args.search.strategy c.args.search.context search_head c.as_bytes.result.now
          (g.W.Sink.held c.args.out.now) (g.W.Sink.held c.put_piece.new.out)
          (c.as_bytes.ensures.value ∙ c.as_str.ensures.value ∙ c.search_head-head.ensures) refused.0,
    )

pub returns-else-not-put_piece-clause-found : goal.returns-else-not-put_piece-clause-found
returns-else-not-put_piece-clause-found g c =
    let taken = c.if-not-put_piece.ensures.taken refl in
    rw c.in-Ok.is (
      c.put_found.result,
      c.reported_of.ensures,
      c.put_found.ensures.reason,
      λ clean s stands.
          after_head s c.in-Ok.query c.args.search.strategy c.args.search.context search_head c.as_bytes.result.now
          (g.W.Sink.held c.args.out.now) (g.W.Sink.held c.put_piece.new.out) (g.W.Sink.held c.put_found.new.out) c.put_found.result
          (c.as_bytes.ensures.value ∙ c.as_str.ensures.value ∙ c.search_head-head.ensures) taken (c.put_found.ensures.put clean s stands),
    )

pub returns-then-not-put_piece-clause-read_only : goal.returns-then-not-put_piece-clause-read_only
returns-then-not-put_piece-clause-read_only g c = unread g.S.Store c.args.desk.now

pub returns-in-Err-clause-read_only : goal.returns-in-Err-clause-read_only
returns-in-Err-clause-read_only g c = unread g.S.Store c.args.desk.now
