use Rattle.std.proofs.Common.{◌≡◌, ◌++◌, ◌∷◌, [], codes, subst, rules}
use Rattle.std.proofs.lemmas.Result.{err_from_is_err_and}
use Rattle.std.specs.Fmt.{decimal}
use Rattle.std.specs.Io.KnownBytes.{Appends}
use Rattle.tb_conllu.specs.Sunk.{AppendsPart}
use Rattle.tb_search.proofs.Copied.{part_first, part_after, part_later}
use Rattle.tb_search.proofs.Visiting.{if_cut}
use Rattle.tb_search.proofs.Walking.{err_is}
use Rattle.tb_search.proofs.write_kwic.put_total.Goals as goal

pub returns-in_err-put_piece-clause-part : goal.returns-in_err-put_piece-clause-part
returns-in_err-put_piece-clause-part g c =
    let held = g.W.Sink.held in
    let reported = err_from_is_err_and c.from_residual.result c.from_residual.ensures.1 in
    let refused = rw c.in_err-put_piece.was at c.put_piece.ensures.part in
    let text : c.as_slice.result.now ≡ codes "hits " = search rules in
    err_is _ _ _ reported.0 reported.1 reported.2 (refused.0, part_first (held c.args.out.now) (held c.put_piece.new.out) (codes "hits ") (decimal c.args.found ++ 10 ∷ []) (subst (AppendsPart (held c.args.out.now) (held c.put_piece.new.out)) text refused.1))

pub returns-in_err-put_piece-2-clause-part : goal.returns-in_err-put_piece-2-clause-part
returns-in_err-put_piece-2-clause-part g c =
    let held = g.W.Sink.held in
    let reported = err_from_is_err_and c.from_residual-in_err-put_piece-2.result c.from_residual-in_err-put_piece-2.ensures.1 in
    let refused = rw c.in_err-put_piece-2.was at c.put_piece-2.ensures.part in
    let text : c.as_slice.result.now ≡ codes "hits " = search rules in
    let digits : c.as_bytes.result.now ≡ decimal c.args.found = search rules in
    err_is _ _ _ reported.0 reported.1 reported.2 (
      refused.0,
      part_after (held c.args.out.now) (held c.put_piece.new.out) (held c.put_piece-2.new.out) (codes "hits ") (decimal c.args.found) (10 ∷ [])
          (subst (Appends (held c.args.out.now) (held c.put_piece.new.out)) text c.in_ok-put_piece.ensures.put) (subst (AppendsPart (held c.put_piece.new.out) (held c.put_piece-2.new.out)) digits refused.1),
    )

pub returns-clause-part : goal.returns-clause-part
returns-clause-part g c =
    let held = g.W.Sink.held in
    let text : c.as_slice.result.now ≡ codes "hits " = search rules in
    let digits : c.as_bytes.result.now ≡ decimal c.args.found = search rules in
    let end : c.as_slice-2.result.now ≡ 10 ∷ [] = search rules in
    let one = subst (Appends (held c.args.out.now) (held c.put_piece.new.out)) text c.in_ok-put_piece.ensures.put in
    let two = subst (Appends (held c.put_piece.new.out) (held c.put_piece-2.new.out)) digits c.in_ok-put_piece-2.ensures.put in
    if_cut c.put_piece-3.result (λ e refused. (
      refused.0,
      part_later (held c.args.out.now) (held c.put_piece.new.out) (held c.put_piece-3.new.out) (codes "hits ") (decimal c.args.found ++ 10 ∷ []) one
          (part_later (held c.put_piece.new.out) (held c.put_piece-2.new.out) (held c.put_piece-3.new.out) (decimal c.args.found) (10 ∷ []) two (subst (AppendsPart (held c.put_piece-2.new.out) (held c.put_piece-3.new.out)) end refused.1)),
    ))
    c.put_piece-3.ensures.part
