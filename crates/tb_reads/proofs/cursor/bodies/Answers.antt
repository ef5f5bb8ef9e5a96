use Rattle.std.proofs.Common.{Result, Ok, Err, IfOk, refl, rules}
use Rattle.tb_reads.specs.Streams.{bodies_text}
use Rattle.tb_reads.proofs.Queries.{select_bodies_is}
use Rattle.tb_reads.proofs.Shown.{if_ok}
use Rattle.tb_reads.proofs.ReadOnly.{cursor_begun}
use Rattle.tb_reads.proofs.Lent.{starts, left_so}
use Rattle.tb_reads.proofs.cursor.bodies.Goals as goal

begun_so : {T E : Type 0} {P Q R Z : T → Type 0} (r : Result T E) → IfOk r P → IfOk r Q → IfOk r R → ((x : T) → P x → Q x → R x → Z x) → IfOk r Z
begun_so (Ok x) p q k f = f x p q k
begun_so (Err e) p q k f = tt

pub returns : goal.returns
returns g c =
    let q = c.query.ensures in
    let r = c.query.result in
    let old = c.args.conn.now in (
      (refl, search rules, left_so g.S.Store old c.query.follows.lender-at-none r c.query.follows.holds-at-none),
      record {
        refused = tt;
        same_reference = q.same_reference;
        ok = if_ok r q.begun (λ rows begun clean has. starts g.S.Store old rows.conn.now has (begun clean));
        read_only = begun_so r q.begun q.mode q.survives (λ rows begun mode kept. cursor_begun g.S.Store bodies_text old rows.conn.now select_bodies_is.1 begun mode kept);
      },
    )
