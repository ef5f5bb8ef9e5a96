-- A question asks the connection of a desk: what the read leaves of the connection, the question leaves of the desk.
use Rattle.std.proofs.Common.{◌≡◌, ◌∙◌, ap, None, refl, subst, is_ok, Result}
use Rattle.sqlite.specs.Store.{Ghosts}
use Rattle.sqlite.specs.Held.{Held, state}
use Rattle.sqlite.proofs.StateLemmas.{survives_weaker}
use Rattle.tb_core.specs.declared.refusals.Fault.{Fault}
use Rattle.tb_reads.specs.ReadOnly.{IsReadOnly}
use Rattle.tb_reads.proofs.ReadOnly.{on_success}
use Rattle.tb_refine.specs.Calls.{KnowsDesk}
use Rattle.tb_refine.proofs.Unchanged.{desk_kept, desk_same}
use Rattle.tb_store.specs.Kept.{Kept}
use Rattle.tb_store.specs.Calls.{KnowsItself}
use Rattle.tb_store.specs.Blaming.{FailsWithoutDevice}
use Rattle.tb_store.specs.Questions.{IsQuestion}
use Rattle.tb_store.proofs.Represented.{still_stands}

-- a desk whose connection is as it was is the same
pub unasked : {S : Type 0} {d e : Kept S} (same : d ≡ e) (after : Held S) → after ≡ d.conn → record d { conn = after } ≡ e
unasked {d = d} same after is = ap (λ h. record d { conn = h }) is ∙ same

-- `d` and `e` are the desk before the question, and `after` is the connection after the read
module _ {S X : Type 0} (g : Ghosts S) {d e : Kept S} (same : d ≡ e) (after : Held S) (r : Result X Fault) (unlimited : d.conn.step_limit ≡ None)
    (reads : IsReadOnly g d.conn after (is_ok r)) where
  -- of a read that is known not to call this desk none
  pub asked_of : KnowsItself g d (record d { conn = after }) r → FailsWithoutDevice g d.conn after r → IsQuestion g e (record d { conn = after }) r
  asked_of fails cause = subst (λ k. IsQuestion g k (record d { conn = after }) r) same (record {
    fails = fails;
    cause = λ clean s stands good. cause good clean unlimited s stands.desk;
    stays = λ clean. on_success r (reads.unchanged clean) (λ unchanged s stands.
        still_stands g d after s (desk_same g d.conn after s stands.desk (unchanged stands.desk.holds.schema)) stands);
    keeps_state = λ clean opened s stands. still_stands g d after s (desk_kept g d.conn after (reads.keeps_records clean opened) s stands.desk) stands;
    crash = λ s stands. survives_weaker (state g d.conn) (state g after) _ _ (λ _ db other. other stands.desk.holds.schema) reads.commits_nothing;
    commits_nothing = reads.commits_nothing;
    limits = refl;
    doubt = refl;
  })

  -- of a read that calls no desk none
  pub asked : KnowsDesk g d.conn after r → FailsWithoutDevice g d.conn after r → IsQuestion g e (record d { conn = after }) r
  asked fails cause = asked_of (λ clean s stands. fails clean unlimited s stands.desk) cause
