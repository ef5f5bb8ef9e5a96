use Rattle.std.proofs.Common.{◌≡◌, ◌+◌, ◌<◌, ◌++◌, ◌∷◌, [], cond, drop, get_or, length, map, ap, ◌∙◌, arith, false}
use Rattle.tb_core.specs.declared.kinds.State.TheVariants.{Released, Withdrawn}
use Rattle.tb_core.specs.Events.{is_state}
use Rattle.tb_core.specs.Machine.{batch_with}
use Rattle.tb_tables.specs.Values.{batch_of}
use Rattle.tb_reads.specs.declared.stream.CurrentRev.{CurrentRev}
use Rattle.tb_search.specs.Released.{is_released}
use Rattle.tb_search.specs.Picked.{begins, picks_from}
use Rattle.tb_search.proofs.Choosing.{no_release, read_at, then_come, then_so, unwanted}
use Rattle.tb_search.proofs.picks.released_of.Goals as goal

pub loop-head-preserved : goal.loop-head-preserved
loop-head-preserved c =
    let i = c.loop-head.head-index in
    let heads = c.args.heads.now in
    let h : CurrentRev = get_or heads i (record { batch = 0; rev = 0 }) in
    let at = c.loop-head.at in
    let found = c.loop-head.found.items in
    let pulled = c.args.pulled.now in
    let low : i < length heads = omega (arith, c.loop-head-test.true) in
    let got = read_at heads i (record { batch = 0; rev = 0 }) low in
    let is_pulled = c.stands_at-is_pulled in
    let is_wanted = c.is_released-is_wanted in
    let number : c.loop-head.number + 1 ≡ i + 1 = ap (λ n. n + 1) c.loop-head.invariant.0 in
    let stands : is_pulled.result ≡ begins (drop at pulled) (i + 1) = is_pulled.ensures.value ∙ ap (λ n. begins (drop at pulled) n) number in (
      number,
      λ bs xs is pulled_is heads_is.
          let was = c.loop-head.invariant.1 bs xs is pulled_is heads_is in
          let known = is_wanted.ensures bs is ∙ ap (λ b. is_state (cond b Withdrawn (batch_with bs h.batch).state) Released) stands in (
            ap (λ l. l ++ picks_from (is_released bs) (i + 1 + 1) (drop (i + 1) xs)) (c.in_ok-push_where.ensures.more ∙ ap (λ n. found ++ cond is_wanted.result (record { sent = n; rev = h.rev } ∷ []) []) number)
                ∙ then_so bs xs i heads h pulled found at low got heads_is was.0 was.1 is_wanted.result known,
            then_come bs xs i heads h pulled found at low got heads_is was.0 was.1 c.stepped-at.result (c.stepped-at.ensures ∙ ap (λ b. cond b (at + 1) at) stands),
          ),
    )

pub returns-in_err-push_where-clause-no_batch : goal.returns-in_err-push_where-clause-no_batch
returns-in_err-push_where-clause-no_batch c empty =
    let h : CurrentRev = get_or c.args.heads.now c.loop-head.head-index (record { batch = 0; rev = 0 }) in
    let wanted : c.is_released-is_wanted.result ≡ false = c.is_released-is_wanted.ensures [] (ap (map batch_of) empty) ∙ no_release c.stands_at-is_pulled.result h.batch in
    let never = c.in_err-push_where.ensures.sure wanted in
    absurd cc

pub returns-in_err-push_where-clause-none : goal.returns-in_err-push_where-clause-none
returns-in_err-push_where-clause-none c bs xs is pulled_is heads_is empty =
    let i = c.loop-head.head-index in
    let heads = c.args.heads.now in
    let h : CurrentRev = get_or heads i (record { batch = 0; rev = 0 }) in
    let at = c.loop-head.at in
    let found = c.loop-head.found.items in
    let pulled = c.args.pulled.now in
    let low : i < length heads = omega (arith, c.loop-head-test.true) in
    let got = read_at heads i (record { batch = 0; rev = 0 }) low in
    let is_pulled = c.stands_at-is_pulled in
    let is_wanted = c.is_released-is_wanted in
    let number : c.loop-head.number + 1 ≡ i + 1 = ap (λ n. n + 1) c.loop-head.invariant.0 in
    let stands : is_pulled.result ≡ begins (drop at pulled) (i + 1) = is_pulled.ensures.value ∙ ap (λ n. begins (drop at pulled) n) number in
    let was = c.loop-head.invariant.1 bs xs is pulled_is heads_is in
    let known = is_wanted.ensures bs is ∙ ap (λ b. is_state (cond b Withdrawn (batch_with bs h.batch).state) Released) stands in
    let wanted : is_wanted.result ≡ false = unwanted found is_wanted.result (record { sent = i + 1; rev = h.rev }) (picks_from (is_released bs) (i + 1 + 1) (drop (i + 1) xs))
    (then_so bs xs i heads h pulled found at low got heads_is was.0 was.1 is_wanted.result known ∙ empty) in
    let never = c.in_err-push_where.ensures.sure wanted in
    absurd cc
