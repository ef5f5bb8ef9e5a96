use Rattle.std.proofs.Common.{◌≡◌, ◌<◌, ◌+◌, length, take, get_or, arith, rules, subst, sym, ◌∙◌}
use Rattle.std.proofs.lemmas.List.{length-take-le}
use Rattle.sqlite.specs.State.{HasCleanDisk}
use Rattle.sqlite.specs.Held.{state}
use Rattle.sqlite.proofs.StateLemmas.{survives_then}
use Rattle.tb_tables.specs.Records.{Tables}
use Rattle.tb_tables.specs.Changes.{Changes}
use Rattle.tb_tables.specs.Commands.{with_item, with_items}
use Rattle.tb_tables.proofs.WriteCommands.{kept_then, changes_then}
use Rattle.tb_tables.proofs.Numbers.{one_longer, one_more}
use Rattle.tb_tables.proofs.importing.insert_items.Goals as goal
use Rattle.tb_tables.specs.Failing.{IsRoomFault, IsWant, NeedsNoFaultOnRevisions}
use Rattle.tb_tables.proofs.Apart.{unique_so_far}
use Rattle.tb_tables.proofs.WriteFaults.{handed_on, second_blames, rowids_after, revisions_of}
use Rattle.tb_tables.specs.Premises.{IsShortItem}

pub loop-item-preserved : goal.loop-item-preserved
loop-item-preserved g c =
    let old = state g.S.Store c.args.tx.now.conn.now in
    let now = state g.S.Store c.loop-item.tx.conn.now in
    let new = state g.S.Store c.insert_item.new.tx.conn.now in
    let inv = c.loop-item.invariant in
    let one = c.insert_item.ensures in
    let step = with_item c.args.batch c.args.who.now in
    let counted : (d done : Tables) → c.loop-item.number ≡ 1 + length done.sentences → with_items c.args.batch c.args.who.now d (take (c.loop-item.item-index + 1) c.args.items.now) ≡ step done c.item-item.result
    → c.loop-item.number + 1 ≡ 1 + length (with_items c.args.batch c.args.who.now d (take (c.loop-item.item-index + 1) c.args.items.now)).sentences =
    λ d done so is. let long = one_longer c.args.batch c.args.who.now done c.item-item.result in rw is (omega (arith, so, long)) in
    let more : (d : Tables) → with_items c.args.batch c.args.who.now d (take (c.loop-item.item-index + 1) c.args.items.now) ≡ step (with_items c.args.batch c.args.who.now d (take c.loop-item.item-index c.args.items.now)) c.item-item.result =
    λ d. one_more c.args.batch c.args.who.now d c.args.items.now c.loop-item.item-index c.item-item.result (omega (arith, c.loop-item-test.true)) (search rules) in (
      one.same_reference ∙ inv.0,
      survives_then old now new _ _ (λ _. ⊥) (λ _ db none. none) (λ _ db none. none) inv.1 one.survives,
      omega (arith, inv.2),
      λ clean.
          let was : HasCleanDisk now = omega (arith, one.survives.clean) in
          let so = inv.3 was in (
            kept_then old now new so.0 (one.inside.1 clean),
            λ inside.
                let far = so.1 inside in (
                  c.in_ok-insert_item.ensures.inside.0 clean far.0,
                  λ d first.
                      let done = with_items c.args.batch c.args.who.now d (take c.loop-item.item-index c.args.items.now) in
                      let went = far.1 d first in
                      let next = c.in_ok-insert_item.ensures.ok clean far.0 done went.1 in
                      let all = changes_then old now new d done (step done c.item-item.result) went.0 next in (
                        subst (Changes old new d) (sym (more d)) all,
                        counted d done went.1 (more d),
                      ),
                ),
          ),
    )

pub returns-in_err-insert_item-clause-fails : goal.returns-in_err-insert_item-clause-fails
returns-in_err-insert_item-clause-fails g c clean unlimited inside d stands first unique =
    let now = state g.S.Store c.loop-item.tx.conn.now in
    let inv = c.loop-item.invariant in
    let was : HasCleanDisk now = omega (arith, c.insert_item.ensures.survives.clean) in
    let far = (inv.3 was).1 inside in
    let went = far.1 d first in
    let done = with_items c.args.batch c.args.who.now d (take c.loop-item.item-index c.args.items.now) in
    let apart = unique_so_far c.args.batch c.args.who.now d c.args.items.now c.loop-item.item-index c.item-item.result (omega (arith, c.loop-item-test.true)) (search rules) unique in
    let free = inv.1.limit ∙ unlimited in
    let fault = c.in_err-insert_item.ensures.fails clean free far.0 done (went.0.stands stands) went.1 apart in
    handed_on IsRoomFault c.from_residual.result c.in_err-insert_item.field-0.0 c.from_residual.ensures.1 fault

pub returns-in_err-insert_item-clause-wants : goal.returns-in_err-insert_item-clause-wants
returns-in_err-insert_item-clause-wants g c good clean unlimited inside d stands first unique who short ids =
    let now = state g.S.Store c.loop-item.tx.conn.now in
    let inv = c.loop-item.invariant in
    let was : HasCleanDisk now = omega (arith, c.insert_item.ensures.survives.clean) in
    let far = (inv.3 was).1 inside in
    let went = far.1 d first in
    let done = with_items c.args.batch c.args.who.now d (take c.loop-item.item-index c.args.items.now) in
    let apart = unique_so_far c.args.batch c.args.who.now d c.args.items.now c.loop-item.item-index c.item-item.result (omega (arith, c.loop-item-test.true)) (search rules) unique in
    let free = inv.1.limit ∙ unlimited in
    let k = c.loop-item.item-index in
    let items = c.args.items.now in
    let below : k < length items = omega (arith, c.loop-item-test.true) in
    let taken : length done.revisions ≡ length d.revisions + k = (let of = revisions_of c.args.batch c.args.who.now d (take k items) in omega (arith, of, length-take-le k items (omega (arith, below)))) in
    let left = rowids_after (state g.S.Store c.args.tx.now.conn.now) now d done k 1 (length items) went.0 taken (omega (arith, below)) ids in
    let here : get_or items k c.item-item.result ≡ c.item-item.result = search rules in
    let item = subst IsShortItem here (short k c.item-item.result below) in
    second_blames g.S.Store c.args.tx.now.conn.now c.loop-item.tx.conn.now c.insert_item.new.tx.conn.now IsWant c.from_residual.result c.in_err-insert_item.field-0.0 c.from_residual.ensures.1 c.loop-item.invariant.1 c.insert_item.ensures.survives (λ still whole. c.in_err-insert_item.ensures.wants whole still free far.0 done (went.0.stands stands) went.1 apart who item left) clean good

pub returns-in_err-insert_item-clause-cause : goal.returns-in_err-insert_item-clause-cause
returns-in_err-insert_item-clause-cause g c clean good =
    second_blames g.S.Store c.args.tx.now.conn.now c.loop-item.tx.conn.now c.insert_item.new.tx.conn.now NeedsNoFaultOnRevisions c.from_residual.result c.in_err-insert_item.field-0.0 c.from_residual.ensures.1
    c.loop-item.invariant.1 c.insert_item.ensures.survives c.in_err-insert_item.ensures.cause clean good
