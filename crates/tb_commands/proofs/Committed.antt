-- What is written of an allowed act stands for the state after it.
use Rattle.std.proofs.Common.{◌≡◌, ℕ, ◌+◌, ◌-◌, ◌<◌, List, [], ◌∷◌, Some, slice_get, option_map, refl, ap, subst, ◌∙◌, arith}
use Rattle.std.proofs.lemmas.Option.{slice_get-map}
use Rattle.sqlite.specs.Tree.{Trees}
use Rattle.tb_core.specs.declared.kinds.State.TheVariants.{Withdrawn}
use Rattle.tb_core.specs.Machine as machine
use Rattle.tb_core.specs.Machine.{Machine, batch_with}
use Rattle.tb_core.specs.Acts.{Act, IsAllowed, correcting, pulling, restoring, after, state_at}
use Rattle.tb_core.specs.Acts.{move_of as move_made}
use Rattle.tb_core.specs.Reaching.{Reached}
use Rattle.tb_core.specs.Keeping.{IsWell}
use Rattle.tb_conllu.specs.Text.{BlockText, text_of}
use Rattle.tb_conllu.specs.Words.{words_of}
use Rattle.tb_tables.specs.Records.{Revision, AreStored}
use Rattle.tb_tables.specs.Values.{move_of, total_of}
use Rattle.tb_tables.specs.Commands.{after_correction, after_pull, after_restore}
use Rattle.tb_tables.specs.declared.recording.MoveWrite.{MoveWrite}
use Rattle.tb_refine.specs.Numbers.{state_number}
use Rattle.tb_refine.specs.DeskTables.{tables_of, sentence_record, batch_record, move_record, total_record}
use Rattle.tb_refine.specs.Written.{correction_written, pull_written, restore_written}
use Rattle.tb_refine.proofs.Next.{correction_next, pull_next, restore_next}
use Rattle.tb_refine.specs.Recorded.{IsWritten}
use Rattle.tb_commands.specs.Correcting.{IsMadeRevision}
use Rattle.tb_refine.proofs.Written.{total_reported}
use Rattle.tb_refine.proofs.Finds.{own_batch, own_state}

sentence_reported : (s : Machine) (place : ℕ) (x : machine.Sentence) → slice_get s.sentences place ≡ Some x → slice_get (tables_of s).sentences place ≡ Some (sentence_record x)
sentence_reported s place x there = slice_get-map sentence_record s.sentences place ∙ ap (option_map sentence_record) there

batch_reported : (s : Machine) (place : ℕ) (x : machine.Sentence) → IsWell s → slice_get s.sentences place ≡ Some x → slice_get (tables_of s).batches (x.batch - 1) ≡ Some (batch_record (batch_with s.batches x.batch))
batch_reported s place x well there = slice_get-map batch_record s.batches (x.batch - 1) ∙ ap (option_map batch_record) (own_batch s place x well.placed there)

module _ (s : Machine) (number : ℕ) (user : List ℕ) (c : MoveWrite) (above : 0 < number) (reached : Reached s) (well : IsWell s) where
  pub pull_stands : IsAllowed s (pulling (number - 1) user) → IsWritten s (pulling (number - 1) user) c → (trees : Trees)
      → AreStored (after_pull (tables_of s) number (move_of c.row) (total_of c.left) (total_of c.reached)) trees → AreStored (tables_of (after s (pulling (number - 1) user))) trees
  pull_stands allowed w trees h =
      let place = number - 1 in
      let a : Act = pulling place user in
      let st = state_at s place in
      let left : total_of c.left ≡ total_record (after s a) st = total_reported w.totals (after s a) st c.left w.stand (w.change.left st refl) in
      let to : total_of c.reached ≡ total_record (after s a) Withdrawn = total_reported w.totals (after s a) Withdrawn c.reached w.stand w.change.reached in
      let at : number ≡ place + 1 = omega (arith, above) in
      let same : after_pull (tables_of s) number (move_of c.row) (total_of c.left) (total_of c.reached) ≡ pull_written s place user st =
      ap (λ m. after_pull (tables_of s) number m (total_of c.left) (total_of c.reached)) w.change.row
      ∙ ap (λ l. after_pull (tables_of s) number (move_record (move_made s a)) l (total_of c.reached)) left
      ∙ ap (λ r. after_pull (tables_of s) number (move_record (move_made s a)) (total_record (after s a) st) r) to
      ∙ ap (λ n. after_pull (tables_of s) n (move_record (move_made s a)) (total_record (after s a) st) (total_record (after s a) Withdrawn)) at in
      pull_next s place user reached allowed (sentence_record allowed.sentence) (sentence_reported s place allowed.sentence allowed.there)
      (batch_record (batch_with s.batches allowed.sentence.batch)) (batch_reported s place allowed.sentence well allowed.there) st (ap state_number (own_state s place allowed.sentence allowed.there)) trees
      (subst (λ d. AreStored d trees) same h)

  pub restore_stands : IsAllowed s (restoring (number - 1) user) → IsWritten s (restoring (number - 1) user) c → (trees : Trees)
      → AreStored (after_restore (tables_of s) number (move_of c.row) (total_of c.left) (total_of c.reached)) trees → AreStored (tables_of (after s (restoring (number - 1) user))) trees
  restore_stands allowed w trees h =
      let place = number - 1 in
      let a : Act = restoring place user in
      let st = state_at s place in
      let left : total_of c.left ≡ total_record (after s a) Withdrawn = total_reported w.totals (after s a) Withdrawn c.left w.stand (w.change.left Withdrawn refl) in
      let to : total_of c.reached ≡ total_record (after s a) st = total_reported w.totals (after s a) st c.reached w.stand w.change.reached in
      let at : number ≡ place + 1 = omega (arith, above) in
      let same : after_restore (tables_of s) number (move_of c.row) (total_of c.left) (total_of c.reached) ≡ restore_written s place user st =
      ap (λ m. after_restore (tables_of s) number m (total_of c.left) (total_of c.reached)) w.change.row
      ∙ ap (λ l. after_restore (tables_of s) number (move_record (move_made s a)) l (total_of c.reached)) left
      ∙ ap (λ r. after_restore (tables_of s) number (move_record (move_made s a)) (total_record (after s a) Withdrawn) r) to
      ∙ ap (λ n. after_restore (tables_of s) n (move_record (move_made s a)) (total_record (after s a) Withdrawn) (total_record (after s a) st)) at in
      let next = restore_next s place user reached allowed (sentence_record allowed.sentence) (sentence_reported s place allowed.sentence allowed.there)
      (batch_record (batch_with s.batches allowed.sentence.batch)) (batch_reported s place allowed.sentence well allowed.there) st (ap state_number (own_state s place allowed.sentence allowed.there)) in
      subst (λ d. AreStored d trees) (same ∙ next) h

pub correction_stands : (s : Machine) (number : ℕ) (user : List ℕ) (body : BlockText) (x : machine.Sentence) (r k : ℕ) (text : List ℕ) (c : MoveWrite) → 0 < number → Reached s → IsWell s → IsMadeRevision s number body x r k text
    → IsAllowed s (correcting (number - 1) user body) → IsWritten s (correcting (number - 1) user body) c → (trees : Trees)
    → AreStored (after_correction (tables_of s) number (sentence_record x) (record { sent = number; rev = r; who = user; body = text }) k (move_of c.row) (total_of c.left) (total_of c.reached)) trees → AreStored (tables_of (after s (correcting (number - 1) user body))) trees
correction_stands s number user body x r k text c above reached well is allowed w trees h =
    let place = number - 1 in
    let a : Act = correcting place user body in
    let row = sentence_record x in
    let st = state_at s place in
    let left : total_of c.left ≡ total_record (after s a) st = total_reported w.totals (after s a) st c.left w.stand (w.change.left st refl) in
    let there : total_of c.reached ≡ total_record (after s a) st = total_reported w.totals (after s a) st c.reached w.stand w.change.reached in
    let at : number ≡ place + 1 = omega (arith, above) in
    let m = move_record (move_made s a) in
    let t = total_record (after s a) st in
    let written : Revision = record { sent = number; rev = r; who = user; body = text } in
    let next : Revision = record { sent = place + 1; rev = row.rev + 1; who = user; body = text_of (body ∷ []) } in
    let revised : written ≡ next =
    ap (λ n. record { sent = n; rev = r; who = user; body = text }) at ∙ ap (λ n. record { sent = place + 1; rev = n; who = user; body = text }) is.next
    ∙ ap (λ b. record { sent = place + 1; rev = row.rev + 1; who = user; body = b }) is.reported in
    let same : after_correction (tables_of s) number row written k (move_of c.row) (total_of c.left) (total_of c.reached) ≡ correction_written s place user body row st =
    ap (λ y. after_correction (tables_of s) number row written k y (total_of c.left) (total_of c.reached)) w.change.row
    ∙ ap (λ y. after_correction (tables_of s) number row written k m y (total_of c.reached)) left
    ∙ ap (λ y. after_correction (tables_of s) number row written k m t y) there
    ∙ ap (λ y. after_correction (tables_of s) number row y k m t t) revised
    ∙ ap (λ y. after_correction (tables_of s) number row next y m t t) is.counted
    ∙ ap (λ y. after_correction (tables_of s) y row next (words_of body) m t t) at in
    correction_next s place user body reached allowed row (sentence_reported s place x is.there) (batch_record (batch_with s.batches x.batch)) (batch_reported s place x well is.there) st (ap state_number (own_state s place x is.there)) trees
    (subst (λ d. AreStored d trees) same h)
