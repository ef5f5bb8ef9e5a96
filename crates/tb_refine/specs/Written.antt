-- Between crates: no contract of a front door cites a definition of this module.
-- The tables that each accepted command of the machine writes, from those of the state before it.
use Rattle.std.specs.Prelude.{◌≡◌, ℕ, ◌+◌, ◌-◌, List, [], ◌∷◌, map, Some, slice_get}
use Rattle.sqlite.specs.Tree.{Trees}
use Rattle.tb_conllu.specs.Text.{BlockText, text_of}
use Rattle.tb_conllu.specs.Words.{words_of}
use Rattle.tb_core.specs.declared.kinds.Event.{Event}
use Rattle.tb_core.specs.declared.kinds.State.{State}
use Rattle.tb_core.specs.declared.kinds.State.TheVariants.{Opened, Withdrawn}
use Rattle.tb_core.specs.Events.{goes_to, makes_worker}
use Rattle.tb_core.specs.Machine.{sent_id_of, Machine}
use Rattle.tb_core.specs.Reaching.{Reached}
use Rattle.tb_core.specs.Acts.{Act, IsAllowed, importing, stepping, correcting, pulling, restoring, with_worker, after}
use Rattle.tb_core.specs.Acts.{move_of}
use Rattle.tb_tables.specs.Records.{Tables, AreStored, Batch, Sentence, Total}
use Rattle.tb_tables.specs.Commands.{NewSentenceRecord, after_import, after_event, after_correction, after_pull}
use Rattle.tb_tables.specs.Commands.{after_restore}
use Rattle.tb_refine.specs.Numbers.{state_number}
use Rattle.tb_refine.specs.DeskTables.{tables_of, move_record, total_record}

-- a sentence of an imported file
abbrev pub item_of : BlockText → NewSentenceRecord
item_of b = record { sent_id = sent_id_of b; words = words_of b; body = text_of (b ∷ []) }

-- an import leaves no state, so the first of its totals is not used
abbrev pub import_written : Machine → List ℕ → List ℕ → List BlockText → Total → Tables
import_written s name user bodies unused =
    let a : Act = importing name user bodies in
    after_import (tables_of s) name user (map item_of bodies) (move_record (move_of s a)) unused (total_record
    (after s a) Opened)

-- `b` is the batch at the place, which was in the state `from`
abbrev pub event_written : Machine → ℕ → Event → List ℕ → Batch → State → Tables
event_written s place event user b from =
    let a : Act = stepping place event user in
    after_event (tables_of s) (place + 1) b (state_number (goes_to event)) (with_worker
    (makes_worker event) user b.worker) (move_record (move_of s a)) (total_record (after s a) from) (total_record (after s a) (goes_to event))

-- `x` is the sentence at the place, whose batch is in the state `st`
abbrev pub correction_written : Machine → ℕ → List ℕ → BlockText → Sentence → State → Tables
correction_written s place user body x st =
    let a : Act = correcting place user body in
    after_correction (tables_of s) (place + 1) x (record {
      sent = place + 1;
      rev = x.rev + 1;
      who = user;
      body = text_of (body ∷ []);
    }) (words_of body) (move_record (move_of s a)) (total_record (after s a) st) (total_record (after s a) st)

-- the batch of the sentence at the place is in the state `st`
abbrev pub pull_written : Machine → ℕ → List ℕ → State → Tables
pull_written s place user st =
    let a : Act = pulling place user in
    after_pull (tables_of s) (place + 1) (move_record (move_of s a)) (total_record (after s a) st) (total_record
    (after s a) Withdrawn)

abbrev pub restore_written : Machine → ℕ → List ℕ → State → Tables
restore_written s place user st =
    let a : Act = restoring place user in
    after_restore (tables_of s) (place + 1) (move_record (move_of s a)) (total_record
    (after s a) Withdrawn) (total_record (after s a) st)

-- An act on the sentence at a place: where its batch is in a state, the tables that `written` gives are those of the
-- next state.
abbrev pub StoresAct : (act : ℕ → List ℕ → Act) → (written : Machine → ℕ → List ℕ → State → Tables) → Type 0
StoresAct act written =
    (s : Machine) (place : ℕ) (user : List ℕ) → Reached s → IsAllowed s (act place user) → (x : Sentence)
    → slice_get (tables_of s).sentences place ≡ Some x → (b : Batch)
    → slice_get (tables_of s).batches (x.batch - 1) ≡ Some b → (st : State) → b.state ≡ state_number st
    → (trees : Trees) → AreStored (written s place user st) trees
    → AreStored (tables_of (after s (act place user))) trees
