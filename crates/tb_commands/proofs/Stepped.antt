-- What is written of an allowed event stands for the state after it.
use Rattle.std.proofs.Common.{◌≡◌, ℕ, zero, suc, ◌+◌, ◌-◌, List, [], ◌∷◌, ◌++◌, length, Some, None, slice_get, slice_index_or, option_map, refl, sym, ap, subst, ◌∙◌, arith, string_bytes}
use Rattle.std.proofs.lemmas.Option.{slice_get-map, same_Some}
use Rattle.sqlite.specs.Tree.{Trees}
use Rattle.tb_core.specs.declared.kinds.State.{State}
use Rattle.tb_core.specs.declared.kinds.Event.{Event}
use Rattle.tb_core.specs.declared.kinds.Worker.{Worker}
use Rattle.tb_core.specs.declared.kinds.Kind.TheVariants.{Step}
use Rattle.tb_core.specs.Events.{goes_to, makes_worker}
use Rattle.tb_core.specs.Machine as machine
use Rattle.tb_core.specs.Machine.{Machine, no_batch, weigh, at_work, one, words, change_at}
use Rattle.tb_core.specs.Acts.{Act, IsAllowed, stepping, after, with_worker}
use Rattle.tb_core.specs.Acts.{move_of as move_made}
use Rattle.tb_core.specs.declared.limits.Limits.{Limits}
use Rattle.tb_core.specs.Commands.{event_on, replied, moved_on, reply_to}
use Rattle.tb_core.specs.Steps.{Steps}
use Rattle.tb_core.specs.Found.{FindsBatch}
use Rattle.tb_core.specs.Reaching.{Reached, IsReachable}
use Rattle.tb_tables.specs.Records.{Batch, AreStored}
use Rattle.tb_tables.specs.Values.{move_of, total_of}
use Rattle.tb_tables.specs.Commands.{after_event}
use Rattle.tb_tables.specs.declared.recording.MoveWrite.{MoveWrite}
use Rattle.tb_refine.specs.Numbers.{state_number}
use Rattle.tb_refine.specs.DeskTables.{tables_of, batch_record, move_record, total_record}
use Rattle.tb_refine.specs.Written.{event_written}
use Rattle.tb_refine.specs.declared.counters.Counters.{Counters}
use Rattle.tb_commands.specs.declared.finding.BatchRead.{BatchRead}
use Rattle.tb_commands.specs.declared.working.Sums.{Sums}
use Rattle.tb_commands.specs.declared.stepping.EventPlan.{EventPlan}
use Rattle.tb_refine.specs.Recorded.{IsWritten}
use Rattle.tb_refine.specs.Counted.{IsCounted}
use Rattle.tb_commands.specs.Stepping.{IsPlanned, event_move, seen_of}
use Rattle.tb_refine.proofs.Written.{total_reported}

index_there : {X : Type 0} (xs : List X) (i : ℕ) (x d : X) → slice_get xs i ≡ Some x → slice_index_or xs i d ≡ x
index_there [] i x d there = let e : None ≡ Some x = there in absurd cc
index_there (y ∷ ys) zero x d there = same_Some y x there
index_there (y ∷ ys) (suc i) x d there = index_there ys i x d there

-- the move that was made is the event's
pub event_moves : (s : Machine) (place : ℕ) (event : Event) (user : List ℕ) (b : machine.Batch) (found : BatchRead) (sums : Sums) (number : ℕ) → slice_get s.batches place ≡ Some b → number ≡ length s.moves + 1 → found.number ≡ place + 1 → found.state ≡ b.state
    → sums.sentences ≡ weigh (at_work (place + 1) one) s.sentences → sums.words ≡ weigh (at_work (place + 1) words) s.sentences → event_move number event found sums user ≡ move_made s (stepping place event user)
event_moves s place event user b found sums number there counted at is n w =
    let from : found.state ≡ (slice_index_or s.batches place no_batch).state = is ∙ ap (λ (x : machine.Batch). x.state) (sym (index_there s.batches place b no_batch there)) in
    λ j. record { no = counted j; kind = Step event; batch = at j; sent = 0; from = Some (from j); to = goes_to event; sentences = n j; words_out = w j; words_in = w j; who = user }

pub prepared_written : (s : Machine) (place : ℕ) (event : Event) (user : List ℕ) (p : EventPlan) → IsPlanned s place event user p → IsWritten s (stepping place event user) p.prepared.change
prepared_written s place event user p planned = record { totals = p.prepared.totals; stand = planned.prepared.stand; change = planned.prepared.change }

pub row_there : (s : Machine) (place : ℕ) (event : Event) (user : List ℕ) (p : EventPlan) (plan : IsPlanned s place event user p) → slice_get (tables_of s).batches (p.number - 1) ≡ Some (batch_record plan.batch)
row_there s place event user p plan =
    let at : p.number - 1 ≡ place = omega (arith, plan.number) in
    ap (slice_get (tables_of s).batches) at ∙ slice_get-map batch_record s.batches place ∙ ap (option_map batch_record) plan.there

abbrev pub Law : Type 0
Law = (s : Machine) (place : ℕ) (event : Event) (user : List ℕ) → Reached s → IsAllowed s (stepping place event user) → (b : Batch) → slice_get (tables_of s).batches place ≡ Some b → (from : State) → b.state ≡ state_number from → (trees : Trees) → AreStored (event_written s place event user b from) trees → AreStored (tables_of (after s (stepping place event user))) trees

pub event_stands : Law → (s : Machine) (place : ℕ) (event : Event) (user : List ℕ) (p : EventPlan) (plan : IsPlanned s place event user p) (worker : List ℕ) → worker ≡ string_bytes p.worker → Reached s → IsAllowed s (stepping place event user) → (trees : Trees)
    → AreStored (after_event (tables_of s) p.number (batch_record plan.batch) p.in_state worker (move_of p.prepared.change.row) (total_of p.prepared.change.left) (total_of p.prepared.change.reached)) trees → AreStored (tables_of (after s (stepping place event user))) trees
event_stands law s place event user p plan worker worker_is reached allowed trees h =
    let a : Act = stepping place event user in
    let c : MoveWrite = p.prepared.change in
    let b : Batch = batch_record plan.batch in
    let st : State = plan.batch.state in
    let t = plan.prepared in
    let from : (move_made s a).from ≡ Some st = ap (λ (x : machine.Batch). Some x.state) (index_there s.batches place plan.batch no_batch plan.there) in
    let left : total_of c.left ≡ total_record (after s a) st = total_reported p.prepared.totals (after s a) st c.left t.stand (t.change.left st from) in
    let to : total_of c.reached ≡ total_record (after s a) (goes_to event) = total_reported p.prepared.totals (after s a) (goes_to event) c.reached t.stand t.change.reached in
    let who = with_worker (makes_worker event) user plan.batch.worker in
    let same : after_event (tables_of s) p.number b p.in_state worker (move_of c.row) (total_of c.left) (total_of c.reached) ≡ event_written s place event user b st =
    ap (λ n. after_event (tables_of s) n b p.in_state worker (move_of c.row) (total_of c.left) (total_of c.reached)) plan.number
    ∙ ap (λ i. after_event (tables_of s) (place + 1) b i worker (move_of c.row) (total_of c.left) (total_of c.reached)) plan.in_state
    ∙ ap (λ w. after_event (tables_of s) (place + 1) b (state_number (goes_to event)) w (move_of c.row) (total_of c.left) (total_of c.reached)) (worker_is ∙ plan.worker)
    ∙ ap (λ m. after_event (tables_of s) (place + 1) b (state_number (goes_to event)) who m (total_of c.left) (total_of c.reached)) t.change.row
    ∙ ap (λ l. after_event (tables_of s) (place + 1) b (state_number (goes_to event)) who (move_record (move_made s a)) l (total_of c.reached)) left
    ∙ ap (λ r. after_event (tables_of s) (place + 1) b (state_number (goes_to event)) who (move_record (move_made s a)) (total_record (after s a) st) r) to in
    law s place event user reached allowed b (slice_get-map batch_record s.batches place ∙ ap (option_map batch_record) plan.there) st refl trees (subst (λ d. AreStored d trees) same h)

abbrev Plans : Machine → Counters → Event → List ℕ → BatchRead → Worker → Sums → EventPlan → Type 0
Plans s k event user found makes sums p =
    (place : ℕ) → (b : machine.Batch) → Reached s → IsAllowed s (stepping place event user) → IsCounted k s → slice_get s.batches place ≡ Some b → found.number ≡ place + 1 → found.state ≡ b.state → string_bytes found.worker ≡ b.worker → makes ≡ makes_worker event
    → sums.sentences ≡ weigh (at_work (place + 1) one) s.sentences → sums.words ≡ weigh (at_work (place + 1) words) s.sentences → IsPlanned s place event user p

abbrev Judged : Limits → Machine → List ℕ → Event → List ℕ → ℕ → Type 0
Judged l s name event user place = IsAllowed s (stepping place event user) × Steps l s (event_on name event user) (replied (reply_to s (stepping place event user))) (after s (stepping place event user))

pub planned_event : (l : Limits) (s : Machine) (k : Counters) (name : List ℕ) (event : Event) (user : List ℕ) (found : BatchRead) (makes : Worker) (sums : Sums) (p : EventPlan) → Reached s → IsCounted k s → FindsBatch s name (Some (seen_of found)) → makes ≡ makes_worker event
    → (sums.sentences ≡ weigh (at_work found.number one) s.sentences) × (sums.words ≡ weigh (at_work found.number words) s.sentences) → Judged l s name event user (found.number - 1) → Plans s k event user found makes sums p
    → (place : ℕ) × IsPlanned s place event user p × IsAllowed s (stepping place event user) × Steps l s (event_on name event user) (replied (moved_on p.reply)) (after s (stepping place event user))
planned_event l s k name event user found makes sums p reached counted (place, b, has, n, st, who) makes_is sums_are judged plans =
    let at : place ≡ found.number - 1 = omega (arith, n) in
    let next : found.number ≡ found.number - 1 + 1 = omega (arith, n) in
    let there : slice_get s.batches (found.number - 1) ≡ Some b = ap (slice_get s.batches) (sym at) ∙ has.there in
    let a : Act = stepping (found.number - 1) event user in
    let planned = plans (found.number - 1) b reached judged.0 counted there next st who makes_is (sums_are.0 ∙ ap (λ m. weigh (at_work m one) s.sentences) next) (sums_are.1 ∙ ap (λ m. weigh (at_work m words) s.sentences) next) in
    (found.number - 1, planned, judged.0, subst (λ r. Steps l s (event_on name event user) (replied r) (after s a)) (sym planned.reply) judged.1)

abbrev Faultless : Machine → Counters → Event → List ℕ → BatchRead → Sums → Type 0
Faultless s k event user found sums =
    (place : ℕ) → (b : machine.Batch) → IsReachable s → IsAllowed s (stepping place event user) → IsReachable (after s (stepping place event user)) → IsCounted k s → slice_get s.batches place ≡ Some b → found.number ≡ place + 1 → found.state ≡ b.state
    → sums.sentences ≡ weigh (at_work (place + 1) one) s.sentences → sums.words ≡ weigh (at_work (place + 1) words) s.sentences → ⊥

-- what was read and judged can be planned
pub event_fits : (s : Machine) (k : Counters) (name : List ℕ) (event : Event) (user : List ℕ) (found : BatchRead) (sums : Sums) → IsReachable s → IsCounted k s → FindsBatch s name (Some (seen_of found))
    → (sums.sentences ≡ weigh (at_work found.number one) s.sentences) × (sums.words ≡ weigh (at_work found.number words) s.sentences) → IsAllowed s (stepping (found.number - 1) event user) → IsReachable (after s (stepping (found.number - 1) event user))
    → Faultless s k event user found sums → ⊥
event_fits s k name event user found sums reachable counted (place, b, has, n, st, who) sums_are allowed next none =
    let at : place ≡ found.number - 1 = omega (arith, n) in
    let above : found.number ≡ found.number - 1 + 1 = omega (arith, n) in
    let there : slice_get s.batches (found.number - 1) ≡ Some b = ap (slice_get s.batches) (sym at) ∙ has.there in
    none (found.number - 1) b reachable allowed next counted there above st (sums_are.0 ∙ ap (λ m. weigh (at_work m one) s.sentences) above) (sums_are.1 ∙ ap (λ m. weigh (at_work m words) s.sentences) above)

pub changed_length : {X : Type 0} (f : X → X) (xs : List X) (i : ℕ) → length (change_at f xs i) ≡ length xs
changed_length f [] i = refl
changed_length f (x ∷ xs) zero = refl
changed_length f (x ∷ xs) (suc i) = ap suc (changed_length f xs i)

pub one_longer : {X : Type 0} (xs : List X) (x : X) → length (xs ++ x ∷ []) ≡ length xs + 1
one_longer [] x = refl
one_longer (y ∷ ys) x = (let next : suc (length ys + 1) ≡ suc (length ys) + 1 = omega arith in ap suc (one_longer ys x) ∙ next)
