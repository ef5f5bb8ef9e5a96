-- Requests in turn on a desk that is clean at their end, and without a new fault: it is sound after each of them.
use Rattle.std.proofs.Common.{◌≡◌, ◌≤◌, inl, inr, ℕ, List, [], ◌∷◌, Option, Some, None, Result, Ok, Err, IsTrue, sym, subst, arith, le_trans, le_refl, lt_of_le_of_lt}
use Rattle.std.specs.List.{AllByRecursion}
use Rattle.sqlite_trees.specs.declared.memory.MemStore.{MemStore}
use Rattle.sqlite.specs.Store.{Ghosts}
use Rattle.sqlite.specs.Held.{Held, state}
use Rattle.sqlite.specs.State.{HasCleanDisk}
use Rattle.sqlite.specs.Steps.{over_memory}
use Rattle.sqlite.proofs.Callers.{memory_is_clean}
use Rattle.tb_core.specs.Machine.{Machine}
use Rattle.tb_http.specs.declared.status.Status.{Status}
use Rattle.tb_http.specs.Asks.{refused, called}
use Rattle.tb_store.specs.Kept.{Kept}
use Rattle.tb_store.specs.Represents.{Represents}
use Rattle.tb_answer.specs.Calls.{CallText, commands, asks, call_asked, ForgetsNothing, HasNoNewFault}
use Rattle.tb_answer.specs.Served.{IsSafeCall, IsSafeOf}
use Rattle.tb_answer.specs.declared.answering.Broken.{Broken}
use Rattle.tb_answer.specs.declared.answering.Broken.TheVariants.{Write}
use Rattle.tb_answer.specs.Turns.{Lead, AllButLast, IsSound, IsAnswered, AreAnswered, AreServed, CrashesToAnEnd}
use Rattle.tb_answer.proofs.Chained.{after_request}
use Rattle.tb_answer.proofs.Surviving.{request_survives}

but_last : {X : Type 0} (P : X → Type 0) (xs : List X) → AllByRecursion P xs → AllButLast P xs
but_last P [] all = tt
but_last P (x ∷ xs) all = ((λ _. all.0), but_last P xs all.1)

module _ {S : Type 0} (g : Ghosts S) where
  -- ---- what is not forgotten

  same_forgets : (d m : Kept S) → m ≡ d → ForgetsNothing g d m
  same_forgets d m same = subst (ForgetsNothing g d) (sym same) (le_refl _, le_refl _)

  call_forgets : (d m : Kept S) (o : Option CallText) → IsSafeCall g o d m → ForgetsNothing g d m
  call_forgets d m (Some (commands c)) safe = (safe.clean, safe.counts)
  call_forgets d m (Some (asks q)) safe = safe.0
  call_forgets d m None safe = safe.0

  request_forgets : (b : List ℕ) (d m : Kept S) → IsSafeOf g (Some b) d m → ForgetsNothing g d m
  request_forgets b d m (inl same) = same_forgets d m same
  request_forgets b d m (inr (refused why, asked, same)) = same_forgets d m same
  request_forgets b d m (inr (called c, asked, safe)) = call_forgets d m (call_asked c.act c.user c.body) safe

  module _ {W Reason : Type 0} (held : W → Option (List ℕ)) (is_refusal : W → Reason → Type 0) where
    all_forget : (bs : List (List ℕ)) (d e : Kept S) (u v : W) (desks : List (Kept S)) (result : Result (Unit {0}) Broken) → AreAnswered held is_refusal g bs d e u v desks result → ForgetsNothing g d e
    all_forget [] d e u v desks result h = same_forgets d e h.0
    all_forget (b ∷ bs) d e u v desks result (inl (m, w, later, code, turn, are, rest)) =
        let first = request_forgets b d m turn.crash in
        let others = all_forget bs m e w v later result rest in
        (le_trans first.0 others.0, le_trans first.1 others.1)
    all_forget (b ∷ bs) d e u v desks result (inr (turn, are, is)) = request_forgets b d e turn.crash

    -- ---- soundness

    stays_sound : (b : List ℕ) (d m : Kept S) (u w : W) (reported : Result Status Broken) → IsAnswered held is_refusal g b d m u w reported → HasCleanDisk (state g m.conn)
        → HasNoNewFault g d m → (s : Machine) → Represents g d s → IsSound g m
    stays_sound b d m u w reported turn clean few s stands =
        let open_still : IsTrue (state g m.conn).is_open =
        elim ((request_survives g d m s stands b turn.crash).closes clean stands.desk.holds.is_open) [ inl still ↦ still | inr more ↦ absurd (omega (arith, few.0, few.1, more)) ] in
        (clean, open_still)

    pub all_sound : (bs : List (List ℕ)) (d e : Kept S) (u v : W) (desks : List (Kept S)) (result : Result (Unit {0}) Broken) → AreAnswered held is_refusal g bs d e u v desks result
        → HasCleanDisk (state g e.conn) → HasNoNewFault g d e → (s : Machine) → Represents g d s → AllByRecursion (IsSound g) desks
    all_sound [] d e u v desks result h clean few s stands = subst (AllByRecursion (IsSound g)) (sym h.2) tt
    all_sound (b ∷ bs) d e u v desks result (inl (m, w, later, code, turn, are, rest)) clean few s stands =
        let first = request_forgets b d m turn.crash in
        let others = all_forget bs m e w v later result rest in
        let mid : HasCleanDisk (state g m.conn) = omega (arith, clean, others.0) in
        let sound = stays_sound b d m u w (Ok code) turn mid (le_trans others.1 few.0, few.1) s stands in
        let next = after_request g d.limits s d m sound.1 (held u) (held w) (is_refusal w) b (Ok code) stands (turn.answered sound.0 s stands) in
        subst (AllByRecursion (IsSound g)) (sym are) (sound, all_sound bs m e w v later result rest clean (le_trans few.0 first.1, lt_of_le_of_lt (le_trans others.1 few.0) few.1) next.0 next.1)
    all_sound (b ∷ bs) d e u v desks result (inr (turn, are, is)) clean few s stands =
        subst (AllByRecursion (IsSound g)) (sym are) (stays_sound b d e u v (Err Write) turn clean few s stands, tt)

    pub all_lead_to : (bs : List (List ℕ)) (d e : Kept S) (u v : W) (result : Result (Unit {0}) Broken) → AreServed held is_refusal g bs d e u v result
        → HasCleanDisk (state g e.conn) → HasNoNewFault g d e → (s : Machine) → Represents g d s
        → (t : Machine) × Represents g e t × Lead held is_refusal d.limits bs s t u v result
    all_lead_to bs d e u v result served clean few s stands = served.2 (all_sound bs d e u v served.0 result served.1 clean few s stands) s stands

    pub all_crash_to : (bs : List (List ℕ)) (d e : Kept S) (u v : W) (result : Result (Unit {0}) Broken) → AreServed held is_refusal g bs d e u v result
        → HasCleanDisk (state g e.conn) → HasNoNewFault g d e → CrashesToAnEnd held is_refusal g bs d e
    all_crash_to bs d e u v result served clean few s stands = served.3 (but_last (IsSound g) served.0 (all_sound bs d e u v served.0 result served.1 clean few s stands)) s stands

pub all_lead_in_memory : {W Reason : Type 0} (held : W → Option (List ℕ)) (is_refusal : W → Reason → Type 0) (bs : List (List ℕ)) (d e : Kept MemStore) (u v : W) (result : Result (Unit {0}) Broken)
    → AreServed held is_refusal over_memory bs d e u v result → (s : Machine) → Represents over_memory d s
    → (t : Machine) × Represents over_memory e t × Lead held is_refusal d.limits bs s t u v result
all_lead_in_memory held is_refusal bs d e u v result served s stands = all_lead_to over_memory held is_refusal bs d e u v result served (memory_is_clean e.conn) (omega arith, omega arith) s stands
