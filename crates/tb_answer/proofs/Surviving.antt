-- Requests in turn: what a crash leaves after them.
use Rattle.std.proofs.Common.{◌≡◌, ◌⊎◌, inl, inr, ℕ, List, [], ◌∷◌, length, Option, Some, None, Result, Ok, Err, refl, sym, ◌∙◌, ap, subst, arith}
use Rattle.sqlite.specs.Store.{Ghosts}
use Rattle.sqlite.specs.Tree.{Trees}
use Rattle.sqlite.specs.Held.{Held, state}
use Rattle.sqlite.specs.State.{Survives}
use Rattle.sqlite.proofs.StateLemmas.{survives_then, survives_weaker}
use Rattle.tb_tables.specs.Records.{AreStored}
use Rattle.tb_core.specs.declared.limits.Limits.{Limits}
use Rattle.tb_core.specs.Machine.{Machine}
use Rattle.tb_core.specs.Commands.{Command, Answer}
use Rattle.tb_core.specs.Steps.{Steps}
use Rattle.tb_http.specs.declared.status.Status.{Status}
use Rattle.tb_http.specs.Actions.{Act}
use Rattle.tb_http.specs.Asks.{refused, called}
use Rattle.tb_refine.specs.DeskTables.{tables_of}
use Rattle.tb_store.specs.Kept.{Kept}
use Rattle.tb_store.specs.Represents.{Represents}
use Rattle.tb_answer.specs.Calls.{CallText, commands, asks, call_asked}
use Rattle.tb_store.specs.Calls.{HoldsAnEnd}
use Rattle.tb_answer.specs.declared.answering.Broken.{Broken}
use Rattle.tb_answer.specs.declared.answering.Broken.TheVariants.{Write}
use Rattle.tb_answer.specs.Served.{IsSafeCall, IsSafeOf, IsServed}
use Rattle.tb_answer.specs.Turns.{HasResponse, LeadsBy, command_in, Ends, HoldsAnEndOf, AllButLast, IsSound, IsAnswered, AreAnswered, AreServed}
use Rattle.tb_answer.proofs.Chained.{after_request, all_lead}
use Rattle.tb_answer.proofs.Questioned.{survives_none}

-- ---- one request

-- the tables of a state in which its command ends
abbrev HoldsItsEnd : Limits → List ℕ → Machine → Trees → Type 0
HoldsItsEnd l b s db = (t : Machine) × Ends l s t b × AreStored (tables_of t) db

module _ {S : Type 0} (g : Ghosts S) (d m : Kept S) (s : Machine) (stands : Represents g d s) (b : List ℕ) where
  call_survives : (o : Option CallText) → ((c : Command) → command_in o ≡ Some c → (t : Machine) (a : Answer) → Steps d.limits s c a t → Ends d.limits s t b)
      → IsSafeCall g o d m → Survives (state g d.conn) (state g m.conn) (HoldsItsEnd d.limits b s)
  call_survives (Some (commands c)) ends safe =
      survives_weaker (state g d.conn) (state g m.conn) (HoldsAnEnd g d c) (HoldsItsEnd d.limits b s) (λ clean db holds. let it = holds s stands in (it.1, ends c refl it.1 it.0 it.2, it.3)) safe
  call_survives (Some (asks q)) ends safe = survives_weaker (state g d.conn) (state g m.conn) (λ _. ⊥) (HoldsItsEnd d.limits b s) (λ clean db none. absurd none) (safe.1 s stands)
  call_survives None ends safe = survives_weaker (state g d.conn) (state g m.conn) (λ _. ⊥) (HoldsItsEnd d.limits b s) (λ clean db none. absurd none) (safe.1 s stands)

  same_survives : m ≡ d → Survives (state g d.conn) (state g m.conn) (HoldsItsEnd d.limits b s)
  same_survives same = subst (λ x. Survives (state g d.conn) (state g x.conn) (HoldsItsEnd d.limits b s)) (sym same) (survives_none g d.conn (HoldsItsEnd d.limits b s))

  pub request_survives : IsSafeOf g (Some b) d m → Survives (state g d.conn) (state g m.conn) (HoldsItsEnd d.limits b s)
  request_survives (inl same) = same_survives same
  request_survives (inr (refused why, asked, same)) = same_survives same
  request_survives (inr (called c, asked, safe)) =
      call_survives (call_asked c.act c.user c.body) (λ k is t a steps. (called c, asked, k, is, a, steps)) safe

-- the state after a request is that of before, or one in which its command ends
response_ends : (l : Limits) (s t : Machine) {Reason : Type 0} (before after : Option (List ℕ)) (is_refusal : Reason → Type 0) (sent : Option Status) (o : Option CallText) (act : Act) (body : List ℕ)
    → HasResponse l s t before after is_refusal sent o act body → (t ≡ s) ⊎ ((c : Command) × (command_in o ≡ Some c) × (a : Answer) × Steps l s c a t)
response_ends l s t before after is_refusal sent (Some (commands c)) act body h = elim (h.2.1) [ inl (a, steps, is) ↦ inr (c, refl, a, steps) | inr (failed, there, same) ↦ inl same ]
response_ends l s t before after is_refusal sent (Some (asks q)) act body h = inl h.2.0
response_ends l s t before after is_refusal sent None act body h = inl h.0

request_ends : (l : Limits) (s t : Machine) (b : List ℕ) {Reason : Type 0} (before after : Option (List ℕ)) (is_refusal : Reason → Type 0) (result : Result Status Broken)
    → LeadsBy l s t b before after is_refusal result → (t ≡ s) ⊎ Ends l s t b
request_ends l s t b before after is_refusal result (sent, inl (refused why, asked, put), is) = inl put.0
request_ends l s t b before after is_refusal result (sent, inl (called c, asked, has), is) =
    elim (response_ends l s t before after is_refusal sent (call_asked c.act c.user c.body) c.act c.body has) [
      | inl same ↦ inl same
      | inr (k, known, a, steps) ↦ inr (called c, asked, k, known, a, steps)
    ]
request_ends l s t b before after is_refusal result (sent, inr (same, begun, put), is) = inl same

-- ---- a list of requests

one_end : (l : Limits) (b : List ℕ) (bs : List (List ℕ)) (s : Machine) (db : Trees) → HoldsItsEnd l b s db → HoldsAnEndOf l (b ∷ bs) s db
one_end l b bs s db (t, ends, stands) = (t, inr ends, inl stands)

more_follow : {X : Type 0} (x : X) (xs : List X) → x ∷ xs ≡ [] → ⊥
more_follow x xs e = let long = ap length e in absurd (omega (arith, long))

module _ {W Reason : Type 0} (held : W → Option (List ℕ)) (is_refusal : W → Reason → Type 0) {S : Type 0} (g : Ghosts S) where
  last_survives : (bs : List (List ℕ)) (b : List ℕ) (l : Limits) (d m : Kept S) (u w : W) (reported : Result Status Broken) → IsAnswered held is_refusal g b d m u w reported → d.limits ≡ l
      → (s : Machine) → Represents g d s → Survives (state g d.conn) (state g m.conn) (HoldsAnEndOf l (b ∷ bs) s)
  last_survives bs b l d m u w reported turn same s stands =
      subst (λ k. Survives (state g d.conn) (state g m.conn) (HoldsAnEndOf k (b ∷ bs) s)) same
      (survives_weaker (state g d.conn) (state g m.conn) (HoldsItsEnd d.limits b s) (HoldsAnEndOf d.limits (b ∷ bs) s) (λ clean db. one_end d.limits b bs s db) (request_survives g d m s stands b turn.crash))

  none_follow : (bs : List (List ℕ)) (m e : Kept S) (w v : W) (result : Result (Unit {0}) Broken) → AreAnswered held is_refusal g bs m e w v [] result → e ≡ m
  none_follow [] m e w v result h = h.0
  none_follow (b ∷ bs) m e w v result (inl (x, y, later, code, turn, are, rest)) = absurd (cc)
  none_follow (b ∷ bs) m e w v result (inr (turn, are, is)) = absurd (cc)

  pub all_survive : (bs : List (List ℕ)) (l : Limits) (d e : Kept S) (u v : W) (desks : List (Kept S)) (result : Result (Unit {0}) Broken) → AreAnswered held is_refusal g bs d e u v desks result
      → AllButLast (IsSound g) desks → d.limits ≡ l → (s : Machine) → Represents g d s → Survives (state g d.conn) (state g e.conn) (HoldsAnEndOf l bs s)
  all_survive [] l d e u v desks result h sound same s stands = subst (λ x. Survives (state g d.conn) (state g x.conn) (λ _. ⊥)) (sym h.0) (survives_none g d.conn (λ _. ⊥))
  all_survive (b ∷ bs) l d e u v desks result (inr (turn, are, is)) sound same s stands = last_survives bs b l d e u v (Err Write) turn same s stands
  all_survive (b ∷ bs) l d e u v desks result (inl (m, w, [], code, turn, are, rest)) sound same s stands =
      subst (λ x. Survives (state g d.conn) (state g x.conn) (HoldsAnEndOf l (b ∷ bs) s)) (sym (none_follow bs m e w v result rest)) (last_survives bs b l d m u w (Ok code) turn same s stands)
  all_survive (b ∷ bs) l d e u v desks result (inl (m, w, x ∷ later, code, turn, are, rest)) sound same s stands =
      let well = subst (AllButLast (IsSound g)) are sound in
      let mid = well.0 (more_follow x later) in
      let served = subst (λ k. IsServed g k s (Some b) d m (held u) (held w) (is_refusal w) (Ok code)) same (turn.answered mid.0 s stands) in
      let next = after_request g l s d m mid.1 (held u) (held w) (is_refusal w) b (Ok code) stands served in
      let ends = request_ends l s next.0 b (held u) (held w) (is_refusal w) (Ok code) next.2 in
      survives_then (state g d.conn) (state g m.conn) (state g e.conn) (HoldsAnEndOf l (b ∷ bs) s) (HoldsAnEndOf l bs next.0) (HoldsAnEndOf l (b ∷ bs) s)
      (λ clean db holds. holds) (λ clean db holds. (next.0, ends, inr holds))
      (last_survives bs b l d m u w (Ok code) turn same s stands)
      (all_survive bs l m e w v (x ∷ later) result rest well.1 (turn.limits ∙ same) next.0 next.1)

  pub all_served : (bs : List (List ℕ)) (d e : Kept S) (u v : W) (desks : List (Kept S)) (result : Result (Unit {0}) Broken) → AreAnswered held is_refusal g bs d e u v desks result
      → AreServed held is_refusal g bs d e u v result
  all_served bs d e u v desks result h =
      (desks, h, (λ sound s stands. all_lead held is_refusal g bs d.limits d e u v desks result h sound refl s stands), (λ sound s stands. all_survive bs d.limits d e u v desks result h sound refl s stands))
