-- Requests in turn: each leaves the desk at a state from which the next one goes on.
use Rattle.std.proofs.Common.{◌≡◌, inl, inr, ℕ, List, [], ◌∷◌, Bool, true, false, Option, Some, None, Result, Ok, Err, IsTrue, refl, sym, ◌∙◌, ap, subst}
use Rattle.std.specs.List.{AllByRecursion}
use Rattle.sqlite.specs.Store.{Ghosts}
use Rattle.sqlite.specs.Held.{state}
use Rattle.tb_core.specs.declared.limits.Limits.{Limits}
use Rattle.tb_core.specs.Machine.{Machine}
use Rattle.tb_core.specs.Commands.{Command}
use Rattle.tb_http.specs.declared.replies.Reply.{Reply}
use Rattle.tb_http.specs.declared.status.Status.{Status}
use Rattle.tb_http.specs.Actions.{Act}
use Rattle.tb_http.specs.Asks.{Outcome, refused, called}
use Rattle.tb_store.specs.Kept.{Kept}
use Rattle.tb_store.specs.Represents.{Represents}
use Rattle.tb_answer.specs.Calls.{CallText, commands, asks, call_asked}
use Rattle.tb_answer.specs.Commanded as commanded
use Rattle.tb_answer.specs.declared.answering.Broken.{Broken}
use Rattle.tb_answer.specs.declared.answering.Broken.TheVariants.{Read, Write}
use Rattle.tb_answer.specs.Served.{IsCallSent, IsReplied, IsServed}
use Rattle.tb_answer.proofs.Causeless.{reported_for, text_sent_for}
use Rattle.tb_answer.specs.Turns.{EndsWith, HasResponse, HasAnswer, LeadsBy, Lead, IsSound, IsAnswered, AreAnswered}

-- ---- the state after one request, for which the desk stands

module _ {S : Type 0} (g : Ghosts S) (l : Limits) (s : Machine) (old new : Kept S) (is_open : IsTrue (state g new.conn).is_open) where
  after_command : (c : Command) (r : Reply) → commanded.IsAnswered g l s c old new r → (t : Machine) × Represents g new t × EndsWith l s t c r
  after_command c r (inl (a, t, steps, durable, is)) = (t, durable.0, inl (a, steps, is))
  after_command c r (inr (inl (wanted, durable, there))) = (s, durable.0, inr (inl wanted, there, refl))
  after_command c r (inr (inr (failed, kept, why, there))) = (s, (kept is_open).0, inr (inr (failed, tt), there, refl))

  module _ {Reason : Type 0} (before after : Option (List ℕ)) (is_refusal : Reason → Type 0) where
    after_call : (sent : Option Status) (call : Option CallText) (act : Act) (body : List ℕ) → IsCallSent before after is_refusal sent g l s call act body old new
        → (t : Machine) × Represents g new t × HasResponse l s t before after is_refusal sent call act body
    after_call sent (Some (commands c)) act body h =
        let ended = after_command c h.2.0 h.2.1 in
        (ended.0, ended.1, (h.0, h.1, (h.2.0, ended.2, h.2.2, h.2.3), h.3))
    after_call sent (Some (asks q)) act body h = (s, h.2.0 is_open, (h.0, h.1, (refl, elim h.2.1 [ inl body ↦ inl body | inr r ↦ inr (r.0, reported_for (λ _. tt) s q r.0 r.1, r.2, r.3) ]), h.3))
    after_call sent None act body h = (s, h.0 is_open, (refl, text_sent_for before after is_refusal sent (λ _. tt) l s act body h.1))

    after_reported : (sent : Option Status) (reported : Outcome) → Represents g old s → IsReplied before after is_refusal sent g l s reported old new
        → (t : Machine) × Represents g new t × HasAnswer l s t before after is_refusal sent reported
    after_reported sent (refused why) stands h = (s, subst (λ d. Represents g d s) (sym h.0) stands, (refl, h.1))
    after_reported sent (called c) stands h = after_call sent (call_asked c.act c.user c.body) c.act c.body h

    pub after_request : (bytes : List ℕ) (result : Result Status Broken) → Represents g old s → IsServed g l s (Some bytes) old new before after is_refusal result
        → (t : Machine) × Represents g new t × LeadsBy l s t bytes before after is_refusal result
    after_request bytes result stands (sent, inl (reported, asked, replied), is) =
        let reported_so = after_reported sent reported stands replied in
        (reported_so.0, reported_so.1, (sent, inl (reported, asked, reported_so.2), is))
    after_request bytes result stands (sent, inr (same, begun, put), is) = (s, subst (λ d. Represents g d s) (sym same) stands, (sent, inr (refl, begun, put), is))

-- ---- a list of requests

abbrev is_read : Result Status Broken → Bool
is_read (Ok code) = false
is_read (Err Read) = true
is_read (Err Write) = false

pub ok_is_no_read : (code : Status) → ◌≡◌ {A = Result Status Broken} (Ok code) (Err Read) → ⊥
ok_is_no_read code e = let t : false ≡ true = ap is_read e in cc

pub write_is_no_read : ◌≡◌ {A = Result Status Broken} (Err Write) (Err Read) → ⊥
write_is_no_read e = let t : false ≡ true = ap is_read e in cc

pub only_write : (why : Broken) → (why ≡ Read → ⊥) → why ≡ Write
only_write Read never = absurd (never refl)
only_write Write never = refl

module _ {W Reason : Type 0} (held : W → Option (List ℕ)) (is_refusal : W → Reason → Type 0) {S : Type 0} (g : Ghosts S) where
  one_leads : (b : List ℕ) (l : Limits) (d e : Kept S) (u v : W) (reported : Result Status Broken) → IsAnswered held is_refusal g b d e u v reported → IsSound g e → d.limits ≡ l
      → (s : Machine) → Represents g d s → (t : Machine) × Represents g e t × LeadsBy l s t b (held u) (held v) (is_refusal v) reported
  one_leads b l d e u v reported turn sound same s stands =
      let served = subst (λ k. IsServed g k s (Some b) d e (held u) (held v) (is_refusal v) reported) same (turn.answered sound.0 s stands) in
      after_request g l s d e sound.1 (held u) (held v) (is_refusal v) b reported stands served

  pub all_lead : (bs : List (List ℕ)) (l : Limits) (d e : Kept S) (u v : W) (desks : List (Kept S)) (result : Result (Unit {0}) Broken) → AreAnswered held is_refusal g bs d e u v desks result
      → AllByRecursion (IsSound g) desks → d.limits ≡ l → (s : Machine) → Represents g d s → (t : Machine) × Represents g e t × Lead held is_refusal l bs s t u v result
  all_lead [] l d e u v desks result h sound same s stands = (s, subst (λ x. Represents g x s) (sym h.0) stands, (refl, h.1, h.3))
  all_lead (b ∷ bs) l d e u v desks result (inl (m, w, later, code, turn, are, rest)) sound same s stands =
      let well = subst (AllByRecursion (IsSound g)) are sound in
      let next = one_leads b l d m u w (Ok code) turn well.0 same s stands in
      let all = all_lead bs l m e w v later result rest well.1 (turn.limits ∙ same) next.0 next.1 in
      (all.0, all.1, inl (next.0, w, code, next.2, all.2))
  all_lead (b ∷ bs) l d e u v desks result (inr (turn, are, is)) sound same s stands =
      let well = subst (AllByRecursion (IsSound g)) are sound in
      let last = one_leads b l d e u v (Err Write) turn well.0 same s stands in
      (last.0, last.1, inr (last.2, is))
