-- Calls after calls, and the last of them.
use Rattle.std.proofs.Common.{◌≡◌, ◌≢◌, ◌⊎◌, inl, inr, ◌≤◌, ◌<◌, ◌++◌, ℕ, List, [], ◌∷◌, Bool, true, false, nat_lt, not, Option, None, Some, Result, Ok, Err, IfErr, IfOk, is_ok, refl, sym, ◌∙◌, ap, subst, arith}
use Rattle.std.proofs.lemmas.Bool.{true≢false}
use Rattle.std.proofs.lemmas.Bool.Decides.{nat_tests}
use Rattle.std.proofs.lemmas.List.{append_assoc, append-nil}
use Rattle.std.specs.declared.io.Error.{Error}
use Rattle.std.specs.declared.net.tcp.TcpListener.{TcpListener}
use Rattle.std.specs.declared.net.tcp.TcpStream.{TcpStream}
use Rattle.std.specs.declared.time.Instant.{Instant}
use Rattle.tb_desk.specs.Sockets.{Call, EndsBy, FailsBy, FailsToAsk, HasAsked, IsFailedWelcome, IsWelcome, Makes, accepted, clock_read, first_call, listener_set, stream_set, welcome}
use Rattle.tb_desk.specs.Waiting.{IsClockRead, IsLetGo, IsNext}
use Rattle.tb_desk.specs.declared.arriving.Awaited.{Awaited}
use Rattle.tb_desk.specs.declared.arriving.Awaited.TheVariants.{Head, Body, Nothing}
use Rattle.tb_desk.specs.declared.callers.Caller.{Caller}
use Rattle.tb_desk.specs.declared.waiting.Next.{Next}
use Rattle.tb_desk.specs.declared.waiting.Next.TheVariants.{Whole, Late, Broken}

-- some calls were made
abbrev pub Made : (x y : Option (List Call)) → Type 0
Made x y = (made : List Call) × Makes x y made

pub none_made : (x : Option (List Call)) → Made x x
none_made None = ([], tt)
none_made (Some s) = ([], sym (append-nil s))

pub makes_more : (x y z : Option (List Call)) (a b : List Call) → Makes x y a → Makes y z b → Makes x z (a ++ b)
makes_more None y z a b p q = tt
makes_more (Some s) None z a b p q = absurd p
makes_more (Some s) (Some t) None a b p q = q
makes_more (Some s) (Some t) (Some u) a b p q = q ∙ (ap (λ l. l ++ b) p ∙ append_assoc s a b)

pub made_more : (x y z : Option (List Call)) → Made x y → Made y z → Made x z
made_more x y z p q = (p.0 ++ q.0, makes_more x y z p.0 q.0 p.1 q.1)

pub ends_by : (x y z : Option (List Call)) (b : List Call) (last : Call) → Made x y → Makes y z (b ++ last ∷ []) → EndsBy x z last
ends_by x y z b last p q = (p.0 ++ b, subst (Makes x z) (sym (append_assoc p.0 b (last ∷ []))) (makes_more x y z p.0 (b ++ last ∷ []) p.1 q))

-- calls are made where there is room, else nothing changes
pub made_by_room : (n : ℕ) (y z : Option (List Call)) → (256 ≤ n → z ≡ y) → (n < 256 → Made y z) → Made y z
made_by_room n y z full room = by_test (nat_lt n 256) refl
  where
    by_test : (b : Bool) → nat_lt n 256 ≡ b → Made y z
    by_test true e = room (grind (arith, nat_tests, e))
    by_test false e = subst (Made y) (sym (full (grind (arith, nat_tests, e)))) (none_made y)

pub asked_made : (y z : Option (List Call)) (listener : TcpListener) (is_alone has_come : Bool) → HasAsked y z listener is_alone has_come → Made y z
asked_made y z listener is_alone has_come h = (_, h.made)

pub clock_made : (y z : Option (List Call)) (looked : Option Instant) (more : List Call) → IsClockRead y z looked more → Made y z
clock_made y z None more h = absurd h
clock_made y z (Some now) more h = (clock_read (Ok now) ∷ more, h)

pub asking_fails : (x y z : Option (List Call)) (listener : TcpListener) (is_alone : Bool) (e : Error) → Made x y → FailsToAsk y z listener is_alone e → FailsBy x z e
asking_fails x y z listener is_alone e p (inl m) = (_, refl, ends_by x y z [] _ p m)
asking_fails x y z listener is_alone e p (inr m) = (_, refl, ends_by x y z (_ ∷ []) _ p m)

pub clock_fails : (x y z : Option (List Call)) (e : Error) → Made x y → Makes y z (clock_read (Err e) ∷ []) → FailsBy x z e
clock_fails x y z e p m = (clock_read (Err e), refl, ends_by x y z [] (clock_read (Err e)) p m)

pub lets_go : (x y z : Option (List Call)) (caller : Caller) (is_whole : Bool) (next : Next) → Made x y → IsNext y z caller is_whole next → IsLetGo x z next
lets_go x y z caller is_whole (Whole served) p h = ends_by x y z [] _ p (subst (λ c. Makes y z (stream_set c.stream false (Ok tt) ∷ [])) (sym h.0) h.2)
lets_go x y z caller is_whole (Late dropped) p h = tt
lets_go x y z caller is_whole (Broken e) p h = (caller.stream, ends_by x y z [] _ p h.1)

-- a connection that waited a moment failed after that
module _ (x y z : Option (List Call)) (stream at : TcpStream) (e : Error) (same : at ≡ stream) where
  abbrev Fails : (is_alone : Bool) → Type 0
  Fails is_alone = (made : List Call) × IsFailedWelcome stream is_alone e made × Makes x z made

  second_fails : Makes x y (first_call stream true (Ok tt) ∷ []) → Makes y z (stream_set at true (Err e) ∷ []) → Fails true
  second_fails m n = (
    first_call stream true (Ok tt) ∷ (stream_set stream true (Err e) ∷ []),
    inr (refl, refl),
    makes_more x y z (first_call stream true (Ok tt) ∷ []) (stream_set stream true (Err e) ∷ []) m (subst (λ s. Makes y z (stream_set s true (Err e) ∷ [])) same n),
  )

  abbrev failed : Result (Unit {0}) Error
  failed = Err e

  never : {A : Type 0} → failed ≡ Ok tt → A
  never is = absurd (true≢false (sym (ap is_ok is)))

  pub welcome_fails : (is_alone : Bool) (awaited : Awaited) → Makes x y (first_call stream is_alone (Ok tt) ∷ [])
      → (is_alone ≡ true → awaited ≢ Nothing → Makes y z (stream_set at true (Err e) ∷ []))
      → ((is_alone ≡ false) ⊎ (awaited ≡ Nothing) → failed ≡ Ok tt) → Fails is_alone
  welcome_fails false awaited m waits others = never (others (inl refl))
  welcome_fails true Nothing m waits others = never (others (inr refl))
  welcome_fails true Head m waits others = second_fails m (waits refl (λ is. let other : Head ≡ Nothing = is in cc))
  welcome_fails true (Body whole) m waits others = second_fails m (waits refl (λ is. let other : Body whole ≡ Nothing = is in cc))

-- what was called at a connection that has come, whatever became of it
pub heard_so : (y z : Option (List Call)) (stream : TcpStream) (is_alone : Bool) (r : Result Caller Error)
    → IfOk r (λ caller. Makes y z (welcome stream is_alone caller.awaited))
    → IfErr r (λ e. (made : List Call) × IsFailedWelcome stream is_alone e made × Makes y z made)
    → (more : List Call) × IsWelcome (Ok stream) is_alone more × Makes y z more
heard_so y z stream is_alone (Ok caller) called failed = (welcome stream is_alone caller.awaited, inl (caller.awaited, refl), called)
heard_so y z stream is_alone (Err e) called failed = (failed.0, inr (e, failed.1), failed.2)

module _ (x v y : Option (List Call)) (listener : TcpListener) (is_alone : Bool) (set : Makes x v (listener_set listener (not is_alone) (Ok tt) ∷ [])) where
  abbrev asked_first : Call
  asked_first = listener_set listener (not is_alone) (Ok tt)

  pub has_asked : (z : Option (List Call)) (stream : TcpStream) → Makes v y (accepted listener (Ok stream) ∷ [])
      → (more : List Call) × IsWelcome (Ok stream) is_alone more × Makes y z more → HasAsked x z listener is_alone true
  has_asked z stream asked heard = record {
    came = Ok stream;
    more = heard.0;
    so = refl;
    welcomed = heard.1;
    made = makes_more x v z (asked_first ∷ []) (accepted listener (Ok stream) ∷ heard.0) set (makes_more v y z (accepted listener (Ok stream) ∷ []) heard.0 asked heard.2);
  }

  pub has_asked_in_vain : (e : Error) → Makes v y (accepted listener (Err e) ∷ []) → HasAsked x y listener is_alone false
  has_asked_in_vain e asked = record {
    came = Err e;
    more = [];
    so = refl;
    welcomed = refl;
    made = makes_more x v y (asked_first ∷ []) (accepted listener (Err e) ∷ []) set asked;
  }

  pub asking_failed : (e : Error) → Makes v y (accepted listener (Err e) ∷ []) → FailsToAsk x y listener is_alone e
  asking_failed e asked = inr (makes_more x v y (asked_first ∷ []) (accepted listener (Err e) ∷ []) set asked)
