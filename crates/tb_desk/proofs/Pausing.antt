-- How often a server pauses, by how often no connection came.
use Rattle.std.proofs.Common.{◌≡◌, inl, inr, ◌≤◌, ◌<◌, ◌+◌, ◌++◌, ℕ, List, [], ◌∷◌, Bool, true, false, nat_lt, not, Option, None, Some, Result, Ok, Err, is_ok, refl, sym, ◌∙◌, ap, subst, arith}
use Rattle.std.proofs.lemmas.Bool.Decides.{nat_tests}
use Rattle.std.proofs.lemmas.List.{append-nil}
use Rattle.std.specs.declared.io.Error.{Error}
use Rattle.std.specs.declared.net.tcp.TcpListener.{TcpListener}
use Rattle.std.specs.declared.net.tcp.TcpStream.{TcpStream}
use Rattle.std.specs.declared.time.Instant.{Instant}
use Rattle.tb_desk.specs.Sockets.{Call, FailsToAsk, HasAsked, IsFailedWelcome, IsWelcome, Makes, PausesInVain, accepted, clock_read, first_call, listener_set, pause_if, pauses_by, pauses_in, stream_set, vain_by, vain_in, welcome}
use Rattle.tb_desk.specs.Waiting.{IsClockRead, IsNext}
use Rattle.tb_desk.specs.declared.arriving.Awaited.{Awaited}
use Rattle.tb_desk.specs.declared.arriving.Awaited.TheVariants.{Head, Body, Nothing}
use Rattle.tb_desk.specs.declared.callers.Caller.{Caller}
use Rattle.tb_desk.specs.declared.waiting.Next.{Next}
use Rattle.tb_desk.specs.declared.waiting.Next.TheVariants.{Whole, Late, Broken}
use Rattle.tb_desk.proofs.Making.{Made, makes_more}

three : (x y z : ℕ) → x + (y + z) ≡ (x + y) + z
three x y z = omega arith

nothing_more : (x : ℕ) → x ≡ 0 + x
nothing_more x = omega arith

vain_append : (a b : List Call) → vain_in (a ++ b) ≡ vain_in a + vain_in b
vain_append [] b = nothing_more (vain_in b)
vain_append (c ∷ a) b = ap (λ n. vain_by c + n) (vain_append a b) ∙ three (vain_by c) (vain_in a) (vain_in b)

pauses_append : (a b : List Call) → pauses_in (a ++ b) ≡ pauses_in a + pauses_in b
pauses_append [] b = nothing_more (pauses_in b)
pauses_append (c ∷ a) b = ap (λ n. pauses_by c + n) (pauses_append a b) ∙ three (pauses_by c) (pauses_in a) (pauses_in b)

-- calls that ask no listener, and do not pause
abbrev Quiet : List Call → Type 0
Quiet calls = (vain_in calls ≡ 0) × (pauses_in calls ≡ 0)

quiet_first : (stream : TcpStream) (is_alone : Bool) (done : Result (Unit {0}) Error) → Quiet (first_call stream is_alone done ∷ [])
quiet_first stream true done = (refl, refl)
quiet_first stream false done = (refl, refl)

quiet_come : (stream : TcpStream) (is_alone : Bool) (awaited : Awaited) → Quiet (welcome stream is_alone awaited)
quiet_come stream false awaited = (refl, refl)
quiet_come stream true Nothing = (refl, refl)
quiet_come stream true Head = (refl, refl)
quiet_come stream true (Body whole) = (refl, refl)

quiet_fail : (stream : TcpStream) (is_alone : Bool) (e : Error) (made : List Call) → IsFailedWelcome stream is_alone e made → Quiet made
quiet_fail stream is_alone e made (inl is) = subst Quiet (sym is) (quiet_first stream is_alone (Err e))
quiet_fail stream is_alone e made (inr (alone, is)) = subst Quiet (sym is) (refl, refl)

quiet_welcome : (came : Result TcpStream Error) (is_alone : Bool) (more : List Call) → IsWelcome came is_alone more → Quiet more
quiet_welcome (Ok stream) is_alone more (inl (awaited, is)) = subst Quiet (sym is) (quiet_come stream is_alone awaited)
quiet_welcome (Ok stream) is_alone more (inr (e, fails)) = quiet_fail stream is_alone e more fails
quiet_welcome (Err e) is_alone more is = subst Quiet (sym is) (refl, refl)

-- whether a question was in vain
abbrev vain_unless : Bool → ℕ
vain_unless true = 0
vain_unless false = 1

-- a question, and what follows it
abbrev Asks : Bool → List Call → Type 0
Asks has_come calls = (vain_in calls ≡ vain_unless has_come) × (pauses_in calls ≡ 0)

question : (came : Result TcpStream Error) (listener : TcpListener) (nonblocking : Bool) (more : List Call) → Quiet more
    → Asks (is_ok came) (listener_set listener nonblocking (Ok tt) ∷ (accepted listener came ∷ more))
question (Ok stream) listener nonblocking more quiet = (subst (λ n. 0 + (0 + n) ≡ 0) (sym quiet.0) refl, subst (λ n. 0 + (0 + n) ≡ 0) (sym quiet.1) refl)
question (Err e) listener nonblocking more quiet = (subst (λ n. 0 + (1 + n) ≡ 1) (sym quiet.0) refl, subst (λ n. 0 + (0 + n) ≡ 0) (sym quiet.1) refl)

asked_so : (y z : Option (List Call)) (listener : TcpListener) (is_alone has_come : Bool) → HasAsked y z listener is_alone has_come → (made : List Call) × Makes y z made × Asks has_come made
asked_so y z listener is_alone has_come h = (
  listener_set listener (not is_alone) (Ok tt) ∷ (accepted listener h.came ∷ h.more),
  h.made,
  subst (λ b. Asks b (listener_set listener (not is_alone) (Ok tt) ∷ (accepted listener h.came ∷ h.more))) (sym h.so) (question h.came listener (not is_alone) h.more (quiet_welcome h.came is_alone h.more h.welcomed)),
)

pause_so : (has_come : Bool) → (pauses_in (pause_if (not has_come)) ≡ vain_unless has_come) × (vain_in (pause_if (not has_come)) ≡ 0)
pause_so true = (refl, refl)
pause_so false = (refl, refl)

none_makes : (x : Option (List Call)) → Makes x x []
none_makes None = tt
none_makes (Some s) = sym (append-nil s)

clock_makes : (y z : Option (List Call)) (looked : Option Instant) → IsClockRead y z looked [] → (made : List Call) × Makes y z made × Quiet made
clock_makes y z None h = absurd h
clock_makes y z (Some now) h = (clock_read (Ok now) ∷ [], h, (refl, refl))

-- each time that no connection came a pause was made, and no other
abbrev pub Evenly : (x y : Option (List Call)) → Type 0
Evenly x y = (made : List Call) × Makes x y made × (vain_in made ≡ pauses_in made)

pub even_made : (x y : Option (List Call)) → Evenly x y → Made x y
even_made x y h = (h.0, h.1)

pub even_none : (x : Option (List Call)) → Evenly x x
even_none x = ([], none_makes x, refl)

same_sum : (a b c d : ℕ) → a ≡ c → b ≡ d → a + b ≡ c + d
same_sum a b c d p q = ap (λ n. n + b) p ∙ ap (λ n. c + n) q

pub even_more : (x y z : Option (List Call)) → Evenly x y → Evenly y z → Evenly x z
even_more x y z p q = (
  p.0 ++ q.0,
  makes_more x y z p.0 q.0 p.1 q.1,
  vain_append p.0 q.0 ∙ same_sum (vain_in p.0) (vain_in q.0) (pauses_in p.0) (pauses_in q.0) p.2 q.2 ∙ sym (pauses_append p.0 q.0),
)

round_sum : (va vb vc pa pb pc : ℕ) → va ≡ pc → pa ≡ 0 → vb ≡ 0 → pb ≡ 0 → vc ≡ 0 → va + (vb + vc) ≡ pa + (pb + pc)
round_sum va vb vc pa pb pc e1 e2 e3 e4 e5 = omega (arith, e1, e2, e3, e4, e5)

three_even : (x y z w : Option (List Call)) (a b c : List Call) → Makes x y a → Makes y z b → Makes z w c → vain_in a ≡ pauses_in c → pauses_in a ≡ 0 → Quiet b → vain_in c ≡ 0 → Evenly x w
three_even x y z w a b c pa pb pc even none quiet rest = (
  a ++ (b ++ c),
  makes_more x y w a (b ++ c) pa (makes_more y z w b c pb pc),
  (vain_append a (b ++ c) ∙ ap (λ n. vain_in a + n) (vain_append b c)) ∙ (round_sum (vain_in a) (vain_in b) (vain_in c) (pauses_in a) (pauses_in b) (pauses_in c) even none quiet.0 quiet.1 rest
      ∙ sym (pauses_append a (b ++ c) ∙ ap (λ n. pauses_in a + n) (pauses_append b c))),
)

-- a turn: a question, a look and a rest
module _ (n m : ℕ) (listener : TcpListener) (is_alone has_come : Bool) (x y z w : Option (List Call)) (looked : Option Instant)
    (full : 256 ≤ n → y ≡ x) (asked : n < 256 → HasAsked x y listener is_alone has_come) (look : IsClockRead y z looked [])
    (waits : 256 ≤ m → w ≡ z) (paused : m < 256 → Makes z w (pause_if (not has_come)))
    (stays : 256 ≤ n → 256 ≤ m) (few : n < 256 → has_come ≡ false → m < 256) where
  no_rest : 256 ≤ m → Makes z w []
  no_rest h = subst (λ w. Makes z w []) (sym (waits h)) (none_makes z)

  no_question : 256 ≤ n → Makes x y []
  no_question h = subst (λ y. Makes x y []) (sym (full h)) (none_makes x)

  come_where_full : (b : Bool) → has_come ≡ b → n < 256 → 256 ≤ m → vain_unless has_come ≡ 0
  come_where_full true is p q = ap vain_unless is
  come_where_full false is p q = let less = few p is in let never : ⊥ = omega (arith, less, q) in absurd never

  by_tests : (a b : Bool) → nat_lt n 256 ≡ a → nat_lt m 256 ≡ b → Evenly x w
  by_tests true true p q =
      let h = asked_so x y listener is_alone has_come (asked (grind (arith, nat_tests, p))) in
      let l = clock_makes y z looked look in
      let r = pause_so has_come in
      three_even x y z w h.0 l.0 (pause_if (not has_come)) h.1 l.1 (paused (grind (arith, nat_tests, q))) (h.2.0 ∙ sym r.0) h.2.1 l.2 r.1
  by_tests true false p q =
      let h = asked_so x y listener is_alone has_come (asked (grind (arith, nat_tests, p))) in
      let l = clock_makes y z looked look in
      three_even x y z w h.0 l.0 [] h.1 l.1 (no_rest (grind (arith, nat_tests, q))) (h.2.0 ∙ come_where_full has_come refl (grind (arith, nat_tests, p)) (grind (arith, nat_tests, q))) h.2.1 l.2 refl
  by_tests false b p q =
      let l = clock_makes y z looked look in
      let many : 256 ≤ n = grind (arith, nat_tests, p) in
      three_even x y z w [] l.0 [] (no_question many) l.1 (no_rest (stays many)) refl refl l.2 refl

  pub turn_even : Evenly x w
  turn_even = by_tests (nat_lt n 256) (nat_lt m 256) refl refl

-- calls without a pause, of which one at most asked in vain
abbrev pub OnceInVain : (x y : Option (List Call)) → Type 0
OnceInVain x y = (made : List Call) × Makes x y made × (pauses_in made ≡ 0) × (vain_in made ≤ 1)

once_of : (x y : Option (List Call)) (has_come : Bool) → (made : List Call) × Makes x y made × Asks has_come made → OnceInVain x y
once_of x y true h = (h.0, h.1, h.2.1, let none : vain_in h.0 ≡ 0 = h.2.0 in omega (arith, none))
once_of x y false h = (h.0, h.1, h.2.1, let one : vain_in h.0 ≡ 1 = h.2.0 in omega (arith, one))

pub asked_once : (n : ℕ) (listener : TcpListener) (is_alone has_come : Bool) (x y : Option (List Call)) → (256 ≤ n → y ≡ x) → (n < 256 → HasAsked x y listener is_alone has_come) → OnceInVain x y
asked_once n listener is_alone has_come x y full asked = by_test (nat_lt n 256) refl
  where
    by_test : (b : Bool) → nat_lt n 256 ≡ b → OnceInVain x y
    by_test true p = once_of x y has_come (asked_so x y listener is_alone has_come (asked (grind (arith, nat_tests, p))))
    by_test false p = ([], subst (λ y. Makes x y []) (sym (full (grind (arith, nat_tests, p)))) (none_makes x), refl, let least : 0 ≤ 1 = omega arith in least)

pub fails_once : (x y : Option (List Call)) (listener : TcpListener) (is_alone : Bool) (e : Error) → FailsToAsk x y listener is_alone e → OnceInVain x y
fails_once x y listener is_alone e (inl m) = (_, m, refl, let least : 0 ≤ 1 = omega arith in least)
fails_once x y listener is_alone e (inr m) = (_, m, refl, let least : 1 ≤ 1 = omega arith in least)

quiet_sum : (va vb : ℕ) → va ≤ 1 → vb ≡ 0 → va + vb ≤ 1
quiet_sum va vb few none = omega (arith, few, none)

once_then : (x y z : Option (List Call)) → OnceInVain x y → (b : List Call) → Makes y z b → Quiet b → OnceInVain x z
once_then x y z h b m quiet = (
  h.0 ++ b,
  makes_more x y z h.0 b h.1 m,
  pauses_append h.0 b ∙ same_sum (pauses_in h.0) (pauses_in b) 0 0 h.2 quiet.1,
  subst (λ n. n ≤ 1) (sym (vain_append h.0 b)) (quiet_sum (vain_in h.0) (vain_in b) h.3 quiet.0),
)

pub once_looked : (x y z : Option (List Call)) (looked : Option Instant) → OnceInVain x y → IsClockRead y z looked [] → OnceInVain x z
once_looked x y z looked h look = let l = clock_makes y z looked look in once_then x y z h l.0 l.1 l.2

pub once_unlooked : (x y z : Option (List Call)) (e : Error) → OnceInVain x y → Makes y z (clock_read (Err e) ∷ []) → OnceInVain x z
once_unlooked x y z e h m = once_then x y z h (clock_read (Err e) ∷ []) m (refl, refl)

pub once_next : (x y z : Option (List Call)) (caller : Caller) (is_whole : Bool) (next : Next) → OnceInVain x y → IsNext y z caller is_whole next → OnceInVain x z
once_next x y z caller is_whole (Whole served) h is = once_then x y z h (stream_set caller.stream false (Ok tt) ∷ []) is.2 (refl, refl)
once_next x y z caller is_whole (Late dropped) h is = once_then x y z h [] is.2 (refl, refl)
once_next x y z caller is_whole (Broken e) h is = once_then x y z h (stream_set caller.stream false (Err e) ∷ []) is.1 (refl, refl)

end_sum : (va vb pa pb : ℕ) → va ≡ pa → pb ≡ 0 → vb ≤ 1 → (pa + pb ≤ va + vb) × (va + vb ≤ (pa + pb) + 1)
end_sum va vb pa pb even none few = (omega (arith, even, none, few), omega (arith, even, none, few))

pub even_then : (x y z : Option (List Call)) → Evenly x y → OnceInVain y z → PausesInVain x z
even_then x y z p q =
    let s = end_sum (vain_in p.0) (vain_in q.0) (pauses_in p.0) (pauses_in q.0) p.2 q.2 q.3 in
    let v = vain_append p.0 q.0 in
    let w = pauses_append p.0 q.0 in (
      p.0 ++ q.0,
      makes_more x y z p.0 q.0 p.1 q.1,
      subst (λ n. n ≤ vain_in (p.0 ++ q.0)) (sym w) (subst (λ n. pauses_in p.0 + pauses_in q.0 ≤ n) (sym v) s.0),
      subst (λ n. n ≤ pauses_in (p.0 ++ q.0) + 1) (sym v) (subst (λ n. vain_in p.0 + vain_in q.0 ≤ n + 1) (sym w) s.1),
    )

pub even_pauses : (x y : Option (List Call)) → Evenly x y → PausesInVain x y
even_pauses x y h = even_then x y y h ([], none_makes y, refl, let least : 0 ≤ 1 = omega arith in least)
