-- Calls after calls, while a command waits for a file.
use Rattle.std.proofs.Common.{◌≡◌, ◌≤◌, ◌++◌, ◌+◌, ◌^◌, ◌-◌, ℕ, List, [], ◌∷◌, length, Option, Some, None, Ok, refl, sym, ◌∙◌, ap, subst, inl, inr, arith}
use Rattle.std.proofs.lemmas.List.{append_assoc, append-nil, length-append}
use Rattle.std.specs.Duration.{as_nanos}
use Rattle.std.specs.declared.time.Duration.{Duration}
use Rattle.sqlite_std_file.specs.declared.pair.OpenError.{OpenError}
use Rattle.tb_host.specs.Awaiting.{AreVain, Call, HasWaited, IsVainWait, IsWait, Makes, clock_read, locked, none, one_more, paused}
use Rattle.tb_host.specs.Causes.{IsPathCause}
use Rattle.tb_host.specs.Patience.{IsPause}
use Rattle.tb_host.specs.declared.causes.FileCause.{FileCause}
use Rattle.tb_host.specs.declared.causes.FileCause.TheVariants.{Busy}

pub makes_none : (x : Option (List Call)) → Makes x x []
makes_none None = tt
makes_none (Some s) = sym (append-nil s)

pub makes_more : {C : Type 0} (x y z : Option (List C)) (a b : List C) → Makes x y a → Makes y z b → Makes x z (a ++ b)
makes_more None y z a b p q = tt
makes_more (Some s) None z a b p q = absurd p
makes_more (Some s) (Some t) None a b p q = q
makes_more (Some s) (Some t) (Some u) a b p q = q ∙ (ap (λ l. l ++ b) p ∙ append_assoc s a b)

pub waited_so : (x y u z : Option (List Call)) (waited pause : Duration) → Makes x y (clock_read (Ok waited) ∷ []) → u ≡ y → IsPause (as_nanos waited) (Some pause)
    → Makes u z (paused (as_nanos pause) ∷ []) → (made : List Call) × Makes x z made × IsWait made
waited_so x y u z waited pause p same is q = (
  clock_read (Ok waited) ∷ (paused (as_nanos pause) ∷ []),
  makes_more x y z (clock_read (Ok waited) ∷ []) (paused (as_nanos pause) ∷ []) p (subst (λ u. Makes u z (paused (as_nanos pause) ∷ [])) same q),
  (waited, pause, is, refl),
)

-- so many attempts were in vain
abbrev pub Tried : (x y : Option (List Call)) (count : ℕ) → Type 0
Tried x y count = (vain : List Call) × AreVain vain × Makes x y vain × (count ≤ length vain)

pub none_tried : (x : Option (List Call)) → Tried x x 0
none_tried x = ([], none, makes_none x, omega (arith))

module _ (x y z : Option (List Call)) (count : ℕ) (before : Tried x y count) (e : OpenError) (tried : Makes y z (locked (Some e) ∷ [])) where
  pub tried_more : (u : Option (List Call)) → IsPathCause e None → (made : List Call) × Makes z u made × IsWait made → Tried x u (count + 1)
  tried_more u busy wait = (
    before.0 ++ locked (Some e) ∷ wait.0,
    one_more before.0 e wait.0 before.1 busy wait.2,
    makes_more x y u before.0 (locked (Some e) ∷ wait.0) before.2 (makes_more y z u (locked (Some e) ∷ []) wait.0 tried wait.1),
    omega (arith, before.3, length-append before.0 (locked (Some e) ∷ wait.0)),
  )

  pub waited_in_vain : (u : Option (List Call)) (cause : FileCause) → IsPathCause e None → (made : List Call) × Makes z u made × IsVainWait made cause → HasWaited x u (Some cause)
  waited_in_vain u cause busy wait = (
    before.0,
    before.1,
    inl (
      locked (Some e) ∷ wait.0,
      (e, inr (busy, wait.0, wait.2, refl)),
      makes_more x y u before.0 (locked (Some e) ∷ wait.0) before.2 (makes_more y z u (locked (Some e) ∷ []) wait.0 tried wait.1),
    ),
  )

  pub refused_so : (cause : FileCause) → IsPathCause e (Some cause) → HasWaited x z (Some cause)
  refused_so cause is = (before.0, before.1, inl (locked (Some e) ∷ [], (e, inl (is, refl)), makes_more x y z before.0 (locked (Some e) ∷ []) before.2 tried))

pub locked_so : (x y z : Option (List Call)) (count : ℕ) → Tried x y count → Makes y z (locked None ∷ []) → HasWaited x z None
locked_so x y z count before tried = (before.0, before.1, inl (locked None ∷ [], refl, makes_more x y z before.0 (locked None ∷ []) before.2 tried))

pub gave_up : (x y : Option (List Call)) → Tried x y (2 ^ 64 - 1) → HasWaited x y (Some Busy)
gave_up x y before = (before.0, before.1, inr (before.3, refl, before.2))
