-- A sentence that is not pulled has no row among those that are.
use Rattle.std.proofs.Common.{◌≡◌, ℕ, zero, suc, ◌+◌, ◌-◌, ◌<◌, List, [], ◌∷◌, Bool, true, false, cond, Some, slice_get, ap, ◌∙◌, arith}
use Rattle.std.proofs.lemmas.Option.{same_Some}
use Rattle.tb_core.specs.Machine as machine
use Rattle.tb_core.specs.declared.kinds.State.TheVariants.{Withdrawn}
use Rattle.tb_core.specs.declared.refusals.Refusal.TheVariants.{WrongState}
use Rattle.tb_core.specs.Events.{is_state}
use Rattle.tb_core.specs.Machine.{Machine, batch_with}
use Rattle.tb_core.specs.Acts.{IsAllowed, pulling}
use Rattle.tb_core.specs.Rows.{pulled_from}
use Rattle.tb_core.proofs.Balance.{pull_was}
use Rattle.tb_tables.specs.Failing.{Lacks}

below : (m n : ℕ) (xs : List machine.Sentence) → m < n → Lacks (pulled_from n xs) m
below m n [] low = tt
below m n (x ∷ xs) low = by x.pulled (below m (n + 1) xs (omega (arith, low)))
  where
    by : (b : Bool) → Lacks (pulled_from (n + 1) xs) m → Lacks (cond b (n ∷ pulled_from (n + 1) xs) (pulled_from (n + 1) xs)) m
    by true rest = ((λ e. omega (arith, low, e)), rest)
    by false rest = rest

-- a sentence that is not pulled is none of their numbers
pub lacks_pulled : (m n i : ℕ) (xs : List machine.Sentence) (x : machine.Sentence) → m ≡ n + i → slice_get xs i ≡ Some x → x.pulled ≡ false → Lacks (pulled_from n xs) m
lacks_pulled m n i [] x at there none = absurd cc
lacks_pulled m n zero (y ∷ ys) x at there none = by y.pulled (ap (λ (z : machine.Sentence). z.pulled) (same_Some y x there) ∙ none)
  where
    by : (b : Bool) → b ≡ false → Lacks (cond b (n ∷ pulled_from (n + 1) ys) (pulled_from (n + 1) ys)) m
    by true e = absurd cc
    by false e = below m (n + 1) ys (omega (arith, at))
lacks_pulled m n (suc i) (y ∷ ys) x at there none = by y.pulled (lacks_pulled m (n + 1) i ys x (omega (arith, at)) there none)
  where
    by : (b : Bool) → Lacks (pulled_from (n + 1) ys) m → Lacks (cond b (n ∷ pulled_from (n + 1) ys) (pulled_from (n + 1) ys)) m
    by true rest = ((λ e. omega (arith, at, e)), rest)
    by false rest = rest

pub unpulled_lacks : (s : Machine) (number : ℕ) (user : List ℕ) → 0 < number → IsAllowed s (pulling (number - 1) user) → Lacks (pulled_from 1 s.sentences) number
unpulled_lacks s number user counted allowed =
    let x = allowed.sentence in
    let st = (batch_with s.batches x.batch).state in
    let none = pull_was (is_state st Withdrawn) x.pulled (WrongState st) allowed.decided in
    lacks_pulled number 1 (number - 1) s.sentences x (omega (arith, counted)) allowed.there none
