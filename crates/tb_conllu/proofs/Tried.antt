-- Answers of a writer, one after the other.
use Rattle.std.proofs.Common.{◌≡◌, ℕ, ◌+◌, ◌<◌, ◌≤◌, List, [], ◌∷◌, ◌++◌, length, Option, Some, None, Err, refl, sym, ◌∙◌, ap, arith, inl, inr, append_assoc, length-append}
use Rattle.std.specs.List.{AllByRecursion}
use Rattle.tb_conllu.specs.Tries.{Answer, Answers, GoesOn, HasGivenUp, TakesNone, interruptions, one_if_interrupted, signals}
use Rattle.tb_conllu.specs.declared.sink.Stop.TheVariants.{Interrupted}

-- so far only steps: so many bytes were taken, and a signal came between so often
pub record HasStepped (old new : Option (List Answer)) (written signals : ℕ) : Type 0 where
  pub rs : List Answer
  pub grown : Answers old new rs
  pub steps : AllByRecursion GoesOn rs
  pub counted : interruptions rs ≡ signals
  pub few : length rs ≤ written + signals

pub answers_more : (a b c : Option (List Answer)) (xs ys : List Answer) → Answers a b xs → Answers b c ys → Answers a c (xs ++ ys)
answers_more None b c xs ys h k = tt
answers_more (Some qs) None c xs ys h k = absurd h
answers_more (Some qs) (Some bs) None xs ys h k = absurd k
answers_more (Some qs) (Some bs) (Some cs) xs ys h k = k ∙ ap (λ z. z ++ ys) h ∙ append_assoc qs xs ys

steps_more : (xs : List Answer) (y : Answer) → AllByRecursion GoesOn xs → GoesOn y → AllByRecursion GoesOn (xs ++ y ∷ [])
steps_more [] y h k = (k, tt)
steps_more (x ∷ xs) y h k = (h.0, steps_more xs y h.1 k)

signals_more : (xs : List Answer) (y : Answer) → interruptions (xs ++ y ∷ []) ≡ interruptions xs + one_if_interrupted y
signals_more [] y = omega arith
signals_more (x ∷ xs) y = omega (arith, signals_more xs y)

pub stepped_more : (a b c : Option (List Answer)) (w i n m : ℕ) (r : Answer) → HasStepped a b w i → Answers b c (r ∷ []) → GoesOn r
    → m ≡ i + one_if_interrupted r → w + i + 1 ≤ n + m → HasStepped a c n m
stepped_more a b c w i n m r h k go is room = record {
  rs = h.rs ++ r ∷ [];
  grown = answers_more a b c h.rs (r ∷ []) h.grown k;
  steps = steps_more h.rs r h.steps go;
  counted = signals_more h.rs r ∙ ap (λ x. x + one_if_interrupted r) h.counted ∙ sym is;
  few = omega (arith, length-append h.rs (r ∷ []), h.few, room);
}

-- no step was taken
pub given_up : (a b c : Option (List Answer)) (w i n : ℕ) (r : Answer) → HasStepped a b w i → Answers b c (r ∷ []) → TakesNone r → (GoesOn r → ⊥)
    → w < n → i < 1000 → HasGivenUp a c n
given_up a b c w i n r h k none stop room few = (
  h.rs ++ r ∷ [],
  answers_more a b c h.rs (r ∷ []) h.grown k,
  record { before = h.rs; last = r; all = refl; steps = record { steps = h.steps; patient = omega (arith, h.counted, few) }; none = none; reason = inl stop },
  omega (arith, length-append h.rs (r ∷ []), h.few, room, few),
)

-- the thousandth signal
pub out_of_patience : (a b c : Option (List Answer)) (w i n : ℕ) → HasStepped a b w i → Answers b c (Err Interrupted ∷ [])
    → w < n → i + 1 ≡ 1000 → HasGivenUp a c n
out_of_patience a b c w i n h k room last = (
  h.rs ++ Err Interrupted ∷ [],
  answers_more a b c h.rs (Err Interrupted ∷ []) h.grown k,
  record {
    before = h.rs;
    last = Err Interrupted;
    all = refl;
    steps = record { steps = h.steps; patient = omega (arith, h.counted, last) };
    none = tt;
    reason = inr (signals_more h.rs (Err Interrupted) ∙ ap (λ x. x + 1) h.counted ∙ last);
  },
  omega (arith, length-append h.rs (Err Interrupted ∷ []), h.few, room, last),
)

-- ---- a reader
