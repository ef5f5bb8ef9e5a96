-- What is found by a number.
use Rattle.std.proofs.Common.{◌≡◌, ℕ, zero, suc, ◌+◌, ◌-◌, ◌<◌, List, [], ◌∷◌, map, length, Bool, true, false, Some, None, slice_get, option_map, IsTrue, ◌↔◌, refl, sym, ap, subst, ◌∙◌, arith, Contains, slice_index_or}
use Rattle.std.specs.List.{AllByRecursion}
use Rattle.std.proofs.lemmas.Option.{slice_get-map, same_Some}
use Rattle.tb_core.specs.Machine as machine
use Rattle.tb_core.specs.Machine.{Machine, batch_with, no_batch}
use Rattle.tb_core.specs.Acts.{state_at}
use Rattle.tb_core.specs.Keeping.{IsPlaced}
use Rattle.tb_core.proofs.Weights.{all_there, weight_there}
use Rattle.tb_refine.specs.DeskTables.{tables_of}
use Rattle.tb_refine.proofs.Telltale.{pulled_reported}

-- ---- what stands is found

pub none_lacks : {X Y : Type 0} (f : X → Y) (xs : List X) (i : ℕ) (x : X) → slice_get xs i ≡ Some x → None ≡ slice_get (map f xs) i → ⊥
none_lacks f xs i x there lacks =
    let both : None ≡ Some (f x) = lacks ∙ slice_get-map f xs i ∙ ap (option_map f) there in
    absurd cc

pub row_reported : {X Y : Type 0} (f : X → Y) (xs : List X) (i : ℕ) (x : X) (row : Y) → Some row ≡ slice_get (map f xs) i → slice_get xs i ≡ Some x → row ≡ f x
row_reported f xs i x row read there = same_Some row (f x) (read ∙ slice_get-map f xs i ∙ ap (option_map f) there)

-- ---- the batch of a sentence

got_batch : (bs : List machine.Batch) (i : ℕ) → i < length bs → slice_get bs i ≡ Some (slice_index_or bs i no_batch)
got_batch [] i low = absurd (omega (arith, low))
got_batch (b ∷ bs) zero low = refl
got_batch (b ∷ bs) (suc i) low = got_batch bs i (omega (arith, low))

pub placed_above : (s : Machine) (i : ℕ) (x : machine.Sentence) → AllByRecursion (IsPlaced (length s.batches)) s.sentences → slice_get s.sentences i ≡ Some x → 0 < x.batch
placed_above s i x all there = let at = all_there (IsPlaced (length s.batches)) s.sentences i x there all in omega (arith, at.0)

pub own_batch : (s : Machine) (i : ℕ) (x : machine.Sentence) → AllByRecursion (IsPlaced (length s.batches)) s.sentences → slice_get s.sentences i ≡ Some x → slice_get s.batches (x.batch - 1) ≡ Some (batch_with s.batches x.batch)
own_batch s i x all there =
    let at = all_there (IsPlaced (length s.batches)) s.sentences i x there all in
    got_batch s.batches (x.batch - 1) (omega (arith, at.0, at.1))

-- ---- whether a sentence is pulled

-- two answers to one question
same_answer : (a b : Bool) (P : Type 0) → (IsTrue a ↔ P) → ((b ≡ true) ↔ P) → a ≡ b
same_answer true true P h k = refl
same_answer true false P h k = absurd (let e : false ≡ true = k.1 (h.0 refl) in cc)
same_answer false true P h k = absurd (let e : false ≡ true = h.1 (k.0 refl) in cc)
same_answer false false P h k = refl

pub flag_reported : (s : Machine) (number : ℕ) (x : machine.Sentence) (found : Bool) → 0 < number → slice_get s.sentences (number - 1) ≡ Some x → (IsTrue found ↔ Contains (tables_of s).pulled number) → found ≡ x.pulled
flag_reported s number x found above there h =
    let at : (number - 1) + 1 ≡ number = omega (arith, above) in
    same_answer found x.pulled (Contains (tables_of s).pulled number) h (subst (λ n. (x.pulled ≡ true) ↔ Contains (tables_of s).pulled n) at (pulled_reported s (number - 1) x there))

-- ---- the state of a sentence

-- the state of its batch is that at its place
pub own_state : (s : Machine) (place : ℕ) (x : machine.Sentence) → slice_get s.sentences place ≡ Some x → (batch_with s.batches x.batch).state ≡ state_at s place
own_state s place x there = ap (λ n. (batch_with s.batches n).state) (sym (weight_there (λ (y : machine.Sentence). y.batch) s.sentences place x there))
