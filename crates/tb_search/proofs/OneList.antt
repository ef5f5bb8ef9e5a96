-- Rows that are numbered from 1 show one list of records.
use Rattle.std.proofs.Common.{◌≡◌, ℕ, zero, suc, ◌<◌, pos, List, [], ◌∷◌, refl, sym, ap, ap₂, subst, ◌∙◌, arith, IsPermutation}
use Rattle.std.proofs.lemmas.List.Elements.{All-from_recursion}
use Rattle.std.proofs.lemmas.List.Sorted.{IsPermutation-sym, IsPermutation-trans}
use Rattle.std.specs.List.Sorted.{IsNonDecreasingBy}
use Rattle.std.specs.List.{AllByRecursion}
use Rattle.sqlite.specs.declared.types.Value.TheVariants.{Int}
use Rattle.sqlite.specs.Order.{Row, column}
use Rattle.sqlite_trees.specs.Tree.{IsAscending}
use Rattle.tb_tables.specs.Records.{Batch, Shows, numbered, batch_shown}
use Rattle.tb_reads.proofs.Order.{unique}
use Rattle.tb_reads.proofs.Ordered.{number_of}

rises_up : {X : Type 0} (n : X → ℕ) (xs : List X) → IsAscending (λ a b. n a < n b) xs → IsNonDecreasingBy n xs
rises_up n [] up i j d low within = absurd (omega (arith, within))
rises_up n (x ∷ xs) up zero zero d low within = omega arith
rises_up n (x ∷ xs) up zero (suc j) d low within =
    let above = All-from_recursion (λ b. n x < n b) xs up.0 j d (omega (arith, within)) in omega (arith, above)
rises_up n (x ∷ xs) up (suc i) zero d low within = absurd (omega (arith, low))
rises_up n (x ∷ xs) up (suc i) (suc j) d low within = rises_up n xs up.1 i j d (omega (arith, low)) (omega (arith, within))

abbrev key : Row → ℕ
key r = number_of (column r 0)

module _ {X : Type 0} (row : ℕ → X → Row) (number : (n : ℕ) (x : X) → column (row n x) 0 ≡ Int (pos n)) where
  above : (j k : ℕ) (xs : List X) → j < k → AllByRecursion (λ r. j < key r) (numbered row k xs)
  above j k [] h = tt
  above j k (x ∷ xs) h = (subst (λ v. j < number_of v) (sym (number k x)) h, above j (suc k) xs (omega (arith, h)))

  rises : (k : ℕ) (xs : List X) → IsAscending (λ a b. key a < key b) (numbered row k xs)
  rises k [] = tt
  rises k (x ∷ xs) = (subst (λ v. AllByRecursion (λ r. number_of v < key r) (numbered row (suc k) xs)) (sym (number k x)) (above k (suc k) xs (omega arith)), rises (suc k) xs)

  pub one_order : (xs ys : List X) → IsPermutation (numbered row 1 xs) (numbered row 1 ys) → numbered row 1 ys ≡ numbered row 1 xs
  one_order xs ys same = unique key (numbered row 1 xs) (numbered row 1 ys) (rises 1 xs) (rises_up key (numbered row 1 ys) (rises 1 ys)) same

  pub one_list : ((n : ℕ) (x y : X) → row n x ≡ row n y → x ≡ y) → (view : Row → Row) (xs ys : List X) (rows : List Row) → Shows view (numbered row 1 xs) rows → Shows view (numbered row 1 ys) rows → ys ≡ xs
  one_list same view xs ys rows a b = alike 1 ys xs (one_order xs ys (IsPermutation-trans _ _ _ a (IsPermutation-sym _ _ b)))
    where
      alike : (k : ℕ) (us vs : List X) → numbered row k us ≡ numbered row k vs → us ≡ vs
      alike k [] [] e = refl
      alike k [] (v ∷ vs) e = absurd cc
      alike k (u ∷ us) [] e = absurd cc
      alike k (u ∷ us) (v ∷ vs) e =
          let head : row k u ≡ row k v = cc in
          let tail : numbered row (suc k) us ≡ numbered row (suc k) vs = cc in
          ap₂ (λ a b. a ∷ b) (same k u v head) (alike (suc k) us vs tail)

-- ---- records that show the same are the same

same_name : (n : ℕ) (a b : Batch) → batch_shown n a ≡ batch_shown n b → a.name ≡ b.name
same_name n a b e = cc

same_state : (n : ℕ) (a b : Batch) → batch_shown n a ≡ batch_shown n b → a.state ≡ b.state
same_state n a b e = cc

same_worker : (n : ℕ) (a b : Batch) → batch_shown n a ≡ batch_shown n b → a.worker ≡ b.worker
same_worker n a b e = cc

abbrev batch : List ℕ → ℕ → List ℕ → Batch
batch name state worker = record { name = name; state = state; worker = worker }

pub same_batch : (n : ℕ) (a b : Batch) → batch_shown n a ≡ batch_shown n b → a ≡ b
same_batch n a b e =
    ap (λ x. batch x a.state a.worker) (same_name n a b e) ∙ ap (λ x. batch b.name x a.worker) (same_state n a b e) ∙ ap (λ x. batch b.name b.state x) (same_worker n a b e)
