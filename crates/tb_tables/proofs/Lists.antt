-- Rows in the order of their numbers, and tests of values.
use Rattle.std.proofs.Common.{◌≡◌, ◌<◌, ◌+◌, ℕ, zero, suc, pos, ℤ, List, [], ◌∷◌, ◌++◌, length, map, Bool, true, false, cond, refl, ap, subst, ◌∙◌, arith, Less, Equal, Greater, slice_get, slice_set, ◌&&◌, ◌||◌, if◌then◌else◌}
use Rattle.std.proofs.lemmas.Bool.Decides.{nat_tests}
use Rattle.std.proofs.lemmas.Int.{ints}
use Rattle.std.specs.List.{flat_map}
use Rattle.std.specs.Option.{option_to_list}
use Rattle.sqlite.specs.declared.types.Value.{Value}
use Rattle.sqlite.specs.declared.types.Value.TheVariants.{Null, Int}
use Rattle.sqlite.specs.Order.{Row, column, value_cmp}
use Rattle.sqlite.specs.Tree.{rowid, put_row, without_rowid}
use Rattle.sqlite.specs.Ops.{unary, binary, is_true}
use Rattle.sqlite.specs.Cast.{cast}
use Rattle.sqlite.specs.Kind.TheVariants.{Integer}
use Rattle.sqlite_value.proofs.OrderLemmas.{value_cmp-Int}
use Rattle.sqlite_sql.specs.declared.ops.BinaryOp.TheVariants.{Compare}
use Rattle.sqlite_sql.specs.declared.ops.CompareOp.TheVariants.{Eq}
use Rattle.sqlite.specs.Collation.TheVariants.{Binary}
use Rattle.std.specs.Prelude.{IsPermutation}
use Rattle.std.specs.Ordering.{is_eq, match_ordering}
use Rattle.std.specs.declared.cmp.Ordering.{Ordering}
use Rattle.std.proofs.lemmas.List.Sorted.{IsPermutation-trans, IsPermutation-append_left, IsPermutation-append_right, IsPermutation-append_comm}
use Rattle.sqlite_rules.specs.Edit.{is_taken}
use Rattle.tb_tables.specs.Records.{numbered}

-- A row whose rowid is not taken goes in somewhere.
pub put_moves : (new : Row) (rows : List Row) → is_taken rows new ≡ false → IsPermutation (new ∷ rows) (put_row new rows)
put_moves new [] free = record { moves = []; below = tt; is = refl }
put_moves new (r ∷ rs) free = placed (put_moves new rs) (value_cmp (rowid r) (rowid new)) free
  where
    placed : (is_taken rs new ≡ false → IsPermutation (new ∷ rs) (put_row new rs)) → (o : Ordering) → (is_eq o || is_taken rs new) ≡ false → IsPermutation (new ∷ r ∷ rs) (match_ordering o (r ∷ put_row new rs) (new ∷ rs) (new ∷ r ∷ rs))
    placed more Less h =
        IsPermutation-trans (new ∷ r ∷ rs) (r ∷ new ∷ rs) (r ∷ put_row new rs)
        (IsPermutation-append_left rs (new ∷ r ∷ []) (r ∷ new ∷ []) (IsPermutation-append_comm (new ∷ []) (r ∷ [])))
        (IsPermutation-append_right (r ∷ []) (new ∷ rs) (put_row new rs) (more h))
    placed more Equal h = absurd cc
    placed more Greater h = record { moves = []; below = tt; is = refl }

either : (b : Bool) (x : Value) → cond b x x ≡ x
either true x = refl
either false x = refl

pub cast_int : (n : ℤ) → cast Integer (Int n) ≡ Int n
unfolding unary
cast_int n = either _ (Int n)

pub cast_null : cast Integer Null ≡ Null
unfolding unary
cast_null = either _ Null

pub lower : (m n : ℕ) → m < n → value_cmp (Int (pos m)) (Int (pos n)) ≡ Less
lower m n h = value_cmp-Int (pos m) (pos n) ∙ grind (arith, ints, nat_tests)

pub higher : (m n : ℕ) → n < m → value_cmp (Int (pos m)) (Int (pos n)) ≡ Greater
higher m n h = value_cmp-Int (pos m) (pos n) ∙ grind (arith, ints, nat_tests)

pub tied : (m n : ℕ) → m ≡ n → value_cmp (Int (pos m)) (Int (pos n)) ≡ Equal
tied m n h = value_cmp-Int (pos m) (pos n) ∙ grind (arith, ints, nat_tests)

-- the test of a number against a number
abbrev pub equals : Value → Value → Bool
equals a b = is_true (binary (Compare Eq Binary) a b)

pub differs_below : (m n : ℕ) → m < n → equals (Int (pos m)) (Int (pos n)) ≡ false
unfolding binary
differs_below m n h = rw (lower m n h) refl

pub differs_above : (m n : ℕ) → n < m → equals (Int (pos m)) (Int (pos n)) ≡ false
unfolding binary
differs_above m n h = rw (higher m n h) refl

pub equals_same : (m n : ℕ) → m ≡ n → equals (Int (pos m)) (Int (pos n)) ≡ true
unfolding binary
equals_same m n h = rw (tied m n h) refl

-- what WHERE keeps
abbrev pub found : {E : Type 0} → (Row → E) → ℕ → List Row → List E
found make n = flat_map (λ r. if equals (column r 0) (Int (pos n)) && true then make r ∷ [] else [])

module _ {X : Type 0} (row : ℕ → X → Row) (keyed : (n : ℕ) (x : X) → rowid (row n x) ≡ Int (pos n)) where
  pub put_next : (k m : ℕ) (xs : List X) (x : X) → m ≡ k + length xs → put_row (row m x) (numbered row k xs) ≡ numbered row k (xs ++ x ∷ [])
  put_next k m [] x e = let same : m ≡ k = omega (arith, e) in rw same
  put_next k m (y ∷ ys) x e =
      rw (keyed k y, keyed m x, lower k m (omega (arith, e))) (ap (λ r. row k y ∷ r) (put_next (suc k) m ys x (omega (arith, e))))

  kept_above : (k n : ℕ) (xs : List X) → n < k → without_rowid (pos n) (numbered row k xs) ≡ numbered row k xs
  kept_above k n [] h = refl
  kept_above k n (y ∷ ys) h = rw (keyed k y, higher k n h) (ap (λ r. row k y ∷ r) (kept_above (suc k) n ys (omega (arith, h))))

  put_first : (k : ℕ) (xs : List X) (x : X) → put_row (row k x) (numbered row (suc k) xs) ≡ row k x ∷ numbered row (suc k) xs
  put_first k [] x = refl
  put_first k (y ∷ ys) x = rw (keyed (suc k) y, keyed k x, higher (suc k) k (omega arith)) refl

  pub replaced : (j k n : ℕ) (xs : List X) (x : X) → n ≡ k + j → j < length xs → put_row (row n x) (without_rowid (pos n) (numbered row k xs)) ≡ numbered row k (slice_set xs j x)
  replaced j k n [] x e h = absurd (omega (arith, h))
  replaced zero k n (y ∷ ys) x e h =
      let same : k ≡ n = omega (arith, e) in
      rw (keyed k y, tied k n same, kept_above (suc k) n ys (omega (arith, e))) (subst (λ m. put_row (row m x) (numbered row (suc k) ys) ≡ row k x ∷ numbered row (suc k) ys) same (put_first k ys x))
  replaced (suc j) k n (y ∷ ys) x e h =
      rw (keyed k y, lower k n (omega (arith, e)), keyed k y, keyed n x, lower k n (omega (arith, e)))
      (ap (λ r. row k y ∷ r) (replaced j (suc k) n ys x (omega (arith, e)) (omega (arith, h))))

  none_above : {E : Type 0} (make : Row → E) (k n : ℕ) (xs : List X) → n < k → found make n (numbered row k xs) ≡ []
  none_above make k n [] h = refl
  none_above make k n (y ∷ ys) h = rw (keyed k y, differs_above k n h) (none_above make (suc k) n ys (omega (arith, h)))

  pub found_one : {E : Type 0} (make : Row → E) (j k n : ℕ) (xs : List X) → n ≡ k + j → found make n (numbered row k xs) ≡ map (λ x. make (row n x)) (option_to_list (slice_get xs j))
  found_one make j k n [] e = refl
  found_one make zero k n (y ∷ ys) e =
      let same : k ≡ n = omega (arith, e) in
      rw (keyed k y, equals_same k n same, none_above make (suc k) n ys (omega (arith, e))) (ap (λ m. make (row m y) ∷ []) same)
  found_one make (suc j) k n (y ∷ ys) e = rw (keyed k y, differs_below k n (omega (arith, e))) (found_one make j (suc k) n ys (omega (arith, e)))
