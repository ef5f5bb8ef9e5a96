-- The rows of a file show one list of records each, in whatever order they stand.
use Rattle.std.proofs.Common.{◌≡◌, ◌⊎◌, inl, inr, ℕ, zero, suc, pos, ◌+◌, ◌*◌, ◌≤◌, ◌<◌, List, [], ◌∷◌, ◌++◌, length, map, get_or, Bool, true, false, cond, refl, sym, ◌∙◌, ap, subst, arith, Contains, IsPermutation, length-append}
use Rattle.std.specs.List.{AllByRecursion}
use Rattle.std.proofs.lemmas.List.Sorted.{IsPermutation-sym, IsPermutation-trans, IsPermutation-map, Contains-permutation}
use Rattle.sqlite.specs.declared.types.Value.{Value}
use Rattle.sqlite.specs.declared.types.Value.TheVariants.{Null, Int, Text}
use Rattle.sqlite.specs.Order.{Row}
use Rattle.sqlite.specs.Tree.{Trees}
use Rattle.tb_core.specs.Machine as machine
use Rattle.tb_core.specs.Machine.{Machine, revisions}
use Rattle.tb_core.specs.Reaching.{IsReachable}
use Rattle.tb_core.specs.Rows.{RevisionRow, revision_rows, revisions_from, pulled_from}
use Rattle.tb_core.proofs.Weights.{all_append, all_mapped}
use Rattle.tb_tables.specs.Records.{Tables, Batch, Sentence, Revision, Move, Total, AreStored, Shows, numbered, batch_shown, sentence_shown, revision_shown, move_shown, total_shown, number_shown, batch_view, sentence_view, revision_view, move_view, total_view, number_view}
use Rattle.tb_refine.specs.DeskTables.{revision_record, tables_of}
use Rattle.tb_refine.specs.Found.{IsSame}
use Rattle.tb_refine.proofs.Places.{tables_is}
use Rattle.tb_refine.proofs.Lasting.{IsRevisedBelow, sound}

-- ---- lists whose keys rise are told by what they contain

abbrev pub IsRising : {X : Type 0} → (X → ℕ) → List X → Type 0
IsRising {X} key [] = Unit {0}
IsRising {X} key (x ∷ xs) = AllByRecursion (λ y. key x < key y) xs × IsRising key xs

module _ {X : Type 0} where
  pub contains_cases : (y : X) (ys : List X) (x : X) → Contains (y ∷ ys) x → (y ≡ x) ⊎ Contains ys x
  contains_cases y ys x h = go h.0 h.1 h.2
    where
      go : (k : ℕ) → suc k ≤ length (y ∷ ys) → get_or (y ∷ ys) k x ≡ x → (y ≡ x) ⊎ Contains ys x
      go zero within is = inl is
      go (suc k) within is = inr (k, omega arith, is)

  pub contains_later : (y : X) (ys : List X) (x : X) → Contains ys x → Contains (y ∷ ys) x
  contains_later y ys x h = (suc h.0, omega (arith, h.1), h.2)

  pub first_in : (y : X) (ys : List X) → Contains (y ∷ ys) y
  first_in y ys = (0, omega arith, refl)

module _ {X : Type 0} (key : X → ℕ) where
  above_all : (t b : X) (ts : List X) → AllByRecursion (λ z. key t < key z) ts → Contains ts b → key t < key b
  above_all t b [] all h = absurd (omega (arith, h.1))
  above_all t b (z ∷ ts) all h = elim (contains_cases z ts b h) [ inl same ↦ subst (λ w. key t < key w) same all.0 | inr more ↦ above_all t b ts all.1 more ]

  one_first : (x y : X) (xs ys : List X) → AllByRecursion (λ z. key x < key z) xs → AllByRecursion (λ z. key y < key z) ys → Contains (y ∷ ys) x → Contains (x ∷ xs) y → x ≡ y
  one_first x y xs ys a b f g = elim (contains_cases y ys x f) [
    | inl is ↦ sym is
    | inr later ↦ elim (contains_cases x xs y g) [
      | inl is ↦ is
      | inr more ↦ absurd (let p = above_all y x ys b later in let q = above_all x y xs a more in omega (arith, p, q))
    ]
  ]

  in_rest : (x y : X) (xs ys : List X) (z : X) → x ≡ y → AllByRecursion (λ w. key x < key w) xs → Contains xs z → Contains (y ∷ ys) z → Contains ys z
  in_rest x y xs ys z first a h f = elim (contains_cases y ys z f) [
    | inl is ↦ absurd (let p = above_all x z xs a h in let q : key x ≡ key z = ap key (first ∙ is) in omega (arith, p, q))
    | inr more ↦ more
  ]

  same_from : (xs ys : List X) → IsRising key xs → IsRising key ys → ((z : X) → Contains xs z → Contains ys z) → ((z : X) → Contains ys z → Contains xs z) → xs ≡ ys
  same_from [] [] a b f g = refl
  same_from [] (y ∷ ys) a b f g = absurd (let h = g y (first_in y ys) in omega (arith, h.1))
  same_from (x ∷ xs) [] a b f g = absurd (let h = f x (first_in x xs) in omega (arith, h.1))
  same_from (x ∷ xs) (y ∷ ys) a b f g =
      let first = one_first x y xs ys a.0 b.0 (f x (first_in x xs)) (g y (first_in y ys)) in
      ap (λ z. z ∷ xs) first
      ∙ ap (λ l. y ∷ l)
      (same_from xs ys a.1 b.1 (λ z h. in_rest x y xs ys z first a.0 h (f z (contains_later x xs z h))) (λ z h. in_rest y x ys xs z (sym first) b.0 h (g z (contains_later y ys z h))))

  pub one_order : (xs ys : List X) → IsRising key xs → IsRising key ys → IsPermutation xs ys → xs ≡ ys
  one_order xs ys a b h = same_from xs ys a b (λ z c. Contains-permutation xs ys z h c) (λ z c. Contains-permutation ys xs z (IsPermutation-sym xs ys h) c)

  pub rising_append : (l m : List X) (b : ℕ) → IsRising key l → IsRising key m → AllByRecursion (λ x. key x < b) l → AllByRecursion (λ x. b ≤ key x) m → IsRising key (l ++ m)
  rising_append [] m b p q h k = q
  rising_append (x ∷ l) m b p q h k =
      (all_append (λ y. key x < key y) l m p.0 (all_mapped (λ y. b ≤ key y) (λ y. key x < key y) (λ y e. let f = h.0 in omega (arith, e, f)) m k), rising_append l m b p.1 q h.1 k)

-- ---- what is read of a row

abbrev number : Value → ℕ
number (Int (pos n)) = n
number v = 0

abbrev text : Value → List ℕ
text (Text t) = t
text v = []

abbrev at : Row → ℕ → Value
at r k = get_or r k Null

abbrev place : Row → ℕ
place r = number (at r 0)

both_show : (view : Row → Row) (a b rows : List Row) → Shows view a rows → Shows view b rows → IsPermutation a b
both_show view a b rows h k = IsPermutation-trans a (map view rows) b h (IsPermutation-sym b (map view rows) k)

-- records that are numbered from 1 on
module _ {X : Type 0} (row : ℕ → X → Row) (back : Row → X) (placed : (n : ℕ) (x : X) → place (row n x) ≡ n) (is_back : (n : ℕ) (x : X) → back (row n x) ≡ x) where
  numbered_above : (n k : ℕ) (xs : List X) → n < k → AllByRecursion (λ r. n < place r) (numbered row k xs)
  numbered_above n k [] h = tt
  numbered_above n k (x ∷ xs) h = (let e = placed k x in omega (arith, e, h), numbered_above n (suc k) xs (omega (arith, h)))

  numbered_rising : (n : ℕ) (xs : List X) → IsRising place (numbered row n xs)
  numbered_rising n [] = tt
  numbered_rising n (x ∷ xs) =
      (subst (λ k. AllByRecursion (λ r. k < place r) (numbered row (suc n) xs)) (sym (placed n x)) (numbered_above n (suc n) xs (omega arith)), numbered_rising (suc n) xs)

  numbered_back : (n : ℕ) (xs : List X) → map back (numbered row n xs) ≡ xs
  numbered_back n [] = refl
  numbered_back n (x ∷ xs) = ap (λ z. z ∷ map back (numbered row (suc n) xs)) (is_back n x) ∙ ap (λ l. x ∷ l) (numbered_back (suc n) xs)

  pub one_numbered : (view : Row → Row) (xs ys : List X) (rows : List Row) → Shows view (numbered row 1 xs) rows → Shows view (numbered row 1 ys) rows → xs ≡ ys
  one_numbered view xs ys rows h k =
      let same = one_order place (numbered row 1 xs) (numbered row 1 ys) (numbered_rising 1 xs) (numbered_rising 1 ys) (both_show view (numbered row 1 xs) (numbered row 1 ys) rows h k) in
      sym (numbered_back 1 xs) ∙ ap (map back) same ∙ numbered_back 1 ys

-- records in some order
module _ {X : Type 0} (row : X → Row) (back : Row → X) (is_back : (x : X) → back (row x) ≡ x) where
  mapped_back : (xs : List X) → map back (map row xs) ≡ xs
  mapped_back [] = refl
  mapped_back (x ∷ xs) = ap (λ z. z ∷ map back (map row xs)) (is_back x) ∙ ap (λ l. x ∷ l) (mapped_back xs)

  pub one_bag : (view : Row → Row) (xs ys : List X) (rows : List Row) → Shows view (map row xs) rows → Shows view (map row ys) rows → IsPermutation xs ys
  one_bag view xs ys rows h k =
      let moves = IsPermutation-map back (map row xs) (map row ys) (both_show view (map row xs) (map row ys) rows h k) in
      subst (λ l. IsPermutation l ys) (mapped_back xs) (subst (IsPermutation (map back (map row xs))) (mapped_back ys) moves)

abbrev batch_back : Row → Batch
batch_back r = record { name = text (at r 1); state = number (at r 2); worker = text (at r 3) }

abbrev sentence_back : Row → Sentence
sentence_back r = record { sent_id = text (at r 1); batch = number (at r 2); rev = number (at r 3); words = number (at r 4) }

abbrev revision_back : Row → Revision
revision_back r = record { sent = number (at r 0); rev = number (at r 1); who = text (at r 2); body = text (at r 3) }

abbrev move_back : Row → Move
move_back r = record { kind = number (at r 1); batch = number (at r 2); sent = number (at r 3); from = number (at r 4); to = number (at r 5); sentences = number (at r 6); words_out = number (at r 7); words_in = number (at r 8); who = text (at r 9) }

abbrev total_back : Row → Total
total_back r = record { sentences = number (at r 1); words = number (at r 2) }

pub same_records : (d e : Tables) (trees : Trees) → AreStored d trees → AreStored e trees → IsSame d e
same_records d e trees h k = record {
  batches = one_numbered batch_shown batch_back (λ n x. refl) (λ n x. refl) batch_view d.batches e.batches (trees 1) h.batches k.batches;
  sentences = one_numbered sentence_shown sentence_back (λ n x. refl) (λ n x. refl) sentence_view d.sentences e.sentences (trees 3) h.sentences k.sentences;
  revisions = one_bag revision_shown revision_back (λ x. refl) revision_view d.revisions e.revisions (trees 5) h.revisions k.revisions;
  moves = one_numbered move_shown move_back (λ n x. refl) (λ n x. refl) move_view d.moves e.moves (trees 7) h.moves k.moves;
  totals = one_numbered total_shown total_back (λ n x. refl) (λ n x. refl) total_view d.totals e.totals (trees 8) h.totals k.totals;
  pulled = one_bag number_shown place (λ x. refl) number_view d.pulled e.pulled (trees 9) h.pulled k.pulled;
}

-- ---- the revisions and the pulled numbers of a state stand in one order

abbrev order : Revision → ℕ
order r = r.sent * 4294967296 + r.rev

rows_from : (n k : ℕ) (rs : List machine.Revision) → AllByRecursion (λ r. n * 4294967296 + k ≤ order r) (map revision_record (revision_rows n k rs))
rows_from n k [] = tt
rows_from n k (r ∷ rs) =
    (omega arith, all_mapped (λ q. n * 4294967296 + (k + 1) ≤ order q) (λ q. n * 4294967296 + k ≤ order q) (λ q h. omega (arith, h)) (map revision_record (revision_rows n (k + 1) rs)) (rows_from n (k + 1) rs))

rows_rising : (n k : ℕ) (rs : List machine.Revision) → IsRising order (map revision_record (revision_rows n k rs))
rows_rising n k [] = tt
rows_rising n k (r ∷ rs) =
    (all_mapped (λ q. n * 4294967296 + (k + 1) ≤ order q) (λ q. n * 4294967296 + k < order q) (λ q h. omega (arith, h)) (map revision_record (revision_rows n (k + 1) rs)) (rows_from n (k + 1) rs), rows_rising n (k + 1) rs)

rows_below : (n k : ℕ) (rs : List machine.Revision) → k + length rs ≤ 4294967296 → AllByRecursion (λ r. order r < (n + 1) * 4294967296) (map revision_record (revision_rows n k rs))
rows_below n k [] h = tt
rows_below n k (r ∷ rs) h = (omega (arith, h), rows_below n (k + 1) rs (omega (arith, h)))

pub map_joined : (xs ys : List RevisionRow) → map revision_record (xs ++ ys) ≡ map revision_record xs ++ map revision_record ys
map_joined [] ys = refl
map_joined (x ∷ xs) ys = ap (λ l. revision_record x ∷ l) (map_joined xs ys)

later_from : (n : ℕ) (xs : List machine.Sentence) → AllByRecursion (λ r. n * 4294967296 ≤ order r) (map revision_record (revisions_from n xs))
later_from n [] = tt
later_from n (x ∷ xs) =
    let own = map revision_record (revision_rows n 1 (revisions x)) in
    let rest = map revision_record (revisions_from (n + 1) xs) in
    subst (AllByRecursion (λ r. n * 4294967296 ≤ order r)) (sym (map_joined (revision_rows n 1 (revisions x)) (revisions_from (n + 1) xs)))
    (all_append (λ r. n * 4294967296 ≤ order r) own rest (all_mapped (λ r. n * 4294967296 + 1 ≤ order r) (λ r. n * 4294967296 ≤ order r) (λ r h. omega (arith, h)) own (rows_from n 1 (revisions x)))
    (all_mapped (λ r. (n + 1) * 4294967296 ≤ order r) (λ r. n * 4294967296 ≤ order r) (λ r h. omega (arith, h)) rest (later_from (n + 1) xs)))

revisions_rising : (n m : ℕ) (xs : List machine.Sentence) → m ≤ 1000000000 → AllByRecursion (IsRevisedBelow m) xs → IsRising order (map revision_record (revisions_from n xs))
revisions_rising n m [] l h = tt
revisions_rising n m (x ∷ xs) l h =
    let own = map revision_record (revision_rows n 1 (revisions x)) in
    let rest = map revision_record (revisions_from (n + 1) xs) in
    let size = length-append x.before (x.current ∷ []) in
    let below = h.0 in
    subst (IsRising order) (sym (map_joined (revision_rows n 1 (revisions x)) (revisions_from (n + 1) xs)))
    (rising_append order own rest ((n + 1) * 4294967296) (rows_rising n 1 (revisions x)) (revisions_rising (n + 1) m xs l h.1) (rows_below n 1 (revisions x) (omega (arith, size, below, l))) (later_from (n + 1) xs))

abbrev itself : ℕ → ℕ
itself n = n

flag_from : (p : Bool) (n m : ℕ) (l : List ℕ) → m ≤ n → AllByRecursion (λ k. m ≤ k) l → AllByRecursion (λ k. m ≤ k) (cond p (n ∷ l) l)
flag_from true n m l h k = (h, k)
flag_from false n m l h k = k

pub pulled_from_on : (m n : ℕ) (xs : List machine.Sentence) → m ≤ n → AllByRecursion (λ k. m ≤ k) (pulled_from n xs)
pulled_from_on m n [] h = tt
pulled_from_on m n (x ∷ xs) h = flag_from x.pulled n m (pulled_from (n + 1) xs) h (pulled_from_on m (n + 1) xs (omega (arith, h)))

flag_rising : (p : Bool) (n : ℕ) (l : List ℕ) → AllByRecursion (λ k. n < k) l → IsRising itself l → IsRising itself (cond p (n ∷ l) l)
flag_rising true n l h k = (h, k)
flag_rising false n l h k = k

pulled_rising : (n : ℕ) (xs : List machine.Sentence) → IsRising itself (pulled_from n xs)
pulled_rising n [] = tt
pulled_rising n (x ∷ xs) =
    flag_rising x.pulled n (pulled_from (n + 1) xs) (all_mapped (λ k. n + 1 ≤ k) (λ k. n < k) (λ k h. omega (arith, h)) (pulled_from (n + 1) xs) (pulled_from_on (n + 1) (n + 1) xs (omega arith))) (pulled_rising (n + 1) xs)

pub same_tables : (s t : Machine) (trees : Trees) → IsReachable s → IsReachable t → AreStored (tables_of s) trees → AreStored (tables_of t) trees → tables_of s ≡ tables_of t
same_tables s t trees r q h k =
    let d = tables_of s in
    let e = tables_of t in
    let same = same_records d e trees h k in
    let revs = one_order order d.revisions e.revisions (revisions_rising 1 (length s.moves) s.sentences r.moves (sound s r.reached).revs) (revisions_rising 1 (length t.moves) t.sentences q.moves (sound t q.reached).revs) same.revisions in
    let numbers = one_order itself d.pulled e.pulled (pulled_rising 1 s.sentences) (pulled_rising 1 t.sentences) same.pulled in
    tables_is d e same.batches same.sentences revs same.moves same.totals numbers
