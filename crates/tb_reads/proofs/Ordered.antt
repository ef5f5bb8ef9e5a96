-- What SELECT without WHERE shows, and that ORDER BY decides the list.
use Rattle.std.proofs.Common.{◌≡◌, inl, inr, ℕ, suc, ◌+◌, ◌*◌, ◌^◌, ◌<◌, ◌≤◌, pos, false, List, [], ◌∷◌, map, map-id, get_or, refl, sym, ap, ap₂, subst, subst₂, ◌∙◌, arith, IsPermutation, is_lt, flat_map, Equal}
use Rattle.std.proofs.lemmas.List.Elements.{All-from_recursion}
use Rattle.std.proofs.lemmas.List.Sorted.{IsPermutation-trans, IsPermutation-map, IsNonDecreasingBy-from_all_adjacent, All-permutation}
use Rattle.std.specs.List.{AllByRecursion}
use Rattle.std.proofs.lemmas.Bool.{cases_lt}
use Rattle.std.specs.Ordering.{ordering_then}
use Rattle.sqlite.specs.declared.types.Value.{Value}
use Rattle.sqlite.specs.declared.types.Value.TheVariants.{Int}
use Rattle.sqlite.specs.Order.{Row, column, value_cmp}
use Rattle.sqlite.specs.Tree.{Trees}
use Rattle.sqlite.specs.Term.{Term}
use Rattle.sqlite.specs.Query.{Query, IsAnswer, Output, output, output_cmp}
use Rattle.sqlite_value.specs.declared.keys.Key.{Key}
use Rattle.sqlite_trees.specs.Tree.{IsAscending}
use Rattle.sqlite_trees.proofs.ListLemmas.{map-map}
use Rattle.tb_tables.specs.Records.{Revision, Shows, numbered, number_shown, revision_shown}
use Rattle.tb_tables.proofs.Texts.{simple}
use Rattle.tb_tables.proofs.Lists.{lower, tied}
use Rattle.tb_reads.specs.declared.work.BatchSentence.{BatchSentence}
use Rattle.tb_reads.specs.Found.{work_shown}
use Rattle.tb_reads.specs.Readable.{IsRevision, ComesBefore}
use Rattle.tb_reads.proofs.Queries.{rising}
use Rattle.tb_reads.proofs.Order.{unique}

singles : {A B : Type 0} (f : A → B) (xs : List A) → flat_map (λ x. f x ∷ []) xs ≡ map f xs
singles f [] = refl
singles f (x ∷ xs) = ap (λ ys. f x ∷ ys) (singles f xs)

map_same : {A B : Type 0} (f g : A → B) → ((x : A) → f x ≡ g x) → (xs : List A) → map f xs ≡ map g xs
map_same f g same [] = refl
map_same f g same (x ∷ xs) = ap₂ (λ a b. a ∷ b) (same x) (map_same f g same xs)

module _ (tree : ℕ) (project : List Term) (order : List (Term × Key)) (keys view : Row → Row) (same : (r : Row) → output (simple tree [] project order) ([] ∷ r ∷ []) ≡ (keys r, view r)) (db : Trees) (rows : List Row)
    (a : IsAnswer (simple tree [] project order) db [] rows) where
  abbrev q : Query
  q = simple tree [] project order

  abbrev shows : Row → Output
  shows r = (keys r, view r)

  kept_is : a.kept ≡ map shows (db tree)
  kept_is =
      a.distinct ∙ ap (map (output q)) (a.grouped ∙ singles (λ r. [] ∷ r ∷ []) (db tree)) ∙ map-map (output q) (λ r. [] ∷ r ∷ []) (db tree) ∙ map_same (λ r. output q ([] ∷ r ∷ [])) shows same (db tree)

  pub all_shown : IsPermutation (map view (db tree)) rows
  all_shown = subst₂ (λ u v. IsPermutation u v) (map-map (λ (o : Output). o.1) shows (db tree)) (sym a.shown) (IsPermutation-map (λ (o : Output). o.1) (map shows (db tree)) a.ordered (subst (λ k. IsPermutation k a.ordered) kept_is a.same))

  -- Where the keys of the rows are numbers that rise, those rows in that order are the answer.
  pub by_order : (shown : List Row) (keyed : Row → Output) (place : Output → ℕ) (IsPlaced : Output → Type 0) → ((r : Row) → keyed (view r) ≡ shows r) → ((r : Row) → (keyed r).1 ≡ r)
      → IsAscending (λ x y. place x < place y) (map keyed shown) → AllByRecursion IsPlaced (map keyed shown)
      → ((x y : Output) → IsPlaced x → IsPlaced y → is_lt (output_cmp q x y) ≡ false → place y ≤ place x)
      → Shows view shown (db tree) → rows ≡ shown
  by_order shown keyed place IsPlaced of_view of_row rises placed in_order holds =
      let wanted = map keyed shown in
      let kept : IsPermutation wanted a.kept = subst (IsPermutation wanted) (map-map keyed view (db tree) ∙ map_same (λ r. keyed (view r)) shows of_view (db tree) ∙ sym kept_is) (IsPermutation-map keyed shown (map view (db tree)) holds) in
      let both = IsPermutation-trans wanted a.kept a.ordered kept a.same in
      let each = All-permutation IsPlaced wanted a.ordered both (All-from_recursion IsPlaced wanted placed) in
      let up = IsNonDecreasingBy-from_all_adjacent place a.ordered (λ k d low. in_order (get_or a.ordered (k + 1) d) (get_or a.ordered k d) (each (k + 1) d low) (each k d (omega (arith, low))) (a.sorted k d (omega arith) low)) in
      a.shown ∙ ap (map (λ (o : Output). o.1)) (unique place wanted a.ordered rises up both) ∙ map-map (λ (o : Output). o.1) keyed shown ∙ map_same (λ r. (keyed r).1) (λ r. r) of_row shown ∙ map-id shown

abbrev pub number_of : Value → ℕ
number_of (Int (pos m)) = m
number_of _ = 0

-- ---- one column

abbrev pub first : Output → ℕ
first o = number_of (column o.0 0)

abbrev pub IsFirst : Output → Type 0
IsFirst o = column o.0 0 ≡ Int (pos (first o))

abbrev pub keyed : Row → Output
keyed r = (column r 0 ∷ [], r)

not_less : (u v : Value) (m n : ℕ) → u ≡ Int (pos m) → v ≡ Int (pos n) → is_lt (ordering_then (value_cmp u v) Equal) ≡ false → n ≤ m
not_less u v m n eu ev h = elim (cases_lt m n) [ inl less ↦ absurd (let e = rw (eu, ev, lower m n less) at h in cc) | inr ge ↦ ge ]

pub first_in_order : (k tree : ℕ) (project : List Term) (a b : Output) → IsFirst a → IsFirst b → is_lt (output_cmp (simple tree [] project (rising k ∷ [])) a b) ≡ false → first b ≤ first a
first_in_order k tree project a b ea eb h = not_less (column a.0 0) (column b.0 0) (first a) (first b) ea eb h

module _ {X : Type 0} (row : ℕ → X → Row) (number : (n : ℕ) (x : X) → column (row n x) 0 ≡ Int (pos n)) where
  above : (j k : ℕ) (xs : List X) → j < k → AllByRecursion (λ o. j < first o) (map keyed (numbered row k xs))
  above j k [] h = tt
  above j k (x ∷ xs) h = (subst (λ v. j < number_of v) (sym (number k x)) h, above j (suc k) xs (omega (arith, h)))

  pub rises : (k : ℕ) (xs : List X) → IsAscending (λ a b. first a < first b) (map keyed (numbered row k xs))
  rises k [] = tt
  rises k (x ∷ xs) = (subst (λ v. AllByRecursion (λ o. number_of v < first o) (map keyed (numbered row (suc k) xs))) (sym (number k x)) (above k (suc k) xs (omega arith)), rises (suc k) xs)

  pub placed : (k : ℕ) (xs : List X) → AllByRecursion IsFirst (map keyed (numbered row k xs))
  placed k [] = tt
  placed k (x ∷ xs) = (subst (λ v. v ≡ Int (pos (number_of v))) (sym (number k x)) refl, placed (suc k) xs)

pub numbers_rise : (ns : List ℕ) → IsAscending (λ a b. a < b) ns → IsAscending (λ a b. first a < first b) (map keyed (map number_shown ns))
numbers_rise [] h = tt
numbers_rise (n ∷ ns) h = (later n ns h.0, numbers_rise ns h.1)
  where
    later : (n : ℕ) (ns : List ℕ) → AllByRecursion (λ b. n < b) ns → AllByRecursion (λ o. n < first o) (map keyed (map number_shown ns))
    later n [] h = tt
    later n (m ∷ ms) h = (h.0, later n ms h.1)

pub numbers_placed : (ns : List ℕ) → AllByRecursion IsFirst (map keyed (map number_shown ns))
numbers_placed [] = tt
numbers_placed (n ∷ ns) = (refl, numbers_placed ns)

-- ---- two columns, the second below 2 ^ 32

abbrev second : Output → ℕ
second o = number_of (column o.0 1)

abbrev pub pair : Output → ℕ
pair o = first o * 2 ^ 32 + second o

pub record IsPair (o : Output) : Type 0 where
  pub one : column o.0 0 ≡ Int (pos (first o))
  pub two : column o.0 1 ≡ Int (pos (second o))
  pub low : second o < 2 ^ 32

abbrev pub keyed_twice : Row → Output
keyed_twice r = (column r 0 ∷ column r 1 ∷ [], r)

pairs_less : (u v s t : Value) (m n k l : ℕ) → u ≡ Int (pos m) → v ≡ Int (pos n) → s ≡ Int (pos k) → t ≡ Int (pos l) → k < 2 ^ 32 → l < 2 ^ 32
    → is_lt (ordering_then (value_cmp u v) (ordering_then (value_cmp s t) Equal)) ≡ false → n * 2 ^ 32 + l ≤ m * 2 ^ 32 + k
pairs_less u v s t m n k l eu ev es et lk ll h = elim (cases_lt m n) [
  | inl less ↦ absurd (let e = rw (eu, ev, lower m n less) at h in cc)
  | inr ge ↦ elim (cases_lt n m) [
    | inl more ↦ omega (arith, more, ll)
    | inr le ↦ let same : m ≡ n = omega (arith, ge, le) in let low = not_less s t k l es et (rw (eu, ev, tied m n same) at h) in omega (arith, same, low)
  ]
]

pub pair_in_order : (tree : ℕ) (project : List Term) (a b : Output) → IsPair a → IsPair b → is_lt (output_cmp (simple tree [] project (rising 1 ∷ rising 2 ∷ [])) a b) ≡ false → pair b ≤ pair a
pair_in_order tree project a b pa pb h = pairs_less (column a.0 0) (column b.0 0) (column a.0 1) (column b.0 1) (first a) (first b) (second a) (second b) pa.one pb.one pa.two pb.two pa.low pb.low h

before_below : (r s : Revision) → r.rev < 2 ^ 32 → s.rev < 2 ^ 32 → ComesBefore r s → r.sent * 2 ^ 32 + r.rev < s.sent * 2 ^ 32 + s.rev
before_below r s lr ls (inl h) = omega (arith, h, lr)
before_below r s lr ls (inr h) = omega (arith, h.0, h.1)

module _ (out : Row → Row) where
  abbrev pub paired : Row → Output
  paired r = (column r 0 ∷ column r 1 ∷ [], out r)

  revisions_above : (r : Revision) (xs : List Revision) → IsRevision r → AllByRecursion IsRevision xs → AllByRecursion (ComesBefore r) xs
      → AllByRecursion (λ o. r.sent * 2 ^ 32 + r.rev < pair o) (map paired (map revision_shown xs))
  revisions_above r [] is each h = tt
  revisions_above r (x ∷ xs) is each h = (before_below r x is.rev_fits each.0.rev_fits h.0, revisions_above r xs is each.1 h.1)

  pub revisions_rise : (xs : List Revision) → AllByRecursion IsRevision xs → IsAscending ComesBefore xs → IsAscending (λ a b. pair a < pair b) (map paired (map revision_shown xs))
  revisions_rise [] each h = tt
  revisions_rise (x ∷ xs) each h = (revisions_above x xs each.0 each.1 h.0, revisions_rise xs each.1 h.1)

  pub revisions_placed : (xs : List Revision) → AllByRecursion IsRevision xs → AllByRecursion IsPair (map paired (map revision_shown xs))
  revisions_placed [] each = tt
  revisions_placed (x ∷ xs) each = (record { one = refl; two = refl; low = each.0.rev_fits }, revisions_placed xs each.1)

-- ---- records that show the same are the same

work_alike : (a b : BatchSentence) → a.number ≡ b.number → a.rev ≡ b.rev → a.words ≡ b.words → a ≡ b
work_alike a b n r w = ap (λ k. record { number = k; rev = a.rev; words = a.words }) n ∙ ap (λ k. record { number = b.number; rev = k; words = a.words }) r ∙ ap (λ k. record { number = b.number; rev = b.rev; words = k }) w

work_same : (a b : BatchSentence) → work_shown a ≡ work_shown b → a ≡ b
work_same a b e =
    let n : a.number ≡ b.number = cc in
    let r : a.rev ≡ b.rev = cc in
    let w : a.words ≡ b.words = cc in
    work_alike a b n r w

number_same : (m n : ℕ) → number_shown m ≡ number_shown n → m ≡ n
number_same m n e = cc

revision_alike : (a b : Revision) → a.sent ≡ b.sent → a.rev ≡ b.rev → a.who ≡ b.who → a.body ≡ b.body → a ≡ b
revision_alike a b s r w t =
    ap (λ k. record { sent = k; rev = a.rev; who = a.who; body = a.body }) s ∙ ap (λ k. record { sent = b.sent; rev = k; who = a.who; body = a.body }) r
    ∙ ap (λ k. record { sent = b.sent; rev = b.rev; who = k; body = a.body }) w ∙ ap (λ k. record { sent = b.sent; rev = b.rev; who = b.who; body = k }) t

pub revision_same : (a b : Revision) → revision_shown a ≡ revision_shown b → a ≡ b
revision_same a b e =
    let s : a.sent ≡ b.sent = cc in
    let r : a.rev ≡ b.rev = cc in
    let w : a.who ≡ b.who = cc in
    let t : a.body ≡ b.body = cc in
    revision_alike a b s r w t

pub same_list : {X : Type 0} (row : X → Row) → ((a b : X) → row a ≡ row b → a ≡ b) → (xs ys : List X) → map row xs ≡ map row ys → xs ≡ ys
same_list row same [] [] e = refl
same_list row same [] (y ∷ ys) e = absurd cc
same_list row same (x ∷ xs) [] e = absurd cc
same_list row same (x ∷ xs) (y ∷ ys) e =
    let head : row x ≡ row y = cc in
    let tail : map row xs ≡ map row ys = cc in
    ap₂ (λ a b. a ∷ b) (same x y head) (same_list row same xs ys tail)

pub same_numbers : (ms ns : List ℕ) → map number_shown ms ≡ map number_shown ns → ms ≡ ns
same_numbers = same_list number_shown number_same

pub same_revisions : (xs ys : List Revision) → map revision_shown xs ≡ map revision_shown ys → xs ≡ ys
same_revisions = same_list revision_shown revision_same

pub same_work : (xs ys : List BatchSentence) → map work_shown xs ≡ map work_shown ys → xs ≡ ys
same_work = same_list work_shown work_same
