-- Heads by their numbers, and heads by the rows that they name, tell the same of a sentence whose rows are in their places.
use Rattle.std.proofs.Common.{◌≡◌, ℕ, suc, ◌+◌, ◌<◌, ◌^◌, List, [], ◌∷◌, length, take, get_or, Bool, true, false, ◌||◌, ◌&&◌, cond, eqb, ltb, leb, Option, Some, None, refl, sym, ◌∙◌, ap, subst, arith, eq-eqb}
use Rattle.std.specs.List.{list_any, list_all, find, after_first, slice_split, count_by}
use Rattle.std.specs.Option.{is_some, MatchOption}
use Rattle.std.proofs.lemmas.Bool.{true≢false, and_parts, eqb-true, ne_eqb}
use Rattle.std.proofs.lemmas.Bool.Decides.{nat_tests}
use Rattle.tb_conllu.specs.declared.id.LineId.{LineId}
use Rattle.tb_conllu.specs.declared.id.LineId.TheVariants.{Word, Span, Empty}
use Rattle.tb_conllu.specs.Text.{RowText}
use Rattle.tb_conllu.specs.Words.{is_word}
use Rattle.tb_fields.specs.Blank.{is_blank}
use Rattle.tb_fields.specs.Feats.{is_bar}
use Rattle.tb_fields.specs.Relations.{is_colon}
use Rattle.tb_chars.specs.Spaces.{is_solid}
use Rattle.tb_rules.specs.Rows.{RowTest, EachRowPasses, IsFirstFault}
use Rattle.tb_rules.specs.Ids.{is_node_after, is_next_id, is_in_place}
use Rattle.tb_rules.specs.Named.{is_word_numbered, is_node_numbered}
use Rattle.tb_rules.specs.Deps.{is_written, named_row, is_head_there, place_word, place_node, are_in_order, pair_head, is_pair, pair_precedes, are_pairs_in_order, are_pairs, is_dependency_text, is_fine_as_dependent, dependency_test}
use Rattle.tb_rules.specs.Places.{place_of, is_place_there, is_up_to, are_places_in_order, is_placed_pair, place_precedes, places_ascend, are_placed_pairs, is_placed_text, is_placed_dependent, place_test}
use Rattle.tb_rules.proofs.Numbered.{count-below}
use Rattle.tb_rules.proofs.Spelt.{IsSmall, is_at, written_at, not_written, root_at, not_root}

-- ---- the numbers of rows

abbrev AreSmall : List RowText → Type 0
AreSmall rs = (k : ℕ) (d : RowText) → k < length rs → IsSmall (get_or rs k d).id

next_small : (words : ℕ) (nodes : ℕ → ℕ) (id : LineId) → words + 1 < 10 ^ 19 → ((i : ℕ) → nodes i + 1 < 10 ^ 19) → is_next_id words nodes id ≡ true → IsSmall id
next_small words nodes (Word n) w m h = let e = eqb-true n (words + 1) h in (omega (arith, e), omega (arith, e, w))
next_small words nodes (Span a b) w m h = tt
next_small words nodes (Empty i k) w m h =
    let parts = and_parts (eqb i words) (eqb k (nodes i + 1)) h in
    let e = eqb-true i words parts.0 in
    let f = eqb-true k (nodes i + 1) parts.1 in
    (omega (arith, e, w), omega (arith, f), omega (arith, f, m i))

pub are_small : (rs : List RowText) → EachRowPasses is_in_place rs → length rs + 1 < 10 ^ 19 → AreSmall rs
are_small rs h few k d l =
    next_small (count_by is_word (take k rs)) (λ i. count_by (is_node_after i) (take k rs)) (get_or rs k d).id
    (omega (arith, count-below is_word rs k, few, l)) (λ i. omega (arith, count-below (is_node_after i) rs k, few, l)) (h k d l)

small_first : (r : RowText) (rs : List RowText) → AreSmall (r ∷ rs) → IsSmall r.id
small_first r rs h = h 0 r (omega arith)

small_rest : (r : RowText) (rs : List RowText) → AreSmall (r ∷ rs) → AreSmall rs
small_rest r rs h k d l = h (suc k) d (omega arith)

-- ---- what is found

-- tests of IDs that agree on rows with such numbers
abbrev Agree : (LineId → Bool) → (LineId → Bool) → Type 0
Agree p q = (id : LineId) → IsSmall id → p id ≡ q id

found_same : (p q : LineId → Bool) (rs : List RowText) → Agree p q → AreSmall rs → find (λ r. p r.id) rs ≡ find (λ r. q r.id) rs
found_same p q [] h small = refl
found_same p q (r ∷ rs) h small =
    ap (λ b. cond b (Some r) (find (λ x. p x.id) rs)) (h r.id (small_first r rs small)) ∙ ap (cond (q r.id) (Some r)) (found_same p q rs h (small_rest r rs small))

any_same : (p q : LineId → Bool) (rs : List RowText) → Agree p q → AreSmall rs → list_any (λ r. p r.id) rs ≡ list_any (λ r. q r.id) rs
any_same p q [] h small = refl
any_same p q (r ∷ rs) h small =
    ap (λ b. b || list_any (λ x. p x.id) rs) (h r.id (small_first r rs small)) ∙ ap (λ b. q r.id || b) (any_same p q rs h (small_rest r rs small))

found_any : (p : RowText → Bool) (rs : List RowText) → is_some (find p rs) ≡ list_any p rs
found_any p [] = refl
found_any p (r ∷ rs) = by_first (p r) (found_any p rs) where
  by_first : (b : Bool) → is_some (find p rs) ≡ list_any p rs → is_some (cond b (Some r) (find p rs)) ≡ (b || list_any p rs)
  by_first true h = refl
  by_first false h = h

found_none : (rs : List RowText) → find {X = RowText} (λ r. false) rs ≡ None
found_none [] = refl
found_none (r ∷ rs) = found_none rs

-- what is found passes
abbrev Passing : (RowText → Bool) → Option RowText → Type 0
Passing p None = Unit {0}
Passing p (Some r) = p r ≡ true

found_passes : (p : RowText → Bool) (rs : List RowText) → Passing p (find p rs)
found_passes p [] = tt
found_passes p (r ∷ rs) = by_first (p r) refl (found_passes p rs) where
  by_first : (b : Bool) → p r ≡ b → Passing p (find p rs) → Passing p (cond b (Some r) (find p rs))
  by_first true e h = e
  by_first false e h = h

-- ---- one head

words_agree : (i k : ℕ) → k ≡ 0 → Agree (is_at i k) (is_word_numbered i)
words_agree i k e (Word n) small = ap (λ b. eqb n i && b) (eq-eqb k 0 e) ∙ and_true (eqb n i) where
  and_true : (b : Bool) → (b && true) ≡ b
  and_true true = refl
  and_true false = refl
words_agree i k e (Span a b) small = refl
words_agree i k e (Empty j l) small = ap (λ b. eqb j i && b) (ne_eqb l k (λ f. omega (arith, f, e, small.1))) ∙ and_false (eqb j i) where
  and_false : (b : Bool) → (b && false) ≡ false
  and_false true = refl
  and_false false = refl

nodes_agree : (i k : ℕ) → (k ≡ 0 → ⊥) → Agree (is_at i k) (is_node_numbered i k)
nodes_agree i k e (Word n) small = ap (λ b. eqb n i && b) (ne_eqb k 0 e) ∙ and_false (eqb n i) where
  and_false : (b : Bool) → (b && false) ≡ false
  and_false true = refl
  and_false false = refl
nodes_agree i k e (Span a b) small = refl
nodes_agree i k e (Empty j l) small = refl

-- whether a place is there, by what is found
there_by : (rs : List RowText) (i k : ℕ) (z : Bool) → AreSmall rs → eqb k 0 ≡ z
    → cond z (eqb i 0 || list_any (λ r. is_word_numbered i r.id) rs) (list_any (λ r. is_node_numbered i k r.id) rs) ≡ ((z && eqb i 0) || is_some (find (λ r. is_at i k r.id) rs))
there_by rs i k true small e =
    ap (λ b. eqb i 0 || b) (sym (any_same (is_at i k) (is_word_numbered i) rs (words_agree i k (eqb-true k 0 e)) small) ∙ sym (found_any (λ r. is_at i k r.id) rs))
there_by rs i k false small e =
    sym (any_same (is_at i k) (is_node_numbered i k) rs (nodes_agree i k (λ z. true≢false (sym (eq-eqb k 0 z) ∙ e))) small) ∙ sym (found_any (λ r. is_at i k r.id) rs)

named_at : (rs : List RowText) (t : List ℕ) (i k : ℕ) → AreSmall rs → place_of t ≡ Some (i, k) → named_row rs t ≡ find (λ r. is_at i k r.id) rs
named_at rs t i k small e = found_same (is_written t) (is_at i k) rs (λ id s. written_at t i k id e s) small

named_none : (rs : List RowText) (t : List ℕ) → AreSmall rs → place_of t ≡ None → named_row rs t ≡ None
named_none rs t small e = found_same (is_written t) (λ id. false) rs (λ id s. not_written t id e s) small ∙ found_none rs

there_same : (rs : List RowText) (t : List ℕ) (o : Option (ℕ × ℕ)) → AreSmall rs → place_of t ≡ o → is_place_there rs o ≡ is_head_there rs t
there_same rs t None small e = sym (ap (λ b. b || is_some (named_row rs t)) (not_root t e) ∙ ap is_some (named_none rs t small e))
there_same rs t (Some (i, k)) small e =
    there_by rs i k (eqb k 0) small refl ∙
    sym (ap (λ b. b || is_some (named_row rs t)) (root_at t i k e) ∙ ap (λ x. (eqb k 0 && eqb i 0) || is_some x) (named_at rs t i k small e))

pub head_same : (rs : List RowText) (t : List ℕ) → AreSmall rs → is_place_there rs (place_of t) ≡ is_head_there rs t
head_same rs t small = there_same rs t (place_of t) small refl

-- ---- the order of two heads

-- the place of a head that is there, and the row that it names
data Found (rs : List RowText) (t : List ℕ) : ℕ → ℕ → Type 0 where
  at_root : named_row rs t ≡ None → Found rs t 0 0
  at_row : (r : RowText) → named_row rs t ≡ Some r → 0 < place_word r.id + place_node r.id → Found rs t (place_word r.id) (place_node r.id)

no_root_row : Agree (is_at 0 0) (λ id. false)
no_root_row (Word n) small = ap (λ b. b && true) (ne_eqb n 0 (λ e. omega (arith, e, small.0)))
no_root_row (Span a b) small = refl
no_root_row (Empty j l) small = ap (λ b. eqb j 0 && b) (ne_eqb l 0 (λ e. omega (arith, e, small.1))) ∙ and_false (eqb j 0) where
  and_false : (b : Bool) → (b && false) ≡ false
  and_false true = refl
  and_false false = refl

root_found : (rs : List RowText) (t : List ℕ) → AreSmall rs → place_of t ≡ Some (0, 0) → Found rs t 0 0
root_found rs t small e = at_root (named_at rs t 0 0 small e ∙ (found_same (is_at 0 0) (λ id. false) rs no_root_row small ∙ found_none rs))

-- an ID at a place has this place
at_place : (i k : ℕ) (id : LineId) → is_at i k id ≡ true → (place_word id ≡ i) × (place_node id ≡ k)
at_place i k (Word n) h = let parts = and_parts (eqb n i) (eqb k 0) h in (eqb-true n i parts.0, sym (eqb-true k 0 parts.1))
at_place i k (Span a b) h = absurd (true≢false (sym h))
at_place i k (Empty j l) h = let parts = and_parts (eqb j i) (eqb l k) h in (eqb-true j i parts.0, eqb-true l k parts.1)

row_found : (rs : List RowText) (t : List ℕ) (i k : ℕ) (o : Option RowText) → named_row rs t ≡ o → Passing (λ r. is_at i k r.id) o → is_some o ≡ true → 0 < i + k → Found rs t i k
row_found rs t i k None e p h some = absurd (true≢false (sym h))
row_found rs t i k (Some r) e p h some =
    let same = at_place i k r.id p in
    subst (λ x. Found rs t x k) same.0 (subst (λ y. Found rs t (place_word r.id) y) same.1 (at_row r e (omega (arith, same.0, same.1, some))))

found_by : (rs : List RowText) (t : List ℕ) (i k : ℕ) (z : Bool) → AreSmall rs → place_of t ≡ Some (i, k) → (eqb k 0 && eqb i 0) ≡ z → (z || is_some (find (λ r. is_at i k r.id) rs)) ≡ true → Found rs t i k
found_by rs t i k true small e root h =
    let parts = and_parts (eqb k 0) (eqb i 0) root in
    let none : k ≡ 0 = eqb-true k 0 parts.0 in
    let first : i ≡ 0 = eqb-true i 0 parts.1 in
    let at : place_of t ≡ Some (0, 0) = e ∙ (ap (λ x. Some (x, k)) first ∙ ap (λ y. Some (0, y)) none) in
    subst (λ x. Found rs t x k) (sym first) (subst (λ y. Found rs t 0 y) (sym none) (root_found rs t small at))
found_by rs t i k false small e root h =
    row_found rs t i k (find (λ r. is_at i k r.id) rs) (named_at rs t i k small e) (found_passes (λ r. is_at i k r.id) rs) h (not_both (eqb k 0) refl)
  where
    not_both : (b : Bool) → eqb k 0 ≡ b → 0 < i + k
    not_both true y = let other : eqb i 0 ≡ false = sym (ap (λ b. b && eqb i 0) y) ∙ root in grind (arith, nat_tests)
    not_both false y = grind (arith, nat_tests)

found : (rs : List RowText) (t : List ℕ) (i k : ℕ) → AreSmall rs → place_of t ≡ Some (i, k) → is_head_there rs t ≡ true → Found rs t i k
found rs t i k small e h =
    found_by rs t i k (eqb k 0 && eqb i 0) small e refl (sym (there_by rs i k (eqb k 0) small refl) ∙ (there_same rs t (Some (i, k)) small e ∙ h))

up_to_all : (j l : ℕ) → (ltb 0 j || (eqb 0 j && leb 0 l)) ≡ true
up_to_all j l = grind (arith, nat_tests)

not_to_root : (i k : ℕ) → 0 < i + k → (ltb i 0 || (eqb i 0 && leb k 0)) ≡ false
not_to_root i k h = grind (arith, nat_tests)

order_found : (rs : List RowText) (a b : List ℕ) (i k j l : ℕ) → Found rs a i k → Found rs b j l → is_up_to (i, k) (j, l) ≡ are_in_order (named_row rs a) (named_row rs b)
order_found rs a b _ _ j l (at_root e) g = up_to_all j l ∙ sym (ap (λ o. are_in_order o (named_row rs b)) e)
order_found rs a b _ _ _ _ (at_row r e some) (at_root f) = not_to_root (place_word r.id) (place_node r.id) some ∙ sym (ap (λ o. are_in_order o (named_row rs b)) e ∙ ap (are_in_order (Some r)) f)
order_found rs a b _ _ _ _ (at_row r e some) (at_row s f more) = sym (ap (λ o. are_in_order o (named_row rs b)) e ∙ ap (are_in_order (Some r)) f)

order_at : (rs : List RowText) (a b : List ℕ) (o p : Option (ℕ × ℕ)) → AreSmall rs → place_of a ≡ o → place_of b ≡ p → is_head_there rs a ≡ true → is_head_there rs b ≡ true
    → are_places_in_order o p ≡ are_in_order (named_row rs a) (named_row rs b)
order_at rs a b None p small e f h g = absurd (true≢false (sym h ∙ sym (there_same rs a None small e)))
order_at rs a b (Some (i, k)) None small e f h g = absurd (true≢false (sym g ∙ sym (there_same rs b None small f)))
order_at rs a b (Some (i, k)) (Some (j, l)) small e f h g = order_found rs a b i k j l (found rs a i k small e h) (found rs b j l small f g)

-- ---- pairs

pair_same : (rs : List RowText) (x : List ℕ) → AreSmall rs → is_placed_pair rs x ≡ is_pair rs x
pair_same rs x small = ap (λ b. list_any is_colon x && b && is_solid (after_first is_colon x)) (head_same rs (pair_head x) small)

all_same : (p q : List ℕ → Bool) (xs : List (List ℕ)) → ((x : List ℕ) → p x ≡ q x) → list_all p xs ≡ list_all q xs
all_same p q [] h = refl
all_same p q (x ∷ xs) h = ap (λ b. b && list_all p xs) (h x) ∙ ap (λ b. q x && b) (all_same p q xs h)

has_head : (rs : List RowText) (x : List ℕ) → is_pair rs x ≡ true → is_head_there rs (pair_head x) ≡ true
has_head rs x h = (and_parts (list_any is_colon x) (is_head_there rs (pair_head x)) (and_parts (list_any is_colon x && is_head_there rs (pair_head x)) (is_solid (after_first is_colon x)) h).0).1

next_same : (rs : List RowText) (x : List ℕ) (xs : List (List ℕ)) → AreSmall rs → is_pair rs x ≡ true → list_all (is_pair rs) xs ≡ true → place_precedes x xs ≡ pair_precedes rs x xs
next_same rs x [] small h more = refl
next_same rs x (y ∷ ys) small h more =
    order_at rs (pair_head x) (pair_head y) (place_of (pair_head x)) (place_of (pair_head y)) small refl refl (has_head rs x h) (has_head rs y (and_parts (is_pair rs y) (list_all (is_pair rs) ys) more).0)

ascend_same : (rs : List RowText) (xs : List (List ℕ)) → AreSmall rs → list_all (is_pair rs) xs ≡ true → places_ascend xs ≡ are_pairs_in_order rs xs
ascend_same rs [] small h = refl
ascend_same rs (x ∷ xs) small h =
    let parts = and_parts (is_pair rs x) (list_all (is_pair rs) xs) h in
    ap (λ b. b && places_ascend xs) (next_same rs x xs small parts.0 parts.1) ∙ ap (λ b. pair_precedes rs x xs && b) (ascend_same rs xs small parts.1)

both_same : (a b c d : Bool) → a ≡ b → (b ≡ true → c ≡ d) → (a && c) ≡ (b && d)
both_same a true c d e f = ap (λ x. x && c) e ∙ f refl
both_same a false c d e f = ap (λ x. x && c) e

pairs_same : (rs : List RowText) (xs : List (List ℕ)) → AreSmall rs → are_placed_pairs rs xs ≡ are_pairs rs xs
pairs_same rs xs small =
    both_same (list_all (is_placed_pair rs) xs) (list_all (is_pair rs) xs) (places_ascend xs) (are_pairs_in_order rs xs) (all_same (is_placed_pair rs) (is_pair rs) xs (λ x. pair_same rs x small)) (ascend_same rs xs small)

text_same : (rs : List RowText) (bs : List ℕ) → AreSmall rs → is_placed_text rs bs ≡ is_dependency_text rs bs
text_same rs bs small = ap (λ b. is_blank bs || b) (pairs_same rs (slice_split is_bar bs) small)

dependent_same : (rs : List RowText) (id : LineId) (r : RowText) → AreSmall rs → is_placed_dependent rs id r ≡ is_fine_as_dependent rs id r
dependent_same rs (Word n) r small = text_same rs r.deps small
dependent_same rs (Span a b) r small = refl
dependent_same rs (Empty i k) r small = text_same rs r.deps small

-- ---- the test of each row

first_same : (t u : RowTest) (rs : List RowText) (row : ℕ) → ((before : List RowText) (r : RowText) → t before r ≡ u before r) → IsFirstFault t rs row → IsFirstFault u rs row
first_same t u rs row same f = record {
  place = f.place;
  counted = f.counted;
  within = f.within;
  fails = λ d. sym (same (take f.place rs) (get_or rs f.place d)) ∙ f.fails d;
  before = λ k d l. sym (same (take k rs) (get_or rs k d)) ∙ f.before k d l;
}

pub fault_same : (rs : List RowText) (o : Option ℕ) → EachRowPasses is_in_place rs → length rs + 1 < 10 ^ 19
    → MatchOption o (EachRowPasses (place_test rs) rs) (IsFirstFault (place_test rs) rs) → MatchOption o (EachRowPasses (dependency_test rs) rs) (IsFirstFault (dependency_test rs) rs)
fault_same rs None h few passes = λ k d l. sym (dependent_same rs (get_or rs k d).id (get_or rs k d) (are_small rs h few)) ∙ passes k d l
fault_same rs (Some row) h few fault = first_same (place_test rs) (dependency_test rs) rs row (λ before r. dependent_same rs r.id r (are_small rs h few)) fault
