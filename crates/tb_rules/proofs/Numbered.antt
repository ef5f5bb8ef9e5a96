-- rows in their places tell their IDs by counts
use Rattle.std.proofs.Common.{◌≡◌, ℕ, zero, suc, ◌+◌, ◌<◌, ◌≤◌, List, [], length, take, drop, get_or, Bool, true, false, ◌&&◌, ◌||◌, eqb, ltb, leb, cond, None, length-take, refl, sym, ◌∙◌, ap, subst, arith, add-one, inl, inr, eq-eqb, get_or-set_same, get_or-set_other}
use Rattle.std.proofs.Math.ListN.{set, replicate}
use Rattle.std.specs.List.{list_any, count_by}
use Rattle.std.proofs.lemmas.Bool.{eqb-true, ne_eqb, and_parts, cases_eq, cases_lt, cases_Bool, true≢false}
use Rattle.std.proofs.lemmas.Bool.Decides.{nat_tests}
use Rattle.std.proofs.lemmas.List.{take_all, take-append-drop, get_or-replicate, get_or_past, length-replicate}
use Rattle.std.proofs.lemmas.List.Folds.{list_any_more, list_any_at}
use Rattle.std.proofs.lemmas.List.Sums.{count_by_more_yes, count_by_more_no, count_by-le-length, sum_by-append}
use Rattle.tb_conllu.specs.declared.id.LineId.{LineId}
use Rattle.tb_conllu.specs.declared.id.LineId.TheVariants.{Word, Span, Empty}
use Rattle.tb_conllu.specs.Text.{RowText}
use Rattle.tb_conllu.specs.Words.{is_word, is_word_id}
use Rattle.tb_rules.specs.Rows.{EachRowPasses}
use Rattle.tb_rules.specs.Ids.{is_node_after, is_node_id_after, is_next_id, is_in_place}
use Rattle.tb_rules.proofs.Counts.{counted, not_counted}
use Rattle.tb_rules.specs.Named.{is_word_numbered, is_node_numbered, is_node_id, AreNodeCounts, TellIds}

some_row : RowText
some_row = record { id = Word 1; form = []; lemma = []; upos = []; xpos = []; feats = []; head = None; deprel = []; deps = []; misc = [] }

or_false : (b : Bool) → (b || false) ≡ b
or_false true = refl
or_false false = refl

-- the number after the last
one_more : (c n m : ℕ) → n ≡ c + 1 → ((ltb 0 m && leb m c) || eqb n m) ≡ (ltb 0 m && leb m (c + 1))
one_more c n m e = grind (arith, nat_tests)

none_yet : (m : ℕ) → false ≡ (ltb 0 m && leb m 0)
none_yet m = grind (arith, nat_tests)

no_node : (i : ℕ) (id : LineId) → is_node_id id ≡ false → is_node_id_after i id ≡ false
no_node i (Word n) h = refl
no_node i (Span a b) h = refl
no_node i (Empty j k) h = absurd (true≢false h)

not_empty : (id : LineId) → ((j k : ℕ) → id ≡ Empty j k → ⊥) → is_node_id id ≡ false
not_empty (Word n) h = refl
not_empty (Span a b) h = refl
not_empty (Empty j k) h = absurd (h j k refl)

-- the IDs of the first rows
record Reported (rs : List RowText) (m : ℕ) : Type 0 where
  pub word : (n : ℕ) → list_any (λ r. is_word_numbered n r.id) (take m rs) ≡ (ltb 0 n && leb n (count_by is_word (take m rs)))
  pub node : (i k : ℕ) → list_any (λ r. is_node_numbered i k r.id) (take m rs) ≡ (ltb 0 k && leb k (count_by (is_node_after i) (take m rs)))

-- what a test of an ID says of one row more
any_more : (p : LineId → Bool) (rs : List RowText) (m : ℕ) (id : LineId) → m < length rs → (get_or rs m some_row).id ≡ id → list_any (λ r. p r.id) (take (m + 1) rs) ≡ (list_any (λ r. p r.id) (take m rs) || p id)
any_more p rs m id l e = list_any_more (λ r. p r.id) rs m some_row l ∙ ap (λ x. list_any (λ r. p r.id) (take m rs) || p x) e

any_same : (p : LineId → Bool) (rs : List RowText) (m : ℕ) (id : LineId) → m < length rs → (get_or rs m some_row).id ≡ id → p id ≡ false → list_any (λ r. p r.id) (take (m + 1) rs) ≡ list_any (λ r. p r.id) (take m rs)
any_same p rs m id l e none = any_more p rs m id l e ∙ (ap (λ b. list_any (λ r. p r.id) (take m rs) || b) none ∙ or_false (list_any (λ r. p r.id) (take m rs)))

count_more : (p : LineId → Bool) (rs : List RowText) (m : ℕ) (id : LineId) → m < length rs → (get_or rs m some_row).id ≡ id → p id ≡ true → count_by (λ r. p r.id) (take (m + 1) rs) ≡ count_by (λ r. p r.id) (take m rs) + 1
count_more p rs m id l e passes = count_by_more_yes (λ r. p r.id) rs m some_row l (ap p e ∙ passes)

count_same : (p : LineId → Bool) (rs : List RowText) (m : ℕ) (id : LineId) → m < length rs → (get_or rs m some_row).id ≡ id → p id ≡ false → count_by (λ r. p r.id) (take (m + 1) rs) ≡ count_by (λ r. p r.id) (take m rs)
count_same p rs m id l e not = count_by_more_no (λ r. p r.id) rs m some_row l (ap p e ∙ not)

-- a row that bears on neither side
same_tests : (p q : LineId → Bool) (rs : List RowText) (m n : ℕ) (id : LineId) → m < length rs → (get_or rs m some_row).id ≡ id → p id ≡ false → q id ≡ false
    → list_any (λ r. p r.id) (take m rs) ≡ (ltb 0 n && leb n (count_by (λ r. q r.id) (take m rs)))
    → list_any (λ r. p r.id) (take (m + 1) rs) ≡ (ltb 0 n && leb n (count_by (λ r. q r.id) (take (m + 1) rs)))
same_tests p q rs m n id l e none not h = any_same p rs m id l e none ∙ (h ∙ ap (λ c. ltb 0 n && leb n c) (sym (count_same q rs m id l e not)))

-- a row that bears on both
more_tests : (p q : LineId → Bool) (rs : List RowText) (m n k : ℕ) (id : LineId) → m < length rs → (get_or rs m some_row).id ≡ id → p id ≡ eqb k n → q id ≡ true → k ≡ count_by (λ r. q r.id) (take m rs) + 1
    → list_any (λ r. p r.id) (take m rs) ≡ (ltb 0 n && leb n (count_by (λ r. q r.id) (take m rs)))
    → list_any (λ r. p r.id) (take (m + 1) rs) ≡ (ltb 0 n && leb n (count_by (λ r. q r.id) (take (m + 1) rs)))
more_tests p q rs m n k id l e here passes next h =
    any_more p rs m id l e ∙
    (ap (λ b. b || p id) h ∙
    (ap (λ b. (ltb 0 n && leb n (count_by (λ r. q r.id) (take m rs))) || b) here ∙
    (one_more (count_by (λ r. q r.id) (take m rs)) k n next ∙
    ap (λ c. ltb 0 n && leb n c) (sym (count_more q rs m id l e passes)))))

-- an empty node after word j, and the nodes after word i
node_tests : (rs : List RowText) (m i k j n : ℕ) → m < length rs → (get_or rs m some_row).id ≡ Empty j n → n ≡ count_by (is_node_after j) (take m rs) + 1
    → list_any (λ r. is_node_numbered i k r.id) (take m rs) ≡ (ltb 0 k && leb k (count_by (is_node_after i) (take m rs)))
    → (b : Bool) → eqb j i ≡ b
    → list_any (λ r. is_node_numbered i k r.id) (take (m + 1) rs) ≡ (ltb 0 k && leb k (count_by (is_node_after i) (take (m + 1) rs)))
node_tests rs m i k j n l e next h true here =
    let same : j ≡ i = eqb-true j i here in
    more_tests (is_node_numbered i k) (is_node_id_after i) rs m k n (Empty j n) l e (ap (λ b. b && eqb n k) here) here (next ∙ ap (λ w. count_by (is_node_after w) (take m rs) + 1) same) h
node_tests rs m i k j n l e next h false here =
    same_tests (is_node_numbered i k) (is_node_id_after i) rs m k (Empty j n) l e (ap (λ b. b && eqb n k) here) here h

reported_more : (rs : List RowText) (m : ℕ) (id : LineId) → m < length rs → (get_or rs m some_row).id ≡ id → is_next_id (count_by is_word (take m rs)) (λ i. count_by (is_node_after i) (take m rs)) id ≡ true → Reported rs m → Reported rs (m + 1)
reported_more rs m (Word n) l e next h = record {
  word = λ k. more_tests (is_word_numbered k) is_word_id rs m k n (Word n) l e refl refl (eqb-true n (count_by is_word (take m rs) + 1) next) (h.word k);
  node = λ i k. same_tests (is_node_numbered i k) (is_node_id_after i) rs m k (Word n) l e refl refl (h.node i k);
}
reported_more rs m (Span a b) l e next h = record {
  word = λ k. same_tests (is_word_numbered k) is_word_id rs m k (Span a b) l e refl refl (h.word k);
  node = λ i k. same_tests (is_node_numbered i k) (is_node_id_after i) rs m k (Span a b) l e refl refl (h.node i k);
}
reported_more rs m (Empty j n) l e next h =
    let parts = and_parts (eqb j (count_by is_word (take m rs))) _ next in record {
      word = λ k. same_tests (is_word_numbered k) is_word_id rs m k (Empty j n) l e refl refl (h.word k);
      node = λ i k. node_tests rs m i k j n l e (eqb-true n (count_by (is_node_after j) (take m rs) + 1) parts.1) (h.node i k) (eqb j i) refl;
    }

reported : (rs : List RowText) (m : ℕ) → EachRowPasses is_in_place rs → m ≤ length rs → Reported rs m
reported rs zero h l = record {
  word = λ n. none_yet n;
  node = λ i k. none_yet k;
}
reported rs (suc m) h l = subst (Reported rs) (add-one m) (reported_more rs m (get_or rs m some_row).id (omega arith) refl (h m some_row (omega arith)) (reported rs m h (omega arith)))

pub tell_ids : (rs : List RowText) (words : ℕ) (nodes : List ℕ) → EachRowPasses is_in_place rs → words ≡ count_by is_word rs → AreNodeCounts rs nodes → TellIds rs words nodes
tell_ids rs words nodes h count counts =
    let t = reported rs (length rs) h (omega arith) in
    let whole : take (length rs) rs ≡ rs = take_all (length rs) rs (omega arith) in record {
      word = λ n. ap (λ (xs : List RowText). list_any (λ r. is_word_numbered n r.id) xs) (sym whole) ∙ (t.word n ∙ (ap (λ (xs : List RowText). ltb 0 n && leb n (count_by is_word xs)) whole ∙ ap (λ c. ltb 0 n && leb n c) (sym count)));
      node = λ i k. ap (λ (xs : List RowText). list_any (λ r. is_node_numbered i k r.id) xs) (sym whole) ∙ (t.node i k ∙ (ap (λ (xs : List RowText). ltb 0 k && leb k (count_by (is_node_after i) xs)) whole ∙ ap (λ c. ltb 0 k && leb k c) (sym (counts i))));
    }

count_by-take : {X : Type 0} (p : X → Bool) (xs : List X) (n : ℕ) → count_by p (take n xs) ≤ count_by p xs
count_by-take p xs n = omega (arith, ap (count_by p) (take-append-drop n xs), sum_by-append (λ x. cond (p x) 1 0) (take n xs) (drop n xs))

pub count-below : {X : Type 0} (p : X → Bool) (xs : List X) (n : ℕ) → count_by p (take n xs) ≤ n
count-below p xs n = omega (arith, count_by-le-length p (take n xs), length-take n xs)

-- an empty node names a word of the sentence, or 0
pub node_within : (rs : List RowText) (m i k : ℕ) (r : RowText) → EachRowPasses is_in_place rs → m < length rs → r ≡ get_or rs m r → r.id ≡ Empty i k → i ≤ count_by is_word rs
node_within rs m i k r h l e id =
    let next : is_next_id (count_by is_word (take m rs)) (λ w. count_by (is_node_after w) (take m rs)) (Empty i k) ≡ true = subst (λ x. is_next_id (count_by is_word (take m rs)) (λ w. count_by (is_node_after w) (take m rs)) x ≡ true) (ap (λ (x : RowText). x.id) (sym e) ∙ id) (h m r l) in
    let before : i ≡ count_by is_word (take m rs) = eqb-true i (count_by is_word (take m rs)) (and_parts (eqb i (count_by is_word (take m rs))) _ next).0 in
    omega (arith, count_by-take is_word rs m)

-- one more row is counted
pub node_counted : (rs : List RowText) (m i k : ℕ) (r : RowText) (counts : List ℕ) → m < length rs → r ≡ get_or rs m r → r.id ≡ Empty i k → i < length counts
    → ((j : ℕ) → get_or counts j 0 ≡ count_by (is_node_after j) (take m rs)) → (j : ℕ) → get_or (set counts i (get_or counts i 0 + 1)) j 0 ≡ count_by (is_node_after j) (take (m + 1) rs)
node_counted rs m i k r counts l e id within h j =
    elim (cases_eq j i) [
      | inl same ↦
          ap (λ x. get_or (set counts i (get_or counts i 0 + 1)) x 0) same ∙ (get_or-set_same counts i (get_or counts i 0 + 1) 0 within ∙
          (ap (λ x. get_or counts x 0 + 1) (sym same) ∙ (ap (λ x. x + 1) (h j) ∙ sym (counted (is_node_after j) rs m r l e (ap (is_node_id_after j) id ∙ eq-eqb i j (sym same))))))
      | inr other ↦
          get_or-set_other counts i j (get_or counts i 0 + 1) 0 other ∙ (h j ∙ sym (not_counted (is_node_after j) rs m r l e (ap (is_node_id_after j) id ∙ ne_eqb i j (λ x. other (sym x)))))
    ]

-- a row that is no empty node
pub node_passed : (rs : List RowText) (m : ℕ) (r : RowText) (counts : List ℕ) → m < length rs → r ≡ get_or rs m r → ((i k : ℕ) → r.id ≡ Empty i k → ⊥)
    → ((j : ℕ) → get_or counts j 0 ≡ count_by (is_node_after j) (take m rs)) → (j : ℕ) → get_or counts j 0 ≡ count_by (is_node_after j) (take (m + 1) rs)
node_passed rs m r counts l e none h j = h j ∙ sym (not_counted (is_node_after j) rs m r l e (no_node j r.id (not_empty r.id none)))

-- a sentence without empty nodes
none_at : (rs : List RowText) (m : ℕ) → list_any (λ r. is_node_id r.id) rs ≡ false → m < length rs → is_node_id (get_or rs m some_row).id ≡ false
none_at rs m h l = elim (cases_Bool (is_node_id (get_or rs m some_row).id)) [
  | inl some ↦ absurd (true≢false (sym (list_any_at (λ r. is_node_id r.id) rs m some_row l some) ∙ h))
  | inr none ↦ none
]

none_in : (rs : List RowText) (m i : ℕ) → list_any (λ r. is_node_id r.id) rs ≡ false → m ≤ length rs → count_by (is_node_after i) (take m rs) ≡ 0
none_in rs zero i h l = refl
none_in rs (suc m) i h l =
    subst (λ k. count_by (is_node_after i) (take k rs) ≡ 0) (add-one m) (count_by_more_no (is_node_after i) rs m some_row (omega arith) (no_node i (get_or rs m some_row).id (none_at rs m h (omega arith))) ∙ none_in rs m i h (omega arith))

pub stops : (a b : Bool) → a ≡ false → a ≡ (a && b)
stops true b h = absurd (true≢false h)
stops false b h = refl

pub none_counted : (rs : List RowText) → list_any (λ r. is_node_id r.id) rs ≡ false → (i : ℕ) → count_by (is_node_after i) rs ≡ 0
none_counted rs h i = ap (count_by (is_node_after i)) (sym (take_all (length rs) rs (omega arith))) ∙ none_in rs (length rs) i h (omega arith)

pub zeros : (n i : ℕ) → get_or {A = ℕ} (replicate n 0) i 0 ≡ 0
zeros n i = elim (cases_lt i n) [
  | inl within ↦ get_or-replicate n i 0 0 within
  | inr past ↦ get_or_past (replicate n 0) i 0 (let l : length {A = ℕ} (replicate n 0) ≡ n = length-replicate n 0 in omega arith)
]
