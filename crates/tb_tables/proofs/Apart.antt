-- Names and keys that are apart, and tables that keep them so.
use Rattle.std.proofs.Common.{◌≡◌, sym, ◌-◌, ◌<◌, ℕ, zero, suc, List, [], ◌∷◌, ◌++◌, map, length, take, get_or, slice_get, slice_set, Some, refl, ap, subst, ◌∙◌, arith}
use Rattle.std.proofs.lemmas.List.{map-append}
use Rattle.tb_tables.specs.Records.{Tables, Batch, Sentence, Revision, Move, Total}
use Rattle.tb_tables.specs.Changes.{with_sentence, with_revision, with_move, with_pulled, without_pulled, batch_replaced, sentence_replaced}
use Rattle.tb_tables.specs.Commands.{NewSentenceRecord, with_total, recorded, with_item, with_items}
use Rattle.tb_tables.specs.Failing.{Lacks, AreApart, AreUnique}

-- ---- lists

-- one that is replaced by another of the same key
keys_stay : {X K : Type 0} (key : X → K) (xs : List X) (i : ℕ) (x y : X) → slice_get xs i ≡ Some y → key x ≡ key y → map key (slice_set xs i x) ≡ map key xs
keys_stay key [] i x y is same = refl
keys_stay key (z ∷ zs) zero x y is same = let here : z ≡ y = (let e = is in cc) in ap (λ k. k ∷ map key zs) (same ∙ ap key (sym here))
keys_stay key (z ∷ zs) (suc i) x y is same = ap (λ ks. key z ∷ ks) (keys_stay key zs i x y is same)

lacks_front : {X : Type 0} (xs ys : List X) (x : X) → Lacks (xs ++ ys) x → Lacks xs x
lacks_front [] ys x h = tt
lacks_front (y ∷ xs) ys x h = (h.0, lacks_front xs ys x h.1)

apart_front : {X : Type 0} (xs ys : List X) → AreApart (xs ++ ys) → AreApart xs
apart_front [] ys h = tt
apart_front (x ∷ xs) ys h = (lacks_front xs ys x h.0, apart_front xs ys h.1)

-- the keys of those before the last
apart_before : {X K : Type 0} (key : X → K) (xs : List X) (x : X) → AreApart (map key (xs ++ x ∷ [])) → AreApart (map key xs)
apart_before key xs x h = apart_front (map key xs) (key x ∷ []) (subst AreApart (map-append key xs (x ∷ [])) h)

-- ---- tables whose names and keys are the same

pub unique_moved : (d : Tables) (m : Move) → AreUnique d → AreUnique (with_move d m)
unique_moved d m u = record { batches = u.batches; sentences = u.sentences; revisions = u.revisions }

pub unique_total : (d : Tables) (n : ℕ) (t : Total) → AreUnique d → AreUnique (with_total d n t)
unique_total d zero t u = u
unique_total d (suc n) t u = record { batches = u.batches; sentences = u.sentences; revisions = u.revisions }

pub unique_pulled : (d : Tables) (n : ℕ) → AreUnique d → AreUnique (with_pulled d n)
unique_pulled d n u = record { batches = u.batches; sentences = u.sentences; revisions = u.revisions }

pub unique_restored : (d : Tables) (n : ℕ) → AreUnique d → AreUnique (without_pulled d n)
unique_restored d n u = record { batches = u.batches; sentences = u.sentences; revisions = u.revisions }

pub unique_stepped : (d : Tables) (n : ℕ) (b : Batch) (in_state : ℕ) (worker : List ℕ) → slice_get d.batches (n - 1) ≡ Some b → AreUnique d → AreUnique (batch_replaced d n (record b { state = in_state; worker = worker }))
unique_stepped d n b in_state worker is u =
    let after : Batch = record b { state = in_state; worker = worker } in
    record { batches = subst AreApart (sym (keys_stay (λ (x : Batch). x.name) d.batches (n - 1) after b is refl)) u.batches; sentences = u.sentences; revisions = u.revisions }

pub unique_corrected : (d : Tables) (n : ℕ) (s : Sentence) (rev words : ℕ) → slice_get d.sentences (n - 1) ≡ Some s → AreUnique d → AreUnique (sentence_replaced d n (record s { rev = rev; words = words }))
unique_corrected d n s rev words is u =
    let after : Sentence = record s { rev = rev; words = words } in
    record { batches = u.batches; sentences = subst AreApart (sym (keys_stay (λ (x : Sentence). x.sent_id) d.sentences (n - 1) after s is refl)) u.sentences; revisions = u.revisions }

-- ---- tables before more is added

unique_unrevised : (d : Tables) (r : Revision) → AreUnique (with_revision d r) → AreUnique d
unique_unrevised d r u = record { batches = u.batches; sentences = u.sentences; revisions = apart_before {K = ℕ × ℕ} (λ (r : Revision). (r.sent, r.rev)) d.revisions r u.revisions }

unique_unlisted : (d : Tables) (s : Sentence) → AreUnique (with_sentence d s) → AreUnique d
unique_unlisted d s u = record { batches = u.batches; sentences = apart_before (λ (s : Sentence). s.sent_id) d.sentences s u.sentences; revisions = u.revisions }

unique_untotalled : (d : Tables) (n : ℕ) (t : Total) → AreUnique (with_total d n t) → AreUnique d
unique_untotalled d zero t u = u
unique_untotalled d (suc n) t u = record { batches = u.batches; sentences = u.sentences; revisions = u.revisions }

pub unique_unrecorded : (d : Tables) (m : Move) (left reached : Total) → AreUnique (recorded d m left reached) → AreUnique d
unique_unrecorded d m left reached u =
    let last = unique_untotalled (with_total (with_move d m) m.from left) m.to reached u in
    let first = unique_untotalled (with_move d m) m.from left last in
    record { batches = first.batches; sentences = first.sentences; revisions = first.revisions }

module _ (batch : ℕ) (who : List ℕ) where
  -- the sentence of an item, before its revision
  pub unique_sentence : (d : Tables) (item : NewSentenceRecord) → AreUnique (with_item batch who d item) → AreUnique (with_sentence d (record { sent_id = item.sent_id; batch = batch; rev = 1; words = item.words }))
  unique_sentence d item u = unique_unrevised _ _ u

  pub unique_before : (d : Tables) (items : List NewSentenceRecord) → AreUnique (with_items batch who d items) → AreUnique d
  unique_before d [] u = u
  unique_before d (x ∷ xs) u = unique_unlisted d _ (unique_sentence d x (unique_before (with_item batch who d x) xs u))

  -- up to an item, that included
  pub unique_so_far : (d : Tables) (items : List NewSentenceRecord) (k : ℕ) (item : NewSentenceRecord) → k < length items → get_or items k item ≡ item → AreUnique (with_items batch who d items) → AreUnique (with_item batch who (with_items batch who d (take k items)) item)
  unique_so_far d [] k item low is u = absurd (omega (arith, low))
  unique_so_far d (x ∷ xs) zero item low is u = subst (λ i. AreUnique (with_item batch who d i)) is (unique_before (with_item batch who d x) xs u)
  unique_so_far d (x ∷ xs) (suc k) item low is u = unique_so_far (with_item batch who d x) xs k item (omega (arith, low)) is u
