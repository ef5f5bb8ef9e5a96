-- What the SELECTs of single records show, and those of the sentences of a batch.
use Rattle.std.proofs.Common.{◌≡◌, ℕ, zero, suc, ◌-◌, ◌<◌, pos, List, [], ◌∷◌, map, map-id, filter, Option, Some, None, option_map, slice_get, refl, sym, ap, subst, ◌∙◌, arith, inl, inr, IsPermutation, Contains, All, IfSome}
use Rattle.std.specs.List.{AllByRecursion}
use Rattle.std.specs.Option.{option_to_list}
use Rattle.std.proofs.lemmas.List.Elements.{recursion_from_All}
use Rattle.sqlite.specs.declared.types.Value.TheVariants.{Null, Int, Text}
use Rattle.sqlite.specs.Order.{Row, column}
use Rattle.sqlite.specs.Program.{overlay}
use Rattle.sqlite.specs.State.{State, Shown}
use Rattle.sqlite.proofs.Callers.{reads_as}
use Rattle.tb_tables.specs.Layout.{desk_schema}
use Rattle.tb_tables.specs.Records.{Batch, Sentence, Revision, Shows, numbered, batch_shown, sentence_shown, revision_shown, number_shown, batch_view, sentence_view, revision_view, number_view}
use Rattle.tb_reads.specs.Found.{HasUnreadable, ShowsFirst, has_number, has_name, has_pair, has_batch, key_alone, work_columns, work_of, work_shown}
use Rattle.tb_reads.proofs.Order.{contains_cases}
use Rattle.tb_reads.proofs.Ordered.{first, IsFirst, first_in_order}
use Rattle.tb_reads.proofs.Picked.{picked, found_numbered}
use Rattle.tb_reads.proofs.Queries.{rising, select_batch, select_batch_is, select_batch_terms, select_sentence, select_sentence_is, select_sentence_terms, select_named_batch, select_named_batch_is, select_named_batch_terms, select_named_sentence, select_named_sentence_is, select_named_sentence_terms, select_revision, select_revision_is, select_revision_terms, select_one_pulled, select_one_pulled_is, select_one_pulled_terms, select_work, select_work_is, select_work_terms}
use Rattle.tb_reads.proofs.Sifted.{sifted, sifted_rise, sifted_placed, work_shows}

module _ (old new : State) (has : old.now.schema ≡ desk_schema) (rows : List Row) where
  pub batch_shows : (n : ℕ) → 0 < n → Shown select_batch (Int (pos n) ∷ []) old new rows → (xs : List Batch) → Shows batch_view (numbered batch_shown 1 xs) (old.now.trees 1) → rows ≡ map (batch_shown n) (option_to_list (slice_get xs (n - 1)))
  batch_shows n some shown xs holds =
      let params = Int (pos n) ∷ [] in
      let answer = (reads_as select_batch params old new desk_schema has _ select_batch_is.0 select_batch_is.1 select_batch_is.2 rows shown).answer Null in
      found_numbered batch_shown (λ _ _. refl) n (n - 1) xs rows (omega (arith, some)) (picked 1 _ select_batch_terms (overlay old.now.trees []) params rows answer batch_view (has_number n) (λ (r : Row). r) refl (λ _. refl) (numbered batch_shown 1 xs) holds)

  pub sentence_shows : (n : ℕ) → 0 < n → Shown select_sentence (Int (pos n) ∷ []) old new rows → (xs : List Sentence) → Shows sentence_view (numbered sentence_shown 1 xs) (old.now.trees 3) → rows ≡ map (sentence_shown n) (option_to_list (slice_get xs (n - 1)))
  sentence_shows n some shown xs holds =
      let params = Int (pos n) ∷ [] in
      let answer = (reads_as select_sentence params old new desk_schema has _ select_sentence_is.0 select_sentence_is.1 select_sentence_is.2 rows shown).answer Null in
      found_numbered sentence_shown (λ _ _. refl) n (n - 1) xs rows (omega (arith, some)) (picked 3 _ select_sentence_terms (overlay old.now.trees []) params rows answer sentence_view (has_number n) (λ (r : Row). r) refl (λ _. refl) (numbered sentence_shown 1 xs) holds)

  pub named_batch_shows : (name : List ℕ) → Shown select_named_batch (Text name ∷ []) old new rows → (xs : List Batch) → Shows batch_view (numbered batch_shown 1 xs) (old.now.trees 1)
      → IsPermutation (map key_alone (filter (has_name name) (numbered batch_shown 1 xs))) rows
  named_batch_shows name shown xs =
      let params = Text name ∷ [] in
      let answer = (reads_as select_named_batch params old new desk_schema has _ select_named_batch_is.0 select_named_batch_is.1 select_named_batch_is.2 rows shown).answer Null in
      picked 1 _ select_named_batch_terms (overlay old.now.trees []) params rows answer batch_view (has_name name) key_alone refl (λ _. refl) (numbered batch_shown 1 xs)

  pub named_sentence_shows : (name : List ℕ) → Shown select_named_sentence (Text name ∷ []) old new rows → (xs : List Sentence) → Shows sentence_view (numbered sentence_shown 1 xs) (old.now.trees 3)
      → IsPermutation (map key_alone (filter (has_name name) (numbered sentence_shown 1 xs))) rows
  named_sentence_shows name shown xs =
      let params = Text name ∷ [] in
      let answer = (reads_as select_named_sentence params old new desk_schema has _ select_named_sentence_is.0 select_named_sentence_is.1 select_named_sentence_is.2 rows shown).answer Null in
      picked 3 _ select_named_sentence_terms (overlay old.now.trees []) params rows answer sentence_view (has_name name) key_alone refl (λ _. refl) (numbered sentence_shown 1 xs)

  pub revision_shows : (sent rev : ℕ) → Shown select_revision (Int (pos sent) ∷ Int (pos rev) ∷ []) old new rows → (xs : List Revision) → Shows revision_view (map revision_shown xs) (old.now.trees 5) → IsPermutation (filter (has_pair sent rev) (map revision_shown xs)) rows
  revision_shows sent rev shown xs holds =
      let params = Int (pos sent) ∷ Int (pos rev) ∷ [] in
      let answer = (reads_as select_revision params old new desk_schema has _ select_revision_is.0 select_revision_is.1 select_revision_is.2 rows shown).answer Null in
      subst (λ l. IsPermutation l rows) (map-id (filter (has_pair sent rev) (map revision_shown xs)))
      (picked 5 _ select_revision_terms (overlay old.now.trees []) params rows answer revision_view (has_pair sent rev) (λ (r : Row). r) refl (λ _. refl) (map revision_shown xs) holds)

  pub one_pulled_shows : (n : ℕ) → Shown select_one_pulled (Int (pos n) ∷ []) old new rows → (xs : List ℕ) → Shows number_view (map number_shown xs) (old.now.trees 9) → IsPermutation (filter (has_number n) (map number_shown xs)) rows
  one_pulled_shows n shown xs holds =
      let params = Int (pos n) ∷ [] in
      let answer = (reads_as select_one_pulled params old new desk_schema has _ select_one_pulled_is.0 select_one_pulled_is.1 select_one_pulled_is.2 rows shown).answer Null in
      subst (λ l. IsPermutation l rows) (map-id (filter (has_number n) (map number_shown xs)))
      (picked 9 _ select_one_pulled_terms (overlay old.now.trees []) params rows answer number_view (has_number n) (λ (r : Row). r) refl (λ _. refl) (map number_shown xs) holds)

  pub work_is_shown : (batch : ℕ) → Shown select_work (Int (pos batch) ∷ []) old new rows → (xs : List Sentence) → Shows sentence_view (numbered sentence_shown 1 xs) (old.now.trees 3) → rows ≡ map work_shown (work_of batch 1 xs)
  work_is_shown batch shown xs holds =
      let params = Int (pos batch) ∷ [] in
      let answer = (reads_as select_work params old new desk_schema has _ select_work_is.0 select_work_is.1 select_work_is.2 rows shown).answer Null in
      sifted 3 _ select_work_terms (rising 0 ∷ []) params sentence_view (λ r. column r 0 ∷ []) work_columns (has_batch batch) (λ _. refl) (overlay old.now.trees []) rows answer refl (numbered sentence_shown 1 xs) first IsFirst
      (sifted_rise sentence_shown (λ _ _. refl) work_columns (has_batch batch) 1 xs) (sifted_placed sentence_shown (λ _ _. refl) work_columns (has_batch batch) 1 xs) (first_in_order 0 3 select_work_terms) holds
      ∙ work_shows batch 1 xs

-- ---- the record of the first row

pub batch_same : (n : ℕ) (a b : Batch) → batch_shown n a ≡ batch_shown n b → a ≡ b
batch_same n a b e =
    let name : a.name ≡ b.name = cc in
    let state : a.state ≡ b.state = cc in
    let worker : a.worker ≡ b.worker = cc in
    ap (λ k. record { name = k; state = a.state; worker = a.worker }) name ∙ ap (λ k. record { name = b.name; state = k; worker = a.worker }) state ∙ ap (λ k. record { name = b.name; state = b.state; worker = k }) worker

pub sentence_same : (n : ℕ) (a b : Sentence) → sentence_shown n a ≡ sentence_shown n b → a ≡ b
sentence_same n a b e =
    let sent_id : a.sent_id ≡ b.sent_id = cc in
    let batch : a.batch ≡ b.batch = cc in
    let rev : a.rev ≡ b.rev = cc in
    let words : a.words ≡ b.words = cc in
    ap (λ k. record { sent_id = k; batch = a.batch; rev = a.rev; words = a.words }) sent_id ∙ ap (λ k. record { sent_id = b.sent_id; batch = k; rev = a.rev; words = a.words }) batch
    ∙ ap (λ k. record { sent_id = b.sent_id; batch = b.batch; rev = k; words = a.words }) rev ∙ ap (λ k. record { sent_id = b.sent_id; batch = b.batch; rev = b.rev; words = k }) words

is_some : {X : Type 0} (x : X) → None ≡ Some x → ⊥
is_some x e = absurd cc

among : (rows : List Row) (r : Row) → slice_get rows 0 ≡ Some r → Contains rows r
among [] r e = absurd cc
among (x ∷ xs) r e = let is : x ≡ r = cc in (0, omega arith, is)

module _ {T X : Type 0} (plain : T → X) (row : X → Row) (rows : List Row) where
  pub one_found : ((a b : X) → row a ≡ row b → a ≡ b) → (found : Option T) (x : Option X) → ShowsFirst (λ t. row (plain t)) rows found → rows ≡ map row (option_to_list x) → option_map plain found ≡ x
  one_found alike None None shows is = refl
  one_found alike None (Some x) shows is = absurd cc
  one_found alike (Some t) None shows is = let none : slice_get [] 0 ≡ Some (row (plain t)) = subst (λ rs. slice_get rs 0 ≡ Some (row (plain t))) is shows in absurd cc
  one_found alike (Some t) (Some x) shows is =
      let here : slice_get (row x ∷ []) 0 ≡ Some (row (plain t)) = subst (λ rs. slice_get rs 0 ≡ Some (row (plain t))) is shows in
      let same : row (plain t) ≡ row x = cc in
      ap Some (alike (plain t) x same)

  pub first_among : (found : Option T) → ShowsFirst (λ t. row (plain t)) rows found → (option_map plain found ≡ None → rows ≡ []) × IfSome (option_map plain found) (λ x. Contains rows (row x))
  first_among None shows = ((λ _. shows), tt)
  first_among (Some t) shows = ((λ none. absurd cc), among rows (row (plain t)) shows)

pub number_among : (rows : List Row) (found : Option ℕ) → ShowsFirst number_shown rows found → (found ≡ None → rows ≡ []) × IfSome found (λ n. Contains rows (number_shown n))
number_among rows None shows = ((λ _. shows), tt)
number_among rows (Some n) shows = ((λ none. absurd cc), among rows (number_shown n) shows)

module _ {X : Type 0} (Is : X → Type 0) (row : X → Row) (rows : List Row) where
  fits_at : (xs : List X) (j : ℕ) → AllByRecursion Is xs → IfSome (slice_get xs j) Is
  fits_at [] j h = tt
  fits_at (x ∷ xs) zero h = h.0
  fits_at (x ∷ xs) (suc j) h = fits_at xs j h.1

  readable : (x : Option X) → IfSome x Is → rows ≡ map row (option_to_list x) → ¬ HasUnreadable Is row rows
  readable None fits is (r, within, none) = let in_none = subst (λ rs. Contains rs r) is within in absurd (omega (arith, in_none.1))
  readable (Some x) fits is (r, within, none) = elim (contains_cases (row x) [] r (subst (λ rs. Contains rs r) is within)) [
    | inl same ↦ none x fits (sym same)
    | inr more ↦ absurd (omega (arith, more.1))
  ]

  pub one_readable : (xs : List X) (j : ℕ) → All Is xs → rows ≡ map row (option_to_list (slice_get xs j)) → ¬ HasUnreadable Is row rows
  one_readable xs j each is = readable (slice_get xs j) (fits_at xs j (recursion_from_All Is xs each)) is
