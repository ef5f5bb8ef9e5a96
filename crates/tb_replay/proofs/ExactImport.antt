-- The tests on what is kept of a state are exactly what the machine asks: imports.
use Rattle.std.proofs.Common.{◌≡◌, ℕ, zero, suc, ◌+◌, ◌*◌, ◌<◌, ◌≤◌, List, [], ◌∷◌, ◌++◌, length, map, get_or, take, drop, None, true, false, ◌&&◌, eqb, ltb, refl, sym, ◌∙◌, ap, subst, arith, append_assoc, length-append}
use Rattle.std.specs.List.{AllByRecursion, flat_map, list_all}
use Rattle.std.proofs.lemmas.Bool.{ltb-true, lt-ltb, eqb-true, eq-eqb}
use Rattle.std.proofs.lemmas.List.{length-map}
use Rattle.std.proofs.lemmas.Slice.Eq.{bytes_eq-Decides}
use Rattle.tb_conllu.specs.Text.{BlockText}
use Rattle.tb_conllu.specs.Words.{words_of}
use Rattle.tb_core.specs.declared.kinds.State.TheVariants.{Opened}
use Rattle.tb_core.specs.declared.kinds.Kind.TheVariants.{Import}
use Rattle.tb_core.specs.Moves.{MoveText}
use Rattle.tb_core.specs.Names.{is_name, Lacks, AreApart}
use Rattle.tb_core.specs.Machine.{sent_id_of, IsLawful, Batch, Revision, Sentence, Machine, revisions, bodies_of, no_batch, weigh, one, words}
use Rattle.tb_core.specs.Acts.{importing, after, move_of, names_of, ids_of, ids_in, new_batch, new_sentence, new_sentences}
use Rattle.tb_core.specs.Keeping.{Continues, Continue, IsFine, IsWell}
use Rattle.tb_core.specs.Tests.{first_in, first_body}
use Rattle.tb_core.proofs.Weights.{all_there}
use Rattle.tb_core.proofs.Lists.{map-joined}
use Rattle.tb_core.proofs.Stored.{few_in}
use Rattle.tb_replay.specs.Course.{bodies_in, firsts}
use Rattle.tb_replay.specs.Summaries.{row_of, entry_of, entries_of}
use Rattle.tb_replay.specs.Fine.{AreFine}
use Rattle.tb_replay.specs.Slots.{Slot, Mark, slots_from, mark_of, small_of}
use Rattle.tb_replay.specs.Playing.{is_first_by, first_count, is_of_import, first_mark, first_counts, import_rows, import_expected, import_fits, import_test, import_to, import_next, fits_word}
use Rattle.tb_replay.proofs.Full.{Full, continue_join, continue_rest}
use Rattle.tb_replay.proofs.Smalls.{slots_count, slots_imported}
use Rattle.tb_replay.proofs.Parts.{Follows, first_true, second_true, both, full_move, expected_is, expected_of, get_mapped, get_there, get_after}
use Rattle.tb_replay.proofs.Exact.{small_is, room}
use Rattle.tb_replay.proofs.Filed.{valid_of, shaped_of, kept_of}

-- ---- lists

map_take : {X Y : Type 0} (g : X → Y) (k : ℕ) (xs : List X) → take k (map g xs) ≡ map g (take k xs)
map_take g zero [] = refl
map_take g zero (x ∷ xs) = refl
map_take g (suc k) [] = refl
map_take g (suc k) (x ∷ xs) = ap (λ l. g x ∷ l) (map_take g k xs)

map_drop : {X Y : Type 0} (g : X → Y) (k : ℕ) (xs : List X) → drop k (map g xs) ≡ map g (drop k xs)
map_drop g zero [] = refl
map_drop g zero (x ∷ xs) = refl
map_drop g (suc k) [] = refl
map_drop g (suc k) (x ∷ xs) = map_drop g k xs

all_take : {X : Type 0} (P : X → Type 0) (k : ℕ) (xs : List X) → AllByRecursion P xs → AllByRecursion P (take k xs)
all_take P zero [] h = tt
all_take P zero (x ∷ xs) h = tt
all_take P (suc k) [] h = tt
all_take P (suc k) (x ∷ xs) h = (h.0, all_take P k xs h.1)

all_drop : {X : Type 0} (P : X → Type 0) (k : ℕ) (xs : List X) → AllByRecursion P xs → AllByRecursion P (drop k xs)
all_drop P zero [] h = tt
all_drop P zero (x ∷ xs) h = h
all_drop P (suc k) [] h = tt
all_drop P (suc k) (x ∷ xs) h = all_drop P k xs h.1

all_right : {X : Type 0} (P : X → Type 0) (xs ys : List X) → AllByRecursion P (xs ++ ys) → AllByRecursion P ys
all_right P [] ys h = h
all_right P (x ∷ xs) ys h = all_right P xs ys h.1

all_unit : (ys : List (List ℕ)) → AllByRecursion (Lacks []) ys
all_unit [] = tt
all_unit (y ∷ ys) = (tt, all_unit ys)

all_more : (a : List ℕ) (xs ys : List (List ℕ)) → AllByRecursion (λ y. a ≡ y → ⊥) ys → AllByRecursion (Lacks xs) ys → AllByRecursion (Lacks (a ∷ xs)) ys
all_more a xs [] h k = tt
all_more a xs (y ∷ ys) h k = ((λ e. h.0 (sym e), k.0), all_more a xs ys h.1 k.1)

apart_cross : (xs ys : List (List ℕ)) → AreApart (xs ++ ys) → AllByRecursion (Lacks xs) ys
apart_cross [] ys h = all_unit ys
apart_cross (x ∷ xs) ys h = all_more x xs ys (all_right (λ y. x ≡ y → ⊥) xs ys h.0) (apart_cross xs ys h.1)

apart_right : (xs ys : List (List ℕ)) → AreApart (xs ++ ys) → AreApart ys
apart_right [] ys h = h
apart_right (x ∷ xs) ys h = apart_right xs ys h.1

apart_take : (k : ℕ) (xs : List (List ℕ)) → AreApart xs → AreApart (take k xs)
apart_take zero [] h = tt
apart_take zero (x ∷ xs) h = tt
apart_take (suc k) [] h = tt
apart_take (suc k) (x ∷ xs) h = (all_take (λ y. x ≡ y → ⊥) k xs h.0, apart_take k xs h.1)

ids_split : (xs ys : List Sentence) → Continue xs ys → ids_of ys ≡ ids_of xs ++ ids_of (drop (length xs) ys)
ids_split [] [] h = refl
ids_split [] (y ∷ ys) h = refl
ids_split (x ∷ xs) [] h = absurd h
ids_split (x ∷ xs) (y ∷ ys) h = ap (λ i. i ∷ ids_of ys) (sym h.0.sent_id) ∙ ap (λ l. x.sent_id ∷ l) (ids_split xs ys h.1)

continue_take : (k : ℕ) (zs ws : List Sentence) → Continue zs (take k ws) → Continue zs ws
continue_take k [] ws h = tt
continue_take zero (z ∷ zs) [] h = absurd h
continue_take zero (z ∷ zs) (w ∷ ws) h = absurd h
continue_take (suc k) (z ∷ zs) [] h = absurd h
continue_take (suc k) (z ∷ zs) (w ∷ ws) h = (h.0, continue_take k zs ws h.1)

-- ---- first revisions

first_split : (before : List Revision) (c : Revision) → (r : Revision) × (rest : List Revision) × (before ++ c ∷ [] ≡ r ∷ rest) × (r.body ≡ first_in before c)
first_split [] c = (c, [], refl, refl)
first_split (r ∷ rs) c = (r, rs ++ c ∷ [], refl, refl)

take_first : (before : List Revision) (c : Revision) → take 1 (map (λ (r : Revision). r.body) (before ++ c ∷ [])) ≡ first_in before c ∷ []
take_first [] c = refl
take_first (r ∷ rs) c = refl

firsts_of : (ys : List Sentence) → flat_map (λ (bs : List BlockText). take 1 bs) (map bodies_of ys) ≡ map first_body ys
firsts_of [] = refl
firsts_of (y ∷ ys) = ap (λ l. l ++ flat_map (λ (bs : List BlockText). take 1 bs) (map bodies_of ys)) (take_first y.before y.current) ∙ ap (λ l. first_body y ∷ l) (firsts_of ys)

abbrev pub the_new : Machine → Machine → MoveText → List Sentence
the_new f s m = take m.sentences (drop (length s.sentences) f.sentences)

firsts_are : (f s : Machine) (m : MoveText) → firsts (bodies_in f) (length s.sentences) m.sentences ≡ map first_body (the_new f s m)
firsts_are f s m =
    ap (λ (l : List (List BlockText)). flat_map (λ (bs : List BlockText). take 1 bs) (take m.sentences l)) (map_drop bodies_of (length s.sentences) f.sentences)
    ∙ (ap (λ (l : List (List BlockText)). flat_map (λ (bs : List BlockText). take 1 bs) l) (map_take bodies_of m.sentences (drop (length s.sentences) f.sentences)) ∙ firsts_of (the_new f s m))

rows_are : (f s : Machine) (m : MoveText) → import_rows (entries_of f.sentences) (small_of s) m ≡ entries_of (the_new f s m)
rows_are f s m =
    ap (λ n. take m.sentences (drop n (entries_of f.sentences))) (length-map s.sentences mark_of)
    ∙ (ap (take m.sentences) (map_drop entry_of (length s.sentences) f.sentences) ∙ map_take entry_of m.sentences (drop (length s.sentences) f.sentences))

first_word : (y : Sentence) → first_count (map row_of (revisions y)) ≡ words_of (first_body y)
first_word y = let c = first_split y.before y.current in ap (λ (l : List Revision). first_count (map row_of l)) c.2 ∙ ap words_of c.3

words_are : (n : ℕ) (u : List ℕ) (ys : List Sentence) → weigh words (new_sentences n u (map first_body ys)) ≡ first_counts (entries_of ys)
words_are n u [] = refl
words_are n u (y ∷ ys) = let a = first_word y in let b = words_are n u ys in omega (arith, a, b)

ones_are : (n : ℕ) (u : List ℕ) (ys : List Sentence) → weigh one (new_sentences n u (map first_body ys)) ≡ length (entries_of ys)
ones_are n u [] = refl
ones_are n u (y ∷ ys) = let b = ones_are n u ys in omega (arith, b)

abbrev OfImport : ℕ → List ℕ → Sentence → Type 0
OfImport n u y = is_of_import n u (entry_of y) ≡ true

tests_all : (n : ℕ) (u : List ℕ) (ys : List Sentence) → list_all (is_of_import n u) (entries_of ys) ≡ true → AllByRecursion (OfImport n u) ys
tests_all n u [] h = tt
tests_all n u (y ∷ ys) h = (first_true (is_of_import n u (entry_of y)) _ h, tests_all n u ys (second_true (is_of_import n u (entry_of y)) _ h))

all_tests : (n : ℕ) (u : List ℕ) (ys : List Sentence) → AllByRecursion (OfImport n u) ys → list_all (is_of_import n u) (entries_of ys) ≡ true
all_tests n u [] h = refl
all_tests n u (y ∷ ys) h = both (is_of_import n u (entry_of y)) _ h.0 (all_tests n u ys h.1)

fine_first : (P : BlockText → Type 0) (y : Sentence) → AllByRecursion P (bodies_of y) → P (first_body y)
fine_first P y h =
    let c = first_split y.before y.current in
    let all = subst (AllByRecursion P) (ap (λ (l : List Revision). map (λ (r : Revision). r.body) l) c.2) h in
    subst P c.3 all.0

begins : (n : ℕ) (u : List ℕ) (y : Sentence) → OfImport n u y → IsFine y → Continues (new_sentence n u (first_body y)) y
begins n u y t k =
    let c = first_split y.before y.current in
    let number = eqb-true y.batch n (first_true (eqb y.batch n) _ t) in
    let by = second_true (eqb y.batch n) _ t in
    let who : c.0.who ≡ u = (bytes_eq-Decides c.0.who u).0 (subst (λ (l : List Revision). is_first_by u (map row_of l) ≡ true) c.2 by) in
    let is : c.0 ≡ (let r : Revision = record { who = u; body = first_body y } in r) = ap (λ w. let r : Revision = record { who = w; body = c.0.body } in r) who ∙ ap (λ b. let r : Revision = record { who = u; body = b } in r) c.3 in
    record { sent_id = fine_first (λ (b : BlockText). sent_id_of b ≡ y.sent_id) y k.titled; batch = sym number; more = c.1; revised = c.2 ∙ ap (λ r. r ∷ c.1) is }

all_begin : (n : ℕ) (u : List ℕ) (ys : List Sentence) → AllByRecursion (OfImport n u) ys → AllByRecursion IsFine ys → Continue (new_sentences n u (map first_body ys)) ys
all_begin n u [] h k = tt
all_begin n u (y ∷ ys) h k = (begins n u y h.0 k.0, all_begin n u ys h.1 k.1)

begun_by : (n : ℕ) (u : List ℕ) (b : BlockText) (y : Sentence) → Continues (new_sentence n u b) y → OfImport n u y
begun_by n u b y h =
    both (eqb y.batch n) _ (eq-eqb y.batch n (sym h.batch)) (subst (λ (l : List Revision). is_first_by u (map row_of l) ≡ true) (sym h.revised) ((bytes_eq-Decides u u).1 refl))

all_begun : (n : ℕ) (u : List ℕ) (k : ℕ) (ws : List Sentence) → Continue (new_sentences n u (map first_body (take k ws))) ws → AllByRecursion (OfImport n u) (take k ws)
all_begun n u zero [] h = tt
all_begun n u zero (w ∷ ws) h = tt
all_begun n u (suc k) [] h = tt
all_begun n u (suc k) (w ∷ ws) h = (begun_by n u (first_body w) w h.0, all_begun n u k ws h.1)

new_marks : (n : ℕ) (u : List ℕ) (ys : List Sentence) → AllByRecursion (OfImport n u) ys → map mark_of (new_sentences n u (map first_body ys)) ≡ map first_mark (entries_of ys)
new_marks n u [] h = refl
new_marks n u (y ∷ ys) h =
    let number = eqb-true y.batch n (first_true (eqb y.batch n) _ h.0) in
    let is : (let x : Mark = record { batch = n; pulled = false; rev = 1; words = words_of (first_body y) } in x) ≡ first_mark (entry_of y) =
    ap (λ b. let x : Mark = record { batch = b; pulled = false; rev = 1; words = words_of (first_body y) } in x) (sym number)
    ∙ ap (λ w. let x : Mark = record { batch = y.batch; pulled = false; rev = 1; words = w } in x) (sym (first_word y)) in
    ap (λ x. x ∷ map mark_of (new_sentences n u (map first_body ys))) is ∙ ap (λ l. first_mark (entry_of y) ∷ l) (new_marks n u ys h.1)

ids_first : (ys : List Sentence) → AllByRecursion IsFine ys → ids_in (map first_body ys) ≡ ids_of ys
ids_first [] h = refl
ids_first (y ∷ ys) h = ap (λ i. i ∷ ids_in (map first_body ys)) (fine_first (λ (b : BlockText). sent_id_of b ≡ y.sent_id) y h.0.titled) ∙ ap (λ l. y.sent_id ∷ l) (ids_first ys h.1)

lawful_first : (ys : List Sentence) → AllByRecursion IsFine ys → AllByRecursion IsLawful (map first_body ys)
lawful_first [] h = tt
lawful_first (y ∷ ys) h = (fine_first IsLawful y h.0.lawful, lawful_first ys h.1)

-- ---- the name

names_size : (bs : List Batch) → length (names_of bs) ≡ length bs
names_size bs = length-map bs (λ (b : Batch). b.name)

cut_names : (more : List (List ℕ)) → 0 < length more → (x : List ℕ) × (rest : List (List ℕ)) × (more ≡ x ∷ rest)
cut_names [] h = absurd (omega arith)
cut_names (x ∷ rest) h = (x, rest, refl)

abbrev pub the_name : Machine → Machine → List ℕ
the_name f s = get_or (names_of f.batches) (length s.batches) []

next_name : (f s : Machine) → Full s f → length s.batches < length f.batches → (rest : List (List ℕ)) × (names_of f.batches ≡ names_of s.batches ++ the_name f s ∷ rest)
next_name f s h l =
    let sizes = ap length h.names ∙ length-append (names_of s.batches) h.more in
    let a = names_size f.batches in
    let b = names_size s.batches in
    let c = cut_names h.more (omega (arith, sizes, a, b)) in
    let e = h.names ∙ ap (λ l. names_of s.batches ++ l) c.2 in
    let is = ap (λ l. get_or l (length s.batches) []) e ∙ get_after (names_of s.batches) c.0 c.1 (length s.batches) [] (sym b) in
    (c.1, e ∙ ap (λ x. names_of s.batches ++ x ∷ c.1) (sym is))

-- ---- an import

import_mk : Machine → List ℕ → ℕ → ℕ → MoveText
import_mk s u k n = record { no = length s.moves + 1; kind = Import; batch = length s.batches + 1; sent = 0; from = None; to = Opened; sentences = k; words_out = 0; words_in = n; who = u }

two : (F : ℕ → ℕ → MoveText) (a b c d : ℕ) → a ≡ b → c ≡ d → F a c ≡ F b d
two F a b c d p q = cc

import_move : (s : Machine) (name u : List ℕ) (ys : List Sentence) → full_move Import u (import_expected (length s.moves) (length s.batches + 1) (entries_of ys)) ≡ move_of s (importing name u (map first_body ys))
unfolding full_move import_mk
import_move s name u ys =
    let n = length s.batches + 1 in
    sym (two (import_mk s u) (weigh one (new_sentences n u (map first_body ys))) (length (entries_of ys)) (weigh words (new_sentences n u (map first_body ys))) (first_counts (entries_of ys)) (ones_are n u ys) (words_are n u ys))

-- the test over what it stands for
rebuilt : (f s : Machine) (m : MoveText) → import_test (length f.batches) (entries_of f.sentences) (small_of s) m ≡ (ltb (length s.batches) (length f.batches) && (fits_word (first_counts (entries_of (the_new f s m))) && import_fits (length s.moves) (length s.batches + 1) (entries_of (the_new f s m)) m))
rebuilt f s m =
    ap (λ n. ltb n (length f.batches) && (fits_word (first_counts (import_rows (entries_of f.sentences) (small_of s) m)) && import_fits (length s.moves) (n + 1) (import_rows (entries_of f.sentences) (small_of s) m) m)) (slots_count 1 s.batches s.sentences)
    ∙ ap (λ l. ltb (length s.batches) (length f.batches) && (fits_word (first_counts l) && import_fits (length s.moves) (length s.batches + 1) l m)) (rows_are f s m)

pub import_yes : (f s : Machine) (m : MoveText) → AreFine f → Full s f → m.kind ≡ Import → import_test (length f.batches) (entries_of f.sentences) (small_of s) m ≡ true
    → Follows f s m (importing (the_name f s) m.who (firsts (bodies_in f) (length s.sentences) m.sentences))
import_yes f s m fine h kind t0 =
    let t = sym (rebuilt f s m) ∙ t0 in
    let n = length s.batches + 1 in
    let ys = the_new f s m in
    let name = the_name f s in
    let below = ltb-true (length s.batches) (length f.batches) (first_true (ltb (length s.batches) (length f.batches)) _ t) in
    let fits = second_true (fits_word (first_counts (entries_of ys))) _ (second_true (ltb (length s.batches) (length f.batches)) _ t) in
    let t1 = second_true (is_name m.who) _ fits in
    let some = ltb-true 0 (length (entries_of ys)) (first_true (ltb 0 (length (entries_of ys))) _ t1) in
    let t2 = second_true (ltb 0 (length (entries_of ys))) _ t1 in
    let tests = tests_all n m.who ys (first_true (list_all (is_of_import n m.who) (entries_of ys)) _ t2) in
    let expected = second_true (list_all (is_of_import n m.who) (entries_of ys)) _ t2 in
    let e = import_expected (length s.moves) n (entries_of ys) in
    let its = all_take IsFine m.sentences (drop (length s.sentences) f.sentences) (all_drop IsFine (length s.sentences) f.sentences fine.sentences) in
    let name_is = get_mapped (λ (b : Batch). b.name) f.batches (length s.batches) no_batch [] below in
    let named = all_there (λ (b : Batch). is_name b.name ≡ true) f.batches (length s.batches) (get_or f.batches (length s.batches) no_batch) (get_there f.batches (length s.batches) no_batch below) fine.named in
    let next = next_name f s h below in
    let apart_names = subst AreApart next.1 fine.names in
    let apart_ids = subst AreApart (ids_split s.sentences f.sentences h.sentences) fine.ids in
    let rest = drop (length s.sentences) f.sentences in
    let ids = ids_first ys its in
    let lawful = lawful_first ys its in
    let taken = map_take (λ (x : Sentence). x.sent_id) m.sentences rest in
    let b = new_batch name in
    let act : Follows f s m (importing name m.who (map first_body ys)) = record {
      allowed = record {
        named = ap is_name name_is ∙ named;
        by = first_true (is_name m.who) _ fits;
        some = omega (arith, some, length-map ys first_body, length-map ys entry_of);
        shaped = shaped_of (map first_body ys) lawful;
        valid = valid_of (map first_body ys) (kept_of (map first_body ys) lawful) (subst AreApart (taken ∙ sym ids) (apart_take m.sentences (ids_of rest) (apart_right (ids_of s.sentences) (ids_of rest) apart_ids)));
        new = (apart_cross (names_of s.batches) (name ∷ next.0) apart_names).0;
        free = subst (AllByRecursion (Lacks (ids_of s.sentences))) (taken ∙ sym ids) (all_take (Lacks (ids_of s.sentences)) m.sentences (ids_of rest) (apart_cross (ids_of s.sentences) (ids_of rest) apart_ids));
      };
      moved = sym (import_move s name m.who ys) ∙ (ap (λ k. full_move k m.who e) (sym kind) ∙ expected_is m e expected);
      full = record {
        more = next.0;
        names = next.1 ∙ (sym (append_assoc (names_of s.batches) (name ∷ []) next.0) ∙ ap (λ l. l ++ next.0) (sym (map-joined (λ (c : Batch). c.name) s.batches (b ∷ []))));
        sentences = continue_join s.sentences (new_sentences n m.who (map first_body ys)) f.sentences h.sentences (continue_take m.sentences (new_sentences n m.who (map first_body ys)) rest (all_begin n m.who ys tests its));
      };
    } in
    subst (λ bs. Follows f s m (importing name m.who bs)) (sym (firsts_are f s m)) act

begun_new : (f s : Machine) (m : MoveText) → Follows f s m (importing (the_name f s) m.who (map first_body (the_new f s m))) → AllByRecursion (OfImport (length s.batches + 1) m.who) (the_new f s m)
begun_new f s m h =
    let n = length s.batches + 1 in
    all_begun n m.who m.sentences (drop (length s.sentences) f.sentences) (continue_rest s.sentences (new_sentences n m.who (map first_body (the_new f s m))) f.sentences h.full.sentences)

counts_below : (ys : List Sentence) → AllByRecursion IsFine ys → first_counts (entries_of ys) ≤ 1000 * length ys
counts_below [] h = omega arith
counts_below (y ∷ ys) h = let a = first_word y in let b = counts_below ys h.1 in let c = few_in (first_body y) (fine_first IsLawful y h.0.lawful) in omega (arith, a, b, c)

take_below : {X : Type 0} (k : ℕ) (xs : List X) → length (take k xs) ≤ length xs
take_below zero [] = omega arith
take_below zero (x ∷ xs) = omega arith
take_below (suc k) [] = omega arith
take_below (suc k) (x ∷ xs) = let e = take_below k xs in omega (arith, e)

drop_below : {X : Type 0} (k : ℕ) (xs : List X) → length (drop k xs) ≤ length xs
drop_below zero [] = omega arith
drop_below zero (x ∷ xs) = omega arith
drop_below (suc k) [] = omega arith
drop_below (suc k) (x ∷ xs) = let e = drop_below k xs in omega (arith, e)

pub import_no : (f s : Machine) (m : MoveText) → length f.sentences ≤ 1000000 → AreFine f → Follows f s m (importing (the_name f s) m.who (firsts (bodies_in f) (length s.sentences) m.sentences))
    → import_test (length f.batches) (entries_of f.sentences) (small_of s) m ≡ true
import_no f s m few fine h0 =
    let h = subst (λ bs. Follows f s m (importing (the_name f s) m.who bs)) (firsts_are f s m) h0 in
    let n = length s.batches + 1 in
    let ys = the_new f s m in
    let name = the_name f s in
    let b = new_batch name in
    let sizes = ap length h.full.names ∙ length-append (names_of (s.batches ++ b ∷ [])) h.full.more in
    let size_f = names_size f.batches in
    let size_s = names_size (s.batches ++ b ∷ []) ∙ length-append s.batches (b ∷ []) in
    let below = lt-ltb (length s.batches) (length f.batches) (omega (arith, sizes, size_f, size_s)) in
    let some = lt-ltb 0 (length (entries_of ys)) (omega (arith, h.allowed.some, length-map ys first_body, length-map ys entry_of)) in
    let tests = all_tests n m.who ys (begun_new f s m h) in
    let e = import_expected (length s.moves) n (entries_of ys) in
    let expected = expected_of m Import m.who e (import_move s name m.who ys ∙ h.moved) in
    let its = all_take IsFine m.sentences (drop (length s.sentences) f.sentences) (all_drop IsFine (length s.sentences) f.sentences fine.sentences) in
    let most = counts_below ys its in
    let a = take_below m.sentences (drop (length s.sentences) f.sentences) in
    let d = drop_below (length s.sentences) f.sentences in
    let roomy = room (first_counts (entries_of ys)) (omega (arith, most, a, d, few)) in
    rebuilt f s m ∙ both (ltb (length s.batches) (length f.batches)) _ below (both (fits_word (first_counts (entries_of ys))) _ roomy (both (is_name m.who) _ h.allowed.by (both (ltb 0 (length (entries_of ys))) _ some (both (list_all (is_of_import n m.who) (entries_of ys)) _ tests expected))))

slot_new : (a b c d : ℕ) → a ≡ b → c ≡ d → (let x : Slot = record { state = Opened; worker = []; sentences = a; words = c } in x) ≡ record { state = Opened; worker = []; sentences = b; words = d }
slot_new a b c d p q = ap (λ n. let x : Slot = record { state = Opened; worker = []; sentences = n; words = c } in x) p ∙ ap (λ n. let x : Slot = record { state = Opened; worker = []; sentences = b; words = n } in x) q

pub import_then : (f s : Machine) (m : MoveText) → IsWell s → Follows f s m (importing (the_name f s) m.who (firsts (bodies_in f) (length s.sentences) m.sentences))
    → import_next (entries_of f.sentences) (small_of s) m ≡ small_of (after s (importing (the_name f s) m.who (firsts (bodies_in f) (length s.sentences) m.sentences)))
import_then f s m w h0 =
    let h = subst (λ bs. Follows f s m (importing (the_name f s) m.who bs)) (firsts_are f s m) h0 in
    let n = length s.batches + 1 in
    let ys = the_new f s m in
    let name = the_name f s in
    let news = new_sentences n m.who (map first_body ys) in
    let slots = slots_imported s.batches name s.sentences m.who (map first_body ys) w.placed
    ∙ ap (λ x. slots_from 1 s.batches s.sentences ++ x ∷ []) (slot_new (weigh one news) (length (entries_of ys)) (weigh words news) (first_counts (entries_of ys)) (ones_are n m.who ys) (words_are n m.who ys)) in
    let marks = map-joined mark_of s.sentences news ∙ ap (λ l. map mark_of s.sentences ++ l) (new_marks n m.who ys (begun_new f s m h)) in
    ap (λ l. import_to l (small_of s)) (rows_are f s m)
    ∙ (small_is _ _ _ _ _ _ (sym slots) (sym marks) (sym (length-append s.moves (move_of s (importing name m.who (map first_body ys)) ∷ [])))
    ∙ ap (λ bs. small_of (after s (importing name m.who bs))) (sym (firsts_are f s m)))
