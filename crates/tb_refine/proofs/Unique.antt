-- The records of a reached state are what UNIQUE and the primary keys ask for.
use Rattle.std.proofs.Common.{◌≡◌, ℕ, ◌+◌, ◌<◌, List, [], ◌∷◌, ◌++◌, map, refl, sym, ap, subst, arith}
use Rattle.std.specs.List.{AllByRecursion}
use Rattle.tb_core.specs.Names as names
use Rattle.tb_core.specs.Machine as machine
use Rattle.tb_core.specs.Machine.{Machine, revisions}
use Rattle.tb_core.specs.Keeping.{IsWell}
use Rattle.tb_core.specs.Rows.{RevisionRow, revision_rows, revisions_from}
use Rattle.tb_tables.specs.Records.{Batch, Sentence, Revision}
use Rattle.tb_tables.specs.Failing.{Lacks, AreApart, AreUnique}
use Rattle.tb_refine.specs.DeskTables.{tables_of, batch_record, sentence_record, revision_record}

-- ---- names

lacks_mapped : {X Y : Type 0} (f : X → Y) (name_of : Y → List ℕ) (xs : List X) (name : List ℕ) → names.Lacks (map (λ x. name_of (f x)) xs) name → Lacks (map name_of (map f xs)) name
lacks_mapped f name_of [] name h = tt
lacks_mapped f name_of (x ∷ xs) name h = (h.0, lacks_mapped f name_of xs name h.1)

apart_mapped : {X Y : Type 0} (f : X → Y) (name_of : Y → List ℕ) (xs : List X) → names.AreApart (map (λ x. name_of (f x)) xs) → AreApart (map name_of (map f xs))
apart_mapped f name_of [] h = tt
apart_mapped f name_of (x ∷ xs) h = (lacks_mapped f name_of xs (name_of (f x)) h.0, apart_mapped f name_of xs h.1)

-- ---- revisions

abbrev keys : List RevisionRow → List (ℕ × ℕ)
keys rows = map (λ (r : Revision). (r.sent, r.rev)) (map revision_record rows)

keys_joined : (xs ys : List RevisionRow) → keys (xs ++ ys) ≡ keys xs ++ keys ys
keys_joined [] ys = refl
keys_joined (x ∷ xs) ys = ap (λ l. (x.sent, x.rev) ∷ l) (keys_joined xs ys)

all_joined : {X : Type 0} (P : X → Type 0) (xs ys : List X) → AllByRecursion P xs → AllByRecursion P ys → AllByRecursion P (xs ++ ys)
all_joined P [] ys h k = k
all_joined P (x ∷ xs) ys h k = (h.0, all_joined P xs ys h.1 k)

apart_joined : {X : Type 0} (xs ys : List X) → AreApart xs → AreApart ys → AllByRecursion (Lacks ys) xs → AreApart (xs ++ ys)
apart_joined [] ys h k each = k
apart_joined (x ∷ xs) ys h k each = (all_joined (λ y. x ≡ y → ⊥) xs ys h.0 each.0, apart_joined xs ys h.1 k each.1)

-- the revisions of one sentence are numbered
above : (n k r : ℕ) (rs : List machine.Revision) → r < k → Lacks (keys (revision_rows n k rs)) (n, r)
above n k r [] low = tt
above n k r (q ∷ rs) low = ((λ e. let same : r ≡ k = ap (λ (p : ℕ × ℕ). p.1) e in omega (arith, low, same)), above n (k + 1) r rs (omega (arith, low)))

rows_apart : (n k : ℕ) (rs : List machine.Revision) → AreApart (keys (revision_rows n k rs))
rows_apart n k [] = tt
rows_apart n k (q ∷ rs) = (above n (k + 1) k rs (omega arith), rows_apart n (k + 1) rs)

-- and the sentences too
other_rows : (m n k r : ℕ) (rs : List machine.Revision) → m < n → Lacks (keys (revision_rows n k rs)) (m, r)
other_rows m n k r [] low = tt
other_rows m n k r (q ∷ rs) low = ((λ e. let same : m ≡ n = ap (λ (p : ℕ × ℕ). p.0) e in omega (arith, low, same)), other_rows m n (k + 1) r rs low)

later_lack : (m n r : ℕ) (xs : List machine.Sentence) → m < n → Lacks (keys (revisions_from n xs)) (m, r)
later_lack m n r [] low = tt
later_lack m n r (x ∷ xs) low =
    subst (λ l. Lacks l (m, r)) (sym (keys_joined (revision_rows n 1 (revisions x)) (revisions_from (n + 1) xs)))
    (all_joined (λ y. (m, r) ≡ y → ⊥) (keys (revision_rows n 1 (revisions x))) (keys (revisions_from (n + 1) xs)) (other_rows m n 1 r (revisions x) low) (later_lack m (n + 1) r xs (omega (arith, low))))

each_lacks : (n k : ℕ) (rs : List machine.Revision) (xs : List machine.Sentence) → AllByRecursion (Lacks (keys (revisions_from (n + 1) xs))) (keys (revision_rows n k rs))
each_lacks n k [] xs = tt
each_lacks n k (q ∷ rs) xs = (later_lack n (n + 1) k xs (omega arith), each_lacks n (k + 1) rs xs)

revisions_apart : (n : ℕ) (xs : List machine.Sentence) → AreApart (keys (revisions_from n xs))
revisions_apart n [] = tt
revisions_apart n (x ∷ xs) =
    subst AreApart (sym (keys_joined (revision_rows n 1 (revisions x)) (revisions_from (n + 1) xs)))
    (apart_joined (keys (revision_rows n 1 (revisions x))) (keys (revisions_from (n + 1) xs)) (rows_apart n 1 (revisions x)) (revisions_apart (n + 1) xs) (each_lacks n 1 (revisions x) xs))

pub unique_tables : (s : Machine) → IsWell s → AreUnique (tables_of s)
unique_tables s well = record {
  batches = apart_mapped batch_record (λ (b : Batch). b.name) s.batches well.names;
  sentences = apart_mapped sentence_record (λ (x : Sentence). x.sent_id) s.sentences well.ids;
  revisions = revisions_apart 1 s.sentences;
}
