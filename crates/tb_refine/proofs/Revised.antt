-- The revisions that a sentence has.
use Rattle.std.proofs.Common.{◌≡◌, ℕ, zero, suc, ◌+◌, ◌-◌, ◌<◌, ◌≤◌, List, [], ◌∷◌, ◌++◌, map, length, None, Some, slice_get, sym, subst, refl, arith, length-append}
use Rattle.std.specs.List.{AllByRecursion}
use Rattle.std.proofs.lemmas.List.{map-append}
use Rattle.tb_core.specs.Machine as machine
use Rattle.tb_core.specs.Machine.{Machine, revisions, rev}
use Rattle.tb_core.specs.Rows.{revision_rows, revisions_from}
use Rattle.tb_tables.specs.Records.{Revision}
use Rattle.tb_refine.specs.DeskTables.{revision_record}
use Rattle.tb_reads.specs.Found.{IsRevisionAt}
use Rattle.tb_refine.specs.Revisions.{HasRevision}
use Rattle.tb_refine.proofs.There.{element}

-- ---- what stands is found

first_part : {X : Type 0} (P : X → Type 0) (xs ys : List X) → AllByRecursion P (xs ++ ys) → AllByRecursion P xs
first_part P [] ys h = tt
first_part P (x ∷ xs) ys h = (h.0, first_part P xs ys h.1)

last_part : {X : Type 0} (P : X → Type 0) (xs ys : List X) → AllByRecursion P (xs ++ ys) → AllByRecursion P ys
last_part P [] ys h = h
last_part P (x ∷ xs) ys h = last_part P xs ys h.1

abbrev Unlike : ℕ → ℕ → Revision → Type 0
Unlike sent k r = (r.sent ≡ sent) × (r.rev ≡ k) → ⊥

among_rows : (sent k n m : ℕ) (rs : List machine.Revision) (j : ℕ) (q : machine.Revision) → slice_get rs j ≡ Some q → n ≡ sent → m + j ≡ k → AllByRecursion (Unlike sent k) (map revision_record (revision_rows n m rs)) → ⊥
among_rows sent k n m [] j q there is at h = absurd cc
among_rows sent k n m (r ∷ rs) zero q there is at h = h.0 (is, (let here : m ≡ k = omega (arith, at) in here))
among_rows sent k n m (r ∷ rs) (suc j) q there is at h = among_rows sent k n (m + 1) rs j q there is (omega (arith, at)) h.1

among : (sent k n : ℕ) (xs : List machine.Sentence) (i : ℕ) (x : machine.Sentence) (j : ℕ) (q : machine.Revision) → slice_get xs i ≡ Some x → slice_get (revisions x) j ≡ Some q → n + i ≡ sent → 1 + j ≡ k
    → AllByRecursion (Unlike sent k) (map revision_record (revisions_from n xs)) → ⊥
among sent k n [] i x j q there given is at h = absurd cc
among sent k n (y ∷ ys) zero x j q there given is at h =
    let both : Some y ≡ Some x = there in
    let same : y ≡ x = cc in
    let rows = first_part (Unlike sent k) (map revision_record (revision_rows n 1 (revisions y))) (map revision_record (revisions_from (n + 1) ys)) (subst (AllByRecursion (Unlike sent k)) (map-append revision_record (revision_rows n 1 (revisions y)) (revisions_from (n + 1) ys)) h) in
    among_rows sent k n 1 (revisions y) j q (subst (λ z. slice_get (revisions z) j ≡ Some q) (sym same) given) (omega (arith, is)) at rows
among sent k n (y ∷ ys) (suc i) x j q there given is at h =
    let rows = last_part (Unlike sent k) (map revision_record (revision_rows n 1 (revisions y))) (map revision_record (revisions_from (n + 1) ys)) (subst (AllByRecursion (Unlike sent k)) (map-append revision_record (revision_rows n 1 (revisions y)) (revisions_from (n + 1) ys)) h) in
    among sent k (n + 1) ys i x j q there given (omega (arith, is)) at rows

pub revision_found : (s : Machine) (number k : ℕ) (x : machine.Sentence) (q : machine.Revision) → 0 < number → slice_get s.sentences (number - 1) ≡ Some x → HasRevision x k q
    → IsRevisionAt number k (map revision_record (revisions_from 1 s.sentences)) None → ⊥
revision_found s number k x q above there has h = among number k 1 s.sentences (number - 1) x (k - 1) q there has.there (omega (arith, above)) (let counted = has.counted in omega (arith, counted)) h

-- ---- revisions that a sentence has

last_there : {X : Type 0} (xs : List X) (x : X) → slice_get (xs ++ x ∷ []) (length xs) ≡ Some x
last_there [] x = refl
last_there (y ∷ ys) x = last_there ys x

pub has_current : (x : machine.Sentence) (n : ℕ) → n ≡ rev x → HasRevision x n x.current
has_current x n is =
    let at : length x.before ≡ n - 1 = omega (arith, is) in
    record { counted = omega (arith, is); there = subst (λ i. slice_get (revisions x) i ≡ Some x.current) at (last_there x.before x.current) }

pub has_each : (x : machine.Sentence) (n last : ℕ) → 0 < n → n ≤ last → last ≡ rev x → (q : machine.Revision) × HasRevision x n q
has_each x n last above within is =
    let whole : length (revisions x) ≡ length x.before + 1 = length-append x.before (x.current ∷ []) in
    let it = element (revisions x) (n - 1) (omega (arith, above, within, is, whole)) in
    (it.0, record { counted = above; there = it.1 })
