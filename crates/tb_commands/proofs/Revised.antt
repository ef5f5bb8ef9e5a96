-- One more revision of a sentence.
use Rattle.std.proofs.Common.{◌≡◌, ℕ, ◌+◌, ◌-◌, ◌<◌, ◌≤◌, List, [], ◌∷◌, ◌++◌, map, length, Some, slice_get, sym, ap, subst, ◌∙◌, arith, length-append, Contains}
use Rattle.std.specs.List.{AllByRecursion}
use Rattle.std.proofs.lemmas.List.{map-append}
use Rattle.tb_core.specs.Machine as machine
use Rattle.tb_core.specs.Machine.{Machine, revisions, rev}
use Rattle.tb_core.specs.Reaching.{Reached}
use Rattle.tb_core.proofs.Lists.{get_within}
use Rattle.tb_core.proofs.Weights.{all_there}
use Rattle.tb_tables.specs.Records.{Revision}
use Rattle.tb_tables.specs.Changes.{with_revision}
use Rattle.tb_tables.specs.Failing.{Lacks, AreApart, AreUnique}
use Rattle.tb_refine.specs.DeskTables.{tables_of}
use Rattle.tb_refine.proofs.Lasting.{IsRevisedBelow, sound}
use Rattle.tb_refine.proofs.Alone.{first_in, contains_later}
use Rattle.tb_refine.proofs.RowsOfState.{in_revisions}

pub few_revisions : (s : Machine) (place : ℕ) (x : machine.Sentence) → Reached s → slice_get s.sentences place ≡ Some x → rev x ≤ length s.moves
few_revisions s place x reached there = all_there (IsRevisedBelow (length s.moves)) s.sentences place x there (sound s reached).revs

-- ---- one more revision is told from all that stand

lacks_more : {X : Type 0} (xs : List X) (x y : X) → Lacks xs x → (x ≡ y → ⊥) → Lacks (xs ++ y ∷ []) x
lacks_more [] x y h differs = (differs, tt)
lacks_more (z ∷ zs) x y h differs = (h.0, lacks_more zs x y h.1 differs)

apart_more : {X : Type 0} (xs : List X) (x : X) → AreApart xs → AllByRecursion (λ y. y ≡ x → ⊥) xs → AreApart (xs ++ x ∷ [])
apart_more [] x h others = (tt, tt)
apart_more (y ∷ ys) x h others = (lacks_more ys y x h.0 others.0, apart_more ys x h.1 others.1)

keys_other : {X K : Type 0} (key : X → K) (k : K) (xs : List X) → AllByRecursion (λ x. key x ≡ k → ⊥) xs → AllByRecursion (λ y. y ≡ k → ⊥) (map key xs)
keys_other key k [] h = tt
keys_other key k (x ∷ xs) h = (h.0, keys_other key k xs h.1)

all_contained : {X : Type 0} (P : X → Type 0) (xs : List X) → ((x : X) → Contains xs x → P x) → AllByRecursion P xs
all_contained P [] f = tt
all_contained P (x ∷ xs) f = (f x (first_in x xs), all_contained P xs (λ y h. f y (contains_later x xs y h)))

abbrev key_of : Revision → ℕ × ℕ
key_of r = (r.sent, r.rev)

no_such_row : (s : Machine) (number : ℕ) (x : machine.Sentence) (k : ℕ) → 0 < number → slice_get s.sentences (number - 1) ≡ Some x → k ≡ rev x + 1
    → (r : Revision) → Contains (tables_of s).revisions r → key_of r ≡ (number, k) → ⊥
no_such_row s number x k above there next r has same =
    let it = in_revisions 1 s.sentences r has in
    let sent : r.sent ≡ number = ap (λ (p : ℕ × ℕ). p.0) same in
    let counted : r.rev ≡ k = ap (λ (p : ℕ × ℕ). p.1) same in
    let place : it.0 ≡ number - 1 = omega (arith, it.4, sent, above) in
    let both : Some it.1 ≡ Some x = sym it.5 ∙ ap (slice_get s.sentences) place ∙ there in
    let own : it.1 ≡ x = cc in
    let whole : length (revisions x) ≡ length x.before + 1 = length-append x.before (x.current ∷ []) in
    let below = get_within (revisions x) it.2 it.3 (subst (λ y. slice_get (revisions y) it.2 ≡ Some it.3) own it.7) in
    absurd (omega (arith, it.6, counted, next, below, whole))

pub unique_revised : (s : Machine) (number : ℕ) (x : machine.Sentence) (r : Revision) → AreUnique (tables_of s) → 0 < number → slice_get s.sentences (number - 1) ≡ Some x → r.sent ≡ number → r.rev ≡ rev x + 1
    → AreUnique (with_revision (tables_of s) r)
unique_revised s number x r unique above there sent next =
    let d = tables_of s in
    let named : key_of r ≡ (number, r.rev) = ap (λ (n : ℕ). (n, r.rev)) sent in
    let others = all_contained (λ (q : Revision). key_of q ≡ key_of r → ⊥) d.revisions (λ q has same. no_such_row s number x r.rev above there next q has (same ∙ named)) in
    record {
      batches = unique.batches;
      sentences = unique.sentences;
      revisions = subst AreApart (sym (map-append key_of d.revisions (r ∷ []))) (apart_more (map key_of d.revisions) (key_of r) unique.revisions (keys_other key_of (key_of r) d.revisions others));
    }
