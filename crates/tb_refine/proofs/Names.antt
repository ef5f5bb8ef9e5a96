-- What is found by a name.
use Rattle.std.proofs.Common.{◌≡◌, ◌≢◌, ℕ, zero, suc, ◌-◌, List, [], ◌∷◌, map, Option, Some, None, is_some, MatchBool, slice_get, refl, sym, ap, ◌∙◌}
use Rattle.std.specs.List.{AllByRecursion}
use Rattle.std.proofs.lemmas.Option.{slice_get-map}
use Rattle.tb_core.specs.Names.{Lacks}
use Rattle.tb_core.specs.Machine as machine
use Rattle.tb_core.specs.Machine.{Machine}
use Rattle.tb_core.specs.Acts.{ids_of}
use Rattle.tb_tables.specs.Records.{Batch, Sentence}
use Rattle.tb_refine.specs.DeskTables.{batch_record, sentence_record}
use Rattle.tb_reads.specs.Found.{IsNumberOf}
use Rattle.tb_refine.specs.Finding.{HasNumber}

-- ---- the number among the records is that among what they store

none_named : {X Y : Type 0} (f : X → Y) (name_of : Y → List ℕ) (name : List ℕ) (xs : List X) → AllByRecursion (λ y. name_of y ≢ name) (map f xs) → AllByRecursion (λ x. name_of (f x) ≢ name) xs
none_named f name_of name [] h = tt
none_named f name_of name (x ∷ xs) h = (h.0, none_named f name_of name xs h.1)

got_of : {X Y : Type 0} (f : X → Y) (xs : List X) (i : ℕ) (y : Y) → slice_get (map f xs) i ≡ Some y → (x : X) × (slice_get xs i ≡ Some x) × (f x ≡ y)
got_of f [] i y e = absurd cc
got_of f (x ∷ xs) zero y e = (x, refl, (let same : Some (f x) ≡ Some y = e in cc))
got_of f (x ∷ xs) (suc i) y e = got_of f xs i y e

number_stored : {X Y : Type 0} (f : X → Y) (name_of : Y → List ℕ) (name : List ℕ) (xs : List X) (found : Option ℕ) → IsNumberOf name_of name (map f xs) found → IsNumberOf (λ x. name_of (f x)) name xs found
number_stored f name_of name xs None h = none_named f name_of name xs h
number_stored f name_of name xs (Some n) h =
    let it = got_of f xs (n - 1) h.0 h.2 in
    (it.0, h.1, it.1, ap name_of it.2 ∙ h.3)

-- ---- a name that nothing has

pub lacking : {X : Type 0} (name_of : X → List ℕ) (name : List ℕ) (xs : List X) → AllByRecursion (λ x. name_of x ≢ name) xs → Lacks (map name_of xs) name
lacking name_of name [] h = tt
lacking name_of name (x ∷ xs) h = ((λ e. h.0 (sym e)), lacking name_of name xs h.1)

lacks_none : (ts : List (List ℕ)) (i : ℕ) (t name : List ℕ) → slice_get ts i ≡ Some t → t ≡ name → Lacks ts name → ⊥
lacks_none [] i t name e is h = absurd cc
lacks_none (u ∷ ts) zero t name e is h = let same : Some u ≡ Some t = e in let one : u ≡ t = cc in h.0 (sym (one ∙ is))
lacks_none (u ∷ ts) (suc i) t name e is h = lacks_none ts i t name e is h.1

-- ---- batches and sentences

pub number_reported : (s : Machine) (name : List ℕ) (found : Option ℕ) → IsNumberOf (λ (x : Batch). x.name) name (map batch_record s.batches) found → HasNumber s name found
number_reported s name None h = lacking (λ (b : machine.Batch). b.name) name s.batches (none_named batch_record (λ (x : Batch). x.name) name s.batches h)
number_reported s name (Some n) h = number_stored batch_record (λ (x : Batch). x.name) name s.batches (Some n) h

pub id_reported : (s : Machine) (id : List ℕ) (found : Option ℕ) → IsNumberOf (λ (x : Sentence). x.sent_id) id (map sentence_record s.sentences) found → IsNumberOf (λ (x : machine.Sentence). x.sent_id) id s.sentences found
id_reported s id found h = number_stored sentence_record (λ (x : Sentence). x.sent_id) id s.sentences found h

pub id_taken : (s : Machine) (id : List ℕ) (found : Option ℕ) → IsNumberOf (λ (x : machine.Sentence). x.sent_id) id s.sentences found → MatchBool (is_some found) (Lacks (ids_of s.sentences) id → ⊥) (Lacks (ids_of s.sentences) id)
id_taken s id None h = lacking (λ (x : machine.Sentence). x.sent_id) id s.sentences h
id_taken s id (Some n) h = lacks_none (ids_of s.sentences) (n - 1) h.0.sent_id id (slice_get-map (λ (x : machine.Sentence). x.sent_id) s.sentences (n - 1) ∙ ap id_in h.2) h.3
  where
    id_in : Option machine.Sentence → Option (List ℕ)
    id_in None = None
    id_in (Some x) = Some x.sent_id
