-- What stands is found at one place.
use Rattle.std.proofs.Common.{◌≡◌, ℕ, ◌+◌, zero, suc, List, [], ◌∷◌, length, Bool, None, Some, refl, sym, ◌∙◌, ap, subst}
use Rattle.std.specs.Prelude.{slice_get, nat_le}
use Rattle.tb_core.specs.Names.{Lacks, AreApart}
use Rattle.tb_core.specs.Machine.{Batch, Sentence, Machine}
use Rattle.tb_core.specs.Acts.{names_of}
use Rattle.tb_core.specs.Keeping.{IsWell}
use Rattle.tb_core.specs.Commands.{Ending, HasBatch, HasSentence}
use Rattle.tb_core.specs.Tests.{Refuses, IsNoSentence}
use Rattle.tb_core.proofs.Lists.{get_one}
use Rattle.tb_core.proofs.Again.{same_place}

lacks_at : (bs : List Batch) (name : List ℕ) (j : ℕ) (c : Batch) → Lacks (names_of bs) name → slice_get bs j ≡ Some c → name ≡ c.name → ⊥
lacks_at [] name j c h e same = let d : None ≡ Some c = e in absurd (cc)
lacks_at (b ∷ bs) name zero c h e same = let one : b ≡ c = let d : Some b ≡ Some c = e in cc in h.0 (same ∙ ap (λ (x : Batch). x.name) (sym one))
lacks_at (b ∷ bs) name (suc j) c h e same = lacks_at bs name j c h.1 e same

-- a name that a batch has is not free
pub not_free : (s : Machine) (name : List ℕ) (place : ℕ) (b : Batch) → HasBatch s name place b → Lacks (names_of s.batches) name → ⊥
not_free s name place b has free = lacks_at s.batches name place b free has.there (sym has.named)

one_place : (bs : List Batch) (i j : ℕ) (b c : Batch) → AreApart (names_of bs) → slice_get bs i ≡ Some b → slice_get bs j ≡ Some c → b.name ≡ c.name → i ≡ j
one_place [] i j b c h e f same = let d : None ≡ Some b = e in absurd (cc)
one_place (x ∷ xs) zero zero b c h e f same = refl
one_place (x ∷ xs) zero (suc j) b c h e f same =
    let one : x ≡ b = let d : Some x ≡ Some b = e in cc in
    absurd (lacks_at xs x.name j c h.0 f (ap (λ (y : Batch). y.name) one ∙ same))
one_place (x ∷ xs) (suc i) zero b c h e f same =
    let one : x ≡ c = let d : Some x ≡ Some c = f in cc in
    absurd (lacks_at xs x.name i b h.0 e (ap (λ (y : Batch). y.name) one ∙ sym same))
one_place (x ∷ xs) (suc i) (suc j) b c h e f same = ap suc (one_place xs i j b c h.1 e f same)

-- a batch has its name alone
pub batch_place : (s : Machine) (name : List ℕ) (i j : ℕ) (b c : Batch) → IsWell s → HasBatch s name i b → HasBatch s name j c → i ≡ j
batch_place s name i j b c w h k = one_place s.batches i j b c w.names h.there k.there (h.named ∙ sym k.named)

pub batch_once : (s : Machine) (name : List ℕ) (i j : ℕ) (b c : Batch) → IsWell s → HasBatch s name i b → HasBatch s name j c → b ≡ c
batch_once s name i j b c w h k = get_one s.batches j b c (subst (λ p. slice_get s.batches p ≡ Some b) (batch_place s name i j b c w h k) h.there) k.there

-- a sentence has its number alone
pub sentence_once : (s : Machine) (n i j : ℕ) (x y : Sentence) → HasSentence s n i x → HasSentence s n j y → x ≡ y
sentence_once s n i j x y h k = get_one s.sentences j x y (subst (λ p. slice_get s.sentences p ≡ Some x) (same_place n i j h.counted k.counted) h.there) k.there

-- where the sentence stands, it is not missing
pub has_sentence : (s : Machine) (n place : ℕ) (x : Sentence) → HasSentence s n place x → (d : Ending) → Refuses s (IsNoSentence s n) d → ⊥
has_sentence s n place x has d h = h.1.0 place x has

-- the room that was looked at is that of the state
pub room_there : (s : Machine) (moves limit : ℕ) (t : Bool) → moves ≡ length s.moves → nat_le (moves + 1) limit ≡ t → nat_le (length s.moves + 1) limit ≡ t
room_there s moves limit t same room = subst (λ m. nat_le (m + 1) limit ≡ t) same room
