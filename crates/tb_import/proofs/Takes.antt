-- The first sentence of a file whose `sent_id` stands.
use Rattle.std.proofs.Common.{◌≡◌, ℕ, zero, suc, ◌+◌, ◌<◌, List, [], ◌∷◌, map, length, get_or, take, ◌≤◌, refl, sym, ap, subst, ◌∙◌, arith}
use Rattle.std.proofs.lemmas.List.{take_all}
use Rattle.std.specs.List.{AllByRecursion}
use Rattle.tb_conllu.specs.Text.{BlockText}
use Rattle.tb_core.specs.Names.{Lacks}
use Rattle.tb_core.specs.Machine.{Sentence}
use Rattle.tb_core.specs.Acts.{ids_in, ids_of}
use Rattle.tb_core.specs.Taking.{NewSentenceText, taken_of}
use Rattle.tb_core.specs.Tests.{IsFirstTaken}

-- none of them has a name of the list
abbrev pub AreFree : List (List ℕ) → List NewSentenceText → Type 0
AreFree ids ts = AllByRecursion (λ (t : NewSentenceText). Lacks ids t.sent_id) ts

-- one more that is free
free_next : (ids : List (List ℕ)) (ts : List NewSentenceText) (i : ℕ) (t : NewSentenceText) → i < length ts → t ≡ get_or ts i t → AreFree ids (take i ts) → Lacks ids t.sent_id → AreFree ids (take (suc i) ts)
free_next ids [] i t low at before here = absurd (omega (arith, low))
free_next ids (u ∷ ts) zero t low at before here = (subst (λ (v : NewSentenceText). Lacks ids v.sent_id) at here, tt)
free_next ids (u ∷ ts) (suc i) t low at before here = (before.0, free_next ids ts i t (omega (arith, low)) at before.1 here)

pub one_free : (ids : List (List ℕ)) (ts : List NewSentenceText) (i : ℕ) (t : NewSentenceText) → i < length ts → t ≡ get_or ts i t → AreFree ids (take i ts) → Lacks ids t.sent_id → AreFree ids (take (i + 1) ts)
one_free ids ts i t low at before here = let next : suc i ≡ i + 1 = omega arith in subst (λ k. AreFree ids (take k ts)) next (free_next ids ts i t low at before here)

none_taken : (ids : List (List ℕ)) (bs : List BlockText) → AreFree ids (map taken_of bs) → AllByRecursion (Lacks ids) (ids_in bs)
none_taken ids [] h = tt
none_taken ids (b ∷ bs) h = (h.0, none_taken ids bs h.1)

pub all_free : (ids : List (List ℕ)) (bs : List BlockText) (ts : List NewSentenceText) (i : ℕ) → length ts ≤ i → ts ≡ map taken_of bs → AreFree ids (take i ts) → AllByRecursion (Lacks ids) (ids_in bs)
all_free ids bs ts i past is h = none_taken ids bs (subst (AreFree ids) (take_all i ts past ∙ is) h)

first_in_file : (ids : List (List ℕ)) (bs : List BlockText) (i : ℕ) (t : NewSentenceText) → i < length (map taken_of bs) → t ≡ get_or (map taken_of bs) i t → AreFree ids (take i (map taken_of bs)) → (Lacks ids t.sent_id → ⊥) → IsFirstTaken ids bs (i + 1)
first_in_file ids [] i t low at before here = absurd (omega (arith, low))
first_in_file ids (b ∷ bs) zero t low at before here = record { before = []; body = b; more = bs; whole = refl; counted = refl; free = tt; taken = λ h. here (subst (λ (v : NewSentenceText). Lacks ids v.sent_id) (sym at) h) }
first_in_file ids (b ∷ bs) (suc i) t low at before here =
    let later = first_in_file ids bs i t (omega (arith, low)) at before.1 here in
    record { before = b ∷ later.before; body = later.body; more = later.more; whole = ap (λ l. b ∷ l) later.whole; counted = (let place = later.counted in omega (arith, place)); free = (before.0, later.free); taken = later.taken }

pub first_of : (ids : List (List ℕ)) (bs : List BlockText) (ts : List NewSentenceText) (i : ℕ) (t : NewSentenceText) → i < length ts → t ≡ get_or ts i t → ts ≡ map taken_of bs → AreFree ids (take i ts) → (Lacks ids t.sent_id → ⊥) → IsFirstTaken ids bs (i + 1)
first_of ids bs ts i t low at is before here =
    first_in_file ids bs i t (subst (λ (l : List NewSentenceText). i < length l) is low) (subst (λ (l : List NewSentenceText). t ≡ get_or l i t) is at) (subst (λ (l : List NewSentenceText). AreFree ids (take i l)) is before) here

-- where nothing stands, all are free
free_of_none : (ids : List (List ℕ)) → ids ≡ [] → (names : List (List ℕ)) → AllByRecursion (Lacks ids) names
free_of_none ids none [] = tt
free_of_none ids none (n ∷ ns) = (subst (λ (l : List (List ℕ)). Lacks l n) (sym none) tt, free_of_none ids none ns)

no_ids : (xs : List Sentence) → 0 ≡ length xs → ids_of xs ≡ []
no_ids [] none = refl
no_ids (x ∷ xs) none = absurd (omega (arith, none))

pub none_standing : (xs : List Sentence) (bs : List BlockText) → 0 ≡ length xs → AllByRecursion (Lacks (ids_of xs)) (ids_in bs)
none_standing xs bs none = free_of_none (ids_of xs) (no_ids xs none) (ids_in bs)
