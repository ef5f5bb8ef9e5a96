-- The first name that stands, of names that are looked up one after another.
use Rattle.std.proofs.Common.{◌≡◌, ℕ, zero, suc, ◌+◌, ◌<◌, List, [], ◌∷◌, length, map, take, get_or, refl, sym, ap, subst, arith}
use Rattle.std.specs.List.{AllByRecursion}
use Rattle.tb_conllu.specs.Text.{BlockText}
use Rattle.tb_core.specs.Names.{Lacks}
use Rattle.tb_core.specs.Machine.{sent_id_of}
use Rattle.tb_core.specs.Acts.{ids_in}
use Rattle.tb_core.specs.Tests.{IsFirstTaken}
use Rattle.tb_core.specs.Taking.{NewSentenceText, taken_of}

-- no sentence that stands has the name of what was taken
abbrev pub Misses : List (List ℕ) → NewSentenceText → Type 0
Misses ids t = Lacks ids t.sent_id

all_free : (ids : List (List ℕ)) (bs : List BlockText) → AllByRecursion (Misses ids) (map taken_of bs) → AllByRecursion (Lacks ids) (ids_in bs)
all_free ids [] h = tt
all_free ids (b ∷ bs) h = (h.0, all_free ids bs h.1)

first_in_front : (ids : List (List ℕ)) (b : BlockText) (bs : List BlockText) (k : ℕ) → Lacks ids (sent_id_of b) → IsFirstTaken ids bs k → IsFirstTaken ids (b ∷ bs) (k + 1)
first_in_front ids b bs k here first = record {
  before = b ∷ first.before;
  body = first.body;
  more = first.more;
  whole = ap (λ l. b ∷ l) first.whole;
  counted = let c = first.counted in omega (arith, c);
  free = (here, first.free);
  taken = first.taken;
}

first_at : (ids : List (List ℕ)) (bs : List BlockText) (i : ℕ) (t : NewSentenceText) → i < length (map taken_of bs) → t ≡ get_or (map taken_of bs) i t → AllByRecursion (Misses ids) (take i (map taken_of bs)) → (Misses ids t → ⊥)
    → IsFirstTaken ids bs (i + 1)
first_at ids [] i t h e before here = absurd (omega arith)
first_at ids (b ∷ bs) zero t h e before here = record {
  before = [];
  body = b;
  more = bs;
  whole = refl;
  counted = omega arith;
  free = tt;
  taken = subst (λ (z : NewSentenceText). Misses ids z → ⊥) e here;
}
first_at ids (b ∷ bs) (suc i) t h e before here =
    let next : suc i ≡ i + 1 = omega arith in
    subst (λ n. IsFirstTaken ids (b ∷ bs) (n + 1)) (sym next) (first_in_front ids b bs (i + 1) before.0 (first_at ids bs i t (omega arith) e before.1 here))

-- this one stands, and none before it does: its place counts from 1
pub first_stands : (ids : List (List ℕ)) (bs : List BlockText) (items : List NewSentenceText) (i : ℕ) (t : NewSentenceText) → items ≡ map taken_of bs → i < length items → t ≡ get_or items i t
    → AllByRecursion (Misses ids) (take i items) → (Misses ids t → ⊥) → IsFirstTaken ids bs (i + 1)
first_stands ids bs items i t e h at before here =
    first_at ids bs i t (subst (λ (l : List NewSentenceText). i < length l) e h) (subst (λ (l : List NewSentenceText). t ≡ get_or l i t) e at) (subst (λ (l : List NewSentenceText). AllByRecursion (Misses ids) (take i l)) e before) here
