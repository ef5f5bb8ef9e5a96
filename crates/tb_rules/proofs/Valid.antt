-- Sentences one after another: when they are valid, and which is the first at fault.
use Rattle.std.proofs.Common.{◌≡◌, ◌<◌, ◌⊎◌, inl, inr, ℕ, ◌+◌, List, [], ◌∷◌, ◌++◌, length, get_or, take, drop, refl, sym, ◌∙◌, ap, subst, arith, append_assoc, length-append}
use Rattle.std.specs.Prelude.{IfErr, Result, Ok, Err}
use Rattle.std.specs.List.{AllByRecursion}
use Rattle.std.proofs.lemmas.List.{take_more, take-append-drop}
use Rattle.tb_conllu.specs.Text.{BlockText}
use Rattle.tb_rules.specs.File.{HasNewName, IsValid, IsCutShort, IsBrokenAfter, broken, name_twice, IsFaultAt, IsFileFault}
use Rattle.tb_rules.specs.Rules.{KeepsTo6, KeepsRules}
use Rattle.tb_rules.specs.declared.filefault.FileFault.{FileFault}
use Rattle.tb_rules.specs.declared.filefault.FileFault.TheVariants.{At, Memory}
use Rattle.tb_rules.proofs.Kept.{not_kept}
use Rattle.tb_rules.proofs.OneRule.{one_rule}

all_append : {X : Type 0} (P : X → Type 0) (xs ys : List X) → AllByRecursion P xs → AllByRecursion P ys → AllByRecursion P (xs ++ ys)
all_append P [] ys h k = k
all_append P (x ∷ xs) ys h k = (h.0, all_append P xs ys h.1 k)

all_at : {X : Type 0} (P : X → Type 0) (xs ys : List X) (y : X) → AllByRecursion P (xs ++ y ∷ ys) → P y
all_at P [] ys y h = h.0
all_at P (x ∷ xs) ys y h = all_at P xs ys y h.1

-- ---- two places in one list

no_room : {X : Type 0} (xs ys : List X) (y : X) → [] ≡ xs ++ y ∷ ys → ⊥
no_room [] ys y e = cc
no_room (x ∷ xs) ys y e = cc

-- Of two places in a list, one comes first, or they are the same.
abbrev AreOrdered : {X : Type 0} → List X → X → List X → X → Type 0
AreOrdered xs x ys y =
    ((xs ≡ ys) × (x ≡ y)) ⊎ (((more : List _) × (xs ≡ ys ++ y ∷ more)) ⊎ ((more : List _) × (ys ≡ xs ++ x ∷ more)))

step : {X : Type 0} (z : X) (xs : List X) (x : X) (ys : List X) (y : X) → AreOrdered xs x ys y → AreOrdered (z ∷ xs) x (z ∷ ys) y
step z xs x ys y h = elim h [
  | inl e ↦ inl (ap (λ l. z ∷ l) e.0, e.1)
  | inr rest ↦ elim rest [ inl e ↦ inr (inl (e.0, ap (λ l. z ∷ l) e.1)) | inr e ↦ inr (inr (e.0, ap (λ l. z ∷ l) e.1)) ]
]

head_is : {X : Type 0} (x y : X) (xs ys : List X) → x ∷ xs ≡ y ∷ ys → x ≡ y
head_is x y xs ys e = cc

tail_is : {X : Type 0} (x y : X) (xs ys : List X) → x ∷ xs ≡ y ∷ ys → xs ≡ ys
tail_is x y xs ys e = cc

ordered : {X : Type 0} (xs : List X) (x : X) (ends ys : List X) (y : X) (bs : List X) → xs ++ x ∷ ends ≡ ys ++ y ∷ bs → AreOrdered xs x ys y
ordered [] x ends [] y bs e = inl (refl, head_is x y ends bs e)
ordered [] x ends (v ∷ ys) y bs e = inr (inr (ys, ap (λ z. z ∷ ys) (sym (head_is x v ends (ys ++ y ∷ bs) e))))
ordered (u ∷ xs) x ends [] y bs e = inr (inl (xs, ap (λ z. z ∷ xs) (head_is u y (xs ++ x ∷ ends) bs e)))
ordered (u ∷ xs) x ends (v ∷ ys) y bs e =
    let same : u ≡ v = head_is u v (xs ++ x ∷ ends) (ys ++ y ∷ bs) e in
    let rest = ordered xs x ends ys y bs (tail_is u v (xs ++ x ∷ ends) (ys ++ y ∷ bs) e) in
    subst (λ z. AreOrdered (u ∷ xs) x (z ∷ ys) y) same (step u xs x ys y rest)

too_long : {X : Type 0} (xs : List X) (x : X) (more : List X) (y : X) (bs : List X) → xs ++ x ∷ [] ≡ (xs ++ x ∷ more) ++ y ∷ bs → ⊥
too_long xs x more y bs e =
    let sizes = ap length e in
    let left = length-append xs (x ∷ []) in
    let right = length-append (xs ++ x ∷ more) (y ∷ bs) in
    let front = length-append xs (x ∷ more) in
    omega (arith, sizes, left, right, front)

-- a place in a list with one more at its end
at_end : {X : Type 0} (xs : List X) (x : X) (ys : List X) (y : X) (bs : List X) → xs ++ x ∷ [] ≡ ys ++ y ∷ bs → ((xs ≡ ys) × (x ≡ y)) ⊎ ((more : List X) × (xs ≡ ys ++ y ∷ more))
at_end xs x ys y bs e =
    elim (ordered xs x [] ys y bs e) [
      | inl same ↦ inl same
      | inr rest ↦ elim rest [ inl before ↦ inr before | inr after ↦ absurd (too_long xs x after.0 y bs (e ∙ ap (λ l. l ++ y ∷ bs) after.1)) ]
    ]

-- ---- valid sentences

pub valid_none : IsValid []
valid_none = record { rules = tt; names = λ before b after e. absurd (no_room before after b e) }

pub valid_next : (bs : List BlockText) (b : BlockText) → IsValid bs → KeepsRules b → HasNewName bs b → IsValid (bs ++ b ∷ [])
valid_next bs b v k n = record {
  rules = all_append KeepsRules bs (b ∷ []) v.rules (k, tt);
  names = λ before c after e. elim (at_end bs b before c after e) [
    | inl same ↦ subst (λ l. HasNewName l c) same.0 (subst (λ d. HasNewName bs d) same.1 n)
    | inr inside ↦ v.names before c inside.0 inside.1
  ];
}

broken_not : (before : List BlockText) (b : BlockText) (rule row : ℕ) → IsBrokenAfter before b rule row → KeepsRules b → HasNewName before b → ⊥
broken_not before b _ _ (broken rule row h) k n = not_kept b rule row h k
broken_not before b _ _ (name_twice h t) k n = t n

pub fault_not_valid : (bs : List BlockText) (sentence rule row : ℕ) → IsFaultAt bs sentence rule row → IsValid bs → ⊥
fault_not_valid bs sentence rule row f v =
    let rules = subst (AllByRecursion KeepsRules) f.whole v.rules in
    broken_not f.before f.reported rule row f.fault (all_at KeepsRules f.before f.after f.reported rules) (v.names f.before f.reported f.after f.whole)

-- ---- one fault

one_broken : (before : List BlockText) (b : BlockText) (rule row rule2 row2 : ℕ) → IsBrokenAfter before b rule row → IsBrokenAfter before b rule2 row2
    → (rule ≡ rule2) × (row ≡ row2)
one_broken before b _ _ _ _ (broken rule row h) (broken rule2 row2 k) = one_rule b rule row rule2 row2 h k
one_broken before b _ _ _ _ (broken rule row h) (name_twice k t) = absurd (not_kept b rule row h k)
one_broken before b _ _ _ _ (name_twice h t) (broken rule2 row2 k) = absurd (not_kept b rule2 row2 k h)
one_broken before b _ _ _ _ (name_twice h t) (name_twice k u) = (refl, refl)

-- a fault before a fault
fault_before : (before : List BlockText) (reported : BlockText) (more : List BlockText) (bs : List BlockText) (rule row : ℕ) → bs ≡ before ++ reported ∷ more
    → IsValid before → IsBrokenAfter before reported rule row → IsValid bs → ⊥
fault_before before reported more bs rule row e v h w =
    fault_not_valid bs (length before + 1) rule row (record { before = before; reported = reported; after = more; whole = e; counted = refl; valid = v; fault = h }) w

pub one_fault : (bs : List BlockText) (sentence rule row sentence2 rule2 row2 : ℕ) → IsFaultAt bs sentence rule row → IsFaultAt bs sentence2 rule2 row2
    → (sentence ≡ sentence2) × (rule ≡ rule2) × (row ≡ row2)
one_fault bs sentence rule row sentence2 rule2 row2 f g =
    elim (ordered f.before f.reported f.after g.before g.reported g.after (sym f.whole ∙ g.whole)) [
      | inl same ↦
          let there : IsBrokenAfter g.before g.reported rule row = subst (λ l. IsBrokenAfter l g.reported rule row) same.0 (subst (λ d. IsBrokenAfter f.before d rule row) same.1 f.fault) in
          let both = one_broken g.before g.reported rule row rule2 row2 there g.fault in
          (f.counted ∙ ap (λ l. length l + 1) same.0 ∙ sym g.counted, both.0, both.1)
      | inr rest ↦ elim rest [
        | inl inside ↦ absurd (fault_before g.before g.reported inside.0 f.before rule2 row2 inside.1 g.valid g.fault f.valid)
        | inr inside ↦ absurd (fault_before f.before f.reported inside.0 g.before rule row inside.1 f.valid f.fault g.valid)
      ]
    ]

pub fault_stays : (bs more : List BlockText) (sentence rule row : ℕ) → IsFaultAt bs sentence rule row → IsFaultAt (bs ++ more) sentence rule row
fault_stays bs more sentence rule row f = record {
  before = f.before;
  reported = f.reported;
  after = f.after ++ more;
  whole = ap (λ l. l ++ more) f.whole ∙ append_assoc f.before (f.reported ∷ f.after) more;
  counted = f.counted;
  valid = f.valid;
  fault = f.fault;
}

pub file_fault_stays : (bs more : List BlockText) (e : FileFault) → IsFileFault bs e → IsFileFault (bs ++ more) e
file_fault_stays bs more (At sentence rule row) f = fault_stays bs more sentence rule row f
file_fault_stays bs more Memory f = tt

memory_alone : (bs : List BlockText) (e : FileFault) → IsFileFault bs e → IsValid bs → e ≡ Memory
memory_alone bs (At sentence rule row) f v = absurd (fault_not_valid bs sentence rule row f v)
memory_alone bs Memory f v = refl

pub only_memory : {X : Type 0} (bs : List BlockText) (r : Result X FileFault) → IfErr r (IsFileFault bs) → IsValid bs → IfErr r (λ e. e ≡ Memory)
only_memory bs (Ok x) f v = tt
only_memory bs (Err e) f v = memory_alone bs e f v

-- the fault of the first sentences is the whole list's
pub fault_inside : (bs : List BlockText) (i : ℕ) (b : BlockText) (e : FileFault) → i < length bs → b ≡ get_or bs i b → IsFileFault (take i bs ++ b ∷ []) e → IsFileFault bs e
fault_inside bs i b e h is f =
    let more : take i bs ++ b ∷ [] ≡ take (i + 1) bs = ap (λ x. take i bs ++ x ∷ []) is ∙ sym (take_more bs i b h) in
    let whole : take (i + 1) bs ++ drop (i + 1) bs ≡ bs = take-append-drop (i + 1) bs in
    subst (λ l. IsFileFault l e) whole (file_fault_stays (take (i + 1) bs) (drop (i + 1) bs) e (subst (λ l. IsFileFault l e) more f))

-- the place where memory was wanting, in the whole list
pub cut_short : (bs : List BlockText) (i : ℕ) (b : BlockText) → i < length bs → b ≡ get_or bs i b → IsValid (take i bs) → KeepsTo6 b → IsCutShort bs
cut_short bs i b h is v k =
    let more : take i bs ++ b ∷ [] ≡ take (i + 1) bs = ap (λ x. take i bs ++ x ∷ []) is ∙ sym (take_more bs i b h) in
    let whole : take (i + 1) bs ++ drop (i + 1) bs ≡ bs = take-append-drop (i + 1) bs in
    let parts : (take i bs ++ b ∷ []) ++ drop (i + 1) bs ≡ bs = ap (λ l. l ++ drop (i + 1) bs) more ∙ whole in
    record { before = take i bs; next = b; after = drop (i + 1) bs; whole = sym parts ∙ append_assoc (take i bs) (b ∷ []) (drop (i + 1) bs); valid = v; kept = k }
