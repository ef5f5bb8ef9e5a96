-- Sums of weights over sentences, and lists with one element changed.
use Rattle.std.proofs.Common.{◌≡◌, ℕ, zero, suc, ◌+◌, List, [], ◌∷◌, ◌++◌, length, map, get_or, Bool, true, false, Some, None, refl, ap, subst, arith}
use Rattle.std.specs.Prelude.{slice_get}
use Rattle.std.specs.List.{AllByRecursion}
use Rattle.tb_core.specs.Machine.{Sentence, weigh, weight_at, change_at, when}

pub when_zero : (t : Bool) → when t 0 ≡ 0
when_zero true = refl
when_zero false = refl

pub weigh-append : (w : Sentence → ℕ) (xs ys : List Sentence) → weigh w (xs ++ ys) ≡ weigh w xs + weigh w ys
weigh-append w [] ys = omega arith
weigh-append w (x ∷ xs) ys = let e = weigh-append w xs ys in omega (arith, e)

pub weigh-when : (t : Bool) (w : Sentence → ℕ) (xs : List Sentence) → weigh (λ x. when t (w x)) xs ≡ when t (weigh w xs)
weigh-when true w [] = refl
weigh-when true w (x ∷ xs) = ap (λ n. w x + n) (weigh-when true w xs)
weigh-when false w [] = refl
weigh-when false w (x ∷ xs) = let e : weigh (λ y. when false (w y)) xs ≡ 0 = weigh-when false w xs in omega (arith, e)

-- weights that agree on all that passes
pub weigh_same : (P : Sentence → Type 0) (v w : Sentence → ℕ) → ((x : Sentence) → P x → v x ≡ w x) → (xs : List Sentence) → AllByRecursion P xs → weigh v xs ≡ weigh w xs
weigh_same P v w e [] h = refl
weigh_same P v w e (x ∷ xs) h = let a = e x h.0 in let b = weigh_same P v w e xs h.1 in omega (arith, a, b)

-- two sums of weights that agree on all that passes
pub weigh_both : (P : Sentence → Type 0) (a b c d : Sentence → ℕ) → ((x : Sentence) → P x → a x + b x ≡ c x + d x) → (xs : List Sentence) → AllByRecursion P xs
    → weigh a xs + weigh b xs ≡ weigh c xs + weigh d xs
weigh_both P a b c d e [] h = refl
weigh_both P a b c d e (x ∷ xs) h = let here = e x h.0 in let rest = weigh_both P a b c d e xs h.1 in omega (arith, here, rest)

-- one sentence changed: what it weighed goes, what it weighs comes
pub weigh_changed : (v : Sentence → ℕ) (f : Sentence → Sentence) (xs : List Sentence) (i : ℕ) → weigh v (change_at f xs i) + weight_at v xs i ≡ weigh v xs + weight_at v (change_at f xs i) i
weigh_changed v f [] i = refl
weigh_changed v f (x ∷ xs) zero = omega arith
weigh_changed v f (x ∷ xs) (suc i) = let e = weigh_changed v f xs i in omega (arith, e)

pub weight_there : (v : Sentence → ℕ) (xs : List Sentence) (i : ℕ) (x : Sentence) → slice_get xs i ≡ Some x → weight_at v xs i ≡ v x
weight_there v [] i x e = let d : None ≡ Some x = e in absurd (cc)
weight_there v (y ∷ ys) zero x e = let same : y ≡ x = let d : Some y ≡ Some x = e in cc in ap v same
weight_there v (y ∷ ys) (suc i) x e = weight_there v ys i x e

pub weight_changed : (v : Sentence → ℕ) (f : Sentence → Sentence) (xs : List Sentence) (i : ℕ) (x : Sentence) → slice_get xs i ≡ Some x → weight_at v (change_at f xs i) i ≡ v (f x)
weight_changed v f [] i x e = let d : None ≡ Some x = e in absurd (cc)
weight_changed v f (y ∷ ys) zero x e = let same : y ≡ x = let d : Some y ≡ Some x = e in cc in ap (λ z. v (f z)) same
weight_changed v f (y ∷ ys) (suc i) x e = weight_changed v f ys i x e

-- ---- one element changed

pub length-changed : {X : Type 0} (f : X → X) (xs : List X) (i : ℕ) → length (change_at f xs i) ≡ length xs
length-changed f [] i = refl
length-changed f (x ∷ xs) zero = refl
length-changed f (x ∷ xs) (suc i) = ap suc (length-changed f xs i)

pub changed_there : {X : Type 0} (f : X → X) (xs : List X) (i : ℕ) (x d : X) → slice_get xs i ≡ Some x → get_or (change_at f xs i) i d ≡ f x
changed_there f [] i x d e = let no_one : None ≡ Some x = e in absurd (cc)
changed_there f (y ∷ ys) zero x d e = let same : y ≡ x = let one : Some y ≡ Some x = e in cc in ap f same
changed_there f (y ∷ ys) (suc i) x d e = changed_there f ys i x d e

pub changed_elsewhere : {X : Type 0} (f : X → X) (xs : List X) (i j : ℕ) (d : X) → (j ≡ i → ⊥) → get_or (change_at f xs i) j d ≡ get_or xs j d
changed_elsewhere f [] i j d h = refl
changed_elsewhere f (x ∷ xs) zero zero d h = absurd (h refl)
changed_elsewhere f (x ∷ xs) zero (suc j) d h = refl
changed_elsewhere f (x ∷ xs) (suc i) zero d h = refl
changed_elsewhere f (x ∷ xs) (suc i) (suc j) d h = changed_elsewhere f xs i j d (λ e. h (ap suc e))

pub got : {X : Type 0} (xs : List X) (i : ℕ) (x d : X) → slice_get xs i ≡ Some x → get_or xs i d ≡ x
got [] i x d e = let no_one : None ≡ Some x = e in absurd (cc)
got (y ∷ ys) zero x d e = let one : Some y ≡ Some x = e in cc
got (y ∷ ys) (suc i) x d e = got ys i x d e

-- a change that leaves a part alone
pub map_changed : {X Y : Type 0} (g : X → Y) (f : X → X) → ((x : X) → g (f x) ≡ g x) → (xs : List X) (i : ℕ) → map g (change_at f xs i) ≡ map g xs
map_changed g f e [] i = refl
map_changed g f e (x ∷ xs) zero = ap (λ y. y ∷ map g xs) (e x)
map_changed g f e (x ∷ xs) (suc i) = ap (λ ys. g x ∷ ys) (map_changed g f e xs i)

-- ---- what holds of each

pub all_append : {X : Type 0} (P : X → Type 0) (xs ys : List X) → AllByRecursion P xs → AllByRecursion P ys → AllByRecursion P (xs ++ ys)
all_append P [] ys h k = k
all_append P (x ∷ xs) ys h k = (h.0, all_append P xs ys h.1 k)

pub all_mapped : {X : Type 0} (P Q : X → Type 0) → ((x : X) → P x → Q x) → (xs : List X) → AllByRecursion P xs → AllByRecursion Q xs
all_mapped P Q f [] h = tt
all_mapped P Q f (x ∷ xs) h = (f x h.0, all_mapped P Q f xs h.1)

pub all_changed : {X : Type 0} (P : X → Type 0) (f : X → X) → ((x : X) → P x → P (f x)) → (xs : List X) (i : ℕ) → AllByRecursion P xs → AllByRecursion P (change_at f xs i)
all_changed P f k [] i h = tt
all_changed P f k (x ∷ xs) zero h = (k x h.0, h.1)
all_changed P f k (x ∷ xs) (suc i) h = (h.0, all_changed P f k xs i h.1)

-- the same where the change is known to be lawful at its place alone
pub all_changed_at : {X : Type 0} (P : X → Type 0) (f : X → X) (xs : List X) (i : ℕ) (x : X) → slice_get xs i ≡ Some x → (P x → P (f x)) → AllByRecursion P xs → AllByRecursion P (change_at f xs i)
all_changed_at P f [] i x e k h = tt
all_changed_at P f (y ∷ ys) zero x e k h = let same : x ≡ y = let one : Some y ≡ Some x = e in cc in (subst (λ z. P z → P (f z)) same k h.0, h.1)
all_changed_at P f (y ∷ ys) (suc i) x e k h = (h.0, all_changed_at P f ys i x e k h.1)

pub all_there : {X : Type 0} (P : X → Type 0) (xs : List X) (i : ℕ) (x : X) → slice_get xs i ≡ Some x → AllByRecursion P xs → P x
all_there P [] i x e h = let no_one : None ≡ Some x = e in absurd (cc)
all_there P (y ∷ ys) zero x e h = let same : y ≡ x = let one : Some y ≡ Some x = e in cc in subst P same h.0
all_there P (y ∷ ys) (suc i) x e h = all_there P ys i x e h.1
