-- Lists that agree, element by element, whatever their elements are seen as.
use Rattle.std.proofs.Common.{◌≡◌, ℕ, ◌+◌, ◌<◌, List, [], ◌∷◌, ◌++◌, length, take, get_or, map, sym, ◌∙◌, ap}
use Rattle.std.proofs.lemmas.List.{map-append, take_more, get_or-map}

-- one more element agrees
pub alike_more : {X Y Z : Type 0} (f : X → Z) (g : Y → Z) (xs : List X) (ys : List Y) (i : ℕ) (x : X) (y : Y) → i < length xs → i < length ys → x ≡ get_or xs i x → y ≡ get_or ys i y
    → map f (take i xs) ≡ map g (take i ys) → f x ≡ g y → map f (take (i + 1) xs) ≡ map g (take (i + 1) ys)
alike_more {X} {Y} {Z} f g xs ys i x y l m there here before same =
    ap (map f) (take_more xs i x l ∙ ap (λ e. take i xs ++ e ∷ []) (sym there)) ∙ map-append f (take i xs) (x ∷ [])
    ∙ ap (λ (zs : List Z). zs ++ f x ∷ []) before ∙ ap (λ (z : Z). map g (take i ys) ++ z ∷ []) same
    ∙ sym (map-append g (take i ys) (y ∷ [])) ∙ sym (ap (map g) (take_more ys i y m ∙ ap (λ e. take i ys ++ e ∷ []) (sym here)))

-- where they agree, they do at each place
pub alike_at : {X Y Z : Type 0} (f : X → Z) (g : Y → Z) (xs : List X) (ys : List Y) (i : ℕ) (x : X) (y : Y) → i < length xs → i < length ys → x ≡ get_or xs i x → y ≡ get_or ys i y
    → map f xs ≡ map g ys → f x ≡ g y
alike_at {X} {Y} {Z} f g xs ys i x y l m there here same =
    ap f there ∙ sym (get_or-map f xs i x (f x) l) ∙ ap (λ (zs : List Z). get_or zs i (f x)) same ∙ get_or-map g ys i y (f x) m ∙ sym (ap g here)

-- one more element is the same
pub same_more : {X : Type 0} (xs ys : List X) (i : ℕ) (x y : X) → i < length xs → i < length ys → x ≡ get_or xs i x → y ≡ get_or ys i y → take i xs ≡ take i ys → x ≡ y
    → take (i + 1) xs ≡ take (i + 1) ys
same_more {X} xs ys i x y l m there here before same =
    take_more xs i x l ∙ ap (λ e. take i xs ++ e ∷ []) (sym there) ∙ ap (λ (zs : List X). zs ++ x ∷ []) before ∙ ap (λ (z : X). take i ys ++ z ∷ []) same
    ∙ sym (take_more ys i y m ∙ ap (λ e. take i ys ++ e ∷ []) (sym here))
