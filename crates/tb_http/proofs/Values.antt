-- The values under a name, header by header.
use Rattle.std.proofs.Common.{◌≡◌, ◌<◌, ◌+◌, ℕ, List, [], ◌∷◌, ◌++◌, length, take, drop, get_or, map, true, false, Option, Some, None, refl, sym, ◌∙◌, ap, arith, Bor}
use Rattle.std.specs.Option.{option_to_list, option_copied, is_some}
use Rattle.std.specs.List.{cons_option}
use Rattle.std.proofs.lemmas.Bool.{true≢false}
use Rattle.std.proofs.lemmas.List.{map-append, append-nil, take-append-drop, take_more}
use Rattle.std.proofs.lemmas.List.Elements.{filter_map-append}
use Rattle.tb_http.specs.Headers.{Header, value_under, values_of}

cons_option-list : {X : Type 0} (o : Option X) → cons_option o [] ≡ option_to_list o
cons_option-list None = refl
cons_option-list (Some x) = refl

-- one more header
pub values_of-more : {X : Type 0} (f : X → Header) (name : List ℕ) (xs : List X) (i : ℕ) (d : X) (o : Option (List ℕ)) → i < length xs → o ≡ value_under name (f (get_or xs i d))
    → values_of name (map f (take (i + 1) xs)) ≡ values_of name (map f (take i xs)) ++ option_to_list o
values_of-more f name xs i d o l e =
    rw (take_more xs i d l) (
    rw (map-append f) (
    filter_map-append (value_under name) (map f (take i xs)) (f (get_or xs i d) ∷ [])
    ∙ ap (λ ys. values_of name (map f (take i xs)) ++ ys) (cons_option-list (value_under name (f (get_or xs i d))) ∙ ap option_to_list (sym e))))

values_of-cut : {X : Type 0} (f : X → Header) (name : List ℕ) (xs : List X) (n : ℕ) → values_of name (map f xs) ≡ values_of name (map f (take n xs)) ++ values_of name (map f (drop n xs))
values_of-cut f name xs n =
    ap (λ ys. values_of name (map f ys)) (sym (take-append-drop n xs)) ∙
    (rw (map-append f) (filter_map-append (value_under name) (map f (take n xs)) (map f (drop n xs))))

-- a second value
pub second : {X : Type 0} (f : X → Header) (name : List ℕ) (xs : List X) (i : ℕ) (d : X) (found : Option (Bor (List ℕ))) (w : List ℕ) → i < length xs
    → values_of name (map f (take i xs)) ≡ option_to_list (option_copied found) → is_some found ≡ true → Some w ≡ value_under name (f (get_or xs i d))
    → 1 < length (values_of name (map f xs))
second f name xs i d None w l before some here = absurd (true≢false (sym some))
second f name xs i d (Some v) w l before some here =
    let all : values_of name (map f (take (i + 1) xs)) ≡ v.now ∷ w ∷ [] = values_of-more f name xs i d (Some w) l here ∙ ap (λ ys. ys ++ w ∷ []) before in
    let more = values_of name (map f (drop (i + 1) xs)) in
    let n : length (values_of name (map f xs)) ≡ length (v.now ∷ w ∷ more) = ap length (values_of-cut f name xs (i + 1) ∙ ap (λ ys. ys ++ more) all) in
    omega (arith, n)

-- the first value
pub first : {X : Type 0} (f : X → Header) (name : List ℕ) (xs : List X) (i : ℕ) (d : X) (found : Option (Bor (List ℕ))) (w : List ℕ) → i < length xs
    → values_of name (map f (take i xs)) ≡ option_to_list (option_copied found) → is_some found ≡ false → Some w ≡ value_under name (f (get_or xs i d))
    → values_of name (map f (take (i + 1) xs)) ≡ w ∷ []
first f name xs i d None w l before none here = values_of-more f name xs i d (Some w) l here ∙ ap (λ ys. ys ++ w ∷ []) before
first f name xs i d (Some v) w l before none here = absurd (true≢false none)

-- a header of another name
pub no_value : {X : Type 0} (f : X → Header) (name : List ℕ) (xs : List X) (i : ℕ) (d : X) (vs : List (List ℕ)) → i < length xs → values_of name (map f (take i xs)) ≡ vs
    → None ≡ value_under name (f (get_or xs i d)) → values_of name (map f (take (i + 1) xs)) ≡ vs
no_value f name xs i d vs l before here = values_of-more f name xs i d None l here ∙ append-nil _ ∙ before
