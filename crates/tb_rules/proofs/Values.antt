use Rattle.std.proofs.Common.{Bor, ◌≡◌, ℕ, ◌+◌, ◌<◌, List, [], ◌∷◌, ◌++◌, length, take, drop, get_or, map, true, false, Option, Some, None, refl, sym, ◌∙◌, ap, eqb, subst}
use Rattle.std.specs.List.{list_any, position_or_len, before_first, after_first, cons_option}
use Rattle.std.specs.Option.{option_to_list, option_copied, is_some}
use Rattle.std.specs.Str.{bytes_eq}
use Rattle.std.proofs.lemmas.Bool.{ne_eqb, true≢false}
use Rattle.std.proofs.lemmas.List.{map-append, append-nil, take-append-drop, take_more}
use Rattle.std.proofs.lemmas.List.Elements.{filter_map-append}
use Rattle.tb_rules.specs.Comments.{trimmed, value_under, values_of, only}
use Rattle.tb_fields.specs.Feats.{is_equals}
use Rattle.tb_fields.proofs.Places.{list_any-from_no_place, list_any-from_place}

-- without a hash there is no value
pub value_under-no_hash : (key bs : List ℕ) → ((rest : List ℕ) → bs ≡ 35 ∷ rest → ⊥) → value_under key bs ≡ None
value_under-no_hash key [] h = refl
value_under-no_hash key (b ∷ bs) h =
    let e : eqb b 35 ≡ false = ne_eqb b 35 (λ e. h bs (ap (λ x. x ∷ bs) e)) in
    rw e refl

pub value_under-no_equals : (key bs rest : List ℕ) → bs ≡ 35 ∷ rest → position_or_len is_equals rest ≡ length rest → value_under key bs ≡ None
value_under-no_equals key bs rest e none =
    let n : list_any is_equals rest ≡ false = list_any-from_no_place is_equals rest none in
    ap (value_under key) e ∙ (rw n refl)

pub value_under-found : (key bs rest name value : List ℕ) → bs ≡ 35 ∷ rest → position_or_len is_equals rest < length rest → name ≡ before_first is_equals rest → value ≡ after_first is_equals rest → bytes_eq (trimmed name) key ≡ true → value_under key bs ≡ Some (trimmed value)
value_under-found key bs rest name value e place n v same =
    let some : list_any is_equals rest ≡ true = list_any-from_place is_equals rest place in
    let same_key : bytes_eq (trimmed (before_first is_equals rest)) key ≡ true = subst (λ (x : List ℕ). bytes_eq (trimmed x) key ≡ true) n same in
    ap (value_under key) e ∙ (rw some (rw same_key (ap (λ x. Some (trimmed x)) (sym v))))

cons_option-list : {X : Type 0} (o : Option X) → cons_option o [] ≡ option_to_list o
cons_option-list None = refl
cons_option-list (Some x) = refl

-- one more comment
pub values_of-more : {X : Type 0} (f : X → List ℕ) (key : List ℕ) (xs : List X) (i : ℕ) (x : X) → i < length xs → x ≡ get_or xs i x → values_of key (map f (take (i + 1) xs)) ≡ values_of key (map f (take i xs)) ++ option_to_list (value_under key (f x))
values_of-more f key xs i x l e =
    rw (take_more xs i x l) (
    rw (← e) (
    rw (map-append f) (
    filter_map-append (value_under key) (map f (take i xs)) (f x ∷ []) ∙ ap (λ ys. values_of key (map f (take i xs)) ++ ys) (cons_option-list (value_under key (f x))))))

-- the comments before, those after, and one in between
values_of-cut : {X : Type 0} (f : X → List ℕ) (key : List ℕ) (xs : List X) (n : ℕ) → values_of key (map f xs) ≡ values_of key (map f (take n xs)) ++ values_of key (map f (drop n xs))
values_of-cut f key xs n =
    ap (λ ys. values_of key (map f ys)) (sym (take-append-drop n xs)) ∙
    (rw (map-append f) (filter_map-append (value_under key) (map f (take n xs)) (map f (drop n xs))))

-- two values are not one
pub only-two : {X : Type 0} (f : X → List ℕ) (key : List ℕ) (xs : List X) (i : ℕ) (x : X) (v w : List ℕ) → i < length xs → x ≡ get_or xs i x → values_of key (map f (take i xs)) ≡ v ∷ [] → value_under key (f x) ≡ Some w → None ≡ only (values_of key (map f xs))
only-two f key xs i x v w l e before here =
    let all : values_of key (map f (take (i + 1) xs)) ≡ v ∷ w ∷ [] = values_of-more f key xs i x l e ∙ (rw (before, here) refl) in
    rw (values_of-cut f key xs (i + 1)) (rw all refl)

-- the first value that comes
pub first_value : {X : Type 0} (f : X → List ℕ) (key : List ℕ) (xs : List X) (i : ℕ) (x : X) (found : Option (Bor (List ℕ))) (w : List ℕ) → i < length xs → x ≡ get_or xs i x → values_of key (map f (take i xs)) ≡ option_to_list (option_copied found) → is_some found ≡ false → value_under key (f x) ≡ Some w → values_of key (map f (take (i + 1) xs)) ≡ w ∷ []
first_value f key xs i x None w l e before none here = values_of-more f key xs i x l e ∙ (rw (before, here) refl)
first_value f key xs i x (Some v) w l e before none here = absurd (true≢false none)

-- a comment with no value under the key
pub no_value : {X : Type 0} (f : X → List ℕ) (key : List ℕ) (xs : List X) (i : ℕ) (x : X) (vs : List (List ℕ)) → i < length xs → x ≡ get_or xs i x → values_of key (map f (take i xs)) ≡ vs → value_under key (f x) ≡ None → values_of key (map f (take (i + 1) xs)) ≡ vs
no_value f key xs i x vs l e before here = values_of-more f key xs i x l e ∙ (rw (before, here) (append-nil vs))

-- a second value
pub second_value : {X : Type 0} (f : X → List ℕ) (key : List ℕ) (xs : List X) (i : ℕ) (x : X) (found : Option (Bor (List ℕ))) (w : List ℕ) → i < length xs → x ≡ get_or xs i x → values_of key (map f (take i xs)) ≡ option_to_list (option_copied found) → true ≡ is_some found → value_under key (f x) ≡ Some w → None ≡ only (values_of key (map f xs))
second_value f key xs i x None w l e before some here = absurd (true≢false some)
second_value f key xs i x (Some v) w l e before some here = only-two f key xs i x v.now w l e before here
