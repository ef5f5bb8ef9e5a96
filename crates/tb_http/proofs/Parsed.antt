-- A number that the desk takes is one that `parse` reads.
use Rattle.std.proofs.Common.{◌≡◌, ℕ, ◌<◌, ◌≤◌, ◌^◌, ◌&&◌, List, Bool, true, false, length, rules, arith, refl, sym, ap, ◌∙◌, Some, None, Result, cond, nat_lt, nat_le}
use Rattle.std.specs.List.{slice_index}
use Rattle.std.specs.Result.{result_ok}
use Rattle.std.specs.List.{list_all}
use Rattle.std.specs.Char.{is_ascii_digit}
use Rattle.std.specs.Str.Parse.{ParsesUnsigned, digits_value}
use Rattle.std.proofs.lemmas.Str.Parse.{IsDigitsTest, IsNumeralModel, numerals_by_value, parse_gives, digits_value_short}
use Rattle.tb_http.specs.Forms.{is_number, number_of, requests_of}

tells : IsDigitsTest (λ ds. list_all is_ascii_digit ds ≡ true)
tells = record { empty = refl; parts = λ c cs h. search rules; more = λ c cs a b. search rules }

own : IsNumeralModel (λ ds. list_all is_ascii_digit ds ≡ true) (digits_value 10)
own = numerals_by_value _ tells

both : (a b : Bool) → (a && b) ≡ true → (a ≡ true) × (b ≡ true)
both true b h = (refl, h)
both false b h = cc

-- what parse reads of 1 to 10 digits
digits_read : {E : Type 0} (t : List ℕ) (r : Result ℕ E) → (least : Bool) → least ≡ nat_lt 0 (length t) → least ≡ true → (most : Bool) → most ≡ nat_le (length t) 10 → most ≡ true
    → list_all is_ascii_digit t ≡ true → ParsesUnsigned 64 10 t r → result_ok r ≡ Some (digits_value 10 t)
digits_read t r least l one most m two all p =
    let one' : nat_lt 0 (length t) ≡ true = sym l ∙ one in
    let two' : nat_le (length t) 10 ≡ true = sym m ∙ two in
    let some : 0 < length t = search (rules, one') in
    let short : length t ≤ 10 = search (rules, two') in
    let small : digits_value 10 t < 10 ^ 10 = digits_value_short own t 10 all short in
    ap result_ok (parse_gives own 64 t r p all some (omega (arith, small)))

-- a number of a sentence is a number of requests
pub number_is_numeral : (t : List ℕ) → is_number t ≡ true → requests_of t ≡ number_of t
number_is_numeral t h =
    let digits : Bool = list_all is_ascii_digit t in
    let first : Bool = nat_lt 48 (slice_index t 0) in
    let least : Bool = nat_lt 0 (length t) in
    let most : Bool = nat_le (length t) 10 in
    let one = both least (most && (first && digits)) h in
    let two = both most (first && digits) one.1 in
    let three = both first digits two.1 in
    let numeral : (least && (most && digits)) ≡ true = rw (one.0, two.0, three.1) refl in
    ap (λ b. cond b (Some (digits_value 10 t)) None) (numeral ∙ sym h)

pub numeral_read : {E : Type 0} (t : List ℕ) (r : Result ℕ E) → (nat_lt 0 (length t) && (nat_le (length t) 10 && list_all is_ascii_digit t)) ≡ true → ParsesUnsigned 64 10 t r
    → result_ok r ≡ requests_of t
numeral_read t r h p =
    let digits : Bool = list_all is_ascii_digit t in
    let least : Bool = nat_lt 0 (length t) in
    let most : Bool = nat_le (length t) 10 in
    let one = both least (most && digits) h in
    let two = both most digits one.1 in
    digits_read t r least refl one.0 most refl two.0 two.1 p
    ∙ ap (λ b. cond b (Some (digits_value 10 t)) None) (sym h)
