-- What bytes that ask nothing for want of a body have, and how long that body is.
use Rattle.std.proofs.Common.{codes, if◌then◌else◌, Bool, false, ◌&&◌, nat_lt, ◌≡◌, ◌⊎◌, inl, inr, ◌<◌, ◌≤◌, ◌+◌, ◌*◌, ◌^◌, ◌-◌, ℕ, List, [], ◌∷◌, ◌++◌, length, take, drop, get_or, map, Option, Some, None, IfSome, true, refl, sym, ◌∙◌, ap, subst, arith, ◌↔◌}
use Rattle.std.specs.Str.Parse.{digits_value}
use Rattle.tb_http.specs.Actions.{Act, Place, place_of, act_of}
use Rattle.std.specs.List.{list_all}
use Rattle.std.specs.Char.{is_ascii_digit}
use Rattle.std.proofs.lemmas.List.{map-append, take-append-drop}
use Rattle.std.proofs.lemmas.List.Elements.{filter_map-append}
use Rattle.std.proofs.lemmas.Str.Parse.{digits_value-take-le}
use Rattle.tb_http.specs.Headers.{Header, body_length, is_numeral, length_said, number_of, value_under, values_of}
use Rattle.tb_http.proofs.Numbers.{one_more}
use Rattle.tb_http.proofs.Values.{values_of-more}
use Rattle.tb_http.specs.Asks.{Outcome, refused, called, Front, Asks, AsksBody, AsksLong, AsksMethod, AsksPath}
use Rattle.tb_http.specs.declared.asks.RequestFault.TheVariants.{Head, Length, Path, Long, Body}
use Rattle.tb_http.specs.Asks.{body_limit, headers_of}
use Rattle.tb_http.specs.Faults.{AwaitsBody}
use Rattle.httparse.specs.Grammar.{RequestHead, print_request}
use Rattle.httparse.specs.Spans.{IsRequestOf, header_bytes}
use Rattle.httparse.specs.declared.spans.HeaderSpan.{HeaderSpan}
use Rattle.httparse.specs.declared.spans.RequestSpans.{RequestSpans}
use Rattle.httparse.proofs.GrammarLemmas.{request_unique}
use Rattle.tb_page.specs.Visits.{AwaitsText}
use Rattle.tb_desk.specs.Arriving.{LacksBody, LacksText}
use Rattle.tb_http.specs.Stage.{Stage, stops, goes}
use Rattle.tb_http.proofs.Staged.{one_thing}

-- a stage that does not stop goes on
went : (A R : Type 0) (says : R → Type 0) (passes : A → Type 0) (rest : A → R → Type 0) (r : R) → (says r → ⊥)
    → Stage A R says passes rest r → (a : A) × passes a × rest a r
went A R says passes rest r never (stops v x) = absurd (never x)
went A R says passes rest r never (goes v a p x) = (a, p, x)

-- a stage that does not go on stops
stopped : (A R : Type 0) (says : R → Type 0) (passes : A → Type 0) (rest : A → R → Type 0) (r : R) → ((a : A) → rest a r → ⊥)
    → Stage A R says passes rest r → says r
stopped A R says passes rest r never (stops v x) = x
stopped A R says passes rest r never (goes v a p x) = absurd (never a x)

short_of : (f : Front) (n : ℕ) (act : Act) → AsksBody f n act (refused Body) → length f.rest < n
short_of f n act x = (stopped _ _ _ _ _ _ (λ body e. let other : refused Body ≡ called record { act = act; user = f.user; body = body } = e in cc) x).0

within_of : (limit : ℕ) (f : Front) (n : ℕ) (act : Act) → AsksLong limit f n act (refused Body) → (n ≤ limit) × (length f.rest < n)
within_of limit f n act x =
    let next = went _ _ _ _ _ _ (λ s. let other : refused Body ≡ refused Long = s.1 in cc) x in
    (next.1, short_of f n act next.2)

method_of : (limit : ℕ) (f : Front) (n : ℕ) (place : Place) → AsksMethod limit f n place (refused Body)
    → (act : Act) × (act_of place f.head.method ≡ Some act) × (n ≤ limit) × (length f.rest < n)
method_of limit f n place x =
    let next = went _ _ _ _ _ _ (λ s. let other = s.1 in cc) x in
    let fits = within_of limit f n next.0 next.2 in
    (next.0, next.1, fits.0, fits.1)

path_of : (limit : ℕ) (f : Front) (n : ℕ) → AsksPath limit f n (refused Body)
    → (place : Place) × (place_of f.head.target ≡ Some place) × (act : Act) × (act_of place f.head.method ≡ Some act) × (n ≤ limit) × (length f.rest < n)
path_of limit f n x =
    let next = went _ _ _ _ _ _ (λ s. let other : refused Body ≡ refused Path = s.1 in cc) x in
    let act = method_of limit f n next.0 next.2 in
    (next.0, next.1, act.0, act.1, act.2, act.3)

-- whoever refuses for want of a body found all before it right
lacks : (limit : ℕ) (bytes : List ℕ) → Asks limit bytes (refused Body) → AwaitsBody limit bytes
lacks limit bytes x =
    let front = went _ _ _ _ _ _ (λ s. let other : refused Body ≡ refused Head = s.1 in cc) x in
    let said = went _ _ _ _ _ _ (λ s. let other : refused Body ≡ refused Length = s.1 in cc) front.2 in
    let path = path_of limit front.0 said.0 said.2 in
    (front.0, said.0, record { begins = front.1; reported = said.1; path = (path.0, path.1, path.2, path.3); within = path.4 }, path.5)

-- where a body is lacking, that is what bytes ask
lacking : (limit : ℕ) (bytes : List ℕ) → AwaitsBody limit bytes → Asks limit bytes (refused Body)
lacking limit bytes (f, n, call, short) =
    goes _ f call.begins (goes _ n call.reported (goes _ call.path.0 call.path.1 (goes _ call.path.2 call.path.3
    (goes _ _ call.within (stops _ (short, refl))))))

pub lacks_or_not : (limit : ℕ) (bytes : List ℕ) (reported : Outcome) → Asks limit bytes reported
    → (reported ≡ refused Body) ↔ AwaitsBody limit bytes
lacks_or_not limit bytes reported asks = (
  λ is. lacks limit bytes (subst (Asks limit bytes) is asks),
  λ awaits. one_thing limit bytes reported (refused Body) asks (lacking limit bytes awaits),
)

both : (a b : Bool) → (a && b) ≡ true → (a ≡ true) × (b ≡ true)
both true b h = (refl, h)
both false b h = cc

-- one more digit of a numeral that a word holds
pub more_digits : (ds : List ℕ) (i : ℕ) → i < length ds → is_numeral ds ≡ true → digits_value 10 ds < 2 ^ 64
    → (48 ≤ get_or ds i 0) × (digits_value 10 (take (i + 1) ds) ≡ digits_value 10 (take i ds) * 10 + (get_or ds i 0 - 48)) × (digits_value 10 (take (i + 1) ds) < 2 ^ 64)
more_digits ds i l numeral small =
    let digit = one_more ds i l (both (nat_lt 0 (length ds)) (list_all is_ascii_digit ds) numeral).1 in
    let part : digits_value 10 (take (i + 1) ds) ≤ digits_value 10 ds = digits_value-take-le 10 ds (i + 1) (omega (arith, l)) in
    (digit.0, digit.1, omega (arith, part, small))

-- r is the number of the numeral w, if a word holds it
abbrev pub IsNumberIn : List ℕ → ℕ → Type 0
IsNumberIn w r = is_numeral w ≡ true → digits_value 10 w < 2 ^ 64 → r ≡ digits_value 10 w

-- r is this number, if a word holds it
abbrev pub IsWordOf : ℕ → Option ℕ → Type 0
IsWordOf r length = IfSome length (λ n. n < 2 ^ 64 → r ≡ n)

in_first : (w : List ℕ) (more : List (List ℕ)) (r : ℕ) → IsNumberIn w r → IsWordOf r (number_of (w ∷ more))
in_first w (x ∷ xs) r h = tt
in_first w [] r h = by_test (is_numeral w) refl
  where
    by_test : (b : Bool) → is_numeral w ≡ b → IsWordOf r (if b then Some (digits_value 10 w) else None)
    by_test true e = h e
    by_test false e = tt

in_values : (cs vs more : List (List ℕ)) (w : List ℕ) (r : ℕ) → vs ≡ w ∷ more → IsNumberIn w r → IsWordOf r (length_said cs vs)
in_values (c ∷ cs) vs more w r e h = tt
in_values [] vs more w r e h = subst (λ l. IsWordOf r (number_of l)) (sym e) (in_first w more r h)

in_none : (cs vs : List (List ℕ)) → vs ≡ [] → IsWordOf 0 (length_said cs vs)
in_none (c ∷ cs) vs e = tt
in_none [] vs e = subst (λ l. IsWordOf 0 (number_of l)) (sym e) (λ small. refl)

abbrev pub length_name : List ℕ
length_name = codes "Content-Length"

-- the first header of the name has the length
pub length_found : {X : Type 0} (f : X → Header) (xs : List X) (i : ℕ) (d : X) (w : List ℕ) (r : ℕ) → i < length xs
    → values_of length_name (map f (take i xs)) ≡ [] → Some w ≡ value_under length_name (f (get_or xs i d)) → IsNumberIn w r
    → IsWordOf r (body_length (map f xs))
length_found f xs i d w r l before here h =
    let rest = values_of length_name (map f (drop (i + 1) xs)) in
    let cut : values_of length_name (map f xs) ≡ values_of length_name (map f (take (i + 1) xs)) ++ rest =
    ap (λ ys. values_of length_name (map f ys)) (sym (take-append-drop (i + 1) xs)) ∙
    (rw (map-append f) (filter_map-append (value_under length_name) (map f (take (i + 1) xs)) (map f (drop (i + 1) xs)))) in
    let first : values_of length_name (map f (take (i + 1) xs)) ≡ w ∷ [] = values_of-more f length_name xs i d (Some w) l here ∙ ap (λ ys. ys ++ w ∷ []) before in
    in_values (values_of (codes "Transfer-Encoding") (map f xs)) _ rest w r (cut ∙ ap (λ ys. ys ++ rest) first) h

-- the head at these spans, and how long it says that its body is
module _ (said : List ℕ) (headers : List HeaderSpan) (spans : RequestSpans) (word whole : ℕ) (r : IsRequestOf said headers spans)
    (known : IsWordOf word (body_length (map (header_bytes said) (take spans.headers headers))))
    (sum : (n : ℕ) → word ≡ n → n ≤ body_limit → whole ≡ spans.len + n) where
  whole_is : (n : ℕ) (h : RequestHead) → h ≡ r.0 → body_length (headers_of h) ≡ Some n → n ≤ body_limit → whole ≡ length (print_request h) + n
  whole_is n h same long within =
      let told : body_length (map (header_bytes said) (take spans.headers headers)) ≡ Some n =
      ap body_length r.1.fields ∙ (ap (λ k. body_length (headers_of k)) (sym same) ∙ long) in
      let is : word ≡ n = subst (IsWordOf word) told known (omega (arith, within)) in
      sum n is within ∙ ap (λ k. k + n) (r.1.len ∙ ap (λ k. length (print_request k)) (sym same))

  -- what lacks a part of its body, or of the text of a check, has so many bytes in all
  pub lacks_at : AwaitsBody body_limit said ⊎ AwaitsText said → LacksBody said whole ⊎ LacksText said whole
  lacks_at (inl (f, n, call, short)) =
      let one = request_unique said f.head r.0 f.rest (drop spans.len said) call.begins.begins.reads r.1.reads in
      inl (f, n, call, short, whole_is n f.head one.0 call.reported call.within)
  lacks_at (inr (head, rest, n, check, short)) =
      let one = request_unique said head r.0 rest (drop spans.len said) check.begins.reads r.1.reads in
      inr (head, rest, n, check, short, whole_is n head one.0 check.said check.within)
