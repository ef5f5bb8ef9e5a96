-- The map of short keys, each by its number.
use Rattle.std.proofs.Common.{◌≡◌, ℕ, ◌+◌, ◌≤◌, Bool, true, false, cond, List, [], ◌∷◌, ◌++◌, String, Option, Some, None, length, string_bytes, unwrap_or, sum, refl, sym, ap, ◌∙◌, subst, arith, true≢false}
use Rattle.std.specs.BTreeMap.{is_at, insert_entry}
use Rattle.std.specs.Cmp.{nat_cmp_total}
use Rattle.std.specs.Cmp.Lexicographic.{slice_cmp, bytes_decides}
use Rattle.std.specs.List.{AllByRecursion, IsDistinct, sum_by}
use Rattle.std.specs.List.Sorted.{IsStrictlySortedBy}
use Rattle.std.specs.Map.{keys_of, values_of, lookup, set_value}
use Rattle.std.specs.declared.cmp.Ordering.{Ordering}
use Rattle.std.specs.declared.cmp.Ordering.TheVariants.{Less, Equal, Greater}
use Rattle.std.specs.Ordering.{nat_cmp, is_eq, eq_by_cmp}
use Rattle.std.specs.Str.{bytes_eq}
use Rattle.std.proofs.lemmas.Cmp.{eq_by_cmp_equiv}
use Rattle.std.proofs.lemmas.List.Sums.{sum_by-cons, sum-map}
use Rattle.std.proofs.lemmas.Map.Entries.{sum_by-set_value, sum_by-insert_entry}
use Rattle.std.proofs.lemmas.Map.Keys.{IsDistinct-cons, sorted_head, sorted_tail}
use Rattle.std.proofs.lemmas.Map.Lookups.{exact_bytes, exact_unsigned}
use Rattle.std.proofs.lemmas.Option.{none-some}
use Rattle.tb_report.specs.Kept.{AddsOne, AreShort, IsNumbered, counted_in, number_of, rows_of, short_rows, text_row}
use Rattle.tb_report.specs.Tables.{Row, one_if_same, total_of}
use Rattle.tb_report.proofs.Placed.{all_put, sorted_put}
use Rattle.tb_report.proofs.Rows.{values_rows}

-- ---- sums over rows

module _ {Y : Type 0} where
  -- the count of an entry, where its key is this one
  abbrev count : List ℕ → String Y × ℕ → ℕ
  count key e = cond (bytes_eq key (string_bytes e.0)) e.1 0

  counted_values : (key : List ℕ) (es : List (String Y × ℕ)) → counted_in (rows_of es) key ≡ sum_by (count key) es
  counted_values key [] = refl
  counted_values key (e ∷ es) =
      sum_by-cons (λ (row : Row). cond (bytes_eq key row.0) row.1 0) (text_row e) (rows_of es) ∙ ap (λ n. count key e + n) (counted_values key es) ∙ sym (sum_by-cons (count key) e es)

  total_values : (es : List (String Y × ℕ)) → total_of (rows_of es) ≡ sum_by (λ (e : String Y × ℕ). e.1) es
  total_values es = ap sum (values_rows es) ∙ sum-map (λ (e : String Y × ℕ). e.1) es

raised : (b : Bool) (n : ℕ) → cond b (n + 1) 0 ≡ cond b n 0 + cond b 1 0
raised true n = refl
raised false n = refl

-- ---- an entry by its number

module _ {Y : Type 0} (n : ℕ) where
  found_step : (e : ℕ × (String Y × ℕ)) (rest : Option (String Y × ℕ)) (w : String Y × ℕ) (r : Ordering) → nat_cmp n e.0 ≡ r → cond (is_eq r) (Some e.1) rest ≡ Some w → IsNumbered e
      → (rest ≡ Some w → IsNumbered (n, w)) → IsNumbered (n, w)
  found_step e rest w Less at some this others = others some
  found_step e rest w Equal at some this others =
      let key : e.0 ≡ n = sym (exact_unsigned n e.0 at) in
      let value : e.1 ≡ w = ap (λ o. unwrap_or o e.1) some in
      subst (IsNumbered {Y = Y}) (λ i. (key i, value i)) this
  found_step e rest w Greater at some this others = others some

  pub found : (es : List (ℕ × (String Y × ℕ))) (w : String Y × ℕ) → AllByRecursion IsNumbered es → lookup (is_at (nat_cmp n)) es ≡ Some w → IsNumbered (n, w)
  found [] w all some = absurd (none-some w some)
  found (e ∷ es) w all some = found_step e (lookup (is_at (nat_cmp n)) es) w (nat_cmp n e.0) refl some all.0 (λ rest. found es w all.1 rest)

module _ {X : Type 0} (test : ℕ → Bool) (old new : X) (P : ℕ × X → Type 0) (keeps : (k : ℕ) → P (k, old) → P (k, new)) where
  set_step : (e : ℕ × X) (es : List (ℕ × X)) (b : Bool) → cond b (Some e.1) (lookup test es) ≡ Some old → AllByRecursion P (e ∷ es)
      → (lookup test es ≡ Some old → AllByRecursion P (set_value test es new)) → AllByRecursion P (cond b ((e.0, new) ∷ es) (e ∷ set_value test es new))
  set_step e es true some all rest =
      let value : e.1 ≡ old = ap (λ o. unwrap_or o e.1) some in
      (keeps e.0 (subst (λ v. P (e.0, v)) value all.0), all.1)
  set_step e es false some all rest = (all.0, rest some)

  all_set : (es : List (ℕ × X)) → lookup test es ≡ Some old → AllByRecursion P es → AllByRecursion P (set_value test es new)
  all_set [] some all = tt
  all_set (e ∷ es) some all = set_step e es (test e.0) some all (λ rest. all_set es rest all.1)

itself : (n m : ℕ) → n ≡ m → is_eq (nat_cmp n m) ≡ true
itself n m e = ap (λ k. is_eq (nat_cmp k m)) e ∙ (eq_by_cmp_equiv nat_cmp_total).refl m

module _ {Y : Type 0} (key : List ℕ) where
  lacking_step : (e : ℕ × (String Y × ℕ)) (es : List (ℕ × (String Y × ℕ))) → IsNumbered e → (b : Bool) → is_eq (nat_cmp (number_of key) e.0) ≡ b
      → cond b (Some e.1) (lookup (is_at (nat_cmp (number_of key))) es) ≡ None → (c : Bool) → bytes_eq key (string_bytes e.1.0) ≡ c
      → (lookup (is_at (nat_cmp (number_of key))) es ≡ None → sum_by (count key) (values_of es) ≡ 0) → cond c e.1.1 0 + sum_by (count key) (values_of es) ≡ 0
  lacking_step e es is true at none c same rest = absurd (none-some e.1 (sym none))
  lacking_step e es is false at none true same rest =
      let text : key ≡ string_bytes e.1.0 = (bytes_decides key (string_bytes e.1.0)).0 same in
      absurd (true≢false (sym (itself (number_of key) e.0 (ap number_of text ∙ sym is.number)) ∙ at))
  lacking_step e es is false at none false same rest = let others = rest none in omega (arith, others)

  -- a key whose number is lacking isn't counted
  lacking : (es : List (ℕ × (String Y × ℕ))) → AllByRecursion IsNumbered es → lookup (is_at (nat_cmp (number_of key))) es ≡ None → sum_by (count key) (values_of es) ≡ 0
  lacking [] all none = refl
  lacking (e ∷ es) all none =
      sum_by-cons (count key) e.1 (values_of es)
      ∙ lacking_step e es all.0 (is_eq (nat_cmp (number_of key) e.0)) refl none (bytes_eq key (string_bytes e.1.0)) refl (λ rest. lacking es all.1 rest)

  pub not_counted_short : (es : List (ℕ × (String Y × ℕ))) → AreShort es → lookup (is_at (nat_cmp (number_of key))) es ≡ None → counted_in (short_rows es) key ≡ 0
  not_counted_short es are none = counted_values key (values_of es) ∙ lacking es are.numbered none

-- ---- one more of a key

none_of : {Y : Type 0} (b : Bool) (e : String Y × ℕ) → e.1 ≡ 0 → cond b e.1 0 ≡ 0
none_of true e none = none
none_of false e none = refl

module _ {Y : Type 0} (key : List ℕ) (es fs : List (ℕ × (String Y × ℕ))) (text : String Y) (is : string_bytes text ≡ key) where
  -- each sum over the entries that grows with the count of this text has grown
  Grows : Type 0
  Grows = (f : String Y × ℕ → ℕ) (more : ℕ) → f (text, 0) ≡ 0 → ((v : ℕ) → f (text, v + 1) ≡ f (text, v) + more) → sum_by f (values_of fs) ≡ sum_by f (values_of es) + more

  adds : Grows → AddsOne (short_rows es) (short_rows fs) key
  unfolding Grows
  adds grows = record {
    counts = λ other.
        counted_values other (values_of fs)
        ∙ grows (count other) (one_if_same other key) (none_of (bytes_eq other (string_bytes text)) (text, 0) refl)
        (λ v. raised (bytes_eq other (string_bytes text)) v ∙ ap (λ bs. cond (bytes_eq other (string_bytes text)) v 0 + one_if_same other bs) is)
        ∙ ap (λ k. k + one_if_same other key) (sym (counted_values other (values_of es)));
    total = total_values (values_of fs) ∙ grows (λ e. e.1) 1 refl (λ v. refl) ∙ ap (λ k. k + 1) (sym (total_values (values_of es)));
  }

  module _ (n v : ℕ) (at : lookup (is_at (nat_cmp n)) es ≡ Some (text, v)) (put : fs ≡ set_value (is_at (nat_cmp n)) es (text, v + 1)) where
    grown : Grows
    unfolding Grows
    grown f more zero step =
        let s = sum_by-set_value f (is_at (nat_cmp n)) es (text, v) (text, v + 1) at in
        let one = step v in
        let all : sum_by f (values_of (set_value (is_at (nat_cmp n)) es (text, v + 1))) ≡ sum_by f (values_of es) + more = omega (arith, s, one) in
        ap (λ l. sum_by f (values_of l)) put ∙ all

    pub counted_again_short : AddsOne (short_rows es) (short_rows fs) key
    counted_again_short = adds grown

  module _ (n : ℕ) (none : lookup (is_at (nat_cmp n)) es ≡ None) (put : fs ≡ insert_entry nat_cmp es n (text, 1)) (old : AreShort es) where
    begun : Grows
    unfolding Grows
    begun f more zero step =
        let s = sum_by-insert_entry f nat_cmp_total es n (text, 1) old.ascending in
        let here = rw none at s in
        let one = step 0 in
        let all : sum_by f (values_of (insert_entry nat_cmp es n (text, 1))) ≡ sum_by f (values_of es) + more = omega (arith, here, one, zero) in
        ap (λ l. sum_by f (values_of l)) put ∙ all

    pub counted_first_short : AddsOne (short_rows es) (short_rows fs) key
    counted_first_short = adds begun

    pub short_with : IsNumbered (n, (text, 1)) → AreShort fs
    short_with this = subst AreShort (sym put) (record {
      ascending = sorted_put nat_cmp n (text, 1) nat_cmp_total es old.ascending;
      numbered = all_put nat_cmp n (text, 1) IsNumbered es none old.numbered this;
    })

module _ {Y : Type 0} (es : List (ℕ × (String Y × ℕ))) (text : String Y) (n v : ℕ) (at : lookup (is_at (nat_cmp n)) es ≡ Some (text, v)) where
  pub still_short : (fs : List (ℕ × (String Y × ℕ))) → fs ≡ set_value (is_at (nat_cmp n)) es (text, v + 1) → keys_of fs ≡ keys_of es → AreShort es → AreShort fs
  still_short fs put keys old = record {
    ascending = subst (IsStrictlySortedBy nat_cmp) (sym keys) old.ascending;
    numbered = subst (AllByRecursion IsNumbered) (sym put)
        (all_set (is_at (nat_cmp n)) (text, v) (text, v + 1) IsNumbered (λ k is. record { number = is.number; short = is.short; bytes = is.bytes; counted = omega arith }) es at old.numbered);
  }

  -- a count is at most the sum of all
  pub below_total_short : v ≤ total_of (short_rows es)
  below_total_short =
      let s = sum_by-set_value (λ e. e.1) (is_at (nat_cmp n)) es (text, v) (text, 0) at in
      let t = total_values (values_of es) in
      omega (arith, s, t)

-- ---- no key twice

apart_at : (key other : List ℕ) (r : Ordering) → slice_cmp nat_cmp key other ≡ r → (key ≡ other → ⊥) → is_eq r ≡ false
apart_at key other Less at differ = refl
apart_at key other Equal at differ = absurd (differ (exact_bytes key other at))
apart_at key other Greater at differ = refl

pub apart : (key other : List ℕ) → (key ≡ other → ⊥) → eq_by_cmp (slice_cmp nat_cmp) key other ≡ false
apart key other differ = apart_at key other (slice_cmp nat_cmp key other) refl differ

module _ {Y : Type 0} where
  two_texts : (e f : ℕ × (String Y × ℕ)) → IsNumbered e → IsNumbered f → nat_cmp e.0 f.0 ≡ Less → string_bytes e.1.0 ≡ string_bytes f.1.0 → ⊥
  two_texts e f a b less same = true≢false (sym (itself e.0 f.0 (a.number ∙ ap number_of same ∙ sym b.number)) ∙ ap is_eq less)

  module _ (long : List Row) where
    first_apart : (e : ℕ × (String Y × ℕ)) (es : List (ℕ × (String Y × ℕ))) → IsNumbered e → AllByRecursion IsNumbered es → AllByRecursion (λ n. nat_cmp e.0 n ≡ Less) (keys_of es)
        → AllByRecursion (λ other. eq_by_cmp (slice_cmp nat_cmp) (string_bytes e.1.0) other ≡ false) (keys_of long)
        → AllByRecursion (λ other. eq_by_cmp (slice_cmp nat_cmp) (string_bytes e.1.0) other ≡ false) (keys_of (short_rows es ++ long))
    first_apart e [] is all less rest = rest
    first_apart e (f ∷ es) is all less rest =
        (apart (string_bytes e.1.0) (string_bytes f.1.0) (two_texts e f is all.0 less.0), first_apart e es is all.1 less.1 rest)

    pub keys_apart : (es : List (ℕ × (String Y × ℕ))) → IsStrictlySortedBy nat_cmp (keys_of es) → AllByRecursion IsNumbered es
        → ((key : List ℕ) → length key ≤ 15 → AllByRecursion (λ other. eq_by_cmp (slice_cmp nat_cmp) key other ≡ false) (keys_of long))
        → IsDistinct (eq_by_cmp (slice_cmp nat_cmp)) (keys_of long) → IsDistinct (eq_by_cmp (slice_cmp nat_cmp)) (keys_of (short_rows es ++ long))
    keys_apart [] up all rest distinct = distinct
    keys_apart (e ∷ es) up all rest distinct =
        IsDistinct-cons (eq_by_cmp (slice_cmp nat_cmp)) (string_bytes e.1.0) (keys_of (short_rows es ++ long))
        (first_apart e es all.0 all.1 (sorted_head nat_cmp e.0 (keys_of es) up) (rest (string_bytes e.1.0) all.0.short))
        (keys_apart es (sorted_tail nat_cmp e.0 (keys_of es) up) all.1 rest distinct)
