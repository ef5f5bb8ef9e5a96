-- The texts that an accepted command writes are short enough to be stored.
use Rattle.std.proofs.Common.{◌≡◌, ◌≤◌, ◌+◌, ℕ, Bool, true, false, if◌then◌else◌, ◌==◌, ◌&&◌, List, [], ◌∷◌, ◌++◌, append-nil, map, refl, length, length-append, length-drop, reverse, bytes_eq, nat_le, Option, Some, None, Result, Err, IfErr, unwrap_or, sym, subst, ap, arith}
use Rattle.std.specs.List.{AllByRecursion, cons_option, list_any, before_first, after_first, position_or_len}
use Rattle.std.proofs.lemmas.List.{length-reverse}
use Rattle.std.proofs.lemmas.Bool.{and_parts}
use Rattle.std.proofs.lemmas.Bool.Decides.{nat_tests}
use Rattle.tb_conllu.specs.Text.{BlockText, text_of, ended, row_line}
use Rattle.tb_fields.specs.Feats.{is_equals}
use Rattle.tb_rules.specs.Comments.{drop_spaces, trimmed, value_under, values_of, only, sent_id_key, sent_ids}
use Rattle.tb_core.specs.Names.{is_name}
use Rattle.tb_core.specs.Machine.{Machine, sent_id_of}
use Rattle.tb_core.specs.Acts.{Act, user_of}
use Rattle.tb_core.proofs.Weights.{all_mapped}
use Rattle.tb_tables.specs.Failing.{IsShort}
use Rattle.tb_tables.specs.Values.{move_of}
use Rattle.tb_tables.specs.Records.{Move}
use Rattle.tb_tables.specs.declared.recording.MoveWrite.{MoveWrite}
use Rattle.tb_core.specs.declared.refusals.Fault.{Fault}
use Rattle.tb_core.specs.declared.refusals.Fault.TheVariants.{Device}
use Rattle.tb_refine.specs.Recorded.{IsWritten}
use Rattle.tb_refine.specs.Faults.{IsNoDevice}

-- ---- names and users

pub short_name : (name : List ℕ) → is_name name ≡ true → IsShort name
short_name name named =
    let low : nat_le (length name) 32 ≡ true = (and_parts _ _ (and_parts _ _ named).0).1 in
    let few : length name ≤ 32 = grind (arith, nat_tests) in
    omega (arith, few)

-- the user of a move
pub short_mover : (s : Machine) (a : Act) (c : MoveWrite) → IsWritten s a c → is_name (user_of a) ≡ true → IsShort (move_of c.row).who
short_mover s a c written named = subst (λ (m : Move). IsShort m.who) (sym written.change.row) (short_name (user_of a) named)

-- ---- what a comment says is no longer than the text

dropped : (bs : List ℕ) → length (drop_spaces bs) ≤ length bs
dropped [] = omega arith
dropped (b ∷ bs) = by (b == 32) (dropped bs)
  where
    by : (test : Bool) → length (drop_spaces bs) ≤ length bs → length (if test then drop_spaces bs else b ∷ bs) ≤ length (b ∷ bs)
    by true few = omega (arith, few)
    by false few = omega arith

cut : (bs : List ℕ) → length (trimmed bs) ≤ length bs
cut bs =
    let first = dropped bs in
    let inner = dropped (reverse (drop_spaces bs)) in
    let turned = length-reverse (drop_spaces bs) in
    let back = length-reverse (drop_spaces (reverse (drop_spaces bs))) in
    omega (arith, first, inner, turned, back)

first : (top : ℕ) (vs : List (List ℕ)) (value : Option (List ℕ)) → ((v : List ℕ) → value ≡ Some v → length v ≤ top) → AllByRecursion (λ v. length v ≤ top) vs → AllByRecursion (λ v. length v ≤ top) (cons_option value vs)
first top vs None fits later = later
first top vs (Some v) fits later = (fits v refl, later)

module _ (key : List ℕ) where
  value_fits : (c v : List ℕ) → value_under key c ≡ Some v → length v ≤ length c
  value_fits [] v is = absurd cc
  value_fits (b ∷ bs) v is = by (b == 35 && list_any is_equals bs && bytes_eq (trimmed (before_first is_equals bs)) key) is
    where
      by : (test : Bool) → (if test then Some (trimmed (after_first is_equals bs)) else None) ≡ Some v → length v ≤ length (b ∷ bs)
      by true e =
          let same : trimmed (after_first is_equals bs) ≡ v = cc in
          let short = cut (after_first is_equals bs) in
          let rest = length-drop (position_or_len is_equals bs + 1) bs in
          subst (λ w. length w ≤ length (b ∷ bs)) same (omega (arith, short, rest))
      by false e = absurd cc

  -- each value, in a text that goes on
  values_fit : (cs more : List (List ℕ)) → AllByRecursion (λ v. length v ≤ length (ended (cs ++ more))) (values_of key cs)
  values_fit [] more = tt
  values_fit (c ∷ cs) more = by (value_under key c) (λ v is. value_fits c v is) (values_fit cs more)
    where
      by : (value : Option (List ℕ)) → ((v : List ℕ) → value ≡ Some v → length v ≤ length c) → AllByRecursion (λ v. length v ≤ length (ended (cs ++ more))) (values_of key cs)
          → AllByRecursion (λ v. length v ≤ length (ended ((c ∷ cs) ++ more))) (cons_option value (values_of key cs))
      by value fits rest =
          let line : length (ended ((c ∷ cs) ++ more)) ≡ length (c ++ 10 ∷ []) + length (ended (cs ++ more)) = length-append (c ++ 10 ∷ []) (ended (cs ++ more)) in
          let one : length (c ++ 10 ∷ []) ≡ length c + 1 = length-append c (10 ∷ []) in
          let later = all_mapped (λ v. length v ≤ length (ended (cs ++ more))) (λ v. length v ≤ length (ended ((c ∷ cs) ++ more))) (λ v h. omega (arith, h, line)) (values_of key cs) rest in
          first (length (ended ((c ∷ cs) ++ more))) (values_of key cs) value (λ v is. let few = fits v is in omega (arith, few, line, one)) later

only_fits : (top : ℕ) (vs : List (List ℕ)) → AllByRecursion (λ v. length v ≤ top) vs → length (unwrap_or (only vs) []) ≤ top
only_fits top [] h = omega arith
only_fits top (v ∷ []) h = h.0
only_fits top (v ∷ w ∷ vs) h = omega arith

pub short_id : (b : BlockText) → IsShort (text_of (b ∷ [])) → IsShort (sent_id_of b)
short_id b short =
    let rest = map row_line b.rows ++ [] ∷ [] in
    let all : length (sent_id_of b) ≤ length (ended (b.comments ++ rest)) = only_fits (length (ended (b.comments ++ rest))) (sent_ids b) (values_fit sent_id_key b.comments rest) in
    let same : text_of (b ∷ []) ≡ ended (b.comments ++ rest) = ap ended (append-nil (b.comments ++ rest)) in
    let long = ap length same in
    omega (arith, all, long, short)

-- ---- a fault that is not the device's

pub never_reported : {X : Type 0} (r : Result X Fault) → r ≡ Err Device → IfErr r IsNoDevice → ⊥
never_reported {X} r is h = subst (λ (q : Result X Fault). IfErr q IsNoDevice) is h refl
