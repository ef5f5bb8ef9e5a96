-- Which sentence, batch or revision a record is of.
use Rattle.std.proofs.Common.{◌≡◌, ◌↔◌, inl, inr, ℕ, zero, suc, ◌+◌, ◌-◌, ◌≤◌, List, [], ◌∷◌, ◌++◌, length, map, Bool, true, false, cond, Some, None, refl, sym, ◌∙◌, ap, subst, arith, Contains, slice_get}
use Rattle.std.specs.List.{AllByRecursion}
use Rattle.std.proofs.lemmas.Option.{same_Some}
use Rattle.std.proofs.lemmas.List.Elements.{All-from_recursion, All-contains, Contains-append_left, Contains-append_right, Contains-append_cases}
use Rattle.tb_core.specs.declared.kinds.State.{State}
use Rattle.tb_core.specs.declared.kinds.State.TheVariants.{Opened, Assigned, Submitted, Adjudicated, Released, Withdrawn}
use Rattle.tb_core.specs.Machine as machine
use Rattle.tb_core.specs.Machine.{Machine, revisions}
use Rattle.tb_core.specs.Rows.{revision_rows, revisions_from, pulled_from}
use Rattle.tb_core.proofs.Lists.{get_seam, get_one}
use Rattle.tb_tables.specs.Records.{Revision}
use Rattle.tb_refine.specs.Numbers.{state_number}
use Rattle.tb_refine.specs.DeskTables.{revision_record, total_record, tables_of}
use Rattle.tb_refine.specs.Found.{revision_shown_as, IsRevisionOf}
use Rattle.tb_refine.proofs.Alone.{contains_cases, contains_later, first_in, map_joined, pulled_from_on}

-- ---- pulled numbers

flag_later : (p : Bool) (n m : ℕ) (l : List ℕ) → Contains l m → Contains (cond p (n ∷ l) l) m
flag_later true n m l h = contains_later n l m h
flag_later false n m l h = h

flag_other : (p : Bool) (n m : ℕ) (l : List ℕ) → (n ≡ m → ⊥) → Contains (cond p (n ∷ l) l) m → Contains l m
flag_other true n m l apart h = elim (contains_cases n l m h) [ inl is ↦ absurd (apart is) | inr more ↦ more ]
flag_other false n m l apart h = h

flag_set : (p : Bool) (n : ℕ) (l : List ℕ) → p ≡ true → Contains (cond p (n ∷ l) l) n
flag_set true n l e = first_in n l
flag_set false n l e = let d : false ≡ true = e in absurd (cc)

flag_is : (p : Bool) (n : ℕ) (l : List ℕ) → AllByRecursion (λ k. n + 1 ≤ k) l → Contains (cond p (n ∷ l) l) n → p ≡ true
flag_is true n l h c = refl
flag_is false n l h c = absurd (let e = All-contains (λ k. n + 1 ≤ k) l n (All-from_recursion (λ k. n + 1 ≤ k) l h) c in omega (arith, e))

pulled_in : (n : ℕ) (xs : List machine.Sentence) (i m : ℕ) (x : machine.Sentence) → slice_get xs i ≡ Some x → m ≡ n + i → x.pulled ≡ true → Contains (pulled_from n xs) m
pulled_in n [] i m x e a h = let d : None ≡ Some x = e in absurd (cc)
pulled_in n (y ∷ ys) zero m x e a h =
    let here : n ≡ m = omega (arith, a) in
    subst (Contains (pulled_from n (y ∷ ys))) here (flag_set y.pulled n (pulled_from (n + 1) ys) (ap (λ (z : machine.Sentence). z.pulled) (same_Some y x e) ∙ h))
pulled_in n (y ∷ ys) (suc i) m x e a h = flag_later y.pulled n m (pulled_from (n + 1) ys) (pulled_in (n + 1) ys i m x e (omega (arith, a)) h)

pulled_out : (n : ℕ) (xs : List machine.Sentence) (i m : ℕ) (x : machine.Sentence) → slice_get xs i ≡ Some x → m ≡ n + i → Contains (pulled_from n xs) m → x.pulled ≡ true
pulled_out n [] i m x e a h = let d : None ≡ Some x = e in absurd (cc)
pulled_out n (y ∷ ys) zero m x e a h =
    let here : m ≡ n = omega (arith, a) in
    let own = flag_is y.pulled n (pulled_from (n + 1) ys) (pulled_from_on (n + 1) (n + 1) ys (omega arith)) (subst (Contains (pulled_from n (y ∷ ys))) here h) in
    ap (λ (z : machine.Sentence). z.pulled) (sym (same_Some y x e)) ∙ own
pulled_out n (y ∷ ys) (suc i) m x e a h = pulled_out (n + 1) ys i m x e (omega (arith, a)) (flag_other y.pulled n m (pulled_from (n + 1) ys) (λ is. omega (arith, is, a)) h)

pub pulled_reported : (s : Machine) (place : ℕ) (x : machine.Sentence) → slice_get s.sentences place ≡ Some x → (x.pulled ≡ true) ↔ Contains (tables_of s).pulled (place + 1)
pulled_reported s place x e = (pulled_in 1 s.sentences place (place + 1) x e (omega arith), pulled_out 1 s.sentences place (place + 1) x e (omega arith))

-- ---- revisions

rows_in : (n k : ℕ) (rs : List machine.Revision) (j m : ℕ) (q : machine.Revision) → slice_get rs j ≡ Some q → m ≡ k + j → Contains (map revision_record (revision_rows n k rs)) (revision_shown_as n m q)
rows_in n k [] j m q e a = let d : None ≡ Some q = e in absurd (cc)
rows_in n k (r ∷ rs) zero m q e a =
    let here : k ≡ m = omega (arith, a) in
    let row : revision_shown_as n k r ≡ revision_shown_as n m q = ap (λ i. revision_shown_as n i r) here ∙ ap (revision_shown_as n m) (same_Some r q e) in
    subst (Contains (map revision_record (revision_rows n k (r ∷ rs)))) row (first_in (revision_shown_as n k r) (map revision_record (revision_rows n (k + 1) rs)))
rows_in n k (r ∷ rs) (suc j) m q e a = contains_later (revision_shown_as n k r) (map revision_record (revision_rows n (k + 1) rs)) (revision_shown_as n m q) (rows_in n (k + 1) rs j m q e (omega (arith, a)))

-- where a row of one sentence comes from
record IsRowOf (n k : ℕ) (rs : List machine.Revision) (r : Revision) : Type 0 where
  index : ℕ
  revision : machine.Revision
  revised : slice_get rs index ≡ Some revision
  is : r ≡ revision_shown_as n (k + index) revision

rows_out : (n k : ℕ) (rs : List machine.Revision) (r : Revision) → Contains (map revision_record (revision_rows n k rs)) r → IsRowOf n k rs r
rows_out n k [] r h = absurd (omega (arith, h.1))
rows_out n k (q ∷ rs) r h = elim (contains_cases (revision_shown_as n k q) (map revision_record (revision_rows n (k + 1) rs)) r h) [
  | inl is ↦ record { index = 0; revision = q; revised = refl; is = sym is ∙ ap (λ i. revision_shown_as n i q) (let e : k ≡ k + 0 = omega arith in e) }
  | inr more ↦
      (let found = rows_out n (k + 1) rs r more in
      record { index = suc found.index; revision = found.revision; revised = found.revised; is = found.is ∙ ap (λ i. revision_shown_as n i found.revision) (let e : k + 1 + found.index ≡ k + suc found.index = omega arith in e) })
]

revisions_in : (n : ℕ) (xs : List machine.Sentence) (i m : ℕ) (x : machine.Sentence) (j k : ℕ) (q : machine.Revision) → slice_get xs i ≡ Some x → slice_get (revisions x) j ≡ Some q → m ≡ n + i → k ≡ 1 + j
    → Contains (map revision_record (revisions_from n xs)) (revision_shown_as m k q)
revisions_in n [] i m x j k q e f a b = let d : None ≡ Some x = e in absurd (cc)
revisions_in n (y ∷ ys) zero m x j k q e f a b =
    let own = revision_rows n 1 (revisions y) in
    let rest = revisions_from (n + 1) ys in
    let here : n ≡ m = omega (arith, a) in
    let there : slice_get (revisions y) j ≡ Some q = ap (λ (z : machine.Sentence). slice_get (revisions z) j) (same_Some y x e) ∙ f in
    subst (λ l. Contains l (revision_shown_as m k q)) (sym (map_joined own rest))
    (subst (λ z. Contains (map revision_record own ++ map revision_record rest) (revision_shown_as z k q)) here
    (Contains-append_left (map revision_record own) (map revision_record rest) (revision_shown_as n k q) (rows_in n 1 (revisions y) j k q there b)))
revisions_in n (y ∷ ys) (suc i) m x j k q e f a b =
    let own = revision_rows n 1 (revisions y) in
    let rest = revisions_from (n + 1) ys in
    subst (λ l. Contains l (revision_shown_as m k q)) (sym (map_joined own rest))
    (Contains-append_right (map revision_record own) (map revision_record rest) (revision_shown_as m k q) (revisions_in (n + 1) ys i m x j k q e f (omega (arith, a)) b))

record IsFoundIn (n : ℕ) (xs : List machine.Sentence) (r : Revision) : Type 0 where
  place : ℕ
  sentence : machine.Sentence
  there : slice_get xs place ≡ Some sentence
  row : IsRowOf (n + place) 1 (revisions sentence) r

revisions_out : (n : ℕ) (xs : List machine.Sentence) (r : Revision) → Contains (map revision_record (revisions_from n xs)) r → IsFoundIn n xs r
revisions_out n [] r h = absurd (omega (arith, h.1))
revisions_out n (y ∷ ys) r h =
    let own = revision_rows n 1 (revisions y) in
    let rest = revisions_from (n + 1) ys in
    elim (Contains-append_cases (map revision_record own) (map revision_record rest) r (subst (λ l. Contains l r) (map_joined own rest) h)) [
      | inl here ↦ record { place = 0; sentence = y; there = refl; row = subst (λ m. IsRowOf m 1 (revisions y) r) (let e : n ≡ n + 0 = omega arith in e) (rows_out n 1 (revisions y) r here) }
      | inr more ↦
          (let found = revisions_out (n + 1) ys r more in
          record { place = suc found.place; sentence = found.sentence; there = found.there; row = subst (λ m. IsRowOf m 1 (revisions found.sentence) r) (let e : n + 1 + found.place ≡ n + suc found.place = omega arith in e) found.row })
    ]

out : (s : Machine) (r : Revision) → Contains (tables_of s).revisions r → IsRevisionOf s r
out s r h =
    let found = revisions_out 1 s.sentences r h in
    let row = found.row in
    let a : 1 + found.place ≡ found.place + 1 = omega arith in
    let b : 1 + row.index ≡ row.index + 1 = omega arith in
    record {
      place = found.place;
      sentence = found.sentence;
      there = found.there;
      index = row.index;
      revision = row.revision;
      revised = row.revised;
      is = row.is ∙ ap (λ m. revision_shown_as m (1 + row.index) row.revision) a ∙ ap (λ k. revision_shown_as (found.place + 1) k row.revision) b;
    }

pub revisions_reported : (s : Machine) (r : Revision) → Contains (tables_of s).revisions r ↔ IsRevisionOf s r
revisions_reported s r =
    (out s r, λ h. subst (Contains (tables_of s).revisions) (sym h.is) (revisions_in 1 s.sentences h.place (h.place + 1) h.sentence h.index (h.index + 1) h.revision h.there h.revised (omega arith) (omega arith)))

-- the record of the current revision, by its numbers
pub current_reported : (s : Machine) (place : ℕ) (x : machine.Sentence) (r : Revision) → slice_get s.sentences place ≡ Some x → Contains (tables_of s).revisions r → r.sent ≡ place + 1 → r.rev ≡ length x.before + 1
    → r ≡ revision_shown_as (place + 1) (length x.before + 1) x.current
current_reported s place x r e h a b =
    let f = out s r h in
    let sent : f.place + 1 ≡ place + 1 = sym (ap (λ (z : Revision). z.sent) f.is) ∙ a in
    let rev : f.index + 1 ≡ length x.before + 1 = sym (ap (λ (z : Revision). z.rev) f.is) ∙ b in
    let here : f.place ≡ place = omega (arith, sent) in
    let last : f.index ≡ length x.before = omega (arith, rev) in
    let same : f.sentence ≡ x = get_one s.sentences place f.sentence x (subst (λ i. slice_get s.sentences i ≡ Some f.sentence) here f.there) e in
    let there : slice_get (revisions x) (length x.before) ≡ Some f.revision = subst (λ z. slice_get (revisions z) (length x.before) ≡ Some f.revision) same (subst (λ i. slice_get (revisions f.sentence) i ≡ Some f.revision) last f.revised) in
    let one = get_one (revisions x) (length x.before) f.revision x.current there (get_seam x.before x.current) in
    f.is ∙ ap (λ m. revision_shown_as m (f.index + 1) f.revision) sent ∙ ap (λ k. revision_shown_as (place + 1) k f.revision) rev ∙ ap (revision_shown_as (place + 1) (length x.before + 1)) one

-- ---- totals

pub total_reported : (s : Machine) (st : State) → slice_get (tables_of s).totals (state_number st - 1) ≡ Some (total_record s st)
total_reported s Opened = refl
total_reported s Assigned = refl
total_reported s Submitted = refl
total_reported s Adjudicated = refl
total_reported s Released = refl
total_reported s Withdrawn = refl
