-- Texts, each its own: those seen, and those to come.
use Rattle.std.proofs.Common.{◌≡◌, ℕ, ◌+◌, List, [], ◌∷◌, length, Bool, true, false, cond, ◌||◌, not, map, refl, sym, ◌∙◌, ap, subst, Result, Ok, Err, IfOk}
use Rattle.std.specs.Prelude.{bytes_eq, string_bytes, Decides}
use Rattle.std.specs.List.{AllByRecursion, list_any, list_all}
use Rattle.std.specs.String.{string_cmp}
use Rattle.std.specs.BTreeMap.{is_at}
use Rattle.std.specs.BTreeSet.{BTreeSet, Updates}
use Rattle.std.specs.declared.string.String.{String}
use Rattle.std.proofs.lemmas.Slice.Eq.{bytes_eq-Decides}
use Rattle.tb_core.specs.Keeping.{IsFine}
use Rattle.tb_core.specs.Machine as machine
use Rattle.tb_core.specs.Machine.{Machine}
use Rattle.tb_core.specs.Names.{is_name, Lacks, AreApart}
use Rattle.tb_replay.specs.Fine.{AreFine}
use Rattle.tb_refine.specs.DeskTables.{batch_record, sentence_record}
use Rattle.tb_rules.proofs.Taken.{key_is, key_added, not_false, not_true}
use Rattle.tb_tables.specs.Records.{Batch, Sentence}
use Rattle.tb_tables.specs.Values.{batch_of, sentence_of}
use Rattle.tb_tables.specs.declared.rows.BatchRow.{BatchRow}
use Rattle.tb_tables.specs.declared.rows.SentenceRow.{SentenceRow}
use Rattle.tb_verify.specs.Apart.{AreNamed, AreTitled, IsAdded}
use Rattle.tb_verify.proofs.Filed.{unmet}
use Rattle.tb_verify.proofs.Rereading.{first_true, second_true, both}

-- none of these was seen
abbrev pub Unseen : List (List ℕ) → List (List ℕ) → Type 0
Unseen seen texts = AllByRecursion (λ (t : List ℕ). list_any (bytes_eq t) seen ≡ false) texts

-- all are apart where those to come are, and none of them was seen
pub record IsPassed (all seen rest : List (List ℕ)) : Type 0 where
  pub onward : AreApart all → AreApart rest × Unseen seen rest
  pub back : AreApart rest → Unseen seen rest → AreApart all

clash : {X : Type 0} (b : Bool) → b ≡ true → b ≡ false → X
clash b t f = let e : true ≡ false = sym t ∙ f in absurd (cc)

last_false : (x y : Bool) → (x || y) ≡ false → y ≡ false
last_false true y e = absurd (let d : true ≡ false = e in cc)
last_false false y e = e

either_true : (x y : Bool) → x ≡ true → (x || y) ≡ true
either_true true y e = refl
either_true false y e = absurd (let d : false ≡ true = e in cc)

neither : (x y : Bool) → x ≡ false → y ≡ false → (x || y) ≡ false
neither true y e f = absurd (let d : true ≡ false = e in cc)
neither false y e f = f

unseen_next : (old new : List (List ℕ)) (t : List ℕ) (ts : List (List ℕ)) → ((q : List ℕ) → list_any (bytes_eq q) new ≡ (bytes_eq t q || list_any (bytes_eq q) old)) → Lacks ts t → Unseen old ts → Unseen new ts
unseen_next old new t [] more l u = tt
unseen_next old new t (q ∷ ts) more l u = (
  more q ∙ neither (bytes_eq t q) (list_any (bytes_eq q) old) (unmet (bytes_eq t q) (λ e. l.0 ((bytes_eq-Decides t q).0 e))) u.0,
  unseen_next old new t ts more l.1 u.1,
)

lacks_back : (old new : List (List ℕ)) (t : List ℕ) (ts : List (List ℕ)) → ((q : List ℕ) → list_any (bytes_eq q) new ≡ (bytes_eq t q || list_any (bytes_eq q) old)) → Unseen new ts → Lacks ts t
lacks_back old new t [] more u = tt
lacks_back old new t (q ∷ ts) more u = (
  λ e. clash (list_any (bytes_eq q) new) (more q ∙ either_true (bytes_eq t q) (list_any (bytes_eq q) old) ((bytes_eq-Decides t q).1 e)) u.0,
  lacks_back old new t ts more u.1,
)

unseen_back : (old new : List (List ℕ)) (t : List ℕ) (ts : List (List ℕ)) → ((q : List ℕ) → list_any (bytes_eq q) new ≡ (bytes_eq t q || list_any (bytes_eq q) old)) → Unseen new ts → Unseen old ts
unseen_back old new t [] more u = tt
unseen_back old new t (q ∷ ts) more u = (last_false (bytes_eq t q) (list_any (bytes_eq q) old) (sym (more q) ∙ u.0), unseen_back old new t ts more u.1)

passed_on : (all old new : List (List ℕ)) (t : List ℕ) (ts : List (List ℕ)) → IsPassed all old (t ∷ ts) → IsAdded true old t new → IsPassed all new ts
passed_on all old new t ts h a = record {
  onward = λ apart. let g = h.onward apart in (g.0.1, unseen_next old new t ts a.1 g.0.0 g.1.1);
  back = λ apart u. h.back (lacks_back old new t ts a.1 u, apart) (a.0, unseen_back old new t ts a.1 u);
}

-- a turn of the loop
pub one_passed : (all old new rest rest_next : List (List ℕ)) (t : List ℕ) (added : Bool) → IsPassed all old rest → rest ≡ t ∷ rest_next → IsAdded added old t new → added ≡ true → IsPassed all new rest_next
one_passed all old new rest rest_next t true h e a d = passed_on all old new t rest_next (subst (λ r. IsPassed all old r) e h) a
one_passed all old new rest rest_next t false h e a d = absurd (let s : false ≡ true = d in cc)

-- the next one was seen before
pub not_apart : (all old new rest rest_next : List (List ℕ)) (t : List ℕ) (added : Bool) → IsPassed all old rest → rest ≡ t ∷ rest_next → IsAdded added old t new → added ≡ false → AreApart all → ⊥
not_apart all old new rest rest_next t true h e a d apart = let s : true ≡ false = d in absurd (cc)
not_apart all old new rest rest_next t false h e a d apart =
    let g = (subst (λ r. IsPassed all old r) e h).onward apart in
    clash (list_any (bytes_eq t) old) a g.1.0

pub all_passed : (all seen rest : List (List ℕ)) → IsPassed all seen rest → rest ≡ [] → AreApart all
all_passed all seen rest h e = (subst (λ r. IsPassed all seen r) e h).back tt tt

pub reported_false : {P : Type 0} → (P → ⊥) → Decides false P
reported_false h = ((λ e. absurd (let d : false ≡ true = e in cc)), (λ p. absurd (h p)))

pub reported_true : {P : Type 0} → P → Decides true P
reported_true p = ((λ e. p), (λ q. refl))

-- ---- names in rows

abbrev pub HasGoodNames : List Batch → Type 0
HasGoodNames bs = AllByRecursion (λ (b : Batch). is_name b.name ≡ true) bs

good_onward : (rs : List BatchRow) → list_all (λ (r : BatchRow). is_name (string_bytes r.name)) rs ≡ true → HasGoodNames (map batch_of rs)
good_onward [] e = tt
good_onward (r ∷ rs) e = (
  first_true (is_name (string_bytes r.name)) (list_all (λ (r : BatchRow). is_name (string_bytes r.name)) rs) e,
  good_onward rs (second_true (is_name (string_bytes r.name)) (list_all (λ (r : BatchRow). is_name (string_bytes r.name)) rs) e),
)

good_back : (rs : List BatchRow) → HasGoodNames (map batch_of rs) → list_all (λ (r : BatchRow). is_name (string_bytes r.name)) rs ≡ true
good_back [] h = refl
good_back (r ∷ rs) h = both (is_name (string_bytes r.name)) (list_all (λ (r : BatchRow). is_name (string_bytes r.name)) rs) h.0 (good_back rs h.1)

names_reported : (rs : List BatchRow) → map (λ (b : Batch). b.name) (map batch_of rs) ≡ map (λ (r : BatchRow). string_bytes r.name) rs
names_reported [] = refl
names_reported (r ∷ rs) = ap (λ l. string_bytes r.name ∷ l) (names_reported rs)

pub ids_reported : (rs : List SentenceRow) → map (λ (s : Sentence). s.sent_id) (map sentence_of rs) ≡ map (λ (r : SentenceRow). string_bytes r.sent_id) rs
ids_reported [] = refl
ids_reported (r ∷ rs) = ap (λ l. string_bytes r.sent_id ∷ l) (ids_reported rs)

-- a name is not good
pub not_good : (rs : List BatchRow) (good : Bool) → good ≡ list_all (λ (r : BatchRow). is_name (string_bytes r.name)) rs → good ≡ false → AreNamed (map batch_of rs) → ⊥
not_good rs good e f h = clash good (e ∙ good_back rs h.good) f

named_if : (rs : List BatchRow) (good apart : Bool) → good ≡ list_all (λ (r : BatchRow). is_name (string_bytes r.name)) rs → good ≡ true → Decides apart (AreApart (map (λ (r : BatchRow). string_bytes r.name) rs))
    → Decides apart (AreNamed (map batch_of rs))
named_if rs good apart e f d = (
  λ t. record { good = good_onward rs (sym e ∙ f); apart = subst AreApart (sym (names_reported rs)) (d.0 t) },
  λ (h : AreNamed (map batch_of rs)). d.1 (subst AreApart (names_reported rs) h.apart),
)

pub all_named_if : {E : Type 0} (rs : List BatchRow) (good : Bool) (r : Result Bool E) → good ≡ list_all (λ (r : BatchRow). is_name (string_bytes r.name)) rs → good ≡ true
    → IfOk r (λ apart. Decides apart (AreApart (map (λ (r : BatchRow). string_bytes r.name) rs))) → IfOk r (λ named. Decides named (AreNamed (map batch_of rs)))
all_named_if rs good (Ok apart) e f d = named_if rs good apart e f d
all_named_if rs good (Err x) e f d = tt

-- ---- names of a state

batch_names : (cs : List machine.Batch) → map (λ (b : Batch). b.name) (map batch_record cs) ≡ map (λ (c : machine.Batch). c.name) cs
batch_names [] = refl
batch_names (c ∷ cs) = ap (λ l. c.name ∷ l) (batch_names cs)

sentence_names : (xs : List machine.Sentence) → map (λ (s : Sentence). s.sent_id) (map sentence_record xs) ≡ map (λ (x : machine.Sentence). x.sent_id) xs
sentence_names [] = refl
sentence_names (x ∷ xs) = ap (λ l. x.sent_id ∷ l) (sentence_names xs)

good_of : (cs : List machine.Batch) → HasGoodNames (map batch_record cs) → AllByRecursion (λ (c : machine.Batch). is_name c.name ≡ true) cs
good_of [] h = tt
good_of (c ∷ cs) h = (h.0, good_of cs h.1)

good_in : (cs : List machine.Batch) → AllByRecursion (λ (c : machine.Batch). is_name c.name ≡ true) cs → HasGoodNames (map batch_record cs)
good_in [] h = tt
good_in (c ∷ cs) h = (h.0, good_in cs h.1)

pub fine_by_rows : (f : Machine) (bs : List Batch) (ss : List Sentence) → map batch_record f.batches ≡ bs → map sentence_record f.sentences ≡ ss → AreNamed bs → AreTitled ss → AllByRecursion IsFine f.sentences → AreFine f
fine_by_rows f bs ss e g n t h = record {
  named = good_of f.batches (subst HasGoodNames (sym e) n.good);
  names = subst AreApart (ap (map (λ (b : Batch). b.name)) (sym e) ∙ batch_names f.batches) n.apart;
  ids = subst AreApart (ap (map (λ (s : Sentence). s.sent_id)) (sym g) ∙ sentence_names f.sentences) t;
  sentences = h;
}

pub rows_by_fine : (f : Machine) (bs : List Batch) (ss : List Sentence) → map batch_record f.batches ≡ bs → map sentence_record f.sentences ≡ ss → AreFine f → AreNamed bs × AreTitled ss × AllByRecursion IsFine f.sentences
rows_by_fine f bs ss e g h = (
  record {
    good = subst HasGoodNames e (good_in f.batches h.named);
    apart = subst AreApart (sym (batch_names f.batches) ∙ ap (map (λ (b : Batch). b.name)) e) h.names;
  },
  subst AreApart (sym (sentence_names f.sentences) ∙ ap (map (λ (s : Sentence). s.sent_id)) g) h.ids,
  h.sentences,
)

-- ---- the set of texts seen

cond_or : (x y : Bool) → cond x true y ≡ (x || y)
cond_or true y = refl
cond_or false y = refl

pub found_by : {Y : Type 0} (k : String Y) (old : BTreeSet (String Y)) (new : BTreeSet (String Y)) (text : List ℕ) (added : Bool) → string_bytes k ≡ text → added ≡ not (list_any (is_at (string_cmp k)) old.keys)
    → Updates string_cmp old new k true → length new.keys ≡ length old.keys + cond added 1 0 → IsAdded added (map string_bytes old.keys) text (map string_bytes new.keys)
found_by k old new text true is here more grown =
    let names = map string_bytes old.keys in
    let none = not_true (list_any (is_at (string_cmp k)) old.keys) here in
    let added = key_added k old new names text refl is more true refl grown in
    (key_is k old.keys names text false refl is none, λ q. added.1 q ∙ cond_or (bytes_eq text q) (list_any (bytes_eq q) names))
found_by k old new text false is here more grown =
    key_is k old.keys (map string_bytes old.keys) text true refl is (not_false (list_any (is_at (string_cmp k)) old.keys) here)
