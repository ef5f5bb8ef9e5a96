-- A sentence that comes after those that were taken: its name is new, or it is told.
use Rattle.std.proofs.Common.{◌≡◌, ◌⊎◌, inl, inr, ℕ, ◌+◌, List, [], ◌∷◌, ◌++◌, length, map, Bool, true, false, cond, ◌||◌, not, Some, None, refl, sym, ◌∙◌, ap, subst, arith, append-nil, length-append}
use Rattle.std.specs.Prelude.{bytes_eq, string_bytes}
use Rattle.std.specs.List.{AllByRecursion, list_any}
use Rattle.std.specs.String.{string_cmp}
use Rattle.std.specs.BTreeMap.{is_at}
use Rattle.std.specs.BTreeSet.{BTreeSet, Updates, contains_text}
use Rattle.std.specs.Ordering.{nat_cmp}
use Rattle.std.specs.Cmp.Lexicographic.{slice_cmp, nat_list_eq_equiv}
use Rattle.std.specs.declared.string.String.{String}
use Rattle.std.proofs.lemmas.List.{length-map}
use Rattle.std.proofs.lemmas.List.Concat.{flat_map-append}
use Rattle.std.proofs.lemmas.List.Folds.{list_any-append}
use Rattle.std.proofs.lemmas.Map.Text.{is_eq-slice_cmp, btree_set_updates_text}
use Rattle.std.proofs.lemmas.Slice.Eq.{bytes_eq-Decides}
use Rattle.tb_conllu.specs.Text.{BlockText}
use Rattle.tb_rules.specs.Comments.{sent_ids, only}
use Rattle.tb_rules.specs.File.{IsNamed, IsFree, HasNewName, IsBrokenAfter, broken, name_twice, IsFaultAt, IsFileFault, IsSentenceFault, names_of, HasTaken}
use Rattle.tb_rules.specs.Rules.{KeepsRules, sent_id}
use Rattle.tb_rules.specs.declared.filefault.FileFault.{FileFault}
use Rattle.tb_rules.specs.declared.filefault.FileFault.TheVariants.{At, Memory}
use Rattle.tb_rules.proofs.Valid.{valid_next}

-- ---- names

one_name : (b : BlockText) → KeepsRules b → (name : List ℕ) × IsNamed b name
one_name b k = let id = k sent_id in (id.name, id.one)

pub not_unnamed : (b : BlockText) → KeepsRules b → None ≡ only (sent_ids b) → ⊥
not_unnamed b k e = let same : None ≡ Some (one_name b k).0 = e ∙ ap only (one_name b k).1 in cc

pub named : (b : BlockText) (name : List ℕ) → KeepsRules b → Some name ≡ only (sent_ids b) → IsNamed b name
named b name k e =
    let one = one_name b k in
    let same : Some name ≡ Some one.0 = e ∙ ap only one.1 in
    let is : one.0 ≡ name = cc in
    one.1 ∙ ap (λ n. n ∷ []) is

only_one : (b : BlockText) (name other : List ℕ) → IsNamed b name → IsNamed b other → name ≡ other
only_one b name other e d = let same : name ∷ [] ≡ other ∷ [] = sym e ∙ d in cc

names_next : (bs : List BlockText) (b : BlockText) (name : List ℕ) → IsNamed b name → names_of (bs ++ b ∷ []) ≡ names_of bs ++ name ∷ []
names_next bs b name e = flat_map-append sent_ids bs (b ∷ []) ∙ ap (λ l. names_of bs ++ l) (append-nil (sent_ids b) ∙ e)

pub same_bytes : (name : List ℕ) → bytes_eq name name ≡ true
same_bytes name = (bytes_eq-Decides name name).1 refl

pub equal_bytes : (name other : List ℕ) → bytes_eq name other ≡ true → name ≡ other
equal_bytes name other h = (bytes_eq-Decides name other).0 h

any_next : (name : List ℕ) (b : BlockText) (bs : List BlockText) → list_any (bytes_eq name) (names_of (b ∷ bs)) ≡ (list_any (bytes_eq name) (sent_ids b) || list_any (bytes_eq name) (names_of bs))
any_next name b bs = list_any-append (bytes_eq name) (sent_ids b) (names_of bs)

first_false : (x y : Bool) → (x || y) ≡ false → x ≡ false
first_false true y e = e
first_false false y e = refl

second_false : (x y : Bool) → (x || y) ≡ false → y ≡ false
second_false true y e = absurd (let d : true ≡ false = e in cc)
second_false false y e = e

-- the sentence has another name
other_name : (b : BlockText) (name : List ℕ) → list_any (bytes_eq name) (sent_ids b) ≡ false → IsNamed b name → ⊥
other_name b name h is =
    let found : list_any (bytes_eq name) (name ∷ []) ≡ true = ap (λ t. t || false) (same_bytes name) in
    let e : true ≡ false = sym found ∙ (sym (ap (list_any (bytes_eq name)) is) ∙ h) in
    cc

free : (bs : List BlockText) (name : List ℕ) → list_any (bytes_eq name) (names_of bs) ≡ false → IsFree bs name
free [] name e = tt
free (b ∷ bs) name e =
    let all = sym (any_next name b bs) ∙ e in
    let here = first_false (list_any (bytes_eq name) (sent_ids b)) (list_any (bytes_eq name) (names_of bs)) all in
    let rest = second_false (list_any (bytes_eq name) (sent_ids b)) (list_any (bytes_eq name) (names_of bs)) all in
    (other_name b name here, free bs name rest)

-- the first sentence has the name, or one of the others has it
found_first : (b : BlockText) (bs : List BlockText) (name own : List ℕ) (t : Bool) → IsNamed b own → bytes_eq name own ≡ t → (t || list_any (bytes_eq name) (names_of bs)) ≡ true
    → (IsNamed b name) ⊎ (list_any (bytes_eq name) (names_of bs) ≡ true)
found_first b bs name own true one is all = inl (one ∙ ap (λ n. n ∷ []) (sym (equal_bytes name own is)))
found_first b bs name own false one is all = inr all

not_free : (bs : List BlockText) (name : List ℕ) → AllByRecursion KeepsRules bs → list_any (bytes_eq name) (names_of bs) ≡ true → IsFree bs name → ⊥
not_free [] name h e f = let d : false ≡ true = e in absurd (cc)
not_free (b ∷ bs) name h e f =
    let one = one_name b h.0 in
    let found : (bytes_eq name one.0 || list_any (bytes_eq name) (names_of bs)) ≡ true = sym (ap (λ l. list_any (bytes_eq name) (l ++ names_of bs)) one.1) ∙ e in
    elim (found_first b bs name one.0 (bytes_eq name one.0) one.1 refl found) [ inl here ↦ f.0 here | inr rest ↦ not_free bs name h.1 rest f.1 ]

-- ---- what was taken

-- one name more, wherever it stands in the order
abbrev pub Adds : List (List ℕ) → List ℕ → List (List ℕ) → Type 0
Adds old name new = (length new ≡ length old + 1) × ((q : List ℕ) → list_any (bytes_eq q) new ≡ cond (bytes_eq name q) true (list_any (bytes_eq q) old))

pub or_last : (here there : Bool) → cond here true there ≡ (there || (here || false))
or_last true true = refl
or_last true false = refl
or_last false true = refl
or_last false false = refl

known_next : (old new : List (List ℕ)) (before : List BlockText) (b : BlockText) (name q : List ℕ) → HasTaken old before → IsNamed b name → Adds old name new
    → list_any (bytes_eq q) new ≡ list_any (bytes_eq q) (names_of (before ++ b ∷ []))
known_next old new before b name q h is more =
    let all = ap (list_any (bytes_eq q)) (names_next before b name is) ∙ list_any-append (bytes_eq q) (names_of before) (name ∷ []) in
    let here = ap (λ t. cond t true (list_any (bytes_eq q) old)) (nat_list_eq_equiv.symm name q) ∙ ap (λ t. cond (bytes_eq q name) true t) (h.known q) in
    more.1 q ∙ here ∙ or_last (bytes_eq q name) (list_any (bytes_eq q) (names_of before)) ∙ sym all

-- a new name
pub taken_next : (old new : List (List ℕ)) (before : List BlockText) (b : BlockText) (name : List ℕ) → HasTaken old before → KeepsRules b → IsNamed b name
    → list_any (bytes_eq name) old ≡ false → Adds old name new → HasTaken new (before ++ b ∷ [])
taken_next old new before b name h k is none more =
    let unknown = sym (h.known name) ∙ none in
    let first : HasNewName before b = λ other own. free before other (subst (λ n. list_any (bytes_eq n) (names_of before) ≡ false) (only_one b name other is own) unknown) in
    let whole = length-append before (b ∷ []) in
    record {
      valid = valid_next before b h.valid k first;
      counted = omega (arith, more.0, h.counted, whole);
      known = λ q. known_next old new before b name q h is more;
    }

-- the sentence that comes next is at fault
reported_next : (names : List (List ℕ)) (before : List BlockText) (b : BlockText) (n sentence rule row : ℕ) → HasTaken names before → n ≡ length names → sentence ≡ n + 1
    → IsBrokenAfter before b rule row → IsFaultAt (before ++ b ∷ []) sentence rule row
reported_next names before b n sentence rule row h e place f =
    let count = h.counted in
    record { before = before; reported = b; after = []; whole = refl; counted = omega (arith, e, count, place); valid = h.valid; fault = f }

-- a name that came before
pub taken_twice : (names : List (List ℕ)) (before : List BlockText) (b : BlockText) (name : List ℕ) (n : ℕ) → HasTaken names before → n ≡ length names → KeepsRules b
    → IsNamed b name → list_any (bytes_eq name) names ≡ true → IsFaultAt (before ++ b ∷ []) (n + 1) 12 0
taken_twice names before b name n h e k is some =
    let known = sym (h.known name) ∙ some in
    reported_next names before b n (n + 1) 12 0 h e refl (name_twice k (λ new. not_free before name h.valid.rules known (new name is)))

-- a fault of the sentence by itself
pub taken_alone : (names : List (List ℕ)) (before : List BlockText) (b : BlockText) (n : ℕ) (e : FileFault) → HasTaken names before → n ≡ length names
    → IsSentenceFault (n + 1) b e → IsFileFault (before ++ b ∷ []) e
taken_alone names before b n (At sentence rule row) h e f = reported_next names before b n sentence rule row h e f.0 (broken rule row f.1)
taken_alone names before b n Memory h e f = tt

-- ---- the set of names

text_known : {Y : Type 0} (q : List ℕ) (keys : List (String Y)) → list_any (is_at (λ k. slice_cmp nat_cmp q (string_bytes k))) keys ≡ list_any (bytes_eq q) (map string_bytes keys)
text_known q [] = refl
text_known q (x ∷ xs) = ap (λ t. t || list_any (is_at (λ k. slice_cmp nat_cmp q (string_bytes k))) xs) (is_eq-slice_cmp q (string_bytes x)) ∙ ap (λ t. bytes_eq q (string_bytes x) || t) (text_known q xs)

pub key_count : {Y : Type 0} (keys : List (String Y)) (names : List (List ℕ)) → map string_bytes keys ≡ names → length keys ≡ length names
key_count keys names e = sym (length-map keys string_bytes) ∙ ap length e

-- whether the name was there
pub key_is : {Y : Type 0} (k : String Y) (keys : List (String Y)) (names : List (List ℕ)) (name : List ℕ) (t : Bool) → map string_bytes keys ≡ names → string_bytes k ≡ name
    → list_any (is_at (string_cmp k)) keys ≡ t → list_any (bytes_eq name) names ≡ t
key_is k keys names name t e is h =
    let there = sym (text_known (string_bytes k) keys) ∙ h in
    subst (λ n. list_any (bytes_eq n) names ≡ t) is (subst (λ l. list_any (bytes_eq (string_bytes k)) l ≡ t) e there)

-- the names after one was put in
pub key_known : {Y : Type 0} (k : String Y) (old new : BTreeSet (String Y)) (name : List ℕ) → string_bytes k ≡ name → Updates string_cmp old new k true
    → (q : List ℕ) → list_any (bytes_eq q) (map string_bytes new.keys) ≡ cond (bytes_eq name q) true (list_any (bytes_eq q) (map string_bytes old.keys))
key_known k old new name is more q =
    sym (text_known q new.keys) ∙ btree_set_updates_text (string_bytes k) old new true more q
    ∙ ap (λ n. cond (bytes_eq n q) true (contains_text old q)) is
    ∙ ap (λ t. cond (bytes_eq name q) true t) (text_known q old.keys)

-- how many names there are after one was put in
pub key_grown : {Y : Type 0} (old new : BTreeSet (String Y)) (names : List (List ℕ)) (added : Bool) → map string_bytes old.keys ≡ names → length new.keys ≡ length old.keys + cond added 1 0
    → length (map string_bytes new.keys) ≡ length names + cond added 1 0
key_grown old new names added e grown =
    sym (key_count new.keys (map string_bytes new.keys) refl) ∙ grown ∙ ap (λ n. n + cond added 1 0) (key_count old.keys names e)

-- a new name was put in
pub name_added : (old new : List (List ℕ)) (name : List ℕ) (added : Bool) → added ≡ true → length new ≡ length old + cond added 1 0
    → ((q : List ℕ) → list_any (bytes_eq q) new ≡ cond (bytes_eq name q) true (list_any (bytes_eq q) old)) → Adds old name new
name_added old new name added is grown more = (grown ∙ ap (λ t. length old + cond t 1 0) is, more)

-- ---- a name put into a map, for crates above

pub key_added : {Y : Type 0} (k : String Y) (old new : BTreeSet (String Y)) (names : List (List ℕ)) (name : List ℕ) → map string_bytes old.keys ≡ names → string_bytes k ≡ name
    → Updates string_cmp old new k true → (added : Bool) → added ≡ true → length new.keys ≡ length old.keys + cond added 1 0 → Adds names name (map string_bytes new.keys)
key_added k old new names name e is more added new_key grown =
    let count = grown ∙ ap (λ t. length old.keys + cond t 1 0) new_key in
    let sizes = key_count old.keys names e in
    let after = key_count new.keys (map string_bytes new.keys) refl in (
      omega (arith, sizes, after, count),
      λ q. key_known k old new name is more q ∙ ap (λ t. cond (bytes_eq name q) true t) (ap (list_any (bytes_eq q)) e),
    )

pub not_false : (t : Bool) → false ≡ not t → t ≡ true
not_false true e = refl
not_false false e = let d : false ≡ true = e in absurd (cc)

pub not_true : (t : Bool) → true ≡ not t → t ≡ false
not_true true e = let d : true ≡ false = e in absurd (cc)
not_true false e = refl
