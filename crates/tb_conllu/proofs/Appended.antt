-- What pieces written one after the other append.
use Rattle.std.proofs.Common.{◌≡◌, ℕ, ◌+◌, ◌<◌, List, [], ◌∷◌, ◌++◌, length, take, get_or, map, Option, refl, sym, ◌∙◌, ap, subst, append_assoc, append-nil}
use Rattle.std.specs.Io.KnownBytes.{Appends}
use Rattle.std.specs.List.{flat_map, join_with_byte}
use Rattle.std.proofs.KnownBytes.{Appends-trans}
use Rattle.std.proofs.lemmas.List.{take_more}
use Rattle.std.proofs.lemmas.List.Concat.{flat_map-append}
use Rattle.std.proofs.lemmas.List.Folds.{flat_map-map}
use Rattle.tb_conllu.specs.Text.{RowText, BlockText, id_text, head_text, row_line, ended, text_of}
use Rattle.tb_conllu.proofs.Faults.{ended-append, text_of-append}

-- one more element of a list
pub piece_more : {X : Type 0} (f : X → List ℕ) (xs : List X) (i : ℕ) (x : X) (o a b : Option (List ℕ)) → i < length xs → x ≡ get_or xs i x → Appends o a (flat_map f (take i xs)) → Appends a b (f x) → Appends o b (flat_map f (take (i + 1) xs))
piece_more f xs i x o a b l same before here =
    let more : flat_map f (take (i + 1) xs) ≡ flat_map f (take i xs) ++ f x = ap (flat_map f) (take_more xs i x l ∙ ap (λ y. take i xs ++ y ∷ []) (sym same)) ∙ flat_map-append f (take i xs) (x ∷ []) ∙ ap (λ t. flat_map f (take i xs) ++ t) (append-nil (f x)) in
    let P : List ℕ → Type 0 = Appends o b in
    subst P (sym more) (Appends-trans o a b (flat_map f (take i xs)) (f x) before here)

-- one more sentence
pub text_more : (bs : List BlockText) (i : ℕ) (x : BlockText) (o a b : Option (List ℕ)) → i < length bs → x ≡ get_or bs i x → Appends o a (text_of (take i bs)) → Appends a b (text_of (x ∷ [])) → Appends o b (text_of (take (i + 1) bs))
text_more bs i x o a b l same before here =
    let more : text_of (take (i + 1) bs) ≡ text_of (take i bs) ++ text_of (x ∷ []) = ap text_of (take_more bs i x l ∙ ap (λ y. take i bs ++ y ∷ []) (sym same)) ∙ text_of-append (take i bs) (x ∷ []) in
    let P : List ℕ → Type 0 = Appends o b in
    subst P (sym more) (Appends-trans o a b (text_of (take i bs)) (text_of (x ∷ [])) before here)

-- each text after a tab
abbrev pub tabbed : List (List ℕ) → List ℕ
tabbed fs = flat_map (λ f. 9 ∷ f) fs

join_tabbed : (f : List ℕ) (fs : List (List ℕ)) (rest : List ℕ) → join_with_byte 9 (f ∷ fs) ++ rest ≡ f ++ (tabbed fs ++ rest)
join_tabbed f [] rest = refl
join_tabbed f (g ∷ fs) rest = append_assoc f (9 ∷ join_with_byte 9 (g ∷ fs)) rest ∙ ap (λ t. f ++ 9 ∷ t) (join_tabbed g fs rest ∙ sym (append_assoc g (tabbed fs) rest))

parts_tabbed : (first : List ℕ) (front : List (List ℕ)) (mid : List ℕ) (back : List (List ℕ)) (rest : List ℕ) → join_with_byte 9 (first ∷ (front ++ mid ∷ back)) ++ rest ≡ first ++ (tabbed front ++ ((9 ∷ mid) ++ (tabbed back ++ rest)))
parts_tabbed first front mid back rest =
    join_tabbed first (front ++ mid ∷ back) rest
    ∙ ap (λ t. first ++ (t ++ rest)) (flat_map-append (λ f. 9 ∷ f) front (mid ∷ back))
    ∙ ap (λ t. first ++ t) (append_assoc (tabbed front) ((9 ∷ mid) ++ tabbed back) rest ∙ ap (λ t. tabbed front ++ t) (append_assoc (9 ∷ mid) (tabbed back) rest))

pub row_parts : (r : RowText) → row_line r ++ 10 ∷ [] ≡ id_text r.id ++ (tabbed (r.form ∷ r.lemma ∷ r.upos ∷ r.xpos ∷ r.feats ∷ []) ++ ((9 ∷ head_text r.head) ++ (tabbed (r.deprel ∷ r.deps ∷ r.misc ∷ []) ++ 10 ∷ [])))
row_parts r = parts_tabbed (id_text r.id) (r.form ∷ r.lemma ∷ r.upos ∷ r.xpos ∷ r.feats ∷ []) (head_text r.head) (r.deprel ∷ r.deps ∷ r.misc ∷ []) (10 ∷ [])

-- the parts of a row
pub row_appended : (r : RowText) (o a b c d e : Option (List ℕ)) → Appends o a (id_text r.id) → Appends a b (tabbed (r.form ∷ r.lemma ∷ r.upos ∷ r.xpos ∷ r.feats ∷ [])) → Appends b c (9 ∷ head_text r.head) → Appends c d (tabbed (r.deprel ∷ r.deps ∷ r.misc ∷ [])) → Appends d e (10 ∷ []) → Appends o e (row_line r ++ 10 ∷ [])
row_appended r o a b c d e id front head back end =
    let P : List ℕ → Type 0 = Appends o e in
    subst P (sym (row_parts r)) (Appends-trans o a e _ _ id (Appends-trans a b e _ _ front (Appends-trans b c e _ _ head (Appends-trans c d e _ _ back end))))

pub block_parts : {X : Type 0} (f : X → List ℕ) (cs : List X) (rs : List RowText) → text_of (record { comments = map f cs; rows = rs } ∷ []) ≡ flat_map (λ c. f c ++ 10 ∷ []) cs ++ (flat_map (λ r. row_line r ++ 10 ∷ []) rs ++ 10 ∷ [])
block_parts f cs rs =
    ap ended (append-nil (map f cs ++ (map row_line rs ++ [] ∷ [])))
    ∙ ended-append (map f cs) (map row_line rs ++ [] ∷ [])
    ∙ ap (λ t. ended (map f cs) ++ t) (ended-append (map row_line rs) ([] ∷ []))
    ∙ ap (λ t. t ++ (ended (map row_line rs) ++ 10 ∷ [])) (flat_map-map (λ l. l ++ 10 ∷ []) f cs)
    ∙ ap (λ t. flat_map (λ c. f c ++ 10 ∷ []) cs ++ (t ++ 10 ∷ [])) (flat_map-map (λ l. l ++ 10 ∷ []) row_line rs)

-- the parts of a sentence
pub block_appended : {X : Type 0} (f : X → List ℕ) (cs : List X) (rs : List RowText) (o a b c : Option (List ℕ)) → Appends o a (flat_map (λ c. f c ++ 10 ∷ []) cs) → Appends a b (flat_map (λ r. row_line r ++ 10 ∷ []) rs) → Appends b c (10 ∷ []) → Appends o c (text_of (record { comments = map f cs; rows = rs } ∷ []))
block_appended f cs rs o a b c comments rows blank =
    let P : List ℕ → Type 0 = Appends o c in
    subst P (sym (block_parts f cs rs)) (Appends-trans o a c _ _ comments (Appends-trans a b c _ _ rows blank))
