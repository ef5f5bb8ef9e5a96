-- What a sink holds after it refused one of several pieces.
use Rattle.std.proofs.Common.{◌≡◌, ℕ, zero, suc, ◌+◌, ◌<◌, List, [], ◌∷◌, ◌++◌, length, take, drop, get_or, map, Option, refl, sym, ◌∙◌, ap, subst, append_assoc, append-nil, arith}
use Rattle.std.specs.Prelude.{Result, Ok, Err, OnErr}
use Rattle.std.specs.Io.KnownBytes.{Appends}
use Rattle.std.specs.List.{flat_map}
use Rattle.std.proofs.KnownBytes.{Appends-trans}
use Rattle.std.proofs.lemmas.List.{get_or_default, take-append-drop, take_more}
use Rattle.std.proofs.lemmas.List.Concat.{flat_map-append}
use Rattle.tb_conllu.specs.Sunk.{AppendsPart}
use Rattle.tb_conllu.specs.Text.{RowText, BlockText, head_text, id_text, row_line, text_of}
use Rattle.tb_conllu.proofs.Appended.{block_parts, row_parts, tabbed}
use Rattle.tb_conllu.proofs.Faults.{text_of-append}

-- what a refusal leaves, whatever it is
pub refused : {T E P : Type 0} (r : Result T E) → P → OnErr r P
refused (Ok x) h = tt
refused (Err e) h = h

take_none : (xs : List ℕ) → take 0 xs ≡ []
take_none [] = refl
take_none (x ∷ xs) = refl

take_nil : (k : ℕ) → take {A = ℕ} k [] ≡ []
take_nil zero = refl
take_nil (suc k) = refl

-- the first bytes of a piece are the first of all
take_front : (k : ℕ) (xs ys : List ℕ) → (n : ℕ) × (take n (xs ++ ys) ≡ take k xs)
take_front k [] ys = (0, take_none ys ∙ sym (take_nil k))
take_front zero (x ∷ xs) ys = (0, refl)
take_front (suc k) (x ∷ xs) ys = let r = take_front k xs ys in (suc r.0, ap (λ (l : List ℕ). x ∷ l) r.1)

-- the first bytes after a piece
take_after : (k : ℕ) (xs ys : List ℕ) → (n : ℕ) × (take n (xs ++ ys) ≡ xs ++ take k ys)
take_after k [] ys = (k, refl)
take_after k (x ∷ xs) ys = let r = take_after k xs ys in (suc r.0, ap (λ (l : List ℕ). x ∷ l) r.1)

-- this piece was refused
pub part_here : (a c : Option (List ℕ)) (xs ys : List ℕ) → AppendsPart a c xs → AppendsPart a c (xs ++ ys)
part_here a c xs ys h = let r = take_front h.0 xs ys in (r.0, subst (Appends a c) (sym r.1) h.1)

-- one after this piece was refused
pub part_later : (a b c : Option (List ℕ)) (xs ys : List ℕ) → Appends a b xs → AppendsPart b c ys → AppendsPart a c (xs ++ ys)
part_later a b c xs ys first h = let r = take_after h.0 xs ys in (r.0, subst (Appends a c) (sym r.1) (Appends-trans a b c xs (take h.0 ys) first h.1))

-- ---- one of several items

-- all items: those before one, it, and those after it
items_at : {X : Type 0} (f : X → List ℕ) (xs : List X) (i : ℕ) (x : X) → i < length xs → x ≡ get_or xs i x → flat_map f xs ≡ flat_map f (take i xs) ++ (f x ++ flat_map f (drop (i + 1) xs))
items_at f xs i x l same =
    let more : flat_map f (take (i + 1) xs) ≡ flat_map f (take i xs) ++ f x = ap (flat_map f) (take_more xs i x l ∙ ap (λ y. take i xs ++ y ∷ []) (sym same)) ∙ flat_map-append f (take i xs) (x ∷ []) ∙ ap (λ t. flat_map f (take i xs) ++ t) (append-nil (f x)) in
    let rest = flat_map f (drop (i + 1) xs) in
    ap (flat_map f) (sym (take-append-drop (i + 1) xs)) ∙ flat_map-append f (take (i + 1) xs) (drop (i + 1) xs) ∙ ap (λ t. t ++ rest) more ∙ append_assoc (flat_map f (take i xs)) (f x) rest

pub item_refused : {X : Type 0} (f : X → List ℕ) (xs : List X) (i : ℕ) (x : X) (a b c : Option (List ℕ)) → i < length xs → x ≡ get_or xs i x → Appends a b (flat_map f (take i xs)) → AppendsPart b c (f x) → AppendsPart a c (flat_map f xs)
item_refused f xs i x a b c l same before here =
    let P : List ℕ → Type 0 = AppendsPart a c in
    subst P (sym (items_at f xs i x l same)) (part_later a b c (flat_map f (take i xs)) (f x ++ flat_map f (drop (i + 1) xs)) before (part_here b c (f x) (flat_map f (drop (i + 1) xs)) here))

sentences_at : (bs : List BlockText) (i : ℕ) (x : BlockText) → i < length bs → x ≡ get_or bs i x → text_of bs ≡ text_of (take i bs) ++ (text_of (x ∷ []) ++ text_of (drop (i + 1) bs))
sentences_at bs i x l same =
    let more : text_of (take (i + 1) bs) ≡ text_of (take i bs) ++ text_of (x ∷ []) = ap text_of (take_more bs i x l ∙ ap (λ y. take i bs ++ y ∷ []) (sym same)) ∙ text_of-append (take i bs) (x ∷ []) in
    let rest = text_of (drop (i + 1) bs) in
    ap text_of (sym (take-append-drop (i + 1) bs)) ∙ text_of-append (take (i + 1) bs) (drop (i + 1) bs) ∙ ap (λ t. t ++ rest) more ∙ append_assoc (text_of (take i bs)) (text_of (x ∷ [])) rest

pub sentence_refused : (bs : List BlockText) (i : ℕ) (x : BlockText) (a b c : Option (List ℕ)) → i < length bs → x ≡ get_or bs i x → Appends a b (text_of (take i bs)) → AppendsPart b c (text_of (x ∷ [])) → AppendsPart a c (text_of bs)
sentence_refused bs i x a b c l same before here =
    let P : List ℕ → Type 0 = AppendsPart a c in
    subst P (sym (sentences_at bs i x l same)) (part_later a b c (text_of (take i bs)) (text_of (x ∷ []) ++ text_of (drop (i + 1) bs)) before (part_here b c (text_of (x ∷ [])) (text_of (drop (i + 1) bs)) here))

-- ---- the parts of a row

abbrev front : RowText → List ℕ
front r = tabbed (r.form ∷ r.lemma ∷ r.upos ∷ r.xpos ∷ r.feats ∷ [])

abbrev back : RowText → List ℕ
back r = tabbed (r.deprel ∷ r.deps ∷ r.misc ∷ [])

of_row : (r : RowText) (o e : Option (List ℕ)) → AppendsPart o e (id_text r.id ++ (front r ++ ((9 ∷ head_text r.head) ++ (back r ++ 10 ∷ [])))) → AppendsPart o e (row_line r ++ 10 ∷ [])
of_row r o e h =
    let P : List ℕ → Type 0 = AppendsPart o e in
    subst P (sym (row_parts r)) h

pub row_at_id : (r : RowText) (o a : Option (List ℕ)) → AppendsPart o a (id_text r.id) → AppendsPart o a (row_line r ++ 10 ∷ [])
row_at_id r o a h = of_row r o a (part_here o a (id_text r.id) (front r ++ ((9 ∷ head_text r.head) ++ (back r ++ 10 ∷ []))) h)

pub row_at_front : (r : RowText) (o a b : Option (List ℕ)) → Appends o a (id_text r.id) → AppendsPart a b (front r) → AppendsPart o b (row_line r ++ 10 ∷ [])
row_at_front r o a b id h = of_row r o b (part_later o a b (id_text r.id) _ id (part_here a b (front r) ((9 ∷ head_text r.head) ++ (back r ++ 10 ∷ [])) h))

pub row_at_head : (r : RowText) (o a b c : Option (List ℕ)) → Appends o a (id_text r.id) → Appends a b (front r) → AppendsPart b c (9 ∷ head_text r.head) → AppendsPart o c (row_line r ++ 10 ∷ [])
row_at_head r o a b c id fields h = of_row r o c (part_later o a c (id_text r.id) _ id (part_later a b c (front r) _ fields (part_here b c (9 ∷ head_text r.head) (back r ++ 10 ∷ []) h)))

pub row_at_back : (r : RowText) (o a b c d : Option (List ℕ)) → Appends o a (id_text r.id) → Appends a b (front r) → Appends b c (9 ∷ head_text r.head) → AppendsPart c d (back r) → AppendsPart o d (row_line r ++ 10 ∷ [])
row_at_back r o a b c d id fields head h = of_row r o d (part_later o a d (id_text r.id) _ id (part_later a b d (front r) _ fields (part_later b c d (9 ∷ head_text r.head) _ head (part_here c d (back r) (10 ∷ []) h))))

pub row_at_end : (r : RowText) (o a b c d e : Option (List ℕ)) → Appends o a (id_text r.id) → Appends a b (front r) → Appends b c (9 ∷ head_text r.head) → Appends c d (back r) → AppendsPart d e (10 ∷ []) → AppendsPart o e (row_line r ++ 10 ∷ [])
row_at_end r o a b c d e id fields head more h = of_row r o e (part_later o a e (id_text r.id) _ id (part_later a b e (front r) _ fields (part_later b c e (9 ∷ head_text r.head) _ head (part_later c d e (back r) (10 ∷ []) more h))))

-- ---- the parts of a sentence

of_block : {X : Type 0} (f : X → List ℕ) (cs : List X) (rs : List RowText) (o e : Option (List ℕ)) → AppendsPart o e (flat_map (λ c. f c ++ 10 ∷ []) cs ++ (flat_map (λ r. row_line r ++ 10 ∷ []) rs ++ 10 ∷ [])) → AppendsPart o e (text_of (record { comments = map f cs; rows = rs } ∷ []))
of_block f cs rs o e h =
    let P : List ℕ → Type 0 = AppendsPart o e in
    subst P (sym (block_parts f cs rs)) h

pub block_at_comments : {X : Type 0} (f : X → List ℕ) (cs : List X) (rs : List RowText) (o a : Option (List ℕ)) → AppendsPart o a (flat_map (λ c. f c ++ 10 ∷ []) cs) → AppendsPart o a (text_of (record { comments = map f cs; rows = rs } ∷ []))
block_at_comments f cs rs o a h = of_block f cs rs o a (part_here o a (flat_map (λ c. f c ++ 10 ∷ []) cs) (flat_map (λ r. row_line r ++ 10 ∷ []) rs ++ 10 ∷ []) h)

pub block_at_rows : {X : Type 0} (f : X → List ℕ) (cs : List X) (rs : List RowText) (o a b : Option (List ℕ)) → Appends o a (flat_map (λ c. f c ++ 10 ∷ []) cs) → AppendsPart a b (flat_map (λ r. row_line r ++ 10 ∷ []) rs) → AppendsPart o b (text_of (record { comments = map f cs; rows = rs } ∷ []))
block_at_rows f cs rs o a b comments h = of_block f cs rs o b (part_later o a b (flat_map (λ c. f c ++ 10 ∷ []) cs) _ comments (part_here a b (flat_map (λ r. row_line r ++ 10 ∷ []) rs) (10 ∷ []) h))

pub block_at_end : {X : Type 0} (f : X → List ℕ) (cs : List X) (rs : List RowText) (o a b c : Option (List ℕ)) → Appends o a (flat_map (λ c. f c ++ 10 ∷ []) cs) → Appends a b (flat_map (λ r. row_line r ++ 10 ∷ []) rs) → AppendsPart b c (10 ∷ []) → AppendsPart o c (text_of (record { comments = map f cs; rows = rs } ∷ []))
block_at_end f cs rs o a b c comments rows h = of_block f cs rs o c (part_later o a c (flat_map (λ c. f c ++ 10 ∷ []) cs) _ comments (part_later a b c (flat_map (λ r. row_line r ++ 10 ∷ []) rs) (10 ∷ []) rows h))

-- ---- texts after tabs

some_item : {X : Type 0} (xs : List X) (i : ℕ) → i < length xs → (x : X) × (x ≡ get_or xs i x)
some_item [] i l = absurd (omega (arith, l))
some_item (y ∷ ys) i l = (get_or (y ∷ ys) i y, get_or_default (y ∷ ys) i y (get_or (y ∷ ys) i y) l)

-- a tab was refused
pub tab_refused : {X : Type 0} (f : X → List ℕ) (xs : List X) (i : ℕ) (a b c : Option (List ℕ)) → i < length xs → Appends a b (flat_map (λ x. 9 ∷ f x) (take i xs)) → AppendsPart b c (9 ∷ []) → AppendsPart a c (flat_map (λ x. 9 ∷ f x) xs)
tab_refused f xs i a b c l before here =
    let item = some_item xs i l in
    item_refused (λ x. 9 ∷ f x) xs i item.0 a b c l item.1 before (part_here b c (9 ∷ []) (f item.0) here)

-- a text was refused, after its tab
pub text_refused : {X : Type 0} (f : X → List ℕ) (xs : List X) (i : ℕ) (d : X) (text : List ℕ) (a b m c : Option (List ℕ)) → i < length xs → text ≡ f (get_or xs i d) → Appends a b (flat_map (λ x. 9 ∷ f x) (take i xs)) → Appends b m (9 ∷ []) → AppendsPart m c text → AppendsPart a c (flat_map (λ x. 9 ∷ f x) xs)
text_refused f xs i d text a b m c l same before tab here =
    let P : List ℕ → Type 0 = λ t. AppendsPart b c (9 ∷ t) in
    item_refused (λ x. 9 ∷ f x) xs i (get_or xs i d) a b c l (get_or_default xs i d (get_or xs i d) l) before (subst P same (part_later b m c (9 ∷ []) text tab here))
