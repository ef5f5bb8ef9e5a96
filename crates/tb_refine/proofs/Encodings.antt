-- Names, `sent_id`s and texts of sentences are UTF-8.
use Rattle.std.proofs.Common.{◌≡◌, ◌⊎◌, inl, inr, ℕ, ◌+◌, ◌-◌, ◌≤◌, ◌<◌, List, [], ◌∷◌, ◌++◌, length, drop, get_or, reverse, Bool, true, false, eqb, Option, Some, None, refl, sym, ap, subst, arith, length-append}
use Rattle.std.specs.Prelude.{◌||◌, ◌&&◌, nat_le, unwrap_or}
use Rattle.std.specs.List.{AllByRecursion, list_all, list_any, cons_option, position_or_len, after_first, before_first}
use Rattle.std.specs.Str.{IsUtf8, bytes_eq}
use Rattle.std.proofs.Math.Seq.{get_or-append_seam, take-append_seam, drop-append_seam}
use Rattle.std.proofs.lemmas.Bool.{cond-false, cond-true, leb-true, eqb-true}
use Rattle.std.proofs.lemmas.Bool.Decides.{eqb_tells, leb_tells}
use Rattle.std.proofs.lemmas.List.{reverse-append, reverse-reverse, append-nil, take_all, drop_all}
use Rattle.std.proofs.lemmas.List.Elements.{All-from_recursion}
use Rattle.std.proofs.lemmas.List.Sums.{split_at_first, passes_at_first}
use Rattle.std.proofs.lemmas.Option.{cond_some}
use Rattle.std.proofs.lemmas.Str.{IsUtf8-nil, IsUtf8-take, IsUtf8-drop, IsUtf8-past_char, IsUtf8-from_ascii, IsCharBoundary-before_ascii, encode_ascii}
use Rattle.std.proofs.lemmas.Str.Ascii.{IsAscii-from_all}
use Rattle.tb_conllu.specs.Text.{BlockText, block_lines, text_of}
use Rattle.tb_conllu.specs.Shape.{IsShaped, IsCommentText}
use Rattle.tb_conllu.specs.Left.{Left, IsNext}
use Rattle.tb_conllu.proofs.Encoded.{passage_utf8}
use Rattle.tb_fields.specs.Feats.{is_equals}
use Rattle.tb_rules.specs.Comments.{drop_spaces, trimmed, value_under, values_of, only, sent_id_key, sent_ids}
use Rattle.tb_core.specs.Names.{is_name_byte, is_name}
use Rattle.tb_core.specs.Machine.{sent_id_of}

-- ---- names are ASCII

or_cases : (a b : Bool) → (a || b) ≡ true → (a ≡ true) ⊎ (b ≡ true)
or_cases true b h = inl refl
or_cases false b h = inr h

and_first : (a b : Bool) → (a && b) ≡ true → a ≡ true
and_first true b h = refl
and_first false b h = let d : false ≡ true = h in absurd (cc)

and_second : (a b : Bool) → (a && b) ≡ true → b ≡ true
and_second true b h = h
and_second false b h = let d : false ≡ true = h in absurd (cc)

between : (low high c : ℕ) → (nat_le low c && nat_le c high) ≡ true → c ≤ high
between low high c h = leb-true c high (and_second (nat_le low c) (nat_le c high) h)

byte_small : (c : ℕ) → is_name_byte c ≡ true → c < 128
byte_small c h =
    let letters = nat_le 65 c && nat_le c 90 in
    let small = nat_le 97 c && nat_le c 122 in
    let digits = nat_le 48 c && nat_le c 57 in
    elim (or_cases (letters || small || digits || eqb c 46 || eqb c 95) (eqb c 45) h) [
      | inr p ↦ (let e = eqb-true c 45 p in omega (arith, e))
      | inl h1 ↦ elim (or_cases (letters || small || digits || eqb c 46) (eqb c 95) h1) [
        | inr p ↦ (let e = eqb-true c 95 p in omega (arith, e))
        | inl h2 ↦ elim (or_cases (letters || small || digits) (eqb c 46) h2) [
          | inr p ↦ (let e = eqb-true c 46 p in omega (arith, e))
          | inl h3 ↦ elim (or_cases (letters || small) digits h3) [
            | inr p ↦ (let e = between 48 57 c p in omega (arith, e))
            | inl h4 ↦ elim (or_cases letters small h4) [ inl p ↦ (let e = between 65 90 c p in omega (arith, e)) | inr p ↦ (let e = between 97 122 c p in omega (arith, e)) ]
          ]
        ]
      ]
    ]

bytes_small : (t : List ℕ) → list_all is_name_byte t ≡ true → AllByRecursion (λ b. b < 128) t
bytes_small [] h = tt
bytes_small (c ∷ cs) h = (byte_small c (and_first (is_name_byte c) (list_all is_name_byte cs) h), bytes_small cs (and_second (is_name_byte c) (list_all is_name_byte cs) h))

pub name_utf8 : (t : List ℕ) → is_name t ≡ true → IsUtf8 t
name_utf8 t h =
    let all = bytes_small t (last_part (nat_le 1 (length t)) (nat_le (length t) 32) (list_all is_name_byte t) h) in
    IsUtf8-from_ascii t (IsAscii-from_all t (All-from_recursion (λ b. b < 128) t all))
  where
    last_part : (a b c : Bool) → (a && b && c) ≡ true → c ≡ true
    last_part true true c k = k
    last_part true false c k = let d : false ≡ true = k in absurd (cc)
    last_part false b c k = let d : false ≡ true = k in absurd (cc)

-- ---- what stands before and after an ASCII byte

pub front_utf8 : (raw after : List ℕ) (c : ℕ) → c < 128 → IsUtf8 (raw ++ c ∷ after) → IsUtf8 raw
front_utf8 raw after c small h =
    let whole = raw ++ c ∷ after in
    let at : get_or whole (length raw) 0 ≡ c = get_or-append_seam raw c after 0 in
    let l : length raw < length whole = let n = length-append raw (c ∷ after) in omega (arith, n) in
    subst IsUtf8 (take-append_seam raw (c ∷ after)) (IsUtf8-take whole (length raw) h (IsCharBoundary-before_ascii whole (length raw) l (omega (arith, at, small))))

first_off : (c : ℕ) (rest : List ℕ) → c < 128 → IsUtf8 (c ∷ rest) → IsUtf8 rest
first_off c rest small h = IsUtf8-past_char (c ∷ rest) rest c h (ap (λ (x : List ℕ). x ++ rest) (sym (encode_ascii c small)))

pub back_utf8 : (raw after : List ℕ) (c : ℕ) → c < 128 → IsUtf8 (raw ++ c ∷ after) → IsUtf8 after
back_utf8 raw after c small h =
    let whole = raw ++ c ∷ after in
    let at : get_or whole (length raw) 0 ≡ c = get_or-append_seam raw c after 0 in
    let l : length raw < length whole = let n = length-append raw (c ∷ after) in omega (arith, n) in
    first_off c after small (subst IsUtf8 (drop-append_seam raw (c ∷ after)) (IsUtf8-drop whole (length raw) h (IsCharBoundary-before_ascii whole (length raw) l (omega (arith, at, small)))))

-- ---- without spaces at the ends

spaces_off : (bs : List ℕ) → IsUtf8 bs → IsUtf8 (drop_spaces bs)
spaces_off [] h = h
spaces_off (b ∷ bs) h = elim (eqb_tells b 32) [
  | inl y ↦ subst IsUtf8 (sym (cond-true (eqb b 32) (drop_spaces bs) (b ∷ bs) y.0)) (spaces_off bs (first_off b bs (omega (arith, y.1)) h))
  | inr n ↦ subst IsUtf8 (sym (cond-false (eqb b 32) (drop_spaces bs) (b ∷ bs) n.0)) h
]

reverse_first : (b : ℕ) (bs : List ℕ) → reverse (b ∷ bs) ≡ reverse bs ++ b ∷ []
reverse_first b bs = reverse-append (b ∷ []) bs

ends_off : (rs : List ℕ) → IsUtf8 (reverse rs) → IsUtf8 (reverse (drop_spaces rs))
ends_off [] h = h
ends_off (b ∷ rs) h = elim (eqb_tells b 32) [
  | inl y ↦
      subst (λ l. IsUtf8 (reverse l)) (sym (cond-true (eqb b 32) (drop_spaces rs) (b ∷ rs) y.0))
      (ends_off rs (front_utf8 (reverse rs) [] b (omega (arith, y.1)) (subst IsUtf8 (reverse_first b rs) h)))
  | inr n ↦ subst (λ l. IsUtf8 (reverse l)) (sym (cond-false (eqb b 32) (drop_spaces rs) (b ∷ rs) n.0)) h
]

trimmed_utf8 : (bs : List ℕ) → IsUtf8 bs → IsUtf8 (trimmed bs)
trimmed_utf8 bs h = ends_off (reverse (drop_spaces bs)) (subst IsUtf8 (sym (reverse-reverse (drop_spaces bs))) (spaces_off bs h))

-- ---- the value of a comment

after_utf8 : (bs : List ℕ) → IsUtf8 bs → IsUtf8 (after_first is_equals bs)
after_utf8 bs h = elim (leb_tells (length bs) (position_or_len is_equals bs)) [
  | inl past ↦ subst IsUtf8 (sym (drop_past bs (position_or_len is_equals bs + 1) (omega (arith, past.1)))) IsUtf8-nil
  | inr inside ↦
      (let at = get_or bs (position_or_len is_equals bs) 0 in
      let e = eqb-true at 61 (passes_at_first is_equals bs 0 inside.1) in
      back_utf8 (before_first is_equals bs) (after_first is_equals bs) at (omega (arith, e)) (subst IsUtf8 (split_at_first is_equals bs 0 inside.1) h))
]
  where
    drop_past : (l : List ℕ) (n : ℕ) → length l < n → drop n l ≡ []
    drop_past l n k = drop_all n l (omega (arith, k))

value_utf8 : (key bs v : List ℕ) → IsUtf8 bs → value_under key bs ≡ Some v → IsUtf8 v
value_utf8 key [] v h e = let d : None ≡ Some v = e in absurd (cc)
value_utf8 key (b ∷ bs) v h e =
    let hash_and_equals = eqb b 35 && list_any is_equals bs in
    let same = bytes_eq (trimmed (before_first is_equals bs)) key in
    let found = cond_some (hash_and_equals && same) (trimmed (after_first is_equals bs)) v e in
    let hash = eqb-true b 35 (and_first (eqb b 35) (list_any is_equals bs) (and_first hash_and_equals same found.0)) in
    subst IsUtf8 found.1 (trimmed_utf8 (after_first is_equals bs) (after_utf8 bs (first_off b bs (omega (arith, hash)) h)))

with_value : (o : Option (List ℕ)) (vs : List (List ℕ)) → ((v : List ℕ) → o ≡ Some v → IsUtf8 v) → AllByRecursion IsUtf8 vs → AllByRecursion IsUtf8 (cons_option o vs)
with_value None vs h k = k
with_value (Some v) vs h k = (h v refl, k)

values_utf8 : (key : List ℕ) (cs : List (List ℕ)) → AllByRecursion IsCommentText cs → AllByRecursion IsUtf8 (values_of key cs)
values_utf8 key [] h = tt
values_utf8 key (c ∷ cs) h = with_value (value_under key c) (values_of key cs) (λ v e. value_utf8 key c v h.0.text.utf8 e) (values_utf8 key cs h.1)

only_utf8 : (vs : List (List ℕ)) → AllByRecursion IsUtf8 vs → IsUtf8 (unwrap_or (only vs) [])
only_utf8 [] h = IsUtf8-nil
only_utf8 (v ∷ []) h = h.0
only_utf8 (v ∷ w ∷ vs) h = IsUtf8-nil

pub sent_id_utf8 : (b : BlockText) → IsShaped b → IsUtf8 (sent_id_of b)
sent_id_utf8 b h = only_utf8 (sent_ids b) (values_utf8 sent_id_key b.comments h.comments)

-- ---- the text of a sentence

pub text_utf8 : (b : BlockText) → IsShaped b → IsUtf8 (text_of (b ∷ []))
text_utf8 b h =
    let t = text_of (b ∷ []) in
    let old : Left = record { rest = t; line = 0 } in
    let new : Left = record { rest = []; line = 0 + length (block_lines b) } in
    let next : IsNext old new b = record { shaped = h; text = sym (append-nil t); place = refl } in
    passage_utf8 old new b t [] t next refl refl (sym (take_all (length t - 0) t (omega arith)))
