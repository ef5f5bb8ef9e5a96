-- Steps of the loops over revisions.
use Rattle.std.proofs.Common.{◌≡◌, ℕ, zero, suc, ◌+◌, ◌<◌, ◌≤◌, List, [], ◌∷◌, ◌++◌, length, get_or, drop, map, true, refl, sym, ◌∙◌, ap, arith, string_bytes, append_assoc}
use Rattle.tb_conllu.specs.Text.{BlockText}
use Rattle.tb_conllu.specs.Words.{words_of}
use Rattle.tb_core.proofs.Lists.{tail_is}
use Rattle.tb_replay.specs.Summaries as replay
use Rattle.tb_tables.specs.Values.{revision_of}
use Rattle.tb_tables.specs.declared.rows.RevisionRow.{RevisionRow}
use Rattle.tb_verify.specs.Course.{own_text, are_new, text_in, rows_reported}

pub new_end : (rs : List RevisionRow) (i : ℕ) → length rs ≤ i + 1 → are_new (map text_in (map revision_of (drop i rs))) ≡ true
new_end [] zero l = refl
new_end [] (suc i) l = refl
new_end (x ∷ []) zero l = refl
new_end (x ∷ y ∷ xs) zero l = absurd (omega (arith, l))
new_end (x ∷ xs) (suc i) l = new_end xs i (omega (arith, l))

abbrev pub reported_row : RevisionRow → BlockText → replay.RevisionRow
reported_row r b = record { who = string_bytes r.who; words = words_of b }

pub reported_drop : (rs : List RevisionRow) (bs : List BlockText) (i : ℕ) (r : RevisionRow) (b : BlockText) → i < length rs → i < length bs → r ≡ get_or rs i r → b ≡ get_or bs i b
    → rows_reported (map revision_of (drop i rs)) (drop i bs) ≡ reported_row r b ∷ rows_reported (map revision_of (drop (i + 1) rs)) (drop (i + 1) bs)
reported_drop [] bs i r b l m h g = absurd (omega (arith, l))
reported_drop (x ∷ xs) [] i r b l m h g = absurd (omega (arith, m))
reported_drop (x ∷ xs) (y ∷ ys) zero r b l m h g =
    ap (λ (z : RevisionRow). reported_row z y ∷ rows_reported (map revision_of xs) ys) (sym h) ∙ ap (λ (z : BlockText). reported_row r z ∷ rows_reported (map revision_of xs) ys) (sym g)
reported_drop (x ∷ xs) (y ∷ ys) (suc i) r b l m h g =
    let s : suc i + 1 ≡ suc (i + 1) = omega arith in
    reported_drop xs ys i r b (omega (arith, l)) (omega (arith, m)) h g ∙ ap (λ j. reported_row r b ∷ rows_reported (map revision_of (drop j (x ∷ xs))) (drop j (y ∷ ys))) (sym s)

pub reported_more : (done : List replay.RevisionRow) (rs : List RevisionRow) (bs : List BlockText) (i : ℕ) (r : RevisionRow) (b : BlockText) → i < length rs → i < length bs → r ≡ get_or rs i r → b ≡ get_or bs i b
    → done ++ rows_reported (map revision_of (drop i rs)) (drop i bs) ≡ rows_reported (map revision_of rs) bs
    → (done ++ reported_row r b ∷ []) ++ rows_reported (map revision_of (drop (i + 1) rs)) (drop (i + 1) bs) ≡ rows_reported (map revision_of rs) bs
reported_more done rs bs i r b l m h g e =
    append_assoc done (reported_row r b ∷ []) (rows_reported (map revision_of (drop (i + 1) rs)) (drop (i + 1) bs)) ∙ ap (λ t. done ++ t) (sym (reported_drop rs bs i r b l m h g)) ∙ e

pub bodies_reported : (rs : List RevisionRow) → map text_in (map revision_of rs) ≡ map (λ (r : RevisionRow). string_bytes r.body) rs
bodies_reported [] = refl
bodies_reported (r ∷ rs) = ap (λ l. string_bytes r.body ∷ l) (bodies_reported rs)

pub same_count : (bs : List BlockText) (rs : List RevisionRow) → map own_text bs ≡ map (λ (r : RevisionRow). string_bytes r.body) rs → length bs ≡ length rs
same_count [] [] e = refl
same_count [] (r ∷ rs) e = let s = ap length e in absurd (omega (arith, s))
same_count (b ∷ bs) [] e = let s = ap length e in absurd (omega (arith, s))
same_count (b ∷ bs) (r ∷ rs) e = ap suc (same_count bs rs (tail_is (own_text b) (string_bytes r.body) (map own_text bs) (map (λ (z : RevisionRow). string_bytes z.body) rs) e))
