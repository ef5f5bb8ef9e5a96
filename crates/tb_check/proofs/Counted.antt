-- How far a file is counted.
use Rattle.std.proofs.Common.{◌≡◌, ℕ, ◌+◌, ◌<◌, ◌≤◌, List, [], ◌∷◌, ◌++◌, length, map, refl, sym, ◌∙◌, ap, subst, arith, append_assoc, append-nil, length-append}
use Rattle.std.specs.List.{AllByRecursion}
use Rattle.std.proofs.lemmas.List.Concat.{flat_map-append}
use Rattle.std.proofs.lemmas.List.{length-map}
use Rattle.std.proofs.lemmas.List.Sums.{count_by-le-length, sum_by-append}
use Rattle.tb_conllu.specs.Text.{BlockText, text_of, lines_of, block_lines, row_line, ended}
use Rattle.tb_conllu.specs.Shape.{AllShaped, IsShaped}
use Rattle.tb_conllu.specs.Reported.{IsReported}
use Rattle.tb_conllu.specs.Fault.{IsFaultAfter, IsReadFault}
use Rattle.tb_conllu.specs.declared.fault.ReadFault.{ReadFault}
use Rattle.tb_conllu.specs.declared.fault.ReadFault.TheVariants.{At, Memory}
use Rattle.tb_conllu.specs.Left.{Left}
use Rattle.tb_conllu.specs.Words.{words_of, is_word}
use Rattle.tb_check.specs.Check.{words_in}

-- these sentences were counted, and the rest is unread
pub record IsCounted (file : List ℕ) (unread : Left) (sentences words : ℕ) (bs : List BlockText) : Type 0 where
  pub shaped : AllShaped bs
  pub whole : file ≡ text_of bs ++ unread.rest
  pub place : unread.line ≡ length (lines_of bs)
  pub sentences_are : sentences ≡ length bs
  pub words_are : words ≡ words_in bs

ended_size : (ls : List (List ℕ)) → length ls ≤ length (ended ls)
ended_size [] = omega arith
ended_size (l ∷ ls) = simp (length-append) (omega (arith, ended_size ls))

ended_append : (xs bs : List (List ℕ)) → ended (xs ++ bs) ≡ ended xs ++ ended bs
ended_append xs bs = flat_map-append (λ l. l ++ 10 ∷ []) xs bs

lines_append : (xs bs : List BlockText) → lines_of (xs ++ bs) ≡ lines_of xs ++ lines_of bs
lines_append xs bs = flat_map-append block_lines xs bs

text_append : (xs bs : List BlockText) → text_of (xs ++ bs) ≡ text_of xs ++ text_of bs
text_append xs bs = ap ended (lines_append xs bs) ∙ ended_append (lines_of xs) (lines_of bs)

block_size : (b : BlockText) → words_of b + 1 ≤ length (block_lines b)
block_size b =
    let all = length-append b.comments (map row_line b.rows ++ [] ∷ []) in
    let rows = length-append (map row_line b.rows) ([] ∷ []) in
    omega (arith, all, rows, length-map b.rows row_line, count_by-le-length is_word b.rows)

one_line : (b : BlockText) → lines_of (b ∷ []) ≡ block_lines b
one_line b = append-nil (block_lines b)

one_size : (b : BlockText) → words_of b + 1 ≤ length (text_of (b ∷ []))
one_size b =
    let size = ended_size (lines_of (b ∷ [])) in
    let lines = ap length (one_line b) in
    omega (arith, size, lines, block_size b)

one_words : (b : BlockText) → words_in (b ∷ []) ≡ words_of b
one_words b = let sum : words_in (b ∷ []) ≡ 0 + words_of b = refl in omega (arith, sum)

-- a text is longer than its sentences and words together are many
sizes : (bs : List BlockText) → length bs + words_in bs ≤ length (text_of bs)
sizes [] = omega arith
sizes (b ∷ bs) =
    let both = ap length (text_append (b ∷ []) bs) ∙ length-append (text_of (b ∷ [])) (text_of bs) in
    let sum = sum_by-append words_of (b ∷ []) bs in
    omega (arith, both, sum, one_words b, one_size b, sizes bs)

all_append : {X : Type 0} (P : X → Type 0) (xs ys : List X) → AllByRecursion P xs → AllByRecursion P ys → AllByRecursion P (xs ++ ys)
all_append P [] ys h k = k
all_append P (x ∷ xs) ys h k = (h.0, all_append P xs ys h.1 k)

words_append : (xs : List BlockText) (b : BlockText) → words_in (xs ++ b ∷ []) ≡ words_in xs + words_of b
words_append xs b = sum_by-append words_of xs (b ∷ []) ∙ ap (λ n. words_in xs + n) (one_words b)

pub counted_none : (file : List ℕ) (unread : Left) → unread ≡ record { rest = file; line = 0 } → IsCounted file unread 0 0 []
counted_none file unread e =
    let P : Left → Type 0 = λ u. IsCounted file u 0 0 [] in
    subst P (sym e) (record { shaped = tt; whole = refl; place = refl; sentences_are = refl; words_are = refl })

-- one more sentence
pub counted_next : (file : List ℕ) (old new : Left) (s w : ℕ) (bs : List BlockText) (b : BlockText) (n : ℕ) → n ≡ words_of b → IsCounted file old s w bs
    → IsShaped b → old.rest ≡ text_of (b ∷ []) ++ new.rest → new.line ≡ old.line + length (block_lines b) → IsCounted file new (s + 1) (w + n) (bs ++ b ∷ [])
counted_next file old new s w bs b n is h shaped rest line = record {
  shaped = all_append IsShaped bs (b ∷ []) h.shaped (shaped, tt);
  whole = h.whole ∙ ap (λ l. text_of bs ++ l) rest ∙ sym (append_assoc (text_of bs) (text_of (b ∷ [])) new.rest) ∙ ap (λ l. l ++ new.rest) (sym (text_append bs (b ∷ [])));
  place = let all = ap length (lines_append bs (b ∷ [])) ∙ length-append (lines_of bs) (lines_of (b ∷ [])) in
      omega (arith, all, ap length (one_line b), line, h.place);
  sentences_are = omega (arith, h.sentences_are, length-append bs (b ∷ []));
  words_are = omega (arith, is, h.words_are, words_append bs b);
}

-- the counts stay below the file's length
pub counted_room : (file : List ℕ) (old new : Left) (s w : ℕ) (bs : List BlockText) (b : BlockText) → IsCounted file old s w bs
    → old.rest ≡ text_of (b ∷ []) ++ new.rest → (s + 1 ≤ length file) × (w + words_of b ≤ length file)
counted_room file old new s w bs b h rest =
    let all = ap length h.whole ∙ length-append (text_of bs) old.rest in
    let more = ap length rest ∙ length-append (text_of (b ∷ [])) new.rest in
    (omega (arith, all, more, sizes bs, one_size b, h.sentences_are), omega (arith, all, more, sizes bs, one_size b, h.words_are))

pub counted_smaller : (old new : Left) (b : BlockText) → old.rest ≡ text_of (b ∷ []) ++ new.rest → length new.rest < length old.rest
counted_smaller old new b rest =
    let more = ap length rest ∙ length-append (text_of (b ∷ [])) new.rest in
    omega (arith, more, one_size b)

-- a fault of the rest is the file's
abbrev pub FaultGoesOn : Type 0
FaultGoesOn = (bs : List BlockText) (f : List ℕ) (line code : ℕ) → AllShaped bs → IsReported f line code → IsReported (text_of bs ++ f) (length (lines_of bs) + line) code

pub counted_fault : FaultGoesOn → (file : List ℕ) (unread : Left) (s w : ℕ) (bs : List BlockText) (e : ReadFault) → IsCounted file unread s w bs
    → IsFaultAfter unread.line unread.rest e → IsReadFault file e
counted_fault law file unread s w bs (At line code) h (n, place, reported) =
    let there : line ≡ length (lines_of bs) + n = place ∙ ap (λ k. k + n) h.place in
    let whole = law bs unread.rest n code h.shaped reported in
    let P : List ℕ → Type 0 = λ f. IsReported f line code in
    let Q : ℕ → Type 0 = λ k. IsReported (text_of bs ++ unread.rest) k code in
    subst P (sym h.whole) (subst Q (sym there) whole)
counted_fault law file unread s w bs Memory h some =
    let long : length file ≡ length (text_of bs ++ unread.rest) = ap length h.whole in
    omega (arith, long, some, length-append (text_of bs) unread.rest)
