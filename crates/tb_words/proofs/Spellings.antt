-- Words that spaces join, and the common beginning of two texts.
use denote.Ref.{Bor}
use Rattle.std.proofs.Common.{◌≡◌, ◌∙◌, ◌≢◌, ◌⊎◌, ◌++◌, ◌∷◌, [], ◌+◌, ◌-◌, ◌<◌, ◌≤◌, ◌==◌, ℕ, zero, suc, List, None, Option, Some, add-one, ap, append_assoc, arith, IfSome, inl, inr, length, length-append, lit<, false, map, refl, slice_index, true, Bool, subst, sym}
use Rattle.std.proofs.lemmas.Bool.{ne_eqb, true≢false}
use Rattle.std.proofs.lemmas.Str.{IsCharBoundary-after_ascii, IsCharBoundary-start}
use Rattle.std.specs.Iterator.{Yields}
use Rattle.std.specs.List.{AllByRecursion, join_with_byte}
use Rattle.std.specs.Str.{IsCharBoundary, IsUtf8}
use Rattle.std.specs.Str.Iter.{split_whitespace_steps}
use Rattle.tb_rules.specs.Comments.{text_key}
use Rattle.tb_rules.specs.Restored.{restored_text}
use Rattle.tb_words.specs.FileSentences.{comment_line_of}
use Rattle.tb_words.specs.Keyed.{IsFirstKeyed}
use Rattle.tb_words.specs.Spelled.{IsFolded, MayCut, SaysDifference, SaysSpellings, with_word}
use Rattle.tb_words.specs.declared.findings.Finding.{Finding}
use Rattle.tb_words.specs.declared.places.Placed.{Placed}
use Rattle.tb_words.specs.declared.rules.Comment.{Comment}

abbrev pub AreSome : List (List ℕ) → Type 0
AreSome words = AllByRecursion (λ w. 0 < length w) words

-- no word that `split_whitespace` gives is empty
pub words_some : (xs : List (Bor (List ℕ))) (s t : _) → Yields split_whitespace_steps s xs t → AreSome (map (λ (x : Bor (List ℕ)). x.now) xs)
words_some [] s t yields = tt
words_some (x ∷ xs) s t (j, step, more) = (step.2, words_some xs j t more)

after_text : (text word : List ℕ) → 0 < length text → with_word text word ≡ text ++ 32 ∷ word
after_text text word some =
    let not_empty : (length text == 0) ≡ false = ne_eqb (length text) 0 (λ e. omega (arith, e, some)) in
    rw not_empty (append_assoc text (32 ∷ []) word)

joined_some : (x : List ℕ) (xs : List (List ℕ)) → AreSome (x ∷ xs) → 0 < length (join_with_byte 32 (x ∷ xs))
joined_some x [] some = some.0
joined_some x (y ∷ xs) some = omega (arith, length-append x (32 ∷ join_with_byte 32 (y ∷ xs)), some.0)

pub one_word_more : (words : List (List ℕ)) (word : List ℕ) → AreSome words
    → with_word (join_with_byte 32 words) word ≡ join_with_byte 32 (words ++ word ∷ [])
one_word_more [] word some = refl
one_word_more (x ∷ []) word some = after_text x word some.0
one_word_more (x ∷ y ∷ xs) word some =
    let rest = join_with_byte 32 (y ∷ xs) in
    let here = after_text (x ++ 32 ∷ rest) word (joined_some x (y ∷ xs) some) in
    let more = sym (after_text rest word (joined_some y xs some.1)) ∙ one_word_more (y ∷ xs) word some.1 in
    here ∙ (append_assoc x (32 ∷ rest) (32 ∷ word) ∙ ap (λ (ts : List ℕ). x ++ 32 ∷ ts) more)

-- ---- places

-- a text may be cut after an ASCII byte
pub cut_after : (byte : ℕ) (text : List ℕ) (at start : ℕ) → byte < 128 → IsUtf8 text → at ≤ length text → start ≤ at
    → (start ≡ 0) ⊎ (slice_index text (start - 1) ≡ byte) → IsCharBoundary text start
cut_after byte text at zero small utf8 within before there = IsCharBoundary-start text utf8
cut_after byte text at (suc k) small utf8 within before (inl none) = absurd (omega (arith, none))
cut_after byte text at (suc k) small utf8 within before (inr there) =
    let same : suc k - 1 ≡ k = omega arith in
    let here : slice_index text k ≡ byte = ap (λ (n : ℕ). slice_index text n) (sym same) ∙ there in
    subst (λ (n : ℕ). IsCharBoundary text n) (add-one k)
    (IsCharBoundary-after_ascii text k utf8 (omega (arith, within, before)) (omega (arith, here, small)))

pub cut_at_word : (text : List ℕ) (at start : ℕ) → IsUtf8 text → at ≤ length text → start ≤ at
    → (start ≡ 0) ⊎ (slice_index text (start - 1) ≡ 32) → IsCharBoundary text start
cut_at_word text at start utf8 within before space = cut_after 32 text at start (lit< tt) utf8 within before space

-- the same space is in both texts
pub space_too : (first second : List ℕ) (at start : ℕ) → ((k : ℕ) → k < at → slice_index first k ≡ slice_index second k)
    → start ≤ at → (start ≡ 0) ⊎ (slice_index first (start - 1) ≡ 32) → (start ≡ 0) ⊎ (slice_index second (start - 1) ≡ 32)
space_too first second at zero same before space = inl refl
space_too first second at (suc k) same before (inl none) = absurd (omega (arith, none))
space_too first second at (suc k) same before (inr space) =
    inr (sym (same (suc k - 1) (omega (arith, before))) ∙ space)

pub cut_smaller : (first second : List ℕ) (at next : ℕ) (b : Bool) → IsUtf8 first → IsUtf8 second → (MayCut first second at → b ≡ true)
    → b ≡ false → next ≡ at - 1 → next < at
cut_smaller first second zero next b one other cut is next_is =
    absurd (true≢false (sym (cut (IsCharBoundary-start first one, IsCharBoundary-start second other)) ∙ is))
cut_smaller first second (suc k) next b one other cut is next_is = omega (arith, next_is)

-- ---- what is told

pub difference_told : (placed : Placed) (given : Comment) (folded : List ℕ) (line : ℕ) (text forms : List ℕ) (told : Option Finding)
    → IsFirstKeyed text_key placed.block.comments 0 given → IsFolded given.value.now folded
    → line ≡ comment_line_of placed given.at → text ≡ folded → forms ≡ restored_text placed.block
    → IfSome told (SaysSpellings line text forms) → IfSome told (SaysDifference placed)
difference_told placed given folded line text forms None keyed words line_is text_is forms_is said = tt
difference_told placed given folded line text forms (Some found) keyed words line_is text_is forms_is said = (
  given,
  folded,
  keyed,
  words,
  subst (λ (n : ℕ). SaysSpellings n folded (restored_text placed.block) found) line_is
      (subst (λ (t : List ℕ). SaysSpellings line t (restored_text placed.block) found) text_is
      (subst (λ (t : List ℕ). SaysSpellings line text t found) forms_is said)),
)
