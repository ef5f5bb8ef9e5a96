-- One line further in a file, and one sentence further.
use Rattle.std.proofs.Common.{◌≡◌, ℕ, zero, suc, ◌+◌, ◌-◌, List, [], ◌∷◌, drop, length, option_map, get_or}
use Rattle.std.proofs.Common.{refl, sym, ◌∙◌, ap, arith, add-one, min, length-append, Bool, true, false}
use Rattle.std.proofs.lemmas.Bool.{true≢false}
use Rattle.tb_conllu.proofs.Files.{some_text}
use Rattle.tb_conllu.specs.Left.{BeginsNoSentence, IsNext, Left}
use Rattle.tb_conllu.specs.Text.{BlockText, text_of}
use Rattle.tb_conllu.specs.declared.fault.ReadFault.{ReadFault}
use Rattle.tb_conllu.specs.declared.fault.ReadFault.TheVariants.{At, Memory}
use Rattle.tb_words.specs.FileLines.{IsAtLine, line_at, lines_in, lines_left}
use Rattle.tb_words.specs.FileSentences.{AreReadTo}
use Rattle.tb_words.specs.declared.places.Lines.{Lines}

drop_first : (xs : List (List ℕ)) (k : ℕ) → get_or (drop k xs) 0 [] ≡ get_or xs k []
drop_first [] zero = refl
drop_first [] (suc k) = refl
drop_first (x ∷ xs) zero = refl
drop_first (x ∷ xs) (suc k) = drop_first xs k

drop_more : (xs : List (List ℕ)) (k : ℕ) → drop 1 (drop k xs) ≡ drop (suc k) xs
drop_more [] zero = refl
drop_more [] (suc k) = refl
drop_more (x ∷ xs) zero = refl
drop_more (x ∷ xs) (suc k) = drop_more xs k

first_left : (all ls : List (List ℕ)) (n : ℕ) → ls ≡ drop n all → get_or ls 0 [] ≡ get_or ([] ∷ all) (n + 1) []
first_left all ls n is = rw add-one (ap (λ (xs : List (List ℕ)). get_or xs 0 []) is ∙ drop_first all n)

rest_left : (all ls : List (List ℕ)) (n : ℕ) → ls ≡ drop n all → drop 1 ls ≡ drop (n + 1) all
rest_left all ls n is = rw add-one (ap (λ (xs : List (List ℕ)). drop 1 xs) is ∙ drop_more all n)

-- the next line is the first of those that are left
pub next_line_read : (file : List ℕ) (old new : Lines) → IsAtLine file old
    → new.here.number ≡ old.here.number + 1
    → new.here.bytes.now ≡ get_or (lines_left (option_map (λ rest. rest.now) old.unread)) 0 []
    → new.here.before.now ≡ old.here.bytes.now
    → lines_left (option_map (λ rest. rest.now) new.unread)
    ≡ drop 1 (lines_left (option_map (λ rest. rest.now) old.unread))
    → IsAtLine file new
next_line_read file old new at number here before left = record {
  here = here ∙ (first_left (lines_in file) _ old.here.number at.left ∙ ap (λ (n : ℕ). line_at n file) (sym number));
  before =
      let one : old.here.number ≡ new.here.number - 1 = omega arith in
      before ∙ (at.here ∙ ap (λ (n : ℕ). line_at n file) one);
  left = left ∙ (rest_left (lines_in file) _ old.here.number at.left ∙ ap (λ (n : ℕ). drop n (lines_in file))
      (sym number));
}

-- how many lines came before, as it is kept
pub lines_kept : (old count length old_line new_line new most : ℕ) → old ≡ min old_line most → count ≡ min length most
    → new ≡ min (old + count) most → new_line ≡ old_line + length → new ≡ min new_line most
lines_kept old count length old_line new_line new most a b c d = omega arith

-- a sentence more was read
pub one_more_read : (count : ℕ) (start mid new : Left) (block : BlockText) → AreReadTo count start mid
    → IsNext mid new block → AreReadTo (count + 1) start new
one_more_read count start mid new block read next = rw add-one (mid, block, read, next)

-- no sentence begins where no byte is left
pub none_begins : (bytes : List ℕ) → bytes ≡ [] → BeginsNoSentence bytes
none_begins bytes empty block rest shaped text =
    let some = some_text (block ∷ []) (omega arith) in
    let whole : 0 ≡ length (text_of (block ∷ [])) + length rest = ap (λ (xs : List ℕ). length xs) (sym empty ∙ text)
    ∙ length-append (text_of (block ∷ [])) rest in
    omega (arith, some, whole)

abbrev is_want : ReadFault → Bool
is_want (At line code) = false
is_want Memory = true

-- a fault at a line is no want of memory
pub at_line : (fault : ReadFault) (line code : ℕ) → fault ≡ At line code → fault ≡ Memory → ⊥
at_line fault line code here want = true≢false (ap is_want (sym want) ∙ ap is_want here)
