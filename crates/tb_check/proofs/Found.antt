-- Sentences that are examined one after another, and their faults.
use Rattle.std.proofs.Common.{◌≡◌, ℕ, ◌+◌, ◌<◌, ◌≤◌, List, [], ◌∷◌, ◌++◌, length, map, take, refl, sym, ◌∙◌, ap, subst, arith, append_assoc, append-nil, length-append, Result, Ok, Err, IfErr}
use Rattle.std.proofs.lemmas.List.{take-map}
use Rattle.tb_conllu.specs.Left.{Left, IsNext, IsReadTo}
use Rattle.tb_conllu.specs.Reported.{IsNoFile}
use Rattle.tb_conllu.specs.Text.{BlockText, block_lines, ended, lines_of, row_line, text_of}
use Rattle.tb_conllu.specs.declared.faulty.FaultyLine.{FaultyLine}
use Rattle.tb_rules.specs.Broken.{AreBrokenAfter}
use Rattle.tb_rules.specs.declared.breaking.BrokenRule.{BrokenRule}
use Rattle.tb_check.specs.Faults.{AreSentenceFaults, at_line, in_sentence}
use Rattle.tb_check.specs.declared.fault.Fault.{Fault}

-- n: how many sentences come before the last
next_faults : (n : ℕ) (before bs : List BlockText) (b : BlockText) (all : List Fault) (broken : List BrokenRule) → n ≡ length (before ++ bs) → AreSentenceFaults before bs all
    → AreBrokenAfter (before ++ bs) b broken → AreSentenceFaults before (bs ++ b ∷ []) (all ++ map (in_sentence (n + 1)) broken)
next_faults n before [] b all broken count h k =
    let here : AreBrokenAfter before b broken = subst (λ (l : List BlockText). AreBrokenAfter l b broken) (append-nil before) k in
    let number : n ≡ length before = count ∙ ap length (append-nil before) in
    let last = map (in_sentence (n + 1)) broken in
    let told : all ++ last ≡ map (in_sentence (length before + 1)) broken ++ [] =
    ap (λ (l : List Fault). l ++ last) h ∙ ap (λ (m : ℕ). map (in_sentence (m + 1)) broken) number ∙ sym (append-nil (map (in_sentence (length before + 1)) broken)) in
    (broken, [], here, told, refl)
next_faults n before (c ∷ bs) b all broken count h k =
    let joined : before ++ (c ∷ bs) ≡ (before ++ c ∷ []) ++ bs = sym (append_assoc before (c ∷ []) bs) in
    let last = map (in_sentence (n + 1)) broken in
    let here : AreBrokenAfter ((before ++ c ∷ []) ++ bs) b broken = subst (λ (l : List BlockText). AreBrokenAfter l b broken) joined k in
    let later = next_faults n (before ++ c ∷ []) bs b h.1 broken (count ∙ ap length joined) h.4 here in
    (h.0, h.1 ++ last, h.2, ap (λ (l : List Fault). l ++ last) h.3 ∙ append_assoc (map (in_sentence (length before + 1)) h.0) h.1 last, later)

ended_size : (ls : List (List ℕ)) → length ls ≤ length (ended ls)
ended_size [] = omega arith
ended_size (l ∷ ls) = simp (length-append) (omega (arith, ended_size ls))

text_some : (b : BlockText) → 0 < length (text_of (b ∷ []))
text_some b =
    let size = ended_size (lines_of (b ∷ [])) in
    let lines = ap length (append-nil (block_lines b)) in
    let all = length-append b.comments (map row_line b.rows ++ [] ∷ []) in
    let rows = length-append (map row_line b.rows) ([] ∷ []) in
    omega (arith, size, lines, all, rows)

-- These sentences were examined, and the rest of the file is unread.
pub record AreFound (file : List ℕ) (unread : Left) (sentence : ℕ) (bs : List BlockText) (all : List Fault) : Type 0 where
  pub read : IsReadTo file bs unread
  pub faults : AreSentenceFaults [] bs all
  pub counted : sentence ≡ length bs
  pub room : sentence + length unread.rest ≤ length file

pub none_found : (file : List ℕ) (unread : Left) → IsReadTo file [] (record { rest = file; line = 0 }) → unread ≡ record { rest = file; line = 0 } → AreFound file unread 0 [] []
none_found file unread h e =
    let P : Left → Type 0 = λ l. AreFound file l 0 [] [] in
    subst P (sym e) (record { read = h; faults = refl; counted = refl; room = omega arith })

pub next_found : (file : List ℕ) (old new : Left) (sentence : ℕ) (bs : List BlockText) (all : List Fault) (b : BlockText) (broken : List BrokenRule)
    → AreFound file old sentence bs all → IsNext old new b → IsReadTo file (bs ++ b ∷ []) new → AreBrokenAfter bs b broken
    → AreFound file new (sentence + 1) (bs ++ b ∷ []) (all ++ map (in_sentence (sentence + 1)) broken)
next_found file old new sentence bs all b broken h next read k =
    let before = h.room in
    let count = h.counted in
    record {
      read = read;
      faults = next_faults sentence [] bs b all broken count h.faults k;
      counted = omega (arith, count, length-append bs (b ∷ []));
      room = omega (arith, before, text_some b, ap length next.text, length-append (text_of (b ∷ [])) new.rest);
    }

pub next_shorter : (old new : Left) (b : BlockText) → IsNext old new b → length new.rest < length old.rest
next_shorter old new b h = omega (arith, text_some b, ap length h.text, length-append (text_of (b ∷ [])) new.rest)

-- a file in which a sentence is left has a byte
pub found_some : (file : List ℕ) (old new : Left) (sentence : ℕ) (bs : List BlockText) (b : BlockText) (all : List Fault) → AreFound file old sentence bs all → IsNext old new b → 0 < length file
found_some file old new sentence bs b all h next =
    let room = h.room in
    omega (arith, room, text_some b, ap length next.text, length-append (text_of (b ∷ [])) new.rest)

-- the empty file is one
pub no_file_some : (f : List ℕ) → IsNoFile f → 0 < length f
no_file_some [] none = absurd (none [] tt refl)
no_file_some (n ∷ f) none = omega arith

pub err_so : {X E P : Type 0} (result : Result X E) → P → IfErr result (λ _. P)
err_so (Ok x) p = tt
err_so (Err e) p = p

-- the first of the lines as faults
pub first_listed : (most : ℕ) (all : List FaultyLine) → map at_line (take most all) ≡ take most (map at_line all)
first_listed most all = sym (take-map at_line most all)
