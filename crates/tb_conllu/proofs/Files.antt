-- A file that is read one sentence after another.
use Rattle.std.proofs.Common.{◌≡◌, ℕ, ◌+◌, ◌<◌, List, [], ◌∷◌, ◌++◌, length, refl, sym, ◌∙◌, ap, subst, arith, append_assoc, append-nil, length-append, inl, inr}
use Rattle.std.proofs.lemmas.List.Concat.{flat_map-append}
use Rattle.tb_conllu.specs.declared.fault.ReadFault.{ReadFault}
use Rattle.tb_conllu.specs.declared.fault.ReadFault.TheVariants.{At, Memory}
use Rattle.tb_conllu.specs.Text.{BlockText, block_lines, lines_of, text_of}
use Rattle.tb_conllu.specs.Shape.{IsShaped, AllShaped}
use Rattle.tb_conllu.specs.Reported.{IsFile, IsNoFile, IsReported}
use Rattle.tb_conllu.specs.Fault.{IsFaultAfter, IsReadFault}
use Rattle.tb_conllu.specs.Left.{Left, IsNext, IsReadFrom, IsReadTo}
use Rattle.tb_conllu.proofs.Reported.{all_append}
use Rattle.tb_conllu.proofs.Reading.{sentence_some}
use Rattle.tb_conllu.proofs.OneList.{one_list}
use Rattle.tb_conllu.proofs.Faults.{text_of-append, reported_after}

pub read_nothing : (bytes : List ℕ) (done : List BlockText) (left : Left) → done ≡ [] → left ≡ record { rest = bytes; line = 0 } → IsReadTo bytes done left
read_nothing bytes done left none e =
    let P : List BlockText → Type 0 = λ bs. IsReadTo bytes bs left in
    let Q : Left → Type 0 = IsReadTo bytes [] in
    subst P (sym none) (subst Q (sym e) (record { shaped = tt; whole = refl; place = refl }))

pub read_more : (bytes : List ℕ) (done more : List BlockText) (old new : Left) (block : BlockText) → IsReadTo bytes done old → IsNext old new block → more ≡ done ++ block ∷ [] → IsReadTo bytes more new
read_more bytes done more old new block h next e =
    let P : List BlockText → Type 0 = λ bs. IsReadTo bytes bs new in
    let lines : lines_of (done ++ block ∷ []) ≡ lines_of done ++ lines_of (block ∷ []) = flat_map-append block_lines done (block ∷ []) in
    let one : lines_of (block ∷ []) ≡ block_lines block = append-nil (block_lines block) in
    let n = ap length lines ∙ length-append (lines_of done) (lines_of (block ∷ [])) in
    let m = ap length one in
    let before = h.place in
    let place = next.place in
    subst P (sym e) (record {
      shaped = all_append IsShaped done (block ∷ []) h.shaped (next.shaped, tt);
      whole = h.whole ∙ ap (λ x. text_of done ++ x) next.text ∙ sym (append_assoc (text_of done) (text_of (block ∷ [])) new.rest) ∙ ap (λ x. x ++ new.rest) (sym (text_of-append done (block ∷ [])));
      place = omega (arith, n, m);
    })

pub read_all : (bytes : List ℕ) (done : List BlockText) (left : Left) → IsReadTo bytes done left → left.rest ≡ [] → IsFile bytes done
read_all bytes done left h none = record { shaped = h.shaped; text = h.whole ∙ ap (λ x. text_of done ++ x) none ∙ append-nil (text_of done) }

pub read_fault : (bytes : List ℕ) (done : List BlockText) (left : Left) (e : ReadFault) → IsReadTo bytes done left → IsFaultAfter left.line left.rest e → IsReadFault bytes e
read_fault bytes done left Memory h f = omega (arith, f, ap length h.whole, length-append (text_of done) left.rest)
read_fault bytes done left (At line code) h f =
    let P : List ℕ → Type 0 = λ x. IsReported x line code in
    let Q : ℕ → Type 0 = λ n. IsReported (text_of done ++ left.rest) n code in
    let place = h.place in
    let here = f.1 in
    let same : length (lines_of done) + f.0 ≡ line = omega (arith, place, here) in
    subst P (sym h.whole) (subst Q same (reported_after done left.rest f.0 code h.shaped f.2))

pub reported_no_file : (f : List ℕ) (line code : ℕ) → IsReported f line code → IsNoFile f
reported_no_file f line code (inl h) bs shaped e = h.dead bs h.rest shaped (sym e ∙ h.whole)
reported_no_file f line code (inr h) bs shaped e = h.0.no_file bs shaped e

pub only_memory : (f : List ℕ) (e : ReadFault) → IsReadFault f e → (bs : List BlockText) → IsFile f bs → e ≡ Memory
only_memory f Memory h bs file = refl
only_memory f (At line code) h bs file = absurd (reported_no_file f line code h bs file.shaped file.text)

pub only_these : (f : List ℕ) (done : List BlockText) → IsFile f done → (bs : List BlockText) → IsFile f bs → done ≡ bs
only_these f done h bs file = one_list f done bs h file

pub next_shorter : (old new : Left) (block : BlockText) → IsNext old new block → length new.rest < length old.rest
next_shorter old new block h = omega (arith, sentence_some block, ap length h.text, length-append (text_of (block ∷ [])) new.rest)

-- the sentences that are left are the file's last
pub read_rest : (bytes : List ℕ) (done more : List BlockText) (left : Left) → IsReadTo bytes done left → IsFile left.rest more → IsFile bytes (done ++ more)
read_rest bytes done more left h rest = record {
  shaped = all_append IsShaped done more h.shaped rest.shaped;
  text = h.whole ∙ ap (λ x. text_of done ++ x) rest.text ∙ sym (text_of-append done more);
}

-- ---- the same of what is left in the middle of a file

pub from_next : (old mid new : Left) (bs : List BlockText) (block : BlockText) → IsReadFrom old bs mid → IsNext mid new block → IsReadFrom old (bs ++ block ∷ []) new
from_next old mid new bs block h next =
    let done : IsReadTo old.rest bs (record { rest = mid.rest; line = length (lines_of bs) }) = record { shaped = h.shaped; whole = h.whole; place = refl } in
    let here : IsNext (record { rest = mid.rest; line = length (lines_of bs) }) (record { rest = new.rest; line = length (lines_of bs) + length (block_lines block) }) block = record { shaped = next.shaped; text = next.text; place = refl } in
    let more = read_more old.rest bs (bs ++ block ∷ []) (record { rest = mid.rest; line = length (lines_of bs) }) (record { rest = new.rest; line = length (lines_of bs) + length (block_lines block) }) block done here refl in
    let place = more.place in
    let before = h.place in
    let after = next.place in
    record { shaped = more.shaped; whole = more.whole; place = omega arith }

pub from_fault : (old now : Left) (bs : List BlockText) (e : ReadFault) → IsReadFrom old bs now → IsFaultAfter now.line now.rest e → IsFaultAfter old.line old.rest e
from_fault old now bs Memory h f = omega (arith, f, ap length h.whole, length-append (text_of bs) now.rest)
from_fault old now bs (At line code) h (n, place, reported) =
    let P : List ℕ → Type 0 = λ x. IsReported x (length (lines_of bs) + n) code in
    let before = h.place in
    (length (lines_of bs) + n, omega arith, subst P (sym h.whole) (reported_after bs now.rest n code h.shaped reported))

-- the text of some sentences has a byte
pub some_text : (bs : List BlockText) → 0 < length bs → 0 < length (text_of bs)
some_text [] h = absurd (omega (arith, h))
some_text (b ∷ bs) h = omega (arith, sentence_some b, ap length (text_of-append (b ∷ []) bs), length-append (text_of (b ∷ [])) (text_of bs))
