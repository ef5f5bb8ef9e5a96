-- What is told of the line at which a reader stands.
use Rattle.std.proofs.Common.{◌≡◌, ◌∙◌, ◌-◌, ◌<◌, ◌^◌, ℕ, List, ap, chars, length, subst, sym}
use Rattle.std.specs.Str.{IsUtf8}
use Rattle.tb_conllu.specs.Lines.{field}
use Rattle.tb_words.specs.FileLines.{IsAtLine, line_at}
use Rattle.tb_words.specs.LineFaults.{SaysColumns, SaysComment, SaysControl, SaysEncoding, SaysForm, SaysOfLine, SaysSpace, ShowsColumn, blank_sentence, ending_sentence, id_sentence}
use Rattle.tb_words.specs.Told.{TellsLineAt}
use Rattle.tb_words.specs.declared.findings.Finding.{Finding}
use Rattle.tb_words.specs.declared.places.Lines.{Lines}
use Rattle.tb_words.specs.declared.places.NumberedLine.{NumberedLine}
use Rattle.tb_words.specs.declared.sentences.TheConstants.{HEAD_FORM}

pub line_told : (file : List ℕ) (lines : Lines) (line : NumberedLine) (number code : ℕ) (found : Finding) → IsAtLine file lines
    → line ≡ lines.here → line.number ≡ number → found.line ≡ line.number
    → (code ≡ 1 → SaysEncoding line.number line.bytes.now found)
    → (code ≡ 2 → IsUtf8 line.bytes.now → SaysForm line.bytes.now found)
    → (code ≡ 3 → IsUtf8 line.bytes.now → length (chars line.bytes.now) < 2 ^ 64 → SaysControl line.bytes.now found)
    → (code ≡ 4 → IsUtf8 line.bytes.now → SaysColumns line.bytes.now found)
    → (code ≡ 5 → IsUtf8 line.bytes.now
    → (found.sentence.now ≡ id_sentence (field 0 line.bytes.now)) × ShowsColumn line.bytes.now 0 found)
    → (code ≡ 6 → IsUtf8 line.bytes.now → SaysSpace line.bytes.now found)
    → (code ≡ 7 → IsUtf8 line.bytes.now → (found.sentence.now ≡ HEAD_FORM.now) × ShowsColumn line.bytes.now 6 found)
    → (code ≡ 8 → IsUtf8 line.bytes.now → SaysComment line.bytes.now found)
    → (code ≡ 9 → found.sentence.now ≡ blank_sentence line.number line.before.now)
    → (code ≡ 10 → found.sentence.now ≡ ending_sentence line.bytes.now line.before.now) → TellsLineAt file number code found
line_told file lines line number code found at here number_is told one two three four five six seven eight nine ten =
    let said : SaysOfLine line.number line.bytes.now line.before.now code found =
    (told, one, λ utf8. (λ e. two e utf8, λ e. three e utf8, λ e. four e utf8, λ e. five e utf8, λ e. six e utf8, λ e. seven e utf8, λ e. eight e utf8), nine, ten) in
    let place : lines.here.number ≡ number = ap (λ (l : NumberedLine). l.number) (sym here) ∙ number_is in
    let bytes : line.bytes.now ≡ line_at number file = ap (λ (l : NumberedLine). l.bytes.now) here
    ∙ (at.here ∙ ap (λ (n : ℕ). line_at n file) place) in
    let before : line.before.now ≡ line_at (number - 1) file = ap (λ (l : NumberedLine). l.before.now) here
    ∙ (at.before ∙ ap (λ (n : ℕ). line_at (n - 1) file) place) in
    subst (λ (n : ℕ). SaysOfLine n (line_at number file) (line_at (number - 1) file) code found) number_is
    (subst (λ (bs : List ℕ). SaysOfLine line.number bs (line_at (number - 1) file) code found) bytes
    (subst (λ (bs : List ℕ). SaysOfLine line.number line.bytes.now bs code found) before said))
