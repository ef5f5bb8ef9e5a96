-- Between crates: no contract of a front door cites a definition of this module.
-- The ten columns of a row, and what is shown of one.
-- CoNLL-U format page: a word line has the fields ID, FORM, LEMMA, UPOS, XPOS, FEATS, HEAD, DEPREL, DEPS and MISC.
use Rattle.std.specs.Prelude.{ℕ, List, [], Option, Some, None, codes, is_none, ◌==◌, if◌then◌else◌, not}
use Rattle.tb_conllu.specs.Text.{RowText, id_text, head_text}
use Rattle.tb_fields.specs.Blank.{is_blank}
use Rattle.tb_words.specs.declared.findings.Value.{Value}
use Rattle.tb_words.specs.declared.findings.Value.TheVariants.{Text, Id, Head}

-- the name of a column, counted from 0
abbrev pub column_name : ℕ → List ℕ
column_name column =
    if column == 0 then codes "ID" else
    if column == 1 then codes "FORM" else
    if column == 2 then codes "LEMMA" else
    if column == 3 then codes "UPOS" else
    if column == 4 then codes "XPOS" else
    if column == 5 then codes "FEATS" else
    if column == 6 then codes "HEAD" else
    if column == 7 then codes "DEPREL" else
    if column == 8 then codes "DEPS" else
    if column == 9 then codes "MISC" else codes "a column too many"

-- its name, or nothing where no column is named
abbrev pub column_shown : Option ℕ → List ℕ
column_shown None = []
column_shown (Some column) = column_name column

-- a value as a row writes it
abbrev pub value_bytes : Value → List ℕ
value_bytes (Text text) = text.now
value_bytes (Id id) = id_text id
value_bytes (Head head) = head_text head

-- The first of LEMMA, UPOS, XPOS, HEAD and DEPREL that is not `_`; DEPS where each of them is.
abbrev pub first_filled : RowText → ℕ
first_filled row =
    if not (is_blank row.lemma) then 2 else
    if not (is_blank row.upos) then 3 else
    if not (is_blank row.xpos) then 4 else
    if not (is_none row.head) then 6 else
    if not (is_blank row.deprel) then 7 else 8
