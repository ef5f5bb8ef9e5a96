-- Between crates: no contract of a front door cites a definition of this module.
-- The text of each fault.
use Rattle.std.specs.Prelude.{ℕ, List, ◌++◌, ◌==◌, codes, decimal, if◌then◌else◌}
use Rattle.tb_conllu.specs.declared.fault.ReadFault.{ReadFault}
use Rattle.tb_conllu.specs.declared.fault.ReadFault.TheVariants.{At, Memory}

-- what a code says of its line
abbrev pub code_text : ℕ → List ℕ
code_text code =
    if code == 1 then codes "it is not UTF-8"
    else if code == 2 then codes "it is not in Unicode normalization form NFC"
    else if code == 3 then codes "it has a control character other than a tab"
    else if code == 4 then codes "it has not ten fields, each of them filled and one tab between two"
    else if code == 5 then codes "its ID is neither n, nor n-m, nor i.k"
    else if code == 6 then codes "a field other than FORM, LEMMA and MISC has white space"
    else if code == 7 then codes "its HEAD is neither _ nor a number"
    else if code == 8 then codes "it is a comment after a word line of its sentence"
    else if code == 9 then codes "it is blank, and no word line came before it"
    else codes "the file ends without a blank line after its last sentence"

abbrev pub fault_text : ReadFault → List ℕ
fault_text (At line code) = codes "line " ++ decimal line ++ codes ": " ++ code_text code ++ codes " (code "
    ++ decimal code ++ codes ")"
fault_text Memory = codes "out of memory"
