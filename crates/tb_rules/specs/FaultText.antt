-- Between crates: no contract of a front door cites a definition of this module.
-- The text of each fault.
use Rattle.std.specs.Prelude.{ℕ, List, ◌++◌, ◌==◌, codes, decimal, if◌then◌else◌}
use Rattle.tb_rules.specs.declared.fault.RuleFault.{RuleFault}
use Rattle.tb_rules.specs.declared.fault.RuleFault.TheVariants as rule
use Rattle.tb_rules.specs.declared.filefault.FileFault.{FileFault}
use Rattle.tb_rules.specs.declared.filefault.FileFault.TheVariants as file

-- what the rule with this number requires
abbrev pub rule_text : ℕ → List ℕ
rule_text n =
    if n == 1 then codes "exactly one comment gives sent_id, and its value has no white space"
    else if n == 2 then codes "exactly one comment gives text"
    else if n == 3 then
    codes "words are numbered 1, 2, .. (at most 1,000), and empty nodes i.1, i.2, .. after word i"
    else if n == 4 then
    codes "a word has a universal UPOS, a HEAD of the sentence, and a universal DEPREL, root where HEAD is 0"
    else if n == 5 then
    codes "a range stands before its first word, after all ranges before, and has _ in LEMMA to DEPS"
    else if n == 6 then codes "an empty node has _ in HEAD and DEPREL, and a universal UPOS or _"
    else if n == 7 then codes "FEATS is _ or Name=Value items, in order and without repetition"
    else if n == 8 then
    codes "DEPS is _ or head:relation items, in the order of heads that stand in the sentence"
    else if n == 9 then codes "exactly one word has HEAD 0"
    else if n == 10 then codes "each word comes to the root along HEAD"
    else if n == 11 then codes "the forms spell the text, but for white space"
    else codes "no sentence before it in the file has its sent_id"

-- a broken rule, after its row where it has one
abbrev pub broken_text : ℕ → ℕ → List ℕ
broken_text n row =
    if row == 0 then codes "rule " ++ decimal n ++ codes ": " ++ rule_text n
    else codes "row " ++ decimal row ++ codes ", rule " ++ decimal n ++ codes ": " ++ rule_text n

abbrev pub fault_text : RuleFault → List ℕ
fault_text (rule.At n row) = broken_text n row
fault_text rule.Memory = codes "out of memory"

abbrev pub file_fault_text : FileFault → List ℕ
file_fault_text (file.At sentence n row) = codes "sentence " ++ decimal sentence ++ codes ", " ++ broken_text n row
file_fault_text file.Memory = codes "out of memory"
