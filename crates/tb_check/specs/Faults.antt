-- The faults of a file: faulty lines, or rules that its sentences break.
use Rattle.std.specs.Prelude.{◌≡◌, ◌⊎◌, ℕ, ◌+◌, List, [], ◌∷◌, ◌++◌, length, map}
use Rattle.tb_conllu.specs.FaultyLines.{AreFaultyLines}
use Rattle.tb_conllu.specs.Reported.{IsFile, IsNoFile}
use Rattle.tb_conllu.specs.Text.{BlockText}
use Rattle.tb_conllu.specs.declared.faulty.FaultyLine.{FaultyLine}
use Rattle.tb_rules.specs.Broken.{AreBrokenAfter}
use Rattle.tb_rules.specs.declared.breaking.BrokenRule.{BrokenRule}
use Rattle.tb_check.specs.declared.fault.Fault.{Fault}
use Rattle.tb_check.specs.declared.fault.Fault.TheVariants.{Line, Rule}

-- a faulty line as a fault of its file
abbrev pub at_line : FaultyLine → Fault
at_line x = Line x.line x.code

-- a broken rule of the sentence with this number
abbrev pub in_sentence : ℕ → BrokenRule → Fault
in_sentence sentence x = Rule sentence x.rule x.row

-- The broken rules of sentences that come after others, in order.
abbrev pub AreSentenceFaults : List BlockText → List BlockText → List Fault → Type 0
AreSentenceFaults before [] faults = faults ≡ []
AreSentenceFaults before (b ∷ bs) faults =
    (broken : List BrokenRule) × (rest : List Fault) × AreBrokenAfter before b broken
    × (faults ≡ map (in_sentence (length before + 1)) broken ++ rest) × AreSentenceFaults (before ++ b ∷ []) bs rest

-- The faults of a file. Of one that can be read they are the rules that its sentences break, of any other its faulty
-- lines.
abbrev pub AreFaults : List ℕ → List Fault → Type 0
AreFaults f faults =
    ((bs : List BlockText) × IsFile f bs × AreSentenceFaults [] bs faults)
    ⊎ (IsNoFile f × ((lines : List FaultyLine) × AreFaultyLines f lines × (faults ≡ map at_line lines)))
