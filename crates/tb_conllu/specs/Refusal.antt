-- Inner: no contract beyond this crate cites a definition of this module.
-- A line that is refused, and a sentence of which some lines were read.
use Rattle.std.specs.Prelude.{◌≡◌, ℕ, ◌<◌, List, [], ◌++◌, map, Bool}
use Rattle.tb_conllu.specs.declared.fault.ReadFault.{ReadFault}
use Rattle.tb_conllu.specs.declared.fault.ReadFault.TheVariants.{At, Memory}
use Rattle.tb_conllu.specs.Text.{BlockText, row_line}
use Rattle.tb_conllu.specs.Lines.{line_code}
use Rattle.tb_conllu.specs.Begun.{BegunText}

-- The refusal of this line, with the number n, by its least code. `came` says whether a word line of its sentence came
-- before. Want of memory says nothing of the line.
abbrev pub IsRefusal : ℕ → Bool → List ℕ → ReadFault → Type 0
IsRefusal n came text (At line code) = (line ≡ n) × (line_code came text ≡ code) × (0 < code)
IsRefusal n came text Memory = Unit {0}

-- the part of a sentence that was read
abbrev pub begun : BlockText → BegunText
begun b = record { done = []; comments = b.comments; rows = b.rows }

-- its lines
abbrev pub lines_begun : BlockText → List (List ℕ)
lines_begun b = b.comments ++ map row_line b.rows
