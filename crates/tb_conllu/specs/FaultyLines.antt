-- Every line at fault, each with its least code.
-- The numbers of lines, and code 10 for the end of a file, are this project's own.
use Rattle.std.specs.Prelude.{◌≡◌, ℕ, ◌+◌, List, [], ◌∷◌, ◌++◌, length, Bool, true, false, ◌&&◌, ◌==◌}
use Rattle.std.specs.Prelude.{if◌then◌else◌}
use Rattle.tb_conllu.specs.Text.{ended}
use Rattle.tb_conllu.specs.Lines.{is_empty, line_code, came_after}
use Rattle.tb_conllu.specs.Reported.{IsLine, AreLines}
use Rattle.tb_conllu.specs.declared.faulty.FaultyLine.{FaultyLine}

-- the fault of the line with this number and this code: none where the code is 0
abbrev pub fault_at : ℕ → ℕ → List FaultyLine
fault_at line code = if code == 0 then [] else record { line = line; code = code } ∷ []

-- The faults of lines that come after n others. `came` says whether a word line of their sentence came before.
abbrev pub line_faults : ℕ → Bool → List (List ℕ) → List FaultyLine
line_faults n came [] = []
line_faults n came (l ∷ ls) = fault_at (n + 1) (line_code came l) ++ line_faults (n + 1) (came_after came l) ls

-- the last line is blank, or there is no line
abbrev pub is_closed : List (List ℕ) → Bool
is_closed [] = true
is_closed (l ∷ []) = is_empty l
is_closed (l ∷ m ∷ ls) = is_closed (m ∷ ls)

-- 10 where bytes follow the last line feed, or the last line is not blank
abbrev pub end_code : Bool → List ℕ → ℕ
end_code closed rest = if closed && is_empty rest then 0 else 10

-- The faults of bytes, in order: of each line that has a code, and of the end.
pub record AreFaultyLines (f : List ℕ) (faults : List FaultyLine) : Type 0 where
  pub lines : List (List ℕ)
  pub rest : List ℕ
  pub whole : f ≡ ended lines ++ rest
  pub cut : AreLines lines
  pub cut_rest : IsLine rest
  pub all : faults ≡ line_faults 0 false lines ++ fault_at (length lines + 1) (end_code (is_closed lines) rest)
