-- Why a file is refused, and where: the first line after which no continuation is a file.
use Rattle.std.specs.Prelude.{◌≡◌, ℕ, ◌+◌, ◌⊎◌, List, [], ◌∷◌, ◌++◌, length, ◌==◌}
use Rattle.std.specs.Prelude.{false}
use Rattle.std.specs.List.{list_any, AllByRecursion}
use Rattle.tb_conllu.specs.Text.{BlockText, text_of, ended}
use Rattle.tb_conllu.specs.Shape.{AllShaped}
use Rattle.tb_conllu.specs.Lines.{line_code, came_through}

-- no byte of the list is a line feed
abbrev pub IsLine : List ℕ → Type 0
IsLine bs = list_any (λ b. b == 10) bs ≡ false

abbrev pub AreLines : List (List ℕ) → Type 0
AreLines ls = AllByRecursion IsLine ls

-- The bytes are a file of sentences: their text, where each is shaped.
pub record IsFile (f : List ℕ) (bs : List BlockText) : Type 0 where
  pub shaped : AllShaped bs
  pub text : f ≡ text_of bs

-- No file begins with these lines, each with its line feed.
abbrev pub IsDead : List (List ℕ) → Type 0
IsDead ls = (bs : List BlockText) (rest : List ℕ) → AllShaped bs → text_of bs ≡ ended ls ++ rest → ⊥

-- It is no file.
abbrev pub IsNoFile : List ℕ → Type 0
IsNoFile f = (bs : List BlockText) → AllShaped bs → f ≡ text_of bs → ⊥

-- The first line after which no continuation is a file, counted from 1, with its least code. Some file begins with the
-- lines before it, and none with these and the line.
pub record IsLineFault (f : List ℕ) (line code : ℕ) : Type 0 where
  pub before : List (List ℕ)
  pub reported : List ℕ
  pub rest : List ℕ
  pub whole : f ≡ ended (before ++ reported ∷ []) ++ rest
  pub cut : AreLines (before ++ reported ∷ [])
  pub place : line ≡ length before + 1
  pub dead : IsDead (before ++ reported ∷ [])
  pub alive : IsDead before → ⊥
  pub least : line_code (came_through false before) reported ≡ code

-- Only the end is at fault: some file begins with the lines, but bytes follow the last line feed, or the last sentence
-- lacks its blank line.
pub record IsUnended (f : List ℕ) (line : ℕ) : Type 0 where
  pub before : List (List ℕ)
  pub rest : List ℕ
  pub whole : f ≡ ended before ++ rest
  pub cut : AreLines before
  pub cut_rest : IsLine rest
  pub place : line ≡ length before + 1
  pub alive : IsDead before → ⊥
  pub no_file : IsNoFile f

-- The fault of bytes that are no file: codes 1 to 9 at a line, 10 at the end.
abbrev pub IsReported : List ℕ → ℕ → ℕ → Type 0
IsReported f line code = IsLineFault f line code ⊎ (IsUnended f line × (code ≡ 10))
