-- How a command line ends: what is written, the exit status, and what was taken of the input. What a server answers
-- is said request by request.
use Rattle.std.specs.Prelude.{◌≡◌, ◌≢◌, ◌⊎◌, ℕ, List, codes, Bool, true, false, Option, Some, None, Result, Err}
use Rattle.sqlite_trees.specs.declared.memory.MemStore.{MemStore}
use Rattle.sqlite.specs.Store.{Ghosts}
use Rattle.sqlite.specs.Files.{over_files}
use Rattle.sqlite.specs.Steps.{over_memory}
use Rattle.clap.specs.Words.{fault_of, takes, subcommand_of}
use Rattle.tb_check.specs.Check.{file_limit}
use Rattle.tb_cli.specs.Fault.{AnswersAs}
use Rattle.tb_cli.specs.Lines.{Said, said_of}
use Rattle.tb_cli.specs.declared.lines.Line.{Line}
use Rattle.tb_cli.specs.Tree.{desk_app}
use Rattle.tb_store.specs.Kept.{Kept}
use Rattle.tb_answer.specs.Output.{IsWritten}
use Rattle.tb_answer.specs.Taken.{IsBodyAskedFor, IsTaken, WithTaken, has_body}
use Rattle.tb_host.specs.Opened.{IsEmptyDesk, IsMadeDesk, IsSomeDesk}
use Rattle.tb_http.specs.declared.replies.Reply.{Reply}
use Rattle.tb_desk.specs.Replies.{AreNoLine, IsFileRefused, IsOutOfMemory}
use Rattle.tb_desk.specs.Running.{IsRunOn}
use Rattle.tb_desk.specs.Served.{IsServed, IsServedInFile, WithService, service_of}
use Rattle.tb_host.specs.declared.causes.Cause.{Cause}
use Rattle.tb_host.specs.declared.files.FileDesk.{FileDesk}
use Rattle.tb_desk.specs.Targets.{Place, made_in, migrated_in, in_file, in_memory, place_in}

-- a line without a body leaves the input as it was
abbrev pub LeavesInput : {R : Type 0} → (before after : R) → Said → Type 0
LeavesInput before after said = has_body said ≡ false → after ≡ before

-- What was asked of the reader for a line: nothing, or its body. Where the pieces that it gives are counted, no read
-- comes after its end.
abbrev pub AsksForBody : {R Why : Type 0} → (R → Why → Type 0) → (unread : R → Option (List ℕ))
    → (pieces : R → Option (List (List ℕ))) → (before after : R) → Said → Type 0
AsksForBody is_failure unread pieces before after said = (after ≡ before)
    ⊎ WithTaken is_failure unread file_limit said before after
    (IsBodyAskedFor file_limit (pieces before) (pieces after))

-- where no desk is opened for a line: nothing is taken of the input, or its body, or what came in the body's place
abbrev pub TakesNoneOrBody : {R Why : Type 0} → (R → Why → Type 0) → (R → Option (List ℕ)) → (before after : R) → Said
    → Type 0
TakesNoneOrBody is_failure unread before after said =
    (after ≡ before) ⊎ ((taken : Result (List ℕ) Reply) × IsTaken is_failure unread file_limit said before after taken)

module _ {Reason : Type 0} (held holds : Option (List ℕ)) (is_refusal : Reason → Type 0) (status : ℕ) where
  -- a desk without a batch was made in the file, and `made` is written
  pub record IsMadeInFile : Type 0 where
    pub made : FileDesk
    pub is : IsMadeDesk over_files made.desk
    pub written : IsWritten held holds (codes "made\n") 0 is_refusal status

  -- the desk in the file was brought to version 2, and `migrated` is written
  pub record IsMigratedInFile : Type 0 where
    pub migrated : FileDesk
    pub is : IsSomeDesk over_files migrated.desk
    pub written : IsWritten held holds (codes "migrated\n") 0 is_refusal status

module _ {Reason : Type 0} (held holds : Option (List ℕ)) (is_refusal : Reason → Type 0) (status : ℕ)
    (is_told : Option Cause → Type 0) where
  abbrev pub IsMadeOrRefused : Type 0
  IsMadeOrRefused = IsFileRefused held holds is_refusal status is_told ⊎ IsMadeInFile held holds is_refusal status

  abbrev pub IsMigratedOrRefused : Type 0
  IsMigratedOrRefused = IsFileRefused held holds is_refusal status is_told
      ⊎ IsMigratedInFile held holds is_refusal status

module _ {R Why Reason : Type 0} (is_failure : R → Why → Type 0) (unread : R → Option (List ℕ)) (before after : R)
    (held holds : Option (List ℕ)) (is_refusal : Reason → Type 0) (status : ℕ) (is_wanted : Bool)
    (is_told : Option Cause → Type 0) where
  -- the body of the line was taken, and the line ran on this desk
  abbrev pub IsRunWithBody : {S : Type 0} → Ghosts S → (opened ended : Kept S) → Said → Type 0
  IsRunWithBody g opened ended said = WithTaken is_failure unread file_limit said before after
      (λ taken. IsRunOn g held holds is_refusal status is_wanted is_told opened ended said taken)

  -- there was a desk in the file, and the line, which asks for no service, ran on it
  pub record IsRunInFile (said : Said) : Type 0 where
    pub unserved : service_of said ≡ None
    pub opened : FileDesk
    pub ended : FileDesk
    pub is : IsSomeDesk over_files opened.desk
    pub ran : IsRunWithBody over_files opened.desk ended.desk said

  -- the line, which asks for no service, ran on a desk in memory
  pub record IsRunInMemory (said : Said) : Type 0 where
    pub unserved : service_of said ≡ None
    pub opened : Kept MemStore
    pub ended : Kept MemStore
    pub is : IsEmptyDesk over_memory opened
    pub ran : IsRunWithBody over_memory opened ended said

module _ {R Why Reason : Type 0} (is_failure : R → Why → Type 0) (unread : R → Option (List ℕ)) (before after : R)
    (held holds : Option (List ℕ)) (is_refusal : Reason → Type 0) (status : ℕ) (is_wanted : Bool)
    (is_told : Option Cause → Type 0) where
  -- How a line ends, by what it works on. In a file a desk is made or migrated, or the desk there is served or the line
  -- runs on it. Or the line for the cause at the file is written, and nothing or the body was taken. Without a file a
  -- desk without a batch is served, or the line runs on it. Or memory runs out for that, and nothing was taken.
  abbrev pub IsLineRun : Said → Place → Type 0
  IsLineRun said (made_in path) = IsMadeOrRefused held holds is_refusal status is_told
  IsLineRun said (migrated_in path) = IsMigratedOrRefused held holds is_refusal status is_told
  IsLineRun said (in_file path) =
      (IsFileRefused held holds is_refusal status is_told × TakesNoneOrBody is_failure unread before after said)
      ⊎ WithService said (IsServedInFile held holds is_refusal status is_told)
      ⊎ IsRunInFile is_failure unread before after held holds is_refusal status is_wanted is_told said
  IsLineRun said in_memory = (IsOutOfMemory held holds is_refusal status is_told × (after ≡ before))
      ⊎ WithService said (IsServed held holds is_refusal status is_told)
      ⊎ IsRunInMemory is_failure unread before after held holds is_refusal status is_wanted is_told said

module _ {R Why Reason : Type 0} (is_failure : R → Why → Type 0) (unread : R → Option (List ℕ))
    (pieces : R → Option (List (List ℕ))) (before after : R) (held holds : Option (List ℕ))
    (is_refusal : Reason → Type 0) (status : ℕ) (is_wanted : Bool) (is_told : Option Cause → Type 0) where
  -- the words say a line, and it is run
  pub record IsSaidRun (words : List (List ℕ)) : Type 0 where
    pub said : Said
    pub is : said_of (subcommand_of desk_app words) ≡ Some said
    pub leaves : LeavesInput before after said
    pub asked : AsksForBody is_failure unread pieces before after said
    pub ran : IsLineRun is_failure unread before after held holds is_refusal status is_wanted is_told said
        (place_in said)

  -- what the words say is run, or why they say nothing is written
  abbrev pub AreWordsRun : (words : List (List ℕ)) → Type 0
  AreWordsRun words = IsSaidRun words ⊎ AreNoLine before after held holds is_refusal status is_told
      (takes desk_app words ≢ true) (said_of (subcommand_of desk_app words) ≡ None)
      (λ fault. AnswersAs {T = Line} (fault_of desk_app words) (Err fault))
