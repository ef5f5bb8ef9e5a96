-- What `deskview` shows of a desk, and its exit status.
use Rattle.std.specs.Prelude.{◌≡◌, ◌≢◌, ◌⊎◌, ℕ, List, Bool, true, Option, Some, None, Err, bytes_eq, codes}
use Rattle.std.specs.Prelude.{if◌then◌else◌}
use Rattle.clap.specs.Words.{fault_of, takes, subcommand_of}
use Rattle.sqlite.specs.Files.{over_files}
use Rattle.sqlite.specs.Store.{Ghosts}
use Rattle.tb_http.specs.declared.replies.Reply.{Reply}
use Rattle.tb_cli.specs.Fault.{AnswersAs}
use Rattle.tb_cli.specs.declared.lines.ViewLine.{ViewLine}
use Rattle.tb_cli.specs.View.{Listed, Viewed, check, find, lists, page, trees, view_app, viewed_of}
use Rattle.tb_store.specs.Calls.{InState}
use Rattle.tb_store.specs.Kept.{Kept}
use Rattle.tb_answer.specs.Commanded.{HasFailed}
use Rattle.tb_answer.specs.OnlyRead.{IsOnlyRead}
use Rattle.tb_answer.specs.Output.{IsWritten}
use Rattle.tb_answer.specs.Viewed.{IsView, IsViewReported}
use Rattle.tb_words.specs.declared.refusals.Asked.{Asked}
use Rattle.tb_words.specs.declared.refusals.Asked.TheVariants as asks
use Rattle.tb_host.specs.declared.causes.Cause.{Cause}
use Rattle.tb_host.specs.declared.causes.Cause.TheVariants as cause
use Rattle.tb_host.specs.declared.files.FileDesk.{FileDesk}
use Rattle.tb_desk.specs.Drawing.{AreTreesDrawn}
use Rattle.tb_desk.specs.Faults.{AreFaultsListed}
use Rattle.tb_host.specs.Opened.{IsSomeDesk}
use Rattle.tb_desk.specs.Replies.{AreNoLine, IsFileRefused, IsReplyWritten}
use Rattle.tb_desk.specs.Served.{IsServedInFile, page_service}
use Rattle.tb_desk.specs.Told.{IsExplainedBy, WithTold}

-- What a command lacks whose values have their forms: the file of a desk. A tree needs a number too.
abbrev pub lacking : (command : List ℕ) → Cause
lacking command = if bytes_eq command (codes "tree") then cause.BothOrNeither else cause.NothingThere

-- it says that no command is given to the program of this name
abbrev pub LacksCommand : (program : List ℕ) → Cause → Type 0
LacksCommand program (cause.NoCommand name) = name.now ≡ program
LacksCommand program _ = ⊥

-- what a list is of, as far as the words for a refusal depend on it
abbrev pub IsAskedOf : Listed → Asked → Type 0
IsAskedOf (find id) (asks.SentId text) = text.now ≡ id
IsAskedOf (find id) _ = ⊥
IsAskedOf _ asked = asked ≡ asks.Other

module _ {Reason S : Type 0} (g : Ghosts S) (held holds : Option (List ℕ)) (is_refusal : Reason → Type 0)
    (status : ℕ) (is_wanted : Bool) (is_told : Option Cause → Type 0) where
  -- The list of the state that the desk represents is written, or the line of why there is none. That is explained where
  -- words are wanted.
  abbrev pub IsShown : (old new : Kept S) → Listed → Type 0
  IsShown old new list = InState g old new (λ s.
      ((text : List ℕ) × IsView s list text × IsWritten held holds text 0 is_refusal status × is_told None)
      ⊎ ((r : Reply) × IsViewReported (HasFailed g old new) s list r × IsReplyWritten held holds is_refusal status r
      × WithTold is_told (IsExplainedBy is_wanted r)))

module _ {Reason : Type 0} (held holds : Option (List ℕ)) (is_refusal : Reason → Type 0) (status : ℕ)
    (is_wanted : Bool) (is_told : Option Cause → Type 0) where
  -- there was a desk in the file, its list is shown, and the desk is only read
  pub record IsShownInFile (list : Listed) : Type 0 where
    pub opened : FileDesk
    pub ended : FileDesk
    pub is : IsSomeDesk over_files opened.desk
    pub shown : IsShown over_files held holds is_refusal status is_wanted is_told opened.desk ended.desk list
    pub read_only : IsOnlyRead over_files opened.desk ended.desk

  -- the list is shown, or the line of a fault of the file is written
  abbrev pub IsListRun : Listed → Type 0
  IsListRun list = IsFileRefused held holds is_refusal status is_told ⊎ IsShownInFile list

module _ {R Why Reason : Type 0} (is_failure : R → Why → Type 0) (unread : R → Option (List ℕ))
    (pieces : R → Option (List (List ℕ))) (before after : R) (held holds : Option (List ℕ))
    (is_refusal : Reason → Type 0) (status : ℕ) (is_wanted : Bool) (is_told : Option Cause → Type 0) where
  -- How a line ends: only trees of a file and a check read the input. What the server of a page answers is said request
  -- by request.
  abbrev pub IsViewRun : Viewed → Type 0
  IsViewRun (lists db list) = (after ≡ before) × IsListRun held holds is_refusal status is_wanted is_told list
  IsViewRun trees = AreTreesDrawn (is_failure after) (unread before) (unread after) (pieces before) (pieces after) held
      holds is_refusal status is_wanted is_told
  IsViewRun (check most) = AreFaultsListed (is_failure after) (unread before) (unread after) (pieces before)
      (pieces after) held holds is_refusal status is_wanted is_told most
  IsViewRun (page db port) = (after ≡ before)
      × IsServedInFile held holds is_refusal status is_told (page_service port)

  -- the words ask to see something, and it is shown
  pub record IsAskedShown (words : List (List ℕ)) : Type 0 where
    pub viewed : Viewed
    pub is : viewed_of (subcommand_of view_app words) ≡ Some viewed
    pub ran : IsViewRun viewed

  -- what the words ask to see is shown, or why they ask nothing is written
  abbrev pub AreWordsShown : (words : List (List ℕ)) → Type 0
  AreWordsShown words = IsAskedShown words ⊎ AreNoLine before after held holds is_refusal status is_told
      (takes view_app words ≢ true) (viewed_of (subcommand_of view_app words) ≡ None)
      (λ fault. AnswersAs {T = ViewLine} (fault_of view_app words) (Err fault))
