-- How lines end, where nothing is said of the cause that is told.
use Rattle.std.proofs.Common.{ℕ, List, Bool, Option, Result, inl, inr}
use Rattle.sqlite.specs.Files.{over_files}
use Rattle.sqlite.specs.Steps.{over_memory}
use Rattle.sqlite.specs.Store.{Ghosts}
use Rattle.tb_http.specs.declared.replies.Reply.{Reply}
use Rattle.tb_store.specs.Kept.{Kept}
use Rattle.tb_desk.specs.Running.{IsRunOn}
use Rattle.tb_cli.specs.Lines.{Said}
use Rattle.clap.specs.Values.{kind_of}
use Rattle.clap.specs.declared.error.kind.ErrorKind.{ErrorKind}
use Rattle.tb_cli.specs.declared.lines.LineFault.{LineFault}
use Rattle.tb_cli.specs.declared.lines.LineFault.TheVariants.{Clap, Usage, Memory}
use Rattle.tb_desk.specs.Lines.{AreWordsRun, IsLineRun}
use Rattle.tb_desk.specs.Replies.{IsClapWritten, IsFaultWritten}
use Rattle.tb_desk.specs.Served.{IsEnded, IsServed, IsServedAt, IsServedInFile, untold}
use Rattle.tb_desk.specs.Targets.{Place, in_file, in_memory, made_in, migrated_in, place_in}
use Rattle.tb_host.specs.declared.causes.Cause.{Cause}
use Rattle.tb_desk.specs.declared.service.Service.{Service}

module _ {Reason : Type 0} (is_refusal : Reason → Type 0) (status : ℕ) (is_told : Option Cause → Type 0) where
  ended_untold : (held holds : Option (List ℕ)) (count : ℕ) → IsEnded held holds is_refusal status is_told count → IsEnded held holds is_refusal status untold count
  ended_untold held holds count (inl all) = inl (all.0, all.1, tt)
  ended_untold held holds count (inr early) = inr (early.0, early.1, early.2, early.3, tt)

  at_untold : (held holds : Option (List ℕ)) (number count : ℕ) → IsServedAt held holds is_refusal status is_told number count
      → IsServedAt held holds is_refusal status untold number count
  at_untold held holds number count (inl unheard) = inl record { part = unheard.part; why = unheard.why; ends = unheard.ends; told = tt }
  at_untold held holds number count (inr heard) = inr record {
    line = heard.line;
    written = heard.written;
    ended = ended_untold heard.line holds count heard.ended;
  }

  served_untold : (held holds : Option (List ℕ)) (service : Service) → IsServed held holds is_refusal status is_told service
      → IsServed held holds is_refusal status untold service
  served_untold held holds service (inl memory) = inl (memory.0, tt)
  served_untold held holds service (inr (inl port)) = inr (inl record {
    why = port.why;
    refused = port.refused;
    written = port.written;
    told = tt;
  })
  served_untold held holds service (inr (inr at)) = inr (inr record {
    number = at.number;
    chosen = at.chosen;
    served = at_untold held holds at.number service.requests at.served;
  })

  file_untold : (held holds : Option (List ℕ)) (service : Service) → IsServedInFile held holds is_refusal status is_told service
      → IsServedInFile held holds is_refusal status untold service
  file_untold held holds service (inl refused) = inl (refused.0, refused.1, tt)
  file_untold held holds service (inr served) = inr (served_untold held holds service served)

-- a line that ran on a desk
ran_untold : {Reason S : Type 0} (g : Ghosts S) (held holds : Option (List ℕ)) (is_refusal : Reason → Type 0) (status : ℕ) (is_wanted : Bool) (is_told : Option Cause → Type 0)
    (old new : Kept S) (said : Said) (taken : Result (List ℕ) Reply) → IsRunOn g held holds is_refusal status is_wanted is_told old new said taken
    → IsRunOn g held holds is_refusal status is_wanted untold old new said taken
ran_untold g held holds is_refusal status is_wanted is_told old new said taken ran = record {
  answered = ran.answered;
  written = ran.written;
  ran = ran.ran;
  safe = ran.safe;
  explained = ran.explained;
  told = (ran.told.0, tt, ran.told.2);
}

module _ {R Why Reason : Type 0} (is_failure : R → Why → Type 0) (unread : R → Option (List ℕ)) (pieces : R → Option (List (List ℕ))) (before after : R)
    (held holds : Option (List ℕ)) (is_refusal : Reason → Type 0) (status : ℕ) (is_wanted : Bool) (is_told : Option Cause → Type 0) where
  line_untold : (said : Said) (place : Place) → IsLineRun is_failure unread before after held holds is_refusal status is_wanted is_told said place
      → IsLineRun is_failure unread before after held holds is_refusal status is_wanted untold said place
  line_untold said (made_in path) (inl refused) = inl (refused.0, refused.1, tt)
  line_untold said (made_in path) (inr made) = inr made
  line_untold said (migrated_in path) (inl refused) = inl (refused.0, refused.1, tt)
  line_untold said (migrated_in path) (inr migrated) = inr migrated
  line_untold said (in_file path) (inl refused) = inl ((refused.0.0, refused.0.1, tt), refused.1)
  line_untold said (in_file path) (inr (inl served)) = inr (inl (served.0, served.1, file_untold is_refusal status is_told held holds served.0 served.2))
  line_untold said (in_file path) (inr (inr ran)) = inr (inr record {
    unserved = ran.unserved;
    opened = ran.opened;
    ended = ran.ended;
    is = ran.is;
    ran = (ran.ran.0, ran.ran.1, ran_untold over_files held holds is_refusal status is_wanted is_told ran.opened.desk ran.ended.desk said ran.ran.0 ran.ran.2);
  })
  line_untold said in_memory (inl wants) = inl ((wants.0.0, tt), wants.1)
  line_untold said in_memory (inr (inl served)) = inr (inl (served.0, served.1, served_untold is_refusal status is_told held holds served.0 served.2))
  line_untold said in_memory (inr (inr ran)) = inr (inr record {
    unserved = ran.unserved;
    opened = ran.opened;
    ended = ran.ended;
    is = ran.is;
    ran = (ran.ran.0, ran.ran.1, ran_untold over_memory held holds is_refusal status is_wanted is_told ran.opened ran.ended said ran.ran.0 ran.ran.2);
  })

  clap_untold : (kind : ErrorKind) → IsClapWritten held holds is_refusal status is_told kind → IsClapWritten held holds is_refusal status untold kind
  clap_untold kind (inl text) = inl (text.0, text.1, text.2, text.3, tt)
  clap_untold kind (inr wants) = inr (wants.0, tt)

  fault_untold : (fault : LineFault) → IsFaultWritten held holds is_refusal status is_told fault → IsFaultWritten held holds is_refusal status untold fault
  fault_untold (Clap e) written = clap_untold (kind_of e) written
  fault_untold Usage written = (written.0, (written.1.0, tt))
  fault_untold Memory written = (written.0, tt)

  pub words_untold : (words : List (List ℕ)) → AreWordsRun is_failure unread pieces before after held holds is_refusal status is_wanted is_told words
      → AreWordsRun is_failure unread pieces before after held holds is_refusal status is_wanted untold words
  words_untold words (inl line) = inl record {
    said = line.said;
    is = line.is;
    leaves = line.leaves;
    asked = line.asked;
    ran = line_untold line.said (place_in line.said) line.ran;
  }
  words_untold words (inr none) = inr record {
    fault = none.fault;
    only = none.only;
    answers = none.answers;
    untouched = none.untouched;
    written = fault_untold none.fault none.written;
  }
