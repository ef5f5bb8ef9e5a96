-- Between crates: no contract of a front door cites a definition of this module.
-- What is read of a sentence before it is corrected, and what a correction writes.
use Rattle.std.specs.Prelude.{◌≡◌, ℕ, ◌+◌, ◌-◌, List, [], ◌∷◌, Option, Some, None, slice_get, string_bytes}
use Rattle.sqlite.specs.Store.{Ghosts}
use Rattle.sqlite.specs.Held.{Held}
use Rattle.tb_conllu.specs.Text.{BlockText, text_of}
use Rattle.tb_conllu.specs.Words.{words_of}
use Rattle.tb_core.specs.declared.limits.Limits.{Limits}
use Rattle.tb_core.specs.declared.kinds.Kind.TheVariants.{Correct}
use Rattle.tb_core.specs.declared.replies.Corrected.{Corrected}
use Rattle.tb_core.specs.Machine.{Machine, Sentence}
use Rattle.tb_core.specs.Machine.{rev as rev_of}
use Rattle.tb_core.specs.Acts.{correcting, IsAllowed, after}
use Rattle.tb_core.specs.Commands.{correct, corrected_to, replied}
use Rattle.tb_core.specs.Steps.{Steps}
use Rattle.tb_refine.specs.DeskTables.{IsDeskOf}
use Rattle.tb_core.specs.Found.{CurrentSeen}
use Rattle.tb_commands.specs.declared.correcting.CurrentRead.{CurrentRead}
use Rattle.tb_commands.specs.ReadOf.{IsSentenceRead}
use Rattle.tb_commands.specs.Working.{IsDone}
use Rattle.tb_refine.specs.Recorded.{IsWritten}
use Rattle.tb_tables.specs.declared.recording.MoveWrite.{MoveWrite}
use Rattle.tb_core.specs.declared.sums.Totals.{Totals}
use Rattle.tb_core.specs.Moves.{MoveText}
use Rattle.tb_core.specs.Totals.{AreTotalsOf}

-- ---- what is read

-- the sentence; and who gave its current revision, with that revision's text
pub record IsCurrentRead (s : Machine) (x : Sentence) (f : CurrentRead) : Type 0 where
  pub sentence : IsSentenceRead s x f.sentence
  pub who : string_bytes f.who ≡ x.current.who
  pub body : string_bytes f.body ≡ text_of (x.current.body ∷ [])

abbrev pub current_seen : CurrentRead → CurrentSeen
current_seen f = record {
  state = f.sentence.state;
  worker = string_bytes f.sentence.worker;
  pulled = f.sentence.pulled;
  rev = f.sentence.rev;
  who = string_bytes f.who;
  body = string_bytes f.body;
  words = f.sentence.words;
}

-- ---- what is written

-- the sentence has this number, and the revision after its current one has this body
pub record IsMadeRevision (s : Machine) (number : ℕ) (body : BlockText) (x : Sentence) (rev words : ℕ) (text : List ℕ) : Type 0 where
  pub there : slice_get s.sentences (number - 1) ≡ Some x
  pub next : rev ≡ rev_of x + 1
  pub counted : words ≡ words_of body
  pub reported : text ≡ text_of (body ∷ [])

-- the move of a correction of the sentence with this number, which was read so, to so many words
abbrev pub correction_move : (counted number : ℕ) → CurrentRead → (words : ℕ) → (user : List ℕ) → MoveText
correction_move counted number f words user = record {
  no = counted;
  kind = Correct;
  batch = f.sentence.batch;
  sent = number;
  from = Some f.sentence.state;
  to = f.sentence.state;
  sentences = 1;
  words_out = f.sentence.words;
  words_in = words;
  who = user;
}

-- the number, the words and the text of the new revision; its move; and the totals after it
pub record PlanText : Type 0 where
  pub rev : ℕ
  pub words : ℕ
  pub text : List ℕ
  pub change : MoveWrite
  pub totals : Totals

-- what is written corrects the sentence with this number to this text
pub record IsPlannedCorrection (s : Machine) (n : ℕ) (user : List ℕ) (b : BlockText) (p : PlanText) : Type 0 where
  pub sentence : Sentence
  pub made : IsMadeRevision s n b sentence p.rev p.words p.text
  pub change : IsWritten s (correcting (n - 1) user b) p.change
  pub totals : AreTotalsOf p.totals (after s (correcting (n - 1) user b))

-- A correction that is not refused, with its reply. A repeat writes nothing; any other correction writes its revision.
abbrev pub Decides : Limits → Machine → (n base : ℕ) → (user body : List ℕ) → Corrected → Option PlanText
    → Type 0
Decides l s n base user body reply None = Steps l s (correct n base user body) (replied (corrected_to reply)) s
Decides l s n base user body reply (Some p) =
    (b : BlockText) × IsPlannedCorrection s n user b p × IsAllowed s (correcting (n - 1) user b)
    × Steps l s (correct n base user body) (replied (corrected_to reply)) (after s (correcting (n - 1) user b))

-- ---- what a correction leaves

-- A correction with a reply. A repeat leaves the desk as it was.
abbrev pub Corrects : {S : Type 0} → Ghosts S → Limits → Machine → (n base : ℕ) → (user body : List ℕ)
    → Held S → Corrected → Option Totals → Type 0
Corrects g l s n base user body new reply None = Steps l s (correct n base user body) (replied (corrected_to reply)) s
    × IsDeskOf g new s
Corrects g l s n base user body new reply (Some t) = IsDone g l s (correct n base user body) (corrected_to reply) new t
