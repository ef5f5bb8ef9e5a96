-- Between crates: no contract of a front door cites a definition of this module.
-- What an accepted import writes and answers, and what an import leaves.
use Rattle.std.specs.Prelude.{◌≡◌, ℕ, ◌+◌, List, Option, Some, None, length, map}
use Rattle.sqlite.specs.Store.{Ghosts}
use Rattle.sqlite.specs.Held.{Held}
use Rattle.tb_conllu.specs.Text.{BlockText}
use Rattle.tb_core.specs.declared.limits.Limits.{Limits}
use Rattle.tb_core.specs.declared.kinds.Kind.TheVariants.{Import}
use Rattle.tb_core.specs.declared.kinds.State.TheVariants.{Opened}
use Rattle.tb_core.specs.declared.replies.Imported.{Imported}
use Rattle.tb_core.specs.declared.sums.Totals.{Totals}
use Rattle.tb_core.specs.Moves.{MoveText}
use Rattle.tb_core.specs.Machine.{Machine}
use Rattle.tb_core.specs.Acts.{importing}
use Rattle.tb_core.specs.Commands.{import_file, imported, replied, reply_to}
use Rattle.tb_core.specs.Steps.{Steps}
use Rattle.tb_core.specs.Taking.{NewSentenceText}
use Rattle.tb_core.specs.Totals.{AreTotalsOf}
use Rattle.tb_tables.specs.Commands.{NewSentenceRecord}
use Rattle.tb_refine.specs.DeskTables.{IsDeskOf}
use Rattle.tb_refine.specs.Written.{item_of}
use Rattle.tb_refine.specs.Counted.{IsCounted, IsPrepared}
use Rattle.tb_import.specs.declared.counters.ImportCounters.{ImportCounters}
use Rattle.tb_import.specs.declared.planning.ImportPlan.{ImportPlan}

-- what a desk keeps beside the tables is that of this state
pub record IsKnown (k : ImportCounters) (s : Machine) : Type 0 where
  pub counted : IsCounted k.counts s
  pub batches : k.batches ≡ length s.batches
  pub sentences : k.sentences ≡ length s.sentences

-- a new sentence, in the form in which it is written
abbrev pub item_reported : NewSentenceText → NewSentenceRecord
item_reported t = record { sent_id = t.sent_id; words = t.words; body = t.text }

-- the move of an import with these numbers of sentences and words
abbrev pub import_move : (counted number sentences words : ℕ) → (user : List ℕ) → MoveText
import_move counted number sentences words user = record {
  no = counted;
  kind = Import;
  batch = number;
  sent = 0;
  from = None;
  to = Opened;
  sentences = sentences;
  words_out = 0;
  words_in = words;
  who = user;
}

-- the batch and the first of its sentences have the next numbers, and the items are the sentences of the file
pub record IsMadeBatch (s : Machine) (number first : ℕ) (bodies : List BlockText) (items : List NewSentenceRecord) : Type 0 where
  pub next : number ≡ 1 + length s.batches
  pub first_next : first ≡ 1 + length s.sentences
  pub reported : items ≡ map item_of bodies

-- the plan is that of the import of these sentences
pub record IsPlannedImport (s : Machine) (name user : List ℕ) (bs : List BlockText) (p : ImportPlan) : Type 0 where
  pub number : p.number ≡ 1 + length s.batches
  pub first : p.first ≡ 1 + length s.sentences
  pub prepared : IsPrepared s (importing name user bs) p.prepared
  pub reply : imported p.reply ≡ reply_to s (importing name user bs)

-- The import has this reply, the desk represents the next state, and these are its totals. The next state has one batch
-- and one move more, and the sentences of the reply.
pub record HasImported {S : Type 0} (g : Ghosts S) (l : Limits) (s : Machine) (name user body : List ℕ) (new : Held S) (reply : Imported) (t : Totals) : Type 0 where
  pub next : Machine
  pub steps : Steps l s (import_file name user body) (replied (imported reply)) next
  pub desk : IsDeskOf g new next
  pub totals : AreTotalsOf t next
  pub batches : length next.batches ≡ length s.batches + 1
  pub sentences : length next.sentences ≡ length s.sentences + reply.sentences
  pub moves : length next.moves ≡ length s.moves + 1

-- An import with a reply. A repeat leaves the desk unchanged.
abbrev pub Imports : {S : Type 0} → Ghosts S → Limits → Machine → (name user body : List ℕ) → Held S
    → Imported → Option Totals → Type 0
Imports g l s name user body new reply None = Steps l s (import_file name user body) (replied (imported reply)) s
    × IsDeskOf g new s
Imports g l s name user body new reply (Some t) = HasImported g l s name user body new reply t
