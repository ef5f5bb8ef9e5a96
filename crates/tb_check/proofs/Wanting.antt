-- Where the check of a file wants memory, it may.
use Rattle.std.proofs.Common.{◌≡◌, ℕ, ◌<◌, List, ◌∷◌, length, length-append, ap, arith, refl, Option, Some, None}
use Rattle.std.specs.Prelude.{MatchOption}
use Rattle.std.specs.Option.{option_map_or}
use Rattle.tb_conllu.specs.Fault.{MayWantMemory}
use Rattle.tb_conllu.specs.Left.{Left}
use Rattle.tb_conllu.specs.Reported.{IsFile}
use Rattle.tb_conllu.specs.Text.{BlockText}
use Rattle.tb_conllu.specs.declared.fault.ReadFault.{ReadFault}
use Rattle.tb_conllu.specs.declared.fault.ReadFault.TheVariants as read
use Rattle.tb_conllu.proofs.Files.{some_text}
use Rattle.tb_conllu.proofs.Shortage.{file_wants, rest_wants}
use Rattle.tb_rules.specs.File.{IsCutShort, IsValid}
use Rattle.tb_rules.specs.declared.filefault.FileFault.{FileFault}
use Rattle.tb_rules.specs.declared.filefault.FileFault.TheVariants as rules
use Rattle.tb_check.specs.Check.{IsReportedFault, reply_for, reply_of_fault}
use Rattle.tb_check.specs.declared.reply.CheckReply.TheVariants.{Counts, Memory}
use Rattle.tb_check.proofs.Counted.{IsCounted}

-- a file of which a sentence was being tested
cut_wants : (file : List ℕ) (bs : List BlockText) → IsFile file bs → IsCutShort bs → MayWantMemory file
cut_wants file bs h cut =
    let some : 0 < length bs = omega (arith, ap length cut.whole, length-append cut.before (cut.next ∷ cut.after)) in
    file_wants file bs h.shaped h.text (omega (arith, some_text bs some, ap length h.text))

-- want of memory that a survey tells
pub told_wants : (file : List ℕ) (bs : List BlockText) (fault : Option FileFault) (sentences words : ℕ) → IsFile file bs → MatchOption fault (IsValid bs) (IsReportedFault bs)
    → option_map_or reply_of_fault fault (Counts sentences words) ≡ Memory → MayWantMemory file
told_wants file bs None sentences words h told is = absurd (let never : Counts sentences words ≡ Memory = is in cc)
told_wants file bs (Some (rules.At sentence rule row)) sentences words h told is = absurd cc
told_wants file bs (Some rules.Memory) sentences words h told is = cut_wants file bs h told

-- want of memory for bytes that are no file
pub fault_wants : (file : List ℕ) (e : ReadFault) → (e ≡ read.Memory → MayWantMemory file) → reply_for e ≡ Memory → MayWantMemory file
fault_wants file (read.At line code) h is = absurd cc
fault_wants file read.Memory h is = h refl

-- memory was wanting after some sentences
pub counted_wants : (file : List ℕ) (unread : Left) (s w : ℕ) (bs : List BlockText) (e : ReadFault) → IsCounted file unread s w bs → (e ≡ read.Memory → MayWantMemory unread.rest) → e ≡ read.Memory
    → MayWantMemory file
counted_wants file unread s w bs e h wants is = rest_wants file bs unread.rest h.shaped h.whole (wants is)
