-- The check of a file: the reply, its line and the exit status.
use Rattle.std.specs.Prelude.{◌≡◌, ◌≤◌, ◌<◌, ◌⊎◌, ℕ, List, ◌++◌, length, codes, decimal}
use Rattle.std.specs.Prelude.{Bool, true, false, Option, IfSome, MatchOption}
use Rattle.std.specs.List.{sum_by}
use Rattle.std.specs.Option.{option_map_or}
use Rattle.std.specs.Io.KnownBytes.{Appends}
use Rattle.tb_conllu.specs.Fault.{MayWantMemory}
use Rattle.tb_conllu.specs.Sunk.{AppendsPart}
use Rattle.tb_conllu.specs.Text.{BlockText}
use Rattle.tb_conllu.specs.Reported.{IsFile, IsReported}
use Rattle.tb_conllu.specs.Words.{words_of}
use Rattle.tb_conllu.specs.declared.fault.ReadFault.{ReadFault}
use Rattle.tb_conllu.specs.declared.fault.ReadFault.TheVariants as read
use Rattle.tb_rules.specs.File.{IsValid, IsFaultAt, IsCutShort, HasTaken}
use Rattle.tb_rules.specs.declared.filefault.FileFault.{FileFault}
use Rattle.tb_rules.specs.declared.filefault.FileFault.TheVariants.{At}
use Rattle.tb_rules.specs.declared.filefault.FileFault.TheVariants as rules
use Rattle.tb_check.specs.Input.{IsAskedFor, IsBrokenWithin, IsInput}
use Rattle.tb_check.specs.declared.check.Survey.{Survey}
use Rattle.tb_check.specs.declared.input.Input.{Input}
use Rattle.tb_check.specs.declared.input.Input.TheVariants.{Whole}
use Rattle.tb_check.specs.declared.input.Input.TheVariants as input
use Rattle.tb_check.specs.declared.reply.CheckReply.{CheckReply}
use Rattle.tb_check.specs.declared.reply.CheckReply.TheVariants.{Counts, Read, Rule, Long, Memory, Device}

-- the words of all sentences
abbrev pub words_in : List BlockText → ℕ
words_in bs = sum_by words_of bs

-- The fault that is reported of sentences: the first that breaks a rule. Want of memory is reported only at a sentence
-- that keeps rules 1 to 6, after valid ones.
abbrev pub IsReportedFault : List BlockText → FileFault → Type 0
IsReportedFault bs (At sentence rule row) = IsFaultAt bs sentence rule row
IsReportedFault bs rules.Memory = IsCutShort bs

-- The rules of these sentences are tested: all sentences were taken, or their fault was reported.
abbrev pub IsAsked : List (List ℕ) → Option FileFault → List BlockText → Type 0
IsAsked names reported bs = MatchOption reported (HasTaken names bs) (IsReportedFault bs)

-- The survey of these sentences: how many they are, their words, and the fault of the first that breaks a rule.
abbrev pub IsSurvey : List BlockText → Survey → Type 0
IsSurvey bs s = (s.sentences ≡ length bs) × (s.words ≡ words_in bs)
    × MatchOption s.fault (IsValid bs) (IsReportedFault bs)

-- the reply for a survey, and for bytes that are no file
abbrev pub reply_of_fault : FileFault → CheckReply
reply_of_fault (At sentence rule row) = Rule sentence rule row
reply_of_fault rules.Memory = Memory

abbrev pub reply_of : Survey → CheckReply
reply_of s = option_map_or reply_of_fault s.fault (Counts s.sentences s.words)

abbrev pub reply_for : ReadFault → CheckReply
reply_for (read.At line code) = Read line code
reply_for read.Memory = Memory

-- the greatest size of a file, in bytes
abbrev pub file_limit : ℕ
file_limit = 4194304

-- The reply is true of an input. Want of memory may come in place of any other reply, where there is a byte to hold. A
-- failed device is true of no input. A rule is reported only for a file that can be read to its end.
abbrev pub IsReplyTo : ℕ → List ℕ → CheckReply → Type 0
IsReplyTo limit input (Counts sentences words) = (length input ≤ limit) × ((bs : List BlockText) × IsFile input bs
    × IsValid bs × (sentences ≡ length bs) × (words ≡ words_in bs))
IsReplyTo limit input (Read line code) = (length input ≤ limit) × IsReported input line code
IsReplyTo limit input (Rule sentence rule row) = (length input ≤ limit) × ((bs : List BlockText) × IsFile input bs
    × IsFaultAt bs sentence rule row)
IsReplyTo limit input Long = limit < length input
IsReplyTo limit input Memory = 0 < length input
IsReplyTo limit input Device = ⊥

-- whether a reply says something of the input; want of memory and a failed device do not
abbrev pub tells_of_input : CheckReply → Bool
tells_of_input (Counts sentences words) = true
tells_of_input (Read line code) = true
tells_of_input (Rule sentence rule row) = true
tells_of_input Long = true
tells_of_input Memory = false
tells_of_input Device = false

-- a reply's line
abbrev pub reply_text : CheckReply → List ℕ
reply_text (Counts sentences words) = codes "sentences " ++ decimal sentences ++ codes " words " ++ decimal words
    ++ codes "\n"
reply_text (Read line code) = codes "refused 8 Read " ++ decimal line ++ codes " " ++ decimal code ++ codes "\n"
reply_text (Rule sentence rule row) = codes "refused 9 Rule " ++ decimal sentence ++ codes " " ++ decimal rule
    ++ codes " " ++ decimal row ++ codes "\n"
reply_text Long = codes "refused long\n"
reply_text Memory = codes "refused memory\n"
reply_text Device = codes "refused device\n"

-- 0 done, 1 refused, 3 memory or device
abbrev pub status_of : CheckReply → ℕ
status_of (Counts sentences words) = 0
status_of (Read line code) = 1
status_of (Rule sentence rule row) = 1
status_of Long = 1
status_of Memory = 3
status_of Device = 3

-- The text was written whole, and the status is its own. Or the sink refused it for one of its reasons: then it holds a
-- first part of it, and the status is 3.
abbrev pub IsWritten : {Reason : Type 0} → Option (List ℕ) → Option (List ℕ) → List ℕ → ℕ
    → (Reason → Type 0) → ℕ → Type 0
IsWritten {Reason} old new text own is_refusal status =
    (Appends old new text × (status ≡ own)) ⊎ (AppendsPart old new text × ((reason : Reason) × is_refusal reason)
    × (status ≡ 3))

-- What is written and returned, where this is known of the reply.
abbrev pub Answers : {Reason : Type 0} → (CheckReply → Type 0) → Option (List ℕ) → Option (List ℕ)
    → (Reason → Type 0) → ℕ → Type 0
Answers known old new is_refusal status = (reply : CheckReply) × known reply
    × IsWritten old new (reply_text reply) (status_of reply) is_refusal status

-- The reply is true of the input, where the source's contract names it. The reply is a failed device only where the
-- source failed.
abbrev pub IsReplyToRead : {Why : Type 0} → (Why → Type 0) → ℕ → Option (List ℕ) → Option (List ℕ)
    → CheckReply → Type 0
IsReplyToRead is_failure limit old new Device = IsBrokenWithin is_failure limit old new
IsReplyToRead is_failure limit old new reply = IfSome old (λ bytes. IsReplyTo limit bytes reply)

-- The reply to what was read of an input: true of the whole input, or why that did not come. The check of a whole input
-- wants memory only where it may.
abbrev pub IsReplyToInput : ℕ → Input → CheckReply → Type 0
IsReplyToInput limit (Whole bytes) reply =
    IsReplyTo limit bytes.items reply × (reply ≡ Memory → MayWantMemory bytes.items)
IsReplyToInput limit input.TooLong reply = reply ≡ Long
IsReplyToInput limit input.Memory reply = reply ≡ Memory
IsReplyToInput limit input.Broken reply = reply ≡ Device

-- The reply to an input that was read: true of its bytes, or why they did not come. No more of it is taken. Where the
-- pieces that the source gives are counted, no read comes after its end.
abbrev pub IsReplyToTaken : {Why : Type 0} → (is_failure : Why → Type 0) → (limit : ℕ)
    → (unread left : Option (List ℕ)) → (given gives : Option (List (List ℕ))) → CheckReply → Type 0
IsReplyToTaken is_failure limit unread left given gives reply =
    (came : Input) × IsInput is_failure limit unread left came × IsAskedFor limit given gives came
    × IsReplyToInput limit came reply
