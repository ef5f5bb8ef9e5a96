-- The number and the text of each refusal, and the text of each fault.
use Rattle.std.specs.Prelude.{ℕ, List, ◌++◌, codes, decimal}
use Rattle.tb_core.specs.declared.refusals.Refusal.{Refusal}
use Rattle.tb_core.specs.declared.refusals.Refusal.TheVariants.{BadName, NoSuchBatch, NoSuchSentence, WrongState}
use Rattle.tb_core.specs.declared.refusals.Refusal.TheVariants.{NotYours, OwnWork, Stale, Read, Rule, Empty, NotOne}
use Rattle.tb_core.specs.declared.refusals.Refusal.TheVariants.{SentIdChanged, TextChanged, NothingChanged, NameTaken}
use Rattle.tb_core.specs.declared.refusals.Refusal.TheVariants.{SentIdTaken, Full, NoSuchRevision, Query, Pulled}
use Rattle.tb_core.specs.declared.refusals.Refusal.TheVariants.{NotPulled, TooManyHits}
use Rattle.tb_core.specs.declared.refusals.Fault.{Fault}
use Rattle.tb_core.specs.declared.refusals.Fault.TheVariants.{Refused, Memory, Device, NotADesk, Output}
use Rattle.tb_core.specs.Words.{state_word}

abbrev pub refusal_number : Refusal → ℕ
refusal_number BadName = 1
refusal_number NoSuchBatch = 2
refusal_number NoSuchSentence = 3
refusal_number (WrongState state) = 4
refusal_number NotYours = 5
refusal_number OwnWork = 6
refusal_number (Stale current) = 7
refusal_number (Read line code) = 8
refusal_number (Rule sentence rule row) = 9
refusal_number Empty = 10
refusal_number NotOne = 11
refusal_number SentIdChanged = 12
refusal_number TextChanged = 13
refusal_number NothingChanged = 14
refusal_number NameTaken = 15
refusal_number (SentIdTaken sentence) = 16
refusal_number Full = 17
refusal_number NoSuchRevision = 18
refusal_number (Query code number) = 19
refusal_number Pulled = 20
refusal_number NotPulled = 21
refusal_number TooManyHits = 22

abbrev pub refusal_text : Refusal → List ℕ
refusal_text BadName = codes "refused 1 BadName"
refusal_text NoSuchBatch = codes "refused 2 NoSuchBatch"
refusal_text NoSuchSentence = codes "refused 3 NoSuchSentence"
refusal_text (WrongState state) = codes "refused 4 WrongState " ++ state_word state
refusal_text NotYours = codes "refused 5 NotYours"
refusal_text OwnWork = codes "refused 6 OwnWork"
refusal_text (Stale current) = codes "refused 7 Stale " ++ decimal current
refusal_text (Read line code) = codes "refused 8 Read " ++ decimal line ++ codes " " ++ decimal code
refusal_text (Rule sentence rule row) = codes "refused 9 Rule " ++ decimal sentence ++ codes " " ++ decimal rule
    ++ codes " " ++ decimal row
refusal_text Empty = codes "refused 10 Empty"
refusal_text NotOne = codes "refused 11 NotOne"
refusal_text SentIdChanged = codes "refused 12 SentIdChanged"
refusal_text TextChanged = codes "refused 13 TextChanged"
refusal_text NothingChanged = codes "refused 14 NothingChanged"
refusal_text NameTaken = codes "refused 15 NameTaken"
refusal_text (SentIdTaken sentence) = codes "refused 16 SentIdTaken " ++ decimal sentence
refusal_text Full = codes "refused 17 Full"
refusal_text NoSuchRevision = codes "refused 18 NoSuchRevision"
refusal_text (Query code number) = codes "refused 19 Query " ++ decimal code ++ codes " " ++ decimal number
refusal_text Pulled = codes "refused 20 Pulled"
refusal_text NotPulled = codes "refused 21 NotPulled"
refusal_text TooManyHits = codes "refused 22 TooManyHits"

abbrev pub fault_text : Fault → List ℕ
fault_text (Refused refusal) = refusal_text refusal
fault_text Memory = codes "refused memory"
fault_text Device = codes "refused device"
fault_text NotADesk = codes "refused desk"
fault_text Output = codes "the writer failed"
