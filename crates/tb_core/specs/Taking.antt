-- How the body of an import or of a correction is read: as the sentences of a file, or as a refusal.
use Rattle.std.specs.Prelude.{◌≡◌, ℕ, ◌<◌, List, [], ◌∷◌, length}
use Rattle.tb_conllu.specs.Text.{BlockText, text_of}
use Rattle.tb_conllu.specs.Words.{words_of}
use Rattle.tb_conllu.specs.Reported.{IsFile}
use Rattle.tb_conllu.specs.declared.fault.ReadFault.{ReadFault}
use Rattle.tb_conllu.specs.declared.fault.ReadFault.TheVariants as reading
use Rattle.tb_rules.specs.File.{IsValid}
use Rattle.tb_rules.specs.declared.filefault.FileFault.{FileFault}
use Rattle.tb_rules.specs.declared.filefault.FileFault.TheVariants as rules
use Rattle.tb_core.specs.Machine.{sent_id_of, text_value_of}
use Rattle.tb_core.specs.Tests.{IsUnread, IsBroken, IsEmpty, IsNotOne}
use Rattle.tb_core.specs.declared.refusals.Refusal.{Refusal}
use Rattle.tb_core.specs.declared.refusals.Refusal.TheVariants.{Read, Rule, SentIdChanged, TextChanged, NothingChanged}
use Rattle.tb_core.specs.declared.refusals.Fault.{Fault}
use Rattle.tb_core.specs.declared.refusals.Fault.TheVariants.{Refused, Memory, Device, NotADesk, Output}

-- what is kept of a new sentence: its name, how many words it has, and its text
pub record NewSentenceText : Type 0 where
  pub sent_id : List ℕ
  pub words : ℕ
  pub text : List ℕ

abbrev pub taken_of : BlockText → NewSentenceText
taken_of b = record { sent_id = sent_id_of b; words = words_of b; text = text_of (b ∷ []) }

-- The body is a file of these sentences. There is at least one, and they are valid.
pub record IsBody (body : List ℕ) (bs : List BlockText) : Type 0 where
  pub file : IsFile body bs
  pub valid : IsValid bs
  pub some : 0 < length bs

-- A body is refused where a line cannot be read; where all can, and a sentence breaks a rule; where it has no sentence.
pub data IsBodyRefused (body : List ℕ) (r : Refusal) : Type 0 where
  unread : IsUnread body r → IsBodyRefused body r
  broken : IsBroken body r → IsBodyRefused body r
  empty : IsEmpty body r → IsBodyRefused body r

-- The body corrects the sentence to this one: it has the same name and the same text, and differs.
pub record IsCorrection (body : List ℕ) (current b : BlockText) : Type 0 where
  pub taken : IsBody body (b ∷ [])
  pub named : sent_id_of b ≡ sent_id_of current
  pub spelled : text_value_of b ≡ text_value_of current
  pub new : b ≡ current → ⊥

-- What is wrong with a sentence as a correction of the current one, in the order of the tests.
pub data IsUnfit (b current : BlockText) : Refusal → Type 0 where
  other_name : (sent_id_of b ≡ sent_id_of current → ⊥) → IsUnfit b current SentIdChanged
  other_text : sent_id_of b ≡ sent_id_of current → (text_value_of b ≡ text_value_of current → ⊥)
      → IsUnfit b current TextChanged
  nothing_new : b ≡ current → IsUnfit b current NothingChanged

-- The body of a correction is refused as any body, where it has more than one sentence, or where its sentence is unfit.
pub data IsCorrectionRefused (body : List ℕ) (current : BlockText) (r : Refusal) : Type 0 where
  as_body : IsBodyRefused body r → IsCorrectionRefused body current r
  not_one : (bs : List BlockText) → IsBody body bs → IsNotOne body r → IsCorrectionRefused body current r
  unfit : (b : BlockText) → IsBody body (b ∷ []) → IsUnfit b current r → IsCorrectionRefused body current r

-- want of memory is possible in place of any refusal, and no other fault is
abbrev pub IsTakingFault : (Refusal → Type 0) → Fault → Type 0
IsTakingFault is_refused (Refused r) = is_refused r
IsTakingFault is_refused Memory = Unit {0}
IsTakingFault is_refused Device = ⊥
IsTakingFault is_refused NotADesk = ⊥
IsTakingFault is_refused Output = ⊥

-- a fault of reading, and one of the rules, as a desk reports it
abbrev pub fault_of_reading : ReadFault → Fault
fault_of_reading (reading.At line code) = Refused (Read line code)
fault_of_reading reading.Memory = Memory

abbrev pub fault_of_rules : FileFault → Fault
fault_of_rules (rules.At sentence rule row) = Refused (Rule sentence rule row)
fault_of_rules rules.Memory = Memory
