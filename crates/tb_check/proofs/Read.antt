-- The reply for what was read is the reply for the input.
use Rattle.std.proofs.Common.{◌≤◌, ◌<◌, ℕ, List, length, length-append, Option, Some, None, ap, sym, subst, arith}
use Rattle.std.specs.Prelude.{IfSome}
use Rattle.std.specs.Io.KnownBytes.{Consumes, IsAtEnd}
use Rattle.std.proofs.KnownBytes.{Consumes-whole}
use Rattle.tb_conllu.specs.Fault.{IsReadFault}
use Rattle.tb_conllu.specs.declared.fault.ReadFault.{ReadFault}
use Rattle.tb_conllu.specs.declared.fault.ReadFault.TheVariants as read
use Rattle.tb_check.specs.Check.{Answers, IsReplyTo, IsReplyToInput, IsReplyToRead, IsReplyToTaken, reply_for}
use Rattle.tb_check.specs.Input.{IsInput, IsWithin}
use Rattle.tb_check.specs.declared.input.Input.{Input}
use Rattle.tb_check.specs.declared.input.Input.TheVariants as input
use Rattle.tb_check.specs.declared.reply.CheckReply.{CheckReply}
use Rattle.tb_check.specs.declared.reply.CheckReply.TheVariants.{Counts, Read, Rule, Long, Memory, Device}

pub read_fault : (limit : ℕ) (file : List ℕ) (e : ReadFault) → length file ≤ limit → IsReadFault file e → IsReplyTo limit file (reply_for e)
read_fault limit file (read.At line code) few is = (few, is)
read_fault limit file read.Memory few is = is

more_than : (n : ℕ) (old new : Option (List ℕ)) (taken : List ℕ) → n < length taken → Consumes old new taken → IfSome old (λ bytes. n < length bytes)
more_than n None new taken low h = tt
more_than n (Some xs) None taken low h = absurd h
more_than n (Some xs) (Some ys) taken low h = let all = ap length h in omega (arith, all, length-append taken ys, low)

module _ {Why : Type 0} (is_failure : Why → Type 0) (limit : ℕ) (old new : Option (List ℕ)) where
  pub within : (i : Input) → IsInput is_failure limit old new i → IsWithin limit i
  within (input.Whole bytes) h = h.2
  within input.TooLong h = tt
  within input.Memory h = tt
  within input.Broken h = tt

  whole_reply : (bytes : List ℕ) (r : CheckReply) → Consumes old new bytes → IsAtEnd new → IsReplyTo limit bytes r → IsReplyToRead is_failure limit old new r
  whole_reply bytes (Counts sentences words) taken end is = Consumes-whole old new bytes (λ b. IsReplyTo limit b (Counts sentences words)) taken end is
  whole_reply bytes (Read line code) taken end is = Consumes-whole old new bytes (λ b. IsReplyTo limit b (Read line code)) taken end is
  whole_reply bytes (Rule sentence rule row) taken end is = Consumes-whole old new bytes (λ b. IsReplyTo limit b (Rule sentence rule row)) taken end is
  whole_reply bytes Long taken end is = Consumes-whole old new bytes (λ b. IsReplyTo limit b Long) taken end is
  whole_reply bytes Memory taken end is = Consumes-whole old new bytes (λ b. IsReplyTo limit b Memory) taken end is
  whole_reply bytes Device taken end is = absurd is

  pub read_reply : (i : Input) (r : CheckReply) → IsInput is_failure limit old new i → IsReplyToInput limit i r → IsReplyToRead is_failure limit old new r
  read_reply (input.Whole bytes) r h is = whole_reply bytes.items r h.0 h.1 is.0
  read_reply input.TooLong r h is = subst (IsReplyToRead is_failure limit old new) (sym is) (more_than limit old new h.0 (omega (arith, h.2)) h.1)
  read_reply input.Memory r h is = subst (IsReplyToRead is_failure limit old new) (sym is) (more_than 0 old new h.0 h.2.0 h.1)
  read_reply input.Broken r h is = subst (IsReplyToRead is_failure limit old new) (sym is) h

  pub taken_reply : (given gives : Option (List (List ℕ))) (r : CheckReply) → IsReplyToTaken is_failure limit old new given gives r → IsReplyToRead is_failure limit old new r
  taken_reply given gives r (came, h, asked, is) = read_reply came r h is

-- over bytes that never fail
module _ {Why : Type 0} (is_failure : Why → Type 0) (never : (why : Why) → is_failure why → ⊥) (limit : ℕ) (bytes : List ℕ) (left : Option (List ℕ)) where
  sure_reply : (r : CheckReply) → IsReplyToRead is_failure limit (Some bytes) left r → IsReplyTo limit bytes r
  sure_reply (Counts sentences words) h = h
  sure_reply (Read line code) h = h
  sure_reply (Rule sentence rule row) h = h
  sure_reply Long h = h
  sure_reply Memory h = h
  sure_reply Device h = absurd (never h.0.0 h.0.1)

  pub sure_answer : {Reason : Type 0} (given gives : Option (List (List ℕ))) (old new : Option (List ℕ)) (is_refusal : Reason → Type 0) (status : ℕ)
      → Answers (IsReplyToTaken is_failure limit (Some bytes) left given gives) old new is_refusal status → Answers (IsReplyTo limit bytes) old new is_refusal status
  sure_answer given gives old new is_refusal status (reply, known, written) =
      (reply, sure_reply reply (taken_reply is_failure limit (Some bytes) left given gives reply known), written)
