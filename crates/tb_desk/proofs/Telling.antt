-- What is told, by what is reported.
use Rattle.std.proofs.Common.{◌≡◌, Bool, Option, None, Some, MatchOption, is_some, refl, sym, ap, subst}
use Rattle.std.proofs.lemmas.Bool.{true≢false}
use Rattle.tb_check.specs.declared.reply.CheckReply.{CheckReply}
use Rattle.tb_http.specs.declared.replies.Reply.{Reply}
use Rattle.tb_host.specs.Reported.{IsTold}
use Rattle.tb_host.specs.declared.diagnostics.Diagnostic.{Diagnostic}
use Rattle.tb_desk.specs.Explaining.{IsExplained, ReportsNoWords}
use Rattle.tb_desk.specs.Told.{HasNoWords, IsCheckExplainedBy, IsExplainedBy, IsOwnCause, WithTold, reply_as_the_desk}

pub explained_so : (is_wanted : Bool) (r : Reply) (reported : Option Diagnostic) → IsExplained is_wanted r reported → WithTold (IsTold reported) (IsExplainedBy is_wanted r)
explained_so is_wanted r None said = (None, refl, said)
explained_so is_wanted r (Some d) said = (Some d.cause, refl, said)

checked_as : (is_wanted : Bool) (as_the_desk : Option Reply) (reported : Option Diagnostic) → MatchOption as_the_desk (reported ≡ None) (λ r. IsExplained is_wanted r reported)
    → WithTold (IsTold reported) (λ told. MatchOption as_the_desk (told ≡ None) (λ r. IsExplainedBy is_wanted r told))
checked_as is_wanted None reported none = (None, none, refl)
checked_as is_wanted (Some r) reported said = explained_so is_wanted r reported said

pub checked_so : (is_wanted : Bool) (reply : CheckReply) (reported : Option Diagnostic) → MatchOption (reply_as_the_desk reply) (reported ≡ None) (λ r. IsExplained is_wanted r reported)
    → WithTold (IsTold reported) (IsCheckExplainedBy is_wanted reply)
checked_so is_wanted reply reported said = checked_as is_wanted (reply_as_the_desk reply) reported said

pub no_words_so : (is_wanted : Bool) (reported : Option Diagnostic) → ReportsNoWords is_wanted reported → WithTold (IsTold reported) (HasNoWords is_wanted)
no_words_so is_wanted None none = (None, refl, λ _. tt)
no_words_so is_wanted (Some d) none = (Some d.cause, refl, none)

pub no_words_of : (is_wanted : Bool) (reported : Option Diagnostic) → WithTold (IsTold reported) (HasNoWords is_wanted) → ReportsNoWords is_wanted reported
no_words_of is_wanted None told unwanted = tt
no_words_of is_wanted (Some d) (None, is, none) unwanted = absurd (true≢false (ap is_some is))
no_words_of is_wanted (Some d) (Some cause, is, none) unwanted = subst IsOwnCause (sym is) (none unwanted)
