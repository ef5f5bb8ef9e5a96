-- Requests answered one after the other on one desk, each from its own bytes.
use Rattle.std.specs.Prelude.{◌≡◌, ◌≢◌, ◌⊎◌, ℕ, List, [], ◌∷◌, Option, Some, None, Result, Ok}
use Rattle.std.specs.Prelude.{Err, IsTrue, ⊤}
use Rattle.std.specs.List.{AllByRecursion}
use Rattle.sqlite.specs.Store.{Ghosts}
use Rattle.sqlite.specs.State.{HasCleanDisk, Survives}
use Rattle.sqlite.specs.Tree.{Trees}
use Rattle.sqlite.specs.Held.{state}
use Rattle.tb_tables.specs.Records.{AreStored}
use Rattle.tb_core.specs.declared.limits.Limits.{Limits}
use Rattle.tb_core.specs.Machine.{Machine}
use Rattle.tb_core.specs.Commands.{Command, Answer}
use Rattle.tb_core.specs.Steps.{Steps}
use Rattle.tb_http.specs.declared.replies.Reply.{Reply}
use Rattle.tb_http.specs.declared.replies.Reply.TheVariants.{Faulty, Memory}
use Rattle.tb_http.specs.declared.status.Status.{Status}
use Rattle.tb_http.specs.declared.status.Status.TheVariants as status
use Rattle.tb_http.specs.Actions.{Act}
use Rattle.tb_http.specs.Asks.{Outcome, refused, called, Asks, body_limit}
use Rattle.tb_http.specs.Faults.{BeginsBody}
use Rattle.tb_http.specs.Replies.{status_of}
use Rattle.tb_refine.specs.DeskTables.{tables_of}
use Rattle.tb_store.specs.Kept.{Kept}
use Rattle.tb_store.specs.Represents.{Represents}
use Rattle.tb_answer.specs.Asked.{IsBody, IsReportedOf}
use Rattle.tb_answer.specs.Calls.{CallText, commands, asks, call_asked}
use Rattle.tb_answer.specs.Commanded.{reply_for, IsFailure, IsForNone}
use Rattle.tb_answer.specs.Responses.{reply_response, body_response}
use Rattle.tb_answer.specs.declared.answering.Broken.{Broken}
use Rattle.tb_answer.specs.declared.answering.Broken.TheVariants.{Write}
use Rattle.tb_answer.specs.Served.{IsSentAs, IsReplySent, IsTextSent, IsSafeOf, Serves, outcome}

-- ---- one request, in terms of states alone

module _ (l : Limits) (s t : Machine) where
  -- A command made in s has this reply, and t is the state after it. Or it failed, and t is s; it was for no sentence
  -- that does not exist.
  abbrev pub EndsWith : Command → Reply → Type 0
  EndsWith c r =
      ((a : Answer) × Steps l s c a t × (r ≡ reply_for a))
      ⊎ (IsFailure ⊤ r × (IsForNone s c → ⊥) × (t ≡ s))

  -- the response of a call made in s, and its status; t is the state after it
  abbrev pub IsResponseTo : CallText → (text : List ℕ) → Status → Type 0
  IsResponseTo (commands c) text code = (r : Reply) × EndsWith c r × (text ≡ reply_response r)
      × (code ≡ status_of r)
  IsResponseTo (asks q) text code =
      (t ≡ s)
      × (((rev : Option ℕ) × (body : List ℕ) × IsBody s q rev body × (text ≡ body_response rev body)
      × (code ≡ status.Ok))
      ⊎ ((r : Reply) × IsReportedOf ⊤ s q r × (text ≡ reply_response r) × (code ≡ status_of r)))

  module _ {Reason : Type 0} (before after : Option (List ℕ)) (is_refusal : Reason
      → Type 0) (sent : Option Status) where
    -- a sink has the response of a command or a question; else of an export, a search or a count
    abbrev pub HasResponse : Option CallText → Act → (body : List ℕ) → Type 0
    HasResponse (Some call) act body = IsSentAs before after is_refusal sent (IsResponseTo call)
    HasResponse None act body = (t ≡ s) × IsTextSent before after is_refusal sent ⊤ l s act body

    -- the answer to what a request says
    abbrev pub HasAnswer : Outcome → Type 0
    HasAnswer (refused why) = (t ≡ s) × IsReplySent before after is_refusal sent (Faulty why)
    HasAnswer (called c) = HasResponse (call_asked c.act c.user c.body) c.act c.body

    -- The answer to the bytes of a request: to what they ask. Or memory ran out for a body that they begin, before
    -- anything was done.
    abbrev pub HasAnswerTo : (bytes : List ℕ) → Type 0
    HasAnswerTo bytes =
        ((reported : Outcome) × Asks body_limit bytes reported × HasAnswer reported)
        ⊎ ((t ≡ s) × BeginsBody body_limit bytes × IsReplySent before after is_refusal sent Memory)

  -- The bytes of a request lead from s to t: what they ask was done and answered.
  abbrev pub LeadsBy : {Reason : Type 0} → (bytes : List ℕ) → (before after : Option (List ℕ))
      → (Reason → Type 0)
      → Result Status Broken → Type 0
  LeadsBy bytes before after is_refusal result =
      (sent : Option Status) × HasAnswerTo before after is_refusal sent bytes × (result ≡ outcome sent)

-- ---- what a crash leaves

-- the command that is asked, if one is
abbrev pub command_in : Option CallText → Option Command
command_in (Some (commands c)) = Some c
command_in _ = None

abbrev pub command_of : Outcome → Option Command
command_of (refused why) = None
command_of (called c) = command_in (call_asked c.act c.user c.body)

-- the bytes ask a command, and t is a state in which it ends from s
abbrev pub Ends : Limits → (s t : Machine) → (bytes : List ℕ) → Type 0
Ends l s t bytes = (reported : Outcome) × Asks body_limit bytes reported × (c : Command)
    × (command_of reported ≡ Some c) × (a : Answer) × Steps l s c a t

-- The tables of a state to which a first part of the requests leads. Each leads to a state in which its command ends,
-- or to the same one.
abbrev pub HoldsAnEndOf : Limits → List (List ℕ) → Machine → Trees → Type 0
HoldsAnEndOf l [] s db = ⊥
HoldsAnEndOf l (b ∷ bs) s db = (t : Machine) × ((t ≡ s) ⊎ Ends l s t b) × (AreStored (tables_of t) db
    ⊎ HoldsAnEndOf l bs t db)

-- P holds of each of them but the last
abbrev pub AllButLast : {X : Type 0} → (X → Type 0) → List X → Type 0
AllButLast P [] = ⊤
AllButLast P (x ∷ xs) = (xs ≢ [] → P x) × AllButLast P xs

-- ---- requests in turn, over sinks of one kind

-- the disk kept what it took, and the store is open
abbrev pub IsSound : {S : Type 0} → Ghosts S → Kept S → Type 0
IsSound g d = HasCleanDisk (state g d.conn) × IsTrue (state g d.conn).is_open

module _ {W Reason : Type 0} (held : W → Option (List ℕ)) (is_refusal : W → Reason → Type 0) where
  -- Requests lead from s to t. Each is answered in the state that the one before left, and the sink has the responses
  -- in order. Where the sink refused a part of a response, that request is the last.
  abbrev pub Lead : Limits → List (List ℕ) → (s t : Machine) → (before after : W) → Result (Unit {0}) Broken
      → Type 0
  Lead l [] s t u v result = (t ≡ s) × (v ≡ u) × (result ≡ Ok tt)
  Lead l (b ∷ bs) s t u v result =
      ((mid : Machine) × (w : W) × (code : Status) × LeadsBy l s mid b (held u) (held w) (is_refusal w) (Ok code)
      × Lead l bs mid t w v result)
      ⊎ (LeadsBy l s t b (held u) (held v) (is_refusal v) (Err Write) × (result ≡ Err Write))

  module _ {S : Type 0} (g : Ghosts S) where
    -- they lead from each state that the desk represented to one that it represents
    abbrev pub LeadOn : List (List ℕ) → (old new : Kept S) → (before after : W) → Result (Unit {0}) Broken
        → Type 0
    LeadOn bs d e u v result =
        (s : Machine) → Represents g d s → (t : Machine) × Represents g e t × Lead d.limits bs s t u v result

    -- a crash leaves the tables that it left before, or those of a state to which some of the requests lead
    abbrev pub CrashesToAnEnd : List (List ℕ) → (old new : Kept S) → Type 0
    CrashesToAnEnd bs d e =
        (s : Machine) → Represents g d s → Survives (state g d.conn) (state g e.conn) (HoldsAnEndOf d.limits bs s)

    -- one request in memory, answered on a desk: all facts of it, on any disk
    pub record IsAnswered (bytes : List ℕ) (old new : Kept S) (before after : W) (reported : Result Status Broken) : Type 0 where
      pub answered : Serves g (Some bytes) old new (held before) (held after) (is_refusal after) reported
      pub crash : IsSafeOf g (Some bytes) old new
      pub limits : new.limits ≡ old.limits

    -- Requests answered in turn, up to the first without a whole response. Each uses the desk and the sink that the one
    -- before left. `desks` are the desk after each of them.
    abbrev pub AreAnswered : List (List ℕ) → (old new : Kept S) → (before after : W) → (desks : List (Kept S))
        → Result (Unit {0}) Broken → Type 0
    AreAnswered [] d e u v desks result = (e ≡ d) × (v ≡ u) × (desks ≡ []) × (result ≡ Ok tt)
    AreAnswered (b ∷ bs) d e u v desks result =
        ((m : Kept S) × (w : W) × (later : List (Kept S)) × (code : Status) × IsAnswered b d m u w (Ok code)
        × (desks ≡ m ∷ later) × AreAnswered bs m e w v later result)
        ⊎ (IsAnswered b d e u v (Err Write) × (desks ≡ e ∷ []) × (result ≡ Err Write))

    -- The requests are answered in turn. Where the desk is sound after each of them, they lead from the state that it
    -- represented to one that it represents. Where it is sound after each but the last, a crash leaves the tables that
    -- it left before, or those of a state to which some of the requests lead.
    abbrev pub AreServed : List (List ℕ) → (old new : Kept S) → (before after : W) → Result (Unit {0}) Broken
        → Type 0
    AreServed bs d e u v result =
        (desks : List (Kept S)) × AreAnswered bs d e u v desks result
        × (AllByRecursion (IsSound g) desks → LeadOn bs d e u v result)
        × (AllButLast (IsSound g) desks → CrashesToAnEnd bs d e)
