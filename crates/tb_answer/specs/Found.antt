-- The answers of a search and of a count of released text, on the command line and over HTTP.
use Rattle.std.specs.Prelude.{◌≡◌, ◌⊎◌, ◌++◌, ℕ, List, [], length, Option, Some, None, Result, IfOk}
use Rattle.std.specs.Io.KnownBytes.{Appends}
use Rattle.sqlite.specs.Store.{Ghosts}
use Rattle.sqlite.specs.Held.{state}
use Rattle.sqlite.specs.State.{HasCleanDisk}
use Rattle.tb_conllu.specs.Sunk.{AppendsPart}
use Rattle.tb_match.specs.declared.strategy.Strategy.{Strategy}
use Rattle.tb_syntax.specs.declared.lexeme.Attr.{Attr}
use Rattle.tb_syntax.specs.Reading.{IsQueryText}
use Rattle.tb_query.specs.declared.fault.QueryFault.{QueryFault}
use Rattle.tb_query.specs.declared.fault.QueryFault.TheVariants as fault
use Rattle.tb_query.specs.Reading.{IsQuery, IsFault}
use Rattle.tb_query.specs.Search.{Asked}
use Rattle.tb_core.specs.declared.limits.Limits.{Limits}
use Rattle.tb_core.specs.declared.refusals.Refusal.TheVariants as refusal
use Rattle.tb_core.specs.Machine.{Machine}
use Rattle.tb_tables.specs.Leaving.{CommitsNothing}
use Rattle.tb_report.specs.Csv.{freq_csv}
use Rattle.tb_report.specs.Tables.{Row, IsTableOf, IsRankingOf, total_of}
use Rattle.tb_http.specs.declared.heads.Extra.TheVariants as extra
use Rattle.tb_http.specs.declared.replies.Reply.{Reply}
use Rattle.tb_http.specs.declared.replies.Reply.TheVariants as reply
use Rattle.tb_http.specs.declared.status.Status.{Status}
use Rattle.tb_http.specs.declared.status.Status.TheVariants.{Ok}
use Rattle.tb_http.specs.Heads.{head_text}
use Rattle.tb_http.specs.Replies.{reply_text, status_of, exit_of}
use Rattle.tb_search.specs.Searched.{Occurrence, answer, keys, lines}
use Rattle.tb_search.specs.Visited.{HasReason}
use Rattle.tb_store.specs.Calls.{Does, GivesOnErr}
use Rattle.tb_store.specs.Found.{AreReleasedHits, HasTooMany, IsAbove}
use Rattle.tb_store.specs.Kept.{Kept}
use Rattle.tb_store.specs.Represents.{Represents}
use Rattle.tb_answer.specs.declared.finding.Search.{Search}
use Rattle.tb_answer.specs.declared.finding.Count.{Count}
use Rattle.tb_answer.specs.declared.ending.Ending.{Ending}
use Rattle.tb_answer.specs.declared.ending.Ending.TheVariants.{Whole, BrokenOff, Refused}
use Rattle.tb_answer.specs.declared.written.Written.{Written}
use Rattle.tb_answer.specs.declared.written.Written.TheVariants as written
use Rattle.tb_answer.specs.Commanded.{HasFailed, IsFailure}
use Rattle.tb_answer.specs.OnlyRead.{IsOnlyRead}
use Rattle.tb_answer.specs.Output.{IsWritten}
use Rattle.tb_answer.specs.Responses.{reply_response, body_response, IsSent}

-- ---- the query

-- a search and a count, as plain data
pub record SearchText : Type 0 where
  pub query : List ℕ
  pub strategy : Strategy
  pub context : ℕ

pub record CountText : Type 0 where
  pub query : List ℕ
  pub strategy : Strategy
  pub column : Attr

abbrev pub search_by : Search → SearchText
search_by x = record { query = x.query.now; strategy = x.strategy; context = x.context }

abbrev pub count_by : Count → CountText
count_by x = record { query = x.query.now; strategy = x.strategy; column = x.column }

-- ---- why nothing is found

-- the reply for the fault of a text that is no query: its code, and its byte or its literal, else 0
abbrev pub query_reply : QueryFault → Reply
query_reply fault.TooLong = reply.Refused (refusal.Query 1 0)
query_reply (fault.Syntax byte) = reply.Refused (refusal.Query 2 byte)
query_reply fault.TooMany = reply.Refused (refusal.Query 3 0)
query_reply fault.TooDeep = reply.Refused (refusal.Query 4 0)
query_reply fault.Repeat = reply.Refused (refusal.Query 5 0)
query_reply (fault.Pattern literal) = reply.Refused (refusal.Query 6 literal)
query_reply fault.Memory = reply.Memory

-- The reply names a fault of the text. Memory runs out only for a text that is a query within the limits.
abbrev pub IsQueryReply : List ℕ → Reply → Type 0
IsQueryReply text reported = (e : QueryFault) × IsFault text e × (reported ≡ query_reply e)
    × (e ≡ fault.Memory → IsQueryText text)

-- the reply says that there are too many hits, or is a failure of the call with this cause
abbrev pub IsLimitReply : (cause : Type 0) → Limits → Machine → Asked → Strategy → Reply → Type 0
IsLimitReply cause l s q strategy reported = (HasTooMany s q strategy l.hits
    × (reported ≡ reply.Refused refusal.TooManyHits)) ⊎ IsFailure cause reported

-- The answer in place of what a query finds: the fault of its text, too many hits, or a failure.
abbrev pub IsReportedOfQuery : (cause : Type 0) → Limits → Machine → List ℕ → Strategy → Reply → Type 0
IsReportedOfQuery cause l s text strategy reported = IsQueryReply text reported ⊎ ((q : Asked) × IsQuery text q
    × IsLimitReply cause l s q strategy reported)

-- the hits of the query in a state are within the limit
abbrev pub IsAllowed : Limits → Machine → Asked → Strategy → Type 0
IsAllowed l s q strategy = (found : List Occurrence) → AreReleasedHits s q strategy found
    → IsAbove strategy l.hits (length found) → ⊥

-- the text is this query, and its hits in a state are within the limit
abbrev pub IsAskedQuery : Limits → Machine → List ℕ → Strategy → Asked → Type 0
IsAskedQuery l s text strategy q = IsQuery text q × IsAllowed l s q strategy

-- The query is handed on where its hits are within the limit of the desk. Else a reply says why not.
pub record IsLimited {S : Type 0} (g : Ghosts S) (query : Asked) (strategy : Strategy) (old new : Kept S) (result : Result Asked Reply) : Type 0 where
  pub allowed : HasCleanDisk (state g new.conn) → IfOk result (λ q. (q ≡ query)
      × ((s : Machine) → Represents g old s → IsAllowed old.limits s query strategy))
  pub reported : GivesOnErr g old new result (λ s r. IsLimitReply (HasFailed g old new) old.limits s query strategy r)
  pub stays : Does g old new result (λ s. Represents g new s)
  pub read_only : IsOnlyRead g old new
  pub commits_nothing : CommitsNothing g old.conn new.conn

-- ---- a search, whose lines are written as they are found

-- What a sink has after a head, by the ending of the search. `Whole` has the whole answer, with so many hits.
-- `BrokenOff` has the whole keyword lines of the first hits, without the last line. `Refused` has a first part of the
-- answer.
abbrev pub IsStreamed : Machine → Asked → Strategy → ℕ → (head : List ℕ) → (old new : Option (List ℕ))
    → Ending → Type 0
IsStreamed s q strategy n head old new (Whole hits) = (found : List Occurrence) × AreReleasedHits s q strategy found
    × Appends old new (head ++ answer n found) × (hits ≡ length found)
IsStreamed s q strategy n head old new BrokenOff =
    (found : List Occurrence) → AreReleasedHits s q strategy found → (first : List Occurrence)
    × (rest : List Occurrence) × (found ≡ first ++ rest) × Appends old new (head ++ lines n first)
IsStreamed s q strategy n head old new Refused = (found : List Occurrence) → AreReleasedHits s q strategy found
    → AppendsPart old new (head ++ answer n found)

-- the text is a query, and what it finds was written after a head, as this ending says; the sink refused for one of its
-- reasons
abbrev pub IsFound : {Reason : Type 0} → Limits → Machine → SearchText → (head : List ℕ)
    → (old new : Option (List ℕ)) → (Reason → Type 0) → Ending → Type 0
IsFound l s x head old new is_refusal e =
    (q : Asked) × IsAskedQuery l s x.query x.strategy q × IsStreamed s q x.strategy x.context head old new e
    × (e ≡ Refused → HasReason is_refusal)

abbrev pub exit_of_ending : Ending → ℕ
exit_of_ending (Whole hits) = 0
exit_of_ending BrokenOff = 3
exit_of_ending Refused = 3

-- over HTTP the status is sent before a search can break off
abbrev pub reported_of_ending : Ending → Option Status
reported_of_ending (Whole hits) = Some Ok
reported_of_ending BrokenOff = Some Ok
reported_of_ending Refused = None

-- A search on the command line: what is found, with the status of the ending; or the line of a reply, with its own
-- status. The value says which.
abbrev pub IsSearchRun : {Reason : Type 0} → (cause : Type 0) → Limits → Machine → SearchText
    → (old new : Option (List ℕ)) → (Reason → Type 0) → Written → (status : ℕ) → Type 0
IsSearchRun cause l s x old new is_refusal w status =
    ((e : Ending) × IsFound l s x [] old new is_refusal e × (status ≡ exit_of_ending e) × (w ≡ written.Found e))
    ⊎ ((r : Reply) × IsReportedOfQuery cause l s x.query x.strategy r
    × IsWritten old new (reply_text r) (exit_of r) is_refusal status × (w ≡ written.Reply r))

-- the head of a search over HTTP, without a length, since none is known
abbrev pub search_head : List ℕ
search_head = head_text Ok None extra.Nothing

-- A search over HTTP: the head and what is found; or the response of a reply.
abbrev pub IsSearchResponse : {Reason : Type 0} → (cause : Type 0) → Limits → Machine → SearchText
    → (old new : Option (List ℕ)) → (Reason → Type 0) → (reported : Option Status) → Type 0
IsSearchResponse cause l s x old new is_refusal reported =
    ((e : Ending) × IsFound l s x search_head old new is_refusal e × (reported ≡ reported_of_ending e))
    ⊎ ((r : Reply) × IsReportedOfQuery cause l s x.query x.strategy r
    × IsSent old new (reply_response r) (status_of r) is_refusal reported)

-- ---- a count, whose table is made whole

-- the text is a query, and this is the table of the keys of its hits, as CSV; its counts have this sum
abbrev pub IsCounted : Limits → Machine → CountText → (text : List ℕ) → (hits : ℕ) → Type 0
IsCounted l s x text hits =
    (q : Asked) × IsAskedQuery l s x.query x.strategy q × (found : List Occurrence)
    × AreReleasedHits s q x.strategy found
    × (table : List Row) × (rows : List Row) × IsTableOf (keys x.column found) table × IsRankingOf table rows
    × (text ≡ freq_csv rows) × (hits ≡ total_of table)

-- The text of a count on the command line, its own exit status, and the value that says what it is.
abbrev pub IsCountOutput : (cause : Type 0) → Limits → Machine → CountText → (text : List ℕ) → (own : ℕ)
    → Written → Type 0
IsCountOutput cause l s x text own w =
    ((hits : ℕ) × IsCounted l s x text hits × (own ≡ 0) × (w ≡ written.Table hits))
    ⊎ ((r : Reply) × IsReportedOfQuery cause l s x.query x.strategy r × (text ≡ reply_text r)
    × (own ≡ exit_of r) × (w ≡ written.Reply r))

-- The response of a count over HTTP, and its status.
abbrev pub IsCountResponse : (cause : Type 0) → Limits → Machine → CountText → (text : List ℕ) → Status
    → Type 0
IsCountResponse cause l s x text status =
    ((body : List ℕ) × (hits : ℕ) × IsCounted l s x body hits × (text ≡ body_response None body) × (status ≡ Ok))
    ⊎ ((r : Reply) × IsReportedOfQuery cause l s x.query x.strategy r × (text ≡ reply_response r)
    × (status ≡ status_of r))
