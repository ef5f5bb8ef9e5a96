-- What a query is answered, and what a search leaves at its sink and in the store.
use Rattle.std.proofs.Common.{◌≡◌, ◌≢◌, ◌⊎◌, ◌∙◌, ℕ, List, [], length, Option, Result, Ok, Err, IfOk, IfErr, MatchResult, OnOk, refl, sym, ap, subst, inl, inr, arith, le_trans}
use Rattle.std.specs.Io.KnownBytes.{Appends}
use Rattle.std.proofs.KnownBytes.{Appends-trans}
use Rattle.sqlite.specs.Store.{Ghosts}
use Rattle.sqlite.specs.Held.{state}
use Rattle.sqlite.specs.State.{HasCleanDisk, Survives}
use Rattle.sqlite.proofs.StateLemmas.{survives_then}
use Rattle.tb_conllu.specs.Text.{BlockText}
use Rattle.tb_conllu.specs.Sunk.{AppendsPart}
use Rattle.tb_match.specs.declared.strategy.Strategy.{Strategy}
use Rattle.tb_match.specs.declared.strategy.Strategy.TheVariants.{Shortest, Longest}
use Rattle.tb_syntax.specs.Reading.{IsQueryText}
use Rattle.tb_query.specs.declared.fault.QueryFault.{QueryFault}
use Rattle.tb_query.specs.declared.fault.QueryFault.TheVariants as faults
use Rattle.tb_query.specs.Reading.{IsFault}
use Rattle.tb_query.specs.Search.{Asked}
use Rattle.tb_tables.specs.Layout.{desk_schema}
use Rattle.tb_core.specs.declared.limits.Limits.{Limits}
use Rattle.tb_core.specs.declared.refusals.Refusal.{Refusal}
use Rattle.tb_core.specs.declared.refusals.Refusal.TheVariants.{TooManyHits}
use Rattle.tb_core.specs.declared.refusals.Fault.{Fault}
use Rattle.tb_core.specs.declared.refusals.Fault.TheVariants as fault
use Rattle.tb_core.specs.Machine.{Machine}
use Rattle.tb_http.specs.declared.replies.Reply.{Reply}
use Rattle.tb_http.specs.declared.replies.Reply.TheVariants as reply
use Rattle.tb_http.specs.Replies.{reply_text, exit_of, status_of}
use Rattle.tb_refine.specs.Faults.{IsNoDevice}
use Rattle.tb_http.specs.declared.status.Status.{Status}
use Rattle.tb_search.specs.Visited.{HasReason}
use Rattle.tb_search.specs.Searched.{AreFound, Occurrence, answer, lines, searched}
use Rattle.tb_store.specs.Kept.{Kept}
use Rattle.tb_store.specs.Represents.{Represents}
use Rattle.tb_store.specs.Found.{HasTooMany, IsAbove, IsNumber}
use Rattle.tb_answer.specs.declared.ending.Ending.{Ending}
use Rattle.tb_answer.specs.declared.ending.Ending.TheVariants.{Whole, BrokenOff, Refused}
use Rattle.tb_answer.specs.Calls.{ReadsOnly}
use Rattle.tb_answer.specs.declared.written.Written.{Written}
use Rattle.tb_answer.specs.declared.written.Written.TheVariants as written
use Rattle.tb_answer.specs.Asked.{or_reply}
use Rattle.tb_answer.specs.Commanded.{reply_for_fault}
use Rattle.tb_answer.specs.Found.{IsAllowed, IsAskedQuery, IsLimitReply, IsQueryReply, IsReportedOfQuery, IsSearchResponse, IsSearchRun, IsStreamed, SearchText, exit_of_ending, query_reply, reported_of_ending, search_head}
use Rattle.tb_answer.specs.Output.{IsWritten}
use Rattle.tb_answer.specs.Responses.{IsSent, reply_response}
use Rattle.tb_answer.proofs.Parts.{part_of_first, part_of_second}

-- what is found in released text is one list
abbrev pub OneList : Type 0
OneList = (s : Strategy) (q : Asked) (bs : List BlockText) (found others : List Occurrence) → AreFound s q bs found → AreFound s q bs others → found ≡ others

-- ---- the query

pub query_read : (P : Asked → Type 0) (read : Result Asked QueryFault) (result : Result Asked Reply) → MatchResult read (λ q. result ≡ Ok q) (λ e. result ≡ Err (query_reply e)) → IfOk read P → IfOk result P
query_read P (Ok q) result is h = subst (λ r. IfOk r P) (sym is) h
query_read P (Err e) result is h = subst (λ r. IfOk r P) (sym is) tt

pub fault_read : (text : List ℕ) (read : Result Asked QueryFault) (result : Result Asked Reply) → MatchResult read (λ q. result ≡ Ok q) (λ e. result ≡ Err (query_reply e)) → IfErr read (λ e. IsFault text e)
    → IfErr read (λ e. e ≡ faults.Memory → IsQueryText text) → IfErr result (λ r. IsQueryReply text r)
fault_read text (Ok q) result is at reads = subst (λ r. IfErr r (IsQueryReply text)) (sym is) tt
fault_read text (Err e) result is at reads = subst (λ r. IfErr r (IsQueryReply text)) (sym is) (e, at, refl, reads)

-- the query, where its hits were counted
pub query_allowed : (Q : Type 0) (number : Result ℕ Fault) (result : Result Asked Reply) (q : Asked) → MatchResult number (λ _. result ≡ Ok q) (λ e. result ≡ Err (reply_for_fault e)) → IfOk number (λ _. Q)
    → IfOk result (λ x. (x ≡ q) × Q)
query_allowed Q (Ok n) result q is h = subst (λ r. IfOk r (λ x. (x ≡ q) × Q)) (sym is) (refl, h)
query_allowed Q (Err e) result q is h = subst (λ r. IfOk r (λ x. (x ≡ q) × Q)) (sym is) tt

pub query_stays : (P : Type 0) (number : Result ℕ Fault) (result : Result Asked Reply) (q : Asked) → MatchResult number (λ _. result ≡ Ok q) (λ e. result ≡ Err (reply_for_fault e)) → OnOk number P → OnOk result P
query_stays P (Ok n) result q is h = subst (λ r. OnOk r P) (sym is) h
query_stays P (Err e) result q is h = subst (λ r. OnOk r P) (sym is) tt

pub query_refused : (P : Reply → Type 0) (number : Result ℕ Fault) (result : Result Asked Reply) (q : Asked) → MatchResult number (λ _. result ≡ Ok q) (λ e. result ≡ Err (reply_for_fault e)) → IfErr (or_reply number) P → IfErr result P
query_refused P (Ok n) result q is h = subst (λ r. IfErr r P) (sym is) tt
query_refused P (Err e) result q is h = subst (λ r. IfErr r P) (sym is) h

pub limit_told : {good : Type 0} (l : Limits) (s : Machine) (q : Asked) (strategy : Strategy) (number : Result ℕ Fault)
    → ((r : Refusal) → number ≡ Err (fault.Refused r) → (r ≡ TooManyHits) × HasTooMany s q strategy l.hits) → number ≢ Err fault.NotADesk → (good → IfErr number IsNoDevice) → number ≢ Err fault.Output
    → IfErr (or_reply number) (IsLimitReply (good → ⊥) l s q strategy)
limit_told l s q strategy (Ok n) refused knows cause quiet = tt
limit_told l s q strategy (Err (fault.Refused r)) refused knows cause quiet = let it = refused r refl in inl (it.1, ap reply.Refused it.0)
limit_told l s q strategy (Err fault.Memory) refused knows cause quiet = inr (inl refl)
limit_told l s q strategy (Err fault.Device) refused knows cause quiet = inr (inr (refl, λ good. cause good refl))
limit_told l s q strategy (Err fault.NotADesk) refused knows cause quiet = absurd (knows refl)
limit_told l s q strategy (Err fault.Output) refused knows cause quiet = absurd (quiet refl)

pub allowed : OneList → (l : Limits) (s : Machine) (q : Asked) (strategy : Strategy) (n : ℕ) → IsNumber s q strategy l.hits n → IsAllowed l s q strategy
allowed one l s q strategy n (mine, are, is, within) found finds above =
    within (subst (IsAbove strategy l.hits) (ap length (one strategy q (searched s) found mine finds are) ∙ sym is) above)

-- only where all matches are hits does a limit hold
pub none_above : (strategy : Strategy) (limit n : ℕ) → (strategy ≡ Shortest) ⊎ (strategy ≡ Longest) → IsAbove strategy limit n → ⊥
none_above strategy limit n (inl is) above = subst (λ (x : Strategy). IsAbove x limit n) is above
none_above strategy limit n (inr is) above = subst (λ (x : Strategy). IsAbove x limit n) is above

module _ (s : Machine) (q : Asked) (strategy : Strategy) (n : ℕ) where
  -- after a head that was put
  pub after_head : (head bytes : List ℕ) (old mid new : Option (List ℕ)) (e : Ending) → bytes ≡ head → Appends old mid bytes → IsStreamed s q strategy n [] mid new e → IsStreamed s q strategy n head old new e
  after_head head bytes old mid new (Whole hits) is put (found, are, then_, number) =
      let first = subst (Appends old mid) is put in
      (found, are, Appends-trans old mid new head (answer n found) first then_, number)
  after_head head bytes old mid new BrokenOff is put broke = λ found are.
      let first = subst (Appends old mid) is put in
      let it = broke found are in
      (it.0, it.1, it.2, Appends-trans old mid new head (lines n it.0) first it.3)
  after_head head bytes old mid new Refused is put broke = λ found are.
      let first = subst (Appends old mid) is put in
      part_of_second old mid new head (answer n found) first (broke found are)

  -- the head itself was refused
  pub head_refused : (head bytes : List ℕ) (old new : Option (List ℕ)) → bytes ≡ head → AppendsPart old new bytes → IsStreamed s q strategy n head old new Refused
  head_refused head bytes old new is part = λ found are. part_of_first old new head (answer n found) (subst (AppendsPart old new) is part)

-- ---- the answer of a search

module _ {Reason : Type 0} (Z cause : Type 0) (l : Limits) (s : Machine) (x : SearchText) (held holds : Option (List ℕ)) (is_refusal : Reason → Type 0) where
  pub search_run : (asked : Result Asked Reply) (w : Written) (status : ℕ) → IfOk asked (λ q. IsAskedQuery l s x.query x.strategy q) → IfErr asked (λ r. IsReportedOfQuery cause l s x.query x.strategy r)
      → IfOk asked (λ q. (e : Ending) × (status ≡ exit_of_ending e) × (w ≡ written.Found e) × (e ≡ Refused → HasReason is_refusal) × IsStreamed s q x.strategy x.context [] held holds e)
      → IfErr asked (λ r. (w ≡ written.Reply r) × Z × IsWritten held holds (reply_text r) (exit_of r) is_refusal status) → IsSearchRun cause l s x held holds is_refusal w status
  search_run (Ok q) w status is none found refused = inl (found.0, (q, is, found.4, found.3), found.1, found.2)
  search_run (Err r) w status is none found refused = inr (r, none, refused.2, refused.0)

  pub search_sent : (asked : Result Asked Reply) (sent : Option Status) → IfOk asked (λ q. IsAskedQuery l s x.query x.strategy q) → IfErr asked (λ r. IsReportedOfQuery cause l s x.query x.strategy r)
      → IfOk asked (λ q. (e : Ending) × (sent ≡ reported_of_ending e) × (e ≡ Refused → HasReason is_refusal) × IsStreamed s q x.strategy x.context search_head held holds e)
      → IfErr asked (λ r. Z × IsSent held holds (reply_response r) (status_of r) is_refusal sent) → IsSearchResponse cause l s x held holds is_refusal sent
  search_sent (Ok q) sent is none found refused = inl (found.0, (q, is, found.3, found.2), found.1)
  search_sent (Err r) sent is none found refused = inr (r, none, refused.1)

module _ {S : Type 0} (g : Ghosts S) (a b : Kept S) (one : Survives (state g a.conn) (state g b.conn) (λ _. (state g a.conn).now.schema ≢ desk_schema)) where
  -- one read after another
  pub read_then : (c : Kept S) → (HasCleanDisk (state g b.conn) → (s : Machine) → Represents g a s → Represents g b s)
      → Survives (state g b.conn) (state g c.conn) (λ _. (state g b.conn).now.schema ≢ desk_schema) → c.in_doubt ≡ a.in_doubt
      → ReadsOnly g a c
  read_then c stays two doubt = (
    (le_trans one.clean two.clean, le_trans one.counts two.counts),
    λ s stands. survives_then (state g a.conn) (state g b.conn) (state g c.conn) _ _ _ (λ _ db other. other stands.desk.holds.schema)
        (λ clean db other. other (stays (omega (arith, clean, two.clean)) s stands).desk.holds.schema) one two,
    doubt,
  )
