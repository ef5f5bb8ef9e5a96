-- What explains a reply: a sentence, what stands before it, and the page that says more.
use Rattle.std.specs.Prelude.{◌≡◌, ◌⊎◌, ◌++◌, ℕ, List, codes, decimal, Bool, true, false, Option, Some, None, IfSome}
use Rattle.std.specs.Prelude.{drop, MatchOption, take}
use Rattle.std.specs.Str.{IsCharBoundary, trim_end}
use Rattle.std.specs.String.{string_bytes}
use Rattle.tb_core.specs.declared.kinds.State.{State}
use Rattle.tb_core.specs.declared.kinds.State.TheVariants as state
use Rattle.tb_core.specs.declared.refusals.Refusal.{Refusal}
use Rattle.tb_core.specs.declared.refusals.Refusal.TheVariants as refusal
use Rattle.tb_core.specs.Words.{state_word}
use Rattle.tb_http.specs.declared.asks.RequestFault.TheVariants as request
use Rattle.tb_http.specs.declared.replies.Reply.{Reply}
use Rattle.tb_http.specs.declared.replies.Reply.TheVariants as reply
use Rattle.tb_query.specs.declared.fault.QueryFault.{QueryFault}
use Rattle.tb_query.specs.declared.fault.QueryFault.TheVariants as fault
use Rattle.tb_words.specs.QueryGuesses.{guess}
use Rattle.tb_words.specs.QueryLiterals.{KnowsLiterals, is_in, literal_numbered, written}
use Rattle.tb_words.specs.QueryPatterns.{StopsAt}
use Rattle.tb_words.specs.QueryPlaces.{IsFirstWrong, IsNoneWrong, IsPicture, open_at}
use Rattle.tb_words.specs.QueryWords.{character_number}
use Rattle.tb_words.specs.Shown.{excerpt}
use Rattle.tb_words.specs.declared.literals.Literal.{Literal}
use Rattle.tb_words.specs.declared.syntax.Wrong.{Wrong}
use Rattle.tb_words.specs.declared.refusals.Asked.{Asked}
use Rattle.tb_words.specs.declared.refusals.Asked.TheVariants as asked
use Rattle.tb_words.specs.declared.sentences.TheConstants.{OPEN, ASSIGNED, SUBMITTED, ADJUDICATED, RELEASED, WITHDRAWN}
use Rattle.tb_words.specs.declared.sentences.TheConstants.{BAD_NAME, NO_SUCH_BATCH, NO_SUCH_SENTENCE, NO_SUCH_SENT_ID}
use Rattle.tb_words.specs.declared.sentences.TheConstants.{CORRECT_STATE, PULL_STATE, NOT_YOURS, OWN_WORK, STALE, BROKEN}
use Rattle.tb_words.specs.declared.sentences.TheConstants.{EMPTY, NOT_ONE, SENT_ID_CHANGED, TEXT_CHANGED, NOTHING_CHANGED}
use Rattle.tb_words.specs.declared.sentences.TheConstants.{NAME_TAKEN, SENT_ID_TAKEN, FULL, NO_SUCH_REVISION, SYNTAX}
use Rattle.tb_words.specs.declared.sentences.TheConstants.{PULLED, NOT_PULLED, TOO_MANY_HITS, LONG, DEVICE, DESK}
use Rattle.tb_words.specs.declared.sentences.TheConstants.{TOO_LONG, TOO_MANY, TOO_DEEP, MEMORY}
use Rattle.tb_words.specs.declared.sentences.TheConstants.{PATTERN_LARGE, PATTERN_OTHER, REPEAT_ABOVE}
use Rattle.tb_words.specs.declared.words.Page.{Page}
use Rattle.tb_words.specs.declared.words.Page.TheVariants.{Code, Rule, Queries, Batches}
use Rattle.tb_words.specs.declared.words.Words.{Words}

-- these words have this sentence, and name this page
pub record Say (words : Words) (text : List ℕ) (named : Option Page) : Type 0 where
  pub sentence : words.sentence.now ≡ text
  pub page : words.page ≡ named

-- This text stands before the sentence; for want of memory nothing does.
abbrev pub BeginWith : Words → (text : List ℕ) → Type 0
BeginWith words text = IfSome words.place (λ place. string_bytes place ≡ text)

-- what may come after a state of a batch
abbrev pub next_sentence : State → List ℕ
next_sentence state.Opened = OPEN.now
next_sentence state.Assigned = ASSIGNED.now
next_sentence state.Submitted = SUBMITTED.now
next_sentence state.Adjudicated = ADJUDICATED.now
next_sentence state.Released = RELEASED.now
next_sentence state.Withdrawn = WITHDRAWN.now

-- the state of a batch
abbrev pub batch_place : State → List ℕ
batch_place state = codes "the batch is " ++ state_word state

-- A state that does not allow what was asked, and what is said of it: a correction is of a sentence, all else of a batch.
abbrev pub state_place : Asked → State → List ℕ
state_place (asked.Correction base) state = codes "the sentence is " ++ state_word state
state_place _ state = batch_place state

abbrev pub state_sentence : Asked → State → List ℕ
state_sentence (asked.Correction base) state = CORRECT_STATE.now
state_sentence asked.Pull state = PULL_STATE.now
state_sentence _ state = next_sentence state

-- the revision that a correction was made on
abbrev pub base_of : Asked → ℕ
base_of (asked.Correction base) = base
base_of _ = 0

abbrev pub stale_place : (base current : ℕ) → List ℕ
stale_place base current = (codes "made on revision " ++ decimal base) ++ (codes ", the current one is " ++ decimal current)

-- a sentence that does not exist, by its sent_id or by its number
abbrev pub missing_sentence : Asked → List ℕ
missing_sentence (asked.SentId sent_id) = NO_SUCH_SENT_ID.now
missing_sentence _ = NO_SUCH_SENTENCE.now

-- its sent_id stands before it, where it was asked for so
abbrev pub SaysMissing : Asked → Words → Type 0
SaysMissing (asked.SentId sent_id) words = BeginWith words (codes "<sent_id> " ++ excerpt sent_id.now)
SaysMissing _ words = words.place ≡ None

-- what each refusal says where nothing else is known
abbrev pub refusal_sentence : Refusal → List ℕ
refusal_sentence refusal.BadName = BAD_NAME.now
refusal_sentence refusal.NoSuchBatch = NO_SUCH_BATCH.now
refusal_sentence refusal.NoSuchSentence = NO_SUCH_SENTENCE.now
refusal_sentence (refusal.WrongState state) = next_sentence state
refusal_sentence refusal.NotYours = NOT_YOURS.now
refusal_sentence refusal.OwnWork = OWN_WORK.now
refusal_sentence (refusal.Stale current) = STALE.now
refusal_sentence (refusal.Read line code) = BROKEN.now
refusal_sentence (refusal.Rule sentence rule row) = BROKEN.now
refusal_sentence refusal.Empty = EMPTY.now
refusal_sentence refusal.NotOne = NOT_ONE.now
refusal_sentence refusal.SentIdChanged = SENT_ID_CHANGED.now
refusal_sentence refusal.TextChanged = TEXT_CHANGED.now
refusal_sentence refusal.NothingChanged = NOTHING_CHANGED.now
refusal_sentence refusal.NameTaken = NAME_TAKEN.now
refusal_sentence (refusal.SentIdTaken sentence) = SENT_ID_TAKEN.now
refusal_sentence refusal.Full = FULL.now
refusal_sentence refusal.NoSuchRevision = NO_SUCH_REVISION.now
refusal_sentence (refusal.Query code at) = SYNTAX.now
refusal_sentence refusal.Pulled = PULLED.now
refusal_sentence refusal.NotPulled = NOT_PULLED.now
refusal_sentence refusal.TooManyHits = TOO_MANY_HITS.now

-- the code of a query's fault (QUERIES, refusals), and its place
abbrev pub IsNumbered : QueryFault → (code at : ℕ) → Type 0
IsNumbered fault.TooLong code at = code ≡ 1
IsNumbered (fault.Syntax byte) code at = (code ≡ 2) × (byte ≡ at)
IsNumbered fault.TooMany code at = code ≡ 3
IsNumbered fault.TooDeep code at = code ≡ 4
IsNumbered fault.Repeat code at = code ≡ 5
IsNumbered (fault.Pattern number) code at = (code ≡ 6) × (number ≡ at)
IsNumbered fault.Memory code at = ⊥

-- a query, and how many hits it finds
abbrev pub hits_place : (text : List ℕ) → (hits : ℕ) → List ℕ
hits_place text hits = codes "`" ++ excerpt text ++ codes "` finds " ++ decimal hits

-- a form
abbrev pub form_place : (form : List ℕ) → List ℕ
form_place form = codes "`" ++ excerpt form ++ codes "`"

-- the character of a query that begins at a byte
abbrev pub query_place : (text : List ℕ) → (at : ℕ) → List ℕ
query_place text at = codes "query, character " ++ decimal (character_number text at)

-- the words name this character, and have the picture of its line
abbrev pub PointAt : Words → (text : List ℕ) → (at : ℕ) → Type 0
PointAt words text at =
    BeginWith words (query_place text at) × IfSome words.picture (λ picture. IsPicture text at (string_bytes picture))

-- the words have this sentence, and name no place
abbrev pub SaysAlone : Words → (text : List ℕ) → Type 0
SaysAlone words text = (words.sentence.now ≡ text) × (words.place ≡ None) × (words.picture ≡ None)

-- a text is so before a byte and after it, and so many brackets, parentheses and braces are open there
abbrev pub IsWrongAt : (text : List ℕ) → List Literal → (at : ℕ) → Wrong → Type 0
IsWrongAt text ls at wrong =
    (wrong.before.now ≡ trim_end (take at text)) × (wrong.rest.now ≡ drop at text)
    × (wrong.brackets ≡ open_at text ls at 91 93) × (wrong.parentheses ≡ open_at text ls at 40 41)
    × (wrong.braces ≡ open_at text ls at 123 125)

-- what is most likely meant at a byte of a text with these literals
abbrev pub IsGuess : (text : List ℕ) → List Literal → (at : ℕ) → (said : List ℕ) → Type 0
IsGuess text ls at said = (wrong : Wrong) × IsWrongAt text ls at wrong × (said ≡ guess wrong (is_in ls at))

-- the first repetition with wrong numbers is told at its brace
abbrev pub SaysRepetition : (text : List ℕ) → List Literal → Words → Type 0
SaysRepetition text ls words =
    ((at : ℕ) × IsFirstWrong text ls at words.sentence.now × PointAt words text at)
    ⊎ (IsNoneWrong text ls × SaysAlone words REPEAT_ABOVE.now)

-- a literal is told where it stops to be a pattern; for want of memory it is told at its beginning that it is none
abbrev pub SaysOfLiteral : (text : List ℕ) → Literal → Words → Type 0
SaysOfLiteral text l words =
    ((place : ℕ) × StopsAt (written text l) l.start place words.sentence.now × PointAt words text place)
    ⊎ ((words.sentence.now ≡ PATTERN_OTHER.now) × PointAt words text l.start)

-- so is the literal with this number
abbrev pub SaysLiteral : (text : List ℕ) → List Literal → (number : ℕ) → Words → Type 0
SaysLiteral text ls number words =
    MatchOption (literal_numbered ls number) (SaysAlone words PATTERN_OTHER.now) (λ l. SaysOfLiteral text l words)

-- what is said of a fault of a text with these literals
abbrev pub SaysFault : (text : List ℕ) → List Literal → QueryFault → Words → Type 0
SaysFault text ls fault.TooLong words = SaysAlone words TOO_LONG.now
SaysFault text ls (fault.Syntax at) words =
    IsCharBoundary text at → IsGuess text ls at words.sentence.now × PointAt words text at
SaysFault text ls fault.TooMany words = SaysAlone words TOO_MANY.now
SaysFault text ls fault.TooDeep words = SaysAlone words TOO_DEEP.now
SaysFault text ls fault.Repeat words = SaysRepetition text ls words
SaysFault text ls (fault.Pattern number) words = SaysLiteral text ls number words
SaysFault text ls fault.Memory words = SaysAlone words PATTERN_LARGE.now

-- what is said of a fault of this text, by its place where it has one
abbrev pub SaysOfQuery : (text : List ℕ) → QueryFault → Words → Type 0
SaysOfQuery text fault words =
    (words.page ≡ Some Queries) × ((ls : List Literal) × KnowsLiterals text ls × SaysFault text ls fault words)

-- A fault of a query with this code at this place. Without the query, or for another code, it is only said to be none.
abbrev pub SaysOfCode : Asked → (code at : ℕ) → Words → Type 0
SaysOfCode (asked.Query text) code at words =
    ((e : QueryFault) → IsNumbered e code at → SaysOfQuery text.now e words)
    × (((e : QueryFault) → IsNumbered e code at → ⊥) → Say words SYNTAX.now None)
SaysOfCode _ code at words = Say words SYNTAX.now None

-- what is said of a refusal that names no line and no rule of a body
abbrev pub SaysOfRefusal : Refusal → Asked → Words → Type 0
SaysOfRefusal (refusal.Query code at) asked words = SaysOfCode asked code at words
SaysOfRefusal (refusal.WrongState state) asked words = Say words (state_sentence asked state) (Some Batches)
    × BeginWith words (state_place asked state)
SaysOfRefusal (refusal.Stale current) asked words = Say words STALE.now None
    × BeginWith words (stale_place (base_of asked) current)
SaysOfRefusal refusal.NoSuchSentence asked words = Say words (missing_sentence asked) None × SaysMissing asked words
SaysOfRefusal (refusal.SentIdTaken sentence) asked words = Say words SENT_ID_TAKEN.now None
    × BeginWith words (codes "sentence " ++ decimal sentence ++ codes " of the input")
SaysOfRefusal other asked words = Say words (refusal_sentence other) None × (words.place ≡ None)

-- Want of memory. A query whose reading wants memory has a pattern that is too large.
abbrev pub SaysOfMemory : Words → Type 0
SaysOfMemory words = Say words MEMORY.now None ⊎ Say words PATTERN_LARGE.now (Some Queries)

-- A reply that words explain. A line of a body and a rule have a page each.
abbrev pub Explains : Reply → Asked → Words → Type 0
Explains (reply.Moved moved) asked words = Say words (next_sentence moved.state) None
    × BeginWith words (batch_place moved.state)
Explains (reply.Refused (refusal.Read line code)) asked words = words.page ≡ Some (Code code)
Explains (reply.Refused (refusal.Rule sentence rule row)) asked words = words.page ≡ Some (Rule rule)
Explains (reply.Refused why) asked words = SaysOfRefusal why asked words
Explains (reply.Faulty request.Long) asked words = Say words LONG.now None
Explains reply.Memory asked words = SaysOfMemory words
Explains reply.Device asked words = Say words DEVICE.now None
Explains reply.Desk asked words = Say words DESK.now None
Explains _ asked words = ⊥

-- the reply is a refusal, a failure, or the state of a batch that moved
abbrev pub is_explained : Reply → Bool
is_explained (reply.Moved moved) = true
is_explained (reply.Refused why) = true
is_explained (reply.Faulty request.Long) = true
is_explained reply.Memory = true
is_explained reply.Device = true
is_explained reply.Desk = true
is_explained _ = false
