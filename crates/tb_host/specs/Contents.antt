-- Between crates: no contract of a front door cites a definition of this module.
-- What the bytes of a file and of its log show of its tables (the file format of SQLite, sections 1.3, 1.6 and 4.1).
use Rattle.std.specs.Prelude.{◌≡◌, ◌≢◌, ◌++◌, ◌+◌, ◌*◌, ◌⊎◌, ◌↔◌, ◌≤◌, ◌<◌, ℕ, List, [], ◌∷◌, All, codes, length, take, drop, slice_get, Option, None, Some}
use Rattle.std.specs.Prelude.{Bool, true, false, min, nat_eq, not, Result, Ok, Err, MatchResult}
use Rattle.std.specs.Prelude.{IsSomeAnd, IsTrue}
use Rattle.std.specs.Fs.{IsDir, IsFile, IsSymlink, file_type, metadata_len}
use Rattle.std.specs.IoError.{error_kind}
use Rattle.std.specs.Path.{path_buf_bytes}
use Rattle.std.specs.Global.{Global}
use Rattle.std.specs.declared.path.buf.PathBuf.{PathBuf}
use Rattle.std.specs.declared.fs.attrs.Metadata.{Metadata}
use Rattle.std.specs.declared.io.Error.{Error}
use Rattle.std.specs.declared.io.ErrorKind.{ErrorKind}
use Rattle.std.specs.declared.io.ErrorKind.TheVariants.{NotFound, NotADirectory}
use Rattle.memchr.specs.Find.{OccursAt}
use Rattle.sqlite_wal.specs.Format.{be32}
use Rattle.sqlite_wal.specs.PageSize.{IsPageSize}
use Rattle.sqlite_wal.specs.Recovery.{AreFramesOf, IsIgnored}
use Rattle.tb_host.specs.declared.contents.Version.{Version}
use Rattle.tb_host.specs.declared.contents.Version.TheVariants.{One, Two}
use Rattle.tb_host.specs.declared.causes.FileCause.{FileCause}
use Rattle.tb_host.specs.declared.causes.FileCause.TheVariants as file
use Rattle.tb_host.specs.declared.found.Found.{Found}
use Rattle.tb_host.specs.declared.files.Undoing.{Undoing}
use Rattle.tb_host.specs.declared.files.Undoing.TheVariants as undoing_of
use Rattle.tb_host.specs.declared.place.Numbers.{Numbers}

-- The text is somewhere in the bytes.
pub record Has (bytes text : List ℕ) : Type 0 where
  pub at : ℕ
  pub occurs : OccursAt bytes text at

-- The bytes begin with the text.
pub record BeginsWith (bytes text : List ℕ) : Type 0 where
  pub rest : List ℕ
  pub cut : bytes ≡ text ++ rest

-- SQLite gives the name a meaning of its own.
abbrev pub IsReserved : (path : List ℕ) → Type 0
IsReserved path = (path ≡ codes ":memory:") ⊎ BeginsWith path (codes "file:")

-- why a name is that of no file: it is empty, or SQLite gives it a meaning of its own
abbrev pub IsNameCause : (path : List ℕ) → FileCause → Type 0
IsNameCause path cause = ((cause ≡ file.NoName) × (path ≡ [])) ⊎ ((cause ≡ file.ReservedName) × IsReserved path)

-- The name of the log of some file.
pub record IsLogName (name : List ℕ) : Type 0 where
  pub file : List ℕ
  pub ends : name ≡ file ++ codes "-wal"

-- the name of the log of the file at a path, or of the one to which a link there leads, where the system says that
abbrev pub log_name : (path : List ℕ) → (real : Result (PathBuf Global) FileCause) → List ℕ
log_name path (Ok real) = path_buf_bytes real ++ codes "-wal"
log_name path (Err cause) = path ++ codes "-wal"

-- The file holds something, and does not begin as a database does.
abbrev pub IsOtherFile : (head : List ℕ) → Type 0
IsOtherFile head = (head ≢ []) × ¬ BeginsWith head (codes "SQLite format 3\0")

-- A database lists each table in a row, which has the kind, the name, and the name of its table.
pub record ListsTables (bytes : List ℕ) : Type 0 where
  pub meta : Has bytes (codes "tablemetameta")
  pub batches : Has bytes (codes "tablebatchesbatches")
  pub sentences : Has bytes (codes "tablesentencessentences")
  pub revisions : Has bytes (codes "tablerevisionsrevisions")
  pub moves : Has bytes (codes "tablemovesmoves")
  pub totals : Has bytes (codes "tabletotalstotals")

-- A desk of version 1 lacks this table.
abbrev pub ListsPulled : List ℕ → Type 0
ListsPulled bytes = Has bytes (codes "tablepulledpulled")

-- The version of the desk whose tables the bytes list.
abbrev pub IsListed : List ℕ → Option Version → Type 0
IsListed bytes None = ¬ ListsTables bytes
IsListed bytes (Some One) = ListsTables bytes × ¬ ListsPulled bytes
IsListed bytes (Some Two) = ListsTables bytes × ListsPulled bytes

-- the version by the tables in the log, or by those in the file where the log has none
abbrev pub version_by : (in_log in_file : Option Version) → Result Version FileCause
version_by (Some version) in_file = Ok version
version_by None (Some version) = Ok version
version_by None None = Err file.OtherDatabase

-- Whether a file is looked at a second time. Another command may have moved its tables from the log into the file.
abbrev pub is_looked_at_again : (found : Result Version FileCause) → Bool
is_looked_at_again (Err file.Empty) = true
is_looked_at_again (Err file.OtherDatabase) = true
is_looked_at_again _ = false

-- the cause for a path that has a folder, or something else than a plain file
abbrev pub odd_cause : (is_folder : Bool) → FileCause
odd_cause true = file.Folder
odd_cause false = file.NotPlain

-- a path without links
abbrev pub Path : Type 0
Path = PathBuf Global

-- What is at a path itself is no link, or nothing is there.
abbrev pub HasNoLink : (IsHere : Option Metadata → Type 0) → Type 0
HasNoLink IsHere = (found : Option Metadata) × IsHere found × ¬ IsSomeAnd found (λ m. IsSymlink (file_type m))

-- At a path that leads to nothing there is a link, or the system does not say what is there.
abbrev pub IsDead : (Fails : FileCause → Type 0) → (IsHere : Option Metadata → Type 0) → FileCause → Type 0
IsDead Fails IsHere cause = Fails cause
    ⊎ ((cause ≡ file.DeadLink) × ((found : Metadata) × IsHere (Some found) × IsSymlink (file_type found)))

-- Where a path leads, by what the system says of it: to nothing, and no link is there, or to a plain file with this path.
abbrev pub LeadsTo : (IsTarget : Result (Option Metadata) FileCause → Type 0)
    → (IsReal : Result Path FileCause → Type 0) → (IsHere : Option Metadata → Type 0) → Option Path → Type 0
LeadsTo IsTarget IsReal IsHere None = IsTarget (Ok None) × HasNoLink IsHere
LeadsTo IsTarget IsReal IsHere (Some real) = (found : Metadata) × IsTarget (Ok (Some found)) × IsFile (file_type found)
    × IsReal (Ok real)

-- Why a path does not lead to a plain file: the system refuses it, something else is there, as a folder, or a link that
-- leads to nothing.
abbrev pub IsNotPlain : (IsTarget : Result (Option Metadata) FileCause → Type 0)
    → (IsReal : Result Path FileCause → Type 0) → (Fails : FileCause → Type 0)
    → (IsHere : Option Metadata → Type 0) → FileCause → Type 0
IsNotPlain IsTarget IsReal Fails IsHere cause = IsTarget (Err cause) ⊎ IsReal (Err cause)
    ⊎ ((found : Metadata) × IsTarget (Ok (Some found)) × (¬ IsFile (file_type found))
    × ((folder : Bool) × (IsTrue folder ↔ IsDir (file_type found)) × (cause ≡ odd_cause folder)))
    ⊎ (IsTarget (Ok None) × IsDead Fails IsHere cause)

abbrev pub AreZero : List ℕ → Type 0
AreZero bytes = All (λ b. b ≡ 0) bytes

-- The first page of a database that lists no table: after its first byte the header's, and a root that is a leaf (13)
-- without rows.
abbrev pub ListsNone : List ℕ → Type 0
ListsNone head = BeginsWith (drop 1 head) (codes "QLite format 3\0")
    × (slice_get head 100 ≡ Some 13) × (slice_get head 103 ≡ Some 0) × (slice_get head 104 ≡ Some 0)

-- The beginning of a file without a table: it lists none, or it is what is left of a page that was not written whole.
abbrev pub IsBlank : List ℕ → Type 0
IsBlank head = (AreZero head × (length head ≤ 4096)) ⊎ ListsNone head

-- The beginning of a log whose header is not written whole: its first byte comes last.
abbrev pub IsUnwritten : List ℕ → Type 0
IsUnwritten log = BeginsWith (drop 1 log) (127 ∷ 6 ∷ []) ⊎ AreZero (take 4 log)

-- A log that has only the first page (after a header of 32 bytes and one of 24), which lists no table.
abbrev pub AreBegun : (log : List ℕ) → (pages : List ℕ) → Type 0
AreBegun log pages = (56 ≤ length log) × (pages ≡ 1 ∷ []) × IsBlank (drop 56 log)

-- A log with pages of this size has no commits, or those of the first page alone, which lists no table.
pub record HasBegunAlone (size : ℕ) (log : List ℕ) : Type 0 where
  pub pages : List ℕ
  pub are : AreFramesOf size log pages
  pub begun : (pages ≡ []) ⊎ AreBegun log pages

-- The database reads a header of a log in the bytes, and it names a size that a page has. Else it reads no commit.
abbrev pub NamesPageSize : List ℕ → Type 0
NamesPageSize log = (¬ IsIgnored log) × IsPageSize (be32 log 8)

-- A log that `new` may have left, and may write over: its header is not written, and the database reads none. Or by the
-- page size in its header it has begun alone.
abbrev pub MayBeOwnLog : List ℕ → Type 0
MayBeOwnLog log = (IsUnwritten log × ¬ NamesPageSize log) ⊎ (NamesPageSize log × HasBegunAlone (be32 log 8) log)

-- the number that four bytes are, the greatest first (section 1.3)
abbrev pub number_in : List ℕ → ℕ
number_in (a ∷ b ∷ c ∷ d ∷ []) = ((a * 256 + b) * 256 + c) * 256 + d
number_in _ = 0

-- what identifies a file that was found, and that has to keep so many bytes
abbrev pub numbers_in : Found → (least : ℕ) → Numbers
numbers_in found least = record { device = found.device; file = found.file; least = least }

-- What is found at a path is another file than the one that was there, or was cut off.
abbrev pub IsAnother : Found → (then : Numbers) → Type 0
IsAnother found then = (found.device ≢ then.device) ⊎ (found.file ≢ then.file) ⊎ (found.size < then.least)

-- A journal has to be played back: its first byte is written, and is not zero.
abbrev pub is_hot : (first : List ℕ) → Bool
is_hot [] = false
is_hot (byte ∷ bytes) = not (nat_eq byte 0)

-- No journal beside the file has to be played back, by what the system gives as the beginning of one.
abbrev pub HasNoJournal : (IsBeginning : List ℕ → ℕ → List ℕ → Type 0) → (path : List ℕ) → Type 0
HasNoJournal IsBeginning path = (first : List ℕ) × IsBeginning (path ++ codes "-journal") 1 first
    × (is_hot first ≡ false)

-- A journal beside the file may have to be played back: it is no plain file, or its beginning says so.
abbrev pub HasJournal : (IsThere : List ℕ → Option Metadata → Type 0)
    → (IsBeginning : List ℕ → ℕ → List ℕ → Type 0) → (path : List ℕ) → Type 0
HasJournal IsThere IsBeginning path =
    ((found : Metadata) × IsThere (path ++ codes "-journal") (Some found) × ¬ IsFile (file_type found))
    ⊎ ((first : List ℕ) × IsBeginning (path ++ codes "-journal") 1 first × (is_hot first ≡ true))

-- The first bytes of a file, or those of its log, list the tables of a desk of this version. Of the file 65,536 are read,
-- of the log 4,194,304.
abbrev pub ListsDesk : (IsBeginning : List ℕ → ℕ → List ℕ → Type 0) → (path : List ℕ) → Version → Type 0
ListsDesk IsBeginning path version =
    ((head : List ℕ) × IsBeginning path 65536 head × IsListed head (Some version))
    ⊎ ((log : List ℕ) × IsBeginning (path ++ codes "-wal") 4194304 log × IsListed log (Some version))

-- a path leads to a plain file that lists the tables of a desk of this version, and has no journal to be played back
abbrev pub HasDeskAt : (IsTarget : Result (Option Metadata) FileCause → Type 0)
    → (IsReal : Result Path FileCause → Type 0) → (IsHere : Option Metadata → Type 0)
    → (IsBeginning : List ℕ → ℕ → List ℕ → Type 0) → Version → Type 0
HasDeskAt IsTarget IsReal IsHere IsBeginning version = (real : Path) × LeadsTo IsTarget IsReal IsHere (Some real)
    × ListsDesk IsBeginning (path_buf_bytes real) version × HasNoJournal IsBeginning (path_buf_bytes real)

-- why a call of the system failed at a path, or want of memory for that path
abbrev pub IsFailedAt : (IsFailure : List ℕ → FileCause → Type 0) → (path : List ℕ) → FileCause → Type 0
IsFailedAt IsFailure path cause = (cause ≡ file.Memory) ⊎ IsFailure path cause

-- the same at the path of a file, or at that of its log
abbrev pub IsFailedCall : (IsFailure : List ℕ → FileCause → Type 0) → (path : List ℕ) → FileCause → Type 0
IsFailedCall IsFailure path cause = IsFailure path cause ⊎ IsFailedAt IsFailure (path ++ codes "-wal") cause

-- Neither the first bytes of a log nor those of its file list a desk.
abbrev pub ListsNoDesk : (IsBeginning : List ℕ → ℕ → List ℕ → Type 0) → (path : List ℕ) → Type 0
ListsNoDesk IsBeginning path = (head : List ℕ) × (log : List ℕ) × IsBeginning path 65536 head × IsListed head None
    × IsBeginning (path ++ codes "-wal") 4194304 log × IsListed log None

-- Why no desk is listed: the file holds something else than a database, or nothing, its log is no plain file, or neither
-- of them lists the tables of a desk.
abbrev pub IsUnlisted : (IsFailure : List ℕ → FileCause → Type 0) → (IsThere : List ℕ → Option Metadata → Type 0)
    → (IsBeginning : List ℕ → ℕ → List ℕ → Type 0) → (path : List ℕ) → FileCause → Type 0
IsUnlisted IsFailure IsThere IsBeginning path cause = IsFailedCall IsFailure path cause
    ⊎ ((cause ≡ file.NotSqlite) × ((head : List ℕ) × IsBeginning path 65536 head × IsOtherFile head))
    ⊎ ((cause ≡ file.OddLog) × ((found : Metadata) × IsThere (path ++ codes "-wal") (Some found)
    × ¬ IsFile (file_type found)))
    ⊎ ((cause ≡ file.Empty) × IsBeginning path 65536 [])
    ⊎ ((cause ≡ file.OtherDatabase) × ListsNoDesk IsBeginning path)

-- why no desk is listed in a file that may have a journal beside it
abbrev pub IsUnlistedAlone : (IsFailure : List ℕ → FileCause → Type 0)
    → (IsThere : List ℕ → Option Metadata → Type 0) → (IsBeginning : List ℕ → ℕ → List ℕ → Type 0)
    → (path : List ℕ) → FileCause → Type 0
IsUnlistedAlone IsFailure IsThere IsBeginning path cause =
    ((cause ≡ file.Journal) × HasJournal IsThere IsBeginning path)
    ⊎ IsFailedAt IsFailure (path ++ codes "-journal") cause ⊎ IsUnlisted IsFailure IsThere IsBeginning path cause

-- Why no desk is listed at a path: no file has such a name, nothing is there, it leads to no plain file, or
-- the file lists none.
abbrev pub IsUnversioned : (IsTarget : Result (Option Metadata) FileCause → Type 0)
    → (IsReal : Result Path FileCause → Type 0) → (IsFailure : List ℕ → FileCause → Type 0)
    → (IsThere : List ℕ → Option Metadata → Type 0) → (IsBeginning : List ℕ → ℕ → List ℕ → Type 0)
    → (path : List ℕ) → FileCause → Type 0
IsUnversioned IsTarget IsReal IsFailure IsThere IsBeginning path cause = IsNameCause path cause
    ⊎ ((cause ≡ file.Missing) × LeadsTo IsTarget IsReal (IsThere path) None)
    ⊎ IsNotPlain IsTarget IsReal (IsFailure path) (IsThere path) cause
    ⊎ ((real : Path) × LeadsTo IsTarget IsReal (IsThere path) (Some real)
    × IsUnlistedAlone IsFailure IsThere IsBeginning (path_buf_bytes real) cause)

-- the greatest length of a log that a stopped `new` leaves: one mebibyte
abbrev pub own_log_limit : ℕ
own_log_limit = 1048576

-- The log beside a file is missing, or is a plain file and may be that of a stopped `new`: all of it was read.
abbrev pub HasOwnLog : (IsThere : List ℕ → Option Metadata → Type 0)
    → (IsBeginning : List ℕ → ℕ → List ℕ → Type 0) → (path : List ℕ) → Type 0
HasOwnLog IsThere IsBeginning path = IsThere (path ++ codes "-wal") None
    ⊎ ((found : Metadata) × (bytes : List ℕ) × IsThere (path ++ codes "-wal") (Some found)
    × IsFile (file_type found) × (metadata_len found ≤ own_log_limit)
    × IsBeginning (path ++ codes "-wal") own_log_limit bytes × MayBeOwnLog bytes)

-- The log beside a file is a plain file, and not that of a stopped `new`: it is longer, or its bytes cannot be that.
abbrev pub HasOtherLog : (IsThere : List ℕ → Option Metadata → Type 0)
    → (IsBeginning : List ℕ → ℕ → List ℕ → Type 0) → (path : List ℕ) → Type 0
HasOtherLog IsThere IsBeginning path = (found : Metadata) × IsThere (path ++ codes "-wal") (Some found)
    × IsFile (file_type found) × ((own_log_limit < metadata_len found)
    ⊎ ((bytes : List ℕ) × IsBeginning (path ++ codes "-wal") own_log_limit bytes × ¬ MayBeOwnLog bytes))

-- where a new desk's file is: at the path without links, or where nothing is there, at the path as it is given
abbrev pub place_of : (path : List ℕ) → (real : Option Path) → List ℕ
place_of path (Some real) = path_buf_bytes real
place_of path None = path

-- A desk may be made in the file at a path: it is blank, as far as its first 65,536 bytes tell, no journal has to be
-- played back, and its log may be written over.
pub record MayBecomeDesk (IsThere : List ℕ → Option Metadata → Type 0)
    (IsBeginning : List ℕ → ℕ → List ℕ → Type 0) (path : List ℕ) : Type 0 where
  pub head : List ℕ
  pub begins : IsBeginning path 65536 head
  pub blank : IsBlank head
  pub journal : HasNoJournal IsBeginning path
  pub log : HasOwnLog IsThere IsBeginning path

-- what a file begins with is no blank database, and this is the cause: a desk, or something else
abbrev pub IsHeldAs : (head : List ℕ) → FileCause → Type 0
IsHeldAs head cause = (¬ IsBlank head) × (ListsTables head → cause ≡ file.DeskAlready)
    × ((¬ ListsTables head) → cause ≡ file.NotBlank)

-- The log beside a file is the cause: it is no plain file, or one that may not be written over.
abbrev pub IsLogCause : (IsThere : List ℕ → Option Metadata → Type 0)
    → (IsBeginning : List ℕ → ℕ → List ℕ → Type 0) → (path : List ℕ) → FileCause → Type 0
IsLogCause IsThere IsBeginning path cause = ((cause ≡ file.OddLog)
    × ((found : Metadata) × IsThere (path ++ codes "-wal") (Some found) × ¬ IsFile (file_type found)))
    ⊎ ((cause ≡ file.OtherLog) × HasOtherLog IsThere IsBeginning path)

-- Why no desk may be made in the file at a path: a call of the system failed, the file is not blank, a journal may have to
-- be played back, or its log is the cause.
abbrev pub IsNoPlace : (IsFailure : List ℕ → FileCause → Type 0) → (IsThere : List ℕ → Option Metadata → Type 0)
    → (IsBeginning : List ℕ → ℕ → List ℕ → Type 0) → (path : List ℕ) → FileCause → Type 0
IsNoPlace IsFailure IsThere IsBeginning path cause =
    IsFailedCall IsFailure path cause ⊎ IsFailedAt IsFailure (path ++ codes "-journal") cause
    ⊎ ((head : List ℕ) × IsBeginning path 65536 head × IsHeldAs head cause)
    ⊎ ((cause ≡ file.Journal) × HasJournal IsThere IsBeginning path)
    ⊎ IsLogCause IsThere IsBeginning path cause

-- Why no desk may be made at a path: no file has such a name, it leads to no plain file, or the file is the
-- cause.
abbrev pub IsUnmakeable : (IsTarget : Result (Option Metadata) FileCause → Type 0)
    → (IsReal : Result Path FileCause → Type 0) → (IsFailure : List ℕ → FileCause → Type 0)
    → (IsThere : List ℕ → Option Metadata → Type 0) → (IsBeginning : List ℕ → ℕ → List ℕ → Type 0)
    → (path : List ℕ) → FileCause → Type 0
IsUnmakeable IsTarget IsReal IsFailure IsThere IsBeginning path cause = IsNameCause path cause
    ⊎ IsNotPlain IsTarget IsReal (IsFailure path) (IsThere path) cause
    ⊎ ((real : Option Path) × LeadsTo IsTarget IsReal (IsThere path) real
    × IsNoPlace IsFailure IsThere IsBeginning (place_of path real) cause)

-- whether a desk of this version is opened, or is of another version than today's
abbrev pub may_be_opened : Version → Result (Unit {0}) FileCause
may_be_opened Two = Ok tt
may_be_opened One = Err file.Version1

-- the cause for a desk of this version that cannot be migrated
abbrev pub cause_to_migrate : Version → FileCause
cause_to_migrate One = file.Rows None
cause_to_migrate Two = file.Version2

-- What there is to undo at a log. One that is empty was emptied, or made, by opening the file.
abbrev pub what_to_undo : (is_empty was_there : Bool) → Undoing
what_to_undo false there = undoing_of.Nothing
what_to_undo true true = undoing_of.Emptying
what_to_undo true false = undoing_of.Removing

-- How many bytes a file of this size, whose header gives so many pages, has to keep.
abbrev pub kept_of : (size pages : ℕ) → ℕ
kept_of size pages = min size (pages * 4096)

-- nothing is at a path any more, by the kind of the error there
abbrev pub is_gone : ErrorKind → Bool
is_gone NotFound = true
is_gone NotADirectory = true
is_gone _ = false

-- A file has left its place, by what the system says of its path: another one is there, or none.
abbrev pub HasLeft : (IsFound : Result Found Error → Type 0) → (then : Numbers) → Type 0
HasLeft IsFound then = (found : Result Found Error) × IsFound found
    × MatchResult found (λ f. IsAnother f then) (λ e. is_gone (error_kind e) ≡ true)

-- A file counts as in its place: the system finds it there, or does not say what is there.
abbrev pub HasStayed : (IsFound : Result Found Error → Type 0) → (then : Numbers) → Type 0
HasStayed IsFound then = (found : Result Found Error) × IsFound found
    × MatchResult found (λ f. ¬ IsAnother f then) (λ e. is_gone (error_kind e) ≡ false)

-- the file is missing, by the kind of the error at its path
abbrev pub is_missing : ErrorKind → Bool
is_missing NotFound = true
is_missing _ = false

-- Whether a log was there before. One of which the system does not say that it is missing counts as there.
abbrev pub was_there : Result Found Error → Bool
was_there (Ok found) = true
was_there (Err e) = not (is_missing (error_kind e))

-- whether a log is an empty file, as far as the system says so
abbrev pub is_empty_log : Result Found Error → Bool
is_empty_log (Ok found) = nat_eq found.size 0
is_empty_log (Err e) = false

-- What the system says where a log is undone: it is asked for no more than there is to undo.
abbrev pub IsUndone : (IsEmptied IsRemoved : Result (Unit {0}) Error → Type 0)
    → Undoing → Result (Unit {0}) Error → Type 0
IsUndone IsEmptied IsRemoved undoing_of.Nothing result = result ≡ Ok tt
IsUndone IsEmptied IsRemoved undoing_of.Emptying result = IsEmptied result
IsUndone IsEmptied IsRemoved undoing_of.Removing result = IsRemoved result

-- the size of a file, as far as the system says it
abbrev pub size_of : Result Found Error → ℕ
size_of (Ok found) = found.size
size_of (Err e) = 0
