-- The sentences for causes on standard error.
use Rattle.std.specs.Prelude.{ℕ, List, [], codes}
use Rattle.tb_words.specs.declared.sentences.TheConstants.{MEMORY}
use Rattle.tb_host.specs.declared.causes.Shortage.{Shortage}
use Rattle.tb_host.specs.declared.causes.Shortage.TheVariants as short
use Rattle.tb_host.specs.declared.causes.FileCause.{FileCause}
use Rattle.tb_host.specs.declared.causes.FileCause.TheVariants as file
use Rattle.tb_host.specs.declared.causes.Form.{Form}
use Rattle.tb_host.specs.declared.causes.Form.TheVariants as form
use Rattle.tb_host.specs.declared.causes.PortCause.{PortCause}
use Rattle.tb_host.specs.declared.causes.PortCause.TheVariants as port
use Rattle.tb_host.specs.declared.causes.StreamCause.{StreamCause}
use Rattle.tb_host.specs.declared.causes.StreamCause.TheVariants as stream
use Rattle.tb_host.specs.declared.causes.Cause.{Cause}
use Rattle.tb_host.specs.declared.causes.Cause.TheVariants as cause

-- what the system has run out of
abbrev pub short_text : Shortage → List ℕ
short_text short.OwnFiles =
    codes "the command may have no more files open; raise the limit (`ulimit -n`) and try again"
short_text short.AllFiles = codes "the system may have no more files open; end other programs and try again"
short_text short.Buffers = codes "the system has no buffers left for it; end other programs and try again"

-- why no desk is opened or made in a file
abbrev pub file_text : FileCause → List ℕ
file_text file.Missing = codes "there is no such file; `new` makes a desk"
file_text file.NoFolder = codes "its folder is missing, or is not a folder; make the folder first"
file_text file.Folder = codes "this is a folder; name the file of a desk in it"
file_text file.NotPlain = codes "this is not a regular file; name the file of a desk"
file_text file.NoName = codes "this name is empty; name the file of a desk"
file_text file.ReservedName = codes "SQLite gives this name a meaning of its own; choose another one"
file_text file.Denied = codes "you may not read and write it, or its folder; a desk needs both, even to be read"
file_text file.ReadOnly = codes "it is on a read-only disk; copy it to another one"
file_text file.NewReadOnly = codes "its folder or its disk is read-only; choose another place"
file_text file.Links = codes "its symbolic links lead to one another, or are too many; name the file itself"
file_text file.DeadLink = codes "this symbolic link leads to no file; name the file itself, or move the link away"
file_text file.Lost =
    codes "the network file system does not find it any more; see that it is still there, and mount its disk again"
file_text file.NoAnswer = codes "its file system does not answer; check the server that has it, and try again"
file_text file.Unopened = codes "the system cannot open a file of this name; choose another one"
file_text file.SecondName =
    codes "it has a second name, or a link is in its place or its log's; copy it to a name of its own"
file_text file.NotSqlite = codes "this is not an SQLite file, so it is not a desk; name the file that `new` made"
file_text file.Empty = codes "the file is empty; `new` makes a desk in it"
file_text file.OtherDatabase = codes "this is an SQLite database of something else; name the file that `new` made"
file_text file.Version1 = codes "this is a desk of version 1; `migrate` brings it to version 2"
file_text file.Version2 = codes "this has the tables of version 2; there is nothing to migrate"
file_text file.DeskAlready = codes "this is a desk already; work on it without `new`, or name another file"
file_text file.NotBlank = codes "the file holds something already; `new` takes a missing or an empty one"
file_text file.OtherLog = codes "beside it, under its name with -wal, is the log of another desk; move that log away"
file_text file.OddLog =
    codes "what is beside it under its name with -wal is not a regular file, so not its log; move that away"
file_text file.Journal =
    codes "another program left a journal beside it, its name with -journal; open it once with sqlite3"
file_text (file.Rows misfit) =
    codes "its rows are not those of a desk; another program changed it, or its log is another's; restore a backup"
file_text file.Damaged = codes "SQLite cannot read it, so it is damaged or cut off; restore a backup, with its log"
file_text file.Busy = codes "another command has had it for ten seconds; try again once that has ended"
file_text file.Full = codes "the disk is full; make room and try again"
file_text file.Quota = codes "your disk quota is used up; make room and try again"
file_text file.TooLarge = codes "it may not grow so large; raise the limit (`ulimit -f`), or copy it to another disk"
file_text (file.Short shortage) = short_text shortage
file_text file.Failed = codes "the system failed to read or write it; check the disk"
file_text file.NoRandom = codes "the system gives no random numbers, which a desk needs; try again"
file_text file.Memory = MEMORY.now

-- the form of a value
abbrev pub form_text : Form → List ℕ
form_text form.Batch = codes "the name of a batch is not empty and has no slash"
form_text form.Event = codes "write assign, unassign, submit, send-back, adjudicate, release, withdraw or reopen"
form_text form.Number = codes "write a number of 1 to 10 digits, the first not 0; a sent_id cannot stand here"
form_text form.Base = codes "write the number of the revision that was corrected"
form_text form.Strategy = codes "write shortest, longest or every"
form_text form.Context = codes "write a number of words from 0 to 20"
form_text form.Attribute = codes "write word, lemma, upos, xpos, feats or deprel"
form_text form.Most = codes "write a number of faults from 1 to 1000000"
form_text form.Port = codes "write a port from 0 to 65535; 0 lets the system choose one"
form_text form.Requests = codes "write a number of 1 to 10 digits"

-- why a port is not listened on
abbrev pub port_text : PortCause → List ℕ
port_text port.Taken = codes "another program listens on it; choose another port, or 0 for a free one"
port_text port.Denied = codes "you may not listen on it; choose a port from 1024 on, or 0 for a free one"
port_text port.NoLoopback = codes "the system has no address 127.0.0.1; check its loopback interface"
port_text port.NoneGiven = codes "the system gives no free port; name one from 1024 on, or end other programs"
port_text (port.Short shortage) = short_text shortage
port_text port.Failed =
    codes "the system does not let a program listen on it; choose another port, or 0 for a free one"
port_text port.Memory = MEMORY.now

-- what happened to a standard stream
abbrev pub stream_text : StreamCause → List ℕ
stream_text stream.InputClosed = codes "standard input: it is closed, so nothing was read; give a file by `< FILE`"
stream_text stream.InputFolder = codes "standard input: it is a folder; give a file by `< FILE`"
stream_text stream.InputFailed = codes "standard input: the system failed to read it; nothing was done"
stream_text stream.OutputClosed = codes "standard output: it is closed, so the answer is lost; ask again"
stream_text stream.OutputPipe = codes "standard output: its reader closed the pipe before the end of the answer"
stream_text stream.OutputFull =
    codes "standard output: the disk is full, so the answer is not whole; make room and ask again"
stream_text stream.OutputQuota =
    codes "standard output: your disk quota is used up, so the answer is not whole; make room and ask again"
stream_text stream.OutputTooLarge =
    codes "standard output: the file may not grow so large; raise the limit (`ulimit -f`) and ask again"
stream_text stream.OutputFailed =
    codes "standard output: the system failed to write it; write the answer to another place, and ask again"

-- why a command was not done
abbrev pub cause_text : Cause → List ℕ
cause_text (cause.Words words) = []
cause_text (cause.NoCommand program) = []
cause_text (cause.File c) = file_text c
cause_text (cause.Value f) = form_text f
cause_text (cause.Port c) = port_text c
cause_text (cause.Stream c) = stream_text c
cause_text cause.NotText = codes "a word of the command line is not UTF-8; write it in UTF-8"
cause_text cause.FilesMoved =
    codes "serving ended: the desk's files were moved, removed or replaced; serve the file that is meant"
cause_text cause.FileShut =
    codes "serving ended: an I/O error closed the desk's file; check the disk and serve the desk again"
cause_text cause.NoConnections = codes "serving ended: the system gave no more connections; serve the desk again"
cause_text cause.BrokenOff =
    codes "the answer is not whole: there was not enough memory, or the desk's file could not be read; ask again"
cause_text cause.Memory = MEMORY.now
cause_text cause.NothingKept = codes "nothing is kept: without --db the desk was in memory, for this command alone"
cause_text cause.NothingThere = codes "without --db the desk is in memory, and empty; name the file of a desk by --db"
cause_text cause.BothOrNeither =
    codes "name both a desk by --db and a sentence by its number, or neither to draw the file on standard input"
cause_text cause.NothingWillBeKept =
    codes "without --db the desk is in memory; what is sent to it is gone when the server ends"
