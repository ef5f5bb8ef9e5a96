-- The paths of the page: its files, what it reads of the desk beside the desk's own paths, and the check of a text.
use Rattle.std.specs.Prelude.{◌≡◌, ◌≢◌, ◌⊎◌, ℕ, List, length, take, drop, codes, Bool, true, Option, Some, None, option_map}
use Rattle.std.specs.Prelude.{bytes_eq, option_and_then, if◌then◌else◌}
use Rattle.tb_http.specs.Forms.{number_of}
use Rattle.tb_http.specs.Headers.{text_of}
use Rattle.tb_page.specs.declared.paths.File.{File}
use Rattle.tb_page.specs.declared.paths.File.TheVariants as file
use Rattle.tb_page.specs.declared.paths.PageList.{PageList}
use Rattle.tb_page.specs.declared.paths.PageList.TheVariants as list

-- What the page reads of the desk beside the desk's own paths: how many batches, sentences and moves there are; all
-- batches; the sentences of the batch with a number; or the sentence with a `sent_id`, in which percent escapes stand for
-- bytes.
pub data ListText : Type 0 where
  counts : ListText
  batches : ListText
  sentences : ℕ → ListText
  sent_id : List ℕ → ListText

-- the file at a path
abbrev pub file_at : List ℕ → Option File
file_at path =
    if bytes_eq path (codes "/") then Some file.Index
    else if bytes_eq path (codes "/page/page.css") then Some file.Style
    else if bytes_eq path (codes "/page/desk.js") then Some file.Desk
    else if bytes_eq path (codes "/page/rows.js") then Some file.Rows
    else if bytes_eq path (codes "/page/conllu.js") then Some file.Conllu
    else if bytes_eq path (codes "/page/tree.js") then Some file.Tree
    else if bytes_eq path (codes "/page/edit.js") then Some file.Edit
    else if bytes_eq path (codes "/page/find.js") then Some file.Find
    else if bytes_eq path (codes "/page/page.js") then Some file.Page
    else None

-- the rest of a text, where it begins with the first
abbrev pub rest_after : (front text : List ℕ) → Option (List ℕ)
rest_after front text = if bytes_eq (take (length front) text) front then Some (drop (length front) text) else None

-- the sentences of a batch, by its number
abbrev pub sentences_at : List ℕ → Option ListText
sentences_at path =
    option_and_then (λ no. option_map sentences (number_of (text_of no))) (rest_after (codes "/page/batches/") path)

-- the sentence with a `sent_id`
abbrev pub sent_id_at : List ℕ → Option ListText
sent_id_at path = option_map sent_id (rest_after (codes "/page/sent-id/") path)

-- the first of two, if it is there
abbrev pub first_of : Option ListText → Option ListText → Option ListText
first_of (Some l) other = Some l
first_of None other = other

-- a list that a path with a value names
abbrev pub value_at : List ℕ → Option ListText
value_at path = first_of (sentences_at path) (sent_id_at path)

-- the list that a path names
abbrev pub list_at : List ℕ → Option ListText
list_at path =
    if bytes_eq path (codes "/page/now") then Some counts
    else if bytes_eq path (codes "/page/batches") then Some batches
    else value_at path

-- the path at which a text is checked
abbrev pub is_check : List ℕ → Bool
is_check path = bytes_eq path (codes "/page/check")

-- a path of the page: that of a file, of what it reads of the desk, or of the check
abbrev pub IsPath : List ℕ → Type 0
IsPath path = (file_at path ≢ None) ⊎ (list_at path ≢ None) ⊎ (is_check path ≡ true)

-- the list of the code, as plain data
abbrev pub list_by : PageList → ListText
list_by list.Counts = counts
list_by list.Batches = batches
list_by (list.Sentences n) = sentences n
list_by (list.SentId id) = sent_id id.now
