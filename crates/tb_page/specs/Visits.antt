-- What the bytes of a request ask of a server with the page: by its head, and a check by its body too.
use Rattle.std.specs.Prelude.{◌≡◌, ◌⊎◌, ◌≤◌, ◌<◌, ℕ, List, length, take, codes, Bool, true, ◌&&◌, Option, Some, None}
use Rattle.std.specs.Prelude.{bytes_eq, nat_le, if◌then◌else◌}
use Rattle.httparse.specs.Grammar.{RequestHead}
use Rattle.tb_http.specs.Asks.{body_limit, headers_of}
use Rattle.tb_http.specs.Head.{BeginsWithHead, HasNoHead}
use Rattle.tb_http.specs.Headers.{Header, body_length}
use Rattle.tb_http.specs.declared.actions.Allow.{Allow}
use Rattle.tb_http.specs.declared.actions.Allow.TheVariants.{Get, Post}
use Rattle.tb_http.specs.declared.asks.RequestFault.{RequestFault}
use Rattle.tb_http.specs.declared.asks.RequestFault.TheVariants.{Length, Long, Body}
use Rattle.tb_page.specs.Guard.{guard_of}
use Rattle.tb_page.specs.Paths.{ListText, file_at, is_check, list_at, list_by}
use Rattle.tb_page.specs.declared.guard.Foreign.{Foreign}
use Rattle.tb_page.specs.declared.paths.File.{File}
use Rattle.tb_page.specs.declared.visits.Visit.{Visit}
use Rattle.tb_page.specs.declared.visits.Visit.TheVariants as visit

-- What is asked: nothing, since the bytes begin with no head; nothing, since the guard refuses it; a file of the page; a
-- list; the check of a text; a check whose text did not come, and why; one of these by a method that it does not have,
-- with those that it has; or something of the desk.
pub data VisitText : Type 0 where
  no_head : VisitText
  foreign : Foreign → VisitText
  file : File → VisitText
  list : ListText → VisitText
  check : (text : List ℕ) → VisitText
  no_text : RequestFault → VisitText
  no_method : Allow → VisitText
  desk : VisitText

-- the head asks to read
abbrev pub is_get : (method : List ℕ) → Bool
is_get method = bytes_eq method (codes "GET")

-- a file and a list have the method GET alone
abbrev pub by_get : (is_get : Bool) → VisitText → VisitText
by_get is_get v = if is_get then v else no_method Get

-- the head asks for a check
abbrev pub is_post : (method : List ℕ) → Bool
is_post method = bytes_eq method (codes "POST")

-- the check has the method POST alone
abbrev pub by_post : (is_post : Bool) → VisitText → VisitText
by_post is_post v = if is_post then v else no_method Post

-- The text of n bytes, by the bytes that have come after the head. Nothing more is read.
abbrev pub text_in : (n : ℕ) → (rest : List ℕ) → VisitText
text_in n rest = if nat_le n (length rest) then check (take n rest) else no_text Body

-- The text that a head gives this length: it is one length, within the limit, and the text is whole in the bytes that
-- have come.
abbrev pub text_of : Option ℕ → (rest : List ℕ) → VisitText
text_of None rest = no_text Length
text_of (Some n) rest = if nat_le n body_limit then text_in n rest else no_text Long

-- what is asked of the path of the check
abbrev pub check_of : (method : List ℕ) → List Header → (rest : List ℕ) → VisitText
check_of method headers rest = by_post (is_post method) (text_of (body_length headers) rest)

-- what is asked of a path that names this file, if it names one, and this list
abbrev pub asked_of : (is_get : Bool) → Option File → Option ListText → VisitText
asked_of is_get (Some f) l = by_get is_get (file f)
asked_of is_get None (Some l) = by_get is_get (list l)
asked_of is_get None None = desk

-- the guard comes first
abbrev pub guarded : Option Foreign → VisitText → VisitText
guarded (Some why) v = foreign why
guarded None v = v

-- A link from elsewhere may lead to the page's first file.
abbrev pub is_linkable : (method path : List ℕ) → Bool
is_linkable method path = is_get method && bytes_eq path (codes "/")

-- what is asked of a path by a head and the bytes that have come after it
abbrev pub asked_at : (method path : List ℕ) → List Header → (rest : List ℕ) → VisitText
asked_at method path headers rest =
    if is_check path then check_of method headers rest else asked_of (is_get method) (file_at path) (list_at path)

-- what is asked by a head and the bytes that have come after it
abbrev pub visit_of : (port : ℕ) → (method path : List ℕ) → List Header → (rest : List ℕ) → VisitText
visit_of port method path headers rest = guarded (guard_of port (is_linkable method path) headers)
    (asked_at method path headers rest)

-- what bytes ask of the server at this port
abbrev pub Visits : (port : ℕ) → List ℕ → VisitText → Type 0
Visits port bytes v = (HasNoHead bytes × (v ≡ no_head)) ⊎ ((head : RequestHead) × (rest : List ℕ)
    × BeginsWithHead bytes head rest × (v ≡ visit_of port head.method head.target (headers_of head) rest))

-- bytes ask exactly one thing of a server
abbrev pub AsksOneVisit : Type 0
AsksOneVisit = (port : ℕ) (bytes : List ℕ) (v w : VisitText) → Visits port bytes v → Visits port bytes w → v ≡ w

-- the bytes begin with a head that asks for a check, and gives the text n bytes
pub record HasCheck (bytes : List ℕ) (head : RequestHead) (rest : List ℕ) (n : ℕ) : Type 0 where
  pub begins : BeginsWithHead bytes head rest
  pub path : is_check head.target ≡ true
  pub method : is_post head.method ≡ true
  pub said : body_length (headers_of head) ≡ Some n
  pub within : n ≤ body_limit

-- such a head has come, and less of the text than it gives
abbrev pub AwaitsText : List ℕ → Type 0
AwaitsText bytes = (head : RequestHead) × (rest : List ℕ) × (n : ℕ) × HasCheck bytes head rest n × (length rest < n)

-- the code's value, as plain data
abbrev pub visit_by : Visit → VisitText
visit_by visit.NoHead = no_head
visit_by (visit.Foreign why) = foreign why
visit_by (visit.File f) = file f
visit_by (visit.List l) = list (list_by l)
visit_by (visit.Check text) = check text.now
visit_by (visit.NoText why) = no_text why
visit_by (visit.NoMethod allow) = no_method allow
visit_by visit.Desk = desk
