-- The guard of the page: who may ask. A browser tells in three headers where a request comes from, and no page from
-- elsewhere can change them: Host (RFC 9110, section 7.2), Origin (the Fetch standard), and Sec-Fetch-Site (Fetch
-- Metadata).
use Rattle.std.specs.Prelude.{ℕ, List, [], ◌∷◌, ◌++◌, codes, Bool, true, false, ◌||◌, Option, Some, None, bytes_eq}
use Rattle.std.specs.Prelude.{if◌then◌else◌, decimal, nat_eq}
use Rattle.std.specs.Str.{str_eq_ignore_ascii_case}
use Rattle.tb_http.specs.Headers.{Header, values_of}
use Rattle.tb_page.specs.Paths.{rest_after}
use Rattle.tb_page.specs.declared.guard.Foreign.{Foreign}
use Rattle.tb_page.specs.declared.guard.Foreign.TheVariants as foreign
use Rattle.tb_page.specs.declared.guard.Said.{Said as AnySaid}
use Rattle.tb_page.specs.declared.guard.Said.TheVariants as code

-- what a request says in one header: nothing, one value, or more of them
pub data Said : Type 0 where
  nothing : Said
  once : List ℕ → Said
  more : Said

abbrev pub said_in : (values : List (List ℕ)) → Said
said_in [] = nothing
said_in (value ∷ []) = once value
said_in (value ∷ other ∷ values) = more

abbrev pub said_under : (name : List ℕ) → List Header → Said
said_under name headers = said_in (values_of name headers)

-- a name with a port, as the header Host has it: without the port of HTTP, which is 80
abbrev pub with_port : (name : List ℕ) → (port : ℕ) → List ℕ
with_port name port = if nat_eq port 80 then name else name ++ codes ":" ++ decimal port

-- one of the names of this machine, with the port that the page is served at
abbrev pub is_own_host : (port : ℕ) → List ℕ → Bool
is_own_host port host =
    str_eq_ignore_ascii_case host (with_port (codes "127.0.0.1") port)
    || (str_eq_ignore_ascii_case host (with_port (codes "localhost") port)
    || str_eq_ignore_ascii_case host (with_port (codes "[::1]") port))

-- there is one Host, and it is this machine's
abbrev pub names_own_host : (port : ℕ) → Said → Bool
names_own_host port nothing = false
names_own_host port (once host) = is_own_host port host
names_own_host port more = false

-- what follows `http://` in an origin is this host
abbrev pub is_http : (host : List ℕ) → Option (List ℕ) → Bool
is_http host (Some rest) = bytes_eq rest host
is_http host None = false

-- an origin is the page's own, where the page is at this host
abbrev pub is_at : Said → (origin : List ℕ) → Bool
is_at nothing origin = false
is_at (once host) origin = is_http host (rest_after (codes "http://") origin)
is_at more origin = false

-- there is no Origin, or one: the page's own
abbrev pub is_own_origin : (host origin : Said) → Bool
is_own_origin host nothing = true
is_own_origin host (once origin) = is_at host origin
is_own_origin host more = false

-- there is no Sec-Fetch-Site, or one: the request comes from the page, or from the browser itself
abbrev pub is_own_site : Said → Bool
is_own_site nothing = true
is_own_site (once site) = bytes_eq site (codes "same-origin") || bytes_eq site (codes "none")
is_own_site more = false

-- Why a request is refused, if it is. A link from elsewhere may lead to the page itself, which is the same for all.
abbrev pub guard_by : (port : ℕ) → (is_linkable : Bool) → (host origin site : Said) → Option Foreign
guard_by port is_linkable host origin site =
    if names_own_host port host then
    (if is_own_origin host origin then
    (if is_linkable || is_own_site site then None else Some foreign.Origin)
    else Some foreign.Origin)
    else Some foreign.Host

abbrev pub guard_of : (port : ℕ) → (is_linkable : Bool) → List Header → Option Foreign
guard_of port is_linkable headers = guard_by port is_linkable (said_under (codes "Host") headers)
    (said_under (codes "Origin") headers) (said_under (codes "Sec-Fetch-Site") headers)

-- what the code's value says, as plain data
abbrev pub said_by : AnySaid → Said
said_by code.Nothing = nothing
said_by (code.Once value) = once value.now
said_by code.More = more
