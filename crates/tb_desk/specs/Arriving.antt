-- Inner: no contract beyond this crate cites a definition of this module.
-- What is still to come of a request, by the bytes that have come, and how many of them are kept.
use Rattle.std.specs.Prelude.{◌≡◌, ◌⊎◌, ◌<◌, ◌+◌, ◌-◌, ◌*◌, ℕ, List, length, Bool, min, max, nat_le, if◌then◌else◌}
use Rattle.httparse.specs.Grammar.{RequestHead, print_request}
use Rattle.httparse.specs.Spans.{RequestOverflows}
use Rattle.tb_http.specs.Asks.{Front, body_limit}
use Rattle.tb_http.specs.Faults.{AwaitsBody, AwaitsHead, BeginsBody, HasCall}
use Rattle.tb_page.specs.Visits.{AwaitsText, HasCheck}
use Rattle.tb_desk.specs.declared.arriving.Awaited.{Awaited}
use Rattle.tb_desk.specs.declared.arriving.Awaited.TheVariants.{Head, Body, Nothing}

-- The bytes begin with a head that passes each test of the desk, and with less of its body than it gives. Head and body
-- have `whole` bytes.
abbrev pub LacksBody : List ℕ → ℕ → Type 0
LacksBody said whole = (front : Front) × (n : ℕ) × HasCall body_limit said front n × (length front.rest < n)
    × (whole ≡ length (print_request front.head) + n)

-- the same for a check, which the page answers, and its text
abbrev pub LacksText : List ℕ → ℕ → Type 0
LacksText said whole = (head : RequestHead) × (rest : List ℕ) × (n : ℕ) × HasCheck said head rest n × (length rest < n)
    × (whole ≡ length (print_request head) + n)

-- What is awaited after these bytes. Nothing is awaited of a head that can have more than 32 headers only, nor where
-- memory is refused for the part of a body that has come.
abbrev pub IsAwaited : List ℕ → Awaited → Type 0
IsAwaited said Head = AwaitsHead said
IsAwaited said (Body whole) = LacksBody said whole ⊎ LacksText said whole
IsAwaited said Nothing = (AwaitsHead said → RequestOverflows 32 said)
    × (AwaitsBody body_limit said → BeginsBody body_limit said) × (¬ AwaitsText said)

-- what is awaited of the same request once so many of its bytes have come
abbrev pub awaited_at : Awaited → (came : ℕ) → Awaited
awaited_at Head came = Head
awaited_at (Body whole) came = if nat_le whole came then Nothing else Body whole
awaited_at Nothing came = Nothing

-- How large a full buffer of so many bytes becomes. The first has room for a head. With a body it doubles, up to the
-- size of the request.
abbrev pub next_size : (size : ℕ) → Awaited → ℕ
next_size size Head = 8192
next_size size (Body whole) = min (max (size * 2) 8192) whole
next_size size Nothing = 8192

-- How large a buffer may be, where the bodies of all others have so many bytes. The oldest has room for any request,
-- another for what is left of 12 MiB.
abbrev pub most_size : (others : ℕ) → (is_oldest : Bool) → ℕ
most_size others is_oldest = if is_oldest then 8192 + body_limit else 8192 + (12582912 - others)
