-- The forms of values in a request's target and on a command line: segments between slashes, numbers, words.
use Rattle.std.specs.Prelude.{ℕ, zero, suc, List, length, codes, Bool, ◌&&◌, nat_lt, nat_le, ◌==◌, bytes_eq}
use Rattle.std.specs.Prelude.{if◌then◌else◌, Option, Some, None, option_and_then}
use Rattle.std.specs.List.{list_all, before_first, after_first, slice_index}
use Rattle.std.specs.Char.{is_ascii_digit}
use Rattle.std.specs.Str.Parse.{digits_value}
use Rattle.tb_core.specs.declared.kinds.Event.{Event}
use Rattle.tb_core.specs.declared.kinds.Event.TheVariants.{Assign, Unassign, Submit, SendBack, Adjudicate, Release}
use Rattle.tb_core.specs.declared.kinds.Event.TheVariants.{Withdraw, Reopen}
use Rattle.tb_core.specs.Words.{event_word}
use Rattle.tb_match.specs.declared.strategy.Strategy.{Strategy}
use Rattle.tb_match.specs.declared.strategy.Strategy.TheVariants.{Shortest, Longest, Every}
use Rattle.tb_syntax.specs.declared.lexeme.Attr.{Attr}
use Rattle.tb_syntax.specs.Spelling.{column}

abbrev pub is_slash : ℕ → Bool
is_slash b = b == 47

-- the text after n slashes and before the next
abbrev pub segment_of : ℕ → List ℕ → List ℕ
segment_of zero text = before_first is_slash text
segment_of (suc n) text = segment_of n (after_first is_slash text)

-- the number, if it is within the limit
abbrev pub within : ℕ → ℕ → Option ℕ
within limit n = if nat_le n limit then Some n else None

-- a name is any text but the empty one
abbrev pub name_of : List ℕ → Option (List ℕ)
name_of text = if nat_lt 0 (length text) then Some text else None

-- 1 to 10 digits, the first of them 1 to 9
abbrev pub is_number : List ℕ → Bool
is_number text = nat_lt 0 (length text) && (nat_le (length text) 10 &&
    (nat_lt 48 (slice_index text 0) && list_all is_ascii_digit text))

-- the number of a sentence or a revision
abbrev pub number_of : List ℕ → Option ℕ
number_of text = if is_number text then Some (digits_value 10 text) else None

-- a number, or 0
abbrev pub base_of : List ℕ → Option ℕ
base_of text = if bytes_eq text (codes "0") then Some 0 else number_of text

-- how many words of context a keyword line has on each side of a match: 0 to 20, without leading zeros
abbrev pub context_of : List ℕ → Option ℕ
context_of text = option_and_then (within 20) (base_of text)

-- how many faults are listed at most: 1 to 1000000, without leading zeros
abbrev pub most_of : List ℕ → Option ℕ
most_of text = option_and_then (within 1000000) (number_of text)

-- a port: 0 to 65535, without leading zeros
abbrev pub port_of : List ℕ → Option ℕ
port_of text = option_and_then (within 65535) (base_of text)

-- a number of requests: 1 to 10 digits
abbrev pub requests_of : List ℕ → Option ℕ
requests_of text = if nat_lt 0 (length text) && (nat_le
    (length text) 10 && list_all is_ascii_digit text) then Some (digits_value 10 text) else None

-- the event with this word
abbrev pub event_of : List ℕ → Option Event
event_of text =
    if bytes_eq text (event_word Assign) then Some Assign
    else if bytes_eq text (event_word Unassign) then Some Unassign
    else if bytes_eq text (event_word Submit) then Some Submit
    else if bytes_eq text (event_word SendBack) then Some SendBack
    else if bytes_eq text (event_word Adjudicate) then Some Adjudicate
    else if bytes_eq text (event_word Release) then Some Release
    else if bytes_eq text (event_word Withdraw) then Some Withdraw
    else if bytes_eq text (event_word Reopen) then Some Reopen
    else None

-- the strategy with this word
abbrev pub strategy_of : List ℕ → Option Strategy
strategy_of text =
    if bytes_eq text (codes "shortest") then Some Shortest
    else if bytes_eq text (codes "longest") then Some Longest
    else if bytes_eq text (codes "every") then Some Every
    else None

-- the attribute with this name, as queries write it
abbrev pub attribute_of : List ℕ → Option Attr
attribute_of text = column text
