-- What the headers of a request say, over a plain list of names and values without the white space around them.
use Rattle.std.specs.Prelude.{ℕ, List, [], ◌∷◌, length, codes, Bool, ◌&&◌, Option, Some, None}
use Rattle.std.specs.Prelude.{if◌then◌else◌, nat_lt}
use Rattle.std.specs.List.{filter_map, list_all}
use Rattle.std.specs.Char.{is_ascii_digit}
use Rattle.std.specs.Str.{str_eq_ignore_ascii_case, is_utf8}
use Rattle.std.specs.Str.Parse.{digits_value}

-- a name and a value
abbrev pub Header : Type 0
Header = List ℕ × List ℕ

-- the header has this name; ASCII case does not matter
abbrev pub is_named : List ℕ → Header → Bool
is_named name h = str_eq_ignore_ascii_case h.0 name

-- the header's value, if it has this name
abbrev pub value_under : List ℕ → Header → Option (List ℕ)
value_under name h = if is_named name h then Some h.1 else None

-- the values of the headers with this name, in order
abbrev pub values_of : List ℕ → List Header → List (List ℕ)
values_of name headers = filter_map (value_under name) headers

-- one digit or more, and nothing else
abbrev pub is_numeral : List ℕ → Bool
is_numeral text = nat_lt 0 (length text) && list_all is_ascii_digit text

-- the number in at most one value; 0 without a value
abbrev pub number_of : List (List ℕ) → Option ℕ
number_of [] = Some 0
number_of (v ∷ []) = if is_numeral v then Some (digits_value 10 v) else None
number_of (v ∷ w ∷ vs) = None

-- the length, if there is no transfer coding
abbrev pub length_said : List (List ℕ) → List (List ℕ) → Option ℕ
length_said [] lengths = number_of lengths
length_said (c ∷ cs) lengths = None

-- the length of the body, or none where it is refused
abbrev pub body_length : List Header → Option ℕ
body_length headers = length_said (values_of (codes "Transfer-Encoding") headers) (values_of
    (codes "Content-Length") headers)

-- the value if it is UTF-8, else the empty text
abbrev pub text_of : List ℕ → List ℕ
text_of v = if is_utf8 v then v else []

-- the user that at most one value names
abbrev pub user_said : List (List ℕ) → Option (List ℕ)
user_said [] = Some []
user_said (v ∷ []) = Some (text_of v)
user_said (v ∷ w ∷ vs) = None

-- the user, or none where it is named twice
abbrev pub user_of : List Header → Option (List ℕ)
user_of headers = user_said (values_of (codes "Desk-User") headers)
