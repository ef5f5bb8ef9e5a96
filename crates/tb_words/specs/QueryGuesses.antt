-- Between crates: no contract of a front door cites a definition of this module.
-- What a query most likely means, by what is at the place of its fault and what is before it.
use Rattle.std.specs.Prelude.{ℕ, List, [], ◌∷◌, chars, codes, drop, length, Bool, ◌&&◌, ◌||◌, ◌==◌, bytes_eq, eqb}
use Rattle.std.specs.Prelude.{if◌then◌else◌, nat_le, nat_lt, None, not, Option, Some}
use Rattle.std.specs.Char.Unicode.Alphabetic.{is_alphabetic}
use Rattle.std.specs.Char.Unicode.Numeric.{is_numeric}
use Rattle.std.specs.List.{ends_with, slice_get, starts_with}
use Rattle.std.specs.Str.{byte, trim_start}
use Rattle.tb_words.specs.declared.syntax.Wrong.{Wrong}
use Rattle.tb_words.specs.declared.sentences.TheConstants.{AFTER_SEMICOLON, AFTER_WITHIN, ANCHOR, AND_OR, AND_OUTSIDE}
use Rattle.tb_words.specs.declared.sentences.TheConstants.{AND_TWICE, ARROW, BACKSLASH_QUOTE, BRACE_OPEN, BRACKETS}
use Rattle.tb_words.specs.declared.sentences.TheConstants.{BRACKET_OPEN, CONNECTIVE, CONTAINS, CURLY_QUOTE, EMPTY_QUERY}
use Rattle.tb_words.specs.declared.sentences.TheConstants.{ENDS_EARLY, END_PLACE, EQUALS_TWICE, FEATURE_WANTED, FLAG, LABEL}
use Rattle.tb_words.specs.declared.sentences.TheConstants.{MATCHES, MU, NOTHING_REPEATED, NOT_SPACED, NO_LOWER}
use Rattle.tb_words.specs.declared.sentences.TheConstants.{NO_PARENTHESIS, NUMBER_ZERO, PARENTHESIS_OPEN, QUOTE_OPEN}
use Rattle.tb_words.specs.declared.sentences.TheConstants.{REPEATED_TWICE, REPETITION_FORM, SYNTAX, TAG, TEST_MISSING}
use Rattle.tb_words.specs.declared.sentences.TheConstants.{TEST_WANTED, VALUE_UNQUOTED, VALUE_WANTED, WITHIN, WORD_UNQUOTED}
use Rattle.tb_words.specs.QueryWords.{any_column, column_sentence, first_word, is_column, is_connective}

-- ---- what is before the place

-- the text ends so
abbrev pub ends : Wrong → List ℕ → Bool
ends wrong end = ends_with eqb wrong.before.now end

-- the name of a column
abbrev pub follows_column : Wrong → Bool
follows_column wrong = any_column (ends wrong)

-- a test within brackets, which lacks its value
abbrev pub wants_value : Wrong → Bool
wants_value wrong = nat_lt 0 wrong.brackets && (ends wrong (codes "=") || ends wrong (codes "contains"))

abbrev pub follows_flag : Wrong → Bool
follows_flag wrong = ends wrong (codes "%c") || ends wrong (codes "%l")

abbrev pub follows_repetition : Wrong → Bool
follows_repetition wrong =
    ends wrong (codes "?") || ends wrong (codes "*") || ends wrong (codes "+") || ends wrong (codes "}")

-- a sign after which a test begins
abbrev pub begins_test : Wrong → Bool
begins_test wrong = ends wrong (codes "[") || ends wrong (codes "(") || ends wrong (codes "&") || ends wrong (codes "|")
    || ends wrong (codes "!")

-- a repetition whose number is still to come
abbrev pub wants_number : Wrong → Bool
wants_number wrong = ends wrong (codes "{") || ends wrong (codes ",")

-- a choice or a parenthesis, whose next part is still to come
abbrev pub wants_part : Wrong → Bool
wants_part wrong = ends wrong (codes "|") || ends wrong (codes "(")

-- the end of a query, or its beginning: `within`, `within s` or a semicolon. No other word outside brackets ends with s.
abbrev pub follows_end : Wrong → Bool
follows_end wrong = wrong.brackets == 0
    && (ends wrong (codes "within") || ends wrong (codes "s") || ends wrong (codes ";"))

-- a literal that ends with a backslash, which was to keep it open
abbrev pub follows_backslash : Wrong → Bool
follows_backslash wrong = ends wrong (92 ∷ 34 ∷ []) || ends wrong (92 ∷ 39 ∷ [])

-- ---- what is at the place

-- the value that is wanted: of `contains` it is a feature
abbrev pub value_sentence : Wrong → List ℕ
value_sentence wrong = if ends wrong (codes "contains") then FEATURE_WANTED.now else VALUE_WANTED.now

-- nothing: the query ends within brackets, and lacks a value, a sign and a value, a test, or a bracket alone
abbrev pub end_inside_sentence : Wrong → List ℕ
end_inside_sentence wrong =
    if wants_value wrong then value_sentence wrong else
    if follows_column wrong then TEST_WANTED.now else
    if begins_test wrong && not (ends wrong (codes "[")) then TEST_MISSING.now else BRACKET_OPEN.now

-- nothing: the query ends too early
abbrev pub end_sentence : Wrong → List ℕ
end_sentence wrong =
    if length wrong.before.now == 0 then EMPTY_QUERY.now else
    if nat_lt 0 wrong.brackets then end_inside_sentence wrong else
    if ends wrong (codes "{") then REPETITION_FORM.now else
    if nat_lt 0 wrong.braces then BRACE_OPEN.now else
    if wants_part wrong then ENDS_EARLY.now else
    if nat_lt 0 wrong.parentheses then PARENTHESIS_OPEN.now else WITHIN.now

-- anything after the end of a query: only `s` follows `within`, only a semicolon `within s`, and nothing a semicolon
abbrev pub after_end_sentence : Wrong → List ℕ
after_end_sentence wrong =
    if ends wrong (codes "within") then WITHIN.now else
    if ends wrong (codes ";") then AFTER_SEMICOLON.now else AFTER_WITHIN.now

-- anything within the braces of a repetition: a comma without a number before it, a number with a leading zero, or what
-- does not belong to numbers that a comma separates
abbrev pub braces_sentence : Wrong → List ℕ
braces_sentence wrong =
    if ends wrong (codes "{") && starts_with eqb wrong.rest.now (codes ",") then NO_LOWER.now else
    if wants_number wrong && starts_with eqb wrong.rest.now (codes "0") then NUMBER_ZERO.now else REPETITION_FORM.now

-- a word within brackets
abbrev pub inside_sentence : Wrong → List ℕ → List ℕ
inside_sentence wrong word =
    if wants_value wrong then VALUE_UNQUOTED.now else
    if bytes_eq word (codes "contains") then CONTAINS.now else
    if follows_column wrong && (bytes_eq word (codes "matches") || bytes_eq word (codes "not")) then MATCHES.now else
    if is_connective word then AND_OR.now else
    if follows_flag wrong then FLAG.now else
    if begins_test wrong then column_sentence word else SYNTAX.now

-- a word outside of them, which this follows
abbrev pub other_sentence : (word after : List ℕ) → List ℕ
other_sentence word after =
    if starts_with eqb after (codes ":") then LABEL.now else
    if bytes_eq word (codes "MU") || bytes_eq word (codes "TAB") then MU.now else
    if is_column word || starts_with eqb (trim_start after) (codes "=") then BRACKETS.now else WORD_UNQUOTED.now

-- the same, or `within` where no query ends, or a word for and, or, or not
abbrev pub outside_sentence : Wrong → List ℕ → List ℕ → List ℕ
outside_sentence wrong word after =
    if follows_backslash wrong then BACKSLASH_QUOTE.now else
    if bytes_eq word (codes "within") then END_PLACE.now else
    if is_connective word then CONNECTIVE.now else
    if follows_flag wrong then FLAG.now else other_sentence word after

abbrev pub word_sentence : Wrong → List ℕ
word_sentence wrong =
    if nat_lt 0 wrong.brackets then inside_sentence wrong (first_word wrong.rest.now)
    else outside_sentence wrong (first_word wrong.rest.now) (drop (length (first_word wrong.rest.now)) wrong.rest.now)

-- a quote, whose literal ends or does not
abbrev pub quote_sentence : Wrong → Bool → List ℕ
quote_sentence wrong is_closed =
    if not is_closed then QUOTE_OPEN.now else if follows_column wrong then TEST_WANTED.now else SYNTAX.now

abbrev pub repetition_sentence : Wrong → List ℕ
repetition_sentence wrong = if follows_repetition wrong then REPEATED_TWICE.now else NOTHING_REPEATED.now

abbrev pub bracket_sentence : Wrong → List ℕ
bracket_sentence wrong =
    if wants_value wrong then value_sentence wrong else if follows_column wrong then TEST_WANTED.now else SYNTAX.now

-- a sign of which this is said where it is so, and else that a value is wanted, or nothing more
abbrev pub said_if : Wrong → Bool → List ℕ → List ℕ
said_if wrong is_so sentence = if is_so then sentence else if wants_value wrong then value_sentence wrong else SYNTAX.now

-- an `&`: within brackets a second one, and outside of them any
abbrev pub and_sentence : Wrong → List ℕ
and_sentence wrong =
    if nat_lt 0 wrong.brackets then said_if wrong (ends wrong (codes "&")) AND_TWICE.now else AND_OUTSIDE.now

abbrev pub sign_sentence : Wrong → ℕ → List ℕ
sign_sentence wrong sign =
    if sign == byte "%" then FLAG.now else
    if sign == byte "<" then TAG.now else
    if sign == byte "@" then ANCHOR.now else
    if sign == byte ":" then LABEL.now else
    if sign == byte ")" then NO_PARENTHESIS.now else
    if sign == byte "]" then bracket_sentence wrong else
    if sign == byte "{" || sign == byte "?" || sign == byte "*" || sign == byte "+" then repetition_sentence wrong else
    if sign == byte "-" then said_if wrong (starts_with eqb wrong.rest.now (codes "->")) ARROW.now else
    if sign == byte "&" then and_sentence wrong else
    if sign == byte "|" then said_if wrong (ends wrong (codes "|")) AND_TWICE.now else
    if sign == byte ";" then said_if wrong (wrong.brackets == 0) END_PLACE.now else
    if sign == byte "=" then said_if wrong (ends wrong (codes "=")) EQUALS_TWICE.now else
    said_if wrong (sign == byte "!" && follows_column wrong) NOT_SPACED.now

-- quotes that a query does not use
abbrev pub is_curly : ℕ → Bool
is_curly c = (nat_le 0x2018 c && nat_le c 0x201F) || c == 0x2032 || c == 0x2033 || c == 0xAB || c == 0xBB || c == 0x2039
    || c == 0x203A || c == 0x60 || c == 0xB4

-- a character
abbrev pub character_sentence : Wrong → Bool → ℕ → List ℕ
character_sentence wrong is_closed c =
    if follows_end wrong then after_end_sentence wrong else
    if nat_lt 0 wrong.braces then braces_sentence wrong else
    if is_curly c then CURLY_QUOTE.now else
    if c == 34 || c == 39 then quote_sentence wrong is_closed else
    if is_alphabetic c || is_numeric c then word_sentence wrong else sign_sentence wrong c

-- the first character there, if there is one
abbrev pub guess_at : Wrong → Bool → Option ℕ → List ℕ
guess_at wrong is_closed None = end_sentence wrong
guess_at wrong is_closed (Some c) = character_sentence wrong is_closed c

-- what is said of a text that is no query
abbrev pub guess : Wrong → Bool → List ℕ
guess wrong is_closed = guess_at wrong is_closed (slice_get (chars wrong.rest.now) 0)
