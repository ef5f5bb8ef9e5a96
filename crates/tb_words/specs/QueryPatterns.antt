-- Between crates: no contract of a front door cites a definition of this module.
-- What is said of a literal that is no pattern, and where (QUERIES, literals and patterns).
use Rattle.std.specs.Prelude.{◌≡◌, ◌⊎◌, ◌+◌, ◌++◌, ◌∷◌, ◌==◌, ◌&&◌, ◌||◌, ℕ, List, [], Bool, true, Option, None, Some}
use Rattle.std.specs.Prelude.{codes, drop, eqb, if◌then◌else◌, MatchOption, nat_le, slice_get, take, unwrap_or}
use Rattle.std.specs.List.{starts_with}
use Rattle.std.specs.Str.{byte}
use Rattle.tb_literal.specs.Patterns.{IsPattern}
use Rattle.tb_syntax.specs.Spelling.{is_quote}
use Rattle.tb_words.specs.declared.sentences.TheConstants.{PATTERN_BACK, PATTERN_BACKSLASH, PATTERN_BRACE, PATTERN_CLOSED}
use Rattle.tb_words.specs.declared.sentences.TheConstants.{PATTERN_LOOKING, PATTERN_OPEN, PATTERN_OTHER, PATTERN_REPEATS}
use Rattle.tb_words.specs.declared.sentences.TheConstants.{PATTERN_SET}

-- the byte of a text that has this number; 0 where it has none
abbrev pub byte_of : (text : List ℕ) → (at : ℕ) → ℕ
byte_of text at = unwrap_or (slice_get text at) 0

-- ---- what other patterns have, and regex leaves out

-- a pattern looks ahead or behind
abbrev pub looks_round : (rest : List ℕ) → Bool
looks_round rest = starts_with eqb rest (codes "(?=") || starts_with eqb rest (codes "(?!")
    || starts_with eqb rest (codes "(?<=") || starts_with eqb rest (codes "(?<!")

-- a digit, without 0
abbrev pub is_first_digit : ℕ → Bool
is_first_digit b = nat_le 49 b && nat_le b 57

-- a pattern refers to an earlier match: such a digit follows a backslash
abbrev pub looks_back : (rest : List ℕ) → Bool
looks_back rest = byte_of rest 0 == 92 && is_first_digit (byte_of rest 1)

abbrev pub left_out : (rest : List ℕ) → Option (List ℕ)
left_out rest =
    if looks_round rest then Some PATTERN_LOOKING.now else if looks_back rest then Some PATTERN_BACK.now else None

-- ---- the sign whose meaning is at fault

abbrev pub sign_sentence : (sign : ℕ) → List ℕ
sign_sentence sign =
    if sign == byte "(" then PATTERN_OPEN.now else
    if sign == byte ")" then PATTERN_CLOSED.now else
    if sign == byte "[" then PATTERN_SET.now else
    if sign == byte "{" then PATTERN_BRACE.now else
    if sign == byte "*" || sign == byte "+" || sign == byte "?" then PATTERN_REPEATS.now else
    if sign == 92 then PATTERN_BACKSLASH.now else PATTERN_OTHER.now

-- a text with a backslash before what is at a byte, which takes the meaning from it
abbrev pub with_backslash : (text : List ℕ) → (at : ℕ) → List ℕ
with_backslash text at = (take at text ++ codes "\\") ++ drop at text

-- Without its meaning the sign at a byte makes the text a pattern, and this is said of it, or else no more.
abbrev pub SaysSign : (text : List ℕ) → (at sign : ℕ) → (said : List ℕ) → Type 0
SaysSign text at sign said =
    (IsPattern (with_backslash text at) × (said ≡ sign_sentence sign)) ⊎ (said ≡ PATTERN_OTHER.now)

-- what is said of a byte where a text stops to be a pattern
abbrev pub SaysStop : (text : List ℕ) → (at : ℕ) → (said : List ℕ) → Type 0
SaysStop text at said =
    MatchOption (left_out (drop at text)) (SaysSign text at (byte_of (drop at text) 0) said) (λ known. said ≡ known)

-- ---- literals

-- a literal as it is written: a text between two quotes of a kind
abbrev pub IsBetween : (literal inside : List ℕ) → Type 0
IsBetween literal inside =
    (quote : ℕ) × (is_quote quote ≡ true) × (literal ≡ quote ∷ (inside ++ (quote ∷ [])))

-- the text between the quotes of a literal is no pattern, and this is said of a byte of it
pub record StopsAt (literal : List ℕ) (start place : ℕ) (said : List ℕ) : Type 0 where
  pub inside : List ℕ
  pub at : ℕ
  pub between : IsBetween literal inside
  pub none : IsPattern inside → ⊥
  pub here : place ≡ start + (at + 1)
  pub says : SaysStop inside at said
