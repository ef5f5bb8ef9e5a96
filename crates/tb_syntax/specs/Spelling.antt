-- How lexemes are spelled (The CQP Query Language Manual, section 3, in part). Letters and digits are ASCII.
use Rattle.std.specs.Prelude.{◌≡◌, ℕ, ◌+◌, ◌*◌, ◌-◌, min, List, [], ◌∷◌, ◌++◌, codes}
use Rattle.std.specs.Prelude.{Bool, true, false, ◌||◌, ◌&&◌, nat_eq, if◌then◌else◌, Option, Some, None}
use Rattle.std.specs.Prelude.{option_map}
use Rattle.std.specs.Char.{is_ascii_alphabetic, is_ascii_digit}
use Rattle.std.specs.List.{list_all}
use Rattle.std.specs.Str.{bytes_eq}
use Rattle.tb_syntax.specs.declared.lexeme.Attr.{Attr}
use Rattle.tb_syntax.specs.declared.lexeme.Attr.TheVariants.{Form, Lemma, Upos, Xpos, Feats, Deprel}
use Rattle.tb_syntax.specs.declared.lexeme.Lexeme.{Lexeme}
use Rattle.tb_syntax.specs.declared.lexeme.Lexeme.TheVariants.{LeftParen, RightParen, LeftBracket, RightBracket}
use Rattle.tb_syntax.specs.declared.lexeme.Lexeme.TheVariants.{LeftBrace, RightBrace, Comma, Quest, Star, Plus, Bar}
use Rattle.tb_syntax.specs.declared.lexeme.Lexeme.TheVariants.{And, Not, Equals, Differs, Semicolon, PercentC, PercentL}
use Rattle.tb_syntax.specs.declared.lexeme.Lexeme.TheVariants.{Name, Contains, Within, Sentence, Number, Quote}

-- the names of the columns
abbrev pub column : List ℕ → Option Attr
column s =
    if bytes_eq s (codes "word") then Some Form
    else if bytes_eq s (codes "lemma") then Some Lemma
    else if bytes_eq s (codes "upos") then Some Upos
    else if bytes_eq s (codes "xpos") then Some Xpos
    else if bytes_eq s (codes "feats") then Some Feats
    else if bytes_eq s (codes "deprel") then Some Deprel
    else None

-- the words of the language
abbrev pub word : List ℕ → Option Lexeme
word s =
    if bytes_eq s (codes "contains") then Some Contains
    else if bytes_eq s (codes "within") then Some Within
    else if bytes_eq s (codes "s") then Some Sentence
    else option_map Name (column s)

-- the number that the digits write after those of v
abbrev pub decimal_from : ℕ → List ℕ → ℕ
decimal_from v [] = v
decimal_from v (c ∷ cs) = decimal_from (10 * v + (c - 48)) cs

-- Digits are a number if there is no leading zero. A number above 255 is stored as 255.
abbrev pub number : List ℕ → Option Lexeme
number [] = None
number (c ∷ []) = Some (Number (min 255 (decimal_from 0 (c ∷ []))))
number (c ∷ d ∷ cs) = if nat_eq c 48 then None else Some (Number (min 255 (decimal_from 0 (c ∷ d ∷ cs))))

-- `%c`, `%l`, `!=`
abbrev pub double_mark : ℕ → ℕ → Option Lexeme
double_mark a b =
    if nat_eq a 0x25 && nat_eq b 0x63 then Some PercentC
    else if nat_eq a 0x25 && nat_eq b 0x6C then Some PercentL
    else if nat_eq a 0x21 && nat_eq b 0x3D then Some Differs
    else None

-- `( ) [ ] { } , ? * + | & ! = ;`
abbrev pub single_mark : ℕ → Option Lexeme
single_mark a =
    if nat_eq a 0x28 then Some LeftParen
    else if nat_eq a 0x29 then Some RightParen
    else if nat_eq a 0x5B then Some LeftBracket
    else if nat_eq a 0x5D then Some RightBracket
    else if nat_eq a 0x7B then Some LeftBrace
    else if nat_eq a 0x7D then Some RightBrace
    else if nat_eq a 0x2C then Some Comma
    else if nat_eq a 0x3F then Some Quest
    else if nat_eq a 0x2A then Some Star
    else if nat_eq a 0x2B then Some Plus
    else if nat_eq a 0x7C then Some Bar
    else if nat_eq a 0x26 then Some And
    else if nat_eq a 0x21 then Some Not
    else if nat_eq a 0x3D then Some Equals
    else if nat_eq a 0x3B then Some Semicolon
    else None

-- `"` and `'`
abbrev pub is_quote : ℕ → Bool
is_quote c = nat_eq c 0x22 || nat_eq c 0x27

-- each quote of this kind is written twice
abbrev pub doubled : ℕ → List ℕ → List ℕ
doubled q [] = []
doubled q (c ∷ cs) = if nat_eq q c then c ∷ c ∷ doubled q cs else c ∷ doubled q cs

-- the text begins with a byte that has p
abbrev pub begins : (ℕ → Bool) → List ℕ → Bool
begins p [] = false
begins p (c ∷ cs) = p c

-- s is the longest run of bytes that have p at the beginning of the text, and `rest` is what follows
pub record IsRun (p : ℕ → Bool) (s text rest : List ℕ) : Type 0 where
  pub parts : text ≡ s ++ rest
  pub all : list_all p s ≡ true
  pub longest : begins p rest ≡ false

-- The text begins with this lexeme, and `rest` is what follows. A literal has the number k.
pub data Starts (k : ℕ) (text : List ℕ) (l : Lexeme) (rest : List ℕ) : Type 0 where
  of_letters : (s : List ℕ) → IsRun is_ascii_alphabetic s text rest → word s ≡ Some l → Starts k text l rest
  of_digits : (s : List ℕ) → IsRun is_ascii_digit s text rest → number s ≡ Some l → Starts k text l rest
  of_two_marks : (a b : ℕ) → text ≡ a ∷ b ∷ rest → double_mark a b ≡ Some l → Starts k text l rest
  -- where there is no lexeme of two marks
  of_one_mark : (a : ℕ) → text ≡ a ∷ rest → single_mark a ≡ Some l → ((b : ℕ) (bs : List ℕ)
      → rest ≡ b ∷ bs → double_mark a b ≡ None) → Starts k text l rest
  -- the text of a literal is between two quotes, and each such quote in it is written twice
  of_quotes : (q : ℕ) (s : List ℕ) → is_quote q ≡ true → text ≡ q ∷ (doubled q s ++ q ∷ rest)
      → begins (nat_eq q) rest ≡ false → l ≡ Quote k → Starts k text l rest

-- the text begins with no lexeme
abbrev pub IsStray : ℕ → List ℕ → Type 0
IsStray k text = (l : Lexeme) (rest : List ℕ) → Starts k text l rest → ⊥

-- the bytes of a literal with the text s, including its quotes
abbrev pub IsQuoted : List ℕ → List ℕ → Type 0
IsQuoted bytes s = (q : ℕ) × (is_quote q ≡ true) × (bytes ≡ q ∷ (doubled q s ++ q ∷ []))
