-- Inner: no contract beyond this crate cites a definition of this module.
-- The first lexeme of a text, read byte by byte.
use Rattle.std.specs.Prelude.{ℕ, List, [], ◌∷◌, Bool, true, false, nat_eq, if◌then◌else◌, Option, Some}
use Rattle.std.specs.Prelude.{None, option_map, take, drop}
use Rattle.std.specs.Char.{is_ascii_alphabetic, is_ascii_digit}
use Rattle.std.specs.List.{prefix_len}
use Rattle.tb_syntax.specs.declared.lexeme.Lexeme.{Lexeme}
use Rattle.tb_syntax.specs.declared.lexeme.Lexeme.TheVariants.{Quote}
use Rattle.tb_syntax.specs.declared.spelling.Found.{Found}
use Rattle.tb_syntax.specs.Spelling.{word, number, double_mark, single_mark, is_quote}

-- What is left after a literal, read after its opening quote. The first argument is the quote. The second says that
-- such a quote was read before, which ends the literal unless another one follows.
abbrev pub after_literal : ℕ → Bool → List ℕ → Option (List ℕ)
after_literal q true [] = Some []
after_literal q false [] = None
after_literal q true (c ∷ cs) = if nat_eq q c then after_literal q false cs else Some (c ∷ cs)
after_literal q false (c ∷ cs) = after_literal q (nat_eq q c) cs

abbrev pub cut : (List ℕ → Option Lexeme) → ℕ → List ℕ → Option (Lexeme × List ℕ)
cut lexeme n text = option_map (λ l. (l, drop n text)) (lexeme (take n text))

abbrev pub first_or : Option Lexeme → List ℕ → Option (Lexeme × List ℕ) → Option (Lexeme × List ℕ)
first_or (Some l) rest o = Some (l, rest)
first_or None rest o = o

abbrev pub first_mark : ℕ → List ℕ → Option (Lexeme × List ℕ)
first_mark a [] = first_or (single_mark a) [] None
first_mark a (b ∷ cs) = first_or (double_mark a b) cs (first_or (single_mark a) (b ∷ cs) None)

abbrev pub first_apart : ℕ → ℕ → List ℕ → Option (Lexeme × List ℕ)
first_apart k c cs = if is_quote c then option_map (λ rest.
    (Quote k, rest)) (after_literal c false cs) else first_mark c cs

abbrev pub first_no_word : ℕ → ℕ → List ℕ → Option (Lexeme × List ℕ)
first_no_word k c cs = if is_ascii_digit c then cut number (prefix_len is_ascii_digit
    (c ∷ cs)) (c ∷ cs) else first_apart k c cs

abbrev pub first_lexeme : ℕ → List ℕ → Option (Lexeme × List ℕ)
first_lexeme k [] = None
first_lexeme k (c ∷ cs) = if is_ascii_alphabetic c then cut word (prefix_len is_ascii_alphabetic
    (c ∷ cs)) (c ∷ cs) else first_no_word k c cs

-- a found lexeme, with the rest of the text
abbrev pub found : List ℕ → Option Found → Option (Lexeme × List ℕ)
found text None = None
found text (Some f) = Some (f.lexeme, drop f.length text)

-- the text of a literal, read after its opening quote; the second argument says that a quote was read before
abbrev pub said_of : ℕ → Bool → List ℕ → List ℕ
said_of q shut [] = []
said_of q true (c ∷ cs) = c ∷ said_of q false cs
said_of q false (c ∷ cs) = if nat_eq q c then said_of q true cs else c ∷ said_of q false cs
