-- Any text has lexemes at places, and each of its literals says something.
use Rattle.std.proofs.Common.{◌≡◌, ℕ, zero, suc, ◌+◌, ◌-◌, ◌≤◌, List, [], ◌∷◌, length, true, not, Option, Some, None, refl, ap, inl, inr, arith}
use Rattle.std.specs.List.{slice_get}
use Rattle.tb_syntax.specs.declared.lexeme.Lexeme.{Lexeme}
use Rattle.tb_syntax.specs.declared.lexeme.Lexeme.TheVariants.{Quote, Stray}
use Rattle.tb_syntax.specs.declared.lexing.Span.{Span}
use Rattle.tb_syntax.specs.First.{first_lexeme}
use Rattle.tb_syntax.specs.Lexing.{is_white, begins_black, literals_after, bytes_at, Lexes}
use Rattle.tb_syntax.specs.Saying.{IsSaid}
use Rattle.tb_syntax.specs.Spelling.{Starts, IsQuoted}
use Rattle.tb_syntax.proofs.Firsts.{sound, stray, shorter, either}
use Rattle.tb_syntax.proofs.Lexings.{white_before, stray_here}
use Rattle.tb_syntax.proofs.Literals.{literal_quoted}
use Rattle.tb_syntax.proofs.Sayings.{paired}

abbrev HasLexemes : ℕ → ℕ → List ℕ → Type 0
HasLexemes at k text = (ls : List Lexeme) × (ss : List Span) × Lexes at k text ls ss

-- a lexeme, and what is left has lexemes
lexeme_first : (at k e : ℕ) (text : List ℕ) (l : Lexeme) (rest : List ℕ) → begins_black text ≡ true → Starts k text l rest → e + length rest ≡ at + length text →
    HasLexemes e (literals_after k l) rest → HasLexemes at k text
lexeme_first at k e text l rest black starts end (ls, ss, more) =
    (l ∷ ls, record { start = at; end = e } ∷ ss, ([], text, refl, refl, black, omega arith, inl (rest, starts, end, more)))

-- a lexeme stands there, or none
black_first : (f at k : ℕ) (text : List ℕ) → ((at k : ℕ) (text : List ℕ) → length text ≤ f → HasLexemes at k text) → length text ≤ suc f → begins_black text ≡ true →
    (o : Option (Lexeme × List ℕ)) → first_lexeme k text ≡ o → HasLexemes at k text
black_first f at k text shorter_has le black None e = (Stray ∷ [], record { start = at; end = at } ∷ [], stray_here at k text black (stray k text e))
black_first f at k text shorter_has le black (Some (l, rest)) e =
    let starts = sound k text l rest e in
    let less = shorter k text l rest starts in
    let end = at + (length text - length rest) in
    lexeme_first at k end text l rest black starts (omega arith) (shorter_has end (literals_after k l) rest (omega arith))

white_first : (at k c : ℕ) (cs : List ℕ) → is_white c ≡ true → HasLexemes (at + 1) k cs → HasLexemes at k (c ∷ cs)
white_first at k c cs w (ls, ss, more) = (ls, ss, white_before at k c cs ls ss w more)

lexed : (f at k : ℕ) (text : List ℕ) → length text ≤ f → HasLexemes at k text
lexed f at k [] le = ([], [], refl)
lexed zero at k (c ∷ cs) le = absurd (omega arith)
lexed (suc f) at k (c ∷ cs) le =
    elim (either (is_white c)) [
      | inl w ↦ white_first at k c cs w (lexed f (at + 1) k cs (omega arith))
      | inr b ↦ black_first f at k (c ∷ cs) (lexed f) le (ap not b) (first_lexeme k (c ∷ cs)) refl
    ]

-- a text has lexemes
pub has_lexemes : (text : List ℕ) → (ls : List Lexeme) × (ss : List Span) × Lexes 0 0 text ls ss
has_lexemes text = lexed (length text) 0 0 text (omega arith)

-- where each literal says something, all of them do
said_each : (text : List ℕ) (ls : List Lexeme) (ss : List Span) → length ls ≡ length ss →
    ((i j : ℕ) (s : Span) → slice_get ls i ≡ Some (Quote j) → slice_get ss i ≡ Some s → (said : List ℕ) × IsQuoted (bytes_at text s) said) →
    (said : List (List ℕ)) × IsSaid text ls ss said
said_each text [] [] same each = ([], refl)
said_each text [] (s ∷ ss) same each = absurd (omega arith)
said_each text (l ∷ ls) [] same each = absurd (omega arith)
said_each text (Quote k ∷ ls) (s ∷ ss) same each =
    let first = each 0 k s refl refl in
    let others = said_each text ls ss (omega arith) (λ i. each (suc i)) in
    (first.0 ∷ others.0, (first.1, others.1))
said_each text (l ∷ ls) (s ∷ ss) same each = said_each text ls ss (omega arith) (λ i. each (suc i))

-- the literals of a text say something
pub says_something : (text : List ℕ) (ls : List Lexeme) (ss : List Span) → Lexes 0 0 text ls ss → (said : List (List ℕ)) × IsSaid text ls ss said
says_something text ls ss lexes = said_each text ls ss (paired 0 0 text ls ss lexes) (literal_quoted text ls ss lexes)
