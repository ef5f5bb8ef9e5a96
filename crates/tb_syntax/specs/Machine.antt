-- Inner: no contract beyond this crate cites a definition of this module.
-- The scan as a machine over lexemes, with two counters in place of a tree and a stack.
use Rattle.std.specs.Prelude.{ℕ, suc, zero, ◌+◌, List, [], ◌∷◌, Bool, true, false, if◌then◌else◌}
use Rattle.std.specs.Prelude.{Option, Some, None, option_and_then}
use Rattle.tb_syntax.specs.declared.lexeme.Attr.TheVariants.{Feats}
use Rattle.tb_syntax.specs.declared.lexeme.Lexeme.{Lexeme}
use Rattle.tb_syntax.specs.declared.lexeme.Lexeme.TheVariants.{LeftParen, RightParen, LeftBracket, RightBracket}
use Rattle.tb_syntax.specs.declared.lexeme.Lexeme.TheVariants.{LeftBrace, RightBrace, Comma, Quest, Star, Plus, Bar}
use Rattle.tb_syntax.specs.declared.lexeme.Lexeme.TheVariants.{And, Not, Equals, Differs, Semicolon, PercentC, PercentL}
use Rattle.tb_syntax.specs.declared.lexeme.Lexeme.TheVariants.{Name, Contains, Within, Sentence, Number, Quote}
use Rattle.tb_syntax.specs.declared.scanning.Mode.{Mode}
use Rattle.tb_syntax.specs.declared.scanning.Mode.TheVariants.{Wants, Quoted, Has, Repeated, Braced, Lowest, Ranged}
use Rattle.tb_syntax.specs.declared.scanning.Mode.TheVariants.{Highest, Opened, Asks, Named, Featured, Signed, Tested}
use Rattle.tb_syntax.specs.declared.scanning.Mode.TheVariants.{Whole, Scoped, Bounded, Stopped}
use Rattle.tb_syntax.specs.declared.scanning.Place.{Place}

abbrev pub inside : Mode → ℕ → ℕ → Place
inside m n k = record { mode = m; outer = n; inner = k }

abbrev pub place : Mode → ℕ → Place
place m n = inside m n 0

-- after an item
abbrev pub goes_on : ℕ → Lexeme → Option Place
goes_on n (Quote k) = Some (place Quoted n)
goes_on n LeftBracket = Some (place Opened n)
goes_on n LeftParen = Some (place Wants (n + 1))
goes_on n Bar = Some (place Wants n)
goes_on zero RightParen = None
goes_on (suc n) RightParen = Some (place Has n)
goes_on zero Within = Some (place Scoped 0)
goes_on zero Semicolon = Some (place Stopped 0)
goes_on n _ = None

-- after an atom that takes no flag
abbrev pub repeats : ℕ → Lexeme → Option Place
repeats n Quest = Some (place Repeated n)
repeats n Star = Some (place Repeated n)
repeats n Plus = Some (place Repeated n)
repeats n LeftBrace = Some (place Braced n)
repeats n l = goes_on n l

-- outside the brackets
abbrev pub step_outside : Mode → ℕ → Lexeme → Option Place
step_outside Wants n (Quote k) = Some (place Quoted n)
step_outside Wants n LeftBracket = Some (place Opened n)
step_outside Wants n LeftParen = Some (place Wants (n + 1))
step_outside Quoted n PercentC = Some (place Has n)
step_outside Quoted n PercentL = Some (place Has n)
step_outside Quoted n l = repeats n l
step_outside Has n l = repeats n l
step_outside Repeated n l = goes_on n l
step_outside Braced n (Number a) = Some (place Lowest n)
step_outside Lowest n RightBrace = Some (place Repeated n)
step_outside Lowest n Comma = Some (place Ranged n)
step_outside Ranged n RightBrace = Some (place Repeated n)
step_outside Ranged n (Number b) = Some (place Highest n)
step_outside Highest n RightBrace = Some (place Repeated n)
step_outside Scoped n Sentence = Some (place Bounded 0)
step_outside Bounded n Semicolon = Some (place Stopped 0)
step_outside _ n _ = None

-- where a unit has to come
abbrev pub asks : ℕ → ℕ → Lexeme → Option Place
asks n k Not = Some (inside Asks n k)
asks n k LeftParen = Some (inside Asks n (k + 1))
asks n k (Name Feats) = Some (inside Featured n k)
asks n k (Name a) = Some (inside Named n k)
asks n k _ = None

-- after a unit that takes no flag
abbrev pub joins : ℕ → ℕ → Lexeme → Option Place
joins n k And = Some (inside Asks n k)
joins n k Bar = Some (inside Asks n k)
joins n zero RightParen = None
joins n (suc k) RightParen = Some (inside Whole n k)
joins n zero RightBracket = Some (place Has n)
joins n k _ = None

-- within the brackets
abbrev pub step_inside : Mode → ℕ → ℕ → Lexeme → Option Place
step_inside Opened n k RightBracket = Some (place Has n)
step_inside Opened n k l = asks n k l
step_inside Asks n k l = asks n k l
step_inside Named n k Equals = Some (inside Signed n k)
step_inside Named n k Differs = Some (inside Signed n k)
step_inside Featured n k Equals = Some (inside Signed n k)
step_inside Featured n k Differs = Some (inside Signed n k)
step_inside Featured n k Contains = Some (inside Signed n k)
step_inside Signed n k (Quote j) = Some (inside Tested n k)
step_inside Tested n k PercentC = Some (inside Whole n k)
step_inside Tested n k PercentL = Some (inside Whole n k)
step_inside Tested n k l = joins n k l
step_inside Whole n k l = joins n k l
step_inside _ n k _ = None

abbrev pub is_inside : Mode → Bool
is_inside Opened = true
is_inside Asks = true
is_inside Named = true
is_inside Featured = true
is_inside Signed = true
is_inside Tested = true
is_inside Whole = true
is_inside _ = false

abbrev pub step : Place → Lexeme → Option Place
step p l = if is_inside p.mode then step_inside p.mode p.outer p.inner l else step_outside p.mode p.outer l

-- the place after all of the lexemes, if each is possible where it is
abbrev pub run : Place → List Lexeme → Option Place
run p [] = Some p
run p (l ∷ ls) = option_and_then (λ q. run q ls) (step p l)

abbrev pub may_end_at : Mode → ℕ → Bool
may_end_at Quoted zero = true
may_end_at Has zero = true
may_end_at Repeated zero = true
may_end_at Bounded n = true
may_end_at Stopped n = true
may_end_at _ _ = false

abbrev pub ends : Option Place → Bool
ends None = false
ends (Some p) = may_end_at p.mode p.outer

-- all lexemes are possible, and the query may end there
abbrev pub accepts : Place → List Lexeme → Bool
accepts p ls = ends (run p ls)

abbrev pub start : Place
start = place Wants 0
