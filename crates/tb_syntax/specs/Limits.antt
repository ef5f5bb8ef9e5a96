-- The limits of a query, stated on its derivation.
use Rattle.std.specs.Prelude.{ℕ, suc, zero, ◌+◌, Bool, true, false, ◌&&◌, nat_le, if◌then◌else◌, Option}
use Rattle.std.specs.Prelude.{Some, None}
use Rattle.tb_syntax.specs.declared.lexeme.Lexeme.{Lexeme}
use Rattle.tb_syntax.specs.declared.lexeme.Lexeme.TheVariants.{LeftParen, RightParen, LeftBracket, RightBracket}
use Rattle.tb_syntax.specs.declared.lexeme.Lexeme.TheVariants.{RightBrace, Comma, Number, Quote}
use Rattle.tb_syntax.specs.declared.limits.Bounds.{Bounds}
use Rattle.tb_syntax.specs.declared.limits.Bounds.TheVariants.{Apart, Least, Ranged}
use Rattle.tb_syntax.specs.Grammar.{Test', one_conj, or_test, Conj, one_unit, and_conj, Unit', denied, grouped}
use Rattle.tb_syntax.specs.Grammar.{compares, contains, Repeat, quest, star, plus, exactly, at_least, between, Alt}
use Rattle.tb_syntax.specs.Grammar.{one_cat, or_alt, Cat, one_item, and_cat, Item, once, repeated, Atom, any, brackets}
use Rattle.tb_syntax.specs.Grammar.{bare, parens, Query, query}
use Rattle.tb_syntax.specs.Pattern.{alt_count}

-- at most r round parentheses are open at one place
abbrev mutual
  pub test_nests : ℕ → Test' → Bool
  test_nests r (one_conj c) = conj_nests r c
  test_nests r (or_test c t) = if conj_nests r c then test_nests r t else false

  pub conj_nests : ℕ → Conj → Bool
  conj_nests r (one_unit u) = unit_nests r u
  conj_nests r (and_conj u c) = if unit_nests r u then conj_nests r c else false

  pub unit_nests : ℕ → Unit' → Bool
  unit_nests r (denied u) = unit_nests r u
  unit_nests zero (grouped t) = false
  unit_nests (suc r) (grouped t) = test_nests r t
  unit_nests r (compares a s k f) = true
  unit_nests r (contains k f) = true

abbrev mutual
  pub alt_nests : ℕ → Alt → Bool
  alt_nests r (one_cat c) = cat_nests r c
  alt_nests r (or_alt c a) = if cat_nests r c then alt_nests r a else false

  pub cat_nests : ℕ → Cat → Bool
  cat_nests r (one_item i) = item_nests r i
  cat_nests r (and_cat i c) = if item_nests r i then cat_nests r c else false

  pub item_nests : ℕ → Item → Bool
  item_nests r (once a) = atom_nests r a
  item_nests r (repeated a p) = atom_nests r a

  pub atom_nests : ℕ → Atom → Bool
  atom_nests r any = true
  atom_nests r (brackets t) = test_nests r t
  atom_nests r (bare k f) = true
  atom_nests zero (parens a) = false
  atom_nests (suc r) (parens a) = alt_nests r a

abbrev pub query_nests : ℕ → Query → Bool
query_nests r (query a e) = alt_nests r a

-- how many more parentheses may be opened after a lexeme, or none if the lexeme opens one too many
abbrev pub room_after : ℕ → Lexeme → Option ℕ
room_after zero LeftParen = None
room_after (suc r) LeftParen = Some r
room_after r RightParen = Some (r + 1)
room_after r _ = Some r

-- how many token expressions a query has
abbrev pub query_count : Query → ℕ
query_count (query a e) = alt_count a

-- the lexeme begins a token expression, which a literal does only outside the brackets
abbrev pub begins_expression : Bool → Lexeme → Bool
begins_expression inside LeftBracket = true
begins_expression false (Quote k) = true
begins_expression inside _ = false

-- whether the lexeme after this one is within the brackets
abbrev pub inside_after : Bool → Lexeme → Bool
inside_after inside LeftBracket = true
inside_after inside RightBracket = false
inside_after inside _ = inside

-- The numbers of a repetition are at most `most`. Its upper number, if there is one, is at least 1 and not below the
-- lower.
abbrev pub repeat_fits : ℕ → Repeat → Bool
repeat_fits most quest = true
repeat_fits most star = true
repeat_fits most plus = true
repeat_fits most (exactly n) = nat_le n most && nat_le 1 n
repeat_fits most (at_least n) = nat_le n most
repeat_fits most (between n m) = nat_le n most && (nat_le n m && nat_le 1 m && nat_le m most)

-- each repetition is within the limits
abbrev mutual
  pub alt_repeats : ℕ → Alt → Bool
  alt_repeats most (one_cat c) = cat_repeats most c
  alt_repeats most (or_alt c a) = if cat_repeats most c then alt_repeats most a else false

  pub cat_repeats : ℕ → Cat → Bool
  cat_repeats most (one_item i) = item_repeats most i
  cat_repeats most (and_cat i c) = if item_repeats most i then cat_repeats most c else false

  pub item_repeats : ℕ → Item → Bool
  item_repeats most (once a) = atom_repeats most a
  item_repeats most (repeated a r) = if atom_repeats most a then repeat_fits most r else false

  pub atom_repeats : ℕ → Atom → Bool
  atom_repeats most any = true
  atom_repeats most (brackets t) = true
  atom_repeats most (bare k f) = true
  atom_repeats most (parens a) = alt_repeats most a

abbrev pub query_repeats : ℕ → Query → Bool
query_repeats most (query a e) = alt_repeats most a

-- what was read of a repetition up to a lexeme, if its numbers so far are within the limits
abbrev pub bounds_after : ℕ → Bounds → Lexeme → Option Bounds
bounds_after most Apart (Number n) = if nat_le n most then Some (Least n) else None
bounds_after most (Least n) RightBrace = if nat_le 1 n then Some Apart else None
bounds_after most (Least n) Comma = Some (Ranged n)
bounds_after most (Ranged n) RightBrace = Some Apart
bounds_after most (Ranged n) (Number m) = if nat_le n m && nat_le 1 m && nat_le m most then Some Apart else None
bounds_after most b _ = Some b
