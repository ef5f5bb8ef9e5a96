-- Inner: no contract beyond this crate cites a definition of this module.
-- What lexemes begin with, and what may follow a part of a query so that the part ends there.
use Rattle.std.specs.Prelude.{◌≡◌, List, ◌∷◌, Bool, true, false}
use Rattle.tb_syntax.specs.declared.lexeme.Lexeme.{Lexeme}
use Rattle.tb_syntax.specs.declared.lexeme.Lexeme.TheVariants.{LeftParen, LeftBracket, LeftBrace, Quest, Star, Plus}
use Rattle.tb_syntax.specs.declared.lexeme.Lexeme.TheVariants.{Bar, And, Not, PercentC, PercentL, Name, Quote}

abbrev pub begins_flag : List Lexeme → Bool
begins_flag (PercentC ∷ ls) = true
begins_flag (PercentL ∷ ls) = true
begins_flag _ = false

abbrev pub begins_and : List Lexeme → Bool
begins_and (And ∷ ls) = true
begins_and _ = false

abbrev pub begins_bar : List Lexeme → Bool
begins_bar (Bar ∷ ls) = true
begins_bar _ = false

abbrev pub begins_unit : List Lexeme → Bool
begins_unit (Not ∷ ls) = true
begins_unit (LeftParen ∷ ls) = true
begins_unit (Name a ∷ ls) = true
begins_unit _ = false

abbrev pub begins_atom : List Lexeme → Bool
begins_atom (LeftParen ∷ ls) = true
begins_atom (LeftBracket ∷ ls) = true
begins_atom (Quote k ∷ ls) = true
begins_atom _ = false

abbrev pub begins_rep : List Lexeme → Bool
begins_rep (Quest ∷ ls) = true
begins_rep (Star ∷ ls) = true
begins_rep (Plus ∷ ls) = true
begins_rep (LeftBrace ∷ ls) = true
begins_rep _ = false

pub record EndsConj (ls : List Lexeme) : Type 0 where
  pub no_flag : begins_flag ls ≡ false
  pub no_and : begins_and ls ≡ false

pub record EndsTest (ls : List Lexeme) : Type 0 where
  pub no_flag : begins_flag ls ≡ false
  pub no_and : begins_and ls ≡ false
  pub no_bar : begins_bar ls ≡ false

pub record EndsItem (ls : List Lexeme) : Type 0 where
  pub no_flag : begins_flag ls ≡ false
  pub no_rep : begins_rep ls ≡ false

pub record EndsCat (ls : List Lexeme) : Type 0 where
  pub no_flag : begins_flag ls ≡ false
  pub no_rep : begins_rep ls ≡ false
  pub no_atom : begins_atom ls ≡ false

pub record EndsAlt (ls : List Lexeme) : Type 0 where
  pub no_flag : begins_flag ls ≡ false
  pub no_rep : begins_rep ls ≡ false
  pub no_atom : begins_atom ls ≡ false
  pub no_bar : begins_bar ls ≡ false
