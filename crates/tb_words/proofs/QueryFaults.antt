-- What words say of a fault of a query.
use Rattle.std.proofs.Common.{◌≡◌, ℕ, List, MatchOption, Option, None, Some, subst, sym}
use Rattle.tb_query.specs.declared.fault.QueryFault.{QueryFault}
use Rattle.tb_query.specs.declared.fault.QueryFault.TheVariants as fault
use Rattle.tb_words.specs.Explained.{SaysAlone, SaysFault, SaysLiteral, SaysOfLiteral}
use Rattle.tb_words.specs.QueryLiterals.{literal_numbered}
use Rattle.tb_words.specs.declared.literals.Literal.{Literal}
use Rattle.tb_words.specs.declared.sentences.TheConstants.{PATTERN_OTHER}
use Rattle.tb_words.specs.declared.words.Page.{Page}
use Rattle.tb_words.specs.declared.words.Words.{Words}

-- these words, with a page
abbrev pub on_page : Words → Option Page → Words
on_page words page =
    record { place = words.place; sentence = words.sentence; page = page; picture = words.picture }

-- a page changes nothing of what is said
pub paged : (text : List ℕ) (ls : List Literal) (e : QueryFault) (words : Words) (page : Option Page) → SaysFault text ls e words
    → SaysFault text ls e (on_page words page)
paged text ls fault.TooLong words page h = h
paged text ls (fault.Syntax at) words page h = h
paged text ls fault.TooMany words page h = h
paged text ls fault.TooDeep words page h = h
paged text ls fault.Repeat words page h = h
paged text ls (fault.Pattern number) words page h = h
paged text ls fault.Memory words page h = h

abbrev Saying : List ℕ → Words → Option Literal → Type 0
Saying text words o = MatchOption o (SaysAlone words PATTERN_OTHER.now) (λ l. SaysOfLiteral text l words)

pub literal_said : (text : List ℕ) (ls : List Literal) (number : ℕ) (l : Literal) (words : Words)
    → literal_numbered ls number ≡ Some l → SaysOfLiteral text l words → SaysLiteral text ls number words
literal_said text ls number l words is says = subst (λ (o : Option Literal). Saying text words o) (sym is) says

pub none_said : (text : List ℕ) (ls : List Literal) (number : ℕ) (words : Words) → literal_numbered ls number ≡ None
    → SaysAlone words PATTERN_OTHER.now → SaysLiteral text ls number words
none_said text ls number words is alone = subst (λ (o : Option Literal). Saying text words o) (sym is) alone
