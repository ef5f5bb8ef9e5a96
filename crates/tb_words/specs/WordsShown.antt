-- Between crates: no contract of a front door cites a definition of this module.
-- The text of words: the place, the sentence, the page that says more, and the picture.
use Rattle.std.specs.Prelude.{◌++◌, List, [], ℕ, Option, Some, None, codes, decimal}
use Rattle.std.specs.Global.{Global}
use Rattle.std.specs.String.{string_bytes}
use Rattle.std.specs.declared.string.String.{String}
use Rattle.tb_words.specs.declared.words.Page.{Page}
use Rattle.tb_words.specs.declared.words.Page.TheVariants.{Code, Rule, Queries, Batches}
use Rattle.tb_words.specs.declared.words.Words.{Words}

-- a page, and what of it is meant
abbrev pub page_text : Page → List ℕ
page_text (Code code) = codes "FORMAT.md, code " ++ decimal code
page_text (Rule rule) = codes "FORMAT.md, rule " ++ decimal rule
page_text Queries = codes "QUERIES.md"
page_text Batches = codes "STATES.md"

abbrev pub page_shown : Option Page → List ℕ
page_shown None = []
page_shown (Some page) = codes " (" ++ page_text page ++ codes ")"

-- the place before the sentence, where there is one
abbrev pub place_shown : Option (String Global) → List ℕ
place_shown None = []
place_shown (Some place) = string_bytes place ++ codes ": "

-- the picture on lines of its own, where there is one
abbrev pub picture_shown : Option (String Global) → List ℕ
picture_shown None = []
picture_shown (Some picture) = codes "\n" ++ string_bytes picture

abbrev pub words_text : Words → List ℕ
words_text words =
    place_shown words.place ++ words.sentence.now ++ page_shown words.page ++ picture_shown words.picture
