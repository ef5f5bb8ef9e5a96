-- When a token expression holds of a word (The CQP Query Language Manual, on token expressions). Values are compared as
-- the file has them, an underscore too.
use Rattle.std.specs.Prelude.{◌≡◌, ℕ, nat_eq, ◌%◌, ◌-◌, ◌≤◌, List, Bool, true, false, not, Some}
use Rattle.std.specs.Prelude.{if◌then◌else◌, filter}
use Rattle.std.specs.List.{slice_get}
use Rattle.tb_conllu.specs.Text.{RowText, BlockText}
use Rattle.tb_conllu.specs.Words.{is_word}
use Rattle.tb_syntax.specs.declared.lexeme.Attr.{Attr}
use Rattle.tb_syntax.specs.declared.lexeme.Attr.TheVariants.{Form, Lemma, Upos, Xpos, Feats, Deprel}
use Rattle.tb_literal.specs.Literals.{meets}
use Rattle.tb_literal.specs.Items.{meets_item}
use Rattle.tb_literal.specs.Literals.{PlainLit}
use Rattle.tb_syntax.specs.Tests.{Test, every, whole, feature, negated, both, either, Tests, no_test, and_test}

abbrev pub is_odd : ℕ → Bool
is_odd n = nat_eq (n % 2) 1

-- the value of a column
abbrev pub value_of : Attr → RowText → List ℕ
value_of Form r = r.form
value_of Lemma r = r.lemma
value_of Upos r = r.upos
value_of Xpos r = r.xpos
value_of Feats r = r.feats
value_of Deprel r = r.deprel

abbrev mutual
  pub holds : Test PlainLit → RowText → Bool
  holds every r = true
  holds (whole a l) r = meets l (value_of a r)
  holds (feature l) r = meets_item l r.feats
  holds (negated t) r = not (holds t r)
  holds (both ts) r = all_hold ts r
  holds (either ts) r = some_hold ts r

  pub all_hold : Tests PlainLit → RowText → Bool
  all_hold no_test r = true
  all_hold (and_test t ts) r = if holds t r then all_hold ts r else false

  pub some_hold : Tests PlainLit → RowText → Bool
  some_hold no_test r = false
  some_hold (and_test t ts) r = if holds t r then true else some_hold ts r

-- the words of a sentence in order: what is searched
abbrev pub word_rows : BlockText → List RowText
word_rows b = filter is_word b.rows

-- the test holds of word w, counted from 1
abbrev pub HoldsAtWord : Test PlainLit → List RowText → ℕ → Type 0
HoldsAtWord t ws w = (r : RowText) × (1 ≤ w) × (slice_get ws (w - 1) ≡ Some r) × (holds t r ≡ true)

-- test e, counted from 0, holds of word w, counted from 1
abbrev pub HoldsOf : List (Test PlainLit) → List RowText → ℕ → ℕ → Type 0
HoldsOf ts ws e w = (t : Test PlainLit) × (r : RowText) × (slice_get ts e ≡ Some t) × (1 ≤ w)
    × (slice_get ws (w - 1) ≡ Some r) × (holds t r ≡ true)
