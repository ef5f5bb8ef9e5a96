-- What is told of a broken rule, by the rule.
use Rattle.std.proofs.Common.{◌≡◌, ◌+◌, ◌-◌, ◌<◌, ◌≤◌, ◌^◌, ◌⊎◌, ℕ, List, Option, Some, None, IfSome, arith, length, subst, sym, take, ◌∙◌}
use denote.Ref.{Bor}
use Rattle.std.specs.BTreeMap.{BTreeMap}
use Rattle.std.specs.List.{slice_get}
use Rattle.std.specs.Option.{IsSomeAnd}
use Rattle.tb_conllu.specs.Text.{RowText}
use Rattle.tb_conllu.specs.Words.{words_of}
use Rattle.tb_rules.specs.Comments.{text_key}
use Rattle.tb_words.specs.Circles.{SaysCircle}
use Rattle.tb_words.specs.Explaining.{SaysOfRule}
use Rattle.tb_words.specs.Keyed.{SaysKey, SaysOrder, SaysSentId}
use Rattle.tb_words.specs.Named.{IsFirstNamed, SaysFirstTaken}
use Rattle.tb_words.specs.Spelled.{SaysDifference}
use Rattle.tb_words.specs.Told.{IsTakenAmong}
use Rattle.tb_words.specs.Walks.{KnowsNames}
use Rattle.tb_words.specs.FileSentences.{row_line_of}
use Rattle.tb_words.specs.RowFaults.{SaysRoots, SaysRow, SaysRowAt, SaysWords}
use Rattle.tb_words.specs.declared.findings.Finding.{Finding}
use Rattle.tb_words.specs.declared.places.Placed.{Placed}
use Rattle.tb_words.specs.declared.sentences.TheConstants.{TEXT_MISSING, TEXT_TWICE}

pub by_name : (file : List ℕ) (placed : Placed) (rule row : ℕ) (told : Option Finding) → rule ≡ 12
    → IfSome told (SaysFirstTaken file placed) → IfSome told (SaysOfRule file placed rule row)
by_name file placed rule row None is taken = tt
by_name file placed rule row (Some found) is taken = (
  λ e. absurd (omega (arith, is, e)),
  λ e. absurd (omega (arith, is, e)),
  λ e. absurd (omega (arith, is, e)),
  λ low high. absurd (omega (arith, is, high)),
  λ e. absurd (omega (arith, is, e)),
  λ e. absurd (omega (arith, is, e)),
  λ e. absurd (omega (arith, is, e)),
  λ e. taken,
)

pub by_rule : (file : List ℕ) (placed : Placed) (rule row : ℕ) (told : Option Finding) → (rule ≡ 12 → ⊥)
    → (rule ≡ 1 → IfSome told (SaysSentId placed))
    → (rule ≡ 2 → IfSome told (SaysKey placed text_key TEXT_MISSING.now TEXT_TWICE.now))
    → (rule ≡ 3 → length placed.block.rows + 1 < 2 ^ 32
    → IfSome told (λ f. SaysOrder placed f ⊎ SaysWords placed (words_of placed.block) f))
    → (4 ≤ rule → rule ≤ 8 → 1 ≤ row → IfSome told (SaysRowAt placed rule (row - 1)))
    → (rule ≡ 9 → IfSome told (SaysRoots placed)) → (rule ≡ 10 → IfSome told (SaysCircle placed))
    → (rule ≡ 11 → IfSome told (SaysDifference placed)) → IfSome told (SaysOfRule file placed rule row)
by_rule file placed rule row None other a b c d e f g = tt
by_rule file placed rule row (Some found) other a b c d e f g = (a, b, c, d, e, f, g, λ is. absurd (other is))

-- the row at a place is told
pub row_told : (placed : Placed) (rule at line : ℕ) (before : List RowText) (row : RowText) (told : Option Finding)
    → line ≡ row_line_of placed at → slice_get placed.block.rows at ≡ Some row → before ≡ take at placed.block.rows
    → IfSome told (λ f. (f.line ≡ line) × (f.id ≡ Some row.id)) → IfSome told (SaysRow placed.block rule before row)
    → IfSome told (SaysRowAt placed rule at)
row_told placed rule at line before row None line_is got front place said = tt
row_told placed rule at line before row (Some found) line_is got front place said = (
  place.0 ∙ line_is,
  subst (λ (o : Option RowText). IsSomeAnd o (λ r. (found.id ≡ Some r.id)
      × SaysRow placed.block rule (take at placed.block.rows) r found)) (sym got)
      (place.1, subst (λ (rs : List RowText). SaysRow placed.block rule rs row found) front said),
)

-- the name of a sentence is one of those that are known
pub by_known_name : (file : List ℕ) (count : ℕ) (names : BTreeMap (Bor (List ℕ)) (ℕ × ℕ)) (placed : Placed) (rule row : ℕ)
    (told : Option Finding) → rule ≡ 12 → KnowsNames file count names → IfSome told (IsTakenAmong names placed)
    → IfSome told (SaysOfRule file placed rule row)
by_known_name file count names placed rule row None is known taken = tt
by_known_name file count names placed rule row (Some found) is known taken =
    let first : IsFirstNamed file taken.0 taken.1.0 taken.1.1 = rw taken.3 at (known taken.0) in
    by_name file placed rule row (Some found) is (taken.0, taken.1.0, taken.1.1, taken.2, first, taken.4)
