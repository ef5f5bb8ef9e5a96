-- Between crates: no contract of a front door cites a definition of this module.
-- What is said of the features of a row: the first that is at fault, and why.
-- CoNLL-U format page, "Morphological Annotation", and UD v2 guidelines, "Morphology: General Principles".
use Rattle.std.specs.Prelude.{◌≡◌, ◌<◌, ◌-◌, ◌⊎◌, ◌==◌, ℕ, List, [], Option, Some, None, Bool, bytes_eq, if◌then◌else◌}
use Rattle.std.specs.Prelude.{length, not, slice_index_or, take}
use Rattle.std.specs.List.{after_first, list_all, list_any, slice_split}
use Rattle.tb_fields.specs.Feats.{feature_name, is_bar, is_comma, is_equals, is_feature, is_label, is_name, is_not_after}
use Rattle.tb_words.specs.declared.sentences.TheConstants.{BROKEN, FEATURE_FORM, FEATURE_NAME, FEATURE_ORDER}
use Rattle.tb_words.specs.declared.sentences.TheConstants.{FEATURE_TWICE, FEATURE_VALUE, VALUE_TWICE}

-- what is wrong with the name or the values of what is no feature
abbrev pub named_sentence : (name values : List ℕ) → List ℕ
named_sentence name values =
    if not (is_name name) then FEATURE_NAME.now else
    if not (list_all is_label (slice_split is_comma values)) then FEATURE_VALUE.now else VALUE_TWICE.now

-- what is wrong with a feature by itself, if anything is
abbrev pub item_sentence : List ℕ → Option (List ℕ)
item_sentence item =
    if not (list_any is_equals item) then Some FEATURE_FORM.now else
    if is_feature item then None else Some (named_sentence (feature_name item) (after_first is_equals item))

-- another feature has the name of this one
abbrev pub shares_name : (item other : List ℕ) → Bool
shares_name item other = bytes_eq (feature_name other) (feature_name item)

-- what is wrong with a feature after others, of which `last` is just before it
abbrev pub order_sentence : (earlier : List (List ℕ)) → (last item : List ℕ) → Option (List ℕ)
order_sentence earlier last item =
    if list_any (shares_name item) earlier then Some FEATURE_TWICE.now else
    if is_not_after (feature_name last) (feature_name item) then None else Some FEATURE_ORDER.now

-- the features that bars join, and the one at a place, counted from 0
abbrev pub features_of : List ℕ → List (List ℕ)
features_of feats = slice_split is_bar feats

abbrev pub feature_at : (feats : List ℕ) → (place : ℕ) → List ℕ
feature_at feats place = slice_index_or (features_of feats) place []

-- what is wrong with the one at a place beside those before it
abbrev pub beside_sentence : (feats : List ℕ) → (place : ℕ) → Option (List ℕ)
beside_sentence feats place =
    if place == 0 then None else
    order_sentence (take place (features_of feats)) (feature_at feats (place - 1)) (feature_at feats place)

-- the first of two sentences, if one is said
abbrev pub first_said : (one other : Option (List ℕ)) → Option (List ℕ)
first_said None other = other
first_said (Some said) other = Some said

abbrev pub feature_sentence : (feats : List ℕ) → (place : ℕ) → Option (List ℕ)
feature_sentence feats place = first_said (item_sentence (feature_at feats place)) (beside_sentence feats place)

-- each feature before a place is right
abbrev pub AreRight : (feats : List ℕ) → (place : ℕ) → Type 0
AreRight feats place = (k : ℕ) → k < place → feature_sentence feats k ≡ None

-- the first that is not, and what is wrong with it
pub record IsFirstFeature (feats item sentence : List ℕ) : Type 0 where
  pub place : ℕ
  pub within : place < length (features_of feats)
  pub item_is : item ≡ feature_at feats place
  pub said : feature_sentence feats place ≡ Some sentence
  pub before : AreRight feats place

-- The first feature at fault is told. Where memory runs out, or there are more than 1,000, the whole field is.
abbrev pub SaysFeature : (feats item sentence : List ℕ) → Type 0
SaysFeature feats item sentence =
    ((item ≡ feats) × (sentence ≡ BROKEN.now)) ⊎ IsFirstFeature feats item sentence
