use Rattle.std.proofs.Common.{List, ap, lit<, sym, ◌∙◌, ℕ}
use Rattle.std.proofs.lemmas.Str.Pattern.{split_once_first}
use Rattle.std.specs.List.{list_any}
use Rattle.tb_fields.proofs.Places.{list_any-from_no_place, list_any-from_place}
use Rattle.tb_fields.specs.Feats.{feature_name, is_bar, is_equals}
use Rattle.tb_words.proofs.FeatureParts.{alone, back_lacks, feature_right, feature_wrong, formless, front_free, front_lacks}
use Rattle.tb_words.specs.FeatureFaults.{named_sentence}
use Rattle.tb_words.proofs.features.item_fault.Goals as goal

pub returns-in_default-clause-said : goal.returns-in_default-clause-said
returns-in_default-clause-said c = λ bars.
    let none = rw c.in_default.is at (split_once_first 61 c.args.item.now c.split_once.result c.split_once.ensures.cases (lit< tt)) in
    formless c.args.item.now (list_any-from_no_place is_equals c.args.item.now none)

pub returns-then-branch-clause-said : goal.returns-then-branch-clause-said
returns-then-branch-clause-said c = λ bars.
    let cut = rw c.in-Some.is at (split_once_first 61 c.args.item.now c.split_once.result c.split_once.ensures.cases (lit< tt)) in
    let equals = list_any-from_place is_equals c.args.item.now cut.0 in
    feature_right c.args.item.now equals (sym (alone c.args.item.now bars equals) ∙ (sym c.in_ok-is_feature_list.ensures.value ∙ c.if-branch.true))

pub returns-clause-said : goal.returns-clause-said
returns-clause-said c = λ bars.
    let item = c.args.item.now in
    let cut = rw c.in-Some.is at (split_once_first 61 item c.split_once.result c.split_once.ensures.cases (lit< tt)) in
    let equals = list_any-from_place is_equals item cut.0 in
    let told = c.in_ok-named_fault.ensures (ap (list_any is_bar) cut.1 ∙ front_lacks is_bar _ item bars)
    (ap (list_any is_equals) cut.1 ∙ front_free is_equals item) (ap (list_any is_bar) cut.2 ∙ back_lacks is_bar _ item bars) in
    feature_wrong item c.in_ok-named_fault.field-0.now equals
    (sym (alone item bars equals) ∙ (sym c.in_ok-is_feature_list.ensures.value ∙ c.if-branch.false))
    (told ∙ (ap (λ (n : List ℕ). named_sentence n c.in-Some.values.now) cut.1 ∙ ap (named_sentence (feature_name item)) cut.2))
