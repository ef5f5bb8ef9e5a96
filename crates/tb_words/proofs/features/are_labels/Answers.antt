use Rattle.std.proofs.Common.{[], ap, arith, length, lit<, sym, take, ◌∙◌, ℕ}
use Rattle.std.proofs.lemmas.Bool.{and_from}
use Rattle.std.proofs.lemmas.Iterator.Consumers.{YieldsList-end, YieldsList-turn}
use Rattle.std.proofs.lemmas.Iterator.Splits.{YieldsList-from_str_split}
use Rattle.std.proofs.lemmas.List.{get_or_default, length_push, take_all}
use Rattle.std.proofs.lemmas.List.Folds.{list_all_at, list_all_more}
use Rattle.std.specs.List.{list_all, list_any, slice_split}
use Rattle.tb_fields.specs.Feats.{is_bar, is_comma, is_label}
use Rattle.tb_words.proofs.FeatureParts.{parts_free, parts_lack}
use Rattle.tb_words.proofs.features.are_labels.Goals as goal

pub returns-then-not-branch : goal.returns-then-not-branch
returns-then-not-branch c = λ bars.
    let all = slice_split is_comma c.args.values.now in
    let n = length c.loop-value.yielded in
    let t = YieldsList-turn {s = c.into_iter-value-iterator.result} (YieldsList-from_str_split {s = c.into_iter-value-iterator.result} 44
    c.args.values.now (lit< tt) (cc) (cc) (cc)) c.loop-value.yielded _ c.loop-value.yielded_by _ _ c.in-Some.value c.in-Some.is c.next.ensures.steps in
    let at = t.1 ∙ get_or_default all n c.in-Some.value.now [] t.0 in
    let told = c.in_ok-is_label.ensures (ap (list_any is_bar) at ∙ parts_lack is_comma is_bar c.args.values.now n bars)
    (ap (list_any is_comma) at ∙ parts_free is_comma c.args.values.now n) in
    sym (list_all_at is_label all n [] t.0 (ap is_label (sym at) ∙ (sym told ∙ c.if-not-branch.true)))

pub loop-value-preserved : goal.loop-value-preserved
loop-value-preserved c = λ bars.
    let all = slice_split is_comma c.args.values.now in
    let n = length c.loop-value.yielded in
    let t = YieldsList-turn {s = c.into_iter-value-iterator.result} (YieldsList-from_str_split {s = c.into_iter-value-iterator.result} 44
    c.args.values.now (lit< tt) (cc) (cc) (cc)) c.loop-value.yielded _ c.loop-value.yielded_by _ _ c.in-Some.value c.in-Some.is c.next.ensures.steps in
    let at = t.1 ∙ get_or_default all n c.in-Some.value.now [] t.0 in
    let told = c.in_ok-is_label.ensures (ap (list_any is_bar) at ∙ parts_lack is_comma is_bar c.args.values.now n bars)
    (ap (list_any is_comma) at ∙ parts_free is_comma c.args.values.now n) in
    ap (λ (k : ℕ). list_all is_label (take k all)) (length_push c.loop-value.yielded c.in-Some.value)
    ∙ (list_all_more is_label all n [] t.0 ∙ and_from _ _ (c.loop-value.invariant bars) (ap is_label (sym at) ∙ (sym told ∙ c.if-not-branch.false)))

pub returns : goal.returns
returns c = λ bars.
    let all = slice_split is_comma c.args.values.now in
    let e = YieldsList-end {s = c.into_iter-value-iterator.result} (YieldsList-from_str_split {s = c.into_iter-value-iterator.result} 44
    c.args.values.now (lit< tt) (cc) (cc) (cc)) c.loop-value.yielded _ c.loop-value.yielded_by _ _ c.in-None.is c.next.ensures.steps in
    sym (ap (list_all is_label) (sym (take_all (length c.loop-value.yielded) all (omega (arith, e.1)))) ∙ c.loop-value.invariant bars)
