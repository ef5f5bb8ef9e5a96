use Rattle.std.proofs.Common.{◌≡◌, ◌↔◌, ◌*◌, ℕ, List, length, map, filter, sym, ap, ◌∙◌, subst}
use Rattle.std.proofs.lemmas.Bool.{false≢true}
use Rattle.std.proofs.lemmas.List.{length-map, with_items_is}
use Rattle.std.proofs.lemmas.List.Sums.{length-filter}
use Rattle.tb_conllu.specs.Text.{BlockText, RowText}
use Rattle.tb_conllu.specs.Words.{is_word}
use Rattle.tb_match.specs.Facts.{Holds}
use Rattle.tb_match.specs.Trees.{tree}
use Rattle.tb_query.specs.PreparedExprs.{asked}
use Rattle.tb_literal.specs.Literals.{PlainLit}
use Rattle.tb_syntax.specs.Tests.{Test}
use Rattle.tb_query.specs.Meaning.{word_rows, HoldsOf}
use Rattle.tb_query.specs.Search.{Asked, IsSearchable}
use Rattle.tb_query.proofs.searcher.Searcher.truth.Goals as goal

pub fill-requires-clause-words : goal.fill-requires-clause-words
fill-requires-clause-words g c =
    let rows : c.deref.result.now ≡ c.args.block.now.rows = c.deref.ensures.value ∙ ap (λ (b : BlockText). b.rows) c.block.view_is in
    c.in_ok-truth.ensures.words ∙ c.words.ensures ∙ sym (ap (λ (rs : List RowText). length (filter is_word rs)) rows ∙ length-filter is_word c.args.block.now.rows)

pub invariant_of-self : goal.invariant_of-self
invariant_of-self g c =
    let prepared_exprs = c.self.inside.prepared_exprs in
    let long : length c.fill.new.prepared_exprs ≡ prepared_exprs.len = c.fill.auto.prepared_exprs ∙ c.deref_mut.ensures.len in
    let tests = ap (map asked) (with_items_is prepared_exprs c.fill.new.prepared_exprs long) ∙ c.fill.ensures.unchanged ∙ ap (map asked) c.deref_mut.ensures.value in
    subst (λ (ts : List (Test PlainLit)). IsSearchable (record { pat = tree c.self.inside.pat.now; tests = ts })) (sym tests) c.self.invariant

pub returns-clause-truth : goal.returns-clause-truth
returns-clause-truth g c =
    let prepared_exprs = c.self.inside.prepared_exprs in
    let block = c.args.block.now in
    let query = c.args.self.now in
    let truth = c.fill.new.truth in
    let rows : c.deref.result.now ≡ block.rows = c.deref.ensures.value ∙ ap (λ (b : BlockText). b.rows) c.block.view_is in
    let tests : map asked c.deref_mut.result.now ≡ query.tests = ap (map asked) c.deref_mut.ensures.value ∙ ap (λ (q : Asked). q.tests) c.self.view_is in
    let count : prepared_exprs.len ≡ length query.tests = prepared_exprs.ok.0 ∙ sym (length-map prepared_exprs.items asked) ∙ ap (λ (q : Asked). length q.tests) c.self.view_is in (
      c.fill.ensures.words ∙ c.in_ok-truth.ensures.words ∙ c.words.ensures,
      c.fill.ensures.exprs ∙ c.in_ok-truth.ensures.exprs ∙ c.len-exprs.ensures ∙ count,
      λ e w. subst (λ (ts : List (Test PlainLit)). Holds truth e w ↔ HoldsOf ts (word_rows block) e w) tests
          (subst (λ (rs : List RowText). Holds truth e w ↔ HoldsOf (map asked c.deref_mut.result.now) (filter is_word rs) e w) rows (c.fill.ensures.held e w)),
    )

pub returns-in_err-truth-clause-sure : goal.returns-in_err-truth-clause-sure
returns-in_err-truth-clause-sure g c = λ none.
    let prepared_exprs = c.self.inside.prepared_exprs in
    let query = c.args.self.now in
    let count : prepared_exprs.len ≡ length query.tests = prepared_exprs.ok.0 ∙ sym (length-map prepared_exprs.items asked) ∙ ap (λ (q : Asked). length q.tests) c.self.view_is in
    let cells = ap (λ (n : ℕ). n * c.words.result) (c.len-exprs.ensures ∙ count) ∙ ap (λ (n : ℕ). length query.tests * n) c.words.ensures ∙ none in
    absurd (false≢true (c.in_err-truth.ensures.sure cells))
