-- A sentence has one least broken rule, and one row of it.
use Rattle.std.proofs.Common.{◌≡◌, ◌<◌, inl, inr, ℕ, List, sym, ◌∙◌, subst, arith}
use Rattle.std.proofs.lemmas.Bool.{cases_order}
use Rattle.tb_conllu.specs.Text.{RowText, BlockText}
use Rattle.tb_conllu.specs.Words.{words_of}
use Rattle.tb_rules.specs.Deps.{dependency_test}
use Rattle.tb_rules.specs.Feats.{feature_test}
use Rattle.tb_rules.specs.Nodes.{node_test}
use Rattle.tb_rules.specs.Rows.{RowTest, IsFirstFault}
use Rattle.tb_rules.specs.Rules.{Rule, sent_id, text, ids, words, spans, nodes, features, dependencies, one_root, tree, restored, IsFaultRow, IsBroken}
use Rattle.tb_rules.specs.Spans.{span_test}
use Rattle.tb_rules.specs.Words.{word_test}
use Rattle.tb_rules.proofs.Kept.{some_row, both}
use Rattle.tb_rules.proofs.ByNumber.{same_number}

same_rule : (b : BlockText) (rule row rule2 row2 : ℕ) → IsBroken b rule row → IsBroken b rule2 row2 → rule ≡ rule2
same_rule b rule row rule2 row2 p q =
    elim (cases_order rule rule2) [
      | inl e ↦ e
      | inr more ↦ elim more [
        | inl less ↦ absurd (p.broken (q.before p.which (omega (arith, p.numbered, less))))
        | inr less ↦ absurd (q.broken (p.before q.which (omega (arith, q.numbered, less))))
      ]
    ]

-- ---- the rows

-- the row at one place passes before the other place
clash : (test : RowTest) (rs : List RowText) (row row2 : ℕ) (p : IsFirstFault test rs row) (q : IsFirstFault test rs row2) → p.place < q.place → ⊥
clash test rs row row2 p q less = both _ (q.before p.place some_row less) (p.fails some_row)

same_place : (test : RowTest) (rs : List RowText) (row row2 : ℕ) (p : IsFirstFault test rs row) (q : IsFirstFault test rs row2) → p.place ≡ q.place
same_place test rs row row2 p q =
    elim (cases_order p.place q.place) [
      | inl e ↦ e
      | inr more ↦ elim more [ inl less ↦ absurd (clash test rs row row2 p q less) | inr less ↦ absurd (clash test rs row2 row q p less) ]
    ]

same_first : (test : RowTest) (rs : List RowText) (row row2 : ℕ) → IsFirstFault test rs row → IsFirstFault test rs row2 → row ≡ row2
same_first test rs row row2 p q = let e = same_place test rs row row2 p q in omega (arith, e, p.counted, q.counted)

same_row : (r : Rule) (b : BlockText) (row row2 : ℕ) → IsFaultRow r b row → IsFaultRow r b row2 → row ≡ row2
same_row sent_id b row row2 p q = p ∙ sym q
same_row text b row row2 p q = p ∙ sym q
same_row ids b row row2 p q = p ∙ sym q
same_row words b row row2 p q = same_first (word_test (words_of b)) b.rows row row2 p q
same_row spans b row row2 p q = same_first (span_test (words_of b)) b.rows row row2 p q
same_row nodes b row row2 p q = same_first node_test b.rows row row2 p q
same_row features b row row2 p q = same_first feature_test b.rows row row2 p q
same_row dependencies b row row2 p q = same_first (dependency_test b.rows) b.rows row row2 p q
same_row one_root b row row2 p q = p ∙ sym q
same_row tree b row row2 p q = p ∙ sym q
same_row restored b row row2 p q = p ∙ sym q

pub one_rule : (b : BlockText) (rule row rule2 row2 : ℕ) → IsBroken b rule row → IsBroken b rule2 row2 → (rule ≡ rule2) × (row ≡ row2)
one_rule b rule row rule2 row2 p q =
    let e = same_rule b rule row rule2 row2 p q in
    let same : p.which ≡ q.which = same_number p.which q.which (sym p.numbered ∙ e ∙ q.numbered) in
    (e, same_row q.which b row row2 (subst (λ r. IsFaultRow r b row) same p.at_row) q.at_row)
