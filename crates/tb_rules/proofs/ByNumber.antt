-- Rules by their numbers, and the faults that are told of them.
use Rattle.std.proofs.Common.{◌≡◌, ◌≤◌, inl, inr, ℕ, zero, suc, ◌+◌, refl, sym, ◌∙◌, ap, subst, arith}
use Rattle.std.proofs.lemmas.Bool.{cases_lt}
use Rattle.tb_conllu.specs.Text.{BlockText}
use Rattle.tb_rules.specs.Comments.{HasSentId, HasText}
use Rattle.tb_rules.specs.Ids.{HasIds}
use Rattle.tb_rules.specs.Rules.{Rule, sent_id, text, ids, words, spans, nodes, features, dependencies, one_root, tree, restored, number, Keeps, KeepsTo, KeepsRules, IsFaultRow, IsBroken}

abbrev rule_at : ℕ → Rule
rule_at zero = sent_id
rule_at (suc zero) = sent_id
rule_at (suc (suc zero)) = text
rule_at (suc (suc (suc zero))) = ids
rule_at (suc (suc (suc (suc zero)))) = words
rule_at (suc (suc (suc (suc (suc zero))))) = spans
rule_at (suc (suc (suc (suc (suc (suc zero)))))) = nodes
rule_at (suc (suc (suc (suc (suc (suc (suc zero))))))) = features
rule_at (suc (suc (suc (suc (suc (suc (suc (suc zero)))))))) = dependencies
rule_at (suc (suc (suc (suc (suc (suc (suc (suc (suc zero))))))))) = one_root
rule_at (suc (suc (suc (suc (suc (suc (suc (suc (suc (suc zero)))))))))) = tree
rule_at (suc (suc (suc (suc (suc (suc (suc (suc (suc (suc (suc n))))))))))) = restored

back : (r : Rule) → rule_at (number r) ≡ r
back sent_id = refl
back text = refl
back ids = refl
back words = refl
back spans = refl
back nodes = refl
back features = refl
back dependencies = refl
back one_root = refl
back tree = refl
back restored = refl

pub same_number : (p q : Rule) → number p ≡ number q → p ≡ q
same_number p q e = sym (back p) ∙ (ap rule_at e ∙ back q)

-- the numbers are 1 to 11
abbrev IsFine : ℕ → Type 0
IsFine n = (1 ≤ n) × (n ≤ 11)

pub bounds : (r : Rule) → IsFine (number r)
bounds sent_id = (omega arith, omega arith)
bounds text = (omega arith, omega arith)
bounds ids = (omega arith, omega arith)
bounds words = (omega arith, omega arith)
bounds spans = (omega arith, omega arith)
bounds nodes = (omega arith, omega arith)
bounds features = (omega arith, omega arith)
bounds dependencies = (omega arith, omega arith)
bounds one_root = (omega arith, omega arith)
bounds tree = (omega arith, omega arith)
bounds restored = (omega arith, omega arith)

-- ---- one rule after the other

pub none_yet : (b : BlockText) → KeepsTo 0 b
none_yet b r l = absurd (omega (arith, (bounds r).0, l))

pub one_kept : (b : BlockText) (q : Rule) (n : ℕ) → number q ≡ n + 1 → KeepsTo n b → Keeps q b → KeepsTo (n + 1) b
one_kept b q n e h k r l = elim (cases_lt n (number r)) [
  | inl last ↦ subst (λ p. Keeps p b) (same_number q r (omega (arith, e, l, last))) k
  | inr less ↦ h r less
]

pub kept_2 : (b : BlockText) → HasSentId b → HasText b → KeepsTo 2 b
kept_2 b h i = one_kept b text 1 refl (one_kept b sent_id 0 refl (none_yet b) h) i

pub kept_3 : (b : BlockText) → HasSentId b → HasText b → HasIds b → KeepsTo 3 b
kept_3 b h i j = one_kept b ids 2 refl (kept_2 b h i) j

pub all_kept : (b : BlockText) → KeepsTo 11 b → KeepsRules b
all_kept b h r = h r (bounds r).1

-- the next rule is broken
pub broken_next : (b : BlockText) (q : Rule) (n row : ℕ) → number q ≡ n + 1 → KeepsTo n b → (Keeps q b → ⊥) → IsFaultRow q b row → IsBroken b (number q) row
broken_next b q n row e h unless at = record {
  which = q;
  numbered = refl;
  before = λ r l. h r (omega (arith, e, l));
  broken = unless;
  at_row = at;
}
