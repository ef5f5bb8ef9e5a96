-- Inner: no contract beyond this crate cites a definition of this module.
-- Codes for tests and for queries, by which a proof tells values apart.
use Rattle.std.specs.Prelude.{◌≡◌, ℕ, List, nat_eq, refl}
use Rattle.std.proofs.Common.{sym, ap, subst, true≢false}
use base.Stored.{Gv, gnil, gnum, gcons, num, Coded}
use Rattle.std.specs.Coded.{code_by, coded×, coded_list, coded_ℕ}
use Rattle.tb_match.specs.Trees.{Tree}
use Rattle.tb_syntax.specs.contracts.lexeme.Attr as attr
use Rattle.tb_syntax.specs.contracts.lexeme.Flag as flag
use Rattle.tb_syntax.specs.declared.lexeme.Flag.{Flag}
use Rattle.tb_literal.specs.Literals.{PlainLit}
use Rattle.tb_syntax.specs.Tests.{Test, every, whole, feature, negated, both, either, Tests, no_test, and_test}
use Rattle.tb_query.specs.Halves.{first, second, IsPair}
use Rattle.tb_query.specs.Search.{Asked}
use Rattle.tb_query.specs.TreeCodes.{coded_tree}

abbrev kind : Test PlainLit → ℕ
kind every = 0
kind (whole a l) = 1
kind (feature l) = 2
kind (negated t) = 3
kind (both ts) = 4
kind (either ts) = 5

abbrev coded_literal : Coded PlainLit
coded_literal =
    code_by (List ℕ × Flag) (coded× (coded_list coded_ℕ) flag.the_row.coded) (λ l. (l.text, l.flag)) (λ p.
    record { text = p.0; flag = p.1 }) (λ _. refl)

abbrev mutual
  code_of : Test PlainLit → Gv
  code_of every = gcons (gnum 0) gnil
  code_of (whole a l) = gcons (gnum 1) (gcons (attr.the_row.coded.code a) (coded_literal.code l))
  code_of (feature l) = gcons (gnum 2) (coded_literal.code l)
  code_of (negated t) = gcons (gnum 3) (code_of t)
  code_of (both ts) = gcons (gnum 4) (codes_of ts)
  code_of (either ts) = gcons (gnum 5) (codes_of ts)

  codes_of : Tests PlainLit → Gv
  codes_of no_test = gnil
  codes_of (and_test t ts) = gcons (code_of t) (codes_of ts)

mutual
  pub code_of-inj : (x y : Test PlainLit) → code_of x ≡ code_of y → x ≡ y
  code_of-inj every every p = refl
  code_of-inj (whole a l) (whole b m) p =
      λ i. whole (attr.the_row.coded.inj a b (ap (λ g. first (second g)) p) i) (coded_literal.inj l m (ap (λ g.
      second (second g)) p) i)
  code_of-inj (feature l) (feature m) p = ap feature (coded_literal.inj l m (ap second p))
  code_of-inj (negated t) (negated u) p = ap negated (code_of-inj t u (ap second p))
  code_of-inj (both ts) (both us) p = ap both (codes_of-inj ts us (ap second p))
  code_of-inj (either ts) (either us) p = ap either (codes_of-inj ts us (ap second p))
  code_of-inj x y p = absurd (true≢false (ap (λ g. nat_eq (kind x) (num (first g))) p))

  pub codes_of-inj : (xs ys : Tests PlainLit) → codes_of xs ≡ codes_of ys → xs ≡ ys
  codes_of-inj no_test no_test p = refl
  codes_of-inj (and_test t ts) (and_test u us) p =
      λ i. and_test (code_of-inj t u (ap first p) i) (codes_of-inj ts us (ap second p) i)
  codes_of-inj no_test (and_test u us) p = absurd (subst IsPair (sym p) tt)
  codes_of-inj (and_test t ts) no_test p = absurd (subst IsPair p tt)

abbrev pub coded_test : Coded (Test PlainLit)
coded_test = record { code = code_of; inj = code_of-inj }

abbrev pub coded_asked : Coded Asked
coded_asked =
    code_by (Tree × List (Test PlainLit)) (coded× coded_tree (coded_list coded_test)) (λ q. (q.pat, q.tests)) (λ p.
    record { pat = p.0; tests = p.1 }) (λ _. refl)
