-- Inner: no contract beyond this crate cites a definition of this module.
-- Codes for patterns, by which a proof tells values apart.
use Rattle.std.specs.Prelude.{◌≡◌, ℕ, nat_eq, refl, Option}
use Rattle.std.proofs.Common.{sym, ap, subst, true≢false}
use base.Stored.{Gv, gnil, gnum, gcons, num, Coded}
use Rattle.std.specs.Coded.{coded_ℕ, coded_option}
use Rattle.tb_match.specs.Trees.{Tree, tok, cat, alt, rep, Forest, no_more, and_more}
use Rattle.tb_query.specs.Halves.{first, second, IsPair}

abbrev kind : Tree → ℕ
kind (tok e) = 0
kind (cat ps) = 1
kind (alt ps) = 2
kind (rep t a b) = 3

abbrev coded_limit : Coded (Option ℕ)
coded_limit = coded_option coded_ℕ

abbrev mutual
  code_of : Tree → Gv
  code_of (tok e) = gcons (gnum 0) (gnum e)
  code_of (cat ps) = gcons (gnum 1) (codes_of ps)
  code_of (alt ps) = gcons (gnum 2) (codes_of ps)
  code_of (rep t a b) = gcons (gnum 3) (gcons (code_of t) (gcons (gnum a) (coded_limit.code b)))

  codes_of : Forest → Gv
  codes_of no_more = gnil
  codes_of (and_more t ts) = gcons (code_of t) (codes_of ts)

mutual
  pub code_of-inj : (x y : Tree) → code_of x ≡ code_of y → x ≡ y
  code_of-inj (tok e) (tok f) p = ap tok (ap (λ g. num (second g)) p)
  code_of-inj (cat ps) (cat qs) p = ap cat (codes_of-inj ps qs (ap second p))
  code_of-inj (alt ps) (alt qs) p = ap alt (codes_of-inj ps qs (ap second p))
  code_of-inj (rep t a b) (rep u c d) p =
      λ i. rep (code_of-inj t u (ap (λ g. first (second g)) p) i) (ap (λ g.
      num (first (second (second g)))) p i) (coded_limit.inj b d (ap (λ g. second (second (second g))) p) i)
  code_of-inj x y p = absurd (true≢false (ap (λ g. nat_eq (kind x) (num (first g))) p))

  pub codes_of-inj : (xs ys : Forest) → codes_of xs ≡ codes_of ys → xs ≡ ys
  codes_of-inj no_more no_more p = refl
  codes_of-inj (and_more t ts) (and_more u us) p =
      λ i. and_more (code_of-inj t u (ap first p) i) (codes_of-inj ts us (ap second p) i)
  codes_of-inj no_more (and_more u us) p = absurd (subst IsPair (sym p) tt)
  codes_of-inj (and_more t ts) no_more p = absurd (subst IsPair p tt)

abbrev pub coded_tree : Coded Tree
coded_tree = record { code = code_of; inj = code_of-inj }
