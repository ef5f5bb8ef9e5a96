use Rattle.std.proofs.Common.{◌≡◌, ◌+◌, ◌∷◌, ◌++◌, List, map, drop, string_bytes, sym, ap, subst, ◌∙◌}
use Rattle.std.proofs.lemmas.List.{map-append, at_drop_more}
use Rattle.std.proofs.lemmas.Result.{err_from_is_err_and}
use Rattle.tb_syntax.specs.declared.expr.Literal.{Literal}
use Rattle.tb_syntax.specs.Exprs.{test}
use Rattle.tb_syntax.specs.Tests.{literals, literals_of}
use Rattle.tb_query.specs.Refusing.{IsRefusalAmong}
use Rattle.tb_query.specs.Reading.{with_text, with_texts, AreAccepted}
use Rattle.tb_query.proofs.Attachments.{accepted_append, refused_after}
use Rattle.tb_query.proofs.Variants.{denied_literals, denied_value, both_value, either_value, both_literals, either_literals, one_more}
use Rattle.tb_query.proofs.attaching.+attaching.Goals as goal

pub attach-returns-in_err-attached-in-Denied-clause-refused : goal.attach-returns-in_err-attached-in-Denied-clause-refused
attach-returns-in_err-attached-in-Denied-clause-refused t c =
    let said = map string_bytes c.args.texts.now in
    let p = err_from_is_err_and c.from_residual-in_err-attached-in-Denied.result c.from_residual-in_err-attached-in-Denied.ensures.1 in
    let same = denied_literals c.args.expr.now c.in-Denied.times c.in-Denied.inner c.deref.result.now c.in-Denied.is c.deref.ensures in
    rw (p.1, p.2) (subst (λ ls. IsRefusalAmong said ls c.in_err-attached-in-Denied.field-0.0) same c.in_err-attached-in-Denied.ensures.refused)

pub attach-returns-in_ok-denied-in-Denied-clause-value : goal.attach-returns-in_ok-denied-in-Denied-clause-value
attach-returns-in_ok-denied-in-Denied-clause-value t c =
    let said = map string_bytes c.args.texts.now in
    c.in_ok-denied-in-Denied.ensures
    ∙ denied_value said c.args.expr.now c.in-Denied.times c.in-Denied.inner c.deref.result.now (test c.in_ok-attached-in-Denied.attached) c.in-Denied.is
    c.deref.ensures c.in_ok-attached-in-Denied.ensures.value

pub attach-returns-in_ok-denied-in-Denied-clause-accepted : goal.attach-returns-in_ok-denied-in-Denied-clause-accepted
attach-returns-in_ok-denied-in-Denied-clause-accepted t c =
    let said = map string_bytes c.args.texts.now in
    let same = denied_literals c.args.expr.now c.in-Denied.times c.in-Denied.inner c.deref.result.now c.in-Denied.is c.deref.ensures in
    subst (λ (ls : List Literal). AreAccepted (map (with_text said) ls)) same c.in_ok-attached-in-Denied.ensures.accepted

pub attach-returns-in_err-attach_all-in-Both-clause-refused : goal.attach-returns-in_err-attach_all-in-Both-clause-refused
attach-returns-in_err-attach_all-in-Both-clause-refused t c =
    let said = map string_bytes c.args.texts.now in
    let p = err_from_is_err_and c.from_residual-in_err-attach_all-in-Both.result c.from_residual-in_err-attach_all-in-Both.ensures.1 in
    let same = both_literals c.args.expr.now c.in-Both.parts c.deref-in-Both.result.now c.in-Both.is c.deref-in-Both.ensures.value in
    rw (p.1, p.2) (subst (λ ls. IsRefusalAmong said ls c.in_err-attach_all-in-Both.field-0.0) same c.in_err-attach_all-in-Both.ensures.refused)

pub attach-returns-in_err-attach_all-in-Either-clause-refused : goal.attach-returns-in_err-attach_all-in-Either-clause-refused
attach-returns-in_err-attach_all-in-Either-clause-refused t c =
    let said = map string_bytes c.args.texts.now in
    let p = err_from_is_err_and c.from_residual-in_err-attach_all-in-Either.result c.from_residual-in_err-attach_all-in-Either.ensures.1 in
    let same = either_literals c.args.expr.now c.in-Either.parts c.deref-in-Either.result.now c.in-Either.is c.deref-in-Either.ensures.value in
    rw (p.1, p.2) (subst (λ ls. IsRefusalAmong said ls c.in_err-attach_all-in-Either.field-0.0) same c.in_err-attach_all-in-Either.ensures.refused)

pub attach-returns-in_ok-attach_all-in-Both-clause-value : goal.attach-returns-in_ok-attach_all-in-Both-clause-value
attach-returns-in_ok-attach_all-in-Both-clause-value t c =
    let said = map string_bytes c.args.texts.now in
    c.both.ensures
    ∙ both_value said c.args.expr.now c.in-Both.parts c.deref-in-Both.result.now (map test c.in_ok-attach_all-in-Both.field-0.items) c.in-Both.is
    c.deref-in-Both.ensures.value c.in_ok-attach_all-in-Both.ensures.values

pub attach-returns-in_ok-attach_all-in-Either-clause-value : goal.attach-returns-in_ok-attach_all-in-Either-clause-value
attach-returns-in_ok-attach_all-in-Either-clause-value t c =
    let said = map string_bytes c.args.texts.now in
    c.either.ensures
    ∙ either_value said c.args.expr.now c.in-Either.parts c.deref-in-Either.result.now (map test c.in_ok-attach_all-in-Either.field-0.items) c.in-Either.is
    c.deref-in-Either.ensures.value c.in_ok-attach_all-in-Either.ensures.values

pub attach-returns-in_ok-attach_all-in-Both-clause-accepted : goal.attach-returns-in_ok-attach_all-in-Both-clause-accepted
attach-returns-in_ok-attach_all-in-Both-clause-accepted t c =
    let said = map string_bytes c.args.texts.now in
    let same = both_literals c.args.expr.now c.in-Both.parts c.deref-in-Both.result.now c.in-Both.is c.deref-in-Both.ensures.value in
    subst (λ (ls : List Literal). AreAccepted (map (with_text said) ls)) same c.in_ok-attach_all-in-Both.ensures.accepted

pub attach-returns-in_ok-attach_all-in-Either-clause-accepted : goal.attach-returns-in_ok-attach_all-in-Either-clause-accepted
attach-returns-in_ok-attach_all-in-Either-clause-accepted t c =
    let said = map string_bytes c.args.texts.now in
    let same = either_literals c.args.expr.now c.in-Either.parts c.deref-in-Either.result.now c.in-Either.is c.deref-in-Either.ensures.value in
    subst (λ (ls : List Literal). AreAccepted (map (with_text said) ls)) same c.in_ok-attach_all-in-Either.ensures.accepted

pub attach_all-loop-expr-preserved : goal.attach_all-loop-expr-preserved
attach_all-loop-expr-preserved t c =
    let said = map string_bytes c.args.texts.now in
    let xs = c.args.exprs.now in
    let i = c.loop-expr.expr-index in
    let x = c.expr-item.result in
    let rest = map test (drop (i + 1) xs) in
    let next : map test (drop i xs) ≡ test x ∷ rest =
    at_drop_more (map test) xs i x c.loop-expr-test.true ∙ ap (λ y. test y ∷ rest) (sym c.expr-item.is) in
    let pushed = ap (map test) c.in_ok-push.ensures.items ∙ map-append test c.loop-expr.attached.items _ in
    record {
      values =
          one_more (map test c.loop-expr.attached.items) _ (map (with_texts said) rest) _ (test c.in_ok-attach.field-0) (with_texts said (test x))
          (subst (λ ys. map test c.loop-expr.attached.items ++ map (with_texts said) ys ≡ map (with_texts said) (map test xs)) next c.loop-expr.invariant.values)
          pushed c.in_ok-attach.ensures.value;
      accepted =
          λ h. c.loop-expr.invariant.accepted
          (subst (λ ys. AreAccepted (map (with_text said) (literals_of ys))) (sym next)
          (accepted_append said (literals (test x)) (literals_of rest) c.in_ok-attach.ensures.accepted h));
      refused =
          λ e h. c.loop-expr.invariant.refused e
          (subst (λ ys. IsRefusalAmong said (literals_of ys) e) (sym next)
          (refused_after said (literals (test x)) (literals_of rest) e c.in_ok-attach.ensures.accepted h));
    }
