-- What is asked by the head that bytes begin with, and by the bytes after it.
use Rattle.std.proofs.Common.{◌≡◌, ◌≤◌, ◌-◌, ℕ, List, ◌++◌, length, take, drop, map, Some, inr, ◌∙◌, ap, inl, subst, sym}
use Rattle.std.proofs.lemmas.List.{drop-append-le}
use Rattle.httparse.specs.Grammar.{RequestHead}
use Rattle.httparse.specs.Spans.{IsRequestOf, IsRequestWithin, header_bytes, span_bytes}
use Rattle.httparse.specs.declared.spans.HeaderSpan.{HeaderSpan}
use Rattle.httparse.specs.declared.spans.RequestSpans.{RequestSpans}
use Rattle.tb_http.specs.Asks.{headers_of}
use Rattle.tb_http.specs.Head.{BeginsWithHead}
use Rattle.tb_http.proofs.Chains.{IsSet, begins, rest_is, set}
use Rattle.httparse.proofs.GrammarLemmas.{request_unique}
use Rattle.tb_page.specs.Visits.{AsksOneVisit, VisitText, Visits, visit_of}

-- what follows the head at these spans, as code takes it
abbrev pub after : (bytes : List ℕ) → RequestSpans → List ℕ
after bytes spans = take (length bytes - spans.len) (drop spans.len bytes)

-- bytes that go on after a buffer begin with the head at its spans
pub begun : (buf later bytes : List ℕ) (headers : List HeaderSpan) (spans : RequestSpans) (h : RequestHead) → IsSet buf headers spans h
    → bytes ≡ buf ++ later → BeginsWithHead bytes h (after bytes spans)
begun buf later bytes headers spans h s whole =
    let rest : after bytes spans ≡ drop spans.len buf ++ later =
    rest_is bytes spans.len ∙ (ap (drop spans.len) whole ∙ drop-append-le spans.len buf later s.fits) in
    subst (λ b. BeginsWithHead b h (after bytes spans)) (sym whole)
    (subst (λ t. BeginsWithHead (buf ++ later) h t) (sym rest) (begins buf later headers spans h s))

pub visited : (port : ℕ) (buf later bytes : List ℕ) (headers : List HeaderSpan) (spans : RequestSpans) (v : VisitText)
    → length buf ≤ 8192 → length headers ≤ 32 → IsRequestWithin buf headers spans → IsRequestOf buf headers spans → bytes ≡ buf ++ later
    → v ≡ visit_of port (span_bytes buf spans.method) (span_bytes buf spans.path) (map (header_bytes buf) (take spans.headers headers)) (after bytes spans)
    → Visits port bytes v
visited port buf later bytes headers spans v room few inside r whole e =
    let s = set buf headers spans room few inside r in
    let h = r.0 in
    let rest = after bytes spans in
    inr (
      h,
      rest,
      begun buf later bytes headers spans h s whole,
      e ∙ (ap (λ m. visit_of port m (span_bytes buf spans.path) (map (header_bytes buf) (take spans.headers headers)) rest) s.whole.method
          ∙ (ap (λ p. visit_of port h.method p (map (header_bytes buf) (take spans.headers headers)) rest) s.whole.path
          ∙ ap (λ l. visit_of port h.method h.target l rest) s.whole.fields)),
    )

-- ---- one thing is asked

pub one_visit : AsksOneVisit
one_visit port bytes v w (inl (none, is)) (inl (other, same)) = is ∙ sym same
one_visit port bytes v w (inl (none, is)) (inr (head, rest, begun, same)) = absurd (none head rest begun)
one_visit port bytes v w (inr (head, rest, begun, is)) (inl (none, same)) = absurd (none head rest begun)
one_visit port bytes v w (inr (head, rest, begun, is)) (inr (other, more, also, same)) =
    let one = request_unique bytes head other rest more begun.reads also.reads in
    is ∙ (ap (λ h. visit_of port h.method h.target (headers_of h) rest) one.0
    ∙ (ap (λ r. visit_of port other.method other.target (headers_of other) r) one.1 ∙ sym same))
