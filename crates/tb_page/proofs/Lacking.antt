-- When a check lacks a part of its text.
use Rattle.std.proofs.Common.{◌≡◌, ◌≤◌, ◌<◌, ℕ, List, ◌++◌, length, take, map, Bool, true, false, nat_le, Option, Some, None, refl, ◌∙◌, ap, subst, sym, arith, ◌↔◌}
use Rattle.std.proofs.lemmas.Bool.Decides.{nat_tests}
use Rattle.std.specs.Prelude.{if◌then◌else◌}
use Rattle.httparse.specs.Grammar.{RequestHead}
use Rattle.httparse.specs.Spans.{IsRequestOf, IsRequestWithin, header_bytes, span_bytes}
use Rattle.httparse.specs.declared.spans.HeaderSpan.{HeaderSpan}
use Rattle.httparse.specs.declared.spans.RequestSpans.{RequestSpans}
use Rattle.httparse.proofs.GrammarLemmas.{request_unique}
use Rattle.tb_http.specs.Asks.{body_limit, headers_of}
use Rattle.tb_http.specs.Head.{BeginsWithHead}
use Rattle.tb_http.specs.Headers.{Header, body_length}
use Rattle.tb_http.specs.declared.actions.Allow.TheVariants.{Post}
use Rattle.tb_http.specs.declared.asks.RequestFault.TheVariants.{Length, Long, Body}
use Rattle.tb_http.proofs.Chains.{set}
use Rattle.tb_page.specs.Paths.{is_check}
use Rattle.tb_page.specs.Visits.{AwaitsText, HasCheck, VisitText, by_post, check, check_of, is_post, no_method, no_text, text_in, text_of}
use Rattle.tb_page.proofs.Begun.{after, begun}

-- what a head says of a text that has not come whole
pub record Lacks (method : List ℕ) (headers : List Header) (rest : List ℕ) (n : ℕ) : Type 0 where
  pub post : is_post method ≡ true
  pub said : body_length headers ≡ Some n
  pub within : n ≤ body_limit
  pub short : length rest < n

module _ (method : List ℕ) (headers : List Header) (rest : List ℕ) where
  whole : (n : ℕ) (b : Bool) → nat_le n (length rest) ≡ b → (if b then check (take n rest) else no_text Body) ≡ no_text Body → length rest < n
  whole n true e x = absurd (cc)
  whole n false e x = grind (arith, nat_tests)

  fits : (n : ℕ) → is_post method ≡ true → body_length headers ≡ Some n → (b : Bool) → nat_le n body_limit ≡ b
      → (if b then text_in n rest else no_text Long) ≡ no_text Body → Lacks method headers rest n
  fits n p k true e x = record { post = p; said = k; within = grind (arith, nat_tests); short = whole n (nat_le n (length rest)) refl x }
  fits n p k false e x = absurd (let other : no_text Long ≡ no_text Body = x in cc)

  has_length : is_post method ≡ true → (o : Option ℕ) → body_length headers ≡ o → text_of o rest ≡ no_text Body → (n : ℕ) × Lacks method headers rest n
  has_length p None k x = absurd (let other : no_text Length ≡ no_text Body = x in cc)
  has_length p (Some n) k x = (n, fits n p k (nat_le n body_limit) refl x)

  has_method : (b : Bool) → is_post method ≡ b → by_post b (text_of (body_length headers) rest) ≡ no_text Body → (n : ℕ) × Lacks method headers rest n
  has_method true e x = has_length e (body_length headers) refl x
  has_method false e x = absurd (let other : no_method Post ≡ no_text Body = x in cc)

  pub lacks : check_of method headers rest ≡ no_text Body → (n : ℕ) × Lacks method headers rest n
  lacks x = has_method (is_post method) refl x

  pub lacking : (n : ℕ) → Lacks method headers rest n → check_of method headers rest ≡ no_text Body
  lacking n l =
      let limit : nat_le n body_limit ≡ true = let w = l.within in grind (arith, nat_tests) in
      let few : nat_le n (length rest) ≡ false = let w = l.short in grind (arith, nat_tests) in
      ap (λ b. by_post b (text_of (body_length headers) rest)) l.post
      ∙ (ap (λ o. text_of o rest) l.said
      ∙ (ap (λ b. if b then text_in n rest else no_text Long) limit
      ∙ ap (λ b. if b then check (take n rest) else no_text Body) few))

-- what the code tests at the spans of a head
abbrev pub IsLackingAt : (buf bytes : List ℕ) → List HeaderSpan → RequestSpans → Type 0
IsLackingAt buf bytes headers spans = (is_check (span_bytes buf spans.path) ≡ true)
    × (check_of (span_bytes buf spans.method) (map (header_bytes buf) (take spans.headers headers)) (after bytes spans) ≡ no_text Body)

module _ (buf later bytes : List ℕ) (headers : List HeaderSpan) (spans : RequestSpans) (room : length buf ≤ 8192) (few : length headers ≤ 32)
    (inside : IsRequestWithin buf headers spans) (r : IsRequestOf buf headers spans) (all : bytes ≡ buf ++ later) where
  -- the head that was read, in place of the spans
  by_head : check_of (span_bytes buf spans.method) (map (header_bytes buf) (take spans.headers headers)) (after bytes spans)
      ≡ check_of r.0.method (headers_of r.0) (after bytes spans)
  by_head =
      let s = set buf headers spans room few inside r in
      ap (λ m. check_of m (map (header_bytes buf) (take spans.headers headers)) (after bytes spans)) s.whole.method
      ∙ ap (λ l. check_of r.0.method l (after bytes spans)) s.whole.fields

  begins_so : BeginsWithHead bytes r.0 (after bytes spans)
  begins_so = begun buf later bytes headers spans r.0 (set buf headers spans room few inside r) all

  awaits : IsLackingAt buf bytes headers spans → AwaitsText bytes
  awaits l =
      let s = set buf headers spans room few inside r in
      let found = lacks r.0.method (headers_of r.0) (after bytes spans) (sym by_head ∙ l.1) in (
        r.0,
        after bytes spans,
        found.0,
        record {
          begins = begins_so;
          path = ap is_check (sym s.whole.path) ∙ l.0;
          method = found.1.post;
          said = found.1.said;
          within = found.1.within;
        },
        found.1.short,
      )

  is_awaited : AwaitsText bytes → IsLackingAt buf bytes headers spans
  is_awaited (head, rest, n, is, short) =
      let s = set buf headers spans room few inside r in
      let one = request_unique bytes head r.0 rest (after bytes spans) is.begins.reads begins_so.reads in
      let other = lacking head.method (headers_of head) rest n (record { post = is.method; said = is.said; within = is.within; short = short }) in (
        ap is_check s.whole.path ∙ (ap (λ h. is_check h.target) (sym one.0) ∙ is.path),
        by_head ∙ (ap (λ h. check_of h.method (headers_of h) (after bytes spans)) (sym one.0)
            ∙ (ap (λ t. check_of head.method (headers_of head) t) (sym one.1) ∙ other)),
      )

  pub lacks_or_not : IsLackingAt buf bytes headers spans ↔ AwaitsText bytes
  lacks_or_not = (awaits, is_awaited)
