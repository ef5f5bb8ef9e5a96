use Rattle.std.proofs.Common.{◌≡◌, ◌∙◌, ap, map, sym, take, true}
use Rattle.std.proofs.lemmas.Bool.{true≢false}
use Rattle.httparse.specs.Spans.{header_bytes, span_bytes}
use Rattle.tb_page.specs.Paths.{is_check}
use Rattle.tb_page.specs.Visits.{check_of, visit_by}
use Rattle.tb_page.proofs.Begun.{after}
use Rattle.tb_page.proofs.Lacking.{lacks_or_not}
use Rattle.tb_page.proofs.visits.awaits_text_after.Goals as goal

pub returns-then-is_check : goal.returns-then-is_check
returns-then-is_check c =
    let both = lacks_or_not c.args.buf.now c.requires.begins.0 c.args.bytes.now c.args.headers.now c.args.spans c.requires.room c.requires.few c.requires.inside
    c.requires.head c.requires.begins.1 in
    let named = map (header_bytes c.args.buf.now) (take c.args.spans.headers c.args.headers.now) in
    let rest = after c.args.bytes.now c.args.spans in
    let path : is_check (span_bytes c.args.buf.now c.args.spans.path) ≡ true = ap is_check (sym c.of.ensures) ∙ (sym c.is_check.ensures ∙ c.if-is_check.true) in
    let visit : visit_by c.check_of.result ≡ check_of (span_bytes c.args.buf.now c.args.spans.method) named rest =
    c.check_of.ensures ∙ ap (λ m. check_of m named rest) c.of-method.ensures in (
      λ yes. both.0 (path, sym visit ∙ c.lacks_text.ensures.0 yes),
      λ awaits. c.lacks_text.ensures.1 (visit ∙ (both.1 awaits).1),
    )

pub returns-else-is_check : goal.returns-else-is_check
returns-else-is_check c =
    let both = lacks_or_not c.args.buf.now c.requires.begins.0 c.args.bytes.now c.args.headers.now c.args.spans c.requires.room c.requires.few c.requires.inside
    c.requires.head c.requires.begins.1 in (
      λ yes. absurd (true≢false (sym yes ∙ c.if-is_check.false)),
      λ awaits. c.is_check.ensures ∙ (ap is_check c.of.ensures ∙ (both.1 awaits).0),
    )
