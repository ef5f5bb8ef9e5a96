use Rattle.std.proofs.Common.{rules, ◌∙◌, ap, ◌++◌}
use Rattle.std.specs.String.{string_bytes}
use Rattle.std.proofs.lemmas.Str.Pattern.{split_parts, strip_prefix_char}
use Rattle.tb_syntax.proofs.Quotes.{lone_quote, doubled_quote, no_quote}
use Rattle.tb_syntax.proofs.unquoting.said_after.Goals as goal

pub loop-before-preserved-in_default-strip_prefix : goal.loop-before-preserved-in_default-strip_prefix
loop-before-preserved-in_default-strip_prefix c = record {
  text = search rules;
  so_far = λ ascii.
      let parts = rw c.in-Some.is at (split_parts c.args.quote c.loop-before.rest.now c.split_once.result c.split_once.ensures.cases ascii) in
      let other = rw c.in_default-strip_prefix.is at (strip_prefix_char c.args.quote c.in-Some.after.now c.strip_prefix.result c.strip_prefix.ensures.cases ascii) in
      lone_quote c.args.quote _ _ c.loop-before.rest.now c.in-Some.before.now c.in-Some.after.now _ (c.loop-before.invariant.so_far ascii) parts.0 parts.1 other c.in_ok-push_str.ensures.bytes;
}

pub loop-before-preserved : goal.loop-before-preserved
loop-before-preserved c = record {
  text = search rules;
  so_far = λ ascii.
      let parts = rw c.in-Some.is at (split_parts c.args.quote c.loop-before.rest.now c.split_once.result c.split_once.ensures.cases ascii) in
      let again = rw c.in-Some-strip_prefix.is at (strip_prefix_char c.args.quote c.in-Some.after.now c.strip_prefix.result c.strip_prefix.ensures.cases ascii) in
      doubled_quote c.args.quote _ (string_bytes c.push_str.new.self) _ c.loop-before.rest.now c.in-Some.before.now c.in-Some.after.now c.in-Some-strip_prefix.more.now _
      (c.loop-before.invariant.so_far ascii) parts.0 parts.1 again c.in_ok-push_str.ensures.bytes
      (c.in_ok-push.ensures.bytes ∙ ap (λ x. string_bytes c.push_str.new.self ++ x) (c.in_ok-push.ensures.ascii ascii));
}

pub returns : goal.returns
returns c ascii =
    let none = rw c.in_default.is at (split_parts c.args.quote c.loop-before.rest.now c.split_once.result c.split_once.ensures.cases ascii) in
    no_quote c.args.quote _ _ c.loop-before.rest.now _ (c.loop-before.invariant.so_far ascii) none c.in_ok-push_str-2.ensures.bytes
