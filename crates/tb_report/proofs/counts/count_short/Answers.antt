use Rattle.std.proofs.Common.{◌≡◌, ℕ, ◌+◌, ◌<◌, None, String, BTreeMap, Global, sym, ap, ◌∙◌, subst, arith, length, string_bytes}
use Rattle.std.proofs.lemmas.Result.{IfOk-at_ok}
use Rattle.std.specs.BTreeMap.{is_at}
use Rattle.std.specs.List.{AllByRecursion}
use Rattle.std.specs.Map.{lookup}
use Rattle.std.specs.Ordering.{nat_cmp}
use Rattle.tb_report.specs.Kept.{AddsOne, AreShort, number_of, short_rows}
use Rattle.tb_report.proofs.Numbers.{are_bytes, same_key}
use Rattle.tb_report.proofs.Shorts.{below_total_short, counted_again_short, counted_first_short, found, not_counted_short, short_with, still_short}
use Rattle.tb_report.proofs.counts.count_short.Goals as goal

pub overflow_add-entry : goal.overflow_add-entry
overflow_add-entry c =
    let entry = c.in-Some.entry.now in
    let below = below_total_short c.args.counts.now.entries entry.0 c.number_of_key-number.result entry.1 (sym c.in-Some.ensures.value) in
    let room = c.requires.room in
    omega arith

pub returns-in-Some-clause-counted : goal.returns-in-Some-clause-counted
returns-in-Some-clause-counted c =
    let entry = c.in-Some.entry.now in
    let n = c.number_of_key-number.result in
    let at = sym c.in-Some.ensures.value in
    let this = found n c.args.counts.now.entries entry c.requires.are_short.numbered at in
    let text : string_bytes entry.0 ≡ c.args.key.now = sym (same_key c.args.key.now (string_bytes entry.0) (are_bytes c.args.key.now (λ k. (c.type_inv.key k).fits)) this.bytes (sym c.number_of_key-number.ensures ∙ this.number)) in
    let wrote = c.get_mut.follows.holds (entry.0, entry.1 + 1) in
    counted_again_short c.args.key.now c.args.counts.now.entries (c.get_mut.follows.lender (entry.0, entry.1 + 1)).entries entry.0 text n entry.1 at wrote.0

pub returns-in-Some-clause-are_short : goal.returns-in-Some-clause-are_short
returns-in-Some-clause-are_short c =
    let entry = c.in-Some.entry.now in
    let n = c.number_of_key-number.result in
    let at = sym c.in-Some.ensures.value in
    let wrote = c.get_mut.follows.holds (entry.0, entry.1 + 1) in
    still_short c.args.counts.now.entries entry.0 n entry.1 at (c.get_mut.follows.lender (entry.0, entry.1 + 1)).entries wrote.0 wrote.1 c.requires.are_short

pub returns-in_err-text-clause-known : goal.returns-in_err-text-clause-known
returns-in_err-text-clause-known c = λ known.
    let absent : lookup (is_at (nat_cmp (number_of c.args.key.now))) c.args.counts.now.entries ≡ None = subst (λ n. lookup (is_at (nat_cmp n)) c.args.counts.now.entries ≡ None) c.number_of_key-number.ensures (sym c.in_default.ensures.value) in
    let none = not_counted_short c.args.key.now c.args.counts.now.entries c.requires.are_short absent in
    absurd (omega (arith, known, none))

pub returns-in_err-insert-clause-known : goal.returns-in_err-insert-clause-known
returns-in_err-insert-clause-known c = λ known.
    let absent : lookup (is_at (nat_cmp (number_of c.args.key.now))) c.args.counts.now.entries ≡ None = subst (λ n. lookup (is_at (nat_cmp n)) c.args.counts.now.entries ≡ None) c.number_of_key-number.ensures (sym c.in_default.ensures.value) in
    let none = not_counted_short c.args.key.now c.args.counts.now.entries c.requires.are_short absent in
    absurd (omega (arith, known, none))

pub returns-clause-counted : goal.returns-clause-counted
returns-clause-counted c =
    let n = c.number_of_key-number.result in
    let text = IfOk-at_ok (λ s. string_bytes s ≡ c.args.key.now) c.in_ok-text.was c.from_str.ensures.ok in
    let put = c.in_ok-insert.ensures in
    let back = c.get_mut.follows.holds-at-none in
    let m = c.get_mut.follows.lender-at-none in
    let absent : lookup (is_at (nat_cmp n)) m.entries ≡ None = rw back (sym c.in_default.ensures.value) in
    let old : AreShort m.entries = rw back c.requires.are_short in
    let counted = counted_first_short c.args.key.now m.entries c.insert.new.self.entries c.in_ok-text.text text n absent put.entries old in
    subst (λ (x : BTreeMap ℕ (String Global × ℕ)). AddsOne (short_rows x.entries) (short_rows c.insert.new.self.entries) c.args.key.now) back counted

pub returns-clause-are_short : goal.returns-clause-are_short
returns-clause-are_short c =
    let n = c.number_of_key-number.result in
    let text = IfOk-at_ok (λ s. string_bytes s ≡ c.args.key.now) c.in_ok-text.was c.from_str.ensures.ok in
    let put = c.in_ok-insert.ensures in
    let back = c.get_mut.follows.holds-at-none in
    let m = c.get_mut.follows.lender-at-none in
    let absent : lookup (is_at (nat_cmp n)) m.entries ≡ None = rw back (sym c.in_default.ensures.value) in
    let old : AreShort m.entries = rw back c.requires.are_short in
    let short = c.requires.short in
    let size = ap length text in
    short_with c.args.key.now m.entries c.insert.new.self.entries c.in_ok-text.text text n absent put.entries old (record {
      number = c.number_of_key-number.ensures ∙ ap number_of (sym text);
      short = omega (arith, short, size);
      bytes = subst (AllByRecursion (λ byte. byte < 256)) (sym text) (are_bytes c.args.key.now (λ k. (c.type_inv.key k).fits));
      counted = omega arith;
    })
