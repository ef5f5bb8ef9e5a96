use Rattle.std.proofs.Common.{◌≡◌, ℕ, ◌+◌, ◌<◌, None, refl, String, BTreeMap, Global, sym, ap, subst, arith, length, string_bytes}
use Rattle.std.proofs.lemmas.Result.{IfOk-at_ok}
use Rattle.std.specs.BTreeMap.{get_by_text}
use Rattle.std.specs.List.{AllByRecursion}
use Rattle.tb_report.specs.Kept.{AddsOne, AreLong, rows_of}
use Rattle.tb_report.specs.Tables.{IsTable}
use Rattle.tb_report.proofs.Counting.{counted_again, counted_first, below_total, not_counted}
use Rattle.tb_report.proofs.Joined.{adds_one, long_with, same_count}
use Rattle.tb_report.proofs.counts.count_long.Goals as goal

pub overflow_add-count : goal.overflow_add-count
overflow_add-count c =
    let below = below_total c.args.counts.now c.args.key.now c.in-Some.count.now c.in-Some.ensures.value in
    let room = c.requires.room in
    omega arith

pub returns-in-Some-clause-counted : goal.returns-in-Some-clause-counted
returns-in-Some-clause-counted c =
    adds_one _ _ c.args.key.now c.requires.are_long.table
    (counted_again c.args.counts.now (c.get_mut.follows.lender (c.in-Some.count.now + 1)) c.args.key.now c.in-Some.count.now c.requires.are_long.table c.in-Some.ensures.value (c.get_mut.follows.holds (c.in-Some.count.now + 1)))

pub returns-in-Some-clause-are_long : goal.returns-in-Some-clause-are_long
returns-in-Some-clause-are_long c =
    let wrote = c.get_mut.follows.holds (c.in-Some.count.now + 1) in
    let more = counted_again c.args.counts.now (c.get_mut.follows.lender (c.in-Some.count.now + 1)) c.args.key.now c.in-Some.count.now c.requires.are_long.table c.in-Some.ensures.value wrote in
    record { table = more.is_table; long = subst (AllByRecursion (λ (k : String Global). 15 < length (string_bytes k))) (sym wrote.1) c.requires.are_long.long }

pub returns-in_err-key-clause-known : goal.returns-in_err-key-clause-known
returns-in_err-key-clause-known c = λ known.
    let none = not_counted c.args.counts.now c.args.key.now (sym c.in_default.ensures.value) in
    let same = same_count c.args.key.now (rows_of c.args.counts.now.entries) c.requires.are_long.table.ascending in
    absurd (omega (arith, known, none, same))

pub returns-in_err-insert-clause-known : goal.returns-in_err-insert-clause-known
returns-in_err-insert-clause-known c = λ known.
    let none = not_counted c.args.counts.now c.args.key.now (sym c.in_default.ensures.value) in
    let same = same_count c.args.key.now (rows_of c.args.counts.now.entries) c.requires.are_long.table.ascending in
    absurd (omega (arith, known, none, same))

pub returns-clause-counted : goal.returns-clause-counted
returns-clause-counted c =
    let text = IfOk-at_ok (λ s. string_bytes s ≡ c.args.key.now) c.in_ok-key.was c.from_str.ensures.ok in
    let put = c.in_ok-insert.ensures in
    let back = c.get_mut.follows.holds-at-none in
    let m = c.get_mut.follows.lender-at-none in
    let bytes = string_bytes c.in_ok-key.key in
    let absent : get_by_text m bytes ≡ None = subst (λ bs. get_by_text m bs ≡ None) (sym text) (rw back (sym c.in_default.ensures.value)) in
    let table : IsTable (rows_of m.entries) = rw back c.requires.are_long.table in
    let counted = adds_one _ _ bytes table (counted_first m c.insert.new.self bytes table c.in_ok-key.key refl absent put.entries put.updates put.was_ordered put.ordered) in
    subst (λ (n : BTreeMap (String Global) ℕ). AddsOne (rows_of n.entries) (rows_of c.insert.new.self.entries) c.args.key.now) back
    (subst (AddsOne (rows_of m.entries) (rows_of c.insert.new.self.entries)) text counted)

pub returns-clause-are_long : goal.returns-clause-are_long
returns-clause-are_long c =
    let text = IfOk-at_ok (λ s. string_bytes s ≡ c.args.key.now) c.in_ok-key.was c.from_str.ensures.ok in
    let put = c.in_ok-insert.ensures in
    let back = c.get_mut.follows.holds-at-none in
    let m = c.get_mut.follows.lender-at-none in
    let bytes = string_bytes c.in_ok-key.key in
    let absent : get_by_text m bytes ≡ None = subst (λ bs. get_by_text m bs ≡ None) (sym text) (rw back (sym c.in_default.ensures.value)) in
    let old : AreLong m.entries = rw back c.requires.are_long in
    let counted = counted_first m c.insert.new.self bytes old.table c.in_ok-key.key refl absent put.entries put.updates put.was_ordered put.ordered in
    let long = c.requires.long in
    let size = ap length text in
    long_with m.entries c.insert.new.self.entries c.in_ok-key.key 1 put.entries old.long counted.is_table (omega (arith, long, size))
