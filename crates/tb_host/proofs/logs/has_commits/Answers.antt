use Rattle.std.proofs.Common.{◌≡◌, ◌↔◌, None, Some, false, not, rules, subst, sym}
use Rattle.std.proofs.lemmas.Bool.{false≢true}
use Rattle.sqlite_disk.specs.Memory.{memory_bytes}
use Rattle.sqlite_wal.specs.Format.{be32}
use Rattle.sqlite_wal.specs.PageSize.{Names, bytes_of}
use Rattle.sqlite_wal.specs.Recovery.{IsIgnored}
use Rattle.tb_host.proofs.Handed.{weaker}
use Rattle.tb_host.proofs.OwnLog.{named_size, not_false, not_in_file, own_by, own_if_unwritten}
use Rattle.tb_host.specs.Contents.{HasBegunAlone, IsUnwritten, MayBeOwnLog}
use Rattle.tb_host.proofs.logs.has_commits.Goals as goal

pub returns-in-Ok-None-clause-own : goal.returns-in-Ok-None-clause-own
returns-in-Ok-None-clause-own c =
    let holds = c.in_ok-log_of.ensures.holds in
    let none : c.in-Ok-None.field-0 ≡ None = search rules in
    own_if_unwritten c.args.bytes.now (not c.is_unwritten.result)
    (λ names. false≢true ((subst (λ found. Names found (be32 c.args.bytes.now 8)) none
    (subst (λ bytes. Names c.in-Ok-None.field-0 (be32 bytes 8)) holds (c.in-Ok-None.ensures.by_log (search rules) (subst (λ bytes. ¬ IsIgnored bytes) (sym holds) names.0)))).0.1 names.1))
    (not_false c.is_unwritten.result (IsUnwritten c.args.bytes.now) c.is_unwritten.ensures)

pub returns-in-Ok-Some-clause-own : goal.returns-in-Ok-Some-clause-own
returns-in-Ok-Some-clause-own c =
    let holds = c.in_ok-log_of.ensures.holds in
    let some : c.in-Ok-Some.field-0 ≡ Some c.in-Ok-Some.size = search rules in
    let signed : ¬ IsIgnored c.args.bytes.now = λ ignored. not_in_file c.in-Ok-Some.field-0 c.in-Ok-Some.size (memory_bytes c.new.result) some c.new.ensures.empty (c.in-Ok-Some.ensures.by_file (search rules) (subst IsIgnored (sym holds) ignored)) in
    let named = named_size c.in-Ok-Some.field-0 c.in-Ok-Some.size (be32 c.args.bytes.now 8) some
    (subst (λ bytes. Names c.in-Ok-Some.field-0 (be32 bytes 8)) holds (c.in-Ok-Some.ensures.by_log (search rules) (subst (λ bytes. ¬ IsIgnored bytes) (sym holds) signed))) in
    weaker (λ has. (has ≡ false) ↔ HasBegunAlone (bytes_of c.in-Ok-Some.size) c.args.bytes.now) (λ has. (has ≡ false) ↔ MayBeOwnLog c.args.bytes.now)
    c.has_other_pages.result c.has_other_pages.ensures.begun
    (λ has begun. own_by (bytes_of c.in-Ok-Some.size) c.args.bytes.now has (signed, named.0) named.1 begun)
