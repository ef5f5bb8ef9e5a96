use Rattle.std.proofs.Common.{◌≡◌, ◌↔◌, ◌++◌, ◌∙◌, ℕ, List, codes, false, inr, sym, true}
use Rattle.std.proofs.lemmas.Bool.{true≢false}
use Rattle.tb_host.specs.Contents.{HasOtherLog, MayBeOwnLog, own_log_limit}
use Rattle.tb_host.proofs.Handed.{weaker}
use Rattle.tb_host.proofs.looking.has_log_of_another.Goals as goal

pub returns-clause-some : goal.returns-clause-some
returns-clause-some g c =
    let there = g.S.System.IsThere c.args.system.now in
    let begins = g.S.System.IsBeginning c.args.system.now in
    weaker (λ has. (x : List ℕ) × begins (c.args.path.now ++ codes "-wal") own_log_limit x × ((has ≡ false) ↔ MayBeOwnLog x))
    (λ has. has ≡ true → HasOtherLog there begins c.args.path.now)
    c.has_commits_of_another.result c.has_commits_of_another.ensures.own
    (λ has h other. (c.in-Some.found, rw c.in-Some.is at c.in_ok-found.ensures.there, c.in_ok-may_be_own.ensures.file, inr (h.0, h.1, λ own. true≢false (sym other ∙ h.2.1 own))))
