use Rattle.std.proofs.Common.{◌+◌, map, drop}
use Rattle.tb_tables.specs.Values.{sentence_of, revision_of}
use Rattle.tb_verify.proofs.Filed.{Leads, Completes}
use Rattle.tb_verify.proofs.entries.entries_in.Given as goal

abbrev pub invariant-loop-i : goal.invariant-loop-i
invariant-loop-i l =
    Leads (map sentence_of l.sentences) l.pulled (map revision_of l.revisions) (l.i + 1) (map sentence_of (drop l.i l.sentences)) l.left (map revision_of l.rest)
    × Completes (map sentence_of l.sentences) l.pulled (map revision_of l.revisions) l.entries.items (l.i + 1) (map sentence_of (drop l.i l.sentences)) l.left (map revision_of l.rest)
