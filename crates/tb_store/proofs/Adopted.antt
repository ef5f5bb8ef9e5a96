-- The desk of a store that was read, and the connection without a step limit.
use Rattle.std.proofs.Common.{◌≡◌, false, subst}
use Rattle.sqlite.specs.Store.{Ghosts}
use Rattle.sqlite.specs.Held.{Held}
use Rattle.sqlite_trees.specs.Tree.{Trees}
use Rattle.tb_core.specs.declared.limits.Limits.{Limits}
use Rattle.tb_core.specs.Machine.{Machine}
use Rattle.tb_core.specs.Reaching.{IsReachable}
use Rattle.tb_tables.specs.Records.{AreStored}
use Rattle.tb_tables.specs.Leaving.{IsFaultless}
use Rattle.tb_refine.specs.DeskTables.{tables_of, IsDeskOf}
use Rattle.tb_verify.specs.declared.summary.DeskSummary.{DeskSummary}
use Rattle.tb_verify.specs.Summary.{IsSummaryOf}
use Rattle.tb_store.specs.Kept.{Kept}
use Rattle.tb_store.specs.Represents.{Represents, unlimited}

module _ {S : Type 0} (g : Ghosts S) where
  -- the limit says nothing of what is held

  pub desk_unlimited : (c d : Held S) → d ≡ unlimited c → (s : Machine) → IsDeskOf g c s → IsDeskOf g d s
  desk_unlimited c d is s desk = rw is (record {
    reachable = desk.reachable;
    holds = record { autocommit = desk.holds.autocommit; is_open = desk.holds.is_open; schema = desk.holds.schema; settled = desk.holds.settled; stands = desk.holds.stands };
  })

  lifted : (c : Held S) (s : Machine) → IsDeskOf g (unlimited c) s → IsDeskOf g c s
  lifted c s desk = record {
    reachable = desk.reachable;
    holds = record { autocommit = desk.holds.autocommit; is_open = desk.holds.is_open; schema = desk.holds.schema; settled = desk.holds.settled; stands = desk.holds.stands };
  }

  pub desk_before : (c d : Held S) → d ≡ unlimited c → (s : Machine) → IsDeskOf g d s → IsDeskOf g c s
  desk_before c d is s desk = lifted c s (rw is at desk)

  pub faultless_unlimited : (c d new : Held S) → d ≡ unlimited c → IsFaultless g c new → IsFaultless g d new
  faultless_unlimited c d new is good = rw is good

  pub stands_over : (k : Kept S) (conn : Held S) (l : Limits) (x : DeskSummary) → k ≡ record { conn = conn; limits = l; batches = x.batches; sentences = x.sentences; moves = x.moves; totals = x.totals; in_doubt = false } → (s : Machine) → IsDeskOf g conn s → IsSummaryOf x s → Represents g k s
  stands_over k conn l x is s desk h = rw is (record { desk = desk; batches = h.batches; sentences = h.sentences; moves = h.moves; totals = h.totals })

  -- the state for which it stands is the one of which the connection is the desk
  pub stands_again : (c : Held S) (k : Kept S) → ((s t : Machine) (trees : Trees) → IsReachable s → IsReachable t → AreStored (tables_of s) trees → AreStored (tables_of t) trees → s ≡ t) → (s t : Machine) → IsDeskOf g c s → IsDeskOf g c t → Represents g k s
      → Represents g k t
  stands_again c k one s t a b stands = subst (Represents g k) (one s t _ a.reachable b.reachable a.holds.stands b.holds.stands) stands
