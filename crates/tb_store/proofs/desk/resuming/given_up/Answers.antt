use Rattle.std.proofs.Common.{◌≡◌, IsTrue, subst}
use Rattle.sqlite.specs.Held.{state}
use Rattle.sqlite.specs.State.{IsLive}
use Rattle.sqlite_trees.specs.Tree.{Trees}
use Rattle.sqlite_trees.specs.View.{IsQuiet}
use Rattle.tb_store.proofs.desk.resuming.given_up.Goals as goal

pub returns : goal.returns
returns g c =
    let s = g.S.Store in
    let is = c.into_connection-conn.ensures in
    let left = c.into_store.ensures in
    record {
      within = c.limits_are_within.ensures;
      live = subst (λ h. IsLive (state s h)) is c.schema-schema.ensures.live;
      last = subst (λ h. (db : Trees) → IsTrue (state s h).is_open → (state s h).may_leave db → db ≡ (state s h).committed.trees) is c.leaves_the_last_commit.ensures;
      whole = c.desks_are_left_whole.ensures;
      quiet = subst (λ h. IsQuiet s.view s.faults s.recovers s.is_shielded h.store c.into_store.result) is left.quiet;
      sound = left.sound;
      numbered = left.numbered;
      was_numbered = λ clean. subst (λ h. IsTrue (s.view h.store).is_numbered) is (subst IsTrue left.undone.numbered (left.numbered clean));
    }
