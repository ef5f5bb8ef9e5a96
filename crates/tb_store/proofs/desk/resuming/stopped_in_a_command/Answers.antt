use Rattle.std.proofs.Common.{subst, sym}
use Rattle.std.proofs.Math.Logic.{∥∥₁_map}
use Rattle.tb_refine.specs.Counted.{IsWithin}
use Rattle.tb_store.specs.Reopened.{IsBeforeOrAfter}
use Rattle.tb_store.proofs.Resumed.{one_desk, resumed}
use Rattle.tb_store.proofs.desk.resuming.stopped_in_a_command.Goals as goal

pub returns-clause-adopted : goal.returns-clause-adopted
returns-clause-adopted g c old command s left crash stands same clean may opened =
    let up = c.given_up_in_file.ensures in
    let within = subst IsWithin same up.within in
    resumed old c.args.desk command s c.args._next.now
    (λ t a steps. c.commands_stay_within_limits.ensures old.limits s t command a within.sentences within.moves stands.desk.reachable steps)
    stands (up.whole old s stands) crash opened.opened c.given_up_in_file.result up.quiet.outcomes up.quiet.clean clean (up.numbered clean) (up.sound clean) left may opened.found

pub returns-clause-one : goal.returns-clause-one
returns-clause-one g c old command s r left crash stands same clean may opened again =
    ∥∥₁_map (returns-clause-adopted g c old command s left crash stands same clean may opened) (λ it.
    subst (IsBeforeOrAfter old.limits s command) (sym (one_desk c.args._next.now r it.0 c.one_state_for_the_file.ensures again it.1)) it.2)
