use Rattle.std.proofs.Common.{◌≡◌, ap, false, subst, sym, length, refl, arith}
use Rattle.std.proofs.lemmas.Result.{err_from_is_err_and}
use Rattle.std.specs.Io.KnownBytes.{Appends}
use Rattle.std.proofs.KnownBytes.{Appends-trans}
use Rattle.tb_search.specs.declared.stopped.Stopped.TheVariants.{Output}
use Rattle.tb_search.specs.Released.{released}
use Rattle.tb_search.specs.Searched.{searched, lines, total_line}
use Rattle.tb_search.proofs.Found.{broken_off, no_lines, one_found}
use Rattle.tb_search.proofs.Seeking.{reads, asked_so, lines_found, lines_cut, total_cut, sought_fault, lists, breaks_off}
use Rattle.tb_search.proofs.Walking.{err_is, of_sink, same_fault}
use Rattle.tb_reads.proofs.ReadOnly.{read_on, read_none}
use Rattle.tb_search.proofs.Ends.{text_failed, text_read}
use Rattle.tb_search.proofs.search.search_released.Goals as goal

pub returns-clause-answered : goal.returns-clause-answered
returns-clause-answered g c clean s desk =
    let held = g.W.Sink.held in
    let n = c.args.context in
    let asked = c.in_ok-seeker.ensures.asked in
    let read = reads s (c.revisions_read_back.ensures s desk.reachable.reached) in
    let all = lines_found held (released s) read (record { seeker = c.in_ok-seeker.seeker; context = n; found = 0; line = c.new-line.result }) c.args.out.now c.visit_released.new.visitor c.visit_released.new.filled (c.in_ok-visit_released.ensures.taken clean s desk) in
    let count : c.visit_released.new.visitor.found ≡ length all.0 = omega (arith, all.2.2) in
    let ended : Appends (held c.visit_released.new.filled) (held c.put_total.new.out) (total_line (length all.0)) = subst (λ m. Appends (held c.visit_released.new.filled) (held c.put_total.new.out) (total_line m)) count c.in_ok-put_total.ensures.put in (
      all.0,
      asked_so _ _ _ _ (searched s) all.0 asked.1 asked.0 all.1,
      count,
      Appends-trans (held c.args.out.now) (held c.visit_released.new.filled) (held c.put_total.new.out) (lines n all.0) (total_line (length all.0)) all.2.3 ended,
    )

pub returns-in_err-seeker-clause-broken : goal.returns-in_err-seeker-clause-broken
returns-in_err-seeker-clause-broken g c clean =
    let held = g.W.Sink.held in
    let reported = err_from_is_err_and c.from_residual.result c.from_residual.ensures.1 in
    err_is _ _ _ reported.0 reported.1 reported.2 (λ s desk found are. broken_off _ (held c.args.out.now) _ c.args.context found (no_lines _ (held c.args.out.now) _ c.args.context found refl))

pub returns-in_err-visit_released-clause-broken : goal.returns-in_err-visit_released-clause-broken
returns-in_err-visit_released-clause-broken g c clean =
    let held = g.W.Sink.held in
    let n = c.args.context in
    let asked = c.in_ok-seeker.ensures.asked in
    let reported = err_from_is_err_and c.from_residual-in_err-visit_released.result c.from_residual-in_err-visit_released.ensures.1 in
    err_is _ _ _ reported.0 reported.1 reported.2 (λ s desk found are.
    let read = reads s (c.revisions_read_back.ensures s desk.reachable.reached) in
    let halted = (rw c.in_err-visit_released.was at (c.visit_released.ensures.halted clean)) s desk in
    let mine = asked_so _ _ _ _ (searched s) found (sym asked.1) (sym asked.0) are in
    broken_off _ (held c.args.out.now) _ n found (lines_cut held (released s) read (record { seeker = c.in_ok-seeker.seeker; context = n; found = 0; line = c.new-line.result }) c.args.out.now _ c.visit_released.new.filled halted found mine))

pub returns-in_err-put_total-clause-broken : goal.returns-in_err-put_total-clause-broken
returns-in_err-put_total-clause-broken g c clean =
    let held = g.W.Sink.held in
    let n = c.args.context in
    let asked = c.in_ok-seeker.ensures.asked in
    let reported = err_from_is_err_and c.from_residual-in_err-put_total.result c.from_residual-in_err-put_total.ensures.1 in
    let refused = rw c.in_err-put_total.was at c.put_total.ensures.part in
    err_is _ _ _ reported.0 reported.1 reported.2 (λ s desk found are.
    let read = reads s (c.revisions_read_back.ensures s desk.reachable.reached) in
    let all = lines_found held (released s) read (record { seeker = c.in_ok-seeker.seeker; context = n; found = 0; line = c.new-line.result }) c.args.out.now c.visit_released.new.visitor c.visit_released.new.filled (c.in_ok-visit_released.ensures.taken clean s desk) in
    let mine = asked_so _ _ _ _ (searched s) found (sym asked.1) (sym asked.0) are in
    let same : all.0 ≡ found = one_found c.in_ok-seeker.seeker.strategy c.in_ok-seeker.seeker.searcher.asked (searched s) all.0 found all.1 mine in
    total_cut _ (held c.args.out.now) (held c.visit_released.new.filled) (held c.put_total.new.out) n found c.visit_released.new.visitor.found (let count : c.visit_released.new.visitor.found ≡ length found = omega (arith, all.2.2, ap length same) in count)
    (subst (λ l. Appends (held c.args.out.now) (held c.visit_released.new.filled) (lines n l)) same all.2.3) refused.0 refused.1)

pub returns-in_err-seeker-clause-read : goal.returns-in_err-seeker-clause-read
returns-in_err-seeker-clause-read g c =
    text_failed c.from_residual.result _ c.from_residual.ensures.1 (λ clean s desk. c.in_err-seeker.ensures.fault) (λ clean unlimited s desk. c.in_err-seeker.ensures.fails) (λ good clean unlimited s desk. c.in_err-seeker.ensures.cause) read_none

pub returns-in_err-visit_released-clause-read : goal.returns-in_err-visit_released-clause-read
returns-in_err-visit_released-clause-read g c =
    let walk = c.in_err-visit_released.ensures in
    text_failed c.from_residual-in_err-visit_released.result c.in_err-visit_released.field-0.0 c.from_residual-in_err-visit_released.ensures.1 (λ clean s desk.
    let read = reads s (c.revisions_read_back.ensures s desk.reachable.reached) in
    sought_fault (lists g.W.Sink.held) (breaks_off g.W.Sink.held) (λ v o t e q stopped. stopped.1) (released s) read (record { seeker = c.in_ok-seeker.seeker; context = c.args.context; found = 0; line = c.new-line.result }) c.args.out.now _ c.visit_released.new.filled (c.in_err-visit_released.ensures.halted clean s desk)) walk.fails walk.cause walk.read_only

pub returns-in_err-put_total-clause-read : goal.returns-in_err-put_total-clause-read
returns-in_err-put_total-clause-read g c =
    text_failed c.from_residual-in_err-put_total.result _ c.from_residual-in_err-put_total.ensures.1 (λ clean s desk. same_fault _ Output (sym c.in_err-put_total.ensures.part.0) of_sink) (λ clean unlimited s desk. c.in_err-put_total.ensures.fails) (λ good clean unlimited s desk. c.in_err-put_total.ensures.cause) (read_on false c.in_ok-visit_released.ensures.read_only)

pub returns-clause-read : goal.returns-clause-read
returns-clause-read g c = text_read c.in_ok-visit_released.ensures.read_only
