use Rattle.std.proofs.Common.{◌≡◌, ⊎_elim, Ok, Err, Result, true, is_none, ap, refl}
use Rattle.std.proofs.lemmas.Bool.{false≢true}
use Rattle.matchit.specs.Rows.{RowsOf}
use Rattle.matchit.specs.Route.{parse_route, Scan}
use Rattle.matchit.specs.Router.{RouteOf, InsertsRead}
use Rattle.matchit.specs.declared.error.InsertError.{InsertError}
use Rattle.matchit.specs.declared.error.InsertError.TheVariants.{Conflict, OutOfMemory, InvalidParamSegment, InvalidParam, InvalidCatchAll}
use Rattle.tb_http.specs.declared.routes.Route.{Route}
use Rattle.tb_http.specs.Routes.{with_route, with_text, takes_route, takes_text}
use Rattle.tb_http.proofs.Asking.{ok_is_no_fault}
use Rattle.tb_http.proofs.routes.with.Goals as goal

inserted : (s : Result Scan InsertError) (v : Route) (old new : RowsOf (RouteOf Route)) (u : Unit {0})
    → InsertsRead s v old new (Ok u) → new ≡ with_route s v old
inserted (Ok s) v old new u h = h.1
inserted (Err s) v old new u h = h.0

pub returns-in-Ok-clause-rows : goal.returns-in-Ok-clause-rows
unfolding with_text
returns-in-Ok-clause-rows c = inserted (parse_route c.args.route.now) c.args.value _ _ _ c.in-Ok.ensures

-- only a route that can be parsed and conflicts with no row goes in
only_taken : (s : Result Scan InsertError) (v : Route) (old new : RowsOf (RouteOf Route)) (u : Unit {0}) → InsertsRead s v old new (Ok u) → takes_route s old ≡ true
only_taken (Ok s) v old new u h = ap is_none h.0
only_taken (Err s) v old new u h = absurd (⊎_elim (λ is. ok_is_no_fault u s is) (λ is. ok_is_no_fault u OutOfMemory is) h.1)

pub returns-in-Ok-clause-taken : goal.returns-in-Ok-clause-taken
unfolding takes_text
returns-in-Ok-clause-taken c = only_taken (parse_route c.args.route.now) c.args.value _ _ _ c.in-Ok.ensures

for_memory : (s : Result Scan InsertError) (v : Route) (old new : RowsOf (RouteOf Route)) (e : InsertError) → takes_route s old ≡ true
    → InsertsRead s v old new (Err e) → e ≡ OutOfMemory
for_memory (Ok s) v old new OutOfMemory taken h = refl
for_memory (Ok s) v old new (Conflict with) taken h = let there = h.1.1 in absurd (cc)
for_memory (Ok s) v old new InvalidParamSegment taken h = absurd h.1
for_memory (Ok s) v old new InvalidParam taken h = absurd h.1
for_memory (Ok s) v old new InvalidCatchAll taken h = absurd h.1
for_memory (Err e) v old new other taken h = absurd (false≢true taken)

pub returns-in-Err-clause-memory : goal.returns-in-Err-clause-memory
unfolding takes_text
returns-in-Err-clause-memory c = λ taken. for_memory (parse_route c.args.route.now) c.args.value _ _ _ taken c.in-Err.ensures

-- the router's rows stay
for_cause : (s : Result Scan InsertError) (v : Route) (old new : RowsOf (RouteOf Route)) (e : InsertError) → InsertsRead s v old new (Err e) → InsertsRead s v old old (Err e)
for_cause (Ok s) v old new e h = (refl, h.1)
for_cause (Err x) v old new e h = (refl, h.1)

pub returns-in-Err-clause-fault : goal.returns-in-Err-clause-fault
returns-in-Err-clause-fault c = for_cause (parse_route c.args.route.now) c.args.value _ _ _ c.in-Err.ensures
