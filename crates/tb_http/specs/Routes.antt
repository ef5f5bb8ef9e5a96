-- The desk's routes, as the library matchit stores and finds them.
use Rattle.std.specs.Prelude.{ℕ, List, [], codes, Bool, false, Option, is_none, Result, Ok, Err, option_map}
use Rattle.matchit.specs.Rows.{RowsOf}
use Rattle.matchit.specs.Router.{RouteOf, route_from, nearest}
use Rattle.matchit.specs.Route.{parse_route, Scan}
use Rattle.matchit.specs.Order.{placed}
use Rattle.matchit.specs.Seek.{first}
use Rattle.tb_http.specs.declared.routes.Route.{Route}
use Rattle.tb_http.specs.declared.routes.Route.TheVariants.{Batch, Step, Correction, Sentence, Revision, Pull, Restore}
use Rattle.tb_http.specs.declared.routes.Route.TheVariants.{Released, Totals, Moves, Search, Count}

-- the rows with one more route, if it can be parsed
abbrev pub with_route : {E : Type 0} → Result Scan E → Route → RowsOf (RouteOf Route) → RowsOf (RouteOf Route)
with_route (Ok s) value rows = placed (s.pattern, route_from s value) rows
with_route (Err e) value rows = rows

-- the rows with the route of this text
unfoldable pub with_text : List ℕ → Route → RowsOf (RouteOf Route) → RowsOf (RouteOf Route)
with_text text value rows = with_route (parse_route text) value rows

-- whether the rows take one more route: it can be parsed, and no row conflicts with it
abbrev pub takes_route : {E : Type 0} → Result Scan E → RowsOf (RouteOf Route) → Bool
takes_route (Ok s) rows = is_none (nearest s.pattern rows)
takes_route (Err e) rows = false

-- whether the rows take the route of this text
unfoldable pub takes_text : List ℕ → RowsOf (RouteOf Route) → Bool
takes_text text rows = takes_route (parse_route text) rows

-- the desk's routes
unfoldable pub route_rows : RowsOf (RouteOf Route)
route_rows =
    with_text (codes "/count/{strategy}/{attribute}") Count
    (with_text (codes "/search/{strategy}/{context}") Search
    (with_text (codes "/moves") Moves
    (with_text (codes "/totals") Totals
    (with_text (codes "/released") Released
    (with_text (codes "/restore/{no}") Restore
    (with_text (codes "/pull/{no}") Pull
    (with_text (codes "/sentences/{no}/{rev}") Revision
    (with_text (codes "/sentences/{no}") Sentence
    (with_text (codes "/sentences/{no}/after/{base}") Correction
    (with_text (codes "/batches/{name}/{event}") Step
    (with_text (codes "/batches/{name}") Batch [])))))))))))

-- the route of a target
abbrev pub route_of : List ℕ → Option Route
route_of target = option_map (λ route. route.value) (first route_rows target)
