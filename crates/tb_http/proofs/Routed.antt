-- Each of the desk's routes is new to those before it.
use Rattle.std.proofs.Common.{◌≡◌, [], true, codes, refl}
use Rattle.matchit.proofs.OnLiterals.{matchit_on_literals}
use Rattle.matchit.specs.Rows.{RowsOf}
use Rattle.matchit.specs.Router.{RouteOf}
use Rattle.tb_http.specs.declared.routes.Route.{Route}
use Rattle.tb_http.specs.declared.routes.Route.TheVariants.{Batch, Step, Correction, Sentence, Revision, Pull, Restore, Released, Totals, Moves, Search}
use Rattle.tb_http.specs.Routes.{takes_text, with_text}

abbrev pub rows_0 : RowsOf (RouteOf Route)
rows_0 = []

abbrev pub rows_1 : RowsOf (RouteOf Route)
rows_1 = with_text (codes "/batches/{name}") Batch rows_0

abbrev pub rows_2 : RowsOf (RouteOf Route)
rows_2 = with_text (codes "/batches/{name}/{event}") Step rows_1

abbrev pub rows_3 : RowsOf (RouteOf Route)
rows_3 = with_text (codes "/sentences/{no}/after/{base}") Correction rows_2

abbrev pub rows_4 : RowsOf (RouteOf Route)
rows_4 = with_text (codes "/sentences/{no}") Sentence rows_3

abbrev pub rows_5 : RowsOf (RouteOf Route)
rows_5 = with_text (codes "/sentences/{no}/{rev}") Revision rows_4

abbrev pub rows_6 : RowsOf (RouteOf Route)
rows_6 = with_text (codes "/pull/{no}") Pull rows_5

abbrev pub rows_7 : RowsOf (RouteOf Route)
rows_7 = with_text (codes "/restore/{no}") Restore rows_6

abbrev pub rows_8 : RowsOf (RouteOf Route)
rows_8 = with_text (codes "/released") Released rows_7

abbrev pub rows_9 : RowsOf (RouteOf Route)
rows_9 = with_text (codes "/totals") Totals rows_8

abbrev pub rows_10 : RowsOf (RouteOf Route)
rows_10 = with_text (codes "/moves") Moves rows_9

abbrev pub rows_11 : RowsOf (RouteOf Route)
rows_11 = with_text (codes "/search/{strategy}/{context}") Search rows_10

pub takes_1 : takes_text (codes "/batches/{name}") rows_0 ≡ true
unfolding matchit_on_literals with_text takes_text
takes_1 = refl

pub takes_2 : takes_text (codes "/batches/{name}/{event}") rows_1 ≡ true
unfolding matchit_on_literals with_text takes_text
takes_2 = refl

pub takes_3 : takes_text (codes "/sentences/{no}/after/{base}") rows_2 ≡ true
unfolding matchit_on_literals with_text takes_text
takes_3 = refl

pub takes_4 : takes_text (codes "/sentences/{no}") rows_3 ≡ true
unfolding matchit_on_literals with_text takes_text
takes_4 = refl

pub takes_5 : takes_text (codes "/sentences/{no}/{rev}") rows_4 ≡ true
unfolding matchit_on_literals with_text takes_text
takes_5 = refl

pub takes_6 : takes_text (codes "/pull/{no}") rows_5 ≡ true
unfolding matchit_on_literals with_text takes_text
takes_6 = refl

pub takes_7 : takes_text (codes "/restore/{no}") rows_6 ≡ true
unfolding matchit_on_literals with_text takes_text
takes_7 = refl

pub takes_8 : takes_text (codes "/released") rows_7 ≡ true
unfolding matchit_on_literals with_text takes_text
takes_8 = refl

pub takes_9 : takes_text (codes "/totals") rows_8 ≡ true
unfolding matchit_on_literals with_text takes_text
takes_9 = refl

pub takes_10 : takes_text (codes "/moves") rows_9 ≡ true
unfolding matchit_on_literals with_text takes_text
takes_10 = refl

pub takes_11 : takes_text (codes "/search/{strategy}/{context}") rows_10 ≡ true
unfolding matchit_on_literals with_text takes_text
takes_11 = refl

pub takes_12 : takes_text (codes "/count/{strategy}/{attribute}") rows_11 ≡ true
unfolding matchit_on_literals with_text takes_text
takes_12 = refl
