use Rattle.std.proofs.Common.{◌≡◌, ◌<◌, ◌++◌, ℕ, List, [], ◌-◌, length, take, drop, IfSome, ◌∙◌, ap, subst, refl}
use Rattle.tb_http.specs.Actions.{act_by}
use Rattle.tb_http.specs.Asks.{Asks, AsksBody, Outcome, call_text, refused, reported_by}
use Rattle.tb_http.specs.Faults.{AwaitsBody, HasCall, IsBodyFaultOf, IsFaultOf, TakenAfter}
use Rattle.tb_http.specs.Stage.{stops, goes}
use Rattle.tb_http.specs.declared.asks.RequestFault.TheVariants.{Body}
use Rattle.tb_http.proofs.Asking.{asked_none, asked_other}
use Rattle.tb_http.proofs.Called.{broken_read, by_fault, by_read, not_read}
use Rattle.tb_http.proofs.Chains.{set, front, always, when_known, stop_user, goes_user, stop_length, goes_length, stop_path, goes_path, stop_method, goes_method, stop_long, goes_long, above, not_above, body_same, body_short, rest_is, long_enough, has_call}
use Rattle.tb_http.proofs.Taken.{body_taken, of_body, untouched}
use Rattle.tb_http.proofs.asks.ask_after.Goals as goal

pub returns-in_default-clause-asks : goal.returns-in_default-clause-asks
returns-in_default-clause-asks g c =
    let s = set c.args.buf.now c.args.headers.now c.args.spans c.requires.room c.requires.few c.requires.inside c.requires.head in
    always _ _ (stop_user _ _ _ _ s c.args.limit c.in_default.ensures)

pub returns-in_default-body_length-clause-asks : goal.returns-in_default-body_length-clause-asks
returns-in_default-body_length-clause-asks g c =
    let s = set c.args.buf.now c.args.headers.now c.args.spans c.requires.room c.requires.few c.requires.inside c.requires.head in
    let limit = c.args.limit in
    let u = c.in-Ok.user.now in
    always _ _ (λ later. goes_user _ _ _ _ s limit u c.in-Ok.ensures later _ (stop_length _ _ _ _ s limit u _ c.in_default-body_length.ensures))

pub returns-in_default-resource_of-clause-asks : goal.returns-in_default-resource_of-clause-asks
returns-in_default-resource_of-clause-asks g c =
    let s = set c.args.buf.now c.args.headers.now c.args.spans c.requires.room c.requires.few c.requires.inside c.requires.head in
    let limit = c.args.limit in
    let u = c.in-Ok.user.now in
    always _ _ (λ later. goes_user _ _ _ _ s limit u c.in-Ok.ensures later _
    (goes_length _ _ _ _ s limit u _ _ c.in-Ok-body_length.ensures _ (λ n w.
    stop_path _ _ _ _ s limit u _ n _ _ (c.in-Ok-from_utf8.ensures.cases.0 ∙ c.of.ensures) c.resource_of.ensures c.in_default-resource_of.is)))

pub returns-in_default-action-clause-asks : goal.returns-in_default-action-clause-asks
returns-in_default-action-clause-asks g c =
    let s = set c.args.buf.now c.args.headers.now c.args.spans c.requires.room c.requires.few c.requires.inside c.requires.head in
    let limit = c.args.limit in
    let u = c.in-Ok.user.now in
    always _ _ (λ later. goes_user _ _ _ _ s limit u c.in-Ok.ensures later _
    (goes_length _ _ _ _ s limit u _ _ c.in-Ok-body_length.ensures _ (λ n w.
    goes_path _ _ _ _ s limit u _ n _ _ _ (c.in-Ok-from_utf8.ensures.cases.0 ∙ c.of.ensures) c.resource_of.ensures c.in-Some.is _
    (stop_method _ _ _ _ s limit u _ n _ _ _ _ c.of-method.ensures c.action.ensures c.in_default-action.is c.allow.ensures))))

pub returns-in_default-length-clause-asks : goal.returns-in_default-length-clause-asks
returns-in_default-length-clause-asks g c =
    let s = set c.args.buf.now c.args.headers.now c.args.spans c.requires.room c.requires.few c.requires.inside c.requires.head in
    let limit = c.args.limit in
    let u = c.in-Ok.user.now in
    always _ _ (λ later. goes_user _ _ _ _ s limit u c.in-Ok.ensures later _
    (goes_length _ _ _ _ s limit u _ _ c.in-Ok-body_length.ensures _ (λ n w.
    goes_path _ _ _ _ s limit u _ n _ _ _ (c.in-Ok-from_utf8.ensures.cases.0 ∙ c.of.ensures) c.resource_of.ensures c.in-Some.is _
    (goes_method _ _ _ _ s limit u _ n _ _ _ _ c.of-method.ensures c.action.ensures c.in-Some-action.is _
    (stop_long limit (front c.requires.head.0 u (drop c.args.spans.len c.args.buf.now ++ later)) n _ (above limit n _ w c.in_default-length.is))))))

pub returns-clause-asks : goal.returns-clause-asks
returns-clause-asks g c =
    let s = set c.args.buf.now c.args.headers.now c.args.spans c.requires.room c.requires.few c.requires.inside c.requires.head in
    let limit = c.args.limit in
    let u = c.in-Ok.user.now in
    let came = drop c.args.spans.len c.args.buf.now in
    let n = c.in-Some-length.n in
    let k = c.min.result in
    let start = take (length c.args.buf.now - c.args.spans.len) came in
    let left = g.R.Source.left c.args.reader.now in
    let past : (later : List ℕ) (t : Outcome) → AsksBody (front c.requires.head.0 u (came ++ later)) n (act_by c.in-Some-action.action) t → Asks limit (c.args.buf.now ++ later) t =
    λ later t x. goes_user _ _ _ _ s limit u c.in-Ok.ensures later t
    (goes_length _ _ _ _ s limit u _ _ c.in-Ok-body_length.ensures t (λ m w.
    goes_path _ _ _ _ s limit u _ m _ _ _ (c.in-Ok-from_utf8.ensures.cases.0 ∙ c.of.ensures) c.resource_of.ensures c.in-Some.is t
    (goes_method _ _ _ _ s limit u _ m _ _ _ _ c.of-method.ensures c.action.ensures c.in-Some-action.is t
    (goes_long limit (front c.requires.head.0 u (came ++ later)) m n _ t (not_above limit m n _ w c.in-Some-length.is) x)))) in
    by_read reported_by (refused Body) (λ v. call_text (act_by c.in-Some-action.action) u v.items) c.read_body.result c.asked_with.result c.asked_with.ensures
    (IfSome left (λ rest. length (take k start ++ rest) < n)) (λ v. IfSome left (λ rest. v.items ≡ take n (take k start ++ rest))) (λ v. length v.items ≡ n)
    (λ t. IfSome left (λ later. Asks limit (c.args.buf.now ++ later) t))
    c.read_body.ensures.whole c.read_body.ensures.length c.read_body.ensures.short
    (λ v whole long. when_known _ (λ rest. v.items ≡ take n (take k start ++ rest)) _ (λ later b.
    let all : v.items ≡ take n (came ++ later) = b ∙ (body_same start later k n c.min.ensures ∙ ap (λ l. take n (l ++ later)) (rest_is c.args.buf.now c.args.spans.len)) in
    past later _ (goes _ v.items (long_enough n v.items (came ++ later) long all, all) refl)) whole)
    (λ short. when_known _ (λ rest. length (take k start ++ rest) < n) _ (λ later b.
    let all : length (came ++ later) < n = subst (λ l. length (l ++ later) < n) (rest_is c.args.buf.now c.args.spans.len) (body_short start later k n c.min.ensures b) in
    past later _ (stops _ (all, refl))) short)

pub returns-clause-fault : goal.returns-clause-fault
returns-clause-fault g c =
    let s = set c.args.buf.now c.args.headers.now c.args.spans c.requires.room c.requires.few c.requires.inside c.requires.head in
    let limit = c.args.limit in
    let u = c.in-Ok.user.now in
    let came = drop c.args.spans.len c.args.buf.now in
    let n = c.in-Some-length.n in
    let k = c.min.result in
    let start = take (length c.args.buf.now - c.args.spans.len) came in
    let call : (more : List ℕ) → HasCall limit (c.args.buf.now ++ more) (front c.requires.head.0 u (came ++ more)) n = λ more. has_call _ _ _ _ s limit u more c.in-Ok.ensures _ n c.in-Ok-body_length.ensures c.in-Some-length.is
    _ _ c.in-Some.resource (c.in-Ok-from_utf8.ensures.cases.0 ∙ c.of.ensures) c.resource_of.ensures c.in-Some.is
    _ _ c.in-Some-action.action c.of-method.ensures c.action.ensures c.in-Some-action.is in
    by_fault reported_by (refused Body) (λ v. call_text (act_by c.in-Some-action.action) u v.items) c.read_body.result c.asked_with.result c.asked_with.ensures
    (λ e. TakenAfter (take k start) (g.R.Source.left c.args.reader.now) (g.R.Source.left c.read_body.new.reader) (λ l. IsBodyFaultOf n l e))
    (λ e. TakenAfter c.args.buf.now (g.R.Source.left c.args.reader.now) (g.R.Source.left c.read_body.new.reader) (λ l. IsFaultOf limit l e))
    c.read_body.ensures.fault (of_body _ _ limit c.args.buf.now start came k n (rest_is c.args.buf.now c.args.spans.len) c.min.ensures (λ more. front c.requires.head.0 u (came ++ more)) (λ more. refl) call)

pub returns-in_default-clause-one : goal.returns-in_default-clause-one
returns-in_default-clause-one g c = untouched _ c.args.buf.now c.args.limit c.requires.room

pub returns-in_default-body_length-clause-one : goal.returns-in_default-body_length-clause-one
returns-in_default-body_length-clause-one g c = untouched _ c.args.buf.now c.args.limit c.requires.room

pub returns-in_default-resource_of-clause-one : goal.returns-in_default-resource_of-clause-one
returns-in_default-resource_of-clause-one g c = untouched _ c.args.buf.now c.args.limit c.requires.room

pub returns-in_default-action-clause-one : goal.returns-in_default-action-clause-one
returns-in_default-action-clause-one g c = untouched _ c.args.buf.now c.args.limit c.requires.room

pub returns-in_default-length-clause-one : goal.returns-in_default-length-clause-one
returns-in_default-length-clause-one g c = untouched _ c.args.buf.now c.args.limit c.requires.room

pub returns-in_default-from_utf8-clause-one : goal.returns-in_default-from_utf8-clause-one
returns-in_default-from_utf8-clause-one g c = untouched _ c.args.buf.now c.args.limit c.requires.room

pub returns-clause-one : goal.returns-clause-one
returns-clause-one g c =
    let s = set c.args.buf.now c.args.headers.now c.args.spans c.requires.room c.requires.few c.requires.inside c.requires.head in
    let limit = c.args.limit in
    let u = c.in-Ok.user.now in
    let came = drop c.args.spans.len c.args.buf.now in
    let n = c.in-Some-length.n in
    let k = c.min.result in
    let start = take (length c.args.buf.now - c.args.spans.len) came in
    let call : (more : List ℕ) → HasCall limit (c.args.buf.now ++ more) (front c.requires.head.0 u (came ++ more)) n = λ more. has_call _ _ _ _ s limit u more c.in-Ok.ensures _ n c.in-Ok-body_length.ensures c.in-Some-length.is
    _ _ c.in-Some.resource (c.in-Ok-from_utf8.ensures.cases.0 ∙ c.of.ensures) c.resource_of.ensures c.in-Some.is
    _ _ c.in-Some-action.action c.of-method.ensures c.action.ensures c.in-Some-action.is in
    let taken = c.read_body.ensures.taken in
    body_taken _ _ c.args.buf.now start came k n limit (rest_is c.args.buf.now c.args.spans.len) c.requires.room c.min.ensures taken (front c.requires.head.0 u (came ++ taken.0)) refl (call taken.0)

pub returns-in_default-clause-asked : goal.returns-in_default-clause-asked
returns-in_default-clause-asked g c other = ([], asked_none (AwaitsBody c.args.limit) c.args.buf.now _)

pub returns-in_default-body_length-clause-asked : goal.returns-in_default-body_length-clause-asked
returns-in_default-body_length-clause-asked g c other = ([], asked_none (AwaitsBody c.args.limit) c.args.buf.now _)

pub returns-in_default-resource_of-clause-asked : goal.returns-in_default-resource_of-clause-asked
returns-in_default-resource_of-clause-asked g c other = ([], asked_none (AwaitsBody c.args.limit) c.args.buf.now _)

pub returns-in_default-action-clause-asked : goal.returns-in_default-action-clause-asked
returns-in_default-action-clause-asked g c other = ([], asked_none (AwaitsBody c.args.limit) c.args.buf.now _)

pub returns-in_default-length-clause-asked : goal.returns-in_default-length-clause-asked
returns-in_default-length-clause-asked g c other = ([], asked_none (AwaitsBody c.args.limit) c.args.buf.now _)

pub returns-in_default-from_utf8-clause-asked : goal.returns-in_default-from_utf8-clause-asked
returns-in_default-from_utf8-clause-asked g c other = ([], asked_none (AwaitsBody c.args.limit) c.args.buf.now _)

pub returns-clause-asked : goal.returns-clause-asked
returns-clause-asked g c other =
    let s = set c.args.buf.now c.args.headers.now c.args.spans c.requires.room c.requires.few c.requires.inside c.requires.head in
    let limit = c.args.limit in
    let u = c.in-Ok.user.now in
    let came = drop c.args.spans.len c.args.buf.now in
    let n = c.in-Some-length.n in
    let k = c.min.result in
    let start = take (length c.args.buf.now - c.args.spans.len) came in
    let call : (more : List ℕ) → HasCall limit (c.args.buf.now ++ more) (front c.requires.head.0 u (came ++ more)) n = λ more. has_call _ _ _ _ s limit u more c.in-Ok.ensures _ n c.in-Ok-body_length.ensures c.in-Some-length.is
    _ _ c.in-Some.resource (c.in-Ok-from_utf8.ensures.cases.0 ∙ c.of.ensures) c.resource_of.ensures c.in-Some.is
    _ _ c.in-Some-action.action c.of-method.ensures c.action.ensures c.in-Some-action.is in
    let asked = c.read_body.ensures.asked (not_read reported_by (refused Body) (λ v. call_text (act_by c.in-Some-action.action) u v.items) c.read_body.result c.asked_with.result c.asked_with.ensures other) in (
      asked.0,
      asked_other (λ l. length l < n) (AwaitsBody limit) (take k start) c.args.buf.now _ _ asked.0 (λ more few. (
        front c.requires.head.0 u (came ++ more),
        n,
        call more,
        subst (λ l. length (l ++ more) < n) (rest_is c.args.buf.now c.args.spans.len) (body_short start more k n c.min.ensures few),
      )) asked.1,
    )

pub returns-clause-why : goal.returns-clause-why
returns-clause-why g c =
    by_fault reported_by (refused Body) (λ v. call_text (act_by c.in-Some-action.action) c.in-Ok.user.now v.items) c.read_body.result c.asked_with.result c.asked_with.ensures
    _ _ c.read_body.ensures.why (λ e h. broken_read e h)
