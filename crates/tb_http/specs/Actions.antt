-- What a target names: the actions that GET and POST ask for.
use Rattle.std.specs.Prelude.{ℕ, List, codes, Option, Some, None, option_map, option_and_then, bytes_eq}
use Rattle.std.specs.Prelude.{if◌then◌else◌}
use Rattle.tb_core.specs.declared.kinds.Event.{Event}
use Rattle.tb_match.specs.declared.strategy.Strategy.{Strategy}
use Rattle.tb_syntax.specs.declared.lexeme.Attr.{Attr}
use Rattle.tb_http.specs.declared.routes.Route.{Route}
use Rattle.tb_http.specs.declared.routes.Route.TheVariants as route
use Rattle.tb_http.specs.declared.actions.Action.{Action}
use Rattle.tb_http.specs.declared.actions.Action.TheVariants as action
use Rattle.tb_http.specs.declared.actions.Resource.{Resource}
use Rattle.tb_http.specs.declared.actions.Resource.TheVariants as resource
use Rattle.tb_http.specs.declared.actions.Allow.{Allow}
use Rattle.tb_http.specs.declared.actions.Allow.TheVariants.{Get, Post, GetAndPost}
use Rattle.tb_http.specs.Forms.{segment_of, name_of, number_of, base_of, context_of, event_of, strategy_of}
use Rattle.tb_http.specs.Forms.{attribute_of}
use Rattle.tb_http.specs.Routes.{route_of}

-- an action, as plain data
pub data Act : Type 0 where
  import_batch : List ℕ → Act
  step_batch : List ℕ → Event → Act
  export_batch : List ℕ → Act
  correct : ℕ → ℕ → Act
  sentence : ℕ → Act
  revision : ℕ → ℕ → Act
  pull : ℕ → Act
  restore : ℕ → Act
  export_released : Act
  totals : Act
  moves : Act
  search : Strategy → ℕ → Act
  count : Strategy → Attr → Act

-- the action that GET asks for, POST, or each of them
pub data Place : Type 0 where
  gets : Act → Place
  posts : Act → Place
  both : Act → Act → Place

-- where both parts have their form
abbrev pub with_both : {A B C : Type 0} → (A → B → C) → Option A → Option B → Option C
with_both f (Some a) (Some b) = Some (f a b)
with_both f (Some a) None = None
with_both f None b = None

-- what a target of this route names, where its segments have their forms
abbrev pub place_at : Route → List ℕ → Option Place
place_at route.Batch target = option_map (λ name. both (export_batch name) (import_batch name)) (name_of
    (segment_of 2 target))
place_at route.Step target = with_both (λ name event. posts (step_batch name event)) (name_of
    (segment_of 2 target)) (event_of (segment_of 3 target))
place_at route.Correction target = with_both (λ n base. posts (correct n base)) (number_of
    (segment_of 2 target)) (base_of (segment_of 4 target))
place_at route.Sentence target = option_map (λ n. gets (sentence n)) (number_of (segment_of 2 target))
place_at route.Revision target = with_both (λ n rev.
    gets (revision n rev)) (number_of (segment_of 2 target)) (number_of (segment_of 3 target))
place_at route.Pull target = option_map (λ n. posts (pull n)) (number_of (segment_of 2 target))
place_at route.Restore target = option_map (λ n. posts (restore n)) (number_of (segment_of 2 target))
place_at route.Released target = Some (gets export_released)
place_at route.Totals target = Some (gets totals)
place_at route.Moves target = Some (gets moves)
place_at route.Search target = with_both (λ strategy context. posts (search strategy context)) (strategy_of
    (segment_of 2 target)) (context_of (segment_of 3 target))
place_at route.Count target = with_both (λ strategy attribute. posts (count strategy attribute)) (strategy_of
    (segment_of 2 target)) (attribute_of (segment_of 3 target))

-- what a target names
abbrev pub place_of : List ℕ → Option Place
place_of target = option_and_then (λ r. place_at r target) (route_of target)

abbrev pub get_of : Place → Option Act
get_of (gets a) = Some a
get_of (posts a) = None
get_of (both a b) = Some a

abbrev pub post_of : Place → Option Act
post_of (gets a) = None
post_of (posts a) = Some a
post_of (both a b) = Some b

-- the action that a method asks for
abbrev pub act_of : Place → List ℕ → Option Act
act_of place method = if bytes_eq method (codes "GET") then get_of place else if bytes_eq method (codes "POST") then post_of place else None

-- the methods of a target
abbrev pub allow_of : Place → Allow
allow_of (gets a) = Get
allow_of (posts a) = Post
allow_of (both a b) = GetAndPost

-- the plain data of the code's action
abbrev pub act_by : Action → Act
act_by (action.Import name) = import_batch name.now
act_by (action.Step name event) = step_batch name.now event
act_by (action.Export name) = export_batch name.now
act_by (action.Correct n base) = correct n base
act_by (action.Sentence n) = sentence n
act_by (action.Revision n rev) = revision n rev
act_by (action.Pull n) = pull n
act_by (action.Restore n) = restore n
act_by action.Released = export_released
act_by action.Totals = totals
act_by action.Moves = moves
act_by (action.Search strategy context) = search strategy context
act_by (action.Count strategy attribute) = count strategy attribute

-- the plain data of the code's resource
abbrev pub place_by : Resource → Place
place_by (resource.Get get) = gets (act_by get)
place_by (resource.Post post) = posts (act_by post)
place_by (resource.GetAndPost get post) = both (act_by get) (act_by post)
