-- A path whose first bytes begin no route of the desk has none.
use Rattle.std.proofs.Common.{◌≡◌, ◌∙◌, ◌++◌, ◌-◌, ℕ, zero, suc, List, [], ◌∷◌, length, Bool, true, false, Option, Some, None, codes, refl, ap, cond}
use Rattle.std.specs.Option.{option_map}
use Rattle.matchit.proofs.OnLiterals.{matchit_on_literals}
use Rattle.matchit.specs.Rows.{RowsOf, param_token, catch_all_token}
use Rattle.matchit.specs.Router.{RouteOf}
use Rattle.matchit.specs.Seek.{first, has_slash, or_else, param_step, seek, step}
use Rattle.tb_http.specs.declared.routes.Route.{Route}
use Rattle.tb_http.specs.Routes.{route_of, route_rows, with_text}

module _ {K : Type 0} where
  none_left : (slashed : Bool) (n : ℕ) → (cond {A = ℕ × RowsOf K} slashed (0, []) (n, [])).1 ≡ []
  none_left true n = refl
  none_left false n = refl

  no_value : (path : List ℕ) → (param_step {K = K} [] path).1 ≡ []
  unfolding param_step
  no_value path = none_left (has_slash path) (length path)

  else_none : (answer : Option K) → or_else answer None ≡ answer
  else_none None = refl
  else_none (Some k) = refl

  -- without rows no route is found
  no_row : (skip : ℕ) (path : List ℕ) → seek {K = K} skip [] path ≡ None
  unfolding seek
  no_row skip [] = refl
  no_row (suc skip) (b ∷ path) = no_row skip path
  no_row zero (b ∷ path) = simp (no_row 0 path, no_value (b ∷ path), no_row ((param_step {K = K} [] (b ∷ path)).0 - 1) path)

  -- where no row goes on with a value, the next byte decides
  by_byte : (rows : RowsOf K) (b : ℕ) (path : List ℕ) → step param_token rows ≡ [] → step catch_all_token rows ≡ [] → first rows (b ∷ path) ≡ first (step b rows) path
  unfolding seek
  by_byte rows b path value rest = simp (value, rest, no_value (b ∷ path), no_row ((param_step {K = K} [] (b ∷ path)).0 - 1) path, else_none)

after_slash : RowsOf (RouteOf Route)
after_slash = step 47 route_rows

-- the rows of /pull/{no}
after_p : RowsOf (RouteOf Route)
after_p = step 112 after_slash

by_slash : (rest : List ℕ) → first route_rows (codes "/pa" ++ rest) ≡ first after_slash (codes "pa" ++ rest)
unfolding matchit_on_literals with_text route_rows after_slash
by_slash rest = by_byte route_rows 47 (codes "pa" ++ rest) refl refl

by_p : (rest : List ℕ) → first after_slash (codes "pa" ++ rest) ≡ first after_p (codes "a" ++ rest)
unfolding matchit_on_literals with_text route_rows after_slash after_p
by_p rest = by_byte after_slash 112 (codes "a" ++ rest) refl refl

by_a : (rest : List ℕ) → first after_p (codes "a" ++ rest) ≡ first [] rest
unfolding matchit_on_literals with_text route_rows after_slash after_p
by_a rest = by_byte after_p 97 rest refl refl

pub none_begins_so : (rest : List ℕ) → route_of (codes "/pa" ++ rest) ≡ None
none_begins_so rest = ap (option_map (λ (r : RouteOf Route). r.value)) (by_slash rest ∙ by_p rest ∙ by_a rest ∙ no_row 0 rest)

pub none_is_empty : route_of (codes "/") ≡ None
unfolding matchit_on_literals with_text route_rows
none_is_empty = refl
