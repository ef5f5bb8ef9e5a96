-- No path of the page has a route of the desk.
use Rattle.std.proofs.Common.{◌≡◌, ◌≢◌, ◌⊎◌, ◌∙◌, ◌++◌, ℕ, List, length, take, drop, take-append-drop, Bool, true, false, Option, Some, None, codes, refl, ap, sym, subst, inl, inr}
use Rattle.std.specs.Prelude.{bytes_eq, if◌then◌else◌, option_and_then, option_map}
use Rattle.std.proofs.lemmas.Slice.Eq.{bytes_eq-Decides}
use Rattle.tb_http.specs.Actions.{place_at, place_of}
use Rattle.tb_http.specs.Forms.{number_of}
use Rattle.tb_http.specs.Headers.{text_of}
use Rattle.tb_http.specs.Routes.{route_of}
use Rattle.tb_page.specs.declared.paths.File.TheVariants as file
use Rattle.tb_page.specs.Paths.{IsPath, batches, counts, file_at, first_of, is_check, list_at, rest_after, sent_id, sentences, value_at}
use Rattle.tb_page.proofs.NoRow.{none_begins_so, none_is_empty}

-- the desk has no route for the path
abbrev IsRouteless : List ℕ → Type 0
IsRouteless path = route_of path ≡ None

-- a path that is one of some texts
by_text : {A : Type 0} (path text : List ℕ) (found : A) (otherwise : Option A) → IsRouteless text → (otherwise ≢ None → IsRouteless path)
    → (if bytes_eq path text then Some found else otherwise) ≢ None → IsRouteless path
by_text path text found otherwise own rest h = by (bytes_eq path text) refl h
  where
    by : (is : Bool) → bytes_eq path text ≡ is → (if is then Some found else otherwise) ≢ None → IsRouteless path
    by true e h = subst IsRouteless (sym ((bytes_eq-Decides path text).0 e)) own
    by false e h = rest h

-- a path that begins with a text
by_front : (path front rest : List ℕ) → rest_after front path ≡ Some rest → ((more : List ℕ) → IsRouteless (front ++ more)) → IsRouteless path
by_front path front rest begins own = by (bytes_eq (take (length front) path) front) refl begins
  where
    by : (is : Bool) → bytes_eq (take (length front) path) front ≡ is → (if is then Some (drop (length front) path) else None) ≡ Some rest → IsRouteless path
    by true e h =
        let more = drop (length front) path in
        subst IsRouteless (ap (λ t. t ++ more) (sym ((bytes_eq-Decides (take (length front) path) front).0 e)) ∙ take-append-drop (length front) path) (own more)
    by false e h = absurd (cc)

of_file : (path : List ℕ) → file_at path ≢ None → IsRouteless path
of_file path =
    by_text path (codes "/") file.Index _ none_is_empty
    (by_text path (codes "/page/page.css") file.Style _ (none_begins_so (codes "ge/page.css"))
    (by_text path (codes "/page/desk.js") file.Desk _ (none_begins_so (codes "ge/desk.js"))
    (by_text path (codes "/page/rows.js") file.Rows _ (none_begins_so (codes "ge/rows.js"))
    (by_text path (codes "/page/conllu.js") file.Conllu _ (none_begins_so (codes "ge/conllu.js"))
    (by_text path (codes "/page/tree.js") file.Tree _ (none_begins_so (codes "ge/tree.js"))
    (by_text path (codes "/page/edit.js") file.Edit _ (none_begins_so (codes "ge/edit.js"))
    (by_text path (codes "/page/find.js") file.Find _ (none_begins_so (codes "ge/find.js"))
    (by_text path (codes "/page/page.js") file.Page None (none_begins_so (codes "ge/page.js"))
    (λ some. absurd (some refl))))))))))

with_value : (path : List ℕ) (number id : Option (List ℕ)) → rest_after (codes "/page/batches/") path ≡ number → rest_after (codes "/page/sent-id/") path ≡ id
    → first_of (option_and_then (λ t. option_map sentences (number_of (text_of t))) number) (option_map sent_id id) ≢ None → IsRouteless path
with_value path (Some number) id begins other h = by_front path (codes "/page/batches/") number begins (λ more. none_begins_so (codes "ge/batches/" ++ more))
with_value path None (Some id) other begins h = by_front path (codes "/page/sent-id/") id begins (λ more. none_begins_so (codes "ge/sent-id/" ++ more))
with_value path None None other others h = absurd (h refl)

of_list : (path : List ℕ) → list_at path ≢ None → IsRouteless path
of_list path =
    by_text path (codes "/page/now") counts _ (none_begins_so (codes "ge/now"))
    (by_text path (codes "/page/batches") batches _ (none_begins_so (codes "ge/batches"))
    (with_value path _ _ refl refl))

of_check : (path : List ℕ) → is_check path ≡ true → IsRouteless path
of_check path is = subst IsRouteless (sym ((bytes_eq-Decides path (codes "/page/check")).0 is)) (none_begins_so (codes "ge/check"))

routeless : (path : List ℕ) → IsPath path → IsRouteless path
routeless path (inl is_file) = of_file path is_file
routeless path (inr (inl is_list)) = of_list path is_list
routeless path (inr (inr is)) = of_check path is

pub no_place : (path : List ℕ) → IsPath path → place_of path ≡ None
no_place path is = ap (option_and_then (λ r. place_at r path)) (routeless path is)
