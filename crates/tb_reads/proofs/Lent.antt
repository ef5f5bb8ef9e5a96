-- A cursor over the bodies of revisions.
use Rattle.std.proofs.Common.{◌≡◌, ◌≢◌, ◌<◌, true, List, [], ◌∷◌, ◌++◌, map, All, Option, Some, None, option_map, Result, Ok, Err, OnErr, refl, sym, ap, subst, ◌∙◌}
use Rattle.std.specs.List.{AllByRecursion}
use Rattle.std.proofs.lemmas.List.{append_assoc}
use Rattle.std.proofs.lemmas.List.Elements.{recursion_from_All}
use Rattle.sqlite.specs.declared.types.Value.TheVariants.{Null}
use Rattle.sqlite.specs.Order.{Row, column}
use Rattle.sqlite.specs.Tree.{Trees}
use Rattle.sqlite.specs.Effect.{Database}
use Rattle.sqlite.specs.Query.{IsAnswer}
use Rattle.sqlite.specs.Program.{overlay}
use Rattle.sqlite.specs.Store.{Ghosts}
use Rattle.sqlite.specs.Held.{Held, state}
use Rattle.sqlite.specs.State.{IsUnchanged, Fails}
use Rattle.sqlite.specs.Given.{HasGiven, HasBegun, IsRefused, Advances, FailsToAdvance}
use Rattle.sqlite.specs.Listing.{understood}
use Rattle.sqlite.specs.declared.error.Error.{Error}
use Rattle.sqlite.proofs.Callers.{IsPlain, reads_as, begun_plain}
use Rattle.sqlite_trees.specs.Tree.{IsAscending}
use Rattle.sqlite_trees.proofs.ListLemmas.{map-map}
use Rattle.tb_tables.specs.Layout.{desk_schema}
use Rattle.tb_tables.specs.Records.{Revision, Shows, revision_shown, revision_view}
use Rattle.tb_tables.proofs.Causes.{failed_wants}
use Rattle.tb_tables.proofs.Texts.{simple}
use Rattle.tb_reads.specs.declared.cursor.Body.{Body}
use Rattle.tb_reads.specs.Readable.{IsRevision, ComesBefore}
use Rattle.tb_reads.specs.Streams.{AreToCome, IsLeft, IsAtRow, GoesOn, IsBodyOf, bodies_text, body_shown, body_columns, lent_shown}
use Rattle.tb_reads.proofs.ReadOnly.{cursor_refused}
use Rattle.tb_reads.proofs.Queries.{rising, select_bodies_is, select_bodies_terms}
use Rattle.tb_reads.proofs.Failing.{bodies_fails, fault_of}
use Rattle.tb_reads.proofs.Ordered.{pair, IsPair, pair_in_order, revisions_rise, revisions_placed}
use Rattle.tb_reads.proofs.Sifted.{sifted, sorted_by}
use Rattle.tb_reads.proofs.Streaming.{all_kept, begun_answer, shown_push}

pub bodies_all : (db : Trees) (rows : List Row) → IsAnswer (simple 5 [] select_bodies_terms (rising 1 ∷ rising 2 ∷ [])) (overlay db []) [] rows → (xs : List Revision) → All IsRevision xs → IsAscending ComesBefore xs
    → Shows revision_view (map revision_shown xs) (db 5) → rows ≡ map body_shown xs
bodies_all db rows answer xs each up holds =
    let shown = map revision_shown xs in
    let fit = recursion_from_All IsRevision xs each in
    let keyed = sorted_by (λ r. column r 0 ∷ column r 1 ∷ []) body_columns in
    let whole = sym (all_kept shown) in
    sifted 5 [] select_bodies_terms (rising 1 ∷ rising 2 ∷ []) [] revision_view (λ r. column r 0 ∷ column r 1 ∷ []) body_columns (λ _. true) (λ _. refl) (overlay db []) rows answer refl shown pair IsPair
    (subst (λ l. IsAscending (λ a b. pair a < pair b) (map keyed l)) whole (revisions_rise body_columns xs fit up)) (subst (λ l. AllByRecursion IsPair (map keyed l)) whole (revisions_placed body_columns xs fit)) (pair_in_order 5 select_bodies_terms) holds
    ∙ ap (map body_columns) (all_kept shown) ∙ map-map body_columns revision_shown xs

next_is : {X : Type 0} (shown : X → Row) (before : List X) (r : Row) (tail : List Row) (x : X) (rest : List X) → (map shown before ++ r ∷ []) ++ tail ≡ map shown (before ++ x ∷ rest) → r ≡ shown x
next_is shown [] r tail x rest e = cc
next_is shown (b ∷ before) r tail x rest e =
    let later : (map shown before ++ r ∷ []) ++ tail ≡ map shown (before ++ x ∷ rest) = cc in
    next_is shown before r tail x rest later

none_left : {X : Type 0} (shown : X → Row) (before xs : List X) → map shown before ≡ map shown (before ++ xs) → xs ≡ []
none_left shown [] [] e = refl
none_left shown [] (x ∷ xs) e = absurd cc
none_left shown (b ∷ before) xs e = let later : map shown before ≡ map shown (before ++ xs) = cc in none_left shown before xs later

some_left : {X : Type 0} (shown : X → Row) (before : List X) (r : Row) (tail : List Row) → (map shown before ++ r ∷ []) ++ tail ≡ map shown (before ++ []) → ⊥
some_left shown [] r tail e = absurd cc
some_left shown (b ∷ before) r tail e = let later : (map shown before ++ r ∷ []) ++ tail ≡ map shown (before ++ []) = cc in some_left shown before r tail later

module _ {S : Type 0} (g : Ghosts S) (old new : Held S) (same : IsUnchanged (state g old) (state g new)) where
  moved_on : (r : Row) (xs : List Revision) (left : AreToCome g old xs) → HasGiven g bodies_text [] new (map body_shown left.before ++ r ∷ []) → IsAtRow g new (Some r) xs
  moved_on r xs left gave = go xs refl
    where
      has_now : (state g new).now.schema ≡ desk_schema
      has_now = ap (λ (d : Database). d.schema) same.0.now_is ∙ left.schema

      shows_now : Shows revision_view (map revision_shown (left.before ++ xs)) ((state g new).now.trees 5)
      shows_now = subst (λ (d : Database). Shows revision_view (map revision_shown (left.before ++ xs)) (d.trees 5)) (sym same.0.now_is) left.shows

      more : (tail : List Row) × ((map body_shown left.before ++ r ∷ []) ++ tail ≡ map body_shown (left.before ++ xs))
      more =
          let begun = begun_answer g bodies_text (simple 5 [] select_bodies_terms (rising 1 ∷ rising 2 ∷ [])) _ new (map body_shown left.before ++ r ∷ []) select_bodies_is.0 select_bodies_is.1 select_bodies_is.2 has_now gave in
          (begun.0, bodies_all (state g new).now.trees _ begun.1 (left.before ++ xs) left.each left.rises shows_now)

      go : (ys : List Revision) → ys ≡ xs → IsAtRow g new (Some r) xs
      go [] e = absurd (some_left body_shown left.before r more.0 (more.1 ∙ ap (λ l. map body_shown (left.before ++ l)) (sym e)))
      go (x ∷ rest) e =
          let is = next_is body_shown left.before r more.0 x rest (more.1 ∙ ap (λ l. map body_shown (left.before ++ l)) (sym e)) in
          let split : left.before ++ xs ≡ (left.before ++ x ∷ []) ++ rest = ap (λ l. left.before ++ l) (sym e) ∙ sym (append_assoc left.before (x ∷ []) rest) in (
            x,
            rest,
            sym e,
            is,
            record {
              schema = has_now;
              before = left.before ++ x ∷ [];
              given = subst (HasGiven g bodies_text [] new) (shown_push body_shown left.before x r is) gave;
              each = subst (λ l. All IsRevision l) split left.each;
              rises = subst (λ l. IsAscending ComesBefore l) split left.rises;
              shows = subst (λ l. Shows revision_view (map revision_shown l) ((state g new).now.trees 5)) split shows_now;
            },
          )

  pub stands_at : (row : Option Row) (xs : List Revision) → AreToCome g old xs → Advances g old new row → IsAtRow g new row xs
  stands_at (Some r) xs left on = moved_on r xs left (on bodies_text [] (map body_shown left.before) left.given)
  stands_at None xs left on =
      let given = map body_shown left.before in
      let answer = (reads_as bodies_text [] (state g old) (state g new) desk_schema left.schema _ select_bodies_is.0 select_bodies_is.1 select_bodies_is.2 given (on bodies_text [] given left.given)).answer Null in
      none_left body_shown left.before xs (bodies_all (state g old).now.trees given answer (left.before ++ xs) left.each left.rises left.shows)

lent_is : (b : Body) (x : Revision) → lent_shown b ≡ body_shown x → IsBodyOf b x
lent_is b x e =
    let s : b.sent ≡ x.sent = cc in
    let r : b.rev ≡ x.rev = cc in
    let t : b.body.now ≡ x.body = cc in
    record { sent = s; rev = r; body = t }

pub goes_on : {S : Type 0} (g : Ghosts S) (h : Held S) (row : Option Row) (found : Option Body) (xs : List Revision) → IsAtRow g h row xs → option_map lent_shown found ≡ row → GoesOn g h found xs
goes_on g h None None xs at e = at
goes_on g h None (Some b) xs at e = absurd cc
goes_on g h (Some r) None xs at e = absurd cc
goes_on g h (Some r) (Some b) xs (x, rest, first, is, left) e =
    let shown : lent_shown b ≡ r = cc in
    (x, rest, first, lent_is b x (shown ∙ is), left)

one_of : {X : Type 0} (P : X → Type 0) (before : List X) (x : X) (rest : List X) → AllByRecursion P (before ++ x ∷ rest) → P x
one_of P [] x rest each = each.0
one_of P (b ∷ before) x rest each = one_of P before x rest each.1

-- a cursor that stands at a revision stands at a row that can be read
pub always_readable : {S : Type 0} (g : Ghosts S) (old new : Held S) (row : Option Row) (xs : List Revision) → AreToCome g old xs → IsAtRow g new row xs → row ≢ None → ((x : Revision) → IsRevision x → row ≢ Some (body_shown x)) → ⊥
always_readable g old new None xs left at some none = some refl
always_readable g old new (Some r) xs left (x, rest, first, is, more) some none =
    let fit = recursion_from_All IsRevision (left.before ++ x ∷ rest) (subst (λ l. All IsRevision (left.before ++ l)) first left.each) in
    none x (one_of IsRevision left.before x rest fit) (ap Some is)

module _ {S : Type 0} (g : Ghosts S) (old new : Held S) (has : (state g old).now.schema ≡ desk_schema) (begun : HasBegun g bodies_text [] old new) where
  start : HasGiven g bodies_text [] new [] × IsUnchanged (state g old) (state g new)
  start = begun_plain g bodies_text [] old new (subst (λ s. IsPlain (understood s bodies_text)) (sym has) select_bodies_is.1) begun

  pub starts : (xs : List Revision) → All IsRevision xs → IsAscending ComesBefore xs → Shows revision_view (map revision_shown xs) ((state g old).now.trees 5) → AreToCome g new xs
  starts xs each rises shows = record {
    schema = ap (λ (d : Database). d.schema) start.1.0.now_is ∙ has;
    before = [];
    given = start.0;
    each = each;
    rises = rises;
    shows = subst (λ (d : Database). Shows revision_view (map revision_shown xs) (d.trees 5)) (sym start.1.0.now_is) shows;
  }

pub left_so : {S : Type 0} (g : Ghosts S) (old new : Held S) {X : Type 0} (result : Result X Error) → OnErr result (IsRefused g bodies_text [] old result new) → OnErr result (IsLeft g old result new)
left_so g old new (Ok rows) h = tt
left_so g old new (Err e) refused = record {
  fails = λ clean unlimited has. fault_of (bodies_fails (state g old) (state g new) [] e (refused.err clean) refl has unlimited);
  cause = λ good clean unlimited has. failed_wants (state g old) (state g new) good e (bodies_fails (state g old) (state g new) [] e (refused.err clean) refl has unlimited);
  read_only = cursor_refused g bodies_text [] old new (Err e) select_bodies_is.1 refused;
}

pub advance_fails : {S : Type 0} (g : Ghosts S) (old new : Held S) (e : Error) → FailsToAdvance g old new e → (state g old).step_limit ≡ None → (xs : List Revision) → AreToCome g old xs → Fails (state g old) (state g new) ⊥ e
advance_fails g old new e failed unlimited xs left = bodies_fails (state g old) (state g new) [] e (failed bodies_text [] (map body_shown left.before) left.given) refl left.schema unlimited
