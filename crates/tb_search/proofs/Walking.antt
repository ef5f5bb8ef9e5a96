-- How far a walk has come.
use Rattle.std.proofs.Common.{◌≡◌, ℕ, ◌+◌, ◌≤◌, List, [], ◌∷◌, ◌++◌, length, drop, Bool, true, false, cond, Some, refl, sym, ap, subst, ◌∙◌, inl, inr, arith, append-nil, append_assoc, MatchBool, Result, Err, IfErr}
use Rattle.std.proofs.Math.ListN.{drop_of_length-le}
use Rattle.std.proofs.lemmas.List.{map-append}
use Rattle.sqlite.specs.Store.{Ghosts}
use Rattle.sqlite.specs.Held.{Held}
use Rattle.tb_tables.specs.Records.{Revision}
use Rattle.tb_reads.specs.declared.cursor.Body.{Body}
use Rattle.tb_reads.specs.Streams.{AreToCome, GoesOn}
use Rattle.tb_search.specs.declared.picks.Pick.{Pick}
use Rattle.sqlite.specs.declared.error.Error.{Error}
use Rattle.tb_reads.specs.declared.error.ReadError.TheVariants.{Store, Form}
use Rattle.tb_reads.specs.declared.error.ReadError.{ReadError}
use Rattle.tb_search.specs.declared.stopped.Stopped.{Stopped}
use Rattle.tb_search.specs.declared.stopped.Stopped.TheVariants.{Output, Read}
use Rattle.tb_search.specs.Picked.{asks, picked, bodies}
use Rattle.tb_search.specs.Visited.{Taking, Stopping, AllTaken, Halted, IsFault}

-- the revisions whose bodies were visited, and those that are to come
pub record IsWalked {S V O : Type 0} (g : Ghosts S) (takes : Taking V O) (h : Held S) (picks : List Pick) (next : ℕ) (v : V) (o : O) (w : V) (q : O) (xs : List Revision) : Type 0 where
  pub done : List Revision
  pub left : List Revision
  pub split : picked picks xs ≡ done ++ picked (drop next picks) left
  pub coming : AreToCome g h left
  pub taken : AllTaken takes v o (bodies done) w q

none_come : (ps : List Pick) → picked ps [] ≡ []
none_come [] = refl
none_come (p ∷ ps) = refl

bodies_more : (xs ys : List Revision) → bodies (xs ++ ys) ≡ bodies xs ++ bodies ys
bodies_more xs ys = map-append (λ (r : Revision). r.body) xs ys

module _ {V O : Type 0} (takes : Taking V O) (stops : Stopping V O) where
  taken_more : (ts : List (List ℕ)) (v : V) (o : O) (u : V) (p : O) (t : List ℕ) (w : V) (q : O) → AllTaken takes v o ts u p → takes u p t w q → AllTaken takes v o (ts ++ t ∷ []) w q
  taken_more [] v o u p t w q (same, filled) took = (w, q, subst (λ x. takes x o t w q) same (subst (λ y. takes u y t w q) filled took), (refl, refl))
  taken_more (s ∷ ts) v o u p t w q (x, y, first, more) took = (x, y, first, taken_more ts x y u p t w q more took)

  pub halts_here : (ts : List (List ℕ)) (v : V) (o : O) (e : Stopped) → IsFault e → Halted takes stops v o ts e o
  halts_here [] v o e fault = (fault, refl)
  halts_here (t ∷ ts) v o e fault = inl (fault, refl)

  halts_at : (ts : List (List ℕ)) (v : V) (o : O) (u : V) (p : O) (rest : List (List ℕ)) (e : Stopped) (q : O) → AllTaken takes v o ts u p → Halted takes stops u p rest e q → Halted takes stops v o (ts ++ rest) e q
  halts_at [] v o u p rest e q (same, filled) h = subst (λ x. Halted takes stops x o rest e q) same (subst (λ y. Halted takes stops u y rest e q) filled h)
  halts_at (t ∷ ts) v o u p rest e q (x, y, first, more) h = inr (inr (x, y, first, halts_at ts x y u p rest e q more h))

  module _ {S : Type 0} (g : Ghosts S) (h : Held S) (picks : List Pick) (v : V) (o : O) (w : V) (q : O) (xs : List Revision) where
    pub all_taken : (next : ℕ) → length picks ≤ next → IsWalked g takes h picks next v o w q xs → AllTaken takes v o (bodies (picked picks xs)) w q
    all_taken next past it =
        let none : drop next picks ≡ [] = drop_of_length-le picks past in
        let whole : picked picks xs ≡ it.done = it.split ∙ ap (λ ps. it.done ++ picked ps it.left) none ∙ append-nil it.done in
        subst (λ l. AllTaken takes v o (bodies l) w q) (sym whole) it.taken

    pub none_left : (next : ℕ) (it : IsWalked g takes h picks next v o w q xs) → it.left ≡ [] → AllTaken takes v o (bodies (picked picks xs)) w q
    none_left next it none =
        let whole : picked picks xs ≡ it.done = it.split ∙ ap (λ l. it.done ++ picked (drop next picks) l) none ∙ ap (λ l. it.done ++ l) (none_come (drop next picks)) ∙ append-nil it.done in
        subst (λ l. AllTaken takes v o (bodies l) w q) (sym whole) it.taken

    pub some_taken : (next : ℕ) (e : Stopped) → IsFault e → IsWalked g takes h picks next v o w q xs → Halted takes stops v o (bodies (picked picks xs)) e q
    some_taken next e fault it =
        let rest = picked (drop next picks) it.left in
        subst (λ l. Halted takes stops v o l e q) (sym (ap bodies it.split ∙ bodies_more it.done rest)) (halts_at (bodies it.done) v o w q (bodies rest) e q it.taken (halts_here (bodies rest) w q e fault))

    module _ (new : Held S) (next : ℕ) (p : Pick) (body : Body) (it : IsWalked g takes h picks next v o w q xs) (here : drop next picks ≡ p ∷ drop (next + 1) picks) (gone : GoesOn g new (Some body) it.left) where
      abbrev first : Revision
      first = gone.0

      now_split : (t : Bool) → asks p body.sent body.rev ≡ t → picked picks xs ≡ it.done ++ cond t (first ∷ picked (drop (next + 1) picks) gone.1) (picked (p ∷ drop (next + 1) picks) gone.1)
      now_split t is =
          let at : asks p first.sent first.rev ≡ t = ap (λ n. asks p n first.rev) (sym gone.3.sent) ∙ ap (λ n. asks p body.sent n) (sym gone.3.rev) ∙ is in
          it.split ∙ ap (λ ps. it.done ++ picked ps it.left) here ∙ ap (λ l. it.done ++ picked (p ∷ drop (next + 1) picks) l) gone.2
          ∙ ap (λ c. it.done ++ cond c (first ∷ picked (drop (next + 1) picks) gone.1) (picked (p ∷ drop (next + 1) picks) gone.1)) at

      pub one_more : (n : ℕ) (x : V) (y : O) → MatchBool (asks p body.sent body.rev) ((n ≡ 1) × takes w q body.body.now x y) ((n ≡ 0) × (x ≡ w) × (y ≡ q)) → IsWalked g takes new picks (next + n) v o x y xs
      one_more n x y reported = by (asks p body.sent body.rev) refl reported
        where
          by : (t : Bool) → asks p body.sent body.rev ≡ t → MatchBool t ((n ≡ 1) × takes w q body.body.now x y) ((n ≡ 0) × (x ≡ w) × (y ≡ q)) → IsWalked g takes new picks (next + n) v o x y xs
          by true is (one, took) = record {
            done = it.done ++ first ∷ [];
            left = gone.1;
            split = now_split true is ∙ sym (append_assoc it.done (first ∷ []) (picked (drop (next + 1) picks) gone.1)) ∙ ap (λ m. (it.done ++ first ∷ []) ++ picked (drop (next + m) picks) gone.1) (sym one);
            coming = gone.4;
            taken = subst (λ l. AllTaken takes v o l x y) (sym (bodies_more it.done (first ∷ []))) (taken_more (bodies it.done) v o w q first.body x y it.taken (subst (λ b. takes w q b x y) gone.3.body took));
          }
          by false is (none, same, filled) = record {
            done = it.done;
            left = gone.1;
            split = now_split false is ∙ ap (λ ps. it.done ++ picked ps gone.1) (sym here) ∙ ap (λ m. it.done ++ picked (drop m picks) gone.1) (let still : next ≡ next + n = omega (arith, none) in still);
            coming = gone.4;
            taken = subst (λ a. AllTaken takes v o (bodies it.done) a y) (sym same) (subst (λ a. AllTaken takes v o (bodies it.done) w a) (sym filled) it.taken);
          }

      pub one_stopped : (e : Stopped) (y : O) → asks p body.sent body.rev ≡ true → stops w q body.body.now e y → Halted takes stops v o (bodies (picked picks xs)) e y
      one_stopped e y is stopped =
          let rest = picked (drop (next + 1) picks) gone.1 in
          let whole : bodies (picked picks xs) ≡ bodies it.done ++ (first.body ∷ bodies rest) = ap bodies (now_split true is) ∙ bodies_more it.done (first ∷ rest) in
          subst (λ l. Halted takes stops v o l e y) (sym whole) (halts_at (bodies it.done) v o w q (first.body ∷ bodies rest) e y it.taken (inr (inl (subst (λ b. stops w q b e y) gone.3.body stopped))))

pub walk_starts : {S V O : Type 0} (g : Ghosts S) (takes : Taking V O) (h : Held S) (picks : List Pick) (v : V) (o : O) (xs : List Revision) → AreToCome g h xs → IsWalked g takes h picks 0 v o v o xs
walk_starts g takes h picks v o xs coming = record { done = []; left = xs; split = refl; coming = coming; taken = (refl, refl) }

pub err_is : {T : Type 0} (Q : Stopped → Type 0) (r : Result T Stopped) (e x : Stopped) → r ≡ Err x → x ≡ e → Q e → IfErr r Q
err_is {T} Q r e x is same q = subst (λ y. IfErr y Q) (sym is) (subst Q (sym same) q)

-- what a store tells is a fault
pub of_store : (x : Error) → IsFault (Read (Store x))
of_store x bad = absurd cc

pub of_sink : IsFault Output
of_sink bad = absurd cc

pub same_fault : (e x : Stopped) → x ≡ e → IsFault x → IsFault e
same_fault e x same fault bad = fault (same ∙ bad)

pub not_form : (y : ReadError) → (y ≡ Form → ⊥) → IsFault (Read y)
not_form y f bad = f (let same : y ≡ Form = cc in same)
