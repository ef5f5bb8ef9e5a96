-- How an import ends, by what its name is to the batches, by its body, and by the sentences that stand.
use Rattle.std.proofs.Common.{◌≡◌, ◌⊎◌, inl, inr, ℕ, ◌+◌, List, [], ◌∷◌, ◌++◌, length, Bool, true, false, ◌&&◌, Option, None, Some, refl, sym, ◌∙◌, ap, subst}
use Rattle.std.specs.Prelude.{nat_le}
use Rattle.std.specs.List.{AllByRecursion}
use Rattle.tb_conllu.specs.Text.{BlockText, text_of}
use Rattle.tb_core.specs.declared.limits.Limits.{Limits}
use Rattle.tb_core.specs.declared.refusals.Refusal.{Refusal}
use Rattle.tb_core.specs.declared.refusals.Refusal.TheVariants.{NameTaken, SentIdTaken, Full}
use Rattle.tb_core.specs.Names.{is_name, Lacks}
use Rattle.tb_core.specs.Machine.{sent_id_of, Batch, Machine}
use Rattle.tb_core.specs.Acts.{importing, IsAllowed, after, names_of, ids_of, ids_in}
use Rattle.tb_core.specs.Reaching.{Reached, has_room}
use Rattle.tb_core.specs.Commands.{import_file, replied, refused, Ending, ending, HasBatch, reply_to}
use Rattle.tb_core.specs.Tests.{◌otherwise◌, reported, passed, Refuses, IsNameTaken, IsFirstTaken, IsIdTaken, IsFull, first_bodies, RepeatsImport, Accepts}
use Rattle.tb_core.specs.Steps.{ImportEnds, Steps}
use Rattle.tb_core.specs.Taking.{IsBody, IsBodyRefused}
use Rattle.tb_core.proofs.Bodies.{Laws}
use Rattle.tb_core.proofs.Chains.{not_bad_name, good_user, second_good}
use Rattle.tb_core.proofs.Keeps.{well}
use Rattle.tb_core.specs.declared.importing.NameFound.{NameFound}
use Rattle.tb_core.specs.declared.importing.NameFound.TheVariants.{Free, Taken, Same}
use Rattle.tb_core.specs.Found.{is_free, FindsName, FindsId}
use Rattle.tb_core.specs.Parts.{IsNamedImport, IsTakenImport}
use Rattle.tb_core.proofs.FoundOnce.{not_free, batch_place}
use Rattle.tb_core.proofs.BodyTests.{BodyThen, body_stops, body_goes}

-- ---- the name

-- a name that no batch has, or one whose batch has other first revisions, is no repeat
fresh_free : (s : Machine) (name body : List ℕ) → Lacks (names_of s.batches) name → (e : Ending) → RepeatsImport s name body e → ⊥
fresh_free s name body free e h = not_free s name h.0 h.1 h.2 free

fresh_taken : (s : Machine) (name body : List ℕ) (place : ℕ) (b : Batch) → Reached s → HasBatch s name place b → (body ≡ text_of (first_bodies (place + 1) s.sentences) → ⊥)
    → (e : Ending) → RepeatsImport s name body e → ⊥
fresh_taken s name body place b reached has differs e h =
    let same = batch_place s name h.0 place h.1 b (well s reached) h.2 has in
    differs (subst (λ i. body ≡ text_of (first_bodies (i + 1) s.sentences)) same h.3)

named_free : (s : Machine) (name user body : List ℕ) → (is_name name && is_name user) ≡ true → FindsName s name body Free → IsNamedImport s name user body
named_free s name user body good free = record { named = good; fresh = fresh_free s name body free }

named_taken : (s : Machine) (name user body : List ℕ) → (is_name name && is_name user) ≡ true → Reached s → FindsName s name body Taken → IsNamedImport s name user body
named_taken s name user body good reached (place, b, has, differs) = record { named = good; fresh = fresh_taken s name body place b reached has differs }

pub named_new : (s : Machine) (name user body : List ℕ) (found : NameFound) → (found ≡ Free) ⊎ (found ≡ Taken) → (is_name name && is_name user) ≡ true → Reached s → FindsName s name body found
    → IsNamedImport s name user body
named_new s name user body found (inl e) good reached h = named_free s name user body good (subst (λ (f : NameFound). FindsName s name body f) e h)
named_new s name user body found (inr e) good reached h = named_taken s name user body good reached (subst (λ (f : NameFound). FindsName s name body f) e h)

-- ---- the body

abbrev TestsOfIds : Limits → Machine → List ℕ → List ℕ → List ℕ → Ending → Type 0
TestsOfIds l s name user body =
    Refuses s (IsIdTaken s body)
    otherwise Refuses s (IsFull l s (import_file name user body))
    otherwise Accepts s (import_file name user body)

abbrev TestsOfName : Limits → Machine → List ℕ → List ℕ → List ℕ → Ending → Type 0
TestsOfName l s name user body = Refuses s (IsNameTaken s name) otherwise TestsOfIds l s name user body

-- once the first part told nothing, the tests of the body decide
goes_on : (l : Limits) (s : Machine) (name user body : List ℕ) (e : Ending) → IsNamedImport s name user body → BodyThen s body (TestsOfName l s name user body) e → ImportEnds l s name user body e
goes_on l s name user body e named h = passed (not_bad_name s (is_name name && is_name user) named.named) (passed named.fresh h)

pub import_stops : Laws → (l : Limits) (s : Machine) (name user body : List ℕ) (r : Refusal) → IsNamedImport s name user body → IsBodyRefused body r → Steps l s (import_file name user body) (refused r) s
import_stops laws l s name user body r named h =
    goes_on l s name user body (ending (refused r) s) named (body_stops laws s body (TestsOfName l s name user body) r h)

-- what is not free stands
stands : (s : Machine) (name body : List ℕ) (found : NameFound) → is_free found ≡ false → FindsName s name body found → Lacks (names_of s.batches) name → ⊥
stands s name body Free e h = let both : true ≡ false = e in absurd (cc)
stands s name body Taken e (place, b, has, differs) = not_free s name place b has
stands s name body (Same reply) e (place, b, has, same, is) = not_free s name place b has

pub import_taken : Laws → (l : Limits) (s : Machine) (name user body : List ℕ) (bs : List BlockText) (found : NameFound) → IsNamedImport s name user body → FindsName s name body found → is_free found ≡ false → IsBody body bs
    → Steps l s (import_file name user body) (refused NameTaken) s
import_taken laws l s name user body bs found named h e good =
    goes_on l s name user body (ending (refused NameTaken) s) named
    (body_goes laws s body (TestsOfName l s name user body) bs (ending (refused NameTaken) s) good (reported (NameTaken, (stands s name body found e h, refl), refl)))

new_name : (s : Machine) (name body : List ℕ) (found : NameFound) → is_free found ≡ true → FindsName s name body found → Lacks (names_of s.batches) name
new_name s name body Free e h = h
new_name s name body Taken e h = let both : false ≡ true = e in absurd (cc)
new_name s name body (Same reply) e h = let both : false ≡ true = e in absurd (cc)

pub import_goes : (s : Machine) (name user body : List ℕ) (bs : List BlockText) (found : NameFound) → is_free found ≡ true → IsNamedImport s name user body → FindsName s name body found → IsBody body bs
    → IsTakenImport s name user body bs
import_goes s name user body bs found e named h good = record { begun = named; taken = good; new = new_name s name body found e h }

-- ---- the sentences that stand

-- a new name of good sentences leaves their `sent_id`s
ids_left : Laws → (l : Limits) (s : Machine) (name user body : List ℕ) (bs : List BlockText) (e : Ending) → IsTakenImport s name user body bs → TestsOfIds l s name user body e → ImportEnds l s name user body e
ids_left laws l s name user body bs e taken h =
    goes_on l s name user body e taken.begun
    (body_goes laws s body (TestsOfName l s name user body) bs e taken.taken (passed (λ d k. k.1.0 taken.new) h))

pub import_id_taken : Laws → (l : Limits) (s : Machine) (name user body : List ℕ) (bs : List BlockText) (k : ℕ) → IsTakenImport s name user body bs → FindsId s bs (Some k)
    → Steps l s (import_file name user body) (refused (SentIdTaken k)) s
import_id_taken laws l s name user body bs k taken first =
    ids_left laws l s name user body bs (ending (refused (SentIdTaken k)) s) taken
    (reported (SentIdTaken k, (bs, k, taken.taken.file, first, refl), refl))

free_there : (ids : List (List ℕ)) (before : List BlockText) (b : BlockText) (more : List BlockText) → AllByRecursion (Lacks ids) (ids_in (before ++ b ∷ more)) → Lacks ids (sent_id_of b)
free_there ids [] b more h = h.0
free_there ids (c ∷ before) b more h = free_there ids before b more h.1

none_taken : (ids : List (List ℕ)) (bs : List BlockText) (k : ℕ) → AllByRecursion (Lacks ids) (ids_in bs) → IsFirstTaken ids bs k → ⊥
none_taken ids bs k free first = first.taken (free_there ids first.before first.body first.more (subst (λ l. AllByRecursion (Lacks ids) (ids_in l)) first.whole free))

ids_free : Laws → (s : Machine) (body : List ℕ) (bs : List BlockText) → IsBody body bs → FindsId s bs None → (d : Ending) → Refuses s (IsIdTaken s body) d → ⊥
ids_free laws s body bs good free d h =
    none_taken (ids_of s.sentences) bs h.1.1 free (subst (λ l. IsFirstTaken (ids_of s.sentences) l h.1.1) (laws.one_list body h.1.0 bs h.1.2 good.file) h.1.3)

-- ---- the limits, and acceptance

abbrev Room : Limits → Machine → List BlockText → Bool
Room l s bs = nat_le (length s.sentences + length bs) l.sentences && nat_le (length s.moves + 1) l.moves

pub none_of : (o : Option ℕ) → ((k : ℕ) → o ≡ Some k → ⊥) → o ≡ None
none_of None h = refl
none_of (Some k) h = absurd (h k refl)

pub room_for : (l : Limits) (s : Machine) (bs : List BlockText) (new sentences moves : ℕ) (t : Bool) → new ≡ length bs → sentences ≡ length s.sentences → moves ≡ length s.moves
    → (nat_le (sentences + new) l.sentences && nat_le (moves + 1) l.moves) ≡ t → (nat_le (length s.sentences + length bs) l.sentences && nat_le (length s.moves + 1) l.moves) ≡ t
room_for l s bs new sentences moves t p q r e =
    subst (λ m. (nat_le (length s.sentences + length bs) l.sentences && nat_le (m + 1) l.moves) ≡ t) r
    (subst (λ n. (nat_le (n + length bs) l.sentences && nat_le (moves + 1) l.moves) ≡ t) q
    (subst (λ n. (nat_le (sentences + n) l.sentences && nat_le (moves + 1) l.moves) ≡ t) p e))

pub import_full : Laws → (l : Limits) (s : Machine) (name user body : List ℕ) (bs : List BlockText) → IsTakenImport s name user body bs → FindsId s bs None → Room l s bs ≡ false
    → Steps l s (import_file name user body) (refused Full) s
import_full laws l s name user body bs taken free full =
    ids_left laws l s name user body bs (ending (refused Full) s) taken
    (passed (ids_free laws s body bs taken.taken free)
    (reported (Full, (importing name user bs, (bs, taken.taken.file, refl), full, refl), refl)))

room_left : Laws → (l : Limits) (s : Machine) (name user body : List ℕ) (bs : List BlockText) → IsBody body bs → Room l s bs ≡ true → (d : Ending) → Refuses s (IsFull l s (import_file name user body)) d → ⊥
room_left laws l s name user body bs good room d h =
    let other : Room l s h.1.1.0 ≡ false = sym (ap (has_room l s) h.1.1.2) ∙ h.1.2 in
    let none : Room l s bs ≡ false = subst (λ m. Room l s m ≡ false) (laws.one_list body h.1.1.0 bs h.1.1.1 good.file) other in
    let both : true ≡ false = sym room ∙ none in
    absurd (cc)

pub import_accepted : Laws → (l : Limits) (s : Machine) (name user body : List ℕ) (bs : List BlockText) → IsTakenImport s name user body bs → FindsId s bs None → Room l s bs ≡ true
    → IsAllowed s (importing name user bs) × Steps l s (import_file name user body) (replied (reply_to s (importing name user bs))) (after s (importing name user bs))
import_accepted laws l s name user body bs taken free room =
    let act = importing name user bs in
    let allowed : IsAllowed s act = record {
      named = good_user (is_name name) (is_name user) taken.begun.named;
      by = second_good (is_name name) (is_name user) taken.begun.named;
      some = taken.taken.some;
      shaped = taken.taken.file.shaped;
      valid = taken.taken.valid;
      new = taken.new;
      free = free;
    } in (
      allowed,
      ids_left laws l s name user body bs (ending (replied (reply_to s act)) (after s act)) taken
          (passed (ids_free laws s body bs taken.taken free)
          (passed (room_left laws l s name user body bs taken.taken room)
          (act, (bs, taken.taken.file, refl), allowed, refl))),
    )
