-- How much is taken for an answer.
use Rattle.std.proofs.Common.{◌≡◌, ◌≤◌, ◌<◌, ◌+◌, ℕ, List, [], ◌++◌, length, take, min, Option, Result, Ok, Err, IfErr, IfSome, Some, None, sym, ◌∙◌, ap, subst, arith, ◌⊎◌, inl, inr, length-append, take_all, length-take-le}
use Rattle.std.proofs.lemmas.Bool.{cases_lt}
use Rattle.std.specs.Io.KnownBytes.{Consumes}
use Rattle.std.proofs.KnownBytes.{Consumes-nil, Consumes-trans}
use Rattle.httparse.specs.Grammar.{print_request}
use Rattle.httparse.proofs.GrammarLemmas.{ReadsRequest-append}
use Rattle.tb_http.specs.declared.asks.AskFault.{AskFault}
use Rattle.tb_http.specs.declared.asks.AskFault.TheVariants.{Broken, Memory}
use Rattle.tb_http.specs.Asks.{Front}
use Rattle.tb_http.specs.declared.head.BodyFault.{BodyFault}
use Rattle.tb_http.specs.declared.head.BodyFault.TheVariants as body
use Rattle.tb_http.specs.Faults.{AwaitsHead, HasCall, BeginsBody, IsBodyFaultOf, IsFaultOf, IsAtMostOne, TakenAfter, fault_of}
use Rattle.tb_http.proofs.Chains.{body_short, body_some}

-- nothing was read after the buffer
pub untouched : (old : Option (List ℕ)) (buf : List ℕ) (limit : ℕ) → length buf ≤ 8192 → TakenAfter buf old old (IsAtMostOne limit)
untouched old buf limit room = ([], Consumes-nil old, inl (omega (arith, room, length-append buf [])))

-- no more than a head was taken
pub few_taken : (old new : Option (List ℕ)) (limit : ℕ) → TakenAfter [] old new (λ came. length came ≤ 8192) → TakenAfter [] old new (IsAtMostOne limit)
few_taken old new limit t = (t.0, t.1, inl t.2)

pub head_taken : (old new : Option (List ℕ)) (limit : ℕ) → TakenAfter [] old new AwaitsHead → TakenAfter [] old new (IsAtMostOne limit)
head_taken old new limit t = (t.0, t.1, inl (omega (arith, t.2.room)))

-- what was taken after the bytes that came was taken after all
pub taken_on : (old mid new : Option (List ℕ)) (came : List ℕ) (P : List ℕ → Type 0) → Consumes old mid came → TakenAfter came mid new P → TakenAfter [] old new P
taken_on old mid new came P c h = (came ++ h.0, Consumes-trans old mid new came h.0 c h.1, h.2)

-- no more than a body was taken after its start: the start has less than the body, or nothing was taken
pub body_taken : (old new : Option (List ℕ)) (buf start came : List ℕ) (k n limit : ℕ) → start ≡ came → length buf ≤ 8192 → k ≡ min (length start) n
    → (t : TakenAfter (take k start) old new (λ l. length l ≤ n)) (f : Front) → f.rest ≡ came ++ t.0 → HasCall limit (buf ++ t.0) f n → TakenAfter buf old new (IsAtMostOne limit)
body_taken old new buf start came k n limit same room e t f rest call = by_case (cases_lt (length start) n)
  where
    by_case : (length start < n) ⊎ (n ≤ length start) → TakenAfter buf old new (IsAtMostOne limit)
    by_case (inl short) =
        let all : take k start ≡ came = take_all k start (omega (arith, e, short)) ∙ same in
        let fits : length (came ++ t.0) ≤ n = subst (λ l. length (l ++ t.0) ≤ n) all t.2 in
        let whole : length f.rest ≡ length (came ++ t.0) = ap length rest in
        (t.0, t.1, inr (f, n, call, omega (arith, whole, fits)))
    by_case (inr enough) =
        let first : length (take k start) ≡ n = length-take-le k start (omega (arith, e, enough)) ∙ omega (arith, e, enough) in
        (t.0, t.1, inl (omega (arith, room, first, t.2, length-append (take k start) t.0, length-append buf t.0)))

-- a fault of the body, after bytes that came with the head, is one of the request
pub of_body : (old new : Option (List ℕ)) (limit : ℕ) (buf start came : List ℕ) (k n : ℕ) → start ≡ came → k ≡ min (length start) n → (f : List ℕ → Front) → ((more : List ℕ) → (f more).rest ≡ came ++ more)
    → ((more : List ℕ) → HasCall limit (buf ++ more) (f more) n) → (e : BodyFault)
    → TakenAfter (take k start) old new (λ l. IsBodyFaultOf n l e) → TakenAfter buf old new (λ l. IsFaultOf limit l (fault_of e))
of_body old new limit buf start came k n same few f rest call body.Read t =
    let short : length (came ++ t.0) < n = subst (λ l. length (l ++ t.0) < n) same (body_short start t.0 k n few t.2) in
    (t.0, t.1, inr (f t.0, n, call t.0, subst (λ l. length l < n) (sym (rest t.0)) short))
of_body old new limit buf start came k n same few f rest call body.Memory t =
    let some : 0 < length (came ++ t.0) = subst (λ l. 0 < length (l ++ t.0)) same (body_some start t.0 k t.2.0) in
    (t.0, t.1, (f t.0, n, call t.0, omega (arith, t.2.0, t.2.1), subst (λ l. 0 < length l) (sym (rest t.0)) some))

-- that is no more than the room of a head and a body
at_most : (limit : ℕ) (taken : List ℕ) → IsAtMostOne limit taken → length taken ≤ 8192 + limit
at_most limit taken (inl few) = omega (arith, few)
at_most limit taken (inr (f, n, call, fits)) =
    let begins = call.begins.begins in
    let is : length taken ≡ length (print_request f.head ++ f.rest) = ap length begins.reads.1 in
    omega (arith, is, length-append (print_request f.head) f.rest, begins.short, fits, call.within)

pub most_taken : (limit : ℕ) (old new : Option (List ℕ)) → TakenAfter [] old new (IsAtMostOne limit) → TakenAfter [] old new (λ taken. length taken ≤ 8192 + limit)
most_taken limit old new t = (t.0, t.1, at_most limit t.0 t.2)

-- a body that was begun is begun in all bytes
begins_more : (limit : ℕ) (taken later : List ℕ) → BeginsBody limit taken → BeginsBody limit (taken ++ later)
begins_more limit taken later h =
    let f = h.0 in
    let call = h.2 in (
      record { head = f.head; user = f.user; rest = f.rest ++ later },
      h.1,
      record {
        begins = record {
          begins = record { reads = ReadsRequest-append taken f.head f.rest later call.begins.begins.reads; short = call.begins.begins.short; few = call.begins.begins.few };
          named = call.begins.named;
        };
        reported = call.reported;
        path = call.path;
        within = call.within;
      },
      h.3,
      omega (arith, h.4, length-append f.rest later),
    )

begins_known : (limit : ℕ) (old new : Option (List ℕ)) → TakenAfter [] old new (BeginsBody limit) → IfSome old (BeginsBody limit)
begins_known limit None new t = tt
begins_known limit (Some x) None t = absurd t.1
begins_known limit (Some x) (Some y) t = subst (BeginsBody limit) (sym t.1) (begins_more limit t.0 y t.2)

of_fault : (limit : ℕ) (old new : Option (List ℕ)) (e : AskFault) → TakenAfter [] old new (λ taken. IsFaultOf limit taken e) → e ≡ Memory → IfSome old (BeginsBody limit)
of_fault limit old new Broken t is = absurd (let d : Broken ≡ Memory = is in cc)
of_fault limit old new Memory t is = begins_known limit old new t

-- memory is wanted only for bytes that begin a body
pub memory_of : {X : Type 0} (limit : ℕ) (old new : Option (List ℕ)) (r : Result X AskFault) → IfErr r (λ e. TakenAfter [] old new (λ taken. IsFaultOf limit taken e))
    → IfErr r (λ e. e ≡ Memory → IfSome old (BeginsBody limit))
memory_of limit old new (Ok x) h = tt
memory_of limit old new (Err e) h = of_fault limit old new e h
