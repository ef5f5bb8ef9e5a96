-- What holds while a head is read.
use Rattle.std.proofs.Common.{◌≡◌, ◌≤◌, ◌<◌, ◌+◌, ◌-◌, ℕ, List, [], ◌++◌, length, take, drop, Option, Some, None, IfSome, sym, ◌∙◌, ap, ap₂, subst, arith, rules, le_refl, drop_at, length-take-le, take_all, take-append-drop}
use Rattle.std.proofs.lemmas.List.{places}
use Rattle.std.proofs.lemmas.Slice.{take-put_mid_below}
use Rattle.std.proofs.KnownBytes.{Consumes-kept, Consumes-trans}
use borrow.Rule.Slice.PartMut.{put_mid, post_of}
use lib.Seq.{take-add, take-append-le}
use Rattle.std.specs.Io.KnownBytes.{Consumes, Keeps}
use Rattle.httparse.specs.Grammar.{HasNoRequest, MayBecomeRequest, print_request}
use Rattle.tb_http.specs.Faults.{AwaitsHead, TakenAfter}
use Rattle.tb_http.specs.Head.{HasNoHead}

-- so many bytes of the buffer came from the reader
pub record IsReading (old new : Option (List ℕ)) (buf : List ℕ) (filled : ℕ) : Type 0 where
  pub within : filled ≤ 8192
  pub room : length buf ≡ 8192
  pub taken : Consumes old new (take filled buf)

pub take_more : (buf part : List ℕ) (at k n : ℕ) → at ≤ length buf → n ≤ length part
    → take (at + n) (put_mid at k buf part) ≡ take at buf ++ take n part
take_more buf part at k n within fits =
    let after = post_of at k buf in
    take-add at n (put_mid at k buf part)
    ∙ ap₂ (λ x y. x ++ y)
    (take-put_mid_below _ _ _ _ _ (le_refl at) within)
    (ap (take n) (drop_at (take at buf) (part ++ after) at (length-take-le at buf within)) ∙ take-append-le n part after fits)

-- one more read
pub reading_more : (old mid new : Option (List ℕ)) (buf part : List ℕ) (at n : ℕ)
    → IsReading old mid buf at → n ≤ length part → length part ≡ length buf - at → Consumes mid new (take n part)
    → IsReading old new (put_mid at (length buf - at) buf part) (at + n)
reading_more old mid new buf part at n h fits long read =
    let within : at ≤ length buf = omega (arith, h.within, h.room) in
    let joined = take_more buf part at (length buf - at) n within fits in
    record {
      within = omega (arith, h.within, h.room, fits, long);
      room = search (rules, places, h.room, long, within);
      taken = subst (Consumes old new) (sym joined) (Consumes-trans old mid new _ _ h.taken read);
    }

-- a read failed before a head was whole
pub reading_broken : (old mid new : Option (List ℕ)) (buf : List ℕ) (at : ℕ) → IsReading old mid buf at → Keeps mid new → at < 8192
    → HasNoRequest (take at buf) → MayBecomeRequest (take at buf) → TakenAfter [] old new AwaitsHead
reading_broken old mid new buf at h kept room none becoming =
    let long : length (take at buf) ≡ at = length-take-le at buf (omega (arith, h.within, h.room)) in
    (take at buf, Consumes-kept old mid new (take at buf) h.taken kept, record { none = none; becoming = becoming; room = omega (arith, long, room) })

-- the bytes that came are as many as a head may have, and begin with none
pub full : (old new : Option (List ℕ)) (bytes : List ℕ) → 8192 ≤ length bytes → HasNoRequest bytes
    → Consumes old new bytes → IfSome old HasNoHead
full None new bytes long none c = tt
full (Some x) None bytes long none c = absurd c
full (Some x) (Some y) bytes long none c = λ head rest h.
    let text = print_request head in
    let fits : length text ≤ length bytes = omega (arith, h.short, long) in
    let front : take (length text) bytes ≡ text =
    sym (take-append-le (length text) bytes y fits) ∙ ap (take (length text)) (sym c ∙ h.reads.1) ∙ take-append-le (length text) text rest (le_refl (length text)) ∙ take_all (length text) text (le_refl (length text)) in
    let whole : bytes ≡ text ++ drop (length text) bytes =
    sym (take-append-drop (length text) bytes) ∙ ap (λ l. l ++ drop (length text) bytes) front in
    none head (drop (length text) bytes) (h.reads.0, whole)

pub awaits_head : (old new : Option (List ℕ)) (buf : List ℕ) (at : ℕ) → IsReading old new buf at → at < 8192 → HasNoRequest (take at buf) → MayBecomeRequest (take at buf) → AwaitsHead (take at buf)
awaits_head old new buf at h room none becoming =
    let long : length (take at buf) ≡ at = length-take-le at buf (omega (arith, h.within, h.room)) in
    record { none = none; becoming = becoming; room = omega (arith, long, room) }
