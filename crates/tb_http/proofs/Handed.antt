-- What a source was handed, one call after the other.
use Rattle.std.proofs.Common.{◌≡◌, ℕ, List, [], ◌∷◌, ◌++◌, Option, Some, None, refl, sym, ◌∙◌, ap, append_assoc, append-nil}
use Rattle.tb_http.specs.Rooms.{AllHanded, Fill, IsHanded, Notes}

notes_none : (a : Option (List Fill)) → Notes a a []
notes_none None = tt
notes_none (Some x) = sym (append-nil x)

notes_more : (a b c : Option (List Fill)) (fs gs : List Fill) → Notes a b fs → Notes b c gs → Notes a c (fs ++ gs)
notes_more None b c fs gs p q = tt
notes_more (Some x) None c fs gs p q = absurd p
notes_more (Some x) (Some y) None fs gs p q = absurd q
notes_more (Some x) (Some y) (Some z) fs gs p q = q ∙ ap (λ l. l ++ gs) p ∙ append_assoc x fs gs

-- all bytes that have come after these calls
abbrev pub bytes_after : List ℕ → List Fill → List ℕ
bytes_after before [] = before
bytes_after before (f ∷ fs) = bytes_after (before ++ f.part) fs

after_next : (before : List ℕ) (fs : List Fill) (f : Fill) → bytes_after before (fs ++ f ∷ []) ≡ bytes_after before fs ++ f.part
after_next before [] f = refl
after_next before (g ∷ gs) f = after_next (before ++ g.part) gs f

handed_next : (wanted : List ℕ → ℕ) (before : List ℕ) (fs : List Fill) (f : Fill) → AllHanded wanted before fs → f.room ≡ wanted (bytes_after before fs)
    → AllHanded wanted before (fs ++ f ∷ [])
handed_next wanted before [] f h is = (is, tt)
handed_next wanted before (g ∷ gs) f h is = (h.0, handed_next wanted (before ++ g.part) gs f h.1 is)

-- these bytes have come by calls that were handed the room that is wanted
pub record IsFilling (wanted : List ℕ → ℕ) (before : List ℕ) (old new : Option (List Fill)) (came : List ℕ) : Type 0 where
  pub calls : List Fill
  pub noted : Notes old new calls
  pub bytes : came ≡ bytes_after before calls
  pub all : AllHanded wanted before calls

pub filling_none : (wanted : List ℕ → ℕ) (before : List ℕ) (old : Option (List Fill)) → IsFilling wanted before old old before
filling_none wanted before old = record { calls = []; noted = notes_none old; bytes = refl; all = tt }

-- one more call
pub filling_next : (wanted : List ℕ → ℕ) (before : List ℕ) (old mid new : Option (List Fill)) (came part : List ℕ) (room : ℕ) → IsFilling wanted before old mid came → room ≡ wanted came
    → Notes mid new (record { room = room; part = part } ∷ []) → IsFilling wanted before old new (came ++ part)
filling_next wanted before old mid new came part room h is noted =
    let f : Fill = record { room = room; part = part } in
    record {
      calls = h.calls ++ f ∷ [];
      noted = notes_more old mid new h.calls (f ∷ []) h.noted noted;
      bytes = ap (λ l. l ++ part) h.bytes ∙ sym (after_next before h.calls f);
      all = handed_next wanted before h.calls f h.all (is ∙ ap wanted h.bytes);
    }

pub is_handed : (wanted : List ℕ → ℕ) (before : List ℕ) (old new : Option (List Fill)) (came : List ℕ) → IsFilling wanted before old new came → IsHanded wanted before old new
is_handed wanted before old new came h = (h.calls, h.noted, h.all)
