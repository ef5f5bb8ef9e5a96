-- A value that is text or not.
use Rattle.std.proofs.Common.{◌≡◌, ℕ, Bool, true, false, List, [], refl}
use Rattle.std.specs.Prelude.{IsUtf8, if◌then◌else◌}
use Rattle.std.specs.Str.{is_utf8}
use Rattle.std.proofs.lemmas.Str.{IsUtf8-from_is_utf8, is_utf8-from_IsUtf8}
use Rattle.tb_http.specs.Headers.{text_of}

pub text : (v : List ℕ) → IsUtf8 v → v ≡ text_of v
text v h = let e : is_utf8 v ≡ true = is_utf8-from_IsUtf8 v h in rw e refl

pub no_text : (v : List ℕ) → ¬ (IsUtf8 v) → [] ≡ text_of v
no_text v h = by_test (is_utf8 v) refl
  where
    by_test : (t : Bool) → is_utf8 v ≡ t → [] ≡ (if t then v else [])
    by_test true e = absurd (h (IsUtf8-from_is_utf8 v e))
    by_test false e = refl
