-- What was told of all bytes holds of each line, and of what follows it.
use Rattle.std.proofs.Common.{◌≡◌, ℕ, ◌<◌, List, ◌∷◌, ◌++◌, length, take, drop, get_or, Bool, false, sym, ◌∙◌, ap, subst, arith, length-append}
use Rattle.std.specs.List.{list_any}
use Rattle.std.specs.Str.{IsUtf8}
use Rattle.std.proofs.Math.Seq.{get_or-append_seam, take-append_seam, drop-append_seam}
use Rattle.std.proofs.lemmas.Bool.{or_parts}
use Rattle.std.proofs.lemmas.List.Folds.{list_any-append}
use Rattle.std.proofs.lemmas.Str.{IsUtf8-take, IsUtf8-drop, IsUtf8-past_char, IsCharBoundary-before_ascii, encode_ascii}
use Rattle.tb_conllu.specs.Plain.{is_beyond_latin}
use Rattle.tb_conllu.specs.Tested.{HoldsOf, HoldsOfLine}
use Rattle.tb_conllu.specs.declared.linetext.Tested.{Tested}
use Rattle.tb_conllu.proofs.Cuts.{Lacks}
use Rattle.tb_conllu.proofs.Reading.{quiet_raw, quiet_parts}

any_parts : (p : ℕ → Bool) (rest raw after : List ℕ) → list_any p rest ≡ false → rest ≡ raw ++ 10 ∷ after → (list_any p raw ≡ false) × (list_any p (10 ∷ after) ≡ false)
any_parts p rest raw after h e = or_parts (list_any p raw) (list_any p (10 ∷ after)) (sym (list_any-append p raw (10 ∷ after)) ∙ ap (list_any p) (sym e) ∙ h)

feed_at : (rest raw after : List ℕ) → rest ≡ raw ++ 10 ∷ after → get_or rest (length raw) 0 ≡ 10
feed_at rest raw after e = ap (λ (x : List ℕ). get_or x (length raw) 0) e ∙ get_or-append_seam raw 10 after 0

utf8_line : (rest raw after : List ℕ) → IsUtf8 rest → rest ≡ raw ++ 10 ∷ after → IsUtf8 raw
utf8_line rest raw after h e =
    let at = feed_at rest raw after e in
    let l : length raw < length rest = omega (arith, ap length e, length-append raw (10 ∷ after)) in
    let front : take (length raw) rest ≡ raw = ap (take (length raw)) e ∙ take-append_seam raw (10 ∷ after) in
    subst IsUtf8 front (IsUtf8-take rest (length raw) h (IsCharBoundary-before_ascii rest (length raw) l (omega (arith, at))))

utf8_after : (rest raw after : List ℕ) → IsUtf8 rest → rest ≡ raw ++ 10 ∷ after → IsUtf8 after
utf8_after rest raw after h e =
    let at = feed_at rest raw after e in
    let l : length raw < length rest = omega (arith, ap length e, length-append raw (10 ∷ after)) in
    let back : drop (length raw) rest ≡ 10 ∷ after = ap (drop (length raw)) e ∙ drop-append_seam raw (10 ∷ after) in
    let whole : IsUtf8 (10 ∷ after) = subst IsUtf8 back (IsUtf8-drop rest (length raw) h (IsCharBoundary-before_ascii rest (length raw) l (omega (arith, at)))) in
    IsUtf8-past_char (10 ∷ after) after 10 whole (ap (λ (x : List ℕ). x ++ after) (sym (encode_ascii 10 (omega arith))))

pub line_holds : (t : Tested) (rest raw after : List ℕ) → HoldsOf t rest → rest ≡ raw ++ 10 ∷ after → Lacks 10 raw → HoldsOfLine t raw
line_holds t rest raw after h e cut =
    record {
      quiet = λ is. quiet_raw rest raw after (h.quiet is) e cut;
      utf8 = λ is. utf8_line rest raw after (h.utf8 is) e;
      latin = λ is. (any_parts is_beyond_latin rest raw after (h.latin is) e).0;
    }

pub after_holds : (t : Tested) (rest raw after : List ℕ) → HoldsOf t rest → rest ≡ raw ++ 10 ∷ after → HoldsOf t after
after_holds t rest raw after h e =
    record {
      quiet = λ is. (quiet_parts rest raw after (h.quiet is) e).1;
      utf8 = λ is. utf8_after rest raw after (h.utf8 is) e;
      latin = λ is. (or_parts (is_beyond_latin 10) (list_any is_beyond_latin after) (any_parts is_beyond_latin rest raw after (h.latin is) e).1).1;
    }
