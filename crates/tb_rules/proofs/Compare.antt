-- a text that is compared with characters as they come
use Rattle.std.proofs.Common.{◌≡◌, ◌≢◌, ◌↔◌, ℕ, ◌<◌, List, [], ◌∷◌, ◌++◌, length, Bool, true, false, not, ◌||◌, ltb, refl, sym, ◌∙◌, ap, subst, arith, append_assoc, lit<, IsTrue, eqb, eq-eqb, take, drop, get_or, length-append, Option, Some, None}
use Rattle.std.specs.Option.{MatchOption}
use Rattle.std.proofs.Math.Seq.{get_or-append_seam, take-append_seam, drop-append_seam}
use Rattle.std.specs.Char.{is_whitespace}
use Rattle.std.specs.List.{list_any}
use Rattle.std.specs.Str.{chars, IsUtf8}
use Rattle.std.proofs.lemmas.Bool.{and_parts, true≢false, eqb-true}
use Rattle.std.proofs.lemmas.List.{append_cancel_left, append-nil}
use Rattle.std.proofs.lemmas.Str.{encode_ascii, encodes-append, encodes-chars, chars-append, chars_past_char, IsUtf8-take, IsUtf8-drop, IsCharBoundary-before_ascii}
use borrow.Author.Tests.{ltb-true}
use lib.Utf8.{encode, encodes}
use Rattle.tb_chars.specs.Spaces.{has_space}
use Rattle.tb_chars.specs.Spaces.{is_solid}
use Rattle.tb_rules.specs.Restored.{folded}
use Rattle.tb_rules.specs.Expected.{folded_after, gap_text, IsRest, Refuses, Leaves}
use Rattle.tb_rules.proofs.Pieces.{folds}

neither : (a b : Bool) → (a || b) ≡ false → (a ≡ false) × (b ≡ false)
neither true b h = absurd (true≢false h)
neither false b h = (refl, h)

not_true : (b : Bool) → not b ≡ true → b ≡ false
not_true true h = sym h
not_true false h = refl

pub space_is : (begun gap : Bool) → begun ≡ true → gap ≡ true → encode 32 ≡ gap_text begun gap
space_is begun gap b g = rw b (rw g (encode_ascii 32 (lit< tt)))

-- the text that comes is this piece, behind a space where white space came
abbrev pub IsPiece : Bool → Bool → List ℕ → List ℕ → Type 0
IsPiece begun gap cs piece = (next : List ℕ) → encodes (folded_after begun gap (cs ++ next)) ≡ gap_text begun gap ++ (piece ++ encodes (folded_after true false next))

pub char_comes : (begun gap : Bool) (c : ℕ) → is_whitespace c ≡ false → IsPiece begun gap (c ∷ []) (encode c)
char_comes true true c h next = rw h (ap (λ s. s ++ (encode c ++ encodes (folded_after true false next))) (encode_ascii 32 (lit< tt)))
char_comes true false c h next = rw h refl
char_comes false gap c h next = rw h refl

-- characters without white space come as they are
as_they_are : (cs next : List ℕ) → list_any is_whitespace cs ≡ false → folded_after true false (cs ++ next) ≡ cs ++ folded_after true false next
as_they_are [] next h = refl
as_they_are (c ∷ cs) next h = let parts = neither (is_whitespace c) (list_any is_whitespace cs) h in rw parts.0 (ap (λ (x : List ℕ). c ∷ x) (as_they_are cs next parts.1))

pub chars_come : (begun gap : Bool) (cs : List ℕ) → list_any is_whitespace cs ≡ false → 0 < length cs → IsPiece begun gap cs (encodes cs)
chars_come begun gap [] h l next = absurd (omega arith)
chars_come begun gap (c ∷ cs) h l next =
    let parts = neither (is_whitespace c) (list_any is_whitespace cs) h in
    let after = folded_after true false next in
    char_comes begun gap c parts.0 (cs ++ next) ∙
    ap (λ (x : List ℕ). gap_text begun gap ++ x) (ap (λ (x : List ℕ). encode c ++ encodes x) (as_they_are cs next parts.1) ∙ (ap (λ (x : List ℕ). encode c ++ x) (encodes-append cs after) ∙ sym (append_assoc (encode c) (encodes cs) (encodes after))))

some_chars : (cs : List ℕ) → 0 < length (encodes cs) → 0 < length cs
some_chars [] h = absurd (omega arith)
some_chars (c ∷ cs) h = omega arith

pub text_comes : (begun gap : Bool) (text : List ℕ) → IsUtf8 text → is_solid text ≡ true → IsPiece begun gap (chars text) text
text_comes begun gap text utf8 solid =
    let parts = and_parts (ltb 0 (length text)) (not (has_space text)) solid in
    let whole : encodes (chars text) ≡ text = encodes-chars text utf8 in
    let some : 0 < length (encodes (chars text)) = omega (arith, ltb-true 0 (length text) parts.0, ap length whole) in
    subst (IsPiece begun gap (chars text)) whole (chars_come begun gap (chars text) (not_true (has_space text) parts.1) (some_chars (chars text) some))

-- ---- what a piece does to the rest

pub refuses_gap : (rest : List ℕ) (begun gap : Bool) (cs piece : List ℕ) → IsPiece begun gap cs piece → ((r : List ℕ) → rest ≢ gap_text begun gap ++ r) → Refuses rest begun gap cs
refuses_gap rest begun gap cs piece h none next is = none (piece ++ encodes (folded_after true false next)) (is ∙ h next)

pub refuses_piece : (rest : List ℕ) (begun gap : Bool) (cs piece behind : List ℕ) → IsPiece begun gap cs piece → rest ≡ gap_text begun gap ++ behind → ((r : List ℕ) → behind ≢ piece ++ r) → Refuses rest begun gap cs
refuses_piece rest begun gap cs piece behind h e none next is =
    none (encodes (folded_after true false next)) (append_cancel_left (gap_text begun gap) behind (piece ++ encodes (folded_after true false next)) (sym e ∙ (is ∙ h next)))

pub leaves_piece : (rest : List ℕ) (begun gap : Bool) (cs piece behind left : List ℕ) → IsPiece begun gap cs piece → rest ≡ gap_text begun gap ++ behind → behind ≡ piece ++ left → Leaves rest begun gap cs left true false
leaves_piece rest begun gap cs piece behind left h e f next = (
  λ is. e ∙ (ap (λ x. gap_text begun gap ++ x) (f ∙ ap (λ x. piece ++ x) is) ∙ sym (h next)),
  λ is. append_cancel_left piece left (encodes (folded_after true false next)) (sym f ∙ append_cancel_left (gap_text begun gap) behind (piece ++ encodes (folded_after true false next)) (sym e ∙ (is ∙ h next))),
)

pub leaves_space : (rest : List ℕ) (begun gap : Bool) (c : ℕ) → is_whitespace c ≡ true → Leaves rest begun gap (c ∷ []) rest begun true
leaves_space rest begun gap c h next = rw h (λ is. is, λ is. is)

-- ---- one after another

pub leaves_then : (rest rest' rest'' : List ℕ) (begun gap begun' gap' begun'' gap'' : Bool) (cs ds : List ℕ) → Leaves rest begun gap cs rest' begun' gap' → Leaves rest' begun' gap' ds rest'' begun'' gap'' → Leaves rest begun gap (cs ++ ds) rest'' begun'' gap''
leaves_then rest rest' rest'' begun gap begun' gap' begun'' gap'' cs ds h k next = rw (append_assoc cs ds next) (λ is. (h (ds ++ next)).0 ((k next).0 is), λ is. (k next).1 ((h (ds ++ next)).1 is))

pub refuses_then : (rest rest' : List ℕ) (begun gap begun' gap' : Bool) (cs ds : List ℕ) → Leaves rest begun gap cs rest' begun' gap' → Refuses rest' begun' gap' ds → Refuses rest begun gap (cs ++ ds)
refuses_then rest rest' begun gap begun' gap' cs ds h k next is = k next ((h (ds ++ next)).1 (let f : IsRest rest begun gap (cs ++ (ds ++ next)) = rw (sym (append_assoc cs ds next)) is in f))

-- ---- what is still to come

-- these characters are still to come, of those that the comparison began with
abbrev pub Awaits : List ℕ → Bool → Bool → List ℕ → List ℕ → Bool → Bool → List ℕ → Type 0
Awaits rest begun gap all now begun' gap' left = (next : List ℕ) → IsRest now begun' gap' (left ++ next) ↔ IsRest rest begun gap (all ++ next)

pub awaits_less : (rest now now' : List ℕ) (begun gap begun' gap' begun'' gap'' : Bool) (all left cs less : List ℕ) → left ≡ cs ++ less → Awaits rest begun gap all now begun' gap' left → Leaves now begun' gap' cs now' begun'' gap'' → Awaits rest begun gap all now' begun'' gap'' less
awaits_less rest now now' begun gap begun' gap' begun'' gap'' all left cs less e h k next = (
  λ is. (h next).0 (rw e (rw (append_assoc cs less next) ((k (less ++ next)).0 is))),
  λ is. (k (less ++ next)).1 (rw (sym (append_assoc cs less next)) (rw (sym e) ((h next).1 is))),
)

pub awaits_refused : (rest now : List ℕ) (begun gap begun' gap' : Bool) (all left cs less : List ℕ) → left ≡ cs ++ less → Awaits rest begun gap all now begun' gap' left → Refuses now begun' gap' cs → Refuses rest begun gap all
awaits_refused rest now begun gap begun' gap' all left cs less e h k next is = k (less ++ next) (rw (sym (append_assoc cs less next)) (rw (sym e) ((h next).1 is)))

pub awaits_none : (rest now : List ℕ) (begun gap begun' gap' : Bool) (all left : List ℕ) → left ≡ [] → Awaits rest begun gap all now begun' gap' left → Leaves rest begun gap all now begun' gap'
awaits_none rest now begun gap begun' gap' all left e h next = (
  λ is. (h next).0 (subst (λ (xs : List ℕ). IsRest now begun' gap' (xs ++ next)) (sym e) is),
  λ is. subst (λ (xs : List ℕ). IsRest now begun' gap' (xs ++ next)) e ((h next).1 is),
)

-- ---- the end

no_items : (xs : List ℕ) → length xs ≡ 0 → xs ≡ []
no_items [] e = refl
no_items (x ∷ xs) e = absurd (omega arith)

at_end : (now text : List ℕ) (begun gap : Bool) (cs : List ℕ) → Leaves text false false cs now begun gap → (now ≡ [] → encodes (folded_after false false cs) ≡ text) × (encodes (folded_after false false cs) ≡ text → now ≡ [])
at_end now text begun gap cs h =
    let whole : cs ++ [] ≡ cs = append-nil cs in (
      λ e. sym (subst (IsRest text false false) whole ((h []).0 e)),
      λ e. (h []).1 (subst (IsRest text false false) (sym whole) (sym e)),
    )

-- nothing is left, and all has come
pub all_came : (first now text : List ℕ) (b g begun gap done : Bool) (cs : List ℕ) → first ≡ text → b ≡ false → g ≡ false → Leaves first b g cs now begun gap → done ≡ eqb (length now) 0 → IsTrue done ↔ (encodes (folded cs) ≡ text)
all_came first now text b g begun gap done cs e f k h d =
    let h' : Leaves text false false cs now begun gap = subst (λ (x : List ℕ). Leaves x false false cs now begun gap) e (subst (λ x. Leaves first x false cs now begun gap) f (subst (λ x. Leaves first b x cs now begun gap) k h)) in
    let ends = at_end now text begun gap cs h' in (
      λ t. ap encodes (sym (folds cs)) ∙ ends.0 (no_items now (eqb-true (length now) 0 (sym d ∙ t))),
      λ t. d ∙ eq-eqb (length now) 0 (ap length (ends.1 (ap encodes (folds cs) ∙ t))),
    )

-- what came was refused
pub not_came : (first text : List ℕ) (b g : Bool) (cs : List ℕ) → first ≡ text → b ≡ false → g ≡ false → Refuses first b g cs → IsTrue false ↔ (encodes (folded cs) ≡ text)
not_came first text b g cs e f k h =
    let h' : Refuses text false false cs = subst (λ (x : List ℕ). Refuses x false false cs) e (subst (λ x. Refuses first x false cs) f (subst (λ x. Refuses first b x cs) k h)) in (
      λ t. absurd (true≢false (sym t)),
      λ t. absurd (h' [] (subst (IsRest text false false) (sym (append-nil cs)) (sym (ap encodes (folds cs) ∙ t)))),
    )

-- ---- a text and its first space

pub match_both : {X P P' : Type 0} {Q Q' : X → Type 0} (o : Option X) → MatchOption o P Q → (P → P') → ((x : X) → Q x → Q' x) → MatchOption o P' Q'
match_both None h f g = f h
match_both (Some x) h f g = g x h

before_space : (text piece more : List ℕ) → IsUtf8 text → text ≡ piece ++ (32 ∷ more) → IsUtf8 piece
before_space text piece more utf8 e =
    let at : get_or text (length piece) 0 ≡ 32 = ap (λ (x : List ℕ). get_or x (length piece) 0) e ∙ get_or-append_seam piece 32 more 0 in
    let l : length piece < length text = omega (arith, ap length e, length-append piece (32 ∷ more)) in
    let front : take (length piece) text ≡ piece = ap (take (length piece)) e ∙ take-append_seam piece (32 ∷ more) in
    subst IsUtf8 front (IsUtf8-take text (length piece) utf8 (IsCharBoundary-before_ascii text (length piece) l (omega arith)))

after_space : (text piece more : List ℕ) → IsUtf8 text → text ≡ piece ++ (32 ∷ more) → IsUtf8 (32 ∷ more)
after_space text piece more utf8 e =
    let at : get_or text (length piece) 0 ≡ 32 = ap (λ (x : List ℕ). get_or x (length piece) 0) e ∙ get_or-append_seam piece 32 more 0 in
    let l : length piece < length text = omega (arith, ap length e, length-append piece (32 ∷ more)) in
    let back : drop (length piece) text ≡ 32 ∷ more = ap (drop (length piece)) e ∙ drop-append_seam piece (32 ∷ more) in
    subst IsUtf8 back (IsUtf8-drop text (length piece) utf8 (IsCharBoundary-before_ascii text (length piece) l (omega arith)))

pub chars_at_space : (text piece more : List ℕ) → IsUtf8 text → text ≡ piece ++ (32 ∷ more) → chars text ≡ chars piece ++ (32 ∷ chars more)
chars_at_space text piece more utf8 e =
    ap chars e ∙ (chars-append piece (32 ∷ more) (before_space text piece more utf8 e) ∙
    ap (λ x. chars piece ++ x) (chars_past_char (32 ∷ more) more 32 (after_space text piece more utf8 e) (ap (λ (x : List ℕ). x ++ more) (sym (encode_ascii 32 (lit< tt))))))
