-- The lexemes of a text, from lexeme to lexeme.
use Rattle.std.proofs.Common.{◌≡◌, ℕ, suc, ◌+◌, ◌-◌, ◌<◌, ◌≤◌, List, [], ◌∷◌, ◌++◌, length, take, drop, get_or, Bool, true, false, not, ◌&&◌, refl, sym, ap, subst, ◌∙◌, append_assoc, append-nil, length-append, length-drop, drop-drop, arith, inl, inr, add-one, drop-cons}
use Rattle.std.specs.List.{list_all}
use Rattle.std.proofs.lemmas.Bool.{false≢true}
use Rattle.std.proofs.lemmas.List.{drop_all, take_all}
use Rattle.tb_syntax.specs.declared.lexeme.Lexeme.{Lexeme}
use Rattle.tb_syntax.specs.declared.lexeme.Lexeme.TheVariants.{Stray}
use Rattle.tb_syntax.specs.declared.lexing.Span.{Span}
use Rattle.tb_syntax.specs.Spelling.{Starts, IsStray}
use Rattle.tb_syntax.specs.Lexing.{is_white, begins_black, literals_after, Lexes}
use Rattle.tb_syntax.proofs.Firsts.{shorter, one_first}

-- white space before
pub white_before : (at k c : ℕ) (cs : List ℕ) (ls : List Lexeme) (ss : List Span) → is_white c ≡ true → Lexes (at + 1) k cs ls ss → Lexes at k (c ∷ cs) ls ss
white_before at k c cs [] [] w h = rw w h
white_before at k c cs [] (s ∷ ss) w h = absurd h
white_before at k c cs (l ∷ ls) [] w h = absurd h
white_before at k c cs (l ∷ ls) (s ∷ ss) w (gap, tail, e, white, black, start, rest) =
    (c ∷ gap, tail, ap (λ t. c ∷ t) e, rw w white, black, omega arith, rest)

-- a lexeme before
lexeme_before : (at k n e : ℕ) (text : List ℕ) (l : Lexeme) (ls : List Lexeme) (ss : List Span) → begins_black text ≡ true → Starts k text l (drop n text) →
    n ≤ length text → e ≡ at + n → Lexes e (literals_after k l) (drop n text) ls ss → Lexes at k text (l ∷ ls) (record { start = at; end = e } ∷ ss)
lexeme_before at k n e text l ls ss black starts le end h =
    ([], text, refl, refl, black, omega arith, inl (drop n text, starts, omega (arith, length-drop n text), h))

-- no lexeme there
pub stray_here : (at k : ℕ) (text : List ℕ) → begins_black text ≡ true → IsStray k text → Lexes at k text (Stray ∷ []) (record { start = at; end = at } ∷ [])
stray_here at k text black none = ([], text, refl, refl, black, omega arith, inr (none, refl, refl, refl, refl))

-- the lexemes that have been read, whatever follows
pub record Read (text : List ℕ) (at k : ℕ) (ls : List Lexeme) (ss : List Span) : Type 0 where
  pub then : (more : List Lexeme) (places : List Span) → Lexes at k (drop at text) more places → Lexes 0 0 text (ls ++ more) (ss ++ places)

pub nothing_read : (text : List ℕ) (ls : List Lexeme) (ss : List Span) → ls ≡ [] → ss ≡ [] → Read text 0 0 ls ss
nothing_read text ls ss e f = record { then = λ more places h. rw (e, f) h }

black_at : (text : List ℕ) (at : ℕ) → at < length text → is_white (get_or text at 0) ≡ false → begins_black (drop at text) ≡ true
black_at text at lt w = rw (drop-cons text at 0 lt, w) refl

-- white space more
pub one_white : (text : List ℕ) (at k : ℕ) (ls : List Lexeme) (ss : List Span) → Read text at k ls ss → at < length text → is_white (get_or text at 0) ≡ true →
    Read text (at + 1) k ls ss
one_white text at k ls ss r lt w = record {
  then = λ more places h. r.then more places
      (subst (λ t. Lexes at k t more places) (sym (drop-cons text at 0 lt))
      (white_before at k (get_or text at 0) (drop (suc at) text) more places w (subst (λ n. Lexes (at + 1) k (drop n text) more places) (add-one at) h)));
}

-- a lexeme more
pub one_lexeme : (text : List ℕ) (at k n e j : ℕ) (l : Lexeme) (ls ms : List Lexeme) (ss bs : List Span) → Read text at k ls ss → at < length text →
    is_white (get_or text at 0) ≡ false → Starts k (drop at text) l (drop n (drop at text)) → n ≤ length (drop at text) → e ≡ at + n →
    j ≡ literals_after k l → ms ≡ ls ++ l ∷ [] → bs ≡ ss ++ record { start = at; end = e } ∷ [] → Read text e j ms bs
one_lexeme text at k n e j l ls ms ss bs r lt w starts le end count f g = record {
  then = λ more places h.
      rw (f, g, append_assoc, append_assoc)
      (r.then (l ∷ more) (record { start = at; end = e } ∷ places)
      (lexeme_before at k n e (drop at text) l more places (black_at text at lt w) starts le end
      (subst (λ t. Lexes e (literals_after k l) t more places) (ap (λ m. drop m text) end ∙ sym (drop-drop n at text)) (subst (λ m. Lexes e m (drop e text) more places) count h))));
}

pub all_read : (text : List ℕ) (at k : ℕ) (ls : List Lexeme) (ss : List Span) → Read text at k ls ss → length text ≤ at → Lexes 0 0 text ls ss
all_read text at k ls ss r le =
    let end : Lexes at k (drop at text) [] [] = rw (drop_all at text le) refl in
    rw (append-nil, append-nil) at (r.then [] [] end)

pub stray_last : (text : List ℕ) (at k : ℕ) (ls ms : List Lexeme) (ss bs : List Span) → Read text at k ls ss → at < length text →
    is_white (get_or text at 0) ≡ false → IsStray k (drop at text) → ms ≡ ls ++ Stray ∷ [] → bs ≡ ss ++ record { start = at; end = at } ∷ [] → Lexes 0 0 text ms bs
stray_last text at k ls ms ss bs r lt w none f g =
    rw (f, g) (r.then (Stray ∷ []) (record { start = at; end = at } ∷ []) (stray_here at k (drop at text) (black_at text at lt w) none))

-- a slice to the end
pub to_end : (text : List ℕ) (at : ℕ) → take (length text - at) (drop at text) ≡ drop at text
to_end text at = take_all (length text - at) (drop at text) (omega (arith, length-drop at text))

black_has : (tail : List ℕ) → begins_black tail ≡ true → 1 ≤ length tail
black_has [] b = absurd (false≢true b)
black_has (c ∷ cs) b = omega arith

and_first : (a b : Bool) → (a && b) ≡ true → a ≡ true
and_first true b e = refl
and_first false b e = e

and_second : (a b : Bool) → (a && b) ≡ true → b ≡ true
and_second true b e = e
and_second false b e = absurd (false≢true e)

few_left : (at k : ℕ) (text : List ℕ) (ls : List Lexeme) (ss : List Span) → Lexes at k text ls ss → length ls ≤ length text
few_left at k text [] ss h = omega arith
few_left at k text (l ∷ ls) [] h = absurd h
few_left at k text (l ∷ ls) (s ∷ ss) (gap, tail, e, white, black, start, inl (rest, starts, end, more)) =
    let left = few_left s.end (literals_after k l) rest ls ss more in
    let one = shorter k tail l rest starts in
    omega (arith, simp length-append at (ap length e))
few_left at k text (l ∷ ls) (s ∷ ss) (gap, tail, e, white, black, start, inr (none, stray, end, none_left, no_place)) =
    let some = black_has tail black in
    omega (arith, simp length-append at (ap length e), ap length none_left)

-- a text has no more lexemes than bytes
pub few : (text : List ℕ) (ls : List Lexeme) (ss : List Span) → Lexes 0 0 text ls ss → length ls ≤ length text
few text ls ss h = few_left 0 0 text ls ss h

-- one list of lexemes

white_or_black : (c : ℕ) → is_white c ≡ true → not (is_white c) ≡ true → ⊥
white_or_black c w b = false≢true (ap not (sym w) ∙ b)

no_black : (gap tail : List ℕ) → list_all is_white (gap ++ tail) ≡ true → begins_black tail ≡ true → ⊥
no_black [] [] w b = false≢true b
no_black [] (c ∷ cs) w b = white_or_black c (and_first (is_white c) (list_all is_white cs) w) b
no_black (g ∷ gap) tail w b = no_black gap tail (and_second (is_white g) (list_all is_white (gap ++ tail)) w) b

record SameTail (g h t u : List ℕ) : Type 0 where
  gaps : g ≡ h
  tails : t ≡ u

one_gap : (g h t u : List ℕ) → g ++ t ≡ h ++ u → list_all is_white g ≡ true → list_all is_white h ≡ true → begins_black t ≡ true → begins_black u ≡ true → SameTail g h t u
one_gap [] [] t u e v w a b = record { gaps = refl; tails = e }
one_gap [] (c ∷ h) t u e v w a b = absurd (white_or_black c (and_first (is_white c) (list_all is_white h) w) (ap begins_black (sym e) ∙ a))
one_gap (c ∷ g) [] t u e v w a b = absurd (white_or_black c (and_first (is_white c) (list_all is_white g) v) (ap begins_black e ∙ b))
one_gap (c ∷ g) (d ∷ h) t u e v w a b =
    let head : c ≡ d = cc (e) in
    let s = one_gap g h t u (cc (e)) (and_second (is_white c) (list_all is_white g) v) (and_second (is_white d) (list_all is_white h) w) a b in
    record { gaps = cc (head, s.gaps); tails = s.tails }

abbrev span : ℕ → ℕ → Span
span a b = record { start = a; end = b }

record Same (ls ms : List Lexeme) (ss ts : List Span) : Type 0 where
  lexemes : ls ≡ ms
  spans : ss ≡ ts

one_more : (l m : Lexeme) (s t : Span) (ls ms : List Lexeme) (ss ts : List Span) → l ≡ m → s.start ≡ t.start → s.end ≡ t.end → Same ls ms ss ts → Same (l ∷ ls) (m ∷ ms) (s ∷ ss) (t ∷ ts)
one_more l m s t ls ms ss ts e f g h = record {
  lexemes = cc (e, h.lexemes);
  spans = ap (λ a. span a s.end ∷ ss) f ∙ ap (λ b. span t.start b ∷ ss) g ∙ ap (λ x. t ∷ x) h.spans;
}

same : (at k : ℕ) (text : List ℕ) (ls ms : List Lexeme) (ss ts : List Span) → Lexes at k text ls ss → Lexes at k text ms ts → Same ls ms ss ts
same at k text [] [] [] [] x y = record { lexemes = refl; spans = refl }
same at k text [] ms (s ∷ ss) ts x y = absurd x
same at k text (l ∷ ls) ms [] ts x y = absurd x
same at k text ls [] ss (t ∷ ts) x y = absurd y
same at k text ls (m ∷ ms) ss [] x y = absurd y
same at k text [] (m ∷ ms) [] (t ∷ ts) x (gap, tail, e, white, black, start, rest) =
    absurd (no_black gap tail (ap (list_all is_white) (sym e) ∙ x) black)
same at k text (l ∷ ls) [] (s ∷ ss) [] (gap, tail, e, white, black, start, rest) y =
    absurd (no_black gap tail (ap (list_all is_white) (sym e) ∙ y) black)
same at k text (l ∷ ls) (m ∷ ms) (s ∷ ss) (t ∷ ts) (gap, tail, e, white, black, start, inl (rest, starts, end, more)) (hap, uail, f, vhite, clack, ttart, inl (sest, ttarts, fnd, nore)) =
    let g = one_gap gap hap tail uail (sym e ∙ f) white vhite black clack in
    let o = one_first k uail l m rest sest (subst (λ x. Starts k x l rest) g.tails starts) ttarts in
    let from : s.start ≡ t.start = omega (arith, ap length g.gaps) in
    let to : s.end ≡ t.end = omega (arith, ap length g.tails, ap length o.1) in
    let ended = subst (λ n. Lexes n (literals_after k l) rest ls ss) to more in
    let counted = subst (λ x. Lexes t.end (literals_after k x) rest ls ss) o.0 ended in
    let left = subst (λ r. Lexes t.end (literals_after k m) r ls ss) o.1 counted in
    one_more l m s t ls ms ss ts o.0 from to (same t.end (literals_after k m) sest ls ms ss ts left nore)
same at k text (l ∷ ls) (m ∷ ms) (s ∷ ss) (t ∷ ts) (gap, tail, e, white, black, start, inl (rest, starts, end, more)) (hap, uail, f, vhite, clack, ttart, inr (none, stray, fnd, mo, to)) =
    let g = one_gap gap hap tail uail (sym e ∙ f) white vhite black clack in
    absurd (none l rest (subst (λ x. Starts k x l rest) g.tails starts))
same at k text (l ∷ ls) (m ∷ ms) (s ∷ ss) (t ∷ ts) (gap, tail, e, white, black, start, inr (none, stray, end, lo, so)) (hap, uail, f, vhite, clack, ttart, inl (sest, ttarts, fnd, nore)) =
    let g = one_gap gap hap tail uail (sym e ∙ f) white vhite black clack in
    absurd (none m sest (subst (λ x. Starts k x m sest) (sym g.tails) ttarts))
same at k text (l ∷ ls) (m ∷ ms) (s ∷ ss) (t ∷ ts) (gap, tail, e, white, black, start, inr (none, stray, end, lo, so)) (hap, uail, f, vhite, clack, ttart, inr (mone, ttray, fnd, mo, to)) =
    let g = one_gap gap hap tail uail (sym e ∙ f) white vhite black clack in
    let from : s.start ≡ t.start = omega (arith, ap length g.gaps) in
    one_more l m s t ls ms ss ts (stray ∙ sym ttray) from (omega arith) (record { lexemes = lo ∙ sym mo; spans = so ∙ sym to })

-- a text has one list of lexemes, at one list of places
pub one_lexing : (text : List ℕ) (ls ms : List Lexeme) (ss ts : List Span) → Lexes 0 0 text ls ss → Lexes 0 0 text ms ts → (ls ≡ ms) × (ss ≡ ts)
one_lexing text ls ms ss ts x y = let s = same 0 0 text ls ms ss ts x y in (s.lexemes, s.spans)
