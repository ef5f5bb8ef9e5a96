-- What is read of a pattern, from part to part.
use Rattle.std.proofs.Common.{◌≡◌, ℕ, ◌+◌, ◌≤◌, min, List, [], ◌∷◌, ◌++◌, length, map, true, false, Option, Some, None, refl, sym, ap, subst, ◌∙◌, append_assoc, length-append, arith}
use Rattle.std.proofs.lemmas.Bool.{false≢true}
use Rattle.std.proofs.lemmas.List.{map-append}
use Rattle.tb_match.specs.declared.pattern.Pat.{Pat}
use Rattle.tb_match.specs.Trees.{Tree, tok, rep, tree}
use Rattle.tb_syntax.specs.declared.expr.Literal.{Literal}
use Rattle.tb_syntax.specs.declared.lexeme.Attr.TheVariants.{Form}
use Rattle.tb_syntax.specs.declared.lexeme.Lexeme.{Lexeme}
use Rattle.tb_syntax.specs.declared.lexeme.Lexeme.TheVariants.{LeftParen, RightParen, LeftBracket, RightBracket, Bar}
use Rattle.tb_syntax.specs.Follow.{begins_flag, begins_bar, begins_unit, begins_atom, begins_rep, EndsTest, EndsItem, EndsCat, EndsAlt}
use Rattle.tb_syntax.specs.Grammar.{test_text, Repeat, quest, star, plus, exactly, at_least, between, rep_text, Alt, one_cat, or_alt, Cat, one_item, and_cat, Item, once, repeated, Atom, any, brackets, bare, parens, alt_text, cat_text, item_text, atom_text, Query, query, query_text, ending_text}
use Rattle.tb_syntax.specs.Parsing.{head, tail, bounds, ReadsLiteral, ReadsTest, ReadsRepeat, ReadsExpr, ReadsAtom, ReadsItem, ReadsItems, ReadsCat, ReadsCats, ReadsAlt, ReadsQuery}
use Rattle.tb_syntax.specs.Pattern.{alt_of, repeated_tree, repeated_within, alt_count, cat_count, item_count, atom_count, alt_parts, cat_parts, item_tree, atom_tree, alt_tests, cat_tests, item_tests, atom_tests, query_tree, query_tests}
use Rattle.tb_syntax.specs.Tests.{Test, every, whole}
use Rattle.tb_syntax.specs.Limits.{query_count}
use Rattle.tb_syntax.proofs.TestLemmas.{is_literal}
use Rattle.tb_syntax.proofs.Unique.{test_begins, rep_no_flag, before_cat, cat_begins, ends_item, ends_cat, ends_alt, cat_bar}

-- token expressions

no_unit_there : (ls : List Lexeme) → head ls ≡ RightBracket → begins_unit ls ≡ true → ⊥
no_unit_there [] h b = false≢true b
no_unit_there (l ∷ ls) h b = false≢true (ap (λ x. begins_unit (x ∷ ls)) (sym h) ∙ b)

any_at : (ls rest : List Lexeme) (t : Test Literal) → head ls ≡ LeftBracket → head (tail ls) ≡ RightBracket → rest ≡ tail (tail ls) → t ≡ every →
    (a : Atom) (end : List Lexeme) → begins_flag end ≡ false → atom_text a ++ end ≡ ls → ((b : Alt) → a ≡ parens b → ⊥) → (atom_tests a ≡ t ∷ []) × (rest ≡ end)
any_at ls rest t h i r s any end f e n = (ap (λ x. x ∷ []) (sym s), r ∙ sym (ap (λ x. tail (tail x)) e))
any_at ls rest t h i r s (brackets u) end f e n =
    let more : test_text u ++ (RightBracket ∷ end) ≡ tail ls = sym (append_assoc (test_text u) (RightBracket ∷ []) end) ∙ ap tail e in
    absurd (no_unit_there (tail ls) i (ap begins_unit (sym more) ∙ test_begins u (RightBracket ∷ end)))
any_at ls rest t h i r s (bare k g) end f e n = let first = ap head e in cc (first, h)
any_at ls rest t h i r s (parens b) end f e n = absurd (n b refl)

pub any_read : (ls tl rest : List Lexeme) (t : Test Literal) → head ls ≡ LeftBracket → tl ≡ tail ls → head tl ≡ RightBracket → rest ≡ tail tl → t ≡ every → ReadsExpr ls t rest
any_read ls tl rest t h s i r z = record { at = λ a end f e n. any_at ls rest t h (ap head (sym s) ∙ i) (r ∙ ap tail s) z a end f e n }

shutting : {x : List Lexeme} → EndsTest (RightBracket ∷ x)
shutting = record { no_flag = refl; no_and = refl; no_bar = refl }

test_at : (ls after rest : List Lexeme) (t : Test Literal) → head ls ≡ LeftBracket → (head (tail ls) ≡ RightBracket → ⊥) → ReadsTest (tail ls) t after → rest ≡ tail after →
    (a : Atom) (end : List Lexeme) → begins_flag end ≡ false → atom_text a ++ end ≡ ls → ((b : Alt) → a ≡ parens b → ⊥) → (atom_tests a ≡ t ∷ []) × (rest ≡ end)
test_at ls after rest t h i r s any end f e n = absurd (i (sym (ap (λ x. head (tail x)) e)))
test_at ls after rest t h i r s (brackets u) end f e n =
    let x = r.at u (RightBracket ∷ end) shutting (sym (append_assoc (test_text u) (RightBracket ∷ []) end) ∙ ap tail e) in
    (ap (λ y. y ∷ []) (sym x.0), s ∙ ap tail x.1)
test_at ls after rest t h i r s (bare k g) end f e n = let first = ap head e in cc (first, h)
test_at ls after rest t h i r s (parens b) end f e n = absurd (n b refl)

pub test_read : (ls tl after rest : List Lexeme) (t : Test Literal) → head ls ≡ LeftBracket → tl ≡ tail ls → (head tl ≡ RightBracket → ⊥) → ReadsTest tl t after → rest ≡ tail after →
    ReadsExpr ls t rest
test_read ls tl after rest t h s i r z = record {
  at = λ a end f e n. test_at ls after rest t h (λ k. i (ap head s ∙ k)) (subst (λ x. ReadsTest x t after) s r) z a end f e n;
}

quote_at : (ls rest : List Lexeme) (l : Literal) (t : Test Literal) → (head ls ≡ LeftBracket → ⊥) → ReadsLiteral ls l rest → t ≡ whole Form l →
    (a : Atom) (end : List Lexeme) → begins_flag end ≡ false → atom_text a ++ end ≡ ls → ((b : Alt) → a ≡ parens b → ⊥) → (atom_tests a ≡ t ∷ []) × (rest ≡ end)
quote_at ls rest l t h r s any end f e n = absurd (h (sym (ap head e)))
quote_at ls rest l t h r s (brackets u) end f e n = absurd (h (sym (ap head e)))
quote_at ls rest l t h r s (bare k g) end f e n =
    let x = r.at k g end f e in
    (ap (λ y. y ∷ []) (sym (s ∙ ap (whole Form) (is_literal l k g x.0 x.1))), x.2)
quote_at ls rest l t h r s (parens b) end f e n = absurd (n b refl)

pub quote_read : (ls rest : List Lexeme) (l : Literal) (t : Test Literal) → (head ls ≡ LeftBracket → ⊥) → ReadsLiteral ls l rest → t ≡ whole Form l → ReadsExpr ls t rest
quote_read ls rest l t h r s = record { at = λ a end f e n. quote_at ls rest l t h r s a end f e n }

-- atoms

abbrev GivesAtom : List (Test Literal) → List (Test Literal) → Tree → List Lexeme → Atom → List Lexeme → Type 0
GivesAtom old new t rest a end = (t ≡ atom_tree (length old) a) × (new ≡ old ++ atom_tests a) × (rest ≡ end)

closing : {x : List Lexeme} → EndsAlt (RightParen ∷ x)
closing = record { no_flag = refl; no_rep = refl; no_atom = refl; no_bar = refl }

parens_at : (ls after rest : List Lexeme) (old new : List (Test Literal)) (t : Tree) → head ls ≡ LeftParen → ReadsAlt (tail ls) old new t after → rest ≡ tail after →
    (a : Atom) (end : List Lexeme) → begins_flag end ≡ false → atom_text a ++ end ≡ ls → length old + atom_count a ≤ 65536 → GivesAtom old new t rest a end
parens_at ls after rest old new t h r s any end f e n = let first = ap head e in cc (first, h)
parens_at ls after rest old new t h r s (brackets u) end f e n = let first = ap head e in cc (first, h)
parens_at ls after rest old new t h r s (bare k g) end f e n = let first = ap head e in cc (first, h)
parens_at ls after rest old new t h r s (parens b) end f e n =
    let x = r.at b (RightParen ∷ end) closing (sym (append_assoc (alt_text b) (RightParen ∷ []) end) ∙ ap tail e) n in
    (x.0, x.1, s ∙ ap tail x.2)

pub parens_read : (ls tl after rest : List Lexeme) (old new : List (Test Literal)) (t : Tree) → head ls ≡ LeftParen → tl ≡ tail ls → ReadsAlt tl old new t after → rest ≡ tail after →
    ReadsAtom ls old new t rest
parens_read ls tl after rest old new t h s r z = record {
  at = λ a end f e n. parens_at ls after rest old new t h (subst (λ x. ReadsAlt x old new t after) s r) z a end f e n;
}

numbered : (old : List (Test Literal)) (n : ℕ) (t : Tree) → t ≡ tok n → n ≡ min (length old) 65535 → length old + 1 ≤ 65536 → t ≡ tok (length old)
numbered old n t e m le = let same : n ≡ length old = omega arith in e ∙ ap tok same

expr_at : (ls rest : List Lexeme) (old new : List (Test Literal)) (x : Test Literal) (n : ℕ) (t : Tree) → (head ls ≡ LeftParen → ⊥) → ReadsExpr ls x rest → n ≡ min (length old) 65535 → t ≡ tok n →
    new ≡ old ++ x ∷ [] →
    (a : Atom) (end : List Lexeme) → begins_flag end ≡ false → atom_text a ++ end ≡ ls → length old + atom_count a ≤ 65536 → GivesAtom old new t rest a end
expr_at ls rest old new x n t h r m s w any end f e le =
    let y = r.at any end f e (λ b k. cc (k)) in
    (numbered old n t s m le, w ∙ ap (λ z. old ++ z) (sym y.0), y.1)
expr_at ls rest old new x n t h r m s w (brackets u) end f e le =
    let y = r.at (brackets u) end f e (λ b k. cc (k)) in
    (numbered old n t s m le, w ∙ ap (λ z. old ++ z) (sym y.0), y.1)
expr_at ls rest old new x n t h r m s w (bare k g) end f e le =
    let y = r.at (bare k g) end f e (λ b i. cc (i)) in
    (numbered old n t s m le, w ∙ ap (λ z. old ++ z) (sym y.0), y.1)
expr_at ls rest old new x n t h r m s w (parens b) end f e le = absurd (h (sym (ap head e)))

pub expr_read : (ls rest : List Lexeme) (old new : List (Test Literal)) (x : Test Literal) (n : ℕ) (t : Tree) → (head ls ≡ LeftParen → ⊥) → ReadsExpr ls x rest → n ≡ min (length old) 65535 →
    t ≡ tok n → new ≡ old ++ x ∷ [] → ReadsAtom ls old new t rest
expr_read ls rest old new x n t h r m s w = record { at = λ a end f e le. expr_at ls rest old new x n t h r m s w a end f e le }

-- items

same_tree : (p : Repeat) (t : Tree) → rep t (bounds p).0 (bounds p).1 ≡ repeated_tree p t
same_tree quest t = refl
same_tree star t = refl
same_tree plus t = refl
same_tree (exactly n) t = refl
same_tree (at_least n) t = refl
same_tree (between n m) t = refl

abbrev GivesItem : List (Test Literal) → List (Test Literal) → Tree → List Lexeme → Item → List Lexeme → Type 0
GivesItem old new t rest i end = (t ≡ item_tree (length old) i) × (new ≡ old ++ item_tests i) × (rest ≡ end)

once_at : (ls mid rest : List Lexeme) (old new : List (Test Literal)) (t : Tree) (found : Option (ℕ × Option ℕ)) → ReadsAtom ls old new t mid → ReadsRepeat mid found rest → found ≡ None →
    (i : Item) (end : List Lexeme) → EndsItem end → item_text i ++ end ≡ ls → length old + item_count i ≤ 65536 → GivesItem old new t rest i end
once_at ls mid rest old new t found r p z (once a) end f e le =
    let x = r.at a end f.no_flag e le in
    let y = p.none (ap begins_rep x.2 ∙ f.no_rep) in
    (x.0, x.1, y.1 ∙ x.2)
once_at ls mid rest old new t found r p z (repeated a q) end f e le =
    let x = r.at a (rep_text q ++ end) (rep_no_flag q end) (sym (append_assoc (atom_text a) (rep_text q) end) ∙ e) le in
    let y = (p.some q end (sym x.2)).0 in
    cc (y, z)

once_read : (ls mid rest : List Lexeme) (old new : List (Test Literal)) (t : Tree) (found : Option (ℕ × Option ℕ)) → ReadsAtom ls old new t mid → ReadsRepeat mid found rest → found ≡ None →
    ReadsItem ls old new t rest
once_read ls mid rest old new t found r p z = record { at = λ i end f e le. once_at ls mid rest old new t found r p z i end f e le }

same_bounds : (x y : ℕ × Option ℕ) → ◌≡◌ {A = Option (ℕ × Option ℕ)} (Some x) (Some y) → x ≡ y
same_bounds x y e = cc (e)

repeated_at : (ls mid rest : List Lexeme) (old new : List (Test Literal)) (t s : Tree) (found : Option (ℕ × Option ℕ)) (n : ℕ) (m : Option ℕ) → ReadsAtom ls old new t mid →
    ReadsRepeat mid found rest → found ≡ Some (n, m) → s ≡ rep t n m →
    (i : Item) (end : List Lexeme) → EndsItem end → item_text i ++ end ≡ ls → length old + item_count i ≤ 65536 → GivesItem old new s rest i end
repeated_at ls mid rest old new t s found n m r p z w (once a) end f e le =
    let x = r.at a end f.no_flag e le in
    let y = (p.none (ap begins_rep x.2 ∙ f.no_rep)).0 in
    cc (y, z)
repeated_at ls mid rest old new t s found n m r p z w (repeated a q) end f e le =
    let x = r.at a (rep_text q ++ end) (rep_no_flag q end) (sym (append_assoc (atom_text a) (rep_text q) end) ∙ e) le in
    let y = p.some q end (sym x.2) in
    let b = same_bounds (n, m) (bounds q) (sym z ∙ y.0) in
    (w ∙ ap (λ (u : ℕ × Option ℕ). rep t u.0 u.1) b ∙ same_tree q t ∙ ap (repeated_tree q) x.0, x.1, y.1)

repeated_read : (ls mid rest : List Lexeme) (old new : List (Test Literal)) (t s : Tree) (found : Option (ℕ × Option ℕ)) (n : ℕ) (m : Option ℕ) → ReadsAtom ls old new t mid →
    ReadsRepeat mid found rest → found ≡ Some (n, m) → s ≡ rep t n m → ReadsItem ls old new s rest
repeated_read ls mid rest old new t s found n m r p z w = record { at = λ i end f e le. repeated_at ls mid rest old new t s found n m r p z w i end f e le }

pub item_read : (ls mid rest : List Lexeme) (old new : List (Test Literal)) (t s : Tree) (found : Option (ℕ × Option ℕ)) → ReadsAtom ls old new t mid → ReadsRepeat mid found rest →
    s ≡ repeated_within found t → ReadsItem ls old new s rest
item_read ls mid rest old new t s None r p w = subst (λ u. ReadsItem ls old new u rest) (sym w) (once_read ls mid rest old new t None r p refl)
item_read ls mid rest old new t s (Some times) r p w = repeated_read ls mid rest old new t s (Some times) times.0 times.1 r p refl w

-- each token expression is counted
mutual
  alt_size : (a : Alt) → length (alt_tests a) ≡ alt_count a
  alt_size (one_cat c) = cat_size c
  alt_size (or_alt c a) = length-append (cat_tests c) (alt_tests a) ∙ ap (λ n. n + length (alt_tests a)) (cat_size c) ∙ ap (λ n. cat_count c + n) (alt_size a)

  cat_size : (c : Cat) → length (cat_tests c) ≡ cat_count c
  cat_size (one_item i) = item_size i
  cat_size (and_cat i c) = length-append (item_tests i) (cat_tests c) ∙ ap (λ n. n + length (cat_tests c)) (item_size i) ∙ ap (λ n. item_count i + n) (cat_size c)

  item_size : (i : Item) → length (item_tests i) ≡ item_count i
  item_size (once a) = atom_size a
  item_size (repeated a r) = atom_size a

  atom_size : (a : Atom) → length (atom_tests a) ≡ atom_count a
  atom_size any = refl
  atom_size (brackets t) = refl
  atom_size (bare k f) = refl
  atom_size (parens a) = alt_size a

-- a query has as many token expressions as it counts
pub query_size : (q : Query) → length (query_tests q) ≡ query_count q
query_size (query a e) = alt_size a

-- sequences

more_items_at : (ls rest left : List Lexeme) (old mid new : List (Test Literal)) (t : Tree) (before after : List Tree) → ReadsItem ls old mid t rest → begins_atom rest ≡ true →
    ReadsItems rest mid new (before ++ t ∷ []) after left →
    (c : Cat) (end : List Lexeme) → EndsCat end → cat_text c ++ end ≡ ls → length old + cat_count c ≤ 65536 →
    (after ≡ before ++ cat_parts (length old) c) × (new ≡ old ++ cat_tests c) × (left ≡ end)
more_items_at ls rest left old mid new t before after r h rs (one_item i) end f e le =
    let x = r.at i end (ends_item f) e le in
    absurd (false≢true (sym f.no_atom ∙ ap begins_atom (sym x.2) ∙ h))
more_items_at ls rest left old mid new t before after r h rs (and_cat i c) end f e le =
    let x = r.at i (cat_text c ++ end) (before_cat c end) (sym (append_assoc (item_text i) (cat_text c) end) ∙ e) (omega arith) in
    let n : length mid ≡ length old + item_count i = ap length x.1 ∙ length-append old (item_tests i) ∙ ap (λ k. length old + k) (item_size i) in
    let y = rs.at c end f (sym x.2) (omega arith) in (
      y.0 ∙ append_assoc before (t ∷ []) (cat_parts (length mid) c) ∙ ap (λ k. before ++ t ∷ cat_parts k c) n ∙ ap (λ z. before ++ z ∷ cat_parts (length old + item_count i) c) x.0,
      y.1 ∙ ap (λ z. z ++ cat_tests c) x.1 ∙ append_assoc old (item_tests i) (cat_tests c),
      y.2,
    )

pub more_items : (ls rest left : List Lexeme) (old mid new : List (Test Literal)) (t : Tree) (before among after : List Tree) → ReadsItem ls old mid t rest → begins_atom rest ≡ true →
    among ≡ before ++ t ∷ [] → ReadsItems rest mid new among after left → ReadsItems ls old new before after left
more_items ls rest left old mid new t before among after r h m rs = record {
  at = λ c end f e le. more_items_at ls rest left old mid new t before after r h (subst (λ x. ReadsItems rest mid new x after left) m rs) c end f e le;
}

last_item_at : (ls rest : List Lexeme) (old new : List (Test Literal)) (t : Tree) (before after : List Tree) → ReadsItem ls old new t rest → begins_atom rest ≡ false → after ≡ before ++ t ∷ [] →
    (c : Cat) (end : List Lexeme) → EndsCat end → cat_text c ++ end ≡ ls → length old + cat_count c ≤ 65536 →
    (after ≡ before ++ cat_parts (length old) c) × (new ≡ old ++ cat_tests c) × (rest ≡ end)
last_item_at ls rest old new t before after r h m (one_item i) end f e le =
    let x = r.at i end (ends_item f) e le in
    (m ∙ ap (λ z. before ++ z ∷ []) x.0, x.1, x.2)
last_item_at ls rest old new t before after r h m (and_cat i c) end f e le =
    let x = r.at i (cat_text c ++ end) (before_cat c end) (sym (append_assoc (item_text i) (cat_text c) end) ∙ e) (omega arith) in
    absurd (false≢true (sym h ∙ ap begins_atom x.2 ∙ cat_begins c end))

pub last_item : (ls rest : List Lexeme) (old new : List (Test Literal)) (t : Tree) (before after : List Tree) → ReadsItem ls old new t rest → begins_atom rest ≡ false → after ≡ before ++ t ∷ [] →
    ReadsItems ls old new before after rest
last_item ls rest old new t before after r h m = record { at = λ c end f e le. last_item_at ls rest old new t before after r h m c end f e le }

-- choices

no_bar_there : (ls : List Lexeme) → head ls ≡ Bar → begins_bar ls ≡ false → ⊥
no_bar_there [] h n = cc (h)
no_bar_there (l ∷ ls) h n = false≢true (sym n ∙ ap (λ x. begins_bar (x ∷ ls)) h)

more_cats_at : (ls rest left : List Lexeme) (old mid new : List (Test Literal)) (t : Tree) (before after : List Tree) → ReadsCat ls old mid t rest → head rest ≡ Bar →
    ReadsCats (tail rest) mid new (before ++ t ∷ []) after left →
    (a : Alt) (end : List Lexeme) → EndsAlt end → alt_text a ++ end ≡ ls → length old + alt_count a ≤ 65536 →
    (after ≡ before ++ alt_parts (length old) a) × (new ≡ old ++ alt_tests a) × (left ≡ end)
more_cats_at ls rest left old mid new t before after r h rs (one_cat c) end f e le =
    let x = r.at c end (ends_cat f) e le in
    absurd (no_bar_there end (ap head (sym x.2) ∙ h) f.no_bar)
more_cats_at ls rest left old mid new t before after r h rs (or_alt c a) end f e le =
    let x = r.at c (Bar ∷ (alt_text a ++ end)) cat_bar (sym (append_assoc (cat_text c) (Bar ∷ alt_text a) end) ∙ e) (omega arith) in
    let n : length mid ≡ length old + cat_count c = ap length x.1 ∙ length-append old (cat_tests c) ∙ ap (λ k. length old + k) (cat_size c) in
    let y = rs.at a end f (sym (ap tail x.2)) (omega arith) in (
      y.0 ∙ append_assoc before (t ∷ []) (alt_parts (length mid) a) ∙ ap (λ k. before ++ t ∷ alt_parts k a) n ∙ ap (λ z. before ++ z ∷ alt_parts (length old + cat_count c) a) x.0,
      y.1 ∙ ap (λ z. z ++ alt_tests a) x.1 ∙ append_assoc old (cat_tests c) (alt_tests a),
      y.2,
    )

pub more_cats : (ls rest tl left : List Lexeme) (old mid new : List (Test Literal)) (t : Tree) (before among after : List Tree) → ReadsCat ls old mid t rest → head rest ≡ Bar → tl ≡ tail rest →
    among ≡ before ++ t ∷ [] → ReadsCats tl mid new among after left → ReadsCats ls old new before after left
more_cats ls rest tl left old mid new t before among after r h s m rs = record {
  at = λ a end f e le. more_cats_at ls rest left old mid new t before after r h
      (subst (λ x. ReadsCats (tail rest) mid new x after left) m (subst (λ x. ReadsCats x mid new among after left) s rs)) a end f e le;
}

last_cat_at : (ls rest : List Lexeme) (old new : List (Test Literal)) (t : Tree) (before after : List Tree) → ReadsCat ls old new t rest → (head rest ≡ Bar → ⊥) → after ≡ before ++ t ∷ [] →
    (a : Alt) (end : List Lexeme) → EndsAlt end → alt_text a ++ end ≡ ls → length old + alt_count a ≤ 65536 →
    (after ≡ before ++ alt_parts (length old) a) × (new ≡ old ++ alt_tests a) × (rest ≡ end)
last_cat_at ls rest old new t before after r h m (one_cat c) end f e le =
    let x = r.at c end (ends_cat f) e le in
    (m ∙ ap (λ z. before ++ z ∷ []) x.0, x.1, x.2)
last_cat_at ls rest old new t before after r h m (or_alt c a) end f e le =
    let x = r.at c (Bar ∷ (alt_text a ++ end)) cat_bar (sym (append_assoc (cat_text c) (Bar ∷ alt_text a) end) ∙ e) (omega arith) in
    absurd (h (ap head x.2))

pub last_cat : (ls rest : List Lexeme) (old new : List (Test Literal)) (t : Tree) (before after : List Tree) → ReadsCat ls old new t rest → (head rest ≡ Bar → ⊥) → after ≡ before ++ t ∷ [] →
    ReadsCats ls old new before after rest
last_cat ls rest old new t before after r h m = record { at = λ a end f e le. last_cat_at ls rest old new t before after r h m a end f e le }

-- one pattern more
pub pushed : (old new : List Pat) (p : Pat) → new ≡ old ++ p ∷ [] → map tree new ≡ map tree old ++ tree p ∷ []
pushed old new p h = ap (map tree) h ∙ map-append tree old (p ∷ [])

-- queries

query_at : (ls rest : List Lexeme) (old new : List (Test Literal)) (t : Tree) → ReadsAlt ls old new t rest → old ≡ [] →
    (q : Query) → query_text q ≡ ls → query_count q ≤ 65536 → (t ≡ query_tree q) × (new ≡ query_tests q)
query_at ls rest old new t r z (query a end) e le =
    let none : length old ≡ 0 = ap length z in
    let x = r.at a (ending_text end) (ends_alt end) e (omega arith) in
    (x.0 ∙ ap (λ n. alt_of (alt_parts n a)) none, x.1 ∙ ap (λ o. o ++ alt_tests a) z)

pub query_read : (ls rest : List Lexeme) (old new : List (Test Literal)) (t : Tree) → ReadsAlt ls old new t rest → old ≡ [] → ReadsQuery ls t new
query_read ls rest old new t r z = record { at = λ q e le. query_at ls rest old new t r z q e le }
