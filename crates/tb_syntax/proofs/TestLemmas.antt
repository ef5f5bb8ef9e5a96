-- What is read of a test, from part to part.
use Rattle.std.proofs.Common.{◌≡◌, ◌≤◌, ◌+◌, ℕ, add-one, arith, length, List, [], ◌∷◌, ◌++◌, map, Result, Ok, Err, IfOk, false, refl, sym, ap, subst, ◌∙◌, append_assoc}
use Rattle.std.proofs.lemmas.Bool.{false≢true}
use Rattle.std.proofs.lemmas.List.{map-append}
use Rattle.tb_syntax.specs.declared.expr.Expr.{Expr}
use Rattle.tb_syntax.specs.declared.expr.Literal.{Literal}
use Rattle.tb_syntax.specs.declared.lexeme.Attr.{Attr}
use Rattle.tb_syntax.specs.declared.lexeme.Attr.TheVariants.{Feats}
use Rattle.tb_syntax.specs.declared.lexeme.Flag.{Flag}
use Rattle.tb_syntax.specs.declared.lexeme.Lexeme.{Lexeme}
use Rattle.tb_syntax.specs.declared.lexeme.Lexeme.TheVariants.{LeftParen, RightParen, Bar, And, Not, Equals, Differs, Name, Contains, Quote}
use Rattle.tb_syntax.specs.Exprs.{test}
use Rattle.tb_syntax.specs.Follow.{begins_flag, begins_and, begins_bar, EndsConj, EndsTest}
use Rattle.tb_syntax.specs.Grammar.{flag_text, same, other, Test', one_conj, or_test, Conj, one_unit, and_conj, Unit', denied, grouped, compares, contains, test_text, conj_text, unit_text}
use Rattle.tb_syntax.specs.Parsing.{head, tail, ReadsLiteral, ReadsUnit, ReadsUnits, ReadsConj, ReadsConjs, ReadsTest}
use Rattle.tb_syntax.specs.Pattern.{literal_of, test_parts, conj_parts, unit_test}
use Rattle.tb_syntax.specs.Tests.{Test, whole, feature, negated, denied_times}
use Rattle.tb_syntax.proofs.Unique.{ends_conj, before_bar}

-- a literal is told by its number and its flag
pub is_literal : (l : Literal) (k : ℕ) (f : Flag) → l.number ≡ k → l.flag ≡ f → l ≡ literal_of k f
is_literal l k f p q = λ i. record { number = p i; flag = q i }

-- comparisons

abbrev Gives : Test Literal → List Lexeme → Unit' → List Lexeme → Type 0
Gives t rest u end = (t ≡ unit_test u) × (rest ≡ end)

contains_at : (a : Attr) (ls tl rest : List Lexeme) (l : Literal) → head ls ≡ Contains → tl ≡ tail ls → ReadsLiteral tl l rest →
    (u : Unit') (end : List Lexeme) → begins_flag end ≡ false → unit_text u ++ end ≡ Name a ∷ ls → Gives (feature l) rest u end
contains_at a ls tl rest l h t r (denied v) end f e = cc (e)
contains_at a ls tl rest l h t r (grouped v) end f e = cc (e)
contains_at a ls tl rest l h t r (compares b same k g) end f e =
    let more : Equals ∷ Quote k ∷ (flag_text g ++ end) ≡ ls = cc (e) in
    let first = ap head more in
    cc (first, h)
contains_at a ls tl rest l h t r (compares b other k g) end f e =
    let more : Differs ∷ Quote k ∷ (flag_text g ++ end) ≡ ls = cc (e) in
    let first = ap head more in
    cc (first, h)
contains_at a ls tl rest l h t r (contains k g) end f e =
    let more : Contains ∷ Quote k ∷ (flag_text g ++ end) ≡ ls = cc (e) in
    let x = r.at k g end f (ap tail more ∙ sym t) in
    (ap feature (is_literal l k g x.0 x.1), x.2)

pub contains_read : (a : Attr) (ls tl rest : List Lexeme) (l : Literal) → head ls ≡ Contains → tl ≡ tail ls → ReadsLiteral tl l rest →
    ReadsUnit (Name a ∷ ls) (feature l) rest
contains_read a ls tl rest l h t r = record { at = λ u end f e. contains_at a ls tl rest l h t r u end f e }

differs_at : (a : Attr) (ls tl rest : List Lexeme) (l : Literal) → head ls ≡ Differs → tl ≡ tail ls → ReadsLiteral tl l rest →
    (u : Unit') (end : List Lexeme) → begins_flag end ≡ false → unit_text u ++ end ≡ Name a ∷ ls → Gives (negated (whole a l)) rest u end
differs_at a ls tl rest l h t r (denied v) end f e = cc (e)
differs_at a ls tl rest l h t r (grouped v) end f e = cc (e)
differs_at a ls tl rest l h t r (compares b same k g) end f e =
    let more : Equals ∷ Quote k ∷ (flag_text g ++ end) ≡ ls = cc (e) in
    let first = ap head more in
    cc (first, h)
differs_at a ls tl rest l h t r (compares b other k g) end f e =
    let more : Differs ∷ Quote k ∷ (flag_text g ++ end) ≡ ls = cc (e) in
    let column : b ≡ a = cc (e) in
    let x = r.at k g end f (ap tail more ∙ sym t) in
    (ap (λ y. negated (whole a y)) (is_literal l k g x.0 x.1) ∙ ap (λ y. negated (whole y (literal_of k g))) (sym column), x.2)
differs_at a ls tl rest l h t r (contains k g) end f e =
    let more : Contains ∷ Quote k ∷ (flag_text g ++ end) ≡ ls = cc (e) in
    let first = ap head more in
    cc (first, h)

pub differs_read : (a : Attr) (ls tl rest : List Lexeme) (l : Literal) → head ls ≡ Differs → tl ≡ tail ls → ReadsLiteral tl l rest →
    ReadsUnit (Name a ∷ ls) (negated (whole a l)) rest
differs_read a ls tl rest l h t r = record { at = λ u end f e. differs_at a ls tl rest l h t r u end f e }

equals_at : (a : Attr) (ls tl rest : List Lexeme) (l : Literal) → (head ls ≡ Contains → ⊥) → (head ls ≡ Differs → ⊥) → tl ≡ tail ls → ReadsLiteral tl l rest →
    (u : Unit') (end : List Lexeme) → begins_flag end ≡ false → unit_text u ++ end ≡ Name a ∷ ls → Gives (whole a l) rest u end
equals_at a ls tl rest l g h t r (denied v) end f e = cc (e)
equals_at a ls tl rest l g h t r (grouped v) end f e = cc (e)
equals_at a ls tl rest l g h t r (compares b same k m) end f e =
    let more : Equals ∷ Quote k ∷ (flag_text m ++ end) ≡ ls = cc (e) in
    let column : b ≡ a = cc (e) in
    let x = r.at k m end f (ap tail more ∙ sym t) in
    (ap (whole a) (is_literal l k m x.0 x.1) ∙ ap (λ y. whole y (literal_of k m)) (sym column), x.2)
equals_at a ls tl rest l g h t r (compares b other k m) end f e =
    let more : Differs ∷ Quote k ∷ (flag_text m ++ end) ≡ ls = cc (e) in
    absurd (h (sym (ap head more)))
equals_at a ls tl rest l g h t r (contains k m) end f e =
    let more : Contains ∷ Quote k ∷ (flag_text m ++ end) ≡ ls = cc (e) in
    absurd (g (sym (ap head more)))

pub equals_read : (a : Attr) (ls tl rest : List Lexeme) (l : Literal) → (head ls ≡ Contains → ⊥) → (head ls ≡ Differs → ⊥) → tl ≡ tail ls → ReadsLiteral tl l rest →
    ReadsUnit (Name a ∷ ls) (whole a l) rest
equals_read a ls tl rest l g h t r = record { at = λ u end f e. equals_at a ls tl rest l g h t r u end f e }

-- units

denied_at : (ls rest : List Lexeme) (t : Test Literal) → ReadsUnit (tail ls) t rest → head ls ≡ Not →
    (u : Unit') (end : List Lexeme) → begins_flag end ≡ false → unit_text u ++ end ≡ ls → Gives (negated t) rest u end
denied_at ls rest t r h (denied v) end f e = let x = r.at v end f (ap tail e) in (ap negated x.0, x.1)
denied_at ls rest t r h (grouped v) end f e = let first = ap head e in cc (first, h)
denied_at ls rest t r h (compares b g k m) end f e = let first = ap head e in cc (first, h)
denied_at ls rest t r h (contains k m) end f e = let first = ap head e in cc (first, h)

pub denied_read : (ls tl rest : List Lexeme) (t : Test Literal) → tl ≡ tail ls → ReadsUnit tl t rest → head ls ≡ Not → ReadsUnit ls (negated t) rest
denied_read ls tl rest t s r h = record { at = λ u end f e. denied_at ls rest t (subst (λ x. ReadsUnit x t rest) s r) h u end f e }

-- a lexeme stands there
pub some_left : (ls : List Lexeme) → head ls ≡ Not → 1 ≤ length ls
some_left [] h = cc (h)
some_left (l ∷ ls) h = omega arith

-- one more `!` before what is denied so many times
pub one_denial : (ls here next end : List Lexeme) (n : ℕ) → ((t : Test Literal) → ReadsUnit here t end → ReadsUnit ls (denied_times n t) end) →
    next ≡ tail here → head here ≡ Not → (t : Test Literal) → ReadsUnit next t end → ReadsUnit ls (denied_times (n + 1) t) end
one_denial ls here next end n f s h t r =
    subst (λ k. ReadsUnit ls (denied_times k t) end) (sym (add-one n)) (f (negated t) (denied_read here next end t s r h))

closing : {x : List Lexeme} → EndsTest (RightParen ∷ x)
closing = record { no_flag = refl; no_and = refl; no_bar = refl }

grouped_at : (ls after rest : List Lexeme) (t : Test Literal) → ReadsTest (tail ls) t after → rest ≡ tail after → head ls ≡ LeftParen →
    (u : Unit') (end : List Lexeme) → begins_flag end ≡ false → unit_text u ++ end ≡ ls → Gives t rest u end
grouped_at ls after rest t r s h (denied v) end f e = let first = ap head e in cc (first, h)
grouped_at ls after rest t r s h (grouped v) end f e =
    let x = r.at v (RightParen ∷ end) closing (sym (append_assoc (test_text v) (RightParen ∷ []) end) ∙ ap tail e) in
    (x.0, s ∙ ap tail x.1)
grouped_at ls after rest t r s h (compares b g k m) end f e = let first = ap head e in cc (first, h)
grouped_at ls after rest t r s h (contains k m) end f e = let first = ap head e in cc (first, h)

pub grouped_read : (ls tl after rest : List Lexeme) (t : Test Literal) → tl ≡ tail ls → ReadsTest tl t after → rest ≡ tail after → head ls ≡ LeftParen → ReadsUnit ls t rest
grouped_read ls tl after rest t s r z h = record { at = λ u end f e. grouped_at ls after rest t (subst (λ x. ReadsTest x t after) s r) z h u end f e }

no_unit_at : (ls rest : List Lexeme) (t : Test Literal) → (head ls ≡ LeftParen → ⊥) → (head ls ≡ Not → ⊥) → ((a : Attr) → head ls ≡ Name a → ⊥) →
    (u : Unit') (end : List Lexeme) → begins_flag end ≡ false → unit_text u ++ end ≡ ls → Gives t rest u end
no_unit_at ls rest t p n m (denied v) end f e = absurd (n (sym (ap head e)))
no_unit_at ls rest t p n m (grouped v) end f e = absurd (p (sym (ap head e)))
no_unit_at ls rest t p n m (compares b g k o) end f e = absurd (m b (sym (ap head e)))
no_unit_at ls rest t p n m (contains k o) end f e = absurd (m Feats (sym (ap head e)))

pub no_unit : (ls rest : List Lexeme) (t : Test Literal) → (head ls ≡ LeftParen → ⊥) → (head ls ≡ Not → ⊥) → ((a : Attr) → head ls ≡ Name a → ⊥) → ReadsUnit ls t rest
no_unit ls rest t p n m = record { at = λ u end f e. no_unit_at ls rest t p n m u end f e }

-- conjunctions and disjunctions

no_and_there : (ls : List Lexeme) → head ls ≡ And → begins_and ls ≡ false → ⊥
no_and_there [] h n = cc (h)
no_and_there (l ∷ ls) h n = false≢true (sym n ∙ ap (λ x. begins_and (x ∷ ls)) h)

no_bar_there : (ls : List Lexeme) → head ls ≡ Bar → begins_bar ls ≡ false → ⊥
no_bar_there [] h n = cc (h)
no_bar_there (l ∷ ls) h n = false≢true (sym n ∙ ap (λ x. begins_bar (x ∷ ls)) h)

more_units_at : (ls rest left : List Lexeme) (t : Test Literal) (old new : List (Test Literal)) → ReadsUnit ls t rest → head rest ≡ And → ReadsUnits (tail rest) (old ++ t ∷ []) new left →
    (c : Conj) (end : List Lexeme) → EndsConj end → conj_text c ++ end ≡ ls → (new ≡ old ++ conj_parts c) × (left ≡ end)
more_units_at ls rest left t old new r h rs (one_unit u) end f e =
    let x = r.at u end f.no_flag e in
    absurd (no_and_there end (ap head (sym x.1) ∙ h) f.no_and)
more_units_at ls rest left t old new r h rs (and_conj u c) end f e =
    let x = r.at u (And ∷ (conj_text c ++ end)) refl (sym (append_assoc (unit_text u) (And ∷ conj_text c) end) ∙ e) in
    let y = rs.at c end f (sym (ap tail x.1)) in
    (y.0 ∙ append_assoc old (t ∷ []) (conj_parts c) ∙ ap (λ z. old ++ z ∷ conj_parts c) x.0, y.1)

pub more_units : (ls rest tl left : List Lexeme) (t : Test Literal) (old mid new : List (Test Literal)) → ReadsUnit ls t rest → head rest ≡ And → tl ≡ tail rest → mid ≡ old ++ t ∷ [] →
    ReadsUnits tl mid new left → ReadsUnits ls old new left
more_units ls rest tl left t old mid new r h s m rs = record {
  at = λ c end f e. more_units_at ls rest left t old new r h (subst (λ x. ReadsUnits (tail rest) x new left) m (subst (λ x. ReadsUnits x mid new left) s rs)) c end f e;
}

last_unit_at : (ls rest : List Lexeme) (t : Test Literal) (old new : List (Test Literal)) → ReadsUnit ls t rest → (head rest ≡ And → ⊥) → new ≡ old ++ t ∷ [] →
    (c : Conj) (end : List Lexeme) → EndsConj end → conj_text c ++ end ≡ ls → (new ≡ old ++ conj_parts c) × (rest ≡ end)
last_unit_at ls rest t old new r n m (one_unit u) end f e =
    let x = r.at u end f.no_flag e in
    (m ∙ ap (λ z. old ++ z ∷ []) x.0, x.1)
last_unit_at ls rest t old new r n m (and_conj u c) end f e =
    let x = r.at u (And ∷ (conj_text c ++ end)) refl (sym (append_assoc (unit_text u) (And ∷ conj_text c) end) ∙ e) in
    absurd (n (ap head x.1))

pub last_unit : (ls rest : List Lexeme) (t : Test Literal) (old new : List (Test Literal)) → ReadsUnit ls t rest → (head rest ≡ And → ⊥) → new ≡ old ++ t ∷ [] → ReadsUnits ls old new rest
last_unit ls rest t old new r n m = record { at = λ c end f e. last_unit_at ls rest t old new r n m c end f e }

more_conjs_at : (ls rest left : List Lexeme) (t : Test Literal) (old new : List (Test Literal)) → ReadsConj ls t rest → head rest ≡ Bar → ReadsConjs (tail rest) (old ++ t ∷ []) new left →
    (u : Test') (end : List Lexeme) → EndsTest end → test_text u ++ end ≡ ls → (new ≡ old ++ test_parts u) × (left ≡ end)
more_conjs_at ls rest left t old new r h rs (one_conj c) end f e =
    let x = r.at c end (ends_conj f) e in
    absurd (no_bar_there end (ap head (sym x.1) ∙ h) f.no_bar)
more_conjs_at ls rest left t old new r h rs (or_test c u) end f e =
    let x = r.at c (Bar ∷ (test_text u ++ end)) before_bar (sym (append_assoc (conj_text c) (Bar ∷ test_text u) end) ∙ e) in
    let y = rs.at u end f (sym (ap tail x.1)) in
    (y.0 ∙ append_assoc old (t ∷ []) (test_parts u) ∙ ap (λ z. old ++ z ∷ test_parts u) x.0, y.1)

pub more_conjs : (ls rest tl left : List Lexeme) (t : Test Literal) (old mid new : List (Test Literal)) → ReadsConj ls t rest → head rest ≡ Bar → tl ≡ tail rest → mid ≡ old ++ t ∷ [] →
    ReadsConjs tl mid new left → ReadsConjs ls old new left
more_conjs ls rest tl left t old mid new r h s m rs = record {
  at = λ u end f e. more_conjs_at ls rest left t old new r h (subst (λ x. ReadsConjs (tail rest) x new left) m (subst (λ x. ReadsConjs x mid new left) s rs)) u end f e;
}

last_conj_at : (ls rest : List Lexeme) (t : Test Literal) (old new : List (Test Literal)) → ReadsConj ls t rest → (head rest ≡ Bar → ⊥) → new ≡ old ++ t ∷ [] →
    (u : Test') (end : List Lexeme) → EndsTest end → test_text u ++ end ≡ ls → (new ≡ old ++ test_parts u) × (rest ≡ end)
last_conj_at ls rest t old new r n m (one_conj c) end f e =
    let x = r.at c end (ends_conj f) e in
    (m ∙ ap (λ z. old ++ z ∷ []) x.0, x.1)
last_conj_at ls rest t old new r n m (or_test c u) end f e =
    let x = r.at c (Bar ∷ (test_text u ++ end)) before_bar (sym (append_assoc (conj_text c) (Bar ∷ test_text u) end) ∙ e) in
    absurd (n (ap head x.1))

pub last_conj : (ls rest : List Lexeme) (t : Test Literal) (old new : List (Test Literal)) → ReadsConj ls t rest → (head rest ≡ Bar → ⊥) → new ≡ old ++ t ∷ [] → ReadsConjs ls old new rest
last_conj ls rest t old new r n m = record { at = λ u end f e. last_conj_at ls rest t old new r n m u end f e }

-- one expression more
pub pushed : (old new : List (Expr Literal)) (e : Expr Literal) → new ≡ old ++ e ∷ [] → map test new ≡ map test old ++ test e ∷ []
pushed old new e h = ap (map test) h ∙ map-append test old (e ∷ [])

-- what a test says, said otherwise
pub same_unit : (ls rest : List Lexeme) (s t : Test Literal) → s ≡ t → ReadsUnit ls t rest → ReadsUnit ls s rest
same_unit ls rest s t e r = subst (λ x. ReadsUnit ls x rest) (sym e) r

pub if_ok : {T F : Type 0} (r : Result T F) (P Q : T → Type 0) → ((x : T) → P x → Q x) → IfOk r P → IfOk r Q
if_ok (Ok x) P Q f h = f x h
if_ok (Err e) P Q f h = tt
