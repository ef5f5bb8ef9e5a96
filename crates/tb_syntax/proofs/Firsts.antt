-- The first lexeme of a text is what is found byte by byte, and nothing else.
use Rattle.std.proofs.Common.{◌≡◌, ℕ, suc, ◌+◌, ◌<◌, ◌≤◌, List, [], ◌∷◌, ◌++◌, length, take, drop, Bool, true, false, ◌||◌, ◌&&◌, nat_eq, if◌then◌else◌, Option, Some, None, option_map, MatchOption, IfSome, refl, sym, ap, subst, ◌∙◌, length-append, length-drop, arith, inl, inr, ◌⊎◌}
use Rattle.std.proofs.lemmas.Bool.{false≢true, eqb-true, eq-eqb}
use Rattle.std.proofs.lemmas.Bool.Decides.{nat_tests}
use Rattle.std.proofs.lemmas.List.{take-append-drop}
use Rattle.std.proofs.Math.Seq.{take-append_seam, drop-append_seam}
use Rattle.std.specs.Char.{is_ascii_alphabetic, is_ascii_digit}
use Rattle.std.specs.List.{prefix_len, list_all}
use Rattle.tb_syntax.specs.declared.lexeme.Lexeme.{Lexeme}
use Rattle.tb_syntax.specs.declared.lexeme.Lexeme.TheVariants.{Quote}
use Rattle.tb_syntax.specs.Spelling.{word, number, double_mark, single_mark, is_quote, doubled, begins, IsRun, Starts, of_letters, of_digits, of_two_marks, of_one_mark, of_quotes, IsStray, IsQuoted}
use Rattle.tb_syntax.specs.declared.spelling.Found.{Found}
use Rattle.tb_syntax.specs.First.{found, said_of, after_literal, cut, first_or, first_mark, first_apart, first_no_word, first_lexeme}

-- tests

pub either : (b : Bool) → (b ≡ true) ⊎ (b ≡ false)
either true = inl refl
either false = inr refl

if_true : {A : Type 0} (b : Bool) (x y : A) → b ≡ true → (if b then x else y) ≡ x
if_true b x y e = rw e refl

if_false : {A : Type 0} (b : Bool) (x y : A) → b ≡ false → (if b then x else y) ≡ y
if_false b x y e = rw e refl

if_cases : {A : Type 0} (b : Bool) (x y v : A) → (if b then x else y) ≡ v → ((b ≡ true) × (x ≡ v)) ⊎ ((b ≡ false) × (y ≡ v))
if_cases true x y v e = inl (refl, e)
if_cases false x y v e = inr (refl, e)

and_first : (a b : Bool) → (a && b) ≡ true → a ≡ true
and_first true b e = refl
and_first false b e = e

or_cases : (a b : Bool) → (a || b) ≡ true → (a ≡ true) ⊎ (b ≡ true)
or_cases true b e = inl refl
or_cases false b e = inr e

-- what passes a test is no byte that fails it
differs : (p : ℕ → Bool) (c n : ℕ) → p c ≡ true → p n ≡ false → nat_eq c n ≡ false
differs p c n h f =
    elim (either (nat_eq c n)) [
      | inl e ↦ absurd (false≢true (sym f ∙ sym (ap p (eqb-true c n e)) ∙ h))
      | inr e ↦ e
    ]

letter_single : (c : ℕ) → is_ascii_alphabetic c ≡ true → single_mark c ≡ None
letter_single c h = rw (differs is_ascii_alphabetic c 0x28 h refl, differs is_ascii_alphabetic c 0x29 h refl, differs is_ascii_alphabetic c 0x5B h refl, differs is_ascii_alphabetic c 0x5D h refl, differs is_ascii_alphabetic c 0x7B h refl, differs is_ascii_alphabetic c 0x7D h refl, differs is_ascii_alphabetic c 0x2C h refl, differs is_ascii_alphabetic c 0x3F h refl, differs is_ascii_alphabetic c 0x2A h refl, differs is_ascii_alphabetic c 0x2B h refl, differs is_ascii_alphabetic c 0x7C h refl, differs is_ascii_alphabetic c 0x26 h refl, differs is_ascii_alphabetic c 0x21 h refl, differs is_ascii_alphabetic c 0x3D h refl, differs is_ascii_alphabetic c 0x3B h refl) refl

letter_double : (c b : ℕ) → is_ascii_alphabetic c ≡ true → double_mark c b ≡ None
letter_double c b h = rw (differs is_ascii_alphabetic c 0x25 h refl, differs is_ascii_alphabetic c 0x21 h refl) refl

digit_single : (c : ℕ) → is_ascii_digit c ≡ true → single_mark c ≡ None
digit_single c h = rw (differs is_ascii_digit c 0x28 h refl, differs is_ascii_digit c 0x29 h refl, differs is_ascii_digit c 0x5B h refl, differs is_ascii_digit c 0x5D h refl, differs is_ascii_digit c 0x7B h refl, differs is_ascii_digit c 0x7D h refl, differs is_ascii_digit c 0x2C h refl, differs is_ascii_digit c 0x3F h refl, differs is_ascii_digit c 0x2A h refl, differs is_ascii_digit c 0x2B h refl, differs is_ascii_digit c 0x7C h refl, differs is_ascii_digit c 0x26 h refl, differs is_ascii_digit c 0x21 h refl, differs is_ascii_digit c 0x3D h refl, differs is_ascii_digit c 0x3B h refl) refl

digit_double : (c b : ℕ) → is_ascii_digit c ≡ true → double_mark c b ≡ None
digit_double c b h = rw (differs is_ascii_digit c 0x25 h refl, differs is_ascii_digit c 0x21 h refl) refl

quote_single : (c : ℕ) → is_quote c ≡ true → single_mark c ≡ None
quote_single c h = rw (differs is_quote c 0x28 h refl, differs is_quote c 0x29 h refl, differs is_quote c 0x5B h refl, differs is_quote c 0x5D h refl, differs is_quote c 0x7B h refl, differs is_quote c 0x7D h refl, differs is_quote c 0x2C h refl, differs is_quote c 0x3F h refl, differs is_quote c 0x2A h refl, differs is_quote c 0x2B h refl, differs is_quote c 0x7C h refl, differs is_quote c 0x26 h refl, differs is_quote c 0x21 h refl, differs is_quote c 0x3D h refl, differs is_quote c 0x3B h refl) refl

quote_double : (c b : ℕ) → is_quote c ≡ true → double_mark c b ≡ None
quote_double c b h = rw (differs is_quote c 0x25 h refl, differs is_quote c 0x21 h refl) refl

digit_no_letter : (c : ℕ) → is_ascii_digit c ≡ true → is_ascii_alphabetic c ≡ false
digit_no_letter c h = grind (arith, nat_tests)

quote_is : (c : ℕ) → is_quote c ≡ true → (c ≡ 0x22) ⊎ (c ≡ 0x27)
quote_is c h = elim (or_cases (nat_eq c 0x22) (nat_eq c 0x27) h) [ inl e ↦ inl (eqb-true c 0x22 e) | inr e ↦ inr (eqb-true c 0x27 e) ]

quote_fails : (p : ℕ → Bool) (c : ℕ) → is_quote c ≡ true → p 0x22 ≡ false → p 0x27 ≡ false → p c ≡ false
quote_fails p c h x y = elim (quote_is c h) [ inl e ↦ ap p e ∙ x | inr e ↦ ap p e ∙ y ]

-- where a mark stands, a test fails that rules it out
fails : (p : ℕ → Bool) (c : ℕ) (o : Option Lexeme) (l : Lexeme) → (p c ≡ true → o ≡ None) → o ≡ Some l → p c ≡ false
fails p c o l f e = elim (either (p c)) [ inl t ↦ (let none = f t in cc (none, e)) | inr t ↦ t ]

-- runs

one : (n : ℕ) → 1 + n ≡ suc n
one n = omega arith

all_taken : (p : ℕ → Bool) (xs : List ℕ) → list_all p (take (prefix_len p xs) xs) ≡ true
all_taken p [] = refl
all_taken p (x ∷ xs) =
    elim (either (p x)) [
      | inl e ↦ rw (e, one (prefix_len p xs), e) (all_taken p xs)
      | inr e ↦ rw e refl
    ]

none_left : (p : ℕ → Bool) (xs : List ℕ) → begins p (drop (prefix_len p xs) xs) ≡ false
none_left p [] = refl
none_left p (x ∷ xs) =
    elim (either (p x)) [
      | inl e ↦ rw (e, one (prefix_len p xs)) (none_left p xs)
      | inr e ↦ rw e e
    ]

-- the longest run of such bytes
pub run_of : (p : ℕ → Bool) (text : List ℕ) → IsRun p (take (prefix_len p text) text) text (drop (prefix_len p text) text)
run_of p text = record {
  parts = sym (take-append-drop (prefix_len p text) text);
  all = all_taken p text;
  longest = none_left p text;
}

no_more : (p : ℕ → Bool) (rest : List ℕ) → begins p rest ≡ false → prefix_len p rest ≡ 0
no_more p [] b = refl
no_more p (x ∷ xs) b = rw b refl

run_length : (p : ℕ → Bool) (s rest : List ℕ) → list_all p s ≡ true → begins p rest ≡ false → prefix_len p (s ++ rest) ≡ length s
run_length p [] rest a b = no_more p rest b
run_length p (x ∷ xs) rest a b =
    let e = and_first (p x) (list_all p xs) a in
    let more : list_all p xs ≡ true = rw e at a in
    rw e (one (prefix_len p (xs ++ rest)) ∙ ap suc (run_length p xs rest more b))

-- what is cut after a whole run
cut_run : (p : ℕ → Bool) (lexeme : List ℕ → Option Lexeme) (s rest : List ℕ) (l : Lexeme) → list_all p s ≡ true → begins p rest ≡ false → lexeme s ≡ Some l →
    cut lexeme (prefix_len p (s ++ rest)) (s ++ rest) ≡ Some (l, rest)
cut_run p lexeme s rest l a b e =
    ap (λ n. cut lexeme n (s ++ rest)) (run_length p s rest a b)
    ∙ ap (λ t. option_map {U = Lexeme × List ℕ} (λ x. (x, drop (length s) (s ++ rest))) (lexeme t)) (take-append_seam s rest)
    ∙ ap (λ o. option_map {U = Lexeme × List ℕ} (λ x. (x, drop (length s) (s ++ rest))) o) e
    ∙ ap (λ d. Some (l, d)) (drop-append_seam s rest)

-- literals

shut_here : (q : ℕ) (rest : List ℕ) → begins (nat_eq q) rest ≡ false → after_literal q true rest ≡ Some rest
shut_here q [] b = refl
shut_here q (c ∷ cs) b = if_false (nat_eq q c) (after_literal q false cs) (Some (c ∷ cs)) b

said_twice : (q c : ℕ) (d t : List ℕ) (x : Bool) → nat_eq q c ≡ x → after_literal q false ((if x then c ∷ c ∷ d else c ∷ d) ++ t) ≡ after_literal q false (d ++ t)
said_twice q c d t true e = ap (λ b. after_literal q b (c ∷ (d ++ t))) e ∙ if_true (nat_eq q c) (after_literal q false (d ++ t)) (Some (c ∷ (d ++ t))) e
said_twice q c d t false e = ap (λ b. after_literal q b (d ++ t)) e

-- the quotes in a literal are written twice
closes : (q : ℕ) (s rest : List ℕ) → begins (nat_eq q) rest ≡ false → after_literal q false (doubled q s ++ q ∷ rest) ≡ Some rest
closes q [] rest b = ap (λ x. after_literal q x rest) (eq-eqb q q refl) ∙ shut_here q rest b
closes q (c ∷ cs) rest b = said_twice q c (doubled q cs) (q ∷ rest) (nat_eq q c) refl ∙ closes q cs rest b

-- what a literal says whose closing quote was found
record Closed (q : ℕ) (text rest : List ℕ) : Type 0 where
  said : List ℕ
  parts : text ≡ doubled q said ++ q ∷ rest
  shut : begins (nat_eq q) rest ≡ false

says_more : (q c : ℕ) (cs rest : List ℕ) → nat_eq q c ≡ false → Closed q cs rest → Closed q (c ∷ cs) rest
says_more q c cs rest e r = record {
  said = c ∷ r.said;
  parts = ap (λ t. c ∷ t) r.parts ∙ ap (λ t. t ++ q ∷ rest) (sym (if_false (nat_eq q c) (c ∷ c ∷ doubled q r.said) (c ∷ doubled q r.said) e));
  shut = r.shut;
}

says_quote : (q c d : ℕ) (cs rest : List ℕ) → nat_eq q c ≡ true → nat_eq q d ≡ true → Closed q cs rest → Closed q (d ∷ c ∷ cs) rest
says_quote q c d cs rest e f r =
    let same : d ≡ c = sym (eqb-true q d f) ∙ eqb-true q c e in
    record {
      said = c ∷ r.said;
      parts = ap (λ x. x ∷ c ∷ cs) same ∙ ap (λ t. c ∷ c ∷ t) r.parts ∙ ap (λ t. t ++ q ∷ rest) (sym (if_true (nat_eq q c) (c ∷ c ∷ doubled q r.said) (c ∷ doubled q r.said) e));
      shut = r.shut;
    }

says_nothing : (q d : ℕ) (rest : List ℕ) → nat_eq q d ≡ true → begins (nat_eq q) rest ≡ false → Closed q (d ∷ rest) rest
says_nothing q d rest f b = record { said = []; parts = ap (λ x. x ∷ rest) (sym (eqb-true q d f)); shut = b }

same_rest : (xs ys : List ℕ) → Some xs ≡ Some ys → xs ≡ ys
same_rest xs ys e = cc (e)

closed : (q : ℕ) (text rest : List ℕ) →
    (after_literal q false text ≡ Some rest → Closed q text rest)
    × ((d : ℕ) → nat_eq q d ≡ true → after_literal q true text ≡ Some rest → Closed q (d ∷ text) rest)
closed q [] rest = (
  λ e. cc (e),
  λ d f e. subst (λ x. Closed q (d ∷ x) rest) (sym (same_rest [] rest e)) (says_nothing q d rest f (ap (begins (nat_eq q)) (sym (same_rest [] rest e)))),
)
closed q (c ∷ cs) rest =
    let more = closed q cs rest in (
      λ e. elim (either (nat_eq q c)) [
        | inl t ↦ more.1 c t (sym (ap (λ b. after_literal q b cs) t) ∙ e)
        | inr t ↦ says_more q c cs rest t (more.0 (sym (ap (λ b. after_literal q b cs) t) ∙ e))
      ],
      λ d f e. elim (if_cases (nat_eq q c) (after_literal q false cs) (Some (c ∷ cs)) (Some rest) e) [
        | inl t ↦ says_quote q c d cs rest t.0 f (more.0 t.1)
        | inr t ↦ (let s = same_rest (c ∷ cs) rest t.1 in
            subst (λ x. Closed q (d ∷ x) rest) (sym s) (says_nothing q d rest f (ap (begins (nat_eq q)) (sym s) ∙ t.0)))
      ],
    )

-- each lexeme at the beginning of a text is found

first_letters : (k c : ℕ) (s rest : List ℕ) (l : Lexeme) → list_all is_ascii_alphabetic (c ∷ s) ≡ true → begins is_ascii_alphabetic rest ≡ false →
    word (c ∷ s) ≡ Some l → first_lexeme k (c ∷ (s ++ rest)) ≡ Some (l, rest)
first_letters k c s rest l a b e =
    let text = c ∷ (s ++ rest) in
    if_true (is_ascii_alphabetic c) (cut word (prefix_len is_ascii_alphabetic text) text) (first_no_word k c (s ++ rest)) (and_first (is_ascii_alphabetic c) (list_all is_ascii_alphabetic s) a)
    ∙ cut_run is_ascii_alphabetic word (c ∷ s) rest l a b e

no_letter : (k c : ℕ) (cs : List ℕ) → is_ascii_alphabetic c ≡ false → first_lexeme k (c ∷ cs) ≡ first_no_word k c cs
no_letter k c cs h = if_false (is_ascii_alphabetic c) (cut word (prefix_len is_ascii_alphabetic (c ∷ cs)) (c ∷ cs)) (first_no_word k c cs) h

first_digits : (k c : ℕ) (s rest : List ℕ) (l : Lexeme) → list_all is_ascii_digit (c ∷ s) ≡ true → begins is_ascii_digit rest ≡ false →
    number (c ∷ s) ≡ Some l → first_lexeme k (c ∷ (s ++ rest)) ≡ Some (l, rest)
first_digits k c s rest l a b e =
    let text = c ∷ (s ++ rest) in
    let digit = and_first (is_ascii_digit c) (list_all is_ascii_digit s) a in
    no_letter k c (s ++ rest) (digit_no_letter c digit)
    ∙ if_true (is_ascii_digit c) (cut number (prefix_len is_ascii_digit text) text) (first_apart k c (s ++ rest)) digit
    ∙ cut_run is_ascii_digit number (c ∷ s) rest l a b e

no_run : (k c : ℕ) (cs : List ℕ) → is_ascii_alphabetic c ≡ false → is_ascii_digit c ≡ false → first_lexeme k (c ∷ cs) ≡ first_apart k c cs
no_run k c cs h i =
    no_letter k c cs h ∙ if_false (is_ascii_digit c) (cut number (prefix_len is_ascii_digit (c ∷ cs)) (c ∷ cs)) (first_apart k c cs) i

first_quote : (k q : ℕ) (s rest : List ℕ) → is_quote q ≡ true → begins (nat_eq q) rest ≡ false →
    first_lexeme k (q ∷ (doubled q s ++ q ∷ rest)) ≡ Some (Quote k, rest)
first_quote k q s rest h b =
    let cs = doubled q s ++ q ∷ rest in
    no_run k q cs (quote_fails is_ascii_alphabetic q h refl refl) (quote_fails is_ascii_digit q h refl refl)
    ∙ if_true (is_quote q) (option_map {U = Lexeme × List ℕ} (λ r. (Quote k, r)) (after_literal q false cs)) (first_mark q cs) h
    ∙ ap (λ o. option_map {U = Lexeme × List ℕ} (λ r. (Quote k, r)) o) (closes q s rest b)

only_marks : (k c : ℕ) (cs : List ℕ) → is_ascii_alphabetic c ≡ false → is_ascii_digit c ≡ false → is_quote c ≡ false → first_lexeme k (c ∷ cs) ≡ first_mark c cs
only_marks k c cs h i j =
    no_run k c cs h i ∙ if_false (is_quote c) (option_map {U = Lexeme × List ℕ} (λ r. (Quote k, r)) (after_literal c false cs)) (first_mark c cs) j

first_two : (k a b : ℕ) (rest : List ℕ) (l : Lexeme) → double_mark a b ≡ Some l → first_lexeme k (a ∷ b ∷ rest) ≡ Some (l, rest)
first_two k a b rest l e =
    only_marks k a (b ∷ rest) (fails is_ascii_alphabetic a _ l (letter_double a b) e) (fails is_ascii_digit a _ l (digit_double a b) e) (fails is_quote a _ l (quote_double a b) e)
    ∙ ap (λ o. first_or o rest (first_or (single_mark a) (b ∷ rest) None)) e

one_mark : (a : ℕ) (rest : List ℕ) (l : Lexeme) → single_mark a ≡ Some l → ((b : ℕ) (bs : List ℕ) → rest ≡ b ∷ bs → double_mark a b ≡ None) →
    first_mark a rest ≡ Some (l, rest)
one_mark a [] l e none = ap (λ o. first_or o [] None) e
one_mark a (b ∷ bs) l e none =
    ap (λ o. first_or o bs (first_or (single_mark a) (b ∷ bs) None)) (none b bs refl) ∙ ap (λ o. first_or o (b ∷ bs) None) e

first_one : (k a : ℕ) (rest : List ℕ) (l : Lexeme) → single_mark a ≡ Some l → ((b : ℕ) (bs : List ℕ) → rest ≡ b ∷ bs → double_mark a b ≡ None) →
    first_lexeme k (a ∷ rest) ≡ Some (l, rest)
first_one k a rest l e none =
    only_marks k a rest (fails is_ascii_alphabetic a _ l (letter_single a) e) (fails is_ascii_digit a _ l (digit_single a) e) (fails is_quote a _ l (quote_single a) e)
    ∙ one_mark a rest l e none

pub complete : (k : ℕ) (text : List ℕ) (l : Lexeme) (rest : List ℕ) → Starts k text l rest → first_lexeme k text ≡ Some (l, rest)
complete k text l rest (of_letters [] r e) = cc (e)
complete k text l rest (of_letters (c ∷ s) r e) = ap (first_lexeme k) r.parts ∙ first_letters k c s rest l r.all r.longest e
complete k text l rest (of_digits [] r e) = cc (e)
complete k text l rest (of_digits (c ∷ s) r e) = ap (first_lexeme k) r.parts ∙ first_digits k c s rest l r.all r.longest e
complete k text l rest (of_two_marks a b t e) = ap (first_lexeme k) t ∙ first_two k a b rest l e
complete k text l rest (of_one_mark a t e none) = ap (first_lexeme k) t ∙ first_one k a rest l e none
complete k text l rest (of_quotes q s h t b e) = ap (first_lexeme k) t ∙ first_quote k q s rest h b ∙ ap (λ x. Some (x, rest)) (sym e)

-- what is found is a lexeme at the beginning of the text

same_pair : (l m : Lexeme) (xs ys : List ℕ) → ◌≡◌ {A = Option (Lexeme × List ℕ)} (Some (l, xs)) (Some (m, ys)) → (l ≡ m) × (xs ≡ ys)
same_pair l m xs ys e =
    let pair : ◌≡◌ {A = Lexeme × List ℕ} (l, xs) (m, ys) = cc (e) in
    (ap (λ (p : Lexeme × List ℕ). p.0) pair, ap (λ (p : Lexeme × List ℕ). p.1) pair)

mapped : (o : Option Lexeme) (d : List ℕ) (l : Lexeme) (rest : List ℕ) → option_map {U = Lexeme × List ℕ} (λ x. (x, d)) o ≡ Some (l, rest) → (o ≡ Some l) × (d ≡ rest)
mapped None d l rest e = cc (e)
mapped (Some x) d l rest e = let s = same_pair x l d rest e in (ap (λ y. Some y) s.0, s.1)

chosen : (o : Option Lexeme) (d : List ℕ) (z : Option (Lexeme × List ℕ)) (l : Lexeme) (rest : List ℕ) → first_or o d z ≡ Some (l, rest) →
    ((o ≡ Some l) × (d ≡ rest)) ⊎ ((o ≡ None) × (z ≡ Some (l, rest)))
chosen None d z l rest e = inr (refl, e)
chosen (Some x) d z l rest e = let s = same_pair x l d rest e in inl (ap (λ y. Some y) s.0, s.1)

quoted : (k q : ℕ) (cs : List ℕ) (o : Option (List ℕ)) (l : Lexeme) (rest : List ℕ) → is_quote q ≡ true → after_literal q false cs ≡ o →
    option_map {U = Lexeme × List ℕ} (λ r. (Quote k, r)) o ≡ Some (l, rest) → Starts k (q ∷ cs) l rest
quoted k q cs None l rest h a e = cc (e)
quoted k q cs (Some r) l rest h a e =
    let s = same_pair (Quote k) l r rest e in
    let c = (closed q cs rest).0 (a ∙ ap (λ y. Some y) s.1) in
    of_quotes q c.said h (ap (λ t. q ∷ t) c.parts) c.shut (sym s.0)

one_marked : (k a : ℕ) (rest tail : List ℕ) (l : Lexeme) → first_or (single_mark a) rest None ≡ Some (l, tail) →
    ((b : ℕ) (bs : List ℕ) → rest ≡ b ∷ bs → double_mark a b ≡ None) → Starts k (a ∷ rest) l tail
one_marked k a rest tail l e none =
    elim (chosen (single_mark a) rest None l tail e) [
      | inl t ↦ of_one_mark a (ap (λ x. a ∷ x) t.1) t.0 (λ b bs h. none b bs (t.1 ∙ h))
      | inr t ↦ (let never = t.1 in cc (never))
    ]

head_of : (b c : ℕ) (bs cs : List ℕ) → b ∷ bs ≡ c ∷ cs → b ≡ c
head_of b c bs cs e = cc (e)

marked : (k c : ℕ) (cs : List ℕ) (l : Lexeme) (rest : List ℕ) → first_mark c cs ≡ Some (l, rest) → Starts k (c ∷ cs) l rest
marked k c [] l rest e = one_marked k c [] rest l e (λ b bs h. cc (h))
marked k c (d ∷ cs) l rest e =
    elim (chosen (double_mark c d) cs (first_or (single_mark c) (d ∷ cs) None) l rest e) [
      | inl t ↦ of_two_marks c d (ap (λ x. c ∷ d ∷ x) t.1) t.0
      | inr t ↦ one_marked k c (d ∷ cs) rest l t.1 (λ b bs h. ap (double_mark c) (sym (head_of d b cs bs h)) ∙ t.0)
    ]

pub sound : (k : ℕ) (text : List ℕ) (l : Lexeme) (rest : List ℕ) → first_lexeme k text ≡ Some (l, rest) → Starts k text l rest
sound k [] l rest e = cc (e)
sound k (c ∷ cs) l rest e =
    let text = c ∷ cs in
    let n = prefix_len is_ascii_alphabetic text in
    let m = prefix_len is_ascii_digit text in
    elim (if_cases (is_ascii_alphabetic c) (cut word n text) (first_no_word k c cs) (Some (l, rest)) e) [
      | inl t ↦ (let s = mapped (word (take n text)) (drop n text) l rest t.1 in
          of_letters (take n text) (subst (λ r. IsRun is_ascii_alphabetic (take n text) text r) s.1 (run_of is_ascii_alphabetic text)) s.0)
      | inr t ↦ elim (if_cases (is_ascii_digit c) (cut number m text) (first_apart k c cs) (Some (l, rest)) t.1) [
        | inl u ↦ (let s = mapped (number (take m text)) (drop m text) l rest u.1 in
            of_digits (take m text) (subst (λ r. IsRun is_ascii_digit (take m text) text r) s.1 (run_of is_ascii_digit text)) s.0)
        | inr u ↦ elim (if_cases (is_quote c) (option_map {U = Lexeme × List ℕ} (λ r. (Quote k, r)) (after_literal c false cs)) (first_mark c cs) (Some (l, rest)) u.1) [
          | inl v ↦ quoted k c cs (after_literal c false cs) l rest v.0 refl v.1
          | inr v ↦ marked k c cs l rest v.1
        ]
      ]
    ]

pub stray : (k : ℕ) (text : List ℕ) → first_lexeme k text ≡ None → IsStray k text
stray k text e l rest s = let some = complete k text l rest s in cc (e, some)

-- one lexeme at most stands at the beginning of a text
pub one_first : (k : ℕ) (text : List ℕ) (l m : Lexeme) (xs ys : List ℕ) → Starts k text l xs → Starts k text m ys → (l ≡ m) × (xs ≡ ys)
one_first k text l m xs ys s t = same_pair l m xs ys (sym (complete k text l xs s) ∙ complete k text m ys t)

-- a lexeme has a byte
pub shorter : (k : ℕ) (text : List ℕ) (l : Lexeme) (rest : List ℕ) → Starts k text l rest → length rest < length text
shorter k text l rest (of_letters [] r e) = cc (e)
shorter k text l rest (of_letters (c ∷ s) r e) = omega (arith, simp length-append at (ap length r.parts))
shorter k text l rest (of_digits [] r e) = cc (e)
shorter k text l rest (of_digits (c ∷ s) r e) = omega (arith, simp length-append at (ap length r.parts))
shorter k text l rest (of_two_marks a b t e) = omega (arith, ap length t)
shorter k text l rest (of_one_mark a t e none) = omega (arith, ap length t)
shorter k text l rest (of_quotes q s h t b e) = omega (arith, simp length-append at (ap length t))

pub found_starts : (k : ℕ) (text : List ℕ) (o : Option Found) → found text o ≡ first_lexeme k text →
    MatchOption o (IsStray k text) (λ f. Starts k text f.lexeme (drop f.length text))
found_starts k text None e = stray k text (sym e)
found_starts k text (Some f) e = sound k text f.lexeme (drop f.length text) (sym e)

pub found_length : (k : ℕ) (text : List ℕ) (o : Option Found) → found text o ≡ first_lexeme k text → IfSome o (λ f. f.length ≤ length text) →
    IfSome o (λ f. (1 ≤ f.length) × (f.length ≤ length text))
found_length k text None e h = tt
found_length k text (Some f) e h =
    let s = shorter k text f.lexeme (drop f.length text) (sound k text f.lexeme (drop f.length text) (sym e)) in
    (omega (arith, length-drop f.length text), h)

-- what a literal says is read between its quotes

said_once : (q c : ℕ) (d t : List ℕ) (x : Bool) → nat_eq q c ≡ x → said_of q false ((if x then c ∷ c ∷ d else c ∷ d) ++ t) ≡ c ∷ said_of q false (d ++ t)
said_once q c d t true e = if_true (nat_eq q c) (said_of q true (c ∷ (d ++ t))) (c ∷ said_of q false (c ∷ (d ++ t))) e
said_once q c d t false e = if_false (nat_eq q c) (said_of q true (d ++ t)) (c ∷ said_of q false (d ++ t)) e

says : (q : ℕ) (s : List ℕ) → said_of q false (doubled q s ++ q ∷ []) ≡ s
says q [] = if_true (nat_eq q q) (said_of q true []) (q ∷ said_of q false []) (eq-eqb q q refl)
says q (c ∷ cs) = said_once q c (doubled q cs) (q ∷ []) (nat_eq q c) refl ∙ ap (λ t. c ∷ t) (says q cs)

pub says_that : (q : ℕ) (bytes said s : List ℕ) → said ≡ said_of q false bytes → IsQuoted (q ∷ bytes) s → said ≡ s
says_that q bytes said s e (p, quote, parts) =
    let same : q ≡ p = cc (parts) in
    let rest : bytes ≡ doubled p s ++ p ∷ [] = cc (parts) in
    e ∙ ap (λ x. said_of x false bytes) same ∙ ap (said_of p false) rest ∙ says p s
