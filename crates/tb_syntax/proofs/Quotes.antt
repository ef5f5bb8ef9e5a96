-- What a literal says, from quote to quote.
use Rattle.std.proofs.Common.{◌≡◌, ◌≢◌, ℕ, suc, ◌<◌, List, [], ◌∷◌, ◌++◌, length, get_or, true, false, nat_eq, refl, sym, ap, ◌∙◌, append_assoc, arith}
use Rattle.std.proofs.lemmas.Bool.{eq-eqb, ne_eqb}
use Rattle.std.proofs.lemmas.Bool.Decides.{nat_tests}
use Rattle.std.proofs.lemmas.Str.{encode_ascii, char_from_byte}
use lib.Utf8.{encode}
use Rattle.tb_syntax.specs.First.{said_of}
use Rattle.tb_syntax.specs.Spelling.{is_quote, IsQuoted}

-- the text has no such quote
abbrev pub HasNone : ℕ → List ℕ → Type 0
HasNone q text = (i : ℕ) → i < length text → get_or text i 0 ≢ q

others : (q c : ℕ) (cs : List ℕ) → HasNone q (c ∷ cs) → HasNone q cs
others q c cs none i lt = none (suc i) (omega arith)

differs : (q c : ℕ) (cs : List ℕ) → HasNone q (c ∷ cs) → nat_eq q c ≡ false
differs q c cs none = ne_eqb q c (λ e. none 0 (omega arith) (sym e))

-- such a text says itself
all_said : (q : ℕ) (text : List ℕ) → HasNone q text → said_of q false text ≡ text
all_said q [] none = refl
all_said q (c ∷ cs) none = rw (differs q c cs none) (ap (λ t. c ∷ t) (all_said q cs (others q c cs none)))

-- so does the front of a text up to the first quote
front_said : (q : ℕ) (front after : List ℕ) → HasNone q front → said_of q false (front ++ q ∷ after) ≡ front ++ said_of q true after
front_said q [] after none = rw (eq-eqb q q refl) refl
front_said q (c ∷ cs) after none = rw (differs q c cs none) (ap (λ t. c ∷ t) (front_said q cs after (others q c cs none)))

-- a quote that no other follows says nothing
lone : (q : ℕ) (after : List ℕ) → ((rest : List ℕ) → after ≢ q ∷ rest) → said_of q true after ≡ said_of q false after
lone q [] other = refl
lone q (c ∷ cs) other = rw (ne_eqb q c (λ e. other cs (ap (λ x. x ∷ cs) (sym e)))) refl

pub lone_quote : (q : ℕ) (said new rest front after all : List ℕ) → said ++ said_of q false rest ≡ all → rest ≡ front ++ q ∷ after → HasNone q front →
    ((more : List ℕ) → after ≢ q ∷ more) → new ≡ said ++ front → new ++ said_of q false after ≡ all
lone_quote q said new rest front after all e parts none other pushed =
    ap (λ x. x ++ said_of q false after) pushed ∙ append_assoc said front (said_of q false after) ∙ ap (λ x. said ++ (front ++ x)) (sym (lone q after other))
    ∙ ap (λ x. said ++ x) (sym (front_said q front after none)) ∙ ap (λ x. said ++ said_of q false x) (sym parts) ∙ e

pub doubled_quote : (q : ℕ) (said new newer rest front after more all : List ℕ) → said ++ said_of q false rest ≡ all → rest ≡ front ++ q ∷ after → HasNone q front →
    after ≡ q ∷ more → new ≡ said ++ front → newer ≡ new ++ q ∷ [] → newer ++ said_of q false more ≡ all
doubled_quote q said new newer rest front after more all e parts none again pushed quoted =
    ap (λ x. x ++ said_of q false more) quoted ∙ append_assoc new (q ∷ []) (said_of q false more) ∙ ap (λ x. x ++ said_of q true (q ∷ more)) pushed
    ∙ append_assoc said front (said_of q true (q ∷ more)) ∙ ap (λ x. said ++ (front ++ said_of q true x)) (sym again) ∙ ap (λ x. said ++ x) (sym (front_said q front after none))
    ∙ ap (λ x. said ++ said_of q false x) (sym parts) ∙ e

pub no_quote : (q : ℕ) (said new rest all : List ℕ) → said ++ said_of q false rest ≡ all → HasNone q rest → new ≡ said ++ rest → new ≡ all
no_quote q said new rest all e none pushed = pushed ∙ ap (λ x. said ++ x) (sym (all_said q rest none)) ∙ e

pub quotes_are_ascii : (q : ℕ) → is_quote q ≡ true → q < 128
quotes_are_ascii q e = grind (arith, nat_tests)

-- the first character of a literal is its quote
pub opened : (c : ℕ) (literal rest s : List ℕ) → literal ≡ encode c ++ rest → IsQuoted literal s → (c < 128) × IsQuoted (c ∷ rest) s
opened c literal rest s e (q, quote, parts) =
    let first : get_or literal 0 0 ≡ q = ap (λ x. get_or x 0 0) parts in
    let small = quotes_are_ascii q quote in
    let same = char_from_byte literal rest c e (omega arith) (omega (arith, ap length parts)) in
    let ascii : c < 128 = omega arith in
    (ascii, (q, quote, ap (λ x. x ++ rest) (sym (encode_ascii c ascii)) ∙ sym e ∙ parts))
