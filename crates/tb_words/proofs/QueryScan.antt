-- A scan for the literals of a text: what each character does to it.
use Rattle.std.proofs.Common.{◌≡◌, ◌≢◌, ◌∙◌, ◌⊎◌, ◌+◌, ◌++◌, ◌∷◌, [], ℕ, Bool, true, false, List, Option, None, Some, ap, append-nil, append_assoc, arith}
use Rattle.std.proofs.Common.{chars, cond, encode_utf8, encode_utf8_all, if◌then◌else◌, IfSome, inl, inr, is_some, length, nat_eq, not, option_to_list, refl}
use Rattle.std.proofs.Common.{length-append, subst, sym, unwrap_or}
use Rattle.std.proofs.lemmas.Bool.{cases_eq, eq-eqb, ne_eqb, or_from, true≢false}
use Rattle.std.proofs.lemmas.List.{nil_from_length}
use Rattle.std.proofs.lemmas.List.Folds.{list_any-append}
use Rattle.std.proofs.lemmas.Str.{chars-nil, chars_past_char, encodes-append}
use Rattle.std.specs.List.{list_any}
use Rattle.std.specs.Str.{IsUtf8}
use Rattle.tb_syntax.specs.Spelling.{begins, doubled, is_quote}
use Rattle.tb_words.specs.QueryLiterals.{AreLiterals, begun, nothing_read, quoted, width}
use Rattle.tb_words.specs.declared.literals.Literal.{Literal}
use Rattle.tb_words.specs.declared.literals.Reading.{Reading}

-- ---- doubled quotes

pushed : (b : Bool) (x : ℕ) (t u : List ℕ)
    → (if b then x ∷ x ∷ (t ++ u) else x ∷ (t ++ u)) ≡ (if b then x ∷ x ∷ t else x ∷ t) ++ u
pushed true x t u = refl
pushed false x t u = refl

doubled-append : (q : ℕ) (xs ys : List ℕ) → doubled q (xs ++ ys) ≡ doubled q xs ++ doubled q ys
doubled-append q [] ys = refl
doubled-append q (x ∷ xs) ys =
    ap (λ (t : List ℕ). if nat_eq q x then x ∷ x ∷ t else x ∷ t) (doubled-append q xs ys)
    ∙ pushed (nat_eq q x) x (doubled q xs) (doubled q ys)

one_doubled : (q : ℕ) → doubled q (q ∷ []) ≡ q ∷ q ∷ []
one_doubled q = ap (λ (b : Bool). if b then q ∷ q ∷ [] else q ∷ []) (eq-eqb q q refl)

one_plain : (q c : ℕ) → (c ≡ q → ⊥) → doubled q (c ∷ []) ≡ c ∷ []
one_plain q c other = ap (λ (b : Bool). if b then c ∷ c ∷ [] else c ∷ []) (ne_eqb q c (λ e. other (sym e)))

-- ---- widths

width-append : (xs ys : List ℕ) → width (xs ++ ys) ≡ width xs + width ys
width-append xs ys = ap (λ (bs : List ℕ). length bs) (encodes-append xs ys) ∙ length-append (encode_utf8_all xs) (encode_utf8_all ys)

one_wide : (c : ℕ) → width (c ∷ []) ≡ length (encode_utf8 c)
one_wide c = ap (λ (bs : List ℕ). length bs) (append-nil (encode_utf8 c))

none_wide : width [] ≡ 0
none_wide = refl

-- characters before the literals, without a quote
gap_before : (ls : List Literal) (read cs : List ℕ) (start at : ℕ) → list_any is_quote read ≡ false → at ≡ start + width read
    → AreLiterals at cs ls → AreLiterals start (read ++ cs) ls
gap_before [] read cs start at none at_is (gap, rest, parts, clear, last) = (
  read ++ gap,
  rest,
  ap (λ (t : List ℕ). read ++ t) parts ∙ sym (append_assoc read gap rest),
  list_any-append is_quote read gap ∙ or_from _ _ none clear,
  last,
)
gap_before (l ∷ ls) read cs start at none at_is (gap, quote, said, rest, parts, clear, is, lone, begin, end, more) = (
  read ++ gap,
  quote,
  said,
  rest,
  ap (λ (t : List ℕ). read ++ t) parts ∙ sym (append_assoc read gap (quoted quote said ++ rest)),
  list_any-append is_quote read gap ∙ or_from _ _ none clear,
  is,
  lone,
  omega (arith, begin, at_is, width-append read gap),
  end,
  more,
)

-- ---- what has been read

-- Without an open literal it has no quote. Else it is the literal so far; where it is shut, a quote that may close it came.
abbrev pub IsRead : (quote : Option ℕ) → (is_shut : Bool) → (read : List ℕ) → Type 0
IsRead None is_shut read = (is_shut ≡ false) × (list_any is_quote read ≡ false)
IsRead (Some q) false read = (said : List ℕ) × (is_quote q ≡ true) × (read ≡ q ∷ doubled q said)
IsRead (Some q) true read = (said : List ℕ) × (is_quote q ≡ true) × (read ≡ quoted q said)

-- Characters have been read since the scan began anew. With what is left they give the literals that are still to come.
pub record Scanned (text : List ℕ) (scan : Reading) (found : List Literal) (rest : List ℕ) (offset : ℕ) : Type 0 where
  pub read : List ℕ
  pub state : IsRead scan.quote scan.is_shut read
  pub at : offset ≡ scan.start + width read
  pub onward : (ls : List Literal) → AreLiterals scan.start (read ++ chars rest) ls → AreLiterals 0 (chars text) (found ++ ls)

opened_read : (c : ℕ) (b : Bool) → is_quote c ≡ b → IsRead (cond b (Some c) None) false (c ∷ [])
opened_read c true is = ([], is, refl)
opened_read c false is = (refl, or_from _ _ is refl)

-- it begins anew at a character
anew : (text : List ℕ) (new : Reading) (found : List Literal) (more : List ℕ) (offset next at c : ℕ) → at ≡ offset
    → next ≡ offset + length (encode_utf8 c) → new ≡ begun at c
    → ((ls : List Literal) → AreLiterals at (c ∷ chars more) ls → AreLiterals 0 (chars text) (found ++ ls))
    → Scanned text new found more next
anew text new found more offset next at c at_is next_is new_is onward =
    subst (λ (r : Reading). Scanned text r found more next) (sym new_is) (record {
      read = c ∷ [];
      state = opened_read c (is_quote c) refl;
      at = omega (arith, at_is, next_is, one_wide c);
      onward = onward;
    })

-- nothing has been read
pub scanned_none : (text : List ℕ) (scan : Reading) (found : List Literal) (rest : List ℕ) (offset : ℕ) → scan ≡ nothing_read
    → found ≡ [] → rest ≡ text → offset ≡ 0 → Scanned text scan found rest offset
scanned_none text scan found rest offset scan_is found_is rest_is offset_is =
    subst (λ (r : Reading). Scanned text r found rest offset) (sym scan_is) (record {
      read = [];
      state = (refl, refl);
      at = omega (arith, offset_is, none_wide);
      onward = λ ls all. subst (λ (fs : List Literal). AreLiterals 0 (chars text) (fs ++ ls)) (sym found_is)
          (subst (λ (bs : List ℕ). AreLiterals 0 (chars bs) ls) rest_is all);
    })

-- one character more belongs to the literal
goes_on : (text : List ℕ) (old new : Reading) (found : List Literal) (rest more : List ℕ) (offset next c : ℕ)
    → (s : Scanned text old found rest offset) → chars rest ≡ c ∷ chars more → next ≡ offset + length (encode_utf8 c)
    → new.start ≡ old.start → IsRead new.quote new.is_shut (s.read ++ c ∷ []) → Scanned text new found more next
goes_on text old new found rest more offset next c s chars_is next_is start_is state = record {
  read = s.read ++ c ∷ [];
  state = state;
  at = omega (arith, s.at, next_is, start_is, width-append s.read (c ∷ []), one_wide c);
  onward = λ ls all.
      let same : (s.read ++ c ∷ []) ++ chars more ≡ s.read ++ chars rest =
      append_assoc s.read (c ∷ []) (chars more) ∙ ap (λ (t : List ℕ). s.read ++ t) (sym chars_is) in
      s.onward ls (subst (λ (t : List ℕ). AreLiterals old.start t ls) same (subst (λ (k : ℕ). AreLiterals k ((s.read ++ c ∷ []) ++ chars more) ls) start_is all));
}

-- a literal ends before a character
closes : (text : List ℕ) (old : Reading) (found : List Literal) (rest more : List ℕ) (offset at c q : ℕ) (said : List ℕ) (l : Literal)
    → (s : Scanned text old found rest offset) → chars rest ≡ c ∷ chars more → at ≡ offset → (c ≡ q → ⊥) → is_quote q ≡ true
    → s.read ≡ quoted q said → l.start ≡ old.start → l.end ≡ at
    → (ls : List Literal) → AreLiterals at (c ∷ chars more) ls → AreLiterals 0 (chars text) ((found ++ l ∷ []) ++ ls)
closes text old found rest more offset at c q said l s chars_is at_is other quote read_is start end ls all =
    subst (λ (fs : List Literal). AreLiterals 0 (chars text) fs) (sym (append_assoc found (l ∷ []) ls)) (s.onward (l ∷ ls) (
      [],
      q,
      said,
      c ∷ chars more,
      ap (λ (t : List ℕ). s.read ++ t) chars_is ∙ ap (λ (t : List ℕ). t ++ c ∷ chars more) read_is,
      refl,
      quote,
      ne_eqb q c (λ e. other (sym e)),
      omega (arith, start, none_wide),
      omega (arith, start, end, at_is, s.at, ap (λ (t : List ℕ). width t) read_is),
      subst (λ (k : ℕ). AreLiterals k (c ∷ chars more) ls) (sym end) all,
    ))

-- ---- a turn, by what `take` says

-- what a literal that ends says of the scan
abbrev pub Ends : (old : Reading) → (at c : ℕ) → Option Literal → Type 0
Ends old at c ended =
    IfSome ended (λ l. (l.start ≡ old.start) × (l.end ≡ at) × (old.is_shut ≡ true) × (old.quote ≢ Some c))

none_at_quote : (old : Reading) (at c : ℕ) (ended : Option Literal) → Ends old at c ended → old.quote ≡ Some c → ended ≡ None
none_at_quote old at c None ends is = refl
none_at_quote old at c (Some l) ends is = absurd (ends.3 is)

none_inside : (old : Reading) (at c : ℕ) (ended : Option Literal) → Ends old at c ended → old.is_shut ≡ false → ended ≡ None
none_inside old at c None ends is = refl
none_inside old at c (Some l) ends is = absurd (true≢false (sym ends.2 ∙ is))

without : (text : List ℕ) (new : Reading) (found : List Literal) (more : List ℕ) (next : ℕ) (ended : Option Literal) → ended ≡ None
    → Scanned text new found more next → Scanned text new (found ++ option_to_list ended) more next
without text new found more next ended is s =
    subst (λ (fs : List Literal). Scanned text new fs more next)
    (sym (append-nil found) ∙ ap (λ (o : Option Literal). found ++ option_to_list o) (sym is)) s

-- the same quote again: a quote that may close the literal, or one that the last one doubles
at_quote : (q : ℕ) (shut : Bool) (read : List ℕ) → IsRead (Some q) shut read → IsRead (Some q) (not shut) (read ++ q ∷ [])
at_quote q false read (said, quote, is) = (said, quote, ap (λ (t : List ℕ). t ++ q ∷ []) is)
at_quote q true read (said, quote, is) = (
  said ++ q ∷ [],
  quote,
  ap (λ (t : List ℕ). t ++ q ∷ []) is
      ∙ ap (λ (t : List ℕ). q ∷ t) (append_assoc (doubled q said) (q ∷ []) (q ∷ [])
      ∙ (ap (λ (t : List ℕ). doubled q said ++ t) (sym (one_doubled q)) ∙ sym (doubled-append q said (q ∷ [])))),
)

-- another character in the literal
inside_more : (q c : ℕ) (read : List ℕ) → (c ≡ q → ⊥) → IsRead (Some q) false read → IsRead (Some q) false (read ++ c ∷ [])
inside_more q c read other (said, quote, is) = (
  said ++ c ∷ [],
  quote,
  ap (λ (t : List ℕ). t ++ c ∷ []) is
      ∙ ap (λ (t : List ℕ). q ∷ t) (ap (λ (t : List ℕ). doubled q said ++ t) (sym (one_plain q c other))
      ∙ sym (doubled-append q said (c ∷ []))),
)

same_read : (old_quote new_quote : Option ℕ) (old_shut new_shut : Bool) (read : List ℕ) → new_quote ≡ old_quote → new_shut ≡ old_shut
    → IsRead old_quote old_shut read → IsRead new_quote new_shut read
same_read old_quote new_quote old_shut new_shut read quote_is shut_is state =
    subst (λ (o : Option ℕ). IsRead o new_shut read) (sym quote_is) (subst (λ (b : Bool). IsRead old_quote b read) (sym shut_is) state)

-- the clauses of `take`
pub record Takes (old new : Reading) (at c : ℕ) (ended : Option Literal) : Type 0 where
  pub literal : Ends old at c ended
  pub quote : old.quote ≡ Some c → (new.is_shut ≡ not old.is_shut) × (new.start ≡ old.start) × (new.quote ≡ old.quote)
  pub inside : old.quote ≢ None → old.quote ≢ Some c → old.is_shut ≡ false → new ≡ old
  pub closed : old.quote ≢ None → old.quote ≢ Some c → old.is_shut ≡ true → (ended ≢ None) × (new ≡ begun at c)
  pub outside : old.quote ≡ None → (ended ≡ None) × (new ≡ begun at c)

closed_by : (text : List ℕ) (old new : Reading) (found : List Literal) (rest more : List ℕ) (offset next at c q : ℕ) (ended : Option Literal)
    → (s : Scanned text old found rest offset) → chars rest ≡ c ∷ chars more → at ≡ offset
    → next ≡ offset + length (encode_utf8 c) → (c ≡ q → ⊥) → IsRead (Some q) true s.read → Ends old at c ended
    → ended ≢ None → new ≡ begun at c → Scanned text new (found ++ option_to_list ended) more next
closed_by text old new found rest more offset next at c q None s chars_is at_is next_is other read ends some new_is = absurd (some refl)
closed_by text old new found rest more offset next at c q (Some l) s chars_is at_is next_is other (said, quote, is) ends some new_is =
    anew text new (found ++ l ∷ []) more offset next at c at_is next_is new_is
    (closes text old found rest more offset at c q said l s chars_is at_is other quote is ends.0 ends.1)

in_literal : (text : List ℕ) (old new : Reading) (found : List Literal) (rest more : List ℕ) (offset next at c q : ℕ) (ended : Option Literal)
    (shut : Bool) → Scanned text old found rest offset → chars rest ≡ c ∷ chars more → at ≡ offset
    → next ≡ offset + length (encode_utf8 c) → old.quote ≡ Some q → old.is_shut ≡ shut → Takes old new at c ended
    → (c ≡ q) ⊎ (c ≡ q → ⊥) → Scanned text new (found ++ option_to_list ended) more next
in_literal text old new found rest more offset next at c q ended shut s chars_is at_is next_is quote_is shut_is t (inl same) =
    let here : old.quote ≡ Some c = quote_is ∙ ap (λ (k : ℕ). Some k) (sym same) in
    let said = t.quote here in
    let state = at_quote q shut s.read (same_read old.quote (Some q) old.is_shut shut s.read (sym quote_is) (sym shut_is) s.state) in
    without text new found more next ended (none_at_quote old at c ended t.literal here)
    (goes_on text old new found rest more offset next c s chars_is next_is said.1
    (subst (λ (k : ℕ). IsRead new.quote new.is_shut (s.read ++ k ∷ [])) (sym same)
    (same_read (Some q) new.quote (not shut) new.is_shut (s.read ++ q ∷ []) (said.2 ∙ quote_is)
    (said.0 ∙ ap (λ (b : Bool). not b) shut_is) state)))
in_literal text old new found rest more offset next at c q ended false s chars_is at_is next_is quote_is shut_is t (inr other) =
    let some : old.quote ≢ None = λ e. true≢false (ap (λ (o : Option ℕ). is_some o) (sym quote_is ∙ e)) in
    let differs : old.quote ≢ Some c = λ e. other (sym (ap (λ (o : Option ℕ). unwrap_or o q) (sym quote_is ∙ e))) in
    let new_is = t.inside some differs shut_is in
    let state = inside_more q c s.read other (same_read old.quote (Some q) old.is_shut false s.read (sym quote_is) (sym shut_is) s.state) in
    without text new found more next ended (none_inside old at c ended t.literal shut_is)
    (goes_on text old new found rest more offset next c s chars_is next_is (ap (λ (r : Reading). r.start) new_is)
    (same_read (Some q) new.quote false new.is_shut (s.read ++ c ∷ []) (ap (λ (r : Reading). r.quote) new_is ∙ quote_is)
    (ap (λ (r : Reading). r.is_shut) new_is ∙ shut_is) state))
in_literal text old new found rest more offset next at c q ended true s chars_is at_is next_is quote_is shut_is t (inr other) =
    let some : old.quote ≢ None = λ e. true≢false (ap (λ (o : Option ℕ). is_some o) (sym quote_is ∙ e)) in
    let differs : old.quote ≢ Some c = λ e. other (sym (ap (λ (o : Option ℕ). unwrap_or o q) (sym quote_is ∙ e))) in
    let said = t.closed some differs shut_is in
    let state = same_read old.quote (Some q) old.is_shut true s.read (sym quote_is) (sym shut_is) s.state in
    closed_by text old new found rest more offset next at c q ended s chars_is at_is next_is other state t.literal said.0 said.1

taken_by : (o : Option ℕ) (text : List ℕ) (old new : Reading) (found : List Literal) (rest more : List ℕ) (offset next at c : ℕ) (ended : Option Literal)
    → Scanned text old found rest offset → chars rest ≡ c ∷ chars more → at ≡ offset
    → next ≡ offset + length (encode_utf8 c) → old.quote ≡ o → Takes old new at c ended
    → Scanned text new (found ++ option_to_list ended) more next
taken_by None text old new found rest more offset next at c ended s chars_is at_is next_is quote_is t =
    let said = t.outside quote_is in
    let state = same_read old.quote None old.is_shut old.is_shut s.read (sym quote_is) refl s.state in
    without text new found more next ended said.0 (anew text new found more offset next at c at_is next_is said.1
    (λ ls all. s.onward ls (subst (λ (t : List ℕ). AreLiterals old.start (s.read ++ t) ls) (sym chars_is)
    (gap_before ls s.read (c ∷ chars more) old.start at state.1 (at_is ∙ s.at) all))))
taken_by (Some q) text old new found rest more offset next at c ended s chars_is at_is next_is quote_is t =
    in_literal text old new found rest more offset next at c q ended old.is_shut s chars_is at_is next_is quote_is refl t (cases_eq c q)

pub one_taken : (text : List ℕ) (old new : Reading) (found : List Literal) (rest more : List ℕ) (offset next at c : ℕ) (ended : Option Literal)
    → IsUtf8 rest → Scanned text old found rest offset → at ≡ offset → rest ≡ encode_utf8 c ++ more
    → next ≡ offset + length (encode_utf8 c) → Takes old new at c ended
    → Scanned text new (found ++ option_to_list ended) more next
one_taken text old new found rest more offset next at c ended utf8 s at_is is next_is t =
    taken_by old.quote text old new found rest more offset next at c ended s (chars_past_char rest more c utf8 is) at_is next_is refl t

-- ---- the end

none_left : (rest : List ℕ) → length rest ≡ 0 → chars rest ≡ []
none_left rest none = ap (λ (bs : List ℕ). chars bs) (nil_from_length rest none) ∙ chars-nil

abbrev pub EndsAt : (scan : Reading) → (length : ℕ) → Option Literal → Type 0
EndsAt scan length ended = IfSome ended (λ l. (l.start ≡ scan.start) × (l.end ≡ length) × (scan.is_shut ≡ true))

none_ends : (scan : Reading) (long : ℕ) (ended : Option Literal) → EndsAt scan long ended → scan.is_shut ≡ false → ended ≡ None
none_ends scan long None ends is = refl
none_ends scan long (Some l) ends is = absurd (true≢false (sym ends.2 ∙ is))

no_literal : (text : List ℕ) (scan : Reading) (found : List Literal) (rest : List ℕ) (offset : ℕ) (ended : Option Literal)
    → (s : Scanned text scan found rest offset) → ended ≡ None → AreLiterals scan.start (s.read ++ chars rest) []
    → AreLiterals 0 (chars text) (found ++ option_to_list ended)
no_literal text scan found rest offset ended s is all =
    subst (λ (o : Option Literal). AreLiterals 0 (chars text) (found ++ option_to_list o)) (sym is) (s.onward [] all)

last_literal : (text : List ℕ) (scan : Reading) (found : List Literal) (rest : List ℕ) (offset q : ℕ) (ended : Option Literal)
    → (s : Scanned text scan found rest offset) → chars rest ≡ [] → offset ≡ length text → IsRead (Some q) true s.read
    → EndsAt scan (length text) ended → (ended ≡ None → ⊥) → AreLiterals 0 (chars text) (found ++ option_to_list ended)
last_literal text scan found rest offset q None s none all read ends some = absurd (some refl)
last_literal text scan found rest offset q (Some l) s none all (said, quote, is) ends some = s.onward (l ∷ []) (
  [],
  q,
  said,
  chars rest,
  ap (λ (t : List ℕ). t ++ chars rest) is,
  refl,
  quote,
  ap (λ (cs : List ℕ). begins (nat_eq q) cs) none,
  omega (arith, ends.0, none_wide),
  omega (arith, ends.0, ends.1, all, s.at, ap (λ (t : List ℕ). width t) is),
  ([], chars rest, refl, refl, inl none),
)

ended_in : (text : List ℕ) (scan : Reading) (found : List Literal) (rest : List ℕ) (offset q : ℕ) (ended : Option Literal) (shut : Bool)
    → (s : Scanned text scan found rest offset) → chars rest ≡ [] → offset ≡ length text → scan.quote ≡ Some q
    → scan.is_shut ≡ shut → EndsAt scan (length text) ended → (ended ≡ None → scan.quote ≢ None → scan.is_shut ≡ false)
    → AreLiterals 0 (chars text) (found ++ option_to_list ended)
ended_in text scan found rest offset q ended false s none all quote_is shut_is ends left =
    let state = same_read scan.quote (Some q) scan.is_shut false s.read (sym quote_is) (sym shut_is) s.state in
    no_literal text scan found rest offset ended s (none_ends scan (length text) ended ends shut_is) (
      [],
      s.read ++ chars rest,
      refl,
      refl,
      inr (
        q,
        state.0,
        state.1,
        ap (λ (t : List ℕ). s.read ++ t) none ∙ (append-nil s.read ∙ state.2),
      ),
    )
ended_in text scan found rest offset q ended true s none all quote_is shut_is ends left =
    let some : scan.quote ≢ None = λ e. true≢false (ap (λ (o : Option ℕ). is_some o) (sym quote_is ∙ e)) in
    last_literal text scan found rest offset q ended s none all
    (same_read scan.quote (Some q) scan.is_shut true s.read (sym quote_is) (sym shut_is) s.state) ends
    (λ e. true≢false (sym shut_is ∙ left e some))

ended_by : (o : Option ℕ) (text : List ℕ) (scan : Reading) (found : List Literal) (rest : List ℕ) (offset : ℕ) (ended : Option Literal)
    → (s : Scanned text scan found rest offset) → chars rest ≡ [] → offset ≡ length text → scan.quote ≡ o
    → EndsAt scan (length text) ended → (ended ≡ None → scan.quote ≢ None → scan.is_shut ≡ false)
    → AreLiterals 0 (chars text) (found ++ option_to_list ended)
ended_by None text scan found rest offset ended s none all quote_is ends left =
    let state = same_read scan.quote None scan.is_shut scan.is_shut s.read (sym quote_is) refl s.state in
    no_literal text scan found rest offset ended s (none_ends scan (length text) ended ends state.0)
    (s.read, chars rest, refl, state.1, inl none)
ended_by (Some q) text scan found rest offset ended s none all quote_is ends left =
    ended_in text scan found rest offset q ended scan.is_shut s none all quote_is refl ends left

pub all_taken : (text : List ℕ) (scan : Reading) (found : List Literal) (rest : List ℕ) (offset long : ℕ) (ended : Option Literal)
    → Scanned text scan found rest offset → length rest ≡ 0 → offset ≡ length text → long ≡ length text → EndsAt scan long ended
    → (ended ≡ None → scan.quote ≢ None → scan.is_shut ≡ false) → AreLiterals 0 (chars text) (found ++ option_to_list ended)
all_taken text scan found rest offset long ended s none all long_is ends left =
    ended_by scan.quote text scan found rest offset ended s (none_left rest none) all refl
    (subst (λ (n : ℕ). EndsAt scan n ended) long_is ends) left
