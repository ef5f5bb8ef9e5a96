-- What is found in sentences, one after the other.
use Rattle.std.proofs.Common.{◌≡◌, ◌<◌, ◌≤◌, ◌+◌, ℕ, List, [], ◌∷◌, ◌++◌, map, filter, take, drop, Some, None, get_or, length, Bool, true, false, cond, Option, All, refl, sym, ap, ap₂, subst, ◌∙◌, append-nil, append_assoc}
use Rattle.std.specs.List.{AllByRecursion, Contains}
use Rattle.std.specs.Io.KnownBytes.{Appends}
use Rattle.std.proofs.KnownBytes.{Appends-nil, Appends-trans}
use Rattle.std.proofs.lemmas.List.{map-append, length-map, take_more, drop_more, take-append-drop}
use Rattle.std.proofs.lemmas.List.Elements.{All-weaker, All-contains_itself}
use Rattle.std.proofs.lemmas.List.Concat.{flat_map-append}
use Rattle.tb_conllu.specs.Text.{BlockText, text_of}
use Rattle.tb_conllu.specs.Words.{words_of}
use Rattle.tb_conllu.specs.Sunk.{AppendsPart}
use Rattle.tb_rules.specs.Comments.{only, sent_ids}
use Rattle.tb_rules.specs.Rules.{KeepsRules, ids, sent_id}
use Rattle.tb_match.specs.declared.strategy.Strategy.{Strategy}
use Rattle.tb_match.specs.declared.strategy.Strategy.TheVariants.{Shortest, Longest, Every}
use Rattle.tb_match.specs.Hits.{IsHit}
use Rattle.tb_match.proofs.Unique.{ascending_unique}
use Rattle.tb_query.specs.Search.{Asked, AreHitsIn, Finds}
use Rattle.tb_syntax.specs.declared.lexeme.Attr.{Attr}
use Rattle.tb_report.specs.Keywords.{keyword_line, key_of}
use Rattle.tb_core.specs.Machine.{Sentence, Revision, bodies_of}
use Rattle.tb_search.specs.declared.stopped.Stopped.{Stopped}
use Rattle.tb_search.specs.declared.stopped.Stopped.TheVariants.{Output, Read}
use Rattle.tb_search.specs.Visited.{Taking, AllTaken, texts}
use Rattle.tb_search.specs.Searched.{Occurrence, occurrences, AreFound, AreCut, IsSearchBrokenOff, IsValidText, Meets, keys, lines, total_line}
use Rattle.tb_search.proofs.Copied.{part_first, part_later, no_part}

-- ---- one list of hits

pub same_hits : (s : Strategy) (q : Asked) (b : BlockText) (xs ys : List (ℕ × ℕ)) → AreHitsIn s q b xs → AreHitsIn s q b ys → xs ≡ ys
same_hits s q b xs ys one other =
    ascending_unique xs ys one.0 other.0 (λ z. (λ h. (other.1 z.0 z.1).1 ((one.1 z.0 z.1).0 h), λ h. (one.1 z.0 z.1).1 ((other.1 z.0 z.1).0 h)))

pub one_found : (s : Strategy) (q : Asked) (bs : List BlockText) (xs ys : List Occurrence) → AreFound s q bs xs → AreFound s q bs ys → xs ≡ ys
one_found s q [] xs ys one other = one ∙ sym other
one_found s q (b ∷ bs) xs ys (hits, rest, are, more, is) (others, left, also, further, so) =
    is ∙ ap₂ (λ u v. occurrences b u ++ v) (same_hits s q b hits others are also) (one_found s q bs rest left more further) ∙ sym so

abbrev pub Lies : BlockText → (ℕ × ℕ) → Type 0
Lies b h = (h.0 < h.1) × (h.1 ≤ words_of b)

lies : (s : Strategy) (q : Asked) (b : BlockText) (i j : ℕ) → IsHit s (Finds q b) i j → (i < j) × (j ≤ words_of b)
lies Shortest q b i j h = (h.0.0, h.0.1)
lies Longest q b i j h = (h.0.0, h.0.1)
lies Every q b i j h = (h.0, h.1)

pub hits_lie : (s : Strategy) (q : Asked) (b : BlockText) (hits : List (ℕ × ℕ)) → AreHitsIn s q b hits → All (Lies b) hits
hits_lie s q b hits are = All-weaker (Contains hits) (Lies b) (λ h held. lies s q b h.0 h.1 ((are.1 h.0 h.1).0 held)) hits (All-contains_itself hits)

pub keys_are : (column : Attr) (b : BlockText) (hits : List (ℕ × ℕ)) → keys column (occurrences b hits) ≡ map (key_of column b) hits
keys_are column b [] = refl
keys_are column b (h ∷ hits) = ap (λ l. key_of column b h ∷ l) (keys_are column b hits)

pub one_more_key : (column : Attr) (b : BlockText) (hits : List (ℕ × ℕ)) (i : ℕ) (d : ℕ × ℕ) (ks : List (List ℕ)) → i < length hits
    → (ks ++ map (key_of column b) (take i hits)) ++ key_of column b (get_or hits i d) ∷ [] ≡ ks ++ map (key_of column b) (take (i + 1) hits)
one_more_key column b hits i d ks low =
    append_assoc ks (map (key_of column b) (take i hits)) (key_of column b (get_or hits i d) ∷ [])
    ∙ ap (λ l. ks ++ l) (sym (map-append (key_of column b) (take i hits) (get_or hits i d ∷ [])) ∙ ap (map (key_of column b)) (sym (take_more hits i d low)))

pub as_many : (b : BlockText) (hits : List (ℕ × ℕ)) → length (occurrences b hits) ≡ length hits
as_many b hits = length-map hits (λ (h : ℕ × ℕ). (b, h))

-- ---- what the rules say of it

pub few_words : (b : BlockText) → KeepsRules b → words_of b ≤ 1000
few_words b rules = (rules ids).few

pub has_name : (b block : BlockText) → block ≡ b → KeepsRules b → only (sent_ids block) ≡ None → ⊥
has_name b block same rules none =
    let id = rules sent_id in
    let one : only (sent_ids block) ≡ Some id.name = ap (λ (x : BlockText). only (sent_ids x)) same ∙ ap only id.one in
    let both : None ≡ Some id.name = sym none ∙ one in
    absurd cc

pub cut_met : (s : Strategy) (q : Asked) (text : List ℕ) (e : Stopped) (o a : Option (List ℕ)) (n : ℕ) (block : BlockText) (hits listed : List (ℕ × ℕ)) → listed ≡ hits → AreHitsIn s q block hits
    → AreCut e o a n (occurrences block listed) → ((b : BlockText) → IsValidText b text → block ≡ b) → Meets s q text (λ found. AreCut e o a n found)
cut_met s q text e o a n block hits listed same are cut is b reported =
    (hits, subst (λ (x : BlockText). AreHitsIn s q x hits) (is b reported) are, subst (λ l. AreCut e o a n l) (ap (occurrences block) same ∙ ap (λ (x : BlockText). occurrences x hits) (is b reported)) cut)

-- ---- sentences that read back

abbrev pub ReadsBack : Sentence → Type 0
ReadsBack x = IsValidText x.current.body (text_of (x.current.body ∷ []))

last_has : (P : BlockText → Type 0) (before : List Revision) (r : Revision) → AllByRecursion P (map (λ (q : Revision). q.body) (before ++ r ∷ [])) → P r.body
last_has P [] r h = h.0
last_has P (q ∷ before) r h = last_has P before r h.1

pub all_read : (P : BlockText → Type 0) (Q : BlockText → Type 0) → ((b : BlockText) → P b → Q b) → (wanted : Sentence → Bool) (xs : List Sentence)
    → AllByRecursion (λ (x : Sentence). AllByRecursion P (bodies_of x)) xs → AllByRecursion (λ (x : Sentence). Q x.current.body) (filter wanted xs)
all_read P Q f wanted [] h = tt
all_read P Q f wanted (x ∷ xs) h = by (all_read P Q f wanted xs h.1) (wanted x)
  where
    by : AllByRecursion (λ (y : Sentence). Q y.current.body) (filter wanted xs) → (b : Bool) → AllByRecursion (λ (y : Sentence). Q y.current.body) (cond b (x ∷ filter wanted xs) (filter wanted xs))
    by later true = (f x.current.body (last_has P x.before x.current h.0), later)
    by later false = later

abbrev pub bodies : List Sentence → List BlockText
bodies xs = map (λ (x : Sentence). x.current.body) xs

-- ---- all that is found

module _ {V O : Type 0} (strategy : V → Strategy) (asked : V → Asked) (P : V → O → List Occurrence → V → O → Type 0)
    (keeps : (v : V) (o : O) (found : List Occurrence) (w : V) (q : O) → P v o found w q → (strategy w ≡ strategy v) × (asked w ≡ asked v))
    (none : (v : V) (o : O) → P v o [] v o)
    (more : (v : V) (o : O) (xs : List Occurrence) (u : V) (p : O) (ys : List Occurrence) (w : V) (q : O) → P v o xs u p → P u p ys w q → P v o (xs ++ ys) w q) where
  abbrev takes : Taking V O
  takes v o t w q = Meets (strategy v) (asked v) t (λ found. P v o found w q)

  pub all_found : (xs : List Sentence) → AllByRecursion ReadsBack xs → (v : V) (o : O) (w : V) (q : O) → AllTaken takes v o (texts xs) w q
      → (found : List Occurrence) × AreFound (strategy v) (asked v) (bodies xs) found × P v o found w q
  all_found [] read v o w q (same, filled) = ([], refl, subst (λ x. P v o [] x q) (sym same) (subst (λ y. P v o [] v y) (sym filled) (none v o)))
  all_found (x ∷ xs) read v o w q (u, p, took, rest) =
      let b = x.current.body in
      let here = took b read.0 in
      let later = all_found xs read.1 u p w q rest in
      let same = keeps v o (occurrences b here.0) u p here.2 in
      let further : AreFound (strategy v) (asked v) (bodies xs) later.0 = subst (λ s. AreFound s (asked v) (bodies xs) later.0) same.0 (subst (λ a. AreFound (strategy u) a (bodies xs) later.0) same.1 later.1) in
      (occurrences b here.0 ++ later.0, (here.0, later.0, here.1, further, refl), more v o (occurrences b here.0) u p later.0 w q here.2 later.2)

-- ---- keyword lines

pub lines_more : (n : ℕ) (xs ys : List Occurrence) → lines n (xs ++ ys) ≡ lines n xs ++ lines n ys
lines_more n xs ys = flat_map-append (λ (f : Occurrence). keyword_line f.0 f.1 n) xs ys

pub no_lines : (e : Stopped) (o a : Option (List ℕ)) (n : ℕ) (found : List Occurrence) → a ≡ o → AreCut e o a n found
no_lines Output o a n found same = no_part o a (lines n found) same
no_lines (Read error) o a n found same = ([], found, refl, subst (λ b. Appends o b []) (sym same) (Appends-nil o))

pub cut_first : (e : Stopped) (o a : Option (List ℕ)) (n : ℕ) (xs ys : List Occurrence) → AreCut e o a n xs → AreCut e o a n (xs ++ ys)
cut_first Output o a n xs ys cut = subst (AppendsPart o a) (sym (lines_more n xs ys)) (part_first o a (lines n xs) (lines n ys) cut)
cut_first (Read error) o a n xs ys (first, rest, is, put) = (first, rest ++ ys, ap (λ l. l ++ ys) is ∙ append_assoc first rest ys, put)

pub cut_later : (e : Stopped) (o a b : Option (List ℕ)) (n : ℕ) (xs ys : List Occurrence) → Appends o a (lines n xs) → AreCut e a b n ys → AreCut e o b n (xs ++ ys)
cut_later Output o a b n xs ys put cut = subst (AppendsPart o b) (sym (lines_more n xs ys)) (part_later o a b (lines n xs) (lines n ys) put cut)
cut_later (Read error) o a b n xs ys put (first, rest, is, then_) =
    (xs ++ first, rest, ap (λ l. xs ++ l) is ∙ sym (append_assoc xs first rest), subst (Appends o b) (sym (lines_more n xs first)) (Appends-trans o a b (lines n xs) (lines n first) put then_))

-- lines alone are a first part of an answer
pub broken_off : (e : Stopped) (o a : Option (List ℕ)) (n : ℕ) (found : List Occurrence) → AreCut e o a n found → IsSearchBrokenOff e o a n found
broken_off Output o a n found cut = part_first o a (lines n found) (total_line (length found)) cut
broken_off (Read error) o a n found cut = cut

module _ (n : ℕ) (b : BlockText) (hits : List (ℕ × ℕ)) (i : ℕ) (d : ℕ × ℕ) (low : i < length hits) (o a c : Option (List ℕ)) (put : Appends o a (lines n (occurrences b (take i hits)))) where
  occurrences_more : (xs ys : List (ℕ × ℕ)) → occurrences b (xs ++ ys) ≡ occurrences b xs ++ occurrences b ys
  occurrences_more xs ys = map-append (λ (h : ℕ × ℕ). (b, h)) xs ys

  pub one_more_line : Appends a c (keyword_line b (get_or hits i d) n) → Appends o c (lines n (occurrences b (take (i + 1) hits)))
  one_more_line then_ =
      let one : lines n (occurrences b (get_or hits i d ∷ [])) ≡ keyword_line b (get_or hits i d) n = append-nil (keyword_line b (get_or hits i d) n) in
      let split : lines n (occurrences b (take (i + 1) hits)) ≡ lines n (occurrences b (take i hits)) ++ keyword_line b (get_or hits i d) n =
      ap (λ l. lines n (occurrences b l)) (take_more hits i d low) ∙ ap (lines n) (occurrences_more (take i hits) (get_or hits i d ∷ []))
      ∙ lines_more n (occurrences b (take i hits)) (occurrences b (get_or hits i d ∷ [])) ∙ ap (λ l. lines n (occurrences b (take i hits)) ++ l) one in
      subst (Appends o c) (sym split) (Appends-trans o a c (lines n (occurrences b (take i hits))) (keyword_line b (get_or hits i d) n) put then_)

  pub cut_there : (e : Stopped) → AreCut e a c n (occurrences b (get_or hits i d ∷ [])) → AreCut e o c n (occurrences b hits)
  cut_there e cut =
      let h = get_or hits i d in
      let whole : hits ≡ take i hits ++ (h ∷ drop (i + 1) hits) = sym (take-append-drop i hits) ∙ ap (λ l. take i hits ++ l) (drop_more hits i d low) in
      let parts : occurrences b hits ≡ occurrences b (take i hits) ++ (occurrences b (h ∷ []) ++ occurrences b (drop (i + 1) hits)) =
      ap (occurrences b) whole ∙ occurrences_more (take i hits) (h ∷ drop (i + 1) hits) in
      subst (λ l. AreCut e o c n l) (sym parts) (cut_later e o a c n (occurrences b (take i hits)) (occurrences b (h ∷ []) ++ occurrences b (drop (i + 1) hits)) put (cut_first e a c n (occurrences b (h ∷ [])) (occurrences b (drop (i + 1) hits)) cut))
