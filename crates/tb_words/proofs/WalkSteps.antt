-- One sentence more in a walk over a file.
use denote.Ref.{Bor}
use Rattle.std.proofs.Common.{◌≡◌, ◌∙◌, ◌⊎◌, ◌≤◌, ◌+◌, ◌-◌, ℕ, List, [], Option, Some, None, Bool, true, false, IfSome, MatchOption, ap, arith, below_more, bytes_eq, cond, if◌then◌else◌, inl, inr, is_some, refl, subst, sym, unwrap_or}
use Rattle.std.proofs.lemmas.Bool.{true≢false}
use Rattle.std.proofs.lemmas.Slice.Eq.{bytes_eq-Decides}
use Rattle.std.specs.BTreeMap.{BTreeMap, is_at}
use Rattle.std.specs.Cmp.Lexicographic.{slice_cmp}
use Rattle.std.specs.Map.{lookup}
use Rattle.std.specs.Ordering.{nat_cmp}
use Rattle.tb_conllu.specs.Left.{BeginsNoSentence, IsNext, Left}
use Rattle.tb_rules.specs.Comments.{only, sent_ids}
use Rattle.tb_words.specs.FileSentences.{AreReadTo, HasRead, IsAtEnd, IsMissing, IsSentenceAfter, comment_line_of, kept, start_of}
use Rattle.tb_words.specs.Named.{IsFirstNamed, NoneIsNamed, is_named, is_value}
use Rattle.tb_words.specs.Keyed.{SaysTaken}
use Rattle.tb_words.specs.Told.{IsBareFault, IsTakenAmong}
use Rattle.tb_words.specs.Walks.{HasWalked, IsLast, KnowsNames, first_of}
use Rattle.tb_words.specs.declared.findings.Detail.TheVariants.{Nothing}
use Rattle.tb_words.specs.declared.findings.Finding.{Finding}
use Rattle.tb_words.specs.declared.places.Placed.{Placed}
use Rattle.tb_words.specs.declared.sentences.TheConstants.{BROKEN}
use Rattle.tb_words.specs.declared.telling.Walk.{Walk}

-- ---- names

some_again : (known : Option (ℕ × ℕ)) (first : ℕ × ℕ) → is_some known ≡ true → known ≡ Some (unwrap_or known first)
some_again None first is = absurd (true≢false (sym is))
some_again (Some x) first is = refl

is_none : (known : Option (ℕ × ℕ)) → is_some known ≡ false → known ≡ None
is_none None h = refl
is_none (Some x) h = absurd (true≢false h)

none_yet : (known : Option (ℕ × ℕ)) (first : ℕ × ℕ) → known ≡ None → Some first ≡ Some (unwrap_or known first)
none_yet None first is = refl
none_yet (Some x) first is = absurd (true≢false (ap (λ (o : Option (ℕ × ℕ)). is_some o) is))

stays_by : (b : Bool) (known : Option (ℕ × ℕ)) (first : ℕ × ℕ) → (b ≡ true → is_some known ≡ true)
    → known ≡ (if b then Some (unwrap_or known first) else known)
stays_by true known first some = some_again known first (some refl)
stays_by false known first some = refl

comes_by : (b : Bool) (known : Option (ℕ × ℕ)) (first : ℕ × ℕ) (new : Option (ℕ × ℕ)) → (b ≡ true → is_some known ≡ false)
    → new ≡ cond b (Some first) known → new ≡ (if b then Some (unwrap_or known first) else known)
comes_by true known first new none is = is ∙ none_yet known first (is_none known (none refl))
comes_by false known first new none is = is

-- no name is kept
pub none_kept : (ids : Option (List ℕ)) (name : List ℕ) (known : Option (ℕ × ℕ)) (first : ℕ × ℕ) → ids ≡ None
    → known ≡ (if is_value name ids then Some (unwrap_or known first) else known)
none_kept ids name known first is =
    subst (λ (o : Option (List ℕ)). known ≡ (if is_value name o then Some (unwrap_or known first) else known)) (sym is) refl

-- the name is kept already
pub one_stays : (ids : Option (List ℕ)) (known : List ℕ → Option (ℕ × ℕ)) (own name : List ℕ) (first : ℕ × ℕ) → ids ≡ Some own
    → is_some (known own) ≡ true
    → known name ≡ (if is_value name ids then Some (unwrap_or (known name) first) else known name)
one_stays ids known own name first is some =
    subst (λ (o : Option (List ℕ)). known name ≡ (if is_value name o then Some (unwrap_or (known name) first) else known name)) (sym is)
    (stays_by (bytes_eq own name) (known name) first
    (λ same. ap (λ (n : List ℕ). is_some (known n)) (sym ((bytes_eq-Decides own name).0 same)) ∙ some))

-- the name comes
pub one_comes : (ids : Option (List ℕ)) (known : List ℕ → Option (ℕ × ℕ)) (own name : List ℕ) (first : ℕ × ℕ)
    (new : Option (ℕ × ℕ)) → ids ≡ Some own → is_some (known own) ≡ false
    → new ≡ cond (bytes_eq own name) (Some first) (known name)
    → new ≡ (if is_value name ids then Some (unwrap_or (known name) first) else known name)
one_comes ids known own name first new is none updated =
    subst (λ (o : Option (List ℕ)). new ≡ (if is_value name o then Some (unwrap_or (known name) first) else known name)) (sym is)
    (comes_by (bytes_eq own name) (known name) first new
    (λ same. ap (λ (n : List ℕ). is_some (known n)) (sym ((bytes_eq-Decides own name).0 same)) ∙ none) updated)

-- ---- the names of one sentence more

one_name : (file name : List ℕ) (count number : ℕ) (placed : Placed) (old new : Option (ℕ × ℕ)) (b : Bool)
    → is_named placed name ≡ b → IsSentenceAfter file count placed → number ≡ count + 1
    → MatchOption old (NoneIsNamed file name count) (λ first. IsFirstNamed file name first.0 first.1)
    → new ≡ (if b then Some (unwrap_or old (number, comment_line_of placed 0)) else old)
    → MatchOption new (NoneIsNamed file name (count + 1)) (λ first. IsFirstNamed file name first.0 first.1)
one_name file name count number placed None new true named after next none is =
    subst (λ (o : Option (ℕ × ℕ)). MatchOption o (NoneIsNamed file name (count + 1)) (λ first. IsFirstNamed file name first.0 first.1))
    (sym is) (record {
      placed = placed;
      read = subst (λ (k : ℕ). IsSentenceAfter file k placed) (omega (arith, next)) after;
      named = named;
      line_is = refl;
      before = subst (λ (k : ℕ). NoneIsNamed file name k) (omega (arith, next)) none;
    })
one_name file name count number placed (Some first) new true named after next known is =
    subst (λ (o : Option (ℕ × ℕ)). MatchOption o (NoneIsNamed file name (count + 1)) (λ f. IsFirstNamed file name f.0 f.1))
    (sym is) known
one_name file name count number placed None new false named after next none is =
    subst (λ (o : Option (ℕ × ℕ)). MatchOption o (NoneIsNamed file name (count + 1)) (λ first. IsFirstNamed file name first.0 first.1))
    (sym is) (λ k less. below_more (λ (j : ℕ). (other : Placed) × IsSentenceAfter file j other × (is_named other name ≡ false)) count
    none (placed, after, named) k less)
one_name file name count number placed (Some first) new false named after next known is =
    subst (λ (o : Option (ℕ × ℕ)). MatchOption o (NoneIsNamed file name (count + 1)) (λ f. IsFirstNamed file name f.0 f.1))
    (sym is) known

pub names_known : (file : List ℕ) (count number : ℕ) (placed : Placed) (old new : BTreeMap (Bor (List ℕ)) (ℕ × ℕ))
    → IsSentenceAfter file count placed → number ≡ count + 1 → KnowsNames file count old
    → ((name : List ℕ) → first_of new name ≡ (if is_named placed name
    then Some (unwrap_or (first_of old name) (number, comment_line_of placed 0)) else first_of old name))
    → KnowsNames file (count + 1) new
names_known file count number placed old new after next known kept_names name =
    one_name file name count number placed (first_of old name) (first_of new name) (is_named placed name) refl after next (known name)
    (kept_names name)

-- ---- the sentence that was read last

not_beyond : (file : List ℕ) (count number : ℕ) (left : Left) (here : Option Placed) → IsLast file count number left here
    → count ≤ number
not_beyond file count number left None (inl start) = omega (arith, start.0, start.1)
not_beyond file count number left None (inr end) = omega (arith, end.0)
not_beyond file count number left (Some placed) last = omega (arith, last.0)

-- where a sentence comes next, all before it were read
all_read : (file : List ℕ) (count number : ℕ) (left next : Left) (placed : Placed) (here : Option Placed)
    → IsLast file count number left here → IsNext left next placed.block → count ≡ number
all_read file count number left next placed None (inl start) comes = omega (arith, start.0, start.1)
all_read file count number left next placed None (inr end) comes = absurd (end.1 placed.block next.rest comes.shaped comes.text)
all_read file count number left next placed (Some other) last comes = last.0

pub walked_on : (file : List ℕ) (old new : Walk) (placed : Placed) (next : Left) → (walked : HasWalked file old)
    → new.number ≡ old.number + 1 → IsNext old.places.unread next placed.block
    → IsSentenceAfter file walked.count placed → HasRead file (walked.count + 1) new.places → new.here ≡ Some placed
    → ((name : List ℕ) → first_of new.names name ≡ (if is_named placed name
    then Some (unwrap_or (first_of old.names name) (new.number, comment_line_of placed 0)) else first_of old.names name))
    → HasWalked file new
walked_on file old new placed next walked number comes after read here names =
    let all = all_read file walked.count old.number old.places.unread next placed old.here walked.last comes in
    let same : new.number ≡ walked.count + 1 = omega (arith, all, number) in
    let last : walked.count ≡ new.number - 1 = omega (arith, same) in
    record {
      count = walked.count + 1;
      read = read;
      last = subst (λ (o : Option Placed). IsLast file (walked.count + 1) new.number new.places.unread o) (sym here) (
        sym same,
        omega (arith, same),
        subst (λ (k : ℕ). IsSentenceAfter file k placed) last after,
      );
      names = names_known file walked.count new.number placed old.names new.names after same walked.names names;
    }

pub walk_ends : (file : List ℕ) (old new : Walk) → HasWalked file old → new.number ≡ old.number + 1
    → IsAtEnd old.places new.places → new.here ≡ None → new.names ≡ old.names → HasWalked file new
walk_ends file old new walked number end here names = record {
  count = walked.count;
  read = record {
    left = subst (λ (l : Left). AreReadTo walked.count (start_of file) l) (sym end.stays) walked.read.left;
    lines = end.counted ∙ (walked.read.lines ∙ ap (λ (l : Left). kept l.line) (sym end.stays));
  };
  last =
      let few = not_beyond file walked.count old.number old.places.unread old.here walked.last in
      subst (λ (o : Option Placed). IsLast file walked.count new.number new.places.unread o) (sym here)
      (inr (omega (arith, few, number), subst (λ (l : Left). BeginsNoSentence l.rest) (sym end.stays) end.ended));
  names = subst (λ (m : BTreeMap (Bor (List ℕ)) (ℕ × ℕ)). KnowsNames file walked.count m) (sym names) walked.names;
}

-- nothing was read yet
pub none_walked : (file : List ℕ) (walk : Walk) → HasRead file 0 walk.places → walk.number ≡ 0 → walk.here ≡ None
    → walk.names.entries ≡ [] → HasWalked file walk
none_walked file walk read number here names = record {
  count = 0;
  read = read;
  last = subst (λ (o : Option Placed). IsLast file 0 walk.number walk.places.unread o) (sym here) (inl (number, refl));
  names = λ name. subst (λ (es : List (Bor (List ℕ) × (ℕ × ℕ))). MatchOption (lookup (is_at (λ k. slice_cmp nat_cmp name k.now)) es)
      (NoneIsNamed file name 0) (λ first. IsFirstNamed file name first.0 first.1)) (sym names) (λ k less. absurd (omega (arith, less)));
}

-- no sentence has the number
pub none_there : (file : List ℕ) (count number : ℕ) (left : Left) (here : Option Placed) → here ≡ None
    → AreReadTo count (start_of file) left → IsLast file count number left here → (number ≡ 0) ⊎ IsMissing file number
none_there file count number left None is read (inl start) = inl start.0
none_there file count number left None is read (inr end) =
    inr (record { count = count; few = end.0; left = left; read = read; ended = end.1 })
none_there file count number left (Some placed) is read last = absurd (true≢false (ap (λ (o : Option Placed). is_some o) is))

-- ---- what is told

pub taken_told : (names : BTreeMap (Bor (List ℕ)) (ℕ × ℕ)) (placed : Placed) (name : List ℕ) (first : ℕ × ℕ) (told : Option Finding)
    → only (sent_ids placed.block) ≡ Some name → first_of names name ≡ Some first
    → IfSome told (SaysTaken placed first.0 first.1) → IfSome told (IsTakenAmong names placed)
taken_told names placed name first None own known said = tt
taken_told names placed name first (Some found) own known said = (name, first, own, known, said)

pub bare_fault : (found : Finding) (line : ℕ) (sentence : Bor (List ℕ)) → found ≡ record {
  line = line;
  id = None;
  column = None;
  value = None;
  detail = Nothing;
  sentence = sentence;
} → sentence.now ≡ BROKEN.now → IsBareFault line found
bare_fault found line sentence is said = record {
  line_is = ap (λ (f : Finding). f.line) is;
  row_is = ap (λ (f : Finding). f.id) is;
  column_is = ap (λ (f : Finding). f.column) is;
  value_is = ap (λ (f : Finding). f.value) is;
  detail_is = ap (λ (f : Finding). f.detail) is;
  sentence_is = ap (λ (f : Finding). f.sentence.now) is ∙ said;
}
