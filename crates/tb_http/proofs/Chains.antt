-- How the facts of one run make a chain of stages.
use Rattle.std.proofs.Common.{◌≡◌, ◌<◌, ◌≤◌, ◌-◌, ℕ, List, ◌++◌, length, take, drop, map, min, Option, Some, None, IfSome, refl, sym, ◌∙◌, ap, subst, arith, option_map, ◌⊎◌, inl, inr, length-append, take_all, take_at, length-take-le, length-drop}
use Rattle.std.proofs.lemmas.Bool.{cases_lt}
use Rattle.std.proofs.lemmas.List.{length-map, take-append-le}
use Rattle.std.proofs.lemmas.Grind.{common_steps}
use Rattle.httparse.specs.Grammar.{RequestHead}
use Rattle.httparse.specs.Spans.{IsRequestAt, IsRequestOf, IsRequestWithin, header_bytes, span_bytes, name_and_value}
use Rattle.httparse.specs.declared.spans.HeaderSpan.{HeaderSpan}
use Rattle.httparse.specs.declared.spans.RequestSpans.{RequestSpans}
use Rattle.httparse.proofs.GrammarLemmas.{request_unique, ReadsRequest-append}
use Rattle.tb_http.specs.Head.{BeginsWithHead, HasNoHead}
use Rattle.tb_http.specs.declared.actions.Action.{Action}
use Rattle.tb_http.specs.declared.actions.Allow.{Allow}
use Rattle.tb_http.specs.declared.actions.Resource.{Resource}
use Rattle.tb_http.specs.Actions.{Act, Place, place_of, act_of, allow_of, place_by, act_by}
use Rattle.tb_http.specs.declared.asks.RequestFault.TheVariants.{Head, Length, Path, Method, Long}
use Rattle.tb_http.specs.Headers.{Header, user_of, body_length}
use Rattle.tb_http.specs.Forms.{within}
use Rattle.tb_http.specs.Stage.{stops, goes}
use Rattle.tb_http.specs.Faults.{HasCall}
use Rattle.tb_http.specs.Asks.{Outcome, refused, Front, headers_of, AsksBody, AsksLong, AsksMethod, AsksPath, AsksLength, Asks}
use Rattle.tb_http.proofs.Staged.{not_none}

-- the spans are those of this head, and within the limits
pub record IsSet (buf : List ℕ) (headers : List HeaderSpan) (spans : RequestSpans) (h : RequestHead) : Type 0 where
  pub room : length buf ≤ 8192
  pub few : length headers ≤ 32
  pub fits : spans.len ≤ length buf
  pub whole : IsRequestAt buf headers spans h

pub set : (buf : List ℕ) (headers : List HeaderSpan) (spans : RequestSpans) → length buf ≤ 8192 → length headers ≤ 32 → IsRequestWithin buf headers spans
    → (r : IsRequestOf buf headers spans) → IsSet buf headers spans r.0
set buf headers spans room few inside r = record { room = room; few = few; fits = inside.section.len_fits; whole = r.1 }

-- the names and values at the spans
abbrev pub pairs : List ℕ → List HeaderSpan → RequestSpans → List Header
pairs buf headers spans = map (header_bytes buf) (take spans.headers headers)

abbrev pub front : RequestHead → List ℕ → List ℕ → Front
front h user rest = record { head = h; user = user; rest = rest }

fewer : (headers : List HeaderSpan) (n : ℕ) → length (take n headers) ≤ length headers
fewer headers n = grind (arith, common_steps)

pub begins : (buf later : List ℕ) (headers : List HeaderSpan) (spans : RequestSpans) (h : RequestHead) → IsSet buf headers spans h
    → BeginsWithHead (buf ++ later) h (drop spans.len buf ++ later)
begins buf later headers spans h s =
    let count : length (take spans.headers headers) ≡ length h.fields =
    sym (length-map (take spans.headers headers) (header_bytes buf)) ∙ ap length s.whole.fields ∙ length-map h.fields name_and_value in
    record {
      reads = ReadsRequest-append buf h (drop spans.len buf) later s.whole.reads;
      short = omega (arith, s.whole.len, s.fits, s.room);
      few = omega (arith, count, fewer headers spans.headers, s.few);
    }

-- whatever is known, it holds of it
pub always : {X : Type 0} (o : Option X) (P : X → Type 0) → ((x : X) → P x) → IfSome o P
always None P f = tt
always (Some x) P f = f x

pub when_known : {X : Type 0} (o : Option X) (P Q : X → Type 0) → ((x : X) → P x → Q x) → IfSome o P → IfSome o Q
when_known None P Q f h = tt
when_known (Some x) P Q f h = f x h

-- no head, no front
pub no_head : (limit : ℕ) (bytes : List ℕ) → HasNoHead bytes → Asks limit bytes (refused Head)
no_head limit bytes none = stops _ ((λ f p. none f.head f.rest p.begins), refl)

-- what the number within the limit tells
pub above : (limit n : ℕ) (r : Option ℕ) → within limit n ≡ r → r ≡ None → limit < n
above limit n r e none = let w : within limit n ≡ None = e ∙ none in grind arith

pub not_above : (limit n m : ℕ) (r : Option ℕ) → within limit n ≡ r → r ≡ Some m → (n ≡ m) × (n ≤ limit)
not_above limit n m r e some = let w : within limit n ≡ Some m = e ∙ some in grind arith

module _ (buf : List ℕ) (headers : List HeaderSpan) (spans : RequestSpans) (h : RequestHead) (s : IsSet buf headers spans h) (limit : ℕ) where
  pub stop_user : user_of (pairs buf headers spans) ≡ None → (later : List ℕ) → Asks limit (buf ++ later) (refused Head)
  stop_user twice later = stops _ (
    (λ f p.
        let same = request_unique (buf ++ later) h f.head _ f.rest (begins buf later headers spans h s).reads p.begins.reads in
        not_none (user_of (headers_of f.head)) f.user (ap (λ k. user_of (headers_of k)) (sym same.0) ∙ (ap user_of (sym s.whole.fields) ∙ twice)) p.named),
    refl,
  )

  pub goes_user : (u : List ℕ) → user_of (pairs buf headers spans) ≡ Some u → (later : List ℕ) (t : Outcome)
      → AsksLength limit (front h u (drop spans.len buf ++ later)) t → Asks limit (buf ++ later) t
  goes_user u e later t x = goes t (front h u (drop spans.len buf ++ later)) (record { begins = begins buf later headers spans h s; named = ap user_of (sym s.whole.fields) ∙ e }) x

  pub stop_length : (u rest : List ℕ) → body_length (pairs buf headers spans) ≡ None → AsksLength limit (front h u rest) (refused Length)
  stop_length u rest e = stops _ (ap body_length (sym s.whole.fields) ∙ e, refl)

  pub goes_length : (u rest : List ℕ) (r : Option ℕ) → option_map (within limit) (body_length (pairs buf headers spans)) ≡ Some r → (t : Outcome)
      → ((n : ℕ) → within limit n ≡ r → AsksPath limit (front h u rest) n t) → AsksLength limit (front h u rest) t
  goes_length u rest r e t next = by_length (body_length (headers_of h)) refl (ap (λ l. option_map (within limit) (body_length l)) (sym s.whole.fields) ∙ e)
    where
      value : Option ℕ → Option (Option ℕ) → Option ℕ
      value d None = d
      value d (Some x) = x

      by_length : (o : Option ℕ) → body_length (headers_of h) ≡ o → option_map (within limit) o ≡ Some r → AsksLength limit (front h u rest) t
      by_length None k m = absurd (not_none {X = Option ℕ} None r refl m)
      by_length (Some n) k m = goes t n k (next n (ap (value r) m))

  pub stop_path : (u rest : List ℕ) (n : ℕ) (word : List ℕ) (found : Option Resource) → word ≡ span_bytes buf spans.path → option_map place_by found ≡ place_of word → found ≡ None
      → AsksPath limit (front h u rest) n (refused Path)
  stop_path u rest n word found w p none = stops _ (ap place_of (sym (w ∙ s.whole.path)) ∙ (sym p ∙ ap (option_map place_by) none), refl)

  pub goes_path : (u rest : List ℕ) (n : ℕ) (word : List ℕ) (found : Option Resource) (r : Resource) → word ≡ span_bytes buf spans.path → option_map place_by found ≡ place_of word → found ≡ Some r → (t : Outcome)
      → AsksMethod limit (front h u rest) n (place_by r) t → AsksPath limit (front h u rest) n t
  goes_path u rest n word found r w p some t x = goes t (place_by r) (ap place_of (sym (w ∙ s.whole.path)) ∙ (sym p ∙ ap (option_map place_by) some)) x

  pub stop_method : (u rest : List ℕ) (n : ℕ) (place : Place) (word : List ℕ) (found : Option Action) (allow : Allow) → word ≡ span_bytes buf spans.method
      → option_map act_by found ≡ act_of place word → found ≡ None → allow ≡ allow_of place → AsksMethod limit (front h u rest) n place (refused (Method allow))
  stop_method u rest n place word found allow w e none a =
      stops _ (ap (act_of place) (sym (w ∙ s.whole.method)) ∙ (sym e ∙ ap (option_map act_by) none), ap (λ x. refused (Method x)) a)

  pub goes_method : (u rest : List ℕ) (n : ℕ) (place : Place) (word : List ℕ) (found : Option Action) (action : Action) → word ≡ span_bytes buf spans.method
      → option_map act_by found ≡ act_of place word → found ≡ Some action → (t : Outcome)
      → AsksLong limit (front h u rest) n (act_by action) t → AsksMethod limit (front h u rest) n place t
  goes_method u rest n place word found action w e some t x = goes t (act_by action) (ap (act_of place) (sym (w ∙ s.whole.method)) ∙ (sym e ∙ ap (option_map act_by) some)) x

  reported : (r : Option ℕ) (n : ℕ) → option_map (within limit) (body_length (pairs buf headers spans)) ≡ Some r → r ≡ Some n
      → (body_length (headers_of h) ≡ Some n) × (n ≤ limit)
  reported r n e some = by_length (body_length (headers_of h)) refl (ap (λ l. option_map (within limit) (body_length l)) (sym s.whole.fields) ∙ e)
    where
      value : Option ℕ → Option (Option ℕ) → Option ℕ
      value d None = d
      value d (Some x) = x

      by_length : (o : Option ℕ) → body_length (headers_of h) ≡ o → option_map (within limit) o ≡ Some r → (body_length (headers_of h) ≡ Some n) × (n ≤ limit)
      by_length None k q = absurd (not_none {X = Option ℕ} None r refl q)
      by_length (Some m) k q =
          let found = not_above limit m n r (ap (value r) q) some in
          (k ∙ ap Some found.0, omega (arith, found.0, found.1))

  -- the tests that passed make a call
  pub has_call : (u later : List ℕ) → user_of (pairs buf headers spans) ≡ Some u
      → (r : Option ℕ) (n : ℕ) → option_map (within limit) (body_length (pairs buf headers spans)) ≡ Some r → r ≡ Some n
      → (path : List ℕ) (found : Option Resource) (resource : Resource) → path ≡ span_bytes buf spans.path → option_map place_by found ≡ place_of path → found ≡ Some resource
      → (method : List ℕ) (chosen : Option Action) (action : Action) → method ≡ span_bytes buf spans.method
      → option_map act_by chosen ≡ act_of (place_by resource) method → chosen ≡ Some action
      → HasCall limit (buf ++ later) (front h u (drop spans.len buf ++ later)) n
  has_call u later named r n length_is some path found resource p place is_resource method chosen action m act is_action =
      let length_reported = reported r n length_is some in
      record {
        begins = record { begins = begins buf later headers spans h s; named = ap user_of (sym s.whole.fields) ∙ named };
        reported = length_reported.0;
        path = (
          place_by resource,
          ap place_of (sym (p ∙ s.whole.path)) ∙ (sym place ∙ ap (option_map place_by) is_resource),
          act_by action,
          ap (act_of (place_by resource)) (sym (m ∙ s.whole.method)) ∙ (sym act ∙ ap (option_map act_by) is_action),
        );
        within = length_reported.1;
      }

pub stop_long : (limit : ℕ) (f : Front) (n : ℕ) (act : Act) → limit < n → AsksLong limit f n act (refused Long)
stop_long limit f n act h = stops _ (h, refl)

pub goes_long : (limit : ℕ) (f : Front) (n m : ℕ) (act : Act) (t : Outcome) → (n ≡ m) × (n ≤ limit) → AsksBody f m act t → AsksLong limit f n act t
goes_long limit f n m act t h x = goes t _ h.1 (subst (λ k. AsksBody f k act t) (sym h.0) x)

-- the first bytes of what came, and all of it, begin with the same body
pub body_same : (came later : List ℕ) (k n : ℕ) → k ≡ min (length came) n → (take n (take k came ++ later) ≡ take n (came ++ later))
body_same came later k n e = by_case (cases_lt (length came) n)
  where
    by_case : (length came < n) ⊎ (n ≤ length came) → take n (take k came ++ later) ≡ take n (came ++ later)
    by_case (inl short) = ap (λ l. take n (l ++ later)) (take_all k came (omega (arith, e, short)))
    by_case (inr long) =
        let same : k ≡ n = omega (arith, e, long) in
        ap (λ j. take n (take j came ++ later)) same ∙ (take_at (take n came) later n (length-take-le n came long) ∙ sym (take-append-le n came later long))

-- too few bytes after the first of what came are too few after all of it
pub body_short : (came later : List ℕ) (k n : ℕ) → k ≡ min (length came) n → length (take k came ++ later) < n → length (came ++ later) < n
body_short came later k n e short = by_case (cases_lt (length came) n)
  where
    by_case : (length came < n) ⊎ (n ≤ length came) → length (came ++ later) < n
    by_case (inl less) = subst (λ l. length (l ++ later) < n) (take_all k came (omega (arith, e, less))) short
    by_case (inr long) =
        let same : length (take k came) ≡ n = length-take-le k came (omega (arith, e, long)) ∙ omega (arith, e, long) in
        absurd (omega (arith, same, length-append (take k came) later, short))

-- a byte after the first of what came is one after all of it
pub body_some : (came later : List ℕ) (k : ℕ) → 0 < length (take k came ++ later) → 0 < length (came ++ later)
body_some came later k some =
    let shorter : length (take k came) ≤ length came = grind (arith, common_steps) in
    omega (arith, shorter, length-append (take k came) later, length-append came later, some)

-- the slice from a place to the end
pub rest_is : (buf : List ℕ) (n : ℕ) → take (length buf - n) (drop n buf) ≡ drop n buf
rest_is buf n = take_all _ _ (omega (arith, length-drop n buf))

pub long_enough : (n : ℕ) (body rest : List ℕ) → length body ≡ n → body ≡ take n rest → n ≤ length rest
long_enough n body rest e b = let m : length (take n rest) ≡ n = ap length (sym b) ∙ e in grind (arith, common_steps)
