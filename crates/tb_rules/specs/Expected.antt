-- Inner: no contract beyond this crate cites a definition of this module.
-- White space that is folded while characters come, and a text that is compared with them.
use Rattle.std.specs.Prelude.{◌≡◌, ◌↔◌, ℕ, List, [], ◌∷◌, ◌++◌, length, Bool, true, false}
use Rattle.std.specs.Prelude.{◌&&◌, not, ◌==◌, if◌then◌else◌, encode_utf8_all, Option, MatchOption}
use Rattle.std.specs.Char.{is_whitespace}
use Rattle.tb_rules.specs.declared.matching.Expected.{Expected}

-- What these characters add to a folded text. `begun` says whether a character came out before them, `gap` whether
-- white space came after it.
abbrev pub folded_after : Bool → Bool → List ℕ → List ℕ
folded_after begun gap [] = []
folded_after begun gap (c ∷ cs) =
    if is_whitespace c then folded_after begun true cs else
    if begun && gap then 32 ∷ c ∷ folded_after true false cs else
    c ∷ folded_after true false cs

-- a text that is being folded: what came out, whether white space came after it, and the characters to come
abbrev pub continued : List ℕ → Bool → List ℕ → List ℕ
continued out gap cs = out ++ encode_utf8_all (folded_after (not (length out == 0)) gap cs)

-- the space that represents white space between two characters
abbrev pub gap_text : Bool → Bool → List ℕ
gap_text begun gap = if begun && gap then 32 ∷ [] else []

-- The rest of the text is what these characters, the last to come, fold to.
abbrev pub IsRest : List ℕ → Bool → Bool → List ℕ → Type 0
IsRest rest begun gap cs = rest ≡ encode_utf8_all (folded_after begun gap cs)

-- With any characters after these, the rest is not what comes.
abbrev pub Refuses : List ℕ → Bool → Bool → List ℕ → Type 0
Refuses rest begun gap cs = (next : List ℕ) → ¬ (IsRest rest begun gap (cs ++ next))

-- After these characters, a shorter rest gives the same comparison.
abbrev pub Leaves : List ℕ → Bool → Bool → List ℕ → List ℕ → Bool → Bool → Type 0
Leaves rest begun gap cs rest' begun' gap' = (next : List ℕ) → IsRest rest' begun' gap' next
    ↔ IsRest rest begun gap (cs ++ next)

-- what is expected after these characters, or nothing where they cannot come
abbrev pub Takes : Expected → List ℕ → Option Expected → Type 0
Takes expected cs result =
    MatchOption result (Refuses expected.rest.now expected.begun expected.gap cs) (λ after.
    Leaves expected.rest.now expected.begun expected.gap cs after.rest.now after.begun after.gap)
