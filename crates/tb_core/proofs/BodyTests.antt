-- The tests of a body that imports and corrections share.
use Rattle.std.proofs.Common.{ℕ, List, [], ◌∷◌, length, refl, ap, subst, arith, length-append}
use Rattle.tb_conllu.specs.Text.{BlockText}
use Rattle.tb_conllu.specs.Reported.{IsFile}
use Rattle.tb_rules.specs.File.{IsFaultAt}
use Rattle.tb_core.specs.declared.refusals.Refusal.{Refusal}
use Rattle.tb_core.specs.declared.refusals.Fault.{Fault}
use Rattle.tb_core.specs.declared.refusals.Fault.TheVariants.{Refused, Memory, Device, NotADesk, Output}
use Rattle.tb_core.specs.Machine.{Machine}
use Rattle.tb_core.specs.Commands.{refused, Ending, ending}
use Rattle.tb_core.specs.Tests.{◌otherwise◌, reported, passed, Refuses, IsUnread, IsBroken, IsEmpty}
use Rattle.tb_core.specs.Taking.{IsBody, IsBodyRefused, unread, broken, empty, IsTakingFault}
use Rattle.tb_core.proofs.Bodies.{Laws}

-- the three tests, and what comes after them
abbrev pub BodyThen : Machine → List ℕ → (Ending → Type 0) → Ending → Type 0
BodyThen s body rest = Refuses s (IsUnread body) otherwise Refuses s (IsBroken body) otherwise Refuses s (IsEmpty body) otherwise rest

-- a file is read
read_whole : Laws → (s : Machine) (body : List ℕ) (bs : List BlockText) → IsFile body bs → (d : Ending) → Refuses s (IsUnread body) d → ⊥
read_whole laws s body bs file d h = laws.no_file body h.1.0 h.1.1 h.1.2 bs file.shaped file.text

-- a file of valid sentences breaks no rule
none_broken : Laws → (s : Machine) (body : List ℕ) (bs : List BlockText) → IsBody body bs → (d : Ending) → Refuses s (IsBroken body) d → ⊥
none_broken laws s body bs good d h =
    laws.not_valid bs h.1.1 h.1.2 h.1.3 (subst (λ l. IsFaultAt l h.1.1 h.1.2 h.1.3) (laws.one_list body h.1.0 bs h.1.4 good.file) h.1.5) good.valid

-- nor does one of none
nothing_broken : Laws → (s : Machine) (body : List ℕ) → IsFile body [] → (d : Ending) → Refuses s (IsBroken body) d → ⊥
nothing_broken laws s body file d h =
    let none = ap length (laws.one_list body h.1.0 [] h.1.4 file) in
    let some = ap length h.1.5.whole in
    let size = length-append h.1.5.before (h.1.5.reported ∷ h.1.5.after) in
    absurd (omega (arith, none, some, size))

not_empty : Laws → (s : Machine) (body : List ℕ) (bs : List BlockText) → IsBody body bs → (d : Ending) → Refuses s (IsEmpty body) d → ⊥
not_empty laws s body bs good d h = let none = ap length (laws.one_list body bs [] good.file h.1.0) in let some = good.some in absurd (omega (arith, none, some))

-- a body that is refused stops the command
pub body_stops : Laws → (s : Machine) (body : List ℕ) (rest : Ending → Type 0) (r : Refusal) → IsBodyRefused body r → BodyThen s body rest (ending (refused r) s)
body_stops laws s body rest r (unread h) = reported (r, h, refl)
body_stops laws s body rest r (broken h) = passed (read_whole laws s body h.0 h.4) (reported (r, h, refl))
body_stops laws s body rest r (empty h) = passed (read_whole laws s body [] h.0) (passed (nothing_broken laws s body h.0) (reported (r, h, refl)))

-- one that is taken lets it go on
pub body_goes : Laws → (s : Machine) (body : List ℕ) (rest : Ending → Type 0) (bs : List BlockText) (e : Ending) → IsBody body bs → rest e → BodyThen s body rest e
body_goes laws s body rest bs e good h =
    passed (read_whole laws s body bs good.file) (passed (none_broken laws s body bs good) (passed (not_empty laws s body bs good) h))

-- what follows from each refusal follows from a fault of taking a body
pub taking_then : (p q : Refusal → Type 0) (e : Fault) → ((r : Refusal) → p r → q r) → IsTakingFault p e → IsTakingFault q e
taking_then p q (Refused r) f h = f r h
taking_then p q Memory f h = tt
taking_then p q Device f h = absurd h
taking_then p q NotADesk f h = absurd h
taking_then p q Output f h = absurd h
