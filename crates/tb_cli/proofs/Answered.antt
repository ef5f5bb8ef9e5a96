-- The kind of an error of clap, and what a fault of a line says of words that clap accepts.
use Rattle.std.proofs.Common.{◌≡◌, ◌≢◌, ⊎_elim, inl, inr, [], Bool, true, Option, None, Result, Ok, Err, IfErr, subst, sym}
use Rattle.clap.specs.Words.{HasKind, IsAmong, Kinds, kind_of}
use Rattle.clap.specs.declared.error.Error.{Error}
use Rattle.clap.specs.declared.error.kind.ErrorKind.TheVariants as kind
use Rattle.tb_cli.specs.Fault.{AnswersAs, ComesOnly, IsFaultOf, IsToldAs}
use Rattle.tb_cli.specs.declared.lines.LineFault.{LineFault}
use Rattle.tb_cli.specs.declared.lines.LineFault.TheVariants.{Clap, Usage, Memory}

pub kind_answers : (kinds : Kinds) (e : Error) → HasKind kinds e → (kind_of e ≡ kind.OutOfMemory → ⊥) → IsAmong (kind_of e) kinds
kind_answers kinds e h not_memory = ⊎_elim (λ memory. absurd (not_memory memory)) (λ among. among) h

-- an error of clap comes only of words that its definition does not take, and want of memory comes of any
pub told_comes : {takes : Bool} (e : Error) (told : LineFault) → IsToldAs e told → (takes ≡ true → kind_of e ≡ kind.OutOfMemory) → ComesOnly told (takes ≢ true) ⊥
told_comes {takes} e told (inl memory) passes = subst (λ x. ComesOnly x (takes ≢ true) ⊥) (sym memory.1) tt
told_comes {takes} e told (inr other) passes = subst (λ x. ComesOnly x (takes ≢ true) ⊥) (sym other.1) (λ is. other.0 (passes is))

pub told_answers : (T : Type 0) (kinds : Kinds) (e : Error) (told : LineFault) → IsToldAs e told → HasKind kinds e → AnswersAs {T = T} kinds (Err told)
told_answers T kinds e told (inl memory) h = subst (λ x. AnswersAs {T = T} kinds (Err x)) (sym memory.1) tt
told_answers T kinds e told (inr other) h = subst (λ x. AnswersAs {T = T} kinds (Err x)) (sym other.1) (kind_answers kinds e h other.0)

pub fault_comes : {T A : Type 0} (found : Option A) (C : Type 0) (result : Result T LineFault) → IfErr result (IsFaultOf found) → IfErr result (λ e. ComesOnly e C (found ≡ None))
fault_comes found C (Ok x) h = tt
fault_comes found C (Err (Clap e)) h = absurd h
fault_comes found C (Err Usage) h = h
fault_comes found C (Err Memory) h = tt

pub fault_answers : {T A : Type 0} (found : Option A) (kinds : Kinds) (result : Result T LineFault) → kinds ≡ [] → IfErr result (IsFaultOf found) → AnswersAs kinds result
fault_answers found kinds (Ok x) none h = none
fault_answers found kinds (Err (Clap e)) none h = absurd h
fault_answers found kinds (Err Usage) none h = none
fault_answers found kinds (Err Memory) none h = tt
