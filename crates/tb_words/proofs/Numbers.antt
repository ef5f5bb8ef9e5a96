-- What `parse` reads of a number of a repetition.
use Rattle.std.proofs.Common.{◌≡◌, ℕ, ◌-◌, ◌^◌, List, Result, Ok, Err, inl, inr, ◌∙◌}
use Rattle.std.specs.Result.{result_unwrap_or}
use Rattle.std.specs.Str.Parse.{ParsesUnsigned, without_leading_plus}
use Rattle.tb_words.specs.QueryNumbers.{IsWritten}

pub written_number : {E : Type 0} (text : List ℕ) (read : Result ℕ E) (n : ℕ) → ParsesUnsigned 32 10 text read
    → n ≡ result_unwrap_or read (2 ^ 32 - 1) → IsWritten (without_leading_plus text) n
written_number text (Ok x) n parsed is = inl (parsed.0, is ∙ parsed.1)
written_number text (Err e) n parsed is = inr (parsed, is)
