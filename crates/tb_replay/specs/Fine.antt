-- Between crates: no contract of a front door cites a definition of this module.
-- What batches and sentences show without the moves.
use Rattle.std.specs.Prelude.{◌≡◌, true}
use Rattle.std.specs.List.{AllByRecursion}
use Rattle.tb_core.specs.Names.{is_name, AreApart}
use Rattle.tb_core.specs.Machine.{Batch, Machine}
use Rattle.tb_core.specs.Acts.{names_of, ids_of}
use Rattle.tb_core.specs.Keeping.{IsFine}

-- Batches have good names, and sentences have `sent_id`s, each unique. Each revision keeps the rules, with the
-- `sent_id` and the `text` of its sentence, and differs from the one before.
pub record AreFine (f : Machine) : Type 0 where
  pub named : AllByRecursion (λ (b : Batch). is_name b.name ≡ true) f.batches
  pub names : AreApart (names_of f.batches)
  pub ids : AreApart (ids_of f.sentences)
  pub sentences : AllByRecursion IsFine f.sentences
