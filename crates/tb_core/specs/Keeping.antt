-- What every reached state keeps, and what later states keep from earlier ones.
use Rattle.std.specs.Prelude.{◌≡◌, ℕ, ◌≤◌, List, [], ◌∷◌, ◌++◌, length, true}
use Rattle.std.specs.List.{AllByRecursion}
use Rattle.tb_conllu.specs.Text.{BlockText}
use Rattle.tb_core.specs.declared.kinds.State.TheVariants.{Opened, Withdrawn}
use Rattle.tb_core.specs.Moves.{MoveText}
use Rattle.tb_core.specs.Names.{is_name, AreApart}
use Rattle.tb_core.specs.Machine.{sent_id_of, text_value_of, IsLawful, Batch, Revision, Sentence, Machine, revisions}
use Rattle.tb_core.specs.Machine.{bodies_of}
use Rattle.tb_core.specs.Acts.{names_of, ids_of}

-- the sentence is in one of n batches
abbrev pub IsPlaced : ℕ → Sentence → Type 0
IsPlaced n x = (1 ≤ x.batch) × (x.batch ≤ n)

-- nobody works on a batch that is open or withdrawn
pub record IsIdle (b : Batch) : Type 0 where
  pub opened : b.state ≡ Opened → b.worker ≡ []
  pub withdrawn : b.state ≡ Withdrawn → b.worker ≡ []

-- Each revision of a sentence keeps the rules, with the same `sent_id` and `text`, and differs from the one before.
pub record IsFine (x : Sentence) : Type 0 where
  pub lawful : AllByRecursion IsLawful (bodies_of x)
  pub titled : AllByRecursion (λ (b : BlockText). sent_id_of b ≡ x.sent_id) (bodies_of x)
  pub spelled : AllByRecursion (λ (b : BlockText). text_value_of b ≡ text_value_of x.current.body) (bodies_of x)
  pub new : (before : List Revision) (r q : Revision) (more : List Revision)
      → revisions x ≡ before ++ r ∷ q ∷ more → q.body ≡ r.body → ⊥

pub record IsWell (s : Machine) : Type 0 where
  pub placed : AllByRecursion (IsPlaced (length s.batches)) s.sentences
  pub named : AllByRecursion (λ (b : Batch). is_name b.name ≡ true) s.batches
  pub names : AreApart (names_of s.batches)
  pub ids : AreApart (ids_of s.sentences)
  pub idle : AllByRecursion IsIdle s.batches
  pub fine : AllByRecursion IsFine s.sentences

-- ---- what is never lost

-- y is x in a later state: the same name and batch, and all its revisions, perhaps with more after them
pub record Continues (x y : Sentence) : Type 0 where
  pub sent_id : x.sent_id ≡ y.sent_id
  pub batch : x.batch ≡ y.batch
  pub more : List Revision
  pub revised : revisions y ≡ revisions x ++ more

-- each of these sentences in a later state, at its place
abbrev pub Continue : List Sentence → List Sentence → Type 0
Continue [] ys = Unit {0}
Continue (x ∷ xs) [] = ⊥
Continue (x ∷ xs) (y ∷ ys) = Continues x y × Continue xs ys

-- The second state has all that the first has.
pub record Extends (s t : Machine) : Type 0 where
  pub new_names : List (List ℕ)
  pub names : names_of t.batches ≡ names_of s.batches ++ new_names
  pub sentences : Continue s.sentences t.sentences
  pub new_moves : List MoveText
  pub moves : t.moves ≡ s.moves ++ new_moves
