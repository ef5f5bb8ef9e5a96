-- Lists of records: one replaced, one looked up, and tables that are equal part by part.
use Rattle.std.proofs.Common.{◌≡◌, ℕ, zero, suc, List, [], ◌∷◌, map, Some, None, refl, sym, ◌∙◌, ap, slice_get, slice_set}
use Rattle.std.proofs.lemmas.Option.{same_Some}
use Rattle.tb_core.specs.Machine.{change_at}
use Rattle.tb_tables.specs.Records.{Tables, Batch, Sentence, Revision, Total}

-- the record of the changed one in its place
pub set_changed : {X Y : Type 0} (g : X → Y) (f : X → X) (xs : List X) (i : ℕ) (x : X) (y : Y) → slice_get xs i ≡ Some x → y ≡ g (f x) → slice_set (map g xs) i y ≡ map g (change_at f xs i)
set_changed g f [] i x y e is = refl
set_changed g f (z ∷ zs) zero x y e is = ap (λ a. a ∷ map g zs) (is ∙ ap (λ a. g (f a)) (sym (same_Some z x e)))
set_changed g f (z ∷ zs) (suc i) x y e is = ap (λ l. g z ∷ l) (set_changed g f zs i x y e is)

-- what a record at a place is of
pub found_in : {X Y : Type 0} (g : X → Y) (xs : List X) (i : ℕ) (y : Y) → slice_get (map g xs) i ≡ Some y → (x : X) × (slice_get xs i ≡ Some x) × (y ≡ g x)
found_in g [] i y e = let d : None ≡ Some y = e in absurd (cc)
found_in g (z ∷ zs) zero y e = (z, refl, sym (same_Some (g z) y e))
found_in g (z ∷ zs) (suc i) y e = found_in g zs i y e

pub map_alike : {X Y : Type 0} (f g : X → Y) → ((x : X) → f x ≡ g x) → (xs : List X) → map f xs ≡ map g xs
map_alike f g h [] = refl
map_alike f g h (x ∷ xs) = ap (λ y. y ∷ map f xs) (h x) ∙ ap (λ l. g x ∷ l) (map_alike f g h xs)

pub tables_is : (d e : Tables) → d.batches ≡ e.batches → d.sentences ≡ e.sentences → d.revisions ≡ e.revisions → d.moves ≡ e.moves → d.totals ≡ e.totals → d.pulled ≡ e.pulled → d ≡ e
tables_is d e a b c m t p =
    ap (λ l. let w : Tables = record { batches = l; sentences = d.sentences; revisions = d.revisions; moves = d.moves; totals = d.totals; pulled = d.pulled } in w) a
    ∙ (ap (λ l. let w : Tables = record { batches = e.batches; sentences = l; revisions = d.revisions; moves = d.moves; totals = d.totals; pulled = d.pulled } in w) b
    ∙ (ap (λ l. let w : Tables = record { batches = e.batches; sentences = e.sentences; revisions = l; moves = d.moves; totals = d.totals; pulled = d.pulled } in w) c
    ∙ (ap (λ l. let w : Tables = record { batches = e.batches; sentences = e.sentences; revisions = e.revisions; moves = l; totals = d.totals; pulled = d.pulled } in w) m
    ∙ (ap (λ l. let w : Tables = record { batches = e.batches; sentences = e.sentences; revisions = e.revisions; moves = e.moves; totals = l; pulled = d.pulled } in w) t
    ∙ ap (λ l. let w : Tables = record { batches = e.batches; sentences = e.sentences; revisions = e.revisions; moves = e.moves; totals = e.totals; pulled = l } in w) p))))

pub batch_is : (a b : Batch) → a.name ≡ b.name → a.state ≡ b.state → a.worker ≡ b.worker → a ≡ b
batch_is a b p q r =
    ap (λ z. let w : Batch = record { name = z; state = a.state; worker = a.worker } in w) p
    ∙ (ap (λ z. let w : Batch = record { name = b.name; state = z; worker = a.worker } in w) q ∙ ap (λ z. let w : Batch = record { name = b.name; state = b.state; worker = z } in w) r)

pub sentence_is : (a b : Sentence) → a.sent_id ≡ b.sent_id → a.batch ≡ b.batch → a.rev ≡ b.rev → a.words ≡ b.words → a ≡ b
sentence_is a b p q r s =
    ap (λ z. let w : Sentence = record { sent_id = z; batch = a.batch; rev = a.rev; words = a.words } in w) p
    ∙ (ap (λ z. let w : Sentence = record { sent_id = b.sent_id; batch = z; rev = a.rev; words = a.words } in w) q
    ∙ (ap (λ z. let w : Sentence = record { sent_id = b.sent_id; batch = b.batch; rev = z; words = a.words } in w) r ∙ ap (λ z. let w : Sentence = record { sent_id = b.sent_id; batch = b.batch; rev = b.rev; words = z } in w) s))

pub revision_is : (a b : Revision) → a.sent ≡ b.sent → a.rev ≡ b.rev → a.who ≡ b.who → a.body ≡ b.body → a ≡ b
revision_is a b p q r s =
    ap (λ z. let w : Revision = record { sent = z; rev = a.rev; who = a.who; body = a.body } in w) p
    ∙ (ap (λ z. let w : Revision = record { sent = b.sent; rev = z; who = a.who; body = a.body } in w) q
    ∙ (ap (λ z. let w : Revision = record { sent = b.sent; rev = b.rev; who = z; body = a.body } in w) r ∙ ap (λ z. let w : Revision = record { sent = b.sent; rev = b.rev; who = b.who; body = z } in w) s))

pub total_is : (a b : Total) → a.sentences ≡ b.sentences → a.words ≡ b.words → a ≡ b
total_is a b p q = ap (λ z. let w : Total = record { sentences = z; words = a.words } in w) p ∙ ap (λ z. let w : Total = record { sentences = b.sentences; words = z } in w) q
