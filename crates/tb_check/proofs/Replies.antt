-- At most one reply is true of an input.
use Rattle.std.proofs.Common.{◌≡◌, ◌≤◌, ◌<◌, ◌⊎◌, inl, inr, ℕ, List, length, true, false, refl, sym, ◌∙◌, ap, subst, arith}
use Rattle.tb_conllu.specs.Text.{BlockText}
use Rattle.tb_conllu.specs.Reported.{IsFile, IsNoFile, IsReported}
use Rattle.tb_rules.specs.File.{IsValid, IsFaultAt}
use Rattle.tb_check.specs.Check.{IsReplyTo, tells_of_input, words_in}
use Rattle.tb_check.specs.declared.reply.CheckReply.{CheckReply}
use Rattle.tb_check.specs.declared.reply.CheckReply.TheVariants.{Counts, Read, Rule, Long, Memory, Device}

-- what the crates below promise
pub record Laws : Type 0 where
  pub one_list : (f : List ℕ) (bs cs : List BlockText) → IsFile f bs → IsFile f cs → bs ≡ cs
  pub no_file : (f : List ℕ) (line code : ℕ) → IsReported f line code → IsNoFile f
  pub one_reported : (f : List ℕ) (line code other_line other_code : ℕ) → IsReported f line code → IsReported f other_line other_code → (line ≡ other_line) × (code ≡ other_code)
  pub not_valid : (bs : List BlockText) (sentence rule row : ℕ) → IsFaultAt bs sentence rule row → IsValid bs → ⊥
  pub one_sentence : (bs : List BlockText) (sentence rule row other_sentence other_rule other_row : ℕ) → IsFaultAt bs sentence rule row
      → IsFaultAt bs other_sentence other_rule other_row → (sentence ≡ other_sentence) × (rule ≡ other_rule) × (row ≡ other_row)

too_long : (limit : ℕ) (input : List ℕ) → length input ≤ limit → limit < length input → ⊥
too_long limit input h k = omega (arith, h, k)

unread : Laws → (f : List ℕ) (line code : ℕ) (bs : List BlockText) → IsReported f line code → IsFile f bs → ⊥
unread laws f line code bs t h = laws.no_file f line code t bs h.shaped h.text

-- valid sentences and sentences at fault have no text in common
apart : Laws → (f : List ℕ) (bs cs : List BlockText) (sentence rule row : ℕ) → IsFile f bs → IsValid bs → IsFile f cs → IsFaultAt cs sentence rule row → ⊥
apart laws f bs cs sentence rule row h v k w =
    laws.not_valid cs sentence rule row w (subst IsValid (laws.one_list f bs cs h k) v)

same_counts : Laws → (limit : ℕ) (f : List ℕ) (s w t v : ℕ) → IsReplyTo limit f (Counts s w) → IsReplyTo limit f (Counts t v) → Counts s w ≡ Counts t v
same_counts laws limit f s w t v h k =
    let e = laws.one_list f h.1.0 k.1.0 h.1.1 k.1.1 in
    let sentences : s ≡ t = h.1.3 ∙ ap length e ∙ sym k.1.3 in
    let words : w ≡ v = h.1.4 ∙ ap words_in e ∙ sym k.1.4 in
    cc

same_line : Laws → (limit : ℕ) (f : List ℕ) (s w t v : ℕ) → IsReplyTo limit f (Read s w) → IsReplyTo limit f (Read t v) → Read s w ≡ Read t v
same_line laws limit f s w t v h k =
    let e = laws.one_reported f s w t v h.1 k.1 in
    let line : s ≡ t = e.0 in
    let code : w ≡ v = e.1 in
    cc

same_rule : Laws → (limit : ℕ) (f : List ℕ) (s r w t q v : ℕ) → IsReplyTo limit f (Rule s r w) → IsReplyTo limit f (Rule t q v) → Rule s r w ≡ Rule t q v
same_rule laws limit f s r w t q v h k =
    let e = laws.one_list f h.1.0 k.1.0 h.1.1 k.1.1 in
    let here = subst (λ l. IsFaultAt l s r w) e h.1.2 in
    let same = laws.one_sentence k.1.0 s r w t q v here k.1.2 in
    let sentence : s ≡ t = same.0 in
    let rule : r ≡ q = same.1 in
    let row : w ≡ v = same.2 in
    cc

silent : {X : Type 0} → false ≡ true → X
silent e = absurd (let d : false ≡ true = e in cc)

pub one_reply : Laws → (limit : ℕ) (input : List ℕ) (reply other : CheckReply) → tells_of_input reply ≡ true → tells_of_input other ≡ true → IsReplyTo limit input reply
    → IsReplyTo limit input other → reply ≡ other
one_reply laws limit f (Counts s w) (Counts t v) a b h k = same_counts laws limit f s w t v h k
one_reply laws limit f (Counts s w) (Read t v) a b h k = absurd (unread laws f t v h.1.0 k.1 h.1.1)
one_reply laws limit f (Counts s w) (Rule t q v) a b h k = absurd (apart laws f h.1.0 k.1.0 t q v h.1.1 h.1.2 k.1.1 k.1.2)
one_reply laws limit f (Counts s w) Long a b h k = absurd (too_long limit f h.0 k)
one_reply laws limit f (Read s w) (Counts t v) a b h k = absurd (unread laws f s w k.1.0 h.1 k.1.1)
one_reply laws limit f (Read s w) (Read t v) a b h k = same_line laws limit f s w t v h k
one_reply laws limit f (Read s w) (Rule t q v) a b h k = absurd (unread laws f s w k.1.0 h.1 k.1.1)
one_reply laws limit f (Read s w) Long a b h k = absurd (too_long limit f h.0 k)
one_reply laws limit f (Rule s r w) (Counts t v) a b h k = absurd (apart laws f k.1.0 h.1.0 s r w k.1.1 k.1.2 h.1.1 h.1.2)
one_reply laws limit f (Rule s r w) (Read t v) a b h k = absurd (unread laws f t v h.1.0 k.1 h.1.1)
one_reply laws limit f (Rule s r w) (Rule t q v) a b h k = same_rule laws limit f s r w t q v h k
one_reply laws limit f (Rule s r w) Long a b h k = absurd (too_long limit f h.0 k)
one_reply laws limit f Long (Counts t v) a b h k = absurd (too_long limit f k.0 h)
one_reply laws limit f Long (Read t v) a b h k = absurd (too_long limit f k.0 h)
one_reply laws limit f Long (Rule t q v) a b h k = absurd (too_long limit f k.0 h)
one_reply laws limit f Long Long a b h k = refl
one_reply laws limit f (Counts s w) Memory a b h k = silent b
one_reply laws limit f (Counts s w) Device a b h k = silent b
one_reply laws limit f (Read s w) Memory a b h k = silent b
one_reply laws limit f (Read s w) Device a b h k = silent b
one_reply laws limit f (Rule s r w) Memory a b h k = silent b
one_reply laws limit f (Rule s r w) Device a b h k = silent b
one_reply laws limit f Long Memory a b h k = silent b
one_reply laws limit f Long Device a b h k = silent b
one_reply laws limit f Memory other a b h k = silent a
one_reply laws limit f Device other a b h k = silent a

-- The reply to a file of valid sentences is their counts, or want of memory.
module _ (one : (limit : ℕ) (input : List ℕ) (reply other : CheckReply) → tells_of_input reply ≡ true → tells_of_input other ≡ true → IsReplyTo limit input reply → IsReplyTo limit input other → reply ≡ other) where
  pub counted_whole : (limit : ℕ) (input : List ℕ) (bs : List BlockText) (reply : CheckReply) → length input ≤ limit → IsFile input bs → IsValid bs → IsReplyTo limit input reply
      → (reply ≡ Counts (length bs) (words_in bs)) ⊎ (reply ≡ Memory)
  counted_whole limit input bs (Counts s w) few file valid h = inl (one limit input (Counts s w) (Counts (length bs) (words_in bs)) refl refl h (few, (bs, file, valid, refl, refl)))
  counted_whole limit input bs (Read s w) few file valid h = inl (one limit input (Read s w) (Counts (length bs) (words_in bs)) refl refl h (few, (bs, file, valid, refl, refl)))
  counted_whole limit input bs (Rule s r w) few file valid h = inl (one limit input (Rule s r w) (Counts (length bs) (words_in bs)) refl refl h (few, (bs, file, valid, refl, refl)))
  counted_whole limit input bs Long few file valid h = inl (one limit input Long (Counts (length bs) (words_in bs)) refl refl h (few, (bs, file, valid, refl, refl)))
  counted_whole limit input bs Memory few file valid h = inr refl
  counted_whole limit input bs Device few file valid h = absurd h
